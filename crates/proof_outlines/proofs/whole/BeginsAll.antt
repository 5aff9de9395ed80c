-- The controller after a begin of a share, a move or a copy is that of the network with shares.
use Rattle.proof_machines.proofs.NumberedLists.{find-append_own}
use Rattle.proof_outlines.proofs.Words.{◌≡◌, ℕ, false, cond, Option, Some, None, List, [], ◌∷◌, ◌++◌, map, refl, sym, ap, ◌∙◌, subst, arith, ◌==◌, filter_map}
use Rattle.proof_outlines.proofs.Words.{self, Filter, Packet, Site, Semantics, stored_of, instance_node, MovePlan, move_at_start, CopyPlan, SharePlan}
use Rattle.proof_outlines.proofs.Words.{Operation, Move, Copy, Share, ControllerState, move_begin, copy_begin, share_begin, begin_step, place_of, Open}
use Rattle.proof_outlines.proofs.Words.{MoveAsked, find_op, new_op, begin_sends, find_old, find_new, Any, New, ShareAsked, ShareMsg, OpenShare, find_share}
use Rattle.proof_outlines.proofs.Words.{new_share, as_old, Order}
use Rattle.std.specs.FinMap as finite
use Rattle.copy_share.specs.Copy as copy
use Rattle.copy_share.specs.Share as share
use Rattle.proof_machines.proofs.net.GlobalShares.{ops_old}
use Rattle.proof_outlines.proofs.outline.OperationTables.{got_insert}
use Rattle.proof_outlines.proofs.whole.WholeOutline.{members_of, share_between, want_share_of, outline_all}
use Rattle.proof_outlines.proofs.whole.AskedShare.{is_more}
use Rattle.proof_outlines.proofs.whole.ShareOutline.{SeesShare}
use Rattle.proof_outlines.proofs.whole.OpenShares.{turned_test, Table, SeesAny, OpensAll, opens_at, unseen_at, no_op, no_open_share, StepFollows}

-- the members of a share are those whose names are known
pub members_real : (place : List ℕ → Option ℕ) (names : List (List ℕ)) (nodes : List ℕ) → members_of place names ≡ Some nodes
    → nodes ≡ map instance_node (filter_map place names)
members_real place [] nodes e = let same : [] ≡ nodes = cc in sym same
members_real place (name ∷ names) nodes e =
    let m = is_more place name names nodes e in
    let rest = members_real place names m.others m.rest in
    m.nodes_are ∙ ap (λ xs. instance_node m.instance ∷ xs) rest ∙ (rw m.placed refl)

-- what a copy asks for, as the network with shares sees it
abbrev pub copy_sends : {R : Type 0} → ℕ → ℕ → Option Filter → List (ℕ × Any R)
copy_sends op source None = []
copy_sends op source (Some filter) = (source, New (ShareMsg.Get op filter)) ∷ []

module _ {R : Type 0} (f : Semantics R) (at : Site) (packet : ℕ → Packet) (place : List ℕ → Option ℕ) (c : ControllerState)
    (ops : List (Open R)) (shares : List OpenShare) (h : OpensAll f place at ops shares c) (n : ℕ) (none : finite.get c.operations n ≡ None)
    (empty : stored_of c.store n ≡ []) where
  abbrev table : Table R
  table = record { ops = ops; shares = shares; node = c }

  abbrev with_one : Operation → ControllerState
  with_one o = record c { operations = finite.insert c.operations n o }

  seen_none : SeesAny f place at (find_op ops n) (find_share shares n) None (stored_of c.store n)
  seen_none = subst (λ p. SeesAny f place at (find_op ops n) (find_share shares n) p (stored_of c.store n)) none (h n)

  none_open : find_op ops n ≡ None
  none_open = no_op f place at (find_op ops n) (find_share shares n) None (stored_of c.store n) tt seen_none

  none_shared : find_share shares n ≡ None
  none_shared = no_open_share f place at (find_op ops n) (find_share shares n) None (stored_of c.store n) refl seen_none

  got_at : (o : Operation) → finite.get (with_one o).operations n ≡ Some o
  got_at o = got_insert c.operations n n o ∙ ap (λ b. cond b (Some o) (finite.get c.operations n)) (self n)

  -- an operation more
  begun_opens : (o : Operation) (new : List (Open R)) (others : List OpenShare) → ((k : ℕ) → (k == n) ≡ false → find_op new k ≡ find_op ops k)
      → ((k : ℕ) → (k == n) ≡ false → find_share others k ≡ find_share shares k) → SeesAny f place at (find_op new n) (find_share others n) (Some o) []
      → OpensAll f place at new others (with_one o)
  begun_opens o new others moves more own = opens_at f place at n table (record { ops = new; shares = others; node = with_one o })
      (record {
        ops = moves;
        shares = more;
        operations = λ k off. got_insert c.operations n k o ∙ ap (λ b. cond b (Some o) (finite.get c.operations k)) off;
        store = λ k off. refl;
      })
      (subst (λ p. SeesAny f place at (find_op new n) (find_share others n) p (stored_of c.store n)) (sym (got_at o))
      (subst (SeesAny f place at (find_op new n) (find_share others n) (Some o)) (sym empty) own))
      h

  -- what is wanted of a move with this plan
  abbrev pub want_plan : MovePlan → MoveAsked
  want_plan plan = record { num = plan.op; src = instance_node plan.from; dst = instance_node plan.to; keep = plan.keep; filter = plan.filter }

  abbrev moved_on : MovePlan → List (Open R)
  moved_on plan = ops ++ new_op plan.op (want_plan plan) ∷ []

  move_seen : (plan : MovePlan) → plan.op ≡ n → SeesAny f place at (find_op (moved_on plan) n) (find_share shares n) (Some (Move (move_at_start plan))) []
  move_seen plan op =
      subst (λ o. SeesAny f place at o (find_share shares n) (Some (Move (move_at_start plan))) [])
      (sym (find-append_own _ n (new_op plan.op (want_plan plan)) ops (ap (λ j. j == n) op ∙ self n) none_open))
      (subst (λ o. SeesAny f place at (Some (new_op plan.op (want_plan plan))) o (Some (Move (move_at_start plan))) []) (sym none_shared)
      (record { move = record { op = refl; filter = refl; phase = refl; store = refl }; share = tt }))

  -- A move begins.
  pub move_begun : (plan : MovePlan) → plan.op ≡ n → StepFollows f at packet place (move_begin c plan)
      (record { ops = ops ++ new_op plan.op (want_plan plan) ∷ []; shares = shares; sends = as_old (begin_sends plan.op (want_plan plan)) })
  move_begun plan op = record {
    opens = subst (λ k. OpensAll f place at (moved_on plan) shares (record c { operations = finite.insert c.operations k (Move (move_at_start plan)) }))
        (sym op) (begun_opens (Move (move_at_start plan)) (moved_on plan) shares
        (λ k off. ops_old ops (new_op plan.op (want_plan plan)) k (ap (λ j. j == k) op ∙ turned_test k n off)) (λ k off. refl) (move_seen plan op));
    sends = refl;
  }

  copy_sent : (plan : CopyPlan) (o : Option Filter)
      → outline_all f place ((instance_node plan.from, copy.asks plan.op o) ∷ []) ≡ copy_sends plan.op (instance_node plan.from) o
  copy_sent plan None = refl
  copy_sent plan (Some filter) = refl

  -- A copy begins.
  pub copy_begun : (plan : CopyPlan) → plan.op ≡ n → StepFollows f at packet place (copy_begin c plan)
      (record { ops = ops; shares = shares; sends = copy_sends plan.op (instance_node plan.from) plan.filter })
  copy_begun plan op = record {
    opens = subst (λ k. OpensAll f place at ops shares (record c { operations = finite.insert c.operations k (Copy (copy.copy_at_start plan)) })) (sym op)
        (begun_opens (Copy (copy.copy_at_start plan)) ops shares (λ k off. refl) (λ k off. refl)
        (unseen_at f place at (find_op ops n) (find_share shares n) None (Some (Copy (copy.copy_at_start plan))) (stored_of c.store n) [] tt tt seen_none));
    sends = copy_sent plan plan.filter;
  }

  -- what is wanted of a share of these members
  abbrev want_between : Filter → ℕ → List ℕ → ShareAsked
  want_between filter home others = record { num = n; home = instance_node home; members = instance_node home ∷ map instance_node others; filter = filter }

  abbrev plan_between : Filter → ℕ → List ℕ → SharePlan
  plan_between filter home others = record { op = n; members = home ∷ others; filter = filter; site = c.site }

  abbrev shared_on : ShareAsked → List OpenShare
  shared_on want = shares ++ new_share want ∷ []

  -- the step that begins a share of these members, for one that is wanted
  abbrev Begun : Filter → List ℕ → ShareAsked → Type 0
  Begun filter members want = StepFollows f at packet place (share_begin c n filter members)
      (record { ops = ops; shares = shared_on want; sends = (0, New (ShareMsg.Install want.num want.filter want.home)) ∷ [] })

  share_seen : (filter : Filter) (home : ℕ) (others : List ℕ) → c.site ≡ at → SeesAny f place at (find_op ops n)
      (find_share (shared_on (want_between filter home others)) n) (Some (Share (share.share_at_start (plan_between filter home others)))) []
  share_seen filter home others site =
      let one : OpenShare = new_share (want_between filter home others) in
      let its : Option Operation = Some (Share (share.share_at_start (plan_between filter home others))) in
      let sees : SeesShare at one (share.share_at_start (plan_between filter home others)) [] =
      record { is = refl; site = site; some = omega arith; rests = tt } in
      subst (λ o. SeesAny f place at o (find_share (shared_on (want_between filter home others)) n) its []) (sym none_open)
      (subst (λ o. SeesAny f place at None o its []) (sym (find_new shares one n none_shared (self n)))
      (record { move = tt; share = sees }))

  between : (filter : Filter) (home : ℕ) (others : List ℕ) → c.site ≡ at → Begun filter (home ∷ others) (want_between filter home others)
  between filter home others site = record {
    opens = begun_opens (Share (share.share_at_start (plan_between filter home others))) ops (shared_on (want_between filter home others)) (λ k off. refl)
        (λ k off. find_old shares (new_share (want_between filter home others)) k (turned_test k n off)) (share_seen filter home others site);
    sends = refl;
  }

  by_members : (filter : Filter) (want : ShareAsked) (members : List ℕ) → c.site ≡ at → share_between n filter (Some (map instance_node members)) ≡ Some want
      → Begun filter members want
  by_members filter want [] site e = cc
  by_members filter want (home ∷ others) site e =
      let same : want_between filter home others ≡ want = cc in subst (Begun filter (home ∷ others)) same (between filter home others site)

  -- A share begins.
  pub share_begun : (names : List (List ℕ)) (filter : Filter) (want : ShareAsked) → place_of c.names ≡ place → c.site ≡ at
      → want_share_of place n (Order.Share names filter) ≡ Some want → StepFollows f at packet place (begin_step c n (Order.Share names filter))
      (record { ops = ops; shares = shares ++ new_share want ∷ []; sends = (0, New (ShareMsg.Install want.num want.filter want.home)) ∷ [] })
  share_begun names filter want placed site is = by_nodes (members_of place names) refl is
    where
      by_nodes : (o : Option (List ℕ)) → members_of place names ≡ o → share_between n filter o ≡ Some want
          → Begun filter (filter_map (place_of c.names) names) want
      by_nodes None e w = cc
      by_nodes (Some nodes) e w =
          subst (λ p. Begun filter (filter_map p names) want) (sym placed)
          (by_members filter want (filter_map place names) site (sym (ap (λ xs. share_between n filter (Some xs)) (members_real place names nodes e)) ∙ w))
