-- What a change of the rules does by the log: a unit's packets go then where its route leads, and a plain move that handed it on is told.
use Rattle.proof_outlines.proofs.Words.{◌≡◌, ℕ, Bool, true, false, Option, Some, None, List, [], ◌∷◌, ◌++◌, refl, sym, ap, ◌∙◌, subst, arith, if◌then◌else◌}
use Rattle.proof_outlines.proofs.Words.{◌&&◌, ◌||◌, ◌==◌, nat_tests, or-true, Filter, Semantics, takes, stored_of, MovePlan, Operation, Move, Copy, Share}
use Rattle.proof_outlines.proofs.Words.{ControllerState, place_of, Note, instance_node, Open, find_op, sw_target, OpenShare, ShareMsg, share_target}
use Rattle.proof_outlines.proofs.Words.{installs_in, owner_after_order, hands_on_plain, installed-append, Unit, Target, Order, MoveMsg}
use Rattle.std.specs.FinMap as finite
use Rattle.proof_machines.proofs.unit.Real as real
use Rattle.proof_machines.proofs.net.Net as net
use Rattle.proof_outlines.proofs.joined.Words.{Sees, is_whole, unit_fits, takes_same, takes_whole, Given, place, IsPlan, IsInstall, IsDivert, owner_by}
use Rattle.proof_outlines.proofs.joined.Words.{loose_by, diverts, is_diverted, target_by, but_shares, IsController, S, A}
use Rattle.proof_outlines.proofs.joined.OwnerLemmas.{owner_after-append, loose_after-append}
use Rattle.proof_outlines.proofs.joined.LogLemmas.{diverted_after-append}

-- a change of the rules more
module _ (g : Given) (u : Unit) (log : List Note) (op : ℕ) where
  pub owner_next : owner_by g u (installs_in (log ++ Note.Installed op ∷ []))
      ≡ owner_after_order g.names g.orders u (g.orders op) (owner_by g u (installs_in log))
  owner_next = ap (owner_by g u) (installed-append log (Note.Installed op ∷ [])) ∙ owner_after-append g.names g.orders u (g.first u) (installs_in log) (op ∷ [])

  loose_next : loose_by g u (installs_in (log ++ Note.Installed op ∷ []))
      ≡ loose_by g u (installs_in log) || (hands_on_plain g.names g.orders u (g.orders op) (owner_by g u (installs_in log)) || false)
  loose_next = ap (loose_by g u) (installed-append log (Note.Installed op ∷ [])) ∙ loose_after-append g.names g.orders u (g.first u) (installs_in log) (op ∷ [])

  pub diverted_next : is_diverted g u (installs_in (log ++ Note.Installed op ∷ []))
      ≡ is_diverted g u (installs_in log) || (diverts g u (g.orders op) (owner_by g u (installs_in log)) || false)
  diverted_next = ap (is_diverted g u) (installed-append log (Note.Installed op ∷ [])) ∙ diverted_after-append g u (g.first u) (installs_in log) (op ∷ [])

  pub loose_stays : loose_by g u (installs_in log) ≡ true → loose_by g u (installs_in (log ++ Note.Installed op ∷ [])) ≡ true
  loose_stays e = loose_next ∙ ap (λ b. b || (hands_on_plain g.names g.orders u (g.orders op) (owner_by g u (installs_in log)) || false)) e

  pub loose_begins : hands_on_plain g.names g.orders u (g.orders op) (owner_by g u (installs_in log)) ≡ true
      → loose_by g u (installs_in (log ++ Note.Installed op ∷ [])) ≡ true
  loose_begins e = loose_next ∙ ap (λ b. loose_by g u (installs_in log) || (b || false)) e ∙ or-true (loose_by g u (installs_in log))

  -- where its packets go then
  pub target_next : target_by g u (installs_in (log ++ Note.Installed op ∷ []))
      ≡ (if is_diverted g u (installs_in log) || (diverts g u (g.orders op) (owner_by g u (installs_in log)) || false) then 1
      else instance_node (owner_after_order g.names g.orders u (g.orders op) (owner_by g u (installs_in log))))
  target_next = ap (λ b. if b then 1 else instance_node (owner_by g u (installs_in (log ++ Note.Installed op ∷ [])))) diverted_next
      ∙ ap (λ i. if is_diverted g u (installs_in log) || (diverts g u (g.orders op) (owner_by g u (installs_in log)) || false) then 1 else instance_node i)
      owner_next

-- packets that go to an instance: the unit isn't diverted, and that instance owns it
pub owner_at : (g : Given) (u : Unit) (ops : List ℕ) (i : ℕ) → target_by g u ops ≡ instance_node i → owner_by g u ops ≡ i
owner_at g u ops i = by_test (is_diverted g u ops)
  where
    by_test : (b : Bool) → (if b then 1 else instance_node (owner_by g u ops)) ≡ instance_node i → owner_by g u ops ≡ i
    by_test true e = absurd (omega (arith, e))
    by_test false e = omega (arith, e)

same_keep : {a b c d : List ℕ} {p q : Filter} {k l : Bool} → Some (Order.Move a b p k) ≡ Some (Order.Move c d q l) → k ≡ l
same_keep e = cc

-- A target that a change of the rules leaves: by whether a share has the unit, and who owns it.
module _ (from i : ℕ) where
  same_owner : (instance_node i == instance_node from) ≡ (i == from)
  same_owner = grind (arith, nat_tests)

  moved_target : (d taken : Bool) (dst : ℕ) → (if taken && ((if d then 1 else instance_node i) == instance_node from) then instance_node dst
      else (if d then 1 else instance_node i)) ≡ (if d || false then 1 else instance_node (if taken && (i == from) then dst else i))
  moved_target true taken dst = let off : (1 == instance_node from) ≡ false = grind (arith, nat_tests) in rw off (none taken)
    where
      none : (b : Bool) → (if b && false then instance_node dst else 1) ≡ 1
      none true = refl
      none false = refl
  moved_target false taken dst = rw same_owner (by_test (taken && (i == from)))
    where
      by_test : (b : Bool) → (if b then instance_node dst else instance_node i) ≡ instance_node (if b then dst else i)
      by_test true = refl
      by_test false = refl

  diverted_target : (d taken : Bool) → (if taken && ((if d then 1 else instance_node i) == instance_node from) then 1
      else (if d then 1 else instance_node i)) ≡ (if d || ((taken && (i == from)) || false) then 1 else instance_node i)
  diverted_target true taken = same_both (taken && (1 == instance_node from))
    where
      same_both : (b : Bool) → ◌≡◌ {A = ℕ} (if b then 1 else 1) 1
      same_both true = refl
      same_both false = refl
  diverted_target false taken = rw same_owner (by_test (taken && (i == from)))
    where
      by_test : (b : Bool) → (if b then 1 else instance_node i) ≡ (if b || false then 1 else instance_node i)
      by_test true = refl
      by_test false = refl

module _ {R : Type 0} (f : Semantics R) (g : Given) where
  -- the order of a change of the rules is a move between its two instances
  module _ (op : ℕ) (filter : Filter) (from dst : ℕ) (h : IsInstall g op (record { filter = filter; from = from; to = Target.Instance dst })) where
    order_is : g.orders op ≡ Some (Order.Move h.plan_is.source h.plan_is.destination filter h.plan.keep)
    order_is = h.plan_is.order_is ∙ ap (λ k. Some (Order.Move h.plan_is.source h.plan_is.destination k h.plan.keep)) h.filter_is

    source_is : place_of g.names h.plan_is.source ≡ Some from
    source_is = h.plan_is.from_is ∙ ap Some h.from_is

    destination_is : place_of g.names h.plan_is.destination ≡ Some dst
    destination_is = let to_is = h.to_is in let same : h.plan.to ≡ dst = cc in h.plan_is.to_is ∙ ap Some same

    -- where a unit's packets go after it is where its route then leads
    pub handed : (to : Unit → ℕ) (u : Unit) → unit_fits f.kind u ≡ true → (log : List Note) → is_whole f.kind filter ≡ true
        → to u ≡ target_by g u (installs_in log) → sw_target (S f g) to (net.Of_move filter (MoveMsg.Install op (instance_node from) (instance_node dst))) u
        ≡ target_by g u (installs_in (log ++ Note.Installed op ∷ []))
    handed to u fits log whole at =
        let i : ℕ = owner_by g u (installs_in log) in
        let d : Bool = is_diverted g u (installs_in log) in
        let what = order_is in let source = source_is in let destination = destination_is in
        let taken = takes_same f.kind filter u whole fits in
        let after : (if d || (diverts g u (g.orders op) i || false) then 1 else instance_node (owner_after_order g.names g.orders u (g.orders op) i))
        ≡ (if d || false then 1 else instance_node (if takes filter u && (i == from) then dst else i)) =
        rw (what, source, destination) refl in
        ap (λ t. if takes_whole f.kind filter u && (t == instance_node from) then instance_node dst else t) at
        ∙ ap (λ b. if b && (target_by g u (installs_in log) == instance_node from) then instance_node dst else target_by g u (installs_in log)) taken
        ∙ moved_target from i d (takes filter u) dst
        ∙ sym (target_next g u log op ∙ after)

    -- and a plain one hands on what it takes from its source
    pub plain_hands : (u : Unit) (i : ℕ) → takes filter u ≡ true → i ≡ from → h.plan.keep ≡ false
        → hands_on_plain g.names g.orders u (g.orders op) i ≡ true
    plain_hands u i taken at plain =
        let what = order_is in let source = source_is in
        let on : (i == from) ≡ true = grind (arith, nat_tests, at) in
        rw (what, source, taken, plain, on) refl

  -- a share takes a unit's packets from its home
  pub handed_to_share : (op : ℕ) (filter : Filter) (from : ℕ) → IsDivert g op filter from → (to : Unit → ℕ) (u : Unit)
      → unit_fits f.kind u ≡ true → (log : List Note) → is_whole f.kind filter ≡ true → to u ≡ target_by g u (installs_in log)
      → share_target (S f g) (A f g) to (ShareMsg.Install op filter (instance_node from)) u ≡ target_by g u (installs_in (log ++ Note.Installed op ∷ []))
  handed_to_share op filter from h to u fits log whole at =
      let i : ℕ = owner_by g u (installs_in log) in
      let d : Bool = is_diverted g u (installs_in log) in
      let what = h.order_is in let home = h.home_is in
      let taken = takes_same f.kind filter u whole fits in
      let after : (if d || (diverts g u (g.orders op) i || false) then 1 else instance_node (owner_after_order g.names g.orders u (g.orders op) i))
      ≡ (if d || ((takes filter u && (i == from)) || false) then 1 else instance_node i) =
      rw (what, home) refl in
      ap (λ t. if takes_whole f.kind filter u && (t == instance_node from) then 1 else t) at
      ∙ ap (λ b. if b && (target_by g u (installs_in log) == instance_node from) then 1 else target_by g u (installs_in log)) taken
      ∙ diverted_target from i d (takes filter u)
      ∙ sym (target_next g u log op ∙ after)

  -- an open move is plain where its order is
  pub plain_is : (c : ControllerState) (ops : List (Open R)) (shares : List OpenShare) (next : ℕ) → IsController f g c ops shares next
      → (op : ℕ) (e : Open R) → find_op ops op ≡ Some e → e.op.keep ≡ false → (plan : MovePlan) → IsPlan g op plan → plan.keep ≡ false
  plain_is c ops shares next is op e there plain plan its = by_got (finite.get c.operations op) refl
      (subst (λ o. Sees f (place g) o (but_shares (finite.get c.operations op)) (stored_of c.store op)) there (is.opens op).move)
    where
      by_got : (o : Option Operation) → finite.get c.operations op ≡ o → Sees f (place g) (Some e) (but_shares o) (stored_of c.store op) → plan.keep ≡ false
      by_got None got sees = absurd sees
      by_got (Some (Copy y)) got sees = absurd sees
      by_got (Some (Share s)) got sees = absurd sees
      by_got (Some (Move m)) got sees =
          let move = is.moves op m got in
          let same : g.orders op ≡ Some (Order.Move move.plan.source move.plan.destination m.plan.filter m.plan.keep) = ap g.orders (sym move.op_is)
          ∙ move.plan.order_is in
          same_keep (sym its.order_is ∙ same) ∙ ap (λ o. o.keep) (sym sees.op) ∙ plain
