-- As long as a move hasn't changed the rules, a unit that it takes from its source stays with the source: what each node's step keeps of it.
use Rattle.nf_net.proofs.Words.{◌≡◌, ◌≢◌, ℕ, suc, true, false, Option, Some, None, List, [], ◌∷◌, ◌++◌, append_assoc, refl, sym, ap, ◌∙◌, subst, arith, ◌&&◌}
use Rattle.nf_net.proofs.Words.{◌||◌, ◌==◌, filter_map, nat_tests, or-true, Filter, Output, Semantics, takes, stored_of, same_unit, same_unit_equiv, Msg, Note}
use Rattle.nf_net.proofs.Words.{instance_node, Phase, MoveState, Move, InstanceState, instance_step, Network, queue_at, Each, each-append, behind_nil, Open}
use Rattle.nf_net.proofs.Words.{find_op, none_mine, where_two, Any, New, ShareMsg, olds, moves_of, member_step, seeing, Where, head_none, Config, Node}
use Rattle.nf_net.proofs.Words.{is_begun, order_numbered, installs_in, owner, owner_after, first_owner, unit_numbered, has_begun-append, Sees, is_whole}
use Rattle.nf_net.proofs.Words.{unit_fits, takes_whole, takes_same, Given, place, S, A, Scene, IsTaken, IsInstanceAt, Joined, came_by, outline_phase, ran_in}
use Rattle.nf_net.proofs.Words.{is_sys, installed_same, installed_quiet, Stands, In_first, In_second, stands, IsQuiet, instance_quiet, AreUnprocessed, RanAs}
use Rattle.nf_net.proofs.Words.{Seen, Unseen, ran_as, ran_any, given, all_fit, but_shares, move_apart, WhereAll, Apart_from_shares, Under_share, Unit, Answer}
use Rattle.nf_net.proofs.Words.{Setting, MoveMsg}
use Rattle.std.specs.FinMap as finite
use Rattle.std.proofs.lemmas.List.{append_cancel_left}
use Rattle.move_op.specs.Phases as phase
use Rattle.actor_net.proofs.EnabledChoices.{at as at_node}
use Rattle.proof_machines.proofs.unit.Real as real
use Rattle.proof_machines.proofs.net.Net as net
use Rattle.proof_machines.proofs.net.Shares.{Old}
use Rattle.proof_machines.proofs.net.Sources.{is_early_real, at_source, untaken}
use Rattle.proof_outlines.proofs.outline.ControlOutline.{SeesMove}
use Rattle.nf_net.proofs.RunWords.{passed, RanThere, ran_there}
use Rattle.proof_machines.proofs.whole.UnderMoves.{not_taken}
use Rattle.nf_net.proofs.MembersServed.{mine_there, unseen_ran}
use Rattle.nf_net.proofs.UnitShares.{owner_goes}

-- a fact of each element, by where it stands
each_by : {X : Type 0} (P : X → Type 0) (front xs whole : List X) → whole ≡ front ++ xs
    → ((before after : List X) (x : X) → whole ≡ before ++ x ∷ after → P x) → Each P xs
each_by P front [] whole e all = tt
each_by P front (x ∷ xs) whole e all = (all front xs x e, each_by P (front ++ x ∷ []) xs whole (e ∙ sym (append_assoc front (x ∷ []) xs)) all)

pub began_there : (op : ℕ) (front back : List Note) → is_begun op (front ++ Note.Begun op ∷ back) ≡ true
began_there op front back =
    let self : (op == op) ≡ true = grind (arith, nat_tests) in
    has_begun-append (λ k. k == op) front (Note.Begun op ∷ back) ∙ ap (λ b. is_begun op front || (b || is_begun op back)) self ∙ or-true (is_begun op front)

-- a phase before the change of the rules, as the proof of moves sees it
early_outline : {R : Type 0} (f : Semantics R) (place : List ℕ → Option ℕ) (ph : Phase) → passed ph ≡ 0 → is_early_real (outline_phase f place ph) ≡ true
early_outline f place phase.Passing e = cc
early_outline f place phase.Ending e = cc
early_outline f place (phase.Over Answer.Done) e = cc
early_outline f place ph e = refl

module _ {R : Type 0} (f : Semantics R) (c : Config) (items : List Msg) where
  -- a packet of the unit was processed at the instance
  abbrev pub Is_at : Unit → ℕ → Note → Type 0
  Is_at u i (Note.Processed number k output) = unit_numbered c items f.kind number ≡ u → k ≡ i
  Is_at u i n = Prim.Unit {0}

  abbrev pub AreAt : Unit → ℕ → List Note → Type 0
  AreAt u i notes = Each (Is_at u i) notes

  pub unprocessed_at : (u : Unit) (i : ℕ) (notes : List Note) → AreUnprocessed notes → AreAt u i notes
  unprocessed_at u i [] h = tt
  unprocessed_at u i (Note.Processed number k output ∷ ns) h = let never = h.0 in cc
  unprocessed_at u i (n ∷ ns) h = (tt, unprocessed_at u i ns h.1)

  -- since a command began, each unit that its filter takes and that this instance owned then is still the instance's
  abbrev pub Stays : ℕ → Filter → ℕ → List Note → Type 0
  Stays op filter i log = (first rest : List Note) (u : Unit) → log ≡ first ++ Note.Begun op ∷ rest → unit_fits f.kind u ≡ true
      → takes filter u ≡ true → owner c items u first ≡ i → (owner c items u log ≡ i) × AreAt u i rest

  -- notes that leave such units there
  abbrev pub Leaves : Filter → ℕ → List Note → List Note → Type 0
  Leaves filter i log notes = (u : Unit) → unit_fits f.kind u ≡ true → takes filter u ≡ true → owner c items u log ≡ i
      → (owner c items u (log ++ notes) ≡ i) × AreAt u i notes

  pub stays_more : (op : ℕ) (filter : Filter) (i : ℕ) (log notes : List Note) → Stays op filter i log → is_begun op notes ≡ false
      → Leaves filter i log notes → Stays op filter i (log ++ notes)
  stays_more op filter i log notes h none leaves first rest u e fits taken owned = by_place (stands log notes first (Note.Begun op) rest e)
    where
      by_place : Stands log notes (record { before = first; item = Note.Begun op; after = rest }) → (owner c items u (log ++ notes) ≡ i) × AreAt u i rest
      by_place (In_first cs here) =
          let old = h first cs u here fits taken owned in
          let new = leaves u fits taken old.0 in
          let both : first ++ (Note.Begun op ∷ (cs ++ notes)) ≡ first ++ (Note.Begun op ∷ rest) =
          sym (ap (λ l. l ++ notes) here ∙ append_assoc first (Note.Begun op ∷ cs) notes) ∙ e in
          let tail = append_cancel_left first (Note.Begun op ∷ (cs ++ notes)) (Note.Begun op ∷ rest) both in
          let same : cs ++ notes ≡ rest = cc in
          (new.0, subst (λ ns. AreAt u i ns) same (each-append (Is_at u i) cs notes old.1 new.1))
      by_place (In_second cs from there) = let never : true ≡ false = sym (began_there op cs rest) ∙ ap (is_begun op) (sym there) ∙ none in cc

  -- notes of no change of the rules leave the owner
  pub owner_stays : (u : Unit) (log notes : List Note) → installs_in notes ≡ [] → owner c items u (log ++ notes) ≡ owner c items u log
  owner_stays u log notes none = ap (owner_after c.names (order_numbered items) u (first_owner u c.routes)) (installed_same log notes none)

  pub quiet_leaves : (filter : Filter) (i : ℕ) (log notes : List Note) → installs_in notes ≡ [] → AreUnprocessed notes → Leaves filter i log notes
  quiet_leaves filter i log notes same none u fits taken owned = (owner_stays u log notes same ∙ owned, unprocessed_at u i notes none)

module _ {F R : Type 0} (setting : Setting F R) (n : ℕ) (w : Network (Node F R) Msg Note) (j : Joined setting.function (given setting) n w) where
  open setting use {function as f, laws, config as c, items}

  abbrev g : Given
  g = given setting

  abbrev scene : Scene F f g
  scene = record { nodes = j.nodes; world = j.world; log = w.log; input = queue_at w (at_node 0 0) }

  module _ (op : ℕ) (m : MoveState) (there : finite.get j.nodes.controller.operations op ≡ Some (Move m)) (early : passed m.phase ≡ 0) where
    -- the move, as the proof of moves sees it
    record Is_open : Type 0 where
      e : Open R
      found : find_op j.world.ops op ≡ Some e
      sees : SeesMove f (place g) e m (stored_of j.nodes.controller.store op)

    is_open : Is_open
    is_open = by_found (find_op j.world.ops op) refl (subst
        (λ o. Sees f (place g) (find_op j.world.ops op) (but_shares o) (stored_of j.nodes.controller.store op)) there (j.shown_is.controller.opens op).move)
      where
        by_found : (o : Option (Open R)) → find_op j.world.ops op ≡ o → Sees f (place g) o (Some (Move m)) (stored_of j.nodes.controller.store op) → Is_open
        by_found None e sees = absurd sees
        by_found (Some e) found sees = record { e = e; found = found; sees = sees }

    is_early_there : is_early_real is_open.e.phase ≡ true
    is_early_there = ap is_early_real is_open.sees.phase ∙ early_outline f (place g) m.phase early

    whole : is_whole f.kind m.plan.filter ≡ true
    whole = (j.shown_is.controller.moves op m there).whole

    module _ (u : Unit) (fits : unit_fits f.kind u ≡ true) (taken : takes m.plan.filter u ≡ true) (owned : owner c items u w.log ≡ m.plan.from) where
      takes_it : takes_whole f.kind is_open.e.filter u ≡ true
      takes_it = ap (λ x. takes_whole f.kind x u) is_open.sees.filter ∙ takes_same f.kind m.plan.filter u whole fits ∙ taken

      -- the unit is apart from shares
      where_is : Where (S f g) (is_sys f g.site g.packet) u (moves_of (S f g) (A f g) j.world) (came_by f g w.log u).all (came_by f g w.log u).bared
      where_is = move_apart (S f g) (A f g) (is_sys f g.site g.packet) u j.world (came_by f g w.log u) (j.shown_is.every.unit u) op is_open.e is_open.found
          takes_it

      route : j.world.target u ≡ is_open.e.op.src
      route = owner_goes setting n w j u fits (where_two (S f g) (is_sys f g.site g.packet) u (moves_of (S f g) (A f g) j.world) _ _ where_is)
          ∙ ap instance_node owned ∙ ap (λ o. o.src) (sym is_open.sees.op)

      -- a change of the rules that the switch takes next
      pub other_change : (k : ℕ) (filter : Filter) (from to : ℕ) (rest : List (Any R)) → is_whole f.kind filter ≡ true
          → j.world.link 1 0 ≡ Old (net.Of_move filter (MoveMsg.Install k from to)) ∷ rest → takes filter u ≡ false
      other_change k filter from to rest filter_whole waits = sym (takes_same f.kind filter u filter_whole fits)
          ∙ untaken (S f g) (is_sys f g.site g.packet) (moves_of (S f g) (A f g) j.world) op is_open.e is_open.found is_early_there u takes_it _ _ where_is
          route filter k from to (olds rest) (ap olds waits)

      -- what an instance processes of the unit
      module _ (y p : ℕ) (message : Msg) (is_taken : IsTaken f g n scene (record { node = suc (suc y); port = p; message = message })) where
        abbrev k : ℕ
        k = suc (suc y)

        abbrev own : InstanceState F R
        own = j.nodes.instance k

        abbrev at : IsInstanceAt f g k own j.world
        at = j.shown_is.instances k (omega arith) is_taken.receiver

        abbrev notes : List Note
        notes = (instance_step f own message).notes

        not_input : (p == 0) && (k == 0) ≡ false
        not_input = grind (arith, nat_tests)

        module _ (before after : List Note) (number i : ℕ) (output : Output) (e : notes ≡ before ++ Note.Processed number i output ∷ after)
            (mine : (S f g).packet_unit number ≡ u) where
          stood : RanThere (filter_map ran_in notes) number
          stood = subst (λ ns. RanThere (filter_map ran_in ns) number) (sym e) (ran_there before number i output after)

          some : none_mine (S f g) u (filter_map ran_in notes) ≢ []
          some = subst (λ v. none_mine (S f g) u v ≢ []) (sym stood.whole) (mine_there (S f g) (A f g) (is_sys f g.site g.packet) u number
              (subst (λ v. same_unit ((S f g).packet_unit number) v ≡ true) mine (same_unit_equiv.refl ((S f g).packet_unit number))) stood.front
              stood.back)

          -- a message of a share has nothing of the unit
          not_shared : (m : ShareMsg R) → j.world.link p k ≡ New m ∷ is_taken.rest
              → none_mine (S f g) u (member_step (S f g) (A f g) (j.world.inst k).live (j.world.standby k) m).ran ≢ []
              → WhereAll (S f g) (A f g) (is_sys f g.site g.packet) u j.world (came_by f g w.log u) → ⊥
          not_shared m waits ran (Apart_from_shares h none) = ran (unseen_ran (S f g) (A f g) (is_sys f g.site g.packet) u j.world.shares
              (j.world.inst k).live (j.world.standby k) m (head_none (S f g) u (A f g) j.world p k (New m) is_taken.rest not_input waits h.untaken))
          not_shared m waits ran (Under_share x older d h o flags) =
              let never : true ≡ false = sym takes_it
              ∙ not_taken (S f g) (A f g) (seeing (S f g) (A f g) u x) j.world older _ h op is_open.e is_open.found in
              cc

          by_seen : (a : Any R) → j.world.link p k ≡ a ∷ is_taken.rest → filter_map ran_in notes ≡ ran_any f g (j.world.inst k) (j.world.standby k) a
              → k ≡ is_open.e.op.src
          by_seen (Old a) waits ran =
              at_source (S f g) (is_sys f g.site g.packet) (moves_of (S f g) (A f g) j.world) op is_open.e is_open.found is_early_there u takes_it _ _
              where_is route p k a (olds is_taken.rest) (grind (arith, nat_tests)) (grind (arith, nat_tests)) (ap olds waits)
              (subst (λ v. none_mine (S f g) u v ≢ []) ran some)
          by_seen (New m) waits ran = absurd (not_shared m waits (subst (λ v. none_mine (S f g) u v ≢ []) ran some) (j.shown_is.every.unit u))

          node_is : RanAs f laws g (all_fit setting) own message → k ≡ is_open.e.op.src
          node_is (Unseen none) = absurd (behind_nil stood.front number stood.back (sym (sym none ∙ stood.whole)))
          node_is (Seen a shown_as ran) = by_seen a (is_taken.head not_input a shown_as)
              (ran ∙ ap (λ x. ran_any f g x own.table.standby a) at.outline_is ∙ ap (λ t. ran_any f g (j.world.inst k) t a) at.standby_is)

        one_at : (before after : List Note) (x : Note) → notes ≡ before ++ x ∷ after → Is_at f c items u m.plan.from x
        one_at before after (Note.Processed number i output) e = λ mine.
            let node = node_is before after number i output e mine
            (ran_as f laws g (all_fit setting) k own j.world (omega arith) at p y message is_taken.label) in
            let source = ap (λ o. o.src) is_open.sees.op in
            omega (arith, each_there_is before after number i output e, node, source, at.number)
          where
            each_there_is : (before after : List Note) (number i : ℕ) (output : Output) → notes ≡ before ++ Note.Processed number i output ∷ after
                → i ≡ own.index
            each_there_is before after number i output e = quiet_there before (subst (λ ns. Each (IsQuiet own.index) ns) e (instance_quiet f own message))
              where
                quiet_there : (xs : List Note) → Each (IsQuiet own.index) (xs ++ Note.Processed number i output ∷ after) → i ≡ own.index
                quiet_there [] h = h.0
                quiet_there (x ∷ xs) h = quiet_there xs h.1
        one_at before after x e = tt

        instance_at : AreAt f c items u m.plan.from notes
        instance_at = each_by (Is_at f c items u m.plan.from) [] notes notes refl one_at

    -- an instance's step leaves such units at the source
    pub instance_leaves : (y p : ℕ) (message : Msg) → IsTaken f g n scene (record { node = suc (suc y); port = p; message = message })
        → Leaves f c items m.plan.filter m.plan.from w.log (instance_step f (j.nodes.instance (suc (suc y))) message).notes
    instance_leaves y p message is_taken u fits taken owned = (
      owner_stays f c items u w.log _ (installed_quiet (j.nodes.instance (suc (suc y))).index _ (instance_quiet f (j.nodes.instance (suc (suc y))) message))
          ∙ owned,
      instance_at u fits taken owned y p message is_taken,
    )
