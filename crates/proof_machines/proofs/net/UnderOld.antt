-- A unit that no move takes, at one node: an instance and the controller, on a message of a move, leave it with labels as before, and of its
-- record and its packets no more than a plain packet of it changes.
use Rattle.proof_machines.proofs.unit.Lists.{cons_option_nil}
use Rattle.proof_machines.proofs.NumberedLists.{none_below}
use Rattle.proof_machines.proofs.net.Words.{find_rule, ◌≡◌, ℕ, ◌≤◌, ◌<◌, Bool, true, false, Option, Some, None, List, [], ◌∷◌, refl, sym, ap, ◌∙◌, subst, arith}
use Rattle.proof_machines.proofs.net.Words.{if◌then◌else◌, ◌==◌, nat_tests, self, Op, where_true, sent_for, only_mine, off_if, NodesDiffer, Each, filter_map}
use Rattle.proof_machines.proofs.net.Words.{rest_at, Filter, Msg, Carry_on, Pass_on, Fence_on, Of_move, Sys, IsSys, rule_of, held_of, NumberedInstance}
use Rattle.proof_machines.proofs.net.Words.{InstanceTurn, says, on_move, inst_step, Open, find_op, ControllerMove, ctrl_step, seen, Seeing, EachSent, frame}
use Rattle.proof_machines.proofs.net.Words.{Label, OpLabel, SeesNode, IsController, Below, RestRule, RestOp, NothingOf, none_mine, same_unit, either_way, Unit}
use Rattle.proof_machines.proofs.net.Words.{MoveMsg}
use Rattle.proof_machines.proofs.unit.Machine as moves
use Rattle.proof_machines.proofs.unit.Real
use Rattle.proof_machines.proofs.net.Insts.{InstanceGoes, does, carry_goes, pass_goes, fence_goes}
use Rattle.proof_machines.proofs.net.InstMoves.{MovesInstance, MovesInstance.Any, MovesInstance.Streams_out, MovesInstance.Puts_in, move_goes}
use Rattle.proof_machines.proofs.net.CtrlUnit.{SeesController, mdid, ctrl_unit}
use Rattle.proof_machines.proofs.net.RestingSeats.{mv_label, mv_unseen, rule_labels, op_labels, rules_rest, ops_rest, mv_nothing}
use Rattle.proof_machines.proofs.net.GlobalShares.{ctrl_none}

module _ {R : Type 0} (S : Sys R) (laws : IsSys S) (u : Unit) where
  abbrev mine : ℕ → Bool
  mine p = same_unit (S.packet_unit p) u

  abbrev pub after_packets : Option R → List ℕ → Option R
  after_packets o [] = o
  after_packets o (p ∷ ps) = after_packets (Some (S.F.step o p)) ps

  -- the unit's packet in a message
  abbrev pub packet_in : Msg R → List ℕ
  packet_in (Carry_on p) = if mine p then p ∷ [] else []
  packet_in m = []

  -- what an instance leaves: ps are the unit's packets that it processed
  pub record LeavesInstance (i : NumberedInstance S) (did : InstanceTurn S) (ps : List ℕ) : Type 0 where
    pub live : S.B.at u did.node.live ≡ after_packets (S.B.at u i.live) ps
    pub rules : Each (RestRule S u) did.node.rules
    pub sends : EachSent (λ _ m. NothingOf S u 1 m) did.sends
    pub ran : none_mine S u did.ran ≡ ps

  -- a move that isn't there, with the number b
  module _ (b : ℕ) where
    abbrev nobody : Op
    nobody = record { num = b; src = 2; dst = 3; keep = true }

    abbrev z : Seeing
    z = record { unit = u; op = nobody; third = 4 }

    apart : NodesDiffer nobody
    apart = record { num = self b; src = refl; dst = refl; src_dst = refl; dst_src = refl; src_0 = refl; dst_0 = refl; 0_src = refl; 0_dst = refl }

    le_self : b ≤ b
    le_self = omega arith

    abbrev its : List (Msg R) → List (moves.Item R)
    its ms = filter_map (seen (frame S z)) ms

    nothing_one : (i : ℕ) (m : Msg R) → seen (frame S z) m ≡ None → Label S z i m → NothingOf S u i m
    nothing_one i (Of_move g m) none l = (l.0, mv_nothing S z g m none l.1)
    nothing_one i (Pass_on p) none l = off_if (mine p) _ none
    nothing_one i m none l = tt

    -- sends of which nothing is seen
    nothing_sent : (xs : List (ℕ × Msg R)) → EachSent (λ j m. Label S z 1 m) xs → ((j : ℕ) → its (sent_for j xs) ≡ []) → EachSent (λ _ m. NothingOf S u 1 m) xs
    nothing_sent [] l e = tt
    nothing_sent (x ∷ xs) l e = (nothing_one 1 x.1 (here (x.0 == x.0) (self x.0) (e x.0)) l.0, nothing_sent xs l.1 (λ j. later (x.0 == j) j (e j)))
      where
        here : (t : Bool) → t ≡ true → its (if t then x.1 ∷ sent_for x.0 xs else sent_for x.0 xs) ≡ [] → seen (frame S z) x.1 ≡ None
        here true _ h = (cons_option_nil (seen (frame S z) x.1) (its (sent_for x.0 xs)) h).0
        here false off h = let never : false ≡ true = off in cc

        later : (t : Bool) (j : ℕ) → its (if t then x.1 ∷ sent_for j xs else sent_for j xs) ≡ [] → its (sent_for j xs) ≡ []
        later true j h = (cons_option_nil (seen (frame S z) x.1) (its (sent_for j xs)) h).1
        later false j h = h

    -- An instance
    module _ (i : NumberedInstance S) (few : Each (λ r. r.num < b) i.rules) (rests : Each (RestRule S u) i.rules) where
      abbrev x : moves.Inst R
      x = moves.idle (S.B.at u i.live)

      sees : SeesNode S z i x
      sees = let none : find_rule b i.rules ≡ None = none_below _ b b i.rules le_self few in
          record {
            live = refl;
            rule = ap rule_of none;
            held = ap (λ o. only_mine (frame S z) (held_of o)) none;
            rules = rule_labels S z b le_self i.rules few rests;
          }

      abbrev Goes : InstanceTurn S → Option (moves.Item R) → Type 0
      Goes did o = InstanceGoes S laws z (self b) did (does S laws z (self b) moves.At_a [] None x o)

      all_none : (did : InstanceTurn S) (d : moves.Did R) → InstanceGoes S laws z (self b) did d → d.to_c ≡ [] → (j : ℕ) → its (sent_for j did.sends) ≡ []
      all_none did d g none j = either_way (1 == j)
          (λ e. let one : j ≡ 1 = grind (arith, nat_tests) in subst (λ k. its (sent_for k did.sends) ≡ []) (sym one) (g.to_c ∙ none))
          (λ e. g.others j e)

      -- nothing is seen, or a packet
      unseen : (did : InstanceTurn S) → Goes did None → LeavesInstance i did []
      unseen did g = record {
        live = g.node.live;
        rules = rules_rest S z did.node.rules g.node.rule g.node.rules;
        sends = nothing_sent did.sends g.labels (all_none did (moves.sends x []) g refl);
        ran = g.ran;
      }

      packet : (did : InstanceTurn S) (p : ℕ) → Goes did (Some (moves.Carry p)) → LeavesInstance i did (p ∷ [])
      packet did p g = record {
        live = g.node.live;
        rules = rules_rest S z did.node.rules g.node.rule g.node.rules;
        sends = nothing_sent did.sends g.labels (all_none did (moves.ran_one S.F moves.At_a x p) g refl);
        ran = g.ran;
      }

      of_move : (g : Filter) (m : MoveMsg R) → MovesInstance S laws z (self b) moves.At_a i x sees (on_move S i g m) (Real.seen (frame S z) m)
          → Real.seen (frame S z) m ≡ None → Goes (on_move S i g m) None
      of_move g m (Any f) none = subst (λ o. Goes (on_move S i g m) o) none (f [] None)
      of_move g m (Streams_out parts fits is f) none = let never : Some moves.Stream ≡ None = sym is ∙ none in cc
      of_move g m (Puts_in refuse h first is f) none = let never : Some (moves.Put h first) ≡ None = sym is ∙ none in cc

      quiet : LeavesInstance i (says S i []) []
      quiet = record { live = refl; rules = rests; sends = tt; ran = refl }

      pub inst_leaves : (k : ℕ) (m : Msg R) → Below b m → NothingOf S u k m → LeavesInstance i (inst_step S i m) (packet_in m)
      inst_leaves k (Carry_on p) few_m h = elim (mine p) as (λ t. Goes (inst_step S i (Carry_on p)) (where_true t (moves.Carry p))
          → LeavesInstance i (inst_step S i (Carry_on p)) (if t then p ∷ [] else []))
          [ true ↦ λ g. packet (inst_step S i (Carry_on p)) p g | false ↦ λ g. unseen (inst_step S i (Carry_on p)) g ]
          (carry_goes S laws z (self b) moves.At_a i x sees p [] None)
      inst_leaves k (Pass_on p) few_m off = unseen (inst_step S i (Pass_on p))
          (subst (λ t. Goes (inst_step S i (Pass_on p)) (where_true t (moves.Pass p))) off (pass_goes S laws z (self b) moves.At_a i x sees p [] None))
      inst_leaves k (Fence_on n) few_m h =
          let off : (n == b) ≡ false = grind (arith, nat_tests, few_m) in
          unseen (inst_step S i (Fence_on n))
          (subst (λ t. Goes (inst_step S i (Fence_on n)) (where_true t moves.Fence)) off (fence_goes S laws z (self b) moves.At_a i x sees n [] None))
      inst_leaves k (Of_move g m) few_m h = unseen (on_move S i g m)
          (of_move g m (move_goes S laws z (self b) moves.At_a i x sees g m (mv_label S z b le_self g m few_m h.1)) (mv_unseen S z b le_self g m few_m h.1))
      inst_leaves k m few_m h = quiet

    -- The controller
    pub record LeavesController (c : ControllerMove R) : Type 0 where
      pub ops : Each (RestOp S u) c.ops
      pub sends : EachSent (λ _ m. NothingOf S u 1 m) c.sends

    module _ (es : List (Open R)) (few : Each (λ e. e.op.num < b) es) (rests : Each (RestOp S u) es) where
      abbrev at_rest : moves.State R
      at_rest = rest_at S.F moves.At_a [] [] (moves.Over moves.Idle) true

      none_open : find_op es b ≡ None
      none_open = none_below _ b b es le_self few

      labs : Each (OpLabel S z) es
      labs = op_labels S z b le_self es few rests

      is : IsController S z (find_op es b) at_rest
      is = subst (λ o. IsController S z o at_rest) (sym none_open) refl

      of_none : (c : ControllerMove R) → SeesController S z es at_rest apart labs is c (moves.goes (moves.Over moves.Idle) []) → (j : ℕ)
          → its (sent_for j c.sends) ≡ []
      of_none c g j = either_way (2 == j) (λ e. let at : j ≡ 2 = grind (arith, nat_tests) in subst (λ k. its (sent_for k c.sends) ≡ []) (sym at) g.to_a)
          (λ a. either_way (3 == j) (λ e. let at : j ≡ 3 = grind (arith, nat_tests) in subst (λ k. its (sent_for k c.sends) ≡ []) (sym at) g.to_b)
          (λ d. either_way (0 == j) (λ e. let at : j ≡ 0 = grind (arith, nat_tests) in subst (λ k. its (sent_for k c.sends) ≡ []) (sym at) g.to_s)
          (λ e. g.others j a d e)))

      as_before : LeavesController (record { ops = es; sends = [] })
      as_before = record { ops = rests; sends = tt }

      pub ctrl_leaves : (port k : ℕ) (m : Msg R) → Below b m → NothingOf S u k m → LeavesController (ctrl_step es port m)
      ctrl_leaves port k (Of_move g m) few_m h =
          let none = mv_unseen S z b le_self g m few_m h.1 in
          let does = ctrl_unit S z es at_rest apart labs is port k (Of_move g m) (h.0, mv_label S z b le_self g m few_m h.1) (λ it _ some.
          let never : None ≡ Some it = sym none ∙ some in cc) in
          let quiet = subst (λ o. SeesController S z es at_rest apart labs is (ctrl_step es port (Of_move g m))
          (mdid S z es at_rest apart labs is (port == 2) (port == 3) (moves.Over moves.Idle) [] o)) none does in
          record {
            ops = ops_rest S z (ctrl_step es port (Of_move g m)).ops (ctrl_none es port (Of_move g m) b none_open) quiet.ops;
            sends = nothing_sent (ctrl_step es port (Of_move g m)).sends quiet.labels (of_none (ctrl_step es port (Of_move g m)) quiet);
          }
      ctrl_leaves port k m few_m h = as_before
