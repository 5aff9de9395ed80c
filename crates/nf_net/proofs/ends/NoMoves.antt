-- Where no message is on a link no move is open: its filter takes a unit, and that unit's seat has no message, so the move has ended.
use Rattle.nf_net.proofs.Words.{◌≡◌, ◌≢◌, ℕ, ◌+◌, ◌^◌, ◌<◌, ◌≤◌, Bool, true, false, Option, Some, None, List, [], refl, sym, ap, ◌∙◌, subst, arith, ◌&&◌, ◌==◌}
use Rattle.nf_net.proofs.Words.{nat_lt, nat_eq, filter_map, nat_tests, Decides-ltb, and_parts, Filter, Flow, Semantics, stored_of, Msg, Note, instance_node}
use Rattle.nf_net.proofs.Words.{MoveState, answer_of, Move, Network, queue_at, at, Frame, see_phase, is_over, UnitSeat, seat_shape, Sys, IsSys, Open, find_op}
use Rattle.nf_net.proofs.Words.{World, Seeing, frame, OpLabel, each_found, RestOp, olds, moves_of, Where, move_apart, Node, is_whole, flow_fits, takes_whole}
use Rattle.nf_net.proofs.Words.{is_sys, Sees, outline_phase, but_shares, Given, place, S, A, Joined, shown, came_by, Unit}
use Rattle.std.specs.FinMap as finite
use Rattle.flow_filter.specs.declared.prefix.Prefix.{Prefix}
use Rattle.flow_filter.specs.Filter.{agrees, holds, matches}
use Rattle.flow_filter.proofs.PrefixLemmas.{block_own}
use Rattle.nf_function.specs.declared.kind.Kind.{Kind}
use Rattle.nf_function.specs.declared.kind.Kind.TheVariants.{Conntrack, Nat, Monitor}
use Rattle.nf_function.specs.declared.unit.Unit.TheVariants.{Flow as OfFlow, Host as OfHost}
use Rattle.move_op.specs.Phases.{Phase as RealPhase}
use Rattle.move_op.specs.Phases as phase
use Rattle.proof_machines.proofs.unit.Seats.{seat_rests}
use Rattle.proof_machines.proofs.net.Holding.{IsController, Holds}
use Rattle.proof_machines.proofs.net.Units.{Where.At_rest, Where.In_move, see}
use Rattle.proof_machines.proofs.net.AtEnd.{is_silent}
use Rattle.proof_outlines.proofs.outline.FiltersApart.{number_fits, prefix_fits, filter_fits}
use Rattle.proof_outlines.proofs.joined.Joined.{count}

-- A filter takes some unit: that of the numbers that it gives, and zeros for the others.
number_or_0 : Option ℕ → ℕ
number_or_0 (Some n) = n
number_or_0 None = 0

bits_in : Option Prefix → ℕ
bits_in (Some p) = p.bits
bits_in None = 0

number_agrees : (o : Option ℕ) → agrees nat_eq o (number_or_0 o) ≡ true
unfolding number_or_0
number_agrees (Some n) = grind (arith, nat_tests)
number_agrees None = refl

bits_agree : (o : Option Prefix) → agrees holds o (bits_in o) ≡ true
unfolding bits_in
bits_agree (Some p) = block_own p.bits p.len
bits_agree None = refl

number_low : (top : ℕ) (o : Option ℕ) → nat_lt 0 top ≡ true → number_fits top o ≡ true → nat_lt (number_or_0 o) top ≡ true
unfolding number_or_0
number_low top (Some n) some h = h
number_low top None some h = some

bits_low : (o : Option Prefix) → prefix_fits o ≡ true → nat_lt (bits_in o) (2 ^ 32) ≡ true
unfolding bits_in
bits_low (Some p) h = h
bits_low None h = refl

module _ (g : Filter) (fits : filter_fits g ≡ true) where
  abbrev its_flow : Flow
  its_flow =
      record { proto = number_or_0 g.proto; local = bits_in g.local; lport = number_or_0 g.lport; remote = bits_in g.remote; rport = number_or_0 g.rport }

  matches_it : matches g its_flow ≡ true
  matches_it = rw (number_agrees g.proto, bits_agree g.local, number_agrees g.lport, bits_agree g.remote, number_agrees g.rport) refl

  fits_it : flow_fits its_flow ≡ true
  fits_it =
      let p = (and_parts (number_fits (2 ^ 8) g.proto) _ fits).0 in
      let q = (and_parts (number_fits (2 ^ 8) g.proto) _ fits).1 in
      let r = (and_parts (prefix_fits g.local) _ q).1 in
      let s = (and_parts (number_fits (2 ^ 16) g.lport) _ r).1 in
      let c = number_low (2 ^ 16) g.lport refl (and_parts (number_fits (2 ^ 16) g.lport) _ r).0 in
      let d = bits_low g.remote (and_parts (prefix_fits g.remote) _ s).0 in
      let e = number_low (2 ^ 16) g.rport refl (and_parts (prefix_fits g.remote) _ s).1 in
      rw (number_low (2 ^ 8) g.proto refl p, bits_low g.local (and_parts (prefix_fits g.local) _ q).0, c, d, e) refl

record SomeUnit (kind : Kind) (g : Filter) : Type 0 where
  unit : Unit
  taken : takes_whole kind g unit ≡ true

some_unit : (kind : Kind) (g : Filter) → is_whole kind g ≡ true → SomeUnit kind g
some_unit Conntrack g whole =
    let fits = (and_parts (filter_fits g) _ whole).0 in
    record { unit = OfFlow (its_flow g fits); taken = rw (whole, fits_it g fits, matches_it g fits) refl }
some_unit Nat g whole =
    let fits = (and_parts (filter_fits g) _ whole).0 in
    let low = bits_low g.local (and_parts (prefix_fits g.local) _ (and_parts (number_fits (2 ^ 8) g.proto) _ fits).1).0 in
    record { unit = OfHost (bits_in g.local); taken = rw (whole, low, bits_agree g.local) refl }
some_unit Monitor g whole =
    let fits = (and_parts (filter_fits g) _ whole).0 in
    let low = bits_low g.local (and_parts (prefix_fits g.local) _ (and_parts (number_fits (2 ^ 8) g.proto) _ fits).1).0 in
    record { unit = OfHost (bits_in g.local); taken = rw (whole, low, bits_agree g.local) refl }

-- A seat without messages
module _ {R : Type 0} (T : Sys R) (laws : IsSys T) (u : Unit) (n : ℕ) (v : World T) (some : 2 ≤ n)
    (quiet : (i j : ℕ) → i < n → j < n → (i == 0) && (j == 0) ≡ false → v.link i j ≡ []) where
  -- an open move whose filter takes the unit is over
  over : (z : Seeing) (s : UnitSeat T.F) → Holds T z v (seat_shape T.F s) → z.op.src < n → z.op.dst < n → is_over (seat_shape T.F s).phase ≡ true
  over z s h src dst = seat_rests T.F s (is_silent T laws u n v some quiet z (seat_shape T.F s) h src dst)

  ended : (ps : List ℕ) (c : Bool) (k : ℕ) (e : Open R) → find_op v.ops k ≡ Some e → T.takes e.filter u ≡ true → e.op.src < n → e.op.dst < n
      → Where T laws u v ps c → (y : Frame) × (is_over (see_phase y e.phase) ≡ true)
  ended ps c k e there on src dst (At_rest owner d l b r o f) = let never : true ≡ false = sym on ∙ (each_found (RestOp T u) k v.ops e r.ops there).0.0 in cc
  ended ps c k e there on src dst (In_move o third x s b found h ordered f keep) =
      let label = each_found (OpLabel T (see T laws u o third)) k v.ops e h.ops there in
      let its : (e.op.num == o.num) ≡ true = sym label.0.0 ∙ on in
      let num : o.num ≡ k = grind (arith, nat_tests, its, label.1) in
      let same : Some x ≡ Some e = sym found ∙ ap (find_op v.ops) num ∙ there in
      let is : IsController T (see T laws u o third) (Some e) (seat_shape T.F s) = subst (λ y. IsController T (see T laws u o third) y (seat_shape T.F s))
      (found ∙ same) h.ctrl in
      let at_op : e.op ≡ o = is.0 in
      (frame T (see T laws u o third), ap is_over is.1 ∙ over (see T laws u o third) s h (subst (λ y. y.src < n) at_op src) (subst (λ y. y.dst < n) at_op dst))

-- Of the real moves
not_over : {R : Type 0} (f : Semantics R) (at_place : List ℕ → Option ℕ) (y : Frame) (ph : RealPhase) → answer_of ph ≡ None
    → is_over (see_phase y (outline_phase f at_place ph)) ≡ true → ⊥
not_over f at_place y phase.Freezing going e = cc
not_over f at_place y ph going e = cc

module _ {F R : Type 0} (f : Semantics R) (g : Given) (n : ℕ) (count_is : n ≡ count f g + 2) (w : Network (Node F R) Msg Note) (j : Joined f g n w)
    (nothing : (s r : ℕ) → (r == 0) && (s == 0) ≡ false → queue_at w (at r s) ≡ []) where
  pub quiet_links : (i k : ℕ) → i < n → k < n → (i == 0) && (k == 0) ≡ false → j.world.link i k ≡ []
  quiet_links i k hi hk off = j.links i k hi hk off
      ∙ ap (filter_map (shown f g)) (nothing i k (let turned : (k == 0) && (i == 0) ≡ false = grind (arith, nat_tests, off) in turned))

  there : (i : ℕ) → nat_lt i (count f g) ≡ true → instance_node i < n
  there i e = let few = (Decides-ltb i (count f g)).0 e in omega (arith, few, count_is)

  -- an open move of the abstract network
  by_seen : (op : ℕ) (m : MoveState) → finite.get j.nodes.controller.operations op ≡ Some (Move m) → (o : Option (Open R)) → find_op j.world.ops op ≡ o
      → Sees f (place g) o (Some (Move m)) (stored_of j.nodes.controller.store op) → ⊥
  by_seen op m is None found h = absurd h
  by_seen op m is (Some e) found h =
      let move = j.shown_is.controller.moves op m is in
      let some = some_unit f.kind m.plan.filter move.whole in
      let u = some.unit in
      let on : (S f g).takes e.filter u ≡ true = ap (λ y. takes_whole f.kind y u) h.filter ∙ some.taken in
      let src : e.op.src < n = subst (λ o. o.src < n) (sym h.op) (there m.plan.from move.from) in
      let dst : e.op.dst < n = subst (λ o. o.dst < n) (sym h.op) (there m.plan.to move.to) in
      let came = came_by f g w.log u in
      let apart = move_apart (S f g) (A f g) (is_sys f g.site g.packet) u j.world came (j.shown_is.every.unit u) op e found on in
      let over_so = ended (S f g) (is_sys f g.site g.packet) u n (moves_of (S f g) (A f g) j.world) (omega (arith, count_is))
      (λ i k a c off. ap olds (quiet_links i k a c off)) came.all came.bared op e found on src dst apart in
      not_over f (place g) over_so.0 m.phase (j.shown_is.controller.going op m is) (subst (λ ph. is_over (see_phase over_so.0 ph) ≡ true) h.phase over_so.1)

  pub no_move : (op : ℕ) (m : MoveState) → finite.get j.nodes.controller.operations op ≢ Some (Move m)
  no_move op m is = by_seen op m is (find_op j.world.ops op) refl (subst
      (λ o. Sees f (place g) (find_op j.world.ops op) o (stored_of j.nodes.controller.store op)) (ap but_shares is) (j.shown_is.controller.opens op).move)
