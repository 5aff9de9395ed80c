-- Of each unit at most one record is on its way with a move's pieces; what that says of the pieces that the controller keeps.
use Rattle.proof_machines.proofs.net.Words.{◌≡◌, ℕ, ◌+◌, ◌≤◌, Bool, true, false, Some, None, List, [], ◌∷◌, map, length, refl, sym, ap, ◌∙◌, subst, arith}
use Rattle.proof_machines.proofs.net.Words.{if◌then◌else◌, ◌&&◌, ◌==◌, is_some, option_to_list, nat_tests, Decides-eqb, Item, Put_no, State, Chunks, record_at}
use Rattle.proof_machines.proofs.net.Words.{MovePiece, MovePhase, MoveMsg, Frame, see, see_phase, Streaming, records, Each, Without, Clean, frozen_in, free_in}
use Rattle.proof_machines.proofs.net.Words.{expect, seat_shape, add, filter_map, Msg, Of_move, Sys, IsSys, Open, find_op, World, seen, Seeing, frame, Label}
use Rattle.proof_machines.proofs.net.Words.{OpLabel, IsController, Holds, head, NothingOf, Global, same_unit, same_unit_equiv, Filter, Answer, either_way, Unit}
use Rattle.proof_machines.proofs.unit.OneCopy.{few_records, records_head}
use Rattle.proof_machines.proofs.net.Ctrl.{none_some, each_found}
use Rattle.proof_machines.proofs.net.Units.{Where, Where.At_rest, Where.In_move, shown, see as seeing}

module _ {R : Type 0} where
  -- 1 where the chunks have a record of the unit
  abbrev pub has : Unit → Chunks R → ℕ
  has u cs = if is_some (record_at u cs) then 1 else 0

  -- how many pieces have one
  abbrev pub have : Unit → List (MovePiece R) → ℕ
  have u [] = 0
  have u (p ∷ ps) = has u p.chunks + have u ps

  abbrev pub copies : Unit → MovePhase R → ℕ
  copies u (Streaming frozen free came door) = have u frozen + have u free
  copies u ph = 0

  -- none of another move
  pub has_none : (u : Unit) (cs : Chunks R) → record_at u cs ≡ None → has u cs ≡ 0
  has_none u cs e = rw e refl

  have_none : (u : Unit) (ps : List (MovePiece R)) → Each (Without u) ps → have u ps ≡ 0
  have_none u [] h = refl
  have_none u (p ∷ ps) h = let a = has_none u p.chunks h.0 in let b = have_none u ps h.1 in rw (a, b) refl

  pub copies_none : (u : Unit) (ph : MovePhase R) → Clean u ph → copies u ph ≡ 0
  copies_none u (Streaming frozen free came door) h = let a = have_none u frozen h.0 in let b = have_none u free h.1 in rw (a, b) refl
  copies_none u ph h = refl

  -- of its own move as many as the machine has
  has_own : (u : Unit) (cs : Chunks R) → has u cs ≡ length (option_to_list (record_at u cs))
  has_own u cs = elim (record_at u cs) as (λ o. (if is_some o then 1 else 0) ≡ length (option_to_list o)) [ None ↦ refl | Some r ↦ refl ]

  have_own : (v : Frame) (ps : List (MovePiece R)) → have v.unit ps ≡ length (records (map (see v) ps))
  have_own v [] = refl
  have_own v (p ∷ ps) = elim (record_at v.unit p.chunks) as (λ o. (if is_some o then 1 else 0) + have v.unit ps
      ≡ length (add o (records (map (see v) ps)))) [
        | None ↦ (let e = have_own v ps in omega (arith, e))
        | Some r ↦ (let e = have_own v ps in omega (arith, e))
      ]

  copies_own : (v : Frame) (ph : MovePhase R) → copies v.unit ph ≡ length (frozen_in (see_phase v ph)) + length (free_in (see_phase v ph))
  copies_own v (Streaming frozen free came door) = let a = have_own v frozen in let b = have_own v free in rw (a, b) refl
  copies_own v phase = refl

falsely : true ≡ false → ⊥
falsely e = cc

module _ {R : Type 0} (S : Sys R) (laws : IsSys S) where
  one_or_other : (z : Seeing) (w : World S) (x : State R) → Holds S z w x → (n : ℕ) (e : Open R) → find_op w.ops n ≡ Some e → (n == z.op.num) ≡ false
      → copies z.unit e.phase ≡ 0
  one_or_other z w x h n e there off =
      let l = each_found (OpLabel S z) n w.ops e h.ops there in
      let same : e.op.num ≡ n = (Decides-eqb e.op.num n).0 l.1 in
      copies_none z.unit e.phase (l.0.1 (rw same off)).0

  -- what the machine says of its own move
  own_move : (z : Seeing) (w : World S) (x : State R) → Holds S z w x → (n : ℕ) (e : Open R) → find_op w.ops n ≡ Some e → (n == z.op.num) ≡ true
      → (e.op ≡ z.op) × (copies z.unit e.phase ≡ length (frozen_in x.phase) + length (free_in x.phase))
  own_move z w x h n e there on =
      let same : n ≡ z.op.num = (Decides-eqb n z.op.num).0 on in
      let c : IsController S z (Some e) x = subst (λ o. IsController S z o x) (ap (λ k. find_op w.ops k) (sym same) ∙ there) h.ctrl in
      (c.0, copies_own (frame S z) e.phase ∙ ap (λ ph. length (frozen_in ph) + length (free_in ph)) c.1)

  -- of a unit, by where it is
  pub one_copy : (w : World S) → Global S w → (u : Unit) (ps : List ℕ) (b : Bool) → Where S laws u w ps b → (n : ℕ) (e : Open R)
      → find_op w.ops n ≡ Some e → copies u e.phase ≤ 1
  one_copy w g u ps b here n e there =
      let k = shown S laws u w ps b g here in
      let z = seeing S laws u k.op k.third in
      let x = seat_shape S.F k.seat in
      either_way (n == k.op.num) (λ on. (let a = (own_move z w x k.holds n e there on).1 in let few = few_records S.F k.seat in omega (arith, a, few)))
      (λ off. (let a = one_or_other z w x k.holds n e there off in omega (arith, a)))

  -- the link from B
  from_target : (z : Seeing) (w : World S) (x : State R) → Holds S z w x → (i : ℕ) → i ≡ z.op.dst → (m : Msg R) (rest : List (Msg R)) → w.link i 1 ≡ m ∷ rest
      → (it : Item R) → seen (frame S z) m ≡ Some it → it ∷ filter_map (seen (frame S z)) rest ≡ x.bc
  from_target z w x h i at m rest waits it is =
      let b0 = h.apart.dst_0 in
      let b1 : (z.op.dst == 1) ≡ false = grind (arith, nat_tests, h.nodes.b_is) in
      let off : (i == 0) && (1 == 0) ≡ false = rw (at, b0) refl in
      let all : expect z.op.src z.op.dst z.third x i 1 ≡ x.bc = rw (at, b0, b1, h.apart.dst_src, h.apart.dst) refl in
      ap (λ o. add o (filter_map (seen (frame S z)) rest)) (sym is) ∙ head S z w.link i 1 m rest waits off []
      ∙ h.views i 1 ∙ all

  -- and with what was refused and is on its way back
  pub one_copy_back : (w : World S) → Global S w → (u : Unit) (ps : List ℕ) (b : Bool) → Where S laws u w ps b → (n : ℕ) (e : Open R)
      → find_op w.ops n ≡ Some e → (g : Filter) (why : Answer) (cs : Chunks R) (rest : List (Msg R)) → w.link e.op.dst 1
      ≡ Of_move g (MoveMsg.Put_no n why cs) ∷ rest
      → has u cs + copies u e.phase ≤ 1
  one_copy_back w global u ps b here n e there g why cs rest waits =
      let k = shown S laws u w ps b global here in
      let z = seeing S laws u k.op k.third in
      let x = seat_shape S.F k.seat in
      either_way (n == k.op.num)
      (λ on.
      let own = own_move z w x k.holds n e there on in
      let is : seen (frame S z) (Of_move g (MoveMsg.Put_no n why cs)) ≡ Some (Put_no why (record_at u cs)) = rw on refl in
      let link = from_target z w x k.holds e.op.dst (ap (λ o. o.dst) own.0) (Of_move g (MoveMsg.Put_no n why cs)) rest waits (Put_no why (record_at u cs)) is in
      omega (arith, own.1, records_head (Put_no why (record_at u cs)) (filter_map (seen (frame S z)) rest) x.bc link, has_own u cs, few_records S.F k.seat))
      (λ off.
      let no_input : (e.op.dst == 0) && (1 == 0) ≡ false = rw ((each_found (OpLabel S z) n w.ops e k.holds.ops there).0.2).dst_0 refl in
      let lab = (subst (λ ms. Each (Label S z e.op.dst) ms) waits (k.holds.labels e.op.dst 1 no_input)).0 in
      omega (arith, one_or_other z w x k.holds n e there off, has_none u cs (lab.1 off)))

  -- an event that comes is one of an open move
  pub event_open : (w : World S) (i n p : ℕ) (ps : List ℕ) (b : Bool) → Where S laws (S.packet_unit p) w ps b → (g : Filter) (rest : List (Msg R))
      → w.link i 1 ≡ Of_move g (MoveMsg.Event n p) ∷ rest → find_op w.ops n ≡ None → ⊥
  event_open w i n p ps bared here g rest waits none = by_where here
    where
      u : Unit
      u = S.packet_unit p

      self : same_unit u u ≡ true
      self = same_unit_equiv.refl u

      no_input : (i == 0) && (1 == 0) ≡ false
      no_input = elim (i == 0) as (λ b. b && false ≡ false) [ true ↦ refl | false ↦ refl ]

      by_where : Where S laws u w ps bared → ⊥
      by_where (At_rest owner d l b r o f) =
          let lab = (subst (λ ms. Each (NothingOf S u i) ms) waits (r.labels i 1 no_input)).0 in
          let never : true ≡ false = sym self ∙ lab.1 in falsely never
      by_where (In_move op third e s b there r o f c) =
          let lab = (subst (λ ms. Each (Label S (seeing S laws u op third) i) ms) waits (r.labels i 1 no_input)).0 in
          let same : n ≡ op.num = (Decides-eqb n op.num).0 (lab.1 self) in
          none_some (sym none ∙ ap (λ k. find_op w.ops k) same ∙ there)
