-- Every record of a unit that stands by, or is in the chunks of a share or a copy, is the fold of a front of what was done of the unit; and so is
-- every live one, by where the unit is.
use Rattle.proof_machines.proofs.net.Words.{◌≡◌, ℕ, Bool, true, false, Option, Some, None, List, [], ◌∷◌, ◌++◌, ◌⊎◌, inl, inr, refl, sym, ap, ◌∙◌, subst}
use Rattle.proof_machines.proofs.net.Words.{append-nil, append_assoc, if◌then◌else◌, ◌&&◌, ◌==◌, option_to_list, option_map_or, Decides-eqb, State, idle}
use Rattle.proof_machines.proofs.net.Words.{record_at, first, first_of_one, record_first, Kept, Nowhere, Is_live, On_way, Twice, runs, over, IsFront}
use Rattle.proof_machines.proofs.net.Words.{runs-append, Sys, IsSys, process, Seeing, node_at, done_u, GlobalAll, New, ShareMsg, EachNew, Sharing, shared_chunk}
use Rattle.proof_machines.proofs.net.Words.{WholeWorld, moves_of, ran_of, same_unit, same_unit_equiv, same_unit-true, either_way, by_if, Unit}
use Rattle.proof_machines.proofs.share.Share.{Ran}
use Rattle.proof_machines.proofs.net.Readings.{fold, RecordOf}
use Rattle.proof_machines.proofs.net.NewMessages.{EachSentNew}
use Rattle.std.proofs.lemmas.List.Elements.{filter-append}
use Rattle.proof_machines.proofs.net.UnderStarts.{FrontBy}
use Rattle.proof_machines.proofs.whole.WhereAll.{Came, WhereAll}
use Rattle.proof_machines.proofs.whole.Readings.{fold_done, RecordsAll, By_moves, By_share, records_all}

-- nothing, or the whole fold
abbrev pub LiveSo : {R : Type 0} → Option R → Option R → Type 0
LiveSo all r = (r ≡ None) ⊎ (r ≡ all)

-- at each side of a move
pub record LivesSo {R : Type 0} (all a b c : Option R) : Type 0 where
  pub at_a : LiveSo all a
  pub at_b : LiveSo all b
  pub at_c : LiveSo all c

module _ {R : Type 0} (all : Option R) where
  abbrev in_lists : Option R → Option R → Option R → List R
  in_lists a b c = option_to_list a ++ (option_to_list b ++ option_to_list c)

  none_live : (a b c : Option R) → in_lists a b c ≡ [] → LivesSo all a b c
  none_live None None None e = record { at_a = inl refl; at_b = inl refl; at_c = inl refl }
  none_live (Some r) b c e = cc
  none_live None (Some r) c e = cc
  none_live None None (Some r) e = cc

  one_live : (r : R) (a b c : Option R) → all ≡ Some r → in_lists a b c ≡ r ∷ [] → LivesSo all a b c
  one_live r (Some x) None None is e = let same : x ≡ r = cc in record { at_a = inr (ap Some same ∙ sym is); at_b = inl refl; at_c = inl refl }
  one_live r None (Some x) None is e = let same : x ≡ r = cc in record { at_a = inl refl; at_b = inr (ap Some same ∙ sym is); at_c = inl refl }
  one_live r None None (Some x) is e = let same : x ≡ r = cc in record { at_a = inl refl; at_b = inl refl; at_c = inr (ap Some same ∙ sym is) }
  one_live r None None None is e = cc
  one_live r (Some x) (Some y) c is e = cc
  one_live r (Some x) None (Some y) is e = cc
  one_live r None (Some x) (Some y) is e = cc

  lives_so : (at_a a b c : Option R) (way : List R) → Kept all at_a (in_lists a b c) way → LivesSo all a b c
  lives_so at_a a b c way (Nowhere is live on) = none_live a b c live
  lives_so at_a a b c way (Is_live r is live on) = one_live r a b c is live
  lives_so at_a a b c way (On_way r is live on) = none_live a b c live
  lives_so at_a a b c way (Twice r is here live on) = one_live r a b c is live

module _ {R : Type 0} (S : Sys R) (A : Sharing S) (laws : IsSys S) (u : Unit) where
  -- a record that has seen a front of these
  pub record FrontOf (ds : List Ran) (r : Option R) : Type 0 where
    pub seen : List Ran
    pub fold : r ≡ runs S.F None seen
    pub front : IsFront seen ds

  abbrev pub MsgFront : List Ran → ShareMsg R → Type 0
  MsgFront ds (ShareMsg.Sync n home cs) = FrontOf ds (record_at u cs)
  MsgFront ds (ShareMsg.Chunks n cs) = FrontOf ds (record_at u cs)
  MsgFront ds (ShareMsg.Shared n c) = FrontOf ds (record_at u (c ∷ []))
  MsgFront ds m = Prim.Unit {0}

  pub record Fronts (w : WholeWorld S A) : Type 0 where
    pub standby : (k : ℕ) → FrontOf (ran_of S A u w.done) (S.B.at u (w.standby k))
    pub links : (i j : ℕ) → (i == 0) && (j == 0) ≡ false → EachNew (MsgFront (ran_of S A u w.done)) (w.link i j)

  -- as the begin of a share wants them
  pub front_by : (w : WholeWorld S A) → Fronts w → (k : ℕ) → FrontBy S A u w k
  front_by w h k = let f = h.standby k in record { seen = f.seen; fold = f.fold; front = f.front }

  -- Fronts
  pub front_none : (ds : List Ran) (r : Option R) → r ≡ None → FrontOf ds r
  front_none ds r e = record { seen = []; fold = e; front = (ds, refl) }

  pub front_all : (ds : List Ran) (r : Option R) → r ≡ runs S.F None ds → FrontOf ds r
  front_all ds r e = record { seen = ds; fold = e; front = ([], sym (append-nil ds)) }

  pub front_more : (ds es : List Ran) (r : Option R) → FrontOf ds r → FrontOf (ds ++ es) r
  front_more ds es r h = record { seen = h.seen; fold = h.fold; front = (h.front.0 ++ es, ap (λ v. v ++ es) h.front.1 ∙ append_assoc h.seen h.front.0 es) }

  pub front_over : (ds : List Ran) (c r : Option R) → FrontOf ds c → FrontOf ds r → FrontOf ds (over c r)
  front_over ds c r a b = elim c as (λ o. FrontOf ds o → FrontOf ds (over o r)) [ None ↦ λ _. b | Some x ↦ λ k. k ] a

  pub msg_more : (ds es : List Ran) (m : ShareMsg R) → MsgFront ds m → MsgFront (ds ++ es) m
  msg_more ds es (ShareMsg.Sync n home cs) h = front_more ds es (record_at u cs) h
  msg_more ds es (ShareMsg.Chunks n cs) h = front_more ds es (record_at u cs) h
  msg_more ds es (ShareMsg.Shared n c) h = front_more ds es (record_at u (c ∷ [])) h
  msg_more ds es m h = tt

  pub ran_more : (xs ys : List Ran) → ran_of S A u (xs ++ ys) ≡ ran_of S A u xs ++ ran_of S A u ys
  ran_more xs ys = filter-append (λ d. same_unit (S.packet_unit d.0) u) xs ys

  -- A live record
  at_node_so : (all : Option R) (z : Seeing) (x : State R) → LivesSo all x.a.live x.b.live x.c.live → (k : ℕ) → LiveSo all (node_at S z x k).live
  at_node_so all z x h k = by_test (k == z.op.src) (k == z.op.dst) (k == z.third)
    where
      by_test : (p q r : Bool) → LiveSo all (if p then x.a else if q then x.b else if r then x.c else idle None).live
      by_test true q r = h.at_a
      by_test false true r = h.at_b
      by_test false false true = h.at_c
      by_test false false false = inl refl

  by_record : (w : WholeWorld S A) → RecordOf S laws u (moves_of S A w) → (k : ℕ) → FrontOf (ran_of S A u w.done) (S.B.at u (w.inst k).live)
  by_record w r k = by_live (at_node_so all r.seeing r.state (lives_so all r.state.a.live r.state.a.live r.state.b.live r.state.c.live _ r.kept) k)
    where
      all : Option R
      all = fold S.F None (done_u S u w.done)

      by_live : LiveSo (fold S.F None (done_u S u w.done)) (node_at S r.seeing r.state k).live → FrontOf (ran_of S A u w.done) (S.B.at u (w.inst k).live)
      by_live (inl none) = front_none (ran_of S A u w.done) (S.B.at u (w.inst k).live) (r.tables k ∙ none)
      by_live (inr is) = front_all (ran_of S A u w.done) (S.B.at u (w.inst k).live) (r.tables k ∙ is ∙ sym (fold_done S A laws u None w.done))

  pub live_front : (w : WholeWorld S A) (k : Came) → GlobalAll S A w → WhereAll S A laws u w k → (j : ℕ)
      → FrontOf (ran_of S A u w.done) (S.B.at u (w.inst j).live)
  live_front w k g h j = by_records (records_all S A laws u w k g h)
    where
      by_records : RecordsAll S A laws u w → FrontOf (ran_of S A u w.done) (S.B.at u (w.inst j).live)
      by_records (By_moves r) = by_record w r j
      by_records (By_share e s) = either_way (j == e.home)
          (λ on. subst (λ n. FrontOf (ran_of S A u w.done) (S.B.at u (w.inst n).live)) (sym ((Decides-eqb j e.home).0 on))
          (record { seen = s.seen e.home; fold = s.live; front = s.fronts e.home }))
          (λ off. front_none (ran_of S A u w.done) (S.B.at u (w.inst j).live) (s.away j off))

  -- what a table gives
  pub selected_front : (ds : List Ran) (g : Unit → Bool) (t : S.B.T) → FrontOf ds (S.B.at u t) → FrontOf ds (record_at u (S.B.select g t))
  selected_front ds g t h = subst (λ o. FrontOf ds o)
      (sym (record_first u (S.B.select g t) ∙ ap first (laws.laws.selected u g t) ∙ first_of_one (if g u then S.B.at u t else None)))
      (by_if (FrontOf ds) (g u) h (front_none ds None refl))

  -- a packet of another unit
  pub same_after : (p : ℕ) (t : S.B.T) → same_unit (S.packet_unit p) u ≡ false → S.B.at u (process S t p) ≡ S.B.at u t
  same_after p t off = laws.written u (S.packet_unit p) (S.F.step (S.B.at (S.packet_unit p) t) p) t
      ∙ ap (λ b. if b then Some (S.F.step (S.B.at (S.packet_unit p) t) p) else S.B.at u t) off

  -- after a packet: the unit's, over the record that has seen all, or another's
  module _ (ds : List Ran) (p y : ℕ) (t : S.B.T) (all : same_unit (S.packet_unit p) u ≡ true → S.B.at u t ≡ runs S.F None ds) where
    pub its_then : same_unit (S.packet_unit p) u ≡ true → S.B.at u (process S t p) ≡ runs S.F None (ds ++ ran_of S A u ((p, y) ∷ []))
    its_then on =
        let same : S.packet_unit p ≡ u = same_unit-true (S.packet_unit p) u on in
        laws.written u (S.packet_unit p) (S.F.step (S.B.at (S.packet_unit p) t) p) t
        ∙ ap (λ b. if b then Some (S.F.step (S.B.at (S.packet_unit p) t) p) else S.B.at u t) on
        ∙ ap (λ v. Some (S.F.step (S.B.at v t) p)) same
        ∙ ap (λ o. Some (S.F.step o p)) (all on)
        ∙ sym (runs-append S.F None ds ((p, y) ∷ []))
        ∙ ap (λ b. runs S.F None (ds ++ (if b then (p, y) ∷ [] else []))) (sym on)

    pub processed_front : FrontOf ds (S.B.at u t) → FrontOf (ds ++ ran_of S A u ((p, y) ∷ [])) (S.B.at u (process S t p))
    processed_front h = either_way (same_unit (S.packet_unit p) u) (λ on. front_all (ds ++ ran_of S A u ((p, y) ∷ [])) (S.B.at u (process S t p)) (its_then on))
        (λ off. front_more ds (ran_of S A u ((p, y) ∷ [])) (S.B.at u (process S t p)) (subst (λ o. FrontOf ds o) (sym (same_after p t off)) h))

    chunk_of : (r : R) → S.B.at (S.packet_unit p) (process S t p) ≡ Some r
        → FrontOf (ds ++ ran_of S A u ((p, y) ∷ [])) (record_at u ((S.packet_unit p, r) ∷ []))
    chunk_of r is = either_way (same_unit (S.packet_unit p) u)
        (λ on.
        let same : S.packet_unit p ≡ u = same_unit-true (S.packet_unit p) u on in
        let mine : same_unit u (S.packet_unit p) ≡ true = same_unit_equiv.symm u (S.packet_unit p) ∙ on in
        let there : record_at u ((S.packet_unit p, r) ∷ []) ≡ Some r = rw mine refl in
        front_all (ds ++ ran_of S A u ((p, y) ∷ [])) (record_at u ((S.packet_unit p, r) ∷ []))
        (there ∙ sym is ∙ ap (λ v. S.B.at v (process S t p)) same ∙ its_then on))
        (λ off.
        let other : same_unit u (S.packet_unit p) ≡ false = same_unit_equiv.symm u (S.packet_unit p) ∙ off in
        front_none (ds ++ ran_of S A u ((p, y) ∷ [])) (record_at u ((S.packet_unit p, r) ∷ [])) (rw other refl))

    pub chunk_front : (n : ℕ) → EachSentNew (λ _ m. MsgFront (ds ++ ran_of S A u ((p, y) ∷ [])) m) (shared_chunk S A n p (process S t p))
    chunk_front n = elim (S.B.at (S.packet_unit p) (process S t p)) as (λ o. S.B.at (S.packet_unit p) (process S t p) ≡ o
        → EachSentNew (λ _ m. MsgFront (ds ++ ran_of S A u ((p, y) ∷ [])) m)
        (option_map_or (λ r. (1, New (ShareMsg.Shared n (S.packet_unit p, r))) ∷ []) o [])) [
          | None ↦ λ _. tt
          | Some r ↦ λ is. (chunk_of r is, tt)
        ] refl
