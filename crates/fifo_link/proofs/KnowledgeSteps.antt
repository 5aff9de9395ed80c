-- Each step of a link keeps its protocol.
use Rattle.std.proofs.Common.{◌≡◌, ◌≢◌, ◌<◌, ℕ, zero, suc, true, false, true≢false, List, [], ◌∷◌, ◌++◌, length, set}
use Rattle.std.proofs.Common.{sym, refl, ap, ◌∙◌, subst, ⊎_elim, append_assoc, append-nil, arith, length-append}
use mathlib.Core.Option.{some, some-ne-none}
use lib.ListN.{get_elem?}
use Rattle.crossbeam_queue.specs.Fifo.{Pushes, Pops, Forks, Merges, Learns}
use Rattle.crossbeam_queue.proofs.Lists.{at_set, at_snoc}
use Rattle.std.proofs.lemmas.List.{append_cancel_left}
use Rattle.fifo_link.specs.declared.knowledge.Transfer.{Transfer}
use Rattle.fifo_link.specs.declared.knowledge.Transfer.TheVariants.{Sent, Taken}
use Rattle.fifo_link.specs.declared.knowledge.Knowledge.{Knowledge}
use Rattle.fifo_link.specs.Transfers.{sent_in, taken_in, Leaves, SentSince, TakenSince, HeldSince, WasEmpty, AllDone}
use Rattle.fifo_link.specs.Knowledge.{LinkState, knows, FitsHolder, KeepsOrder, AfterSend, AfterTake}
use Rattle.fifo_link.proofs.TransferLemmas.{same_sent, same_taken, more_sent, one_sent, one_taken, sent_more, taken_more, none_sent, none_taken}

module _ {M : Type 0} where
  at_end : (l : List (Knowledge M)) (a b : Knowledge M) (j : ℕ) → get_elem? l j ≢ some b → get_elem? (l ++ a ∷ []) j ≡ some b → j ≡ length l
  at_end [] a b zero n e = refl
  at_end [] a b (suc j) n e = absurd (some-ne-none b (sym e))
  at_end (x ∷ xs) a b zero n e = absurd (n e)
  at_end (x ∷ xs) a b (suc j) n e = ap suc (at_end xs a b j n e)

  abbrev All : (ℕ → Knowledge M → Type 0) → List (Knowledge M) → Type 0
  All F views = (holder : ℕ) (v : Knowledge M) → get_elem? views holder ≡ some v → F holder v

  all_set : (F : ℕ → Knowledge M → Type 0) (views : List (Knowledge M)) (holder : ℕ) (w : Knowledge M) → F holder w
      → ((j : ℕ) (u : Knowledge M) → j ≢ holder → get_elem? views j ≡ some u → F j u) → All F (set views holder w)
  all_set F views holder w mine others j u e =
      ⊎_elim (λ (x : (j ≡ holder) × (w ≡ u)). subst (λ (y : ℕ × Knowledge M). F y.0 y.1) (λ i. (sym x.0 i, x.1 i)) mine)
      (λ (x : (j ≢ holder) × (get_elem? views j ≡ some u)). others j u x.0 x.1) (at_set views holder j w u e)

  -- one who may do nothing knows nothing
  no_right : (state : LinkState M) (holder : ℕ) → FitsHolder state holder (knows false false [] [])
  no_right state holder = ((λ p. absurd (true≢false (sym p))), λ p. absurd (true≢false (sym p)))

  -- a new queue holds nothing, and its first holder has both rights
  pub begins : KeepsOrder {M = M} [] (knows true true [] [] ∷ [])
  unfolding sent_in taken_in
  begins = (
    record { sender = 0; taker = 0; all = [] },
    refl,
    all_set (FitsHolder (record { sender = 0; taker = 0; all = [] })) (knows true true [] [] ∷ []) 0 (knows true true [] [])
        ((λ _. (refl, none_taken [])), λ _. (refl, none_sent [], ([], refl)))
        (λ j u other e. absurd (other (at_end [] _ u j (λ x. some-ne-none u (sym x)) e))),
  )

  -- the sender may send
  pub sends : (n holder : ℕ) (v : Knowledge M) (x : M) → v.sends ≡ true → Pushes KeepsOrder n holder v x (AfterSend v x)
  sends n holder v x may items views _ h at =
      let all : List (Transfer M) = h.0.all in
      let new : List (Transfer M) = all ++ Sent x ∷ [] in
      let now : LinkState M = record { sender = h.0.sender; taker = h.0.taker; all = new } in
      let w : Knowledge M = knows v.sends v.takes new v.taker in
      let mine = h.2 holder v at in
      let since = (mine.0 may).1 in (
        w,
        (
          now,
          (one_sent all x).0 ∙ ap (λ l. l ++ x ∷ []) h.1 ∙ append_assoc (taken_in all) items (x ∷ [])
              ∙ ap (λ l. l ++ (items ++ x ∷ [])) (sym ((one_sent all x).1)),
          all_set (FitsHolder now) views holder w
              ((λ _. ((mine.0 may).0, none_taken new)), λ p. ((mine.1 p).0, sent_more v.taker all x (mine.1 p).1, (mine.1 p).2))
              (λ j u other e. (
                (λ p. absurd (other (((h.2 j u e).0 p).0 ∙ sym (mine.0 may).0))),
                λ p. (((h.2 j u e).1 p).0, sent_more u.taker all x ((h.2 j u e).1 p).1, ((h.2 j u e).1 p).2),
              )),
        ),
        record {
          rights = (refl, refl);
          known = (all, since, refl);
          done = (one_sent all x).0 ∙ ap (λ l. l ++ x ∷ []) (same_sent v.sender all since);
          same = refl;
        },
      )

  -- the taker may take
  pub takes : (holder : ℕ) (v : Knowledge M) → v.takes ≡ true → Pops KeepsOrder holder v (AfterTake v)
  takes holder v may x items views h at =
      let all : List (Transfer M) = h.0.all in
      let new : List (Transfer M) = all ++ Taken x ∷ [] in
      let now : LinkState M = record { sender = h.0.sender; taker = h.0.taker; all = new } in
      let w : Knowledge M = knows v.sends v.takes v.sender new in
      let mine = h.2 holder v at in
      let since = (mine.1 may).1 in
      let left : Leaves new items = (one_taken all x).1 ∙ h.1 ∙ sym (append_assoc (taken_in all) (x ∷ []) items)
      ∙ ap (λ l. l ++ items) (sym ((one_taken all x).0)) in (
        w,
        (
          now,
          left,
          all_set (FitsHolder now) views holder w
              ((λ p. ((mine.0 p).0, taken_more v.sender all x (mine.0 p).1)), λ _. ((mine.1 may).0, none_sent new, (items, left)))
              (λ j u other e. (
                (λ p. (((h.2 j u e).0 p).0, taken_more u.sender all x ((h.2 j u e).0 p).1)),
                λ p. absurd (other (((h.2 j u e).1 p).0 ∙ sym (mine.1 may).0)),
              )),
        ),
        record {
          rights = (refl, refl);
          known = record { before = all; since = since; first = (items, h.1); new_is = refl };
          done = (one_taken all x).0 ∙ ap (λ l. l ++ x ∷ []) (same_taken v.taker all since);
          same = refl;
        },
      )

  -- what was sent is what was taken, and then what the queue holds
  totals_of : (sender taker all : List (Transfer M)) (items : List M) → TakenSince sender all → SentSince taker all → Leaves all items
      → sent_in sender ≡ taken_in taker ++ items
  totals_of sender taker all items t s leaves = sym (same_sent sender all t) ∙ leaves ∙ ap (λ l. l ++ items) (same_taken taker all s)

  -- the holder of both rights takes one more of what was sent
  pub drains : (holder : ℕ) (v : Knowledge M) → v.sends ≡ true → v.takes ≡ true
      → Pops KeepsOrder holder v (λ x w. AfterTake v x w × ((rest : List M) × (sent_in v.sender ≡ (taken_in v.taker ++ x ∷ []) ++ rest)))
  drains holder v a b x items views h at =
      let t = takes holder v b x items views h at in
      let mine = h.2 holder v at in (
        t.0,
        t.1,
        (t.2, (items, totals_of v.sender v.taker h.0.all (x ∷ items) (mine.0 a).1 (mine.1 b).1 h.1 ∙ sym (append_assoc (taken_in v.taker) (x ∷ []) items))),
      )

  -- the holder of both rights may give one of them away
  pub forks : (holder : ℕ) (v : Knowledge M) → v.sends ≡ true → v.takes ≡ true
      → Forks KeepsOrder holder v (knows true false v.sender v.taker) (knows false true v.sender v.taker)
  forks holder v a b items views h at =
      let l : Knowledge M = knows true false v.sender v.taker in
      let r : Knowledge M = knows false true v.sender v.taker in
      let mine = h.2 holder v at in
      let vs : List (Knowledge M) = set views holder l in
      let Old : ℕ → Knowledge M → Type 0 = λ j u. (u.sends ≡ true → (j ≡ h.0.sender) × TakenSince u.sender h.0.all) × (u.takes ≢ true) in
      let old : All Old vs = all_set Old views holder l ((λ _. mine.0 a), λ p. true≢false (sym p))
      (λ j u other e. ((h.2 j u e).0, λ p. other (((h.2 j u e).1 p).0 ∙ sym (mine.1 b).0))) in (
        record { sender = h.0.sender; taker = length vs; all = h.0.all },
        h.1,
        λ j u e. ⊎_elim (λ x. ((old j u x).0, λ p. absurd ((old j u x).1 p)))
            (λ (is : r ≡ u). (
              (λ p. absurd (true≢false (sym (ap (λ (y : Knowledge M). y.sends) is ∙ p)))),
              λ p. (
                at_end vs r u j (λ x. (old j u x).1 p) e,
                subst (λ (y : Knowledge M). SentSince y.taker h.0.all) is (mine.1 b).1,
                subst (λ (y : Knowledge M). (held : List M) × Leaves y.taker held) is (mine.1 b).2,
              ),
            ))
            (at_snoc vs r u j e),
      )

  -- the sender may take in the right to take
  pub merges : (holder : ℕ) (v : Knowledge M) (other : ℕ) (u : Knowledge M) → v.sends ≡ true → u.takes ≡ true
      → Merges KeepsOrder holder v other u (knows true true v.sender u.taker) (knows false false [] [])
  merges holder v other u a b items views h at two at' =
      let both : Knowledge M = knows true true v.sender u.taker in
      let mine = h.2 holder v at in
      let vs : List (Knowledge M) = set views holder both in
      let was : get_elem? views other ≡ some u = ⊎_elim (λ x. absurd (two x.0)) (λ x. x.1) (at_set views holder other both u at') in
      let theirs = (h.2 other u was).1 b in
      let state : LinkState M = record { sender = h.0.sender; taker = holder; all = h.0.all } in
      let Now : ℕ → Knowledge M → Type 0 = λ j y. j ≢ other → FitsHolder state j y in
      let now : All Now vs = all_set Now views holder both (λ _. ((λ _. mine.0 a), λ _. (refl, theirs.1, theirs.2)))
      (λ j y _ e apart. ((h.2 j y e).0, λ p. absurd (apart (((h.2 j y e).1 p).0 ∙ sym theirs.0)))) in
      (state, h.1, all_set (FitsHolder state) vs other (knows false false [] []) (no_right state other) (λ j y apart e. now j y e apart))

  -- the sender learns what the queue holds, after what was taken since its last message
  pub held_since : (holder : ℕ) (v : Knowledge M) → v.sends ≡ true → Learns KeepsOrder holder v (λ items. HeldSince v.sender items)
  held_since holder v a items views h at = (h.0.all, ((h.2 holder v at).0 a).1, h.1)

  none_of : (items : List M) → length items ≡ 0 → items ≡ []
  none_of [] e = refl
  none_of (x ∷ xs) e = absurd (cc)

  front_none : (a b : List M) → a ++ b ≡ [] → a ≡ []
  front_none [] b e = refl
  front_none (x ∷ xs) b e = absurd (cc)

  -- the taker learns of an empty queue that nothing was left after its last message
  pub was_empty : (holder : ℕ) (v : Knowledge M) → v.takes ≡ true → Learns KeepsOrder holder v (λ items. length items ≡ 0 → WasEmpty v.taker)
  was_empty holder v b items views h at none =
      let mine = (h.2 holder v at).1 b in
      let since = mine.1 in
      let held = mine.2.0 in
      let kept = mine.2.1 in
      let all : (taken_in v.taker ++ held) ++ since.0 ≡ taken_in v.taker ++ [] = ap (λ l. l ++ since.0) (sym kept) ∙ sym (more_sent v.taker h.0.all since)
      ∙ h.1 ∙ (λ i. same_taken v.taker h.0.all since i ++ none_of items none i) in
      kept ∙ ap (λ l. taken_in v.taker ++ l)
      (front_none held since.0 (append_cancel_left (taken_in v.taker) (held ++ since.0) [] (sym (append_assoc (taken_in v.taker) held since.0) ∙ all)))

  -- the holder of both rights learns all that was done
  pub totals : (holder : ℕ) (v : Knowledge M) → v.sends ≡ true → v.takes ≡ true
      → Learns KeepsOrder holder v (λ items. AllDone v.sender v.taker items × (sent_in v.sender ≡ taken_in v.taker ++ items))
  totals holder v a b items views h at =
      let mine = h.2 holder v at in
      let t = (mine.0 a).1 in
      let s = (mine.1 b).1 in
      (record { all = h.0.all; taken = t; sent = s; leaves = h.1 }, totals_of v.sender v.taker h.0.all items t s h.1)

  -- what was taken since the first look is what was held then, but for what is held at last
  drained : (first room rest : List M) (sender taker sender' taker' : List (Transfer M)) → sent_in sender ≡ taken_in taker ++ first → sender' ≡ sender
      → taken_in taker' ≡ taken_in taker ++ room
      → sent_in sender' ≡ taken_in taker' ++ rest → room ++ rest ≡ first
  drained first room rest sender taker sender' taker' whole same taken end =
      append_cancel_left (taken_in taker) (room ++ rest) first
      (sym (append_assoc (taken_in taker) room rest) ∙ ap (λ l. l ++ rest) (sym taken) ∙ sym end ∙ ap sent_in same ∙ whole)

  -- where nothing is held at last, it is all that was held at first
  pub all_drained : (first room rest : List M) (sender taker sender' taker' : List (Transfer M)) → sent_in sender ≡ taken_in taker ++ first
      → sender' ≡ sender → taken_in taker' ≡ taken_in taker ++ room
      → sent_in sender' ≡ taken_in taker' ++ rest → length rest ≡ 0 → room ≡ first
  all_drained first room rest sender taker sender' taker' whole same taken end none =
      sym (append-nil room) ∙ ap (λ l. room ++ l) (sym (none_of rest none)) ∙ drained first room rest sender taker sender' taker' whole same taken end

  -- one more that is held leaves the room smaller than what was held at first
  pub room_left : (first room rest : List M) (x : M) (sender taker sender' taker' : List (Transfer M)) → sent_in sender ≡ taken_in taker ++ first
      → sender' ≡ sender → taken_in taker' ≡ taken_in taker ++ room
      → sent_in sender' ≡ (taken_in taker' ++ x ∷ []) ++ rest → length room < length first
  room_left first room rest x sender taker sender' taker' whole same taken end =
      let e = ap length (drained first room (x ∷ rest) sender taker sender' taker' whole same taken (end ∙ append_assoc (taken_in taker') (x ∷ []) rest)) in
      omega (arith, e, length-append room (x ∷ rest))
