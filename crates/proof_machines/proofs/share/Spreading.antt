-- Each move while a Sync goes round among the members.
use Rattle.std.proofs.Common.{◌≡◌, ℕ, ◌+◌, ◌-◌, Bool, true, false, cond, ◌==◌, Option, List, [], ◌∷◌, ◌++◌, map, inl, inr, refl, sym, ap, subst, ◌∙◌}
use Rattle.std.proofs.Common.{append-nil, true≢false, arith}
use Rattle.std.proofs.lemmas.Bool.Decides.{nat_tests, Decides-eqb}
use Rattle.proof_machines.proofs.share.Share.{Ran, Item, Item.Diverted, Item.Sync, Item.Synced, UnitShare, View, ShareMachineStep, ShareMachineStep.Arrive}
use Rattle.proof_machines.proofs.share.Share.{ShareMachineStep.Take_sc, ShareMachineStep.Take_to, ShareMachineStep.Take_back, has, if_mine, after, over, put}
use Rattle.proof_machines.proofs.share.Share.{moved, from_to, from_back, put_ctrl, waits, serves}
use Rattle.copy_share.specs.declared.share_phase.SharePhase.TheVariants.{Setting, Idle, Syncing}
use Rattle.proof_machines.proofs.share.Stages.{Turn, Turn.Going, Turn.Coming, Turn.Quiet, is_going, is_pending, goes_to, comes_from, count, Stage}
use Rattle.proof_machines.proofs.share.Stages.{Stage.Spreads, Stage.Resting, Stage.Forwards, shape, served, IsFront, FitsSpread, Behind, brings, Leads}
use Rattle.proof_machines.proofs.share.Lists.{count-put, count-zero, pending-put}
use Rattle.proof_machines.proofs.share.Setting.{links, orders, front_same, alike_in, same_but_sc, same_but_to, leads, leads_same, stays}
use Rattle.proof_machines.proofs.share.Records.{not_pending}
use Rattle.proof_machines.proofs.Tests.{split}
use Rattle.std.proofs.lemmas.Bool.{false_from_ne_true}

module _ {R : Type 0} (f : UnitShare R) where
  module _ (d : List Ran) (e : List ℕ) (b : ℕ → List Ran) (c : Option R) (at : ℕ → Turn) (o : List ℕ) (left : ℕ) (q v : List ℕ)
      (h : FitsSpread f (d ++ served f e) (record { seen = b; chunk = c; turn = at; asked = o; left = left })) where
    abbrev n : List Ran
    n = d ++ served f e

    abbrev here : Bool → Stage R
    here first = Spreads first d e b c at o left q v

    arrive : (first : Bool) (p : ℕ) → Leads f (here first) (moved f (shape f (here first)) (Arrive p)) (if_mine f p)
    arrive first p =
        leads_same f (Spreads first d e b c at o left q (v ++ p ∷ [])) h (same_but_sc f _ _ (simp links)) (simp orders) (simp orders) (λ k. refl)

    -- where home still has to take its Sync, it is as far behind as it was
    still_behind : (t : Turn) → is_going t ≡ false → (j : ℕ) → is_pending (at j) ≡ true → is_going (put at j t f.home) ≡ true
        → Behind f (b f.home) n (put at j t)
    still_behind t off j on g =
        let before : is_going (at f.home) ≡ true = elim (f.home == j) as (λ s. is_going (cond s t (at f.home)) ≡ true → is_going (at f.home) ≡ true)
        [ true ↦ λ bad. let never : false ≡ true = sym off ∙ bad in cc | false ↦ λ good. good ] g in
        elim (h.lately before) as (λ _. Behind f (b f.home) n (put at j t)) [
          | inl a ↦ inl a
          | inr a ↦ inr (a.0, (a.1.0, pending-put at j (f.member_of a.0) t on a.1.1))
        ]

    -- a Sync is taken
    going : (first : Bool) (j : ℕ) → at j ≡ Going → has o j ≡ true → Leads f (here first) (from_to f (shape f (here first)) j (Sync c ∷ [])) []
    going first j is there = record {
      next = Spreads first d e b c (put at j Coming) o left q v;
      fits = record {
        gives = h.gives;
        fronts = h.fronts;
        counts = let more = count-put at j Coming o h.apart there in
            let one : is_pending (at j) ≡ true = rw is refl in let same = rw one at more in omega (arith, same, h.counts);
        some = h.some;
        sent = λ k. split (k == j) (λ t. is_pending (cond t Coming (at k)) ≡ true → has o k ≡ true) (λ s _. rw ((Decides-eqb k j).0 s) there)
            (λ _ p. h.sent k p);
        lately = still_behind Coming refl j (rw is refl);
        inside = h.inside;
        apart = h.apart;
      };
      alike = alike_in f (λ k. refl)
          (λ k. elim (k == j) as (λ t. cond t [] (goes_to c (at k)) ≡ goes_to c (cond t Coming (at k))) [ true ↦ refl | false ↦ refl ])
          (λ k. split (k == j) (λ t. comes_from {R = R} (at k) ++ cond t (Synced ∷ []) [] ≡ comes_from (cond t Coming (at k)))
          (λ s. let goes : at k ≡ Going = rw ((Decides-eqb k j).0 s) is in rw goes refl)
          (λ _. append-nil (comes_from (at k))))
          (λ k m. split (k == j) (λ t. cond t (over c (after f (cond (is_going (at j)) (b j) n))) (after f (cond (is_going (at k)) (b k) n))
          ≡ after f (cond (is_going (cond t Coming (at k))) (b k) n))
          (λ s. rw is (h.gives j (subst (λ y. has f.members y ≡ true) ((Decides-eqb k j).0 s) m)))
          (λ _. refl))
          (append-nil n);
      early_is = simp orders;
      late_is = simp orders;
      longer = λ k _. split (k == j) (λ t. IsFront (cond (is_going (at k)) (b k) n) (cond (is_going (cond t Coming (at k))) (b k) n))
          (λ _. elim (is_going (at k)) as (λ g. IsFront (cond g (b k) n) n) [ true ↦ h.fronts k | false ↦ front_same n ])
          (λ _. front_same (cond (is_going (at k)) (b k) n));
    }

    -- one answer fewer is waited for
    fewer : (j : ℕ) → at j ≡ Coming → has o j ≡ true → count (put at j Quiet) o + 1 ≡ left
    fewer j is there =
        let less = count-put at j Quiet o h.apart there in
        let one : is_pending (at j) ≡ true = rw is refl in let same = rw one at less in omega (arith, same, h.counts)

    still_sent : (j k : ℕ) → is_pending (put at j Quiet k) ≡ true → has o k ≡ true
    still_sent j k = elim (k == j) as (λ t. is_pending (cond t Quiet (at k)) ≡ true → has o k ≡ true) [ true ↦ λ w. cc | false ↦ λ p. h.sent k p ]

    one_less : (j : ℕ) → at j ≡ Coming → has o j ≡ true → (left - 1 == 0) ≡ false
        → FitsSpread f n (record { seen = b; chunk = c; turn = put at j Quiet; asked = o; left = left - 1 })
    one_less j is there more = record {
      gives = h.gives;
      fronts = h.fronts;
      counts = let less = fewer j is there in omega arith;
      some = more;
      sent = still_sent j;
      lately = still_behind Quiet refl j (rw is refl);
      inside = h.inside;
      apart = h.apart;
    }

    -- the last answer: then every other member is quiet
    all_quiet : (j : ℕ) → at j ≡ Coming → has o j ≡ true → left ≡ 1 → (k : ℕ) → is_pending (put at j Quiet k) ≡ false
    all_quiet j is there last k =
        let zero : count (put at j Quiet) o ≡ 0 = let less = fewer j is there in omega arith in
        false_from_ne_true (is_pending (put at j Quiet k)) (λ p. true≢false (sym p ∙ count-zero (put at j Quiet) o zero k (still_sent j k p)))

    quiet_to : (t : Turn) → is_pending t ≡ false → goes_to c t ≡ []
    quiet_to Going e = cc
    quiet_to turn e = refl

    quiet_back : (t : Turn) → is_pending t ≡ false → ◌≡◌ {A = List (Item R)} (comes_from t) []
    quiet_back Quiet e = refl
    quiet_back turn e = cc

    gone_back : (j : ℕ) → ((k : ℕ) → is_pending (put at j Quiet k) ≡ false) → (k : ℕ) → cond (k == j) [] (comes_from {R = R} (at k)) ≡ []
    gone_back j off k = split (k == j) (λ t. is_pending (cond t Quiet (at k)) ≡ false → cond t [] (comes_from {R = R} (at k)) ≡ []) (λ _. λ _. refl)
        (λ _. λ p. quiet_back (at k) p) (off k)

    -- what sees no difference between an answer on its way and none
    quiet_as : {X : Type 0} (j : ℕ) → at j ≡ Coming → (g : Turn → X) → g Coming ≡ g Quiet → (k : ℕ) → g (at k) ≡ g (put at j Quiet k)
    quiet_as j is g same k = split (k == j) (λ t. g (at k) ≡ g (cond t Quiet (at k)))
        (λ s. let comes : at k ≡ Coming = rw ((Decides-eqb k j).0 s) is in ap g comes ∙ same)
        (λ _. refl)

    gone_to : (j : ℕ) → at j ≡ Coming → ((k : ℕ) → is_pending (put at j Quiet k) ≡ false) → (k : ℕ) → goes_to c (at k) ≡ []
    gone_to j is off k = quiet_as j is (goes_to c) refl k ∙ quiet_to (put at j Quiet k) (off k)

    not_going : (j : ℕ) → at j ≡ Coming → ((k : ℕ) → is_pending (put at j Quiet k) ≡ false) → (k : ℕ) → is_going (at k) ≡ false
    not_going j is off k = quiet_as j is is_going refl k ∙ not_pending (put at j Quiet k) (off k)

    -- once an answer is taken
    abbrev answer_taken : Bool → ℕ → View R
    answer_taken first j = record (shape f (here first)) { back = put (λ k. comes_from (at k)) j [] }

    -- more answers are waited for
    next_answer : (first : Bool) (j : ℕ) → at j ≡ Coming → has o j ≡ true → (left - 1 == 0) ≡ false
        → Leads f (here first) (put_ctrl (answer_taken first j) (waits (cond first (Setting (left - 1)) (Syncing (left - 1))) q)) []
    next_answer first j is there more = record {
      next = Spreads first d e b c (put at j Quiet) o (left - 1) q v;
      fits = one_less j is there more;
      alike = alike_in f (λ k. refl) (λ k. append-nil (goes_to c (at k)) ∙ quiet_as j is (goes_to c) refl k)
          (λ k. elim (k == j) as (λ t. cond t [] (comes_from {R = R} (at k)) ≡ comes_from (cond t Quiet (at k))) [ true ↦ refl | false ↦ refl ])
          (λ k _. quiet_as j is (λ t. after f (cond (is_going t) (b k) n)) refl k) refl;
      early_is = simp orders;
      late_is = simp orders;
      longer = λ k _. subst (λ xs. IsFront (cond (is_going (at k)) (b k) n) xs) (quiet_as j is (λ t. cond (is_going t) (b k) n) refl k)
          (front_same (cond (is_going (at k)) (b k) n));
    }

    -- it was the last: the next packet of the queue is served
    last_answer : (first : Bool) (j : ℕ) → at j ≡ Coming → has o j ≡ true → left ≡ 1
        → Leads f (here first) (put_ctrl (answer_taken first j) (serves f (waits Idle q))) []
    last_answer first j is there last =
        let off = all_quiet j is there last in
        let to : (k : ℕ) → goes_to c (at k) ++ [] ≡ [] = λ k. append-nil (goes_to c (at k)) ∙ gone_to j is off k in
        elim q as (λ qs. Leads f (Spreads first d e b c at o left qs v)
        (put_ctrl (record (shape f (Spreads first d e b c at o left qs v)) { back = put (λ k. comes_from (at k)) j [] }) (serves f (waits Idle qs))) []) [
          | [] ↦ leads f (Resting d e v) tt (alike_in f (λ k. refl) to (gone_back j off) (λ k _. rw (not_going j is off k) refl) refl) (simp orders)
              (simp orders) (λ k _. rw (not_going j is off k) (front_same n))
          | p ∷ qs ↦ leads f (Forwards d e p qs v) tt (alike_in f (λ k. refl) to (gone_back j off) (λ k _. rw (not_going j is off k) refl) refl)
              (simp orders) (simp orders) (λ k _. rw (not_going j is off k) (front_same n))
        ]

    last_one : (left - 1 == 0) ≡ true → left ≡ 1
    last_one last = let before = h.some in grind (arith, nat_tests)

    answered : (first : Bool) (j : ℕ) → at j ≡ Coming → Leads f (here first) (from_back f (shape f (here first)) j (Synced ∷ [])) []
    answered true j is =
        let there = h.sent j (rw is refl) in
        split (left - 1 == 0) (λ t. Leads f (here true) (put_ctrl (answer_taken true j) (serves f (cond t (waits Idle q) (waits (Setting (left - 1)) q)))) [])
        (λ last. last_answer true j is there (last_one last)) (next_answer true j is there)
    answered false j is =
        let there = h.sent j (rw is refl) in
        split (left - 1 == 0) (λ t. Leads f (here false) (put_ctrl (answer_taken false j) (serves f (waits (cond t Idle (Syncing (left - 1))) q))) [])
        (λ last. last_answer false j is there (last_one last)) (next_answer false j is there)

    taken_to : (first : Bool) (j : ℕ) → Leads f (here first) (moved f (shape f (here first)) (Take_to j)) []
    taken_to first j = elim (at j) as (λ t. at j ≡ t → Leads f (here first) (from_to f (shape f (here first)) j (goes_to c t)) []) [
      | Going ↦ λ is. going first j is (h.sent j (rw is refl))
      | Coming ↦ λ _. stays f (here first) h
      | Quiet ↦ λ _. stays f (here first) h
    ] refl

    taken_back : (first : Bool) (j : ℕ) → Leads f (here first) (moved f (shape f (here first)) (Take_back j)) []
    taken_back first j = elim (at j) as (λ t. at j ≡ t → Leads f (here first) (from_back f (shape f (here first)) j (comes_from t)) []) [
      | Going ↦ λ _. stays f (here first) h
      | Coming ↦ λ is. answered first j is
      | Quiet ↦ λ _. stays f (here first) h
    ] refl

    -- what is diverted comes into the queue
    queued : (first : Bool) (p : ℕ) → Leads f (Spreads first d e b c at o left q (p ∷ v))
        (put_ctrl (record (shape f (Spreads first d e b c at o left q (p ∷ v))) { sc = map Diverted v })
        (waits (cond first (Setting left) (Syncing left)) (q ++ p ∷ []))) []
    queued first p = leads_same f (Spreads first d e b c at o left (q ++ p ∷ []) v) h (same_but_to f _ _ (λ k. append-nil (goes_to c (at k))))
        (simp orders) (simp orders) (λ k. refl)

  pub spreads : (first : Bool) (d : List Ran) (e : List ℕ) (b : ℕ → List Ran) (c : Option R) (at : ℕ → Turn) (o : List ℕ) (left : ℕ) (q v : List ℕ)
      (h : FitsSpread f (d ++ served f e) (record { seen = b; chunk = c; turn = at; asked = o; left = left })) (m : ShareMachineStep)
      → Leads f (Spreads first d e b c at o left q v) (moved f (shape f (Spreads first d e b c at o left q v)) m) (brings f m)
  spreads first d e b c at o left q v h (Arrive p) = arrive d e b c at o left q v h first p
  spreads first d e b c at o left q v h (Take_to j) = taken_to d e b c at o left q v h first j
  spreads first d e b c at o left q v h (Take_back j) = taken_back d e b c at o left q v h first j
  spreads first d e b c at o left q [] h Take_sc = stays f (Spreads first d e b c at o left q []) h
  spreads true d e b c at o left q (p ∷ v) h Take_sc = queued d e b c at o left q v h true p
  spreads false d e b c at o left q (p ∷ v) h Take_sc = queued d e b c at o left q v h false p
  spreads first d e b c at o left q v h m = stays f (Spreads first d e b c at o left q v) h
