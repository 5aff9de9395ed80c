-- How open operations and the log go on together: an operation takes a message, is answered, is refused, or begins.
use Rattle.nf_net.proofs.Words.{◌≡◌, ℕ, suc, ◌<◌, ◌≤◌, Bool, true, false, cond, Some, None, List, [], ◌∷◌, ◌++◌, refl, sym, ap, ◌∙◌, subst, arith, map}
use Rattle.nf_net.proofs.Words.{if◌then◌else◌, ◌&&◌, ◌||◌, ◌==◌, not, is_some, nat_lt, unwrap_or, nat_tests, Decides-eqb, Decides-ltb, and-false, or-true}
use Rattle.nf_net.proofs.Words.{and-true, and_parts, Answer, Order, Note, Operation, OpenOperations, has_answered, is_begun, is_share, keeps_off, answers_of}
use Rattle.nf_net.proofs.Words.{MayBegin, has_begun-append, has_answered-append, answers_of-append, got_insert, got_remove, Given, Done, split}
use Rattle.std.specs.FinMap as finite
use Rattle.nf_net.proofs.answers.BusyLemmas.{AreOther, is_noted, is_outcome, IsAnswered, IsCauseIn, or_off, began_same, answered_same, keeps_same, answers_same}
use Rattle.nf_net.proofs.answers.BusyLemmas.{none_answered, unanswered, other_not_begun, other_not_answered, stays_answered, answered_begun, answered_refused}
use Rattle.nf_net.proofs.answers.BusyLemmas.{begun_now}
use Rattle.nf_net.proofs.answers.BusyOperations.{IsPlanned, HasAnswer, answers_to, IsBusy}

same_operation : (a b : Operation) → Some a ≡ Some b → a ≡ b
same_operation a b is = ap (λ o. unwrap_or o a) is

off_both : (a b : Bool) → a ≡ false → b ≡ false → a || b ≡ false
off_both a b e h = rw (e, h) refl

not_noted : (op : ℕ) (log notes : List Note) → is_noted op log ≡ false → is_begun op notes ≡ false → has_answered op notes ≡ false
    → is_noted op (log ++ notes) ≡ false
not_noted op log notes h a b =
    let off = or_off (is_begun op log) (has_answered op log) h in
    off_both (is_begun op (log ++ notes)) (has_answered op (log ++ notes)) (began_same op log notes a ∙ off.0) (answered_same op log notes b ∙ off.1)

-- a note of one number says nothing of another
apart_noted : (op k : ℕ) (a : Answer) → (k == op) ≡ false → has_answered k (Note.Answered op a ∷ []) ≡ false
apart_noted op k a off = let turned : (op == k) ≡ false = grind (arith, nat_tests) in rw turned refl

apart_begun : (op k : ℕ) → (k == op) ≡ false → is_begun k (Note.Begun op ∷ []) ≡ false
apart_begun op k off = let turned : (op == k) ≡ false = grind (arith, nat_tests) in rw turned refl

own_answer : (op : ℕ) (a : Answer) → answers_of op (Note.Answered op a ∷ []) ≡ a ∷ []
own_answer op a = let own : (op == op) ≡ true = grind (arith, nat_tests) in ap (λ b. map (λ (one : ℕ × Answer). one.1) (if b then (op, a) ∷ [] else [])) own

now_answered : (op : ℕ) (log : List Note) (a : Answer) → has_answered op (log ++ Note.Answered op a ∷ []) ≡ true
now_answered op log a =
    let own : (op == op) ≡ true = grind (arith, nat_tests) in
    has_answered-append op log (Note.Answered op a ∷ []) ∙ ap (λ b. has_answered op log || (b || false)) own ∙ or-true (has_answered op log)

module _ (g : Given) where
  -- an answer ends what isn't a share
  ended : (op : ℕ) (log : List Note) (a : Answer) → is_share (g.orders op) ≡ false → keeps_off g.names g.orders op (log ++ Note.Answered op a ∷ []) ≡ false
  ended op log a ends =
      let log2 = log ++ Note.Answered op a ∷ [] in
      ap (λ b. is_begun op log2 && (b || not (has_answered op log2))) ends ∙ ap (λ b. is_begun op log2 && not b) (now_answered op log a)
      ∙ and-false (is_begun op log2)

  -- and a share keeps others off behind it
  lasting : (op : ℕ) (log : List Note) (a : Answer) → is_share (g.orders op) ≡ true → is_begun op log ≡ true
      → keeps_off g.names g.orders op (log ++ Note.Answered op a ∷ []) ≡ true
  lasting op log a lasts begun =
      let log2 = log ++ Note.Answered op a ∷ [] in
      ap (λ b. is_begun op log2 && (b || not (has_answered op log2))) lasts ∙ and-true (is_begun op log2) ∙ began_same op log (Note.Answered op a ∷ []) refl
      ∙ begun

  started : (op : ℕ) (log : List Note) → has_answered op log ≡ false → keeps_off g.names g.orders op (log ++ Note.Begun op ∷ []) ≡ true
  started op log h =
      let own : (op == op) ≡ true = grind (arith, nat_tests) in
      let log2 = log ++ Note.Begun op ∷ [] in
      let begun : is_begun op log2 ≡ true = has_begun-append (λ k. k == op) log (Note.Begun op ∷ []) ∙ ap (λ b. is_begun op log || (b || false)) own
      ∙ or-true (is_begun op log) in
      ap (λ b. b && (is_share (g.orders op) || not (has_answered op log2))) begun
      ∙ ap (λ b. is_share (g.orders op) || not b) (answered_same op log (Note.Begun op ∷ []) refl ∙ h) ∙ or-true (is_share (g.orders op))

  kept_begun : (op : ℕ) (log : List Note) → keeps_off g.names g.orders op log ≡ true → is_begun op log ≡ true
  kept_begun op log on = (and_parts (is_begun op log) (is_share (g.orders op) || not (has_answered op log)) on).0

module _ (g : Given) (ops : OpenOperations) (log : List Note) (waits : List ℕ) (h : IsBusy g ops log waits) where
  -- notes of other things
  pub other_notes : (notes : List Note) → AreOther notes → IsBusy g ops (log ++ notes) waits
  other_notes notes other = record {
    busy = λ k. h.busy k ∙ sym (keeps_same g.names g.orders k log notes (other_not_begun k notes other) (other_not_answered k notes other));
    plan = h.plan;
    outcome = h.outcome;
    told = λ k x is. answers_same k log notes (other_not_answered k notes other) ∙ h.told k x is;
    next = h.next;
    rising = h.rising;
    unnoted = λ k late. not_noted k log notes (h.unnoted k late) (other_not_begun k notes other) (other_not_answered k notes other);
    answered = λ k. stays_answered g.names g.orders k log notes (other_not_begun k notes other) (other_not_answered k notes other) (h.answered k);
  }

  -- what is noted isn't ahead
  early : (op : ℕ) → is_begun op log ≡ true → op < h.next
  early op on = split (nat_lt op h.next) (λ _. op < h.next) (λ small. (Decides-ltb op h.next).0 small)
      (λ late.
      let none = or_off (is_begun op log) (has_answered op log) (h.unnoted op (let up : h.next ≤ op = grind (arith, nat_tests) in up)) in
      let never : true ≡ false = sym on ∙ none.0 in
      cc)

  module _ (op : ℕ) (m n : Operation) (there : finite.get ops op ≡ Some m) (planned : IsPlanned g op n) where
    begun_on : is_begun op log ≡ true
    begun_on = kept_begun g op log (sym (h.busy op) ∙ ap is_some there)

    at_own : (P : ℕ → Type 0) (k : ℕ) → (k == op) ≡ true → P op → P k
    at_own P k on own = subst P (sym ((Decides-eqb k op).0 on)) own

    -- its answer
    answered_now : (a : Answer) → is_outcome a ≡ true → answers_to m ≡ [] → (k : ℕ) → IsAnswered g.names g.orders k (log ++ Note.Answered op a ∷ [])
    answered_now a outcome none k = split (k == op) (λ _. IsAnswered g.names g.orders k (log ++ Note.Answered op a ∷ []))
        (λ on. at_own (λ j. IsAnswered g.names g.orders j (log ++ Note.Answered op a ∷ [])) k on
        (answered_begun g.names g.orders op log a begun_on (unanswered op log (h.told op m there ∙ none)) outcome (h.answered op)))
        (λ off. stays_answered g.names g.orders k log (Note.Answered op a ∷ []) refl (apart_noted op k a off) (h.answered k))

    unnoted_now : (a : Answer) (k : ℕ) → h.next ≤ k → is_noted k (log ++ Note.Answered op a ∷ []) ≡ false
    unnoted_now a k late =
        let small = early op begun_on in
        let off : (k == op) ≡ false = grind (arith, nat_tests) in not_noted k log (Note.Answered op a ∷ []) (h.unnoted k late) refl (apart_noted op k a off)

    -- another operation stands in its place
    module _ (after : OpenOperations) (is : (k : ℕ) → finite.get after k ≡ cond (k == op) (Some n) (finite.get ops k)) where
      planned_after : (k : ℕ) (x : Operation) → finite.get after k ≡ Some x → IsPlanned g k x
      planned_after k x there_too = split (k == op) (λ b. cond b (Some n) (finite.get ops k) ≡ Some x → IsPlanned g k x)
          (λ on e. at_own (λ j. IsPlanned g j x) k on (subst (IsPlanned g op) (same_operation n x e) planned)) (λ off e. h.plan k x e) (sym (is k) ∙ there_too)

      outcome_after : HasAnswer n → (k : ℕ) (x : Operation) → finite.get after k ≡ Some x → HasAnswer x
      outcome_after outcome k x there_too = split (k == op) (λ b. cond b (Some n) (finite.get ops k) ≡ Some x → HasAnswer x)
          (λ _ e. subst HasAnswer (same_operation n x e) outcome) (λ _ e. h.outcome k x e) (sym (is k) ∙ there_too)

      told_after : (notes : List Note) → answers_of op (log ++ notes) ≡ answers_to n → ((k : ℕ) → (k == op) ≡ false → has_answered k notes ≡ false)
          → (k : ℕ) (x : Operation) → finite.get after k ≡ Some x → answers_of k (log ++ notes) ≡ answers_to x
      told_after notes own others k x there_too =
          split (k == op) (λ b. cond b (Some n) (finite.get ops k) ≡ Some x → answers_of k (log ++ notes) ≡ answers_to x)
          (λ on e. at_own (λ j. answers_of j (log ++ notes) ≡ answers_to x) k on (own ∙ ap answers_to (same_operation n x e)))
          (λ off e. answers_same k log notes (others k off) ∙ h.told k x e) (sym (is k) ∙ there_too)

      -- it has taken a message
      pub turned : answers_to n ≡ answers_to m → HasAnswer n → IsBusy g after log waits
      turned same outcome = record {
        busy = λ k. ap is_some (is k)
            ∙ split (k == op) (λ b. is_some (cond b (Some n) (finite.get ops k)) ≡ keeps_off g.names g.orders k log)
            (λ on. at_own (λ j. true ≡ keeps_off g.names g.orders j log) k on (sym (sym (h.busy op) ∙ ap is_some there))) (λ off. h.busy k);
        plan = planned_after;
        outcome = outcome_after outcome;
        told = λ k x there_too. split (k == op) (λ b. cond b (Some n) (finite.get ops k) ≡ Some x → answers_of k log ≡ answers_to x)
            (λ on e. at_own (λ j. answers_of j log ≡ answers_to x) k on (h.told op m there ∙ sym same ∙ ap answers_to (same_operation n x e)))
            (λ off e. h.told k x e) (sym (is k) ∙ there_too);
        next = h.next;
        rising = h.rising;
        unnoted = h.unnoted;
        answered = h.answered;
      }

      -- a share is set up: it is answered, and stays open
      pub set_up : is_share (g.orders op) ≡ true → answers_to m ≡ [] → answers_to n ≡ Done ∷ [] → HasAnswer n
          → IsBusy g after (log ++ Note.Answered op Done ∷ []) waits
      set_up lasts none now outcome = record {
        busy = λ k. ap is_some (is k) ∙ split (k == op)
            (λ b. is_some (cond b (Some n) (finite.get ops k)) ≡ keeps_off g.names g.orders k (log ++ Note.Answered op Done ∷ []))
            (λ on. at_own (λ j. true ≡ keeps_off g.names g.orders j (log ++ Note.Answered op Done ∷ [])) k on
            (sym (lasting g op log Done lasts begun_on)))
            (λ off. h.busy k ∙ sym (keeps_same g.names g.orders k log (Note.Answered op Done ∷ []) refl (apart_noted op k Done off)));
        plan = planned_after;
        outcome = outcome_after outcome;
        told = told_after (Note.Answered op Done ∷ []) (answers_of-append op log (Note.Answered op Done ∷ [])
            ∙ ap (λ xs. xs ++ answers_of op (Note.Answered op Done ∷ [])) (h.told op m there ∙ none) ∙ own_answer op Done ∙ sym now)
            (λ k off. apart_noted op k Done off);
        next = h.next;
        rising = h.rising;
        unnoted = unnoted_now Done;
        answered = answered_now Done refl none;
      }

    -- it is answered and closed
    pub closed : (a : Answer) → is_outcome a ≡ true → is_share (g.orders op) ≡ false → answers_to m ≡ []
        → IsBusy g (finite.remove ops op) (log ++ Note.Answered op a ∷ []) waits
    closed a outcome ends none = record {
      busy = λ k. ap is_some (got_remove ops op k) ∙ split (k == op)
          (λ b. is_some (cond b None (finite.get ops k)) ≡ keeps_off g.names g.orders k (log ++ Note.Answered op a ∷ []))
          (λ on. at_own (λ j. false ≡ keeps_off g.names g.orders j (log ++ Note.Answered op a ∷ [])) k on (sym (ended g op log a ends)))
          (λ off. h.busy k ∙ sym (keeps_same g.names g.orders k log (Note.Answered op a ∷ []) refl (apart_noted op k a off)));
      plan = λ k x is. split (k == op) (λ b. cond b None (finite.get ops k) ≡ Some x → IsPlanned g k x) (λ _ e. cc) (λ _ e. h.plan k x e)
          (sym (got_remove ops op k) ∙ is);
      outcome = λ k x is. split (k == op) (λ b. cond b None (finite.get ops k) ≡ Some x → HasAnswer x) (λ _ e. cc) (λ _ e. h.outcome k x e)
          (sym (got_remove ops op k) ∙ is);
      told = λ k x is.
          split (k == op) (λ b. cond b None (finite.get ops k) ≡ Some x → answers_of k (log ++ Note.Answered op a ∷ []) ≡ answers_to x) (λ on e. cc)
          (λ off e. answers_same k log (Note.Answered op a ∷ []) (apart_noted op k a off) ∙ h.told k x e) (sym (got_remove ops op k) ∙ is);
      next = h.next;
      rising = h.rising;
      unnoted = unnoted_now a;
      answered = answered_now a outcome none;
    }

-- The first command that waits.
module _ (g : Given) (ops : OpenOperations) (log : List Note) (op : ℕ) (waits : List ℕ) (h : IsBusy g ops log (op ∷ waits)) where
  is_new : is_noted op log ≡ false
  is_new = h.unnoted op h.rising.0

  still_new : (is_begun op log ≡ false) × (has_answered op log ≡ false)
  still_new = or_off (is_begun op log) (has_answered op log) is_new

  not_kept : keeps_off g.names g.orders op log ≡ false
  not_kept = ap (λ b. b && (is_share (g.orders op) || not (has_answered op log))) still_new.0

  not_open : (x : Operation) → finite.get ops op ≡ Some x → ⊥
  not_open x there = let never : true ≡ false = sym (ap is_some there) ∙ h.busy op ∙ not_kept in cc

  later_off : (k : ℕ) → suc op ≤ k → (k == op) ≡ false
  later_off k late = grind (arith, nat_tests)

  later_new : (k : ℕ) → suc op ≤ k → is_noted k log ≡ false
  later_new k late = h.unnoted k (let first = h.rising.0 in omega (arith, first, late))

  on_own : (P : ℕ → Type 0) (k : ℕ) → (k == op) ≡ true → P op → P k
  on_own P k on own = subst P (sym ((Decides-eqb k op).0 on)) own

  -- it is dropped
  pub dropped : IsBusy g ops log waits
  dropped = record {
    busy = h.busy;
    plan = h.plan;
    outcome = h.outcome;
    told = h.told;
    next = suc op;
    rising = h.rising.1;
    unnoted = later_new;
    answered = h.answered;
  }

  -- it is refused
  pub refused : (what : Order) (a : Answer) → g.orders op ≡ Some what → IsCauseIn g.names g.orders a what log
      → IsBusy g ops (log ++ Note.Answered op a ∷ []) waits
  refused what a known cause = record {
    busy = λ k. h.busy k
        ∙ split (k == op) (λ _. keeps_off g.names g.orders k log ≡ keeps_off g.names g.orders k (log ++ Note.Answered op a ∷ []))
        (λ on. on_own (λ j. keeps_off g.names g.orders j log ≡ keeps_off g.names g.orders j (log ++ Note.Answered op a ∷ [])) k on
        (not_kept ∙ sym (ap (λ b. b && (is_share (g.orders op) || not (has_answered op (log ++ Note.Answered op a ∷ []))))
        (began_same op log (Note.Answered op a ∷ []) refl ∙ still_new.0))))
        (λ off. sym (keeps_same g.names g.orders k log (Note.Answered op a ∷ []) refl (apart_noted op k a off)));
    plan = h.plan;
    outcome = h.outcome;
    told = λ k x is. split (k == op) (λ _. answers_of k (log ++ Note.Answered op a ∷ []) ≡ answers_to x)
        (λ on. absurd (not_open x (ap (finite.get ops) (sym ((Decides-eqb k op).0 on)) ∙ is)))
        (λ off. answers_same k log (Note.Answered op a ∷ []) (apart_noted op k a off) ∙ h.told k x is);
    next = suc op;
    rising = h.rising.1;
    unnoted = λ k late. not_noted k log (Note.Answered op a ∷ []) (later_new k late) refl (apart_noted op k a (later_off k late));
    answered = λ k. split (k == op) (λ _. IsAnswered g.names g.orders k (log ++ Note.Answered op a ∷ []))
        (λ on. on_own (λ j. IsAnswered g.names g.orders j (log ++ Note.Answered op a ∷ [])) k on
        (answered_refused g.names g.orders op log a what is_new known cause))
        (λ off. stays_answered g.names g.orders k log (Note.Answered op a ∷ []) refl (apart_noted op k a off) (h.answered k));
  }

  -- it begins
  pub begun : (what : Order) (n : Operation) → g.orders op ≡ Some what → MayBegin g.names g.orders what log → IsPlanned g op n → HasAnswer n
      → answers_to n ≡ [] → IsBusy g (finite.insert ops op n) (log ++ Note.Begun op ∷ []) waits
  begun what n known may plan outcome none = record {
    busy = λ k. ap is_some (got_insert ops op k n)
        ∙ split (k == op) (λ b. is_some (cond b (Some n) (finite.get ops k)) ≡ keeps_off g.names g.orders k (log ++ Note.Begun op ∷ []))
        (λ on. on_own (λ j. true ≡ keeps_off g.names g.orders j (log ++ Note.Begun op ∷ [])) k on (sym (started g op log still_new.1)))
        (λ off. h.busy k ∙ sym (keeps_same g.names g.orders k log (Note.Begun op ∷ []) (apart_begun op k off) refl));
    plan = λ k x is. split (k == op) (λ b. cond b (Some n) (finite.get ops k) ≡ Some x → IsPlanned g k x)
        (λ on e. on_own (λ j. IsPlanned g j x) k on (subst (IsPlanned g op) (same_operation n x e) plan)) (λ off e. h.plan k x e)
        (sym (got_insert ops op k n) ∙ is);
    outcome = λ k x is. split (k == op) (λ b. cond b (Some n) (finite.get ops k) ≡ Some x → HasAnswer x)
        (λ _ e. subst HasAnswer (same_operation n x e) outcome) (λ _ e. h.outcome k x e) (sym (got_insert ops op k n) ∙ is);
    told = λ k x is.
        split (k == op) (λ b. cond b (Some n) (finite.get ops k) ≡ Some x → answers_of k (log ++ Note.Begun op ∷ []) ≡ answers_to x)
        (λ on e. on_own (λ j. answers_of j (log ++ Note.Begun op ∷ []) ≡ answers_to x) k on
        (answers_same op log (Note.Begun op ∷ []) refl ∙ none_answered op log still_new.1 ∙ sym none ∙ ap answers_to (same_operation n x e)))
        (λ off e. answers_same k log (Note.Begun op ∷ []) refl ∙ h.told k x e) (sym (got_insert ops op k n) ∙ is);
    next = suc op;
    rising = h.rising.1;
    unnoted = λ k late. not_noted k log (Note.Begun op ∷ []) (later_new k late) (apart_begun op k (later_off k late)) refl;
    answered = λ k. split (k == op) (λ _. IsAnswered g.names g.orders k (log ++ Note.Begun op ∷ []))
        (λ on. on_own (λ j. IsAnswered g.names g.orders j (log ++ Note.Begun op ∷ [])) k on (begun_now g.names g.orders op log what is_new known may))
        (λ off. stays_answered g.names g.orders k log (Note.Begun op ∷ []) (apart_begun op k off) refl (h.answered k));
  }
