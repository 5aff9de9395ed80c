-- The lines of answers: each command of the script has one, with the one answer that the log has for it.
use Rattle.run_headline.proofs.Words.{◌≡◌, ℕ, ◌≤◌, Bool, true, false, ◌&&◌, ◌||◌, cond, Some, List, [], ◌∷◌, ◌++◌, length, map, refl, sym, ap, ◌∙◌, subst}
use Rattle.run_headline.proofs.Words.{arith, ◌==◌, filter, find, option_map, if◌then◌else◌, AllByRecursion, list_any, nat_cmp, is_lt, nat_tests, map-append}
use Rattle.run_headline.proofs.Words.{filter-append, or-false, or-true, Answer, Command, Order, Msg, Note, answers_of, commands, order_numbered, answer_in}
use Rattle.run_headline.proofs.Words.{by_number, put_in, sorted_by, is_answered}
use Rattle.std.proofs.Common.{append_assoc}
use Rattle.net_world.specs.Log.{answers_in}
use Rattle.net_world.proofs.PickedLists.{some_kept}
use Rattle.run_headline.proofs.SortedParts.{all_sorted}

-- an answer with the number of its command
abbrev pub Line : Type 0
Line = ℕ × Answer

-- whether a number stands among some
abbrev pub some : ℕ → List ℕ → Bool
some op ns = list_any (λ n. n == op) ns

-- answers to a command among those that were noted
abbrev pub has_answer : ℕ → List Line → Bool
has_answer op xs = list_any (λ a. a.0 == op) xs

-- what one of some has, or all, sorted or not
module _ (p : Line → Bool) where
  any_put : (x : Line) (ys : List Line) → list_any p (put_in (λ a. a.0) nat_cmp x ys) ≡ list_any p (x ∷ ys)
  any_put x [] = refl
  any_put x (y ∷ ys) = elim (is_lt (nat_cmp y.0 x.0)) as (λ b. list_any p (cond b (y ∷ put_in (λ a. a.0) nat_cmp x ys) (x ∷ y ∷ ys))
      ≡ list_any p (x ∷ y ∷ ys)) [
        | true ↦ ap (λ b. p y || b) (any_put x ys) ∙ turn (p y) (p x) (list_any p ys)
        | false ↦ refl
      ]
    where
      turn : (a b d : Bool) → (a || (b || d)) ≡ (b || (a || d))
      turn true true d = refl
      turn true false d = refl
      turn false true d = refl
      turn false false d = refl

  pub any_sorted : (xs : List Line) → list_any p (sorted_by (λ a. a.0) nat_cmp xs) ≡ list_any p xs
  any_sorted [] = refl
  any_sorted (x ∷ xs) = any_put x (sorted_by (λ a. a.0) nat_cmp xs) ∙ ap (λ b. p x || b) (any_sorted xs)

any_number : (op : ℕ) (xs : List Line) → has_answer op xs ≡ some op (map (λ a. a.0) xs)
any_number op [] = refl
any_number op (x ∷ xs) = ap (λ b. (x.0 == op) || b) (any_number op xs)

any_command : (op : ℕ) (cs : List Command) → list_any (λ c. c.op == op) cs ≡ some op (map (λ c. c.op) cs)
any_command op [] = refl
any_command op (c ∷ cs) = ap (λ b. (c.op == op) || b) (any_command op cs)

-- the answers to a command among some
abbrev own : ℕ → Line → Bool
own op x = x.0 == op

abbrev answers_among : ℕ → List Line → List Answer
answers_among op xs = map (λ x. x.1) (filter (own op) xs)

-- the one answer to a command stands among those that were noted
module _ (so : Answer → Bool) (a : Answer) (is_so : so a ≡ true) where
  so_there : (op : ℕ) (xs : List Line) → answers_among op xs ≡ a ∷ [] → is_answered so xs op ≡ true
  so_there op [] h = cc
  so_there op (x ∷ xs) h = elim (x.0 == op)
      as (λ b. map (λ y. y.1) (if b then x ∷ filter (own op) xs else filter (own op) xs) ≡ a ∷ [] → ((b && so x.1) || is_answered so xs op) ≡ true) [
        | true ↦ λ is. (let same : x.1 ≡ a = cc in subst (λ y. (so y || is_answered so xs op) ≡ true) (sym same) (rw is_so refl))
        | false ↦ λ is. so_there op xs is
      ] h

  pub so_answered : (op : ℕ) (log : List Note) → answers_of op log ≡ a ∷ [] → is_answered so (by_number answer_in log) op ≡ true
  so_answered op log h = any_sorted (λ x. (x.0 == op) && so x.1) (answers_in log) ∙ so_there op (answers_in log) h

-- and what stands there so is it
module _ (so : Answer → Bool) (a : Answer) where
  unanswered : (op : ℕ) (xs : List Line) → answers_among op xs ≡ [] → is_answered so xs op ≡ false
  unanswered op [] none = refl
  unanswered op (x ∷ xs) none = elim (x.0 == op)
      as (λ b. map (λ y. y.1) (if b then x ∷ filter (own op) xs else filter (own op) xs) ≡ [] → ((b && so x.1) || is_answered so xs op) ≡ false) [
        | true ↦ λ is. cc
        | false ↦ λ is. unanswered op xs is
      ] none

  is_so : (op : ℕ) (xs : List Line) → answers_among op xs ≡ a ∷ [] → is_answered so xs op ≡ true → so a ≡ true
  is_so op [] told h = cc
  is_so op (x ∷ xs) told h = elim (x.0 == op) as (λ b. map (λ y. y.1) (if b then x ∷ filter (own op) xs else filter (own op) xs) ≡ a ∷ []
      → ((b && so x.1) || is_answered so xs op) ≡ true → so a ≡ true) [
        | true ↦ λ is there.
            let same : x.1 ≡ a = cc in
            let none : answers_among op xs ≡ [] = cc in
            let off : is_answered so xs op ≡ false = unanswered op xs none in
            ap so (sym same) ∙ sym (or-false (so x.1)) ∙ ap (λ b. so x.1 || b) (sym off) ∙ there
        | false ↦ λ is there. is_so op xs is there
      ] told h

  pub answered_so : (op : ℕ) (log : List Note) → answers_of op log ≡ a ∷ [] → is_answered so (by_number answer_in log) op ≡ true → so a ≡ true
  answered_so op log told h = is_so op (answers_in log) told (sym (any_sorted (λ x. (x.0 == op) && so x.1) (answers_in log)) ∙ h)

-- the one answer of a list
one_answer : (found : List Answer) → 1 ≤ length found → length found ≤ 1 → (a : Answer) × (found ≡ a ∷ [])
one_answer [] some few = absurd (omega (arith, some))
one_answer (a ∷ []) some few = (a, refl)
one_answer (a ∷ b ∷ found) some few = absurd (omega (arith, few))

-- a command that is found is one of the commands
module _ (so : Command → Bool) (op : ℕ) (what : Order) (holds : so (record { op = op; what = what }) ≡ true) where
  pub found_any : (cs : List Command) → option_map (λ c. c.what) (find (λ c. c.op == op) cs) ≡ Some what → list_any so cs ≡ true
  found_any [] is = cc
  found_any (c ∷ cs) is = elim (c.op == op) as (λ b. (c.op == op) ≡ b → option_map (λ x. x.what) (cond b (Some c) (find (λ x. x.op == op) cs)) ≡ Some what
      → (so c || list_any so cs) ≡ true) [
        | true ↦ λ own here.
            let number : c.op ≡ op = grind (arith, nat_tests) in
            let order : c.what ≡ what = cc in
            let same : c ≡ record { op = op; what = what } = (λ i. record { op = number i; what = order i }) in
            let passes : so c ≡ true = ap so same ∙ holds in
            rw passes refl
        | false ↦ λ off more. let rest = found_any cs more in rw rest (or-true (so c))
      ] refl is

-- each answer in a log whose commands are answered at most once is the one to its command
module _ (log : List Note) (once : (op : ℕ) → length (answers_of op log) ≤ 1) where
  -- the one answer to the command of the line
  abbrev pub IsOnly : Line → Type 0
  IsOnly x = answers_of x.0 log ≡ x.1 ∷ []

  some_long : (xs : List Answer) (a : Answer) (ys : List Answer) → 1 ≤ length (xs ++ a ∷ ys)
  some_long [] a ys = omega arith
  some_long (x ∷ xs) a ys = omega arith

  alone : (xs : List Answer) (a : Answer) (ys : List Answer) → length (xs ++ a ∷ ys) ≤ 1 → xs ++ a ∷ ys ≡ a ∷ []
  alone [] a [] few = refl
  alone [] a (b ∷ ys) few = absurd (omega (arith, few))
  alone (x ∷ xs) a ys few = absurd (let long = some_long xs a ys in omega (arith, few, long))

  only_noted : (front rest : List Line) → answers_in log ≡ front ++ rest → AllByRecursion IsOnly rest
  only_noted front [] is = tt
  only_noted front (x ∷ rest) is =
      let k = x.0 in
      let same : (k == k) ≡ true = grind (arith, nat_tests) in
      let whole : answers_of k log ≡ answers_among k front ++ x.1 ∷ answers_among k rest =
      ap (answers_among k) is ∙ ap (map (λ y. y.1)) (filter-append (own k) front (x ∷ rest))
      ∙ map-append (λ y. y.1) (filter (own k) front) (filter (own k) (x ∷ rest))
      ∙ ap (λ b. answers_among k front ++ map (λ y. y.1) (if b then x ∷ filter (own k) rest else filter (own k) rest)) same in (
        whole ∙ alone (answers_among k front) x.1 (answers_among k rest) (subst (λ l. length l ≤ 1) whole (once k)),
        only_noted (front ++ x ∷ []) rest (is ∙ sym (append_assoc front (x ∷ []) rest)),
      )

  pub only : AllByRecursion IsOnly (by_number answer_in log)
  only = all_sorted (λ a. a.0) nat_cmp IsOnly (answers_in log) (only_noted [] (answers_in log) refl)

  -- each command has an answer in the log
  pub answer_to : (items : List Msg) → map (λ x. x.0) (by_number answer_in log) ≡ map (λ k. k.op) (commands items) → (op : ℕ) (what : Order)
      → order_numbered items op ≡ Some what → (a : Answer) × (answers_of op log ≡ a ∷ [])
  answer_to items numbers op what is =
      let same : (op == op) ≡ true = grind (arith, nat_tests) in
      let there : has_answer op (answers_in log) ≡ true = sym (any_sorted (λ a. a.0 == op) (answers_in log))
      ∙ any_number op (by_number answer_in log)
      ∙ ap (some op) numbers ∙ sym (any_command op (commands items)) ∙ found_any (λ c. c.op == op) op what same (commands items) is in
      one_answer (answers_of op log) (some_kept (own op) (λ x. x.1) (answers_in log) there) (once op)
