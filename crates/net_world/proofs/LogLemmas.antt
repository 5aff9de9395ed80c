-- What is read off a log that goes on.
use Rattle.std.proofs.Common.{◌≡◌, ℕ, ◌+◌, Bool, true, List, ◌∷◌, ◌++◌, map, ap, ◌∙◌, arith}
use Rattle.std.specs.Prelude.{◌==◌, ◌||◌, cond, count_by, filter}
use Rattle.std.specs.List.{list_any}
use Rattle.std.proofs.lemmas.Bool.Decides.{nat_tests}
use Rattle.std.proofs.lemmas.List.{map-append}
use Rattle.std.proofs.lemmas.List.Elements.{filter-append, filter_map-append}
use Rattle.std.proofs.lemmas.List.Folds.{list_any-append}
use Rattle.std.proofs.lemmas.List.Sums.{sum_by-append, sum_by-cons}
use Rattle.nf_msgs.specs.declared.answer.Answer.{Answer}
use Rattle.nf_msgs.specs.declared.note.Note.{Note}
use Rattle.net_world.specs.Commands.{answers_of, has_answered, times_begun, times_installed}
use Rattle.net_world.specs.Log.{answer_in, answers_in, arrival_in, arrivals_in, begin_in, begins_in, change_in, dones_in, done_in, has_begun, installs_in}

pub arrived-append : (xs ys : List Note) → arrivals_in (xs ++ ys) ≡ arrivals_in xs ++ arrivals_in ys
arrived-append xs ys = filter_map-append arrival_in xs ys

pub done-append : (xs ys : List Note) → dones_in (xs ++ ys) ≡ dones_in xs ++ dones_in ys
done-append xs ys = filter_map-append done_in xs ys

pub installed-append : (xs ys : List Note) → installs_in (xs ++ ys) ≡ installs_in xs ++ installs_in ys
installed-append xs ys = filter_map-append change_in xs ys

pub has_begun-append : (these : ℕ → Bool) (xs ys : List Note) → has_begun these (xs ++ ys) ≡ has_begun these xs || has_begun these ys
has_begun-append these xs ys = ap (list_any these) (filter_map-append begin_in xs ys) ∙ list_any-append these (begins_in xs) (begins_in ys)

pub times_begun-append : (op : ℕ) (xs ys : List Note) → times_begun op (xs ++ ys) ≡ times_begun op xs + times_begun op ys
times_begun-append op xs ys =
    ap (count_by (λ k. k == op)) (filter_map-append begin_in xs ys) ∙ sum_by-append (λ k. cond (k == op) 1 0) (begins_in xs) (begins_in ys)

pub times_installed-append : (op : ℕ) (xs ys : List Note) → times_installed op (xs ++ ys) ≡ times_installed op xs + times_installed op ys
times_installed-append op xs ys =
    ap (count_by (λ k. k == op)) (filter_map-append change_in xs ys) ∙ sum_by-append (λ k. cond (k == op) 1 0) (installs_in xs) (installs_in ys)

-- one more
pub counted_now : (op : ℕ) (ops : List ℕ) → count_by (λ k. k == op) (op ∷ ops) ≡ 1 + count_by (λ k. k == op) ops
counted_now op ops =
    let own : (op == op) ≡ true = grind (arith, nat_tests) in
    sum_by-cons (λ k. cond (k == op) 1 0) op ops ∙ ap (λ b. cond b 1 0 + count_by (λ k. k == op) ops) own

-- the commands that were answered, and their answers
module _ (op : ℕ) where
  abbrev own : ℕ × Answer → Bool
  own one = one.0 == op

  abbrev answers_among : List (ℕ × Answer) → List Answer
  answers_among all = map (λ one. one.1) (filter own all)

  pub has_answered-append : (xs ys : List Note) → has_answered op (xs ++ ys) ≡ has_answered op xs || has_answered op ys
  has_answered-append xs ys = ap (list_any own) (filter_map-append answer_in xs ys) ∙ list_any-append own (answers_in xs) (answers_in ys)

  pub answers_of-append : (xs ys : List Note) → answers_of op (xs ++ ys) ≡ answers_of op xs ++ answers_of op ys
  answers_of-append xs ys =
      ap answers_among (filter_map-append answer_in xs ys)
      ∙ ap (map (λ one. one.1)) (filter-append own (answers_in xs) (answers_in ys))
      ∙ map-append (λ one. one.1) (filter own (answers_in xs)) (filter own (answers_in ys))
