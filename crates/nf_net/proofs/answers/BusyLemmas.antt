-- What the log says of commands, as it goes on.
use Rattle.nf_net.proofs.Words.{◌≡◌, ℕ, ◌+◌, ◌≤◌, Bool, true, false, Option, None, Some, List, [], ◌∷◌, ◌++◌, map, get_or, length, refl, sym, ap, ◌∙◌, subst}
use Rattle.nf_net.proofs.Words.{append-nil, arith, if◌then◌else◌, ◌&&◌, ◌||◌, ◌==◌, not, is_some, unwrap_or, list_any, nat_tests, or-true, or-false, Answer}
use Rattle.nf_net.proofs.Words.{Order, Note, Each, unknown_in, has_answered, is_begun, is_share, keeps_off, answers_of, before_command, times_begun, overlaps}
use Rattle.nf_net.proofs.Words.{MayBegin, IsCause, answers_in, begin_in, begins_in, answers_of-append, has_answered-append, has_begun-append}
use Rattle.nf_net.proofs.Words.{times_begun-append, before_one, none_picked, split}
use Rattle.std.proofs.Math.Bool.{or_assoc}
use Rattle.net_world.specs.Commands.{is_of_command}
use Rattle.net_world.specs.Log.{answer_in}
use Rattle.net_world.proofs.PickedLists as fronts
use Rattle.net_world.proofs.PickedLists.{kept_none, none_counted, none_kept}

-- a note of no command's begin or answer
abbrev pub is_other : Note → Bool
is_other (Note.Begun op) = false
is_other (Note.Answered op answer) = false
is_other n = true

abbrev pub AreOther : List Note → Type 0
AreOther notes = Each (λ n. is_other n ≡ true) notes

-- whether the log says anything of the command
abbrev pub is_noted : ℕ → List Note → Bool
is_noted op log = is_begun op log || has_answered op log

pub or_off : (a b : Bool) → a || b ≡ false → (a ≡ false) × (b ≡ false)
or_off false false h = (refl, refl)
or_off true b h = cc
or_off false true h = cc

-- what didn't begin began no time, and what isn't answered has no answers
pub never_begun : (op : ℕ) (log : List Note) → is_begun op log ≡ false → times_begun op log ≡ 0
never_begun op log h = none_counted (λ k. k == op) (begins_in log) h

pub none_answered : (op : ℕ) (log : List Note) → has_answered op log ≡ false → answers_of op log ≡ []
none_answered op log h = ap (map (λ one. one.1)) (none_kept (λ one. one.0 == op) (answers_in log) h)

-- the log says something of a command where one of its notes is of it
swapped : (a b c : Bool) → a || (b || c) ≡ b || (a || c)
swapped true true c = refl
swapped true false c = refl
swapped false b c = refl

noted_is : (op : ℕ) (log : List Note) → list_any (is_of_command op) log ≡ is_noted op log
noted_is op [] = refl
noted_is op (Note.Begun k ∷ log) = ap (λ b. (k == op) || b) (noted_is op log) ∙ sym (or_assoc (k == op) (is_begun op log) (has_answered op log))
noted_is op (Note.Answered k answer ∷ log) = ap (λ b. (k == op) || b) (noted_is op log) ∙ swapped (k == op) (is_begun op log) (has_answered op log)
noted_is op (n ∷ log) = noted_is op log

-- a command that is noted keeps what stood before
pub before_kept : (op : ℕ) (xs ys : List Note) → is_noted op xs ≡ true → before_command op (xs ++ ys) ≡ before_command op xs
before_kept op xs ys h = fronts.before_kept (is_of_command op) xs ys (noted_is op xs ∙ h)

-- all of a log stands before the first note of a command that isn't noted
pub before_new : (op : ℕ) (xs ys : List Note) → is_noted op xs ≡ false → before_command op (xs ++ ys) ≡ xs ++ before_command op ys
before_new op xs ys h = fronts.before_new (is_of_command op) xs ys (noted_is op xs ∙ h)

-- Notes of other things.
other_answer : (n : Note) → is_other n ≡ true → answer_in n ≡ None
other_answer (Note.Answered op answer) h = cc
other_answer n h = refl

other_begin : (n : Note) → is_other n ≡ true → begin_in n ≡ None
other_begin (Note.Begun op) h = cc
other_begin n h = refl

pub other_not_answered : (op : ℕ) (notes : List Note) → AreOther notes → has_answered op notes ≡ false
other_not_answered op notes h = ap (list_any (λ one. one.0 == op)) (none_picked answer_in (λ n. is_other n ≡ true) other_answer notes h)

pub other_not_begun : (op : ℕ) (notes : List Note) → AreOther notes → is_begun op notes ≡ false
other_not_begun op notes h = ap (list_any (λ k. k == op)) (none_picked begin_in (λ n. is_other n ≡ true) other_begin notes h)

-- A command of which the notes say nothing.
pub began_same : (op : ℕ) (log notes : List Note) → is_begun op notes ≡ false → is_begun op (log ++ notes) ≡ is_begun op log
began_same op log notes h = has_begun-append (λ k. k == op) log notes ∙ ap (λ b. is_begun op log || b) h ∙ or-false (is_begun op log)

pub answered_same : (op : ℕ) (log notes : List Note) → has_answered op notes ≡ false → has_answered op (log ++ notes) ≡ has_answered op log
answered_same op log notes h = has_answered-append op log notes ∙ ap (λ b. has_answered op log || b) h ∙ or-false (has_answered op log)

pub answers_same : (op : ℕ) (log notes : List Note) → has_answered op notes ≡ false → answers_of op (log ++ notes) ≡ answers_of op log
answers_same op log notes h = answers_of-append op log notes ∙ ap (λ v. answers_of op log ++ v) (none_answered op notes h) ∙ append-nil (answers_of op log)

-- a command keeps others off as it did
pub keeps_same : (names : List (List ℕ)) (orders : ℕ → Option Order) (op : ℕ) (log notes : List Note) → is_begun op notes ≡ false
    → has_answered op notes ≡ false → keeps_off names orders op (log ++ notes) ≡ keeps_off names orders op log
keeps_same names orders op log notes a b = ap (λ x. x && (is_share (orders op) || not (has_answered op (log ++ notes)))) (began_same op log notes a)
    ∙ ap (λ x. is_begun op log && (is_share (orders op) || not x)) (answered_same op log notes b)

-- what has no answers isn't answered
pub unanswered : (op : ℕ) (log : List Note) → answers_of op log ≡ [] → has_answered op log ≡ false
unanswered op log is = kept_none (λ one. one.0 == op) (λ one. one.1) (answers_in log) is

-- an answer was noted
pub some_answered : (op : ℕ) (log : List Note) (a : Answer) (more : List Answer) → answers_of op log ≡ a ∷ more → has_answered op log ≡ true
some_answered op log a more is = split (has_answered op log) (λ b. b ≡ true) (λ _. refl) (λ e. let none = sym is ∙ none_answered op log e in cc)

noted_answered : (op : ℕ) (log : List Note) → has_answered op log ≡ true → is_noted op log ≡ true
noted_answered op log h = rw h (or-true (is_begun op log))

noted_begun : (op : ℕ) (log : List Note) → is_begun op log ≡ true → is_noted op log ≡ true
noted_begun op log h = rw h refl

pub first_is : (a b : Answer) → a ∷ [] ≡ b ∷ [] → a ≡ b
first_is a b is = ap (λ xs. get_or xs 0 a) is

some_is : (a b : Order) → Some a ≡ Some b → a ≡ b
some_is a b is = ap (λ o. unwrap_or o a) is

-- whether it is the answer to a command that began
abbrev pub is_outcome : Answer → Bool
is_outcome (Answer.Unknown name) = false
is_outcome (Answer.Overlap k) = false
is_outcome a = true

module _ (names : List (List ℕ)) (orders : ℕ → Option Order) where
  -- the cause of a refusal, by the order and the log
  abbrev pub IsCauseIn : Answer → Order → List Note → Type 0
  IsCauseIn a what log = IsCause a (unknown_in names what) (overlaps names orders what log)

  -- what is promised of one command
  pub record IsAnswered (op : ℕ) (log : List Note) : Type 0 where
    pub begun_once : times_begun op log ≤ 1
    pub answered_once : length (answers_of op log) ≤ 1
    pub causes : (what : Order) (a : Answer) → orders op ≡ Some what → answers_of op log ≡ a ∷ [] → IsCauseIn a what (before_command op log)
    pub begins : (what : Order) → orders op ≡ Some what → is_begun op log ≡ true → MayBegin names orders what (before_command op log)
    pub known : is_noted op log ≡ true → is_some (orders op) ≡ true

  -- it stays where the notes say nothing of it
  pub stays_answered : (op : ℕ) (log notes : List Note) → is_begun op notes ≡ false → has_answered op notes ≡ false → IsAnswered op log
      → IsAnswered op (log ++ notes)
  stays_answered op log notes a b h =
      let begins_in = began_same op log notes a in
      let same = answers_same op log notes b in
      record {
        begun_once =
            (let all = times_begun-append op log notes in let none = never_begun op notes a in let few = h.begun_once in omega (arith, all, none, few));
        answered_once = subst (λ v. length v ≤ 1) (sym same) h.answered_once;
        causes = λ what x order is.
            let was : answers_of op log ≡ x ∷ [] = sym same ∙ is in
            subst (λ v. IsCauseIn x what v) (sym (before_kept op log notes (noted_answered op log (some_answered op log x [] was))))
            (h.causes what x order was);
        begins = λ what order is.
            let was : is_begun op log ≡ true = sym begins_in ∙ is in
            subst (λ v. MayBegin names orders what v) (sym (before_kept op log notes (noted_begun op log was))) (h.begins what order was);
        known = λ is. h.known (ap (λ v. v || has_answered op log) (sym begins_in)
            ∙ ap (λ v. is_begun op (log ++ notes) || v) (sym (answered_same op log notes b)) ∙ is);
      }

  no_cause : (a : Answer) (what : Order) (log : List Note) → is_outcome a ≡ true → IsCauseIn a what log
  no_cause (Answer.Unknown name) what log e = cc
  no_cause (Answer.Overlap k) what log e = cc
  no_cause a what log e = tt

  -- its answer, where it began before
  pub answered_begun : (op : ℕ) (log : List Note) (a : Answer) → is_begun op log ≡ true → has_answered op log ≡ false → is_outcome a ≡ true
      → IsAnswered op log → IsAnswered op (log ++ Note.Answered op a ∷ [])
  answered_begun op log a begins_in open_still outcome h =
      let own : (op == op) ≡ true = grind (arith, nat_tests) in
      let all : answers_of op (log ++ Note.Answered op a ∷ []) ≡ a ∷ [] = answers_of-append op log (Note.Answered op a ∷ [])
      ∙ ap (λ v. v ++ answers_of op (Note.Answered op a ∷ [])) (none_answered op log open_still)
      ∙ ap (λ b. map (λ (one : ℕ × Answer). one.1) (if b then (op, a) ∷ [] else [])) own in
      record {
        begun_once = (let times = times_begun-append op log (Note.Answered op a ∷ []) in let few = h.begun_once in omega (arith, times, few));
        answered_once = rw all (omega arith);
        causes = λ what x order is. subst (λ y. IsCauseIn y what (before_command op (log ++ Note.Answered op a ∷ []))) (first_is a x (sym all ∙ is))
            (no_cause a what (before_command op (log ++ Note.Answered op a ∷ [])) outcome);
        begins = λ what order is. subst (λ v. MayBegin names orders what v)
            (sym (before_kept op log (Note.Answered op a ∷ []) (noted_begun op log begins_in))) (h.begins what order begins_in);
        known = λ is. h.known (noted_begun op log begins_in);
      }

  -- its refusal
  pub answered_refused : (op : ℕ) (log : List Note) (a : Answer) (what : Order) → is_noted op log ≡ false → orders op ≡ Some what → IsCauseIn a what log
      → IsAnswered op (log ++ Note.Answered op a ∷ [])
  answered_refused op log a what new order cause =
      let own : (op == op) ≡ true = grind (arith, nat_tests) in
      let off = or_off (is_begun op log) (has_answered op log) new in
      let all : answers_of op (log ++ Note.Answered op a ∷ []) ≡ a ∷ [] = answers_of-append op log (Note.Answered op a ∷ [])
      ∙ ap (λ v. v ++ answers_of op (Note.Answered op a ∷ [])) (none_answered op log off.1)
      ∙ ap (λ b. map (λ (one : ℕ × Answer). one.1) (if b then (op, a) ∷ [] else [])) own in
      let before : before_command op (log ++ Note.Answered op a ∷ []) ≡ log = before_new op log (Note.Answered op a ∷ []) new
      ∙ ap (λ ns. log ++ ns) (before_one (is_of_command op) (Note.Answered op a) [] own) ∙ append-nil log in
      record {
        begun_once = (let times = times_begun-append op log (Note.Answered op a ∷ []) in let none = never_begun op log off.0 in omega (arith, times, none));
        answered_once = rw all (omega arith);
        causes = λ other x known is. subst (λ v. IsCauseIn x other v) (sym before) (subst (λ o. IsCauseIn x o log) (some_is what other (sym order ∙ known))
            (subst (λ y. IsCauseIn y what log) (first_is a x (sym all ∙ is)) cause));
        begins = λ other known is. (let never = sym (began_same op log (Note.Answered op a ∷ []) refl ∙ off.0) ∙ is in cc);
        known = λ is. ap is_some order;
      }

  -- its begin
  pub begun_now : (op : ℕ) (log : List Note) (what : Order) → is_noted op log ≡ false → orders op ≡ Some what → MayBegin names orders what log
      → IsAnswered op (log ++ Note.Begun op ∷ [])
  begun_now op log what new order may =
      let own : (op == op) ≡ true = grind (arith, nat_tests) in
      let off = or_off (is_begun op log) (has_answered op log) new in
      let none : answers_of op (log ++ Note.Begun op ∷ []) ≡ [] = answers_same op log (Note.Begun op ∷ []) refl ∙ none_answered op log off.1 in
      let before : before_command op (log ++ Note.Begun op ∷ []) ≡ log = before_new op log (Note.Begun op ∷ []) new
      ∙ ap (λ ns. log ++ ns) (before_one (is_of_command op) (Note.Begun op) [] own) ∙ append-nil log in
      record {
        begun_once = (let times = times_begun-append op log (Note.Begun op ∷ []) ∙ ap (λ b. times_begun op log + (0 + (if b then 1 else 0))) own in
            let zero = never_begun op log off.0 in omega (arith, times, zero));
        answered_once = rw none (omega arith);
        causes = λ other x known is. (let never = sym none ∙ is in cc);
        begins = λ other known is. subst (λ v. MayBegin names orders other v) (sym before)
            (subst (λ o. MayBegin names orders o log) (some_is what other (sym order ∙ known)) may);
        known = λ is. ap is_some order;
      }
