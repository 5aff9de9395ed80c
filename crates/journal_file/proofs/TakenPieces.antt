-- What a source gives piece by piece is what its bytes spell.
use Rattle.std.proofs.Common.{◌≡◌, ◌∙◌, ◌<◌, ◌≤◌, ◌+◌, ◌*◌, ◌-◌, ℕ, true, false, List, [], ◌++◌, length, take}
use Rattle.std.proofs.Common.{drop, Option, Some, Ok, Err, refl, ap, sym, subst, arith, nat_lt, length-drop}
use Rattle.std.proofs.lemmas.Bool.Decides.{nat_tests}
use Rattle.std.proofs.lemmas.List.{length-take-le, length-take, drop-drop, take-take}
use Rattle.std.proofs.Math.ListN.{drop_of_length-le}
use Rattle.std.proofs.Math.Seq.{take-add, take-length}
use Rattle.actor_net.specs.declared.choice.Choice.{Choice}
use Rattle.nf_function.specs.declared.kind.Kind.{Kind}
use Rattle.journal_file.specs.declared.fault.JournalFault.{JournalFault}
use Rattle.journal_file.specs.declared.fault.JournalFault.TheVariants as fault
use Rattle.journal_file.specs.Format.{header_size}
use Rattle.journal_file.specs.Reading.{Read, choices_in, choices_of, count_of, journal_of, looked_at, GivesFrom}
use Rattle.journal_file.specs.Pieces.{TakesBytes, TakesChoices}
use Rattle.journal_file.proofs.SpelledChoices.{choices_in_end, choices_in_append}

-- so many choices were taken so far
pub record IsTaken (done : ℕ) (bytes : List ℕ) (left : Option (List ℕ)) (choices : List Choice) : Type 0 where
  pub there : 2 * done ≤ length bytes
  pub spelled : choices ≡ choices_in (take (2 * done) bytes)
  pub rest : left ≡ Some (drop (2 * done) bytes)

-- at first none
pub nothing_taken : (bytes : List ℕ) (left : Option (List ℕ)) (choices : List Choice) → choices ≡ [] → left ≡ Some bytes → IsTaken 0 bytes left choices
nothing_taken bytes left choices none told = record {
  there = omega arith;
  spelled = none ∙ sym (choices_in_end [] (omega arith));
  rest = told;
}

-- a whole piece makes them more
pub taken_more : (done wanted : ℕ) (bytes piece : List ℕ) (before after : Option (List ℕ)) (choices more : List Choice)
    → IsTaken done bytes before choices → TakesBytes (2 * wanted) (drop (2 * done) bytes) after (Ok piece)
    → 2 * wanted ≤ length piece → more ≡ choices ++ choices_in piece → IsTaken (done + wanted) bytes after more
taken_more done wanted bytes piece before after choices more is taken whole pushed =
    let size : length piece ≤ length bytes - 2 * done =
    omega (arith, ap length taken.0, length-take (2 * wanted) (drop (2 * done) bytes), length-drop (2 * done) bytes) in
    let twice : 2 * done + 2 * wanted ≡ 2 * (done + wanted) = omega arith in
    let front : take (2 * done) bytes ++ piece ≡ take (2 * (done + wanted)) bytes =
    ap (λ (l : List ℕ). take (2 * done) bytes ++ l) taken.0 ∙ sym (take-add (2 * done) (2 * wanted) bytes) ∙ ap (λ (n : ℕ). take n bytes) twice in
    record {
      there = omega (arith, is.there, size, whole);
      spelled = pushed ∙ ap (λ (l : List Choice). l ++ choices_in piece) is.spelled
          ∙ sym (choices_in_append done (take (2 * done) bytes) piece (length-take-le (2 * done) bytes is.there)) ∙ ap choices_in front;
      rest = taken.1 ∙ ap Some (drop-drop (2 * wanted) (2 * done) bytes ∙ ap (λ (n : ℕ). drop n bytes) twice);
    }

-- a piece that isn't whole is the last one
pub taken_short : (done wanted count : ℕ) (bytes piece : List ℕ) (after : Option (List ℕ)) → done + wanted ≤ count → 2 * done ≤ length bytes
    → TakesBytes (2 * wanted) (drop (2 * done) bytes) after (Ok piece) → length piece < 2 * wanted
    → (length bytes < 2 * count) × (after ≡ Some [])
taken_short done wanted count bytes piece after within there taken short =
    let size : length (drop (2 * done) bytes) < 2 * wanted =
    omega (arith, ap length taken.0, length-take (2 * wanted) (drop (2 * done) bytes), short) in
    (omega (arith, size, length-drop (2 * done) bytes, within, there), taken.1 ∙ ap Some (drop_of_length-le (drop (2 * done) bytes) (omega (arith, size))))

-- the first 16 bytes tell the number of choices
count_of_front : (kind : Kind) (instances : ℕ) (bytes : List ℕ) → count_of kind instances (take header_size bytes) ≡ count_of kind instances bytes
unfolding count_of
count_of_front kind instances bytes =
    let same : nat_lt (length (take header_size bytes)) header_size ≡ nat_lt (length bytes) header_size =
    grind (arith, nat_tests, length-take header_size bytes) in
    rw (same, take-take header_size header_size bytes (omega arith)) refl

pub count_read : (kind : Kind) (instances : ℕ) (bytes header items : List ℕ) (result : Read ℕ) → items ≡ header → header ≡ take header_size bytes
    → result ≡ count_of kind instances items → count_of kind instances bytes ≡ result
count_read kind instances bytes header items result same front is =
    sym (count_of_front kind instances bytes) ∙ ap (λ (l : List ℕ). count_of kind instances l) (sym (same ∙ front)) ∙ sym is

-- a fault of the header is the journal's, and nothing behind the header is taken
pub header_fault : (kind : Kind) (instances : ℕ) (bytes : List ℕ) (left : Option (List ℕ)) (e : JournalFault)
    → count_of kind instances bytes ≡ Err e → left ≡ Some (drop header_size bytes)
    → GivesFrom (journal_of kind instances bytes) (drop (looked_at (count_of kind instances bytes)) bytes) left (Err e)
unfolding journal_of
header_fault kind instances bytes left e is rest =
    subst (λ (r : Read ℕ). GivesFrom (choices_of r (drop header_size bytes)) (drop (looked_at r) bytes) left (Err e)) (sym is) (due e)
  where
    due : (e : JournalFault) → GivesFrom {X = List Choice} (Err e) (drop header_size bytes) left (Err e)
    due fault.Magic = (refl, rest)
    due fault.Version = (refl, rest)
    due fault.Kind = (refl, rest)
    due fault.Count = (refl, rest)
    due fault.Short = (refl, rest)
    due fault.Extra = (refl, rest)
    due fault.Read = tt
    due fault.NoMemory = tt

-- what may be read of a journal after its header: the bytes, the number of choices, and what is left at the end
abbrev pub GivesBody : ℕ → List ℕ → Option (List ℕ) → Read (List Choice) → Type 0
GivesBody count bytes left result = GivesFrom (choices_of (Ok count) (drop header_size bytes)) (drop (header_size + 2 * count + 1) bytes) left result

-- where the number of choices is told, the journal's answer is that of the bytes behind its header
pub body_gives : (kind : Kind) (instances count : ℕ) (bytes : List ℕ) (left : Option (List ℕ)) (result : Read (List Choice))
    → count_of kind instances bytes ≡ Ok count → GivesBody count bytes left result
    → GivesFrom (journal_of kind instances bytes) (drop (looked_at (count_of kind instances bytes)) bytes) left result
unfolding journal_of
body_gives kind instances count bytes left result is given =
    subst (λ (r : Read ℕ). GivesFrom (choices_of r (drop header_size bytes)) (drop (looked_at r) bytes) left result) (sym is) given

-- a fault of the choices is the journal's
pub choices_fault : (count : ℕ) (bytes : List ℕ) (left : Option (List ℕ)) (e : JournalFault)
    → TakesChoices count (drop header_size bytes) left (Err e) → GivesBody count bytes left (Err e)
choices_fault count bytes left fault.Short taken =
    let short : nat_lt (length (drop header_size bytes)) (2 * count) ≡ true = grind (arith, nat_tests, taken.0) in
    let none : drop (header_size + 2 * count + 1) bytes ≡ [] =
    drop_of_length-le bytes (omega (arith, taken.0, length-drop header_size bytes)) in
    rw (short, none) (refl, taken.1)
choices_fault count bytes left fault.Read taken = tt
choices_fault count bytes left fault.NoMemory taken = tt
choices_fault count bytes left fault.Magic taken = absurd taken
choices_fault count bytes left fault.Version taken = absurd taken
choices_fault count bytes left fault.Kind taken = absurd taken
choices_fault count bytes left fault.Count taken = absurd taken
choices_fault count bytes left fault.Extra taken = absurd taken

-- a byte behind the choices is a fault
pub byte_more : (count : ℕ) (bytes found : List ℕ) (before after : Option (List ℕ)) (choices : List Choice)
    → TakesChoices count (drop header_size bytes) before (Ok choices)
    → TakesBytes 1 (drop (2 * count) (drop header_size bytes)) after (Ok found) → 0 < length found → GivesBody count bytes after (Err fault.Extra)
byte_more count bytes found before after choices taken last more =
    let enough : nat_lt (length (drop header_size bytes)) (2 * count) ≡ false = grind (arith, nat_tests, taken.0) in
    let size : 0 < length (drop header_size bytes) - 2 * count =
    omega (arith, more, ap length last.0, length-take 1 (drop (2 * count) (drop header_size bytes)), length-drop (2 * count) (drop header_size bytes)) in
    let extra : nat_lt (2 * count) (length (drop header_size bytes)) ≡ true = grind (arith, nat_tests) in
    let twice : drop 1 (drop (2 * count) (drop header_size bytes)) ≡ drop (header_size + 2 * count + 1) bytes =
    ap (λ (l : List ℕ). drop 1 l) (drop-drop (2 * count) header_size bytes) ∙ drop-drop 1 (header_size + 2 * count) bytes in
    rw (enough, extra) (refl, last.1 ∙ ap Some twice)

-- without one the choices are the journal's, and nothing is left
pub ended : (count : ℕ) (bytes found : List ℕ) (before after : Option (List ℕ)) (choices : List Choice)
    → TakesChoices count (drop header_size bytes) before (Ok choices)
    → TakesBytes 1 (drop (2 * count) (drop header_size bytes)) after (Ok found) → length found ≡ 0 → GivesBody count bytes after (Ok choices)
ended count bytes found before after choices taken last none =
    let rest : List ℕ = drop header_size bytes in
    let size : length rest - 2 * count ≡ 0 =
    omega (arith, none, ap length last.0, length-take 1 (drop (2 * count) rest), length-drop (2 * count) rest) in
    let enough : nat_lt (length rest) (2 * count) ≡ false = grind (arith, nat_tests, taken.0) in
    let exact : nat_lt (2 * count) (length rest) ≡ false = grind (arith, nat_tests) in
    let all : take (2 * count) rest ≡ rest = ap (λ (n : ℕ). take n rest) (omega (arith, taken.0, size)) ∙ take-length rest in
    let over : drop 1 (drop (2 * count) rest) ≡ [] = drop_of_length-le (drop (2 * count) rest) {i = 1} (omega (arith, size, length-drop (2 * count) rest)) in
    rw (enough, exact) (ap (λ (cs : List Choice). Ok cs) (sym (taken.1 ∙ ap choices_in all)), last.1 ∙ ap Some over)

-- a call that gave up over the source gave a free answer
pub front_fault : (due : Read (List Choice)) (looked wanted : ℕ) (bytes rest : List ℕ) (left : Option (List ℕ)) (e : JournalFault)
    → TakesBytes wanted rest left (Err e) → GivesFrom due (drop looked bytes) left (Err e)
front_fault due looked wanted bytes rest left fault.Read taken = tt
front_fault due looked wanted bytes rest left fault.NoMemory taken = tt
front_fault due looked wanted bytes rest left fault.Magic taken = absurd taken
front_fault due looked wanted bytes rest left fault.Version taken = absurd taken
front_fault due looked wanted bytes rest left fault.Kind taken = absurd taken
front_fault due looked wanted bytes rest left fault.Count taken = absurd taken
front_fault due looked wanted bytes rest left fault.Short taken = absurd taken
front_fault due looked wanted bytes rest left fault.Extra taken = absurd taken

-- so did one within the choices
pub piece_fault : (count wanted : ℕ) (bytes rest : List ℕ) (left : Option (List ℕ)) (e : JournalFault)
    → TakesBytes wanted rest left (Err e) → TakesChoices count bytes left (Err e)
piece_fault count wanted bytes rest left fault.Read taken = tt
piece_fault count wanted bytes rest left fault.NoMemory taken = tt
piece_fault count wanted bytes rest left fault.Magic taken = absurd taken
piece_fault count wanted bytes rest left fault.Version taken = absurd taken
piece_fault count wanted bytes rest left fault.Kind taken = absurd taken
piece_fault count wanted bytes rest left fault.Count taken = absurd taken
piece_fault count wanted bytes rest left fault.Short taken = absurd taken
piece_fault count wanted bytes rest left fault.Extra taken = absurd taken

-- a fault that isn't one of reading is none whatever was to be read
pub other_fault : {A B : Type 0} (result : Read A) (e : JournalFault) → result ≡ Err e → (◌≡◌ {A = Read B} (Err e) (Err fault.Read) → ⊥)
    → result ≡ Err fault.Read → ⊥
other_fault result e is never read = never (ap (λ (f : JournalFault). Err f) (one_fault e fault.Read (sym is ∙ read)))
  where
    one_fault : {A : Type 0} (e f : JournalFault) → ◌≡◌ {A = Read A} (Err e) (Err f) → e ≡ f
    one_fault e f h = cc
