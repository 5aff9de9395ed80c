-- A journal that is read has one spelling.
use Rattle.std.proofs.Common.{◌≡◌, ◌∙◌, ◌≤◌, ◌*◌, ◌==◌, not, ℕ, Bool, true, false, List, [], ◌∷◌, ◌++◌, length, take, drop}
use Rattle.std.proofs.Common.{slice_index, Ok, Err, refl, ap, sym, arith, nat_lt, if◌then◌else◌, IfOk, length-drop, append-nil}
use Rattle.std.proofs.lemmas.Bool.Decides.{Decides-eqb, nat_tests}
use Rattle.std.proofs.lemmas.List.{append_assoc, length-take-le, take-append-drop, drop-drop}
use Rattle.std.proofs.lemmas.Slice.Eq.{starts_is}
use Rattle.std.proofs.Math.ListN.{drop_of_length-le}
use Rattle.std.proofs.Math.Seq.{drop-cons}
use Rattle.std.specs.List.{flat_map, starts_with}
use Rattle.std.proofs.lemmas.Bool.{eqb-true}
use Rattle.byteorder.specs.Endian.{big_number}
use Rattle.actor_net.specs.declared.choice.Choice.{Choice}
use Rattle.nf_function.specs.declared.kind.Kind.{Kind}
use Rattle.nf_function.specs.Stored.{IsBytes, number_bytes, first_number}
use Rattle.nf_function.proofs.StoredFronts.{IsBytes-drop, IsBytes-take}
use Rattle.nf_function.proofs.StoredNumbers.{first_number-some}
use Rattle.state_chunk.specs.Format.{kind_number}
use Rattle.journal_file.specs.declared.fault.JournalFault.{JournalFault}
use Rattle.journal_file.specs.declared.fault.JournalFault.TheVariants as fault
use Rattle.journal_file.specs.Format.{letters, version, header_size, journal_choices, header_bytes, journal_bytes, choice_bytes}
use Rattle.journal_file.specs.Reading.{Read, AnswersWith, count_in, count_of, choices_in, choices_of, journal_of}
use Rattle.journal_file.proofs.SpelledChoices.{written_choices_in, choices_in_length}

-- a test that must hold held
held : {X : Type 0} (test : Bool) (e : JournalFault) (next : Read X) (x : X) → (if not test then Err e else next) ≡ Ok x → (test ≡ true) × (next ≡ Ok x)
held true e next x h = (refl, h)
held false e next x h = cc

-- and one that must not hold didn't
failed : {X : Type 0} (test : Bool) (e : JournalFault) (next : Read X) (x : X) → (if test then Err e else next) ≡ Ok x → (test ≡ false) × (next ≡ Ok x)
failed true e next x h = cc
failed false e next x h = (refl, h)

same_ok : {X : Type 0} (x y : X) → ◌≡◌ {A = Read X} (Ok x) (Ok y) → x ≡ y
same_ok x y h = cc

-- bytes that give a number begin with its spelling
number_first : (n x : ℕ) (bytes : List ℕ) → IsBytes bytes → n ≤ length bytes → big_number n bytes ≡ x → bytes ≡ number_bytes n x ++ drop n bytes
unfolding first_number
number_first n x bytes are long is =
    let enough : nat_lt (length bytes) n ≡ false = grind (arith, nat_tests) in
    (first_number-some n bytes (x, drop n bytes) are (rw (enough, is) refl)).spelled

-- a header of 16 bytes that tells a number of choices is the header of that number
header_spelled : (kind : Kind) (instances count : ℕ) (header : List ℕ) → IsBytes header → length header ≡ header_size
    → count_in kind instances header ≡ Ok count → header ≡ header_bytes kind instances count
unfolding count_in header_bytes
header_spelled kind instances count header are size h =
    let magic = held (starts_with (λ a b. a == b) header letters) fault.Magic _ count h in
    let one = held (big_number 2 (drop 4 header) == version) fault.Version _ count magic.1 in
    let kinds = held (slice_index header 6 == kind_number kind) fault.Kind _ count one.1 in
    let asked = held (slice_index header 7 == instances) fault.Count _ count kinds.1 in
    let few = failed (nat_lt journal_choices (big_number 8 (drop 8 header))) fault.Count _ count asked.1 in
    let number : big_number 8 (drop 8 header) ≡ count = same_ok (big_number 8 (drop 8 header)) count few.1 in
    let front : header ≡ letters ++ drop 4 header = (starts_is Decides-eqb header letters _ refl).0 magic.0 in
    let after_letters : drop 4 header ≡ number_bytes 2 version ++ drop 6 header =
    number_first 2 version (drop 4 header) (IsBytes-drop 4 header are) (omega (arith, size, length-drop 4 header))
    (eqb-true (big_number 2 (drop 4 header)) version one.0)
    ∙ ap (λ (l : List ℕ). number_bytes 2 version ++ l) (drop-drop 2 4 header) in
    let after_version : drop 6 header ≡ kind_number kind ∷ drop 7 header =
    drop-cons header 6 0 (omega (arith, size)) ∙ ap (λ (k : ℕ). k ∷ drop 7 header) (eqb-true (slice_index header 6) (kind_number kind) kinds.0) in
    let after_kind : drop 7 header ≡ instances ∷ drop 8 header =
    drop-cons header 7 0 (omega (arith, size)) ∙ ap (λ (n : ℕ). n ∷ drop 8 header) (eqb-true (slice_index header 7) instances asked.0) in
    let after_instances : drop 8 header ≡ number_bytes 8 count =
    number_first 8 count (drop 8 header) (IsBytes-drop 8 header are) (omega (arith, size, length-drop 8 header)) number
    ∙ ap (λ (l : List ℕ). number_bytes 8 count ++ l) (drop-drop 8 8 header ∙ drop_of_length-le header {i = 16} (omega (arith, size)))
    ∙ append-nil (number_bytes 8 count) in
    front ∙ ap (λ (l : List ℕ). letters ++ l)
    (after_letters ∙ ap (λ (l : List ℕ). number_bytes 2 version ++ l)
    (after_version ∙ ap (λ (l : List ℕ). kind_number kind ∷ l) (after_kind ∙ ap (λ (l : List ℕ). instances ∷ l) after_instances))
    ∙ sym (append_assoc (number_bytes 2 version) (kind_number kind ∷ instances ∷ []) (number_bytes 8 count)))

-- choices that were read to the end are spelled by all the bytes
rest_spelled : (count : ℕ) (rest : List ℕ) (choices : List Choice) → choices_of (Ok count) rest ≡ Ok choices
    → (length choices ≡ count) × (rest ≡ flat_map choice_bytes choices)
rest_spelled count rest choices h =
    let enough = failed (nat_lt (length rest) (2 * count)) fault.Short _ choices h in
    let ends = failed (nat_lt (2 * count) (length rest)) fault.Extra _ choices enough.1 in
    let is : choices_in rest ≡ choices = same_ok (choices_in rest) choices ends.1 in
    let size : length rest ≡ 2 * count = grind (arith, nat_tests, enough.0, ends.0) in
    (sym (ap length is) ∙ choices_in_length count rest size, sym (written_choices_in count rest size) ∙ ap (flat_map choice_bytes) is)

-- a journal that was read is spelled by all its bytes
journal_spelled : (kind : Kind) (instances : ℕ) (bytes : List ℕ) (choices : List Choice) → IsBytes bytes → journal_of kind instances bytes ≡ Ok choices
    → bytes ≡ journal_bytes kind instances choices
unfolding journal_of count_of journal_bytes
journal_spelled kind instances bytes choices are h = told (count_of kind instances bytes) refl h
  where
    told : (read : Read ℕ) → count_of kind instances bytes ≡ read → choices_of read (drop header_size bytes) ≡ Ok choices
        → bytes ≡ header_bytes kind instances (length choices) ++ flat_map choice_bytes choices
    told (Err e) is k = cc
    told (Ok count) is k =
        let whole = failed (nat_lt (length bytes) header_size) fault.Short (count_in kind instances (take header_size bytes)) count is in
        let long : header_size ≤ length bytes = grind (arith, nat_tests, whole.0) in
        let head = header_spelled kind instances count (take header_size bytes) (IsBytes-take header_size bytes are) (length-take-le header_size bytes long)
        whole.1 in
        let rest = rest_spelled count (drop header_size bytes) choices k in
        sym (take-append-drop header_size bytes) ∙ ap (λ (l : List ℕ). l ++ drop header_size bytes) (head ∙ ap (header_bytes kind instances) (sym rest.0))
        ∙ ap (λ (l : List ℕ). header_bytes kind instances (length choices) ++ l) rest.1

-- so is one that a call gave
pub given_spelled : (kind : Kind) (instances : ℕ) (bytes : List ℕ) (result : Read (List Choice)) → IsBytes bytes
    → AnswersWith (journal_of kind instances bytes) result
    → IfOk result (λ choices. bytes ≡ journal_bytes kind instances choices)
given_spelled kind instances bytes (Ok choices) are given = journal_spelled kind instances bytes choices are given
given_spelled kind instances bytes (Err e) are given = tt
