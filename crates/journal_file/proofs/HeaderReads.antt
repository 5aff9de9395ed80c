-- A header that was written is read again, and has one spelling.
use Rattle.std.proofs.Common.{◌≡◌, ◌∙◌, ◌<◌, ◌≤◌, ◌*◌, ◌^◌, ℕ, false, List, [], ◌++◌, length, Ok, refl, ap, sym, arith, nat_lt, length-append, append-nil}
use Rattle.std.proofs.lemmas.Bool.Decides.{nat_tests}
use Rattle.std.proofs.lemmas.List.{take_at, drop_at}
use Rattle.std.specs.List.{flat_map}
use Rattle.std.proofs.lemmas.Bool.{eq-eqb}
use Rattle.byteorder.specs.Endian.{big_number}
use Rattle.byteorder.specs.Numbers.{big_number-reads_back}
use Rattle.actor_net.specs.declared.choice.Choice.{Choice}
use Rattle.nf_function.specs.declared.kind.Kind.{Kind}
use Rattle.nf_function.specs.Stored.{number_bytes}
use Rattle.nf_function.proofs.StoredNumbers.{length-number_bytes}
use Rattle.state_chunk.specs.Format.{kind_number}
use Rattle.journal_file.specs.Format.{header_size, journal_choices, header_bytes, journal_bytes, choice_bytes}
use Rattle.journal_file.specs.Reading.{count_in, count_of, choices_of, journal_of}
use Rattle.journal_file.proofs.SpelledChoices.{choices_in_written, written_length}

pub header_length : (kind : Kind) (instances count : ℕ) → length (header_bytes kind instances count) ≡ header_size
unfolding header_bytes number_bytes
header_length kind instances count = let l = length-number_bytes 8 count in omega (arith, l)

read_back : (count : ℕ) → count < 256 ^ 8 → big_number 8 (number_bytes 8 count) ≡ count
unfolding number_bytes
read_back count below = ap (big_number 8) (sym (append-nil (number_bytes 8 count))) ∙ big_number-reads_back 8 count [] below

-- the number of choices is read again
pub count_in_header : (kind : Kind) (instances count : ℕ) → count ≤ journal_choices → count_in kind instances (header_bytes kind instances count) ≡ Ok count
unfolding count_in header_bytes number_bytes
count_in_header kind instances count few =
    let number = read_back count (omega (arith, few)) in
    let fits : nat_lt journal_choices count ≡ false = grind (arith, nat_tests) in
    rw (eq-eqb (kind_number kind) (kind_number kind) refl, eq-eqb instances instances refl, number, fits) refl

-- a header that stands before other bytes is read again
pub count_of_header : (kind : Kind) (instances count : ℕ) (rest : List ℕ) → count ≤ journal_choices
    → count_of kind instances (header_bytes kind instances count ++ rest) ≡ Ok count
unfolding count_of
count_of_header kind instances count rest few =
    let size = header_length kind instances count in
    let long : nat_lt (length (header_bytes kind instances count ++ rest)) header_size ≡ false =
    grind (arith, nat_tests, length-append (header_bytes kind instances count) rest, size) in
    rw (long, take_at (header_bytes kind instances count) rest header_size size) (count_in_header kind instances count few)

-- so many choices and nothing behind them are read again
choices_again : (choices : List Choice) → choices_of (Ok (length choices)) (flat_map choice_bytes choices) ≡ Ok choices
choices_again choices =
    let size = written_length choices in
    let enough : nat_lt (length (flat_map choice_bytes choices)) (2 * length choices) ≡ false = grind (arith, nat_tests) in
    let ended : nat_lt (2 * length choices) (length (flat_map choice_bytes choices)) ≡ false = grind (arith, nat_tests) in
    rw (enough, ended, choices_in_written choices) refl

-- a journal is read again
pub journal_again : (kind : Kind) (instances : ℕ) (choices : List Choice) → length choices ≤ journal_choices
    → journal_of kind instances (journal_bytes kind instances choices) ≡ Ok choices
unfolding journal_of journal_bytes
journal_again kind instances choices few =
    let head = header_bytes kind instances (length choices) in
    let body = flat_map choice_bytes choices in
    rw (count_of_header kind instances (length choices) body few, drop_at head body header_size (header_length kind instances (length choices)))
    (choices_again choices)
