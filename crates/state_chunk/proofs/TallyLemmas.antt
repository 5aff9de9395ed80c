-- A tally's counts are read again, and bytes of another length spell none.
use Rattle.std.proofs.Common.{◌≡◌, ◌∙◌, ◌<◌, ◌≤◌, ◌+◌, ◌*◌, ◌^◌, ℕ, zero, suc, true, false, List, [], ◌∷◌, ◌++◌, length}
use Rattle.std.proofs.Common.{drop, slice_index, Option, None, Some, Ok, refl, sym, ap, subst, arith, nat_lt}
use Rattle.std.proofs.lemmas.Bool.Decides.{nat_tests}
use Rattle.std.proofs.lemmas.List.{append-nil, length-drop, drop-drop}
use Rattle.std.proofs.lemmas.Option.{option_and_then_some}
use Rattle.std.specs.List.{flat_map, list_all}
use Rattle.std.proofs.lemmas.Bool.{and_from, ltb-true, lt-ltb}
use Rattle.byteorder.specs.Endian.{big_number, IsRead}
use Rattle.nf_function.specs.declared.kind.Kind.{Kind}
use Rattle.nf_function.specs.declared.kind.Scope.TheVariants.{AllFlows}
use Rattle.nf_function.specs.Stored.{IsBytes, number_bytes, first_number, first_items, at_end}
use Rattle.nf_function.proofs.StoredFronts.{whole_front, at_end-some}
use Rattle.nf_function.proofs.StoredItems.{items_again, items_some, length-items}
use Rattle.nf_function.proofs.StoredNumbers.{first_number-number_bytes, first_number-some, length-number_bytes}
use Rattle.state_chunk.specs.Format.{IsTally, kind_number, scope_number, tally_length, tally_bytes}
use Rattle.state_chunk.specs.Reading.{numbers_in, slots_of, header_of, body_in, tally_read}
use Rattle.state_chunk.proofs.ReadLemmas.{then_ok, ended_ok}
use Rattle.state_chunk.proofs.PartLemmas.{header_1, header_of-ok, plain_version, body_in-bytes, body_in-ok}

-- the first number is there where there are enough bytes
first_there : (bytes : List ℕ) → 8 ≤ length bytes → first_number 8 bytes ≡ Some (big_number 8 bytes, drop 8 bytes)
unfolding first_number
first_there bytes h = let enough : nat_lt (length bytes) 8 ≡ false = grind (arith, nat_tests) in rw enough refl

-- numbers that were read from bytes of the right length are those that the bytes spell
pub numbers_in-IsRead : (n : ℕ) (bytes numbers : List ℕ) → length bytes ≡ 8 * n → length numbers ≡ n → IsRead big_number 8 bytes numbers
    → numbers_in n bytes ≡ Some numbers
unfolding first_items
numbers_in-IsRead n bytes numbers l m h = rw (all_read n bytes numbers l m h) refl
  where
    all_read : (n : ℕ) (bytes numbers : List ℕ) → length bytes ≡ 8 * n → length numbers ≡ n → IsRead big_number 8 bytes numbers
        → first_items (first_number 8) n bytes ≡ Some (numbers, [])
    all_read zero [] [] l m h = refl
    all_read zero (b ∷ bytes) numbers l m h = absurd (omega (arith, l))
    all_read zero [] (x ∷ numbers) l m h = absurd (omega (arith, m))
    all_read (suc n) bytes [] l m h = absurd (omega (arith, m))
    all_read (suc n) bytes (x ∷ numbers) l m h =
        let first : x ≡ big_number 8 bytes = h zero (omega arith) in
        let rest : first_items (first_number 8) n (drop 8 bytes) ≡ Some (numbers, []) =
        all_read n (drop 8 bytes) numbers (omega (arith, l, length-drop 8 bytes)) (omega (arith, m)) (λ k less.
        let place : 8 * suc k ≡ 8 + 8 * k = omega arith in
        h (suc k) (omega arith) ∙ ap (λ (i : ℕ). big_number 8 (drop i bytes)) place ∙ ap (big_number 8) (sym (drop-drop (8 * k) 8 bytes))) in
        rw (first_there bytes (omega (arith, l)), rest, first) refl

slots_some : (o : Option (List ℕ)) (slots : List ℕ) → slots_of o ≡ Ok slots → o ≡ Some slots
slots_some None slots h = cc
slots_some (Some read) slots h = cc

-- the bytes that numbers were read from are theirs
pub numbers_in-Some : (n : ℕ) (bytes numbers : List ℕ) → IsBytes bytes → numbers_in n bytes ≡ Some numbers
    → (flat_map (number_bytes 8) numbers ≡ bytes) × (length numbers ≡ n)
numbers_in-Some n bytes numbers are h =
    option_and_then_some at_end (first_items (first_number 8) n bytes) numbers h (λ read p ends.
    let parts = items_some (first_number 8) (number_bytes 8) (first_number-some 8) n bytes read are p in
    let whole = at_end-some read.0 numbers read.1 ends in
    rw (← whole.1) (whole_front parts.0 whole.0, parts.1))

length-slots : (numbers : List ℕ) → length (flat_map (number_bytes 8) numbers) ≡ length numbers * 8
length-slots = length-items (number_bytes 8) 8 (length-number_bytes 8)

-- bytes of another length spell no such numbers
pub numbers_in-None : (n : ℕ) (bytes : List ℕ) → IsBytes bytes → (length bytes ≡ 8 * n → ⊥) → numbers_in n bytes ≡ None
numbers_in-None n bytes are h = by_read (numbers_in n bytes) refl
  where
    by_read : (o : Option (List ℕ)) → numbers_in n bytes ≡ o → o ≡ None
    by_read None is = refl
    by_read (Some numbers) is =
        let parts = numbers_in-Some n bytes numbers are is in absurd (h (omega (arith, ap length parts.0, length-slots numbers, parts.1)))

-- numbers are read again from their bytes
numbers_in-flat_map : (numbers : List ℕ) → list_all (λ x. nat_lt x (2 ^ 64)) numbers ≡ true
    → numbers_in (length numbers) (flat_map (number_bytes 8) numbers) ≡ Some numbers
numbers_in-flat_map numbers h =
    let all : first_items (first_number 8) (length numbers) (flat_map (number_bytes 8) numbers) ≡ Some (numbers, []) =
    ap (first_items (first_number 8) (length numbers)) (sym (append-nil (flat_map (number_bytes 8) numbers)))
    ∙ items_again (first_number 8) (number_bytes 8) (λ x. nat_lt x (2 ^ 64)) (λ x rest h. first_number-number_bytes 8 x rest (ltb-true x (2 ^ 64) h))
    numbers [] h in
    rw all refl

fitting : (numbers : List ℕ) → ((i : ℕ) → slice_index numbers i < 2 ^ 64) → list_all (λ x. nat_lt x (2 ^ 64)) numbers ≡ true
fitting [] h = refl
fitting (x ∷ numbers) h = and_from _ _ (lt-ltb x (2 ^ 64) (h zero)) (fitting numbers (λ i. h (suc i)))

-- a tally's chunk is read again
pub tally_read-tally_bytes : (kind : Kind) (slots : List ℕ) → IsTally slots → tally_read kind (tally_bytes kind slots) ≡ Ok slots
unfolding tally_read tally_bytes
tally_read-tally_bytes kind slots is =
    let l : length slots ≡ 16 = is.size in
    let body : List ℕ = flat_map (number_bytes 8) slots in
    let size : length body ≡ tally_length = length-slots slots ∙ ap (λ n. n * 8) l in
    let small : length body < 2 ^ 16 = omega (arith, size) in
    let parts : number_bytes 2 tally_length ++ body ≡ number_bytes 2 (length body) ++ (body ++ []) = rw (size, append-nil body) refl in
    let numbers : numbers_in 16 body ≡ Some slots = subst (λ (n : ℕ). numbers_in n body ≡ Some slots) l (numbers_in-flat_map slots (fitting slots is.each)) in
    rw (header_1 kind AllFlows false (number_bytes 2 tally_length ++ body), parts, body_in-bytes body [] small, numbers) refl

tally_joined : (kind : Kind) (bytes after_header body rest slots : List ℕ) (version : ℕ) → version ≡ 1
    → bytes ≡ (version ∷ kind_number kind ∷ scope_number AllFlows ∷ []) ++ after_header → after_header ≡ number_bytes 2 (length body) ++ (body ++ rest)
    → length body ≡ tally_length → body ≡ flat_map (number_bytes 8) slots → rest ≡ [] → bytes ≡ tally_bytes kind slots
unfolding tally_bytes
tally_joined kind bytes after_header body rest slots version is_version is_bytes is_header size is_body ends =
    is_bytes ∙ rw (is_version, is_header, size, is_body, ends, append-nil (flat_map (number_bytes 8) slots)) refl

-- a tally that was read has one spelling
pub tally_read-ok : (kind : Kind) (bytes slots : List ℕ) → IsBytes bytes → length slots ≡ 16 → tally_read kind bytes ≡ Ok slots → bytes ≡ tally_bytes kind slots
unfolding tally_read
tally_read-ok kind bytes slots are l h =
    then_ok (header_of kind AllFlows false bytes) _ slots h (λ header p h1.
    then_ok (body_in header.1) _ slots h1 (λ body q h2.
    then_ok (slots_of (numbers_in 16 body.0)) _ slots h2 (λ read r last.
    let head = header_of-ok kind AllFlows false bytes header are p in
    let stored = body_in-ok header.1 body head.0.rest_bytes q in
    let all = ended_ok body.1 read slots last in
    let parts = numbers_in-Some 16 body.0 slots stored.body_bytes (slots_some (numbers_in 16 body.0) slots (r ∙ ap (λ x. Ok x) all.1)) in
    let whole : body.0 ≡ flat_map (number_bytes 8) slots = sym parts.0 in
    let size : length body.0 ≡ tally_length = ap length whole ∙ length-slots slots ∙ ap (λ n. n * 8) l in
    tally_joined kind bytes header.1 body.0 body.1 slots header.0 (plain_version header.0 head.1) head.0.spelled stored.spelled size whole all.0)))
