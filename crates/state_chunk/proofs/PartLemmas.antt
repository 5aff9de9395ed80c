-- The header and the body of a chunk are read again, and have one spelling.
use Rattle.std.proofs.Common.{◌≡◌, ◌<◌, ◌≤◌, ◌^◌, ◌&&◌, ◌||◌, eqb, ℕ, Bool, true, false, cond, List, [], ◌∷◌, ◌++◌}
use Rattle.std.proofs.Common.{length, take, drop, Option, None, Some, Ok, refl, arith, nat_lt, length-append}
use Rattle.std.proofs.lemmas.Bool.Decides.{nat_tests}
use Rattle.std.proofs.lemmas.List.{take_at, drop_at, take-append-drop, length-take-le}
use Rattle.std.proofs.lemmas.Bool.{and_parts, eqb-true, eq-eqb}
use Rattle.std.proofs.lemmas.Option.{same_Some}
use Rattle.nf_function.specs.declared.kind.Kind.{Kind}
use Rattle.nf_function.specs.declared.kind.Scope.{Scope}
use Rattle.nf_function.specs.Stored.{IsBytes, number_bytes, first_byte, first_number}
use Rattle.nf_function.specs.Units.{has_times}
use Rattle.nf_function.proofs.StoredFronts.{IsFront, then_front, first_byte-some, IsBytes-drop, IsBytes-take}
use Rattle.nf_function.proofs.StoredNumbers.{first_number-number_bytes, first_number-some}
use Rattle.state_chunk.specs.declared.fault.ChunkFault.TheVariants as fault
use Rattle.state_chunk.specs.Format.{kind_number, scope_number}
use Rattle.state_chunk.specs.Reading.{Read, part, first_bytes, header_of, may_have, body_in}
use Rattle.state_chunk.proofs.ReadLemmas.{then_ok, part_ok, checked_ok}

same_ok : {X : Type 0} (x y : X) → ◌≡◌ {A = Read X} (Ok x) (Ok y) → x ≡ y
same_ok x y h = cc

-- version 1 is read for every kind and scope
pub header_1 : (kind : Kind) (scope : Scope) (timed : Bool) (rest : List ℕ)
    → header_of kind scope timed (1 ∷ kind_number kind ∷ scope_number scope ∷ rest) ≡ Ok (1, rest)
unfolding header_of
header_1 kind scope timed rest = rw (eq-eqb (kind_number kind) (kind_number kind) refl, eq-eqb (scope_number scope) (scope_number scope) refl) refl

-- version 2 is read where the state may hold a time
pub header_2 : (kind : Kind) (scope : Scope) (timed : Bool) (rest : List ℕ) → has_times kind ≡ true → timed ≡ true
    → header_of kind scope timed (2 ∷ kind_number kind ∷ scope_number scope ∷ rest) ≡ Ok (2, rest)
unfolding header_of
header_2 kind scope timed rest h k = rw (eq-eqb (kind_number kind) (kind_number kind) refl, eq-eqb (scope_number scope) (scope_number scope) refl, h, k) refl

-- a header that was read stands first, and the state may have its version
pub header_of-ok : (kind : Kind) (scope : Scope) (timed : Bool) (bytes : List ℕ) (read : ℕ × List ℕ) → IsBytes bytes
    → header_of kind scope timed bytes ≡ Ok read
    → IsFront (read.0 ∷ kind_number kind ∷ scope_number scope ∷ []) bytes read.1 × (may_have read.0 timed ≡ true)
unfolding header_of
header_of-ok kind scope timed bytes read are h =
    then_ok (part (first_byte bytes)) _ read h (λ version p h1.
    let one = checked_ok (eqb version.0 1 || eqb version.0 2) (fault.Version version.0) _ read h1 in
    then_ok (part (first_byte version.1)) _ read one.1 (λ kind_byte q h2.
    let two = checked_ok (eqb kind_byte.0 (kind_number kind) && may_have version.0 (has_times kind)) fault.Kind _ read h2 in
    then_ok (part (first_byte kind_byte.1)) _ read two.1 (λ scope_byte r h3.
    let three = checked_ok (eqb scope_byte.0 (scope_number scope) && may_have version.0 timed) fault.Kind _ read h3 in
    let first = first_byte-some bytes version are (part_ok (first_byte bytes) version p) in
    let second = first_byte-some version.1 kind_byte first.rest_bytes (part_ok (first_byte version.1) kind_byte q) in
    let third = first_byte-some kind_byte.1 scope_byte second.rest_bytes (part_ok (first_byte kind_byte.1) scope_byte r) in
    let kinds = and_parts (eqb kind_byte.0 (kind_number kind)) (may_have version.0 (has_times kind)) two.0 in
    let scopes = and_parts (eqb scope_byte.0 (scope_number scope)) (may_have version.0 timed) three.0 in
    rw (
      ← same_ok (version.0, scope_byte.1) read three.1,
      ← eqb-true kind_byte.0 (kind_number kind) kinds.0,
      ← eqb-true scope_byte.0 (scope_number scope) scopes.0,
    ) (then_front (then_front first second) third, scopes.1))))

-- a state without times has version 1
pub plain_version : (version : ℕ) → may_have version false ≡ true → version ≡ 1
plain_version version h = eqb-true version 1 (or_false (eqb version 1) h)
  where
    or_false : (test : Bool) → (test || false) ≡ true → test ≡ true
    or_false true e = refl
    or_false false e = cc

-- a body is read again
pub body_in-bytes : (body rest : List ℕ) → length body < 2 ^ 16 → body_in (number_bytes 2 (length body) ++ (body ++ rest)) ≡ Ok (body, rest)
unfolding body_in
body_in-bytes body rest short =
    let enough : nat_lt (length (body ++ rest)) (length body) ≡ false = grind (arith, nat_tests, length-append body rest) in
    rw (first_number-number_bytes 2 (length body) (body ++ rest) short, enough, take_at body rest (length body) refl, drop_at body rest (length body) refl) refl

-- a body that was read, and the rest
pub record IsBody (bytes : List ℕ) (read : List ℕ × List ℕ) : Type 0 where
  pub spelled : bytes ≡ number_bytes 2 (length read.0) ++ (read.0 ++ read.1)
  pub body_bytes : IsBytes read.0
  pub rest_bytes : IsBytes read.1

cut_body : (size : ℕ) (bytes more : List ℕ) (read : List ℕ × List ℕ) → IsFront (number_bytes 2 size) bytes more → first_bytes size more ≡ Some read
    → IsBody bytes read
cut_body size bytes more read first h = chosen (nat_lt (length more) size) refl h
  where
    chosen : (short : Bool) → nat_lt (length more) size ≡ short
        → cond {A = Option (List ℕ × List ℕ)} short None (Some (take size more, drop size more)) ≡ Some read → IsBody bytes read
    chosen true is e = cc
    chosen false is e =
        let enough : size ≤ length more = grind (arith, nat_tests) in
        let whole : (take size more, drop size more) ≡ read = same_Some (take size more, drop size more) read e in
        let size_is : length (take size more) ≡ size = length-take-le size more enough in
        record {
          spelled = rw (← whole) (rw (size_is, take-append-drop size more) first.spelled);
          body_bytes = rw (← whole) (IsBytes-take size more first.rest_bytes);
          rest_bytes = rw (← whole) (IsBytes-drop size more first.rest_bytes);
        }

pub body_in-ok : (bytes : List ℕ) (read : List ℕ × List ℕ) → IsBytes bytes → body_in bytes ≡ Ok read → IsBody bytes read
unfolding body_in
body_in-ok bytes read are h =
    then_ok (part (first_number 2 bytes)) (λ size. part (first_bytes size.0 size.1)) read h (λ size p last.
    cut_body size.0 bytes size.1 read (first_number-some 2 bytes size are (part_ok (first_number 2 bytes) size p))
    (part_ok (first_bytes size.0 size.1) read last))
