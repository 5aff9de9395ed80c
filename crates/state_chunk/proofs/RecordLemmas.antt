-- A record's chunk is read again, and has one spelling.
use Rattle.std.proofs.Common.{◌≡◌, ◌∙◌, eqb, ℕ, Bool, true, false, List, [], ◌∷◌, ◌++◌, length, Option, None, Some}
use Rattle.std.proofs.Common.{Result, Ok, Err, IfOk, refl, sym, ap, arith, append-nil}
use Rattle.std.proofs.lemmas.Bool.Decides.{nat_tests}
use Rattle.std.proofs.lemmas.List.{append_assoc}
use Rattle.nf_function.specs.declared.unit.Unit as units
use Rattle.nf_function.specs.Stored.{IsBytes, number_bytes}
use Rattle.nf_function.specs.Units.{has_times}
use Rattle.nf_function.specs.Semantics.{Semantics, record_in}
use Rattle.nf_function.specs.Records.{Laws}
use Rattle.state_chunk.specs.declared.fault.ChunkFault.{ChunkFault}
use Rattle.state_chunk.specs.declared.fault.ChunkFault.TheVariants as fault
use Rattle.state_chunk.specs.Format.{kind_number, scope_number, version_number, record_scope, key_bytes, record_bytes, IsRecordOf}
use Rattle.state_chunk.specs.Reading.{part, header_of, first_key, is_known, body_in, record_of_version, record_read, DecodesTo}
use Rattle.state_chunk.proofs.ReadLemmas.{then_ok, part_ok, checked_ok, ended_ok}
use Rattle.state_chunk.proofs.KeyLemmas.{first_key-key_bytes, known_unit, first_key-some}
use Rattle.state_chunk.proofs.PartLemmas.{header_1, header_2, header_of-ok, body_in-bytes, body_in-ok}

-- the parts after the header, with nothing after them
pub regrouped : (a b c : List ℕ) → (a ++ b) ++ c ≡ a ++ (b ++ (c ++ []))
regrouped a b c = rw (append-nil c) (append_assoc a b c)

module _ {R : Type 0} (f : Semantics R) (laws : Laws f) where
  -- the version that a record needs is read
  header_again : (timed : Bool) (rest : List ℕ) → (timed ≡ true → has_times f.kind ≡ true)
      → header_of f.kind (record_scope f.kind) (has_times f.kind) (version_number timed ∷ kind_number f.kind ∷ scope_number (record_scope f.kind) ∷ rest)
      ≡ Ok (version_number timed, rest)
  header_again true rest tells = header_2 f.kind (record_scope f.kind) (has_times f.kind) rest (tells refl) (tells refl)
  header_again false rest tells = header_1 f.kind (record_scope f.kind) (has_times f.kind) rest

  -- the parts of a chunk, one after another
  parts_of : (u : units.Unit) (r : R)
      → record_bytes f u r ≡ version_number (f.is_timed r) ∷ kind_number f.kind ∷ scope_number (record_scope f.kind)
      ∷ (key_bytes u ++ (number_bytes 2 (length (f.body_of r)) ++ (f.body_of r ++ [])))
  unfolding record_bytes
  parts_of u r =
      ap (λ (more : List ℕ). version_number (f.is_timed r) ∷ kind_number f.kind ∷ scope_number (record_scope f.kind) ∷ more)
      (regrouped (key_bytes u) (number_bytes 2 (length (f.body_of r))) (f.body_of r))

  pub record_read-record_bytes : (u : units.Unit) (r : R) → f.is_valid u r ≡ true → record_read f (record_bytes f u r) ≡ Ok (u, r)
  unfolding record_read
  record_read-record_bytes u r valid =
      let unit = laws.unit u r valid in
      let rest : List ℕ = number_bytes 2 (length (f.body_of r)) ++ (f.body_of r ++ []) in
      let version : eqb (version_number (f.is_timed r)) (version_number (f.is_timed r)) ≡ true = grind (arith, nat_tests) in
      ap (record_read f) (parts_of u r)
      ∙ rw (
        header_again (f.is_timed r) (key_bytes u ++ rest) (laws.tells r),
        first_key-key_bytes f.kind u rest unit,
        known_unit f.kind u unit,
        body_in-bytes (f.body_of r) [] (laws.short u r valid),
        laws.again u r valid,
        version,
      ) refl

  -- the record of a version is the record, and needs that version
  record_of_version-ok : (version : ℕ) (o : Option R) (r : R) → record_of_version f version o ≡ Ok r → (o ≡ Some r) × (version_number (f.is_timed r) ≡ version)
  record_of_version-ok version None r h = cc
  record_of_version-ok version (Some s) r h =
      let parts = checked_ok (eqb (version_number (f.is_timed s)) version) fault.Body (Ok s) r h in
      let same : s ≡ r = cc in
      let needs : version_number (f.is_timed s) ≡ version = grind (arith, nat_tests) in
      (ap (λ x. Some x) same, rw (← same) needs)

  -- the parts that were read, joined
  joined : (u : units.Unit) (r : R) (version : ℕ) (bytes after_header after_key body : List ℕ) → version_number (f.is_timed r) ≡ version
      → bytes ≡ (version ∷ kind_number f.kind ∷ scope_number (record_scope f.kind) ∷ []) ++ after_header
      → after_header ≡ key_bytes u ++ after_key → after_key ≡ number_bytes 2 (length body) ++ (body ++ []) → f.body_of r ≡ body
      → bytes ≡ record_bytes f u r
  joined u r version bytes after_header after_key body is_version is_bytes is_header is_key is_body =
      is_bytes ∙ rw (← is_version, is_header, is_key, ← is_body) (sym (parts_of u r))

  pub record_read-ok : (bytes : List ℕ) (u : units.Unit) (r : R) → IsBytes bytes → record_read f bytes ≡ Ok (u, r) → IsRecordOf f bytes u r
  unfolding record_read
  record_read-ok bytes u r are h =
      then_ok (header_of f.kind (record_scope f.kind) (has_times f.kind) bytes) _ (u, r) h (λ header p h1.
      then_ok (part (first_key f.kind header.1)) _ (u, r) h1 (λ key q h2.
      then_ok (body_in key.1) _ (u, r) (checked_ok (is_known key.0) fault.Key _ (u, r) h2).1 (λ body s h3.
      then_ok (record_of_version f header.0 (record_in f key.0 body.0)) _ (u, r) h3 (λ kept t last.
      let head = header_of-ok f.kind (record_scope f.kind) (has_times f.kind) bytes header are p in
      let unit = first_key-some f.kind header.1 key head.0.rest_bytes (part_ok (first_key f.kind header.1) key q) in
      let stored = body_in-ok key.1 body unit.rest_bytes s in
      let is = record_of_version-ok header.0 (record_in f key.0 body.0) kept t in
      let all = ended_ok body.1 (key.0, kept) (u, r) last in
      let known = laws.read key.0 body.0 kept stored.body_bytes is.0 in
      let is_unit : key.0 ≡ u = ap (λ (x : units.Unit × R). x.0) all.1 in
      let is_record : kept ≡ r = ap (λ (x : units.Unit × R). x.1) all.1 in
      let body_is : key.1 ≡ number_bytes 2 (length body.0) ++ (body.0 ++ []) = stored.spelled
      ∙ ap (λ (more : List ℕ). number_bytes 2 (length body.0) ++ (body.0 ++ more)) all.0 in
      record {
        valid = rw (← is_unit, ← is_record) known.0;
        spelled = joined u r header.0 bytes header.1 key.1 body.0 (rw (← is_record) is.1) head.0.spelled (rw (← is_unit) unit.spelled) body_is
            (rw (← is_record) known.1);
      }))))

  pub record_found : (bytes : List ℕ) (result : Result (units.Unit × R) ChunkFault) → IsBytes bytes
      → DecodesTo (λ x. x) result (record_read f bytes) → IfOk result (λ x. IsRecordOf f bytes x.0 x.1)
  record_found bytes (Ok x) are given = record_read-ok bytes x.0 x.1 are given
  record_found bytes (Err e) are given = tt
