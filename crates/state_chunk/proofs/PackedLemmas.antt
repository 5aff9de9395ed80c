-- A flow's chunk that is held as numbers is read as its bytes are.
use Rattle.std.proofs.Common.{◌≡◌, ◌∙◌, ◌<◌, ◌≤◌, ◌^◌, ◌&&◌, ◌||◌, eqb, ℕ, zero, suc, Bool, true, false, cond, List, [], ◌∷◌, ◌++◌}
use Rattle.std.proofs.Common.{length, slice_index, Ok, Err, refl, ap, arith}
use Rattle.nf_function.specs.declared.chunk.Packed.{Packed}
use Rattle.nf_function.specs.declared.short.ShortBody.{ShortBody}
use Rattle.nf_function.specs.declared.kind.Kind.{Kind}
use Rattle.nf_function.specs.declared.kind.Kind.TheVariants.{Conntrack}
use Rattle.nf_function.specs.declared.kind.Scope.{Scope}
use Rattle.flow_filter.specs.declared.flow.Flow.{Flow}
use Rattle.nf_function.specs.declared.unit.Unit as units
use Rattle.nf_function.specs.declared.unit.Unit.TheVariants.{Flow as OfFlow}
use Rattle.nf_function.specs.Forms.{key_bytes, packed_bytes}
use Rattle.nf_function.specs.Short.{short_bytes}
use Rattle.nf_function.specs.Stored.{IsBytes, number_bytes}
use Rattle.nf_function.specs.Units.{has_hosts, has_times, is_unit, is_transport_flow}
use Rattle.nf_function.specs.Semantics.{Semantics, record_in}
use Rattle.nf_function.proofs.ShortLemmas.{length-short_bytes}
use Rattle.nf_function.proofs.StoredNumbers.{IsBytes-big_bytes}
use Rattle.state_chunk.specs.declared.fault.ChunkFault.TheVariants as fault
use Rattle.state_chunk.specs.Format.{kind_number, scope_number, record_scope}
use Rattle.state_chunk.specs.Reading.{Read, then_read, part, checked, header_of, may_have, first_key, is_known, body_in, record_of_version, at_end, record_read}
use Rattle.state_chunk.specs.PackedSteps.{packed_read}
use Rattle.state_chunk.proofs.KeyLemmas.{first_key-key_bytes, known_unit}
use Rattle.state_chunk.proofs.PartLemmas.{body_in-bytes}
use Rattle.state_chunk.proofs.RecordLemmas.{regrouped}

-- what is read of a header doesn't depend on what comes after it
header_more : (kind : Kind) (scope : Scope) (timed : Bool) (v k s : ℕ) (rest : List ℕ)
    → header_of kind scope timed (v ∷ k ∷ s ∷ rest) ≡ then_read (header_of kind scope timed (v ∷ k ∷ s ∷ [])) λ header. Ok (header.0, rest)
unfolding header_of
header_more kind scope timed v k s rest =
    by_tests (eqb v 1 || eqb v 2) (eqb k (kind_number kind) && may_have v (has_times kind)) (eqb s (scope_number scope) && may_have v timed)
  where
    tested : Bool → Bool → Bool → List ℕ → Read (ℕ × List ℕ)
    tested a b c rest = checked a (fault.Version v) (checked b fault.Kind (checked c fault.Kind (Ok (v, rest))))

    by_tests : (a b c : Bool) → tested a b c rest ≡ then_read (tested a b c []) λ header. Ok (header.0, rest)
    by_tests false b c = refl
    by_tests true false c = refl
    by_tests true true false = refl
    by_tests true true true = refl

-- a flow of TCP or UDP is a unit of a function whose units are flows
flow_unit : (kind : Kind) (flow : Flow) → has_hosts kind ≡ false → is_transport_flow flow ≡ true → is_unit kind (OfFlow flow) ≡ true
flow_unit Conntrack flow flows fits = fits
flow_unit kind flow flows fits = cc

-- the list is of bytes, as a fact that joins
record AreBytes (bytes : List ℕ) : Type 0 where
  pub each : IsBytes bytes

one : {x : ℕ} → x < 256 → AreBytes (x ∷ [])
one {x} small = record { each = placed }
  where
    placed : (i : ℕ) → slice_index (x ∷ []) i < 256
    placed zero = small
    placed (suc i) = omega arith

both : {xs ys : List ℕ} → AreBytes xs → AreBytes ys → AreBytes (xs ++ ys)
both {xs} {ys} first second = record { each = joined xs first.each }
  where
    joined : (xs : List ℕ) → IsBytes xs → IsBytes (xs ++ ys)
    joined [] are i = second.each i
    joined (x ∷ xs) are zero = are zero
    joined (x ∷ xs) are (suc i) = joined xs (λ k. are (suc k)) i

number : (n x : ℕ) → AreBytes (number_bytes n x)
unfolding number_bytes
number n x = record { each = IsBytes-big_bytes n x }

key : (flow : Flow) → flow.proto < 256 → AreBytes (key_bytes (OfFlow flow))
unfolding key_bytes
key flow proto = both (both (both (both (one proto) (number 4 flow.local)) (number 2 flow.lport)) (number 4 flow.remote)) (number 2 flow.rport)

short : (b : ShortBody) → b.first < 256 → b.second < 256 → AreBytes (short_bytes b)
unfolding short_bytes
short b first second = both (both (both (both (one first) (one second)) (number 8 b.third)) (number 8 b.fourth)) (last (eqb b.last 0))
  where
    last : (none : Bool) → AreBytes (cond none [] (number_bytes 8 b.last))
    last true = record { each = λ i. omega arith }
    last false = number 8 b.last

-- the numbers of one byte are within it
pub record FitBytes (p : Packed) : Type 0 where
  pub version : p.version < 256
  pub kind : p.kind < 256
  pub scope : p.scope < 256
  pub proto : p.flow.proto < 256
  pub first : p.body.first < 256
  pub second : p.body.second < 256

-- what numbers spell are bytes
pub IsBytes-packed_bytes : (p : Packed) → FitBytes p → IsBytes (packed_bytes p)
unfolding packed_bytes
IsBytes-packed_bytes p fit =
    let header = both (both (one fit.version) (one fit.kind)) (one fit.scope) in
    let front = both (both header (key p.flow fit.proto)) (number 2 (length (short_bytes p.body))) in
    let all : AreBytes (packed_bytes p) = both front (short p.body fit.first fit.second) in
    all.each

module _ {R : Type 0} (f : Semantics R) (p : Packed) where
  -- what comes after the header
  after : List ℕ
  after = key_bytes (OfFlow p.flow) ++ (number_bytes 2 (length (short_bytes p.body)) ++ (short_bytes p.body ++ []))

  parts_of : packed_bytes p ≡ p.version ∷ p.kind ∷ p.scope ∷ after
  unfolding packed_bytes after
  parts_of =
      ap (λ (more : List ℕ). p.version ∷ p.kind ∷ p.scope ∷ more)
      (regrouped (key_bytes (OfFlow p.flow)) (number_bytes 2 (length (short_bytes p.body))) (short_bytes p.body))

  pub record_read-packed_bytes : has_hosts f.kind ≡ false → is_transport_flow p.flow ≡ true → record_read f (packed_bytes p) ≡ packed_read f p
  unfolding record_read packed_read after
  record_read-packed_bytes flows fits =
      ap (record_read f) parts_of
      ∙ ap (λ (header : Read (ℕ × List ℕ)). then_read header next)
      (header_more f.kind (record_scope f.kind) (has_times f.kind) p.version p.kind p.scope after)
      ∙ by_header (header_of f.kind (record_scope f.kind) (has_times f.kind) (p.version ∷ p.kind ∷ p.scope ∷ []))
    where
      unit : is_unit f.kind (OfFlow p.flow) ≡ true
      unit = flow_unit f.kind p.flow flows fits

      next : ℕ × List ℕ → Read (units.Unit × R)
      next header =
          then_read (part (first_key f.kind header.1)) λ key.
          checked (is_known key.0) fault.Key (
          then_read (body_in key.1) λ body.
          then_read (record_of_version f header.0 (record_in f key.0 body.0)) λ r.
          at_end body.1 (key.0, r))

      by_header : (header : Read (ℕ × List ℕ)) → then_read (then_read header λ h. Ok (h.0, after)) next
          ≡ then_read header λ h. then_read (record_of_version f h.0 (record_in f (OfFlow p.flow) (short_bytes p.body))) λ r. Ok (OfFlow p.flow, r)
      by_header (Err e) = refl
      by_header (Ok h) =
          let most : length (short_bytes p.body) ≤ 26 = length-short_bytes p.body in
          let short : length (short_bytes p.body) < 2 ^ 16 = omega (arith, most) in
          rw (
            first_key-key_bytes f.kind (OfFlow p.flow) (number_bytes 2 (length (short_bytes p.body)) ++ (short_bytes p.body ++ [])) unit,
            known_unit f.kind (OfFlow p.flow) unit,
            body_in-bytes (short_bytes p.body) [] short,
          ) refl
