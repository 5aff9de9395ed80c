-- What a step of an instance keeps of its records; chunks such as come in a run are good: an instance takes them.
use Rattle.proof_outlines.proofs.Words.{◌≡◌, ℕ, suc, ◌+◌, ◌^◌, Bool, true, false, cond, Option, Some, None, List, [], ◌∷◌, length, refl, ap, ◌∙◌, is_some}
use Rattle.proof_outlines.proofs.Words.{arith, add-one, ◌&&◌, not, nat_lt, AllByRecursion, keys_of, nat_tests, IsDistinct-head, IsDistinct-tail, Packet, Site}
use Rattle.proof_outlines.proofs.Words.{Chunk, Kind, unit_cmp, has_hosts, is_transport, is_unit, units_total, Fits, Semantics, is_sound, kept_after, unit_at}
use Rattle.proof_outlines.proofs.Words.{Records, same_unit, without, is_among, after_packet, AreSound, are_good, sound_with_kept, sound_retain_keys, Each, Unit}
use Rattle.proof_outlines.proofs.Words.{IsDistinct, OfFlow, OfHost, FunctionLaws, records_of}
use Rattle.std.specs.FinMap as finite
use Rattle.record_table.proofs.ChunkFronts.{equal_to}
use Rattle.record_table.proofs.RecordLookUps.{at}
use Rattle.proof_outlines.proofs.joined.Words.{unit_fits, entries, HasRecords, AreValid, Given, IsGoodChunk, AreGoodChunks}

-- a unit that a function may have a record for is one that packets may have
proto_fits : (proto : ℕ) → is_transport proto ≡ true → nat_lt proto (2 ^ 8) ≡ true
proto_fits proto e = grind (arith, nat_tests)

-- where the first test of a flow tells another
with_first : (n a to b c d e : Bool) → (a ≡ true → to ≡ true) → n && (a && b && c && d && e) ≡ true → n && (to && (b && (c && (d && e)))) ≡ true
with_first false a to b c d e tells h = cc
with_first true false to b c d e tells h = cc
with_first true true to false c d e tells h = cc
with_first true true to true false d e tells h = cc
with_first true true to true true false e tells h = cc
with_first true true to true true true false tells h = cc
with_first true true to true true true true tells h = rw (tells refl) refl

pub unit_is_fit : (kind : Kind) (u : Unit) → is_unit kind u ≡ true → unit_fits kind u ≡ true
unit_is_fit kind (OfFlow flow) e = with_first (not (has_hosts kind)) (is_transport flow.proto) (nat_lt flow.proto (2 ^ 8)) (nat_lt flow.local (2 ^ 32))
    (nat_lt flow.lport (2 ^ 16)) (nat_lt flow.remote (2 ^ 32)) (nat_lt flow.rport (2 ^ 16)) (proto_fits flow.proto) e
unit_is_fit kind (OfHost host) e = e

module _ {R : Type 0} (f : Semantics R) (laws : FunctionLaws f) where
  sound_is_fit : (u : Unit) (o : Option R) → is_sound f u o ≡ true → is_some o ≡ true → unit_fits f.kind u ≡ true
  sound_is_fit u None sound e = cc
  sound_is_fit u (Some r) sound e = unit_is_fit f.kind u (laws.unit u r sound)

  -- valid records are for units that packets have
  pub has_records : (live : Records R) → AreSound f live → HasRecords f live
  has_records live sound = record { sound = sound; fits = λ u e. sound_is_fit u (finite.get live u) (sound u) e }

  stepped_sound : (site : Site) (p : Packet) (o : Option R) → Fits site p → is_sound f (unit_at f.kind site p) o ≡ true
      → is_sound f (unit_at f.kind site p) (kept_after f site o p) ≡ true
  stepped_sound site p o fits sound = let transport = fits.transport in rw transport (laws.stays site o p fits sound)

  -- a packet steps a valid record to one
  pub sound_after : (site : Site) (live : Records R) (p : Packet) → Fits site p → AreSound f live → AreSound f (after_packet f site live p)
  sound_after site live p fits sound =
      let u = unit_at f.kind site p in
      sound_with_kept f live u (kept_after f site (finite.get live u) p) sound (stepped_sound site p (finite.get live u) fits (sound u))

  pub sound_without : (us : List Unit) (live : Records R) → AreSound f live → AreSound f (without us live)
  sound_without us live sound = sound_retain_keys f live (λ unit. not (is_among us unit)) sound

module _ {R : Type 0} where
  absent : (u : Unit) (es : List (Unit × R)) → AllByRecursion (λ v. same_unit u v ≡ false) (keys_of es) → at es u ≡ None
  absent u [] apart = refl
  absent u (e ∷ es) apart = rw apart.0 (absent u es apart.1)

  -- a map from entries of different units has as many
  pub as_many : (es : List (Unit × R)) → IsDistinct same_unit (keys_of es) → finite.len (finite.from_entries {R = unit_cmp} es) ≡ length es
  as_many [] d = finite.len-empty unit_cmp R
  as_many (e ∷ es) d =
      let none = finite.get-from_entries units_total es e.0 ∙ absent e.0 es (IsDistinct-head same_unit e.0 (keys_of es) d) in
      finite.len-insert units_total (finite.from_entries es) e.0 e.1 ∙ ap (λ (o : Option R). cond (is_some o)
      (finite.len (finite.from_entries {R = unit_cmp} es)) (finite.len (finite.from_entries {R = unit_cmp} es) + 1)) none
      ∙ ap (λ n. n + 1) (as_many es (IsDistinct-tail same_unit e.0 (keys_of es) d)) ∙ add-one (length es)

module _ {R : Type 0} (f : Semantics R) (laws : FunctionLaws f) (g : Given) where
  pub valid_chunks : (cs : List Chunk) → Each (IsGoodChunk f g) cs → AreValid f laws (entries f cs)
  valid_chunks [] h = tt
  valid_chunks (c ∷ cs) h = let spells = h.0.chunk.spells in rw spells (h.0.valid, valid_chunks cs h.1)

  all_spell : (cs : List Chunk) → Each (IsGoodChunk f g) cs → length (entries f cs) ≡ length cs
  all_spell [] h = refl
  all_spell (c ∷ cs) h = let spells = h.0.chunk.spells in rw spells (ap suc (all_spell cs h.1))

  -- good chunks are good
  pub chunks_good : (cs : List Chunk) → AreGoodChunks f g cs → are_good f cs ≡ true
  unfolding records_of
  chunks_good cs h = equal_to _ _ (as_many (entries f cs) h.distinct ∙ all_spell cs h.each)
