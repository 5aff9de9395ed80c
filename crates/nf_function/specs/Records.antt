-- Laws of a function's records: how they are stored, which of two is newer, and what a step does to them.
-- This project's own.
use Rattle.std.specs.Prelude.{◌≡◌, ℕ, ◌<◌, ◌-◌, ◌^◌, ◌&&◌, ◌||◌, ◌⊎◌, nat_le, Bool, true, false}
use Rattle.std.specs.Prelude.{if◌then◌else◌, List, length, Option, None, Some, Result, Ok, Err}
use Rattle.std.specs.Ordering.{nat_cmp, on, then_cmp, is_gt}
use Rattle.std.specs.declared.cmp.Ordering.{Ordering}
use Rattle.std.specs.Cmp.Lexicographic.{slice_cmp}
use Rattle.flow_filter.specs.declared.packet.Packet.{Packet}
use Rattle.flow_filter.specs.declared.site.Site.{Site}
use Rattle.nf_function.specs.declared.function.BodyFault.{BodyFault}
use Rattle.nf_function.specs.declared.function.BodyFault.TheVariants.{Body, NoMemory}
use Rattle.nf_function.specs.declared.unit.Unit as units
use Rattle.nf_function.specs.Stored.{IsBytes}
use Rattle.nf_function.specs.Units.{has_times, is_unit, is_transport}
use Rattle.nf_function.specs.Semantics.{Semantics, count, is_sound, packets_in, record_in, unit_at}

-- what was read is what the bytes spell; `Body` exactly where they spell nothing; out of memory is free
abbrev pub Reads : {R : Type 0} → Result R BodyFault → Option R → Type 0
Reads (Ok r) spelled = spelled ≡ Some r
Reads (Err Body) spelled = spelled ≡ None
Reads (Err NoMemory) spelled = Unit {0}

-- records in the order of their packets, and then of their bodies
abbrev pub age_cmp : {R : Type 0} → Semantics R → R → R → Ordering
age_cmp f = then_cmp (on f.packets_of nat_cmp) (on f.body_of (slice_cmp nat_cmp))

-- the first record has more packets, or as many and a greater body
abbrev pub is_newer : {R : Type 0} → Semantics R → R → R → Bool
is_newer f a b = is_gt (age_cmp f a b)

-- the newer of two records: the first, where it is newer than the second
abbrev pub newest : {R : Type 0} → Semantics R → R → R → R
newest f a b = if is_newer f a b then a else b

-- the packet is of TCP or UDP, and its numbers and the site's are within their types
pub record Fits (site : Site) (p : Packet) : Type 0 where
  pub transport : is_transport p.proto ≡ true
  pub nanos : p.nanos < 2 ^ 64
  pub length : p.length < 2 ^ 32
  pub src : p.src < 2 ^ 32
  pub sport : p.sport < 2 ^ 16
  pub dst : p.dst < 2 ^ 32
  pub dport : p.dport < 2 ^ 16
  pub inside : site.inside.bits < 2 ^ 32

-- `is_newer` together with equality is a total order on the records that are valid for some unit
pub record IsRecordOrder {R : Type 0} (f : Semantics R) : Type 0 where
  pub irreflexive : (a : R) → is_newer f a a ≡ false
  pub transitive : (a b c : R) → is_newer f a b ≡ true → is_newer f b c ≡ true → is_newer f a c ≡ true
  pub total : (u v : units.Unit) (a b : R) → f.is_valid u a ≡ true → f.is_valid v b ≡ true
      → (is_newer f a b ≡ true) ⊎ (is_newer f b a ≡ true) ⊎ (a ≡ b)

-- a step makes a record newer while its packets are below their greatest number
abbrev pub StepsMakeNewer : {R : Type 0} → Semantics R → Type 0
StepsMakeNewer {R} f = (site : Site) (r : R) (p : Packet) → f.packets_of r < 2 ^ 64 - 1
    → is_newer f (f.stepped site (Some r) p).kept r ≡ true

-- what is kept holds a time
abbrev pub is_timed_kept : {R : Type 0} → Semantics R → Option R → Bool
is_timed_kept f None = false
is_timed_kept f (Some r) = f.is_timed r

-- the laws that each function keeps
pub record Laws {R : Type 0} (f : Semantics R) : Type 0 where
  -- only units of the function have valid records
  pub unit : (u : units.Unit) (r : R) → f.is_valid u r ≡ true → is_unit f.kind u ≡ true
  -- what is stored is read again
  pub again : (u : units.Unit) (r : R) → f.is_valid u r ≡ true → record_in f u (f.body_of r) ≡ Some r
  -- what is read is valid, and is stored as the same bytes: each record has one spelling
  pub read : (u : units.Unit) (bytes : List ℕ) (r : R) → IsBytes bytes → record_in f u bytes ≡ Some r
      → (f.is_valid u r ≡ true) × (f.body_of r ≡ bytes)
  -- a body belongs to one record, whatever the unit
  pub known : (u v : units.Unit) (a b : R) → f.is_valid u a ≡ true → f.is_valid v b ≡ true → f.body_of a ≡ f.body_of b → a ≡ b
  -- a body has a length of two bytes
  pub short : (u : units.Unit) (r : R) → f.is_valid u r ≡ true → length (f.body_of r) < 2 ^ 16
  -- what is valid stays valid under a step
  pub stays : (site : Site) (kept : Option R) (p : Packet) → Fits site p → is_sound f (unit_at f.kind site p) kept ≡ true
      → f.is_valid (unit_at f.kind site p) (f.stepped site kept p).kept ≡ true
  -- each step counts one packet
  pub counts : (site : Site) (kept : Option R) (p : Packet) → f.packets_of (f.stepped site kept p).kept ≡ count (packets_in f kept) 1
  -- only records of the functions with times hold one: from the first packet on whose time isn't 0
  pub tells : (r : R) → f.is_timed r ≡ true → has_times f.kind ≡ true
  pub times : (site : Site) (kept : Option R) (p : Packet)
      → f.is_timed (f.stepped site kept p).kept ≡ (has_times f.kind && (nat_le 1 p.nanos || is_timed_kept f kept))
