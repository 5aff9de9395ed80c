-- Filters over flows: which flows match, what two filters say together, and when one covers another.
-- This project's own rules. A field that isn't given says nothing.
use Rattle.std.specs.Prelude.{◌≡◌, ℕ, ◌<◌, ◌^◌, Bool, true, false, ◌&&◌, ◌||◌, ◌==◌, nat_eq, nat_le, if◌then◌else◌, Option, None, Some}
use Rattle.std.specs.Option.{ForSome}
use Rattle.basics.specs.Options.{◌>>=◌}
use Rattle.flow_filter.specs.Prefixes.{in_prefix}
use Rattle.flow_filter.specs.declared.prefix.Prefix.{Prefix}
use Rattle.flow_filter.specs.declared.flow.Flow.{Flow}
use Rattle.flow_filter.specs.declared.filter.Filter.{Filter}

-- the prefix has the address
abbrev pub holds : Prefix → ℕ → Bool
holds p address = in_prefix p.bits p.len address

-- a field agrees with a value where it isn't given, or its test passes
abbrev pub agrees : {X : Type 0} → (X → ℕ → Bool) → Option X → ℕ → Bool
agrees test None value = true
agrees test (Some x) value = test x value

-- every field of the filter agrees with the flow
abbrev pub matches : Filter → Flow → Bool
matches f flow = agrees nat_eq f.proto flow.proto && agrees holds f.local flow.local && agrees nat_eq f.lport flow.lport
    && agrees holds f.remote flow.remote && agrees nat_eq f.rport flow.rport

-- one field of two filters: what both say, or None where two given values differ, by a test of equality
abbrev pub meet_value : {X : Type 0} → (X → X → Bool) → Option X → Option X → Option (Option X)
meet_value eq None y = Some y
meet_value eq (Some x) None = Some (Some x)
meet_value eq (Some x) (Some y) = if eq x y then Some (Some x) else None

-- the longer of two prefixes, or None where it lies outside the shorter
abbrev pub longer : Prefix → Prefix → Option (Option Prefix)
longer p q =
    if nat_le p.len q.len then (if holds p q.bits then Some (Some q) else None)
    else (if holds q p.bits then Some (Some p) else None)

-- one field of two filters: what both say, or None where neither of two given prefixes holds the other
abbrev pub meet_prefix : Option Prefix → Option Prefix → Option (Option Prefix)
meet_prefix None q = Some q
meet_prefix (Some p) None = Some (Some p)
meet_prefix (Some p) (Some q) = longer p q

-- field by field what both filters say, or None where some field has nothing in common
abbrev pub meet : Filter → Filter → Option Filter
meet f g = do
  proto ← meet_value nat_eq f.proto g.proto
  local ← meet_prefix f.local g.local
  lport ← meet_value nat_eq f.lport g.lport
  remote ← meet_prefix f.remote g.remote
  rport ← meet_value nat_eq f.rport g.rport
  Some (record { proto = proto; local = local; lport = lport; remote = remote; rport = rport })

-- two fields agree where they aren't both given, or the test of the two passes
abbrev pub both_agree : {X : Type 0} → (X → X → Bool) → Option X → Option X → Bool
both_agree test (Some x) (Some y) = test x y
both_agree test _ _ = true

-- one of two prefixes holds the other
abbrev pub overlap : Prefix → Prefix → Bool
overlap p q = (nat_le p.len q.len && holds p q.bits) || (nat_le q.len p.len && holds q p.bits)

-- the filters agree in every field that both give
abbrev pub meets : Filter → Filter → Bool
meets f g = both_agree nat_eq f.proto g.proto && both_agree overlap f.local g.local && both_agree nat_eq f.lport g.lport
    && both_agree overlap f.remote g.remote && both_agree nat_eq f.rport g.rport

-- a given value covers an equal one
abbrev pub covers_value : {X : Type 0} → (X → X → Bool) → Option X → Option X → Bool
covers_value eq None y = true
covers_value eq (Some x) None = false
covers_value eq (Some x) (Some y) = eq x y

-- a given prefix covers one that it holds, and everything where its length is 0
abbrev pub covers_prefix : Option Prefix → Option Prefix → Bool
covers_prefix None q = true
covers_prefix (Some p) None = p.len == 0
covers_prefix (Some p) (Some q) = nat_le p.len q.len && holds p q.bits

-- each field of the first filter covers that of the second
abbrev pub covers : Filter → Filter → Bool
covers f g = covers_value nat_eq f.proto g.proto && covers_prefix f.local g.local && covers_value nat_eq f.lport g.lport
    && covers_prefix f.remote g.remote && covers_value nat_eq f.rport g.rport

-- each number of the flow is within its type
pub record IsFlow (flow : Flow) : Type 0 where
  pub proto : flow.proto < 2 ^ 8
  pub local : flow.local < 2 ^ 32
  pub lport : flow.lport < 2 ^ 16
  pub remote : flow.remote < 2 ^ 32
  pub rport : flow.rport < 2 ^ 16

-- each number that the filter gives is within its type
pub record IsFilter (f : Filter) : Type 0 where
  pub proto : ForSome f.proto (λ n. n < 2 ^ 8)
  pub local : ForSome f.local (λ p. p.bits < 2 ^ 32)
  pub lport : ForSome f.lport (λ n. n < 2 ^ 16)
  pub remote : ForSome f.remote (λ p. p.bits < 2 ^ 32)
  pub rport : ForSome f.rport (λ n. n < 2 ^ 16)

-- some flow matches both filters
abbrev pub Meet : Filter → Filter → Type 0
Meet f g = (flow : Flow) × IsFlow flow × ((matches f flow && matches g flow) ≡ true)

-- the third filter matches exactly the flows that both others match
abbrev pub IsMeet : Filter → Filter → Filter → Type 0
IsMeet f g both = (flow : Flow) → IsFlow flow → matches both flow ≡ (matches f flow && matches g flow)

-- every flow that the second filter matches is matched by the first
abbrev pub Covers : Filter → Filter → Type 0
Covers f g = (flow : Flow) → IsFlow flow → matches g flow ≡ true → matches f flow ≡ true
