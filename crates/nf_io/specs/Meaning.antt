-- What callers know of the outside, role by role, and of a source or a sink. This project's own.
use Rattle.std.specs.Prelude.{◌≡◌, ◌≢◌, ℕ, ◌+◌, ◌-◌, ◌^◌, ◌≤◌, min, false, List, [], length, take, Option}
use Rattle.std.specs.Prelude.{None, Some, if◌then◌else◌, option_map, unwrap_or, IsTrue, IsSome, Result, OnErr}
use Rattle.std.specs.Io.KnownBytes.{Appends}
use Rattle.nf_io.specs.declared.outside.Role.{Role}
use Rattle.nf_io.specs.Roles.{is_read, needs_name, same_role}

-- a role's file: the bytes left to read and the bytes written, each where the outside tells them, the faults so far, and the name that was bound
pub record Meaning : Type 0 where
  pub left : Option (List ℕ)
  pub written : Option (List ℕ)
  pub faults : ℕ
  pub name : Option (List ℕ)

-- no contents, no faults and no name
abbrev pub blank : Meaning
blank = record { left = Some []; written = Some []; faults = 0; name = None }

-- the bytes that a file shows under a name: those left to read and those written, each where the outside tells them
pub record Shown : Type 0 where
  pub left : Option (List ℕ)
  pub written : Option (List ℕ)

-- the bytes of a role
abbrev pub bytes_of : Meaning → Shown
bytes_of meaning = record { left = meaning.left; written = meaning.written }

-- the role with these bytes
abbrev pub with_bytes : Shown → Meaning → Meaning
with_bytes shown meaning = record meaning { left = shown.left; written = shown.written }

-- the roles before a call, each with the bytes that its file showed then, where it has the file's name after the call
abbrev pub as_named : (Role → List ℕ → Shown) → (old new : Role → Meaning) → Role → Meaning
as_named shown old new role = with_bytes (unwrap_or (option_map (shown role) (new role).name) (bytes_of (old role))) (old role)

-- a count grew, or stands at the greatest u64
abbrev pub Rose : ℕ → ℕ → Type 0
Rose before now = min (before + 1) (2 ^ 64 - 1) ≤ now

-- a count never falls, and a call fails only where it rose
pub record HasCause {A E : Type 0} (before now : ℕ) (result : Result A E) : Type 0 where
  pub later : before ≤ now
  pub failed : OnErr result (Rose before now)

-- every role but this one is as before
abbrev pub OthersStay : Role → (Role → Meaning) → (Role → Meaning) → Type 0
OthersStay role old new = (other : Role) → other ≢ role → new other ≡ old other

-- the condition of a read: the role is one that is read, and has a name
pub record CanRead (role : Role) (meaning : Meaning) : Type 0 where
  pub read : IsTrue (is_read role)
  pub named : IsSome meaning.name

-- the condition of a write: the role is one that is written, and has a name where it needs one
pub record CanWrite (role : Role) (meaning : Meaning) : Type 0 where
  pub written : is_read role ≡ false
  pub named : IsTrue (needs_name role) → IsSome meaning.name

-- the condition of a bind: the role stands for a named file, and has no name yet
pub record CanBind (role : Role) (meaning : Meaning) : Type 0 where
  pub wanted : IsTrue (needs_name role)
  pub unnamed : meaning.name ≡ None

-- the whole outside without what a read of this role changes
unfoldable pub without_left : Role → (Role → Meaning) → Role → Meaning
without_left role seen other = if same_role role other then record (seen role) { left = None; faults = 0 } else seen other

-- the whole outside without what a write to this role changes
unfoldable pub without_written : Role → (Role → Meaning) → Role → Meaning
without_written role seen other = if same_role role other then record (seen role) { written = None; faults = 0 } else seen other

-- what the calls of a source or sink don't change: the loan that it holds, and all but what they read or write
pub record Untouched (S Rest : Type 0) : Type 0 where
  pub loan : S → ℕ
  pub rest : S → Rest

abbrev pub untouched : {S Rest : Type 0} → (S → ℕ) → (S → Rest) → Untouched S Rest
untouched loan rest = record { loan = loan; rest = rest }

-- a source or sink is open as before, holds the same loan, and all that its calls don't change is as before
pub record StaysOpen {S Rest : Type 0} (is_open : S → Type 0) (kept : Untouched S Rest) (old new : S) : Type 0 where
  pub still_open : is_open new
  pub same_loan : kept.loan new ≡ kept.loan old
  pub same_rest : kept.rest new ≡ kept.rest old

-- known bytes grow by a front of these
abbrev pub AppendsFront : Option (List ℕ) → Option (List ℕ) → List ℕ → Type 0
AppendsFront old new bytes = (n : ℕ) × (n ≤ length bytes) × Appends old new (take n bytes)
