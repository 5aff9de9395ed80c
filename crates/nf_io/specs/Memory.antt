-- What the outsides in memory hold, and which of their calls are to fail. This project's own.
use Rattle.std.specs.Prelude.{◌≡◌, ◌≢◌, ℕ, List, option_map, unwrap_or, slice_get}
use Rattle.nf_io.specs.declared.outside.Role.{Role}
use Rattle.nf_io.specs.declared.memory.MemoryOutside.{MemoryOutside}
use Rattle.nf_io.specs.Roles.{role_place}
use Rattle.nf_io.specs.Meaning.{Meaning, Shown, blank, bytes_of}
use Rattle.nf_io.specs.Planned.{FailPlan, unplanned, meaning_of, plan_of, room_of, after_call}

-- the four meanings of a role
abbrev pub seen_in : MemoryOutside → Role → Meaning
seen_in memory role = unwrap_or (option_map meaning_of (slice_get memory.tapes (role_place role))) blank

-- the bytes of a role, whatever its name is
abbrev pub shown_in : MemoryOutside → Role → List ℕ → Shown
shown_in memory role name = bytes_of (seen_in memory role)

-- the plan of a role
abbrev pub plan_in : MemoryOutside → Role → FailPlan
plan_in memory role = unwrap_or (option_map plan_of (slice_get memory.tapes (role_place role))) unplanned

-- how many bytes can be appended to a role without more memory
abbrev pub room_in : MemoryOutside → Role → ℕ
room_in memory role = unwrap_or (option_map room_of (slice_get memory.tapes (role_place role))) 0

-- the plans, and how much one call may take, are as before
pub record SamePlans (old new : MemoryOutside) : Type 0 where
  pub plans : (role : Role) → plan_in new role ≡ plan_in old role
  pub piece : new.most ≡ old.most

-- one more call was made on this role, and the plans are else as before
pub record CountsCall (role : Role) (old new : MemoryOutside) : Type 0 where
  pub called : plan_in new role ≡ after_call (plan_in old role)
  pub others : (other : Role) → other ≢ role → plan_in new other ≡ plan_in old other
  pub piece : new.most ≡ old.most
