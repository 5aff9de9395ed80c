-- Which of the calls on a tape are to fail. This project's own.
use Rattle.std.specs.Prelude.{ℕ, ◌+◌, ◌-◌, ◌^◌, ◌==◌, Bool, List, [], min}
use Rattle.std.specs.List.{list_any}
use Rattle.nf_io.specs.declared.planned.PlannedTape.{PlannedTape}
use Rattle.nf_io.specs.Meaning.{Meaning}
use Rattle.nf_io.specs.Tapes.{meaning_on, room_on}

-- how many calls were made, and the numbers of those that are to fail
pub record FailPlan : Type 0 where
  pub calls : ℕ
  pub fails : List ℕ

-- no call was made, and none is to fail
abbrev pub unplanned : FailPlan
unplanned = record { calls = 0; fails = [] }

-- the number of the next call, which stays at the greatest u64
abbrev pub next_call : FailPlan → ℕ
next_call plan = min (plan.calls + 1) (2 ^ 64 - 1)

-- whether the next call is to fail
abbrev pub is_failing : FailPlan → Bool
is_failing plan = list_any (λ n. n == next_call plan) plan.fails

-- the plan after one more call
abbrev pub after_call : FailPlan → FailPlan
after_call plan = record plan { calls = next_call plan }

-- the four meanings of its role
abbrev pub meaning_of : PlannedTape → Meaning
meaning_of planned = meaning_on planned.tape

-- the calls made, and those that are to fail
abbrev pub plan_of : PlannedTape → FailPlan
plan_of planned = record { calls = planned.calls; fails = planned.fails.items }

-- how many bytes can be appended without more memory
abbrev pub room_of : PlannedTape → ℕ
room_of planned = room_on planned.tape
