-- Why no count of choices is printed, and the status that tells it. This is the project's own.
use Rattle.std.specs.Prelude.{ℕ}
use Rattle.actor_net.specs.declared.schedule.ScheduleFault.{ScheduleFault}
use Rattle.actor_net.specs.declared.schedule.ScheduleFault.TheVariants as schedule
use Rattle.speed_core.specs.declared.fault.Fault.{Fault}
use Rattle.speed_core.specs.declared.fault.Fault.TheVariants.{Words, Unfinished, NoMemory}

-- the fault of a run whose schedule ended so
abbrev pub fault_of : ScheduleFault → Fault
fault_of (schedule.Unfinished step) = Unfinished step
fault_of schedule.NoMemory = NoMemory

-- the number that the program ends with
abbrev pub exit_number : Fault → ℕ
exit_number Words = 1
exit_number (Unfinished step) = 1
exit_number NoMemory = 6
