-- Who makes the choices. This is the project's own.
use Rattle.std.specs.Prelude.{◌≡◌, List}
use Rattle.actor_net.specs.declared.choice.Choice.{Choice}
use Rattle.actor_net.specs.declared.schedule.Schedule.{Schedule}
use Rattle.speed_core.specs.declared.runs.Chooser.{Chooser}
use Rattle.speed_core.specs.declared.runs.Chooser.TheVariants.{Scheduled, Threads}

-- choices are made by a chooser: by a schedule those that it takes, by threads any
abbrev pub AreMadeBy : Chooser → (Schedule → List Choice) → List Choice → Type 0
AreMadeBy (Scheduled schedule) scheduled choices = choices ≡ scheduled schedule
AreMadeBy Threads scheduled choices = Unit {0}

-- choices are made by a schedule of which this holds
abbrev pub IsBySchedule : Chooser → (Schedule → Type 0) → Type 0
IsBySchedule (Scheduled schedule) holds = holds schedule
IsBySchedule Threads holds = ⊥
