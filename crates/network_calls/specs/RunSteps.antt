-- Steps between code and definition, which nobody has to believe: a network before its start, what was read and can be shared, and why choices give no report.
use Rattle.std.specs.Prelude.{◌≡◌, ◌≤◌, ℕ, true, All, List, length}
use Rattle.flow_filter.specs.Limits.{most_packets}
use Rattle.flow_filter.specs.Packet.{IsInRange}
use Rattle.flow_filter.specs.declared.packet.Packet.{Packet}
use Rattle.trace_reader.specs.Records.{AreNumbered}
use Rattle.trace_reader.specs.Steered.{is_steered_proto}
use Rattle.net_world.specs.Input.{IsInput}
use Rattle.net_world.specs.Length.{IsShort}
use Rattle.actor_net.specs.declared.choice.Choice.{Choice}
use Rattle.command_words.specs.Requests.{FailAsked, NetworkAsked, StrongAsked}
use Rattle.call_files.specs.declared.results.Made.{Made}
use Rattle.call_files.specs.declared.status.Status.{Status}
use Rattle.call_files.specs.declared.status.Status.TheVariants.{NoMemory, NotARun}
use Rattle.call_files.specs.Scenarios.{Scenario}
use Rattle.strong_share.specs.Start.{IsStrongJob}
use Rattle.network_calls.specs.declared.network.Opening.{Opening}
use Rattle.call_files.specs.CaptureScenes.{CaptureScene}
use Rattle.network_calls.specs.FailRuns.{IsNoFailover}
use Rattle.function_kinds.specs.Functions.{OfKind}
use Rattle.network_calls.specs.NetworkRuns.{RunGiven, IsNoRun, config_for, head_for, items_for, run_given}
use Rattle.network_calls.specs.StrongRuns.{sharing_for}
use Rattle.op_script.specs.declared.fault.ScriptFault.TheVariants as script
use Rattle.run_headline.specs.nf_net.specs.declared.course.AuditFault.{AuditFault}
use Rattle.run_headline.specs.nf_net.specs.declared.course.AuditFault.TheVariants as audit

-- what a run gives
abbrev pub made_with : List Choice → (report : List ℕ) → Made
made_with choices report = record { choices = choices; report = report }

-- a network before its start, with what its report repeats
pub record IsOpening (s : NetworkAsked) (scenario : Scenario) (opening : Opening) : Type 0 where
  pub config : opening.config ≡ config_for s scenario.site scenario.script.routes.items
  pub items : opening.items.items ≡ items_for scenario.captured scenario.script
  pub head : opening.head ≡ head_for s scenario.captured
  pub is_input : IsInput s.kind opening.config opening.items.items
  pub short : IsShort opening.items.items

-- packets as they are read from a capture: in the order of their numbers, with a transport that is steered, and no more than are read
pub record AreRead (packets : List Packet) : Type 0 where
  pub numbers : AreNumbered 1 packets
  pub steered : All (λ packet. is_steered_proto packet.proto ≡ true) packets
  pub in_range : All IsInRange packets
  pub few : length packets ≤ most_packets

-- strong sharing of captured packets, no more than are read
pub record CanShare (s : StrongAsked) (scene : CaptureScene) : Type 0 where
  pub job : IsStrongJob s.kind (sharing_for s scene)
  pub few : length scene.captured.packets ≤ most_packets

-- why a journal's choices give no report, for a function
module _ {F R : Type 0} (given : RunGiven F R) where
  abbrev pub IsRefusedAs : List Choice → Status → Type 0
  IsRefusedAs choices (NotARun step) = IsNoRun given choices step
  IsRefusedAs choices NoMemory = Unit {0}
  IsRefusedAs choices status = ⊥

  -- why they lead to no failover
  abbrev pub IsNoFailoverAs : FailAsked → List Choice → Status → Type 0
  IsNoFailoverAs asked choices (NotARun step) = IsNoFailover given asked choices step
  IsNoFailoverAs asked choices NoMemory = Unit {0}
  IsNoFailoverAs asked choices status = ⊥

-- the same, for the function that the words name
abbrev pub IsRefusedRun : NetworkAsked → Scenario → List Choice → Status → Type 0
IsRefusedRun s scenario choices status = OfKind s.kind (λ R F f. IsRefusedAs (run_given F f s scenario) choices status)

abbrev pub IsRefusedFailover : FailAsked → Scenario → List Choice → Status → Type 0
IsRefusedFailover asked scenario choices status =
    OfKind asked.network.kind (λ R F f. IsNoFailoverAs (run_given F f asked.network scenario) asked choices status)

-- the status of choices that have no report, or don't lead to a failover
abbrev pub audit_status : AuditFault → Status
audit_status (audit.NotARun step) = NotARun step
audit_status audit.NoMemory = NoMemory
