-- One instance that nothing moves: what is kept of a unit and answered after packets; and which packets of a unit a log and a world name.
-- Packets go by their numbers. This project's own.
use Rattle.std.specs.Prelude.{ℕ, Bool, List, filter, map, scan, length, Option}
use Rattle.std.specs.List.{fold as fold_over}
use Rattle.nf_function.specs.declared.output.Output.{Output}
use Rattle.nf_function.specs.declared.unit.Unit as units
use Rattle.nf_function.specs.Semantics.{Semantics, unit_at, kept_after, output_for}
use Rattle.record_table.specs.Table.{same_unit}
use Rattle.nf_msgs.specs.declared.msg.Msg.{Msg}
use Rattle.nf_msgs.specs.declared.note.Note.{Note}
use Rattle.actor_net.specs.Network.{Network}
pub use Rattle.actor_net.specs.Numbers.{IsFront, times}
use Rattle.net_world.specs.declared.config.Config.{Config}
use Rattle.net_world.specs.declared.node.Node.{Node}
use Rattle.net_world.specs.Input.{packet_numbered}
use Rattle.net_world.specs.Log.{arrivals_in, dones_in, done_where}
use Rattle.net_world.specs.Path.{in_flight}
use Rattle.net_world.specs.Places.{owner}

module _ {R : Type 0} (f : Semantics R) (config : Config) (items : List Msg) where
  -- the packets of a unit among some
  abbrev pub is_of : units.Unit → ℕ → Bool
  is_of unit p = same_unit (unit_at f.kind config.site (packet_numbered items p)) unit

  -- one instance that nothing moves: what is kept of a unit after these packets, and the outputs to them
  abbrev pub fold : Option R → List ℕ → Option R
  fold kept ps = fold_over (λ before p. kept_after f config.site before (packet_numbered items p)) kept ps

  abbrev pub outputs : Option R → List ℕ → List Output
  outputs kept ps =
      scan (λ before p. kept_after f config.site before (packet_numbered items p))
      (λ before p. output_for f config.site before (packet_numbered items p)) kept ps

  -- the unit's packets that the switch took in, and that were processed, with their outputs
  abbrev pub arrived_of : units.Unit → List Note → List ℕ
  arrived_of unit log = filter (is_of unit) (arrivals_in log)

  abbrev pub processed_of : units.Unit → List Note → List ℕ
  processed_of unit log = map (λ d. d.number) (done_where (is_of unit) (dones_in log))

  abbrev pub outputs_noted : units.Unit → List Note → List Output
  outputs_noted unit log = map (λ d. d.output) (done_where (is_of unit) (dones_in log))

  -- its packets under way, of which those at its owner come last
  abbrev pub in_flight_of : {F : Type 0} → units.Unit → Network (Node F R) Msg Note → List ℕ
  in_flight_of unit w = filter (is_of unit) (in_flight w (length config.names) (owner config items unit w.log))
