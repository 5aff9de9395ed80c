-- A packet that is neither of TCP nor of UDP is quiet.
use Rattle.std.proofs.Common.{◌≡◌, ◌∙◌, false, sym, unwrap_or}
use Rattle.nf_function.specs.Units.{is_transport}
use Rattle.asset_monitor.specs.RowLemmas.{watched_other}
use Rattle.asset_monitor.specs.Outputs.{nothing, counted}
use Rattle.asset_monitor.proofs.table.step_of_host.Goals as goal

pub returns-then-not-is_transport-clause-output : goal.returns-then-not-is_transport-clause-output
returns-then-not-is_transport-clause-output c =
    let other : is_transport c.args.packet.now.proto ≡ false = sym c.is_transport.ensures ∙ c.if-not-is_transport.true in
    rw (watched_other c.args.direction (counted (unwrap_or c.args.kept.now nothing)) c.args.packet.now other) c.output.ensures
