-- A step keeps what is valid for its host, also where memory ran out.
use Rattle.std.proofs.Common.{◌≡◌, ℕ, ◌^◌, true, Option, Result, Ok, Err, OnOk, OnErr, rules}
use Rattle.std.proofs.lemmas.Bool.{lt-ltb}
use Rattle.asset_monitor.specs.declared.record.AssetRecord.{AssetRecord}
use Rattle.nf_function.specs.declared.unit.Unit.TheVariants.{Host as OfHost}
use Rattle.nf_function.specs.Semantics.{is_sound}
use Rattle.asset_monitor.specs.Monitor.{monitor}
use Rattle.asset_monitor.specs.StepLemmas.{kept_sound}
use Rattle.asset_monitor.proofs.monitor.MonitorFunction.step_along.Goals as goal

either_sound : {A E : Type 0} (result : Result A E) (host : ℕ) (old after new : Option AssetRecord) → OnOk result (new ≡ after) → OnErr result (new ≡ old)
    → is_sound monitor (OfHost host) old ≡ true → is_sound monitor (OfHost host) after ≡ true → is_sound monitor (OfHost host) new ≡ true
either_sound (Ok x) host old after new ok err before step = rw ok step
either_sound (Err e) host old after new ok err before step = rw err before

pub returns-clause-sound : goal.returns-clause-sound
returns-clause-sound c = λ sound.
    let host = c.args._flow.local in
    either_sound c.step_of_host.result host c.args.kept.now _ c.step_of_host.new.kept c.step_of_host.ensures.kept c.step_of_host.ensures.err sound
    (kept_sound c.args.direction (OfHost host) c.args.kept.now c.args.packet.now (lt-ltb host (2 ^ 32) (search rules)) c.step_of_host.ensures.port sound)
