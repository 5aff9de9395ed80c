-- A step keeps what is valid for its host.
use Rattle.std.proofs.Common.{rules}
use Rattle.nf_function.specs.declared.unit.Unit.TheVariants.{Host as OfHost}
use Rattle.addr_translator.specs.StepLemmas.{kept_sound}
use Rattle.addr_translator.proofs.nat.NatFunction.step_along.Goals as goal

pub returns-clause-sound : goal.returns-clause-sound
returns-clause-sound c = λ sound.
    rw c.step_of_host.ensures.kept
    (kept_sound c.args.site.now (OfHost c.args.flow.local) c.args.kept.now c.args.packet.now (search rules) c.step_of_host.ensures.port sound)
