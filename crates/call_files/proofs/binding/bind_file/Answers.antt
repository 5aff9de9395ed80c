-- One file is bound, or none.
use Rattle.std.proofs.Common.{refl}
use Rattle.call_files.specs.Phases.{Is_kept}
use Rattle.call_files.proofs.BoundFiles.{binds_one}
use Rattle.call_files.proofs.binding.bind_file.Goals as goal

pub returns-in-Some-clause-binds : goal.returns-in-Some-clause-binds
returns-in-Some-clause-binds g c =
    binds_one (g.O.Outside.shown c.args.outside.now) c.args.role _ _ _ c.bind.result c.requires.unnamed c.bind.ensures.ok c.bind.ensures.err
    c.bind.ensures.others

pub returns-in-None-clause-binds : goal.returns-in-None-clause-binds
returns-in-None-clause-binds g c = λ role. Is_kept refl
