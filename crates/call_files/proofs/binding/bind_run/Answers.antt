-- Three files are bound, one after another.
use Rattle.std.proofs.Common.{◌∙◌}
use Rattle.call_files.proofs.BoundFiles.{binds_after}
use Rattle.call_files.proofs.binding.bind_run.Goals as goal

pub returns-clause-binds : goal.returns-clause-binds
returns-clause-binds g c =
    binds_after _ _ (λ role name. c.bind_file-2.ensures.shown role name ∙ c.bind_file.ensures.shown role name) _ _ _
    (binds_after _ _ c.bind_file.ensures.shown _ _ _ c.bind_file.ensures.binds c.bind_file-2.ensures.binds) c.bind_file-3.ensures.binds

pub returns-in_err-bind_file-2-clause-binds : goal.returns-in_err-bind_file-2-clause-binds
returns-in_err-bind_file-2-clause-binds g c =
    binds_after _ _ c.bind_file.ensures.shown _ _ _ c.bind_file.ensures.binds c.bind_file-2.ensures.binds
