-- The role has the bytes that its file shows.
use Rattle.nf_io.specs.Files.{told_in, views}
use Rattle.nf_io.proofs.FileRoles.{bound_file}
use Rattle.nf_io.proofs.file.FileOutsideOutside.bind.Goals as goal

pub returns-clause-ok : goal.returns-clause-ok
returns-clause-ok g c =
    let told = g.S.System.told c.args.self.now.system in
    let view = views g.S.File.Read.remaining g.S.File.Write.contents in
    bound_file told (told_in view told c.args.self.now.files)
    (told_in view told c.bind.new.self) c.args.self.now.faults c.args.self.now.files c.bind.new.self c.args.role c.args.name.now c.bind.result
    (c.bind.ensures.begun view told) c.bind.ensures.ok
