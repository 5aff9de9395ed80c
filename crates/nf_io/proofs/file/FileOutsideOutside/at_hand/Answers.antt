-- The bytes at hand are the first of those that the role has left.
use Rattle.nf_io.specs.Files.{views}
use Rattle.nf_io.proofs.FileRoles.{next_in}
use Rattle.nf_io.proofs.file.FileOutsideOutside.at_hand.Goals as goal

pub returns-clause-next : goal.returns-clause-next
returns-clause-next g c = λ left is.
    rw c.role_at_hand.ensures
    (next_in (views g.S.File.Read.remaining g.S.File.Write.contents) (g.S.System.told c.args.self.now.system) c.args.self.now.files
    c.args.role c.requires.read left is)
