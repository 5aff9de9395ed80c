-- A packet that leaves does so from its source.
use Rattle.addr_translator.proofs.table.translate.Goals as goal

pub returns-in-Leaves-clause-kept : goal.returns-in-Leaves-clause-kept
returns-in-Leaves-clause-kept c = rw (c.leave.ensures.kept, c.in-Leaves.is, c.count_packet.ensures, c.requires)

pub returns-in-Leaves-clause-output : goal.returns-in-Leaves-clause-output
returns-in-Leaves-clause-output c = rw (c.leave.ensures.output, c.in-Leaves.is, c.count_packet.ensures, c.requires)
