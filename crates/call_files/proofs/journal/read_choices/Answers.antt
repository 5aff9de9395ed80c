-- What is known of the outside once the source over it is gone.
use Rattle.std.proofs.Common.{rules}
use Rattle.nf_io.proofs.RolesAfterLoan.{left_written, left_name, left_others}
use Rattle.call_files.proofs.journal.read_choices.Goals as goal

pub returns-clause-alone : goal.returns-clause-alone
returns-clause-alone g c = record {
  written = left_written g.O.Outside.seen _ _ _ _ _ c.read_journal_from.ensures.stays.same_rest (search rules);
  name = left_name g.O.Outside.seen _ _ _ _ _ c.read_journal_from.ensures.stays.same_rest (search rules);
  others = left_others g.O.Outside.seen _ _ _ _ _ c.read_journal_from.ensures.stays.same_rest (search rules);
}
