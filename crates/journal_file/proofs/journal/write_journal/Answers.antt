-- What was written is read again.
use Rattle.journal_file.proofs.HeaderReads.{journal_again}
use Rattle.journal_file.proofs.journal.write_journal.Goals as goal

pub returns-clause-again : goal.returns-clause-again
returns-clause-again c = λ few. rw (c.in_ok-push_journal.ensures, c.in_ok-bytes.ensures) (journal_again c.args.kind c.args.instances c.args.choices.now few)
