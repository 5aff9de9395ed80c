-- What is written is read again.
use Rattle.state_chunk.proofs.TallyLemmas.{tally_read-tally_bytes}
use Rattle.state_chunk.proofs.tallies.encode_tally.Goals as goal

pub returns-clause-again : goal.returns-clause-again
returns-clause-again c = rw (c.spelled.ensures, c.in_ok-push_tally.ensures.bytes, c.open-bytes.ensures)
    (tally_read-tally_bytes c.args.kind c.args.tally.now.slots c.in_ok-push_tally.ensures.counts)
