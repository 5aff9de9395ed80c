-- The counts are the numbers that the body spells.
use Rattle.std.proofs.Common.{◌∙◌, length, ap, arith}
use Rattle.state_chunk.specs.Reading.{slots_of}
use Rattle.state_chunk.proofs.TallyLemmas.{numbers_in-IsRead, numbers_in-None}
use Rattle.state_chunk.proofs.tallies.tally_in.Goals as goal

pub returns-then-body-from-clause-value : goal.returns-then-body-from-clause-value
returns-then-body-from-clause-value c = ap slots_of (numbers_in-None 16 c.args.body.now (λ i. omega (arith, c.type_inv.body i)) (λ e. omega (arith, e)))

pub returns-clause-value : goal.returns-clause-value
returns-clause-value c = ap slots_of (numbers_in-IsRead 16 c.args.body.now c.read_u64_into.new.dst (omega (arith, c.if-body-from.false))
    (c.read_u64_into.auto.dst ∙ ap length c.zero-tally.ensures) c.read_u64_into.ensures)
