-- The last digit of the block is the number's.
use Rattle.std.proofs.Common.{rules, ◌<◌, ◌^◌, refl}
use Rattle.counted_lines.proofs.CountedDigits.{same_last}
use Rattle.counted_lines.proofs.counter.Counter.from.Goals as goal

pub invariant_of-result : goal.invariant_of-result
invariant_of-result c =
    let small : c.args.number < 2 ^ 64 = search rules in
    let it = same_last c.args.word.now c.numbered.result c.args.number small c.numbered.ensures in
    record { short = c.requires; some = it.0; last = refl; text = it.1 }
