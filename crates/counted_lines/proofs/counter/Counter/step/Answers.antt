-- Only the last digit changes.
use Rattle.std.proofs.Common.{arith, ◌<◌, ◌+◌, ◌-◌, ◌%◌, length, take, refl}
use Rattle.counted_lines.proofs.CountedDigits.{next_last}
use Rattle.counted_lines.proofs.counter.Counter.step.Goals as goal

pub invariant_of-self : goal.invariant_of-self
invariant_of-self c =
    let more : 0 < (c.args.self.now.number + 1) % 10 = omega (arith, c.if-digit-eq0.false) in
    record {
      short = c.args.self.now.short;
      some = c.args.self.now.some;
      last = refl;
      text = next_last c.args.self.now.word.now (take (length c.args.self.now.block - 1) c.args.self.now.block) c.args.self.now.number c.requires more
          c.args.self.now.text;
    }
