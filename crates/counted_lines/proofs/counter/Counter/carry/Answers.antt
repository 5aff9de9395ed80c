-- The digit before the last counts up, and the last becomes 0.
use Rattle.std.proofs.Common.{arith, ◌≡◌, ◌<◌, ◌≤◌, ◌+◌, ◌-◌, ◌/◌, ◌%◌, length, take, sym, refl}
use Rattle.counted_lines.proofs.CountedDigits.{two_digits, next_carried}
use Rattle.counted_lines.proofs.counter.Counter.carry.Goals as goal

pub set_before_last-requires : goal.set_before_last-requires
set_before_last-requires c =
    two_digits c.args.self.now.word.now c.args.self.now.block c.args.self.now.number c.requires.within (omega (arith, c.if-digit-eq0.false)) c.requires.carries
    c.args.self.now.text

pub invariant_of-self : goal.invariant_of-self
invariant_of-self c =
    let many : 20 ≤ c.args.self.now.number + 1 = omega (arith, c.if-digit-eq0.false) in
    let tens : 0 < (c.args.self.now.number + 1) / 10 % 10 = omega (arith, c.if-digit-eq0.false) in
    record {
      short = c.args.self.now.short;
      some = omega (arith, c.args.self.now.some, c.set_before_last.ensures.size);
      last = omega (arith, c.requires.carries);
      text = next_carried c.args.self.now.word.now c.args.self.now.block c.args.self.now.number c.requires.within many c.requires.carries
          c.args.self.now.text c.set_before_last.new.self tens c.set_before_last.ensures.text;
    }
