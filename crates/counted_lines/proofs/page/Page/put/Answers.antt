-- The block stands after the text.
use Rattle.std.proofs.Common.{arith, ◌≤◌, ◌+◌, ◌++◌, ℕ, List, length, take, ap, ◌∙◌}
use Rattle.counted_lines.proofs.PlacedBytes.{put_written}
use Rattle.counted_lines.proofs.page.Page.put.Goals as goal

pub returns-clause-text : goal.returns-clause-text
returns-clause-text c =
    let within : c.args.self.now.used ≤ length c.deref_mut.result.now = omega (arith, c.args.self.now.within, c.args.self.now.size, c.deref_mut.ensures.len) in
    let fits : length c.args.block.now ≤ length c.copy_to.new.place = omega (arith, c.len.ensures.value, c.len.ensures.bound, c.copy_to.ensures.size) in
    let enough : c.args.self.now.used + length c.args.block.now ≤ c.args.self.now.bytes.len =
    omega (arith, c.args.self.now.size, c.requires.room, c.len.ensures.value, c.len.ensures.bound) in
    rw c.len.ensures.value (put_written c.deref_mut.result.now _ c.copy_to.new.place c.args.block.now _ c.args.self.now.used (length c.args.block.now)
    c.args.self.now.bytes.len within fits enough c.copy_to.ensures.text)
    ∙ ap (λ (bytes : List ℕ). take c.args.self.now.used bytes ++ c.args.block.now) c.deref_mut.ensures.value
