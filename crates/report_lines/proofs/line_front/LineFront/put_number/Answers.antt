-- There is room for each digit.
use Rattle.std.proofs.Common.{rules, ◌<◌, ◌^◌}
use Rattle.report_lines.proofs.NumberBefore.{room_left}
use Rattle.report_lines.proofs.line_front.LineFront.put_number.Goals as goal

pub put_byte-requires : goal.put_byte-requires
put_byte-requires c =
    let small : c.loop-left.left < 2 ^ 32 = search rules in
    let within : c.args.number < 2 ^ 32 = search rules in
    room_left c.loop-left.left c.args.number c.loop-left.self c.args.self.now small within c.loop-left.invariant 128 c.requires

pub put_byte-requires-2 : goal.put_byte-requires-2
put_byte-requires-2 c =
    let small : c.loop-left.left < 2 ^ 32 = search rules in
    let within : c.args.number < 2 ^ 32 = search rules in
    room_left c.loop-left.left c.args.number c.loop-left.self c.args.self.now small within c.loop-left.invariant 128 c.requires
