-- The record stands after the others.
use Rattle.std.proofs.Common.{arith, ◌≡◌, ◌≤◌, ◌+◌, ◌++◌, ℕ, List, length, take, ap, ◌∙◌}
use Rattle.std.proofs.Math.Seq.{take-append_seam}
use Rattle.std.proofs.lemmas.List.{length-append}
use Rattle.trace_reader.specs.Generated.{record_bytes}
use Rattle.counted_lines.proofs.PlacedBytes.{put_written}
use Rattle.trace_reader.proofs.piece.Piece.push.Goals as goal

pub returns-clause-bytes : goal.returns-clause-bytes
returns-clause-bytes c =
    let text = record_bytes c.args.number c.args.drawn.now in
    let within : c.args.self.now.used ≤ length c.deref_mut.result.now = omega (arith, c.args.self.now.within, c.args.self.now.size, c.deref_mut.ensures.len) in
    let size : c.write_record.result ≡ length text = c.write_record.ensures.size in
    let fits : length text ≤ length c.write_record.new.place = omega (arith, ap length c.write_record.ensures.bytes, length-append text) in
    let enough : c.args.self.now.used + length text ≤ c.args.self.now.bytes.len =
    omega (arith, c.args.self.now.size, c.requires.room, size, c.write_record.ensures.fits) in
    let front : take (length text) c.write_record.new.place ≡ text = rw c.write_record.ensures.bytes (take-append_seam text _) in
    rw size (put_written c.deref_mut.result.now _ c.write_record.new.place text _ c.args.self.now.used (length text) c.args.self.now.bytes.len within fits
    enough front)
    ∙ ap (λ (bytes : List ℕ). take c.args.self.now.used bytes ++ text) c.deref_mut.ensures.value
