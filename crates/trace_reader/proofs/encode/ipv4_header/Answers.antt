-- The addresses stand after the rest.
use Rattle.std.proofs.Common.{◌∙◌, ◌/◌, ◌%◌, [], ◌∷◌, refl, append-nil}
use Rattle.trace_reader.specs.Generated.{ipv4_header, source, target, total_size}
use Rattle.trace_reader.proofs.GeneratedSizes.{source-size}
use Rattle.counted_lines.proofs.PlacedBytes.{put_two}
use Rattle.trace_reader.proofs.encode.ipv4_header.Goals as goal

pub returns : goal.returns
unfolding ipv4_header
returns c =
    let d = c.args.drawn.now in
    let place = 69 ∷ 0 ∷ total_size d / 256 % 256 ∷ total_size d % 256 ∷ 0 ∷ 0 ∷ 0 ∷ 0 ∷ 64 ∷ c.args.proto ∷ 0 ∷ 0 ∷ 0 ∷ 0 ∷ 0 ∷ 0 ∷ 0 ∷ 0 ∷ 0 ∷ 0 ∷ [] in
    let front = 69 ∷ 0 ∷ total_size d / 256 % 256 ∷ total_size d % 256 ∷ 0 ∷ 0 ∷ 0 ∷ 0 ∷ 64 ∷ c.args.proto ∷ 0 ∷ 0 ∷ [] in
    rw (c.write_u16.ensures, c.total_size.ensures, c.copy_from_slice.ensures.after, c.source.ensures, c.copy_from_slice-2.ensures.after, c.target.ensures)
    (put_two front (source d).address (target d).address place 12 4 16 4 refl (source-size d) refl ∙ append-nil _)
