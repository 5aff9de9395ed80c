-- One more piece is sent, and at the end the last.
use Rattle.std.proofs.Common.{◌<◌, ◌≤◌, length, ap, ◌∙◌, arith, rules, length-drop}
use Rattle.std.proofs.lemmas.Result.{on_ok_weaker}
use Rattle.instance_worker.specs.declared.pieces.TheConstants.{MOST_CHUNKS}
use Rattle.instance_worker.proofs.PieceLemmas.{left_more, left_last}
use Rattle.instance_worker.proofs.instance.Instance.send_pieces.Goals as goal

pub loop-left-smaller : goal.loop-left-smaller
loop-left-smaller g c =
    let long : MOST_CHUNKS < length c.loop-left.left.items = search rules in
    omega (arith, long, ap length c.in_ok-chunks.ensures.left, length-drop MOST_CHUNKS c.loop-left.left.items)

pub loop-left-preserved : goal.loop-left-preserved
loop-left-preserved g c =
    let long : MOST_CHUNKS < length c.loop-left.left.items = search rules in
    record {
      sends = left_more (record { op = c.args.op; whole = c.of-whole.result; all = _ }) c.loop-left.left.items c.loop-left.out.0 _ c.in_ok-chunks.chunks
          c.piece.result _ c.loop-left.invariant.sends long
          c.in_ok-chunks.ensures.left c.in_ok-chunks.ensures.chunks c.piece.ensures c.in_ok-send_piece.ensures.sends;
      notes = c.in_ok-send_piece.ensures.notes ∙ c.loop-left.invariant.notes;
    }

pub returns-clause-sends : goal.returns-clause-sends
returns-clause-sends g c =
    let short : length c.loop-left.left.items ≤ MOST_CHUNKS = search rules in
    let same = c.from_vec-chunks.ensures ∙ c.into_vec-2.ensures.items in
    on_ok_weaker c.send_piece-2.result (λ sends. left_last (record { op = c.args.op; whole = c.of-whole.result; all = _ }) c.loop-left.left.items
    c.loop-left.out.0 _ c.piece-2.result _ c.loop-left.invariant.sends short
    same c.piece-2.ensures sends) c.send_piece-2.ensures.sends
