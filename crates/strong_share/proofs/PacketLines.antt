-- The lines of packets are read off the notes that packets were processed: the other notes have none.
use Rattle.strong_share.proofs.Words.{◌≡◌, ℕ, List, ◌++◌, ap, ◌∙◌, filter_map, Semantics, Note, processed_in}
use Rattle.report_lines.specs.Lines.{done_lines, out_lines}
use Rattle.report_lines.proofs.ProcessedNotes.{same_dones, same_outs}
use Rattle.strong_share.specs.Report.{event_lines, packet_lines}

pub same_packets : {R : Type 0} (f : Semantics R) (names : List (List ℕ)) (notes : List Note) (queued : List (ℕ × ℕ))
    → packet_lines f names (filter_map processed_in notes) queued ≡ packet_lines f names notes queued
unfolding packet_lines
same_packets f names notes queued =
    ap (λ outs. outs ++ event_lines names queued ++ done_lines names (filter_map processed_in notes)) (same_outs f notes)
    ∙ ap (λ dones. out_lines f notes ++ event_lines names queued ++ dones) (same_dones names notes)
