-- The lines of packets are read off the notes that packets were processed: the other notes have none.
use Rattle.two_phase.proofs.Words.{◌≡◌, ℕ, List, ◌++◌, ap, ◌∙◌, filter_map, Semantics, processed_in}
use Rattle.std.proofs.Common.{append_assoc}
use Rattle.nf_msgs.specs.declared.note.Note.{Note}
use Rattle.report_lines.specs.Lines.{done_lines, out_lines}
use Rattle.report_lines.proofs.ProcessedNotes.{same_dones, same_outs}
use Rattle.two_phase.specs.Report.{packet_lines}

pub packets_put : {R : Type 0} (f : Semantics R) (text : List ℕ) (names : List (List ℕ)) (notes : List Note)
    → (text ++ out_lines f (filter_map processed_in notes)) ++ done_lines names (filter_map processed_in notes) ≡ text ++ packet_lines f names notes
unfolding packet_lines
packets_put f text names notes =
    ap (λ outs. (text ++ outs) ++ done_lines names (filter_map processed_in notes)) (same_outs f notes)
    ∙ ap (λ dones. (text ++ out_lines f notes) ++ dones) (same_dones names notes)
    ∙ append_assoc text (out_lines f notes) (done_lines names notes)
