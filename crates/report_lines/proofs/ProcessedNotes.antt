-- The lines of packets are read off the notes that packets were processed: the other notes have none.
use Rattle.std.proofs.Common.{◌≡◌, ℕ, List, [], ◌∷◌, ◌++◌, filter_map, refl, ap}
use Rattle.std.specs.List.{flat_map}
use Rattle.std.specs.Ordering.{nat_cmp}
use Rattle.nf_function.specs.Semantics.{Semantics}
use Rattle.nf_msgs.specs.declared.note.Note.{Note}
use Rattle.nf_msgs.specs.declared.note.Note.TheVariants.{Arrived, Processed, Begun, Exported, Imported, Kept, Installed, Answered}
use Rattle.report_lines.specs.Lines.{done_line, done_lines, out_line, out_lines, output_in}
use Rattle.report_lines.specs.Seen.{processed_in}
use Rattle.report_lines.specs.Sorting.{sorted_by}

outputs : (notes : List Note) → filter_map output_in (filter_map processed_in notes) ≡ filter_map output_in notes
outputs [] = refl
outputs (Arrived n ∷ notes) = outputs notes
outputs (Processed n i o ∷ notes) = ap (λ l. (n, o) ∷ l) (outputs notes)
outputs (Begun op ∷ notes) = outputs notes
outputs (Exported i op us ∷ notes) = outputs notes
outputs (Imported i op us ∷ notes) = outputs notes
outputs (Kept i op us ∷ notes) = outputs notes
outputs (Installed op ∷ notes) = outputs notes
outputs (Answered op a ∷ notes) = outputs notes

-- the outputs are those of the notes that packets were processed
pub same_outs : {R : Type 0} (f : Semantics R) (notes : List Note) → out_lines f (filter_map processed_in notes) ≡ out_lines f notes
same_outs f notes = ap (λ l. flat_map (out_line f) (sorted_by (λ x. x.0) nat_cmp l)) (outputs notes)

-- and so is where they were processed
pub same_dones : (names : List (List ℕ)) (notes : List Note) → done_lines names (filter_map processed_in notes) ≡ done_lines names notes
same_dones names [] = refl
same_dones names (Arrived n ∷ notes) = same_dones names notes
same_dones names (Processed n i o ∷ notes) = ap (λ l. done_line names (Processed n i o) ++ l) (same_dones names notes)
same_dones names (Begun op ∷ notes) = same_dones names notes
same_dones names (Exported i op us ∷ notes) = same_dones names notes
same_dones names (Imported i op us ∷ notes) = same_dones names notes
same_dones names (Kept i op us ∷ notes) = same_dones names notes
same_dones names (Installed op ∷ notes) = same_dones names notes
same_dones names (Answered op a ∷ notes) = same_dones names notes
