-- Steps between code and definition, which nobody has to believe: what stands behind the references of lists on the way to a report, and the
-- notes that lines of packets are read off.
use Rattle.std.specs.Prelude.{ℕ, List, Option, None, Some, map}
use Rattle.std.specs.Borrow.{Bor}
use Rattle.nf_msgs.specs.declared.note.Note.{Note}
use Rattle.nf_msgs.specs.declared.note.Note.TheVariants.{Processed}
use Rattle.report_lines.specs.Lines.{NamedRecord}
use Rattle.report_lines.specs.declared.ends.NameEnd as end_code
use Rattle.report_lines.specs.declared.states.NamedRecord as record_code

module _ {R : Type 0} where
  -- a named record, behind its references
  abbrev pub record_seen : record_code.NamedRecord R → NamedRecord R
  record_seen r = record { unit = r.unit; name = r.name.now; kept = r.kept.now }

-- an instance's name, behind its reference
abbrev pub name_seen : end_code.NameEnd → List ℕ
name_seen end = end.name.now

-- texts, behind their references
abbrev pub texts_seen : List (Bor (List ℕ)) → List (List ℕ)
texts_seen texts = map (λ text. text.now) texts

-- a note that a packet was processed
abbrev pub processed_in : Note → Option Note
processed_in (Processed number instance output) = Some (Processed number instance output)
processed_in note = None
