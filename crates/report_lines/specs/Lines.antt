-- The lines that reports of runs share. This project's own format.
use Rattle.std.specs.Prelude.{ℕ, ◌++◌, if◌then◌else◌, List, [], Bool, true, false, Option, None, Some, refl}
use Rattle.std.specs.Prelude.{codes, decimal, map, take, filter_map, slice_index_or}
use Rattle.std.specs.Coded.{Coded, code_by, coded_list, coded_ℕ, coded×}
use Rattle.std.specs.List.{flat_map}
use Rattle.std.specs.Ordering.{nat_cmp}
use Rattle.std.specs.FinMap as finite
use Rattle.basics.specs.Address.{address_text}
use Rattle.flow_filter.specs.declared.flow.Flow.{Flow}
use Rattle.flow_filter.specs.FilterText.{protocol_text}
use Rattle.nf_function.specs.declared.kind.Kind.{Kind}
use Rattle.nf_function.specs.declared.output.Output.{Output}
use Rattle.nf_function.specs.declared.unit.Unit as units
use Rattle.nf_function.specs.declared.unit.Unit.TheVariants.{Flow as OfFlow, Host as OfHost}
use Rattle.nf_function.specs.Names.{function_name}
use Rattle.nf_function.specs.Units.{unit_cmp}
use Rattle.nf_function.specs.Semantics.{Semantics}
use Rattle.record_table.specs.Table.{TableView, part}
use Rattle.nf_msgs.specs.declared.note.Note.{Note}
use Rattle.nf_msgs.specs.declared.note.Note.TheVariants.{Processed}
use Rattle.report_lines.specs.Sorting.{sorted_by}

-- `function FUNCTION instances N window W`
unfoldable pub function_line : Kind → ℕ → ℕ → List ℕ
function_line kind instances window =
    codes "function " ++ function_name kind ++ codes " instances " ++ decimal instances ++ codes " window " ++ decimal window ++ codes "\n"

-- `trace packets P skipped S whole` where the trace ends after a record, and `cut` where it ends within one
unfoldable pub trace_line : ℕ → ℕ → Bool → List ℕ
trace_line packets skipped cut =
    codes "trace packets " ++ decimal packets ++ codes " skipped " ++ decimal skipped ++ codes " " ++ (if cut then codes "cut" else codes "whole") ++ codes "\n"

-- `WORD N INST`: the line of a packet's number and an instance's, by the instances' names
unfoldable pub named_line : List ℕ → List (List ℕ) → ℕ × ℕ → List ℕ
named_line word names x = word ++ decimal x.0 ++ codes " " ++ slice_index_or names x.1 [] ++ codes "\n"

-- `done N INST`: the line of a note that a packet was processed
abbrev pub done_line : List (List ℕ) → Note → List ℕ
done_line names (Processed number instance output) = named_line (codes "done ") names (number, instance)
done_line names note = []

-- in the order in which packets were processed
abbrev pub done_lines : List (List ℕ) → List Note → List ℕ
done_lines names log = flat_map (done_line names) log

-- the number and the output of a packet that was processed
abbrev pub output_in : Note → Option (ℕ × Output)
output_in (Processed number instance output) = Some (number, output)
output_in note = None

-- what was noted with a number, by the numbers
abbrev pub by_number : {X : Type 0} → (Note → Option (ℕ × X)) → List Note → List (ℕ × X)
by_number noted log = sorted_by (λ x. x.0) nat_cmp (filter_map noted log)

module _ {R : Type 0} where
  -- `out N OUTPUT`
  unfoldable pub out_line : Semantics R → ℕ × Output → List ℕ
  out_line f x = codes "out " ++ decimal x.0 ++ codes " " ++ f.output_text x.1 ++ codes "\n"

  -- in the order of the packets' numbers
  abbrev pub out_lines : Semantics R → List Note → List ℕ
  out_lines f log = flat_map (out_line f) (by_number output_in log)

-- `PROTO A.B.C.D:PORT A.B.C.D:PORT`, the local end first
unfoldable pub flow_text : Flow → List ℕ
flow_text flow =
    protocol_text flow.proto ++ codes " " ++ (address_text flow.local ++ codes ":" ++ decimal flow.lport)
    ++ codes " " ++ (address_text flow.remote ++ codes ":" ++ decimal flow.rport)

-- UNIT: a flow, or a host's address
abbrev pub unit_text : units.Unit → List ℕ
unit_text (OfFlow flow) = flow_text flow
unit_text (OfHost host) = address_text host

-- what a report tells of an instance: its name, its records and its tally
pub record NamedInstance (R : Type 0) : Type 0 where
  pub name : List ℕ
  pub table : TableView R
  pub slots : List ℕ

-- such an instance is stored as its name, its records and its tally
abbrev pub instance_code : {R : Type 0} → Coded (TableView R) → Coded (NamedInstance R)
instance_code {R} table =
    code_by (List ℕ × (TableView R × List ℕ)) (coded× (coded_list coded_ℕ) (coded× table (coded_list coded_ℕ)))
    (λ i. (i.name, (i.table, i.slots))) (λ p. record { name = p.0; table = p.1.0; slots = p.1.1 }) (λ _. refl)

-- a record of an instance: its unit, the instance's name, and the record
pub record NamedRecord (R : Type 0) : Type 0 where
  pub unit : units.Unit
  pub name : List ℕ
  pub kept : R

module _ {R : Type 0} where
  -- an instance's records, live or standby
  abbrev pub named_records : Bool → NamedInstance R → List (NamedRecord R)
  named_records live instance = map (λ e. record { unit = e.0; name = instance.name; kept = e.1 }) (finite.entries (part instance.table live))

  -- `WORD UNIT INST RECORD`
  unfoldable pub record_line : Semantics R → List ℕ → NamedRecord R → List ℕ
  record_line f word one = word ++ unit_text one.unit ++ codes " " ++ one.name ++ codes " " ++ f.record_text one.kept ++ codes "\n"

  -- the records of all instances, by their units and then by the instances
  abbrev pub by_unit : Bool → List (NamedInstance R) → List (NamedRecord R)
  by_unit live instances = sorted_by (λ e. e.unit) unit_cmp (flat_map (named_records live) instances)

  -- `state UNIT INST RECORD`: a line for each live record
  abbrev pub state_lines : Semantics R → List (NamedInstance R) → List ℕ
  state_lines f instances = flat_map (record_line f (codes "state ")) (by_unit true instances)

  -- `standby UNIT INST RECORD`: a line for each record that stands by
  abbrev pub standby_lines : Semantics R → List (NamedInstance R) → List ℕ
  standby_lines f instances = flat_map (record_line f (codes "standby ")) (by_unit false instances)

module _ {R : Type 0} (count : ℕ) where
  -- `tally INST C0 C1 ..`, so many of the first slots of its tally
  unfoldable pub tally_line : NamedInstance R → List ℕ
  tally_line instance = codes "tally " ++ instance.name ++ flat_map (λ c. codes " " ++ decimal c) (take count instance.slots) ++ codes "\n"

  -- the lines at the bottom: the tally of each instance, and the last line
  unfoldable pub tail_lines : List (NamedInstance R) → List ℕ
  tail_lines instances = flat_map tally_line instances ++ codes "end\n"
