-- Steps between code and definition, which nobody has to believe: what is read of a script, bit by bit. This project's own.
use Rattle.std.specs.Prelude.{ℕ, ◌+◌, Bool, nat_lt, if◌then◌else◌, List, [], ◌∷◌, ◌++◌, Option}
use Rattle.std.specs.Prelude.{None, Some, is_some, unwrap_or, ok_or, option_map, Result, Ok, Err}
use Rattle.std.specs.List.{count_by}
use Rattle.std.specs.Option.{option_transpose}
use Rattle.std.specs.Result.{result_ok}
use Rattle.basics.specs.Results.{◌>>=◌}
use Rattle.flow_filter.specs.declared.filter.Filter.{Filter}
use Rattle.flow_filter.specs.declared.filter_text.FilterFault.{FilterFault}
use Rattle.flow_filter.specs.FilterText.{Fields, fields_of}
use Rattle.nf_function.specs.declared.kind.Kind.{Kind}
use Rattle.nf_function.specs.Units.{splits}
use Rattle.op_script.specs.declared.fault.ScriptKind.{ScriptKind}
use Rattle.op_script.specs.declared.fault.ScriptKind.TheVariants as bad
use Rattle.op_script.specs.Statements.{Word, Event}
use Rattle.op_script.specs.Reading.{OrderView, LineView, State, Judged, ScriptView, filter_of, with_line, order_said}

abbrev pub start : State
start = record { routes = []; lines = []; last = None }

-- a fault, where the test is true
abbrev pub unless : {A : Type 0} → Bool → ScriptKind → Judged A → Judged A
unless test kind next = if test then Err kind else next

-- what is there, or a fault
abbrev pub wanted : {A : Type 0} → Option A → ScriptKind → Judged A
wanted found kind = ok_or found kind

-- a command stands in the line
abbrev pub is_command : LineView → Bool
is_command line = is_some line.what

-- how many commands stand in the lines
abbrev pub command_count : List LineView → ℕ
command_count lines = count_by is_command lines

-- after so many commands a further one takes the next number, and a settle takes none
abbrev pub numbered_after : ℕ → Option OrderView → Option (ℕ × OrderView)
numbered_after count order = option_map (λ (o : OrderView). (count + 1, o)) order

-- a command takes the number after those so far
abbrev pub numbered : List LineView → Option OrderView → Option (ℕ × OrderView)
numbered lines order = numbered_after (command_count lines) order

-- what happens is noted
abbrev pub noted : State → ℕ → Option OrderView → State
noted s at order = record s { lines = s.lines ++ record { at = at; what = numbered s.lines order } ∷ []; last = Some at }

-- the line is less far than an earlier one
abbrev pub goes_back : Option ℕ → ℕ → Bool
goes_back last at = nat_lt at (unwrap_or last 0)

-- an event more
abbrev pub with_event : Kind → State → ℕ → Event → Judged State
with_event kind s at event = unless (goes_back s.last at) bad.Order (order_said kind event >>= with_line s at)

-- what lines give, or the number of the first that breaks a rule, and how
abbrev pub ScriptAnswer : Type 0
ScriptAnswer = Result State (ℕ × ScriptKind)

-- the routes and the lines of what was read
abbrev pub said : ScriptAnswer → Result ScriptView (ℕ × ScriptKind)
said answer = answer >>= λ (s : State). Ok (s.routes, s.lines)

abbrev pub route_view : Filter × ℕ → Fields × ℕ
route_view route = (fields_of route.0, route.1)

-- a filter that was read, where it splits no unit
abbrev pub whole : Kind → Result Fields FilterFault → Judged Fields
whole kind read = ok_or (result_ok read) bad.Filter >>= λ f. if splits kind f then Err bad.SplitsUnit else Ok f

-- the filter of a copy, if it has one
abbrev pub filter_or_all : Kind → Option Word → Judged (Option Fields)
filter_or_all kind filter = option_transpose (option_map (filter_of kind) filter)
