-- Reading an operator's script: what its lines say in turn, and the fault of the first line that breaks a rule.
-- This project's own rules. In a line the faults are looked for in the order in which the definitions ask.
use Rattle.std.specs.Prelude.{◌≡◌, ℕ, ◌+◌, Bool, not, ◌==◌, nat_lt, nat_le, if◌then◌else◌, List, [], ◌∷◌, ◌++◌}
use Rattle.std.specs.Prelude.{length, map, Option, None, Some, is_some, unwrap_or, ok_or, option_map, Result, Ok, Err}
use Rattle.std.specs.List.{slice_split, list_all, count_by}
use Rattle.std.specs.Option.{option_transpose}
use Rattle.std.specs.Result.{result_map_both, result_ok}
use Rattle.std.specs.Str.{is_utf8}
use Rattle.std.specs.Str.Lines.{strip_carriage_return}
use Rattle.basics.specs.Results.{◌>>=◌}
use Rattle.flow_filter.specs.declared.filter.Filter.{Filter}
use Rattle.flow_filter.specs.Name.{has_twice, is_name, place_of}
use Rattle.flow_filter.specs.FilterText.{Fields, fields_of, parse}
use Rattle.nf_function.specs.declared.kind.Kind.{Kind}
use Rattle.nf_function.specs.Units.{splits}
use Rattle.nf_msgs.specs.declared.command.Order.{Order}
use Rattle.nf_msgs.specs.declared.command.Order.TheVariants.{Move, Copy, Share}
use Rattle.op_script.specs.declared.script.Script.{Script}
use Rattle.op_script.specs.declared.script.Line.{Line}
use Rattle.op_script.specs.declared.script.What.{What}
use Rattle.op_script.specs.declared.script.What.TheVariants.{Command, Settle}
use Rattle.op_script.specs.declared.fault.ScriptKind.{ScriptKind}
use Rattle.op_script.specs.declared.fault.ScriptKind.TheVariants as bad
use Rattle.op_script.specs.declared.fault.ScriptFault.{ScriptFault}
use Rattle.op_script.specs.declared.fault.ScriptFault.TheVariants as fault
use Rattle.op_script.specs.declared.fault.LineFault.{LineFault}
use Rattle.op_script.specs.declared.fault.LineFault.TheVariants as one
use Rattle.op_script.specs.Statements.{Word, words, Event, Moving, Copying, Sharing, Settling, Statement, Silent, Routing, Happening, statement_of}
use Prim.Native.Char.{code}
use Rattle.flow_filter.specs.Limits.{most_lines}

-- an order with its names as bytes and its filter as its fields
pub data OrderView : Type 0 where
  Moves : (source : Word) (destination : Word) (filter : Fields) (keep : Bool) → OrderView
  Copies : (source : Word) (destination : Word) (filter : Option Fields) → OrderView
  Shares : (members : List Word) (filter : Fields) → OrderView

-- what happens after a packet: a command under its number, or None for a settle
pub record LineView : Type 0 where
  pub at : ℕ
  pub what : Option (ℕ × OrderView)

-- what the lines so far say
pub record State : Type 0 where
  pub routes : List (Fields × ℕ)
  pub lines : List LineView
  -- the greatest K so far
  pub last : Option ℕ

-- what stands there, or the rule that it breaks
abbrev pub Judged : Type 0 → Type 0
Judged X = Result X ScriptKind

-- names, none of which stands twice
unfoldable pub distinct_names : List Word → Judged (List Word)
distinct_names names =
    if not (list_all is_name names) then Err bad.Name
    else if has_twice names then Err bad.SameInstance
    else Ok names

-- the filter of a line, where it splits no unit
unfoldable pub filter_of : Kind → Word → Judged Fields
filter_of kind text = ok_or (result_ok (parse text)) bad.Filter >>= λ f. if splits kind f then Err bad.SplitsUnit else Ok f

-- an initial rule more
unfoldable pub with_route : Kind → List Word → State → Word → Word → Judged State
with_route kind names s filter instance =
    if is_some s.last then Err bad.Order
    else (ok_or (place_of names instance) bad.Name >>= λ place. filter_of kind filter >>= λ f.
    if nat_le most_lines (length s.routes) then Err bad.TooMany else Ok (record s { routes = s.routes ++ (f, place) ∷ [] }))

-- an `at` line more: a command takes the number after those so far, and a settle takes none
abbrev pub with_line : State → ℕ → Option OrderView → Judged State
with_line s at order =
    let op = count_by (λ (line : LineView). is_some line.what) s.lines + 1 in
    if nat_le most_lines (length s.lines) then Err bad.TooMany
    else Ok (record s { lines = s.lines ++ record { at = at; what = option_map (λ (o : OrderView). (op, o)) order } ∷ []; last = Some at })

-- the order of an event, or None for a settle
unfoldable pub order_said : Kind → Event → Judged (Option OrderView)
order_said kind (Moving source destination filter keep) =
    distinct_names (source ∷ destination ∷ []) >>= λ _. filter_of kind filter >>= λ f. Ok (Some (Moves source destination f keep))
order_said kind (Copying source destination filter) =
    distinct_names (source ∷ destination ∷ []) >>= λ _. option_transpose (option_map (filter_of kind) filter) >>= λ f. Ok (Some (Copies source destination f))
order_said kind (Sharing list filter) =
    distinct_names (slice_split (λ b. b == code ",") list) >>= λ members. filter_of kind filter >>= λ f. Ok (Some (Shares members f))
order_said kind Settling = Ok None

-- what a line's words say, more. No line is less far than an earlier one.
abbrev pub with_statement : Kind → List Word → State → Statement → Judged State
with_statement kind names s Silent = Ok s
with_statement kind names s (Routing filter instance) = with_route kind names s filter instance
with_statement kind names s (Happening at event) =
    if nat_lt at (unwrap_or s.last 0) then Err bad.Order else (order_said kind event >>= with_line s at)

-- a line more
abbrev pub with_text : Kind → List Word → State → List ℕ → Judged State
with_text kind names s line = if not (is_utf8 line) then Err bad.NotUtf8 else (ok_or (statement_of (words line)) bad.Word >>= with_statement kind names s)

-- lines in turn, from number n on, or the number of the first that breaks a rule, and how; a carriage return at a line's end is dropped
abbrev pub with_lines : Kind → List Word → ℕ → State → List (List ℕ) → Result State (ℕ × ScriptKind)
with_lines kind names n s [] = Ok s
with_lines kind names n s (line ∷ more) =
    result_map_both (λ t. t) (λ fault. (n, fault)) (with_text kind names s (strip_carriage_return line)) >>= λ t. with_lines kind names (n + 1) t more

-- the routes and lines of a state
abbrev pub ScriptView : Type 0
ScriptView = List (Fields × ℕ) × List LineView

-- what a script of at most 1048576 bytes says, or the number of its first line that breaks a rule, and how
unfoldable pub script_of : Kind → List Word → List ℕ → Result ScriptView (ℕ × ScriptKind)
script_of kind names bytes =
    if nat_lt 1048576 (length bytes) then Err (0, bad.TooMany)
    else (with_lines kind names 1 (record { routes = []; lines = []; last = None }) (slice_split (λ b. b == code "\n") bytes) >>= λ s. Ok (s.routes, s.lines))

-- an order of the code, seen as above
abbrev pub order_view : Order → OrderView
order_view (Move source destination filter keep) = Moves source destination (fields_of filter) keep
order_view (Copy source destination filter) = Copies source destination (option_map fields_of filter)
order_view (Share members filter) = Shares members (fields_of filter)

abbrev pub what_view : What → Option (ℕ × OrderView)
what_view (Command command) = Some (command.op, order_view command.what)
what_view Settle = None

abbrev pub line_view : Line → LineView
line_view line = record { at = line.at; what = what_view line.what }

abbrev pub script_view : Script → ScriptView
script_view script = (map (λ (route : Filter × ℕ). (fields_of route.0, route.1)) script.routes.items, map line_view script.lines.items)

-- what was judged is what the definition says; out of memory is free
abbrev pub Says : {X Y : Type 0} → (X → Y) → Result X LineFault → Judged Y → Type 0
Says view (Ok x) judged = judged ≡ Ok (view x)
Says view (Err one.NoMemory) judged = Unit {0}
Says view (Err (one.Bad kind)) judged = judged ≡ Err kind

-- a line's fault, under its number
abbrev pub Numbered : {X : Type 0} → ℕ → Result X LineFault → Result X ScriptFault → Type 0
Numbered line (Ok x) numbered = numbered ≡ Ok x
Numbered line (Err one.NoMemory) numbered = numbered ≡ Err fault.NoMemory
Numbered line (Err (one.Bad kind)) numbered = numbered ≡ Err (fault.Bad line kind)

-- what reading lines gives is what the definition says
abbrev pub SaysWhole : {X Y : Type 0} → (X → Y) → Result X ScriptFault → Result Y (ℕ × ScriptKind) → Type 0
SaysWhole view (Ok x) read = read ≡ Ok (view x)
SaysWhole view (Err fault.NoMemory) read = Unit {0}
SaysWhole view (Err (fault.Bad line kind)) read = read ≡ Err (line, kind)
