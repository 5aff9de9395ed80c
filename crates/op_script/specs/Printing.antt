-- The canonical text of a script: its routes and then its lines, one space between words, and a newline at each end.
-- This project's own form.
use Rattle.std.specs.Prelude.{◌≡◌, ℕ, ◌+◌, ◌<◌, ◌≤◌, Bool, true, false, ◌&&◌, ◌==◌, nat_le}
use Rattle.std.specs.Prelude.{if◌then◌else◌, List, [], ◌∷◌, ◌++◌, length, map, Option, None, Some, Ok, codes}
use Rattle.std.specs.List.{AllByRecursion, concat, join_with_byte, list_all, slice_index_or}
use Rattle.std.specs.Fmt.{decimal}
use Rattle.flow_filter.specs.declared.filter.Filter.{Filter}
use Rattle.flow_filter.specs.Name.{has_twice, is_name}
use Rattle.flow_filter.specs.FilterText.{Fields, print, is_transport}
use Rattle.nf_function.specs.declared.kind.Kind.{Kind}
use Rattle.nf_function.specs.Units.{splits}
use Rattle.nf_msgs.specs.declared.command.Order.{Order}
use Rattle.nf_msgs.specs.declared.command.Order.TheVariants.{Move, Copy, Share}
use Rattle.op_script.specs.declared.script.Script.{Script}
use Rattle.op_script.specs.declared.script.Line.{Line}
use Rattle.op_script.specs.declared.script.What.{What}
use Rattle.op_script.specs.declared.script.What.TheVariants.{Command, Settle}
use Rattle.op_script.specs.Statements.{Word}
use Rattle.op_script.specs.Reading.{distinct_names, OrderView, Moves, Copies, Shares, LineView, ScriptView}
use Rattle.basics.specs.Bytes.{line_feed, space, comma}
use Rattle.flow_filter.specs.Limits.{most_lines, fewest_members}

-- the most bytes of a script
abbrev pub longest_script : ℕ
longest_script = 1048576

-- the words of an initial rule
abbrev pub route_words : List Word → Filter × ℕ → List Word
route_words names route = codes "route" ∷ print route.0 ∷ slice_index_or names route.1 [] ∷ []

-- the word of what is copied
abbrev pub copied_word : Option Filter → Word
copied_word None = codes "all"
copied_word (Some filter) = print filter

-- the words of an order
abbrev pub order_words : Order → List Word
order_words (Move source destination filter keep) =
    codes "move" ∷ source ∷ destination ∷ print filter ∷ (if keep then codes "order" else codes "lossfree") ∷ []
order_words (Copy source destination filter) = codes "copy" ∷ source ∷ destination ∷ copied_word filter ∷ []
order_words (Share members filter) = codes "share" ∷ join_with_byte comma members ∷ print filter ∷ codes "strict" ∷ []

-- the words of what happens
abbrev pub what_words : What → List Word
what_words (Command command) = order_words command.what
what_words Settle = codes "settle" ∷ []

-- the words of an `at` line
abbrev pub line_words : Line → List Word
line_words line = codes "at" ∷ decimal line.at ∷ what_words line.what

-- a line of words, with its end
abbrev pub line_text : List Word → List ℕ
line_text words = join_with_byte space words ++ line_feed ∷ []

-- the words of each line
abbrev pub script_words : List Word → Script → List (List Word)
script_words names script = map (route_words names) script.routes.items ++ map line_words script.lines.items

-- the text of a script, for instances with these names
unfoldable pub script_text : List Word → Script → List ℕ
script_text names script = concat (map line_text (script_words names script))

-- a rule whose place is an instance, and whose filter has a text
abbrev pub IsRoute : List Word → Fields × ℕ → Type 0
IsRoute names route = (route.1 < length names) × (is_transport route.0.proto ≡ true)

-- a copied filter that has a text
abbrev pub is_writable : Option Fields → Bool
is_writable None = true
is_writable (Some filter) = is_transport filter.proto

-- an order that a script may give
abbrev pub IsOrder : OrderView → Type 0
IsOrder (Moves source destination filter keep) =
    (distinct_names (source ∷ destination ∷ []) ≡ Ok (source ∷ destination ∷ [])) × (is_transport filter.proto ≡ true)
IsOrder (Copies source destination filter) =
    (distinct_names (source ∷ destination ∷ []) ≡ Ok (source ∷ destination ∷ [])) × (is_writable filter ≡ true)
IsOrder (Shares members filter) =
    (fewest_members ≤ length members) × (list_all is_name members ≡ true) × (has_twice members ≡ false) × (is_transport filter.proto ≡ true)

-- a settle, or a command with such an order
abbrev pub IsWhat : Option (ℕ × OrderView) → Type 0
IsWhat None = Unit {0}
IsWhat (Some command) = IsOrder command.1

-- a line that a script may have
abbrev pub IsLine : LineView → Type 0
IsLine line = IsWhat line.what

-- the number of the next command after this, or None where it has another number than `next`
abbrev pub next_after : ℕ → Option (ℕ × OrderView) → Option ℕ
next_after next None = Some next
next_after next (Some command) = if command.0 == next then Some (next + 1) else None

abbrev pub and_then : Option ℕ → (ℕ → Bool) → Bool
and_then None test = false
and_then (Some n) test = test n

-- no line is less far than one before it, and commands have the numbers from `next` on
abbrev pub is_in_order : ℕ → ℕ → List LineView → Bool
is_in_order last next [] = true
is_in_order last next (line ∷ more) = nat_le last line.at && and_then (next_after next line.what) (λ n. is_in_order line.at n more)

-- the script breaks no rule, for instances with these names
pub record IsScript (names : List Word) (script : ScriptView) : Type 0 where
  pub few_routes : length script.0 ≤ most_lines
  pub few_lines : length script.1 ≤ most_lines
  pub routes : AllByRecursion (IsRoute names) script.0
  pub lines : AllByRecursion IsLine script.1
  pub follow : is_in_order 0 1 script.1 ≡ true

-- an order that splits a unit of the function
abbrev pub order_splits : Kind → OrderView → Bool
order_splits kind (Moves source destination filter keep) = splits kind filter
order_splits kind (Copies source destination None) = false
order_splits kind (Copies source destination (Some filter)) = splits kind filter
order_splits kind (Shares members filter) = splits kind filter

abbrev pub what_splits : Kind → Option (ℕ × OrderView) → Bool
what_splits kind None = false
what_splits kind (Some command) = order_splits kind command.1

-- no filter of the script splits a unit of the function
pub record SplitsNone (kind : Kind) (script : ScriptView) : Type 0 where
  pub routes : AllByRecursion (λ route. splits kind route.0 ≡ false) script.0
  pub lines : AllByRecursion (λ line. what_splits kind line.what ≡ false) script.1
