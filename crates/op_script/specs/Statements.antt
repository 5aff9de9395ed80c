-- The lines of an operator's script: words between blanks, and what they state. This project's own grammar.
use Rattle.std.specs.Prelude.{ℕ, Bool, true, false, not, ◌&&◌, ◌||◌, ◌==◌, slice_index, if◌then◌else◌, List, [], ◌∷◌}
use Rattle.std.specs.Prelude.{length, filter, Option, None, Some, is_some, option_map, option_and_then, codes}
use Rattle.std.specs.List.{slice_split}
use Rattle.std.specs.Str.{bytes_eq}
use Rattle.basics.specs.Parsing.{parse_number, split_once}
use Prim.Native.Char.{code}

abbrev pub Word : Type 0
Word = List ℕ

-- the words of a line
abbrev pub words : List ℕ → List Word
words line = filter (λ word. not (length word == 0)) (slice_split (λ byte. byte == code " " || byte == code "\t") line)

-- what happens at a point of the trace, by its words
pub data Event : Type 0 where
  Moving : (source : Word) (destination : Word) (filter : Word) (keep : Bool) → Event
  Copying : (source : Word) (destination : Word) (filter : Option Word) → Event
  Sharing : (members : Word) (filter : Word) → Event
  Settling : Event

-- what a line says
pub data Statement : Type 0 where
  Silent : Statement
  Routing : (filter : Word) (instance : Word) → Statement
  Happening : (at : ℕ) (event : Event) → Statement

-- an event by its first word and the others: `settle`; `copy SRC DST FILTER` or `copy SRC DST all`; `share INST,INST.. FILTER strict`, where the list has a
-- comma; `move SRC DST FILTER order` or `move SRC DST FILTER lossfree`
unfoldable pub event_of : Word → List Word → Option Event
event_of verb [] = if bytes_eq verb (codes "settle") then Some Settling else None
event_of verb (first ∷ second ∷ third ∷ []) =
    if bytes_eq verb (codes "copy") then Some (Copying first second (if bytes_eq third (codes "all") then None else Some third))
    else if bytes_eq verb (codes "share") && bytes_eq third (codes "strict") && is_some (split_once (code ",") first) then Some (Sharing first second)
    else None
event_of verb (source ∷ destination ∷ filter ∷ how ∷ []) =
    if bytes_eq verb (codes "move") && bytes_eq how (codes "order") then Some (Moving source destination filter true)
    else if bytes_eq verb (codes "move") && bytes_eq how (codes "lossfree") then Some (Moving source destination filter false)
    else None
event_of _ _ = None

-- `K`, which is below 2^32, and an event
abbrev pub happening : List Word → Option Statement
happening (at ∷ verb ∷ more) = option_and_then (λ k. option_map (Happening k) (event_of verb more)) (parse_number 4294967295 at)
happening _ = None

-- `FILTER INST`
abbrev pub routing : List Word → Option Statement
routing (filter ∷ instance ∷ []) = Some (Routing filter instance)
routing _ = None

-- what the words of a line say, or None where they are no statement
unfoldable pub statement_of : List Word → Option Statement
statement_of [] = Some Silent
statement_of (first ∷ more) =
    if slice_index first 0 == code "#" then Some Silent
    else if bytes_eq first (codes "route") then routing more
    else if bytes_eq first (codes "at") then happening more
    else None
