-- The arguments of each command, in the order of its usage: places, options with a value, flags, and which of them must be there. This project's own.
use Rattle.std.specs.Prelude.{ℕ, Bool, true, false, List, [], ◌∷◌, map, codes}
use Rattle.std.specs.List.{filter}
use Rattle.command_words.specs.declared.forms.ArgumentKind.{ArgumentKind}
use Rattle.command_words.specs.declared.forms.ArgumentKind.TheVariants.{Positional, OptionalPositional, Required, Optional, Flag}
use Rattle.command_words.specs.declared.forms.Form.{Form}
use Rattle.command_words.specs.declared.forms.Form.TheVariants.{Run, Sim, Fail, Check, Gen, Published, Strong}

-- the bytes of a word, of a name or of a value
abbrev pub Text : Type 0
Text = List ℕ

-- what an argument is, and its name
abbrev pub Argument : Type 0
Argument = ArgumentKind × Text

abbrev pub is_place : Argument → Bool
is_place (Positional, name) = true
is_place (OptionalPositional, name) = true
is_place (kind, name) = false

abbrev pub is_required : Argument → Bool
is_required (Positional, name) = true
is_required (Required, name) = true
is_required (kind, name) = false

-- the names of the places, in their order
abbrev pub place_names : List Argument → List Text
place_names arguments = map (λ (a : Argument). a.1) (filter is_place arguments)

-- the arguments of each form
abbrev pub arguments_of : Form → List Argument
-- FUNCTION --instances LIST --inside PREFIX [--outside ADDR] [--window W] [--journal FILE] [--summary] TRACE [SCRIPT]
arguments_of Run = (Positional, codes "function") ∷ (Required, codes "instances") ∷ (Required, codes "inside") ∷ (Optional, codes "outside")
    ∷ (Optional, codes "window") ∷ (Optional, codes "journal") ∷ (Flag, codes "summary") ∷ (Positional, codes "trace")
    ∷ (OptionalPositional, codes "script") ∷ []
-- FUNCTION --instances LIST --inside PREFIX [--outside ADDR] [--window W] [--schedule S] [--journal FILE] [--summary] TRACE [SCRIPT]
arguments_of Sim = (Positional, codes "function") ∷ (Required, codes "instances") ∷ (Required, codes "inside") ∷ (Optional, codes "outside")
    ∷ (Optional, codes "window") ∷ (Optional, codes "schedule") ∷ (Optional, codes "journal") ∷ (Flag, codes "summary")
    ∷ (Positional, codes "trace") ∷ (OptionalPositional, codes "script") ∷ []
-- FUNCTION --instances LIST --inside PREFIX [--outside ADDR] [--window W] --journal FILE --failed NAME --to NAME --after J TRACE [SCRIPT]
arguments_of Fail = (Positional, codes "function") ∷ (Required, codes "instances") ∷ (Required, codes "inside") ∷ (Optional, codes "outside")
    ∷ (Optional, codes "window") ∷ (Required, codes "journal") ∷ (Required, codes "failed") ∷ (Required, codes "to")
    ∷ (Required, codes "after") ∷ (Positional, codes "trace") ∷ (OptionalPositional, codes "script") ∷ []
-- FUNCTION --instances LIST SCRIPT
arguments_of Check = (Positional, codes "function") ∷ (Required, codes "instances") ∷ (Positional, codes "script") ∷ []
-- NUMBER --packets N --hosts H TRACE
arguments_of Gen = (Positional, codes "number") ∷ (Required, codes "packets") ∷ (Required, codes "hosts") ∷ (Positional, codes "trace") ∷ []
-- FUNCTION --inside PREFIX [--outside ADDR] [--window W] [--schedule S] TRACE K FILTER
arguments_of Published = (Positional, codes "function") ∷ (Required, codes "inside") ∷ (Optional, codes "outside") ∷ (Optional, codes "window")
    ∷ (Optional, codes "schedule") ∷ (Positional, codes "trace") ∷ (Positional, codes "at") ∷ (Positional, codes "filter") ∷ []
-- FUNCTION --instances LIST --inside PREFIX [--outside ADDR] [--window W] [--schedule S] TRACE [FILTER]
arguments_of Strong = (Positional, codes "function") ∷ (Required, codes "instances") ∷ (Required, codes "inside") ∷ (Optional, codes "outside")
    ∷ (Optional, codes "window") ∷ (Optional, codes "schedule") ∷ (Positional, codes "trace") ∷ (OptionalPositional, codes "filter") ∷ []
