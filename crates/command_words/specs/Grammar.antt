-- Which words a command takes, and what they give: texts for its places in their order, options as `--NAME VALUE` or `--NAME=VALUE`, and flags as
-- `--NAME`, among each other as the user likes. After `--` there are texts alone. This project's own.
use Rattle.std.specs.Prelude.{ℕ, Bool, true, not, ◌&&◌, ◌||◌, ◌==◌, nat_le, if◌then◌else◌, List, []}
use Rattle.std.specs.Prelude.{◌∷◌, map, drop, length, slice_get, Option, Some, None, option_map, codes}
use Rattle.std.specs.List.{find, list_any, list_all, before_first, after_first, zip}
use Rattle.std.specs.Option.{is_none, option_map_or}
use Rattle.std.specs.Str.{bytes_eq, chars}
use Rattle.basics.specs.Bytes.{equals_sign}
use Rattle.basics.specs.Options.{◌>>=◌}
use Rattle.flow_filter.specs.Name.{has_twice}
use Rattle.command_words.specs.declared.forms.ArgumentKind.TheVariants.{Flag}
use Rattle.command_words.specs.declared.forms.Form.{Form}
use Rattle.command_words.specs.Arguments.{Text, Argument, is_place, is_required, place_names, arguments_of}
use Rattle.command_words.specs.Values.{only}

-- names of arguments, each with the text that is given for it
abbrev pub Pairs : Type 0
Pairs = List (Text × Text)

abbrev pub hyphen : ℕ
hyphen = 45

-- what stands after a hyphen at the front
abbrev pub after_hyphen : Text → Option Text
after_hyphen [] = None
after_hyphen (byte ∷ more) = if byte == hyphen then Some more else None

-- the word is a text: it doesn't begin with a hyphen, or is one alone
abbrev pub is_text : Text → Bool
is_text word = option_map_or (λ more. is_none (slice_get (chars more) 0)) (after_hyphen word) true

abbrev pub is_equals : ℕ → Bool
is_equals byte = byte == equals_sign

-- the option or the flag that is written so after `--`, as NAME or NAME=VALUE, and its VALUE
abbrev pub option_of : List Argument → Text → Option Argument
option_of arguments written = find (λ (a : Argument). not (is_place a) && bytes_eq a.1 (before_first is_equals written)) arguments

abbrev pub value_in : Text → Option Text
value_in written = if list_any is_equals written then Some (after_first is_equals written) else None

-- a text for a name, and then more
abbrev pub also : Text → Text → Option Pairs → Option Pairs
also name text more = option_map (λ pairs. (name, text) ∷ pairs) more

-- a flag has no value; an option has one, in its word or else in the next
abbrev pub with_option : Argument → Option Text → (Option Text → Option Pairs) → Option Pairs
with_option (Flag, name) None next = also name (codes "true") (next None)
with_option (Flag, name) (Some value) next = None
with_option (kind, name) (Some value) next = also name value (next None)
with_option (kind, name) None next = next (Some name)

-- what words give where places with these names are free, and an option with this name waits for its value
unfoldable pub read_words : List Argument → List Text → Option Text → List Text → Option Pairs
read_words arguments free None [] = Some []
read_words arguments free (Some option) [] = None
read_words arguments free (Some option) (word ∷ more) = only (is_text word) (also option word (read_words arguments free None more))
read_words arguments free None (word ∷ more) =
    if bytes_eq word (codes "--") then only (nat_le (length more) (length free)) (Some (zip free more))
    else if is_text word then (slice_get free 0 >>= λ name. also name word (read_words arguments (drop 1 free) None more))
    else (after_hyphen word >>= after_hyphen >>= λ written. option_of arguments written >>= λ a.
    with_option a (value_in written) (λ option. read_words arguments free option more))

-- a name is given
abbrev pub is_given : Text → Pairs → Bool
is_given name pairs = list_any (λ (p : Text × Text). bytes_eq p.0 name) pairs

-- no name is given twice, and each that is required is given
abbrev pub is_whole : List Argument → Pairs → Bool
is_whole arguments pairs =
    not (has_twice (map (λ (p : Text × Text). p.0) pairs)) && list_all (λ (a : Argument). not (is_required a) || is_given a.1 pairs) arguments

-- what the words of a form give, in their order
unfoldable pub pairs_of : Form → List Text → Option Pairs
pairs_of form words = let arguments = arguments_of form in
    read_words arguments (place_names arguments) None words >>= λ pairs. only (is_whole arguments pairs) (Some pairs)

-- the text that is given for each name
abbrev pub Texts : Type 0
Texts = Text → Option Text

abbrev pub texts_of : Pairs → Texts
texts_of pairs name = option_map (λ (p : Text × Text). p.1) (find (λ (p : Text × Text). bytes_eq p.0 name) pairs)

unfoldable pub given_arguments : Form → List Text → Option Texts
given_arguments form words = option_map texts_of (pairs_of form words)

unfoldable pub value_of : Text → Texts → Option Text
value_of name given = given name
