-- Steps between code and definition, which nobody has to believe: a form's command as clap's definitions see it, and what they give of its words.
use Rattle.std.specs.Prelude.{true, List, [], ◌∷◌, map, find, slice_get, Option, Some, None, option_and_then, codes}
use Rattle.clap.specs.Facts.{explicit_source}
use Rattle.clap.specs.Words.{App, Rule, Row, new_app, new_rule, fault_of, matches_of}
use Rattle.clap.specs.Simple.{on_top}
use Rattle.clap.specs.declared.builder.action.ArgAction.TheVariants.{SetTrue}
use Rattle.clap.specs.declared.error.ErrorKind.{ErrorKind}
use Rattle.std.specs.Str.{bytes_eq}
use Rattle.command_words.specs.declared.forms.ArgumentKind.{ArgumentKind}
use Rattle.command_words.specs.declared.forms.ArgumentKind.TheVariants.{Positional, OptionalPositional, Required, Optional, Flag}
use Rattle.command_words.specs.declared.forms.Form.{Form}
use Rattle.command_words.specs.Arguments.{Text, Argument, arguments_of}
use Rattle.command_words.specs.Grammar.{Texts}
use Rattle.command_words.specs.Values.{only}

-- an argument by its name: a place, an option or a flag, and whether it must be there
abbrev pub rule_by : ArgumentKind → Text → Rule
rule_by Positional name = record (new_rule name) { required = true }
rule_by OptionalPositional name = new_rule name
rule_by Required name = record (new_rule name) { long = Some name; required = true }
rule_by Optional name = record (new_rule name) { long = Some name }
rule_by Flag name = record (new_rule name) { long = Some name; action = Some SetTrue }

abbrev pub rule_for : Argument → Rule
rule_for a = rule_by a.0 a.1

-- a command without help, that reads the words after its name
abbrev pub bare_app : App
bare_app = on_top (λ s. record s { no_binary_name = true; disable_help_flag = true }) (new_app (codes "opennf"))

-- a command with these arguments
unfoldable pub app_with : List Rule → App
app_with rules = record { top = record bare_app.top { rules = rules }; subs = [] }

abbrev pub form_app : Form → App
form_app form = app_with (map rule_for (arguments_of form))

-- the values of words that have no fault
abbrev pub taken : List ErrorKind → List Row → Option (List Row)
taken [] rows = Some rows
taken (kind ∷ kinds) rows = None

unfoldable pub rows_taken : App → List Text → Option (List Row)
rows_taken app words = taken (fault_of app words) (matches_of app words)

-- what the words gave for each name, beside clap's defaults
abbrev pub given_by_words : Row → Option Text
given_by_words r = only (explicit_source r.source) (slice_get r.values 0)

abbrev pub given_in : List Row → Texts
given_in rows name = option_and_then given_by_words (find (λ r. bytes_eq r.id name) rows)
