-- The words of a two-phase update: the site, the window, after how many packets it starts, and the filter of what it moves. This project's own.
use Rattle.std.specs.Prelude.{ℕ, not, Option, None, Some, Result, Ok, Err, codes}
use Rattle.basics.specs.Options.{◌>>=◌}
use Rattle.basics.specs.Parsing.{parse_number}
use Rattle.flow_filter.specs.FilterText.{Fields, parse}
use Rattle.flow_filter.specs.declared.filter_text.FilterFault.{FilterFault}
use Rattle.nf_function.specs.declared.kind.Kind.{Kind}
use Rattle.nf_function.specs.Names.{function_named}
use Rattle.nf_function.specs.Units.{splits}
use Rattle.command_words.specs.declared.published.TheConstants.{MOST_AT}
use Rattle.command_words.specs.Arguments.{Text}
use Rattle.command_words.specs.Grammar.{Texts, value_of}
use Rattle.command_words.specs.Values.{only, inside_of, outside_of, window_of, file_of}

-- what `published` asks for
pub record PublishedAsked : Type 0 where
  pub kind : Kind
  -- the bits and the length of the inside prefix
  pub inside : ℕ × ℕ
  pub outside : Option ℕ
  pub window : ℕ
  -- after how many packets the move is asked for
  pub at : ℕ
  pub filter : Fields
  pub trace : Text

-- a filter that was read, where it splits no unit
abbrev pub unsplit : Kind → Result Fields FilterFault → Option Fields
unsplit kind (Err e) = None
unsplit kind (Ok f) = only (not (splits kind f)) (Some f)

-- FILTER
unfoldable pub filter_of : Kind → Text → Option Fields
filter_of kind text = unsplit kind (parse text)

-- the values of `published`
unfoldable pub published_values : Texts → Option PublishedAsked
published_values given = do
  kind ← value_of (codes "function") given >>= function_named
  inside ← value_of (codes "inside") given >>= inside_of
  outside ← outside_of kind inside (value_of (codes "outside") given)
  window ← window_of (value_of (codes "window") given)
  at ← value_of (codes "at") given >>= parse_number MOST_AT
  filter ← value_of (codes "filter") given >>= filter_of kind
  trace ← value_of (codes "trace") given >>= file_of
  Some (record { kind = kind; inside = inside; outside = outside; window = window; at = at; filter = filter; trace = trace })
