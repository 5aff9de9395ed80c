-- The words of strong sharing: the members, the site, the window, and the filter of what they share. This project's own.
use Rattle.std.specs.Prelude.{ℕ, not, nat_le, List, length, Option, None, Some, is_some, codes}
use Rattle.basics.specs.Bytes.{colon}
use Rattle.basics.specs.Options.{◌>>=◌}
use Rattle.basics.specs.Parsing.{split_once}
use Rattle.flow_filter.specs.FilterText.{Fields, nothing}
use Rattle.nf_function.specs.declared.kind.Kind.{Kind}
use Rattle.nf_function.specs.Names.{function_named}
use Rattle.command_words.specs.declared.strong.TheConstants.{FEWEST_MEMBERS}
use Rattle.command_words.specs.Arguments.{Text}
use Rattle.command_words.specs.Grammar.{Texts, value_of}
use Rattle.command_words.specs.UpdateWords.{filter_of}
use Rattle.command_words.specs.Values.{only, instances_of, names_of, inside_of, outside_of, window_of, file_of}

-- what `strong` asks for
pub record StrongAsked : Type 0 where
  pub kind : Kind
  -- the members
  pub names : List Text
  -- the bits and the length of the inside prefix
  pub inside : ℕ × ℕ
  pub outside : Option ℕ
  pub window : ℕ
  -- what they share
  pub filter : Fields
  pub trace : Text

-- LIST: 2 to 16 names alone, with commas between them, which differ
unfoldable pub members_of : Text → Option (List Text)
members_of text =
    only (not (is_some (split_once colon text))) (instances_of text >>= λ i. only (nat_le FEWEST_MEMBERS (length i)) (Some (names_of i)))

-- FILTER, or `any` where it isn't given
abbrev pub filter_if : Kind → Option Text → Option Fields
filter_if kind None = Some nothing
filter_if kind (Some text) = filter_of kind text

-- the values of `strong`
unfoldable pub strong_values : Texts → Option StrongAsked
strong_values given = do
  kind ← value_of (codes "function") given >>= function_named
  inside ← value_of (codes "inside") given >>= inside_of
  outside ← outside_of kind inside (value_of (codes "outside") given)
  window ← window_of (value_of (codes "window") given)
  filter ← filter_if kind (value_of (codes "filter") given)
  trace ← value_of (codes "trace") given >>= file_of
  names ← value_of (codes "instances") given >>= members_of
  Some (record { kind = kind; names = names; inside = inside; outside = outside; window = window; filter = filter; trace = trace })
