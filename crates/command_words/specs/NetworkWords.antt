-- What the words of a run of the network give, which several commands share. This project's own.
use Rattle.std.specs.Prelude.{ℕ, Bool, List, Option, Some, is_some, codes}
use Rattle.basics.specs.Options.{◌>>=◌}
use Rattle.nf_function.specs.declared.kind.Kind.{Kind}
use Rattle.nf_function.specs.Names.{function_named}
use Rattle.command_words.specs.declared.request.InstanceWords.{InstanceWords}
use Rattle.command_words.specs.Arguments.{Text}
use Rattle.command_words.specs.Grammar.{Texts, value_of}
use Rattle.command_words.specs.Values.{instances_of, inside_of, outside_of, window_of, file_of, file_if}

-- what `sim`, `run` and `audit` ask for, and `fail` of the run
pub record NetworkAsked : Type 0 where
  pub kind : Kind
  pub instances : List InstanceWords
  -- the bits and the length of the inside prefix
  pub inside : ℕ × ℕ
  pub outside : Option ℕ
  pub window : ℕ
  -- the file of the run's choices
  pub journal : Option Text
  -- the report has counts in place of the lines of packets and records
  pub summary : Bool
  pub trace : Text
  pub script : Option Text

-- the values of the words that `run`, `sim`, `audit` and `fail` share
unfoldable pub network_values : Texts → Option NetworkAsked
network_values given = do
  kind ← value_of (codes "function") given >>= function_named
  inside ← value_of (codes "inside") given >>= inside_of
  outside ← outside_of kind inside (value_of (codes "outside") given)
  window ← window_of (value_of (codes "window") given)
  journal ← file_if (value_of (codes "journal") given)
  trace ← value_of (codes "trace") given >>= file_of
  script ← file_if (value_of (codes "script") given)
  instances ← value_of (codes "instances") given >>= instances_of
  Some (record {
    kind = kind;
    instances = instances;
    inside = inside;
    outside = outside;
    window = window;
    journal = journal;
    summary = is_some (value_of (codes "summary") given);
    trace = trace;
    script = script;
  })
