-- The words of a failover: which instance fails, which one takes over, and after how many choices. This project's own.
use Rattle.std.specs.Prelude.{ℕ, ◌==◌, not, ◌&&◌, List, Option, Some, is_some, codes}
use Rattle.std.specs.List.{position}
use Rattle.std.specs.Str.{bytes_eq}
use Rattle.basics.specs.Options.{◌>>=◌}
use Rattle.command_words.specs.declared.request.InstanceWords.{InstanceWords}
use Rattle.command_words.specs.Arguments.{Text}
use Rattle.command_words.specs.Grammar.{Texts, value_of}
use Rattle.command_words.specs.NetworkWords.{NetworkAsked, network_values}
use Rattle.command_words.specs.Values.{given_number, only}

-- what `fail` asks for: the instances by their places in the list
pub record FailAsked : Type 0 where
  pub network : NetworkAsked
  pub failed : ℕ
  pub to : ℕ
  pub after : ℕ

-- the place of the instance with a name
abbrev pub place_of : List InstanceWords → Text → Option ℕ
place_of instances name = position (λ (i : InstanceWords). bytes_eq i.name name) instances

-- the values of `fail`: a journal, and two different instances of the list
unfoldable pub fail_values : Texts → Option FailAsked
fail_values given = do
  after ← value_of (codes "after") given >>= given_number
  network ← network_values given
  failed ← value_of (codes "failed") given >>= place_of network.instances
  to ← value_of (codes "to") given >>= place_of network.instances
  only (is_some network.journal && not (failed == to)) (Some (record { network = network; failed = failed; to = to; after = after }))
