-- What reading words gives: exactly what a definition reads, or a refusal exactly where it reads nothing. This project's own.
use Rattle.std.specs.Prelude.{◌≡◌, Option, None, Some, Result, Ok, Err}
use Rattle.clap.specs.Words.{rows_of, found_of}
use Rattle.command_words.specs.declared.fault.ArgumentsFault.{ArgumentsFault}
use Rattle.command_words.specs.declared.fault.ArgumentsFault.TheVariants.{Usage, NoMemory}
use Rattle.command_words.specs.declared.grammar.Given.{Given}
use Rattle.command_words.specs.ClapArguments.{given_in}
use Rattle.command_words.specs.Grammar.{Texts}

-- Usage exactly where nothing is read; out of memory is free
abbrev pub Refuses : {Y : Type 0} → ArgumentsFault → Option Y → Type 0
Refuses Usage reading = reading ≡ None
Refuses NoMemory reading = Unit {0}

abbrev pub Reads : {X Y : Type 0} → (X → Y) → Result X ArgumentsFault → Option Y → Type 0
Reads view (Ok x) reading = reading ≡ Some (view x)
Reads view (Err e) reading = Refuses e reading

abbrev pub given_view : Given → Texts
given_view given = given_in (rows_of (found_of given.matches))
