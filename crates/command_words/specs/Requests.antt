-- What the words of a command line ask for. A further command is a further case of `Asked` and a further line of `calm_of`. This project's
-- own grammar.
use Rattle.std.specs.Prelude.{ℕ, Bool, false, if◌then◌else◌, List, ◌∷◌, Option, None, Some, is_some, codes}
use Rattle.std.specs.Str.{bytes_eq}
use Rattle.basics.specs.Options.{◌>>=◌}
use Rattle.flow_filter.specs.Limits.{most_packets, most_hosts}
use Rattle.nf_function.specs.declared.kind.Kind.{Kind}
use Rattle.nf_function.specs.Names.{function_named}
use Rattle.actor_net.specs.declared.schedule.Schedule.{Schedule}
use Rattle.command_words.specs.declared.forms.Form.TheVariants as forms
use Rattle.command_words.specs.declared.request.InstanceWords.{InstanceWords}
use Rattle.command_words.specs.Arguments.{Text}
use Rattle.command_words.specs.Grammar.{Texts, given_arguments, value_of}
use Rattle.command_words.specs.Values.{only, instances_of, count_of, given_number, schedule_of, file_of}
pub use Rattle.command_words.specs.NetworkWords.{NetworkAsked, network_values}
pub use Rattle.command_words.specs.FailWords.{FailAsked, fail_values}
pub use Rattle.command_words.specs.UpdateWords.{PublishedAsked, published_values}
pub use Rattle.command_words.specs.StrongWords.{StrongAsked, strong_values}

-- what `check` asks for
pub record CheckAsked : Type 0 where
  pub kind : Kind
  pub instances : List InstanceWords
  pub script : Text

-- what `gen` asks for
pub record GenAsked : Type 0 where
  pub number : ℕ
  pub packets : ℕ
  pub hosts : ℕ
  pub trace : Text

-- what the words ask for
pub data Asked : Type 0 where
  asks_sim : NetworkAsked → Schedule → Asked
  asks_run : NetworkAsked → Asked
  asks_audit : NetworkAsked → Asked
  asks_fail : FailAsked → Asked
  asks_check : CheckAsked → Asked
  asks_gen : GenAsked → Asked
  asks_published : PublishedAsked → Schedule → Asked
  asks_strong : StrongAsked → Schedule → Asked

-- the values of `check`
unfoldable pub check_values : Texts → Option CheckAsked
check_values given = do
  kind ← value_of (codes "function") given >>= function_named
  script ← value_of (codes "script") given >>= file_of
  instances ← value_of (codes "instances") given >>= instances_of
  Some (record { kind = kind; instances = instances; script = script })

-- the values of `gen`: 1 to 1,000,000 packets, and 1 to 256 hosts
unfoldable pub gen_values : Texts → Option GenAsked
gen_values given = do
  number ← value_of (codes "number") given >>= given_number
  packets ← value_of (codes "packets") given >>= count_of most_packets
  hosts ← value_of (codes "hosts") given >>= count_of most_hosts
  trace ← value_of (codes "trace") given >>= file_of
  Some (record { number = number; packets = packets; hosts = hosts; trace = trace })

abbrev pub run_of : List Text → Option Asked
run_of words = given_arguments forms.Run words >>= λ g. network_values g >>= λ n. Some (asks_run n)

abbrev pub sim_of : List Text → Option Asked
sim_of words = given_arguments forms.Sim words >>= λ g. schedule_of (value_of (codes "schedule") g) >>= λ s. network_values g >>= λ n. Some (asks_sim n s)

-- the words of `run`, where the journal must be given
abbrev pub audit_of : List Text → Option Asked
audit_of words = given_arguments forms.Run words >>= λ g. network_values g >>= λ n. only (is_some n.journal) (Some (asks_audit n))

abbrev pub fail_of : List Text → Option Asked
fail_of words = given_arguments forms.Fail words >>= λ g. fail_values g >>= λ f. Some (asks_fail f)

abbrev pub check_of : List Text → Option Asked
check_of words = given_arguments forms.Check words >>= λ g. check_values g >>= λ c. Some (asks_check c)

abbrev pub gen_of : List Text → Option Asked
gen_of words = given_arguments forms.Gen words >>= λ g. gen_values g >>= λ v. Some (asks_gen v)

abbrev pub published_of : List Text → Option Asked
published_of words =
    given_arguments forms.Published words >>= λ g. published_values g >>= λ p. schedule_of (value_of (codes "schedule") g) >>= λ s. Some (asks_published p s)

abbrev pub strong_of : List Text → Option Asked
strong_of words =
    given_arguments forms.Strong words >>= λ g. schedule_of (value_of (codes "schedule") g) >>= λ s. strong_values g >>= λ v. Some (asks_strong v s)

-- the commands that start no threads
unfoldable pub calm_of : Text → List Text → Option Asked
calm_of command words =
    if bytes_eq command (codes "sim") then sim_of words
    else if bytes_eq command (codes "audit") then audit_of words
    else if bytes_eq command (codes "fail") then fail_of words
    else if bytes_eq command (codes "check") then check_of words
    else if bytes_eq command (codes "gen") then gen_of words
    else if bytes_eq command (codes "published") then published_of words
    else if bytes_eq command (codes "strong") then strong_of words
    else None

-- PROGRAM COMMAND and the words of the command
unfoldable pub request_of : List Text → Option Asked
request_of (program ∷ command ∷ words) = if bytes_eq command (codes "run") then run_of words else calm_of command words
request_of _ = None

-- whether the second word, after the program's name, is this command
abbrev pub is_command : Text → List Text → Bool
is_command name (program ∷ command ∷ words) = bytes_eq command name
is_command name words = false
