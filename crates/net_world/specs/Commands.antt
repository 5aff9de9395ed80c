-- What the log of every run says of commands: each begins and is answered once at most, and why it is refused or may begin was true
-- when that was noted, of the log up to there. Commands go by their numbers. This project's own.
use Rattle.std.specs.Prelude.{◌≡◌, ◌≢◌, ℕ, ◌<◌, ◌≤◌, ◌==◌, Bool, true, false, not, ◌&&◌, ◌||◌, if◌then◌else◌, List, [], ◌∷◌, count_by, filter, map, length}
use Rattle.std.specs.Prelude.{Option, None, Some, option_and_then}
use Rattle.std.specs.List.{before_first, list_any}
use Rattle.std.specs.Option.{option_map_or}
use Rattle.flow_filter.specs.declared.filter.Filter.{Filter}
use Rattle.flow_filter.specs.Filter.{meets}
use Rattle.nf_msgs.specs.declared.answer.Answer.{Answer}
use Rattle.nf_msgs.specs.declared.answer.Answer.TheVariants.{Done, Unknown, Overlap}
use Rattle.nf_msgs.specs.declared.command.Order.{Order}
use Rattle.nf_msgs.specs.declared.command.Order.TheVariants.{Share}
use Rattle.nf_msgs.specs.declared.msg.Msg.{Msg}
use Rattle.nf_msgs.specs.declared.note.Note.{Note}
use Rattle.nf_msgs.specs.declared.note.Note.TheVariants.{Begun, Answered}
use Rattle.nf_msgs.specs.Orders.{order_filter}
use Rattle.ctrl_node.specs.Controller.{unknown_in}
use Rattle.net_world.specs.declared.config.Config.{Config}
use Rattle.net_world.specs.Input.{order_numbered}
use Rattle.net_world.specs.Log.{answers_in, begins_in, has_begun, installs_in}

-- whether the command was answered
abbrev pub has_answered : ℕ → List Note → Bool
has_answered op log = list_any (λ one. one.0 == op) (answers_in log)

-- whether it began
abbrev pub is_begun : ℕ → List Note → Bool
is_begun op log = has_begun (λ k. k == op) log

-- how often it began
abbrev pub times_begun : ℕ → List Note → ℕ
times_begun op log = count_by (λ k. k == op) (begins_in log)

-- how often the switch changed its rules for it
abbrev pub times_installed : ℕ → List Note → ℕ
times_installed op log = count_by (λ k. k == op) (installs_in log)

-- whether it is under way
abbrev pub is_busy : ℕ → List Note → Bool
is_busy op log = is_begun op log && not (has_answered op log)

-- whether an order is to share
abbrev pub is_share : Option Order → Bool
is_share (Some (Share members filter)) = true
is_share order = false

-- all answers to the command, in order
abbrev pub answers_of : ℕ → List Note → List Answer
answers_of op log = map (λ one. one.1) (filter (λ one. one.0 == op) (answers_in log))

-- whether a note says that the command began or was answered
abbrev pub is_of_command : ℕ → Note → Bool
is_of_command op (Begun k) = k == op
is_of_command op (Answered k answer) = k == op
is_of_command op note = false

-- the log before the command's first note
abbrev pub before_command : ℕ → List Note → List Note
before_command op log = before_first (is_of_command op) log

-- the lowest number of those that some test picks
pub record IsLowest (picks : ℕ → Bool) (op : ℕ) : Type 0 where
  pub picked : picks op ≡ true
  pub lowest : (k : ℕ) → k < op → picks k ≡ false

-- the cause of a refusal, by the first name in the order that no instance has, and by which commands keep others off and meet the order: that name;
-- or each name is known, and it is the lowest number of such a command. Answers to commands that began have other causes
abbrev pub IsCause : Answer → (unknown : Option (List ℕ)) → (overlapping : ℕ → Bool) → Type 0
IsCause (Unknown name) unknown overlapping = unknown ≡ Some name
IsCause (Overlap op) unknown overlapping = (unknown ≡ None) × IsLowest overlapping op
IsCause answer unknown overlapping = Unit {0}

-- The instances' names are given, and the order under each number.
module _ (names : List (List ℕ)) (orders : ℕ → Option Order) where
  -- whether a command keeps others off: as long as it is under way, and a share for good
  abbrev pub keeps_off : ℕ → List Note → Bool
  keeps_off op log = is_begun op log && (is_share (orders op) || not (has_answered op log))

  -- the filter of a command that keeps others off
  abbrev pub busy_filter : ℕ → List Note → Option Filter
  busy_filter op log = if keeps_off op log then option_and_then order_filter (orders op) else None

  -- whether the filter of an order meets that of such a command
  abbrev pub overlaps : Order → List Note → ℕ → Bool
  overlaps what log op = option_map_or (λ filter. option_map_or (meets filter) (busy_filter op log) false) (order_filter what) false

  -- an instance has each name, and no command that keeps others off meets the order
  pub record MayBegin (what : Order) (log : List Note) : Type 0 where
    pub known : unknown_in names what ≡ None
    pub apart : (op : ℕ) → overlaps what log op ≡ false

  pub record AreAnswered (log : List Note) : Type 0 where
    -- no command begins twice, and none is answered twice
    pub begun_once : (op : ℕ) → times_begun op log ≤ 1
    pub answered_once : (op : ℕ) → length (answers_of op log) ≤ 1
    -- a refused command has a cause, which was true of the log before its first note, and one that began had none
    pub causes : (op : ℕ) (what : Order) (answer : Answer) → orders op ≡ Some what → answers_of op log ≡ answer ∷ []
        → IsCause answer (unknown_in names what) (overlaps what (before_command op log))
    pub begins : (op : ℕ) (what : Order) → orders op ≡ Some what → is_begun op log ≡ true → MayBegin what (before_command op log)
    -- the switch changes its rules once at most for each command, and not for one that is answered otherwise than that it is done
    pub installed_once : (op : ℕ) → times_installed op log ≤ 1
    pub refused_is_not_installed : (op : ℕ) (what : Order) (answer : Answer) → orders op ≡ Some what → answers_of op log ≡ answer ∷ [] → answer ≢ Done
        → times_installed op log ≡ 0

-- what the log of every run of an input says
abbrev pub Answers : Config → List Msg → List Note → Type 0
Answers config items log = AreAnswered config.names (order_numbered items) log
