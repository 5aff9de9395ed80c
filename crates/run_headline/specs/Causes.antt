-- Why each command of a script is answered as it is: by the names, limits and marks of the instances, and by the commands before it. This
-- project's own.
use Rattle.std.specs.Prelude.{◌≡◌, ◌<◌, ℕ, ◌+◌, ◌==◌, ◌&&◌, nat_lt, Bool, true, false, not, List, Option, None, Some, option_map, slice_index, slice_index_or}
use Rattle.std.specs.List.{AllZip, list_any}
use Rattle.std.specs.Option.{option_map_or}
use Rattle.flow_filter.specs.Filter.{meets}
use Rattle.nf_function.specs.Stored.{plain_version, timed_version}
use Rattle.nf_function.specs.Units.{has_times}
use Rattle.nf_msgs.specs.declared.answer.Answer.{Answer}
use Rattle.nf_msgs.specs.declared.answer.Answer.TheVariants.{Done, Unknown, Overlap, Import, Old}
use Rattle.nf_msgs.specs.declared.command.Command.{Command}
use Rattle.nf_msgs.specs.declared.command.Order.{Order}
use Rattle.nf_msgs.specs.Orders.{order_filter}
use Rattle.ctrl_node.specs.Controller.{unknown_in}
use Rattle.net_world.specs.Verdicts.{is_refusal, receiver_of}
use Rattle.run_headline.specs.Subject.{Subject}

-- whether the command with a number is answered so
abbrev pub is_answered : (Answer → Bool) → List (ℕ × Answer) → ℕ → Bool
is_answered so answers op = list_any (λ a. (a.0 == op) && so a.1) answers

abbrev pub is_done : Answer → Bool
is_done Done = true
is_done answer = false

-- whether the filters of two orders meet; a copy of the all-flows state has none
abbrev pub orders_meet : Order → Order → Bool
orders_meet what other = option_map_or (λ filter. option_map_or (meets filter) (order_filter other) false) (order_filter what) false

module _ {R : Type 0} (subject : Subject R) (answers : List (ℕ × Answer)) where
  -- whether this is the number of a command before this one that began, as it wasn't refused for a name or an overlap, and whose filter meets this one's
  abbrev pub is_overlapped : Command → ℕ → Bool
  is_overlapped c op = list_any (λ (d : Command).
      (d.op == op) && nat_lt d.op c.op && is_answered (λ a. not (is_refusal a)) answers d.op && orders_meet c.what d.what) subject.commands

  -- the cause of an answer, where each name in the order is known: such a command; more records than the instance takes in to which it moves units;
  -- chunks that this instance doesn't read, as it reads those of version 1 alone
  abbrev pub IsTrue : Command → Answer → Type 0
  IsTrue c (Overlap op) = is_overlapped c op ≡ true
  IsTrue c (Import held coming limit) =
      (option_map (slice_index subject.config.limits) (receiver_of subject.config (Some c.what)) ≡ Some limit) × (limit < held + coming)
  IsTrue c (Old newest reads) = (option_map (λ i. slice_index_or subject.config.marked i false) (receiver_of subject.config (Some c.what)) ≡ Some true)
      × (has_times subject.function.kind ≡ true) × (newest ≡ timed_version) × (reads ≡ plain_version)
  IsTrue c answer = Unit {0}

  -- a command is refused for the first name in it that no instance has, and else each name is known
  abbrev pub HasCause : Command → Answer → Type 0
  HasCause c (Unknown name) = unknown_in subject.config.names c.what ≡ Some name
  HasCause c answer = (unknown_in subject.config.names c.what ≡ None) × IsTrue c answer

  -- each command has one answer, in the order of the script, with its true cause
  abbrev pub AreTrue : Type 0
  AreTrue = AllZip (λ (c : Command) a. (a.0 ≡ c.op) × HasCause c a.1) subject.commands answers
