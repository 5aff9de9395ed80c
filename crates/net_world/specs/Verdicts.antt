-- Why a command that began is answered as it is: a move is judged once, when its destination takes the first piece of its state, and a
-- copy is done. This project's own.
use Rattle.std.specs.Prelude.{◌≡◌, ℕ, ◌+◌, ◌==◌, ◌&&◌, nat_lt, nat_le, Bool, true, false, if◌then◌else◌, List, ◌∷◌, ◌++◌, filter_map, find, length, Option}
use Rattle.std.specs.Prelude.{None, Some, option_map, slice_get, slice_index, slice_index_or}
use Rattle.std.specs.List.{before_first, list_any}
use Rattle.std.specs.Option.{option_map_or}
use Rattle.std.specs.FinMap as finite
use Rattle.nf_function.specs.declared.unit.Unit as units
use Rattle.nf_function.specs.Semantics.{Semantics}
use Rattle.nf_function.specs.Units.{has_times}
use Rattle.nf_msgs.specs.declared.answer.Answer.{Answer}
use Rattle.nf_msgs.specs.declared.answer.Answer.TheVariants.{Done, Unknown, Overlap, Import, Old}
use Rattle.nf_msgs.specs.declared.command.Order.{Order}
use Rattle.nf_msgs.specs.declared.command.Order.TheVariants.{Move}
use Rattle.nf_msgs.specs.declared.msg.Piece.{Piece}
use Rattle.nf_msgs.specs.declared.msg.Msg.{Msg}
use Rattle.nf_msgs.specs.declared.msg.Msg.TheVariants.{Put}
use Rattle.nf_msgs.specs.declared.note.Note.{Note}
use Rattle.nf_msgs.specs.declared.note.Note.TheVariants.{Exported}
use Rattle.nf_msgs.specs.Nodes.{instance_node}
use Rattle.flow_filter.specs.Name.{place_of}
use Rattle.actor_net.specs.declared.choice.Choice.{Choice}
use Rattle.actor_net.specs.Network.{Network, run, queue_at}
use Rattle.net_world.specs.declared.config.Config.{Config}
use Rattle.net_world.specs.declared.node.Node.{Node}
use Rattle.net_world.specs.declared.node.Node.TheVariants.{Instance}
use Rattle.net_world.specs.Input.{packet_numbered, order_numbered}
use Rattle.net_world.specs.Jobs.{Course, Job}
use Rattle.net_world.specs.Lives.{lives}
use Rattle.net_world.specs.Nodes.{node_step}
use Rattle.net_world.specs.Fold.{processed_of}
use Rattle.nf_function.specs.Stored.{plain_version, timed_version}

-- what is weighed of a move: how many units are live at the destination, how many come, how many it takes at most, whether it is
-- marked as one that reads only the first version of chunks, and whether one that comes is of the second
pub record Weighed : Type 0 where
  pub held : ℕ
  pub coming : ℕ
  pub limit : ℕ
  pub marked : Bool
  pub timed : Bool

-- the answer by what is weighed
abbrev pub verdict : Weighed → Answer
verdict x =
    if nat_lt x.limit (x.held + x.coming) then Import x.held x.coming x.limit
    else if x.marked && x.timed then Old timed_version plain_version
    else Done

-- an answer to a command that doesn't begin
abbrev pub is_refusal : Answer → Bool
is_refusal (Unknown name) = true
is_refusal (Overlap op) = true
is_refusal answer = false

-- the command for which an instance gave state, and the units
abbrev pub export_in : Note → Option (ℕ × List units.Unit)
export_in (Exported instance op us) = Some (op, us)
export_in note = None

-- the units whose state an instance gave for a command, by the first note of it
abbrev pub exported_for : ℕ → List Note → Option (List units.Unit)
exported_for op log = option_map (λ one. one.1) (find (λ one. one.0 == op) (filter_map export_in log))

-- the log before that note
abbrev pub before_export : ℕ → List Note → List Note
before_export op log = before_first (λ n. option_map_or (λ one. one.0 == op) (export_in n) false) log

-- how many units are live at an instance of a world
abbrev pub live_number : {F R : Type 0} → Option (Node F R) → ℕ
live_number (Some (Instance i)) = finite.len i.table.live
live_number other = 0

abbrev pub number_live : {F R : Type 0} → Network (Node F R) Msg Note → ℕ → ℕ
number_live w i = live_number (slice_get w.nodes (instance_node i))

-- the instance to which an order moves units
abbrev pub receiver_of : Config → Option Order → Option ℕ
receiver_of config (Some (Move source destination filter keep)) = place_of config.names destination
receiver_of config other = None

module _ {R : Type 0} (f : Semantics R) (config : Config) (items : List Msg) where
  -- the function keeps times, and some packet of the unit that was processed came later than at time 0
  abbrev pub is_timed : units.Unit → List Note → Bool
  is_timed unit log = has_times f.kind && list_any (λ p. nat_le 1 (packet_numbered items p).nanos) (processed_of f config items unit log)

-- what is weighed of a move in a world
pub record IsWeighed {F R : Type 0} (job : Job R) (op : ℕ) (w : Network (Node F R) Msg Note) (x : Weighed) : Type 0 where
  pub destination : ℕ
  pub destination_is : receiver_of job.config (order_numbered job.items op) ≡ Some destination
  pub units : List units.Unit
  pub units_are : exported_for op w.log ≡ Some units
  pub held : x.held ≡ number_live w destination
  pub coming : x.coming ≡ length units
  pub limit : x.limit ≡ slice_index job.config.limits destination
  pub marked : x.marked ≡ slice_index_or job.config.marked destination false
  pub timed : x.timed ≡ list_any (λ unit. is_timed job.function job.config job.items unit (before_export op w.log)) units

module _ {F R : Type 0} (f : Semantics R) (course : Course F R) where
  -- after some of the choices, the first piece of the move is taken next
  pub record IsTakenAfter (op : ℕ) (front : List Choice) : Type 0 where
    pub choice : Choice
    pub back : List Choice
    pub whole : front ++ choice ∷ back ≡ course.choices
    pub piece : Piece
    pub rest : List Msg
    pub waits : queue_at (run (node_step f) front course.start) choice ≡ Put op piece true ∷ rest

-- a move was judged once, so
pub record IsVerdict {F R : Type 0} (job : Job R) (course : Course F R) (op : ℕ) (answer : Answer) : Type 0 where
  pub front : List Choice
  pub is_taken : IsTakenAfter job.function course op front
  pub once : (other : List Choice) → IsTakenAfter job.function course op other → other ≡ front
  pub weighed : Weighed
  pub are_weighed : IsWeighed job op (run (node_step job.function) front course.start) weighed
  pub by_history : weighed.held ≡ length (lives job.function job.config job.items course.start are_weighed.destination front)
  pub at_destination : is_taken.choice.node ≡ instance_node are_weighed.destination
  pub answer_is : answer ≡ verdict weighed
