-- What every run of the network keeps, complete or not, for every script: each packet is processed at most once, in the order of its unit;
-- outputs and records are those of one instance that nothing moved. Packets go by their numbers. The words stand in `net_world`. This
-- project's own.
use Rattle.std.specs.Prelude.{◌≡◌, ℕ, ◌+◌, ◌≤◌, Bool, true, false, List, [], ◌∷◌, ◌++◌, map, length, is_some, Option, None, Some, All}
use Rattle.flow_filter.specs.declared.filter.Filter.{Filter}
use Rattle.nf_function.specs.declared.unit.Unit as units
use Rattle.nf_function.specs.Semantics.{Semantics}
use Rattle.record_table.specs.Table.{is_among}
use Rattle.nf_msgs.specs.declared.answer.Answer.{Answer}
use Rattle.nf_msgs.specs.declared.answer.Answer.TheVariants.{Done}
use Rattle.nf_msgs.specs.declared.command.Order.{Order}
use Rattle.nf_msgs.specs.declared.command.Order.TheVariants.{Move, Copy, Share}
use Rattle.nf_msgs.specs.declared.msg.Msg.{Msg}
use Rattle.nf_msgs.specs.declared.note.Note.{Note}
use Rattle.actor_net.specs.declared.choice.Choice.{Choice}
use Rattle.actor_net.specs.Network.{Network, run}
use Rattle.net_world.specs.declared.config.Config.{Config}
use Rattle.net_world.specs.declared.node.Node.{Node}
use Rattle.net_world.specs.Commands.{Answers, answers_of, is_begun, times_installed}
use Rattle.net_world.specs.Fold.{IsFront, times, arrived_of, fold, outputs_noted, outputs, in_flight_of, processed_of}
use Rattle.net_world.specs.Input.{packets, order_numbered, ends_last}
use Rattle.net_world.specs.Jobs.{Course, Job, job_of, last_world}
use Rattle.net_world.specs.Lives.{lives}
use Rattle.net_world.specs.Log.{arrivals_in, dones_in}
use Rattle.net_world.specs.Nodes.{node_step}
use Rattle.net_world.specs.Path.{in_flight}
use Rattle.net_world.specs.Places.{is_loose, owner, ArePlaces, AreAtMembers}
use Rattle.net_world.specs.Records.{live_at}
use Rattle.net_world.specs.Refused.{StaysAtSource}
use Rattle.net_world.specs.Seen.{HasRecord}
use Rattle.net_world.specs.Settles.{Settles}
use Rattle.net_world.specs.Standby.{standby_at, StandsBy}
use Rattle.net_world.specs.Verdicts.{IsVerdict, is_refusal, number_live}
use Rattle.net_world.specs.Window.{Window}
use Rattle.nf_net.specs.Copies.{UnitCopy, IsOrdered, IsCopied}
use Rattle.nf_net.specs.NumberedChunks.{numbered_on_way, IsOfItsMove}

module _ {R : Type 0} (f : Semantics R) (config : Config) (items : List Msg) where
  -- what every run keeps
  pub record Promises {F : Type 0} (w : Network (Node F R) Msg Note) : Type 0 where
    -- the switch takes the packets of the input in their order
    pub in_turn : IsFront (arrivals_in w.log) (map (λ p. p.number) (packets items))
    -- what is processed of a unit is a front of what came, as long as no plain move handed it on; each packet once in any case
    pub in_order : (unit : units.Unit) → is_loose config items unit w.log ≡ false
        → IsFront (processed_of f config items unit w.log) (arrived_of f config items unit w.log)
    pub once : (unit : units.Unit) (p : ℕ) → times p (processed_of f config items unit w.log) ≤ times p (arrived_of f config items unit w.log)
    -- what came and isn't processed is under way, and nothing else: after what is processed in order, and each packet once in any case
    pub in_place : (unit : units.Unit) → is_loose config items unit w.log ≡ false
        → processed_of f config items unit w.log ++ in_flight_of f config items unit w ≡ arrived_of f config items unit w.log
    pub each_in_place : (unit : units.Unit) (p : ℕ)
        → times p (processed_of f config items unit w.log) + times p (in_flight_of f config items unit w) ≡ times p (arrived_of f config items unit w.log)
    -- no packet comes twice: each that came is processed, or under way at one place
    pub came_once : (p : ℕ) → times p (arrivals_in w.log) ≤ 1
    -- outputs are those of one instance that nothing moved, and no unit has two live records
    pub outputs_are : (unit : units.Unit) → outputs_noted f config items unit w.log ≡ outputs f config items None (processed_of f config items unit w.log)
    pub one_record : (unit : units.Unit) (i j : ℕ) (r s : R) → live_at w i unit ≡ Some r → live_at w j unit ≡ Some s → i ≡ j
    -- the record of a unit with a processed packet is that of one instance that nothing moved. It is live at one instance, or in one chunk on
    -- its way, or in both as long as its source is still to remove it; no other unit has any. For a shared unit the last packet may be lacking,
    -- as long as the home is to take the record of another member
    pub record_stands : (unit : units.Unit) → HasRecord (job_of f config items) w unit
    -- and each chunk on its way is one of a unit that its move takes: the one whose number its message bears, or for which the controller keeps
    -- it, and that move is under way
    pub chunks_moved : All (IsOfItsMove items w.log) (numbered_on_way w)
    -- no more packets are under way than the window says, and at their places, whichever instance is read last, there are as many as came and
    -- aren't processed
    pub window : Window config w
    pub parcels : (one : ℕ) → length (in_flight w (length config.names) one) + length (dones_in w.log) ≡ length (arrivals_in w.log)
    -- each packet was processed at the owner of its unit, at the destination of a move under way that took the unit from there, or at its member
    -- of a share; there it was if a share had its unit when it came
    pub places : ArePlaces (job_of f config items) w.log
    pub at_members : AreAtMembers config items f.kind w.log
    -- after a settle, and before a later command begins, it was where the rules of the switch send it
    pub settles : Settles config items f.kind w.log
    -- each command begins and is answered at most once, and what refuses it was true then
    pub answers : Answers config items w.log
    -- and none else: a number that no command of the input has neither begins nor is answered
    pub no_others : (op : ℕ) → order_numbered items op ≡ None → (is_begun op w.log ≡ false) × (answers_of op w.log ≡ [])
    -- the switch changes no rules for a copy
    pub no_rules : (op : ℕ) (source destination : List ℕ) (filter : Option Filter) → order_numbered items op ≡ Some (Copy source destination filter)
        → times_installed op w.log ≡ 0
    -- what a refused move was to take away was processed at its source, as long as the move was under way
    pub at_source : StaysAtSource config items f.kind w.log

  -- what a complete run keeps besides: all packets of the input came, and each was processed, once; the record of a unit is
  -- live at an instance, and has seen all of them; commands were answered, and the rules changed for moves that are done
  pub record Completed {F : Type 0} (w : Network (Node F R) Msg Note) : Type 0 where
    pub all_came : arrivals_in w.log ≡ map (λ p. p.number) (packets items)
    -- in their order, as long as no plain move handed their unit on
    pub all_went : (unit : units.Unit) → is_loose config items unit w.log ≡ false
        → processed_of f config items unit w.log ≡ arrived_of f config items unit w.log
    pub each_once : (unit : units.Unit) (p : ℕ) → times p (processed_of f config items unit w.log) ≡ times p (arrived_of f config items unit w.log)
    pub records_are : (unit : units.Unit) (i : ℕ) (r : R) → live_at w i unit ≡ Some r
        → fold f config items None (processed_of f config items unit w.log) ≡ Some r
    pub has_record : (unit : units.Unit) (r : R) → fold f config items None (processed_of f config items unit w.log) ≡ Some r
        → (i : ℕ) × (live_at w i unit ≡ Some r)
    -- it is at the owner of the unit by the rules of the switch: after a move that is done not at the source, after a refused one still there
    pub at_owner : (unit : units.Unit) (i : ℕ) (r : R) → live_at w i unit ≡ Some r → i ≡ owner config items unit w.log
    -- each command of the input was answered, if none stands after its end
    pub answered : ends_last items ≡ true → (op : ℕ) (what : Order) → order_numbered items op ≡ Some what → length (answers_of op w.log) ≡ 1
    -- the switch changed its rules once for each move that is done
    pub installed : (op : ℕ) (source destination : List ℕ) (filter : Filter) (keep : Bool)
        → order_numbered items op ≡ Some (Move source destination filter keep) → answers_of op w.log ≡ Done ∷ [] → times_installed op w.log ≡ 1

module _ {F R : Type 0} (job : Job R) (course : Course F R) where
  -- the world at the end of the run, and after some of its choices
  abbrev at_end : Network (Node F R) Msg Note
  at_end = last_world job.function course

  abbrev after : List Choice → Network (Node F R) Msg Note
  after choices = run (node_step job.function) choices course.start

  -- what every run keeps of the records that stand by
  pub record Standbys : Type 0 where
    -- each record that stands by is that of a front
    pub fronts : (i : ℕ) (unit : units.Unit) (kept : R) → standby_at at_end i unit ≡ Some kept → StandsBy job at_end i unit
    -- where one stood by after some of the choices, one stands by at the end, whose front is the earlier one or goes on from it
    pub never_back : (before later : List Choice) (i : ℕ) (unit : units.Unit) (earlier : StandsBy job (after before) i unit)
        → before ++ later ≡ course.choices → (now : StandsBy job at_end i unit) × IsFront earlier.front now.front
    -- a copy of units that is done has brought what its source had, and that stands by since then
    pub copied : (copy : UnitCopy) → IsOrdered job.config job.items copy → answers_of copy.op at_end.log ≡ Done ∷ [] → IsCopied job course copy

  -- and of answers to commands
  pub record Verdicts : Type 0 where
    -- a move that began is answered by its verdict
    pub judged : (op : ℕ) (source destination : List ℕ) (filter : Filter) (keep : Bool) (answer : Answer)
        → order_numbered job.items op ≡ Some (Move source destination filter keep) → is_begun op at_end.log ≡ true → answers_of op at_end.log ≡ answer ∷ []
        → IsVerdict job course op answer
    -- a copy that began is answered that it is done
    pub copied : (op : ℕ) (source destination : List ℕ) (filter : Option Filter) (answer : Answer)
        → order_numbered job.items op ≡ Some (Copy source destination filter) → is_begun op at_end.log ≡ true → answers_of op at_end.log ≡ answer ∷ []
        → answer ≡ Done
    -- and so is a share
    pub set_up : (op : ℕ) (members : List (List ℕ)) (filter : Filter) (answer : Answer) → order_numbered job.items op ≡ Some (Share members filter)
        → is_begun op at_end.log ≡ true → answers_of op at_end.log ≡ answer ∷ [] → answer ≡ Done
    -- and what didn't begin is answered by a refusal
    pub refused : (op : ℕ) (answer : Answer) → is_begun op at_end.log ≡ false → answers_of op at_end.log ≡ answer ∷ [] → is_refusal answer ≡ true
    -- what a move is judged by is told by what happened: at each point of the run the units that an instance has gained and hasn't lost since are
    -- those with a live record there, each once
    pub lives_are : (before later : List Choice) (i : ℕ) (unit : units.Unit) → before ++ later ≡ course.choices
        → is_among (lives job.function job.config job.items course.start i before) unit ≡ is_some (live_at (after before) i unit)
    pub lives_number : (before later : List Choice) (i : ℕ) → before ++ later ≡ course.choices
        → length (lives job.function job.config job.items course.start i before) ≡ number_live (after before) i
