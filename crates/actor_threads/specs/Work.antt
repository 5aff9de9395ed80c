-- What a worker does in a round. This project's own. A worker is one node
-- with a way in from each node and a way out to each. Its steps are those of a history: each has a clock, a port, and the stamped
-- message that it took.
use Rattle.std.specs.Prelude.{◌≡◌, ◌==◌, ◌&&◌, ◌<◌, ◌≤◌, ◌⊎◌, ℕ, ◌+◌, Bool, true, false, if◌then◌else◌, List, [], ◌∷◌, ◌++◌, length, slice_index_or, map, max}
use Rattle.atomic_table.specs.Seated.{TableId}
use Rattle.actor_net.specs.declared.stamped.Stamped.{Stamped}
use Rattle.actor_net.specs.Network.{Stepped, reaches}
use Rattle.actor_net.specs.Histories.{NodeStep, history_of, node_after, notes_of, taken_at, sent_for, with_clock, put_between, PortsBelow, WasReady}
use Rattle.fifo_link.specs.Ends.{End}
use Rattle.actor_threads.specs.Ways.{Incoming, Outgoing, Draws, Sends, unpacked, with_stamp_0, last_clock}

-- a worker: its node's number, the node, its clock, its steps, each a clock and a port, what each of them noted, and its ways
pub record WorkerView (A M N : Type 0) : Type 0 where
  pub number : ℕ
  pub node : A
  pub clock : ℕ
  pub steps : List (ℕ × ℕ)
  pub notes : List (List N)
  pub ins : List (Incoming M)
  pub outs : List (Outgoing M)

-- the name of no link
abbrev pub no_link : TableId
no_link = record { words = 0; slots = 0; views_name = 0; atom = 0; block = 0; offset = 0; slot_names = [] }

-- whether a node's port is the input
abbrev pub is_input_of : ℕ → ℕ → Bool
is_input_of number port = (number == 0) && (port == 0)

module _ {M : Type 0} where
  -- a way in from no node
  abbrev pub no_in : Incoming M
  no_in = record { link = no_link; done = []; kept = [] }

  -- the way in from a node
  abbrev pub in_at : List (Incoming M) → ℕ → Incoming M
  in_at ins port = slice_index_or ins port no_in

  -- a way out to no node
  abbrev pub no_out : Outgoing M
  no_out = record { link = no_link; all = [] }

  -- the way out to a node
  abbrev pub out_at : List (Outgoing M) → ℕ → Outgoing M
  out_at outs to = slice_index_or outs to no_out

  -- the ways in, with what is kept from before the round
  abbrev pub all_in : List (End (List (Stamped M))) → List (List M) → List (Incoming M)
  all_in (take ∷ takes) (messages ∷ kept) = record { link = take.link; done = unpacked take.done; kept = with_stamp_0 messages } ∷ all_in takes kept
  all_in (take ∷ takes) [] = []
  all_in [] kept = []

  -- a way out, with nothing waiting
  abbrev pub all_out : End (List (Stamped M)) → Outgoing M
  all_out send = record { link = send.link; all = unpacked send.done }

  -- what waits at each port before the round: at node 0 the input stands first
  abbrev pub queues_at : ℕ → List M → List (List M) → List (List M)
  queues_at number input [] = []
  queues_at number input (first ∷ rest) = (if number == 0 then input else first) ∷ rest

  -- the clock of a step: one more than the greater of the node's clock and the stamp of what is taken
  abbrev pub tick : ℕ → Stamped M → ℕ
  tick clock took = max clock took.clock + 1

  -- each step has the next clock
  abbrev pub Ticks : ℕ → List (NodeStep M) → Type 0
  Ticks clock [] = Unit {0}
  Ticks clock (e ∷ es) = (e.clock ≡ tick clock e.took) × Ticks e.clock es

  -- the clock after these steps
  abbrev pub clock_after : ℕ → List (NodeStep M) → ℕ
  clock_after clock [] = clock
  clock_after clock (e ∷ es) = clock_after e.clock es

  -- what a step of one node puts on its way to another, of n nodes: what doesn't arrive is dropped
  abbrev pub put_for : ℕ → ℕ → ℕ → ℕ → List (ℕ × M) → List (Stamped M)
  put_for n from to clock sends = if reaches n from to then with_clock clock (sent_for to sends) else []

  -- what was drawn from a port; from the input only what was kept
  pub record DrawsAt (input : Bool) (old new : Incoming M) (used : List (Stamped M)) : Type 0 where
    pub draws : Draws old new used
    pub closed : input ≡ true → new.done ≡ old.done

module _ {A M N : Type 0} where
  -- a worker without steps
  abbrev pub fresh_worker : ℕ → A → List (List M) → List (End (List (Stamped M))) → List (End (List (Stamped M))) → WorkerView A M N
  fresh_worker number node kept takes sends =
      record { number = number; node = node; clock = 0; steps = []; notes = []; ins = all_in takes kept; outs = map all_out sends }

  -- nothing was done: what was taken is kept
  pub record Idled (old new : WorkerView A M N) : Type 0 where
    pub rest : new ≡ record old { ins = new.ins }
    pub count : length new.ins ≡ length old.ins
    pub taken : (p : ℕ) → p < length old.ins → DrawsAt (is_input_of old.number p) (in_at old.ins p) (in_at new.ins p) []

  -- a message was found: the port, and the message with its stamp
  pub record Found (ready : A → M → Bool) (old new : WorkerView A M N) (took : ℕ × Stamped M) : Type 0 where
    pub rest : new ≡ record old { ins = new.ins }
    pub count : length new.ins ≡ length old.ins
    pub within : took.0 < length old.ins
    pub stamp : took.1.clock < last_clock
    pub taken : (p : ℕ) → p < length old.ins → DrawsAt (is_input_of old.number p) (in_at old.ins p) (in_at new.ins p) (if took.0 == p then took.1 ∷ [] else [])
    pub was_ready : old.number ≡ 0 → took.0 ≡ 0 → ready old.node took.1.message ≡ true

  -- a step was done with a message from a port
  pub record Acted (step : A → ℕ → M → Stepped A M N) (old new : WorkerView A M N) (took : ℕ × Stamped M) : Type 0 where
    pub rest : new ≡ record {
      number = old.number;
      node = (step old.node took.0 took.1.message).node;
      clock = tick old.clock took.1;
      steps = old.steps ++ (tick old.clock took.1, took.0) ∷ [];
      notes = old.notes ++ (step old.node took.0 took.1.message).notes ∷ [];
      ins = old.ins;
      outs = new.outs;
    }
    pub count : length new.outs ≡ length old.outs
    pub sent : (r : ℕ) → r < length old.outs → Sends (out_at old.outs r) (out_at new.outs r)
        (put_for (length old.outs) old.number r (tick old.clock took.1) (step old.node took.0 took.1.message).sends)

  -- a message was found, and a step was done with it
  pub record DoesStep (ready : A → M → Bool) (step : A → ℕ → M → Stepped A M N) (old new : WorkerView A M N) : Type 0 where
    pub found : WorkerView A M N
    pub port : ℕ
    pub took : Stamped M
    pub looks : Found ready old found (port, took)
    pub acts : Acted step found new (port, took)

  -- no step can be done with what is kept at a port: no clock is left for it, or the node isn't ready for it
  abbrev pub IsQuietAt : (A → M → Bool) → WorkerView A M N → ℕ → Type 0
  IsQuietAt ready w p = (x : Stamped M) (rest : List (Stamped M)) → (in_at w.ins p).kept ≡ x ∷ rest
      → (last_clock ≤ w.clock) ⊎ ((last_clock ≤ x.clock) ⊎ ((is_input_of w.number p ≡ true) × (ready w.node x.message ≡ false)))

  -- no step can be done with what is kept
  abbrev pub IsQuiet : (A → M → Bool) → WorkerView A M N → Type 0
  IsQuiet ready w = (p : ℕ) → p < length w.ins → IsQuietAt ready w p

  -- a worker did these steps: its node is their result, on each port they took a prefix of what was kept and then taken, and what they sent,
  -- with their clocks as stamps, stands after what was sent before
  pub record Worked (ready : A → M → Bool) (step : A → ℕ → M → Stepped A M N) (old new : WorkerView A M N) : Type 0 where
    pub node_steps : List (NodeStep M)
    pub number : new.number ≡ old.number
    pub node : new.node ≡ node_after step old.node node_steps
    pub steps : new.steps ≡ old.steps ++ history_of node_steps
    pub notes : new.notes ≡ old.notes ++ notes_of step old.node node_steps
    pub count_ins : length new.ins ≡ length old.ins
    pub count_outs : length new.outs ≡ length old.outs
    pub taken : (p : ℕ) → p < length old.ins → DrawsAt (is_input_of old.number p) (in_at old.ins p) (in_at new.ins p) (taken_at p node_steps)
    pub sent : (r : ℕ) → r < length old.outs
        → Sends (out_at old.outs r) (out_at new.outs r) (put_between step (length old.outs) old.number r old.node node_steps)
    pub ports : PortsBelow (length old.ins) node_steps
    pub was_ready : old.number ≡ 0 → WasReady ready step old.node node_steps
    pub ticks : Ticks old.clock node_steps
    pub clock : new.clock ≡ clock_after old.clock node_steps

  -- a worker's round: it did steps, and at least one where one could be done with what is kept
  pub record Ran (ready : A → M → Bool) (step : A → ℕ → M → Stepped A M N) (old new : WorkerView A M N) : Type 0 where
    pub worked : Worked ready step old new
    pub moves : length new.steps ≡ length old.steps → IsQuiet ready old
