-- Histories of nodes that ran beside each other: what each step took, sent and noted, and when. A step's clock is greater
-- than its node's clock before and than the stamp of the message that it takes, and what it sends carries it. This is the
-- project's own.
use Rattle.std.specs.Prelude.{◌≡◌, ◌==◌, ◌<◌, ℕ, Bool, true, if◌then◌else◌, List, [], ◌∷◌, ◌++◌, map}
use Rattle.actor_net.specs.declared.choice.Choice.{Choice}
use Rattle.actor_net.specs.declared.stamped.Stamped.{Stamped}
use Rattle.actor_net.specs.Network.{Stepped, reaches}

-- one step of a node: its clock, the port that it took from, and the message with its stamp
pub record NodeStep (M : Type 0) : Type 0 where
  pub clock : ℕ
  pub port : ℕ
  pub took : Stamped M

-- stamped messages without their stamps
abbrev pub messages : {M : Type 0} → List (Stamped M) → List M
messages xs = map (λ x. x.message) xs

-- the steps as a history notes them: each with its clock and its port
abbrev pub history_of : {M : Type 0} → List (NodeStep M) → List (ℕ × ℕ)
history_of es = map (λ e. (e.clock, e.port)) es

-- what a node does at one step
abbrev pub does : {A M N : Type 0} → (A → ℕ → M → Stepped A M N) → A → NodeStep M → Stepped A M N
does step node e = step node e.port e.took.message

-- the node after these steps
abbrev pub node_after : {A M N : Type 0} → (A → ℕ → M → Stepped A M N) → A → List (NodeStep M) → A
node_after step node [] = node
node_after step node (e ∷ es) = node_after step (does step node e).node es

-- what these steps took from a port, in order
abbrev pub taken_at : {M : Type 0} → ℕ → List (NodeStep M) → List (Stamped M)
taken_at port [] = []
taken_at port (e ∷ es) = (if e.port == port then e.took ∷ [] else []) ++ taken_at port es

-- the messages for one receiver among what a step sends, in order
abbrev pub sent_for : {M : Type 0} → ℕ → List (ℕ × M) → List M
sent_for to [] = []
sent_for to (sent ∷ rest) = (if sent.0 == to then sent.1 ∷ [] else []) ++ sent_for to rest

-- messages with the clock of the step that sent them
abbrev pub with_clock : {M : Type 0} → ℕ → List M → List (Stamped M)
with_clock clock ms = map (λ m. record { clock = clock; message = m }) ms

-- what these steps sent to one receiver, in order
abbrev pub sent_to : {A M N : Type 0} → (A → ℕ → M → Stepped A M N) → ℕ → A → List (NodeStep M) → List (Stamped M)
sent_to step to node [] = []
sent_to step to node (e ∷ es) =
    with_clock e.clock (sent_for to (does step node e).sends) ++ sent_to step to (does step node e).node es

-- what these steps of one node put on its link to another, of n nodes: what doesn't arrive is dropped
abbrev pub put_between : {A M N : Type 0} → (A → ℕ → M → Stepped A M N) → ℕ → ℕ → ℕ → A → List (NodeStep M) → List (Stamped M)
put_between step n from to node es = if reaches n from to then sent_to step to node es else []

-- what each of these steps noted
abbrev pub notes_of : {A M N : Type 0} → (A → ℕ → M → Stepped A M N) → A → List (NodeStep M) → List (List N)
notes_of step node [] = []
notes_of step node (e ∷ es) = (does step node e).notes ∷ notes_of step (does step node e).node es

-- each clock is greater than the one before and than the stamp of what was taken
abbrev pub ClocksRise : {M : Type 0} → ℕ → List (NodeStep M) → Type 0
ClocksRise clock [] = Unit {0}
ClocksRise clock (e ∷ es) = (clock < e.clock) × (e.took.clock < e.clock) × ClocksRise e.clock es

-- each step took from a port below n
abbrev pub PortsBelow : {M : Type 0} → ℕ → List (NodeStep M) → Type 0
PortsBelow n [] = Unit {0}
PortsBelow n (e ∷ es) = (e.port < n) × PortsBelow n es

-- whenever these steps of node 0 took from the input, the node was ready for what it took
abbrev pub WasReady : {A M N : Type 0} → (A → M → Bool) → (A → ℕ → M → Stepped A M N) → A → List (NodeStep M) → Type 0
WasReady ready step node [] = Unit {0}
WasReady ready step node (e ∷ es) =
    (e.port ≡ 0 → ready node e.took.message ≡ true) × WasReady ready step (does step node e).node es

-- a list without its first, where there is one
abbrev pub without_first_list : {X : Type 0} → List X → List X
without_first_list [] = []
without_first_list (x ∷ xs) = xs

-- the first list of a queue, where there is one
abbrev pub first_list : {N : Type 0} → List (List N) → List N
first_list [] = []
first_list (x ∷ xs) = x

-- the notes of all nodes in the order of the choices: each choice takes the next of its node's
abbrev pub notes_of_choices : {N : Type 0} → (ℕ → List (List N)) → List Choice → List N
notes_of_choices queues [] = []
notes_of_choices queues (c ∷ cs) =
    first_list (queues c.node) ++ notes_of_choices (λ j. if j == c.node then without_first_list (queues j) else queues j) cs
