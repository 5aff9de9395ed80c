-- The world that is measured as the program's network: its nodes, its packets, and what each step does. This is the
-- project's own.
use Rattle.std.specs.Prelude.{◌==◌, ◌+◌, ◌-◌, ◌*◌, ◌/◌, ◌%◌, ◌^◌, ℕ, zero, suc, Bool, true, min, nat_lt, List, [], ◌∷◌, ◌++◌}
use Rattle.actor_net.specs.Network.{Stepped}
use Rattle.speed_core.specs.declared.nodes.TheConstants.{WINDOW, FIRST}
use Rattle.speed_core.specs.declared.nodes.Message.{Message}
use Rattle.speed_core.specs.declared.nodes.Message.TheVariants.{Packet as Carried, Credit}
use Rattle.speed_core.specs.declared.nodes.Switch.{Switch}
use Rattle.speed_core.specs.declared.nodes.Instance.{Instance}
use Rattle.speed_core.specs.declared.nodes.Node.{Node}
use Rattle.speed_core.specs.Work.{scrambled}
use Rattle.speed_core.specs.declared.nodes.Node.TheVariants.{Switch as A_switch, Controller, Instance as An_instance}

-- at most so many instances, as the program's network has them
abbrev pub most_instances : ℕ
most_instances = 16

-- a switch counts what is under way, and sends a packet to the instance that its flow chooses
abbrev pub switch_step : Switch → Message → Switch × List (ℕ × Message)
switch_step switch (Carried packet) = (
  record switch { under_way = min (switch.under_way + 1) (2 ^ 64 - 1) },
  (min (packet.flow % (switch.last + 1) + FIRST) (2 ^ 8 - 1), Carried packet) ∷ [],
)
switch_step switch Credit = (record switch { under_way = switch.under_way - 1 }, [])

-- an instance works on a packet, gives its place in the window back, and notes its number
abbrev pub instance_step : Instance → Message → Instance × List (ℕ × Message) × List ℕ
instance_step instance (Carried packet) = (
  record instance { digest = (instance.digest + scrambled instance.rounds packet.flow) % 2 ^ 64 },
  (0, Credit) ∷ [],
  packet.number ∷ [],
)
instance_step instance Credit = (instance, [], [])

-- what a step does at each node
abbrev pub network_step : Node → ℕ → Message → Stepped Node Message ℕ
network_step (A_switch switch) port message = record {
  node = A_switch (switch_step switch message).0;
  sends = (switch_step switch message).1;
  notes = [];
}
network_step Controller port message = record { node = Controller; sends = []; notes = [] }
network_step (An_instance instance) port message = record {
  node = An_instance (instance_step instance message).0;
  sends = (instance_step instance message).1;
  notes = (instance_step instance message).2;
}

-- whether fewer packets than the window are under way
abbrev pub has_room : Node → Bool
has_room (A_switch switch) = nat_lt switch.under_way WINDOW
has_room Controller = true
has_room (An_instance instance) = true

-- whether no packet is under way
abbrev pub is_idle : Node → Bool
is_idle (A_switch switch) = switch.under_way == 0
is_idle Controller = true
is_idle (An_instance instance) = true

-- a switch for so many instances, a controller, and the first of the instances
abbrev pub network_nodes : ℕ → ℕ → ℕ → List Node
network_nodes instances rounds zero = A_switch (record { last = instances - 1; under_way = 0 }) ∷ Controller ∷ []
network_nodes instances rounds (suc k) =
    network_nodes instances rounds k ++ An_instance (record { rounds = rounds; digest = 0 }) ∷ []

-- packets with the numbers below this one, each of its own flow
abbrev pub packets_below : ℕ → List Message
packets_below zero = []
packets_below (suc k) =
    packets_below k ++ Carried (record { number = k; flow = scrambled 2 k; bytes = 0 }) ∷ []
