-- The numbers of the nodes: the switch is node 0, the controller node 1, and the instances come after it. This project's own.
use Rattle.std.specs.Prelude.{ℕ, ◌+◌}

-- the switch
abbrev pub switch_node : ℕ
switch_node = 0

-- the controller
abbrev pub controller_node : ℕ
controller_node = 1

-- an instance, by its number from 0
abbrev pub instance_node : ℕ → ℕ
instance_node i = i + 2
