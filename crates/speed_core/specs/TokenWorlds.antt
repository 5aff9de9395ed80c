-- The worlds of nodes that pass tokens on: to which nodes each node sends. This is the project's own.
use Rattle.std.specs.Prelude.{◌==◌, ◌+◌, ◌-◌, ◌%◌, ℕ, zero, suc, if◌then◌else◌, List, [], ◌∷◌, ◌++◌}
use Rattle.speed_core.specs.declared.tokens.Shape.{Shape}
use Rattle.speed_core.specs.declared.tokens.Shape.TheVariants.{Ring, Hub}

-- at most so many nodes of a world: as many as the program's network has instances, and one more
abbrev pub most_nodes : ℕ
most_nodes = 17

-- the first node that the node of this number sends to, and how many there are from it on
abbrev pub reach_of : Shape → ℕ → ℕ → ℕ × ℕ
reach_of Ring nodes number = ((number + 1) % nodes, 1)
reach_of Hub nodes number = if number == 0 then (1, nodes - 1) else (0, 1)

-- the same of each node below k, in order
abbrev pub reaches_below : Shape → ℕ → ℕ → List (ℕ × ℕ)
reaches_below shape nodes zero = []
reaches_below shape nodes (suc k) = reaches_below shape nodes k ++ reach_of shape nodes k ∷ []
