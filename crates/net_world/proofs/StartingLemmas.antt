-- How many nodes a network has at the start.
use Rattle.std.proofs.Common.{◌≡◌, ℕ, zero, suc, ◌+◌, ◌<◌, List, [], ◌∷◌, length, length-append, add-one, refl, ap, ◌∙◌, arith}
use Rattle.std.specs.declared.alloc.Global.{Global}
use Rattle.net_world.specs.declared.config.Config.{Config}
use Rattle.net_world.specs.declared.node.Node.{Node}
use Rattle.net_world.specs.declared.node.Node.TheVariants.{Instance}
use Rattle.net_world.specs.Start.{IsConfig, first_instance, first_instances, first_nodes}

pub length-first_instances : (F R : Type 0) (alloc : Global) (c : Config) (i : ℕ) → length (first_instances {F = F} {R = R} alloc c i) ≡ i
length-first_instances F R alloc c zero = refl
length-first_instances F R alloc c (suc i) = length-append (first_instances {F = F} {R = R} alloc c i) (Instance (first_instance alloc c i) ∷ [])
    ∙ ap (λ n. n + 1) (length-first_instances F R alloc c i) ∙ add-one i

pub few_nodes : {F R : Type 0} (alloc : Global) (c : Config) (nodes : List (Node F R)) → IsConfig c → nodes ≡ first_nodes alloc c
    → (0 < length nodes) × (length nodes < 256)
few_nodes {F = F} {R = R} alloc c nodes is same = rw same ((omega arith), (omega (arith, length-first_instances F R alloc c (length c.names), is.few)))
