-- The node that is taken out is the instance at its place, and its records are what is handed back.
use Rattle.std.proofs.Common.{rules, ◌≡◌, true, sym, ap, subst, ◌∙◌}
use Rattle.std.specs.Prelude.{slice_get}
use Rattle.nf_msgs.specs.Nodes.{instance_node}
use Rattle.net_world.specs.Tables.{is_instance, table_in}
use Rattle.net_world.proofs.NodeTables.{found_at, within}
use Rattle.net_world.proofs.ending.into_table.Given.{Over}
use Rattle.net_world.proofs.ending.into_table.Goals as goal
use Rattle.net_world.proofs.ending.into_table.Goals.{After-from}

-- the nodes are those of the world
nodes_are : (g : Over) (c : After-from g) → c.into_vec-nodes.result.items ≡ c.args.world.nodes
nodes_are g c = c.into_vec-nodes.ensures ∙ ap (λ w. w.nodes) c.in_ok-parts.ensures.parts

there : (g : Over) (c : After-from g) → is_instance (slice_get c.into_vec-nodes.result.items c.from.result) ≡ true
there g c =
    let place : instance_node c.args.instance ≡ c.from.result = search rules in
    subst (λ i. is_instance (slice_get c.into_vec-nodes.result.items i) ≡ true) place
    (ap (λ ns. is_instance (slice_get ns (instance_node c.args.instance))) (nodes_are g c) ∙ c.requires.there)

pub swap_remove-node-requires : goal.swap_remove-node-requires
swap_remove-node-requires g c = let below = within c.into_vec-nodes.result.items c.from.result (there g c) in search (rules, below)

pub table_in-requires : goal.table_in-requires
table_in-requires g c =
    let b = (goal.at.table_in-requires g c).After-from in
    ap is_instance (sym (found_at b.into_vec-nodes.result.items b.from.result (there g b) c.swap_remove-node.result c.swap_remove-node.ensures.value))
    ∙ there g b

pub returns : goal.returns
returns g c =
    let b = (goal.at.returns g c).After-from in
    let node = found_at b.into_vec-nodes.result.items b.from.result (there g b) c.swap_remove-node.result c.swap_remove-node.ensures.value in
    let place : b.from.result ≡ instance_node c.args.instance = search rules in
    c.table_in.ensures ∙ ap table_in (sym node) ∙ ap (λ ns. table_in (slice_get ns b.from.result)) (nodes_are g b)
    ∙ ap (λ i. table_in (slice_get c.args.world.nodes i)) place
