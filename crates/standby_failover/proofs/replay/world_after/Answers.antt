-- A world that is handed back is the one after the first choices; a fault is the first, or they are too few.
use Rattle.standby_failover.proofs.Words.{◌≡◌, true, subst, sym, arith, slice_get, Msg, Note, instance_node, Network, Node, LeadsTo, started_with, is_instance}
use Rattle.standby_failover.proofs.Words.{FirstChoices, first_of, taken_among, setting_of}
use Rattle.std.proofs.Common.{inl}
use Rattle.standby_failover.proofs.InstancesThere.{are_there}
use Rattle.standby_failover.proofs.ReplayLemmas.{is_reached, too_few}
use Rattle.standby_failover.proofs.replay.world_after.Given.{Over}
use Rattle.standby_failover.proofs.replay.world_after.Goals as goal
use Rattle.standby_failover.proofs.replay.world_after.Goals.{In_ok-world}

abbrev opening : (g : Over) (c : In_ok-world g) → Network (Node g.row.F.Denot g.row.F-Record.Denot) Msg Note
opening g c = started_with c.args.alloc c.args.config.now c.args.items.items

abbrev first : (g : Over) (c : In_ok-world g) → FirstChoices
first g c = first_of c.args.choices.now c.args.after

-- the first choices are a run, and lead to the world that was handed back
led : (g : Over) (c : In_ok-world g) → LeadsTo g.F.Function.semantics (opening g c) (taken_among (first g c)) c.in_ok-world.world
led g c = subst (λ cs. LeadsTo g.F.Function.semantics (opening g c) cs c.in_ok-world.world) c.truncate.ensures c.in_ok-world.ensures.leads

pub returns-clause-reached : goal.returns-clause-reached
returns-clause-reached g c =
    let b = (goal.at.returns-clause-reached g c).In_ok-world in
    is_reached g.F.Function.semantics (opening g b) (first g b) b.in_ok-world.world (led g b)
    (omega (arith, c.len-count.ensures.value, c.if-after-count.false))

pub returns-clause-world : goal.returns-clause-world
returns-clause-world g c = (led g (goal.at.returns-clause-world g c).In_ok-world).reached

pub returns-clause-instances : goal.returns-clause-instances
returns-clause-instances g c = λ i within.
    let b = (goal.at.returns-clause-instances g c).In_ok-world in
    subst (λ w. is_instance (slice_get w.nodes (instance_node i)) ≡ true) (sym (led g b).reached)
    (are_there
    (setting_of {F = g.row.F.Denot} g.F.Function.semantics g.met.F.Function.laws c.args.alloc c.args.config.now c.args.items.items c.requires)
    (taken_among (first g b)) (led g b).is_run i within)

pub returns-then-after-count-clause-not_a_run : goal.returns-then-after-count-clause-not_a_run
returns-then-after-count-clause-not_a_run g c = λ step is.
    let b = (goal.at.returns-then-after-count-clause-not_a_run g c).In_ok-world in
    too_few g.F.Function.semantics (opening g b) (first g b) b.in_ok-world.world (led g b)
    (omega (arith, c.len-count.ensures.value, c.if-after-count.true)) step (cc)
