-- The scene is that of the world after the choices, in which all is as the lists say.
use Rattle.standby_failover.proofs.Words.{refl, ap, ◌∙◌, started_with, table_at, first_of, IsLeft, IsPromoted, Stopped, failover_in, setting_of}
use Rattle.standby_failover.specs.Causes.{world_after}
use Rattle.standby_failover.specs.Scenes.{AreAffected}
use Rattle.standby_failover.proofs.Known.{known}
use Rattle.standby_failover.proofs.LeftWorlds.{is_left}
use Rattle.standby_failover.proofs.promoting.promote_with.Given.{Over}
use Rattle.standby_failover.proofs.promoting.promote_with.Goals as goal
use Rattle.standby_failover.proofs.promoting.promote_with.Goals.{In_ok-promoted}

-- the world in which the instance fails
abbrev stopped : (g : Over) (c : In_ok-promoted g) → Stopped g.row.F.Denot g.row.F-Record.Denot
stopped g c = record {
  config = c.args.config.now;
  items = c.args.items.items;
  world = world_after g.F.Function.semantics (started_with c.args.alloc c.args.config.now c.args.items.items)
      (first_of c.args.choices.now c.args.failing.now.after);
  failed = c.args.failing.now.failed;
  to = c.args.failing.now.to;
}

left : (g : Over) (c : In_ok-promoted g) → IsLeft (failover_in g.F.Function.semantics (stopped g c))
left g c =
    is_left (setting_of {F = g.row.F.Denot} g.F.Function.semantics g.met.F.Function.laws c.args.alloc c.args.config.now c.args.items.items c.requires.input) _
    c.args.failing.now.failed
    c.args.failing.now.to
    c.in_ok-world.ensures.reached.is_run

pub returns-clause-left : goal.returns-clause-left
returns-clause-left g c = left g c

promoted : (g : Over) (c : In_ok-promoted g) → IsPromoted (failover_in g.F.Function.semantics (stopped g c)) c.in_ok-promoted.promoted
promoted g c =
    let f = g.F.Function.semantics in
    let v = stopped g c in
    let world = c.in_ok-world.ensures.world in
    let found : AreAffected (failover_in f v) c.in_ok-affected.affected = c.in_ok-affected.ensures v (record {
      site = refl;
      packets = c.items.ensures ∙ c.requires.trace;
      log = c.log_of.ensures ∙ ap (λ w. w.log) world;
      failed = c.table_of.ensures ∙ ap (λ w. table_at w c.args.failing.now.failed) world;
      to = c.table_of-2.ensures ∙ ap (λ w. table_at w c.args.failing.now.to) world;
      left = left g c;
      two = c.requires.two;
    }) in
    c.in_ok-promoted.ensures (failover_in f v) (c.in_ok-table.ensures ∙ ap (λ w. table_at w c.args.failing.now.to) world) (left g c) c.requires.two found

pub returns-clause-promoted : goal.returns-clause-promoted
returns-clause-promoted g c = promoted g c

pub returns-clause-known : goal.returns-clause-known
returns-clause-known g c = known (failover_in g.F.Function.semantics (stopped g c)) (left g c) _ (promoted g c)
