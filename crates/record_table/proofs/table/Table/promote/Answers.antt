-- The copies are as valid as the records that stand by, and each takes the place of what is live.
use Rattle.std.proofs.Common.{◌≡◌, refl, ap, ◌∙◌, append-nil}
use Rattle.record_table.specs.declared.record_map.Keep.TheVariants.{Coming}
use Rattle.record_table.specs.Table.{replaced_by}
use Rattle.record_table.proofs.RecordLookUps.{sound_joined, sound_retain_keys}
use Rattle.record_table.proofs.CopiedRecords.{those, each_promoted}
use Rattle.record_table.proofs.Lifetimes.{of_none, of_map}
use Rattle.record_table.proofs.table.Table.promote.Given.{Over}
use Rattle.record_table.proofs.table.Table.promote.Goals as goal
use Rattle.record_table.proofs.table.Table.promote.Goals.{In_ok-join}

live_is : (g : Over) (c : In_ok-join g) → c.join.new.self ≡ replaced_by c.self.inside.live (those c.args.units.now c.self.inside.standby)
live_is g c =
    c.in_ok-join.ensures.ok
    ∙ ap (replaced_by c.self.inside.live) (c.into_entries.ensures.map ∙ c.in_ok-copies.ensures ∙ ap (λ us. those us c.self.inside.standby) c.items.ensures)

pub returns-clause-table : goal.returns-clause-table
returns-clause-table g c = rw (← c.self.view_is, live_is g c) refl

pub returns-clause-each : goal.returns-clause-each
returns-clause-each g c =
    each_promoted c.args.self.now (record { live = c.join.new.self; standby = c.self.inside.standby }) c.args.units.now (returns-clause-table g c)

pub invariant_of-self-2 : goal.invariant_of-self-2
invariant_of-self-2 g c =
    let f = g.F.Function.semantics in
    let standby = those c.args.units.now c.self.inside.standby in (
      rw (live_is g c) (sound_joined f Coming c.self.inside.live standby c.self.invariant.0
          (sound_retain_keys f c.self.inside.standby _ c.self.invariant.1)),
      c.self.invariant.1,
    )

pub branch-copies-requires : goal.branch-copies-requires
branch-copies-requires g c κs = λ h. (simp append-nil (of_map κs.0 g.row.F-Record.lives h), of_none κs.1.0)

pub invariant_of-self : goal.invariant_of-self
invariant_of-self g c = (rw c.in_err-join.ensures.err c.self.invariant.0, c.self.invariant.1)
