-- The table is that of the instance that takes over, with the records that stand by there of the affected units.
use Rattle.std.proofs.Common.{ap, ◌∙◌}
use Rattle.standby_failover.proofs.PromotedTables.{promoted_is}
use Rattle.standby_failover.proofs.promoting.promoted_from.Goals as goal

pub returns : goal.returns
returns g c = λ x table left two found.
    record {
      live = λ u. c.in_ok-promote.ensures.each u ∙ promoted_is x left two c.args.affected.units found.units u c.args.table table;
      standby = c.promote.ensures.standby ∙ ap (λ t. t.standby) table;
      lost = found.lost;
      pending = found.pending;
      order = found.order;
      units = found.units;
    }
