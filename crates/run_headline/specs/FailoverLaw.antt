-- The law of a failover's headline: what is printed of each has its lines. This project's own.
use Rattle.std.specs.Prelude.{◌≡◌}
use Rattle.record_table.specs.Table.{TableView}
use Rattle.report_lines.specs.declared.heads.Head.{Head}
use Rattle.standby_failover.specs.declared.promoted.Failing.{Failing}
use Rattle.standby_failover.specs.declared.promoted.Promoted.{Promoted}
use Rattle.standby_failover.specs.Failover.{Failover, HasCaughtUp, IsLeft, IsPromoted}
use Rattle.standby_failover.specs.Lines.{failover_text}
use Rattle.run_headline.specs.Law.{subject}
use Rattle.run_headline.specs.Failover.{HasFailHeadline}

module _ {F R : Type 0} (x : Failover F R) where
  -- what is left in a world of a run: what is promoted there, and the records once they have caught up
  pub record IsFailed (promoted : Promoted F R) (caught : TableView R) : Type 0 where
    pub left : IsLeft x
    pub is_promoted : IsPromoted x promoted
    pub has_caught_up : HasCaughtUp x caught

abbrev pub FailoverLaw : (F R : Type 0) → Type 0
FailoverLaw F R = (x : Failover F R) (promoted : Promoted F R) (caught : TableView R) → IsFailed x promoted caught → (head : Head) (failing : Failing)
    → head.names ≡ x.job.config.names
    → HasFailHeadline (subject x.job.function x.job.config x.job.items) head failing (failover_text x.job.function head failing promoted caught)
