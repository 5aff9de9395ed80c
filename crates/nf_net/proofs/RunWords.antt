-- The names that most proofs of what runs promise cite, passed on from one place. Declares nothing.
pub use Rattle.nf_net.proofs.RunKeeps.{RunStep, after_world, count, log_keeps, run_keeps}
pub use Rattle.nf_net.proofs.answers.BusyLemmas.{AreOther, answered_same, began_same, first_is, is_noted, none_answered, or_off, other_not_answered}
pub use Rattle.nf_net.proofs.answers.BusyLemmas.{other_not_begun, unanswered}
pub use Rattle.nf_net.proofs.answers.BusyRuns.{Busy, busy_next, keeps_is, open_began, own_controller, plan_is, told_is}
pub use Rattle.nf_net.proofs.answers.CommandPromises.{run_answers, run_busy}
pub use Rattle.nf_net.proofs.NumberedUnits.{RanThere, ran_there, units_fit}
pub use Rattle.nf_net.proofs.answers.InstallRuns.{Installs, run_installs}
pub use Rattle.nf_net.proofs.answers.EndTables.{IsSettled, flag, flag_full, flag_most}
pub use Rattle.nf_net.proofs.paths.SharedOwners.{HomesOwn, members_few}
pub use Rattle.nf_net.proofs.answers.ArrivalLemmas.{arrivals_run, next_in_run, runs_joined}
pub use Rattle.nf_net.proofs.paths.RecordPromises.{instance_of, one_place, record_is}
pub use Rattle.nf_net.proofs.FoldLemmas.{fold_is}
pub use Rattle.nf_net.proofs.WeightlessMessages.{each_item, each_sent, sends_nothing, weighs_nothing}
pub use Rattle.nf_net.proofs.MoveJudged.{Knows, Said}
pub use Rattle.nf_net.proofs.paths.Reached.{AsMoves, HoldsAt, HomesTold, IsApart, IsUnder, Reached, reached}
pub use Rattle.nf_net.proofs.paths.PathSums.{but_none, each_link, each_place, no_link, one_at, one_link, those-all, those-but}
pub use Rattle.nf_net.proofs.paths.PathSeats.{Are_there, HasSides, Rests, Seated, found_instance, labels, link_shown, on_each, seated, sides, there}
pub use Rattle.nf_net.proofs.answers.MovesUnderWay.{AreUnderWay, moves_under_way}
pub use Rattle.nf_net.proofs.answers.MoveOnce.{once}
pub use Rattle.nf_net.proofs.answers.InstallSteps.{is_moving}
pub use Rattle.nf_net.proofs.answers.AnswerSends.{answering}
pub use Rattle.net_world.proofs.SentMessages.{sent_weight-append}
pub use Rattle.nf_net.proofs.answers.CreditCounts.{credit}
pub use Rattle.nf_net.proofs.answers.ShareTells.{ShareStep, handed_share, is_set_up, queued_share}
pub use Rattle.nf_net.proofs.answers.InstallCounts.{passed}
pub use Rattle.nf_net.proofs.answers.BusyNodes.{instance_says, switch_hands}
pub use Rattle.nf_net.proofs.answers.ControllerActs.{SaysSo, SaysSo.Answers, SaysSo.Begins, SaysSo.Neither, controller_acts, other_there}
