-- All links can be closed after the workers ran; any merge of what they did is then a run, and the stage left is where it leads.
use Rattle.std.proofs.Common.{sym, ◌∙◌, ap, subst, length, ◌<◌}
use Rattle.std.proofs.lemmas.List.{length-map}
use Rattle.actor_net.specs.Histories.{notes_of_choices}
use Rattle.actor_net.specs.Merging.{IsMerge}
use Rattle.actor_threads.specs.Work.{WorkerView}
use Rattle.actor_threads.specs.LinkTable.{row_at}
use Rattle.actor_threads.specs.Round.{after_log}
use Rattle.actor_threads.proofs.RoundWithoutChoice.{history_of}
use Rattle.actor_threads.proofs.RoundLemmas.{seen, members_count, can_close_members, is_run, is_replay, none_enabled, releft, reclose}
use Rattle.actor_threads.proofs.round.round_of.Goals as goal

pub run_all-requires-clause-some : goal.run_all-requires-clause-some
run_all-requires-clause-some g c _ _ =
    let begin = c.in_ok-members.ensures in
    subst (λ n. 0 < n) (sym (members_count c.args.stage c.in_ok-members.members.items begin.members)) begin.world.some_node

pub run_all-requires-clause-begin : goal.run_all-requires-clause-begin
run_all-requires-clause-begin g c _ _ = c.in_ok-members.ensures.begin

pub close_round-requires : goal.close_round-requires
close_round-requires g c =
    let before = c.in_ok-members.members.items in
    let after = c.in_ok-after.after.items in
    let begin = c.in_ok-members.ensures in
    let nodes = seen (λ (x : WorkerView _ _ _). x.node) after _ c.in_ok-round_parts.ensures.nodes in
    let many = ap length nodes ∙ length-map _ _ ∙ length-map _ _ ∙ c.in_ok-after.ensures.count ∙ members_count c.args.stage before begin.members in
    record {
      some = (subst (λ n. 0 < n) (sym many) begin.world.some_node, subst (λ n. n < 256) (sym many) begin.world.few_nodes);
      close = reclose (sym many) (sym (seen (λ (x : WorkerView _ _ _). x.ins) after _ c.in_ok-round_parts.ensures.ins))
          (sym (seen (λ (x : WorkerView _ _ _). x.outs) after _ c.in_ok-round_parts.ensures.outs))
          (can_close_members g.A.Actor.is_ready g.A.Actor.stepped c.args.stage begin.world before after begin.members c.in_ok-after.ensures.round
          c.in_ok-round_parts.ensures.done c.in_ok-after.ensures.count);
    }

pub returns : goal.returns
returns g c =
    let ready = g.A.Actor.is_ready in
    let step = g.A.Actor.stepped in
    let w = c.args.stage in
    let before = c.in_ok-members.members.items in
    let after = c.in_ok-after.after.items in
    let begin = c.in_ok-members.ensures in
    let parts = c.in_ok-round_parts.ensures in
    let same = c.in_ok-after.ensures.count in
    let round = c.in_ok-round.round in
    let left = releft (seen (λ (x : WorkerView _ _ _). x.node) after _ parts.nodes) (seen (λ (x : WorkerView _ _ _). x.ins) after _ parts.ins)
    (seen (λ (x : WorkerView _ _ _). x.outs) after _ parts.outs) c.in_ok-round.ensures.stage in
    let histories = ap (λ l. l.items) c.in_ok-round.ensures.histories ∙ seen history_of after _ parts.histories in
    let notes = ap (λ l. l.items) c.in_ok-round.ensures.notes ∙ seen (λ (x : WorkerView _ _ _). x.notes) after _ parts.notes in
    record {
      is_run = λ cs m. is_run ready step w begin.world before after begin.members c.in_ok-after.ensures.round parts.done same round.stage left cs
          (subst (λ l. IsMerge l cs) histories m);
      leads = λ cs m. is_replay ready step w begin.world before after begin.members c.in_ok-after.ensures.round parts.done same round.stage left cs
          (subst (λ l. IsMerge l cs) histories m) begin.log
          ∙ ap (λ l. after_log (notes_of_choices (λ j. row_at l j) cs) round.stage) (sym notes);
      quiet = λ cs m. none_enabled ready step w begin.world before after begin.members c.in_ok-after.ensures.round parts.done same round.stage left cs
          (subst (λ l. IsMerge l cs) histories m);
    }
