-- The update of a schedule is that of the words and the capture. The schedule comes to its end.
use Rattle.network_calls.proofs.Words.{refl, sym, subst, Kind, published_view, MOST_CHOICES, scheduled_is_run}
use Rattle.network_calls.proofs.Words.{IsUpdateJob, reports, made_with, IsUpdateOf, scene_of, update_for}
use Rattle.two_phase.specs.Report.{two_text}
use Rattle.actor_net.specs.Network.{IsRun}
use Rattle.two_phase.specs.Start.{two_start}
use Rattle.two_phase.specs.Tables.{node_ended, node_ready, node_step}
use Rattle.run_headline.specs.PublishedLaw.{IsTwoRun}
use Rattle.run_headline.proofs.others.TwoHeadlines.{published_law}
use Rattle.network_calls.specs.UpdateRuns.{update_head}
use Rattle.network_calls.proofs.RunLemmas.{made_holds}
use Rattle.network_calls.proofs.update.UpdatingForFunction.call.Goals as goal

pub simulate_two-ended-requires : goal.simulate_two-ended-requires
simulate_two-ended-requires g c =
    subst (λ (k : Kind). IsUpdateJob k (update_for (published_view c.args.self.asked.now) (scene_of c.args.self.asked.now c.args.self.trace)))
    (sym c.requires.0) c.requires.1

pub returns : goal.returns
returns g c =
    let f = g.F.Function.semantics in
    let p = published_view c.args.self.asked.now in
    let trace = c.args.self.trace in
    let job = update_for p (scene_of c.args.self.asked.now trace) in
    let text = two_text f (update_head p trace) c.in-Ok.ended.0 in
    let is : IsTwoRun g.row.F.Denot f job c.in-Ok.ended.0 = record {
      is_job = subst (λ (k : Kind). IsUpdateJob k job) (sym c.requires.0) c.requires.1;
      alloc = c.args.self.alloc;
      choices = c.in-Ok.ended.1;
      is_run = subst (λ cs. IsRun node_ready (node_step f) cs (two_start {F = g.row.F.Denot} c.args.self.alloc job)) (sym c.in-Ok.ensures.choices)
          (scheduled_is_run node_ready node_ended (node_step f) MOST_CHOICES c.args.self.schedule (two_start c.args.self.alloc job));
      reached = c.in-Ok.ensures.world;
      complete = c.in-Ok.ensures.complete;
    } in
    let of : IsUpdateOf g.row.F.Denot f p (scene_of c.args.self.asked.now trace) c.args.self.schedule (reports (made_with c.in-Ok.ended.1 text)) = record {
      alloc = c.args.self.alloc;
      world = c.in-Ok.ended.0;
      scheduled = c.in-Ok.ensures.choices;
      reached = c.in-Ok.ensures.world;
      complete = c.in-Ok.ensures.complete;
      published = c.in-Ok.ensures.published;
      report = refl;
      headline = published_law g.row.F.Denot f g.met.F.Function.laws job c.in-Ok.ended.0 is (update_head p trace);
    } in
    made_holds (λ made. IsUpdateOf g.row.F.Denot f p (scene_of c.args.self.asked.now trace) c.args.self.schedule (reports made))
    (made_with c.in-Ok.ended.1 text) c.report_update.result of (rw c.items.ensures at c.report_update.ensures)
