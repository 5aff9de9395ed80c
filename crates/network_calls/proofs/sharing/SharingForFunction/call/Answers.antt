-- The sharing of a schedule is that of the words and the capture. The schedule comes to its end.
use Rattle.network_calls.proofs.Words.{◌≡◌, arith, refl, rules, subst, sym, Kind, strong_view, reports, made_with, IsSharingOf, sharing_for}
use Rattle.network_calls.proofs.Words.{sharing_scene}
use Rattle.strong_share.specs.Promises.{StrongCompleted, StrongEnds, StrongPromises}
use Rattle.strong_share.specs.Report.{strong_text}
use Rattle.strong_share.specs.Runs.{LeadsTo, choices_of}
use Rattle.strong_share.specs.Start.{IsStrongJob, StrongJob, strong_start}
use Rattle.run_headline.specs.StrongLaw.{IsStrongRun}
use Rattle.run_headline.proofs.others.StrongTexts.{strong_law}
use Rattle.network_calls.proofs.CapturedJobs.{same_sharing}
use Rattle.network_calls.proofs.RunLemmas.{made_holds}
use Rattle.network_calls.proofs.sharing.SharingForFunction.call.Goals as goal

pub simulate_strong-ended-requires : goal.simulate_strong-ended-requires
simulate_strong-ended-requires g c =
    let s = strong_view c.args.self.asked.now in
    let scene = sharing_scene c.args.self.asked.now c.args.self.trace in
    subst (λ (j : StrongJob). IsStrongJob g.F.Function.semantics.kind j)
    (sym (same_sharing s scene c.member_count-members.result c.member_count-members.ensures))
    (subst (λ (k : Kind). IsStrongJob k (sharing_for s scene)) (sym c.requires.0) c.requires.1.job)

pub unreachable-requires : goal.unreachable-requires
unreachable-requires g c = omega (arith, c.simulate_strong-ended.ensures.unfinished c.in-Err-Unfinished._step (search rules), c.requires.1.few)

pub returns : goal.returns
returns g c =
    let f = g.F.Function.semantics in
    let alloc = c.args.self.alloc in
    let s = strong_view c.args.self.asked.now in
    let scene = sharing_scene c.args.self.asked.now c.args.self.trace in
    let job = sharing_for s scene in
    let same = same_sharing s scene c.member_count-members.result c.member_count-members.ensures in
    let leads : LeadsTo f (strong_start alloc job) c.in-Ok.ended.1 c.in-Ok.ended.0 =
    subst (λ (j : StrongJob). LeadsTo f (strong_start alloc j) c.in-Ok.ended.1 c.in-Ok.ended.0) same c.in-Ok.ensures.leads in
    let is : IsStrongRun g.row.F.Denot f s.names job c.in-Ok.ended.0 = record {
      is_job = subst (λ (k : Kind). IsStrongJob k job) (sym c.requires.0) c.requires.1.job;
      members = refl;
      alloc = alloc;
      choices = c.in-Ok.ended.1;
      leads = leads;
      complete = c.in-Ok.ensures.complete;
    } in
    let text = strong_text f c.in_ok-head.head c.in-Ok.ended.0 in
    let of : IsSharingOf g.row.F.Denot f s scene c.args.self.schedule (reports (made_with c.in-Ok.ended.1 text)) = record {
      alloc = alloc;
      world = c.in-Ok.ended.0;
      scheduled = subst (λ (j : StrongJob). c.in-Ok.ended.1 ≡ choices_of {F = g.row.F.Denot} f (strong_start alloc j) c.args.self.schedule) same
          c.in-Ok.ensures.choices;
      leads = leads;
      complete = c.in-Ok.ensures.complete;
      promises = subst (λ (j : StrongJob). StrongPromises f j c.in-Ok.ended.0) same c.in-Ok.ensures.promises;
      completed = subst (λ (j : StrongJob). StrongCompleted f j c.in-Ok.ended.0) same c.in-Ok.ensures.completed;
      ends = subst (λ (j : StrongJob). StrongEnds j c.in-Ok.ended.1 c.in-Ok.ended.0) same c.in-Ok.ensures.ends;
      head = c.in_ok-head.head;
      is_head = c.in_ok-head.ensures;
      report = refl;
      headline = strong_law g.row.F.Denot f g.met.F.Function.laws s.names job c.in-Ok.ended.0 is c.in_ok-head.head c.in_ok-head.ensures.names;
    } in
    made_holds (λ made. IsSharingOf g.row.F.Denot f s scene c.args.self.schedule (reports made)) (made_with c.in-Ok.ended.1 text) c.report_sharing.result of
    c.report_sharing.ensures
