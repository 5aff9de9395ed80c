-- The run of threads is that of the words, the script and the capture.
use Rattle.network_calls.proofs.Words.{None, refl, network_view, gives, scenario_of, report_text, IsRunOf, run_given, made_with}
use Rattle.network_calls.proofs.RunLemmas.{made_holds, run_of}
use Rattle.network_calls.proofs.network.thread_network.Goals as goal

pub returns : goal.returns
returns g c =
    let opening = c.in_ok-config.field-0 in
    let is = c.in_ok-config.ensures in
    let f = g.F.Function.semantics in
    let s = network_view c.args.asked.now in
    let scenario = scenario_of c.args.asked.now.site c.args.inputs in
    let text = report_text f opening.head s.summary c.in_ok-world.world in
    made_holds (λ made. IsRunOf (run_given g.row.F.Denot f s scenario) None (gives s made)) (made_with c.in_ok-world.choices text) c.report_run.result
    (run_of g.row.F.Denot f s scenario c.args.alloc opening.config opening.items.items opening.head is.config is.items
    (g.met.F.Function g.world.𝓛 g.world.𝓜 g.world.𝓡 ((λ s x. x), (λ x. x), (λ x. x), λ x. x)).laws None
    (made_with c.in_ok-world.choices text) c.in_ok-world.world
    (record {
      leads = c.in_ok-world.ensures.leads;
      complete = c.in_ok-world.ensures.complete;
      promises = c.in_ok-world.ensures.promises;
      verdicts = c.in_ok-world.ensures.verdicts;
      standbys = c.in_ok-world.ensures.standbys;
      completed = c.in_ok-world.ensures.completed;
      home = c.in_ok-world.ensures.home;
      few = c.in_ok-world.ensures.few is.short;
      input = is.is_input;
      kind = c.requires.kind;
    }) (λ schedule same. cc) is.head refl) c.report_run.ensures
