-- The choices of the workers lead from the start to a world in which nothing is left to do.
use Rattle.network_calls.proofs.Words.{subst, setting_of, short_runs, LeadsTo}
use Rattle.run_headline.specs.nf_net.proofs.EveryRun.{keeps_all}
use Rattle.run_headline.specs.nf_net.proofs.JudgedRuns.{verdicts}
use Rattle.run_headline.specs.nf_net.proofs.StandbyRuns.{standbys}
use Rattle.network_calls.proofs.threads.run_network.Goals as goal

pub returns : goal.returns
returns g c =
    let f = g.F.Function.semantics in
    -- the function may be sent, so its laws hold in every thread, and in this one
    let laws = (g.met.F.Function g.world.𝓛 g.world.𝓜 g.world.𝓡 ((λ s x. x), (λ x. x), (λ x. x), λ x. x)).laws in
    let leads = subst (λ v. LeadsTo {F = g.row.F.Denot} f v c.in_ok-world.choices c.in_ok-world.world) c.in_ok-opening.ensures
    c.in_ok-world.ensures.leads in
    let setting = setting_of {F = g.row.F.Denot} f laws c.args.alloc c.args.config.now c.args.items.items c.requires in
    let all = keeps_all setting c.in_ok-world.choices c.in_ok-world.world leads c.in_ok-world.ensures.complete in
    record {
      leads = leads;
      complete = c.in_ok-world.ensures.complete;
      promises = all.promises;
      verdicts = verdicts setting c.in_ok-world.choices leads.is_run;
      standbys = standbys setting c.in_ok-world.choices leads.is_run;
      completed = all.completed;
      home = all.home;
      few = λ short. short_runs setting short c.in_ok-world.choices leads.is_run;
    }
