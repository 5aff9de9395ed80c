-- The function that the words name is the one that runs, by threads.
use Rattle.network_calls.proofs.Words.{◌≡◌, None, Result, sym, subst, Kind, NetworkAsked, network_view, OfKind, HasRun, IsRunOf, run_given, Scenario, Made}
use Rattle.network_calls.proofs.Words.{scenario_of, gives}
use Rattle.std.specs.Prelude.{IfOk}
use Rattle.network_calls.proofs.network.run_threaded.Goals as goal

-- what is said for the function of one kind is said for that of the same kind
of_kind : {E : Type 0} (s : NetworkAsked) (scenario : Scenario) (kind : Kind) (r : Result Made E) → s.kind ≡ kind
    → IfOk r (λ made. OfKind kind (λ R F f. IsRunOf (run_given F f s scenario) None (gives s made))) → IfOk r (λ made. HasRun s scenario None (gives s made))
of_kind s scenario kind r is =
    subst (λ (k : Kind). IfOk r (λ made. OfKind k (λ R F f. IsRunOf (run_given F f s scenario) None (gives s made)))) (sym is)

pub returns-in-Conntrack : goal.returns-in-Conntrack
returns-in-Conntrack g c =
    of_kind (network_view c.args.asked.now) (scenario_of c.args.asked.now.site c.args.inputs) _
    c.thread_network.result c.in-Conntrack.is c.thread_network.ensures

pub returns-in-Nat : goal.returns-in-Nat
returns-in-Nat g c =
    of_kind (network_view c.args.asked.now) (scenario_of c.args.asked.now.site c.args.inputs) _
    c.thread_network-in-Nat.result c.in-Nat.is c.thread_network-in-Nat.ensures

pub returns-in-Monitor : goal.returns-in-Monitor
returns-in-Monitor g c =
    of_kind (network_view c.args.asked.now) (scenario_of c.args.asked.now.site c.args.inputs) _
    c.thread_network-in-Monitor.result c.in-Monitor.is c.thread_network-in-Monitor.ensures
