-- What is left is that of the words, the script and the capture, where the network before its start is theirs.
use Rattle.network_calls.proofs.Words.{◌≡◌, ◌++◌, ◌==◌, Err, List, ap, sym, subst, ◌∙◌, All, find, Packet, AreNumbered, FailAsked, NetworkAsked, packets}
use Rattle.network_calls.proofs.Words.{started_with, first_of, world_after, made_with}
use Rattle.std.specs.Prelude.{IsSome}
use Rattle.network_calls.proofs.FailLemmas.{failover_is, failover_refused}
use Rattle.network_calls.proofs.failing.fail_opened.Given.{Over}
use Rattle.network_calls.proofs.failing.fail_opened.Goals as goal
use Rattle.network_calls.proofs.failing.fail_opened.Goals.{In_ok-trace}

-- the packets of the input are copied
trace_is : (g : Over) (c : In_ok-trace g) → c.in_ok-trace.trace ≡ packets c.args.items.items
trace_is g c = c.in_ok-trace.ensures ∙ ap packets c.as_slice.ensures.value

pub promote_with-requires-clause-trace : goal.promote_with-requires-clause-trace
promote_with-requires-clause-trace g c = trace_is g (goal.at.promote_with-requires-clause-trace g c).In_ok-trace

pub promote_with-requires-clause-numbered : goal.promote_with-requires-clause-numbered
promote_with-requires-clause-numbered g c =
    let b = (goal.at.promote_with-requires-clause-numbered g c).In_ok-trace in
    subst (AreNumbered 1) (sym (trace_is g b)) c.requires.numbered

pub report_failover-made-requires-clause-numbered : goal.report_failover-made-requires-clause-numbered
report_failover-made-requires-clause-numbered g c =
    let b = (goal.at.report_failover-made-requires-clause-numbered g c).In_ok-trace in
    subst (AreNumbered 1) (sym (trace_is g b)) c.requires.numbered

pub report_failover-made-requires-clause-known : goal.report_failover-made-requires-clause-known
report_failover-made-requires-clause-known g c =
    let b = (goal.at.report_failover-made-requires-clause-known g c).In_ok-trace in
    let p = c.in-Ok.promoted in
    subst (λ (ps : List Packet). All (λ n. IsSome (find (λ p. p.number == n) ps)) (p.order ++ p.pending)) (sym (trace_is g b)) c.in-Ok.ensures.known

-- what the words say of the failure
abbrev asked_with : (g : Over) (c : In_ok-trace g) → NetworkAsked → FailAsked
asked_with g c s = let failing = c.args.failing.now in record { network = s; failed = failing.failed; to = failing.to; after = failing.after }

pub returns-in-Err : goal.returns-in-Err
returns-in-Err g c = λ s scenario is.
    let b = (goal.at.returns-in-Err g c).In_ok-trace in
    failover_refused g.row.F.Denot g.F.Function.semantics (asked_with g b s) scenario c.args.alloc c.args.config.now c.args.items.items is.config is.items
    c.args.choices.now c.in-Err.fault (λ step same. c.in-Err.ensures.not_a_run step (ap Err same))

pub returns : goal.returns
returns g c = λ s scenario is.
    let f = g.F.Function.semantics in
    let config = c.args.config.now in
    let items = c.args.items.items in
    let b = (goal.at.returns g c).In_ok-trace in
    let left = c.in-Ok.ensures in
    let report = c.in_ok-report.ensures in
    let failing = c.args.failing.now in
    let told = c.args.choices.now in
    let world = world_after f (started_with {F = g.row.F.Denot} c.args.alloc config items) (first_of told failing.after) in
    failover_is g.row.F.Denot f (asked_with g b s) scenario c.args.alloc config items is.config is.items told c.args.head.now is.head
    c.in-Ok.promoted c.in_ok-report.table
    (record {
      reached = left.reached;
      left = left.left;
      is_promoted = left.promoted;
      has_caught_up = report.caught items world failing.failed failing.to left.left left.promoted (sym (trace_is g b));
    })
    (made_with c.promote_with.new.choices c.in_ok-report.report) left.choices report.text
