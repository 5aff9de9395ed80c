-- The records are stepped on the packets of the one list and then of the other, and so each affected unit has caught up.
use Rattle.standby_failover.proofs.Words.{rules, ◌≡◌, ◌++◌, ℕ, List, map, ap, subst, ◌∙◌, All, IsSome, Packet, Records, job_of, failover_of, after_packets}
use Rattle.standby_failover.proofs.Words.{packet_among}
use Rattle.std.proofs.Common.{◌==◌, find}
use Rattle.standby_failover.proofs.CaughtUp.{caught_after}
use Rattle.standby_failover.proofs.catching_up.catch_up.Given.{Over}
use Rattle.standby_failover.proofs.catching_up.catch_up.Goals as goal
use Rattle.standby_failover.proofs.catching_up.catch_up.Goals.{In_ok-step_both}

pub step_both-requires-clause-known : goal.step_both-requires-clause-known
step_both-requires-clause-known g c =
    let trace : c.args.trace.now ≡ c.items.result.now = search rules in
    let order : c.args.promoted.order ≡ c.items-2.result.now = search rules in
    let pending : c.args.promoted.pending ≡ c.items-3.result.now = search rules in
    subst (λ (ps : List Packet). All (λ n. IsSome (find (λ p. p.number == n) ps)) (c.items-2.result.now ++ c.items-3.result.now)) trace
    (subst (λ ns. All (λ n. IsSome (find (λ p. p.number == n) c.args.trace.now)) (ns ++ c.items-3.result.now)) order
    (subst (λ ns. All (λ n. IsSome (find (λ p. p.number == n) c.args.trace.now)) (c.args.promoted.order ++ ns)) pending c.requires.known))

live : (g : Over) (c : In_ok-step_both g) → c.step_both.new.table.live
    ≡ after_packets g.F.Function.semantics c.args.config.now.site c.args.promoted.table.live
    (map (packet_among c.args.trace.now) (c.args.promoted.order ++ c.args.promoted.pending))
live g c =
    let after : List Packet → List ℕ → Records g.row.F-Record.Denot = λ ps ns.
    after_packets g.F.Function.semantics c.args.config.now.site c.args.promoted.table.live (map (packet_among ps) ns) in
    c.in_ok-step_both.ensures.live ∙ ap (λ ps. after ps (c.items-2.result.now ++ c.items-3.result.now)) c.items.ensures
    ∙ ap (λ ns. after c.args.trace.now (ns ++ c.items-3.result.now)) c.items-2.ensures
    ∙ ap (λ ns. after c.args.trace.now (c.args.promoted.order ++ ns)) c.items-3.ensures

pub returns-clause-live : goal.returns-clause-live
returns-clause-live g c = live g (goal.at.returns-clause-live g c).In_ok-step_both

pub returns-clause-caught : goal.returns-clause-caught
returns-clause-caught g c = λ items world failed to left p same.
    let b = (goal.at.returns-clause-caught g c).In_ok-step_both in
    caught_after (failover_of (job_of g.F.Function.semantics c.args.config.now items) world failed to) left c.args.promoted p c.step_both.new.table
    c.args.trace.now same (live g b) c.in_ok-step_both.ensures.standby
