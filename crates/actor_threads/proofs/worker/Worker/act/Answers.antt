-- A look that found a message and the step with it are one step of the worker.
use Rattle.actor_threads.proofs.worker.Worker.act.Goals as goal

pub returns-in_ok-step-in-Some-clause-stepped : goal.returns-in_ok-step-in-Some-clause-stepped
returns-in_ok-step-in-Some-clause-stepped g c =
    λ _. record { found = c.look.new.self; port = _; took = _; looks = c.in-Some.ensures.found; acts = c.in_ok-step-in-Some.ensures }
