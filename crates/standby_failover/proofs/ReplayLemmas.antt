-- What the world tells that the first of some choices lead to, and whether so many there are.
use Rattle.standby_failover.proofs.Words.{◌≡◌, ℕ, ◌+◌, ◌<◌, ◌≤◌, length, subst, inr, arith, take_all, Semantics, Msg, Note, Network, Node, node_step}
use Rattle.standby_failover.proofs.Words.{node_ready, LeadsTo, FirstChoices, taken_among}
use Rattle.actor_net.specs.Network.{IsRun}
use Rattle.standby_failover.specs.Causes.{IsFailCause, IsReached}

-- the first choices lead from a start to a world
module _ {F R : Type 0} (f : Semantics R) (opening : Network (Node F R) Msg Note) (first : FirstChoices) (w : Network (Node F R) Msg Note)
    (leads : LeadsTo f opening (taken_among first) w) where
  pub is_reached : first.count ≤ length first.all → IsReached f opening first
  is_reached enough = record { enough = enough; is_run = leads.is_run }

  -- there are too few of them
  pub too_few : length first.all < first.count → (step : ℕ) → step ≡ length first.all + 1 → IsFailCause f opening first step
  too_few few step counted =
      let all = take_all first.count first.all (omega (arith, few)) in
      inr (record { is_run = subst (λ cs. IsRun node_ready (node_step f) cs opening) all leads.is_run; few = few; counted = counted })
