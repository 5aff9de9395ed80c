-- What the switch sends as it takes a message weighs less than the message.
use Rattle.nf_net.proofs.Words.{ℕ, ◌+◌, ◌≤◌, arith, step_fits, Msg, SwitchState, switch_step}
use Rattle.switch_node.specs.Switch.{Step, still}
use Rattle.nf_net.proofs.length.SentWeights.{stops_weigh}
use Rattle.nf_net.proofs.length.Weights.{weight, some, cost}

module _ (o : ℕ) (s : SwitchState) (few : s.instances ≤ 1 + o) where
  abbrev pub Falls : Msg → Step → Type 0
  Falls m step = cost o step.sends + 1 ≤ weight o m

  still_falls : (m : Msg) → Falls m (still s)
  still_falls m = let one = some o m in omega (arith, one)

  -- each step of the switch
  pub switch_falls : (m : Msg) → Falls m (switch_step s m)
  switch_falls = step_fits s Falls (record {
    still = still_falls;
    to_controller = λ p. omega arith;
    to_instance = λ p i. omega arith;
    command = λ c. omega arith;
    ended = omega arith;
    forward = λ to m cell. omega arith;
    install = λ op filter from to. omega arith;
    fence = λ op to. omega arith;
    answered = λ op. omega arith;
    finish = omega (arith, stops_weigh (weight o) s.instances, few);
    credit = λ cell. omega arith;
  })
