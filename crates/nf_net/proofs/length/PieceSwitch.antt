-- What the switch sends and notes as it takes a message weighs no more than the message: a command goes on, and a packet of the input arrives once.
use Rattle.nf_net.proofs.Words.{ℕ, ◌+◌, ◌≤◌, arith, step_fits, Msg, SwitchState, switch_step}
use Rattle.switch_node.specs.Switch.{Step}
use Rattle.net_world.specs.Length.{one_piece}
use Rattle.nf_net.proofs.length.SentWeights.{stops_weigh}
use Rattle.nf_net.proofs.length.Chances.{chance, uses}

module _ (a k : ℕ) (s : SwitchState) where
  abbrev pub UsesNoMore : Msg → Step → Type 0
  UsesNoMore m step = uses a k step ≤ chance a k m

  -- each step of the switch
  pub switch_uses : (m : Msg) → UsesNoMore m (switch_step s m)
  switch_uses = step_fits s UsesNoMore (record {
    still = λ m. omega arith;
    to_controller = λ p. omega arith;
    to_instance = λ p i. omega arith;
    command = λ c. omega arith;
    ended = omega arith;
    forward = λ to m cell. omega arith;
    install = λ op filter from to. omega arith;
    fence = λ op to. omega arith;
    answered = λ op. omega arith;
    finish = omega (arith, stops_weigh (λ m. one_piece m + chance a k m) s.instances);
    credit = λ cell. omega arith;
  })
