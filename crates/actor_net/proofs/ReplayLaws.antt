-- What a replay gives means: a world is the end of a run, and a fault is the first choice that isn't enabled.
use Rattle.std.proofs.Common.{◌≡◌, ℕ, Bool, Option, None, Some, Ok, Err, List, refl, ap}
use Rattle.actor_net.specs.declared.choice.Choice.{Choice}
use Rattle.actor_net.specs.declared.replays.ReplayFault.TheVariants.{NotEnabled}
use Rattle.actor_net.specs.Network.{Network, Stepped, run, IsRun, fault_from}
use Rattle.actor_net.specs.Replays.{world_or_fault, replay_of, FirstFault}
use Rattle.actor_net.proofs.RunLaws.{run_without_fault, no_fault, first_fault}

module _ {A M N : Type 0} (ready : A → M → Bool) (step : A → ℕ → M → Stepped A M N) (cs : List Choice) (w : Network A M N) where
  -- a run is replayed to its end
  pub replayed_run : IsRun ready step cs w → replay_of ready step cs w ≡ Ok (run step cs w)
  replayed_run is = ap (λ o. world_or_fault o (run step cs w)) (no_fault ready step 0 cs w is)

  world_of_ok : (o : Option ℕ) (v u : Network A M N) → world_or_fault o v ≡ Ok u → (o ≡ None) × (u ≡ v)
  world_of_ok None v u is = (refl, cc)
  world_of_ok (Some i) v u is = cc

  fault_of_err : (o : Option ℕ) (v : Network A M N) (i : ℕ) → world_or_fault o v ≡ Err (NotEnabled i) → o ≡ Some i
  fault_of_err None v i is = cc
  fault_of_err (Some j) v i is = cc

  -- a world is the end of the run
  pub replayed_ok : (v : Network A M N) → replay_of ready step cs w ≡ Ok v → IsRun ready step cs w × (v ≡ run step cs w)
  replayed_ok v is =
      let both = world_of_ok (fault_from ready step 0 cs w) (run step cs w) v is in
      (run_without_fault ready step 0 cs w both.0, both.1)

  -- a fault is the first choice that isn't enabled
  pub replayed_fault : (index : ℕ) → replay_of ready step cs w ≡ Err (NotEnabled index) → FirstFault ready step (record { choices = cs; index = index }) w
  replayed_fault index is = first_fault ready step cs w index (fault_of_err (fault_from ready step 0 cs w) (run step cs w) index is)
