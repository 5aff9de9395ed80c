-- A step of the switch notes a change of its rules only where it takes one.
use Rattle.proof_outlines.proofs.Words.{◌≡◌, ℕ, Bool, true, false, [], refl, Filter, Msg, Target, SwitchState, switch_step, installs_in}
use Rattle.proof_outlines.proofs.outline.SwitchWays.{step_fits}

pub data Changes (s : SwitchState) (m : Msg) : Type 0 where
  Same : installs_in (switch_step s m).notes ≡ [] → Changes s m
  Installs : (op : ℕ) (filter : Filter) (from : ℕ) (to : Target) → m ≡ Msg.Install op filter from to → Changes s m

abbrev is_install : Msg → Bool
is_install (Msg.Install op filter from to) = true
is_install m = false

unchanged : (s : SwitchState) (m : Msg) → is_install m ≡ false → installs_in (switch_step s m).notes ≡ []
unchanged s = step_fits s (λ m did. is_install m ≡ false → installs_in did.notes ≡ []) (record {
  still = λ m e. refl;
  to_controller = λ p e. refl;
  to_instance = λ p i e. refl;
  command = λ c e. refl;
  ended = λ e. refl;
  forward = λ to m cell e. refl;
  install = λ op filter from to e. cc;
  fence = λ op to e. refl;
  answered = λ op e. refl;
  finish = λ e. refl;
  credit = λ cell e. refl;
})

pub changes : (s : SwitchState) (m : Msg) → Changes s m
changes s (Msg.Install op filter from to) = Installs op filter from to refl
changes s m = Same (unchanged s m refl)
