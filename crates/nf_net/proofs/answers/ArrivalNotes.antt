-- Only the switch notes that packets arrived: one note for each packet of the input that it takes.
use Rattle.nf_net.proofs.Words.{◌≡◌, ℕ, Bool, true, false, None, [], refl, step_fits, Semantics, Msg, Note, SwitchState, switch_step, ControllerState}
use Rattle.nf_net.proofs.Words.{controller_step, InstanceState, instance_step, arrivals_in, none_picked, IsQuiet, is_uninstalled, instance_quiet}
use Rattle.nf_net.proofs.Words.{controller_uninstalled}
use Rattle.net_world.specs.Log.{arrival_in}
use Rattle.proof_outlines.proofs.joined.InstanceNotes.{quiet_arrival}

-- a packet of the input
abbrev pub is_packet : Msg → Bool
is_packet (Msg.InPacket q) = true
is_packet m = false

-- The switch, at any other message.
pub switch_notes_none : (s : SwitchState) (m : Msg) → is_packet m ≡ false → arrivals_in (switch_step s m).notes ≡ []
switch_notes_none s m = step_fits s (λ k did. is_packet k ≡ false → arrivals_in did.notes ≡ []) (record {
  still = λ k e. refl;
  to_controller = λ p e. cc;
  to_instance = λ p i e. cc;
  command = λ c e. refl;
  ended = λ e. refl;
  forward = λ to k cell e. refl;
  install = λ op filter from to e. refl;
  fence = λ op to e. refl;
  answered = λ op e. refl;
  finish = λ e. refl;
  credit = λ cell e. refl;
}) m

-- The controller.
no_arrival : (n : Note) → is_uninstalled n ≡ true → arrival_in n ≡ None
no_arrival (Note.Arrived number) h = cc
no_arrival n h = refl

pub controller_notes_none : (s : ControllerState) (p : ℕ) (m : Msg) → arrivals_in (controller_step s p m).notes ≡ []
controller_notes_none s p m = none_picked arrival_in (λ n. is_uninstalled n ≡ true) no_arrival _ (controller_uninstalled s p m)

-- An instance.
pub instance_notes_none : {F R : Type 0} (f : Semantics R) (i : InstanceState F R) (m : Msg) → arrivals_in (instance_step f i m).notes ≡ []
instance_notes_none f i m = none_picked arrival_in (IsQuiet i.index) (quiet_arrival i.index) _ (instance_quiet f i m)
