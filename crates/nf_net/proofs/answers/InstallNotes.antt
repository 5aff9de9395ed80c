-- What the other nodes' steps keep of the changes of the switch's rules: the switch notes each that it takes, and no other node sends or notes
-- any.
use Rattle.nf_net.proofs.Words.{◌≡◌, ◌≢◌, ℕ, ◌+◌, ◌≤◌, true, false, Option, List, [], refl, ap, arith, if◌then◌else◌, ◌||◌, ◌==◌, not, nat_lt, Filter, Packet}
use Rattle.nf_net.proofs.Words.{Semantics, one_more, Target, Msg, Note, SwitchState, switch_step, sends_to_instance, target_of, has_room, EachSent, weigh}
use Rattle.nf_net.proofs.Words.{sent_weight, times_installed, Each, Given, Label, is_target, IsQuiet, is_uninstalled, Mark}
use Rattle.std.proofs.Common.{◌-◌}
use Rattle.std.specs.Prelude.{count_by}
use Rattle.switch_node.specs.Switch as switch
use Rattle.switch_node.specs.Switch.{goes_to}
use Rattle.nf_net.proofs.answers.InstallCounts.{sent_of, install}
use Rattle.proof_outlines.proofs.joined.Joined.{count}
use Rattle.proof_outlines.proofs.joined.OwnerLemmas as owners
use Rattle.nf_net.proofs.WeightlessMessages.{weighs_nothing, sends_nothing}

-- Other nodes send neither a change of the rules nor the finish, and none is sent to another node than the switch.
module _ {R : Type 0} (f : Semantics R) (g : Given) (o : Option ℕ) where
  pub no_install_from : (k r : ℕ) (m : Msg) → k ≢ 1 → Label f g k r m → sent_of o m ≡ 0
  no_install_from k r (Msg.Install j filter from to) other label = absurd (other label.0.0)
  no_install_from k r Msg.Finish other label = absurd (other label.0)
  no_install_from k r m other label = refl

  pub no_install_to : (p k : ℕ) (m : Msg) → 1 ≤ k → Label f g p k m → sent_of o m ≡ 0
  no_install_to p k (Msg.Install j filter from to) some label = let none = label.0.1 in absurd (omega (arith, some, none))
  no_install_to p k Msg.Finish some label = let none = label.1 in absurd (omega (arith, some, none))
  no_install_to p k m some label = refl

  pub none_sent : (n k : ℕ) (sends : List (ℕ × Msg)) → k ≢ 1 → EachSent (Label f g) k sends → sent_weight (sent_of o) n k sends ≡ 0
  none_sent n k sends other = sends_nothing (Label f g) (sent_of o) k (λ r m. no_install_from k r m other) n sends

  -- an input has none
  pub items_none : (items : List Msg) → Each (Label f g 0 0) items → weigh (sent_of o) items ≡ 0
  items_none = weighs_nothing (Label f g 0 0) (sent_of o) (λ m. no_install_from 0 0 m (λ never. cc))

module _ {R : Type 0} (f : Semantics R) (g : Given) (op : ℕ) where
  -- The switch notes each change that it takes.
  abbrev Notes : ℕ → switch.Step → Type 0
  Notes one did = times_installed op did.notes ≡ one

  goes_notes : (s : SwitchState) (p : Packet) (t : Target) → Notes 0 (goes_to s p t)
  goes_notes s p Target.Controller = refl
  goes_notes s p (Target.Instance i) = elim (nat_lt i s.instances)
      as (λ b. Notes 0 (if b then switch.arrival_step s p (i + 2) (Msg.Carry Mark.Plain) else switch.still s)) [ true ↦ refl | false ↦ refl ]

  to_instance_notes : (s : SwitchState) (i : ℕ) (m : Msg) → Notes 0 (sends_to_instance s i m)
  to_instance_notes s i m =
      elim (nat_lt i s.instances) as (λ b. Notes 0 (if b then switch.sends_on s (i + 2) m else switch.still s)) [ true ↦ refl | false ↦ refl ]

  install_notes : (s : SwitchState) (j : ℕ) (filter : Filter) (from : ℕ) (to : Target) → s.instances ≡ count f g → nat_lt from (count f g) ≡ true
      → is_target (count f g) to ≡ true → Notes (install op (Msg.Install j filter from to)) (switch.on_install s j filter from to)
  install_notes s j filter from Target.Controller same here there = rw (same, here) (omega arith)
  install_notes s j filter from (Target.Instance i) same here there = rw (same, here, there) (omega arith)

  pub switch_notes : (s : SwitchState) (p : ℕ) (m : Msg) → s.instances ≡ count f g → Label f g p 0 m → Notes (install op m) (switch_step s m)
  switch_notes s p (Msg.InPacket q) same label = elim (has_room s) as (λ b. Notes 0 (if b then goes_to s q (target_of s q) else switch.still s))
      [ true ↦ goes_notes s q (target_of s q) | false ↦ refl ]
  switch_notes s p (Msg.Forward to k cell) same label = to_instance_notes s to (Msg.Carry k cell)
  switch_notes s p (Msg.Install j filter from to) same label = install_notes s j filter from to same label.1 label.2
  switch_notes s p (Msg.FenceTo j to) same label = to_instance_notes s to (Msg.Fence j)
  switch_notes s p (Msg.Credit cell) same label = elim ((s.flying == 0) || not (cell.pool == s.pool.name))
      as (λ b. Notes 0 (if b then switch.still s else record { node = record s { pool = one_more s.pool; flying = s.flying - 1 }; sends = []; notes = [] }))
      [ true ↦ refl | false ↦ refl ]
  switch_notes s p m same label = refl

-- Notes among which no change is.
pub none_installed : (op : ℕ) (ns : List Note) → Each (λ x. is_uninstalled x ≡ true) ns → times_installed op ns ≡ 0
none_installed op ns h = ap (count_by (λ k. k == op)) (owners.installed_none ns h)

pub quiet_installed : (op k : ℕ) (ns : List Note) → Each (IsQuiet k) ns → times_installed op ns ≡ 0
quiet_installed op k ns h = ap (count_by (λ k. k == op)) (owners.installed_quiet k ns h)
