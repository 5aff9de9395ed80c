-- What a step of the switch in a run does to its rules: nothing, or it takes a change that a move or a share has sent, which it notes.
use Rattle.nf_net.proofs.Words.{◌≡◌, ℕ, true, false, Some, List, [], ◌∷◌, refl, sym, ap, ◌∙◌, subst, ◌&&◌, ◌==◌, nat_lt, Filter, Semantics, Msg, Note}
use Rattle.nf_net.proofs.Words.{instance_node, Target, SwitchState, switch_step, on_install, Any, New, ShareMsg, installs_in, is_whole, Given, Scene, AreShown}
use Rattle.nf_net.proofs.Words.{IsTaken, Label, shown, is_target, MoveMsg}
use Rattle.proof_machines.proofs.unit.Real as real
use Rattle.proof_machines.proofs.net.Net as net
use Rattle.proof_machines.proofs.net.Shares.{Old}
use Rattle.proof_outlines.proofs.joined.Given.{IsInstall, IsDivert}
use Rattle.proof_outlines.proofs.joined.Joined.{count}
use Rattle.proof_outlines.proofs.joined.RuleChanges.{Changes, Same, Installs, changes}

installed_note : (s : SwitchState) (count k : ℕ) (filter : Filter) (from : ℕ) (to : Target) → s.instances ≡ count → nat_lt from count ≡ true
    → is_target count to ≡ true → (on_install s k filter from to).notes ≡ Note.Installed k ∷ []
installed_note s count k filter from Target.Controller same here there = rw (same, here) refl
installed_note s count k filter from (Target.Instance i) same here there = rw (same, here, there) refl

module _ {F R : Type 0} (f : Semantics R) (g : Given) (n : ℕ) (x : Scene F f g) (are : AreShown f g n x) (p : ℕ) (m : Msg)
    (it : IsTaken f g n x (record { node = 0; port = p; message = m })) where
  abbrev pub notes : List Note
  notes = (switch_step x.nodes.switch m).notes

  pub data Changed : Type 0 where
    No_rule : installs_in notes ≡ [] → Changed
    Moves_on : (k : ℕ) (filter : Filter) (from dst : ℕ) (rest : List (Any R)) → notes ≡ Note.Installed k ∷ []
        → IsInstall g k (record { filter = filter; from = from; to = Target.Instance dst }) → is_whole f.kind filter ≡ true
        → x.world.link 1 0 ≡ Old (net.Of_move filter (MoveMsg.Install k (instance_node from) (instance_node dst))) ∷ rest → Changed
    Diverts : (k : ℕ) (filter : Filter) (from : ℕ) (rest : List (Any R)) → notes ≡ Note.Installed k ∷ [] → IsDivert g k filter from
        → is_whole f.kind filter ≡ true → x.world.link 1 0 ≡ New (ShareMsg.Install k filter (instance_node from)) ∷ rest → Changed

  module _ (k : ℕ) (filter : Filter) (from : ℕ) (to : Target) (e : m ≡ Msg.Install k filter from to) where
    label : Label f g p 0 (Msg.Install k filter from to)
    label = subst (λ y. Label f g p 0 y) e it.label

    noted : notes ≡ Note.Installed k ∷ []
    noted = ap (λ y. (switch_step x.nodes.switch y).notes) e ∙ installed_note x.nodes.switch (count f g) k filter from to are.switch.instances label.1 label.2

    head : (a : Any R) → shown f g m ≡ Some a → x.world.link 1 0 ≡ a ∷ it.rest
    head a is =
        let one = label.0.0 in
        let off : (p == 0) && (0 == 0) ≡ false = rw one refl in
        ap (λ q. x.world.link q 0) (sym one) ∙ it.head off a is

  by_target : (k : ℕ) (filter : Filter) (from : ℕ) (to : Target) → m ≡ Msg.Install k filter from to → Changed
  by_target k filter from Target.Controller e = Diverts k filter from it.rest (noted k filter from Target.Controller e)
      (label k filter from Target.Controller e).4 (label k filter from Target.Controller e).3
      (head k filter from Target.Controller e (New (ShareMsg.Install k filter (instance_node from))) (ap (shown f g) e))
  by_target k filter from (Target.Instance dst) e = Moves_on k filter from dst it.rest (noted k filter from (Target.Instance dst) e)
      (label k filter from (Target.Instance dst) e).4 (label k filter from (Target.Instance dst) e).3
      (head k filter from (Target.Instance dst) e (Old (net.Of_move filter (MoveMsg.Install k (instance_node from) (instance_node dst)))) (ap (shown f g) e))

  by_changes : Changes x.nodes.switch m → Changed
  by_changes (Same none) = No_rule none
  by_changes (Installs k filter from to e) = by_target k filter from to e

  pub changed : Changed
  changed = by_changes (changes x.nodes.switch m)
