-- What it means that a choice isn't enabled: nothing waits there, or it is the input and node 0 isn't ready for its first
-- message; and what a world is like in which none is.
use Rattle.std.proofs.Common.{◌≡◌, ℕ, ◌<◌, ◌⊎◌, Bool, true, false, Option, None, Some, List, [], ◌∷◌, length, refl, sym, ◌∙◌, arith, inl, inr}
use Rattle.std.specs.Prelude.{◌==◌, ◌&&◌, if◌then◌else◌, nat_lt, slice_get}
use Rattle.std.proofs.lemmas.Option.{slice_get-get_or}
use Rattle.actor_net.specs.declared.choice.Choice.{Choice}
use Rattle.actor_net.specs.Network.{Network, IsWorld, is_input, queue_at, takes_first, is_enabled}
use Rattle.actor_net.specs.Schedules.{enabled_choices}
use Rattle.actor_net.proofs.EnabledChoices.{at}
use Rattle.actor_net.proofs.ScheduleLaws.{none_enabled}
use Rattle.actor_net.proofs.StepOutcome.{both_below}
use Rattle.actor_net.proofs.WaitingMessages.{waiting_is, waiting_outside}

module _ {A M N : Type 0} (ready : A → M → Bool) (w : Network A M N) where
  -- the choice takes from the input, and node 0 isn't ready for its first message
  pub record IsUnready (c : Choice) : Type 0 where
    pub input : is_input c ≡ true
    pub node : A
    pub message : M
    pub rest : List M
    pub node_is : slice_get w.nodes c.node ≡ Some node
    pub waits : queue_at w c ≡ message ∷ rest
    pub refused : ready node message ≡ false

  -- a choice of a node that is there isn't enabled: nothing waits, or the input isn't ready
  pub disabled : (c : Choice) → c.node < length w.nodes → is_enabled ready w c ≡ false → (queue_at w c ≡ []) ⊎ IsUnready c
  disabled c small off = by (slice_get w.nodes c.node) (queue_at w c) refl refl off
    where
      there : slice_get w.nodes c.node ≡ None → ⊥
      there none = past w.nodes c.node small none
        where
          past : (xs : List A) (i : ℕ) → i < length xs → slice_get xs i ≡ None → ⊥
          past [] i less _ = omega arith
          past (x ∷ xs) i less never = let some = slice_get-get_or (x ∷ xs) i x less in cc

      by : (o : Option A) (ms : List M) → slice_get w.nodes c.node ≡ o → queue_at w c ≡ ms → takes_first ready c o ms ≡ false
          → (queue_at w c ≡ []) ⊎ IsUnready c
      by None ms node_is waits off = absurd (there node_is)
      by (Some node) [] node_is waits off = inl waits
      by (Some node) (m ∷ rest) node_is waits off =
          elim (is_input c) as (λ b. is_input c ≡ b → (if b then ready node m else true) ≡ false → (queue_at w c ≡ []) ⊎ IsUnready c) [
            | true ↦ λ input refused. inr (record { input = input; node = node; message = m; rest = rest; node_is = node_is; waits = waits; refused = refused })
            | false ↦ λ _ never. cc
          ] refl off

  -- so nothing waits on a link whose choice isn't enabled
  pub disabled_link : (c : Choice) → c.node < length w.nodes → is_input c ≡ false → is_enabled ready w c ≡ false → queue_at w c ≡ []
  disabled_link c small link off =
      elim (disabled c small off) [
        | inl none ↦ none
        | inr unready ↦ (let input = unready.input in let both : false ≡ true = sym link ∙ input in cc)
      ]

  -- where no choice is enabled, nothing waits between any two nodes
  pub stuck_links : IsWorld w → enabled_choices ready w ≡ [] → (s r : ℕ) → (r == 0) && (s == 0) ≡ false → queue_at w (at r s) ≡ []
  stuck_links world none s r link =
      elim (nat_lt s (length w.nodes) && nat_lt r (length w.nodes))
      as (λ b. nat_lt s (length w.nodes) && nat_lt r (length w.nodes) ≡ b → queue_at w (at r s) ≡ []) [
        | true ↦ λ on. disabled_link (at r s) (both_below s r (length w.nodes) on).1 link (none_enabled ready w (at r s) world.some_node none)
        | false ↦ λ off. waiting_outside w s r world.some_node off
      ] refl

  -- and the input is empty, or isn't ready
  pub stuck_input : IsWorld w → enabled_choices ready w ≡ [] → (w.input ≡ []) ⊎ IsUnready (at 0 0)
  stuck_input world none =
      elim (disabled (at 0 0) world.some_node (none_enabled ready w (at 0 0) world.some_node none)) [
        | inl empty ↦ inl (sym (waiting_is w 0 0 world.some_node world.some_node) ∙ empty)
        | inr unready ↦ inr unready
      ]
