-- A world of a run in which no choice is enabled is complete, where the input has an end: each phase that waits has a message on a link, and what the switch
-- waits for is under way.
use Rattle.nf_net.proofs.Words.{◌≡◌, inl, inr, ℕ, ◌+◌, ◌≤◌, true, false, List, [], length, refl, sym, ◌∙◌, arith, ◌&&◌, ◌==◌, Decides-eqb, Decides-ltb, Msg}
use Rattle.nf_net.proofs.Words.{Note, MOST_WAITING, SwitchState, takes_in, Choice, MOST_CHOICES, Network, IsWorld, is_done, queue_at, StopsShort, at, Node}
use Rattle.nf_net.proofs.Words.{Switch, node_ready, node_ended, Joined, given, IsShort, run_beside, Setting, IsCourse, world_of}
use Rattle.actor_net.specs.Schedules.{enabled_choices}
use Rattle.actor_net.proofs.DisabledChoices.{stuck_links}
use Rattle.nf_net.proofs.RunWords.{runs_joined, run_busy, after_world}
use Rattle.nf_net.proofs.answers.ToldCommands.{run_told}
use Rattle.nf_net.proofs.SettleKeeps.{run_settles}
use Rattle.nf_net.proofs.WindowRuns.{in_window}
use Rattle.net_world.specs.Length.{ends}
use Rattle.nf_net.proofs.length.ShortRuns.{short_runs}
use Rattle.net_world.proofs.SilentLinks.{all_done, empty_input}
use Rattle.nf_net.proofs.ends.TokenRuns.{run_enough}
use Rattle.nf_net.proofs.ends.EndingRuns.{run_ending}
use Rattle.nf_net.proofs.ends.AllEnded.{nodes_ended}
use Rattle.nf_net.proofs.ends.GroundedWorlds.{grounded}
use Rattle.nf_net.proofs.ends.WaitingWorlds.{none_waits}

-- a switch for which nothing is under way and no command waits takes whatever is next
takes_all : (s : SwitchState) (m : Msg) → s.flying ≡ 0 → 1 ≤ s.pool.cells → s.waiting ≡ 0 → takes_in s m ≡ true
takes_all s (Msg.InPacket p) flying cells waits = (Decides-ltb s.flying s.pool.cells).1 (omega (arith, flying, cells))
takes_all s (Msg.InCommand k) flying cells waits = (Decides-ltb s.waiting MOST_WAITING).1 (omega (arith, waits))
takes_all s Msg.InSettle flying cells waits = (Decides-eqb s.waiting 0).1 waits
takes_all s m flying cells waits = refl

module _ {F R : Type 0} (setting : Setting F R) (some_end : 1 ≤ ends setting.items) where
  open setting use {function as f, config as c, is_input as is}

  module _ (cs : List Choice) (run_is : IsCourse setting cs) (none : enabled_choices node_ready (world_of setting cs) ≡ []) where
    abbrev w : Network (Node F R) Msg Note
    w = world_of setting cs

    reached : IsWorld w × (length w.nodes ≡ (length c.names + 2))
    reached = after_world setting cs run_is

    silent : (s r : ℕ) → (r == 0) && (s == 0) ≡ false → queue_at w (at r s) ≡ []
    silent = stuck_links node_ready w reached.0 none

    joined : Joined f (given setting) (length c.names + 2) w
    joined = (run_beside setting cs run_is).joined

    rests : (joined.nodes.switch.flying ≡ 0) × (joined.nodes.switch.pool.cells ≡ c.window)
    rests = grounded setting (length c.names + 2) refl w reached.1 joined (runs_joined setting cs run_is).in_turn silent reached.0 (in_window setting cs run_is)

    nothing_waits : joined.nodes.switch.waiting ≡ 0
    nothing_waits = none_waits setting (length c.names + 2) refl w reached.0 reached.1 joined (run_busy setting cs run_is).1
        (run_enough setting cs run_is) (run_settles setting cs run_is).counted (run_told setting cs run_is) silent

    -- so nothing is in the input
    input_empty : w.input ≡ []
    input_empty =
        empty_input node_ready w reached.0 none (Switch joined.nodes.switch) (joined.nodes_are 0 (omega arith) (Switch joined.nodes.switch))
        (λ m. takes_all joined.nodes.switch m rests.0 (omega (arith, rests.1, is.is_config.window.0)) nothing_waits)

    pub no_stuck_world : is_done node_ended w ≡ true
    no_stuck_world = all_done w reached.0 silent node_ended input_empty (nodes_ended f (given setting) (length c.names + 2) refl w reached.0 reached.1 joined
        (run_enough setting cs run_is) silent (run_ending setting some_end cs run_is) input_empty rests.0)

  -- a schedule that stops short took all choices that it may take
  pub short_is_long : (cs : List Choice) → IsCourse setting cs → (count : ℕ)
      → StopsShort node_ready node_ended (world_of setting cs) count → count ≡ MOST_CHOICES
  short_is_long cs run_is count short = elim short.stuck as (λ _. count ≡ MOST_CHOICES) [
    | inl none ↦ (let never : false ≡ true = sym short.incomplete ∙ no_stuck_world cs run_is none in cc)
    | inr most ↦ most
  ]

-- and of a short input none stops short
module _ {F R : Type 0} (setting : Setting F R) where
  open setting use {items}

  pub never_short : IsShort items → (cs : List Choice) → IsCourse setting cs → StopsShort node_ready node_ended (world_of setting cs) (length cs) → ⊥
  never_short short cs run_is stops =
      let all = short_is_long setting (omega (arith, (Decides-eqb (ends items) 1).0 short.ended)) cs run_is (length cs) stops in
      omega (arith, all, short_runs setting short cs run_is)
