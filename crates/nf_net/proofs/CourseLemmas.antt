-- What the replay of choices from a network's start comes to: a world that is handed back is that of a run, and a fault is the first
-- choice that isn't enabled in its turn.
use Rattle.std.proofs.Common.{◌≡◌, ◌≢◌, ℕ, ◌+◌, ◌<◌, Result, Ok, Err, List, length, sym, ap, ◌∙◌}
use Rattle.std.proofs.lemmas.Option.{slice_get_within}
use Rattle.nf_function.specs.Semantics.{Semantics}
use Rattle.nf_msgs.specs.declared.msg.Msg.{Msg}
use Rattle.nf_msgs.specs.declared.note.Note.{Note}
use Rattle.actor_net.specs.declared.choice.Choice.{Choice}
use Rattle.actor_net.specs.declared.replays.ReplayFault.{ReplayFault}
use Rattle.actor_net.specs.declared.replays.ReplayFault.TheVariants.{NotEnabled, NoMemory}
use Rattle.actor_net.specs.Network.{Network}
use Rattle.actor_net.specs.Replays.{replay_of, FirstFault}
use Rattle.actor_net.proofs.ReplayLaws.{replayed_ok, replayed_fault}
use Rattle.net_world.specs.declared.node.Node.{Node}
use Rattle.net_world.specs.Nodes.{node_step, node_ready}
use Rattle.net_world.specs.Runs.{LeadsTo}
use Rattle.nf_net.specs.Courses.{IsRefusedAt}

module _ {F R : Type 0} (f : Semantics R) (first start : Network (Node F R) Msg Note) (at_start : start ≡ first) (cs : List Choice)
    (result : Result (Network (Node F R) Msg Note) ReplayFault) (h : result ≢ Err NoMemory → result ≡ replay_of node_ready (node_step f) cs start) where
  replay : result ≢ Err NoMemory → replay_of node_ready (node_step f) cs first ≡ result
  replay enough = ap (replay_of node_ready (node_step f) cs) (sym at_start) ∙ sym (h enough)

  -- the choices lead to a world that is handed back
  pub leads_to : (w : Network (Node F R) Msg Note) → result ≡ Ok w → LeadsTo f first cs w
  leads_to w ok =
      let enough : result ≢ Err NoMemory = λ bad. (let never : Ok w ≡ Err NoMemory = sym ok ∙ bad in cc) in
      let both = replayed_ok node_ready (node_step f) cs first w (replay enough ∙ ok) in
      record { is_run = both.0; reached = both.1 }

  -- a fault is the first
  faulty : (index : ℕ) → result ≡ Err (NotEnabled index) → FirstFault node_ready (node_step f) (record { choices = cs; index = index }) first
  faulty index err =
      let enough : result ≢ Err NoMemory = λ bad. (let never : Err (NotEnabled index) ≡ Err NoMemory = sym err ∙ bad in cc) in
      replayed_fault node_ready (node_step f) cs first index (replay enough ∙ err)

  -- it stands among the choices
  pub index_below : (index : ℕ) → result ≡ Err (NotEnabled index) → index < length cs
  index_below index err = let fault = faulty index err in slice_get_within cs index fault.choice fault.there

  pub refused : (index : ℕ) → result ≡ Err (NotEnabled index) → (step : ℕ) → step ≡ index + 1 → IsRefusedAt f first cs step
  refused index err step counted = record { index = index; counted = counted; fault = faulty index err }
