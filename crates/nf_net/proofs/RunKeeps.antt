-- What holds of a network at the start, and goes on with each step of a run, holds of every run.
use Rattle.nf_net.proofs.Words.{◌≡◌, ℕ, ◌+◌, ◌&&◌, ◌==◌, true, List, [], ◌∷◌, ◌++◌, length, refl, sym, subst, Msg, Note, Choice, Network, IsWorld, run_world}
use Rattle.nf_net.proofs.Words.{world_next, queue_at, at, less_first, Taking, Takes, taken_outcome, EachSent, run_induction, Node, node_step, node_ready, Given}
use Rattle.nf_net.proofs.Words.{Label, start_world, given, count_at_start, Runs, run_beside, all_fit, node_of, IsTaken, scene, Wants, node_leads, its_takes}
use Rattle.nf_net.proofs.Words.{its_taken, its_labels, its_input, ready_at, Setting, start, IsCourse, world_of}
use Rattle.actor_net.specs.Network.{is_input}

module _ {F R : Type 0} (setting : Setting F R) where
  open setting use {function as f, laws, config as c}

  abbrev pub count : ℕ
  count = length c.names + 2

  abbrev g : Given
  g = given setting

  -- a step of a run: what a choice takes in one of its worlds, and what is sent and left
  pub record RunStep (w : Network (Node F R) Msg Note) (d : Choice) : Type 0 where
    pub runs : Runs setting w
    pub taking : Taking node_ready (node_step f) count w d
    pub takes : Takes (node_step f) count w d.node d.port (node_of runs.joined.nodes d.node) taking.message taking.rest
    pub taken : IsTaken f g count (scene f g count refl (Wants f g) (node_leads f laws g (all_fit setting) count) w runs.joined)
        (record { node = d.node; port = d.port; message = taking.message })
    pub ready : is_input d ≡ true → node_ready (node_of runs.joined.nodes d.node) taking.message ≡ true
    pub labels : EachSent (Label f g) d.node (node_step f (node_of runs.joined.nodes d.node) d.port taking.message).sends
    pub log : (world_next (node_step f) w d).log ≡ w.log ++ (node_step f (node_of runs.joined.nodes d.node) d.port taking.message).notes
    pub input : queue_at (world_next (node_step f) w d) (at 0 0) ≡ less_first ((0 == d.node) && (0 == d.port)) (queue_at w (at 0 0))

  -- each world of a run is one, with all nodes
  pub after_world : (cs : List Choice) → IsCourse setting cs → IsWorld (world_of setting cs) × (length (world_of setting cs).nodes ≡ count)
  after_world = run_world node_ready (node_step f) count (start setting) (start_world setting) (count_at_start setting)

  step_of : (ds : List Choice) → IsCourse setting ds → (d : Choice) → Taking node_ready (node_step f) count (world_of setting ds) d
      → RunStep (world_of setting ds) d
  step_of ds ok d t =
      let r = run_beside setting ds ok in
      let fits = all_fit setting in
      let takes = its_takes f laws g fits count refl (world_of setting ds) d t r.joined r.beside in
      record {
        runs = r;
        taking = t;
        takes = takes;
        taken = its_taken f laws g fits count refl (world_of setting ds) d t r.joined r.beside;
        ready = ready_at f g count refl (Wants f g) (node_leads f laws g fits count) (world_of setting ds) d t r.joined;
        labels = its_labels f laws g fits count refl (world_of setting ds) d t r.joined r.beside;
        log = (taken_outcome (node_step f) count (world_of setting ds) d.node d.port (node_of r.joined.nodes d.node) t.message t.rest takes).log;
        input = its_input f laws g fits count refl (world_of setting ds) d t r.joined r.beside;
      }

  -- what each step keeps of the choices so far and of the world
  pub run_keeps : (P : List Choice → Network (Node F R) Msg Note → Type 0) → P [] (start setting)
      → ((ds : List Choice) → IsCourse setting ds → (d : Choice) → RunStep (world_of setting ds) d → P ds (world_of setting ds)
      → P (ds ++ d ∷ []) (world_next (node_step f) (world_of setting ds) d)) → (cs : List Choice) → IsCourse setting cs → P cs (world_of setting cs)
  run_keeps P first next = run_induction node_ready (node_step f) count P (start setting)
      (λ ds w d it h. subst (λ v. Taking node_ready (node_step f) count v d → P ds v → P (ds ++ d ∷ []) (world_next (node_step f) v d)) (sym it.reached)
      (λ t k. next ds it.is_run d (step_of ds it.is_run d t) k) it.taking h) (start_world setting) (count_at_start setting) first

  -- and what the notes of each step keep of the log
  pub log_keeps : (P : List Note → Type 0) → P []
      → ((ds : List Choice) → IsCourse setting ds → (d : Choice) → (s : RunStep (world_of setting ds) d) → P (world_of setting ds).log
      → P ((world_of setting ds).log ++ (node_step f (node_of s.runs.joined.nodes d.node) d.port s.taking.message).notes))
      → (cs : List Choice) → IsCourse setting cs → P (world_of setting cs).log
  log_keeps P first next = run_keeps (λ _ w. P w.log) first (λ ds ok d s h. subst P (sym s.log) (next ds ok d s h))
