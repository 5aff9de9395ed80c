-- A completed run of strong sharing: the scene that its world shows, and what it keeps.
use Rattle.run_headline.proofs.Words.{◌≡◌, ℕ, true, List, sym, subst, Laws, Semantics, Msg, Network, Each, StrongNote, StrongNode, StrongCompleted}
use Rattle.run_headline.proofs.Words.{StrongPromises, StrongJob, entries, IsRight, IsStrongRun}
use Rattle.actor_net.specs.Network.{is_done}
use Rattle.strong_share.specs.Tables.{node_ended}
use Rattle.strong_share.proofs.Runs.{run_completed, run_promises}
use Rattle.strong_share.proofs.Starts.{Reached, run_reached}

module _ {R : Type 0} (F : Type 0) (f : Semantics R) (laws : Laws f) (names : List (List ℕ)) (job : StrongJob) (w : Network (StrongNode F R) Msg StrongNote)
    (is : IsStrongRun F f names job w) where
  pub reached : Reached F f laws is.alloc job is.is_job w
  reached = subst (λ v. Reached F f laws is.alloc job is.is_job v) (sym is.leads.reached)
      (run_reached F f laws is.alloc job is.is_job is.choices is.leads.is_run)

  pub promises : StrongPromises f job w
  promises = subst (λ v. StrongPromises f job v) (sym is.leads.reached) (run_promises F f laws is.alloc job is.is_job is.choices is.leads.is_run)

  pub completed : StrongCompleted f job w
  completed = subst (λ v. is_done node_ended v ≡ true → StrongCompleted f job v) (sym is.leads.reached)
      (run_completed F f laws is.alloc job is.is_job is.choices is.leads.is_run) is.complete

  -- a packet that was queued was raised by its member
  pub right : Each (IsRight job) (entries w.log)
  right = subst (λ l. Each (IsRight job) (entries l)) (sym reached.shows.log) reached.holds.ordered.right
