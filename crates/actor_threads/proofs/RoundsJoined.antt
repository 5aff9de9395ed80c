-- Rounds joined to a run: a run doesn't rest on the log before it, and one more round goes on where those that are merged end.
use Rattle.std.proofs.Common.{◌≡◌, ℕ, ◌+◌, ◌*◌, Bool, true, false, if◌then◌else◌, Option, Some, None, List, [], ◌∷◌, ◌++◌}
use Rattle.std.proofs.Common.{length, drop, sym, ◌∙◌, ap, refl, subst, append_assoc}
use Rattle.std.specs.Prelude.{slice_get, slice_set}
use Rattle.actor_net.specs.declared.choice.Choice.{Choice}
use Rattle.actor_net.specs.Network.{Network, Stepped, is_input, queue_at, without_first, after, world_after_step, world_next, run, IsRun}
use Rattle.actor_net.specs.Merging.{IsMerge}
use Rattle.actor_net.proofs.RunLaws.{run-append, runs_join}
use Rattle.actor_threads.specs.declared.merged.Merged.{Merged}
use Rattle.actor_threads.specs.declared.round.Round.{Round}
use Rattle.actor_threads.specs.Round.{after_log, notes_in, MergesMore, IsRound}

module _ {A M N : Type 0} (ready : A → M → Bool) (step : A → ℕ → M → Stepped A M N) where
  without_after : (log : List N) (w : Network A M N) (c : Choice) → without_first (after_log log w) c ≡ after_log log (without_first w c)
  without_after log w c =
      let links = slice_set w.links (c.port * length w.nodes + c.node) (drop 1 (queue_at w c)) in
      elim (is_input c)
      as (λ b. (if b then record { nodes = w.nodes; links = w.links; input = drop 1 w.input; log = log ++ w.log }
      else record { nodes = w.nodes; links = links; input = w.input; log = log ++ w.log })
      ≡ after_log log (if b then record { nodes = w.nodes; links = w.links; input = drop 1 w.input; log = w.log }
      else record { nodes = w.nodes; links = links; input = w.input; log = w.log })) [ true ↦ refl | false ↦ refl ]

  step_after : (log : List N) (w : Network A M N) (c : Choice) (node : Option A) (waits : List M)
      → world_after_step step (after_log log w) c node waits ≡ after_log log (world_after_step step w c node waits)
  step_after log w c None waits = refl
  step_after log w c (Some node) [] = refl
  step_after log w c (Some node) (m ∷ ms) =
      ap (λ v. after v c.node (step node c.port m)) (without_after log w c)
      ∙ ap (λ l. record (after (without_first w c) c.node (step node c.port m)) { log = l })
      (append_assoc log (without_first w c).log (step node c.port m).notes)

  next_after : (log : List N) (w : Network A M N) (c : Choice) → world_next step (after_log log w) c ≡ after_log log (world_next step w c)
  next_after log w c = step_after log w c (slice_get w.nodes c.node) (queue_at w c)

  pub run_after : (log : List N) (cs : List Choice) (w : Network A M N) → run step cs (after_log log w) ≡ after_log log (run step cs w)
  run_after log [] w = refl
  run_after log (c ∷ cs) w = ap (run step cs) (next_after log w c) ∙ run_after log cs (world_next step w c)

  pub is_run_after : (log : List N) (cs : List Choice) (w : Network A M N) → IsRun ready step cs w → IsRun ready step cs (after_log log w)
  is_run_after log [] w is = tt
  is_run_after log (c ∷ cs) w is =
      (is.0, subst (λ v. IsRun ready step cs v) (sym (next_after log w c)) (is_run_after log cs (world_next step w c) is.1))

  -- what is merged, and then any merge of the last round, is a run from the start to the stage left and to its notes
  pub record Joined (start : Network A M N) (merged : Merged N) (round : Round A M N) : Type 0 where
    pub is_run : (cs : List Choice) → IsMerge round.unmerged.histories.items cs → IsRun ready step (merged.choices ++ cs) start
    pub leads : (cs : List Choice) → IsMerge round.unmerged.histories.items cs
        → run step (merged.choices ++ cs) start ≡ after_log (merged.log.items ++ notes_in round.unmerged cs) round.stage

  -- the first round
  pub first_joined : (start begin : Network A M N) (merged : Merged N) (round : Round A M N) → merged.choices ≡ [] → start ≡ after_log merged.log.items begin
      → IsRound ready step begin round → Joined start merged round
  first_joined start begin merged round none is one = record {
    is_run = λ cs m. subst (λ (v : List Choice × Network A M N). IsRun ready step (v.0 ++ cs) v.1) (λ i. (sym none i, sym is i))
        (is_run_after merged.log.items cs begin (one.is_run cs m));
    leads = λ cs m. (λ i. run step (none i ++ cs) (is i)) ∙ run_after merged.log.items cs begin ∙ ap (after_log merged.log.items) (one.leads cs m)
        ∙ ap (λ l. record round.stage { log = l }) (sym (append_assoc merged.log.items (notes_in round.unmerged cs) round.stage.log));
  }

  module _ (start : Network A M N) (old new : Merged N) (round : Round A M N) (joined : Joined start old round) (more : MergesMore round.unmerged old new) where
    -- once the last round is merged
    pub merged_run : IsRun ready step new.choices start
    merged_run = subst (λ l. IsRun ready step l start) (sym more.choices) (joined.is_run more.more more.merge)

    pub merged_leads : run step new.choices start ≡ after_log new.log.items round.stage
    merged_leads = ap (λ l. run step l start) more.choices ∙ joined.leads more.more more.merge ∙ ap (λ l. after_log l round.stage) (sym more.log)

    -- one more round
    pub more_joined : (next : Round A M N) → IsRound ready step round.stage next → Joined start new next
    more_joined next one = record {
      is_run = λ cs m. runs_join ready step new.choices cs start merged_run
          (subst (λ v. IsRun ready step cs v) (sym merged_leads) (is_run_after new.log.items cs round.stage (one.is_run cs m)));
      leads = λ cs m. run-append step new.choices cs start ∙ ap (run step cs) merged_leads ∙ run_after new.log.items cs round.stage
          ∙ ap (after_log new.log.items) (one.leads cs m)
          ∙ ap (λ l. record next.stage { log = l }) (sym (append_assoc new.log.items (notes_in next.unmerged cs) next.stage.log));
    }
