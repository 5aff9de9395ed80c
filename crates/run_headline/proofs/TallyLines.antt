-- At the end of a run the own count of an instance in its tally is the number of lines of packets that it has processed, and it counts no more of others.
use Rattle.run_headline.proofs.Words.{◌≡◌, ℕ, suc, ◌+◌, ◌<◌, ◌≤◌, Bool, true, false, cond, List, [], ◌∷◌, length, get_or, slice_index, refl, ap, ◌∙◌, subst}
use Rattle.run_headline.proofs.Words.{arith, ◌==◌, filter, filter_map, min, length-map, Msg, Note, InstanceState}
use Rattle.run_headline.proofs.Words.{Network, run, Node, Instance, packets, dones_in, done_in}
use Rattle.std.proofs.lemmas.List.Sums.{count_by-le-length, length-filter}
use Rattle.nf_msgs.specs.declared.note.Note.TheVariants as note
use Rattle.run_headline.proofs.OwnTallies.{done_at, most}
use Rattle.run_headline.proofs.TallyRuns.{AtNode, IsTallied, run_tallied}
use Rattle.run_headline.proofs.CompletedRuns.{CompletedRun, world_of}

-- there are as many lines as packets that were processed
lines_done : (log : List Note) → length (filter_map done_in log) ≡ length (dones_in log)
lines_done [] = refl
lines_done (note.Processed number instance output ∷ log) = ap suc (lines_done log)
lines_done (n ∷ log) = lines_done log

few_pass : {X : Type 0} (p : X → Bool) (xs : List X) → length (filter p xs) ≤ length xs
few_pass p xs = let kept = length-filter p xs in let few = count_by-le-length p xs in omega (arith, kept, few)

module _ {F R : Type 0} (completed : CompletedRun F R) where
  open completed use {setting, choices, is}
  open setting use {function as f, config as c, items}

  abbrev w : Network (Node F R) Msg Note
  w = world_of setting choices

  -- what the tally of an instance counts
  pub record HasCounts (i : ℕ) (x : InstanceState F R) : Type 0 where
    pub low : i < length x.tally.slots
    pub own : slice_index x.tally.slots i ≡ done_at i w.log
    pub others : (j : ℕ) → slice_index x.tally.slots j ≤ done_at j w.log

  pub has_counts : (i : ℕ) (x : InstanceState F R) → i < length c.names → ((d : Node F R) → get_or w.nodes (suc (suc i)) d ≡ Instance x) → HasCounts i x
  has_counts i x low there =
      let within : suc (suc i) < length c.names + 2 = omega (arith, low) in
      let tallied = run_tallied setting choices is.is_run in
      let it : IsTallied f w.log (suc (suc i)) x = subst (AtNode f w.log (suc (suc i))) (there (Instance x))
      (tallied.at_nodes (suc (suc i)) within (Instance x)) in
      let index : x.index ≡ i = omega (arith, it.node) in
      let own : slice_index x.tally.slots i ≡ min (done_at i w.log) most = subst (λ k. slice_index x.tally.slots k ≡ min (done_at k w.log) most) index
      it.count.own in
      let pass = few_pass (λ d. d.1 == i) (filter_map done_in w.log) in
      let came = ap length is.completed.all_came ∙ length-map (packets items) (λ p. p.number) in
      record {
        low = (let long = it.count.low in omega (arith, long, index));
        own = omega (arith, own, lines_done w.log, pass, is.promises.parcels 0, came, is.is_input.few);
        others = λ j. (let below = it.below j in omega (arith, below));
      }
