-- In every run each record that stands by is that of a front of what was processed of its unit, and the front never gets shorter.
use Rattle.nf_net.proofs.Words.{◌≡◌, ℕ, ◌+◌, ◌≤◌, ◌⊎◌, inl, inr, List, [], ◌∷◌, ◌++◌, length, length-append, refl, sym, ap, ◌∙◌, subst, arith, Msg, Note}
use Rattle.nf_net.proofs.Words.{Choice, Network, world_next, run_more, Node, most_counted, course_of, job_of, node_step, IsFront, processed_of, StandsBy}
use Rattle.nf_net.proofs.Words.{node_of, Unit, Standbys, run_beside, Setting, start, IsCourse, world_of}
use Rattle.nf_net.proofs.CopyRuns.{run_copying}
use Rattle.nf_net.proofs.CountedRoom.{room}
use Rattle.nf_net.proofs.RunWords.{next_in_run, runs_joined, RunStep, run_keeps, after_world}
use Rattle.nf_net.proofs.FrontLemmas.{front_same, front_trans, front_more, one_front}
use Rattle.nf_net.proofs.StandbyFronts.{went_more, stands_front, still_some}
use Rattle.nf_net.proofs.StandbySteps.{GoesOn, goes_on}

-- what begins a list with one more element: all of it, or what begins the list
fronts_of_more : {X : Type 0} (before after xs : List X) (x : X) → before ++ after ≡ xs ++ x ∷ []
    → (before ≡ xs ++ x ∷ []) ⊎ ((rest : List X) × (before ++ rest ≡ xs))
fronts_of_more [] after xs x e = inr (xs, refl)
fronts_of_more (b ∷ []) after [] x e = inl (let same : b ≡ x = cc in ap (λ y. y ∷ []) same)
fronts_of_more (b ∷ d ∷ bs) after [] x e = let long = ap length e in let both = length-append (b ∷ d ∷ bs) after in absurd (omega (arith, long, both))
fronts_of_more {X} (b ∷ bs) after (y ∷ xs) x e =
    let heads : b ≡ y = cc in
    let tails : bs ++ after ≡ xs ++ x ∷ [] = cc in
    elim (fronts_of_more bs after xs x tails) as (λ _. (b ∷ bs ≡ (y ∷ xs) ++ x ∷ []) ⊎ ((rest : List X) × ((b ∷ bs) ++ rest ≡ y ∷ xs))) [
      | inl whole ↦ inl (rw (heads, whole) refl)
      | inr more ↦ inr (more.0, rw heads (ap (λ zs. y ∷ zs) more.1))
    ]

module _ {F R : Type 0} (setting : Setting F R) where
  open setting use {function as f, config as c, items}

  abbrev first : Network (Node F R) Msg Note
  first = start setting

  abbrev Stood : Network (Node F R) Msg Note → ℕ → Unit → Type 0
  Stood = StandsBy (job_of f c items)

  -- a record stands by in this world, and its front goes on from an earlier one
  abbrev NoShorter : Network (Node F R) Msg Note → ℕ → Unit → (earlier : List ℕ) → Type 0
  NoShorter w i u earlier = (now : Stood w i u) × IsFront earlier now.front

  abbrev NeverBack : List Choice → Network (Node F R) Msg Note → Type 0
  NeverBack cs w = (before later : List Choice) (i : ℕ) (u : Unit) (earlier : Stood (world_of setting before) i u) → before ++ later ≡ cs
      → NoShorter w i u earlier.front

  -- one choice further
  behind_next : (w v : Network (Node F R) Msg Note) (notes : List Note) → v.log ≡ w.log ++ notes
      → ((u : Unit) → length (processed_of f c items u v.log) ≤ most_counted) → GoesOn setting w v
      → (i : ℕ) (u : Unit) (earlier : List ℕ) → NoShorter w i u earlier → NoShorter v i u earlier
  behind_next w v notes log few goes i u earlier h =
      let it = goes i u in
      let all = processed_of f c items u v.log in
      let was : IsFront h.0.front all = subst (λ l. IsFront h.0.front (processed_of f c items u l)) (sym log) (subst (λ l. IsFront h.0.front l)
      (sym (went_more f c items u w.log notes)) (front_more h.0.front (processed_of f c items u w.log) (processed_of f c items u notes) h.0.is_front)) in
      let same : h.0.front ≡ it.before = one_front setting all (few u) h.0.front it.before was
      (front_trans it.before it.since all it.behind it.within) (h.0.folds ∙ sym h.0.there ∙ sym it.old_is) in
      let further : IsFront h.0.front it.since = subst (λ xs. IsFront xs it.since) (sym same) it.behind in
      let now = still_some f c items h.0.front it.since h.0.kept further h.0.folds in (
        record { front = it.since; kept = now.0; there = sym it.new_is ∙ now.1; is_front = it.within; folds = now.1 },
        front_trans earlier h.0.front it.since h.1 further,
      )

  itself : (w : Network (Node F R) Msg Note) (i : ℕ) (u : Unit) (earlier : Stood w i u) → NoShorter w i u earlier.front
  itself w i u earlier = (earlier, front_same earlier.front)

  -- also where the world is an equal one
  still : (w : Network (Node F R) Msg Note) (i : ℕ) (u : Unit) (v : Network (Node F R) Msg Note) → v ≡ w → (earlier : Stood v i u)
      → NoShorter w i u earlier.front
  still w i u v same earlier = subst (λ x. NoShorter x i u earlier.front) same (itself v i u earlier)

  -- a choice that is taken
  module _ (cs : List Choice) (ok : IsCourse setting cs) (d : Choice) (s : RunStep setting (world_of setting cs) d) where
    abbrev w : Network (Node F R) Msg Note
    w = world_of setting cs

    abbrev v : Network (Node F R) Msg Note
    v = world_next (node_step f) w d

    few : (u : Unit) → length (processed_of f c items u v.log) ≤ most_counted
    few = room setting v (next_in_run setting w d s (runs_joined setting cs ok).in_turn)

    next_stands : NeverBack cs w → NeverBack (cs ++ d ∷ []) v
    next_stands h before later i u earlier whole = elim (fronts_of_more before later cs d whole) as (λ _. NoShorter v i u earlier.front) [
      | inl all ↦ still v i u (world_of setting before) (ap (λ xs. world_of setting xs) all ∙ sym (run_more (node_step f) cs d first w refl)) earlier
      | inr part ↦ behind_next w v (node_step f (node_of s.runs.joined.nodes d.node) d.port s.taking.message).notes s.log few
          (goes_on setting w d s.taking s.runs.joined s.runs.beside few) i u earlier.front (h before part.0 i u earlier part.1)
    ]

  never_back : (cs : List Choice) → IsCourse setting cs → NeverBack cs (world_of setting cs)
  never_back = run_keeps setting NeverBack never next_stands
    where
      never : NeverBack [] first
      never [] later i u earlier e = itself first i u earlier
      never (b ∷ before) later i u earlier e = cc

  -- so every run keeps what is promised of the records that stand by
  pub standbys : (cs : List Choice) → IsCourse setting cs → Standbys (job_of f c items) (course_of first cs)
  standbys cs run_is =
      let h = never_back cs run_is in
      record {
        fronts = λ i u kept there. (let it = stands_front setting (length c.names + 2) (world_of setting cs)
            (after_world setting cs run_is).1 (run_beside setting cs run_is).joined i u in
            record { front = it.front; kept = kept; there = there; is_front = it.is_front; folds = it.folds ∙ there });
        never_back = h;
        copied = λ copy of done. (let it = (run_copying setting cs run_is).found copy of done in record {
          before = it.by.before;
          later = it.by.later;
          whole = it.by.whole;
          to_give = it.by.to_give;
          gave = it.by.gave;
          stands = λ u kept world_next live. (let stood = it.stood u kept world_next live in
              let now = h it.until it.since copy.destination u stood.0 it.whole in
              (now.0, front_trans _ stood.0.front now.0.front stood.1 now.1));
        });
      }
