-- What is served goes on where a member processes the packet that is out, takes its record, or processes a packet that the filter doesn't match.
use Rattle.strong_share.proofs.Words.{◌≡◌, ℕ, ◌<◌, Bool, true, false, Option, Some, None, List, [], ◌∷◌, ◌++◌, map, refl, sym, ap, subst, ◌∙◌, append-nil}
use Rattle.strong_share.proofs.Words.{arith, if◌then◌else◌, ◌==◌, not, Decides-eqb, takes, Laws, Semantics, same_unit-true, Msg, Carry, QueuedPacket}
use Rattle.strong_share.proofs.Words.{the_share, is_home, StrongJob, IsStrongJob, is_taken, is_of}
use Rattle.nf_function.specs.declared.unit.Unit as units
use Rattle.event_filter.specs.declared.mark.Mark.TheVariants as mark
use Rattle.strong_share.proofs.Lists.{put, filter_one_more, filter_no_more}
use Rattle.strong_share.proofs.Folds.{unit, after, seen, unit_taken, seen_more, seen_same}
use Rattle.strong_share.proofs.ServedPackets.{raised_number, Answer.Told, Answer.Took, Turn, Turn.Going, Turn.Coming, is_going, is_pending, one_if}
use Rattle.strong_share.proofs.ServedPackets.{Stage.Carries, Stage.Tells, Stage.Spreads, Sight, IsRaised, record_after, chunk_after, goes_to, comes_from}
use Rattle.strong_share.proofs.ServedPackets.{to_of, answers_of, serving_of, all_of, waits_of, seen_by, FitsSpread, FitsStage, expected, Serves}
use Rattle.strong_share.proofs.Turns.{pending_put}

either : {X : Type 0} (b : Bool) (x : X) → (if b then x else x) ≡ x
either true x = refl
either false x = refl

module _ {R : Type 0} (f : Semantics R) (laws : Laws f) (job : StrongJob) (is : IsStrongJob f.kind job) where
  -- whether a taken packet is of a unit that isn't taken, and the other way round
  pub not_of : (u : units.Unit) (p : ℕ) (b : Bool) → is_taken job p ≡ b → takes job.filter u ≡ not b → is_of f job u p ≡ false
  not_of u p b taken unit_is = elim (is_of f job u p) as (λ c. is_of f job u p ≡ c → c ≡ false) [
    | true ↦ λ on. (let same = unit_taken f laws job is p u on in let both : b ≡ not b = sym taken ∙ same ∙ unit_is in absurd (never b both))
    | false ↦ λ _. refl
  ] refl
    where
      never : (c : Bool) → c ≡ not c → ⊥
      never true e = cc
      never false e = cc

  -- The packet that is out is processed by its member.
  pub processed_out : (o : Sight R) (h : Serves f job o) (r : QueuedPacket) → h.stage ≡ Carries r → (to : ℕ → List Msg)
      → ((k : ℕ) → k < job.members → to k ≡ (if k == r.member then [] else o.to k))
      → (own other : ℕ → units.Unit → Option R)
      → ((k : ℕ) → k < job.members → (u : units.Unit) → own k u ≡ (if k == r.member then (if is_of f job u (raised_number r) then Some
      (after f job (o.own k u) (raised_number r)) else o.own k u) else o.own k u))
      → ((k : ℕ) → k < job.members → (u : units.Unit) → other k u ≡ o.other k u)
      → Serves f job (record o {
        to = to;
        answers = λ k. o.answers k ++ (if k == r.member then Told (chunk_after f job r h.d) ∷ [] else []);
        processed = o.processed ++ raised_number r ∷ [];
        own = own;
        other = other;
      })
  processed_out o h r stage to to_is own other own_is other_is =
      let fit : IsRaised job r = subst (FitsStage f job) stage h.fits in
      let p = raised_number r in
      record {
        d = h.d;
        stage = Tells r;
        fits = fit;
        serving = h.serving ∙ ap (serving_of f job) stage;
        to = λ k k_in. to_is k k_in ∙ ap (λ z. if k == r.member then [] else z) (h.to k k_in ∙ ap (λ s. to_of f job s h.d k) stage)
            ∙ none (k == r.member) (Carry (mark.Shared the_share (is_home r.member)) r.cell ∷ []);
        answers = λ k k_in. ap (λ z. z ++ (if k == r.member then Told (chunk_after f job r h.d) ∷ [] else []))
            (h.answers k k_in ∙ ap (λ s. answers_of f job s h.d k) stage);
        order = h.order ∙ ap (λ s. (all_of f job s h.d ++ waits_of f job s) ++ map raised_number o.queue) stage
            ∙ ap (λ z. z ++ map raised_number o.queue) (sym (append-nil (h.d ++ p ∷ [])));
        done = filter_one_more (is_taken job) o.processed p fit.taken ∙ ap (λ z. z ++ p ∷ []) (h.done ∙ ap (λ s. all_of f job s h.d) stage);
        queue = h.queue;
        own = λ k k_in u. own_is k k_in u ∙ by_unit k u (takes job.filter u) refl (h.own k k_in u ∙ ap (λ s. expected f job s h.d o.processed k u) stage);
        other = λ k k_in u. other_is k k_in u ∙ h.other k k_in u;
      }
    where
      none : (b : Bool) (xs : List Msg) → (if b then [] else (if b then xs else [])) ≡ []
      none true xs = refl
      none false xs = refl

      taken : is_taken job (raised_number r) ≡ true
      taken = let fit : IsRaised job r = subst (FitsStage f job) stage h.fits in fit.taken

      -- what is own at a member, of a unit that is taken or isn't
      by_unit : (k : ℕ) (u : units.Unit) (t : Bool) → takes job.filter u ≡ t
          → o.own k u ≡ (if takes job.filter u then seen f job u h.d else (if k == 0 then seen f job u o.processed else None))
          → (if k == r.member then (if is_of f job u (raised_number r) then Some (after f job (o.own k u) (raised_number r)) else o.own k u) else o.own k u)
          ≡ (if takes job.filter u then seen f job u (if k == r.member then h.d ++ raised_number r ∷ [] else h.d) else
          (if k == 0 then seen f job u (o.processed ++ raised_number r ∷ []) else None))
      by_unit k u true e was =
          let own : o.own k u ≡ seen f job u h.d = was ∙ rw e refl in
          ap (λ x. if k == r.member then (if is_of f job u (raised_number r) then Some (after f job x (raised_number r)) else x) else x) own
          ∙ elim (k == r.member) as (λ b. (if b then (if is_of f job u (raised_number r) then Some (after f job (seen f job u h.d) (raised_number r)) else seen
          f job u h.d) else seen f job u h.d) ≡ seen f job u (if b then h.d ++ raised_number r ∷ [] else h.d)) [
            | true ↦ sym (seen_more f laws job is u h.d (raised_number r))
            | false ↦ refl
          ]
          ∙ ap (λ b. if b then seen f job u (if k == r.member then h.d ++ raised_number r ∷ [] else h.d) else
          (if k == 0 then seen f job u (o.processed ++ raised_number r ∷ []) else None)) (sym e)
      by_unit k u false e was =
          let off = not_of u (raised_number r) true taken e in
          let own : o.own k u ≡ (if k == 0 then seen f job u o.processed else None) = was ∙ rw e refl in
          ap (λ b. if k == r.member then (if b then Some (after f job (o.own k u) (raised_number r)) else o.own k u) else o.own k u) off
          ∙ either (k == r.member) (o.own k u) ∙ own
          ∙ ap (λ x. if k == 0 then x else None) (sym (seen_same f laws job is u o.processed (raised_number r) off))
          ∙ ap (λ b. if b then seen f job u (if k == r.member then h.d ++ raised_number r ∷ [] else h.d) else
          (if k == 0 then seen f job u (o.processed ++ raised_number r ∷ []) else None)) (sym e)

  -- A member takes the record.
  pub takes_record : (o : Sight R) (h : Serves f job o) (j : ℕ) → j < job.members → (r : QueuedPacket) (at : ℕ → Turn) (left : ℕ) → h.stage ≡ Spreads r at left
      → at j ≡ Going → (to : ℕ → List Msg) → ((k : ℕ) → k < job.members → to k ≡ (if k == j then [] else o.to k))
      → (own other : ℕ → units.Unit → Option R)
      → ((k : ℕ) → k < job.members → (u : units.Unit) → own k u ≡ (if k == j then (if is_of f job u (raised_number r) then Some (record_after f job r h.d) else
      o.own k u) else o.own k u))
      → ((k : ℕ) → k < job.members → (u : units.Unit) → other k u ≡ o.other k u)
      → Serves f job (record o { to = to; answers = λ k. o.answers k ++ (if k == j then Took ∷ [] else []); own = own; other = other })
  takes_record o h j j_in r at left stage going to to_is own other own_is other_is =
      let fit : FitsSpread f job r at left = subst (FitsStage f job) stage h.fits in
      let p = raised_number r in
      let was : one_if (is_pending (at j)) ≡ 1 = ap (λ t. one_if (is_pending t)) going in
      let counts = fit.counts in
      record {
        d = h.d;
        stage = Spreads r (put at j Coming) left;
        fits = record { raised = fit.raised; counts = omega (arith, pending_put at j job.members Coming j_in, was, counts); some = fit.some };
        serving = h.serving ∙ ap (serving_of f job) stage;
        to = λ k k_in. to_is k k_in ∙ ap (λ z. if k == j then [] else z) (h.to k k_in ∙ ap (λ s. to_of f job s h.d k) stage)
            ∙ elim (k == j) as (λ b. (if b then [] else goes_to f job (at k) k (chunk_after f job r h.d))
            ≡ goes_to f job (if b then Coming else at k) k (chunk_after f job r h.d)) [ true ↦ refl | false ↦ refl ];
        answers = λ k k_in. ap (λ z. z ++ (if k == j then Took ∷ [] else [])) (h.answers k k_in ∙ ap (λ s. answers_of f job s h.d k) stage) ∙ answered k;
        order = h.order ∙ ap (λ s. (all_of f job s h.d ++ waits_of f job s) ++ map raised_number o.queue) stage;
        done = h.done ∙ ap (λ s. all_of f job s h.d) stage;
        queue = h.queue;
        own = λ k k_in u. own_is k k_in u ∙ now k u (takes job.filter u) refl fit.raised.taken (h.own k k_in u
            ∙ ap (λ s. expected f job s h.d o.processed k u) stage);
        other = λ k k_in u. other_is k k_in u ∙ h.other k k_in u;
      }
    where
      answered : (k : ℕ) → comes_from f job (at k) ++ (if k == j then Took ∷ [] else []) ≡ comes_from f job (put at j Coming k)
      answered k =
          elim (k == j) as (λ b. (k == j) ≡ b → comes_from f job (at k) ++ (if b then Took ∷ [] else []) ≡ comes_from f job (if b then Coming else at k)) [
            | true ↦ λ on. (let same : k ≡ j = (Decides-eqb k j).0 on in ap (λ t. comes_from f job t ++ Took ∷ []) (ap at same ∙ going))
            | false ↦ λ _. append-nil (comes_from f job (at k))
          ] refl

      -- the record of the packet's unit, and of another
      brought : (u : units.Unit) → (if is_of f job u (raised_number r) then Some (record_after f job r h.d) else seen f job u h.d)
          ≡ seen f job u (h.d ++ raised_number r ∷ [])
      brought u =
          elim (is_of f job u (raised_number r)) as (λ b. is_of f job u (raised_number r) ≡ b
          → (if b then Some (record_after f job r h.d) else seen f job u h.d)
          ≡ (if b then Some (after f job (seen f job u h.d) (raised_number r)) else seen f job u h.d)) [
            | true ↦ λ on. ap (λ v. Some (after f job (seen f job v h.d) (raised_number r))) (same_unit-true (unit f job (raised_number r)) u on)
            | false ↦ λ _. refl
          ] refl
          ∙ sym (seen_more f laws job is u h.d (raised_number r))

      now : (k : ℕ) (u : units.Unit) (t : Bool) → takes job.filter u ≡ t → is_taken job (raised_number r) ≡ true
          → o.own k u ≡ (if takes job.filter u then seen f job u (if is_going (at k) then h.d else h.d ++ raised_number r ∷ []) else
          (if k == 0 then seen f job u o.processed else None))
          → (if k == j then (if is_of f job u (raised_number r) then Some (record_after f job r h.d) else o.own k u) else o.own k u)
          ≡ (if takes job.filter u then seen f job u (if is_going (put at j Coming k) then h.d else h.d ++ raised_number r ∷ []) else
          (if k == 0 then seen f job u o.processed else None))
      now k u true e taken was =
          let own : o.own k u ≡ seen f job u (if is_going (at k) then h.d else h.d ++ raised_number r ∷ []) = was ∙ rw e refl in
          elim (k == j) as (λ b. (k == j) ≡ b → (if b then (if is_of f job u (raised_number r) then Some (record_after f job r h.d) else o.own k u) else o.own k
          u) ≡ seen f job u (if is_going (if b then Coming else at k) then h.d else h.d ++ raised_number r ∷ [])) [
            | true ↦ λ on.
                let same : k ≡ j = (Decides-eqb k j).0 on in
                let here : o.own k u ≡ seen f job u h.d =
                own ∙ ap (λ t. seen f job u (if is_going t then h.d else h.d ++ raised_number r ∷ [])) (ap at same ∙ going) in
                ap (λ x. if is_of f job u (raised_number r) then Some (record_after f job r h.d) else x) here ∙ brought u
            | false ↦ λ _. own
          ] refl
          ∙ ap (λ b. if b then seen f job u (if is_going (put at j Coming k) then h.d else h.d ++ raised_number r ∷ []) else
          (if k == 0 then seen f job u o.processed else None)) (sym e)
      now k u false e taken was =
          let off = not_of u (raised_number r) true taken e in
          let own : o.own k u ≡ (if k == 0 then seen f job u o.processed else None) = was ∙ rw e refl in
          ap (λ b. if k == j then (if b then Some (record_after f job r h.d) else o.own k u) else o.own k u) off
          ∙ either (k == j) (o.own k u) ∙ own
          ∙ ap (λ b. if b then seen f job u (if is_going (put at j Coming k) then h.d else h.d ++ raised_number r ∷ []) else
          (if k == 0 then seen f job u o.processed else None)) (sym e)

  -- The first member processes a packet that the filter doesn't match.
  pub processed_other : (o : Sight R) (h : Serves f job o) (p : ℕ) → is_taken job p ≡ false → (own other : ℕ → units.Unit → Option R)
      → ((k : ℕ) → k < job.members → (u : units.Unit) → own k u ≡ (if k == 0 then (if is_of f job u p then Some (after f job (o.own k u) p) else o.own k u) else
      o.own k u))
      → ((k : ℕ) → k < job.members → (u : units.Unit) → other k u ≡ o.other k u)
      → Serves f job (record o { processed = o.processed ++ p ∷ []; own = own; other = other })
  processed_other o h p taken own other own_is other_is = record {
    d = h.d;
    stage = h.stage;
    fits = h.fits;
    serving = h.serving;
    to = h.to;
    answers = h.answers;
    order = h.order;
    done = filter_no_more (is_taken job) o.processed p taken ∙ h.done;
    queue = h.queue;
    own = λ k k_in u. own_is k k_in u ∙ by_unit k u (takes job.filter u) refl (h.own k k_in u);
    other = λ k k_in u. other_is k k_in u ∙ h.other k k_in u;
  }
    where
      by_unit : (k : ℕ) (u : units.Unit) (t : Bool) → takes job.filter u ≡ t → o.own k u ≡ expected f job h.stage h.d o.processed k u
          → (if k == 0 then (if is_of f job u p then Some (after f job (o.own k u) p) else o.own k u) else o.own k u)
          ≡ expected f job h.stage h.d (o.processed ++ p ∷ []) k u
      by_unit k u true e was =
          let off = not_of u p false taken e in
          ap (λ b. if k == 0 then (if b then Some (after f job (o.own k u) p) else o.own k u) else o.own k u) off
          ∙ either (k == 0) (o.own k u) ∙ was ∙ rw e refl
      by_unit k u false e was =
          let own : o.own k u ≡ (if k == 0 then seen f job u o.processed else None) = was ∙ rw e refl in
          ap (λ x. if k == 0 then (if is_of f job u p then Some (after f job x p) else x) else x) own
          ∙ elim (k == 0) as (λ b. (if b then (if is_of f job u p then Some (after f job (if b then seen f job u o.processed else None) p) else
          (if b then seen f job u o.processed else None)) else (if b then seen f job u o.processed else None))
          ≡ (if b then seen f job u (o.processed ++ p ∷ []) else None)) [
            | true ↦ sym (seen_more f laws job is u o.processed p)
            | false ↦ refl
          ]
          ∙ ap (λ b. if b then seen f job u (seen_by f job h.stage h.d k) else (if k == 0 then seen f job u (o.processed ++ p ∷ []) else None)) (sym e)
