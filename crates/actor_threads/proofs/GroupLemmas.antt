-- A member of a group goes on with its round.
use Rattle.std.proofs.Common.{◌≡◌, ◌<◌, ◌≤◌, ◌+◌, ℕ, zero, suc, Bool, true, false, not, true≢false, List, [], ◌∷◌, length}
use Rattle.std.proofs.Common.{slice_index_or, ◌++◌, ◌-◌, take, drop, All, refl, sym, ap, subst, ◌∙◌, inl, inr, arith, length-append}
use Rattle.std.specs.Prelude.{◌==◌, slice_set}
use Rattle.std.proofs.lemmas.Bool.Decides.{Decides-eqb}
use Rattle.std.proofs.lemmas.Bool.{cases_lt, and_parts, not-true}
use Rattle.std.proofs.lemmas.Grind.{common_steps}
use Rattle.std.proofs.lemmas.List.{get_or-set_same, get_or-set_other, get_or_default, get_or_append_left}
use Rattle.std.proofs.lemmas.List.Elements.{All-get_or, All-append}
use Rattle.std.proofs.Math.Seq.{get_or-append_right}
use Rattle.actor_net.specs.Network.{Stepped}
use Rattle.actor_threads.specs.declared.groups.Member.{Member}
use Rattle.actor_threads.specs.Work.{WorkerView, IsQuiet, Ran, Worked}
use Rattle.actor_threads.specs.Groups.{has_run, Progress, IsInRound, GoesOn, AllGoOn, AllInRound}
use Rattle.actor_threads.proofs.WorkerSteps.{start, worked_then}

-- where a list is no longer than before, nothing was moved
unmoved : (moved : Bool) (m n : ℕ) → (moved ≡ true → m < n) → n ≡ m → moved ≡ false
unmoved false m n more same = refl
unmoved true m n more same = absurd (omega (arith, more refl, same))

positive : (n : ℕ) → (n ≡ 0 → ⊥) → 0 < n
positive zero more = absurd (more refl)
positive (suc n) more = omega arith

-- what a slice wrote back
pub written_back : {X : Type 0} (old new : List X) (n : ℕ) → length new ≡ length old → n ≡ length old → take n (new ++ drop (length new) old) ≡ new
written_back old new n same many = grind (arith, common_steps)

-- the one element of a list
first_only : {X : Type 0} (x : X) (k : ℕ) (d : X) → k < 1 → x ≡ slice_index_or (x ∷ []) k d
first_only x zero d h = refl
first_only x (suc k) d h = absurd (omega (arith, h))

module _ {A M N : Type 0} (ready : A → M → Bool) (step : A → ℕ → M → Stepped A M N) where
  -- a round that begins
  pub begins : (m : Member A M N) → m.looked ≡ false → m.moved ≡ false → IsInRound ready step m.worker m
  begins m looked moved = λ _. record {
    worked = start ready step m.worker;
    longer = omega arith;
    fresh = λ _. refl;
    moved = λ t. absurd (true≢false (sym t ∙ moved));
    quiet = λ t. absurd (true≢false (sym t ∙ looked));
  }

  quiet_at_start : (first : WorkerView A M N) (m : Member A M N) (looked : Bool) → m.looked ≡ looked → Progress ready step first m
      → (m.moved ≡ false → IsQuiet ready m.worker) → length m.worker.steps ≡ length first.steps → IsQuiet ready first
  quiet_at_start first m true is p q none = p.quiet is none
  quiet_at_start first m false is p q none = subst (λ (v : WorkerView A M N). IsQuiet ready v) (p.fresh is) (q (unmoved m.moved _ _ p.moved none))

  -- a turn with steps
  pub steps_on : (m n : Member A M N) (steps : ℕ) → m.failed ≡ false → Worked ready step m.worker n.worker
      → length n.worker.steps ≡ length m.worker.steps + steps → (steps ≡ 0 → ⊥) → n.looked ≡ true → GoesOn ready step m n
  steps_on m n steps ok w count more looked first on = λ _.
      let p = on ok in
      let some : 0 < steps = positive steps more in
      let longer : length first.steps < length n.worker.steps = omega (arith, count, some, p.longer) in
      record {
        worked = worked_then ready step first m.worker n.worker p.worked w;
        longer = omega (arith, longer);
        fresh = λ t. absurd (true≢false (sym looked ∙ t));
        moved = λ _. longer;
        quiet = λ _ none. absurd (omega (arith, longer, none));
      }

  -- a turn that found nothing
  pub looks_on : (m n : Member A M N) → m.failed ≡ false → Worked ready step m.worker n.worker → length n.worker.steps ≡ length m.worker.steps
      → (m.moved ≡ false → IsQuiet ready m.worker) → n.looked ≡ true → n.moved ≡ m.moved → GoesOn ready step m n
  looks_on m n ok w same q looked moved first on = λ _.
      let p = on ok in
      record {
        worked = worked_then ready step first m.worker n.worker p.worked w;
        longer = omega (arith, same, p.longer);
        fresh = λ t. absurd (true≢false (sym looked ∙ t));
        moved = λ t. omega (arith, same, p.moved (sym moved ∙ t));
        quiet = λ _ none. quiet_at_start first m m.looked refl p q (sym same ∙ none);
      }

  -- a member that ran out of memory
  pub fails : (m n : Member A M N) → n.failed ≡ true → GoesOn ready step m n
  fails m n failed first on = λ ok. absurd (true≢false (sym failed ∙ ok))

  -- a member that did its round
  pub ran : (first : WorkerView A M N) (m : Member A M N) → IsInRound ready step first m → has_run m ≡ true → Ran ready step first m.worker
  ran first m on done =
      let d = and_parts m.looked (not m.failed) done in
      let p = on (not-true m.failed d.1) in
      record { worked = p.worked; moves = λ none. p.quiet d.0 none }

  -- one member of a group takes a turn
  pub one_goes_on : (first now : List (Member A M N)) (k : ℕ) (d0 new : Member A M N) → k < length now → length now ≡ length first
      → AllGoOn ready step first now → GoesOn ready step (slice_index_or now k d0) new
      → AllGoOn ready step first (slice_set now k new)
  one_goes_on first now k d0 new within count all one i d less =
      elim (i == k) as (λ b. (i == k) ≡ b → GoesOn ready step (slice_index_or first i d) (slice_index_or (slice_set now k new) i d)) [
        | true ↦ λ t.
            let e : i ≡ k = (Decides-eqb i k).0 t in
            λ begin on.
            let before : IsInRound ready step begin (slice_index_or now k d0) = subst (λ (v : Member A M N). IsInRound ready step begin v)
            (ap (λ j. slice_index_or now j d) e ∙ get_or_default now k d d0 within) (all i d less begin on) in
            subst (λ (v : Member A M N). IsInRound ready step begin v)
            (sym (ap (λ j. slice_index_or (slice_set now k new) j d) e ∙ get_or-set_same now k new d within)) (one begin before)
        | false ↦ λ f. subst (λ (v : Member A M N). GoesOn ready step (slice_index_or first i d) v)
            (sym (get_or-set_other now k i new d (λ e. true≢false (sym ((Decides-eqb i k).1 e) ∙ f)))) (all i d less)
      ] refl

  -- turns of all members, and then turns again
  pub all_go_on : (old mid new : List (Member A M N)) → length mid ≡ length old → AllGoOn ready step old mid → AllGoOn ready step mid new
      → AllGoOn ready step old new
  all_go_on old mid new count a b i d less begin on = b i d (subst (λ n. i < n) (sym count) less) begin (a i d less begin on)

  -- the same of the members that a slice lent
  pub lent_go_on : (lent old after now : List (Member A M N)) → lent ≡ old → now ≡ after → AllGoOn ready step lent after → AllGoOn ready step old now
  lent_go_on lent old after now a b on = subst (λ (v : List (Member A M N) × List (Member A M N)). AllGoOn ready step v.0 v.1) (λ i. (a i, sym b i)) on

  -- one member more that begins its round
  pub one_begins : (members : List (Member A M N)) (w : WorkerView A M N) (m : Member A M N)
      → All (λ (x : Member A M N). IsInRound ready step x.worker x) members → m.worker ≡ w → IsInRound ready step w m
      → All (λ (x : Member A M N). IsInRound ready step x.worker x) (members ++ m ∷ [])
  one_begins members w m all is begin = All-append (λ (x : Member A M N). IsInRound ready step x.worker x) members (m ∷ []) all
      (λ k d h. subst (λ (x : Member A M N). IsInRound ready step x.worker x) (first_only m k d h)
      (subst (λ (v : WorkerView A M N). IsInRound ready step v m) (sym is) begin))

  -- the rounds of two lists of members, one after the other
  pub all_in_round : (old first rest first' rest' : List (Member A M N)) → old ≡ first ++ rest
      → All (λ (m : Member A M N). IsInRound ready step m.worker m) old → length first' ≡ length first → AllGoOn ready step first first'
      → AllGoOn ready step rest rest' → AllInRound ready step old (first' ++ rest')
  all_in_round old first rest first' rest' is begin count a b i d less =
      let start : IsInRound ready step (slice_index_or old i d).worker (slice_index_or old i d) =
      All-get_or (λ (m : Member A M N). IsInRound ready step m.worker m) old i d less begin in
      let old_is : slice_index_or old i d ≡ slice_index_or (first ++ rest) i d = ap (λ (l : List (Member A M N)). slice_index_or l i d) is in
      let many : length old ≡ length first + length rest = ap length is ∙ length-append first rest in
      elim (cases_lt i (length first)) [
        | inl h ↦
            let was : slice_index_or old i d ≡ slice_index_or first i d = old_is ∙ get_or_append_left first rest d i h in
            let now : slice_index_or (first' ++ rest') i d ≡ slice_index_or first' i d = get_or_append_left first' rest' d i
            (subst (λ n. i < n) (sym count) h) in
            subst (λ (v : Member A M N). IsInRound ready step (slice_index_or old i d).worker v) (sym now)
            (a i d h _ (subst (λ (v : Member A M N). IsInRound ready step (slice_index_or old i d).worker v) was start))
        | inr h ↦
            let k : ℕ = i - length first in
            let inside : k < length rest = omega (arith, less, many, h) in
            let was : slice_index_or old i d ≡ slice_index_or rest k d = old_is ∙ get_or-append_right first rest i d h in
            let now : slice_index_or (first' ++ rest') i d ≡ slice_index_or rest' k d =
            get_or-append_right first' rest' i d (subst (λ n. n ≤ i) (sym count) h) ∙ ap (λ n. slice_index_or rest' (i - n) d) count in
            subst (λ (v : Member A M N). IsInRound ready step (slice_index_or old i d).worker v) (sym now)
            (b k d inside _ (subst (λ (v : Member A M N). IsInRound ready step (slice_index_or old i d).worker v) was start))
      ]
