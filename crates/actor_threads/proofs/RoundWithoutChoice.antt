-- A round without a choice: then none was enabled.
use Rattle.std.proofs.Common.{◌≡◌, ◌&&◌, ◌<◌, ◌≤◌, ◌⊎◌, ℕ, zero, suc, Bool, true, false, if◌then◌else◌, Option, Some, None, List}
use Rattle.std.proofs.Common.{[], ◌∷◌, ◌++◌, length, slice_index_or, map, sym, ◌∙◌, ap, refl, subst, ⊎_elim, inl, inr, arith}
use Rattle.std.specs.Prelude.{slice_get, filter, nat_lt}
use Rattle.std.specs.List.Sorted.{ties}
use Rattle.std.specs.Ordering.{is_lt}
use Rattle.std.proofs.lemmas.Bool.{cases_lt}
use Rattle.std.proofs.lemmas.Bool.Decides.{nat_tests}
use Rattle.std.proofs.lemmas.Option.{slice_get-get_or, slice_get_past}
use Rattle.actor_net.specs.declared.choice.Choice.{Choice}
use Rattle.actor_net.specs.declared.stamped.Stamped.{Stamped}
use Rattle.actor_net.specs.declared.histories.History.{History}
use Rattle.actor_net.specs.Network.{Network, is_input, queue_at, takes_first, is_enabled}
use Rattle.actor_net.specs.Merging.{history_steps, all_steps, key_of, key_cmp, choice_of, IsMerge}
use Rattle.actor_threads.specs.Ways.{Incoming, with_stamp_0, last_clock}
use Rattle.actor_threads.specs.Work.{WorkerView, is_input_of, IsQuiet}
use Rattle.actor_threads.specs.Round.{StartsAs}

no_marks : {X : Type 0} (f : X → Choice) (marks : List X) → [] ≡ map f marks → marks ≡ []
no_marks f [] e = refl
no_marks f (x ∷ xs) e = absurd (cc)

-- where nothing stands in a stable order, nothing stood before
none_before : {X : Type 0} (R : X → X → Bool) (all marks : List X) → ((y : X) → ties R y y ≡ true) → marks ≡ []
    → ((y : X) → filter (ties R y) marks ≡ filter (ties R y) all) → all ≡ []
none_before R [] marks self e same = refl
none_before R (y ∷ ys) marks self e same =
    let kept : [] ≡ (if ties R y y then y ∷ filter (ties R y) ys else filter (ties R y) ys) = ap (λ (l : List _). filter (ties R y) l) (sym e) ∙ same y in
    let one : [] ≡ y ∷ filter (ties R y) ys = kept ∙ ap (λ b. if b then y ∷ filter (ties R y) ys else filter (ties R y) ys) (self y) in
    absurd (cc)

no_front : {X : Type 0} (xs ys : List X) → xs ++ ys ≡ [] → (xs ≡ []) × (ys ≡ [])
no_front [] ys e = (refl, e)
no_front (x ∷ xs) ys e = absurd (cc)

no_map : {X Y : Type 0} (f : X → Y) (xs : List X) → map f xs ≡ [] → xs ≡ []
no_map f [] e = refl
no_map f (x ∷ xs) e = absurd (cc)

module _ {A M : Type 0} where
  takes_none : (ready : A → M → Bool) (c : Choice) (o : Option A) → takes_first ready c o [] ≡ false
  takes_none ready c None = refl
  takes_none ready c (Some a) = refl

  quiet_off : (ready : A → M → Bool) (c : Choice) (node : A) (waits : List M) → ((x : Stamped M) (rest : List (Stamped M)) → with_stamp_0 waits ≡ x ∷ rest
      → (last_clock ≤ 0) ⊎ ((last_clock ≤ x.clock) ⊎ ((is_input_of c.node c.port ≡ true) × (ready node x.message ≡ false))))
      → takes_first ready c (Some node) waits ≡ false
  quiet_off ready c node [] quiet = refl
  quiet_off ready c node (m ∷ ms) quiet =
      ⊎_elim (λ (z : last_clock ≤ 0). absurd (omega arith))
      (λ (y : (last_clock ≤ 0) ⊎ ((is_input_of c.node c.port ≡ true) × (ready node m ≡ false))). ⊎_elim (λ (z : last_clock ≤ 0). absurd (omega arith))
      (λ (z : (is_input_of c.node c.port ≡ true) × (ready node m ≡ false)). ap (λ b. if b then ready node m else true) z.0 ∙ z.1) y)
      (quiet (record { clock = 0; message = m }) (with_stamp_0 ms) refl)

module _ {A M N : Type 0} where
  -- the history of a worker
  abbrev pub history_of : WorkerView A M N → History
  history_of s = record { node = s.number; steps = s.steps }

  none_each : (blank : WorkerView A M N) (workers : List (WorkerView A M N)) → all_steps (map history_of workers) ≡ [] → (j : ℕ) → j < length workers
      → (slice_index_or workers j blank).steps ≡ []
  none_each blank [] e j h = absurd (omega arith)
  none_each blank (x ∷ xs) e zero h = no_map _ x.steps (no_front (history_steps (history_of x)) (all_steps (map history_of xs)) e).0
  none_each blank (x ∷ xs) e (suc j) h = none_each blank xs (no_front (history_steps (history_of x)) (all_steps (map history_of xs)) e).1 j (omega arith)

  pub no_steps : (blank : WorkerView A M N) (workers : List (WorkerView A M N)) (cs : List Choice) → IsMerge (map history_of workers) cs → cs ≡ [] → (j : ℕ)
      → j < length workers → (slice_index_or workers j blank).steps ≡ []
  no_steps blank workers cs merge none =
      none_each blank workers (none_before (λ a b. is_lt (key_cmp (key_of a) (key_of b))) (all_steps (map history_of workers)) merge.steps
      (λ y. grind (arith, nat_tests)) (no_marks choice_of merge.steps (sym none ∙ merge.taken)) merge.stable)

  no_wait : (w : Network A M N) (c : Choice) → 0 < length w.nodes → length w.nodes ≤ c.port → queue_at w c ≡ []
  no_wait w c some far =
      let off : is_input c ≡ false = grind (arith, nat_tests) in
      let out : nat_lt c.port (length w.nodes) && nat_lt c.node (length w.nodes) ≡ false = grind (arith, nat_tests) in
      rw (off, out) refl

  -- where each worker is quiet no choice is enabled
  pub all_quiet : (ready : A → M → Bool) (w : Network A M N) (d : A) (worker : ℕ → WorkerView A M N) (names : ℕ → ℕ → _) → 0 < length w.nodes
      → ((j : ℕ) → j < length w.nodes → StartsAs w names j (worker j)) → ((j : ℕ) → j < length w.nodes → IsQuiet ready (worker j)) → (c : Choice)
      → is_enabled ready w c ≡ false
  all_quiet ready w d worker names some starts quiet c =
      elim (cases_lt c.node (length w.nodes)) [
        | inl h ↦ elim (cases_lt c.port (length w.nodes)) [
          | inl p ↦
              let s = starts c.node h in
              let off = quiet_off ready c (slice_index_or w.nodes c.node d) (queue_at w c) (λ x rest e.
              subst (λ (v : ℕ × ℕ × A). (last_clock ≤ v.0) ⊎ ((last_clock ≤ x.clock) ⊎ ((is_input_of v.1 c.port ≡ true) × (ready v.2 x.message ≡ false))))
              (λ i. (s.clock i, s.number i, s.node d i))
              (quiet c.node h c.port (subst (λ m. c.port < m) (sym s.count_ins) p) x rest (ap (λ (v : Incoming M). v.kept) (s.ins c.port p) ∙ e))) in
              ap (λ o. takes_first ready c o (queue_at w c)) (slice_get-get_or w.nodes c.node d h) ∙ off
          | inr far ↦ ap (λ l. takes_first ready c (slice_get w.nodes c.node) l) (no_wait w c some far) ∙ takes_none ready c (slice_get w.nodes c.node)
        ]
        | inr far ↦ ap (λ o. takes_first ready c o (queue_at w c)) (slice_get_past w.nodes c.node far)
      ]
