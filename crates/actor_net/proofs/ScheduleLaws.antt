-- What a schedule takes: an enabled choice, and none only where none is enabled.
use Rattle.std.proofs.Common.{◌≡◌, ℕ, zero, suc, ◌+◌, ◌-◌, ◌<◌, ◌≤◌, Bool, true, false, Option, None, Some, List, [], ◌∷◌}
use Rattle.std.proofs.Common.{◌++◌, ◌⊎◌, length, refl, sym, ap, subst, ◌∙◌, append_assoc, append-nil, arith, inl, inr}
use Rattle.std.specs.Prelude.{if◌then◌else◌, slice_get, nat_lt}
use Rattle.std.proofs.lemmas.Bool.Decides.{nat_tests}
use Rattle.std.proofs.lemmas.Option.{slice_get-get_or, slice_get_past}
use Rattle.std.proofs.lemmas.Bool.{cases_lt}
use Rattle.actor_net.specs.declared.choice.Choice.{Choice}
use Rattle.actor_net.specs.declared.schedule.TheConstants.{MOST_CHOICES}
use Rattle.actor_net.specs.declared.schedule.Schedule.{Schedule}
use Rattle.actor_net.specs.declared.schedule.Schedule.TheVariants.{First, Last, Number}
use Rattle.actor_net.proofs.CompleteWorlds.{takes_nothing, done_disabled}
use Rattle.actor_net.proofs.EnabledChoices.{found_at}
use Rattle.actor_net.specs.Network.{Network, Stepped, is_input, queue_at, takes_first, is_enabled, world_next, run, is_done, IsRun}
use Rattle.actor_net.specs.Schedules.{ports_below, nodes_below, enabled_choices, place_in, later, pick_of, taken_then, scheduled, StopsShort}

place_within : (schedule : Schedule) (n : ℕ) → 0 < n → place_in schedule n < n
place_within First n some = some
place_within Last n some = omega arith
place_within (Number state) n some = omega arith

none_of : (schedule : Schedule) (xs : List Choice) → slice_get xs (place_in schedule (length xs)) ≡ None → xs ≡ []
none_of schedule [] none = refl
none_of schedule (x ∷ xs) none =
    let there = slice_get-get_or (x ∷ xs) (place_in schedule (length (x ∷ xs))) x (place_within schedule (length (x ∷ xs)) (omega arith)) in
    cc

module _ {A M N : Type 0} (ready : A → M → Bool) where
  -- each choice of the lists is enabled
  one_enabled : (w : Network A M N) (b : Bool) (c : Choice) (i : ℕ) (x : Choice) → is_enabled ready w c ≡ b
      → slice_get (if b then c ∷ [] else []) i ≡ Some x → is_enabled ready w x ≡ true
  one_enabled w true c zero x is at = let same : c ≡ x = cc in subst (λ y. is_enabled ready w y ≡ true) same is
  one_enabled w true c (suc i) x is at = cc
  one_enabled w false c i x is at = cc

  -- an element of two lists joined is in one of them
  both : (w : Network A M N) (xs ys : List Choice) → ((i : ℕ) (x : Choice) → slice_get xs i ≡ Some x → is_enabled ready w x ≡ true)
      → ((i : ℕ) (x : Choice) → slice_get ys i ≡ Some x → is_enabled ready w x ≡ true) → (i : ℕ) (x : Choice) → slice_get (xs ++ ys) i ≡ Some x
      → is_enabled ready w x ≡ true
  both w [] ys first second i x at = second i x at
  both w (y ∷ xs) ys first second zero x at = first zero x at
  both w (y ∷ xs) ys first second (suc i) x at = both w xs ys (λ j z e. first (suc j) z e) second i x at

  ports_enabled : (w : Network A M N) (k p i : ℕ) (x : Choice) → slice_get (ports_below ready w k p) i ≡ Some x → is_enabled ready w x ≡ true
  ports_enabled w k zero i x at = cc
  ports_enabled w k (suc p) i x at =
      both w (ports_below ready w k p) _ (ports_enabled w k p)
      (λ j z e. one_enabled w (is_enabled ready w (record { node = k; port = p })) (record { node = k; port = p }) j z refl e) i x at

  nodes_enabled : (w : Network A M N) (k i : ℕ) (x : Choice) → slice_get (nodes_below ready w k) i ≡ Some x → is_enabled ready w x ≡ true
  nodes_enabled w zero i x at = cc
  nodes_enabled w (suc k) i x at =
      both w (nodes_below ready w k) (ports_below ready w k (length w.nodes)) (nodes_enabled w k) (ports_enabled w k (length w.nodes)) i x at

  -- a schedule takes an enabled choice
  pub picked_enabled : (schedule : Schedule) (w : Network A M N) (c : Choice) → pick_of ready schedule w ≡ Some c → is_enabled ready w c ≡ true
  picked_enabled schedule w c is = nodes_enabled w (length w.nodes) (place_in schedule (length (enabled_choices ready w))) c is

  -- and none only where no choice is enabled
  pub picked_none : (schedule : Schedule) (w : Network A M N) → pick_of ready schedule w ≡ None → enabled_choices ready w ≡ []
  picked_none schedule w none = none_of schedule (enabled_choices ready w) none

module _ {A M N : Type 0} (ready : A → M → Bool) (ended : A → Bool) (step : A → ℕ → M → Stepped A M N) where
  pub scheduled_none : (most : ℕ) (schedule : Schedule) (w : Network A M N) → pick_of ready schedule w ≡ None → scheduled ready ended step most schedule w ≡ []
  unfolding scheduled
  scheduled_none zero schedule w none = refl
  scheduled_none (suc most) schedule w none =
      elim (is_done ended w) as (λ b.
      (if b then [] else taken_then (pick_of ready schedule w) (λ c. scheduled ready ended step most (later schedule) (world_next step w c))) ≡ []) [
        | true ↦ refl
        | false ↦ rw none refl
      ]

  pub scheduled_some : (most : ℕ) (schedule : Schedule) (w : Network A M N) (c : Choice) → pick_of ready schedule w ≡ Some c
      → scheduled ready ended step (suc most) schedule w ≡ c ∷ scheduled ready ended step most (later schedule) (world_next step w c)
  unfolding scheduled
  scheduled_some most schedule w c is =
      let enabled = picked_enabled ready schedule w c is in
      let going : is_done ended w ≡ false = elim (is_done ended w) as (λ b. is_done ended w ≡ b → b ≡ false)
      [ true ↦ λ done. let no = done_disabled ended w done ready c in cc | false ↦ λ _. refl ] refl in
      rw (going, is) refl

  taken_is_run : (most : ℕ) (schedule : Schedule) (w : Network A M N) (o : Option Choice) → pick_of ready schedule w ≡ o → ((c : Choice)
      → is_enabled ready w c ≡ true → IsRun ready step (scheduled ready ended step most (later schedule) (world_next step w c)) (world_next step w c))
      → IsRun ready step (taken_then o (λ c. scheduled ready ended step most (later schedule) (world_next step w c))) w
  taken_is_run most schedule w None is rest = tt
  taken_is_run most schedule w (Some c) is rest = let on = picked_enabled ready schedule w c is in (on, rest c on)

  -- what a schedule takes is a run, whether or not it ends in a complete world
  pub scheduled_is_run : (most : ℕ) (schedule : Schedule) (w : Network A M N) → IsRun ready step (scheduled ready ended step most schedule w) w
  unfolding scheduled
  scheduled_is_run zero schedule w = tt
  scheduled_is_run (suc most) schedule w =
      elim (is_done ended w) as (λ b. IsRun ready step
      (if b then [] else taken_then (pick_of ready schedule w) (λ c. scheduled ready ended step most (later schedule) (world_next step w c))) w) [
        | true ↦ tt
        | false ↦ taken_is_run most schedule w (pick_of ready schedule w) refl (λ c _. scheduled_is_run most (later schedule) (world_next step w c))
      ]

  -- one more choice: what is left, from here, gives what the whole gives
  pub scheduled_more : (most n : ℕ) (schedule : Schedule) (w : Network A M N) (cs : List Choice) (c : Choice) → n < most → pick_of ready schedule w ≡ Some c
      → (cs ++ c ∷ []) ++ scheduled ready ended step (most - (n + 1)) (later schedule) (world_next step w c)
      ≡ cs ++ scheduled ready ended step (most - n) schedule w
  scheduled_more most n schedule w cs c below is =
      let left : most - n ≡ suc (most - (n + 1)) = omega arith in
      rw (left, scheduled_some (most - (n + 1)) schedule w c is) (append_assoc cs (c ∷ []) _)

  -- where a schedule ends, nothing is left
  pub scheduled_end : (most n : ℕ) (schedule : Schedule) (w : Network A M N) → (pick_of ready schedule w ≡ None) ⊎ (most ≤ n)
      → scheduled ready ended step (most - n) schedule w ≡ []
  unfolding scheduled
  scheduled_end most n schedule w (inl none) = scheduled_none (most - n) schedule w none
  scheduled_end most n schedule w (inr over) = let left : most - n ≡ zero = omega arith in rw left refl

  -- the choices taken so far are then the scheduled ones
  pub scheduled_whole : (most n : ℕ) (schedule : Schedule) (w : Network A M N) (cs all : List Choice) → (pick_of ready schedule w ≡ None) ⊎ (most ≤ n)
      → cs ++ scheduled ready ended step (most - n) schedule w ≡ all → cs ≡ all
  scheduled_whole most n schedule w cs all end is =
      sym (append-nil cs) ∙ ap (λ xs. cs ++ xs) (sym (scheduled_end most n schedule w end)) ∙ is

  -- a schedule that ends in a world that isn't complete
  pub stops_short : (start w : Network A M N) (cs all : List Choice) (at : ℕ) → (enabled_choices ready w ≡ []) ⊎ (length cs ≡ MOST_CHOICES) → cs ≡ all
      → w ≡ run step cs start → is_done ended w ≡ false → length cs ≡ at → (length all ≡ at) × StopsShort ready ended (run step all start) at
  stops_short start w cs all at end whole world incomplete here =
      rw (← whole, ← world) (here, record { incomplete = incomplete; stuck = subst (λ n. (enabled_choices ready w ≡ []) ⊎ (n ≡ MOST_CHOICES)) here end })

-- a choice that can be taken is one of two nodes that are there
pub enabled_within : {A M N : Type 0} (ready : A → M → Bool) (w : Network A M N) (c : Choice) → 0 < length w.nodes → is_enabled ready w c ≡ true
    → (c.node < length w.nodes) × (c.port < length w.nodes)
enabled_within {A} {M} {N} ready w c some on = (
  elim (cases_lt c.node (length w.nodes)) [
    | inl less ↦ less
    | inr over ↦
        let gone = slice_get_past w.nodes c.node over in
        let never : takes_first ready c None (queue_at w c) ≡ true = ap (λ o. takes_first ready c o (queue_at w c)) (sym gone) ∙ on in
        cc
  ],
  elim (cases_lt c.port (length w.nodes)) [
    | inl less ↦ less
    | inr over ↦
        let far : nat_lt c.port (length w.nodes) ≡ false = grind (arith, nat_tests) in
        let other : is_input c ≡ false = grind (arith, nat_tests) in
        let empty : queue_at w c ≡ [] = rw (other, far) refl in
        let never = sym on ∙ takes_nothing ready c (slice_get w.nodes c.node) (queue_at w c) empty in
        cc
  ],
)

-- where the list of enabled choices is empty, none can be taken
pub none_enabled : {A M N : Type 0} (ready : A → M → Bool) (w : Network A M N) (c : Choice) → 0 < length w.nodes → enabled_choices ready w ≡ []
    → is_enabled ready w c ≡ false
none_enabled ready w c some none =
    elim (is_enabled ready w c) as (λ b. is_enabled ready w c ≡ b → b ≡ false) [
      | true ↦ λ on.
          let there = enabled_within ready w c some on in
          let found = found_at ready w c.node c.port (length (nodes_below ready w c.node ++ ports_below ready w c.node c.port)) there.0 there.1 on refl in
          let place = length (nodes_below ready w c.node ++ ports_below ready w c.node c.port) in
          let never : slice_get [] place ≡ Some c = ap (λ xs. slice_get xs place) (sym none) ∙ found in
          cc
      | false ↦ λ _. refl
    ] refl

-- and where none can be taken, it is empty
pub enabled_choices-none : {A M N : Type 0} (ready : A → M → Bool) (w : Network A M N) → ((c : Choice) → is_enabled ready w c ≡ false)
    → enabled_choices ready w ≡ []
enabled_choices-none ready w none = empty (enabled_choices ready w) (λ i x at.
    let on = nodes_enabled ready w (length w.nodes) i x at in let off = none x in let never : false ≡ true = sym off ∙ on in cc)
  where
    empty : (xs : List Choice) → ((i : ℕ) (x : Choice) → slice_get xs i ≡ Some x → ⊥) → xs ≡ []
    empty [] never = refl
    empty (x ∷ xs) never = absurd (never 0 x refl)
