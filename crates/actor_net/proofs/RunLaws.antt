-- Runs: they join, each prefix of one is a run, and a list of choices is a run exactly where no choice of it is at fault.
use Rattle.std.proofs.Common.{◌≡◌, ℕ, suc, ◌+◌, Bool, true, false, None, Some, List, [], ◌∷◌, ◌++◌, take, drop, refl, sym, subst, arith}
use Rattle.std.specs.Prelude.{if◌then◌else◌}
use Rattle.std.proofs.lemmas.List.{take-append-drop}
use Rattle.std.proofs.lemmas.Option.{same_Some}
use Rattle.actor_net.specs.declared.choice.Choice.{Choice}
use Rattle.actor_net.specs.Network.{Network, Stepped, is_enabled, world_next, run, IsRun, fault_from}
use Rattle.actor_net.specs.Replays.{FirstFault}

-- the choices of one run and then of another, from where the first ends
pub run-append : {A M N : Type 0} (step : A → ℕ → M → Stepped A M N) (cs ds : List Choice) (w : Network A M N)
    → run step (cs ++ ds) w ≡ run step ds (run step cs w)
run-append step [] ds w = refl
run-append step (c ∷ cs) ds w = run-append step cs ds (world_next step w c)

module _ {A M N : Type 0} (ready : A → M → Bool) (step : A → ℕ → M → Stepped A M N) where
  -- a run followed by a run from its end is a run
  pub runs_join : (cs ds : List Choice) (w : Network A M N) → IsRun ready step cs w → IsRun ready step ds (run step cs w) → IsRun ready step (cs ++ ds) w
  runs_join [] ds w first second = second
  runs_join (c ∷ cs) ds w first second = (first.0, runs_join cs ds (world_next step w c) first.1 second)

  -- a run is a run up to any place, and from there on
  pub run_splits : (cs ds : List Choice) (w : Network A M N) → IsRun ready step (cs ++ ds) w → IsRun ready step cs w × IsRun ready step ds (run step cs w)
  run_splits [] ds w is = (tt, is)
  run_splits (c ∷ cs) ds w is = let rest = run_splits cs ds (world_next step w c) is.1 in ((is.0, rest.0), rest.1)

  -- a prefix of a run is a run
  pub run_prefix : (i : ℕ) (cs : List Choice) (w : Network A M N) → IsRun ready step cs w → IsRun ready step (take i cs) w
  run_prefix i cs w is = (run_splits (take i cs) (drop i cs) w (subst (λ xs. IsRun ready step xs w) (sym (take-append-drop i cs)) is)).0

  -- one more choice
  pub IsRun_more : (cs : List Choice) (c : Choice) (start w : Network A M N) → w ≡ run step cs start → IsRun ready step cs start
      → is_enabled ready w c ≡ true → IsRun ready step (cs ++ c ∷ []) start
  IsRun_more cs c start w is first on = runs_join cs (c ∷ []) start first (rw is at on, tt)

  -- choices without a fault are a run
  pub run_without_fault : (at : ℕ) (cs : List Choice) (w : Network A M N) → fault_from ready step at cs w ≡ None → IsRun ready step cs w
  run_without_fault at [] w none = tt
  run_without_fault at (c ∷ cs) w none =
      elim (is_enabled ready w c)
      as (λ b. is_enabled ready w c ≡ b → (if b then fault_from ready step (at + 1) cs (world_next step w c) else Some at) ≡ None
      → (is_enabled ready w c ≡ true) × IsRun ready step cs (world_next step w c)) [
        | true ↦ λ is rest. (is, run_without_fault (at + 1) cs (world_next step w c) rest)
        | false ↦ λ is never. cc
      ] refl none

  -- and a run has none
  pub no_fault : (at : ℕ) (cs : List Choice) (w : Network A M N) → IsRun ready step cs w → fault_from ready step at cs w ≡ None
  no_fault at [] w is = refl
  no_fault at (c ∷ cs) w is = let on = is.0 in rw on (no_fault (at + 1) cs (world_next step w c) is.1)

  fault_later : (i at : ℕ) (c : Choice) (cs : List Choice) (w : Network A M N) → is_enabled ready w c ≡ true
      → FirstFault ready step (record { choices = cs; index = i }) (world_next step w c)
      → FirstFault ready step (record { choices = c ∷ cs; index = suc i }) w
  fault_later i at c cs w on f = record { choice = f.choice; there = f.there; is_run = (on, f.is_run); refused = f.refused }

  -- what the first fault means, where the first of the choices stands at a place
  fault_means : (at place : ℕ) (cs : List Choice) (w : Network A M N) → fault_from ready step at cs w ≡ Some place
      → (i : ℕ) × (place ≡ at + i) × FirstFault ready step (record { choices = cs; index = i }) w
  fault_means at place [] w never = cc
  fault_means at place (c ∷ cs) w is =
      elim (is_enabled ready w c)
      as (λ b. is_enabled ready w c ≡ b → (if b then fault_from ready step (at + 1) cs (world_next step w c) else Some at) ≡ Some place
      → (i : ℕ) × (place ≡ at + i) × FirstFault ready step (record { choices = c ∷ cs; index = i }) w) [
        | true ↦ λ on rest.
            let later = fault_means (at + 1) place cs (world_next step w c) rest in
            let where_is = later.1 in
            (suc later.0, omega arith, fault_later later.0 at c cs w on later.2)
        | false ↦ λ off here.
            let same = same_Some at place here in
            (0, omega arith, record { choice = c; there = refl; is_run = tt; refused = off })
      ] refl is

  pub first_fault : (cs : List Choice) (w : Network A M N) (index : ℕ) → fault_from ready step 0 cs w ≡ Some index
      → FirstFault ready step (record { choices = cs; index = index }) w
  first_fault cs w index is =
      let means = fault_means 0 index cs w is in
      let where_is = means.1 in
      let same : means.0 ≡ index = omega arith in
      subst (λ i. FirstFault ready step (record { choices = cs; index = i }) w) same means.2

-- the world after one more choice
pub run_more : {A M N : Type 0} (step : A → ℕ → M → Stepped A M N) (cs : List Choice) (c : Choice) (start w : Network A M N) → w ≡ run step cs start
    → world_next step w c ≡ run step (cs ++ c ∷ []) start
run_more step cs c start w is = rw (run-append step cs (c ∷ []) start, is) refl
