-- How often numbers stand in lists, and the numbers of what was processed of a unit.
use Rattle.std.proofs.Common.{◌≡◌, ℕ, Bool, true, false, List, [], ◌∷◌, map, refl, ap}
use Rattle.std.specs.Prelude.{if◌then◌else◌, filter}
pub use Rattle.actor_net.proofs.NumberCounts.{filter_few, none_in, numbered_times, times-append, times_filter}
use Rattle.net_world.specs.Log.{Done, done_where}

-- the numbers of what was processed of a unit
pub done_numbers : (mine : ℕ → Bool) (ds : List Done) → map (λ d. d.number) (done_where mine ds) ≡ filter mine (map (λ d. d.number) ds)
done_numbers mine [] = refl
done_numbers mine (d ∷ ds) = elim (mine d.number) as (λ b. map (λ e. e.number) (if b then d ∷ done_where mine ds else done_where mine ds)
    ≡ (if b then d.number ∷ filter mine (map (λ e. e.number) ds) else filter mine (map (λ e. e.number) ds))) [
      | true ↦ ap (λ l. d.number ∷ l) (done_numbers mine ds)
      | false ↦ done_numbers mine ds
    ]
