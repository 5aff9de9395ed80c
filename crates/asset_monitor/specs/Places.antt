-- Steps between code and definition, which nobody has to believe: where a service stands among others, and where it would stand.
use Rattle.std.specs.Prelude.{◌≡◌, ℕ, ◌+◌, ◌<◌, ◌≤◌, List, length}
use Rattle.std.specs.List.{AllWithin, HoldsAt}
use Rattle.std.specs.declared.cmp.Ordering.TheVariants.{Less, Equal, Greater}
use Rattle.asset_monitor.specs.declared.service.Service.{Service}
use Rattle.asset_monitor.specs.Services.{end_cmp}

-- the service at this place has the protocol and the port of `s`
pub record IsAt (services : List Service) (s : Service) (place : ℕ) : Type 0 where
  pub in_range : place < length services
  pub before : AllWithin (λ other. end_cmp other s ≡ Less) services 0 place
  pub here : HoldsAt (λ other. end_cmp other s ≡ Equal) services place
  pub after : AllWithin (λ other. end_cmp other s ≡ Greater) services (place + 1) (length services)

-- no service has them, and `s` would stand at this place
pub record IsGap (services : List Service) (s : Service) (place : ℕ) : Type 0 where
  pub in_range : place ≤ length services
  pub before : AllWithin (λ other. end_cmp other s ≡ Less) services 0 place
  pub after : AllWithin (λ other. end_cmp other s ≡ Greater) services place (length services)
