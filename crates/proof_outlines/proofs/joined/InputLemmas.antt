-- Items of an input are found by their numbers, and their flows and filters are such as the proof of moves looks at.
use Rattle.proof_outlines.proofs.Words.{◌≡◌, ℕ, suc, ◌<◌, ◌≤◌, ◌^◌, Bool, true, false, Option, Some, None, List, [], ◌∷◌, map, refl, arith, if◌then◌else◌, ◌&&◌}
use Rattle.proof_outlines.proofs.Words.{◌||◌, ◌==◌, not, is_some, find, ForSome, nat_tests, Decides-ltb, Filter, Flow, Prefix, IsFilter, IsFlow, Kind}
use Rattle.proof_outlines.proofs.Words.{has_hosts, Each, each_both, IsRising, IsWhole}
use Rattle.proof_outlines.proofs.joined.Words.{number_fits, prefix_fits, filter_fits, flow_fits, is_whole, some_same}

module _ {X : Type 0} (key : X → ℕ) where
  rising_above : (least : ℕ) (xs : List X) → IsRising least (map key xs) → Each (λ x. least ≤ key x) xs
  rising_above least [] h = tt
  rising_above least (x ∷ xs) h = (h.0, more xs (rising_above (suc (key x)) xs h.1))
    where
      more : (ys : List X) → Each (λ y. suc (key x) ≤ key y) ys → Each (λ y. least ≤ key y) ys
      more [] e = tt
      more (y ∷ ys) e = let a = e.0 in let b = h.0 in (omega (arith, a, b), more ys e.1)

  -- where numbers rise, each number finds its own
  pub found_each : (least : ℕ) (xs : List X) → IsRising least (map key xs) → Each (λ x. find (λ y. key y == key x) xs ≡ Some x) xs
  found_each least [] h = tt
  found_each least (x ∷ xs) h = (self, each_both skip xs (rising_above (suc (key x)) xs h.1) (found_each (suc (key x)) xs h.1))
    where
      self : (if key x == key x then Some x else find (λ y. key y == key x) xs) ≡ Some x
      self = let same : (key x == key x) ≡ true = grind (arith, nat_tests) in rw same refl

      skip : (y : X) → suc (key x) ≤ key y → find (λ z. key z == key y) xs ≡ Some y
          → (if key x == key y then Some x else find (λ z. key z == key y) xs) ≡ Some y
      skip y above is = let off : (key x == key y) ≡ false = grind (arith, nat_tests, above) in rw off is

pub fits_flow : (flow : Flow) → IsFlow flow → flow_fits flow ≡ true
fits_flow flow h =
    let d = (Decides-ltb flow.remote (2 ^ 32)).1 h.remote in
    let e = (Decides-ltb flow.rport (2 ^ 16)).1 h.rport in
    rw ((Decides-ltb flow.proto (2 ^ 8)).1 h.proto, (Decides-ltb flow.local (2 ^ 32)).1 h.local, (Decides-ltb flow.lport (2 ^ 16)).1 h.lport, d, e) refl

fits_number : (top : ℕ) (o : Option ℕ) → ForSome o (λ n. n < top) → number_fits top o ≡ true
fits_number top None h = refl
fits_number top (Some n) h = (Decides-ltb n top).1 (h n refl)

fits_prefix : (o : Option Prefix) → ForSome o (λ p. p.bits < 2 ^ 32) → prefix_fits o ≡ true
fits_prefix None h = refl
fits_prefix (Some p) h = (Decides-ltb p.bits (2 ^ 32)).1 (h p refl)

pub fits_filter : (g : Filter) → IsFilter g → filter_fits g ≡ true
fits_filter g h =
    let e = fits_number (2 ^ 16) g.rport h.rport in
    rw (fits_number (2 ^ 8) g.proto h.proto, fits_prefix g.local h.local, fits_number (2 ^ 16) g.lport h.lport, fits_prefix g.remote h.remote, e) refl

alone_of : (hosts a b c d : Bool) → hosts && (a || b || c || d) ≡ false → not hosts || not (a || (b || (c || d))) ≡ true
alone_of false a b c d h = refl
alone_of true false false false false h = refl
alone_of true true b c d h = cc
alone_of true false true c d h = cc
alone_of true false false true d h = cc
alone_of true false false false true h = cc

pub whole_is : (kind : Kind) (g : Filter) → IsWhole kind g → is_whole kind g ≡ true
whole_is kind g h =
    let remote = some_same Rattle.flow_filter.specs.Reading.prefix_numbers g.remote in
    let more : has_hosts kind && (is_some g.proto || is_some g.lport || is_some g.remote || is_some g.rport) ≡ false = rw remote at h.whole in
    rw (fits_filter g h.numbers) (alone_of (has_hosts kind) (is_some g.proto) (is_some g.lport) (is_some g.remote) (is_some g.rport) more)
