-- Packets by their numbers: where numbers rise, each finds its own packet, and what any number finds fits its types.
use Rattle.std.proofs.Common.{◌≡◌, ◌<◌, ◌≤◌, ◌^◌, ℕ, suc, ◌+◌, true, false, Some, List, [], ◌∷◌, map, length, refl, arith, lit<}
use Rattle.std.specs.Prelude.{if◌then◌else◌, ◌==◌, find, unwrap_or}
use Rattle.std.specs.List.{All, range_with_len}
use Rattle.std.proofs.lemmas.Bool.Decides.{nat_tests}
use Rattle.std.proofs.lemmas.List.Elements.{All-head, All-tail}
use Rattle.flow_filter.specs.declared.packet.Packet.{Packet}
use Rattle.flow_filter.specs.declared.site.Site.{Site}
use Rattle.nf_function.specs.Records.{Fits}
use Rattle.actor_net.proofs.WeightLaws.{Each}
use Rattle.net_world.specs.Input.{IsRising, IsSteered, no_packet}

-- what is found by a number fits its types
pub found_fits : (site : Site) (ps : List Packet) → site.inside.bits < 2 ^ 32 → All (IsSteered site) ps → (n : ℕ)
    → Fits site (unwrap_or (find (λ p. p.number == n) ps) no_packet)
found_fits site [] inside each n = record {
  transport = refl;
  nanos = lit< tt;
  length = lit< tt;
  src = lit< tt;
  sport = lit< tt;
  dst = lit< tt;
  dport = lit< tt;
  inside = inside;
}
found_fits site (p ∷ ps) inside each n =
    elim (p.number == n) as (λ b. Fits site (unwrap_or (if b then Some p else find (λ q. q.number == n) ps) no_packet)) [
      | true ↦ (All-head (IsSteered site) p ps each).fits
      | false ↦ found_fits site ps inside (All-tail (IsSteered site) p ps each) n
    ]

-- numbers that go up by one rise
pub one_by_one : (n : ℕ) (ps : List Packet) → map (λ p. p.number) ps ≡ range_with_len n (length ps) → IsRising n (map (λ p. p.number) ps)
one_by_one n [] same = tt
one_by_one n (p ∷ ps) same =
    let first : p.number ≡ n = cc in
    let rest : map (λ q. q.number) ps ≡ range_with_len (n + 1) (length ps) = cc in
    let next : suc p.number ≡ n + 1 = omega (arith, first) in
    (omega (arith, first), rw next (one_by_one (n + 1) ps rest))

-- where numbers rise, each finds its own packet
rising_above : (least : ℕ) (ps : List Packet) → IsRising least (map (λ p. p.number) ps) → Each (λ p. least ≤ p.number) ps
rising_above least [] h = tt
rising_above least (p ∷ ps) h = (h.0, more ps (rising_above (suc p.number) ps h.1))
  where
    more : (qs : List Packet) → Each (λ q. suc p.number ≤ q.number) qs → Each (λ q. least ≤ q.number) qs
    more [] e = tt
    more (q ∷ qs) e = let a = e.0 in let b = h.0 in (omega (arith, a, b), more qs e.1)

pub found_each : (least : ℕ) (ps : List Packet) → IsRising least (map (λ p. p.number) ps) → Each (λ p. find (λ q. q.number == p.number) ps ≡ Some p) ps
found_each least [] h = tt
found_each least (p ∷ ps) h = (own, skip_all ps (rising_above (suc p.number) ps h.1) (found_each (suc p.number) ps h.1))
  where
    own : (if p.number == p.number then Some p else find (λ q. q.number == p.number) ps) ≡ Some p
    own = let same : (p.number == p.number) ≡ true = grind (arith, nat_tests) in rw same refl

    skip : (q : Packet) → suc p.number ≤ q.number → find (λ z. z.number == q.number) ps ≡ Some q
        → (if p.number == q.number then Some p else find (λ z. z.number == q.number) ps) ≡ Some q
    skip q above is = let off : (p.number == q.number) ≡ false = grind (arith, nat_tests, above) in rw off is

    skip_all : (qs : List Packet) → Each (λ q. suc p.number ≤ q.number) qs → Each (λ q. find (λ z. z.number == q.number) ps ≡ Some q) qs
        → Each (λ q. (if p.number == q.number then Some p else find (λ z. z.number == q.number) ps) ≡ Some q) qs
    skip_all [] a e = tt
    skip_all (q ∷ qs) a e = (skip q a.0 e.0, skip_all qs a.1 e.1)
