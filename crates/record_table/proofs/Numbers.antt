-- The numbers of units stand in the order of the units.
use Rattle.std.proofs.Common.{◌≡◌, ℕ, ◌+◌, ◌*◌, ◌^◌, ◌<◌, List, [], ◌∷◌, length, get_or, Bor, refl, sym, ap, ◌∙◌, arith}
use Rattle.std.specs.List.{All}
use Rattle.std.specs.List.Sorted.{IsSortedByKey}
use Rattle.std.proofs.lemmas.List.{length-map, get_or-map}
use Rattle.std.proofs.lemmas.Grind.{common_steps, rows}
use Rattle.std.specs.Cmp.{nat_cmp_is, ranked}
use Rattle.std.specs.Ordering.{nat_cmp, ordering_then, is_lt, MatchOrdering}
use Rattle.std.specs.declared.cmp.Ordering.{Ordering}
use Rattle.std.specs.declared.cmp.Ordering.TheVariants.{Less, Equal, Greater}
use Rattle.flow_filter.specs.declared.flow.Flow.{Flow}
use Rattle.flow_filter.specs.Flow.{flow_cmp}
use Rattle.nf_function.specs.declared.unit.Unit as units
use Rattle.nf_function.specs.declared.unit.Unit.TheVariants.{Flow as OfFlow, Host as OfHost}
use Rattle.nf_function.specs.Units.{unit_cmp}
use Rattle.nf_function.proofs.StoredNumbers.{ordering_then-assoc}
use Rattle.record_table.specs.declared.ordered.Found.{Found}
use Rattle.record_table.specs.Keeping.{AreWithin, IsWithin, flow_number, unit_number, IsNumbered, pairs_of}

-- a greater first digit makes a number greater
greater : (base a b c : ℕ) → b < base → a < c → a * base + b < c * base
greater base a b c small less = grind (arith, common_steps, rows)

-- numbers of two digits are compared by the first, and then by the second
two_digits : (base a b c d : ℕ) → b < base → d < base → (o p : Ordering) → MatchOrdering o (a < c) (a ≡ c) (c < a) → MatchOrdering p (b < d) (b ≡ d) (d < b)
    → MatchOrdering (ordering_then o p) (a * base + b < c * base + d) (a * base + b ≡ c * base + d) (c * base + d < a * base + b)
two_digits base a b c d small other Less p first second = omega (arith, greater base a b c small first)
two_digits base a b c d small other Equal Less first second = omega (arith, ap (λ x. x * base) first, second)
two_digits base a b c d small other Equal Equal first second = omega (arith, ap (λ x. x * base) first, second)
two_digits base a b c d small other Equal Greater first second = omega (arith, ap (λ x. x * base) first, second)
two_digits base a b c d small other Greater p first second = omega (arith, greater base c d a other first)

rank : (x y : ℕ) → MatchOrdering (nat_cmp x y) (x < y) (x ≡ y) (y < x)
rank x y = ranked x y (nat_cmp x y) refl

flows : (a b : Flow) → AreWithin a → AreWithin b → flow_cmp a b ≡ nat_cmp (flow_number a) (flow_number b)
flows a b v w =
    let proto = nat_cmp a.proto b.proto in
    let local = nat_cmp a.local b.local in
    let lport = nat_cmp a.lport b.lport in
    let remote = nat_cmp a.remote b.remote in
    let rport = nat_cmp a.rport b.rport in
    let front = two_digits (2 ^ 32) a.proto a.local b.proto b.local v.local w.local proto local (rank a.proto b.proto) (rank a.local b.local) in
    let near = two_digits (2 ^ 16) (a.proto * 2 ^ 32 + a.local) a.lport (b.proto * 2 ^ 32 + b.local) b.lport v.lport w.lport (ordering_then proto local) lport
    front (rank a.lport b.lport) in
    let far = two_digits (2 ^ 16) a.remote a.rport b.remote b.rport v.rport w.rport remote rport (rank a.remote b.remote) (rank a.rport b.rport) in
    let whole = two_digits (2 ^ 64) ((a.proto * 2 ^ 32 + a.local) * 2 ^ 16 + a.lport) (a.remote * 2 ^ 16 + a.rport)
    ((b.proto * 2 ^ 32 + b.local) * 2 ^ 16 + b.lport) (b.remote * 2 ^ 16 + b.rport)
    (omega (arith, v.remote, v.rport)) (omega (arith, w.remote, w.rport)) (ordering_then (ordering_then proto local) lport) (ordering_then remote rport)
    near far in
    sym (ordering_then-assoc proto local (ordering_then lport (ordering_then remote rport)))
    ∙ sym (ordering_then-assoc (ordering_then proto local) lport (ordering_then remote rport))
    ∙ nat_cmp_is (flow_number a) (flow_number b) (ordering_then (ordering_then (ordering_then proto local) lport) (ordering_then remote rport)) whole

below_hosts : (a : Flow) → AreWithin a → (host : ℕ) → flow_number a < (2 ^ 56 + host) * 2 ^ 64
below_hosts a w host = omega (arith, w.proto, w.local, w.lport, w.remote, w.rport)

hosts : (x y : ℕ) (o : Ordering) → MatchOrdering o (x < y) (x ≡ y) (y < x) → MatchOrdering o ((2 ^ 56 + x) * 2 ^ 64 < (2 ^ 56 + y) * 2 ^ 64)
    ((2 ^ 56 + x) * 2 ^ 64 ≡ (2 ^ 56 + y) * 2 ^ 64) ((2 ^ 56 + y) * 2 ^ 64 < (2 ^ 56 + x) * 2 ^ 64)
hosts x y Less h = omega (arith, h)
hosts x y Equal h = omega (arith, h)
hosts x y Greater h = omega (arith, h)

-- units and their numbers stand in one order
numbers : (a b : units.Unit) → IsWithin a → IsWithin b → unit_cmp a b ≡ nat_cmp (unit_number a) (unit_number b)
numbers (OfFlow a) (OfFlow b) v w = flows a b v w
numbers (OfFlow a) (OfHost b) v w = nat_cmp_is (unit_number (OfFlow a)) (unit_number (OfHost b)) Less (below_hosts a v b)
numbers (OfHost a) (OfFlow b) v w = nat_cmp_is (unit_number (OfHost a)) (unit_number (OfFlow b)) Greater (below_hosts b w a)
numbers (OfHost a) (OfHost b) v w = nat_cmp_is (unit_number (OfHost a)) (unit_number (OfHost b)) (nat_cmp a b) (hosts a b (nat_cmp a b) (rank a b))

module _ {R : Type 0} where
  numbered : (x y : Found R) → IsNumbered x → IsNumbered y → is_lt (unit_cmp x.unit.now y.unit.now) ≡ is_lt (nat_cmp x.number y.number)
  numbered x y v w = ap is_lt (numbers x.unit.now y.unit.now v.within w.within) ∙ ap (λ n. is_lt (nat_cmp n (unit_number y.unit.now))) (sym v.number)
      ∙ ap (λ n. is_lt (nat_cmp x.number n)) (sym w.number)

  -- what is sorted by the numbers is sorted by the units
  pub sorted_pairs : (xs : List (Found R)) → All IsNumbered xs → IsSortedByKey (λ e. e.number) nat_cmp xs
      → IsSortedByKey (λ (e : units.Unit × Bor R). e.0) unit_cmp (pairs_of xs)
  sorted_pairs [] each sorted k d low within = absurd (omega (arith, within))
  sorted_pairs (x ∷ xs) each sorted k d low within =
      let ys = x ∷ xs in
      let pair : Found R → units.Unit × Bor R = λ e. (e.unit.now, e.record) in
      let long : k + 1 < length ys = rw (length-map ys pair) at within in
      let first = get_or-map pair ys k x d (omega (arith, long)) in
      let second = get_or-map pair ys (k + 1) x d long in
      rw (first, second) (numbered (get_or ys (k + 1) x) (get_or ys k x) (each (k + 1) x long) (each k x (omega (arith, long))) ∙ sorted k x low long)
