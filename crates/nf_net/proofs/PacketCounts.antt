-- At most as many packets are processed as came, where each is processed at most as often as it came; and as many, where it is as often.
use Rattle.nf_net.proofs.Words.{◌≡◌, ℕ, suc, ◌+◌, ◌≤◌, Bool, true, List, [], ◌∷◌, map, length, refl, sym, ap, ◌∙◌, arith, if◌then◌else◌, ◌==◌, nat_tests}
use Rattle.nf_net.proofs.Words.{Decides-eqb, length-map, Semantics, unit_at, same_unit_equiv, Msg, Note, Network, Config, Node, packet_numbered, arrivals_in}
use Rattle.nf_net.proofs.Words.{dones_in, done_where, is_of, arrived_of, processed_of, times_filter, given, Joined, Unit, split, Setting}
use Rattle.net_world.specs.Log.{Done}
use Rattle.net_world.specs.Fold.{times}
use Rattle.net_world.proofs.NumberCounts.{done_numbers}
use Rattle.proof_outlines.proofs.joined.RunsJoined.{once}

-- a list without the first of these
abbrev without : ℕ → List ℕ → List ℕ
without p [] = []
without p (q ∷ qs) = if p == q then qs else q ∷ without p qs

without_long : (p : ℕ) (xs : List ℕ) → 1 ≤ times p xs → length xs ≡ suc (length (without p xs))
without_long p [] some = absurd (omega (arith, some))
without_long p (x ∷ xs) some =
    split (p == x) (λ b. 1 ≤ (if b then 1 else 0) + times p xs → suc (length xs) ≡ suc (length (if b then xs else x ∷ without p xs))) (λ _ _. refl)
    (λ _ more. ap suc (without_long p xs (omega (arith, more)))) some

without_times : (p q : ℕ) (xs : List ℕ) → 1 ≤ times p xs → times q xs ≡ (if q == p then 1 else 0) + times q (without p xs)
without_times p q [] some = absurd (omega (arith, some))
without_times p q (x ∷ xs) some = split (p == x)
    (λ b. 1 ≤ (if b then 1 else 0) + times p xs → (if q == x then 1 else 0) + times q xs ≡ (if q == p then 1 else 0) + times q
    (if b then xs else x ∷ without p xs))
    (λ e _. let same : p ≡ x = (Decides-eqb p x).0 e in ap (λ y. (if q == y then 1 else 0) + times q xs) (sym same))
    (λ _ more. let rest = without_times p q xs (omega (arith, more)) in omega (arith, rest)) some

-- a list in which nothing stands oftener is no longer
pub no_longer : (xs ys : List ℕ) → ((p : ℕ) → times p xs ≤ times p ys) → length xs ≤ length ys
no_longer [] ys h = omega arith
no_longer (x ∷ xs) ys h =
    let own : (x == x) ≡ true = grind (arith, nat_tests) in
    let here : (if x == x then 1 else 0) + times x xs ≤ times x ys = h x in
    let first : ◌≡◌ {A = ℕ} (if x == x then 1 else 0) 1 = rw own refl in
    let some : 1 ≤ times x ys = omega (arith, here, first) in
    let rest = no_longer xs (without x ys) (λ p. let all = h p in let less = without_times x p ys some in omega (arith, all, less)) in
    omega (arith, rest, without_long x ys some)

pub done_times : (mine : ℕ → Bool) (p : ℕ) → mine p ≡ true → (ds : List Done)
    → times p (map (λ d. d.number) (done_where mine ds)) ≡ times p (map (λ d. d.number) ds)
done_times mine p is ds = ap (times p) (done_numbers mine ds) ∙ times_filter mine p is (map (λ d. d.number) ds)

-- where each is processed as often as it came, for its unit, it is so among all
pub all_done : {R : Type 0} (f : Semantics R) (c : Config) (items : List Msg) (log : List Note)
    → ((unit : Unit) (p : ℕ) → times p (processed_of f c items unit log) ≡ times p (arrived_of f c items unit log))
    → (p : ℕ) → times p (map (λ d. d.number) (dones_in log)) ≡ times p (arrivals_in log)
all_done f c items log each p =
    let u : Unit = unit_at f.kind c.site (packet_numbered items p) in
    let own : is_of f c items u p ≡ true = same_unit_equiv.refl u in
    sym (done_times (is_of f c items u) p own (dones_in log)) ∙ each u p ∙ times_filter (is_of f c items u) p own (arrivals_in log)

pub few_came : {R : Type 0} (f : Semantics R) (c : Config) (items : List Msg) (log : List Note)
    → ((unit : Unit) (p : ℕ) → times p (processed_of f c items unit log) ≡ times p (arrived_of f c items unit log))
    → length (arrivals_in log) ≤ length (dones_in log)
few_came f c items log each =
    let long = length-map (dones_in log) (λ d. d.number) in
    let fewer = no_longer (arrivals_in log) (map (λ d. d.number) (dones_in log)) (λ p. let same = all_done f c items log each p in omega (arith, same)) in
    omega (arith, long, fewer)

module _ {F R : Type 0} (setting : Setting F R) where
  open setting use {function as f, config as c, items}

  -- of a world of a run
  pub few_done : (n : ℕ) (w : Network (Node F R) Msg Note) → Joined f (given setting) n w → length (dones_in w.log) ≤ length (arrivals_in w.log)
  few_done n w j =
      let numbers : List ℕ = map (λ d. d.number) (dones_in w.log) in
      let long : length numbers ≡ length (dones_in w.log) = length-map (dones_in w.log) (λ d. d.number) in
      let fewer = no_longer numbers (arrivals_in w.log) (λ p.
      let u : Unit = unit_at f.kind c.site (packet_numbered items p) in
      let own : is_of f c items u p ≡ true = same_unit_equiv.refl u in
      let one : times p (processed_of f c items u w.log) ≤ times p (arrived_of f c items u w.log) = once setting n w j u p in
      let all : times p (arrived_of f c items u w.log) ≡ times p (arrivals_in w.log) = times_filter (is_of f c items u) p own (arrivals_in w.log) in
      let ran : times p (processed_of f c items u w.log) ≡ times p numbers = done_times (is_of f c items u) p own (dones_in w.log) in
      omega (arith, one, all, ran)) in
      omega (arith, long, fewer)
