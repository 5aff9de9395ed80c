-- Prefixes and sites are the same where their numbers are.
use Rattle.std.proofs.Common.{◌≡◌, ℕ, ◌-◌, ◌^◌, ◌≤◌, false, Option, refl, subst}
use Rattle.std.specs.Prelude.{◌%◌}
use Rattle.std.specs.Option.{ForSome}
use Rattle.std.proofs.Math.Bool.{Bool-set}
use Rattle.std.proofs.Math.Bridge.{le_prop}
use Rattle.std.proofs.Math.Nat.{ℕ_set}
use Rattle.flow_filter.specs.declared.prefix.Prefix.{Prefix}
use Rattle.flow_filter.specs.declared.site.Site.{Site}
use Rattle.flow_filter.specs.Prefixes.{in_prefix}

-- functions that give the same are the same
ext : {A : Type 0} {B : A → Type 0} (f g : (x : A) → B x) → ((x : A) → f x ≡ g x) → f ≡ g
ext f g h = λ i x. h x i

-- what a prefix keeps of its numbers is no part of which prefix it is
prefix_as : (bits len : ℕ) (w v : len ≤ 32) (a b : bits % 2 ^ (32 - len) ≡ 0) (P : Prefix → Type 0)
    → P (record { bits = bits; len = len; within = w; aligned = a }) → P (record { bits = bits; len = len; within = v; aligned = b })
prefix_as bits len w v a b P holds =
    subst (λ y. P (record { bits = bits; len = len; within = v; aligned = y })) (ℕ_set (bits % 2 ^ (32 - len)) 0 a b)
    (subst (λ x. P (record { bits = bits; len = len; within = x; aligned = a })) (le_prop w v) holds)

with_bits : (p : Prefix) (bits len : ℕ) → p.bits ≡ bits → p.len ≡ len → (w : len ≤ 32) (a : bits % 2 ^ (32 - len) ≡ 0)
    → p ≡ record { bits = bits; len = len; within = w; aligned = a }
with_bits p bits len e f =
    subst (λ n. (w : n ≤ 32) (a : bits % 2 ^ (32 - n) ≡ 0) → p ≡ record { bits = bits; len = n; within = w; aligned = a }) f
    (subst (λ m. (w : p.len ≤ 32) (a : m % 2 ^ (32 - p.len) ≡ 0) → p ≡ record { bits = m; len = p.len; within = w; aligned = a }) e
    (λ w a. prefix_as p.bits p.len p.within w p.aligned a (λ x. p ≡ x) refl))

pub same_prefix : (p q : Prefix) → p.bits ≡ q.bits → p.len ≡ q.len → p ≡ q
same_prefix p q e f = with_bits p q.bits q.len e f q.within q.aligned

-- nor is what a site keeps
abbrev Translates : Prefix → Option ℕ → Type 0
Translates inside outside = ForSome outside (λ address. (inside.len ≡ 24) × (in_prefix inside.bits inside.len address ≡ false))

same_translates : (inside : Prefix) (outside : Option ℕ) (a b : Translates inside outside) → a ≡ b
same_translates inside outside a b = ext a b (λ x. ext (a x) (b x)
    (λ is i. (ℕ_set inside.len 24 (a x is).0 (b x is).0 i, Bool-set (in_prefix inside.bits inside.len x) false (a x is).1 (b x is).1 i)))

with_ends : (s : Site) (inside : Prefix) (outside : Option ℕ) → s.inside ≡ inside → s.outside ≡ outside → (t : Translates inside outside)
    → s ≡ record { inside = inside; outside = outside; translates = t }
with_ends s inside outside e f =
    subst (λ o. (t : Translates inside o) → s ≡ record { inside = inside; outside = o; translates = t }) f
    (subst (λ p. (t : Translates p s.outside) → s ≡ record { inside = p; outside = s.outside; translates = t }) e
    (λ t. subst (λ y. s ≡ record { inside = s.inside; outside = s.outside; translates = y }) (same_translates s.inside s.outside s.translates t) refl))

pub same_site : (s t : Site) → s.inside ≡ t.inside → s.outside ≡ t.outside → s ≡ t
same_site s t e f = with_ends s t.inside t.outside e f t.translates
