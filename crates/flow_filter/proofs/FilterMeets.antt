-- Two filters have a meet exactly where they agree in every field that both give.
use Rattle.std.proofs.Common.{◌≡◌, ℕ, ◌-◌, ◌/◌, ◌^◌, Bool, true, false, ◌&&◌, ◌||◌, cond, eqb, leb, Option, None, Some, is_some, refl, ap, sym, ◌∙◌, arith}
use Rattle.std.specs.Prelude.{nat_eq}
use Rattle.std.proofs.lemmas.Bool.{leb-true, leb-false}
use Rattle.std.proofs.Math.Bool.{or-false}
use Rattle.std.proofs.lemmas.Cmp.{nat_eq_equiv}
use Rattle.basics.specs.Options.{◌>>=◌}
use Rattle.flow_filter.specs.declared.prefix.Prefix.{Prefix}
use Rattle.flow_filter.specs.declared.filter.Filter.{Filter}
use Rattle.flow_filter.specs.Filter.{holds, meet, meet_value, meet_prefix, meets, both_agree, overlap}

-- a chain gives something where each link does
some-chain : {A B : Type 0} (o : Option A) (f : A → Option B) (b : Bool) → ((x : A) → is_some (f x) ≡ b) → is_some (o >>= f) ≡ (is_some o && b)
some-chain None f b rest = refl
some-chain (Some x) f b rest = rest x

some-cond : {A : Type 0} (test : Bool) (x : A) → is_some (cond test (Some x) None) ≡ test
some-cond true x = refl
some-cond false x = refl

some-number : (x y : Option ℕ) → is_some (meet_value nat_eq x y) ≡ both_agree nat_eq x y
some-number None None = refl
some-number None (Some y) = refl
some-number (Some x) None = refl
some-number (Some x) (Some y) = some-cond (eqb x y) (Some x)

same_length : (p q : Prefix) → p.len ≡ q.len → holds q p.bits ≡ holds p q.bits
same_length p q same =
    ap (λ n. eqb (p.bits / 2 ^ (32 - n)) (q.bits / 2 ^ (32 - n))) (sym same) ∙ nat_eq_equiv.symm (p.bits / 2 ^ (32 - p.len)) (q.bits / 2 ^ (32 - p.len))

or_same : (a b : Bool) → b ≡ a → a ≡ (a || b)
or_same true b same = refl
or_same false b same = sym same

-- by which of the two is shorter
by_length : (p q : Prefix) (first second : Bool) → leb p.len q.len ≡ first → leb q.len p.len ≡ second
    → is_some (cond first (cond (holds p q.bits) (Some (Some q)) None) (cond (holds q p.bits) (Some (Some p)) None))
    ≡ ((first && holds p q.bits) || (second && holds q p.bits))
by_length p q true false le ge = some-cond (holds p q.bits) (Some q) ∙ sym (or-false (holds p q.bits))
by_length p q true true le ge =
    let up = leb-true p.len q.len le in let down = leb-true q.len p.len ge in
    some-cond (holds p q.bits) (Some q) ∙ or_same (holds p q.bits) (holds q p.bits) (same_length p q (omega arith))
by_length p q false true le ge = some-cond (holds q p.bits) (Some p)
by_length p q false false le ge = let up = leb-false p.len q.len le in let down = leb-false q.len p.len ge in absurd (omega arith)

some-prefix : (x y : Option Prefix) → is_some (meet_prefix x y) ≡ both_agree overlap x y
some-prefix None None = refl
some-prefix None (Some q) = refl
some-prefix (Some p) None = refl
some-prefix (Some p) (Some q) = by_length p q (leb p.len q.len) (leb q.len p.len) refl refl

five : (a b c d e : Bool) → (a && (b && (c && (d && (e && true))))) ≡ (a && b && c && d && e)
five false b c d e = refl
five true false c d e = refl
five true true false d e = refl
five true true true false e = refl
five true true true true false = refl
five true true true true true = refl

agree : (a b c d e v w x y z : Bool) → a ≡ v → b ≡ w → c ≡ x → d ≡ y → e ≡ z
    → (a && (b && (c && (d && (e && true))))) ≡ (v && w && x && y && z)
agree a b c d e v w x y z is_a is_b is_c is_d is_e = rw (is_a, is_b, is_c, is_d, is_e) (five v w x y z)

pub some-meet : (f g : Filter) → is_some (meet f g) ≡ meets f g
some-meet f g =
    some-chain (meet_value nat_eq f.proto g.proto) _ _ (λ a. some-chain (meet_prefix f.local g.local) _ _ (λ b.
    some-chain (meet_value nat_eq f.lport g.lport) _ _ (λ c. some-chain (meet_prefix f.remote g.remote) _ _ (λ d.
    some-chain (meet_value nat_eq f.rport g.rport) _ true (λ e. refl)))))
    ∙ agree _ _ _ _ _ _ _ _ _ _ (some-number f.proto g.proto) (some-prefix f.local g.local) (some-number f.lport g.lport)
    (some-prefix f.remote g.remote) (some-number f.rport g.rport)
