-- Lists of rules: what a number finds after rules were changed, or one was put after them.
use Rattle.proof_machines.proofs.NumberedLists.{find-append_own, find-append_other, find-change_own, find-change_other, each-change}
use Rattle.proof_machines.proofs.net.Words.{◌≡◌, ℕ, true, false, Option, Some, None, List, [], ◌∷◌, ◌++◌, refl, sym, ap, ◌∙◌, if◌then◌else◌, ◌==◌, option_map}
use Rattle.proof_machines.proofs.net.Words.{is_some, eqb-true, Filter, Rule, Each, each-append, Ruling, find_rule, change_rules, has_rule, ruled_by, new_rule}
use Rattle.proof_machines.proofs.net.Words.{holding, set_rule, hold, held_of, rule_of, none_is, either_way, split, by_if}

-- a rule is set
pub find_set_other : (n m : ℕ) (g : Filter) (k : Rule) (rs : List Ruling) → (m == n) ≡ false → find_rule n (set_rule m g k rs) ≡ find_rule n rs
find_set_other n m g k rs off =
    by_if (λ r. find_rule n r ≡ find_rule n rs) (has_rule m rs) (find-change_other _ (ruled_by g k) (λ r. refl) m n rs off)
    (find-append_other _ n (new_rule m g k) rs off)

pub set_own_rule : (n : ℕ) (g : Filter) (k : Rule) (rs : List Ruling) → (n == n) ≡ true → rule_of (find_rule n (set_rule n g k rs)) ≡ k
set_own_rule n g k rs self =
    split (has_rule n rs) (λ b. rule_of (find_rule n (if b then change_rules n (ruled_by g k) rs else rs ++ new_rule n g k ∷ [])) ≡ k)
    (λ e. ap rule_of (find-change_own _ (ruled_by g k) (λ r. refl) n rs) ∙ by_found (find_rule n rs) e)
    (λ e. ap rule_of (find-append_own _ n (new_rule n g k) rs self (none_is (find_rule n rs) e)))
  where
    by_found : (o : Option Ruling) → is_some o ≡ true → rule_of (option_map (ruled_by g k) o) ≡ k
    by_found None e = cc
    by_found (Some r) e = refl

pub set_own_held : (n : ℕ) (g : Filter) (k : Rule) (rs : List Ruling) → (n == n) ≡ true → held_of (find_rule n (set_rule n g k rs)) ≡ held_of (find_rule n rs)
set_own_held n g k rs self =
    split (has_rule n rs) (λ b. held_of (find_rule n (if b then change_rules n (ruled_by g k) rs else rs ++ new_rule n g k ∷ [])) ≡ held_of (find_rule n rs))
    (λ e. ap held_of (find-change_own _ (ruled_by g k) (λ r. refl) n rs) ∙ same_held (find_rule n rs))
    (λ e. ap held_of (find-append_own _ n (new_rule n g k) rs self (none_is (find_rule n rs) e)) ∙ sym (ap held_of (none_is (find_rule n rs) e)))
  where
    same_held : (o : Option Ruling) → held_of (option_map (ruled_by g k) o) ≡ held_of o
    same_held None = refl
    same_held (Some r) = refl

pub each_set : (P : Ruling → Type 0) (m : ℕ) (g : Filter) (k : Rule) (rs : List Ruling) → ((r : Ruling) → (r.num == m) ≡ true → P r → P (ruled_by g k r))
    → P (new_rule m g k) → Each P rs → Each P (set_rule m g k rs)
each_set P m g k rs step new h =
    by_if (Each P) (has_rule m rs) (each-change _ P m (ruled_by g k) step rs h) (each-append P rs (new_rule m g k ∷ []) h (new, tt))

-- a packet is held
pub find_hold_other : (n m p : ℕ) (rs : List Ruling) → (m == n) ≡ false → find_rule n (hold m p rs) ≡ find_rule n rs
find_hold_other n m p rs off = find-change_other _ (holding p) (λ r. refl) m n rs off

pub find_hold_own : (n p : ℕ) (rs : List Ruling) → find_rule n (hold n p rs) ≡ option_map (holding p) (find_rule n rs)
find_hold_own n p rs = find-change_own _ (holding p) (λ r. refl) n rs

same_rule : (p : ℕ) (o : Option Ruling) → rule_of (option_map (holding p) o) ≡ rule_of o
same_rule p None = refl
same_rule p (Some r) = refl

pub hold_rule : (n m p : ℕ) (rs : List Ruling) → rule_of (find_rule n (hold m p rs)) ≡ rule_of (find_rule n rs)
hold_rule n m p rs =
    either_way (m == n)
    (λ e. let same : m ≡ n = eqb-true m n e in
    ap (λ k. rule_of (find_rule n (hold k p rs))) same ∙ ap rule_of (find_hold_own n p rs) ∙ same_rule p (find_rule n rs))
    (λ off. ap rule_of (find_hold_other n m p rs off))
