-- Marks of numbers, one for each number from 0: more room marks no number, and one mark more is one number more.
use Rattle.standby_failover.proofs.Words.{◌≡◌, ℕ, ◌+◌, ◌<◌, ◌≤◌, Bool, true, false, zero, suc, List, [], ◌∷◌, ◌++◌, length, take, get_or, refl, sym, ap, ◌∙◌}
use Rattle.standby_failover.proofs.Words.{◌==◌, ◌||◌, Decides-eqb, true≢false, take_all, take_more, is_in, is_marked}
use Rattle.std.proofs.Common.{set, replicate}
use Rattle.std.proofs.lemmas.Grind.{get_or-set_at}
use Rattle.std.proofs.lemmas.List.{get_or-set_other}
use Rattle.standby_failover.proofs.ListLemmas.{in-append}

-- room alone marks none
none_marked : (k q : ℕ) → is_marked (replicate k false) q ≡ false
none_marked zero q = refl
none_marked (suc k) zero = refl
none_marked (suc k) (suc q) = none_marked k q

with_room : (xs : List Bool) (k q : ℕ) → is_marked (xs ++ replicate k false) q ≡ is_marked xs q
with_room [] k q = none_marked k q
with_room (x ∷ xs) k zero = refl
with_room (x ∷ xs) k (suc q) = with_room xs k q

pub room_more : (n k : ℕ) (old new : List Bool) → length old ≤ n → new ≡ take n old ++ replicate k false → (q : ℕ) → is_marked new q ≡ is_marked old q
room_more n k old new few is q = ap (λ xs. is_marked xs q) (is ∙ ap (λ xs. xs ++ replicate k false) (take_all n old few)) ∙ with_room old k q

-- a mark is put
pub mark_put : (xs : List Bool) (i q : ℕ) → i < length xs → is_marked (set xs i true) q ≡ (q == i || is_marked xs q)
mark_put xs i q within = by_test (q == i) refl
  where
    by_test : (b : Bool) → (q == i) ≡ b → is_marked (set xs i true) q ≡ (b || is_marked xs q)
    by_test true on = get_or-set_at xs i q true false ((Decides-eqb q i).0 on) within
    by_test false off = get_or-set_other xs i q true false (λ e. true≢false (sym ((Decides-eqb q i).1 e) ∙ off))

or_cond : (a b : Bool) → (a || b) ≡ (b || (a || false))
or_cond true true = refl
or_cond true false = refl
or_cond false true = refl
or_cond false false = refl

-- the numbers so far, and one more
pub marked_next : (xs : List ℕ) (n q : ℕ) (old new : Bool) → new ≡ (q == n || old) → old ≡ is_in q xs → new ≡ is_in q (xs ++ n ∷ [])
marked_next xs n q old new is so_far =
    is ∙ or_cond (q == n) old ∙ ap (λ b. b || ((q == n) || false)) so_far ∙ sym (in-append q xs (n ∷ []))

pub marked_more : (xs : List ℕ) (i d q : ℕ) (old new : Bool) → i < length xs → new ≡ (q == get_or xs i d || old) → old ≡ is_in q (take i xs)
    → new ≡ is_in q (take (i + 1) xs)
marked_more xs i d q old new within is so_far =
    marked_next (take i xs) (get_or xs i d) q old new is so_far ∙ ap (is_in q) (sym (take_more xs i d within))
