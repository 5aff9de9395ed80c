-- The list of open shares: what is found by a number after one changed, or after another began.
use Rattle.std.proofs.Common.{◌≡◌, ℕ, Bool, true, false, Some, None, List, [], ◌∷◌, ◌++◌, refl, sym, ap, ◌∙◌, subst}
use Rattle.std.specs.Prelude.{if◌then◌else◌, ◌==◌}
use Rattle.std.proofs.lemmas.Bool.Decides.{Decides-eqb}
use Rattle.std.specs.List.{find}
use Rattle.std.specs.Option.{option_or}
use Rattle.std.proofs.lemmas.List.Folds.{find-append}
use Rattle.proof_machines.proofs.unit.Labels.{Each, each_any}
use Rattle.copy_share.specs.declared.share_phase.SharePhase.{SharePhase}
use Rattle.proof_machines.proofs.net.Shares.{OpenShare, find_share, set_share}
use Rattle.proof_machines.proofs.Tests.{split, by_if}

-- what of a share never changes
pub record SameShare (d e : OpenShare) : Type 0 where
  pub num : d.num ≡ e.num
  pub home : d.home ≡ e.home
  pub members : d.members ≡ e.members
  pub filter : d.filter ≡ e.filter

-- no two shares have one number
abbrev pub AreNumbersApart : List OpenShare → Type 0
AreNumbersApart [] = Unit {0}
AreNumbersApart (e ∷ es) = Each (λ d. (e.num == d.num) ≡ false) es × AreNumbersApart es

-- what is found passes, and has what each has
pub find_each : {X : Type 0} (P : X → Type 0) (test : X → Bool) (xs : List X) (x : X) → Each P xs → find test xs ≡ Some x → P x × (test x ≡ true)
find_each P test [] x h is = cc
find_each P test (y ∷ ys) x h is = split (test y) (λ b. (if b then Some y else find test ys) ≡ Some x → P x × (test x ≡ true))
    (λ on there. let same : y ≡ x = cc in (subst P same h.0, subst (λ z. test z ≡ true) same on)) (λ _ there. find_each P test ys x h.1 there) is

pub found_num : (es : List OpenShare) (n : ℕ) (e : OpenShare) → find_share es n ≡ Some e → (e.num == n) ≡ true
found_num es n e is = (find_each (λ _. Unit {0}) (λ d. d.num == n) es e (each_any es) is).1

pub found_each : (P : OpenShare → Type 0) (es : List OpenShare) (n : ℕ) (e : OpenShare) → Each P es → find_share es n ≡ Some e → P e
found_each P es n e h is = (find_each P (λ d. d.num == n) es e h is).0

-- found by its own number
pub found_own : (es : List OpenShare) (n : ℕ) (e : OpenShare) → find_share es n ≡ Some e → find_share es e.num ≡ Some e
found_own es n e is = let same : e.num ≡ n = (Decides-eqb e.num n).0 (found_num es n e is) in subst (λ k. find_share es k ≡ Some e) (sym same) is

pub each_set_share : (P : OpenShare → Type 0) (n : ℕ) (ph : SharePhase) (q : List ℕ) (es : List OpenShare) (e : OpenShare) → find_share es n ≡ Some e
    → P (record e { phase = ph; queue = q }) → Each P es → Each P (set_share n ph q es)
each_set_share P n ph q [] e is new h = tt
each_set_share P n ph q (x ∷ es) e is new h = split (x.num == n)
    (λ b. (if b then Some x else find_share es n) ≡ Some e → Each P (if b then record x { phase = ph; queue = q } ∷ es else x ∷ set_share n ph q es))
    (λ _. λ there. let same : x ≡ e = cc in (subst (λ y. P (record y { phase = ph; queue = q })) (sym same) new, h.1))
    (λ _. λ there. (h.0, each_set_share P n ph q es e there new h.1)) is

itself : (e : OpenShare) → SameShare e e
itself e = record { num = refl; home = refl; members = refl; filter = refl }

changed : (e : OpenShare) (ph : SharePhase) (q : List ℕ) → SameShare (record e { phase = ph; queue = q }) e
changed e ph q = record { num = refl; home = refl; members = refl; filter = refl }

-- a share found in a list
pub record Found (es : List OpenShare) (k : ℕ) (e : OpenShare) : Type 0 where
  pub share : OpenShare
  pub found : find_share es k ≡ Some share
  pub same : SameShare share e

-- after a change the same shares are found
pub find_set : (n : ℕ) (ph : SharePhase) (q : List ℕ) (es : List OpenShare) (k : ℕ) (e : OpenShare) → find_share es k ≡ Some e → Found (set_share n ph q es) k e
find_set n ph q [] k e is = cc
find_set n ph q (x ∷ es) k e is = by_if (λ r. Found r k e) (x.num == n) (first (x.num == k) refl is)
    (later (x.num == k) (λ there. find_set n ph q es k e there) refl is)
  where
    first : (b : Bool) → (x.num == k) ≡ b → (if b then Some x else find_share es k) ≡ Some e → Found (record x { phase = ph; queue = q } ∷ es) k e
    first true on there =
        let same : x ≡ e = cc in
        record {
          share = record x { phase = ph; queue = q };
          found = rw on refl;
          same = subst (λ y. SameShare (record x { phase = ph; queue = q }) y) same (changed x ph q);
        }
    first false on there = record { share = e; found = rw on there; same = itself e }

    later : (b : Bool) → (find_share es k ≡ Some e → Found (set_share n ph q es) k e) → (x.num == k) ≡ b → (if b then Some x else find_share es k) ≡ Some e
        → Found (x ∷ set_share n ph q es) k e
    later true more on there = let same : x ≡ e = cc in record { share = x; found = rw on refl; same = subst (λ y. SameShare x y) same (itself x) }
    later false more on there = let f = more there in record { share = f.share; found = rw on f.found; same = f.same }

-- and no others
pub set_find : (n : ℕ) (ph : SharePhase) (q : List ℕ) (es : List OpenShare) (k : ℕ) (e : OpenShare) → find_share (set_share n ph q es) k ≡ Some e → Found es k e
set_find n ph q [] k e is = cc
set_find n ph q (x ∷ es) k e is = split (x.num == n)
    (λ a. find_share (if a then record x { phase = ph; queue = q } ∷ es else x ∷ set_share n ph q es) k ≡ Some e → Found (x ∷ es) k e)
    (λ _. first (x.num == k) refl) (λ _. later (x.num == k) (λ there. set_find n ph q es k e there) refl) is
  where
    first : (b : Bool) → (x.num == k) ≡ b → (if b then Some (record x { phase = ph; queue = q }) else find_share es k) ≡ Some e → Found (x ∷ es) k e
    first true on there =
        let same : record x { phase = ph; queue = q } ≡ e = cc in
        record { share = x; found = rw on refl; same = subst (λ y. SameShare x y) same (record { num = refl; home = refl; members = refl; filter = refl }) }
    first false on there = record { share = e; found = rw on there; same = itself e }

    later : (b : Bool) → (find_share (set_share n ph q es) k ≡ Some e → Found es k e) → (x.num == k) ≡ b
        → (if b then Some x else find_share (set_share n ph q es) k) ≡ Some e → Found (x ∷ es) k e
    later true more on there = let same : x ≡ e = cc in record { share = x; found = rw on refl; same = subst (λ y. SameShare x y) same (itself x) }
    later false more on there = let f = more there in record { share = f.share; found = rw on f.found; same = f.same }

-- behind another share
pub find_more : (es : List OpenShare) (x : OpenShare) (k : ℕ) (e : OpenShare) → find_share es k ≡ Some e → find_share (es ++ x ∷ []) k ≡ Some e
find_more es x k e is = find-append (λ d. d.num == k) es (x ∷ []) ∙ ap (λ o. option_or o (find_share (x ∷ []) k)) is

pub find_old : (es : List OpenShare) (x : OpenShare) (k : ℕ) → (x.num == k) ≡ false → find_share (es ++ x ∷ []) k ≡ find_share es k
find_old [] x k off = rw off refl
find_old (y ∷ es) x k off = ap (λ o. if y.num == k then Some y else o) (find_old es x k off)

pub find_new : (es : List OpenShare) (x : OpenShare) (k : ℕ) → find_share es k ≡ None → (x.num == k) ≡ true → find_share (es ++ x ∷ []) k ≡ Some x
find_new es x k none on = find-append (λ d. d.num == k) es (x ∷ []) ∙ rw (none, on) refl
