-- Lines in the order of their points: what they say at a point stands first, and what stands after it is in order again.
use Rattle.op_script.proofs.Words.{◌≡◌, ◌∙◌, ℕ, suc, ◌+◌, ◌*◌, ◌^◌, ◌<◌, ◌≤◌, Bool, true, false, cond, eqb, List, [], ◌∷◌, map, filter, length, get_or, take}
use Rattle.op_script.proofs.Words.{drop, ap, sym, refl, subst, inl, inr, arith, leb, prefix_len, cases_Bool, leb-true, nat_tests, Msg, Line, msg_of}
use Rattle.op_script.proofs.Words.{said_where, AreLinesFrom}
use Rattle.std.proofs.Common.{eqb-true}
use Rattle.std.specs.List.{take-map, drop-map}
use Rattle.std.specs.List.Sorted.{IsNonDecreasingBy, IsStableByKey, ties}
use Rattle.std.specs.Ordering.{nat_cmp, is_lt}
use Rattle.std.proofs.lemmas.List.Sorted.{IsNonDecreasingBy-drop}
use Rattle.std.proofs.lemmas.Simd.{map-map}
use Rattle.std.proofs.lemmas.List.{length-drop}
use Rattle.op_script.specs.Items.{IsFrom}

-- what is said at one point
abbrev pub said_at : ℕ → List Line → List Msg
said_at point lines = said_where (λ at. eqb at point) lines

said_here : (point : ℕ) (line : Line) (more : List Line) → eqb line.at point ≡ true → said_at point (line ∷ more) ≡ msg_of line.what ∷ said_at point more
said_here point line more here = rw here refl

said_later : (point : ℕ) (line : Line) (more : List Line) → eqb line.at point ≡ false → said_at point (line ∷ more) ≡ said_at point more
said_later point line more other = rw other refl

apart : (a b : ℕ) → a < b → eqb b a ≡ false
apart a b below = grind (arith, nat_tests)

-- no line stands at a point before the first
nothing_before : (k point : ℕ) (lines : List Line) → IsFrom k lines → point < k → said_at point lines ≡ []
nothing_before k point [] order before = refl
nothing_before k point (line ∷ more) order before =
    let far : point < line.at = (let first : k ≤ line.at = order.0 in omega arith) in
    said_later point line more (apart point line.at far) ∙ nothing_before line.at point more order.1 far

pub prefix_len-map : {X Y : Type 0} (f : X → Y) (test : Y → Bool) (xs : List X) → prefix_len (λ x. test (f x)) xs ≡ prefix_len test (map f xs)
prefix_len-map f test [] = refl
prefix_len-map f test (x ∷ more) = ap (λ n. cond (test (f x)) (1 + n) 0) (prefix_len-map f test more)

-- the first n lines are those at k
record Cut (k n : ℕ) (lines : List Line) : Type 0 where
  said : map (λ line. msg_of line.what) (take n lines) ≡ said_at k lines
  order : IsFrom (k + 1) (drop n lines)
  same : (point : ℕ) → k + 1 ≤ point → said_at point (drop n lines) ≡ said_at point lines

cut_first : (k n : ℕ) (line : Line) (more : List Line) → eqb line.at k ≡ true → Cut k n more → Cut k (suc n) (line ∷ more)
cut_first k n line more here rest = record {
  said = ap (λ ms. msg_of line.what ∷ ms) rest.said ∙ sym (said_here k line more here);
  order = rest.order;
  same = λ point far. rest.same point far ∙ sym (said_later point line more (let at : line.at ≡ k = eqb-true line.at k here in grind (arith, nat_tests)));
}

cut_none : (k : ℕ) (line : Line) (more : List Line) → eqb line.at k ≡ false → IsFrom k (line ∷ more) → Cut k 0 (line ∷ more)
cut_none k line more other order =
    let first : k ≤ line.at = order.0 in
    let from : IsFrom (k + 1) (line ∷ more) = (grind (arith, nat_tests), order.1) in
    record {
      said = sym (nothing_before (k + 1) k (line ∷ more) from (omega arith));
      order = from;
      same = λ point far. refl;
    }

cut : (k : ℕ) (lines : List Line) → IsFrom k lines → Cut k (prefix_len (λ line. eqb line.at k) lines) lines
cut k [] order = record { said = refl; order = tt; same = λ point far. refl }
cut k (line ∷ more) order = elim (cases_Bool (eqb line.at k)) [
  | inl here ↦
      let at : line.at ≡ k = eqb-true line.at k here in
      let rest = cut k more (subst (λ at. IsFrom at more) at order.1) in
      let count : cond (eqb line.at k) (1 + prefix_len (λ line. eqb line.at k) more) 0 ≡ suc (prefix_len (λ line. eqb line.at k) more) =
      rw here (omega arith) in
      subst (λ n. Cut k n (line ∷ more)) (sym count) (cut_first k _ line more here rest)
  | inr other ↦
      let count : cond (eqb line.at k) (1 + prefix_len (λ line. eqb line.at k) more) 0 ≡ 0 = rw other refl in
      subst (λ n. Cut k n (line ∷ more)) (sym count) (cut_none k line more other order)
]

-- the first lines of those ahead are what the script says at the point
pub said_first : {X : Type 0} (line : X → Line) (k n : ℕ) (rest : List X) (lines : List Line) → AreLinesFrom k (map line rest) lines
    → n ≡ prefix_len (λ (line : Line). eqb line.at k) (map line rest) → map (λ x. msg_of (line x).what) (take n rest) ≡ said_at k lines
said_first line k n rest lines ahead count =
    let here : Cut k n (map line rest) = subst (λ n. Cut k n (map line rest)) (sym count) (cut k (map line rest) ahead.order) in
    sym (map-map (λ (l : Line). msg_of l.what) line (take n rest)) ∙ ap (map (λ (l : Line). msg_of l.what)) (sym (take-map line n rest)) ∙ here.said
    ∙ ahead.same k (omega arith)

-- what stands after them is ahead of the next point
pub ahead_next : {X : Type 0} (line : X → Line) (k n : ℕ) (rest left : List X) (lines : List Line) → AreLinesFrom k (map line rest) lines
    → n ≡ prefix_len (λ (line : Line). eqb line.at k) (map line rest) → left ≡ drop n rest → AreLinesFrom (k + 1) (map line left) lines
ahead_next line k n rest left lines ahead count is =
    let here : Cut k n (map line rest) = subst (λ n. Cut k n (map line rest)) (sym count) (cut k (map line rest) ahead.order) in
    subst (λ left. AreLinesFrom (k + 1) left lines) (drop-map line n rest ∙ ap (map line) (sym is)) (record {
      order = here.order;
      same = λ point far. here.same point far ∙ ahead.same point (omega arith);
    })

pub still_short : {X : Type 0} (n : ℕ) (rest left : List X) → length rest * 8 < 2 ^ 64 → left ≡ drop n rest → length left * 8 < 2 ^ 64
still_short n rest left short is = let len = ap length is ∙ length-drop n rest in omega arith

-- lines that don't fall stand in order
in_order_from : {X : Type 0} (line : X → Line) (k : ℕ) (xs : List X) → IsNonDecreasingBy (λ x. (line x).at) xs
    → ((d : X) → 0 < length xs → k ≤ (line (get_or xs 0 d)).at) → IsFrom k (map line xs)
in_order_from line k [] rising first = tt
in_order_from line k (x ∷ more) rising first = (
  first x (omega arith),
  in_order_from line (line x).at more (IsNonDecreasingBy-drop (λ x. (line x).at) 1 (x ∷ more) rising)
      (λ d some. rising 0 1 d (omega arith) (omega arith)),
)

abbrev pub by_point : {X : Type 0} → (X → Line) → X → X → Bool
by_point line x y = is_lt (nat_cmp (line x).at (line y).at)

tied : {X : Type 0} (line : X → Line) (x y : X) → eqb (line y).at (line x).at ≡ ties (by_point line) x y
tied line x y = grind (arith, nat_tests)

keep_both : {X : Type 0} (line : X → Line) (t u : Bool) (x : X) (lines : List Line) (xs : List X) → t ≡ u
    → map (λ (l : Line). msg_of l.what) lines ≡ map (λ x. msg_of (line x).what) xs
    → map (λ (l : Line). msg_of l.what) (cond t (line x ∷ lines) lines) ≡ map (λ x. msg_of (line x).what) (cond u (x ∷ xs) xs)
keep_both line true true x lines xs is same = ap (λ ms. msg_of (line x).what ∷ ms) same
keep_both line false false x lines xs is same = same
keep_both line true false x lines xs is same = absurd cc
keep_both line false true x lines xs is same = absurd cc

-- what is said at a point is what those say that tie with one there
said_by_ties : {X : Type 0} (line : X → Line) (x : X) (xs : List X)
    → said_at (line x).at (map line xs) ≡ map (λ y. msg_of (line y).what) (filter (ties (by_point line) x) xs)
said_by_ties line x [] = refl
said_by_ties line x (y ∷ more) = keep_both line _ _ y _ _ (tied line x y) (said_by_ties line x more)

-- no line stands at a point that its number can't name
none_far : (point : ℕ) → 2 ^ 32 ≤ point → (lines : List Line) → said_at point lines ≡ []
none_far point far [] = refl
none_far point far (line ∷ more) =
    let small : line.at < 2 ^ 32 = line.at_in_range in
    let other : eqb line.at point ≡ false = grind (arith, nat_tests, far, small) in
    said_later point line more other ∙ none_far point far more

-- a stable sort by the points
pub sorted_ahead : {X : Type 0} (line : X → Line) (xs ys : List X) (one : (point : ℕ) → point < 2 ^ 32 → X)
    → ((point : ℕ) (below : point < 2 ^ 32) → (line (one point below)).at ≡ point)
    → IsNonDecreasingBy (λ x. (line x).at) ys → IsStableByKey (λ x. (line x).at) nat_cmp xs ys → AreLinesFrom 0 (map line ys) (map line xs)
sorted_ahead line xs ys one at rising stable = record {
  order = in_order_from line 0 ys rising (λ d some. omega arith);
  same = λ point _. elim (cases_Bool (leb (2 ^ 32) point)) [
    | inl is ↦
        let far : 2 ^ 32 ≤ point = leb-true (2 ^ 32) point is in
        none_far point far (map line ys) ∙ sym (none_far point far (map line xs))
    | inr is ↦
        let below : point < 2 ^ 32 = grind (arith, nat_tests, is) in
        subst (λ at. said_at at (map line ys) ≡ said_at at (map line xs)) (at point below)
        (said_by_ties line (one point below) ys ∙ ap (map (λ y. msg_of (line y).what)) (stable (one point below))
        ∙ sym (said_by_ties line (one point below) xs))
  ];
}
