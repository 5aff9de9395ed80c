-- What a loop has written, when it has written one item more.
use Rattle.op_script.proofs.Words.{◌≡◌, ℕ, ◌+◌, ◌<◌, ◌≤◌, true, ◌-◌, zero, suc, subst, Result, Ok, Err, drop, List, [], ◌∷◌, ◌++◌, length, get_or, take, map}
use Rattle.op_script.proofs.Words.{ap, sym, ◌∙◌, append_assoc, append-nil, arith, concat, join_with_byte, AllByRecursion, take_all, map-append, after_commas}
use Rattle.std.proofs.Common.{OnOk}
use Rattle.std.proofs.lemmas.List.{take_more}
use Rattle.std.proofs.lemmas.List.Folds.{concat-append}
use Rattle.op_script.proofs.ScriptLineLemmas.{All-append}
use Rattle.flow_filter.proofs.PrintedPieces.{after_commas-append, join-after_commas}

-- the items so far, and one more
one_more : {X : Type 0} (xs : List X) (i : ℕ) (x : X) → i < length xs → x ≡ get_or xs i x → take (i + 1) xs ≡ take i xs ++ x ∷ []
one_more xs i x below is = take_more xs i x below ∙ ap (λ y. take i xs ++ y ∷ []) (sym is)

-- one name more, after a comma
pub names_more : (start before comma after : List ℕ) (xs : List (List ℕ)) (i : ℕ) (x : List ℕ) → i < length xs → x ≡ get_or xs i x
    → before ≡ start ++ after_commas true (take i xs) → comma ≡ before ++ 44 ∷ [] → after ≡ comma ++ x → after ≡ start ++ after_commas true (take (i + 1) xs)
names_more start before comma after xs i x below is so_far first second =
    let split : after_commas true (take (i + 1) xs) ≡ after_commas true (take i xs) ++ (44 ∷ x) =
    ap (after_commas true) (one_more xs i x below is) ∙ after_commas-append true (take i xs) (x ∷ [])
    ∙ ap (λ t. after_commas true (take i xs) ++ (44 ∷ t)) (append-nil x) in
    let regrouped : ((start ++ after_commas true (take i xs)) ++ 44 ∷ []) ++ x ≡ start ++ (after_commas true (take i xs) ++ (44 ∷ x)) = simp append_assoc in
    second ∙ ap (λ t. t ++ x) (first ∙ ap (λ t. t ++ 44 ∷ []) so_far) ∙ regrouped ∙ ap (λ t. start ++ t) (sym split)

-- the first name and those after it
pub members_written : (start one all first : List ℕ) (more : List (List ℕ)) → one ≡ start ++ first → all ≡ one ++ after_commas true more
    → all ≡ start ++ join_with_byte 44 (first ∷ more)
members_written start one all first more is_one is_all =
    is_all ∙ ap (λ t. t ++ after_commas true more) is_one ∙ append_assoc start first (after_commas true more)
    ∙ ap (λ t. start ++ t) (sym (join-after_commas first more))

-- one line more
pub lines_more : {X Y : Type 0} (text : Y → List ℕ) (words : X → Y) (front before after : List ℕ) (xs : List X) (i : ℕ) (x : X) → i < length xs
    → x ≡ get_or xs i x
    → before ≡ front ++ concat (map text (map words (take i xs))) → after ≡ before ++ text (words x)
    → after ≡ front ++ concat (map text (map words (take (i + 1) xs)))
lines_more text words front before after xs i x below is so_far next =
    let items : map text (map words (take (i + 1) xs)) ≡ map text (map words (take i xs)) ++ text (words x) ∷ [] =
    ap (λ t. map text (map words t)) (one_more xs i x below is) ∙ ap (map text) (map-append words (take i xs) (x ∷ []))
    ∙ map-append text (map words (take i xs)) (words x ∷ []) in
    let split : concat (map text (map words (take (i + 1) xs))) ≡ concat (map text (map words (take i xs))) ++ text (words x) =
    ap concat items ∙ concat-append (map text (map words (take i xs))) (text (words x) ∷ [])
    ∙ ap (λ t. concat (map text (map words (take i xs))) ++ t) (append-nil (text (words x))) in
    next ∙ ap (λ t. t ++ text (words x)) so_far ∙ append_assoc front (concat (map text (map words (take i xs)))) (text (words x))
    ∙ ap (λ t. front ++ t) (sym split)

-- the routes and then the lines
pub all_written : {X Y Z : Type 0} (text : Z → List ℕ) (first : X → Z) (second : Y → Z) (out : List ℕ) (xs : List X) (ys : List Y) (i : ℕ) → length ys ≤ i
    → out ≡ concat (map text (map first xs)) ++ concat (map text (map second (take i ys))) → out ≡ concat (map text (map first xs ++ map second ys))
all_written text first second out xs ys i over written =
    written ∙ ap (λ t. concat (map text (map first xs)) ++ concat (map text (map second t))) (take_all i ys over)
    ∙ sym (concat-append (map text (map first xs)) (map text (map second ys))) ∙ ap concat (sym (map-append text (map first xs) (map second ys)))

-- a list with a first item
first_and_more : {X : Type 0} (xs : List X) (x : X) → 1 ≤ length xs → x ≡ get_or xs 0 x → xs ≡ x ∷ take (length xs - 1) (drop 1 xs)
first_and_more [] x some is = absurd (omega arith)
first_and_more (y ∷ ys) x some is = let rest : suc (length ys) - 1 ≡ length ys = omega arith in
    rw (rest, take_all (length ys) ys (omega arith)) (ap (λ z. z ∷ ys) (sym is))

-- the members, where the first is written and then those after it
pub members_cases : {T E : Type 0} (r : Result T E) (start one all first item : List ℕ) (members : List (List ℕ)) → 1 ≤ length members
    → first ≡ get_or members 0 first
    → item ≡ first → one ≡ start ++ item → OnOk r (all ≡ one ++ after_commas true (take (length members - 1) (drop 1 members)))
    → OnOk r (all ≡ start ++ join_with_byte 44 members)
members_cases (Ok x) start one all first item members some is same begun written =
    members_written start one all first (take (length members - 1) (drop 1 members)) (begun ∙ ap (λ t. start ++ t) same) written
    ∙ ap (λ t. start ++ join_with_byte 44 t) (sym (first_and_more members first some is))
members_cases (Err e) start one all first item members some is same begun written = tt

-- what holds of each item, seen through a function, holds of one
pub at_item : {X Y : Type 0} (P : Y → Type 0) (view : X → Y) (xs : List X) (i : ℕ) (x : X) → AllByRecursion P (map view xs) → i < length xs
    → x ≡ get_or xs i x → P (view x)
at_item P view [] i x all below is = absurd (omega arith)
at_item P view (y ∷ ys) zero x all below is = subst (λ z. P (view z)) (sym is) all.0
at_item P view (y ∷ ys) (suc i) x all below is = at_item P view ys i x all.1 (omega arith) is

-- what holds of the items so far, and of one more
pub fits_more : {X : Type 0} (P : X → Type 0) (xs : List X) (i : ℕ) (x : X) → i < length xs → x ≡ get_or xs i x → AllByRecursion P (take i xs) → P x
    → AllByRecursion P (take (i + 1) xs)
fits_more P xs i x below is so_far here = rw (one_more xs i x below is) (All-append P (take i xs) (x ∷ []) so_far (here, tt))
