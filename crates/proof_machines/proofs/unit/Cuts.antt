-- A source's records, cut into pieces: each unit sees its record in exactly one of them, and the last alone has the mark.
use Rattle.proof_machines.proofs.unit.Words.{◌≡◌, ℕ, suc, zero, true, false, Option, Some, None, List, [], ◌∷◌, ◌++◌, map, length, take, drop, refl, sym, ap}
use Rattle.proof_machines.proofs.unit.Words.{◌∙◌, append-nil, take-append-drop, if◌then◌else◌, ◌==◌, option_to_list, nat_le, same_unit, is_nil, Piece}
use Rattle.proof_machines.proofs.unit.Words.{ArePiecesOf, records, closes, first, nil_left, nil_right, first_of_one, Unit, by_if, split}
use Rattle.std.specs.List.{cons_option, filter_map, flat_map}
use Rattle.std.proofs.lemmas.List.Elements.{filter_map-append}
use Rattle.proof_machines.proofs.unit.UnitPieces.{cons_option_is}
use Rattle.proof_machines.proofs.unit.Real.{Chunks, record_at, MovePiece, MoveMsg, Frame, where_true, see, view}

-- all records of a unit in chunks
abbrev pub all_at : {R : Type 0} → Unit → Chunks R → List R
all_at u cs = filter_map (λ c. where_true (same_unit u c.0) c.1) cs

-- lists end to end
abbrev pub joined_up : {X : Type 0} → List (List X) → List X
joined_up xss = flat_map (λ xs. xs) xss

-- pieces of these chunks in order, the last of them marked
abbrev pub marks : {R : Type 0} → ℕ → ℕ → List (Chunks R) → List (MovePiece R)
marks total newest [] = []
marks total newest (c ∷ cs) = record { chunks = c; total = total; newest = newest; last = is_nil cs } ∷ marks total newest cs

-- at most 64 in each; the first argument is at least the length
abbrev pub chop : {X : Type 0} → ℕ → List X → List (List X)
chop zero xs = xs ∷ []
chop (suc n) xs = if nat_le (length xs) 64 then xs ∷ [] else take 64 xs ∷ chop n (drop 64 xs)

pub joined-chop : {X : Type 0} (n : ℕ) (xs : List X) → joined_up (chop n xs) ≡ xs
joined-chop zero xs = append-nil xs
joined-chop (suc n) xs =
    by_if (λ r. joined_up r ≡ xs) (nat_le (length xs) 64) (append-nil xs) (ap (λ z. take 64 xs ++ z) (joined-chop n (drop 64 xs)) ∙ take-append-drop 64 xs)

pub is_nil-chop : {X : Type 0} (n : ℕ) (xs : List X) → is_nil (chop n xs) ≡ false
is_nil-chop zero xs = refl
is_nil-chop (suc n) xs =
    elim (nat_le (length xs) 64) as (λ b. is_nil (if b then xs ∷ [] else take 64 xs ∷ chop n (drop 64 xs)) ≡ false) [ true ↦ refl | false ↦ refl ]

pub record_first : {R : Type 0} (u : Unit) (x : Chunks R) → record_at u x ≡ first (all_at u x)
record_first u [] = refl
record_first u (c ∷ x) =
    split (same_unit u c.0) (λ b. (if b then Some c.1 else record_at u x) ≡ first (cons_option (where_true b c.1) (all_at u x))) (λ _. refl)
    (λ _. record_first u x)

-- the parts of a list of at most one are such lists
halves : {R : Type 0} (x y : List R) (o : Option R) → x ++ y ≡ option_to_list o
    → (p : Option R) × (q : Option R) × (x ≡ option_to_list p) × (y ≡ option_to_list q)
halves [] y o e = (None, o, refl, e)
halves (a ∷ x) y None e = let never : ⊥ = cc in absurd never
halves (a ∷ x) y (Some r) e =
    let none : x ++ y ≡ [] = cc in
    (Some a, None, ap (λ z. a ∷ z) (nil_left x y none), nil_right x y none)

all_records : {R : Type 0} (v : Frame) (total newest : ℕ) (cs : List (Chunks R)) (o : Option R) → all_at v.unit (joined_up cs) ≡ option_to_list o
    → records (map (see v) (marks total newest cs)) ≡ option_to_list o
all_records v total newest [] o e = e
all_records v total newest (c ∷ cs) o e =
    let parts = halves (all_at v.unit c) (all_at v.unit (joined_up cs)) o (sym (filter_map-append _ c (joined_up cs)) ∙ e) in
    let own : record_at v.unit c ≡ parts.0 = record_first v.unit c ∙ ap first parts.2 ∙ first_of_one parts.0 in
    cons_option_is (record_at v.unit c) (records (map (see v) (marks total newest cs)))
    ∙ ap (λ z. option_to_list z ++ records (map (see v) (marks total newest cs))) own
    ∙ ap (λ z. z ++ records (map (see v) (marks total newest cs))) (sym parts.2)
    ∙ ap (λ z. all_at v.unit c ++ z) (all_records v total newest cs parts.1 parts.3 ∙ sym parts.3)
    ∙ sym (filter_map-append _ c (joined_up cs)) ∙ e

all_closes : {R : Type 0} (v : Frame) (total newest : ℕ) (c : Chunks R) (cs : List (Chunks R)) → closes (map (see v) (marks total newest (c ∷ cs))) ≡ true
all_closes v total newest c [] = refl
all_closes v total newest c (k ∷ cs) = all_closes v total newest k cs

-- what a Stream sends is what the machine's move allows
pub cut_fits : {R : Type 0} (v : Frame) (total newest : ℕ) (cs : List (Chunks R)) (o : Option R) → is_nil cs ≡ false
    → all_at v.unit (joined_up cs) ≡ option_to_list o → ArePiecesOf (map (see v) (marks total newest cs)) o
cut_fits v total newest [] o some e = let never : ⊥ = cc in absurd never
cut_fits v total newest (c ∷ cs) o some e = record { one = all_records v total newest (c ∷ cs) o e; ends = all_closes v total newest c cs }

pub chopped_fits : {R : Type 0} (v : Frame) (total newest n : ℕ) (xs : Chunks R) (o : Option R) → all_at v.unit xs ≡ option_to_list o
    → ArePiecesOf (map (see v) (marks total newest (chop n xs))) o
chopped_fits v total newest n xs o e = cut_fits v total newest (chop n xs) o (is_nil-chop n xs) (rw (joined-chop n xs) e)

abbrev piece_message : {R : Type 0} → ℕ → MovePiece R → MoveMsg R
piece_message n p = MoveMsg.Piece n p

-- and the unit sees each of them
pub view_pieces : {R : Type 0} (v : Frame) (ps : List (MovePiece R)) → (v.move == v.move) ≡ true → view v (map (piece_message v.move) ps)
    ≡ map Piece (map (see v) ps)
view_pieces v [] e = refl
view_pieces v (p ∷ ps) e = rw e (ap (λ z. Piece (see v p) ∷ z) (view_pieces v ps e))

-- for a take of another message any pieces serve: these are allowed
pub some_parts : {R : Type 0} (o : Option R) → ArePiecesOf (record { own = o; last = true } ∷ []) o
some_parts None = record { one = refl; ends = refl }
some_parts (Some r) = record { one = refl; ends = refl }
