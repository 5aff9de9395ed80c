-- In each stage the unit's record is at one place: live at one side, or in one piece or the Restore, or equal in a piece and at the
-- source.
use Rattle.proof_machines.proofs.unit.Words.{◌≡◌, ℕ, Bool, Option, Some, None, List, [], ◌∷◌, ◌++◌, map, refl, sym, ap, ◌∙◌, append_assoc, append-nil}
use Rattle.proof_machines.proofs.unit.Words.{option_to_list, Ran, Steps, after, Part, pick, Item, Put, Restore, Event, Piece, Put_no, Phase, next, delete}
use Rattle.proof_machines.proofs.unit.Words.{State, SourceItem, Event_of, Piece_of, Deleted_of, shown, parts_in, named, records, first, pick_first, Stage}
use Rattle.proof_machines.proofs.unit.Words.{At_rest, Begun, Frozen, Stream_goes, Streams, All_put, Hold_goes, Held, Laying, Turned, Fenced_a, Ending_b}
use Rattle.proof_machines.proofs.unit.Words.{Fence_b, Turned_loose, Fenced_loose, Ending_loose, Fence_loose, Fenced_b, Moved, Restore_goes, Restored_comes}
use Rattle.proof_machines.proofs.unit.Words.{Turn_goes, Turned_back, Returned, Fence_a, Fenced_back, Undone, Doorway, Is_shut, Is_asked, Is_agreed, Is_denied}
use Rattle.proof_machines.proofs.unit.Words.{Is_wide, Is_refused, Flows, front, free_of, puts_of, answers_of, live_of, body, shape}
use Rattle.proof_machines.proofs.unit.Machine.{Streaming}
use Rattle.proof_machines.proofs.unit.Lists.{picked_none}
use Rattle.std.specs.List.{filter_map, cons_option}
use Rattle.std.proofs.lemmas.List.Elements.{filter_map-append}

-- the record in a message
abbrev pub record_in : {R : Type 0} → Item R → Option R
record_in (Put h first) = h.own
record_in (Restore o) = o
record_in (Piece h) = h.own
record_in (Put_no why o) = o
record_in item = None

abbrev pub records_on : {R : Type 0} → List (Item R) → List R
records_on xs = filter_map record_in xs

abbrev pub frozen_in : {R : Type 0} → Phase R → List R
frozen_in (Streaming to_remove removed came door) = records to_remove
frozen_in phase = []

abbrev pub free_in : {R : Type 0} → Phase R → List R
free_in (Streaming to_remove removed came door) = records removed
free_in phase = []

-- all copies of the unit's record that are on their way or kept by the controller
abbrev pub on_way : {R : Type 0} → State R → List R
on_way u = records_on u.ac ++ (frozen_in u.phase ++ (records_on u.bc ++ (records_on u.cb ++ (free_in u.phase ++ records_on u.ca))))

abbrev pub lives : {R : Type 0} → State R → List R
lives u = option_to_list u.a.live ++ (option_to_list u.b.live ++ option_to_list u.c.live)

pub data Kept {R : Type 0} (o at_a : Option R) (live way : List R) : Type 0 where
  Nowhere : o ≡ None → live ≡ [] → way ≡ [] → Kept o at_a live way
  Is_live : (r : R) → o ≡ Some r → live ≡ r ∷ [] → way ≡ [] → Kept o at_a live way
  On_way : (r : R) → o ≡ Some r → live ≡ [] → way ≡ r ∷ [] → Kept o at_a live way
  Twice : (r : R) → o ≡ Some r → at_a ≡ Some r → live ≡ r ∷ [] → way ≡ r ∷ [] → Kept o at_a live way

abbrev pub IsKept : {R : Type 0} → Steps R → State R → Type 0
IsKept F u = Kept (after F u.done) u.a.live (lives u) (on_way u)

pub none_on_events : (R : Type 0) (l : List ℕ) → records_on (map (λ p. let x : Item R = Event p in x) l) ≡ []
none_on_events R l = picked_none _ _ (λ p. refl) l

on_pieces : {R : Type 0} (y : List (SourceItem R)) → records_on (map shown y) ≡ records (parts_in y)
on_pieces [] = refl
on_pieces (Event_of p ∷ y) = on_pieces y
on_pieces (Piece_of h ∷ y) = ap (cons_option h.own) (on_pieces y)
on_pieces (Deleted_of h ∷ y) = on_pieces y

on_puts : {R : Type 0} (w : List (Part R)) → records_on (map next w) ≡ records w
on_puts [] = refl
on_puts (h ∷ w) = ap (cons_option h.own) (on_puts w)

none_on_deletes : {R : Type 0} (q : List (Part R)) → records_on (map delete q) ≡ []
none_on_deletes q = picked_none _ delete (λ h. refl) q

-- lists that have nothing together
none_of : {X : Type 0} (w n q p : List X) → w ++ (n ++ (q ++ p)) ≡ [] → (w ≡ []) × (n ≡ []) × (q ≡ []) × (p ≡ [])
none_of [] [] [] [] e = (refl, refl, refl, refl)
none_of w n q p e = let never : ⊥ = cc in absurd never

-- one record in five places: put, on the way behind the door, Deleted, to be deleted, on the link
spread : {R : Type 0} (o : Option R) (g w n q p : List R) → g ++ (w ++ (n ++ (q ++ p))) ≡ option_to_list o
    → Kept o (first (q ++ p)) (option_to_list (first (q ++ p)) ++ option_to_list (first g)) (p ++ (n ++ (q ++ w)))
spread None [] [] [] [] [] e = Nowhere refl refl refl
spread (Some s) [] [] [] [] (r ∷ []) e = let is : r ≡ s = cc in rw is (Twice s refl refl refl refl)
spread (Some s) [] [] [] (r ∷ q) p e = let k = none_of [] [] q p cc in let is : r ≡ s = cc in rw (k.2, k.3, is) (Twice s refl refl refl refl)
spread (Some s) [] [] (r ∷ n) q p e = let k = none_of [] n q p cc in let is : r ≡ s = cc in rw (k.1, k.2, k.3, is) (On_way s refl refl refl)
spread (Some s) [] (r ∷ w) n q p e = let k = none_of w n q p cc in let is : r ≡ s = cc in rw (k.0, k.1, k.2, k.3, is) (On_way s refl refl refl)
spread (Some s) (r ∷ []) w n q p e = let k = none_of w n q p cc in let is : r ≡ s = cc in rw (k.0, k.1, k.2, k.3, is) (Is_live s refl refl refl)
spread o g w n q p e = let never : ⊥ = cc in absurd never

-- what is put, and what is on its way behind the door
abbrev put_records : {R : Type 0} → Doorway R → List R
put_records (Is_agreed h v) = records (h ∷ [])
put_records (Is_wide g w) = records g
put_records s = []

abbrev way_records : {R : Type 0} → Doorway R → List R
way_records Is_shut = []
way_records (Is_asked h v) = records (h ∷ v)
way_records (Is_agreed h v) = records v
way_records (Is_denied h v why) = records (h ∷ v)
way_records (Is_wide g w) = records w
way_records (Is_refused v why) = records v

front_records : {R : Type 0} (s : Doorway R) → records (front s) ≡ put_records s ++ way_records s
front_records (Is_agreed h v) = filter_map-append (λ (p : Part _). p.own) (h ∷ []) v
front_records (Is_wide g w) = filter_map-append _ g w
front_records x = refl

live_first : {R : Type 0} (s : Doorway R) → live_of s ≡ first (put_records s)
live_first (Is_agreed h v) = pick_first (h ∷ [])
live_first (Is_wide g w) = pick_first g
live_first x = refl

way_is : {R : Type 0} (s : Doorway R) (q : List (Part R))
    → records_on (answers_of s) ++ (records_on (puts_of s) ++ (records (free_of s) ++ records_on (map delete q))) ≡ way_records s
way_is Is_shut q = none_on_deletes q
way_is (Is_asked h v) q = rw (none_on_deletes q, append-nil (records v)) (sym (filter_map-append (λ (p : Part _). p.own) (h ∷ []) v))
way_is (Is_agreed h v) q = rw (none_on_deletes q) (append-nil (records v))
way_is (Is_denied h v why) q = rw (none_on_deletes q, append-nil (records v)) (sym (filter_map-append (λ (p : Part _). p.own) (h ∷ []) v))
way_is (Is_wide g w) q = rw (none_on_deletes q, on_puts w) (append-nil (records w))
way_is (Is_refused v why) q = rw (none_on_deletes q) (append-nil (records v))

streams_kept : {R : Type 0} (F : Steps R) (d : List Ran) (f : List ℕ) (y : List (SourceItem R)) (q : List (Part R)) (l : List ℕ) (k : Bool) (s : Doorway R)
    (w : Flows F d s (body y q))
    → IsKept F (shape F (Streams d f y q l k s w))
streams_kept F d f y q l k s w =
    let whole : put_records s ++ (way_records s ++ (records (named y) ++ (records q ++ records (parts_in y)))) ≡ option_to_list (after F d) =
    sym (append_assoc (put_records s) (way_records s) (records (named y) ++ (records q ++ records (parts_in y))))
    ∙ ap (λ z. z ++ (records (named y) ++ (records q ++ records (parts_in y)))) (sym (front_records s))
    ∙ ap (λ z. records (front s) ++ (records (named y) ++ z)) (sym (filter_map-append _ q (parts_in y)))
    ∙ ap (λ z. records (front s) ++ z) (sym (filter_map-append _ (named y) (q ++ parts_in y)))
    ∙ sym (filter_map-append _ (front s) (body y q)) ∙ w.fits.one in
    let placed = spread (after F d) (put_records s) (way_records s) (records (named y)) (records q) (records (parts_in y)) whole in
    let source : pick (q ++ parts_in y) ≡ first (records q ++ records (parts_in y)) =
    pick_first (q ++ parts_in y) ∙ ap first (filter_map-append _ q (parts_in y)) in
    let live = live_first s in
    let way = way_is s q in
    let on_ac = on_pieces y in
    let frozen : records (named y ++ q) ≡ records (named y) ++ records q = filter_map-append _ (named y) q in
    rw (source, live, way, on_ac, frozen, append-nil (option_to_list (first (put_records s))), append_assoc (records (named y)) (records q) (way_records s))
    placed

-- a record that is live at A, at B, or in the Restore
live_a : {R : Type 0} (o : Option R) → Kept o o (option_to_list o ++ []) []
live_a None = Nowhere refl refl refl
live_a (Some r) = Is_live r refl refl refl

live_b : {R : Type 0} (o : Option R) → Kept o None (option_to_list o ++ []) []
live_b None = Nowhere refl refl refl
live_b (Some r) = Is_live r refl refl refl

restoring : {R : Type 0} (o : Option R) → Kept o None [] (cons_option o [])
restoring None = Nowhere refl refl refl
restoring (Some r) = On_way r refl refl refl

pub is_kept : {R : Type 0} (F : Steps R) (s : Stage F) → IsKept F (shape F s)
is_kept F (At_rest d l k) = live_a (after F d)
is_kept F (Begun d l k) = live_a (after F d)
is_kept {R = R} F (Frozen d e l k) = rw (none_on_events R e) (live_a (after F d))
is_kept {R = R} F (Stream_goes d f e l k) = rw (none_on_events R e) (live_a (after F d))
is_kept F (Streams d f y q l k s w) = streams_kept F d f y q l k s w
is_kept {R = R} F (All_put d f e l k) = rw (none_on_events R e) (live_b (after F d))
is_kept {R = R} F (Hold_goes d f e l) = rw (none_on_events R e) (live_b (after F d))
is_kept {R = R} F (Held d f e l) = rw (none_on_events R e) (live_b (after F d))
is_kept {R = R} F (Laying d x f g e l k) = rw (none_on_events R e) (live_b (after F d))
is_kept {R = R} F (Turned d x f e l h) = rw (none_on_events R e) (live_b (after F d))
is_kept {R = R} F (Fenced_a d x f e h) = simp (filter_map-append, none_on_events) (live_b (after F d))
is_kept F (Ending_b d x f h) = live_b (after F d)
is_kept F (Fence_b d x n h) = live_b (after F d)
is_kept {R = R} F (Turned_loose d x f e l) = rw (none_on_events R e) (live_b (after F d))
is_kept {R = R} F (Fenced_loose d x f e) = simp (filter_map-append, none_on_events) (live_b (after F d))
is_kept F (Ending_loose d x f) = live_b (after F d)
is_kept F (Fence_loose d x n) = live_b (after F d)
is_kept F (Fenced_b d l k) = live_b (after F d)
is_kept F (Moved d l k) = live_b (after F d)
is_kept {R = R} F (Restore_goes d f e l k why) = rw (none_on_events R e) (restoring (after F d))
is_kept {R = R} F (Restored_comes d f e g l k why) = simp (filter_map-append, none_on_events) (live_a (after F d))
is_kept {R = R} F (Turn_goes d f e l k why) = rw (none_on_events R e) (live_a (after F d))
is_kept {R = R} F (Turned_back d f e h l k why) = simp (filter_map-append, none_on_events) (live_a (after F d))
is_kept F (Returned d x f h k why) = live_a (after F d)
is_kept F (Fence_a d x n h k why) = live_a (after F d)
is_kept F (Fenced_back d l k why) = live_a (after F d)
is_kept F (Undone d l k why) = live_a (after F d)
