-- A record that is live at the source and on its way as well is one that the source has given and is still to remove: it stands in a piece
-- on the link from the source, or its Delete on the link to it. And what a seat has of a third instance.
use Rattle.proof_machines.proofs.unit.Words.{◌≡◌, Bool, true, false, Option, Some, None, List, [], ◌∷◌, ◌++◌, map, refl, sym, ◌∙◌, ◌||◌, is_some, At_c, Steps}
use Rattle.proof_machines.proofs.unit.Words.{Part, pick, or_own, Item, Piece, Delete, delete, SourceItem, Event_of, Piece_of, Deleted_of, parts_in, pick-append}
use Rattle.proof_machines.proofs.unit.Words.{Stage, At_rest, Begun, Frozen, Stream_goes, Streams, Restored_comes, Turn_goes, Turned_back, Returned, Fence_a}
use Rattle.proof_machines.proofs.unit.Words.{Fenced_back, Undone, shape}
use Rattle.std.specs.List.{list_any}
use Rattle.proof_machines.proofs.unit.Lists as lists
use Rattle.std.proofs.lemmas.List.Elements.{filter_map-append}
use Rattle.proof_machines.proofs.unit.Kept.{none_on_events, on_way}
use Rattle.proof_machines.proofs.unit.DestinationUnits.{c_live, beside_kept}
use Rattle.proof_machines.proofs.unit.Away.{away_kept}
use Rattle.proof_machines.proofs.unit.Seats.{UnitSeat, Covered, Is_beside, Is_away, seat_shape}

-- whether this is a piece that has the unit's record, and whether it is a Delete that names it
abbrev pub gives : {R : Type 0} → Item R → Bool
gives (Piece h) = is_some h.own
gives x = false

abbrev pub deletes : {R : Type 0} → Item R → Bool
deletes (Delete own) = own
deletes x = false

pub data ToRemove {R : Type 0} (from to : List (Item R)) : Type 0 where
  Is_given : list_any gives from ≡ true → ToRemove from to
  Is_named : list_any deletes to ≡ true → ToRemove from to

given : {R : Type 0} (y : List (SourceItem R)) (r : R) → pick (parts_in y) ≡ Some r → list_any gives (map lists.shown y) ≡ true
given [] r e = cc
given (Event_of p ∷ y) r e = given y r e
given (Deleted_of h ∷ y) r e = given y r e
given (Piece_of h ∷ y) r e = elim h.own as (λ o. or_own o (pick (parts_in y)) ≡ Some r → is_some o || list_any gives (map lists.shown y) ≡ true)
    [ None ↦ λ there. given y r there | Some s ↦ λ _. refl ] e

named : {R : Type 0} (q : List (Part R)) (r : R) → pick q ≡ Some r → list_any deletes (map delete q) ≡ true
named [] r e = cc
named (h ∷ q) r e =
    elim h.own as (λ o. or_own o (pick q) ≡ Some r → is_some o || list_any deletes (map delete q) ≡ true)
    [ None ↦ λ there. named q r there | Some s ↦ λ _. refl ] e

streaming : {R : Type 0} (y : List (SourceItem R)) (q : List (Part R)) (r : R) → pick (q ++ parts_in y) ≡ Some r → ToRemove (map lists.shown y) (map delete q)
streaming y q r e =
    elim (pick q) as (λ o. pick q ≡ o → or_own o (pick (parts_in y)) ≡ Some r → ToRemove (map lists.shown y) (map delete q)) [
      | None ↦ λ _ there. Is_given (given y r there)
      | Some s ↦ λ at _. Is_named (named q s at)
    ] refl (sym (pick-append q (parts_in y)) ∙ e)

not_nil : {X P : Type 0} {xs ys : List X} {x : X} → xs ≡ [] → xs ≡ x ∷ ys → P
not_nil none some = let never = sym none ∙ some in cc

not_live : {R P : Type 0} {r : R} → ◌≡◌ {A = Option R} None (Some r) → P
not_live e = cc

stage_removes : {R : Type 0} (F : Steps R) (s : Stage F) (r t : R) (ts : List R) → (shape F s).a.live ≡ Some r → on_way (shape F s) ≡ t ∷ ts
    → ToRemove (shape F s).ac (shape F s).ca
stage_removes F (Streams d f y q l k s w) r t ts live way = streaming y q r live
stage_removes F (At_rest d l k) r t ts live way = not_nil refl way
stage_removes F (Begun d l k) r t ts live way = not_nil refl way
stage_removes {R = R} F (Frozen d e l k) r t ts live way = not_nil (rw (none_on_events R e) refl) way
stage_removes {R = R} F (Stream_goes d f e l k) r t ts live way = not_nil (rw (none_on_events R e) refl) way
stage_removes {R = R} F (Restored_comes d f e g l k why) r t ts live way = not_nil (simp (filter_map-append, none_on_events)) way
stage_removes {R = R} F (Turn_goes d f e l k why) r t ts live way = not_nil (rw (none_on_events R e) refl) way
stage_removes {R = R} F (Turned_back d f e h l k why) r t ts live way = not_nil (simp (filter_map-append, none_on_events)) way
stage_removes F (Returned d x f h k why) r t ts live way = not_nil refl way
stage_removes F (Fence_a d x n h k why) r t ts live way = not_nil refl way
stage_removes F (Fenced_back d l k why) r t ts live way = not_nil refl way
stage_removes F (Undone d l k why) r t ts live way = not_nil refl way
stage_removes F s r t ts live way = not_live live

pub still_to_remove : {R : Type 0} (F : Steps R) (s : UnitSeat F) (r t : R) (ts : List R) → (seat_shape F s).a.live ≡ Some r
    → on_way (seat_shape F s) ≡ t ∷ ts → ToRemove (seat_shape F s).ac (seat_shape F s).ca
still_to_remove F (Covered s) r t ts live way = stage_removes F s r t ts live way
still_to_remove F (Is_beside s) r t ts live way = not_nil (beside_kept F s).1 way
still_to_remove F (Is_away s) r t ts live way = not_nil (away_kept F s).1 way

-- a third instance has the record of a unit that goes there alone, and sends nothing
c_sends : {R : Type 0} (F : Steps R) (s : Stage F) → (shape F s).cc ≡ []
c_sends F (At_rest d l k) = refl
c_sends F s = refl

pub third_live : {R : Type 0} (F : Steps R) (s : UnitSeat F) (r : R) → (seat_shape F s).c.live ≡ Some r → (seat_shape F s).target ≡ At_c
third_live F (Covered s) r e = not_live (sym (c_live F s) ∙ e)
third_live F (Is_beside s) r e = not_live (sym (c_live F s.base) ∙ e)
third_live F (Is_away s) r e = refl

pub third_silent : {R : Type 0} (F : Steps R) (s : UnitSeat F) → (seat_shape F s).cc ≡ []
third_silent F (Covered s) = c_sends F s
third_silent F (Is_beside s) = c_sends F s.base
third_silent F (Is_away s) = c_sends F s.base
