-- Laws over `++` of the lists in a stage: processed packets, plain packets mixed with passed ones, and events mixed with pieces and
-- Deleteds.
use Rattle.std.proofs.Common.{◌≡◌, ℕ, Bool, true, false, Option, None, Some, List, [], ◌∷◌, ◌++◌, ◌∙◌, ◌&&◌, not, map, refl, sym, ap}
use Rattle.std.specs.Prelude.{if◌then◌else◌, is_some}
use Rattle.std.specs.List.{filter_map, cons_option, list_all}
use Rattle.std.proofs.lemmas.Bool.{and_parts}
pub use Rattle.proof_machines.proofs.unit.Machine.{firsts}
use Rattle.proof_machines.proofs.unit.Machine.{Part, Item, Carry, Pass, Event, Piece, Deleted, is_nil}
use Rattle.proof_machines.proofs.Tests.{where_true}

pub nil_is : {X : Type 0} (xs : List X) → is_nil xs ≡ true → xs ≡ []
nil_is [] e = refl
nil_is (x ∷ xs) e = cc

pub none_is : {X : Type 0} (o : Option X) → is_some o ≡ false → o ≡ None
none_is None e = refl
none_is (Some x) e = cc

pub firsts-on : {X : Type 0} (at : X) (h : List ℕ) → map (λ (z : ℕ × X). z.0) (map (λ p. (p, at)) h) ≡ h
firsts-on at [] = refl
firsts-on at (x ∷ h) = ap (λ z. x ∷ z) (firsts-on at h)

-- pass and plain packets mixed: true is a pass
abbrev pub marked : {R : Type 0} → Bool × ℕ → Item R
marked x = if x.0 then Pass x.1 else Carry x.1

abbrev pub passing : ℕ → Bool × ℕ
passing p = (true, p)

abbrev pub plain : ℕ → Bool × ℕ
plain p = (false, p)

abbrev pub passes : List (Bool × ℕ) → List ℕ
passes xs = filter_map (λ x. where_true x.0 x.1) xs

abbrev pub plains : List (Bool × ℕ) → List ℕ
plains xs = filter_map (λ x. where_true (not x.0) x.1) xs

pub marked-passing : {R : Type 0} (xs : List ℕ) → map (marked {R = R}) (map passing xs) ≡ map Pass xs
marked-passing [] = refl
marked-passing (x ∷ xs) = ap (λ z. Pass x ∷ z) (marked-passing xs)

pub marked-plain : {R : Type 0} (xs : List ℕ) → map (marked {R = R}) (map plain xs) ≡ map Carry xs
marked-plain [] = refl
marked-plain (x ∷ xs) = ap (λ z. Carry x ∷ z) (marked-plain xs)

-- the link from the source while the move streams: events, pieces and the Deleteds of pieces that the controller keeps
pub data SourceItem (R : Type 0) : Type 0 where
  Event_of : ℕ → SourceItem R
  Piece_of : Part R → SourceItem R
  Deleted_of : Part R → SourceItem R

abbrev pub shown : {R : Type 0} → SourceItem R → Item R
shown (Event_of p) = Event p
shown (Piece_of h) = Piece h
shown (Deleted_of h) = Deleted

abbrev event_of : {R : Type 0} → SourceItem R → Option ℕ
event_of (Event_of p) = Some p
event_of x = None

abbrev piece_of : {R : Type 0} → SourceItem R → Option (Part R)
piece_of (Piece_of h) = Some h
piece_of x = None

abbrev deleted_of : {R : Type 0} → SourceItem R → Option (Part R)
deleted_of (Deleted_of h) = Some h
deleted_of x = None

abbrev pub events : {R : Type 0} → List (SourceItem R) → List ℕ
events y = filter_map event_of y

abbrev pub parts_in : {R : Type 0} → List (SourceItem R) → List (Part R)
parts_in y = filter_map piece_of y

-- the pieces whose Deleted is on the link
abbrev pub named : {R : Type 0} → List (SourceItem R) → List (Part R)
named y = filter_map deleted_of y

-- what is picked of a list of one kind: all of it, or nothing
pub picked_each : {X Y : Type 0} (pick : Y → Option X) (make : X → Y) → ((x : X) → pick (make x) ≡ Some x) → (xs : List X) → filter_map pick (map make xs) ≡ xs
picked_each pick make is [] = refl
picked_each pick make is (x ∷ xs) = ap (λ o. cons_option o (filter_map pick (map make xs))) (is x) ∙ ap (λ ys. x ∷ ys) (picked_each pick make is xs)

pub picked_none : {X Y Z : Type 0} (pick : Y → Option Z) (make : X → Y) → ((x : X) → pick (make x) ≡ None) → (xs : List X) → filter_map pick (map make xs) ≡ []
picked_none pick make is [] = refl
picked_none pick make is (x ∷ xs) = ap (λ o. cons_option o (filter_map pick (map make xs))) (is x) ∙ picked_none pick make is xs

pub passes-passing : (xs : List ℕ) → passes (map passing xs) ≡ xs
passes-passing xs = picked_each _ passing (λ x. refl) xs

pub plains-passing : (xs : List ℕ) → plains (map passing xs) ≡ []
plains-passing xs = picked_none _ passing (λ x. refl) xs

pub passes-plain : (xs : List ℕ) → passes (map plain xs) ≡ []
passes-plain xs = picked_none _ plain (λ x. refl) xs

pub plains-plain : (xs : List ℕ) → plains (map plain xs) ≡ xs
plains-plain xs = picked_each _ plain (λ x. refl) xs

-- where all of a list pass a test, its first does; and all that are made pass where each does
pub head_passes : {X : Type 0} (p : X → Bool) (x : X) (xs ys : List X) → ys ≡ x ∷ xs → list_all p ys ≡ true → p x ≡ true
head_passes p x xs ys e all = (and_parts (p x) (list_all p xs) (ap (list_all p) (sym e) ∙ all)).0

pub all_pass : {X Y : Type 0} (p : Y → Bool) (make : X → Y) → ((x : X) → p (make x) ≡ true) → (xs : List X) → list_all p (map make xs) ≡ true
all_pass p make is [] = refl
all_pass p make is (x ∷ xs) = ap (λ b. b && list_all p (map make xs)) (is x) ∙ all_pass p make is xs

-- the link as Stream leaves it
pub events-sent : {R : Type 0} (e : List ℕ) (ps : List (Part R)) → events (map Event_of e ++ map Piece_of ps) ≡ e
events-sent [] [] = refl
events-sent [] (p ∷ ps) = events-sent [] ps
events-sent (x ∷ e) ps = ap (λ z. x ∷ z) (events-sent e ps)

pub pieces-sent : {R : Type 0} (e : List ℕ) (ps : List (Part R)) → parts_in (map Event_of e ++ map Piece_of ps) ≡ ps
pieces-sent [] [] = refl
pieces-sent [] (p ∷ ps) = ap (λ z. p ∷ z) (pieces-sent [] ps)
pieces-sent (x ∷ e) ps = pieces-sent e ps

pub named-sent : {R : Type 0} (e : List ℕ) (ps : List (Part R)) → named (map Event_of e ++ map Piece_of ps) ≡ []
named-sent [] [] = refl
named-sent [] (p ∷ ps) = named-sent [] ps
named-sent (x ∷ e) ps = named-sent e ps

pub shown-sent : {R : Type 0} (e : List ℕ) (ps : List (Part R)) → map shown (map Event_of e ++ map Piece_of ps) ≡ map Event e ++ map Piece ps
shown-sent [] [] = refl
shown-sent [] (p ∷ ps) = ap (λ z. Piece p ∷ z) (shown-sent [] ps)
shown-sent (x ∷ e) ps = ap (λ z. Event x ∷ z) (shown-sent e ps)

pub never_true : {Y : Type 0} → false ≡ true → Y
never_true e = cc

pub cons_nil : {X Y : Type 0} {x : X} {xs : List X} → x ∷ xs ≡ [] → Y
cons_nil e = cc

pub cons_option_nil : {X : Type 0} (o : Option X) (xs : List X) → cons_option o xs ≡ [] → (o ≡ None) × (xs ≡ [])
cons_option_nil None xs e = (refl, e)
cons_option_nil (Some x) xs e = cc

pub map_nil : {X Y : Type 0} (g : X → Y) (xs : List X) → map g xs ≡ [] → xs ≡ []
map_nil g [] e = refl
map_nil g (x ∷ xs) e = cons_nil e

-- where no piece and no Deleted is left, the link has events alone
pub shown-events : {R : Type 0} (y : List (SourceItem R)) → named y ≡ [] → parts_in y ≡ [] → map shown y ≡ map Event (events y)
shown-events [] n p = refl
shown-events (Event_of x ∷ y) n p = ap (λ z. Event x ∷ z) (shown-events y n p)
shown-events (Piece_of h ∷ y) n p = cons_nil p
shown-events (Deleted_of h ∷ y) n p = cons_nil n
