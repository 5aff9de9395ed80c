-- The path of a stage is what waits in the machine, place by place: on links, in the store, and held.
use Rattle.proof_machines.proofs.unit.Words.{◌≡◌, ℕ, Bool, true, false, Option, Some, None, List, [], ◌∷◌, ◌++◌, map, refl, ap, append_assoc, append-nil, Steps}
use Rattle.proof_machines.proofs.unit.Words.{Item, Carry, Pass}
use Rattle.std.specs.List.{filter_map}
use Rattle.std.proofs.lemmas.List.Elements.{filter_map-append}
use Rattle.proof_machines.proofs.unit.Lists.{picked_each, picked_none}
use Rattle.proof_machines.proofs.unit.Words.{Event, Forward, State, marked, passes, plains, SourceItem, Event_of, Piece_of, Deleted_of, shown, events, Stage}
use Rattle.proof_machines.proofs.unit.Words.{At_rest, shape, path, to_a, to_b, nil_left, nil_right}

-- the packet of an item of a kind
abbrev pass_of : {R : Type 0} → Item R → Option ℕ
pass_of (Pass p) = Some p
pass_of x = None

abbrev pub carry_of : {R : Type 0} → Item R → Option ℕ
carry_of (Carry p) = Some p
carry_of x = None

abbrev event_of : {R : Type 0} → Item R → Option ℕ
event_of (Event p) = Some p
event_of x = None

abbrev forward_of : {R : Type 0} → Item R → Option ℕ
forward_of (Forward w p) = Some p
forward_of x = None

abbrev pub passes_in : {R : Type 0} → List (Item R) → List ℕ
passes_in xs = filter_map pass_of xs

abbrev pub carries : {R : Type 0} → List (Item R) → List ℕ
carries xs = filter_map carry_of xs

abbrev pub events_in : {R : Type 0} → List (Item R) → List ℕ
events_in xs = filter_map event_of xs

abbrev pub forwards : {R : Type 0} → List (Item R) → List ℕ
forwards xs = filter_map forward_of xs

-- the path, with what stands at instances in this order
abbrev pub places : {R : Type 0} → State R → List ℕ → List ℕ
places x last = passes_in x.sa ++ (passes_in x.sb ++ (forwards x.cs ++ (x.store ++ (events_in x.ac ++ last))))

-- the arrived and unprocessed packets of the unit, by the places where they stand
abbrev pub path_of : {R : Type 0} → State R → List ℕ
path_of u = places u (u.a.held ++ (carries u.sa ++ (u.b.held ++ carries u.sb)))

-- a path that has nothing has none at its first places, and none at its last
pub record NoneBefore {R : Type 0} (x : State R) (last : List ℕ) : Type 0 where
  pub passes_a : passes_in x.sa ≡ []
  pub passes_b : passes_in x.sb ≡ []
  pub forwards_s : forwards x.cs ≡ []
  pub store : x.store ≡ []
  pub events_a : events_in x.ac ≡ []
  pub rest : last ≡ []

pub none_before : {R : Type 0} (x : State R) (last : List ℕ) → places x last ≡ [] → NoneBefore x last
none_before x last p0 =
    let p1 = nil_right (passes_in x.sa) _ p0 in
    let p2 = nil_right (passes_in x.sb) _ p1 in
    let p3 = nil_right (forwards x.cs) _ p2 in
    let p4 = nil_right x.store _ p3 in
    record {
      passes_a = nil_left (passes_in x.sa) _ p0;
      passes_b = nil_left (passes_in x.sb) _ p1;
      forwards_s = nil_left (forwards x.cs) _ p2;
      store = nil_left x.store _ p3;
      events_a = nil_left (events_in x.ac) _ p4;
      rest = nil_right (events_in x.ac) _ p4;
    }

-- A stage without any packet of the unit has none anywhere.
pub record HasNone {R : Type 0} (x : State R) : Type 0 where
  pub before : NoneBefore x (x.a.held ++ (carries x.sa ++ (x.b.held ++ carries x.sb)))
  pub held_a : x.a.held ≡ []
  pub carries_a : carries x.sa ≡ []
  pub held_b : x.b.held ≡ []
  pub carries_b : carries x.sb ≡ []

pub none_of : {R : Type 0} (x : State R) → path_of x ≡ [] → HasNone x
none_of x none =
    let before = none_before x (x.a.held ++ (carries x.sa ++ (x.b.held ++ carries x.sb))) none in
    let p1 = nil_right x.a.held _ before.rest in
    let p2 = nil_right (carries x.sa) _ p1 in
    record {
      before = before;
      held_a = nil_left x.a.held _ before.rest;
      carries_a = nil_left (carries x.sa) _ p1;
      held_b = nil_left x.b.held _ p2;
      carries_b = nil_right x.b.held _ p2;
    }

-- lists of one kind
abbrev pub carry : {R : Type 0} → ℕ → Item R
carry p = Carry p

abbrev pub pass : {R : Type 0} → ℕ → Item R
pass p = Pass p

abbrev event : {R : Type 0} → ℕ → Item R
event p = Event p

pub no_passes : (R : Type 0) (l : List ℕ) → passes_in (map (carry {R = R}) l) ≡ []
no_passes R l = picked_none pass_of carry (λ p. refl) l

pub all_carries : (R : Type 0) (l : List ℕ) → carries (map (carry {R = R}) l) ≡ l
all_carries R l = picked_each carry_of carry (λ p. refl) l

pub all_passes : (R : Type 0) (l : List ℕ) → passes_in (map (pass {R = R}) l) ≡ l
all_passes R l = picked_each pass_of pass (λ p. refl) l

pub no_carries : (R : Type 0) (l : List ℕ) → carries (map (pass {R = R}) l) ≡ []
no_carries R l = picked_none carry_of pass (λ p. refl) l

pub all_events : (R : Type 0) (l : List ℕ) → events_in (map (event {R = R}) l) ≡ l
all_events R l = picked_each event_of event (λ p. refl) l

pub all_to_b : (R : Type 0) (l : List ℕ) → forwards (map (to_b {R = R}) l) ≡ l
all_to_b R l = picked_each forward_of to_b (λ p. refl) l

pub all_to_a : (R : Type 0) (l : List ℕ) → forwards (map (to_a {R = R}) l) ≡ l
all_to_a R l = picked_each forward_of to_a (λ p. refl) l

pub mixed_passes : (R : Type 0) (x : List (Bool × ℕ)) → passes_in (map (marked {R = R}) x) ≡ passes x
mixed_passes R [] = refl
mixed_passes R ((true, p) ∷ x) = ap (λ z. p ∷ z) (mixed_passes R x)
mixed_passes R ((false, p) ∷ x) = mixed_passes R x

pub mixed_carries : (R : Type 0) (x : List (Bool × ℕ)) → carries (map (marked {R = R}) x) ≡ plains x
mixed_carries R [] = refl
mixed_carries R ((true, p) ∷ x) = mixed_carries R x
mixed_carries R ((false, p) ∷ x) = ap (λ z. p ∷ z) (mixed_carries R x)

pub mixed_events : {R : Type 0} (y : List (SourceItem R)) → events_in (map shown y) ≡ events y
mixed_events [] = refl
mixed_events (Event_of p ∷ y) = ap (λ z. p ∷ z) (mixed_events y)
mixed_events (Piece_of h ∷ y) = mixed_events y
mixed_events (Deleted_of h ∷ y) = mixed_events y

ruleset reads = (
  filter_map-append,
  no_passes,
  all_carries,
  all_passes,
  no_carries,
  all_events,
  all_to_b,
  all_to_a,
  mixed_passes,
  mixed_carries,
  mixed_events,
  append_assoc,
  append-nil,
)

-- the path of each stage is the path
pub path_is : {R : Type 0} (F : Steps R) (s : Stage F) → path_of (shape F s) ≡ path s
path_is F (At_rest d l k) = simp reads
path_is F s = simp reads
