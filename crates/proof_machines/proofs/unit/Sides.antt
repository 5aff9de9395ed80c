-- Where the packets of a unit stand at a seat: those at the instance that the switch sends it to come last, and each kind stands at
-- one side.
use Rattle.proof_machines.proofs.unit.Words.{◌≡◌, ℕ, Bool, true, false, List, [], ◌∷◌, ◌++◌, map, refl, sym, ap, ◌∙◌, append_assoc, append-nil, Where, At_a}
use Rattle.proof_machines.proofs.unit.Words.{At_b, At_c, Steps, Item, Carry, Pass, Forward, Fence_to, Stray, Inst, Phase, Passing, Ending, Undoing, Over, State}
use Rattle.proof_machines.proofs.unit.Words.{firsts, nil_left, nil_right, Stage, At_rest, Streams, Is_shut, Is_agreed, Laying, Turned, Fenced_a, Ending_b}
use Rattle.proof_machines.proofs.unit.Words.{Fence_b, Turned_loose, Fenced_loose, Ending_loose, Fence_loose, Fenced_b, Moved, shape, path, all_of, to_a, to_b}
use Rattle.proof_machines.proofs.unit.Path.{passes_in, carries, events_in, forwards, places, none_before, HasNone, none_of, path_of, path_is, no_passes}
use Rattle.proof_machines.proofs.unit.Path.{all_carries, no_carries}
use Rattle.proof_machines.proofs.unit.DestinationUnits.{strip, DestinationUnit, shape_beside}
use Rattle.proof_machines.proofs.unit.Away.{Away, shape_away}
use Rattle.proof_machines.proofs.unit.Rests.{is_over}
use Rattle.proof_machines.proofs.unit.Seats.{UnitSeat, Covered, Is_beside, Is_away, seat_shape, seat_path}
use Rattle.proof_machines.proofs.unit.Lists.{all_pass}
use Rattle.std.specs.List.{list_all}
use Rattle.std.proofs.lemmas.List.Elements.{filter_map-append}
use Rattle.std.proofs.lemmas.List.Folds.{list_all-append}

-- what an instance holds, and behind it what comes to it by the rules
abbrev pub at_side : {R : Type 0} → Inst R → List (Item R) → List ℕ
at_side i link = i.held ++ carries link

-- one of two lists has nothing
pub data OneOf (xs ys : List ℕ) : Type 0 where
  First : ys ≡ [] → OneOf xs ys
  Second : xs ≡ [] → OneOf xs ys

-- the switch is sent nothing that goes to another than A and B
abbrev pub for_switch : {R : Type 0} → Item R → Bool
for_switch Stray = false
for_switch (Forward At_c p) = false
for_switch (Fence_to At_c) = false
for_switch it = true

-- what the controller stored has gone on, or nothing was stored yet
abbrev pub is_released : {R : Type 0} → Phase R → Bool
is_released Passing = true
is_released Ending = true
is_released (Undoing why) = true
is_released (Over why) = true
is_released phase = false

-- last comes what stands at the target; at a side that isn't the target, it is the source where the destination is the target
pub data Last {R : Type 0} (x : State R) (way : List ℕ) : Type 0 where
  At_source : x.target ≡ At_a → at_side x.b x.sb ≡ [] → at_side x.c x.sc ≡ [] → way ≡ places x (at_side x.a x.sa) → Last x way
  At_destination : x.target ≡ At_b → at_side x.c x.sc ≡ [] → way ≡ places x (at_side x.a x.sa ++ at_side x.b x.sb) → Last x way
  At_third : x.target ≡ At_c → at_side x.a x.sa ≡ [] → at_side x.b x.sb ≡ [] → way ≡ places x (at_side x.c x.sc) → Last x way

pub record SidesStand {R : Type 0} (x : State R) (way : List ℕ) : Type 0 where
  pub handed : OneOf (passes_in x.sa) (passes_in x.sb)
  pub third : passes_in x.sc ≡ []
  pub events_b : events_in x.bc ≡ []
  pub events_c : events_in x.cc ≡ []
  pub known : list_all for_switch x.cs ≡ true
  pub released : is_released x.phase ≡ true → x.store ≡ []
  pub last : Last x way

-- The third instance has nothing at a stage.
record Plain {R : Type 0} (x : State R) : Type 0 where
  sc : x.sc ≡ []
  from_c : x.cc ≡ []
  held : x.c.held ≡ []

plain : {R : Type 0} (F : Steps R) (s : Stage F) → Plain (shape F s)
plain F (At_rest d l k) = record { sc = refl; from_c = refl; held = refl }
plain F s = record { sc = refl; from_c = refl; held = refl }

handed_at : {R : Type 0} (F : Steps R) (s : Stage F) → OneOf (passes_in (shape F s).sa) (passes_in (shape F s).sb)
handed_at {R = R} F (Laying d x f g e l k) = Second (no_passes R l)
handed_at F (Turned d x f e l h) = Second (simp (filter_map-append, no_passes))
handed_at F (Fenced_a d x f e h) = Second refl
handed_at F (Ending_b d x f h) = Second refl
handed_at F (Fence_b d x n h) = Second refl
handed_at F (Turned_loose d x f e l) = Second (simp (filter_map-append, no_passes))
handed_at F (Fenced_loose d x f e) = Second refl
handed_at F (Ending_loose d x f) = Second refl
handed_at F (Fence_loose d x n) = Second refl
handed_at F (Fenced_b d l k) = Second refl
handed_at F (Moved d l k) = Second refl
handed_at F (At_rest d l k) = First refl
handed_at F s = First refl

to_b_known : (R : Type 0) (l : List ℕ) → list_all for_switch (map (to_b {R = R}) l) ≡ true
to_b_known R l = all_pass for_switch to_b (λ p. refl) l

to_a_known : (R : Type 0) (l : List ℕ) → list_all for_switch (map (to_a {R = R}) l) ≡ true
to_a_known R l = all_pass for_switch to_a (λ p. refl) l

known_at : {R : Type 0} (F : Steps R) (s : Stage F) → list_all for_switch (shape F s).cs ≡ true
known_at F (At_rest d l k) = refl
known_at F s = first_of (simp (list_all-append, to_b_known, to_a_known), cc)

-- what comes from the destination is no packet
events_b_at : {R : Type 0} (F : Steps R) (s : Stage F) → events_in (shape F s).bc ≡ []
events_b_at F (Streams d f y q l k Is_shut w) = refl
events_b_at F (Streams d f y q l k (Is_agreed h v) w) = refl
events_b_at F (Streams d f y q l k s w) = refl
events_b_at F (At_rest d l k) = refl
events_b_at F s = refl

released_at : {R : Type 0} (F : Steps R) (s : Stage F) → is_released (shape F s).phase ≡ true → (shape F s).store ≡ []
released_at F (At_rest d l k) h = refl
released_at F s h = cc

-- before the switch changes its rules the destination has nothing
early : {R : Type 0} (F : Steps R) (s : Stage F) → (shape F s).target ≡ At_a → at_side (shape F s).b (shape F s).sb ≡ []
early {R = R} F (Laying d x f g e l k) h = no_carries R x
early F (At_rest d l k) h = refl
early F s h = cc

not_third : {R : Type 0} (F : Steps R) (s : Stage F) → (shape F s).target ≡ At_c → ⊥
not_third F (At_rest d l k) h = cc
not_third F s h = cc

split : {R : Type 0} (x : State R) → path_of x ≡ places x (at_side x.a x.sa ++ at_side x.b x.sb)
split x = ap (λ v. places x v) (sym (append_assoc x.a.held (carries x.sa) (at_side x.b x.sb)))

nothing_on : {R : Type 0} (i : Inst R) (link : List (Item R)) → i.held ≡ [] → link ≡ [] → at_side i link ≡ []
nothing_on i link h e = rw (h, e) refl

last_at : {R : Type 0} (F : Steps R) (s : Stage F) → Last (shape F s) (path s)
last_at F s = by_target (shape F s).target refl
  where
    way : path s ≡ places (shape F s) (at_side (shape F s).a (shape F s).sa ++ at_side (shape F s).b (shape F s).sb)
    way = sym (path_is F s) ∙ split (shape F s)

    away : at_side (shape F s).c (shape F s).sc ≡ []
    away = nothing_on (shape F s).c (shape F s).sc (plain F s).held (plain F s).sc

    by_target : (w : Where) → (shape F s).target ≡ w → Last (shape F s) (path s)
    by_target At_a e = At_source e (early F s e) away (way ∙ ap (λ v. places (shape F s) (at_side (shape F s).a (shape F s).sa ++ v)) (early F s e)
        ∙ ap (λ v. places (shape F s) v) (append-nil (at_side (shape F s).a (shape F s).sa)))
    by_target At_b e = At_destination e away way
    by_target At_c e = absurd (not_third F s e)

stage_stands : {R : Type 0} (F : Steps R) (s : Stage F) → SidesStand (shape F s) (path s)
stage_stands F s = record {
  handed = handed_at F s;
  third = ap passes_in (plain F s).sc;
  events_b = events_b_at F s;
  events_c = ap events_in (plain F s).from_c;
  known = known_at F s;
  released = released_at F s;
  last = last_at F s;
}

bare_none : {R : Type 0} (F : Steps R) (s : Stage F) → all_of s ≡ [] → HasNone (shape F s)
bare_none F s bare = none_of (shape F s) (path_is F s ∙ nil_right (firsts (shape F s).done) (path s) bare)

passes-strip : {R : Type 0} (z : List (Item R)) → passes_in z ≡ passes_in (strip z)
passes-strip [] = refl
passes-strip (Carry p ∷ z) = passes-strip z
passes-strip (Pass p ∷ z) = ap (λ v. p ∷ v) (passes-strip z)
passes-strip (x ∷ z) = passes-strip z

beside_stands : {R : Type 0} (F : Steps R) (s : DestinationUnit F) → SidesStand (shape_beside F s) (s.h ++ carries s.z)
beside_stands F s =
    let base = stage_stands F s.base in
    let none = bare_none F s.base s.bare in
    let third = plain F s.base in
    let own : passes_in s.z ≡ [] = passes-strip s.z ∙ ap passes_in s.strips ∙ none.before.passes_b in
    record {
      handed = First own;
      third = base.third;
      events_b = base.events_b;
      events_c = base.events_c;
      known = base.known;
      released = base.released;
      last = At_destination refl (nothing_on (shape F s.base).c (shape F s.base).sc third.held third.sc)
          (rw (none.before.passes_a, own, none.before.forwards_s, none.before.store, none.before.events_a, none.held_a, none.carries_a) refl);
    }

away_stands : {R : Type 0} (F : Steps R) (s : Away F) → SidesStand (shape_away F s) s.l
away_stands {R = R} F s =
    let base = stage_stands F s.base in
    let none = bare_none F s.base s.bare in
    record {
      handed = base.handed;
      third = no_passes R s.l;
      events_b = base.events_b;
      events_c = base.events_c;
      known = base.known;
      released = base.released;
      last = At_third refl (rw (none.held_a, none.carries_a) refl) (rw (none.held_b, none.carries_b) refl)
          (rw (none.before.passes_a, none.before.passes_b, none.before.forwards_s, none.before.store, none.before.events_a) (sym (all_carries R s.l)));
    }

pub seat_stands : {R : Type 0} (F : Steps R) (s : UnitSeat F) → SidesStand (seat_shape F s) (seat_path s)
seat_stands F (Covered s) = stage_stands F s
seat_stands F (Is_beside s) = beside_stands F s
seat_stands F (Is_away s) = away_stands F s

pub over_released : {R : Type 0} (p : Phase R) → is_over p ≡ true → is_released p ≡ true
over_released (Over why) e = refl
over_released p e = cc

-- where nothing waits, nothing stands anywhere
pub record Empty {R : Type 0} (x : State R) : Type 0 where
  pub passes_a : passes_in x.sa ≡ []
  pub passes_b : passes_in x.sb ≡ []
  pub forwards_s : forwards x.cs ≡ []
  pub store : x.store ≡ []
  pub events_a : events_in x.ac ≡ []
  pub at_a : at_side x.a x.sa ≡ []
  pub at_b : at_side x.b x.sb ≡ []
  pub at_c : at_side x.c x.sc ≡ []

-- a path that has nothing has none at its last places
empty_from : {R : Type 0} (x : State R) (last : List ℕ) → places x last ≡ [] → (last ≡ [] → at_side x.a x.sa ≡ []) → (last ≡ [] → at_side x.b x.sb ≡ [])
    → (last ≡ [] → at_side x.c x.sc ≡ []) → Empty x
empty_from x last p0 a b c =
    let n = none_before x last p0 in
    record {
      passes_a = n.passes_a;
      passes_b = n.passes_b;
      forwards_s = n.forwards_s;
      store = n.store;
      events_a = n.events_a;
      at_a = a n.rest;
      at_b = b n.rest;
      at_c = c n.rest;
    }

pub empty_of : {R : Type 0} (x : State R) (way : List ℕ) → Last x way → way ≡ [] → Empty x
empty_of x way (At_source t b c e) none = empty_from x (at_side x.a x.sa) (sym e ∙ none) (λ p. p) (λ _. b) (λ _. c)
empty_of x way (At_destination t c e) none =
    empty_from x (at_side x.a x.sa ++ at_side x.b x.sb) (sym e ∙ none) (nil_left (at_side x.a x.sa) _) (nil_right (at_side x.a x.sa) _) (λ _. c)
empty_of x way (At_third t a b e) none = empty_from x (at_side x.c x.sc) (sym e ∙ none) (λ _. a) (λ _. b) (λ p. p)
