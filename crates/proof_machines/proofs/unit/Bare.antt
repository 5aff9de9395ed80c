-- A stage without any packet of the unit has no record of it and holds nothing; a step in which no packet comes leaves it so.
use Rattle.proof_machines.proofs.unit.Machine.{Stream, Delete, Restore, delete}
use Rattle.proof_machines.proofs.unit.Words.{◌≡◌, ℕ, ◌+◌, Bool, true, false, Option, Some, None, List, [], ◌∷◌, ◌++◌, map, refl, ap, ◌∙◌, arith, if◌then◌else◌}
use Rattle.proof_machines.proofs.unit.Words.{◌==◌, option_to_list, Steps, after, Rule, Free, Drops, Buffers, Item, Carry, Pass, Fence, Enable, Put, next, State}
use Rattle.proof_machines.proofs.unit.Words.{MachineStep, firsts, marked, nil_left, nil_right, Stage, At_rest, Streams, Is_wide, shape, path, all_of, loose}
use Rattle.proof_machines.proofs.unit.Words.{times, Same, IsOrderedAs, Allowed, arrived_by}
use Rattle.std.specs.List.{list_all}
use Rattle.std.proofs.lemmas.Bool.Decides.{Decides-eqb}
use Rattle.std.proofs.lemmas.List.Folds.{list_all-append}
use Rattle.proof_machines.proofs.Tests.{by_if}
use Rattle.proof_machines.proofs.unit.Lists.{all_pass, map_nil}
use Rattle.proof_machines.proofs.unit.Path.{passes_in, carries, path_of, none_of, carry, pass, path_is}
use Rattle.proof_machines.proofs.unit.Kept.{Kept, Nowhere, Is_live, On_way, Twice, is_kept, lives, on_way, records_on, frozen_in}
use Rattle.proof_machines.proofs.unit.Steps.{goes_on}

-- what the switch sends to B
abbrev from_switch : {R : Type 0} → Item R → Bool
from_switch (Carry p) = true
from_switch (Pass p) = true
from_switch Fence = true
from_switch x = false

-- what the controller sends to A
abbrev pub to_source : {R : Type 0} → Item R → Bool
to_source (Enable r) = true
to_source Stream = true
to_source (Delete own) = true
to_source (Restore o) = true
to_source x = false

-- what the controller sends to B
abbrev pub to_dest : {R : Type 0} → Item R → Bool
to_dest (Enable Buffers) = true
to_dest (Put h first) = true
to_dest x = false

abbrev pub is_fence : {R : Type 0} → Item R → Bool
is_fence Fence = true
is_fence x = false

abbrev pub not_drops : Rule → Bool
not_drops Drops = false
not_drops r = true

carries_from : (R : Type 0) (l : List ℕ) → list_all from_switch (map (carry {R = R}) l) ≡ true
carries_from R l = all_pass from_switch carry (λ p. refl) l

passes_from : (R : Type 0) (l : List ℕ) → list_all from_switch (map (pass {R = R}) l) ≡ true
passes_from R l = all_pass from_switch pass (λ p. refl) l

mixed_from : (R : Type 0) (x : List (Bool × ℕ)) → list_all from_switch (map (marked {R = R}) x) ≡ true
mixed_from R x = all_pass from_switch marked (λ m. by_if (λ it. from_switch it ≡ true) m.0 refl refl) x

sb_kind : {R : Type 0} (F : Steps R) (s : Stage F) → list_all from_switch (shape F s).sb ≡ true
sb_kind F (At_rest d l k) = refl
sb_kind F s = first_of (simp (list_all-append, carries_from, passes_from, mixed_from), cc)

pub ca_kind : {R : Type 0} (F : Steps R) (s : Stage F) → list_all to_source (shape F s).ca ≡ true
ca_kind F (Streams d f y q l k s w) = all_pass to_source delete (λ h. refl) q
ca_kind F s = refl

pub cb_kind : {R : Type 0} (F : Steps R) (s : Stage F) → list_all to_dest (shape F s).cb ≡ true
cb_kind F (Streams d f y q l k (Is_wide g w) fl) = all_pass to_dest next (λ h. refl) w
cb_kind F (Streams d f y q l k s fl) = refl
cb_kind F (At_rest d l k) = refl
cb_kind F s = refl

if_not_drops : (k : Bool) → not_drops (if k then Buffers else Free) ≡ true
if_not_drops k = by_if (λ r. not_drops r ≡ true) k refl refl

pub b_rule : {R : Type 0} (F : Steps R) (s : Stage F) → not_drops (shape F s).b.rule ≡ true
b_rule F (At_rest d l k) = refl
b_rule F s = first_of (simp if_not_drops, cc)

-- lists with the same packets as none
same_nil : (xs : List ℕ) → Same xs [] → xs ≡ []
same_nil [] same = refl
same_nil (x ∷ xs) same =
    let one : (x == x) ≡ true = (Decides-eqb x x).1 refl in
    let e = same x in
    let f : 1 + times x xs ≡ 0 = rw one at e in
    let never : ⊥ = omega arith in absurd never

order_nil : (b : Bool) (xs ys : List ℕ) → IsOrderedAs b xs ys → ys ≡ [] → xs ≡ []
order_nil true xs ys o e = same_nil xs (λ p. o p ∙ ap (λ z. times p z) e)
order_nil false xs ys o e = o ∙ e

-- a step with no packet leaves none
pub stays_bare : {R : Type 0} (F : Steps R) (s : Stage F) (m : MachineStep R) (a : Allowed (shape F s) m) → all_of s ≡ [] → arrived_by m ≡ []
    → all_of (goes_on F s m a).0 ≡ []
stays_bare F s m a bare none =
    let g = goes_on F s m a in
    order_nil (loose g.0) (all_of g.0) (all_of s ++ arrived_by m) g.2 (rw (bare, none) refl)

fences_alone : {R : Type 0} (xs : List (Item R)) → list_all from_switch xs ≡ true → carries xs ≡ [] → passes_in xs ≡ []
    → list_all is_fence xs ≡ true
fences_alone [] s c p = refl
fences_alone (Fence ∷ xs) s c p = fences_alone xs s c p
fences_alone (Carry n ∷ xs) s c p = cc
fences_alone (Pass n ∷ xs) s c p = cc
fences_alone (x ∷ xs) s c p = cc

pub record Bare {R : Type 0} (u : State R) : Type 0 where
  pub done : u.done ≡ []
  pub held : u.b.held ≡ []
  pub a_live : u.a.live ≡ None
  pub live : u.b.live ≡ None
  pub way : on_way u ≡ []
  pub cb_none : records_on u.cb ≡ []
  pub cb_is : list_all to_dest u.cb ≡ true
  pub sb_is : list_all is_fence u.sb ≡ true
  pub rule : not_drops u.b.rule ≡ true

nil_option : {R : Type 0} (o : Option R) → option_to_list o ≡ [] → o ≡ None
nil_option None e = refl
nil_option (Some r) e = cc

-- where nothing was processed there is no record
no_record : {R : Type 0} (o a : Option R) (live way : List R) → o ≡ None → Kept o a live way → (live ≡ []) × (way ≡ [])
no_record o a live way e (Nowhere _ x y) = (x, y)
no_record o a live way e (Is_live r is x y) = let never : ⊥ = cc in absurd never
no_record o a live way e (On_way r is x y) = let never : ⊥ = cc in absurd never
no_record o a live way e (Twice r is _ x y) = let never : ⊥ = cc in absurd never

pub bare_facts : {R : Type 0} (F : Steps R) (s : Stage F) → all_of s ≡ [] → Bare (shape F s)
bare_facts F s bare =
    let u = shape F s in
    let done : u.done ≡ [] = map_nil _ u.done (nil_left (firsts u.done) (path s) bare) in
    let none : path_of u ≡ [] = path_is F s ∙ nil_right (firsts u.done) (path s) bare in
    let nowhere = none_of u none in
    let kept = no_record (after F u.done) u.a.live (lives u) (on_way u) (ap (λ z. after F z) done) (is_kept F s) in
    let l1 = nil_right (option_to_list u.a.live) _ kept.0 in
    let w1 = nil_right (records_on u.ac) _ kept.1 in
    let w2 = nil_right (frozen_in u.phase) _ w1 in
    let w3 = nil_right (records_on u.bc) _ w2 in
    record {
      done = done;
      held = nowhere.held_b;
      a_live = nil_option u.a.live (nil_left (option_to_list u.a.live) _ kept.0);
      way = kept.1;
      live = nil_option u.b.live (nil_left (option_to_list u.b.live) _ l1);
      cb_none = nil_left (records_on u.cb) _ w3;
      cb_is = cb_kind F s;
      sb_is = fences_alone u.sb (sb_kind F s) nowhere.carries_b nowhere.before.passes_b;
      rule = b_rule F s;
    }
