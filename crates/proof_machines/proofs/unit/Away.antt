-- Each step for a unit that a third instance owns, while a move takes it: its packets stay in order, its record stays there.
use Rattle.std.proofs.lemmas.List.Sums.{fold-append}
use Rattle.proof_machines.proofs.unit.Words.{◌≡◌, ℕ, Bool, true, false, List, [], ◌∷◌, ◌++◌, map, refl, sym, ap, ◌∙◌, append_assoc, append-nil, option_to_list}
use Rattle.proof_machines.proofs.unit.Words.{map-append, At_a, At_b, At_c, Ran, Steps, after, Item, Carry, Forward, Fence_to, idle, Phase, Idle, State}
use Rattle.proof_machines.proofs.unit.Words.{MachineStep, Begin, Arrive, Take_sa, Take_sb, Take_sc, Take_ac, Take_bc, Take_ca, Take_cb, Take_cs, moved, begun}
use Rattle.proof_machines.proofs.unit.Words.{switch_does, Over, firsts, Stage, shape, all_of, Allowed, Placed, arrived_by, still, one_more}
use Rattle.proof_machines.proofs.unit.Kept.{lives, on_way}
use Rattle.proof_machines.proofs.unit.Bare.{bare_facts, stays_bare}
use Rattle.proof_machines.proofs.unit.Steps.{goes_on}

abbrev pub away : {R : Type 0} → Steps R → State R → List Ran → List ℕ → State R
away F u d l = record u { sc = map Carry l; c = idle (after F d); target = At_c; done = d ++ u.done }

-- a move of the message
abbrev pub of_message : {R : Type 0} → MachineStep R → Bool
of_message (Arrive p) = false
of_message Take_sc = false
of_message m = true

begun_away : {R : Type 0} (F : Steps R) (u : State R) (d : List Ran) (l : List ℕ) (keep : Bool) (p : Phase R)
    → begun keep p (away F u d l) ≡ away F (begun keep p u) d l
begun_away F u d l keep (Over Idle) = refl
begun_away F u d l keep p = refl

switch_away : {R : Type 0} (F : Steps R) (u : State R) (d : List Ran) (l : List ℕ) (x : Item R) → switch_does (away F u d l) x ≡ away F (switch_does u x) d l
switch_away F u d l (Forward At_a p) = refl
switch_away F u d l (Forward At_b p) = refl
switch_away F u d l (Forward At_c p) = refl
switch_away F u d l (Fence_to At_a) = refl
switch_away F u d l (Fence_to At_b) = refl
switch_away F u d l (Fence_to At_c) = refl
switch_away F u d l x = refl

abbrev Stays : {R : Type 0} → Steps R → List Ran → List ℕ → MachineStep R → State R → Type 0
Stays F d l m u = moved F (away F u d l) m ≡ away F (moved F u m) d l

message_away : {R : Type 0} (F : Steps R) (u : State R) (d : List Ran) (l : List ℕ) (m : MachineStep R) → of_message m ≡ true → Stays F d l m u
message_away F u d l (Begin keep) e = begun_away F u d l keep u.phase
message_away F u d l Take_sa e = elim u.sa as (λ xs. Stays F d l Take_sa (record u { sa = xs })) [ [] ↦ refl | x ∷ xs ↦ simp append_assoc ]
message_away F u d l Take_sb e = elim u.sb as (λ xs. Stays F d l Take_sb (record u { sb = xs })) [ [] ↦ refl | x ∷ xs ↦ simp append_assoc ]
message_away F u d l (Take_ca parts) e = elim u.ca as (λ xs. Stays F d l (Take_ca parts) (record u { ca = xs }))
    [ [] ↦ refl | x ∷ xs ↦ simp append_assoc ]
message_away F u d l (Take_cb refuse) e = elim u.cb as (λ xs. Stays F d l (Take_cb refuse) (record u { cb = xs }))
    [ [] ↦ refl | x ∷ xs ↦ simp append_assoc ]
message_away F u d l Take_ac e = elim u.ac as (λ xs. Stays F d l Take_ac (record u { ac = xs })) [ [] ↦ refl | x ∷ xs ↦ refl ]
message_away F u d l Take_bc e = elim u.bc as (λ xs. Stays F d l Take_bc (record u { bc = xs })) [ [] ↦ refl | x ∷ xs ↦ refl ]
message_away F u d l Take_cs e = elim u.cs as (λ xs. Stays F d l Take_cs (record u { cs = xs }))
    [ [] ↦ refl | x ∷ xs ↦ switch_away F (record u { cs = xs }) d l x ]
message_away F u d l m e = cc

-- a stage of the message, and the unit's own packets
pub record Away {R : Type 0} (F : Steps R) : Type 0 where
  pub base : Stage F
  pub bare : all_of base ≡ []
  pub d : List Ran
  pub l : List ℕ

abbrev pub shape_away : {R : Type 0} → (F : Steps R) → Away F → State R
shape_away F s = away F (shape F s.base) s.d s.l

abbrev pub all_away : {R : Type 0} {F : Steps R} → Away F → List ℕ
all_away s = firsts s.d ++ s.l

abbrev pub GoesOnAway : {R : Type 0} → (F : Steps R) → Away F → MachineStep R → Type 0
GoesOnAway F s m = (t : Away F) × (moved F (shape_away F s) m ≡ shape_away F t) × (all_away t ≡ all_away s ++ arrived_by m) × Placed At_c s.d t.d

message_arrives : {R : Type 0} (m : MachineStep R) → of_message m ≡ true → arrived_by m ≡ []
message_arrives (Arrive p) e = cc
message_arrives m e = refl

by_message : {R : Type 0} (F : Steps R) (s : Away F) (m : MachineStep R) → Allowed (shape F s.base) m → of_message m ≡ true → GoesOnAway F s m
by_message F s m a is =
    let g = goes_on F s.base m a in
    let none = message_arrives m is in (
      record { base = g.0; bare = stays_bare F s.base m a s.bare none; d = s.d; l = s.l },
      message_away F (shape F s.base) s.d s.l m is ∙ ap (λ z. away F z s.d s.l) g.1,
      rw none (sym (append-nil (all_away s))),
      still At_c s.d,
    )

pub away_goes_on : {R : Type 0} (F : Steps R) (s : Away F) (m : MachineStep R) → Allowed (shape F s.base) m → GoesOnAway F s m
away_goes_on F s (Arrive p) a =
    (record { base = s.base; bare = s.bare; d = s.d; l = s.l ++ p ∷ [] }, simp map-append, sym (append_assoc (firsts s.d) s.l (p ∷ [])), still At_c s.d)
away_goes_on F s Take_sc a =
    let none = (bare_facts F s.base s.bare).done in
    elim s.l as (λ l. s.l ≡ l → GoesOnAway F s Take_sc) [
      | [] ↦ λ e. (s, rw e refl, sym (append-nil (all_away s)), still At_c s.d)
      | p ∷ l ↦ λ e. (
        record { base = s.base; bare = s.bare; d = s.d ++ (p, At_c) ∷ []; l = l },
        rw e (rw none (simp (map-append, fold-append, append_assoc, append-nil))),
        rw e (simp (map-append, append_assoc, append-nil)),
        one_more At_c s.d p,
      )
    ] refl
away_goes_on F s m a = by_message F s m a refl

-- the record is that of the fold, at one side alone
pub away_kept : {R : Type 0} (F : Steps R) (s : Away F)
    → (lives (shape_away F s) ≡ option_to_list (after F s.d)) × (on_way (shape_away F s) ≡ []) × ((shape_away F s).done ≡ s.d)
away_kept F s =
    let f = bare_facts F s.base s.bare in
    let a = f.a_live in let b = f.live in let n = f.done in
    (rw (a, b) refl, f.way, rw n (append-nil s.d))
