-- Each step for a unit that the destination owns already, while a move takes it: its packets stay in order, also where they are
-- held, its record stays there.
use Rattle.proof_machines.proofs.unit.Lists.{cons_option_nil, never_true}
use Rattle.proof_machines.proofs.unit.Words.{◌≡◌, ℕ, Bool, true, false, Option, Some, None, List, [], ◌∷◌, ◌++◌, map, refl, sym, ap, ◌∙◌, append_assoc}
use Rattle.proof_machines.proofs.unit.Words.{append-nil, option_to_list, Answer, At_a, At_b, At_c, Ran, on, Steps, after, Part, Free, Drops, Buffers, Item}
use Rattle.proof_machines.proofs.unit.Words.{Carry, Pass, Fence, Enable, Put, Forward, Fence_to, Phase, Idle, State, MachineStep, Begin, Arrive, Take_sa}
use Rattle.proof_machines.proofs.unit.Words.{Take_sb, Take_sc, Take_ac, Take_bc, Take_ca, Take_cb, Take_cs, moved, begun, put, put_b, switch_does, Over, firsts}
use Rattle.proof_machines.proofs.unit.Words.{map-append, firsts-on, Stage, At_rest, shape, all_of, Allowed, Placed, arrived_by, still, one_more}
use Rattle.std.specs.List.{filter, list_all}
use Rattle.std.specs.Prelude.{is_none}
use Rattle.std.proofs.lemmas.List.Sums.{fold-append}
use Rattle.std.proofs.lemmas.List.Elements.{filter-append, filter_map-append}
use Rattle.proof_machines.proofs.unit.Path.{carry_of, carries}
use Rattle.proof_machines.proofs.unit.Kept.{records_on, lives, on_way}
use Rattle.proof_machines.proofs.unit.Bare.{bare_facts, stays_bare, to_dest, is_fence, not_drops}
use Rattle.proof_machines.proofs.unit.Steps.{goes_on}

-- a link without its plain packets
abbrev pub strip : {R : Type 0} → List (Item R) → List (Item R)
strip z = filter (λ x. is_none (carry_of x)) z

abbrev pub beside : {R : Type 0} → Steps R → State R → List (Item R) → List ℕ → List Ran → State R
beside F u z h d = record u { sb = z; b = record u.b { held = h; live = after F d }; target = At_b; done = d ++ u.done }

begun_beside : {R : Type 0} (F : Steps R) (u : State R) (z : List (Item R)) (h : List ℕ) (d : List Ran) (keep : Bool) (p : Phase R)
    → begun keep p (beside F u z h d) ≡ beside F (begun keep p u) z h d
begun_beside F u z h d keep (Over Idle) = refl
begun_beside F u z h d keep p = refl

begun_sb : {R : Type 0} (u : State R) (keep : Bool) (p : Phase R) → ((begun keep p u).sb ≡ u.sb) × ((begun keep p u).b ≡ u.b)
begun_sb u keep (Over Idle) = (refl, refl)
begun_sb u keep p = (refl, refl)

-- moves that touch neither B nor its link
abbrev pub apart : {R : Type 0} → MachineStep R → Bool
apart (Begin keep) = true
apart Take_sa = true
apart Take_sc = true
apart Take_ac = true
apart Take_bc = true
apart (Take_ca parts) = true
apart m = false

-- such a move leaves B and its link, and does beside the unit's own packets what it does without them
abbrev Untouched : {R : Type 0} → Steps R → List (Item R) → List ℕ → List Ran → MachineStep R → State R → Type 0
Untouched F z h d m u = (moved F (beside F u z h d) m ≡ beside F (moved F u m) z h d) × ((moved F u m).sb ≡ u.sb) × ((moved F u m).b ≡ u.b)

untouched : {R : Type 0} (F : Steps R) (u : State R) (z : List (Item R)) (h : List ℕ) (d : List Ran) (m : MachineStep R) → apart m ≡ true
    → Untouched F z h d m u
untouched F u z h d (Begin keep) e = let same = begun_sb u keep u.phase in (begun_beside F u z h d keep u.phase, same.0, same.1)
untouched F u z h d Take_sa e = elim u.sa as (λ xs. Untouched F z h d Take_sa (record u { sa = xs }))
    [ [] ↦ (refl, refl, refl) | x ∷ xs ↦ (simp append_assoc, refl, refl) ]
untouched F u z h d Take_sc e = elim u.sc as (λ xs. Untouched F z h d Take_sc (record u { sc = xs }))
    [ [] ↦ (refl, refl, refl) | x ∷ xs ↦ (simp append_assoc, refl, refl) ]
untouched F u z h d (Take_ca parts) e = elim u.ca as (λ xs. Untouched F z h d (Take_ca parts) (record u { ca = xs }))
    [ [] ↦ (refl, refl, refl) | x ∷ xs ↦ (simp append_assoc, refl, refl) ]
untouched F u z h d Take_ac e = elim u.ac as (λ xs. Untouched F z h d Take_ac (record u { ac = xs }))
    [ [] ↦ (refl, refl, refl) | x ∷ xs ↦ (refl, refl, refl) ]
untouched F u z h d Take_bc e = elim u.bc as (λ xs. Untouched F z h d Take_bc (record u { bc = xs }))
    [ [] ↦ (refl, refl, refl) | x ∷ xs ↦ (refl, refl, refl) ]
untouched F u z h d m e = cc

-- the unit's own packets beside a stage: the link to B with them, those that are held there, and what was processed
pub record OwnPackets (R : Type 0) : Type 0 where
  pub link : List (Item R)
  pub held : List ℕ
  pub done : List Ran

abbrev pub with_own : {R : Type 0} → Steps R → State R → OwnPackets R → State R
with_own F u own = beside F u own.link own.held own.done

-- a step of the switch: what it sends goes behind what is there
pub record SendsBeside {R : Type 0} (F : Steps R) (u : State R) (step : State R → State R) (own : OwnPackets R) : Type 0 where
  pub z' : List (Item R)
  pub strips : strip own.link ≡ u.sb → strip z' ≡ (step u).sb
  pub stays : carries z' ≡ carries own.link
  pub is : step (with_own F u own) ≡ beside F (step u) z' own.held own.done
  pub rule : (step u).b.rule ≡ u.b.rule

switch_beside : {R : Type 0} (F : Steps R) (u : State R) (z : List (Item R)) (h : List ℕ) (d : List Ran) (x : Item R)
    → SendsBeside F u (λ v. switch_does v x) (record { link = z; held = h; done = d })
switch_beside F u z h d (Forward At_b p) = record {
  z' = z ++ Pass p ∷ [];
  strips = λ e. filter-append _ z (Pass p ∷ []) ∙ ap (λ s. s ++ Pass p ∷ []) e;
  stays = filter_map-append _ z (Pass p ∷ []) ∙ append-nil (carries z);
  is = refl;
  rule = refl;
}
switch_beside F u z h d (Fence_to At_b) = record {
  z' = z ++ Fence ∷ [];
  strips = λ e. filter-append _ z (Fence ∷ []) ∙ ap (λ s. s ++ Fence ∷ []) e;
  stays = filter_map-append _ z (Fence ∷ []) ∙ append-nil (carries z);
  is = refl;
  rule = refl;
}
switch_beside F u z h d (Forward At_a p) = record { z' = z; strips = λ e. e; stays = refl; is = refl; rule = refl }
switch_beside F u z h d (Forward At_c p) = record { z' = z; strips = λ e. e; stays = refl; is = refl; rule = refl }
switch_beside F u z h d (Fence_to At_a) = record { z' = z; strips = λ e. e; stays = refl; is = refl; rule = refl }
switch_beside F u z h d (Fence_to At_c) = record { z' = z; strips = λ e. e; stays = refl; is = refl; rule = refl }
switch_beside F u z h d x = record { z' = z; strips = λ e. e; stays = refl; is = refl; rule = refl }

cs_beside : {R : Type 0} (F : Steps R) (u : State R) (z : List (Item R)) (h : List ℕ) (d : List Ran)
    → SendsBeside F u (λ v. moved F v Take_cs) (record { link = z; held = h; done = d })
cs_beside F u z h d = elim u.cs as (λ xs. SendsBeside F (record u { cs = xs }) (λ v. moved F v Take_cs) (record { link = z; held = h; done = d })) [
  | [] ↦ record { z' = z; strips = λ e. e; stays = refl; is = refl; rule = refl }
  | x ∷ xs ↦ (let s = switch_beside F (record u { cs = xs }) z h d x in record { z' = s.z'; strips = s.strips; stays = s.stays; is = s.is; rule = s.rule })
]

-- what B takes from the controller: its rule, or a piece without the unit
-- a step of B that takes from the controller: the link to B stays
pub record TakesBeside {R : Type 0} (F : Steps R) (u : State R) (step : State R → State R) (own : OwnPackets R) : Type 0 where
  pub is : step (with_own F u own) ≡ with_own F (step u) own
  pub link : (step u).sb ≡ u.sb
  pub rule : (step u).b.rule ≡ Free → u.b.rule ≡ Free

put_beside : {R : Type 0} (F : Steps R) (u : State R) (z : List (Item R)) (h : List ℕ) (d : List Ran) (p : Part R) (first : Bool) (refuse : Option Answer)
    → p.own ≡ None → TakesBeside F u (λ v. put_b v (put F first refuse v.b p)) (record { link = z; held = h; done = d })
put_beside F u z h d p false refuse o = record { is = rw o (simp append_assoc); link = refl; rule = λ e. e }
put_beside F u z h d p true None o = record { is = rw o (simp append_assoc); link = refl; rule = λ e. e }
put_beside F u z h d p true (Some why) o = record { is = simp append_assoc; link = refl; rule = λ e. e }

cb_beside : {R : Type 0} (F : Steps R) (u : State R) (z : List (Item R)) (h : List ℕ) (d : List Ran) (refuse : Option Answer) (xs : List (Item R))
    → list_all to_dest xs ≡ true → records_on xs ≡ []
    → TakesBeside F (record u { cb = xs }) (λ v. moved F v (Take_cb refuse)) (record { link = z; held = h; done = d })
cb_beside F u z h d refuse [] k r = record { is = refl; link = refl; rule = λ e. e }
cb_beside F u z h d refuse (Enable Buffers ∷ xs) k r = record { is = simp append_assoc; link = refl; rule = λ e. cc }
cb_beside F u z h d refuse (Put p first ∷ xs) k r =
    let t = put_beside F (record u { cb = xs }) z h d p first refuse (cons_option_nil p.own (records_on xs) r).0 in
    record { is = t.is; link = t.link; rule = t.rule }
cb_beside F u z h d refuse (x ∷ xs) k r = cc

-- a stage of the message, and the unit's own packets: `z` is the link to B with them
pub record DestinationUnit {R : Type 0} (F : Steps R) : Type 0 where
  pub base : Stage F
  pub bare : all_of base ≡ []
  pub z : List (Item R)
  pub h : List ℕ
  pub d : List Ran
  pub strips : strip z ≡ (shape F base).sb
  pub free : (shape F base).b.rule ≡ Free → h ≡ []

abbrev pub shape_beside : {R : Type 0} → (F : Steps R) → DestinationUnit F → State R
shape_beside F s = beside F (shape F s.base) s.z s.h s.d

abbrev pub all_beside : {R : Type 0} {F : Steps R} → DestinationUnit F → List ℕ
all_beside s = firsts s.d ++ (s.h ++ carries s.z)

abbrev pub GoesOnBeside : {R : Type 0} → (F : Steps R) → DestinationUnit F → MachineStep R → Type 0
GoesOnBeside F s m =
    (t : DestinationUnit F) × (moved F (shape_beside F s) m ≡ shape_beside F t) × (all_beside t ≡ all_beside s ++ arrived_by m) × Placed At_b s.d t.d

apart_none : {R : Type 0} (m : MachineStep R) → apart m ≡ true → arrived_by m ≡ []
apart_none (Arrive p) e = cc
apart_none m e = refl

by_message : {R : Type 0} (F : Steps R) (s : DestinationUnit F) (m : MachineStep R) → Allowed (shape F s.base) m → apart m ≡ true → GoesOnBeside F s m
by_message F s m a is =
    let u = shape F s.base in
    let g = goes_on F s.base m a in
    let kept = untouched F u s.z s.h s.d m is in
    let link : (shape F g.0).sb ≡ u.sb = ap (λ v. v.sb) (sym g.1) ∙ kept.1 in
    let rule : (shape F g.0).b ≡ u.b = ap (λ v. v.b) (sym g.1) ∙ kept.2 in
    let none = apart_none m is in (
      record {
        base = g.0;
        bare = stays_bare F s.base m a s.bare none;
        z = s.z;
        h = s.h;
        d = s.d;
        strips = s.strips ∙ sym link;
        free = λ e. s.free (ap (λ b. b.rule) (sym rule) ∙ e);
      },
      kept.0 ∙ ap (λ v. beside F v s.z s.h s.d) g.1,
      rw none (sym (append-nil (all_beside s))),
      still At_b s.d,
    )

by_switch : {R : Type 0} (F : Steps R) (s : DestinationUnit F) → GoesOnBeside F s Take_cs
by_switch F s =
    let u = shape F s.base in
    let g = goes_on F s.base Take_cs tt in
    let t = cs_beside F u s.z s.h s.d in
    let at = ap (λ v. v.sb) g.1 in
    let rule : (shape F g.0).b.rule ≡ u.b.rule = ap (λ v. v.b.rule) (sym g.1) ∙ t.rule in
    let stays = t.stays in (
      record {
        base = g.0;
        bare = stays_bare F s.base Take_cs tt s.bare refl;
        z = t.z';
        h = s.h;
        d = s.d;
        strips = t.strips s.strips ∙ at;
        free = λ e. s.free (sym rule ∙ e);
      },
      t.is ∙ ap (λ v. beside F v t.z' s.h s.d) g.1,
      rw stays (sym (append-nil (all_beside s))),
      still At_b s.d,
    )

by_controller : {R : Type 0} (F : Steps R) (s : DestinationUnit F) (refuse : Option Answer) → GoesOnBeside F s (Take_cb refuse)
by_controller F s refuse =
    let u = shape F s.base in
    let f = bare_facts F s.base s.bare in
    let g = goes_on F s.base (Take_cb refuse) tt in
    let t = cb_beside F u s.z s.h s.d refuse u.cb f.cb_is f.cb_none in
    let at = ap (λ v. v.sb) g.1 in
    let rule = ap (λ v. v.b.rule) g.1 in (
      record {
        base = g.0;
        bare = stays_bare F s.base (Take_cb refuse) tt s.bare refl;
        z = s.z;
        h = s.h;
        d = s.d;
        strips = s.strips ∙ sym t.link ∙ at;
        free = λ e. s.free (t.rule (rule ∙ e));
      },
      t.is ∙ ap (λ v. beside F v s.z s.h s.d) g.1,
      sym (append-nil (all_beside s)),
      still At_b s.d,
    )

-- a plain packet that B takes
packet_free : {R : Type 0} (F : Steps R) (u : State R) (p : ℕ) (z : List (Item R)) (h : List ℕ) (d : List Ran) → u.b.rule ≡ Free → u.done ≡ []
    → moved F (beside F u (Carry p ∷ z) h d) Take_sb ≡ beside F u z h (d ++ (p, At_b) ∷ [])
packet_free F u p z h d r n = rw (r, n) (simp (map-append, fold-append, append-nil))

packet_held : {R : Type 0} (F : Steps R) (u : State R) (p : ℕ) (z : List (Item R)) (h : List ℕ) (d : List Ran) → u.b.rule ≡ Buffers
    → moved F (beside F u (Carry p ∷ z) h d) Take_sb ≡ beside F u z (h ++ p ∷ []) d
packet_held F u p z h d r = rw r (simp append-nil)

-- the fence
fence_taken : {R : Type 0} (F : Steps R) (u : State R) (xs z : List (Item R)) (h : List ℕ) (d : List Ran) → u.sb ≡ Fence ∷ xs → u.b.held ≡ [] → u.done ≡ []
    → (moved F (beside F u (Fence ∷ z) h d) Take_sb ≡ beside F (moved F u Take_sb) z [] (d ++ map (on At_b) h)) × ((moved F u Take_sb).sb ≡ xs)
fence_taken F u xs z h d e k n = (rw (e, k, n) (simp (map-append, firsts-on, fold-append, append-nil)), rw e refl)

no_free : Buffers ≡ Free → ⊥
no_free e = cc

no_buffers : not_drops Drops ≡ true → ⊥
no_buffers e = cc

-- a plain packet is processed where no rule stands, held where one does
takes_packet : {R : Type 0} (F : Steps R) (s : DestinationUnit F) (p : ℕ) (z : List (Item R)) → s.z ≡ Carry p ∷ z → GoesOnBeside F s Take_sb
takes_packet F s p z e =
    let u = shape F s.base in
    let f = bare_facts F s.base s.bare in
    let strips : strip z ≡ u.sb = rw e at s.strips in
    elim u.b.rule as (λ r. u.b.rule ≡ r → GoesOnBeside F s Take_sb) [
      | Free ↦ λ r.
          let none = s.free r in (
            record { base = s.base; bare = s.bare; z = z; h = s.h; d = s.d ++ (p, At_b) ∷ []; strips = strips; free = s.free },
            rw e (packet_free F u p z s.h s.d r f.done),
            rw (e, none) (simp (map-append, append_assoc, append-nil)),
            one_more At_b s.d p,
          )
      | Buffers ↦ λ r. (
        record { base = s.base; bare = s.bare; z = z; h = s.h ++ p ∷ []; d = s.d; strips = strips; free = λ i. absurd (no_free (sym r ∙ i)) },
        rw e (packet_held F u p z s.h s.d r),
        rw e (simp (append_assoc, append-nil)),
        still At_b s.d,
      )
      | Drops ↦ λ r. absurd (no_buffers (ap not_drops (sym r) ∙ f.rule))
    ] refl

takes_fence : {R : Type 0} (F : Steps R) (s : DestinationUnit F) (z : List (Item R)) → s.z ≡ Fence ∷ z → GoesOnBeside F s Take_sb
takes_fence F s z e =
    let u = shape F s.base in
    let f = bare_facts F s.base s.bare in
    let g = goes_on F s.base Take_sb tt in
    let link : u.sb ≡ Fence ∷ strip z = sym (rw e at s.strips) in
    let t = fence_taken F u (strip z) z s.h s.d link f.held f.done in (
      record {
        base = g.0;
        bare = stays_bare F s.base Take_sb tt s.bare refl;
        z = z;
        h = [];
        d = s.d ++ map (on At_b) s.h;
        strips = sym t.1 ∙ ap (λ v. v.sb) g.1;
        free = λ _. refl;
      },
      rw e (t.0 ∙ ap (λ v. beside F v z [] (s.d ++ map (on At_b) s.h)) g.1),
      rw e (simp (map-append, firsts-on, append_assoc, append-nil)),
      (s.h, refl),
    )

quiet_link : {R : Type 0} (F : Steps R) (u : State R) (z : List (Item R)) (h : List ℕ) (d : List Ran) → z ≡ []
    → moved F (beside F u z h d) Take_sb ≡ beside F u z h d
quiet_link F u [] h d e = refl
quiet_link F u (x ∷ z) h d e = cc

nothing_there : {R : Type 0} (F : Steps R) (s : DestinationUnit F) → s.z ≡ [] → GoesOnBeside F s Take_sb
nothing_there F s e = (s, quiet_link F (shape F s.base) s.z s.h s.d e, sym (append-nil (all_beside s)), still At_b s.d)

-- no other item stands there
by_link : {R : Type 0} (F : Steps R) (s : DestinationUnit F) (z : List (Item R)) → s.z ≡ z → GoesOnBeside F s Take_sb
by_link F s [] e = nothing_there F s e
by_link F s (Carry p ∷ z) e = takes_packet F s p z e
by_link F s (Fence ∷ z) e = takes_fence F s z e
by_link F s (x ∷ z) e = never_true (ap (list_all is_fence) (rw e at s.strips) ∙ (bare_facts F s.base s.bare).sb_is)

pub beside_goes_on : {R : Type 0} (F : Steps R) (s : DestinationUnit F) (m : MachineStep R) → Allowed (shape F s.base) m → GoesOnBeside F s m
beside_goes_on F s (Arrive p) a = (
  record {
    base = s.base;
    bare = s.bare;
    z = s.z ++ Carry p ∷ [];
    h = s.h;
    d = s.d;
    strips = filter-append _ s.z (Carry p ∷ []) ∙ append-nil (strip s.z) ∙ s.strips;
    free = s.free;
  },
  refl,
  simp (filter_map-append, append_assoc),
  still At_b s.d,
)
beside_goes_on F s Take_sb a = by_link F s s.z refl
beside_goes_on F s (Take_cb refuse) a = by_controller F s refuse
beside_goes_on F s Take_cs a = by_switch F s
beside_goes_on F s (Begin keep) a = by_message F s (Begin keep) a refl
beside_goes_on F s Take_sa a = by_message F s Take_sa a refl
beside_goes_on F s Take_sc a = by_message F s Take_sc a refl
beside_goes_on F s Take_ac a = by_message F s Take_ac a refl
beside_goes_on F s Take_bc a = by_message F s Take_bc a refl
beside_goes_on F s (Take_ca parts) a = by_message F s (Take_ca parts) a refl

pub c_live : {R : Type 0} (F : Steps R) (s : Stage F) → (shape F s).c.live ≡ None
c_live F (At_rest d l k) = refl
c_live F s = refl

-- the record is that of the fold, at one side alone
pub beside_kept : {R : Type 0} (F : Steps R) (s : DestinationUnit F)
    → (lives (shape_beside F s) ≡ option_to_list (after F s.d)) × (on_way (shape_beside F s) ≡ []) × ((shape_beside F s).done ≡ s.d)
beside_kept F s =
    let f = bare_facts F s.base s.bare in
    let a = f.a_live in let c = c_live F s.base in let n = f.done in
    (rw (a, c) (append-nil (option_to_list (after F s.d))), f.way, rw n (append-nil s.d))
