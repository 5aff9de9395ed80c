-- What messages of shares and copies leave in an instance's tables: valid records in both, and by look-ups what a copy's records leave of
-- those that stand by.
use Rattle.proof_outlines.proofs.Words.{◌≡◌, Bool, true, false, cond, Option, Some, None, List, [], ◌∷◌, refl, sym, ap, ◌∙◌, subst, Chunk, units_total}
use Rattle.proof_outlines.proofs.Words.{is_newer, newest, Semantics, is_sound, Records, TableView, same_unit, AreSound, part, with_part, either, union_of}
use Rattle.proof_outlines.proofs.Words.{newest_of, replaced_by, same_unit-true, get-joined, Chunks, record_at, split, Unit, FunctionLaws, records_of}
use Rattle.std.specs.FinMap as finite
use Rattle.proof_outlines.proofs.outline.Outline.{entries}
use Rattle.proof_outlines.proofs.outline.StateOutline.{AreValid}

-- what holds of both records holds of the one that is chosen
abbrev Chooses : {R : Type 0} → (R → R → R) → Type 1
Chooses {R} choose = (P : R → Type 0) (held coming : R) → P held → P coming → P (choose held coming)

either_has : {R : Type 0} (choose : R → R → R) → Chooses choose → (P : Option R → Type 0) (held coming : Option R) → P held → P coming
    → P (either choose held coming)
either_has {R = R} choose one P held None a b = subst P (same held) a
  where
    same : (o : Option R) → o ≡ either choose o None
    same None = refl
    same (Some r) = refl
either_has choose one P None (Some c) a b = b
either_has choose one P (Some h) (Some c) a b = one (λ r. P (Some r)) h c a b

chooses_coming : {R : Type 0} → Chooses {R = R} (λ held coming. coming)
chooses_coming P held coming a b = b

chooses_newest : {R : Type 0} (f : Semantics R) → Chooses (newest f)
chooses_newest f P held coming a b = elim (is_newer f held coming) as (λ t. P (cond t held coming)) [ true ↦ a | false ↦ b ]

joined_sound : {R : Type 0} (f : Semantics R) (choose : R → R → R) → Chooses choose → (held coming : Records R) → AreSound f held → AreSound f coming
    → AreSound f (union_of choose held coming)
joined_sound f choose one held coming a b u = subst (λ o. is_sound f u o ≡ true) (sym (get-joined choose held coming u))
    (either_has choose one (λ o. is_sound f u o ≡ true) (finite.get held u) (finite.get coming u) (a u) (b u))

module _ {R : Type 0} (f : Semantics R) where
  -- what stands by of a unit where a copy's chunks came
  kept_at : (t : Records R) (chunks : List Chunk) (u : Unit)
      → finite.get (newest_of f t (records_of f chunks)) u ≡ either (newest f) (finite.get t u) (record_at u (entries f chunks))
  unfolding records_of
  kept_at t chunks u = get-joined (newest f) t (finite.from_entries (entries f chunks)) u
      ∙ ap (either (newest f) (finite.get t u)) (finite.get-from_entries units_total (entries f chunks) u)

  -- it is what stood there or what came, and so all that holds of both
  pub kept_has : (P : Option R → Type 0) (t : Records R) (chunks : List Chunk) (u : Unit) → P (finite.get t u) → P (record_at u (entries f chunks))
      → P (finite.get (newest_of f t (records_of f chunks)) u)
  kept_has P t chunks u a b =
      subst P (sym (kept_at t chunks u)) (either_has (newest f) (chooses_newest f) P (finite.get t u) (record_at u (entries f chunks)) a b)

  -- and what stood there, where nothing came
  pub kept_same : (t : Records R) (chunks : List Chunk) (u : Unit) → record_at u (entries f chunks) ≡ None
      → finite.get (newest_of f t (records_of f chunks)) u ≡ finite.get t u
  kept_same t chunks u none = kept_at t chunks u ∙ ap (either (newest f) (finite.get t u)) none ∙ same (finite.get t u)
    where
      same : (o : Option R) → either (newest f) o None ≡ o
      same None = refl
      same (Some r) = refl

  -- each record of both tables is valid for its unit
  pub record AreBothSound (t : TableView R) : Type 0 where
    pub live : AreSound f t.live
    pub standby : AreSound f t.standby

  pub with_part_sound : (t : TableView R) (home : Bool) (records : Records R) → AreBothSound t → AreSound f records → AreBothSound (with_part t home records)
  with_part_sound t true records h sound = record { live = sound; standby = h.standby }
  with_part_sound t false records h sound = record { live = h.live; standby = sound }

  pub part_sound : (t : TableView R) (home : Bool) → AreBothSound t → AreSound f (part t home)
  part_sound t true h = h.live
  part_sound t false h = h.standby

module _ {R : Type 0} (f : Semantics R) (laws : FunctionLaws f) where
  valid_at : (es : Chunks R) → AreValid f laws es → (u : Unit) → is_sound f u (record_at u es) ≡ true
  valid_at [] h u = refl
  valid_at (e ∷ es) h u = split (same_unit u e.0) (λ b. is_sound f u (cond b (Some e.1) (record_at u es)) ≡ true) (λ same. rw (same_unit-true u e.0 same) h.0)
      (λ _. valid_at es h.1 u)

  -- what valid chunks bring
  sound_records : (chunks : List Chunk) → AreValid f laws (entries f chunks) → AreSound f (records_of f chunks)
  unfolding records_of
  sound_records chunks valid u =
      subst (λ o. is_sound f u o ≡ true) (sym (finite.get-from_entries units_total (entries f chunks) u)) (valid_at (entries f chunks) valid u)

  -- valid records that are set in one of the two leave both valid
  pub records_sound : (t : TableView R) (home : Bool) (chunks : List Chunk) → AreValid f laws (entries f chunks) → AreBothSound f t
      → AreBothSound f (with_part t home (replaced_by (part t home) (records_of f chunks)))
  records_sound t home chunks valid h = with_part_sound f t home (replaced_by (part t home) (records_of f chunks)) h (joined_sound f (λ held coming. coming)
      chooses_coming (part t home) (records_of f chunks) (part_sound f t home h) (sound_records chunks valid))

  -- and so do those that are the newer of what is there and what comes
  pub newest_sound : (t : Records R) (chunks : List Chunk) → AreValid f laws (entries f chunks) → AreSound f t
      → AreSound f (newest_of f t (records_of f chunks))
  newest_sound t chunks valid h = joined_sound f (newest f) (chooses_newest f) t (records_of f chunks) h (sound_records chunks valid)
