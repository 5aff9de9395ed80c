-- The live records of an instance keep the four laws of look-ups of `SeenInst`.
use Rattle.proof_machines.proofs.unit.Words.{◌≡◌, [], ◌∷◌, Option, Some, None, refl, sym, ap, ◌∙◌, T, if◌then◌else◌, ◌&&◌, option_to_list, unit_cmp, Records}
use Rattle.proof_machines.proofs.unit.Words.{same_unit, without, either, newest_of, Steps, joined, Unit, split}
use Rattle.std.specs.Ordering.{is_eq, is_lt}
use Rattle.std.specs.declared.cmp.Ordering.TheVariants.{Less, Equal, Greater}
use Rattle.std.specs.FinMap as finite
use Rattle.std.specs.FinMap.{is_sorted, entries_sorted, get-entries, get-from_entries, get-retain_keys}
use Rattle.std.specs.FinMap.Entries.{below_all}
use Rattle.std.proofs.Math.Facts.{and_yes}
use Rattle.nf_function.specs.UnitOrder.{units_total}
use Rattle.nf_function.specs.Semantics.{Semantics}
use Rattle.nf_function.specs.Records.{newest}
use Rattle.record_table.proofs.UnitOrder.{one_unit, same_unit-true}
use Rattle.record_table.proofs.RecordLookUps.{get-joined, get-without}
use Rattle.proof_machines.proofs.unit.Real.{Chunks, record_at}
use Rattle.std.specs.List.{cons_option}
use Rattle.proof_machines.proofs.Tests.{where_true}
use Rattle.proof_machines.proofs.unit.Cuts.{all_at}
use Rattle.proof_machines.proofs.unit.SeenInst.{Tables, Laws}

-- an instance's live records as a table: chunks that come are their records, and those that are selected stand in the order of units
abbrev pub live_table : {R : Type 0} → Semantics R → Tables R
live_table {R} f = record {
  T = Records R;
  at = λ u t. finite.get t u;
  select = λ p t. finite.entries (finite.retain_keys t p);
  remove = without;
  import = λ cs t. newest_of f t (finite.from_entries cs);
  restore = λ cs t. newest_of f t (finite.from_entries cs);
}

module _ {R : Type 0} where
  none_above : (u : Unit) (es : Chunks R) → T (below_all unit_cmp u es) → all_at u es ≡ []
  none_above u [] h = refl
  none_above u (e ∷ es) h =
      elim (unit_cmp u e.0) as (λ o. T (is_lt o && below_all unit_cmp u es) → cons_option (where_true (is_eq o) e.1) (all_at u es) ≡ []) [
        | Less ↦ λ rest. none_above u es rest
        | Equal ↦ λ never. absurd never
        | Greater ↦ λ never. absurd never
      ] h

  -- a map has each unit once
  pub all_at-sorted : (u : Unit) (es : Chunks R) → T (is_sorted unit_cmp es) → all_at u es ≡ option_to_list (record_at u es)
  all_at-sorted u [] h = refl
  all_at-sorted u (e ∷ es) h =
      let parts = and_yes (below_all unit_cmp e.0 es) (is_sorted unit_cmp es) h in
      split (same_unit u e.0) (λ b. cons_option (where_true b e.1) (all_at u es) ≡ option_to_list (if b then Some e.1 else record_at u es))
      (λ t. let same = same_unit-true u e.0 t in ap (λ z. e.1 ∷ z) (none_above u es (rw same parts.0)))
      (λ _. all_at-sorted u es parts.1)

  joined_is : (F : Steps R) (f : Semantics R) → ((coming held : R) → F.newer coming held ≡ newest f held coming) → (o p : Option R)
      → either (newest f) p o ≡ joined F o p
  joined_is F f newer None p = refl
  joined_is F f newer (Some r) None = refl
  joined_is F f newer (Some r) (Some s) = ap Some (sym (newer r s))

  -- the records of an instance keep the laws
  pub live_laws : (F : Steps R) (f : Semantics R) → ((coming held : R) → F.newer coming held ≡ newest f held coming) → Laws F (live_table f)
  live_laws F f newer =
      let taken_in = (λ (u : Unit) (cs : Chunks R) (t : Records R).
      get-joined (newest f) t (finite.from_entries cs) u
      ∙ ap (either (newest f) (finite.get t u)) (get-from_entries units_total cs u)
      ∙ joined_is F f newer (record_at u cs) (finite.get t u)) in
      record {
        selected = λ u p t.
            all_at-sorted u (finite.entries (finite.retain_keys t p)) (entries_sorted (finite.retain_keys t p))
            ∙ ap option_to_list (sym (get-entries (finite.retain_keys t p) u) ∙ get-retain_keys t p u (λ x same. ap p (sym (one_unit u x same))));
        removed = λ u us t. get-without us t u;
        imported = taken_in;
        restored = taken_in;
      }
