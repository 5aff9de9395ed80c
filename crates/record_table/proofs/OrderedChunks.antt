-- Entries in the order of their units: one more is that of a unit that none of them has.
use Rattle.std.proofs.Common.{◌≡◌, true, false, cond, List, [], ◌∷◌, ◌++◌, Option, Some, None, refl, sym, ap, ◌∙◌, is_some}
use Rattle.std.proofs.lemmas.Bool.{true≢false}
use Rattle.std.specs.Map.{lookup}
use Rattle.std.specs.Ordering.{is_lt, is_eq}
use Rattle.std.specs.declared.cmp.Ordering.{Ordering}
use Rattle.std.specs.declared.cmp.Ordering.TheVariants.{Less, Equal, Greater}
use Rattle.std.specs.FinMap as finite
use Rattle.std.specs.FinMap.{get-empty}
use Rattle.nf_function.specs.declared.chunk.Chunk.{Chunk}
use Rattle.nf_function.specs.declared.unit.Unit as units
use Rattle.nf_function.specs.Units.{unit_cmp}
use Rattle.nf_function.specs.UnitOrder.{units_total}
use Rattle.nf_function.specs.Semantics.{Semantics}
use Rattle.unit_map.specs.Entries.{Entries, kept_record}
use Rattle.unit_map.proofs.EntryLemmas.{lookup_added, distinct_added, distinct_none}
use Rattle.record_table.specs.Table.{AreSound}
use Rattle.record_table.specs.Chunks.{spelled, records_of, are_good}
use Rattle.record_table.specs.Entries.{map_of, AreEntriesOf}
use Rattle.record_table.specs.Keeping.{comes_after}
use Rattle.record_table.proofs.UnitOrder.{unit_eq, unit_eq_equiv, tied}
use Rattle.record_table.proofs.ChunkFronts.{brought_by_none, good_none, brings, good_more}
use Rattle.record_table.proofs.EntryMaps.{get-map_of}
use Rattle.record_table.proofs.Joining.{map_of-added}
use Rattle.record_table.proofs.RecordLookUps.{sound_with_kept}

less_from : (o : Ordering) → is_lt o ≡ true → o ≡ Less
less_from Less h = refl
less_from Equal h = absurd (true≢false (sym h))
less_from Greater h = absurd (true≢false (sym h))

-- a unit after one that comes after the last comes after the last, and is not that one
further : (last : Option units.Unit) (u v : units.Unit) → comes_after last u ≡ true → comes_after (Some u) v ≡ true → comes_after last v ≡ true
further None u v first next = refl
further (Some last) u v first next = ap is_lt (units_total.trans last u v (less_from _ first) (less_from _ next))

another : (u v : units.Unit) → comes_after (Some u) v ≡ true → unit_eq u v ≡ false
another u v next = tied u v ∙ ap is_eq (less_from _ next)

-- what was read of the chunks so far, in order
pub record InOrder {R : Type 0} (f : Semantics R) (chunks : List Chunk) (entries : Entries units.Unit R) (last : Option units.Unit) : Type 0 where
  pub records : AreEntriesOf entries (records_of f chunks)
  pub good : are_good f chunks ≡ true
  pub sound : AreSound f (map_of entries)
  pub beyond : (u : units.Unit) → comes_after last u ≡ true → lookup (unit_eq u) entries ≡ None

module _ {R : Type 0} (f : Semantics R) where
  pub none_in_order : InOrder f [] [] None
  unfolding map_of
  none_in_order = record {
    records = record { distinct = distinct_none unit_eq; map = sym (brought_by_none f) };
    good = good_none f;
    sound = λ u. rw (get-empty unit_cmp u) refl;
    beyond = λ u h. refl;
  }

  -- a chunk of a unit after the last one
  pub one_more : (chunks : List Chunk) (entries : Entries units.Unit R) (last : Option units.Unit) (c : Chunk) (u : units.Unit) (r : R)
      → InOrder f chunks entries last → spelled f c ≡ Some (u, r) → f.is_valid u r ≡ true → comes_after last u ≡ true
      → InOrder f (chunks ++ c ∷ []) (entries ++ (u, Some r) ∷ []) (Some u)
  one_more chunks entries last c u r so_far spells valid next =
      let absent : lookup (unit_eq u) entries ≡ None = so_far.beyond u next in
      let lacks : finite.contains_key (records_of f chunks) u ≡ false = rw (← so_far.records.map) (ap is_some (get-map_of entries u ∙ ap kept_record absent)) in
      let added = map_of-added entries u (Some r) absent in
      record {
        records = record {
          distinct = distinct_added unit_eq unit_eq_equiv u (Some r) entries so_far.records.distinct absent;
          map = added ∙ ap (λ m. finite.insert m u r) so_far.records.map ∙ sym (brings f chunks c u r spells lacks);
        };
        good = good_more f chunks c u r so_far.good spells lacks;
        sound = rw added (sound_with_kept f (map_of entries) u (Some r) so_far.sound valid);
        beyond = λ v h. lookup_added unit_eq unit_eq_equiv v u (Some r) entries absent
            ∙ ap (λ b. cond b (Some (Some r)) (lookup (unit_eq v) entries)) (another u v h) ∙ so_far.beyond v (further last u v next h);
      }
