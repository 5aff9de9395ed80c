-- The entry at hand is noted under the count of those with a record.
use Rattle.std.proofs.Common.{arith, ◌≡◌, ◌+◌, subst, ap, sym, refl, ◌∙◌, ℕ, true, false, is_some, filter}
use Rattle.std.specs.Prelude.{not}
use Rattle.std.specs.Map.{keys_of}
use Rattle.std.proofs.lemmas.List.{take_all}
use Rattle.unit_map.specs.Entries.{has_record}
use Rattle.unit_map.specs.Notes.{key_rules, IsNoted}
use Rattle.unit_map.specs.Soundness.{AreNoted}
use Rattle.unit_map.proofs.SoundnessLemmas.{key_laws, noted_nothing, noted_more, noted_passed, count_more, count_passed}
use Rattle.unit_map.proofs.index.Index.of.Goals as goal

pub loop-entry-init : goal.loop-entry-init
loop-entry-init g c = record {
  room = c.in_ok-index.ensures;
  bound = omega arith;
  count = refl;
  noted = noted_nothing _ _;
}

pub loop-entry-preserved-then-is_none : goal.loop-entry-preserved-then-is_none
loop-entry-preserved-then-is_none g c =
    let laws = key_laws g.K.PartialEq.eq g.K.Ord.cmp g.K.Hash.hash_input g.met.K.Eq.laws g.met.K.Ord.total g.met.K.Ord.matches_eq g.met.K.Hash.respects_eq in
    let es = c.args.entries.now in
    let i = c.loop-entry.entry-index in
    let gone : is_some c.entry-item.result.1 ≡ false = c.is_none.ensures ∙ ap not c.if-is_none.true in
    record {
      room = c.loop-entry.invariant.room;
      bound = omega arith;
      count = c.loop-entry.invariant.count ∙ sym (count_passed es i c.entry-item.result c.loop-entry-test.true c.entry-item.is gone);
      noted = noted_passed _ laws _ es i c.entry-item.result c.loop-entry-test.true c.entry-item.is gone c.loop-entry.invariant.noted;
    }

pub note-requires : goal.note-requires
note-requires g c = record { room = c.loop-entry.invariant.room; counted = omega arith }

pub loop-entry-preserved : goal.loop-entry-preserved
loop-entry-preserved g c =
    let laws = key_laws g.K.PartialEq.eq g.K.Ord.cmp g.K.Hash.hash_input g.met.K.Eq.laws g.met.K.Ord.total g.met.K.Ord.matches_eq g.met.K.Hash.respects_eq in
    let es = c.args.entries.now in
    let i = c.loop-entry.entry-index in
    let here : is_some c.entry-item.result.1 ≡ true = c.is_none.ensures ∙ ap not c.if-is_none.false in
    let number = subst (λ (n : ℕ). IsNoted (key_rules g.K.PartialEq.eq g.K.Ord.cmp g.K.Hash.hash_input) c.note.new.self
    (record { key = c.entry-item.result.0; number = n + 1 })) c.loop-entry.invariant.count c.in_ok-note.ensures.noted in
    record {
      room = c.note.ensures.room;
      bound = omega arith;
      count = ap (λ (n : ℕ). n + 1) c.loop-entry.invariant.count ∙ sym (count_more es i c.entry-item.result c.loop-entry-test.true c.entry-item.is here);
      noted = noted_more _ laws _ _ es i c.entry-item.result c.requires.distinct c.loop-entry-test.true c.entry-item.is here c.note.ensures.others number
          c.loop-entry.invariant.noted;
    }

pub returns-clause-noted : goal.returns-clause-noted
returns-clause-noted g c =
    subst (λ xs. AreNoted (key_rules g.K.PartialEq.eq g.K.Ord.cmp g.K.Hash.hash_input) c.loop-entry.index (keys_of (filter has_record xs)))
    (take_all c.loop-entry.entry-index c.args.entries.now (omega (arith, c.loop-entry-test.false))) c.loop-entry.invariant.noted
