-- The entries stay noted, and so is the one that is added.
use Rattle.std.proofs.Common.{arith, ◌≡◌, ◌+◌, length, subst, ℕ, None}
use Rattle.std.proofs.lemmas.List.{length-append}
use Rattle.unit_map.specs.Notes.{key_rules, IsNoted}
use Rattle.unit_map.proofs.EntryLemmas.{distinct_added}
use Rattle.unit_map.proofs.SoundnessLemmas.{key_laws, still_noted, noted_added}
use Rattle.unit_map.proofs.index.Index.add.Goals as goal

pub returns-in_err-note-clause-sound : goal.returns-in_err-note-clause-sound
returns-in_err-note-clause-sound g c =
    let laws = key_laws g.K.PartialEq.eq g.K.Ord.cmp g.K.Hash.hash_input g.met.K.Eq.laws g.met.K.Ord.total g.met.K.Ord.matches_eq g.met.K.Hash.respects_eq in
    record { map = c.requires.sound.map; noted = still_noted _ laws _ _ c.args.key c.note.ensures.others _ c.requires.absent c.requires.sound.noted }

pub returns-in_err-push-clause-sound : goal.returns-in_err-push-clause-sound
returns-in_err-push-clause-sound g c =
    let laws = key_laws g.K.PartialEq.eq g.K.Ord.cmp g.K.Hash.hash_input g.met.K.Eq.laws g.met.K.Ord.total g.met.K.Ord.matches_eq g.met.K.Hash.respects_eq in
    rw c.in_err-push.ensures.items
    record { map = c.requires.sound.map; noted = still_noted _ laws _ _ c.args.key c.note.ensures.others _ c.requires.absent c.requires.sound.noted }

pub returns-clause-sound : goal.returns-clause-sound
returns-clause-sound g c =
    let es = c.args.entries.now.items in
    let laws = key_laws g.K.PartialEq.eq g.K.Ord.cmp g.K.Hash.hash_input g.met.K.Eq.laws g.met.K.Ord.total g.met.K.Ord.matches_eq g.met.K.Hash.respects_eq in
    let count : c.len-place.result + 1 ≡ length es + 1 = omega (arith, c.len-place.ensures, c.args.entries.now.ok) in
    let here = subst (λ (n : ℕ). IsNoted (key_rules g.K.PartialEq.eq g.K.Ord.cmp g.K.Hash.hash_input) c.note.new.self
    (record { key = c.args.key; number = n })) count c.in_ok-note.ensures.noted in
    rw c.in_ok-push.ensures.items record {
      map = record {
        distinct = distinct_added g.K.PartialEq.eq g.met.K.Eq.laws c.args.key None es c.requires.sound.map.distinct c.requires.absent;
        few = rw length-append (omega (arith, c.if-place-ge-MOST_ENTRIES.false, c.len-place.ensures, c.args.entries.now.ok));
      };
      noted = noted_added _ laws _ _ c.args.key c.note.ensures.others es None c.requires.absent c.requires.sound.noted here;
    }
