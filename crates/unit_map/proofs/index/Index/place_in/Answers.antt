-- A key without a note has no entry, and one is added behind the others.
use Rattle.std.proofs.Common.{◌≡◌, None, refl}
use Rattle.std.specs.Map.{lookup}
use Rattle.unit_map.proofs.EntryLemmas.{record_by_add, place_by_add, stays_by_add}
use Rattle.unit_map.proofs.SoundnessLemmas.{key_laws, absent_everywhere}
use Rattle.unit_map.proofs.index.Index.place_in.Given.{Over}
use Rattle.unit_map.proofs.index.Index.place_in.Goals as goal
use Rattle.unit_map.proofs.index.Index.place_in.Goals.{In-None}

absent : (g : Over) (c : In-None g) → lookup (g.K.PartialEq.eq c.args.key) c.args.entries.now.items ≡ None
absent g c =
    absent_everywhere _
    (key_laws g.K.PartialEq.eq g.K.Ord.cmp g.K.Hash.hash_input g.met.K.Eq.laws g.met.K.Ord.total g.met.K.Ord.matches_eq g.met.K.Hash.respects_eq)
    c.args.self.now c.args.key c.args.entries.now.items c.requires.sound.noted (rw c.deref.ensures.value at c.in-None.ensures.absent)

pub add-requires-clause-absent : goal.add-requires-clause-absent
add-requires-clause-absent g c = absent g (goal.at.add-requires-clause-absent g c).In-None

pub returns-in-None-clause-same : goal.returns-in-None-clause-same
returns-in-None-clause-same g c =
    record_by_add g.K.PartialEq.eq g.met.K.Eq.laws c.add.result _ _ c.args.key (absent g (goal.at.returns-in-None-clause-same g c).In-None) c.add.ensures.ok
    c.add.ensures.err

pub returns-in-None-clause-found : goal.returns-in-None-clause-found
returns-in-None-clause-found g c =
    place_by_add g.K.PartialEq.eq g.met.K.Eq.laws c.add.result _ c.add.new.entries.items c.args.key c.add.ensures.place c.add.ensures.ok

pub returns-in-None-clause-stays : goal.returns-in-None-clause-stays
returns-in-None-clause-stays g c = stays_by_add g.K.PartialEq.eq g.met.K.Eq.laws c.add.result _ _ _ c.add.ensures.ok c.add.ensures.err

pub returns-in-None-clause-room : goal.returns-in-None-clause-room
returns-in-None-clause-room g c = c.add.ensures.room

pub returns-in-None-clause-sound : goal.returns-in-None-clause-sound
returns-in-None-clause-sound g c = c.add.ensures.sound

pub add-requires-clause-room : goal.add-requires-clause-room
add-requires-clause-room g c = c.requires.room

pub add-requires-clause-sound : goal.add-requires-clause-sound
add-requires-clause-sound g c = c.requires.sound

pub returns-in-Some : goal.returns-in-Some
returns-in-Some g c = record {
  room = c.requires.room;
  sound = c.requires.sound;
  found = rw c.deref.ensures.value at c.in-Some.ensures.found;
  stays = λ place k h. h;
  same = λ k. refl;
}
