-- The entries so far that have a record are counted, and noted.
use Rattle.std.proofs.Common.{◌≡◌, ◌≤◌, vec_len, length, take, filter}
use Rattle.std.specs.Map.{keys_of}
use Rattle.unit_map.specs.declared.index.TheConstants.{PROBES}
use Rattle.unit_map.specs.Entries.{has_record}
use Rattle.unit_map.specs.Notes.{key_rules}
use Rattle.unit_map.specs.Soundness.{AreNoted}
use Rattle.unit_map.proofs.index.Index.of.Given as goal

abbrev pub invariant-loop-entry : goal.invariant-loop-entry
invariant-loop-entry g l = record {
  room : PROBES ≤ vec_len l.index.slots;
  bound : l.number ≤ l.entry-index;
  count : l.number ≡ length (filter has_record (take l.entry-index l.entries));
  noted : AreNoted (key_rules g.K.PartialEq.eq g.K.Ord.cmp g.K.Hash.hash_input) l.index (keys_of (filter has_record (take l.entry-index l.entries)));
}
