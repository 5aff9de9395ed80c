-- The loop of `mappings_in`.
use Rattle.std.proofs.Common.{◌≡◌, ◌-◌, length}
use Rattle.nf_function.proofs.StoredItems.{IsRead}
use Rattle.addr_translator.specs.Body.{first_mapping, mappings_in}
use Rattle.addr_translator.proofs.body.mappings_in.Given as goal

-- the mappings so far, and the bytes that are left
abbrev pub invariant-mappings : goal.invariant-mappings
invariant-mappings l = record {
  whole : IsRead first_mapping (l.fn.used - l.counter) (l.record.mappings, l.rest) (mappings_in l.fn.used l.fn.bytes);
  size : length l.record.mappings ≡ l.counter;
  packets : l.record.packets ≡ 0;
  drops : l.record.drops ≡ 0;
}
