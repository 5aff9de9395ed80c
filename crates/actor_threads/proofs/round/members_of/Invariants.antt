-- The workers so far stand as a round of this world begins; nodes, ends and lists of the others are still to be used.
use Rattle.std.proofs.Common.{◌≡◌, ◌<◌, ◌≤◌, ℕ, [], ◌+◌, ◌*◌, length, map, drop, slice_index_or, All}
use Rattle.actor_threads.specs.Groups.{IsInRound}
use Rattle.actor_threads.specs.LinkTable.{row_at, name_of, AllOpened}
use Rattle.actor_threads.specs.Round.{StartsAs}
use Rattle.actor_threads.proofs.round.members_of.Given as goal

abbrev pub invariant-loop-number : goal.invariant-loop-number
invariant-loop-number g l = record {
  within : l.number ≤ l.count;
  many : l.count ≡ length l.fn.stage.nodes;
  few : l.count < 256;
  members : length l.members.items ≡ l.number;
  nodes : l.nodes.items ≡ drop l.number l.fn.stage.nodes;
  opened : AllOpened l.count l.count (map (λ v. v.items) l.initial.sends.items) (map (λ v. v.items) l.initial.takes.items);
  sends : l.sends.items ≡ drop l.number l.initial.sends.items;
  takes : l.takes.items ≡ drop l.number l.initial.takes.items;
  square : length l.links.items ≡ l.count * l.count;
  no_loop : l.number ≡ 0 → row_at l.links.items 0 ≡ [];
  links : (p j : ℕ) → l.number ≤ j → j < l.count → row_at l.links.items (p * l.count + j) ≡ row_at l.fn.stage.links (p * l.count + j);
  input : l.number ≡ 0 → l.input ≡ l.fn.stage.input;
  later : 0 < l.number → l.input ≡ [];
  begin : All (λ m. IsInRound g.A.Actor.is_ready g.A.Actor.stepped m.worker m) l.members.items;
  started : (j : ℕ) (d : _) → j < l.number
      → StartsAs l.fn.stage (name_of (map (λ v. v.items) l.initial.sends.items)) j (slice_index_or (map (λ s. s.worker) l.members.items) j d);
}
