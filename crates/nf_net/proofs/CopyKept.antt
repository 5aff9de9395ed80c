-- An instance that takes a copy's chunks has then standing by, of each unit that they bring, the record of a front that goes on from the one that came.
use Rattle.nf_net.proofs.Words.{◌≡◌, ℕ, suc, ◌≤◌, Some, None, List, ◌++◌, length, refl, sym, ap, ◌∙◌, subst, arith, slice_get, slice_get-get_or, Chunk, newest}
use Rattle.nf_net.proofs.Words.{either, newest_of, each_newest, Msg, Note, instance_node, InstanceState, instance_step, Network, world_next, at, Takes, Outcome}
use Rattle.nf_net.proofs.Words.{taken_outcome, Node, IsFront, processed_of, most_counted, job_of, node_step, standby_at, standby_in, StandsBy, standby_keeps}
use Rattle.nf_net.proofs.Words.{Given, place, chunks_good, AreGoodChunks, Joined, node_of, given, Unit, records_of, Instance, Setting}
use Rattle.std.specs.FinMap as finite
use Rattle.instance_worker.specs.Instance.{Step}
use Rattle.net_world.specs.Fold.{fold}
use Rattle.nf_net.proofs.FrontLemmas.{front_more, longer}
use Rattle.nf_net.proofs.StandbyFronts.{IsOfFront, later, stands_front, still_some, went_more}

module _ {F R : Type 0} (setting : Setting F R) (n : ℕ) (w : Network (Node F R) Msg Note) (j : Joined setting.function (given setting) n w) (y p op : ℕ)
    (chunks : List Chunk) (rest : List Msg)
    (takes : Takes (node_step setting.function) n w (suc (suc y)) p (node_of j.nodes (suc (suc y))) (Msg.Standby op chunks) rest)
    (good : AreGoodChunks setting.function (given setting) chunks) where
  open setting use {function as f, laws, config as c, items}

  abbrev g : Given
  g = given setting

  abbrev k : ℕ
  k = suc (suc y)

  abbrev i : InstanceState F R
  i = j.nodes.instance k

  abbrev did : Step F R
  did = instance_step f i (Msg.Standby op chunks)

  abbrev v : Network (Node F R) Msg Note
  v = world_next (node_step f) w (at k p)

  left : Outcome (node_step f) n w k p (node_of j.nodes k) (Msg.Standby op chunks) rest v
  left = taken_outcome (node_step f) n w k p (node_of j.nodes k) (Msg.Standby op chunks) rest takes

  node_is : instance_node y ≡ k
  node_is = omega arith

  held_is : standby_at w y ≡ finite.get i.table.standby
  held_is = ap (λ o u. standby_in u o) (subst (λ z. slice_get w.nodes z ≡ Some (Instance i)) (sym node_is) (slice_get-get_or w.nodes k (Instance i)
      (let small = takes.receiver in let count = takes.count in rw count small) ∙ ap Some (j.nodes_are k takes.receiver (Instance i))))

  now_is : standby_at v y ≡ finite.get did.node.table.standby
  now_is = ap (λ o u. standby_in u o) (subst (λ z. slice_get v.nodes z ≡ Some (Instance did.node)) (sym node_is) (slice_get-get_or v.nodes k
      (Instance did.node) (let small = takes.receiver in let count = left.count in rw count small) ∙ ap Some (left.own (Instance did.node))))

  newer_is : (u : Unit) → finite.get did.node.table.standby u ≡ either (newest f) (finite.get i.table.standby u) (finite.get (records_of f chunks) u)
  newer_is u =
      ap (λ r. finite.get r u) (standby_keeps f g.site g.packet (place g) i op chunks (chunks_good f laws g chunks good)).standby
      ∙ each_newest f i.table.standby (records_of f chunks) (newest_of f i.table.standby (records_of f chunks)) refl u

  pub kept_at : (u : Unit) (xs : List ℕ) (kept : R) → IsFront xs (processed_of f c items u w.log) → fold f c items None xs ≡ Some kept
      → finite.get (records_of f chunks) u ≡ Some kept → length (processed_of f c items u v.log) ≤ most_counted
      → (now : StandsBy (job_of f c items) v y u) × IsFront xs now.front
  kept_at u xs kept front folds brought few =
      let all = processed_of f c items u v.log in
      let more : processed_of f c items u (w.log ++ did.notes) ≡ all = ap (processed_of f c items u) (sym left.log) in
      let held : IsOfFront f c items all (standby_at w y u) = subst (λ zs. IsOfFront f c items zs (standby_at w y u)) more
      (later f c items u w.log did.notes (standby_at w y u) (stands_front setting n w takes.count j y u)) in
      let came : IsFront xs all = subst (λ zs. IsFront xs zs) (sym (went_more f c items u w.log did.notes) ∙ more)
      (front_more xs (processed_of f c items u w.log) (processed_of f c items u did.notes) front) in
      let it = longer setting all few held.front xs held.is_front came in
      let some = still_some f c items xs it.front kept it.since folds in
      let now : standby_at v y u ≡ fold f c items None it.front =
      ap (λ h. h u) now_is ∙ newer_is u
      ∙ ap (λ o. either (newest f) o (finite.get (records_of f chunks) u)) (sym (ap (λ h. h u) held_is) ∙ sym held.folds)
      ∙ ap (λ o. either (newest f) (fold f c items None held.front) o) (brought ∙ sym folds)
      ∙ it.kept in
      (record { front = it.front; kept = some.0; there = now ∙ some.1; is_front = it.is_front; folds = some.1 }, it.since)
