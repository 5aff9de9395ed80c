-- One more worker stands as the round begins, and in the end each node's.
use Rattle.std.proofs.Common.{◌≡◌, ◌<◌, ◌+◌, ◌*◌, ℕ, refl, sym, ◌∙◌, ap, subst, arith, length, map, length-append, add-one, slice_index_or}
use Rattle.std.proofs.lemmas.List.{length-map, map-append}
use Rattle.actor_threads.specs.Work.{fresh_worker, queues_at}
use Rattle.actor_threads.specs.LinkTable.{row_at, name_of, AllOpened}
use Rattle.actor_threads.specs.Round.{StartsAs}
use Rattle.actor_threads.proofs.NotesByCounts.{rest_after}
use Rattle.actor_threads.proofs.LinkTableLemmas.{mapped_first}
use Rattle.actor_threads.proofs.GroupLemmas.{one_begins}
use Rattle.actor_threads.proofs.RoundStart.{starts_as, started_more}
use Rattle.actor_threads.proofs.round.members_of.Goals as goal

pub loop-number-init : goal.loop-number-init
loop-number-init g c =
    let world = c.parts-nodes.ensures.world in
    let whole = c.parts-nodes.ensures.parts in
    let n = c.len-count.result in
    let nodes = c.from_vec-nodes.ensures.items ∙ ap (λ w. w.nodes) whole in
    let links = ap (λ w. w.links) whole in
    let len : n ≡ length c.from_vec-nodes.result.items = omega (arith, c.len-count.ensures, c.from_vec-nodes.result.ok.0) in
    let many = len ∙ ap length nodes in
    let none = c.in_ok-members.ensures.items in
    let sends = c.from_vec-sends.ensures.items in
    let takes = c.from_vec-takes.ensures.items in
    record {
      within = omega arith;
      many = many;
      few = subst (λ k. k < 256) (sym many) world.few_nodes;
      members = ap length none;
      nodes = nodes;
      opened = subst (λ l. AllOpened n n (map (λ v. v.items) l) (map (λ v. v.items) c.from_vec-takes.result.items)) (sym sends)
          (subst (λ l. AllOpened n n (map (λ v. v.items) c.in_ok-sends.field-0.sends.items) (map (λ v. v.items) l)) (sym takes) c.in_ok-sends.ensures);
      sends = refl;
      takes = refl;
      square = ap length links ∙ world.square ∙ sym (ap (λ k. k * k) many);
      no_loop = λ _. ap (λ l. row_at l 0) links ∙ world.no_loop;
      links = λ p j _ _. ap (λ l. row_at l (p * n + j)) links;
      input = λ _. ap (λ w. w.input) whole;
      later = λ z. absurd (omega (arith, z));
      begin = λ k d h. absurd (let low : k < 0 = subst (λ l. k < length l) none h in omega (arith, low));
      started = λ j d h. absurd (omega (arith, h));
    }

pub worker_of-requires-clause-count : goal.worker_of-requires-clause-count
worker_of-requires-clause-count g c =
    let inv = c.loop-number.invariant in
    let row = mapped_first (λ v. v.items) c.loop-number.number _ _ _ (sym inv.takes ∙ c.in-Some-pop_front-2.ensures.items) in
    let wide = sym (ap length row) ∙ inv.opened.take_rows c.loop-number.number c.loop-number-test.true in
    (subst (λ m. c.loop-number.number < m) (sym wide) c.loop-number-test.true, subst (λ m. m < 256) (sym wide) inv.few)

pub worker_of-requires-clause-square : goal.worker_of-requires-clause-square
worker_of-requires-clause-square g c =
    let inv = c.loop-number.invariant in
    let row = mapped_first (λ v. v.items) c.loop-number.number _ _ _ (sym inv.takes ∙ c.in-Some-pop_front-2.ensures.items) in
    let wide = sym (ap length row) ∙ inv.opened.take_rows c.loop-number.number c.loop-number-test.true in
    inv.square ∙ sym (ap (λ m. m * m) wide)

pub worker_of-requires-clause-ends : goal.worker_of-requires-clause-ends
worker_of-requires-clause-ends g c =
    let inv = c.loop-number.invariant in
    let row = mapped_first (λ v. v.items) c.loop-number.number _ _ _ (sym inv.takes ∙ c.in-Some-pop_front-2.ensures.items) in
    let other = mapped_first (λ v. v.items) c.loop-number.number _ _ _ (sym inv.sends ∙ c.in-Some-pop_front.ensures.items) in
    sym (ap length other) ∙ inv.opened.send_rows c.loop-number.number c.loop-number-test.true
    ∙ sym (sym (ap length row) ∙ inv.opened.take_rows c.loop-number.number c.loop-number-test.true)

pub loop-number-preserved : goal.loop-number-preserved
loop-number-preserved g c =
    let inv = c.loop-number.invariant in
    let k = c.loop-number.number in
    let n = c.len-count.result in
    let w = c.args.stage in
    let hn = c.loop-number-test.true in
    let node = sym inv.nodes ∙ c.in-Some.ensures.items in
    let took = sym inv.takes ∙ c.in-Some-pop_front-2.ensures.items in
    let sent = sym inv.sends ∙ c.in-Some-pop_front.ensures.items in
    let takes = mapped_first (λ v. v.items) k _ _ _ took in
    let sends = mapped_first (λ v. v.items) k _ _ _ sent in
    let wide = sym (ap length takes) ∙ inv.opened.take_rows k hn in
    let with = c.in_ok-worker.ensures.worker in
    let names = name_of (map (λ v. v.items) c.from_vec-sends.result.items) in
    let lists = λ (p : ℕ) (hp : p < n). subst (λ m. p < m → row_at with.kept p ≡ row_at c.loop-number.links.items (p * m + k)) wide (with.lists p) hp
    ∙ inv.links p k (omega arith) hn in
    let opened_is = c.open-in-loop-number.ensures.worker ∙ with.is
    ∙ ap (λ l. fresh_worker k c.in-Some.node (queues_at k c.replace-items.result with.kept) l c.in-Some-pop_front.sends.items) (sym takes)
    ∙ ap (λ l. fresh_worker k c.in-Some.node (queues_at k c.replace-items.result with.kept)
    (row_at (map (λ v. v.items) c.from_vec-takes.result.items) k) l) (sym sends) in
    let new = subst (λ v. StartsAs w names k v) (sym opened_is)
    (starts_as w n k (map (λ v. v.items) c.from_vec-sends.result.items) (map (λ v. v.items) c.from_vec-takes.result.items) (sym inv.many) hn inv.opened
    c.in-Some.node _ c.replace-items.result with.kept node
    (λ z. c.replace-items.ensures.value ∙ inv.input z) (with.count ∙ wide) lists) in
    record {
      within = omega (arith, hn);
      many = inv.many;
      few = inv.few;
      members = ap length c.in_ok-push.ensures.items ∙ length-append c.loop-number.members.items _ ∙ ap (λ m. m + 1) inv.members;
      nodes = rw add-one (sym (rest_after k _ _ _ node));
      opened = inv.opened;
      sends = rw add-one (sym (rest_after k _ _ _ sent));
      takes = rw add-one (sym (rest_after k _ _ _ took));
      square = c.in_ok-worker.ensures.square ∙ inv.square;
      no_loop = λ z. absurd (omega arith);
      links = λ p j low hj. subst (λ m. row_at c.worker_of.new.links.items (p * m + j) ≡ row_at c.loop-number.links.items (p * m + j)) wide
          (c.in_ok-worker.ensures.others p j (subst (λ m. j < m) (sym wide) hj) (λ e. omega (arith, e))) ∙ inv.links p j (omega arith) hj;
      input = λ z. absurd (omega arith);
      later = λ _. c.replace-items.ensures.after ∙ c.«open».ensures;
      begin = rw c.in_ok-push.ensures.items
          (one_begins g.A.Actor.is_ready g.A.Actor.stepped c.loop-number.members.items _ _ inv.begin c.open-in-loop-number.ensures.worker
          c.open-in-loop-number.ensures.begin);
      started = λ j d h. subst (λ l. StartsAs w names j (slice_index_or l j d))
          (sym (ap (map (λ s. s.worker)) c.in_ok-push.ensures.items ∙ map-append (λ s. s.worker) c.loop-number.members.items _))
          (started_more w names (map (λ s. s.worker) c.loop-number.members.items) k c.open-in-loop-number.result.worker
          (length-map c.loop-number.members.items _ ∙ inv.members) inv.started new j d h);
    }

pub returns-clause-members : goal.returns-clause-members
returns-clause-members g c =
    let inv = c.loop-number.invariant in
    let all : c.loop-number.number ≡ length c.args.stage.nodes = omega (arith, c.loop-number-test.false, inv.within, inv.many) in
    record {
      names = name_of (map (λ v. v.items) c.from_vec-sends.result.items);
      count = length-map c.loop-number.members.items _ ∙ inv.members ∙ all;
      each = λ j d h. inv.started j d (subst (λ m. j < m) (sym all) h);
    }
