-- The worker is opened with what stood on the links to its node, and the other links stay.
use Rattle.std.proofs.Common.{◌≡◌, ℕ, ◌<◌, ◌+◌, ◌*◌, length, ap, sym, ◌∙◌, subst, arith}
use Rattle.std.proofs.lemmas.Result.{IfOk-weaker}
use Rattle.actor_threads.specs.Work.{WorkerView, fresh_worker, queues_at}
use Rattle.actor_threads.specs.LinkTable.{row_at}
use Rattle.actor_threads.specs.Round.{WorkerParts, OpenedWith}
use Rattle.actor_threads.proofs.round.worker_of.Goals as goal

pub column-requires : goal.column-requires
column-requires g c =
    let n : c.len.result ≡ length c.args.takes.items = omega (arith, c.len.ensures, c.args.takes.ok.0) in
    record { count = (omega (arith, n, c.requires.count.0), omega (arith, n, c.requires.count.1)); square = c.requires.square ∙ sym (ap (λ k. k * k) n) }

pub open-requires : goal.open-requires
open-requires g c =
    let n : c.len.result ≡ length c.args.takes.items = omega (arith, c.len.ensures, c.args.takes.ok.0) in
    let some : 0 < c.len.result = omega (arith, n, c.requires.count.0) in
    record {
      lengths = (c.in_ok-kept.ensures.kept ∙ n, c.requires.ends);
      few = c.requires.count.1;
      node = c.requires.count.0;
      input = (
        λ z.
            let at : 0 * c.len.result + c.args.number ≡ 0 = omega (arith, z) in
            c.in_ok-kept.ensures.lists 0 some ∙ ap (row_at c.args.links.now.items) at ∙ c.requires.input.0 z,
        c.requires.input.1,
      );
    }

pub returns : goal.returns
returns g c =
    let n : c.len.result ≡ length c.args.takes.items = omega (arith, c.len.ensures, c.args.takes.ok.0) in
    let kept = c.in_ok-kept.kept.items in
    let old = c.args.links.now.items in
    let new = c.column.new.links.items in
    let parts : WorkerParts _ _ = record {
      number = c.args.number;
      node = c.args.node;
      links = old;
      input = c.args.input;
      takes = c.args.takes.items;
      sends = c.args.sends.items;
    } in
    let opened : (w : WorkerView _ _ _) → w ≡ fresh_worker c.args.number c.args.node (queues_at c.args.number c.args.input kept) c.args.takes.items
    c.args.sends.items → OpenedWith parts w =
    λ w is. record {
      kept = kept;
      count = c.in_ok-kept.ensures.kept ∙ n;
      lists = subst (λ m. (p : ℕ) → p < m → row_at kept p ≡ row_at old (p * m + c.args.number)) n c.in_ok-kept.ensures.lists;
      is = is;
    } in
    record {
      worker = IfOk-weaker _ _ _ opened c.open.ensures;
      others = λ p j h other. subst (λ m. row_at new (p * m + j) ≡ row_at old (p * m + j)) n
          (c.in_ok-kept.ensures.others p j (subst (λ m. j < m) (sym n) h) other);
      square = c.in_ok-kept.ensures.square;
    }
