-- All links closed, one sender more at a time.
use Rattle.std.proofs.Common.{◌≡◌, ◌<◌, ℕ, suc, ◌+◌, ◌*◌, List, length, drop, sym, ◌∙◌, ap, subst, arith, drop-cons}
use Rattle.std.proofs.lemmas.Grind.{rows}
use Rattle.actor_threads.specs.Ways.{Incoming, Outgoing}
use Rattle.actor_threads.specs.Work.{no_in, in_at, out_at}
use Rattle.actor_threads.specs.LinkTable.{row_at, Closed, RowClosed, CanClose, closing, ways_of}
use Rattle.actor_threads.specs.Round.{CanCloseAll, AllClosed}
use Rattle.actor_threads.proofs.NotesByCounts.{rest_after}
use Rattle.actor_threads.proofs.LinkTableLemmas.{first_left, same_or}

before : (s k n r : ℕ) → s < k → r < n → s * n + r < k * n
before s k n r hs hr = grind (arith, rows)

module _ {M : Type 0} (k n : ℕ) (ins now : List (List (Incoming M))) (outs : List (List (Outgoing M))) (h : k < n) (can : CanCloseAll n ins outs)
    (count : length now ≡ n) (left : (r : ℕ) → r < n → row_at now r ≡ drop k (row_at ins r)) where
  -- the next sender's links can be closed
  pub can_close : CanClose (row_at outs k) now
  can_close = record {
    count = can.out_rows k h ∙ sym count;
    first = λ r inside.
        let hr : r < n = subst (λ m. r < m) count inside in (
          in_at (row_at ins r) k,
          drop (suc k) (row_at ins r),
          (left r hr ∙ drop-cons (row_at ins r) k no_in (subst (λ m. k < m) (sym (can.in_rows r hr)) h), can.link k r h hr),
        );
  }

  module _ (new : List (List (Incoming M))) (links more : List (List M)) (a : AllClosed k n (ways_of ins outs) links)
      (c : RowClosed n (row_at outs k) (closing now links) (closing new more)) where
    -- and what is left at each receiver
    pub left_more : (r : ℕ) → r < n → row_at new r ≡ drop (suc k) (row_at ins r)
    left_more r hr = let g = c.closed r hr in sym (rest_after k (row_at ins r) g.0 (row_at new r) (sym (left r hr) ∙ g.1.0))

    pub all_closed_more : AllClosed (k + 1) n (ways_of ins outs) more
    all_closed_more = record {
      count = c.count ∙ ap (λ m. m + n) a.count ∙ grind (arith, rows);
      closed = λ s r hs hr. same_or s k (Closed (in_at (row_at ins r) s) (out_at (row_at outs s) r) (row_at more (s * n + r)))
          (λ e. let g = c.closed r hr in
          let way : g.0 ≡ in_at (row_at ins r) k = sym (first_left k (row_at ins r) g.0 no_in (row_at new r) (sym (left r hr) ∙ g.1.0)) in
          subst (λ q. Closed (in_at (row_at ins r) q) (out_at (row_at outs q) r) (row_at more (q * n + r))) (sym e)
          (subst (λ (v : Incoming M × ℕ). Closed v.0 (out_at (row_at outs k) r) (row_at more (v.1 + r))) (λ i. (way i, a.count i)) g.1.1))
          (λ other. let less : s < k = omega arith in
          subst (λ l. Closed (in_at (row_at ins r) s) (out_at (row_at outs s) r) l)
          (sym (c.kept (s * n + r) (subst (λ m. s * n + r < m) (sym a.count) (before s k n r less hr)))) (a.closed s r less hr));
    }
