-- The worker of one node at the start of a round.
use Rattle.std.proofs.Common.{◌≡◌, ◌==◌, ◌&&◌, ◌<◌, ℕ, zero, suc, ◌+◌, ◌*◌, true, false, if◌then◌else◌, List}
use Rattle.std.proofs.Common.{[], ◌∷◌, ◌++◌, length, slice_index_or, drop, sym, ◌∙◌, ap, refl, subst, arith}
use Rattle.std.proofs.lemmas.Bool.Decides.{nat_tests}
use Rattle.std.proofs.lemmas.List.{length-map, get_or-map, get_or_append_left}
use Rattle.atomic_table.specs.Seated.{TableId}
use Rattle.fifo_link.specs.Ends.{End}
use Rattle.actor_net.specs.declared.stamped.Stamped.{Stamped}
use Rattle.actor_net.specs.Network.{Network, queue_at}
use Rattle.actor_net.proofs.EnabledChoices.{at}
use Rattle.actor_net.proofs.WaitingMessages.{waiting_is}
use Rattle.actor_threads.specs.Ways.{unpacked, with_stamp_0}
use Rattle.actor_threads.specs.Work.{WorkerView, in_at, no_out, fresh_worker, all_in, all_out, queues_at}
use Rattle.actor_threads.specs.LinkTable.{row_at, no_end, one_at, name_of, AllOpened}
use Rattle.actor_threads.specs.Round.{StartsAs}
use Rattle.actor_threads.proofs.OpenedWays.{length-all_in}
use Rattle.actor_threads.proofs.LinkTableLemmas.{first_left, last_of, same_or}

module _ {M : Type 0} where
  -- one way in
  in_at-all_in : (takes : List (End (List (Stamped M)))) (kept : List (List M)) (p : ℕ) → length kept ≡ length takes → p < length takes
      → in_at (all_in takes kept) p ≡ record { link = (one_at takes p).link; done = unpacked (one_at takes p).done; kept = with_stamp_0 (row_at kept p) }
  in_at-all_in [] kept p e h = absurd (omega arith)
  in_at-all_in (t ∷ ts) [] p e h = absurd (cc)
  in_at-all_in (t ∷ ts) (k ∷ ks) zero e h = refl
  in_at-all_in (t ∷ ts) (k ∷ ks) (suc p) e h = in_at-all_in ts ks p (cc) (omega arith)

  length-waits : (k : ℕ) (input : List M) (kept : List (List M)) → length (queues_at k input kept) ≡ length kept
  length-waits k input [] = refl
  length-waits k input (x ∷ xs) = refl

  -- what waits at a port
  waits_at : (k : ℕ) (input : List M) (kept : List (List M)) (p : ℕ) → p < length kept
      → row_at (queues_at k input kept) p ≡ (if (k == 0) && (p == 0) then input else row_at kept p)
  waits_at k input [] p h = absurd (omega arith)
  waits_at k input (x ∷ xs) zero h = elim (k == 0) as (λ b. (if b then input else x) ≡ (if b && (0 == 0) then input else x)) [ true ↦ refl | false ↦ refl ]
  waits_at k input (x ∷ xs) (suc p) h = elim (k == 0) as (λ b. row_at xs p ≡ (if b && (suc p == 0) then input else row_at xs p)) [
    | true ↦ let other : (suc p == 0) ≡ false = grind (arith, nat_tests) in ap (λ b. if b then input else row_at xs p) (sym other)
    | false ↦ refl
  ]

module _ {A M N : Type 0} (w : Network A M N) (n k : ℕ) (sends takes : List (List (End (List (Stamped M))))) (count : length w.nodes ≡ n) (h : k < n)
    (o : AllOpened n n sends takes) where
  -- a worker that is opened with the k-th node, what stands on its links, and its ends
  pub starts_as : (node : A) (rest : List A) (items : List M) (kept : List (List M)) → drop k w.nodes ≡ node ∷ rest → (k ≡ 0 → items ≡ w.input)
      → length kept ≡ n
      → ((p : ℕ) → p < n → row_at kept p ≡ row_at w.links (p * n + k))
      → StartsAs w (name_of sends) k (fresh_worker {N = N} k node (queues_at k items kept) (row_at takes k) (row_at sends k))
  starts_as node rest items kept at_node input many lists =
      let lengths : length (queues_at k items kept) ≡ length (row_at takes k) = length-waits k items kept ∙ many ∙ sym (o.take_rows k h) in
      record {
        number = refl;
        node = λ d. sym (first_left k w.nodes node d rest at_node);
        clock = refl;
        steps = refl;
        notes = refl;
        count_ins = length-all_in (row_at takes k) (queues_at k items kept) lengths ∙ o.take_rows k h ∙ sym count;
        count_outs = length-map (row_at sends k) all_out ∙ o.send_rows k h ∙ sym count;
        ins = λ p hp.
            let inside : p < n = subst (λ m. p < m) count hp in
            let waits_here : row_at (queues_at k items kept) p ≡ queue_at w (at k p) =
            waits_at k items kept p (subst (λ m. p < m) (sym many) inside)
            ∙ elim ((k == 0) && (p == 0))
            as (λ b. (k == 0) && (p == 0) ≡ b → (if b then items else row_at kept p) ≡ (if b then w.input else row_at w.links (p * length w.nodes + k))) [
              | true ↦ λ t. input (grind (arith, nat_tests))
              | false ↦ λ f. lists p inside ∙ ap (λ m. row_at w.links (p * m + k)) (sym count)
            ] refl
            ∙ sym (waiting_is w p k hp (subst (λ m. k < m) (sym count) h)) in
            in_at-all_in (row_at takes k) (queues_at k items kept) p lengths (subst (λ m. p < m) (sym (o.take_rows k h)) inside)
            ∙ λ i. record { link = sym (o.fresh p k inside h).link i; done = unpacked ((o.fresh p k inside h).taken i); kept = with_stamp_0 (waits_here i) };
        outs = λ r hr.
            let inside : r < n = subst (λ m. r < m) count hr in
            get_or-map all_out (row_at sends k) r no_end no_out (subst (λ m. r < m) (sym (o.send_rows k h)) inside)
            ∙ λ i. record { link = name_of sends k r; all = unpacked ((o.fresh k r h inside).sent i) };
      }

-- one worker more
pub started_more : {A M N : Type 0} (w : Network A M N) (names : ℕ → ℕ → TableId) (workers : List (WorkerView A M N)) (k : ℕ) (new : WorkerView A M N)
    → length workers ≡ k
    → ((j : ℕ) (d : WorkerView A M N) → j < k → StartsAs w names j (slice_index_or workers j d)) → StartsAs w names k new → (j : ℕ) (d : WorkerView A M N)
    → j < k + 1 → StartsAs w names j (slice_index_or (workers ++ new ∷ []) j d)
started_more w names workers k new count before last j d h = same_or j k (StartsAs w names j (slice_index_or (workers ++ new ∷ []) j d))
    (λ e. subst (λ q. StartsAs w names q (slice_index_or (workers ++ new ∷ []) q d)) (sym e)
    (subst (λ (v : WorkerView _ _ _). StartsAs w names k v) (sym (last_of workers new d k count)) last))
    (λ other. let less : j < k = omega arith in
    subst (λ (v : WorkerView _ _ _). StartsAs w names j v) (sym (get_or_append_left workers (new ∷ []) d j (subst (λ m. j < m) (sym count) less)))
    (before j d less))
