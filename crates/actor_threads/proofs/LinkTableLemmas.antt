-- Rows of links, one link more at a time.
use Rattle.std.proofs.Common.{◌≡◌, ◌≢◌, ◌==◌, ◌<◌, ℕ, zero, suc, ◌+◌, true, false, true≢false, List, [], ◌∷◌, ◌++◌, length, slice_index_or}
use Rattle.std.proofs.Common.{slice_set, drop, map, sym, ◌∙◌, ap, refl, subst, arith, length-append, length-set, length-drop}
use Rattle.std.proofs.lemmas.Bool.Decides.{Decides-eqb}
use Rattle.std.proofs.lemmas.List.{length-map, get_or-set_same, get_or-set_other, get_or_append_left, map-set, map-append, get_or-map}
use Rattle.std.proofs.Math.Seq.{get_or-append_seam}
use Rattle.fifo_link.specs.Ends.{End}
use Rattle.actor_threads.specs.Ways.{Incoming, Outgoing}
use Rattle.actor_threads.specs.Work.{no_out, out_at}
use Rattle.actor_threads.specs.LinkTable.{row_at, no_end, one_at, AreFresh, RowOpened, AllOpened, Closed, RowClosed, CanClose, closing}

-- the last of a list that grew
pub last_of : {X : Type 0} (xs : List X) (x d : X) (k : ℕ) → length xs ≡ k → slice_index_or (xs ++ x ∷ []) k d ≡ x
last_of xs x d k e = subst (λ n. slice_index_or (xs ++ x ∷ []) n d ≡ x) e (get_or-append_seam xs x [] d)

-- the first of what is left
pub first_left : {X : Type 0} (k : ℕ) (xs : List X) (x d : X) (rest : List X) → drop k xs ≡ x ∷ rest → slice_index_or xs k d ≡ x
first_left zero xs x d rest e = ap (λ (l : List _). slice_index_or l 0 d) e
first_left (suc k) [] x d rest e = absurd (cc)
first_left (suc k) (y ∷ ys) x d rest e = first_left k ys x d rest e

-- cases on whether two numbers are one
pub same_or : (r k : ℕ) (P : Type 0) → (r ≡ k → P) → (r ≢ k → P) → P
same_or r k P same other = elim (r == k) as (λ b. (r == k) ≡ b → P)
    [ true ↦ λ t. same ((Decides-eqb r k).0 t) | false ↦ λ f. other (λ e. true≢false (sym ((Decides-eqb r k).1 e) ∙ f)) ] refl

module _ {M : Type 0} where
  -- no link yet
  pub row_opened_none : (old : List (List (End M))) → RowOpened 0 [] old old
  row_opened_none old = record { count = refl; rows = refl; grown = λ r h. absurd (omega arith); same = λ r h. refl }

  -- one link more
  pub row_opened_more : (k : ℕ) (row : List (End M)) (old new : List (List (End M))) (s t : End M) → RowOpened k row old new → k < length old → AreFresh s t
      → RowOpened (k + 1) (row ++ s ∷ []) old (slice_set new k (row_at new k ++ t ∷ []))
  row_opened_more k row old new s t o h fresh =
      let inside : k < length new = subst (λ n. k < n) (sym o.rows) h in
      let set : List (List (End M)) = slice_set new k (row_at new k ++ t ∷ []) in
      let Goal : ℕ → Type 0 = λ r. (u : End M) × ((row_at set r ≡ row_at old r ++ u ∷ []) × AreFresh (one_at (row ++ s ∷ []) r) u) in
      let here : Goal k = (
        t,
        (
          get_or-set_same new k _ [] inside ∙ ap (λ l. l ++ t ∷ []) (o.same k (omega arith)),
          subst (λ v. AreFresh v t) (sym (last_of row s no_end k o.count)) fresh,
        ),
      ) in
      record {
        count = length-append row (s ∷ []) ∙ ap (λ n. n + 1) o.count;
        rows = length-set new k _ ∙ o.rows;
        grown = λ r below. same_or r k (Goal r) (λ e. subst Goal (sym e) here) (λ other.
            let less : r < k = omega arith in let g = o.grown r less in (
              g.0,
              (
                get_or-set_other new k r _ [] other ∙ g.1.0,
                subst (λ v. AreFresh v g.0) (sym (get_or_append_left row (s ∷ []) no_end r (subst (λ n. r < n) (sym o.count) less))) g.1.1,
              ),
            ));
        same = λ r above. get_or-set_other new k r _ [] (λ e. omega (arith, e)) ∙ o.same r (omega arith);
      }

  -- no sender yet
  pub all_opened_none : (n : ℕ) (takes : List (List (End M))) → length takes ≡ n → ((r : ℕ) → r < n → row_at takes r ≡ []) → AllOpened 0 n [] takes
  all_opened_none n takes e none = record {
    senders = refl;
    receivers = e;
    send_rows = λ s h. absurd (omega arith);
    take_rows = λ r h. ap (λ (l : List (End M)). length l) (none r h);
    fresh = λ s r hs hr. absurd (omega arith);
  }

  -- one sender more
  pub all_opened_more : (k n : ℕ) (sends takes new : List (List (End M))) (row : List (End M)) → AllOpened k n sends takes
      → RowOpened (length takes) row takes new → AllOpened (k + 1) n (sends ++ row ∷ []) new
  all_opened_more k n sends takes new row a o =
      let last : row_at (sends ++ row ∷ []) k ≡ row = last_of sends row [] k a.senders in
      let grown : (r : ℕ) → r < n → (u : End M) × ((row_at new r ≡ row_at takes r ++ u ∷ []) × AreFresh (one_at row r) u) = λ r h. o.grown r
      (subst (λ m. r < m) (sym a.receivers) h) in
      record {
        senders = length-append sends (row ∷ []) ∙ ap (λ m. m + 1) a.senders;
        receivers = o.rows ∙ a.receivers;
        send_rows = λ s h. same_or s k (length (row_at (sends ++ row ∷ []) s) ≡ n)
            (λ e. subst (λ q. length (row_at (sends ++ row ∷ []) q) ≡ n) (sym e) (ap (λ (l : List (End M)). length l) last ∙ o.count ∙ a.receivers))
            (λ other. let less : s < k = omega arith in
            ap (λ (l : List (End M)). length l) (get_or_append_left sends (row ∷ []) [] s (subst (λ m. s < m) (sym a.senders) less)) ∙ a.send_rows s less);
        take_rows = λ r h. ap (λ (l : List (End M)). length l) (grown r h).1.0 ∙ length-append (row_at takes r) _ ∙ ap (λ m. m + 1) (a.take_rows r h);
        fresh = λ s r hs hr. same_or s k (AreFresh (one_at (row_at (sends ++ row ∷ []) s) r) (one_at (row_at new r) s))
            (λ e. subst (λ q. AreFresh (one_at (row_at (sends ++ row ∷ []) q) r) (one_at (row_at new r) q)) (sym e)
            (subst (λ (v : List (End M) × End M). AreFresh (one_at v.0 r) v.1) (λ i. (
              sym last i,
              sym (ap (λ (l : List (End M)). one_at l k) (grown r hr).1.0 ∙ last_of (row_at takes r) (grown r hr).0 no_end k (a.take_rows r hr)) i,
            )) (grown r hr).1.1))
            (λ other. let less : s < k = omega arith in
            subst (λ (v : List (End M) × End M). AreFresh (one_at v.0 r) v.1)
            (λ i. (
              sym (get_or_append_left sends (row ∷ []) [] s (subst (λ m. s < m) (sym a.senders) less)) i,
              sym (ap (λ (l : List (End M)). one_at l s) (grown r hr).1.0
                  ∙ get_or_append_left (row_at takes r) _ no_end s (subst (λ m. s < m) (sym (a.take_rows r hr)) less)) i,
            ))
            (a.fresh s r less hr));
      }

  -- no link closed yet
  pub row_closed_none : (row : List (Outgoing M)) (old : List (List (Incoming M))) (before : List (List M))
      → RowClosed 0 row (closing old before) (closing old before)
  row_closed_none row old before = record { rows = refl; count = omega arith; closed = λ r h. absurd (omega arith); same = λ r h. refl; kept = λ i h. refl }

  -- one link more
  pub row_closed_more : (k : ℕ) (row : List (Outgoing M)) (old new : List (List (Incoming M))) (before after : List (List M)) (way : Incoming M)
      (rest : List (Incoming M)) (list : List M)
      → RowClosed k row (closing old before) (closing new after) → k < length old → row_at new k ≡ way ∷ rest → Closed way (out_at row k) list
      → RowClosed (k + 1) row (closing old before) (closing (slice_set new k rest) (after ++ list ∷ []))
  row_closed_more k row old new before after way rest list o h first closed =
      let inside : k < length new = subst (λ n. k < n) (sym o.rows) h in
      let Goal : ℕ → Type 0 = λ r. (w : Incoming M)
      × ((row_at old r ≡ w ∷ row_at (slice_set new k rest) r) × Closed w (out_at row r) (slice_index_or (after ++ list ∷ []) (length before + r) [])) in
      let here : Goal k = (
        way,
        (
          sym (o.same k (omega arith)) ∙ first ∙ ap (λ l. way ∷ l) (sym (get_or-set_same new k rest [] inside)),
          subst (λ l. Closed way (out_at row k) l) (sym (last_of after list [] (length before + k) o.count)) closed,
        ),
      ) in
      record {
        rows = length-set new k rest ∙ o.rows;
        count = length-append after (list ∷ []) ∙ ap (λ n. n + 1) o.count ∙ omega arith;
        closed = λ r below. same_or r k (Goal r) (λ e. subst Goal (sym e) here) (λ other.
            let less : r < k = omega arith in let g = o.closed r less in (
              g.0,
              (
                g.1.0 ∙ ap (λ l. g.0 ∷ l) (sym (get_or-set_other new k r rest [] other)),
                subst (λ l. Closed g.0 (out_at row r) l) (sym (get_or_append_left after (list ∷ []) [] (length before + r) (omega (arith, o.count)))) g.1.1,
              ),
            ));
        same = λ r above. get_or-set_other new k r rest [] (λ e. omega (arith, e)) ∙ o.same r (omega arith);
        kept = λ i i_in. get_or_append_left after (list ∷ []) [] i (omega (arith, o.count)) ∙ o.kept i i_in;
      }

-- one row of a table changes
pub row_set : {V X : Type 0} (f : V → List X) (table : List V) (k : ℕ) (new : V) (row : List X) → f new ≡ row
    → map f (slice_set table k new) ≡ slice_set (map f table) k row
row_set f table k new row e = map-set f table k new ∙ ap (λ l. slice_set (map f table) k l) e

-- a row that was read
pub row_read : {V X : Type 0} (f : V → List X) (table : List V) (k : ℕ) (old : V) → old ≡ slice_index_or table k old → k < length table
    → row_at (map f table) k ≡ f old
row_read f table k old is h = get_or-map f table k old [] h ∙ ap f (sym is)

-- one empty row more
pub none_more : {V X : Type 0} (f : V → List X) (table : List V) (v : V) (k : ℕ) → length table ≡ k → ((r : ℕ) → r < k → row_at (map f table) r ≡ [])
    → f v ≡ [] → (r : ℕ) → r < k + 1 → row_at (map f (table ++ v ∷ [])) r ≡ []
none_more f table v k count none empty r h =
    ap (λ (l : List (List _)). row_at l r) (map-append f table (v ∷ []))
    ∙ same_or r k (row_at (map f table ++ f v ∷ []) r ≡ [])
    (λ e. subst (λ q. row_at (map f table ++ f v ∷ []) q ≡ []) (sym e) (last_of (map f table) (f v) [] k (length-map table f ∙ count) ∙ empty))
    (λ other. let less : r < k = omega arith in get_or_append_left (map f table) (f v ∷ []) [] r (omega (arith, length-map table f, count, less)) ∙ none r less)

module _ {M : Type 0} where
  -- the way in that closes with the first way out that is left
  pub head_way : (k : ℕ) (row left more : List (Outgoing M)) (ins now : List (List (Incoming M))) (x : Outgoing M) (before after : List (List M))
      → CanClose row ins → RowClosed k row (closing ins before) (closing now after) → left ≡ drop k row → left ≡ x ∷ more
      → (way : Incoming M) × (rest : List (Incoming M)) × ((row_at now k ≡ way ∷ rest) × (x.link ≡ way.link) × (k < length now) × (out_at row k ≡ x))
  head_way k row left more ins now x before after can o at_left first =
      let shown : drop k row ≡ x ∷ more = sym at_left ∙ first in
      let some : k < length row = omega (arith, length-drop k row, ap (λ (l : List (Outgoing M)). length l) shown) in
      let inside : k < length ins = subst (λ n. k < n) can.count some in
      let way = can.first k inside in
      let out : out_at row k ≡ x = first_left k row x no_out more shown in
      (way.0, way.1, (o.same k (omega arith) ∙ way.2.0, ap (λ (v : Outgoing M). v.link) (sym out) ∙ way.2.1, subst (λ n. k < n) (sym o.rows) inside, out))

-- the row of the first that is left
pub mapped_first : {V X : Type 0} (f : V → List X) (k : ℕ) (table rest : List V) (v : V) → drop k table ≡ v ∷ rest → row_at (map f table) k ≡ f v
mapped_first f zero table rest v e = ap (λ (l : List _). row_at (map f l) 0) e
mapped_first f (suc k) [] rest v e = absurd (cc)
mapped_first f (suc k) (x ∷ xs) rest v e = mapped_first f k xs rest v e
