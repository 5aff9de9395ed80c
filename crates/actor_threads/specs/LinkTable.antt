-- Steps between code and definition, which nobody has to believe: the links of a round, one for each ordered pair of nodes. This project's
-- own.
use Rattle.std.specs.Prelude.{◌≡◌, ◌<◌, ◌≤◌, ℕ, ◌+◌, List, [], ◌∷◌, ◌++◌, length, slice_index_or}
use Rattle.atomic_table.specs.Seated.{TableId}
use Rattle.actor_net.specs.declared.stamped.Stamped.{Stamped}
use Rattle.actor_net.specs.Histories.{messages}
use Rattle.fifo_link.specs.Ends.{End}
use Rattle.actor_threads.specs.Ways.{Incoming, Outgoing}
use Rattle.actor_threads.specs.Work.{no_link, out_at}

-- a row of a table
abbrev pub row_at : {X : Type 0} → List (List X) → ℕ → List X
row_at rows i = slice_index_or rows i []

-- the ways in of all workers, by receiver, and their ways out, by sender
pub record WayTable (M : Type 0) : Type 0 where
  pub ins : List (List (Incoming M))
  pub outs : List (List (Outgoing M))

-- while links are closed: the ways in that are left at each receiver, and the lists of the links that are closed
pub record Closing (M : Type 0) : Type 0 where
  pub ins : List (List (Incoming M))
  pub lists : List (List M)

module _ {M : Type 0} where
  abbrev pub ways_of : List (List (Incoming M)) → List (List (Outgoing M)) → WayTable M
  ways_of ins outs = record { ins = ins; outs = outs }

  -- an end of no link
  abbrev pub no_end : End M
  no_end = record { link = no_link; capacity = 0; done = []; known = [] }

  -- an end in a row
  abbrev pub one_at : List (End M) → ℕ → End M
  one_at row i = slice_index_or row i no_end

  -- the name of the link from s to r
  abbrev pub name_of : List (List (End M)) → ℕ → ℕ → TableId
  name_of sends s r = (one_at (row_at sends s) r).link

  -- the two ends of one link, on which nothing was sent
  pub record AreFresh (send take : End M) : Type 0 where
    pub link : send.link ≡ take.link
    pub sent : send.done ≡ []
    pub taken : take.done ≡ []

  -- links from one sender to the first k receivers: each of these has one more take end, whose send end stands in the row
  pub record RowOpened (k : ℕ) (row : List (End M)) (old new : List (List (End M))) : Type 0 where
    pub count : length row ≡ k
    pub rows : length new ≡ length old
    pub grown : (r : ℕ) → r < k → (t : End M) × ((row_at new r ≡ row_at old r ++ t ∷ []) × AreFresh (one_at row r) t)
    pub same : (r : ℕ) → k ≤ r → row_at new r ≡ row_at old r

  -- links from the first k of n senders to all n receivers
  pub record AllOpened (k n : ℕ) (sends takes : List (List (End M))) : Type 0 where
    pub senders : length sends ≡ k
    pub receivers : length takes ≡ n
    pub send_rows : (s : ℕ) → s < k → length (row_at sends s) ≡ n
    pub take_rows : (r : ℕ) → r < n → length (row_at takes r) ≡ k
    pub fresh : (s r : ℕ) → s < k → r < n → AreFresh (one_at (row_at sends s) r) (one_at (row_at takes r) s)

  -- a closed link: what its receiver keeps, then what was left on it, and then what its sender got back
  pub record Closed (way_in : Incoming M) (way_out : Outgoing M) (list : List M) : Type 0 where
    pub tail : List (Stamped M)
    pub sent : way_out.all ≡ way_in.done ++ tail
    pub is : list ≡ messages (way_in.kept ++ tail)

  abbrev pub closing : List (List (Incoming M)) → List (List M) → Closing M
  closing ins lists = record { ins = ins; lists = lists }

  -- the links of one sender to the first k receivers are closed: each of these has one way in less, and the lists stand after those before
  pub record RowClosed (k : ℕ) (row : List (Outgoing M)) (old new : Closing M) : Type 0 where
    pub rows : length new.ins ≡ length old.ins
    pub count : length new.lists ≡ length old.lists + k
    pub closed : (r : ℕ) → r < k → (way : Incoming M)
        × ((row_at old.ins r ≡ way ∷ row_at new.ins r) × Closed way (out_at row r) (slice_index_or new.lists (length old.lists + r) []))
    pub same : (r : ℕ) → k ≤ r → row_at new.ins r ≡ row_at old.ins r
    pub kept : (i : ℕ) → i < length old.lists → slice_index_or new.lists i [] ≡ slice_index_or old.lists i []

  -- each receiver has a way in, and its link is that of the sender's way out to it
  pub record CanClose (row : List (Outgoing M)) (ins : List (List (Incoming M))) : Type 0 where
    pub count : length row ≡ length ins
    pub first : (r : ℕ) → r < length ins → (way : Incoming M) × (rest : List (Incoming M)) × ((row_at ins r ≡ way ∷ rest) × ((out_at row r).link ≡ way.link))
