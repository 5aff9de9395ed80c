-- What a unit sees of a link is what the chunks there spell of it, and of which units the pieces and the Deletes there are.
use Rattle.nf_net.proofs.Words.{◌≡◌, ℕ, Bool, true, false, Option, Some, None, List, [], ◌∷◌, ◌++◌, append-nil, refl, sym, ap, ◌∙◌, if◌then◌else◌, ◌==◌, ◌&&◌}
use Rattle.nf_net.proofs.Words.{◌||◌, is_some, option_map, option_to_list, cons_option, filter_map, flat_map, map-append, list_any-append, list_any, or-false}
use Rattle.nf_net.proofs.Words.{Semantics, same_unit, is_among, spelled, Command, Order, Msg, At_a, At_b, Carry, Event, Fence_to, Install, Stray, records_on}
use Rattle.nf_net.proofs.Words.{record_at, MoveMsg, Frame, where_true, sends_to, add, Of_move, seen, MoveAsked, Seeing, frame, Any, New, ShareAsked, ShareMsg}
use Rattle.nf_net.proofs.Words.{olds, OpenShare, chunks_in, given_in, removed_by, spelled_of, want_of, asked_of, want_share_of, Given, place, S, shown, Label}
use Rattle.nf_net.proofs.Words.{FromController, ToController, Unit, Mark, Target, split}
use Rattle.actor_net.proofs.WeightLaws.{Each}
use Rattle.proof_machines.proofs.unit.Machine.{Where, Item, Pass, Fence, Enable, Stream, Delete, Put, Restore, Enabled, Piece, Deleted, Put_ok, Put_no}
use Rattle.proof_machines.proofs.unit.Machine.{Restored, Fenced, Forward}
use Rattle.proof_machines.proofs.unit.ToRemove.{gives, deletes}
use Rattle.proof_machines.proofs.unit.Labels as labels
use Rattle.proof_machines.proofs.unit.Real.{see}
use Rattle.proof_machines.proofs.net.Net as net
use Rattle.proof_machines.proofs.net.Net.{In_packet, Asked, Carry_on, Pass_on, Fence_on}
use Rattle.proof_machines.proofs.net.Holding as holding
use Rattle.proof_machines.proofs.net.Shares.{Old}
use Rattle.nf_net.proofs.paths.ChunkLemmas.{as_spelled, spelled-append, good_spelled, good_units}
use Rattle.proof_machines.proofs.unit.UnitPieces.{cons_option_is}
use Rattle.nf_net.proofs.paths.PathLinks.{picked-add, see_of, view, seen_more}

-- what a list of items has of a unit's record
pub record Reading (R : Type 0) : Type 0 where
  pub records : List R
  pub given : Bool
  pub removed : Bool

module _ {R : Type 0} where
  abbrev reading : List R → Bool → Bool → Reading R
  reading rs given removed = record { records = rs; given = given; removed = removed }

  abbrev nothing : Reading R
  nothing = reading [] false false

  abbrev pub read : List (Item R) → Reading R
  read xs = reading (records_on xs) (list_any gives xs) (list_any deletes xs)

  tested-add : (p : Item R → Bool) (o : Option (Item R)) (xs : List (Item R)) → list_any p (add o xs) ≡ list_any p (add o []) || list_any p xs
  tested-add p None xs = refl
  tested-add p (Some x) xs = list_any-append p (x ∷ []) xs

  -- an item that is seen where a test is true
  by_test : (b : Bool) (x : Item R) (v : Reading R) → read (x ∷ []) ≡ v → (b ≡ false → nothing ≡ v) → read (add (where_true b x) []) ≡ v
  by_test true x v on off = on
  by_test false x v on off = off refl

  bare : (b : Bool) (x : Item R) → read (x ∷ []) ≡ nothing → read (add (where_true b x) []) ≡ nothing
  bare b x none = by_test b x nothing none (λ _. refl)

  sent_bare : (v : Frame) (to : ℕ) (item : Where → Item R) → ((w : Where) → read (item w ∷ []) ≡ nothing) → read (sends_to v to item ∷ []) ≡ nothing
  sent_bare v to item none = split (to == v.from) (λ a. read ((if a then item At_a else if to == v.to then item At_b else Stray) ∷ []) ≡ nothing)
      (λ _. none At_a) (λ _. elim (to == v.to) as (λ b. read ((if b then item At_b else Stray) ∷ []) ≡ nothing) [ true ↦ none At_b | false ↦ refl ])

module _ {R : Type 0} (f : Semantics R) (g : Given) (z : Seeing) (es : List OpenShare) where
  abbrev its : Frame
  its = frame (S f g) z

  abbrev u : Unit
  u = z.unit

  -- what a message brings of the unit, by its chunks
  abbrev brought : Option R → Reading R
  brought o = reading (option_to_list o) false false

  abbrev read_msg : net.Msg R → Reading R
  read_msg (Of_move x (MoveMsg.Piece n p)) = reading (option_to_list (record_at u p.chunks)) (is_some (record_at u p.chunks)) false
  read_msg (Of_move x (MoveMsg.Put n p first)) = brought (record_at u p.chunks)
  read_msg (Of_move x (MoveMsg.Restore n cs)) = brought (record_at u cs)
  read_msg (Of_move x (MoveMsg.Put_no n why cs)) = brought (record_at u cs)
  read_msg (Of_move x (MoveMsg.Delete n us)) = reading [] false (is_among us u)
  read_msg m = nothing

  abbrev read_shown : Option (Any R) → Reading R
  read_shown None = nothing
  read_shown (Some (Old a)) = read_msg a
  read_shown (Some (New a)) = nothing

  own_brought : (b : Bool) (x : Item R) (o : Option R) → read (x ∷ []) ≡ reading (cons_option o []) false false → (b ≡ false → o ≡ None)
      → read (add (where_true b x) []) ≡ brought o
  own_brought b x o is none =
      by_test b x (brought o) (is ∙ ap (λ rs. reading rs false false) (cons_option_is o [] ∙ append-nil _)) (λ off. ap brought (sym (none off)))

  -- it is what the unit sees of it
  seen_read : (i : ℕ) (m : net.Msg R) → holding.Label (S f g) z i m → read (add (seen its m) []) ≡ read_msg m
  seen_read i (In_packet p) l = refl
  seen_read i (Asked x) l = refl
  seen_read i (Carry_on p) l = bare (its.mine p) (Carry p) refl
  seen_read i (Pass_on p) l = bare (its.mine p) (Pass p) refl
  seen_read i (Fence_on n) l = bare (n == its.move) Fence refl
  seen_read i (Of_move x (MoveMsg.Piece n p)) l =
      let whole : (o : Option R) → reading (cons_option o []) (is_some o || false) false ≡ reading (option_to_list o) (is_some o) false = λ o.
      elim o as (λ v. reading (cons_option v []) (is_some v || false) false ≡ reading (option_to_list v) (is_some v) false)
      [ None ↦ refl | Some r ↦ refl ] in
      by_test (n == its.move) (Piece (see its p)) (read_msg (Of_move x (MoveMsg.Piece n p))) (whole (record_at u p.chunks))
      (λ off. ap (λ o. reading (option_to_list o) (is_some o) false) (sym (l.1 off)))
  seen_read i (Of_move x (MoveMsg.Put n p first)) l = own_brought (n == its.move) (Put (see its p) first) (record_at u p.chunks) refl l.1
  seen_read i (Of_move x (MoveMsg.Restore n cs)) l = own_brought (n == its.move) (Restore (record_at u cs)) (record_at u cs) refl l.1
  seen_read i (Of_move x (MoveMsg.Put_no n why cs)) l = own_brought (n == its.move) (Put_no why (record_at u cs)) (record_at u cs) refl l.1
  seen_read i (Of_move x (MoveMsg.Delete n us)) l = by_test (n == its.move) (Delete (is_among us u)) (read_msg (Of_move x (MoveMsg.Delete n us)))
      (ap (reading [] false) (sym (sym (or-false (is_among us u))))) (λ off. ap (reading [] false) (sym (l.1 off)))
  seen_read i (Of_move x (MoveMsg.Enable n k)) l = bare (n == its.move) (Enable k) refl
  seen_read i (Of_move x (MoveMsg.Stream n)) l = bare (n == its.move) Stream refl
  seen_read i (Of_move x (MoveMsg.Enabled n)) l = bare (n == its.move) Enabled refl
  seen_read i (Of_move x (MoveMsg.Event n p)) l = bare (its.mine p) (Event p) refl
  seen_read i (Of_move x (MoveMsg.Deleted n)) l = bare (n == its.move) Deleted refl
  seen_read i (Of_move x (MoveMsg.Put_ok n)) l = bare (n == its.move) Put_ok refl
  seen_read i (Of_move x (MoveMsg.Restored n)) l = bare (n == its.move) Restored refl
  seen_read i (Of_move x (MoveMsg.Fenced n)) l = bare (n == its.move) Fenced refl
  seen_read i (Of_move x (MoveMsg.Forward p to)) l = bare (its.mine p) (sends_to its to (λ w. Forward w p)) (sent_bare its to (λ w. Forward w p) (λ w. refl))
  seen_read i (Of_move x (MoveMsg.Install n from to)) l = bare (n == its.move) (if (from == its.from) && (to == its.to) then Install else Stray)
      (elim ((from == its.from) && (to == its.to)) as (λ b. read {R = R} ((if b then Install else Stray) ∷ []) ≡ nothing) [ true ↦ refl | false ↦ refl ])
  seen_read i (Of_move x (MoveMsg.Fence_to n to)) l = bare (n == its.move) (sends_to its to (λ w. Fence_to w)) (sent_bare its to (λ w. Fence_to w) (λ w. refl))

  -- and what the message itself has
  record Spells (m : Msg) (v : Reading R) : Type 0 where
    chunks : spelled_of f u (chunks_in m) ≡ as_spelled u v.records
    given : is_among (given_in m) u ≡ v.given
    removed : is_among (removed_by m) u ≡ v.removed

  asked_spells : (k : Command) (what : Order) → Spells (Msg.Asked k) (read_shown (asked_of f (place g) k.op what))
  asked_spells k (Order.Move src dst filter keep) = by_want (want_of (place g) k.op (Order.Move src dst filter keep))
    where
      by_want : (o : Option MoveAsked) → Spells (Msg.Asked k) (read_shown (option_map (λ want. Old (net.Asked want)) o))
      by_want None = record { chunks = refl; given = refl; removed = refl }
      by_want (Some x) = record { chunks = refl; given = refl; removed = refl }
  asked_spells k (Order.Copy src dst filter) = record { chunks = refl; given = refl; removed = refl }
  asked_spells k (Order.Share members filter) = by_want (want_share_of (place g) k.op (Order.Share members filter))
    where
      by_want : (o : Option ShareAsked) → Spells (Msg.Asked k) (read_shown (option_map (λ want. New (ShareMsg.Asked want)) o))
      by_want None = record { chunks = refl; given = refl; removed = refl }
      by_want (Some x) = record { chunks = refl; given = refl; removed = refl }

  msg_spells : (s r : ℕ) (m : Msg) → Label f g s r m → Spells m (read_shown (shown f g m))
  msg_spells s r (Msg.Piece op piece) l =
      record { chunks = good_spelled f g u piece.chunks l.1.good; given = good_units f g u piece.chunks l.1.good; removed = refl }
  msg_spells s r (Msg.Put op piece first) l = record { chunks = good_spelled f g u piece.chunks l.1.good; given = refl; removed = refl }
  msg_spells s r (Msg.Restore op chunks) l = record { chunks = good_spelled f g u chunks l.1; given = refl; removed = refl }
  msg_spells s r (Msg.PutNo op refused) l = record { chunks = good_spelled f g u refused.chunks l.1; given = refl; removed = refl }
  msg_spells s r (Msg.Asked c) l = asked_spells c c.what
  msg_spells s r (Msg.Shared op chunk) l = by_entry (spelled f chunk)
    where
      by_entry : (o : Option (Unit × R)) → Spells (Msg.Shared op chunk) (read_shown (option_map (λ entry. New (ShareMsg.Shared op entry)) o))
      by_entry None = record { chunks = refl; given = refl; removed = refl }
      by_entry (Some x) = record { chunks = refl; given = refl; removed = refl }
  msg_spells s r (Msg.Carry Mark.Plain cell) l = record { chunks = refl; given = refl; removed = refl }
  msg_spells s r (Msg.Carry (Mark.Pass op) cell) l = record { chunks = refl; given = refl; removed = refl }
  msg_spells s r (Msg.Carry (Mark.Shared op home) cell) l = record { chunks = refl; given = refl; removed = refl }
  msg_spells s r (Msg.Forward to Mark.Plain cell) l = record { chunks = refl; given = refl; removed = refl }
  msg_spells s r (Msg.Forward to (Mark.Pass op) cell) l = record { chunks = refl; given = refl; removed = refl }
  msg_spells s r (Msg.Forward to (Mark.Shared op home) cell) l = record { chunks = refl; given = refl; removed = refl }
  msg_spells s r (Msg.Install op filter from (Target.Instance to)) l = record { chunks = refl; given = refl; removed = refl }
  msg_spells s r (Msg.Install op filter from Target.Controller) l = record { chunks = refl; given = refl; removed = refl }
  msg_spells s r m l = record { chunks = refl; given = refl; removed = refl }

  -- a message, as the unit sees it
  abbrev pub MayBe : ℕ → Option (Any R) → Type 0
  MayBe s None = Prim.Unit {0}
  MayBe s (Some (Old a)) = holding.Label (S f g) z s a
  MayBe s (Some (New a)) = Prim.Unit {0}

  shown_read : (s : ℕ) (o : Option (Any R)) → MayBe s o → read_shown o ≡ read (add (see_of f g z es o) [])
  shown_read s None l = refl
  shown_read s (Some (Old a)) l = sym (seen_read s a l)
  shown_read s (Some (New a)) l = refl

  pub first_of_link : (s : ℕ) (o : Option (Any R)) (ms : List (Any R)) → labels.Each (holding.Label (S f g) z s) (olds (cons_option o ms))
      → MayBe s o × labels.Each (holding.Label (S f g) z s) (olds ms)
  first_of_link s None ms h = (tt, h)
  first_of_link s (Some (Old a)) ms h = (h.0, h.1)
  first_of_link s (Some (New a)) ms h = (tt, h)

  -- and so of a link
  pub record AreSpelled (ms : List Msg) (xs : List (Item R)) : Type 0 where
    pub chunks : spelled_of f u (flat_map chunks_in ms) ≡ as_spelled u (records_on xs)
    pub given : is_among (flat_map given_in ms) u ≡ list_any gives xs
    pub removed : is_among (flat_map removed_by ms) u ≡ list_any deletes xs

  pub are_spelled : (s r : ℕ) (ms : List Msg) → Each (Label f g s r) ms → labels.Each (holding.Label (S f g) z s) (olds (filter_map (shown f g) ms))
      → AreSpelled ms (view f g z es ms)
  are_spelled s r [] h k = record { chunks = refl; given = refl; removed = refl }
  are_spelled s r (m ∷ ms) h k =
      let both = first_of_link s (shown f g m) (filter_map (shown f g) ms) k in
      let one = msg_spells s r m h.0 in
      let is = shown_read s (shown f g m) both.0 in
      let rest = are_spelled s r ms h.1 both.1 in
      let o = see_of f g z es (shown f g m) in
      let xs = view f g z es ms in
      let more = seen_more f g z es m ms in
      record {
        chunks = spelled-append f u (chunks_in m) (flat_map chunks_in ms)
            ∙ ap (λ v. v ++ spelled_of f u (flat_map chunks_in ms)) (one.chunks ∙ ap (λ v. as_spelled u v.records) is)
            ∙ ap (λ v. as_spelled u (records_on (add o [])) ++ v) rest.chunks
            ∙ sym (map-append (λ x. Some (u, x)) (records_on (add o [])) (records_on xs))
            ∙ ap (as_spelled u) (sym (picked-add _ o xs) ∙ ap records_on (sym more));
        given = list_any-append (same_unit u) (given_in m) (flat_map given_in ms)
            ∙ ap (λ b. b || is_among (flat_map given_in ms) u) (one.given ∙ ap (λ v. v.given) is)
            ∙ ap (λ b. list_any gives (add o []) || b) rest.given ∙ sym (tested-add gives o xs) ∙ ap (list_any gives) (sym more);
        removed = list_any-append (same_unit u) (removed_by m) (flat_map removed_by ms)
            ∙ ap (λ b. b || is_among (flat_map removed_by ms) u) (one.removed ∙ ap (λ v. v.removed) is)
            ∙ ap (λ b. list_any deletes (add o []) || b) rest.removed ∙ sym (tested-add deletes o xs) ∙ ap (list_any deletes) (sym more);
      }

-- On other links there are no chunks.
module _ {R : Type 0} (f : Semantics R) (g : Given) (s r : ℕ) where
  no_chunk : (m : Msg) → Label f g s r m → (FromController s r → ⊥) → (ToController s r → ⊥) → chunks_in m ≡ []
  no_chunk (Msg.Piece op piece) l from to = absurd (to l.0)
  no_chunk (Msg.Put op piece first) l from to = absurd (from l.0)
  no_chunk (Msg.Restore op chunks) l from to = absurd (from l.0)
  no_chunk (Msg.PutNo op refused) l from to = absurd (to l.0)
  no_chunk m l from to = refl

  pub no_chunks : (ms : List Msg) → Each (Label f g s r) ms → (FromController s r → ⊥) → (ToController s r → ⊥) → flat_map chunks_in ms ≡ []
  no_chunks [] h from to = refl
  no_chunks (m ∷ ms) h from to = rw (no_chunk m h.0 from to, no_chunks ms h.1 from to) refl
