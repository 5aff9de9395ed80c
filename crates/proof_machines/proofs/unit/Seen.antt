-- Of a move's row over real pieces one unit sees the machine's row; of another message nothing.
use Rattle.proof_machines.proofs.unit.Words.{◌≡◌, ℕ, Bool, true, false, Option, Some, None, List, [], ◌∷◌, ◌++◌, map, refl, ap, ◌∙◌, append-nil, if◌then◌else◌}
use Rattle.proof_machines.proofs.unit.Words.{◌||◌, ◌==◌, is_some, same_unit, is_among, on_event, on_piece, Where, At_a, At_b, Buffers, pick, or_own, next, Item}
use Rattle.proof_machines.proofs.unit.Words.{Enable, Stream, Delete, Put, Restore, Enabled, Event, Piece, Deleted, Put_ok, Put_no, Restored, Fenced, Forward}
use Rattle.proof_machines.proofs.unit.Words.{Fence_to, Install, Passing, Ending, Undoing, Ended, ControllerTurn, goes, words, from_source, part_back}
use Rattle.proof_machines.proofs.unit.Words.{from_destination, Unit, split}
use Rattle.std.proofs.lemmas.List.Elements.{filter-append, filter_map-append}
use Rattle.proof_machines.proofs.unit.Machine.{Shut, Asked, Streaming, Holding, Restoring, Returning}
use Rattle.proof_machines.proofs.unit.TableViews.{Follow, event_follows, source_enabled_follows, piece_follows, deleted_follows, restored_follows}
use Rattle.proof_machines.proofs.unit.TableViews.{source_fenced_follows, put_ok_follows, put_no_follows, destination_enabled_follows}
use Rattle.proof_machines.proofs.unit.TableViews.{destination_fenced_follows}
use Rattle.proof_machines.proofs.unit.Real.{Chunks, record_at, chunk_unit, MovePiece, chunks_of, MoveMsg, MovePhase, Op, operation_turn, operation_words}
use Rattle.proof_machines.proofs.unit.Real.{forward_to, operation_from_source, operation_from_destination, put_back, Frame, where_true, see, sends_to, seen}
use Rattle.proof_machines.proofs.unit.Real.{add, view, only_mine, see_phase, sent_for, Sees}

-- chunks at a unit
pub record_at-append : {R : Type 0} (u : Unit) (x y : Chunks R) → record_at u (x ++ y) ≡ or_own (record_at u x) (record_at u y)
record_at-append u [] y = refl
record_at-append u (c ∷ x) y =
    split (same_unit u c.0) (λ b. (if b then Some c.1 else record_at u (x ++ y)) ≡ or_own (if b then Some c.1 else record_at u x) (record_at u y)) (λ _. refl)
    (λ _. record_at-append u x y)

pub is_among-units : {R : Type 0} (u : Unit) (x : Chunks R) → is_among (map chunk_unit x) u ≡ is_some (record_at u x)
is_among-units u [] = refl
is_among-units u (c ∷ x) =
    split (same_unit u c.0) (λ b. (b || is_among (map chunk_unit x) u) ≡ is_some (if b then Some c.1 else record_at u x)) (λ _. refl)
    (λ _. is_among-units u x)

pub record_at-pieces : {R : Type 0} (v : Frame) (ps : List (MovePiece R)) → record_at v.unit (chunks_of ps) ≡ pick (map (see v) ps)
record_at-pieces v [] = refl
record_at-pieces v (p ∷ ps) = record_at-append v.unit p.chunks (chunks_of ps) ∙ ap (λ z. or_own (record_at v.unit p.chunks) z) (record_at-pieces v ps)

pub sent_for-append : {M : Type 0} (r : ℕ) (x y : List (ℕ × M)) → sent_for r (x ++ y) ≡ sent_for r x ++ sent_for r y
sent_for-append r [] y = refl
sent_for-append r (m ∷ x) y =
    split (m.0 == r) (λ b. (if b then m.1 ∷ sent_for r (x ++ y) else sent_for r (x ++ y)) ≡ (if b then m.1 ∷ sent_for r x else sent_for r x) ++ sent_for r y)
    (λ _. ap (λ z. m.1 ∷ z) (sent_for-append r x y)) (λ _. sent_for-append r x y)

-- many messages to one receiver
all_to : {M X : Type 0} (r s : ℕ) (g : X → M) (xs : List X) → (s == r) ≡ true → sent_for r (map (λ x. (s, g x)) xs) ≡ map g xs
all_to r s g [] e = refl
all_to r s g (x ∷ xs) e = rw e (ap (λ z. g x ∷ z) (all_to r s g xs e))

none_to : {M X : Type 0} (r s : ℕ) (g : X → M) (xs : List X) → (s == r) ≡ false → sent_for r (map (λ x. (s, g x)) xs) ≡ []
none_to r s g [] e = refl
none_to r s g (x ∷ xs) e = rw e (none_to r s g xs e)

-- the nodes of a move are apart
pub record NodesDiffer (o : Op) : Type 0 where
  pub num : (o.num == o.num) ≡ true
  pub src : (o.src == o.src) ≡ true
  pub dst : (o.dst == o.dst) ≡ true
  pub src_dst : (o.src == o.dst) ≡ false
  pub dst_src : (o.dst == o.src) ≡ false
  pub src_0 : (o.src == 0) ≡ false
  pub dst_0 : (o.dst == 0) ≡ false
  pub 0_src : (0 == o.src) ≡ false
  pub 0_dst : (0 == o.dst) ≡ false

abbrev pub frame_of : Op → (ℕ → Bool) → Unit → Frame
frame_of o mine u = record { mine = mine; unit = u; move = o.num; from = o.src; to = o.dst }

-- items and messages at a type
abbrev forward_item : {R : Type 0} → ℕ → Where → Item R
forward_item p w = Forward w p

abbrev forward_message : {R : Type 0} → ℕ → ℕ → MoveMsg R
forward_message to p = MoveMsg.Forward p to

abbrev put_message : {R : Type 0} → ℕ → MovePiece R → MoveMsg R
put_message n p = MoveMsg.Put n p false

module _ (o : Op) (mine : ℕ → Bool) (u : Unit) where
  abbrev v : Frame
  v = frame_of o mine u

  module _ {R : Type 0} (t : NodesDiffer o) where
    view_puts : (removed : List (MovePiece R)) → view v (map (put_message o.num) removed) ≡ map next (map (see v) removed)
    view_puts [] = refl
    view_puts (p ∷ removed) = let n = t.num in rw n (ap (λ z. next (see v p) ∷ z) (view_puts removed))

    view_forwards : (to : ℕ) (w : Where) → ((p : ℕ) → sends_to v to (forward_item {R = R} p) ≡ forward_item p w) → (f : List ℕ)
        → view v (map (forward_message {R = R} to) f) ≡ map (λ p. forward_item p w) (only_mine v f)
    view_forwards to w is [] = refl
    view_forwards to w is (p ∷ f) =
        split (mine p) (λ c. add (where_true c (sends_to v to (forward_item {R = R} p))) (view v (map (forward_message {R = R} to) f))
        ≡ map (λ p. forward_item p w) (if c then p ∷ only_mine v f else only_mine v f))
        (λ _. ap (λ x. x ∷ view v (map (forward_message {R = R} to) f)) (is p) ∙ ap (λ z. forward_item p w ∷ z) (view_forwards to w is f))
        (λ _. view_forwards to w is f)

    -- nothing is sent
    pub quiet : (phase : MovePhase R) (f : List ℕ) → Sees v (record { phase = phase; store = f; sends = [] }) (goes (see_phase v phase) (only_mine v f))
    quiet phase f = record { phase = refl; store = refl; to_a = refl; to_b = refl; to_s = refl; others = λ j fj tj zj. refl }

    -- one message alone, to the source, to the destination or to the switch
    to_source : (phase : MovePhase R) (f : List ℕ) (m : MoveMsg R) (x : Item R) → seen v m ≡ Some x → Sees v
        (operation_turn phase f ((o.src, m) ∷ [])) (record (goes (see_phase v phase) (only_mine v f)) { to_a = x ∷ [] })
    to_source phase f m x e =
        let a = t.src in
        let b = t.src_dst in
        let c = t.src_0 in record { phase = refl; store = refl; to_a = rw (a, e) refl; to_b = rw b refl; to_s = rw c refl; others = λ j fj tj zj. rw fj refl }

    to_dest : (phase : MovePhase R) (f : List ℕ) (m : MoveMsg R) (x : Item R) → seen v m ≡ Some x → Sees v
        (operation_turn phase f ((o.dst, m) ∷ [])) (record (goes (see_phase v phase) (only_mine v f)) { to_b = x ∷ [] })
    to_dest phase f m x e =
        let a = t.dst in
        let b = t.dst_src in
        let c = t.dst_0 in record { phase = refl; store = refl; to_a = rw b refl; to_b = rw (a, e) refl; to_s = rw c refl; others = λ j fj tj zj. rw tj refl }

    to_switch : (phase : MovePhase R) (f : List ℕ) (m : MoveMsg R) (x : Item R) → seen v m ≡ Some x → Sees v
        (operation_turn phase f ((0, m) ∷ [])) (record (goes (see_phase v phase) (only_mine v f)) { to_s = x ∷ [] })
    to_switch phase f m x e =
        let b = t.0_dst in record { phase = refl; store = refl; to_a = rw t.0_src refl; to_b = rw b refl; to_s = rw e refl; others = λ j fj tj zj. rw zj refl }

    by_num : (x : Item R) → where_true (o.num == o.num) x ≡ Some x
    by_num x = let n = t.num in rw n refl

    -- the stored packets go to a side, and a message to the switch after them
    sent_on : (phase : MovePhase R) (f : List ℕ) (to : ℕ) (w : Where) (m : MoveMsg R) (x : Item R) → seen v m ≡ Some x
        → view v (map (forward_message {R = R} to) f) ≡ map (λ p. forward_item p w) (only_mine v f)
        → Sees v (operation_turn phase f (map (forward_to to) f ++ (0, m) ∷ []))
        (record (goes (see_phase v phase) (only_mine v f)) { to_s = map (λ p. forward_item p w) (only_mine v f) ++ x ∷ [] })
    sent_on phase f to w m x e forwards =
        let tail : List (ℕ × MoveMsg R) = (0, m) ∷ [] in
        let none : (r : ℕ) → (0 == r) ≡ false → view v (sent_for r (map (forward_to to) f ++ tail)) ≡ [] = λ r off.
        ap (view v) (sent_for-append r (map (forward_to to) f) tail ∙ ap (λ z. z ++ sent_for r tail) (none_to r 0 (forward_message to) f off)) ∙ rw off refl in
        record {
          phase = refl;
          store = refl;
          to_a = none o.src t.0_src;
          to_b = none o.dst t.0_dst;
          to_s = ap (view v) (sent_for-append 0 (map (forward_to to) f) tail ∙ ap (λ z. z ++ sent_for 0 tail) (all_to 0 0 (forward_message to) f refl))
              ∙ filter_map-append _ (map (forward_message to) f) (m ∷ []) ∙ ap (λ z. z ++ view v (m ∷ [])) forwards ∙ rw e refl;
          others = λ j fj tj zj. none j zj;
        }

    -- each word of the network's table is seen as the machine's
    follows : (keep : Bool) (f : List ℕ) → Follow (operation_words {R = R} o f) (words keep (only_mine v f)) f (only_mine v f)
        (see v) Ended (Sees v) (Sees v)
    follows keep f =
        let a = t.dst_src in let b = t.dst in let n = t.num in let s = t.src in
        record {
          last = λ c. refl;
          done = refl;
          nothing = λ phase. quiet phase f;
          stream = to_source (Streaming [] [] false Shut) f (MoveMsg.Stream o.num) Stream (by_num Stream);
          restore = λ why ps. to_source (Restoring why) f (MoveMsg.Restore o.num (chunks_of ps)) (Restore (pick (map (see v) ps)))
              (by_num (Restore (record_at u (chunks_of ps))) ∙ ap (λ r. Some (Restore r)) (record_at-pieces v ps));
          hold_at_source = λ why. to_source (Returning why) f (MoveMsg.Enable o.num Buffers) (Enable Buffers) (by_num (Enable Buffers));
          ask = λ to_remove removed came p. to_dest (Streaming to_remove removed came (Asked p.last)) f (MoveMsg.Put o.num p true) (Put (see v p) true)
              (by_num (Put (see v p) true));
          put = λ to_remove removed came. record {
            phase = refl;
            store = refl;
            to_a = ap (view v) (none_to o.src o.dst (put_message o.num) removed t.dst_src);
            to_b = ap (view v) (all_to o.dst o.dst (put_message o.num) removed t.dst) ∙ view_puts removed;
            to_s = ap (view v) (none_to 0 o.dst (put_message o.num) removed t.dst_0);
            others = λ j fj tj zj. ap (view v) (none_to j o.dst (put_message o.num) removed tj);
          };
          hold_at_destination = to_dest Holding f (MoveMsg.Enable o.num Buffers) (Enable Buffers) (by_num (Enable Buffers));
          release = sent_on Passing f o.dst At_b (MoveMsg.Install o.num o.src o.dst) Install (rw (n, s, b) refl)
              (view_forwards o.dst At_b (λ p. rw (a, b) refl) f);
          give_back = λ why. sent_on (Undoing why) f o.src At_a (MoveMsg.Fence_to o.num o.src) (Fence_to At_a) (rw (n, s) refl)
              (view_forwards o.src At_a (λ p. rw s refl) f);
          fence = to_switch Ending f (MoveMsg.Fence_to o.num o.dst) (Fence_to At_b) (rw (a, b) (by_num (Fence_to At_b)));
          keeps = λ sees. sees;
          empties = λ sees. record { phase = sees.phase; store = refl; to_a = sees.to_a; to_b = sees.to_b; to_s = sees.to_s; others = sees.others };
        }

    event_mine : (phase : MovePhase R) (f : List ℕ) (p : ℕ) → mine p ≡ true → Sees v (on_event (operation_words o f) phase f p)
        (on_event (words true (only_mine v f)) (see_phase v phase) (only_mine v f) p)
    event_mine phase f p is =
        let a = t.dst_src in let b = t.dst in
        let e = filter-append mine f (p ∷ []) in
        event_follows (follows true f) p p (to_switch Passing f (MoveMsg.Forward p o.dst) (Forward At_b p) (rw (is, a, b) refl))
        (λ n m sees. record { phase = sees.phase; store = rw (e, is) refl; to_a = sees.to_a; to_b = sees.to_b; to_s = sees.to_s; others = sees.others }) phase

    event_other : (phase : MovePhase R) (f : List ℕ) (p : ℕ) → mine p ≡ false
        → Sees v (on_event (operation_words o f) phase f p) (goes (see_phase v phase) (only_mine v f))
    event_other Passing f p off =
        let a = t.0_src in
        let b = t.0_dst in record { phase = refl; store = refl; to_a = rw a refl; to_b = rw b refl; to_s = rw off refl; others = λ j fj tj zj. rw zj refl }
    event_other phase f p off =
        record {
          phase = refl;
          store = rw (filter-append mine f (p ∷ []), off) (append-nil (only_mine v f));
          to_a = refl;
          to_b = refl;
          to_s = refl;
          others = λ j fj tj zj. refl;
        }

    piece_seen : (phase : MovePhase R) (f : List ℕ) (p : MovePiece R) → Sees v (on_piece (operation_words o f) phase p)
        (on_piece (words true (only_mine v f)) (see_phase v phase) (see v p))
    piece_seen phase f p =
        let n = t.num in let h = is_among-units u p.chunks in
        piece_follows (follows true f) p refl refl (λ ph. to_source ph f (MoveMsg.Delete o.num (map chunk_unit p.chunks))
        (Delete (is_some (record_at u p.chunks))) (rw (n, h) refl)) phase

    -- what the machine's controller does on what the unit sees of a message
    abbrev pub did_a : MovePhase R → List ℕ → Option (Item R) → ControllerTurn R
    did_a phase f None = goes (see_phase v phase) (only_mine v f)
    did_a phase f (Some x) = from_source (see_phase v phase) (only_mine v f) x

    abbrev pub did_b : MovePhase R → List ℕ → Option (Item R) → ControllerTurn R
    did_b phase f None = goes (see_phase v phase) (only_mine v f)
    did_b phase f (Some x) = from_destination o.keep (see_phase v phase) (only_mine v f) x

    -- a message that a move takes from an instance has its number
    abbrev pub Numbered : MoveMsg R → Type 0
    Numbered (MoveMsg.Event n p) = Prim.Unit {0}
    Numbered (MoveMsg.Enabled n) = n ≡ o.num
    Numbered (MoveMsg.Piece n p) = n ≡ o.num
    Numbered (MoveMsg.Deleted n) = n ≡ o.num
    Numbered (MoveMsg.Restored n) = n ≡ o.num
    Numbered (MoveMsg.Fenced n) = n ≡ o.num
    Numbered (MoveMsg.Put_ok n) = n ≡ o.num
    Numbered (MoveMsg.Put_no n why cs) = n ≡ o.num
    Numbered m = ⊥

    pub from_source_seen : (phase : MovePhase R) (f : List ℕ) (m : MoveMsg R) → Numbered m
        → Sees v (operation_from_source o phase f m) (did_a phase f (seen v m))
    from_source_seen phase f (MoveMsg.Event n p) h =
        split (mine p) (λ b. Sees v (on_event (operation_words o f) phase f p) (did_a phase f (where_true b (Event p)))) (λ is. event_mine phase f p is)
        (λ off. event_other phase f p off)
    from_source_seen phase f (MoveMsg.Enabled n) h = let e = by_num Enabled in rw (h, e) (source_enabled_follows (follows true f) phase)
    from_source_seen phase f (MoveMsg.Piece n p) h = let e = by_num (Piece (see v p)) in rw (h, e) (piece_seen phase f p)
    from_source_seen phase f (MoveMsg.Deleted n) h = let e = by_num Deleted in rw (h, e) (deleted_follows (follows true f) phase)
    from_source_seen phase f (MoveMsg.Restored n) h = let e = by_num Restored in rw (h, e) (restored_follows (follows true f) phase)
    from_source_seen phase f (MoveMsg.Fenced n) h = let e = by_num Fenced in rw (h, e) (source_fenced_follows (follows true f) phase (λ why is. refl))
    from_source_seen phase f (MoveMsg.Put_ok n) h = let e = by_num Put_ok in rw (h, e) (quiet phase f)
    from_source_seen phase f (MoveMsg.Put_no n why cs) h = let e = by_num (Put_no why (record_at u cs)) in rw (h, e) (quiet phase f)
    from_source_seen phase f m h = absurd h

    pub from_destination_seen : (phase : MovePhase R) (f : List ℕ) (m : MoveMsg R) → Numbered m
        → Sees v (operation_from_destination o phase f m) (did_b phase f (seen v m))
    from_destination_seen phase f (MoveMsg.Event n p) h =
        split (mine p) (λ b. Sees v (operation_turn phase f []) (did_b phase f (where_true b (Event p)))) (λ _. quiet phase f) (λ _. quiet phase f)
    from_destination_seen phase f (MoveMsg.Enabled n) h = let e = by_num Enabled in rw (h, e) (destination_enabled_follows (follows o.keep f) phase)
    from_destination_seen phase f (MoveMsg.Piece n p) h = let e = by_num (Piece (see v p)) in rw (h, e) (quiet phase f)
    from_destination_seen phase f (MoveMsg.Deleted n) h = let e = by_num Deleted in rw (h, e) (quiet phase f)
    from_destination_seen phase f (MoveMsg.Restored n) h = let e = by_num Restored in rw (h, e) (quiet phase f)
    from_destination_seen phase f (MoveMsg.Fenced n) h = let e = by_num Fenced in rw (h, e) (destination_fenced_follows (follows o.keep f) phase)
    from_destination_seen phase f (MoveMsg.Put_ok n) h = let e = by_num Put_ok in rw (h, e) (put_ok_follows (follows o.keep f) refl phase)
    from_destination_seen phase f (MoveMsg.Put_no n why cs) h = let e = by_num (Put_no why (record_at u cs)) in
        rw (h, e) (put_no_follows (follows o.keep f) why (put_back cs) (part_back (record_at u cs)) (λ last. refl) phase)
    from_destination_seen phase f m h = absurd h
