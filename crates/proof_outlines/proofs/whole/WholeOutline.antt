-- The outlines of messages with those of shares beside those of moves; and that the real choice of a member and the real records that
-- are set have the laws of the abstract network.
use Rattle.proof_outlines.proofs.Words.{◌≡◌, ℕ, zero, suc, ◌<◌, true, Option, Some, None, List, [], ◌∷◌, length, refl, sym, ap, ◌∙◌, arith, ◌==◌, option_map}
use Rattle.proof_outlines.proofs.Words.{slice_index, filter_map, mod_below, nat_tests, Filter, Flow, Packet, Site, flow_of, place_among, units_total, Semantics}
use Rattle.proof_outlines.proofs.Words.{either, replaced_by, spelled, get-joined, Order, Msg, instance_node, Each, record_at, has, over, Any, Old, New}
use Rattle.proof_outlines.proofs.Words.{ShareAsked, Sharing, IsSharing, olds, as_old, Shared_on, Diverted_on, ShareMsg, by_if, Mark, Target}
use Rattle.std.specs.FinMap as finite
use Rattle.proof_machines.proofs.net.Net as net
use Rattle.proof_outlines.proofs.outline.Outline.{number, want_of, entries, outline, outline_sends, sys}

-- one member more, if it and the others are known
abbrev pub with_member : Option ℕ → Option (List ℕ) → Option (List ℕ)
with_member (Some instance) (Some nodes) = Some (instance_node instance ∷ nodes)
with_member instance nodes = None

-- the nodes of the instances with these names, where all are known
abbrev pub members_of : (List ℕ → Option ℕ) → List (List ℕ) → Option (List ℕ)
members_of place [] = Some []
members_of place (name ∷ names) = with_member (place name) (members_of place names)

-- a share between nodes, the first of which is its home
abbrev pub share_between : ℕ → Filter → Option (List ℕ) → Option ShareAsked
share_between op filter (Some (home ∷ others)) = Some (record { num = op; home = home; members = home ∷ others; filter = filter })
share_between op filter nodes = None

-- the share that a command asks for, by the places of instances' names
abbrev pub want_share_of : (List ℕ → Option ℕ) → ℕ → Order → Option ShareAsked
want_share_of place op (Order.Share members filter) = share_between op filter (members_of place members)
want_share_of place op what = None

module _ {R : Type 0} (f : Semantics R) where
  -- what a command asks for: a move, or a share
  abbrev pub asked_of : (List ℕ → Option ℕ) → ℕ → Order → Option (Any R)
  asked_of place op (Order.Share members filter) = option_map (λ want. New (ShareMsg.Asked want)) (want_share_of place op (Order.Share members filter))
  asked_of place op what = option_map (λ want. Old (net.Asked want)) (want_of place op what)

  -- a message, of a move or of a share; nothing of those that neither looks at
  abbrev pub outline_any : (List ℕ → Option ℕ) → Msg → Option (Any R)
  outline_any place (Msg.Asked c) = asked_of place c.op c.what
  outline_any place (Msg.Carry (Mark.Shared op home) cell) = Some (New (Shared_on op home (number cell)))
  outline_any place (Msg.Diverted cell) = Some (New (Diverted_on (number cell)))
  outline_any place (Msg.Install op filter from Target.Controller) = Some (New (ShareMsg.Install op filter (instance_node from)))
  outline_any place (Msg.Forward to (Mark.Shared op home) cell) = Some (New (ShareMsg.Forward op home (number cell) (instance_node to)))
  outline_any place (Msg.Get op filter) = Some (New (ShareMsg.Get op filter))
  outline_any place (Msg.Sync home op chunks) = Some (New (ShareMsg.Sync op home (entries f chunks)))
  outline_any place (Msg.Chunks op chunks) = Some (New (ShareMsg.Chunks op (entries f chunks)))
  outline_any place (Msg.Shared op chunk) = option_map (λ entry. New (ShareMsg.Shared op entry)) (spelled f chunk)
  outline_any place (Msg.Synced op) = Some (New (ShareMsg.Synced op))
  outline_any place message = option_map Old (outline f place message)

  -- what is sent, each with its receiver
  abbrev pub outline_each : (List ℕ → Option ℕ) → ℕ × Msg → Option (ℕ × Any R)
  outline_each place sent = option_map (λ m. (sent.0, m)) (outline_any place sent.1)

  abbrev pub outline_all : (List ℕ → Option ℕ) → List (ℕ × Msg) → List (ℕ × Any R)
  outline_all place sends = filter_map (outline_each place) sends

  -- what moves see of a message: nothing of a packet that a share forwards
  abbrev pub outline_move : (List ℕ → Option ℕ) → Msg → Option (net.Msg R)
  outline_move place (Msg.Forward to (Mark.Shared op home) cell) = None
  outline_move place message = outline f place message

  -- of a message of either the one of a move
  abbrev pub old_of : Option (Any R) → Option (net.Msg R)
  old_of (Some (Old m)) = Some m
  old_of o = None

  old_is : (o : Option (net.Msg R)) → old_of (option_map Old o) ≡ o
  old_is None = refl
  old_is (Some m) = refl

  new_is : {X : Type 0} (to : X → Any R) → ((x : X) → old_of (Some (to x)) ≡ None) → (o : Option X) → old_of (option_map to o) ≡ None
  new_is to new None = refl
  new_is to new (Some x) = new x

  asked_same : (place : List ℕ → Option ℕ) (op : ℕ) (what : Order) → old_of (asked_of place op what) ≡ option_map net.Asked (want_of place op what)
  asked_same place op (Order.Move src dst filter keep) = mapped (want_of place op (Order.Move src dst filter keep))
    where
      mapped : (o : Option net.MoveAsked) → old_of (option_map (λ want. Old (net.Asked want)) o) ≡ option_map net.Asked o
      mapped None = refl
      mapped (Some want) = refl
  asked_same place op (Order.Copy src dst filter) = refl
  asked_same place op (Order.Share members filter) =
      new_is (λ want. New (ShareMsg.Asked want)) (λ want. refl) (want_share_of place op (Order.Share members filter))

  -- what moves see of a message of either
  pub old_same : (place : List ℕ → Option ℕ) (m : Msg) → old_of (outline_any place m) ≡ outline_move place m
  old_same place (Msg.Asked c) = asked_same place c.op c.what
  old_same place (Msg.Carry Mark.Plain cell) = refl
  old_same place (Msg.Carry (Mark.Pass op) cell) = refl
  old_same place (Msg.Carry (Mark.Shared op home) cell) = refl
  old_same place (Msg.Diverted cell) = refl
  old_same place (Msg.Install op filter from Target.Controller) = refl
  old_same place (Msg.Install op filter from (Target.Instance to)) = refl
  old_same place (Msg.Forward to Mark.Plain cell) = refl
  old_same place (Msg.Forward to (Mark.Pass op) cell) = refl
  old_same place (Msg.Forward to (Mark.Shared op home) cell) = refl
  old_same place (Msg.Get op filter) = refl
  old_same place (Msg.Sync home op chunks) = refl
  old_same place (Msg.Chunks op chunks) = refl
  old_same place (Msg.Shared op chunk) = new_is (λ entry. New (ShareMsg.Shared op entry)) (λ entry. refl) (spelled f chunk)
  old_same place (Msg.Synced op) = refl
  old_same place m = old_is (outline f place m)

  -- what moves see of a link
  pub olds_same : (place : List ℕ → Option ℕ) (ms : List Msg) → olds (filter_map (outline_any place) ms) ≡ filter_map (outline_move place) ms
  olds_same place [] = refl
  olds_same place (m ∷ ms) = by_head (outline_any place m) refl (olds_same place ms)
    where
      by_head : (o : Option (Any R)) → outline_any place m ≡ o → olds (filter_map (outline_any place) ms) ≡ filter_map (outline_move place) ms
          → olds (filter_map (outline_any place) (m ∷ ms)) ≡ filter_map (outline_move place) (m ∷ ms)
      by_head None e rest = let seen : outline_move place m ≡ None = sym (old_same place m) ∙ ap old_of e in rw (e, seen) rest
      by_head (Some (New n)) e rest = let seen : outline_move place m ≡ None = sym (old_same place m) ∙ ap old_of e in rw (e, seen) rest
      by_head (Some (Old n)) e rest = let seen : outline_move place m ≡ Some n = sym (old_same place m) ∙ ap old_of e in rw (e, seen) (ap (λ xs. n ∷ xs) rest)

  -- a message that no share has
  abbrev pub IsUnshared : (List ℕ → Option ℕ) → Msg → Type 0
  IsUnshared place m = outline_any place m ≡ option_map Old (outline f place m)

  abbrev pub AreUnshared : (List ℕ → Option ℕ) → List (ℕ × Msg) → Type 0
  AreUnshared place sends = Each (λ sent. IsUnshared place sent.1) sends

  -- what is sent without a message of a share
  pub unshared_all : (place : List ℕ → Option ℕ) (sends : List (ℕ × Msg)) → AreUnshared place sends
      → outline_all place sends ≡ as_old (outline_sends f place sends)
  unshared_all place [] h = refl
  unshared_all place (s ∷ sends) h = by_seen (outline f place s.1) refl (unshared_all place sends h.1)
    where
      by_seen : (o : Option (net.Msg R)) → outline f place s.1 ≡ o → outline_all place sends ≡ as_old (outline_sends f place sends)
          → outline_all place (s ∷ sends) ≡ as_old (outline_sends f place (s ∷ sends))
      by_seen None e rest = let seen : outline_any place s.1 ≡ None = h.0 ∙ ap (option_map Old) e in rw (seen, e) rest
      by_seen (Some m) e rest =
          let seen : outline_any place s.1 ≡ Some (Old m) = h.0 ∙ ap (option_map Old) e in rw (seen, e) (ap (λ xs. (s.0, Old m) ∷ xs) rest)

-- the member that a flow's packets go to
abbrev pub member_for : List ℕ → Flow → ℕ
member_for members flow = slice_index members (place_among flow (length members))

has_index : (xs : List ℕ) (i : ℕ) → i < length xs → has xs (slice_index xs i) ≡ true
has_index [] i low = absurd (omega (arith, low))
has_index (x ∷ xs) zero low = grind (arith, nat_tests)
has_index (x ∷ xs) (suc i) low = by_if (λ r. r ≡ true) (slice_index xs i == x) refl (has_index xs i (omega (arith, low)))

module _ {R : Type 0} (f : Semantics R) (site : Site) (packet : ℕ → Packet) where
  -- the member of a packet, and records that are set
  abbrev pub sharing : Sharing (sys f site packet)
  sharing = record {
    member = λ members p. member_for members (flow_of site (packet p)).0;
    replace = λ chunks t. replaced_by t (finite.from_entries chunks);
  }

  over_is : (held coming : Option R) → either (λ h c. c) held coming ≡ over coming held
  over_is held None = refl
  over_is None (Some r) = refl
  over_is (Some h) (Some r) = refl

  pub is_sharing : IsSharing (sys f site packet) sharing
  is_sharing = record {
    member_in = λ members p some. has_index members _ (mod_below _ (length members) some);
    replaced = λ u chunks t. get-joined (λ h c. c) t (finite.from_entries chunks) u
        ∙ ap (either (λ h c. c) (finite.get t u)) (finite.get-from_entries units_total chunks u) ∙ over_is (finite.get t u) (record_at u chunks);
  }

  -- the two as they stand in worlds
  abbrev pub S : net.Sys R
  S = sys f site packet

  abbrev pub A : Sharing S
  A = sharing
