-- No chunk on its way is one of a unit under a share. A record that a member gives, or that the home is told to take, is one of the unit where the unit
-- sees it so.
use Rattle.nf_net.proofs.Words.{◌≡◌, ◌≢◌, ℕ, zero, suc, ◌<◌, Bool, true, false, Option, Some, None, List, [], ◌∷◌, ◌++◌, map, refl, sym, ap, ◌∙◌, subst, arith}
use Rattle.nf_net.proofs.Words.{if◌then◌else◌, ◌==◌, ◌&&◌, ◌||◌, is_some, option_map, option_to_list, filter_map, flat_map, list_any-append, or_right, or_left}
use Rattle.nf_net.proofs.Words.{RealChunk, Semantics, same_unit, is_among, stored_of, Order, Msg, units_in, Operation, Move, Copy, Share, on_link, EachOn}
use Rattle.nf_net.proofs.Words.{Frame, record_at, where_true, add, MoveMsg, see_phase, View, Open, MoveAsked, find_op, each_found, frame, RestOp, share_seen}
use Rattle.nf_net.proofs.Words.{share_expect, Any, New, ShareAsked, ShareMsg, Shared_on, SeeingShare, seeing, Node, Switch, on_links, chunks_in, kept_for}
use Rattle.nf_net.proofs.Words.{kept_by, spelled_of, Sees, units_same, entries, want_of, but_shares, asked_of, want_share_of, Given, place, S, A, shown, Label}
use Rattle.nf_net.proofs.Words.{node_of, given, Unit, Mark, Target}
use Rattle.std.specs.FinMap as finite
use Rattle.proof_machines.proofs.unit.Real.{chunk_unit}
use Rattle.proof_machines.proofs.share.Share.{Item, Item.Carry, Item.Fence, Item.Shared, Item.Diverted, Item.Install, Item.Forward, Item.Get, Item.Sync}
use Rattle.proof_machines.proofs.share.Share.{Item.Fenced, Item.Chunks, Item.Chunk, Item.Synced, Item.Stray}
use Rattle.proof_machines.proofs.net.Net as net
use Rattle.proof_machines.proofs.net.Shares.{Old, Diverted_on}
use Rattle.net_world.specs.Records as records
use Rattle.nf_net.proofs.paths.ChunkLemmas.{as_spelled, spelled-append, spelled-all, good_spelled, good_units}
use Rattle.nf_net.proofs.paths.ChunkPlaces.{phase_spelled, none_kept}
use Rattle.nf_net.proofs.paths.ChunkSums.{kept_records}
use Rattle.nf_net.proofs.paths.PathNodes.{map_of}
use Rattle.nf_net.proofs.RunWords.{labels, on_each, one_at, no_link, Reached, IsUnder}
use Rattle.nf_net.proofs.paths.SharedLinks.{item_of, IsKnown, AreKnown, first_known, view, seen_more}
use Rattle.nf_net.proofs.paths.SharedPlaces.{v, link_known, link_view}

module _ {R : Type 0} (f : Semantics R) (g : Given) (z : SeeingShare) where
  abbrev u : Unit
  u = z.unit

  -- a message has no chunk of the unit
  none_spelled : (cs : List (RealChunk)) → spelled_of f u cs ≡ as_spelled u (option_to_list (record_at u (entries f cs)))
      → record_at u (entries f cs) ≡ None → spelled_of f u cs ≡ []
  none_spelled cs is none = is ∙ ap (λ o. as_spelled u (option_to_list o)) none

  msg_nothing : (s r : ℕ) (m : Msg) → Label f g s r m → IsKnown f g z s r (shown f g m) → spelled_of f u (chunks_in m) ≡ []
  msg_nothing s r (Msg.Piece op piece) l k = none_spelled piece.chunks (good_spelled f g u piece.chunks l.1.good) k.1
  msg_nothing s r (Msg.Put op piece first) l k = none_spelled piece.chunks (good_spelled f g u piece.chunks l.1.good) k.1
  msg_nothing s r (Msg.Restore op chunks) l k = none_spelled chunks (good_spelled f g u chunks l.1) k.1
  msg_nothing s r (Msg.PutNo op refused) l k = none_spelled refused.chunks (good_spelled f g u refused.chunks l.1) k.1
  msg_nothing s r m l k = refl

  -- What is seen as a record: one that a member gives, or one to take.
  pub data IsSource (a : Any R) (it : Item R) : Type 0 where
    Gives : (n : ℕ) (entry : Unit × R) → a ≡ New (ShareMsg.Shared n entry) → it ≡ Chunk (record_at u (entry ∷ [])) → IsSource a it
    Takes : (n : ℕ) (home : Bool) (cs : List (Unit × R)) → a ≡ New (ShareMsg.Sync n home cs) → it ≡ Sync (record_at u cs) → IsSource a it

  abbrev is_record : Item R → Bool
  is_record (Chunk o) = true
  is_record (Sync o) = true
  is_record it = false

  other : {X : Type 0} (it it' : Item R) → is_record it ≡ false → is_record it' ≡ true → it ≡ it' → X
  other it it' off on same = let never : false ≡ true = sym off ∙ ap is_record same ∙ on in cc

  -- an item that isn't what is seen
  unlike : {X : Type 0} (b : Bool) (it it' : Item R) → (it ≡ it' → X) → where_true b it ≡ Some it' → X
  unlike true it it' off e = off (let same_item : it ≡ it' = cc in same_item)
  unlike false it it' off e = cc

  unfit : {X : Type 0} (b : Bool) (it it' : Item R) → (it ≡ it' → X) → (Stray ≡ it' → X) → (if b then it else Stray) ≡ it' → X
  unfit true it it' off stray e = off e
  unfit false it it' off stray e = stray e

  numbered : {X : Type 0} (b mine : Bool) (it it' : Item R) → (it ≡ it' → X) → (Stray ≡ it' → X) → (if b then Some it else where_true mine Stray) ≡ Some it' → X
  numbered true mine it it' off stray e = off (let same_item : it ≡ it' = cc in same_item)
  numbered false mine it it' off stray e = unlike mine Stray it' stray e

  old_source : (r : ℕ) (m : net.Msg R) (it : Item R) → is_record it ≡ true → share_seen (S f g) (A f g) z r (Old m) ≡ Some it → IsSource (Old m) it
  old_source r (net.Carry_on p) it on e = unlike _ (Carry p) it (other (Carry p) it refl on) e
  old_source r (net.Pass_on p) it on e = unlike _ Stray it (other Stray it refl on) e
  old_source r (net.Fence_on n) it on e = unlike _ Fence it (other Fence it refl on) e
  old_source r (net.Of_move h (MoveMsg.Fenced n)) it on e = unlike _ Fenced it (other Fenced it refl on) e
  old_source r (net.Of_move h (MoveMsg.Install n from to)) it on e = unlike _ Stray it (other Stray it refl on) e
  old_source r (net.Of_move h (MoveMsg.Fence_to n to)) it on e = unlike _ Stray it (other Stray it refl on) e
  old_source r (net.Of_move h m) it on e = cc
  old_source r (net.In_packet p) it on e = cc
  old_source r (net.Asked x) it on e = cc

  source : (r : ℕ) (a : Any R) (it : Item R) → is_record it ≡ true → share_seen (S f g) (A f g) z r a ≡ Some it → IsSource a it
  source r (Old m) it on e = old_source r m it on e
  source r (New (Shared_on n home p)) it on e =
      numbered _ _ _ it (λ q. unfit _ (Shared p) it (other (Shared p) it refl on) (other Stray it refl on) q) (other Stray it refl on) e
  source r (New (Diverted_on p)) it on e = numbered _ _ (Diverted p) it (other (Diverted p) it refl on) (other Stray it refl on) e
  source r (New (ShareMsg.Asked x)) it on e = cc
  source r (New (ShareMsg.Install n h from)) it on e = unlike _ _ it (λ q. unfit _ Install it (other Install it refl on) (other Stray it refl on) q) e
  source r (New (ShareMsg.Forward n home p to)) it on e =
      numbered _ _ _ it (λ q. unfit _ (Forward p to) it (other (Forward p to) it refl on) (other Stray it refl on) q) (other Stray it refl on) e
  source r (New (ShareMsg.Get n h)) it on e = unlike _ Get it (other Get it refl on) e
  source r (New (ShareMsg.Sync n home cs)) it on e =
      unlike _ _ it (λ q. unfit _ (Sync (record_at u cs)) it (λ t. Takes n home cs refl (sym t)) (other Stray it refl on) q) e
  source r (New (ShareMsg.Chunks n cs)) it on e = unlike _ (Chunks (record_at u cs)) it (other (Chunks (record_at u cs)) it refl on) e
  source r (New (ShareMsg.Shared n entry)) it on e = unlike _ (Chunk (record_at u (entry ∷ []))) it (λ q. Gives n entry refl (sym q)) e
  source r (New (ShareMsg.Synced n)) it on e = unlike _ Synced it (other Synced it refl on) e

  -- The messages that are seen so.
  asked_none : (op : ℕ) (what : Order) (a : ShareMsg R) (kept : (want : ShareAsked) → New a ≡ New (ShareMsg.Asked want) → ⊥)
      → asked_of f (place g) op what ≡ Some (New a) → ⊥
  asked_none op (Order.Move src dst filter keep) a kept e = by_want (want_of (place g) op (Order.Move src dst filter keep)) e
    where
      by_want : (o : Option MoveAsked) → option_map (λ want. Old (net.Asked want)) o ≡ Some (New a) → ⊥
      by_want None q = cc
      by_want (Some x) q = cc
  asked_none op (Order.Copy src dst filter) a kept e = cc
  asked_none op (Order.Share members filter) a kept e = by_want (want_share_of (place g) op (Order.Share members filter)) e
    where
      by_want : (o : Option ShareAsked) → option_map (λ want. New (ShareMsg.Asked want)) o ≡ Some (New a) → ⊥
      by_want None q = cc
      by_want (Some x) q = kept x (let same_message : New (ShareMsg.Asked x) ≡ New a = cc in sym same_message)

  real_gives : (s r : ℕ) (m : Msg) → Label f g s r m → (n : ℕ) (entry : Unit × R) (kept : R) → shown f g m ≡ Some (New (ShareMsg.Shared n entry))
      → record_at u (entry ∷ []) ≡ Some kept → is_among (records.shared_in m) u ≡ true
  real_gives s r (Msg.Shared op chunk) l n entry kept e own =
      let good = l.1.chunk in
      let seen : shown f g (Msg.Shared op chunk) ≡ Some (New (ShareMsg.Shared op good.entry)) = ap (option_map (λ y. New (ShareMsg.Shared op y))) good.spells in
      let both : Some (New (ShareMsg.Shared op good.entry)) ≡ Some (New (ShareMsg.Shared n entry)) = sym seen ∙ e in
      let same_entry : good.entry ≡ entry = cc in
      let all : entries f (chunk ∷ []) ≡ good.entry ∷ [] = rw good.spells refl in
      let named : units_in (chunk ∷ []) ≡ entry.0 ∷ [] = units_same f (place g) (chunk ∷ []) (good, tt)
      ∙ ap (λ es. map chunk_unit es) (all ∙ ap (λ y. y ∷ []) same_entry) in
      ap (λ us. is_among us u) named ∙ by_test (same_unit u entry.0) own
    where
      by_test : (b : Bool) → (if b then Some entry.1 else None) ≡ Some kept → b || false ≡ true
      by_test true q = refl
      by_test false q = cc
  real_gives s r (Msg.Asked c) l n entry kept e own = absurd (asked_none c.op c.what (ShareMsg.Shared n entry) (λ want q. cc) e)
  real_gives s r (Msg.Carry Mark.Plain cell) l n entry kept e own = cc
  real_gives s r (Msg.Carry (Mark.Pass op) cell) l n entry kept e own = cc
  real_gives s r (Msg.Carry (Mark.Shared op home) cell) l n entry kept e own = cc
  real_gives s r (Msg.Forward to Mark.Plain cell) l n entry kept e own = cc
  real_gives s r (Msg.Forward to (Mark.Pass op) cell) l n entry kept e own = cc
  real_gives s r (Msg.Forward to (Mark.Shared op home) cell) l n entry kept e own = cc
  real_gives s r (Msg.Install op filter from Target.Controller) l n entry kept e own = cc
  real_gives s r (Msg.Install op filter from (Target.Instance to)) l n entry kept e own = cc
  real_gives s r m l n entry kept e own = cc

  real_takes : (s r : ℕ) (m : Msg) → Label f g s r m → (n : ℕ) (home : Bool) (cs : List (Unit × R)) (kept : R)
      → shown f g m ≡ Some (New (ShareMsg.Sync n home cs)) → record_at u cs ≡ Some kept → is_among (records.synced_in m) u ≡ true
  real_takes s r (Msg.Sync home op chunks) l n flag cs kept e own =
      let same_chunks : entries f chunks ≡ cs = cc in
      good_units f g u chunks l.1 ∙ ap is_some (ap (record_at u) same_chunks ∙ own)
  real_takes s r (Msg.Shared op chunk) l n flag cs kept e own =
      let seen : shown f g (Msg.Shared op chunk) ≡ Some (New (ShareMsg.Shared op l.1.chunk.entry)) =
      ap (option_map (λ y. New (ShareMsg.Shared op y))) l.1.chunk.spells in
      let both : Some (New (ShareMsg.Shared op l.1.chunk.entry)) ≡ Some (New (ShareMsg.Sync n flag cs)) = sym seen ∙ e in
      cc
  real_takes s r (Msg.Asked c) l n flag cs kept e own = absurd (asked_none c.op c.what (ShareMsg.Sync n flag cs) (λ want q. cc) e)
  real_takes s r (Msg.Carry Mark.Plain cell) l n flag cs kept e own = cc
  real_takes s r (Msg.Carry (Mark.Pass op) cell) l n flag cs kept e own = cc
  real_takes s r (Msg.Carry (Mark.Shared op home) cell) l n flag cs kept e own = cc
  real_takes s r (Msg.Forward to Mark.Plain cell) l n flag cs kept e own = cc
  real_takes s r (Msg.Forward to (Mark.Pass op) cell) l n flag cs kept e own = cc
  real_takes s r (Msg.Forward to (Mark.Shared op home) cell) l n flag cs kept e own = cc
  real_takes s r (Msg.Install op filter from Target.Controller) l n flag cs kept e own = cc
  real_takes s r (Msg.Install op filter from (Target.Instance to)) l n flag cs kept e own = cc
  real_takes s r m l n flag cs kept e own = cc

  -- The unit is among those of a link on which the unit sees such an item alone.
  module _ (covered : (S f g).takes z.filter z.unit ≡ true) (s r : ℕ) (of : Msg → List Unit) (it : Item R)
      (on : is_record it ≡ true)
      (tells : (m : Msg) → Label f g s r m → (a : Any R) → shown f g m ≡ Some a → IsSource a it → is_among (of m) u ≡ true) where
    tells_it : (m : Msg) → Label f g s r m → (o : Option (Any R)) → shown f g m ≡ o → item_of f g z r o ≡ Some it → is_among (of m) u ≡ true
    tells_it m l None is q = cc
    tells_it m l (Some a) is q = tells m l a is (source r a it on q)

    pub among : (ms : List Msg) → EachOn (Label f g s r) ms → view f g z covered r ms ≡ it ∷ [] → is_among (flat_map of ms) u ≡ true
    among [] h e = cc
    among (m ∷ ms) h e = list_any-append (same_unit u) (of m) (flat_map of ms)
        ∙ by_item (λ rest. among ms h.1 rest) (item_of f g z r (shown f g m)) refl (sym (seen_more f g z covered r m ms) ∙ e)
      where
        by_item : (view f g z covered r ms ≡ it ∷ [] → is_among (flat_map of ms) u ≡ true) → (o : Option (Item R)) → item_of f g z r (shown f g m) ≡ o
            → add o (view f g z covered r ms) ≡ it ∷ [] → is_among (of m) u || is_among (flat_map of ms) u ≡ true
        by_item later None is rest = or_right (is_among (of m) u) (is_among (flat_map of ms) u) (later rest)
        by_item later (Some other) is rest =
            let same_item : other ≡ it = cc in
            or_left (is_among (of m) u) (is_among (flat_map of ms) u) (tells_it m h.0 (shown f g m) refl (is ∙ ap Some same_item))

  tells_given : (s r : ℕ) (kept : R) (m : Msg) → Label f g s r m → (a : Any R) → shown f g m ≡ Some a → IsSource a (Chunk (Some kept))
      → is_among (records.shared_in m) u ≡ true
  tells_given s r kept m l a is (Gives n entry same own) = real_gives s r m l n entry kept (is ∙ ap Some same) cc
  tells_given s r kept m l a is (Takes n home cs same own) = cc

  tells_taken : (s r : ℕ) (kept : R) (m : Msg) → Label f g s r m → (a : Any R) → shown f g m ≡ Some a → IsSource a (Sync (Some kept))
      → is_among (records.synced_in m) u ≡ true
  tells_taken s r kept m l a is (Gives n entry same own) = cc
  tells_taken s r kept m l a is (Takes n home cs same own) = real_takes s r m l n home cs kept (is ∙ ap Some same) cc

-- In a world.
module _ {F R : Type 0} (here : Reached F R) (u : Unit) (x : ShareAsked) (before since : List ℕ) (k : IsUnder here u x before since) where
  open here use {setting, n, count, w, nodes, j, world}
  open setting use {function as f}

  abbrev g : Given
  g = given setting

  abbrev z : SeeingShare
  z = seeing (S f g) (A f g) u x

  abbrev its_view : View R
  its_view = v here u x before since k

  -- a record that a member gives, and one that the home is to take
  module _ (s r : ℕ) (hs : s < n) (hr : r < n) (off : (s == 0) && (r == 0) ≡ false) (kept : R) where
    on_labels : EachOn (Label f g s r) (on_link w s r)
    on_labels = labels here s r hs hr off

    shows : (it : Item R) → share_expect its_view s r ≡ it ∷ [] → view f g z k.covered r (on_link w s r) ≡ it ∷ []
    shows it e = link_view here u x before since k s r hs hr off ∙ e

    pub given_on : share_expect its_view s r ≡ Chunk (Some kept) ∷ [] → is_among (flat_map records.shared_in (on_link w s r)) u ≡ true
    given_on e =
        among f g z k.covered s r records.shared_in (Chunk (Some kept)) refl (tells_given f g z s r kept) (on_link w s r) on_labels
        (shows (Chunk (Some kept)) e)

    pub taken_on : share_expect its_view s r ≡ Sync (Some kept) ∷ [] → is_among (flat_map records.synced_in (on_link w s r)) u ≡ true
    taken_on e =
        among f g z k.covered s r records.synced_in (Sync (Some kept)) refl (tells_taken f g z s r kept) (on_link w s r) on_labels (shows (Sync (Some kept)) e)

  -- No chunk is on its way.
  none_on_link : (s r : ℕ) (ms : List Msg) → EachOn (Label f g s r) ms → AreKnown f g z k.covered s r (filter_map (shown f g) ms)
      → spelled_of f u (flat_map chunks_in ms) ≡ []
  none_on_link s r [] h a = refl
  none_on_link s r (m ∷ ms) h a =
      let both = first_known f g z k.covered s r (shown f g m) (filter_map (shown f g) ms) a in
      spelled-append f u (chunks_in m) (flat_map chunks_in ms) ∙ rw (msg_nothing f g z s r m h.0 both.0, none_on_link s r ms h.1 both.1) refl

  on_none : (s r : ℕ) → s < n → r < n → spelled_of f u (flat_map chunks_in (on_link w s r)) ≡ []
  on_none s r hs hr = on_each here (λ ms. spelled_of f u (flat_map chunks_in ms) ≡ []) refl s r
      (λ off. none_on_link s r (on_link w s r) (labels here s r hs hr off) (link_known here u x before since k s r hs hr off))

  abbrev got : ℕ → Option Operation
  got q = finite.get j.nodes.controller.operations q

  abbrev kept_at : Option Operation → List (Option (Unit × R))
  kept_at None = []
  kept_at (Some o) = spelled_of f u (kept_for o)

  move_keeps : (q : ℕ) (e : Open R) → find_op j.world.ops q ≡ Some e → (o : Option Operation) → got q ≡ o
      → Sees f (place g) (Some e) (but_shares o) (stored_of j.nodes.controller.store q) → kept_at o ≡ []
  move_keeps q e found None there h = absurd h
  move_keeps q e found (Some (Copy y)) there h = absurd h
  move_keeps q e found (Some (Share s)) there h = absurd h
  move_keeps q e found (Some (Move m)) there h =
      let its = (each_found (RestOp (S f g) u) q j.world.ops e k.ops found).0 in
      let own_frame : Frame = frame (S f g) (record { unit = u; op = e.op; third = 0 }) in
      phase_spelled f g own_frame m.phase (j.shown_is.controller.moves q m there).pieces
      ∙ ap (λ p. as_spelled u (kept_records (see_phase own_frame p))) (sym h.phase)
      ∙ ap (as_spelled u) (none_kept f g own_frame e.phase its.1.0)

  none_keeps : (q : ℕ) (o : Option Operation) → Sees f (place g) None (but_shares o) (stored_of j.nodes.controller.store q) → kept_at o ≡ []
  none_keeps q None h = refl
  none_keeps q (Some (Copy y)) h = refl
  none_keeps q (Some (Move m)) h = absurd h
  none_keeps q (Some (Share s)) h = refl

  kept_none : (q : ℕ) → kept_at (got q) ≡ []
  kept_none q = by_open (find_op j.world.ops q) refl
    where
      sees : (o : Option (Open R)) → find_op j.world.ops q ≡ o → Sees f (place g) o (but_shares (got q)) (stored_of j.nodes.controller.store q)
      sees o found = subst (λ y. Sees f (place g) y (but_shares (got q)) (stored_of j.nodes.controller.store q)) found (j.shown_is.controller.opens q).move

      by_open : (o : Option (Open R)) → find_op j.world.ops q ≡ o → kept_at (got q) ≡ []
      by_open None found = none_keeps q (got q) (sees None found)
      by_open (Some e) found = move_keeps q e found (got q) refl (sees (Some e) found)

  others_keep : (q : ℕ) → q ≢ 1 → spelled_of f u (kept_by (node_of j.nodes q)) ≡ []
  others_keep zero off = refl
  others_keep (suc zero) off = absurd (off refl)
  others_keep (suc (suc q)) off = refl

  all_kept : spelled_of f u (flat_map kept_by w.nodes) ≡ []
  all_kept =
      let d : Node F R = Switch j.nodes.switch in
      let one : 1 < n = omega (arith, count) in
      spelled-all f u kept_by w.nodes
      ∙ one_at (λ y. spelled_of f u (kept_by y)) w.nodes 1 d (rw nodes one)
      (λ i small off. ap (λ y. spelled_of f u (kept_by y)) (j.nodes_are i (rw (← nodes) small) d) ∙ others_keep i off)
      ∙ ap (λ y. spelled_of f u (kept_by y)) (j.nodes_are 1 one d)
      ∙ spelled-all f u (λ e. kept_for e.1) (finite.entries j.nodes.controller.operations)
      ∙ map_of (λ q o. kept_at o) (λ q. refl) 0 j.nodes.controller.operations (λ q off. kept_none q)
      ∙ kept_none 0

  pub none_on_way : records.on_way f w u ≡ []
  none_on_way =
      spelled-append f u (on_links w chunks_in) (flat_map kept_by w.nodes)
      ∙ ap (λ l. l ++ spelled_of f u (flat_map kept_by w.nodes)) (spelled-all f u (flat_map chunks_in) w.links
      ∙ no_link w world.square (λ ms. spelled_of f u (flat_map chunks_in ms)) (λ s r hs hr. on_none s r (rw (← nodes) hs) (rw (← nodes) hr)))
      ∙ all_kept
