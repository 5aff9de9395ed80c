-- What a unit under a share sees of a link is its packets there: the share's packet on its way to a member, plain ones to the home, those that the
-- controller hands on, and those that are diverted. Events have none of it.
use Rattle.nf_net.proofs.Words.{◌≡◌, ℕ, Bool, true, false, Option, Some, None, List, [], ◌∷◌, ◌++◌, refl, sym, ap, ◌∙◌, filter-append, if◌then◌else◌, ◌==◌}
use Rattle.nf_net.proofs.Words.{option_map, cons_option, filter, filter_map, flat_map, Filter, RealChunk, Semantics, spelled, same_unit-true, FullCell, Target}
use Rattle.nf_net.proofs.Words.{Command, Order, Msg, instance_node, record_at, where_true, add, UnitShare, forwarded, diverted, MoveAsked, NothingOf}
use Rattle.nf_net.proofs.Words.{ShareLabel, unit_share, share_seen, share_items, Any, New, ShareAsked, ShareMsg, EachNew, olds, same, SeeingShare, passed_in}
use Rattle.nf_net.proofs.Words.{carried_in, handed_over_in, number, entries, want_of, asked_of, want_share_of, Given, place, S, A, shown, Label, Unit, Mark}
use Rattle.nf_net.proofs.Words.{split}
use Rattle.actor_net.proofs.WeightLaws.{Each}
use Rattle.proof_machines.proofs.unit.Labels as labels
use Rattle.proof_machines.proofs.share.Share.{Item, Item.Carry, Item.Fence, Item.Shared, Item.Diverted, Item.Install, Item.Forward, Item.Get, Item.Sync}
use Rattle.proof_machines.proofs.share.Share.{Item.Fenced, Item.Chunks, Item.Chunk, Item.Synced, Item.Stray}
use Rattle.proof_machines.proofs.share.Path.{shared_of, forward_of, divert_of, carries, shared_in}
use Rattle.proof_machines.proofs.net.Net as net
use Rattle.proof_machines.proofs.net.Shares.{Old}
use Rattle.net_world.specs.Path as path

-- an item that is seen, or not, before others
module _ {R : Type 0} (h : UnitShare R) where
  shared-add : (o : Option (Item R)) (xs : List (Item R)) → shared_in h (add o xs) ≡ shared_in h (add o []) ++ shared_in h xs
  shared-add None xs = refl
  shared-add (Some (Shared p)) xs = filter-append h.mine (p ∷ []) (filter_map shared_of xs)
  shared-add (Some x) xs = refl

  carries-add : (o : Option (Item R)) (xs : List (Item R)) → carries (add o xs) ≡ carries (add o []) ++ carries xs
  carries-add None xs = refl
  carries-add (Some (Carry p)) xs = refl
  carries-add (Some x) xs = refl

  forwarded-add : (o : Option (Item R)) (xs : List (Item R)) → forwarded h (add o xs) ≡ forwarded h (add o []) ++ forwarded h xs
  forwarded-add None xs = refl
  forwarded-add (Some (Forward p m)) xs = filter-append h.mine (p ∷ []) (filter_map forward_of xs)
  forwarded-add (Some x) xs = refl

  diverted-add : (o : Option (Item R)) (xs : List (Item R)) → diverted h (add o xs) ≡ diverted h (add o []) ++ diverted h xs
  diverted-add None xs = refl
  diverted-add (Some (Diverted p)) xs = filter-append h.mine (p ∷ []) (filter_map divert_of xs)
  diverted-add (Some x) xs = refl

-- the packets of a message, or of items, kind by kind
record Reading : Type 0 where
  pub shared : List ℕ
  pub carry : List ℕ
  pub forward : List ℕ
  pub divert : List ℕ

abbrev nothing : Reading
nothing = record { shared = []; carry = []; forward = []; divert = [] }

module _ {R : Type 0} (f : Semantics R) (g : Given) (z : SeeingShare) where
  abbrev pub its : UnitShare R
  its = unit_share (S f g) (A f g) z

  abbrev mine : ℕ → Bool
  mine = its.mine

  abbrev read : List (Item R) → Reading
  read xs = record { shared = shared_in its xs; carry = carries xs; forward = forwarded its xs; divert = diverted its xs }

  abbrev real_read : Msg → Reading
  real_read m = record {
    shared = filter mine (passed_in m);
    carry = filter mine (carried_in m);
    forward = filter mine (path.forwarded_in m);
    divert = filter mine (path.diverted_in m);
  }

  -- a message at its receiver, as the unit sees it
  abbrev pub item_of : ℕ → Option (Any R) → Option (Item R)
  item_of r None = None
  item_of r (Some a) = share_seen (S f g) (A f g) z r a

  -- what the unit knows of it
  abbrev pub IsKnown : (s r : ℕ) → Option (Any R) → Type 0
  IsKnown s r None = Prim.Unit {0}
  IsKnown s r (Some (Old a)) = NothingOf (S f g) z.unit s a
  IsKnown s r (Some (New a)) = ShareLabel (S f g) (A f g) z r a

  -- it has the packets of the unit that are seen of it
  abbrev IsRead : Msg → Option (Item R) → Type 0
  IsRead m o = real_read m ≡ read (add o [])

  -- an item without packets, if it is seen
  bare : (b : Bool) (x : Item R) → read (x ∷ []) ≡ nothing → nothing ≡ read (add (where_true b x) [])
  bare true x none = sym none
  bare false x none = refl

  fit_bare : (b : Bool) (x : Item R) → read (x ∷ []) ≡ nothing → read ((if b then x else Stray) ∷ []) ≡ nothing
  fit_bare true x none = none
  fit_bare false x none = refl

  plain_read : (cell : FullCell) → IsRead (Msg.Carry Mark.Plain cell) (where_true (mine (number cell)) (Carry (number cell)))
  plain_read cell = elim (mine (number cell)) as (λ b. ◌≡◌ {A = Reading}
      (record { shared = []; carry = if b then number cell ∷ [] else []; forward = []; divert = [] }) (read (add (where_true b (Carry (number cell))) [])))
      [ true ↦ refl | false ↦ refl ]

  pass_read : (op : ℕ) (cell : FullCell) → mine (number cell) ≡ false → IsRead (Msg.Carry (Mark.Pass op) cell) (where_true (mine (number cell)) Stray)
  pass_read op cell off = rw off refl

  -- the share's packet, at its number
  shared_read : (op : ℕ) (home : Bool) (cell : FullCell) (right : Bool) → ((op == z.num) ≡ true → right ≡ true)
      → ((op == z.num) ≡ false → mine (number cell) ≡ false) → IsRead (Msg.Carry (Mark.Shared op home) cell)
      (if op == z.num then Some (if right then Shared (number cell) else Stray) else where_true (mine (number cell)) Stray)
  shared_read op home cell right own other = split (op == z.num)
      (λ b. IsRead (Msg.Carry (Mark.Shared op home) cell)
      (if b then Some (if right then Shared (number cell) else Stray) else where_true (mine (number cell)) Stray))
      (λ on. let ok = own on in rw ok refl)
      (λ off. let no = other off in rw no refl)

  forward_read : (to op : ℕ) (home : Bool) (cell : FullCell) (right : Bool) → ((op == z.num) ≡ true → right ≡ true)
      → ((op == z.num) ≡ false → mine (number cell) ≡ false) → IsRead (Msg.Forward to (Mark.Shared op home) cell)
      (if op == z.num then Some (if right then Forward (number cell) (instance_node to) else Stray) else where_true (mine (number cell)) Stray)
  forward_read to op home cell right own other = split (op == z.num)
      (λ b. IsRead (Msg.Forward to (Mark.Shared op home) cell)
      (if b then Some (if right then Forward (number cell) (instance_node to) else Stray) else where_true (mine (number cell)) Stray))
      (λ on. let ok = own on in rw ok refl)
      (λ off. let no = other off in rw no refl)

  module _ (covered : (S f g).takes z.filter z.unit ≡ true) where
    -- what the share doesn't take isn't the unit's
    not_taken : (p : ℕ) → (S f g).takes z.filter ((S f g).packet_unit p) ≡ false → mine p ≡ false
    not_taken p out = split (mine p) (λ b. b ≡ false)
        (λ on. (let its_unit : (S f g).packet_unit p ≡ z.unit = same_unit-true ((S f g).packet_unit p) z.unit on in
        let never : true ≡ false = sym covered ∙ ap ((S f g).takes z.filter) (sym its_unit) ∙ out in cc)) (λ _. refl)

    diverted_read : (cell : FullCell) → IsRead (Msg.Diverted cell)
        (if (S f g).takes z.filter ((S f g).packet_unit (number cell)) then Some (Diverted (number cell)) else where_true (mine (number cell)) Stray)
    diverted_read cell =
        split ((S f g).takes z.filter ((S f g).packet_unit (number cell)))
        (λ b. IsRead (Msg.Diverted cell) (if b then Some (Diverted (number cell)) else where_true (mine (number cell)) Stray))
        (λ _. refl)
        (λ out. let no = not_taken (number cell) out in rw no refl)

    asked_read : (k : Command) (r : ℕ) (what : Order) → IsRead (Msg.Asked k) (item_of r (asked_of f (place g) k.op what))
    asked_read k r (Order.Move src dst filter keep) = by_want (want_of (place g) k.op (Order.Move src dst filter keep))
      where
        by_want : (o : Option MoveAsked) → IsRead (Msg.Asked k) (item_of r (option_map (λ want. Old (net.Asked want)) o))
        by_want None = refl
        by_want (Some x) = refl
    asked_read k r (Order.Copy src dst filter) = refl
    asked_read k r (Order.Share members filter) = by_want (want_share_of (place g) k.op (Order.Share members filter))
      where
        by_want : (o : Option ShareAsked) → IsRead (Msg.Asked k) (item_of r (option_map (λ want. New (ShareMsg.Asked want)) o))
        by_want None = refl
        by_want (Some x) = refl

    chunk_read : (op r : ℕ) (chunk : RealChunk) → IsRead (Msg.Shared op chunk) (item_of r (shown f g (Msg.Shared op chunk)))
    chunk_read op r chunk = by_entry (spelled f chunk)
      where
        by_entry : (o : Option (Unit × R)) → IsRead (Msg.Shared op chunk) (item_of r (option_map (λ entry. New (ShareMsg.Shared op entry)) o))
        by_entry None = refl
        by_entry (Some x) = bare (op == z.num) (Chunk (record_at z.unit (x ∷ []))) refl

    install_read : (op : ℕ) (filter : Filter) (from r : ℕ) (to : Target)
        → IsRead (Msg.Install op filter from to) (item_of r (shown f g (Msg.Install op filter from to)))
    install_read op filter from r Target.Controller =
        bare (op == z.num) (if instance_node from == z.home then Install else Stray) (fit_bare (instance_node from == z.home) Install refl)
    install_read op filter from r (Target.Instance to) = bare (op == z.num) Stray refl

    msg_read : (s r : ℕ) (m : Msg) → Label f g s r m → IsKnown s r (shown f g m) → IsRead m (item_of r (shown f g m))
    msg_read s r (Msg.Carry Mark.Plain cell) l k = plain_read cell
    msg_read s r (Msg.Carry (Mark.Pass op) cell) l k = pass_read op cell k
    msg_read s r (Msg.Carry (Mark.Shared op home) cell) l k = shared_read op home cell (same home (r == z.home)) k.0 k.1
    msg_read s r (Msg.Forward to Mark.Plain cell) l k = let never = l.2 in cc
    msg_read s r (Msg.Forward to (Mark.Pass op) cell) l k = let off : mine (number cell) ≡ false = k.1 in rw off refl
    msg_read s r (Msg.Forward to (Mark.Shared op home) cell) l k = forward_read to op home cell (same home (instance_node to == z.home)) (λ on. (k.0 on).0) k.1
    msg_read s r (Msg.Diverted cell) l k = diverted_read cell
    msg_read s r (Msg.Asked c) l k = asked_read c r c.what
    msg_read s r (Msg.Shared op chunk) l k = chunk_read op r chunk
    msg_read s r (Msg.Install op filter from to) l k = install_read op filter from r to
    msg_read s r (Msg.FenceTo op to) l k = bare (op == z.num) Stray refl
    msg_read s r (Msg.Fence op) l k = bare (op == z.num) Fence refl
    msg_read s r (Msg.Fenced op) l k = bare (op == z.num) Fenced refl
    msg_read s r (Msg.Get op filter) l k = bare (op == z.num) Get refl
    msg_read s r (Msg.Sync home op chunks) l k = bare (op == z.num) (if same home (r == z.home) then Sync (record_at z.unit (entries f chunks)) else Stray)
        (fit_bare (same home (r == z.home)) (Sync (record_at z.unit (entries f chunks))) refl)
    msg_read s r (Msg.Chunks op chunks) l k = bare (op == z.num) (Chunks (record_at z.unit (entries f chunks))) refl
    msg_read s r (Msg.Synced op) l k = bare (op == z.num) Synced refl
    msg_read s r m l k = refl

    -- an event has none
    msg_event : (s r : ℕ) (m : Msg) → IsKnown s r (shown f g m) → filter mine (handed_over_in m) ≡ []
    msg_event s r (Msg.Event op cell) k = let off : mine (number cell) ≡ false = k.1 in rw off refl
    msg_event s r m k = refl

    -- And so has a link.
    abbrev pub view : ℕ → List Msg → List (Item R)
    view r ms = share_items (S f g) (A f g) z r (filter_map (shown f g) ms)

    pub seen_more : (r : ℕ) (m : Msg) (ms : List Msg) → view r (m ∷ ms) ≡ add (item_of r (shown f g m)) (view r ms)
    seen_more r m ms = by_shown (shown f g m) refl
      where
        by_shown : (o : Option (Any R)) → shown f g m ≡ o → view r (m ∷ ms) ≡ add (item_of r (shown f g m)) (view r ms)
        by_shown None e = rw e refl
        by_shown (Some a) e = rw e refl

    -- what is known of the messages of a link
    pub record AreKnown (s r : ℕ) (ys : List (Any R)) : Type 0 where
      pub moves : labels.Each (NothingOf (S f g) z.unit s) (olds ys)
      pub shares : EachNew (ShareLabel (S f g) (A f g) z r) ys

    pub first_known : (s r : ℕ) (o : Option (Any R)) (ys : List (Any R)) → AreKnown s r (cons_option o ys) → IsKnown s r o × AreKnown s r ys
    first_known s r None ys h = (tt, h)
    first_known s r (Some (Old a)) ys h = (h.moves.0, record { moves = h.moves.1; shares = h.shares })
    first_known s r (Some (New a)) ys h = (h.shares.0, record { moves = h.moves; shares = h.shares.1 })

    pub record AreRead (ms : List Msg) (xs : List (Item R)) : Type 0 where
      pub shared : filter mine (flat_map passed_in ms) ≡ shared_in its xs
      pub carry : filter mine (flat_map carried_in ms) ≡ carries xs
      pub forward : filter mine (flat_map path.forwarded_in ms) ≡ forwarded its xs
      pub divert : filter mine (flat_map path.diverted_in ms) ≡ diverted its xs
      pub event : filter mine (flat_map handed_over_in ms) ≡ []

    pub are_read : (s r : ℕ) (ms : List Msg) → Each (Label f g s r) ms → AreKnown s r (filter_map (shown f g) ms) → AreRead ms (view r ms)
    are_read s r [] h k = record { shared = refl; carry = refl; forward = refl; divert = refl; event = refl }
    are_read s r (m ∷ ms) h k =
        let both = first_known s r (shown f g m) (filter_map (shown f g) ms) k in
        let one = msg_read s r m h.0 both.0 in
        let rest = are_read s r ms h.1 both.1 in
        let o = item_of r (shown f g m) in
        let xs = view r ms in
        let more = seen_more r m ms in
        record {
          shared = filter-append mine (passed_in m) (flat_map passed_in ms) ∙ ap (λ v. v ++ filter mine (flat_map passed_in ms)) (ap (λ y. y.shared) one)
              ∙ ap (λ v. shared_in its (add o []) ++ v) rest.shared ∙ sym (shared-add its o xs) ∙ ap (shared_in its) (sym more);
          carry = filter-append mine (carried_in m) (flat_map carried_in ms) ∙ ap (λ v. v ++ filter mine (flat_map carried_in ms)) (ap (λ y. y.carry) one)
              ∙ ap (λ v. carries (add o []) ++ v) rest.carry ∙ sym (carries-add its o xs) ∙ ap carries (sym more);
          forward = filter-append mine (path.forwarded_in m) (flat_map path.forwarded_in ms)
              ∙ ap (λ v. v ++ filter mine (flat_map path.forwarded_in ms)) (ap (λ y. y.forward) one) ∙ ap (λ v. forwarded its (add o []) ++ v) rest.forward
              ∙ sym (forwarded-add its o xs) ∙ ap (forwarded its) (sym more);
          divert = filter-append mine (path.diverted_in m) (flat_map path.diverted_in ms) ∙ ap (λ v. v ++ filter mine (flat_map path.diverted_in ms))
              (ap (λ y. y.divert) one) ∙ ap (λ v. diverted its (add o []) ++ v) rest.divert ∙ sym (diverted-add its o xs) ∙ ap (diverted its) (sym more);
          event = filter-append mine (handed_over_in m) (flat_map handed_over_in ms)
              ∙ ap (λ v. v ++ filter mine (flat_map handed_over_in ms)) (msg_event s r m both.0) ∙ rest.event;
        }
