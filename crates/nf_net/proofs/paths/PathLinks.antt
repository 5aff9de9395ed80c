-- What a unit sees of a link is its packets there: those that were handed on, those that come by the rules, those on their way by the
-- switch, and events.
use Rattle.nf_net.proofs.Words.{◌≡◌, ℕ, Bool, true, false, Option, Some, None, List, [], ◌∷◌, ◌++◌, refl, sym, ap, ◌∙◌, filter-append, if◌then◌else◌, ◌==◌}
use Rattle.nf_net.proofs.Words.{◌&&◌, option_map, cons_option, filter, filter_map, flat_map, Chunk, Semantics, spelled, FullCell, Mark, Target, Filter, Command}
use Rattle.nf_net.proofs.Words.{Order, Msg, instance_node, Carry, Event, Fence_to, Install, Stray, At_a, At_b, Frame, where_true, sends_to, add, passes_in}
use Rattle.nf_net.proofs.Words.{events_in, for_switch, list_all, seen, MoveAsked, Seeing, frame, Any, New, ShareAsked, ShareMsg, EachNew, olds, OpenShare}
use Rattle.nf_net.proofs.Words.{NoShare, and_parts, passed_in, carried_in, forwarded_in, handed_over_in, diverted_in, number, want_of, asked_of, want_share_of}
use Rattle.nf_net.proofs.Words.{Given, place, S, shown, Label, FromSwitch, ToSwitch, ToController, Unit, split}
use Rattle.proof_machines.proofs.unit.Machine.{Item, Pass, Forward}
use Rattle.std.proofs.lemmas.List.Elements.{filter_map-append}
use Rattle.actor_net.proofs.WeightLaws.{Each}
use Rattle.proof_machines.proofs.unit.Path.{carries, forwards}
use Rattle.proof_machines.proofs.net.Net as net
use Rattle.proof_machines.proofs.net.NewMessages.{OnNew}
use Rattle.proof_machines.proofs.net.Shares.{Old}

-- an item that is seen, or not, before others
module _ {R : Type 0} where
  pub picked-add : {X : Type 0} (pick : Item R → Option X) (o : Option (Item R)) (xs : List (Item R))
      → filter_map pick (add o xs) ≡ filter_map pick (add o []) ++ filter_map pick xs
  picked-add pick None xs = refl
  picked-add pick (Some x) xs = filter_map-append pick (x ∷ []) xs

  known-add : (o : Option (Item R)) (xs : List (Item R)) → list_all for_switch (add o xs) ≡ true
      → (list_all for_switch (add o []) ≡ true) × (list_all for_switch xs ≡ true)
  known-add None xs e = (refl, e)
  known-add (Some x) xs e = let both = and_parts (for_switch x) (list_all for_switch xs) e in (ap (λ b. b && true) both.0, both.1)

module _ {R : Type 0} (f : Semantics R) (g : Given) (z : Seeing) (es : List OpenShare) where
  abbrev its : Frame
  its = frame (S f g) z

  abbrev mine : ℕ → Bool
  mine = its.mine

  -- moves see nothing of a share's message
  abbrev pub see_of : Option (Any R) → Option (Item R)
  see_of None = None
  see_of (Some (Old a)) = seen its a
  see_of (Some (New a)) = None

  -- which has nothing of the unit
  abbrev pub NotShared : Option (Any R) → Type 0
  NotShared None = Prim.Unit {0}
  NotShared (Some a) = OnNew (NoShare (S f g) z.unit es) a

  -- a message has the packets of the unit that are seen of it
  record IsRead (m : Msg) (o : Option (Item R)) : Type 0 where
    pass : filter mine (passed_in m) ≡ passes_in (add o [])
    carry : filter mine (carried_in m) ≡ carries (add o [])
    event : filter mine (handed_over_in m) ≡ events_in (add o [])
    forward : list_all for_switch (add o []) ≡ true → filter mine (forwarded_in m) ≡ forwards (add o [])

  -- packets that were handed on, that come by the rules, that are events, and that are on their way by the switch
  abbrev Packets : Type 0
  Packets = List ℕ × List ℕ × List ℕ × List ℕ

  -- a message without packets, of which no packet is seen
  quiet : {m : Msg} {o : Option (Item R)} → ◌≡◌ {A = Packets} (passed_in m, carried_in m, handed_over_in m, forwarded_in m) ([], [], [], [])
      → ◌≡◌ {A = Packets} (passes_in (add o []), carries (add o []), events_in (add o []), forwards (add o [])) ([], [], [], []) → IsRead m o
  quiet none unseen = record {
    pass = ap (λ (l : Packets). filter mine l.0) none ∙ sym (ap (λ (l : Packets). l.0) unseen);
    carry = ap (λ (l : Packets). filter mine l.1) none ∙ sym (ap (λ (l : Packets). l.1) unseen);
    event = ap (λ (l : Packets). filter mine l.2) none ∙ sym (ap (λ (l : Packets). l.2) unseen);
    forward = λ _. ap (λ (l : Packets). filter mine l.3) none ∙ sym (ap (λ (l : Packets). l.3) unseen);
  }

  either : (m : Msg) (x : Item R) → IsRead m None → IsRead m (Some x) → (b : Bool) → IsRead m (where_true b x)
  either m x without with_it true = with_it
  either m x without with_it false = without

  forward_read : (to : ℕ) (m : Mark) (cell : FullCell)
      → IsRead (Msg.Forward to m cell) (where_true (mine (number cell)) (sends_to its (instance_node to) (λ w. Forward w (number cell))))
  forward_read to m cell =
      split (mine (number cell)) (λ b. IsRead (Msg.Forward to m cell) (where_true b (sends_to its (instance_node to) (λ w. Forward w (number cell)))))
      (λ is. split (instance_node to == its.from)
      (λ a. IsRead (Msg.Forward to m cell)
      (Some (if a then Forward At_a (number cell) else if instance_node to == its.to then Forward At_b (number cell) else Stray)))
      (λ _. record { pass = refl; carry = refl; event = refl; forward = λ _. rw is refl })
      (λ _. split (instance_node to == its.to) (λ b. IsRead (Msg.Forward to m cell) (Some (if b then Forward At_b (number cell) else Stray)))
      (λ _. record { pass = refl; carry = refl; event = refl; forward = λ _. rw is refl })
      (λ _. record { pass = refl; carry = refl; event = refl; forward = λ e. cc })))
      (λ off. record { pass = refl; carry = refl; event = refl; forward = λ _. rw off refl })

  carry_read : (cell : FullCell) → IsRead (Msg.Carry Mark.Plain cell) (where_true (mine (number cell)) (Carry (number cell)))
  carry_read cell = split (mine (number cell)) (λ b. IsRead (Msg.Carry Mark.Plain cell) (where_true b (Carry (number cell))))
      (λ is. record { pass = refl; carry = rw is refl; event = refl; forward = λ _. refl })
      (λ off. record { pass = refl; carry = rw off refl; event = refl; forward = λ _. refl })

  pass_read : (op : ℕ) (cell : FullCell) → IsRead (Msg.Carry (Mark.Pass op) cell) (where_true (mine (number cell)) (Pass (number cell)))
  pass_read op cell = split (mine (number cell)) (λ b. IsRead (Msg.Carry (Mark.Pass op) cell) (where_true b (Pass (number cell))))
      (λ is. record { pass = rw is refl; carry = refl; event = refl; forward = λ _. refl })
      (λ off. record { pass = rw off refl; carry = refl; event = refl; forward = λ _. refl })

  event_read : (op : ℕ) (cell : FullCell) → IsRead (Msg.Event op cell) (where_true (mine (number cell)) (Event (number cell)))
  event_read op cell = split (mine (number cell)) (λ b. IsRead (Msg.Event op cell) (where_true b (Event (number cell))))
      (λ is. record { pass = refl; carry = refl; event = rw is refl; forward = λ _. refl })
      (λ off. record { pass = refl; carry = refl; event = rw off refl; forward = λ _. refl })

  fence_read : (op to : ℕ) → IsRead (Msg.FenceTo op to) (Some (sends_to its (instance_node to) (λ w. Fence_to w)))
  fence_read op to = split (instance_node to == its.from)
      (λ a. IsRead (Msg.FenceTo op to) (Some (if a then Fence_to At_a else if instance_node to == its.to then Fence_to At_b else Stray)))
      (λ _. quiet refl refl)
      (λ _. split (instance_node to == its.to) (λ b. IsRead (Msg.FenceTo op to) (Some (if b then Fence_to At_b else Stray)))
      (λ _. quiet refl refl) (λ _. quiet refl refl))

  install_read : (op : ℕ) (filter : Filter) (from : ℕ) (to : Target)
      → IsRead (Msg.Install op filter from to) (see_of (shown f g (Msg.Install op filter from to)))
  install_read op filter from Target.Controller = quiet refl refl
  install_read op filter from (Target.Instance to) =
      either (Msg.Install op filter from (Target.Instance to)) (if (instance_node from == its.from) && (instance_node to == its.to) then Install else Stray)
      (quiet refl refl) (split ((instance_node from == its.from) && (instance_node to == its.to))
      (λ b. IsRead (Msg.Install op filter from (Target.Instance to)) (Some (if b then Install else Stray)))
      (λ _. quiet refl refl) (λ _. quiet refl refl)) (op == its.move)

  asked_read : (k : Command) (what : Order) → IsRead (Msg.Asked k) (see_of (asked_of f (place g) k.op what))
  asked_read k (Order.Move src dst filter keep) = by_want (want_of (place g) k.op (Order.Move src dst filter keep))
    where
      by_want : (o : Option MoveAsked) → IsRead (Msg.Asked k) (see_of (option_map (λ want. Old (net.Asked want)) o))
      by_want None = quiet refl refl
      by_want (Some x) = quiet refl refl
  asked_read k (Order.Copy src dst filter) = quiet refl refl
  asked_read k (Order.Share members filter) = by_want (want_share_of (place g) k.op (Order.Share members filter))
    where
      by_want : (o : Option ShareAsked) → IsRead (Msg.Asked k) (see_of (option_map (λ want. New (ShareMsg.Asked want)) o))
      by_want None = quiet refl refl
      by_want (Some x) = quiet refl refl

  chunk_read : (op : ℕ) (chunk : Chunk) → IsRead (Msg.Shared op chunk) (see_of (shown f g (Msg.Shared op chunk)))
  chunk_read op chunk = by_entry (spelled f chunk)
    where
      by_entry : (o : Option (Unit × R)) → IsRead (Msg.Shared op chunk) (see_of (option_map (λ entry. New (ShareMsg.Shared op entry)) o))
      by_entry None = quiet refl refl
      by_entry (Some x) = quiet refl refl

  -- of a message of a run
  msg_read : (s r : ℕ) (m : Msg) → Label f g s r m → NotShared (shown f g m) → IsRead m (see_of (shown f g m))
  msg_read s r (Msg.Carry Mark.Plain cell) l k = carry_read cell
  msg_read s r (Msg.Carry (Mark.Pass op) cell) l k = pass_read op cell
  msg_read s r (Msg.Carry (Mark.Shared op home) cell) l k =
      let off : mine (number cell) ≡ false = k in record { pass = rw off refl; carry = refl; event = refl; forward = λ _. refl }
  msg_read s r (Msg.Forward to Mark.Plain cell) l k = forward_read to Mark.Plain cell
  msg_read s r (Msg.Forward to (Mark.Pass op) cell) l k = forward_read to (Mark.Pass op) cell
  msg_read s r (Msg.Forward to (Mark.Shared op home) cell) l k =
      let off : mine (number cell) ≡ false = k in record { pass = refl; carry = refl; event = refl; forward = λ _. rw off refl }
  msg_read s r (Msg.Event op cell) l k = event_read op cell
  msg_read s r (Msg.FenceTo op to) l k = either (Msg.FenceTo op to) (sends_to its (instance_node to) (λ w. Fence_to w))
      (quiet refl refl) (fence_read op to) (op == its.move)
  msg_read s r (Msg.Install op filter from to) l k = install_read op filter from to
  msg_read s r (Msg.Asked c) l k = asked_read c c.what
  msg_read s r (Msg.Shared op chunk) l k = chunk_read op chunk
  msg_read s r (Msg.Fence op) l k = either _ _ (quiet refl refl) (quiet refl refl) (op == its.move)
  msg_read s r (Msg.Enable op filter action) l k = either _ _ (quiet refl refl) (quiet refl refl) (op == its.move)
  msg_read s r (Msg.Stream op filter) l k = either _ _ (quiet refl refl) (quiet refl refl) (op == its.move)
  msg_read s r (Msg.Delete op gone) l k = either _ _ (quiet refl refl) (quiet refl refl) (op == its.move)
  msg_read s r (Msg.Put op piece first) l k = either _ _ (quiet refl refl) (quiet refl refl) (op == its.move)
  msg_read s r (Msg.Restore op chunks) l k = either _ _ (quiet refl refl) (quiet refl refl) (op == its.move)
  msg_read s r (Msg.Enabled op) l k = either _ _ (quiet refl refl) (quiet refl refl) (op == its.move)
  msg_read s r (Msg.Piece op piece) l k = either _ _ (quiet refl refl) (quiet refl refl) (op == its.move)
  msg_read s r (Msg.Deleted op) l k = either _ _ (quiet refl refl) (quiet refl refl) (op == its.move)
  msg_read s r (Msg.PutOk op) l k = either _ _ (quiet refl refl) (quiet refl refl) (op == its.move)
  msg_read s r (Msg.PutNo op refused) l k = either _ _ (quiet refl refl) (quiet refl refl) (op == its.move)
  msg_read s r (Msg.Restored op) l k = either _ _ (quiet refl refl) (quiet refl refl) (op == its.move)
  msg_read s r (Msg.Fenced op) l k = either _ _ (quiet refl refl) (quiet refl refl) (op == its.move)
  msg_read s r m l k = quiet refl refl

  -- no packet of it goes to the controller
  msg_diverts : (m : Msg) → NotShared (shown f g m) → filter mine (diverted_in m) ≡ []
  msg_diverts (Msg.Diverted cell) k = let off : mine (number cell) ≡ false = k in rw off refl
  msg_diverts m k = refl

  -- and so has a link
  abbrev pub view : List Msg → List (Item R)
  view ms = filter_map (seen its) (olds (filter_map (shown f g) ms))

  pub seen_more : (m : Msg) (ms : List Msg) → view (m ∷ ms) ≡ add (see_of (shown f g m)) (view ms)
  seen_more m ms = by_shown (shown f g m) refl
    where
      by_shown : (o : Option (Any R)) → shown f g m ≡ o → view (m ∷ ms) ≡ add (see_of (shown f g m)) (view ms)
      by_shown None e = rw e refl
      by_shown (Some (Old a)) e = rw e refl
      by_shown (Some (New a)) e = rw e refl

  -- the first message of a link, and those behind it
  pub first_shared : (o : Option (Any R)) (ys : List (Any R)) → EachNew (NoShare (S f g) z.unit es) (cons_option o ys)
      → NotShared o × EachNew (NoShare (S f g) z.unit es) ys
  first_shared None ys h = (tt, h)
  first_shared (Some (Old a)) ys h = (tt, h)
  first_shared (Some (New a)) ys h = (h.0, h.1)

  pub record AreRead (ms : List Msg) (xs : List (Item R)) : Type 0 where
    pub pass : filter mine (flat_map passed_in ms) ≡ passes_in xs
    pub carry : filter mine (flat_map carried_in ms) ≡ carries xs
    pub event : filter mine (flat_map handed_over_in ms) ≡ events_in xs
    pub divert : filter mine (flat_map diverted_in ms) ≡ []
    pub forward : list_all for_switch xs ≡ true → filter mine (flat_map forwarded_in ms) ≡ forwards xs

  pub are_read : (s r : ℕ) (ms : List Msg) → Each (Label f g s r) ms → EachNew (NoShare (S f g) z.unit es) (filter_map (shown f g) ms) → AreRead ms (view ms)
  are_read s r [] h k = record { pass = refl; carry = refl; event = refl; divert = refl; forward = λ _. refl }
  are_read s r (m ∷ ms) h k =
      let both = first_shared (shown f g m) (filter_map (shown f g) ms) k in
      let one = msg_read s r m h.0 both.0 in
      let rest = are_read s r ms h.1 both.1 in
      let o = see_of (shown f g m) in
      let xs = view ms in
      let more = seen_more m ms in
      record {
        pass = filter-append mine (passed_in m) (flat_map passed_in ms) ∙ ap (λ v. v ++ filter mine (flat_map passed_in ms)) one.pass
            ∙ ap (λ v. passes_in (add o []) ++ v) rest.pass ∙ sym (picked-add _ o xs) ∙ ap passes_in (sym more);
        carry = filter-append mine (carried_in m) (flat_map carried_in ms) ∙ ap (λ v. v ++ filter mine (flat_map carried_in ms)) one.carry
            ∙ ap (λ v. carries (add o []) ++ v) rest.carry ∙ sym (picked-add _ o xs) ∙ ap carries (sym more);
        event = filter-append mine (handed_over_in m) (flat_map handed_over_in ms) ∙ ap (λ v. v ++ filter mine (flat_map handed_over_in ms)) one.event
            ∙ ap (λ v. events_in (add o []) ++ v) rest.event ∙ sym (picked-add _ o xs) ∙ ap events_in (sym more);
        divert = filter-append mine (diverted_in m) (flat_map diverted_in ms) ∙ ap (λ v. v ++ filter mine (flat_map diverted_in ms)) (msg_diverts m both.0)
            ∙ rest.divert;
        forward = λ t.
            let known = known-add o xs (ap (list_all for_switch) (sym more) ∙ t) in
            filter-append mine (forwarded_in m) (flat_map forwarded_in ms) ∙ ap (λ v. v ++ filter mine (flat_map forwarded_in ms)) (one.forward known.0)
            ∙ ap (λ v. forwards (add o []) ++ v) (rest.forward known.1) ∙ sym (picked-add _ o xs) ∙ ap forwards (sym more);
      }

-- On other links there are no such messages.
module _ {R : Type 0} (f : Semantics R) (g : Given) (s r : ℕ) where
  no_pass : (m : Msg) → Label f g s r m → (FromSwitch s r → ⊥) → passed_in m ≡ []
  no_pass (Msg.Carry (Mark.Pass op) cell) l off = absurd (off l.0)
  no_pass (Msg.Carry Mark.Plain cell) l off = refl
  no_pass (Msg.Carry (Mark.Shared op home) cell) l off = absurd (off l.0)
  no_pass m l off = refl

  no_event : (m : Msg) → Label f g s r m → (ToController s r → ⊥) → handed_over_in m ≡ []
  no_event (Msg.Event op cell) l off = absurd (off l.0)
  no_event m l off = refl

  no_forward : (m : Msg) → Label f g s r m → (ToSwitch s r → ⊥) → forwarded_in m ≡ []
  no_forward (Msg.Forward to mark cell) l off = absurd (off l.0)
  no_forward m l off = refl

  pub no_passes : (ms : List Msg) → Each (Label f g s r) ms → (FromSwitch s r → ⊥) → flat_map passed_in ms ≡ []
  no_passes [] h off = refl
  no_passes (m ∷ ms) h off = rw (no_pass m h.0 off, no_passes ms h.1 off) refl

  pub no_events : (ms : List Msg) → Each (Label f g s r) ms → (ToController s r → ⊥) → flat_map handed_over_in ms ≡ []
  no_events [] h off = refl
  no_events (m ∷ ms) h off = rw (no_event m h.0 off, no_events ms h.1 off) refl

  pub no_forwards : (ms : List Msg) → Each (Label f g s r) ms → (ToSwitch s r → ⊥) → flat_map forwarded_in ms ≡ []
  no_forwards [] h off = refl
  no_forwards (m ∷ ms) h off = rw (no_forward m h.0 off, no_forwards ms h.1 off) refl

  no_divert : (m : Msg) → Label f g s r m → (s ≡ 0 → r ≡ 1 → ⊥) → diverted_in m ≡ []
  no_divert (Msg.Diverted cell) l off = absurd (off l.0 l.1)
  no_divert m l off = refl

  pub no_diverts : (ms : List Msg) → Each (Label f g s r) ms → (s ≡ 0 → r ≡ 1 → ⊥) → flat_map diverted_in ms ≡ []
  no_diverts [] h off = refl
  no_diverts (m ∷ ms) h off = rw (no_divert m h.0 off, no_diverts ms h.1 off) refl
