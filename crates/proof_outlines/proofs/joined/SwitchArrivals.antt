-- The switch's step on an item of the input, and on a cell that comes home, leads from a world of a run to one.
use Rattle.proof_outlines.proofs.Words.{◌≡◌, ℕ, ◌+◌, ◌-◌, ◌≤◌, Bool, true, false, Option, Some, None, List, [], ◌∷◌, ◌++◌, drop, append_assoc, append-nil, refl}
use Rattle.proof_outlines.proofs.Words.{sym, ap, ◌∙◌, subst, arith, if◌then◌else◌, ◌&&◌, ◌||◌, ◌==◌, not, unwrap_or, filter, nat_tests, filter-append, Packet}
use Rattle.proof_outlines.proofs.Words.{flow_of, Semantics, unit_at, same_unit-true, FullCell, one_less, one_more, Target, first_match, Command, Msg, Note}
use Rattle.proof_outlines.proofs.Words.{instance_node, SwitchState, arrival_step, goes_to, has_room, is_there, on_packet, on_command, on_credit, target_of}
use Rattle.proof_outlines.proofs.Words.{less_first, EachSent, neither, sent_for, MoveAsked, Rising, Any, Old, New, ShareMsg, ShareAsked, WholeWorld}
use Rattle.proof_outlines.proofs.Words.{arrive_sends, asks, whole_input, comes, EveryAll, input_every_all, asks_move_every_all, asks_share_every_all, as_node}
use Rattle.proof_outlines.proofs.Words.{Switch, arrivals_in, installs_in, arrived-append, by_if, Unit, Mark, split}
use Rattle.switch_node.specs.Switch.{still}
use Rattle.proof_machines.proofs.net.Net as net
use Rattle.std.proofs.lemmas.List.Elements.{filter_map-append}
use Rattle.proof_outlines.proofs.joined.Words.{unit_fits, want_of, is_sys, asked_of, outline_all, is_sharing, want_share_of, asked_move, asked_share}
use Rattle.proof_outlines.proofs.joined.Words.{asked_none, is_wanted, command_unseen, target_node, GoesToTarget, Given, place, is_diverted, owner_by}
use Rattle.proof_outlines.proofs.joined.Words.{diverted_in, target_by, Genuine, GenuinePacket, IsCommand, IsSwitch, Label, S, A, asked_num, asked_nums, came_by}
use Rattle.proof_outlines.proofs.joined.Words.{commands, is_of, shown, Scene, AreShown, Leads, same_grows}
use Rattle.proof_outlines.proofs.whole.SwitchWorlds.{command_takes, packet_takes}
use Rattle.proof_outlines.proofs.joined.LogLemmas.{diverted_in-append, every_same, owners_on, loose_on}
use Rattle.proof_outlines.proofs.joined.OwnerLemmas.{unit_is_fit}
use Rattle.proof_outlines.proofs.joined.SwitchLemmas.{rising_without, want_num, after, every_on, others_same, quiet, same_switch}

-- the message that a packet goes on in, by its target
abbrev message_for : Target → FullCell → Msg
message_for (Target.Instance i) cell = Msg.Carry Mark.Plain cell
message_for Target.Controller cell = Msg.Diverted cell

goes_is : (s : SwitchState) (q : Packet) (k : Target) → is_there s k ≡ true → goes_to s q k ≡ arrival_step s q (target_node k) (message_for k)
goes_is s q (Target.Instance i) there = rw there refl
goes_is s q Target.Controller there = refl

-- no command is among what a packet is sent on in
none_arrives : {R : Type 0} (f : Semantics R) (g : Given) (t p : ℕ) → asked_nums (sent_for 1 (arrive_sends (S f g) (A f g) t p)) ≡ []
none_arrives {R = R} f g t p =
    by_if (λ r. asked_nums {R = R} (sent_for 1 r) ≡ []) (t == 1) refl
    (elim (t == 1) as (λ b. asked_nums {R = R} (if b then Old (net.Carry_on p) ∷ [] else []) ≡ []) [ true ↦ refl | false ↦ refl ])

-- packets that go to the controller are of a unit that a share has
sent_to_one : (g : Given) (u : Unit) (ops : List ℕ) → (target_by g u ops == 1) ≡ is_diverted g u ops
sent_to_one g u ops = split (is_diverted g u ops) (λ b. ((if b then 1 else instance_node (owner_by g u ops)) == 1) ≡ b) (λ _. refl)
    (λ _. grind (arith, nat_tests))

module _ {R : Type 0} (f : Semantics R) (g : Given) where
  labels_for : (k : Target) (cell : FullCell) → Genuine f g cell → EachSent (Label f g) 0 ((target_node k, message_for k cell) ∷ [])
  labels_for (Target.Instance i) cell genuine = (((refl, omega arith), genuine), tt)
  labels_for Target.Controller cell genuine = ((refl, refl, genuine), tt)

module _ {F R : Type 0} (f : Semantics R) (g : Given) (n : ℕ) (x : Scene F f g) (are : AreShown f g n x) where
  abbrev s : SwitchState
  s = x.nodes.switch

  -- what came of each unit when a packet arrives
  module _ (q : Packet) (genuine : GenuinePacket f g q) where
    abbrev notes : List Note
    notes = Note.Arrived q.number ∷ []

    its_fits : (u : Unit) → is_of f g u q.number ≡ true → unit_fits f.kind u ≡ true
    its_fits u mine =
        let same : unit_at f.kind g.site q ≡ u = ap (unit_at f.kind g.site) genuine.same ∙ same_unit-true (unit_at f.kind g.site (g.packet q.number)) u mine in
        subst (λ v. unit_fits f.kind v ≡ true) same (unit_is_fit f.kind (flow_of g.site q).0 genuine.fits)

    diverted_of : (u : Unit) (b : Bool) → is_of f g u q.number ≡ b → (if x.world.target u == 1 then (if b then q.number ∷ [] else []) else [])
        ≡ (if b && is_diverted g u (installs_in x.log) then q.number ∷ [] else [])
    diverted_of u true mine = ap (λ t. if t == 1 then q.number ∷ [] else []) (are.owners u (its_fits u mine))
        ∙ ap (λ b. if b then q.number ∷ [] else []) (sent_to_one g u (installs_in x.log))
    diverted_of u false mine = neither (x.world.target u == 1)

    came_in : (u : Unit) → comes (S f g) (A f g) (is_sys f g.site g.packet) u x.world q.number (came_by f g x.log u) ≡ came_by f g (x.log ++ notes) u
    came_in u =
        let all : filter (is_of f g u) (arrivals_in (x.log ++ notes))
        ≡ filter (is_of f g u) (arrivals_in x.log) ++ (if is_of f g u q.number then q.number ∷ [] else []) =
        ap (filter (is_of f g u)) (arrived-append x.log notes) ∙ filter-append (is_of f g u) (arrivals_in x.log) (q.number ∷ []) in
        let diverted : diverted_in g (is_of f g u) u [] (x.log ++ notes)
        ≡ diverted_in g (is_of f g u) u [] x.log ++ (if x.world.target u == 1 then (if is_of f g u q.number then q.number ∷ [] else []) else []) =
        diverted_in-append g (is_of f g u) u [] x.log notes
        ∙ ap (λ v. diverted_in g (is_of f g u) u [] x.log ++ v) (sym (diverted_of u (is_of f g u q.number) refl)) in
        rw (all, diverted, ← loose_on f g n x are notes refl u) refl

  -- a packet of the input
  pub packet_leads : (q : Packet) (items : List Msg) → GenuinePacket f g q → has_room s ≡ true → x.input ≡ Msg.InPacket q ∷ items
      → Leads f g n x (record { node = 0; port = 0; message = Msg.InPacket q }) (as_node Switch (on_packet s q))
  packet_leads q items genuine room waits =
      let o : GoesToTarget f.kind s x.world.target (flow_of g.site q).0 = are.switch.routes (flow_of g.site q).0 genuine.fits in
      let found : target_of s q ≡ o.target = ap (λ z. unwrap_or (first_match s.rules (flow_of z q).0) (Target.Instance 0)) are.switch.site
      ∙ ap (λ z. unwrap_or z (Target.Instance 0)) o.first in
      let did : on_packet s q ≡ arrival_step s q (target_node o.target) (message_for o.target) =
      ap (λ b. if b then goes_to s q (target_of s q) else still s) room ∙ ap (goes_to s q) found ∙ goes_is s q o.target o.there in
      let t : SwitchState = record s { pool = one_less s.pool; flying = s.flying + 1 } in
      let left : commands f g (drop 1 x.input) ≡ commands f g x.input = ap (λ v. commands f g (drop 1 v)) waits ∙ sym (ap (commands f g) waits) in
      let next : WholeWorld (S f g) (A f g) = whole_input (S f g) (A f g) x.world q.number in
      let takes = packet_takes f g.site g.packet (place g) x.world s are.switch.routes q are.switch.site genuine.same genuine.fits room in
      let outs : List (ℕ × Any R) = arrive_sends (S f g) (A f g) (x.world.target (unit_at f.kind g.site (g.packet q.number))) q.number in
      let kept : asked_nums (next.link 0 1) ≡ asked_nums (x.world.link 0 1) = filter_map-append asked_num (x.world.link 0 1) (sent_for 1 outs)
      ∙ ap (λ v. asked_nums (x.world.link 0 1) ++ v) (none_arrives f g (x.world.target (unit_at f.kind g.site (g.packet q.number))) q.number)
      ∙ append-nil (asked_nums (x.world.link 0 1)) in
      let every = every_same (S f g) (A f g) (is_sys f g.site g.packet) next _ _ (came_in q genuine)
      (input_every_all (S f g) (A f g) (is_sys f g.site g.packet) (is_sharing f g.site g.packet) x.world (came_by f g x.log) are.every q.number) in
      subst (λ st. Leads f g n x (record { node = 0; port = 0; message = Msg.InPacket q }) (as_node Switch st)) (sym did) (record {
        nodes = record x.nodes { switch = t };
        own = refl;
        others = others_same x.nodes t;
        world = next;
        links = λ i j. takes.links i j ∙ ap (λ st. x.world.link i j ++ (if i == 0 then sent_for j (outline_all f (place g) st.sends) else [])) did;
        labels = labels_for f g o.target (record { pool = s.pool.name; packet = q })
            (record { same = genuine.same; transport = genuine.transport; fits = genuine.fits; pool = are.switch.pool });
        grows = same_grows (Msg.InPacket q) x.world.next;
        shown_is = after f g n x are t x.world.target next.link (Note.Arrived q.number ∷ []) (drop 1 x.input) (same_switch f g s t x.world.target refl refl
            refl refl are.switch) every (owners_on f g n x are (Note.Arrived q.number ∷ []) refl) refl (rw (kept, left) are.rising);
      })

  -- a command of the input
  module _ (c : Command) (items : List Msg) (is : IsCommand f g c) (waits : x.input ≡ Msg.InCommand c ∷ items) where
    switch : IsSwitch f g (on_command s c).node x.world.target
    switch = same_switch f g s (on_command s c).node x.world.target refl refl refl refl are.switch

    rises : Rising x.world.next (asked_nums (x.world.link 0 1) ++ c.op ∷ commands f g items)
    rises = subst (λ v. Rising x.world.next (asked_nums (x.world.link 0 1) ++ commands f g v)) waits are.rising

    left : commands f g (drop 1 x.input) ≡ commands f g items
    left = ap (λ v. commands f g (drop 1 v)) waits

    -- that isn't seen, or goes to the controller
    unseen_leads : asked_of f (place g) c.op c.what ≡ None
        → Leads f g n x (record { node = 0; port = 0; message = Msg.InCommand c }) (as_node Switch (on_command s c))
    unseen_leads e = quiet f g n x are 0 (Msg.InCommand c) (on_command s c).node ((1, Msg.Asked c) ∷ []) refl (command_unseen f (place g) s c e)
        ((refl, refl, is), tt) switch (rw left (rising_without x.world.next c.op (asked_nums (x.world.link 0 1)) (commands f g items) rises))

    asked_leads : (m : Any R) → asked_of f (place g) c.op c.what ≡ Some m → asked_nums (m ∷ []) ≡ c.op ∷ []
        → EveryAll (S f g) (A f g) (is_sys f g.site g.packet) (asks (S f g) (A f g) x.world m) (came_by f g x.log)
        → Leads f g n x (record { node = 0; port = 0; message = Msg.InCommand c }) (as_node Switch (on_command s c))
    asked_leads m e num every =
        let next : WholeWorld (S f g) (A f g) = asks (S f g) (A f g) x.world m in
        let rising : asked_nums (next.link 0 1) ++ commands f g (drop 1 x.input) ≡ asked_nums (x.world.link 0 1) ++ c.op ∷ commands f g items =
        ap (λ v. v ++ commands f g (drop 1 x.input))
        (filter_map-append asked_num (x.world.link 0 1) (m ∷ []) ∙ ap (λ v. asked_nums (x.world.link 0 1) ++ v) num)
        ∙ append_assoc (asked_nums (x.world.link 0 1)) (c.op ∷ []) (commands f g (drop 1 x.input))
        ∙ ap (λ v. asked_nums (x.world.link 0 1) ++ c.op ∷ v) left in
        record {
          nodes = record x.nodes { switch = (on_command s c).node };
          own = refl;
          others = others_same x.nodes (on_command s c).node;
          world = next;
          links = (command_takes f g.site g.packet (place g) x.world s are.switch.routes c m e).links;
          labels = ((refl, refl, is), tt);
          grows = same_grows (Msg.InCommand c) x.world.next;
          shown_is = after f g n x are (on_command s c).node x.world.target next.link [] (drop 1 x.input) switch (every_on f g n x are next every)
              (owners_on f g n x are [] refl) refl (rw rising rises);
        }

    pub command_leads : Leads f g n x (record { node = 0; port = 0; message = Msg.InCommand c }) (as_node Switch (on_command s c))
    command_leads = by_want (want_of (place g) c.op c.what) (want_share_of (place g) c.op c.what) refl refl
      where
        by_want : (o : Option MoveAsked) (k : Option ShareAsked) → want_of (place g) c.op c.what ≡ o → want_share_of (place g) c.op c.what ≡ k
            → Leads f g n x (record { node = 0; port = 0; message = Msg.InCommand c }) (as_node Switch (on_command s c))
        by_want (Some w) k a b = asked_leads (Old (net.Asked w)) (asked_move f (place g) c.op c.what w a) (ap (λ k. k ∷ [])
            (want_num c.op c.what (place g) w a)) (asks_move_every_all (S f g) (A f g) (is_sys f g.site g.packet) x.world (came_by f g x.log) are.every w)
        by_want None (Some w) a b =
            asked_leads (New (ShareMsg.Asked w)) (asked_share f (place g) c.op c.what w b) (ap (λ k. k ∷ []) (is_wanted (place g) c.op c.what w b).num)
            (asks_share_every_all (S f g) (A f g) (is_sys f g.site g.packet) x.world (came_by f g x.log) are.every w)
        by_want None None a b = unseen_leads (asked_none f (place g) c.op c.what a b)

  -- an item of the input that isn't seen
  pub item_leads : (m : Msg) (items : List Msg) (sends : List (ℕ × Msg)) → x.input ≡ m ∷ items → commands f g (m ∷ items) ≡ commands f g items
      → shown f g m ≡ None → outline_all f (place g) sends ≡ [] → EachSent (Label f g) 0 sends
      → Leads f g n x (record { node = 0; port = 0; message = m }) (record { node = Switch s; sends = sends; notes = [] })
  item_leads m items sends waits same unseen nothing labels =
      let left : commands f g (drop 1 x.input) ≡ commands f g x.input = ap (λ v. commands f g (drop 1 v)) waits ∙ sym same ∙ sym (ap (commands f g) waits) in
      quiet f g n x are 0 m s sends unseen nothing labels are.switch (rw left are.rising)

  -- a packet's cell comes home
  pub credit_leads : (p : ℕ) (cell : FullCell) → 2 ≤ p
      → Leads f g n x (record { node = 0; port = p; message = Msg.Credit cell }) (as_node Switch (on_credit s cell))
  credit_leads p cell two =
      let off : (0 == p) ≡ false = grind (arith, nat_tests, two) in
      let rising : Rising x.world.next (asked_nums (x.world.link 0 1) ++ commands f g (less_first ((0 == 0) && (0 == p)) x.input)) = rw off are.rising in
      split ((s.flying == 0) || not (cell.pool == s.pool.name))
      (λ b. Leads f g n x (record { node = 0; port = p; message = Msg.Credit cell })
      (as_node Switch (if b then still s else record { node = record s { pool = one_more s.pool; flying = s.flying - 1 }; sends = []; notes = [] })))
      (λ _. quiet f g n x are p (Msg.Credit cell) s [] refl refl tt are.switch rising)
      (λ _. quiet f g n x are p (Msg.Credit cell) (record s { pool = one_more s.pool; flying = s.flying - 1 }) [] refl refl tt
      (same_switch f g s _ x.world.target refl refl refl refl are.switch) rising)
