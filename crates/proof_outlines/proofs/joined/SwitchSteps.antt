-- The switch's step on a message of a run leads from a world of a run to one.
use Rattle.proof_outlines.proofs.Words.{◌≡◌, ℕ, ◌-◌, Bool, true, Some, List, [], ◌∷◌, ◌++◌, refl, sym, ap, ◌∙◌, subst, arith, nat_lt, and_parts, Filter, Packet}
use Rattle.proof_outlines.proofs.Words.{Semantics, FullCell, Target, rules_redirected, Command, Msg, Note, instance_node, SwitchState, on_install}
use Rattle.proof_outlines.proofs.Words.{sends_to_instance, is_there, stop_messages, EachSent, everything, find_op, links_after, sw_target, Any, Old, New}
use Rattle.proof_outlines.proofs.Words.{ShareMsg, WholeWorld, whole_switch, share_target, EveryAll, switch_every_all, as_node, node_step, Switch, arrivals_in}
use Rattle.proof_outlines.proofs.Words.{dones_in, installs_in, Unit, Mark, FunctionLaws, MoveMsg}
use Rattle.switch_rules.proofs.RedirectLaws.{AreFilters-redirected}
use Rattle.proof_machines.proofs.unit.Real as real
use Rattle.proof_machines.proofs.net.Net as net
use Rattle.proof_machines.proofs.net.UntakenSwitch.{HandsAny}
use Rattle.proof_outlines.proofs.joined.Words.{filter_fits, filter_is, is_whole, takes_whole, unit_fits, number, is_sys, outline_all, is_sharing, RoutesAll}
use Rattle.proof_outlines.proofs.joined.Words.{stops_all, Given, place, IsInstall, IsDivert, loose_by, owner_by, target_by, Scene, AreShown, IsTaken, Leads}
use Rattle.proof_outlines.proofs.joined.Words.{IsSwitch, Label, Genuine, S, A, asked_nums, came_by, count, node_of, shown, same_grows}
use Rattle.proof_outlines.proofs.whole.SwitchWorlds.{move_installs, share_installs}
use Rattle.proof_outlines.proofs.joined.HandedUnits.{handed, handed_to_share, loose_begins, loose_stays, owner_at, plain_hands, plain_is}
use Rattle.proof_outlines.proofs.joined.LogLemmas.{came_more, every_same, loose_on, owners_on}
use Rattle.proof_outlines.proofs.joined.SwitchLemmas.{NoneAsked, after, nums_put, others_same, quiet, same_switch, stops_labels}
use Rattle.proof_outlines.proofs.joined.SwitchArrivals.{command_leads, credit_leads, item_leads, packet_leads}

module _ {F R : Type 0} (f : Semantics R) (g : Given) (n : ℕ) (x : Scene F f g) (are : AreShown f g n x) where
  abbrev s : SwitchState
  s = x.nodes.switch

  -- what the log tells after a message of the controller that the abstract network sees, which leaves these targets
  record Told (a : Any R) (to : Unit → ℕ) (notes : List Note) : Type 0 where
    still : arrivals_in notes ≡ []
    none : dones_in notes ≡ []
    owners : (u : Unit) → unit_fits f.kind u ≡ true → to u ≡ target_by g u (installs_in (x.log ++ notes))
    stays : (u : Unit) → loose_by g u (installs_in x.log) ≡ true → loose_by g u (installs_in (x.log ++ notes)) ≡ true
    hands : (u : Unit) → HandsAny (S f g) (A f g) (is_sys f g.site g.packet) u x.world a (loose_by g u (installs_in (x.log ++ notes)))

  -- the world after it
  abbrev sent_world : (Unit → ℕ) → List (ℕ × Any R) → WholeWorld (S f g) (A f g)
  sent_world to outs = record x.world { target = to; link = λ i j. links_after x.world.link 1 0 outs i j }

  -- such a message
  seen_step : (m : Msg) (a : Any R) (rest : List (Any R)) (t : SwitchState) (sends : List (ℕ × Msg)) (notes : List Note) (to : Unit → ℕ)
      → shown f g m ≡ Some a → x.world.link 1 0 ≡ a ∷ rest → whole_switch (S f g) (A f g) x.world 1 a ≡ sent_world to (outline_all f (place g) sends)
      → NoneAsked (outline_all f (place g) sends) → EachSent (Label f g) 0 sends → IsSwitch f g t to → Told a to notes
      → Leads f g n x (record { node = 0; port = 1; message = m }) (record { node = Switch t; sends = sends; notes = notes })
  seen_step m a rest t sends notes to seen waits next_is silent labels switch told =
      let outs : List (ℕ × Any R) = outline_all f (place g) sends in
      let next : WholeWorld (S f g) (A f g) = sent_world to outs in
      let moved = switch_every_all (S f g) (A f g) (is_sys f g.site g.packet) (is_sharing f g.site g.packet) x.world (came_by f g x.log)
      (λ u. loose_by g u (installs_in (x.log ++ notes))) are.every 1 a rest refl waits told.stays told.hands in
      let every = every_same (S f g) (A f g) (is_sys f g.site g.packet) next _ (came_by f g (x.log ++ notes))
      (λ u. sym (came_more f g x.log notes told.still u)) (subst (λ w. EveryAll (S f g) (A f g) (is_sys f g.site g.packet) w
      (λ u. record (came_by f g x.log u) { bared = loose_by g u (installs_in (x.log ++ notes)) })) next_is moved) in
      let same : asked_nums (next.link 0 1) ≡ asked_nums (x.world.link 0 1) = nums_put (x.world.link 0 1) 1 outs silent in
      record {
        nodes = record x.nodes { switch = t };
        own = refl;
        others = others_same x.nodes t;
        world = next;
        links = λ i j. rw seen refl;
        labels = labels;
        grows = same_grows m x.world.next;
        shown_is = after f g n x are t to next.link notes x.input switch every told.owners told.none (rw same are.rising);
      }

  -- a message that changes no rule
  told_nothing : (a : Any R)
      → ((u : Unit) → HandsAny (S f g) (A f g) (is_sys f g.site g.packet) u x.world a (loose_by g u (installs_in (x.log ++ []))))
      → Told a x.world.target []
  told_nothing a hands = record {
    still = refl;
    none = refl;
    owners = owners_on f g n x are [] refl;
    stays = λ u e. sym (loose_on f g n x are [] refl u) ∙ e;
    hands = hands;
  }

  there : (i : ℕ) → nat_lt i (count f g) ≡ true → nat_lt i s.instances ≡ true
  there i e = let same = are.switch.instances in rw same e

  passed_leads : (to op : ℕ) (cell : FullCell) (rest : List (Any R)) → nat_lt to (count f g) ≡ true → Genuine f g cell
      → x.world.link 1 0 ≡ Old (net.Of_move everything (MoveMsg.Forward (number cell) (instance_node to))) ∷ rest
      → Leads f g n x (record { node = 0; port = 1; message = Msg.Forward to (Mark.Pass op) cell })
      (as_node Switch (sends_to_instance s to (Msg.Carry (Mark.Pass op) cell)))
  passed_leads to op cell rest e genuine waits =
      rw (there to e) (seen_step (Msg.Forward to (Mark.Pass op) cell) _ rest s ((instance_node to, Msg.Carry (Mark.Pass op) cell) ∷ []) [] x.world.target refl
      waits refl (refl, tt) (((refl, omega arith), genuine), tt) are.switch (told_nothing _ (λ u h k from to e is _ _ _ _. cc)))

  shared_leads : (to op : ℕ) (home : Bool) (cell : FullCell) (rest : List (Any R)) → nat_lt to (count f g) ≡ true
      → Genuine f g cell → x.world.link 1 0 ≡ New (ShareMsg.Forward op home (number cell) (instance_node to)) ∷ rest
      → Leads f g n x (record { node = 0; port = 1; message = Msg.Forward to (Mark.Shared op home) cell })
      (as_node Switch (sends_to_instance s to (Msg.Carry (Mark.Shared op home) cell)))
  shared_leads to op home cell rest e genuine waits =
      rw (there to e) (seen_step (Msg.Forward to (Mark.Shared op home) cell) _ rest s ((instance_node to, Msg.Carry (Mark.Shared op home) cell) ∷ []) []
      x.world.target refl waits refl (refl, tt) (((refl, omega arith), genuine), tt) are.switch (told_nothing _ (λ u. tt)))

  fence_leads : (op to : ℕ) (rest : List (Any R)) → nat_lt to (count f g) ≡ true
      → x.world.link 1 0 ≡ Old (net.Of_move everything (MoveMsg.Fence_to op (instance_node to))) ∷ rest
      → Leads f g n x (record { node = 0; port = 1; message = Msg.FenceTo op to }) (as_node Switch (sends_to_instance s to (Msg.Fence op)))
  fence_leads op to rest e waits =
      rw (there to e) (seen_step (Msg.FenceTo op to) _ rest s ((instance_node to, Msg.Fence op) ∷ []) [] x.world.target refl waits refl (refl, tt)
      ((refl, omega arith), tt) are.switch (told_nothing _ (λ u h k from to e is _ _ _ _. cc)))

  -- A change of the rules
  abbrev changed : Filter → ℕ → Target → SwitchState
  changed filter from to = record s { rules = rules_redirected (record { filter = filter; from = Target.Instance from; to = to }) s.rules }

  install_is : (op : ℕ) (filter : Filter) (from : ℕ) (to : Target) → nat_lt from s.instances ≡ true → is_there s to ≡ true → on_install s op filter from to
      ≡ record { node = changed filter from to; sends = (instance_node from, Msg.Fence op) ∷ []; notes = Note.Installed op ∷ [] }
  install_is op filter from to a b = rw (a, b) refl

  changed_switch : (op : ℕ) (filter : Filter) (from : ℕ) (to : Target) (next : Unit → ℕ) → nat_lt from s.instances ≡ true → is_there s to ≡ true
      → is_whole f.kind filter ≡ true → RoutesAll f.kind (on_install s op filter from to).node next → IsSwitch f g (changed filter from to) next
  changed_switch op filter from to next a b whole routes = record {
    site = are.switch.site;
    instances = are.switch.instances;
    filters = AreFilters-redirected (record { filter = filter; from = Target.Instance from; to = to }) s.rules are.switch.filters
        (filter_is filter (and_parts (filter_fits filter) _ whole).0);
    routes = subst (λ st. RoutesAll f.kind st.node next) (install_is op filter from to a b) routes;
    pool = are.switch.pool;
  }

  told_install : (op : ℕ) (filter : Filter) (from to : ℕ) → is_whole f.kind filter ≡ true
      → IsInstall g op (record { filter = filter; from = from; to = Target.Instance to })
      → Told (Old (net.Of_move filter (MoveMsg.Install op (instance_node from) (instance_node to))))
      (λ v. sw_target (S f g) x.world.target (net.Of_move filter (MoveMsg.Install op (instance_node from) (instance_node to))) v) (Note.Installed op ∷ [])
  told_install op filter from to whole its = record {
    still = refl;
    none = refl;
    owners = λ u fits. handed f g op filter from to its x.world.target u fits x.log whole (are.owners u fits);
    stays = λ u e. loose_stays g u x.log op e;
    hands = λ u h k src dst e same there plain taken at.
        (let number : op ≡ k = cc in let is_from : instance_node from ≡ src = cc in let is_filter : filter ≡ h = cc in
        let takes_it : takes_whole f.kind filter u ≡ true = ap (λ y. takes_whole f.kind y u) is_filter ∙ taken in
        let fits : unit_fits f.kind u ≡ true = (and_parts (unit_fits f.kind u) _ (and_parts (is_whole f.kind filter) _ takes_it).1).0 in
        let owns : owner_by g u (installs_in x.log) ≡ from = owner_at g u (installs_in x.log) from (sym (are.owners u fits) ∙ at ∙ sym is_from) in
        loose_begins g u x.log op (plain_hands f g op filter from to its u (owner_by g u (installs_in x.log))
        (and_parts (unit_fits f.kind u) _ ((and_parts (is_whole f.kind filter) _ takes_it).1)).1 owns
        (plain_is f g x.nodes.controller x.world.ops x.world.shares x.world.next are.controller op e (ap (find_op x.world.ops) number ∙ there) plain
        its.plan its.plan_is)));
  }

  install_leads : (op : ℕ) (filter : Filter) (from to : ℕ) (rest : List (Any R)) → nat_lt from (count f g) ≡ true → nat_lt to (count f g) ≡ true
      → is_whole f.kind filter ≡ true → IsInstall g op (record { filter = filter; from = from; to = Target.Instance to })
      → x.world.link 1 0 ≡ Old (net.Of_move filter (MoveMsg.Install op (instance_node from) (instance_node to))) ∷ rest
      → Leads f g n x (record { node = 0; port = 1; message = Msg.Install op filter from (Target.Instance to) })
      (as_node Switch (on_install s op filter from (Target.Instance to)))
  install_leads op filter from to rest a b whole its waits =
      let goes = move_installs f g.site g.packet (place g) x.world s are.switch.routes 1 op filter from to are.switch.filters whole (there from a)
      (there to b) in
      subst (λ st. Leads f g n x (record { node = 0; port = 1; message = Msg.Install op filter from (Target.Instance to) }) (as_node Switch st))
      (sym (install_is op filter from (Target.Instance to) (there from a) (there to b)))
      (seen_step (Msg.Install op filter from (Target.Instance to)) _ rest (changed filter from (Target.Instance to))
      ((instance_node from, Msg.Fence op) ∷ []) (Note.Installed op ∷ []) _ refl waits refl (refl, tt) ((refl, omega arith), tt)
      (changed_switch op filter from (Target.Instance to) _ (there from a) (there to b) whole goes.routes) (told_install op filter from to whole its))

  -- to the controller, for a share
  told_divert : (op : ℕ) (filter : Filter) (from : ℕ) → is_whole f.kind filter ≡ true → IsDivert g op filter from
      → Told (New (ShareMsg.Install op filter (instance_node from)))
      (λ v. share_target (S f g) (A f g) x.world.target (ShareMsg.Install op filter (instance_node from)) v) (Note.Installed op ∷ [])
  told_divert op filter from whole its = record {
    still = refl;
    none = refl;
    owners = λ u fits. handed_to_share f g op filter from its x.world.target u fits x.log whole (are.owners u fits);
    stays = λ u e. loose_stays g u x.log op e;
    hands = λ u. tt;
  }

  divert_leads : (op : ℕ) (filter : Filter) (from : ℕ) (rest : List (Any R)) → nat_lt from (count f g) ≡ true
      → is_whole f.kind filter ≡ true → IsDivert g op filter from → x.world.link 1 0 ≡ New (ShareMsg.Install op filter (instance_node from)) ∷ rest
      → Leads f g n x (record { node = 0; port = 1; message = Msg.Install op filter from Target.Controller })
      (as_node Switch (on_install s op filter from Target.Controller))
  divert_leads op filter from rest a whole its waits =
      let goes = share_installs f g.site g.packet (place g) x.world s are.switch.routes 1 op filter from are.switch.filters whole (there from a) in
      subst (λ st. Leads f g n x (record { node = 0; port = 1; message = Msg.Install op filter from Target.Controller }) (as_node Switch st))
      (sym (install_is op filter from Target.Controller (there from a) refl))
      (seen_step (Msg.Install op filter from Target.Controller) _ rest (changed filter from Target.Controller)
      ((instance_node from, Msg.Fence op) ∷ []) (Note.Installed op ∷ []) _ refl waits refl (refl, tt) ((refl, omega arith), tt)
      (changed_switch op filter from Target.Controller _ (there from a) refl whole goes.routes) (told_divert op filter from whole its))

-- the messages that come to the switch in a run
data Comes (m : Msg) : Type 0 where
  Packet_in : (q : Packet) → m ≡ Msg.InPacket q → Comes m
  Command_in : (c : Command) → m ≡ Msg.InCommand c → Comes m
  Settle_in : m ≡ Msg.InSettle → Comes m
  End_in : m ≡ Msg.InEnd → Comes m
  Passes : (to op : ℕ) (cell : FullCell) → m ≡ Msg.Forward to (Mark.Pass op) cell → Comes m
  Shares_out : (to op : ℕ) (home : Bool) (cell : FullCell) → m ≡ Msg.Forward to (Mark.Shared op home) cell → Comes m
  Installs : (op : ℕ) (filter : Filter) (from to : ℕ) → m ≡ Msg.Install op filter from (Target.Instance to) → Comes m
  Diverts : (op : ℕ) (filter : Filter) (from : ℕ) → m ≡ Msg.Install op filter from Target.Controller → Comes m
  Fences : (op to : ℕ) → m ≡ Msg.FenceTo op to → Comes m
  Answers : (op : ℕ) → m ≡ Msg.Answered op → Comes m
  Finishes : m ≡ Msg.Finish → Comes m
  Credits : (cell : FullCell) → m ≡ Msg.Credit cell → Comes m

module _ {R : Type 0} (f : Semantics R) (g : Given) where
  -- by the labels no other comes
  comes : (p : ℕ) (m : Msg) → Label f g p 0 m → Comes m
  comes p (Msg.InPacket q) e = Packet_in q refl
  comes p (Msg.InCommand c) e = Command_in c refl
  comes p Msg.InSettle e = Settle_in refl
  comes p Msg.InEnd e = End_in refl
  comes p (Msg.Forward to Mark.Plain cell) e = let never = e.2 in cc
  comes p (Msg.Forward to (Mark.Pass op) cell) e = Passes to op cell refl
  comes p (Msg.Forward to (Mark.Shared op home) cell) e = Shares_out to op home cell refl
  comes p (Msg.Install op filter from (Target.Instance to)) e = Installs op filter from to refl
  comes p (Msg.Install op filter from Target.Controller) e = Diverts op filter from refl
  comes p (Msg.FenceTo op to) e = Fences op to refl
  comes p (Msg.Answered op) e = Answers op refl
  comes p Msg.Finish e = Finishes refl
  comes p (Msg.Credit cell) e = Credits cell refl
  comes p m e = absurd (first_of (assumption, omega arith))

module _ {F R : Type 0} (f : Semantics R) (g : Given) (n : ℕ) (x : Scene F f g) where
  -- a step on a message from a port leads to a world of a run
  abbrev Does : ℕ → Msg → Type 0
  Does p m = IsTaken f g n x (record { node = 0; port = p; message = m })
      → Leads f g n x (record { node = 0; port = p; message = m }) (node_step f (node_of x.nodes 0) p m)

  at_port : (m k : Msg) (p port : ℕ) → m ≡ k → (Label f g p 0 k → p ≡ port) → Does port k → Does p m
  at_port m k p port same from d = subst (Does p) (sym same) (λ is. subst (λ i. Does i k) (sym (from is.label)) d is)

  module _ (are : AreShown f g n x) where
    abbrev waiting_less : SwitchState
    waiting_less = record x.nodes.switch { waiting = x.nodes.switch.waiting - 1 }

    abbrev closed : SwitchState
    closed = record x.nodes.switch { closed = true }

    does : (p : ℕ) (m : Msg) → Comes m → Does p m
    does p m (Packet_in q e) = at_port m (Msg.InPacket q) p 0 e (λ l. l.0.0)
        (λ t. packet_leads f g n x are q t.items t.label.1 (t.ready refl refl) (t.item refl refl))
    does p m (Command_in c e) = at_port m (Msg.InCommand c) p 0 e (λ l. l.0.0) (λ t. command_leads f g n x are c t.items t.label.1 (t.item refl refl))
    does p m (Settle_in e) = at_port m Msg.InSettle p 0 e (λ l. l.0)
        (λ t. item_leads f g n x are Msg.InSettle t.items [] (t.item refl refl) refl refl refl tt)
    does p m (End_in e) = at_port m Msg.InEnd p 0 e (λ l. l.0)
        (λ t. item_leads f g n x are Msg.InEnd t.items ((1, Msg.End) ∷ []) (t.item refl refl) refl refl refl ((refl, refl), tt))
    does p m (Passes to op cell e) = at_port m (Msg.Forward to (Mark.Pass op) cell) p 1 e (λ l. l.0.0)
        (λ t. passed_leads f g n x are to op cell t.rest t.label.1 t.label.3 (t.head refl _ refl))
    does p m (Shares_out to op home cell e) = at_port m (Msg.Forward to (Mark.Shared op home) cell) p 1 e (λ l. l.0.0)
        (λ t. shared_leads f g n x are to op home cell t.rest t.label.1 t.label.3 (t.head refl _ refl))
    does p m (Installs op filter from to e) = at_port m (Msg.Install op filter from (Target.Instance to)) p 1 e (λ l. l.0.0)
        (λ t. install_leads f g n x are op filter from to t.rest t.label.1 t.label.2 t.label.3 t.label.4 (t.head refl _ refl))
    does p m (Diverts op filter from e) = at_port m (Msg.Install op filter from Target.Controller) p 1 e (λ l. l.0.0)
        (λ t. divert_leads f g n x are op filter from t.rest t.label.1 t.label.3 t.label.4 (t.head refl _ refl))
    does p m (Fences op to e) = at_port m (Msg.FenceTo op to) p 1 e (λ l. l.0.0)
        (λ t. fence_leads f g n x are op to t.rest t.label.1 (t.head refl _ refl))
    does p m (Answers op e) = at_port m (Msg.Answered op) p 1 e (λ l. l.0) (λ _. quiet f g n x are 1 (Msg.Answered op) waiting_less [] refl refl tt
        (same_switch f g x.nodes.switch waiting_less x.world.target refl refl refl refl are.switch) are.rising)
    does p m (Finishes e) = at_port m Msg.Finish p 1 e (λ l. l.0) (λ _. quiet f g n x are 1 Msg.Finish closed (stop_messages x.nodes.switch.instances)
        refl (stops_all f g.site g.packet (place g) x.nodes.switch.instances) (stops_labels f g x.nodes.switch.instances)
        (same_switch f g x.nodes.switch closed x.world.target refl refl refl refl are.switch) are.rising)
    does p m (Credits cell e) = at_port m (Msg.Credit cell) p p e (λ _. refl) (λ t. credit_leads f g n x are p cell t.label.0)

module _ {F R : Type 0} (f : Semantics R) (laws : FunctionLaws f) (g : Given) where
  pub switch_leads : (n : ℕ) (x : Scene F f g) (p : ℕ) (m : Msg) → AreShown f g n x → IsTaken f g n x (record { node = 0; port = p; message = m })
      → Leads f g n x (record { node = 0; port = p; message = m }) (node_step f (node_of x.nodes 0) p m)
  switch_leads n x p m are is = does f g n x are p m (comes f g p m is.label) is
