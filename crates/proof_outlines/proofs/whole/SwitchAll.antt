-- The outline of what the switch sends, and of its rules after a change, with the controller among the targets: they are the sends and
-- routes of the network with shares.
use Rattle.proof_outlines.proofs.Words.{◌≡◌, ℕ, zero, suc, Bool, true, false, Option, Some, List, [], ◌∷◌, ◌++◌, refl, sym, ap, ◌∙◌, arith, if◌then◌else◌, ◌&&◌}
use Rattle.proof_outlines.proofs.Words.{◌==◌, nat_lt, option_map, unwrap_or, nat_tests, and_parts, Filter, Flow, Packet, Site, matches, flow_of, Kind, unit_of}
use Rattle.proof_outlines.proofs.Words.{Semantics, unit_at, Target, first_match, target_eq, Redirect, redirected_target, rules_redirected, AreFilters, FullCell}
use Rattle.proof_outlines.proofs.Words.{controller_node, instance_node, SwitchState, has_room, is_there, goes_to, on_packet, on_install, sends_to_instance}
use Rattle.proof_outlines.proofs.Words.{stop_messages, target_of, sw_target, sw_sends, everything, as_old, arrive_sends, share_target, share_sends, ShareMsg}
use Rattle.proof_outlines.proofs.Words.{split, Unit, Mark, Msg, MoveMsg}
use Rattle.switch_rules.proofs.RedirectLaws.{redirected_law}
use Rattle.proof_machines.proofs.unit.Real as real
use Rattle.proof_machines.proofs.net.Net as net
use Rattle.proof_outlines.proofs.outline.FiltersApart.{filter_fits, filter_is, flow_fits, flow_is, is_whole, takes_whole, whole_takes}
use Rattle.proof_outlines.proofs.outline.InstanceOutline.{filter_map-put}
use Rattle.proof_outlines.proofs.outline.Outline.{number, sys}
use Rattle.proof_outlines.proofs.whole.WholeOutline.{outline_each, outline_all, sharing}

-- the node that a target is
abbrev pub target_node : Target → ℕ
target_node (Target.Instance i) = instance_node i
target_node Target.Controller = controller_node

-- where the rules send a flow: to a target that is there, which is that of its unit
pub record GoesToTarget (kind : Kind) (s : SwitchState) (to : Unit → ℕ) (flow : Flow) : Type 0 where
  pub target : Target
  pub first : first_match s.rules flow ≡ Some target
  pub node : to (unit_of kind flow) ≡ target_node target
  pub there : is_there s target ≡ true

abbrev pub RoutesAll : Kind → SwitchState → (Unit → ℕ) → Type 0
RoutesAll kind s to = (flow : Flow) → flow_fits flow ≡ true → GoesToTarget kind s to flow

-- a switch that has the same rules and instances
pub routes_same : (kind : Kind) (s t : SwitchState) (to : Unit → ℕ) → t.rules ≡ s.rules → t.instances ≡ s.instances → RoutesAll kind s to
    → RoutesAll kind t to
routes_same kind s t to rules instances routes flow fits =
    let o = routes flow fits in record { target = o.target; first = rw rules o.first; node = o.node; there = there o.target o.there }
  where
    there : (k : Target) → is_there s k ≡ true → is_there t k ≡ true
    there (Target.Instance i) e = rw instances e
    there Target.Controller e = refl

pub same_node : (i j : ℕ) → (i == j) ≡ (instance_node i == instance_node j)
same_node i j = split (i == j) (λ b. b ≡ (instance_node i == instance_node j)) (λ e. grind (arith, nat_tests)) (λ e. grind (arith, nat_tests))

-- targets are equal where their nodes are
same_target : (t : Target) (from : ℕ) → target_eq t (Target.Instance from) ≡ (target_node t == instance_node from)
same_target (Target.Instance i) from = same_node i from
same_target Target.Controller from = let off : (1 == instance_node from) ≡ false = grind (arith, nat_tests) in sym off

module _ {R : Type 0} (f : Semantics R) (site : Site) (packet : ℕ → Packet) (place : List ℕ → Option ℕ) where
  -- a packet of the input, by its target
  sent_to : (s : SwitchState) (p : Packet) (t : Target) → is_there s t ≡ true
      → outline_all f place (goes_to s p t).sends ≡ arrive_sends (sys f site packet) (sharing f site packet) (target_node t) p.number
  sent_to s p (Target.Instance i) there = let off : (instance_node i == 1) ≡ false = grind (arith, nat_tests) in rw (there, off) refl
  sent_to s p Target.Controller there = refl

  pub arrive_all : (s : SwitchState) (to : Unit → ℕ) (p : Packet) → s.site ≡ site → p ≡ packet p.number
      → flow_fits (flow_of site p).0 ≡ true → RoutesAll f.kind s to → has_room s ≡ true → outline_all f place (on_packet s p).sends
      ≡ arrive_sends (sys f site packet) (sharing f site packet) (to (unit_at f.kind site (packet p.number))) p.number
  arrive_all s to p at genuine fits routes room =
      let o = routes (flow_of site p).0 fits in
      let found : target_of s p ≡ o.target = ap (λ x. unwrap_or (first_match s.rules (flow_of x p).0) (Target.Instance 0)) at
      ∙ ap (λ t. unwrap_or t (Target.Instance 0)) o.first in
      let node : to (unit_at f.kind site (packet p.number)) ≡ target_node o.target = ap (λ q. to (unit_at f.kind site q)) (sym genuine) ∙ o.node in
      rw (room, found, node) (sent_to s p o.target o.there)

  pub forward_shared : (s : SwitchState) (i op : ℕ) (home : Bool) (cell : FullCell) → nat_lt i s.instances ≡ true
      → outline_all f place (sends_to_instance s i (Msg.Carry (Mark.Shared op home) cell)).sends
      ≡ share_sends (sys f site packet) (sharing f site packet) (ShareMsg.Forward op home (number cell) (instance_node i))
  forward_shared s i op home cell there = rw there refl

  pub fence_all : (s : SwitchState) (i op : ℕ) → nat_lt i s.instances ≡ true
      → outline_all f place (sends_to_instance s i (Msg.Fence op)).sends ≡ as_old (sw_sends (net.Of_move everything (MoveMsg.Fence_to op (instance_node i))))
  fence_all s i op there = rw there refl

  pub install_moved : (s : SwitchState) (op : ℕ) (g : Filter) (from to : ℕ) → nat_lt from s.instances ≡ true → nat_lt to s.instances ≡ true → outline_all f
      place (on_install s op g from (Target.Instance to)).sends ≡ as_old (sw_sends (net.Of_move g (MoveMsg.Install op (instance_node from) (instance_node to))))
  install_moved s op g from to a b = rw (a, b) refl

  pub install_shared : (s : SwitchState) (op : ℕ) (g : Filter) (from : ℕ) → nat_lt from s.instances ≡ true → outline_all f place
      (on_install s op g from Target.Controller).sends ≡ share_sends (sys f site packet) (sharing f site packet) (ShareMsg.Install op g (instance_node from))
  install_shared s op g from a = rw a refl

  -- stops aren't seen
  pub stops_all : (k : ℕ) → outline_all f place (stop_messages k) ≡ []
  stops_all zero = refl
  stops_all (suc k) = filter_map-put (outline_each f place) (stop_messages k) ((instance_node k, Msg.Stop) ∷ []) ∙ ap (λ v. v ++ []) (stops_all k)

  -- the routes after a change of the rules
  routes_next : (s : SwitchState) (to : Unit → ℕ) (op : ℕ) (g : Filter) (from : ℕ) (dst : Target) → AreFilters s.rules
      → is_whole f.kind g ≡ true → nat_lt from s.instances ≡ true → is_there s dst ≡ true → RoutesAll f.kind s to
      → RoutesAll f.kind (on_install s op g from dst).node (λ u. if takes_whole f.kind g u && (to u == instance_node from) then target_node dst else to u)
  routes_next s to op g from dst filters whole a b routes flow fits = rw (a, b) (by_test (matches g flow && target_eq old.target (Target.Instance from)) refl)
    where
      r : Redirect
      r = record { filter = g; from = Target.Instance from; to = dst }

      old : GoesToTarget f.kind s to flow
      old = routes flow fits

      taken : takes_whole f.kind g (unit_of f.kind flow) ≡ matches g flow
      taken = whole_takes f.kind g flow whole fits

      next : first_match (rules_redirected r s.rules) flow ≡ Some (redirected_target r flow old.target)
      next = redirected_law r s.rules filters (filter_is g (and_parts (filter_fits g) _ whole).0) flow (flow_is flow fits)
          ∙ ap (option_map (redirected_target r flow)) old.first

      test : (takes_whole f.kind g (unit_of f.kind flow) && (to (unit_of f.kind flow) == instance_node from))
          ≡ (matches g flow && target_eq old.target (Target.Instance from))
      test = ap (λ t. t && (to (unit_of f.kind flow) == instance_node from)) taken ∙ ap (λ k. matches g flow && (k == instance_node from)) old.node
          ∙ ap (λ t. matches g flow && t) (sym (same_target old.target from))

      by_test : (t : Bool) → (matches g flow && target_eq old.target (Target.Instance from)) ≡ t → GoesToTarget f.kind (record s {
        rules = rules_redirected r s.rules;
      }) (λ u. if takes_whole f.kind g u && (to u == instance_node from) then target_node dst else to u) flow
      by_test true e = record {
        target = dst;
        first = next ∙ ap (λ t. Some (if t then dst else old.target)) e;
        node = ap (λ t. if t then target_node dst else to (unit_of f.kind flow)) (test ∙ e);
        there = b;
      }
      by_test false e = record {
        target = old.target;
        first = next ∙ ap (λ t. Some (if t then dst else old.target)) e;
        node = ap (λ t. if t then target_node dst else to (unit_of f.kind flow)) (test ∙ e) ∙ old.node;
        there = old.there;
      }

  -- after that of a move, and of a share
  pub routes_moved : (s : SwitchState) (to : Unit → ℕ) (op : ℕ) (g : Filter) (from dst : ℕ) → AreFilters s.rules → is_whole f.kind g ≡ true
      → nat_lt from s.instances ≡ true → nat_lt dst s.instances ≡ true → RoutesAll f.kind s to → RoutesAll f.kind (on_install s op g from
      (Target.Instance dst)).node (λ u. sw_target (sys f site packet) to (net.Of_move g (MoveMsg.Install op (instance_node from) (instance_node dst))) u)
  routes_moved s to op g from dst filters whole a b routes = routes_next s to op g from (Target.Instance dst) filters whole a b routes

  pub routes_shared : (s : SwitchState) (to : Unit → ℕ) (op : ℕ) (g : Filter) (from : ℕ) → AreFilters s.rules → is_whole f.kind g ≡ true
      → nat_lt from s.instances ≡ true → RoutesAll f.kind s to → RoutesAll f.kind (on_install s op g from Target.Controller).node
      (λ u. share_target (sys f site packet) (sharing f site packet) to (ShareMsg.Install op g (instance_node from)) u)
  routes_shared s to op g from filters whole a routes = routes_next s to op g from Target.Controller filters whole a refl routes
