-- The switch's step in a world of the network with shares whose targets are those of its rules: so they are in the world after the abstract step.
use Rattle.proof_outlines.proofs.Words.{◌≡◌, ℕ, Bool, true, false, Option, Some, List, [], ◌++◌, refl, sym, ap, if◌then◌else◌, ◌==◌, nat_lt, Filter, Packet}
use Rattle.proof_outlines.proofs.Words.{Site, flow_of, Semantics, Target, AreFilters, FullCell, Command, instance_node, SwitchState, arrival_step, goes_to}
use Rattle.proof_outlines.proofs.Words.{has_room, target_of, on_packet, on_command, on_install, sends_to_instance, sent_for, links_after, everything, Any, Old}
use Rattle.proof_outlines.proofs.Words.{New, WholeWorld, ShareMsg, whole_switch, whole_input, asks, Mark, Msg, MoveMsg}
use Rattle.switch_node.specs.Switch.{Step, still}
use Rattle.proof_machines.proofs.unit.Real as real
use Rattle.proof_machines.proofs.net.Net as net
use Rattle.proof_outlines.proofs.outline.FiltersApart.{flow_fits, is_whole}
use Rattle.proof_outlines.proofs.outline.Outline.{number}
use Rattle.proof_outlines.proofs.whole.AskedShare.{command_all}
use Rattle.proof_outlines.proofs.whole.SwitchAll.{RoutesAll, routes_same, arrive_all, forward_shared, fence_all, install_moved, install_shared, routes_moved}
use Rattle.proof_outlines.proofs.whole.SwitchAll.{routes_shared}
use Rattle.proof_outlines.proofs.whole.WholeOutline.{asked_of, outline_all, S, A}

-- what a packet leaves of the switch's rules
record SameRules (s t : SwitchState) : Type 0 where
  rules : t.rules ≡ s.rules
  instances : t.instances ≡ s.instances

goes_same : (s : SwitchState) (p : Packet) (t : Target) → SameRules s (goes_to s p t).node
goes_same s p Target.Controller = record { rules = refl; instances = refl }
goes_same s p (Target.Instance i) =
    elim (nat_lt i s.instances) as (λ b. SameRules s (if b then arrival_step s p (instance_node i) (Msg.Carry Mark.Plain) else still s).node)
    [ true ↦ record { rules = refl; instances = refl } | false ↦ record { rules = refl; instances = refl } ]

packet_same : (s : SwitchState) (p : Packet) → SameRules s (on_packet s p).node
packet_same s p = elim (has_room s) as (λ b. SameRules s (if b then goes_to s p (target_of s p) else still s).node)
    [ true ↦ goes_same s p (target_of s p) | false ↦ record { rules = refl; instances = refl } ]

module _ {R : Type 0} (f : Semantics R) (site : Site) (packet : ℕ → Packet) (place : List ℕ → Option ℕ)
    (w : WholeWorld (S f site packet) (A f site packet)) where
  -- what a step of the switch leaves on a message from p
  pub record SwitchesTo (p : ℕ) (next : WholeWorld (S f site packet) (A f site packet)) (step : Step) : Type 0 where
    pub routes : RoutesAll f.kind step.node next.target
    pub links : (a b : ℕ) → next.link a b ≡ links_after w.link p 0 (outline_all f place step.sends) a b

  -- and on an item of the input
  pub record TakesIn (next : WholeWorld (S f site packet) (A f site packet)) (step : Step) : Type 0 where
    pub routes : RoutesAll f.kind step.node next.target
    pub links : (a b : ℕ) → next.link a b ≡ w.link a b ++ (if a == 0 then sent_for b (outline_all f place step.sends) else [])

  module _ (s : SwitchState) (routes : RoutesAll f.kind s w.target) where
    pub packet_takes : (q : Packet) → s.site ≡ site → q ≡ packet q.number → flow_fits (flow_of site q).0 ≡ true → has_room s ≡ true
        → TakesIn (whole_input (S f site packet) (A f site packet) w q.number) (on_packet s q)
    packet_takes q at genuine fits room =
        let same = packet_same s q in
        record {
          routes = routes_same f.kind s (on_packet s q).node w.target same.rules same.instances routes;
          links = λ a b. ap (λ sends. w.link a b ++ (if a == 0 then sent_for b sends else []))
              (sym (arrive_all f site packet place s w.target q at genuine fits routes room));
        }

    pub command_takes : (c : Command) (m : Any R) → asked_of f place c.op c.what ≡ Some m
        → TakesIn (asks (S f site packet) (A f site packet) w m) (on_command s c)
    command_takes c m e = record {
      routes = routes_same f.kind s (on_command s c).node w.target refl refl routes;
      links = λ a b. ap (λ sends. w.link a b ++ (if a == 0 then sent_for b sends else [])) (sym (command_all f place s c m e));
    }

    module _ (p : ℕ) where
      abbrev sent_as : (xs : List (ℕ × Any R)) → (a b : ℕ) → List (Any R)
      sent_as xs a b = links_after w.link p 0 xs a b

      pub shared_goes : (i op : ℕ) (home : Bool) (cell : FullCell) → nat_lt i s.instances ≡ true
          → SwitchesTo p (whole_switch (S f site packet) (A f site packet) w p (New (ShareMsg.Forward op home (number cell) (instance_node i))))
          (sends_to_instance s i (Msg.Carry (Mark.Shared op home) cell))
      shared_goes i op home cell there =
          record { routes = rw there routes; links = λ a b. ap (λ xs. sent_as xs a b) (sym (forward_shared f site packet place s i op home cell there)) }

      pub fence_goes : (i op : ℕ) → nat_lt i s.instances ≡ true → SwitchesTo p (whole_switch (S f site packet) (A f site packet) w p
          (Old (net.Of_move everything (MoveMsg.Fence_to op (instance_node i))))) (sends_to_instance s i (Msg.Fence op))
      fence_goes i op there = record { routes = rw there routes; links = λ a b. ap (λ xs. sent_as xs a b) (sym (fence_all f site packet place s i op there)) }

      pub move_installs : (op : ℕ) (g : Filter) (from to : ℕ) → AreFilters s.rules
          → is_whole f.kind g ≡ true → nat_lt from s.instances ≡ true → nat_lt to s.instances ≡ true
          → SwitchesTo p (whole_switch (S f site packet) (A f site packet) w p
          (Old (net.Of_move g (MoveMsg.Install op (instance_node from) (instance_node to)))))
          (on_install s op g from (Target.Instance to))
      move_installs op g from to filters whole a b = record {
        routes = routes_moved f site packet place s w.target op g from to filters whole a b routes;
        links = λ i j. ap (λ xs. sent_as xs i j) (sym (install_moved f site packet place s op g from to a b));
      }

      pub share_installs : (op : ℕ) (g : Filter) (from : ℕ) → AreFilters s.rules → is_whole f.kind g ≡ true → nat_lt from s.instances ≡ true → SwitchesTo p
          (whole_switch (S f site packet) (A f site packet) w p (New (ShareMsg.Install op g (instance_node from)))) (on_install s op g from Target.Controller)
      share_installs op g from filters whole a = record {
        routes = routes_shared f site packet place s w.target op g from filters whole a routes;
        links = λ i j. ap (λ xs. sent_as xs i j) (sym (install_shared f site packet place s op g from a));
      }
