-- In every run the open operations of the controller are the commands that keep others off, and what it knows of a move is what its order says.
use Rattle.nf_net.proofs.Words.{◌≡◌, ℕ, ◌+◌, true, false, Some, None, List, length, refl, Msg, Note, MoveState, Move, Choice, Network, Node, order_numbered}
use Rattle.nf_net.proofs.Words.{is_busy, keeps_off, given, IsPlan, Joined, Setting, IsCourse, world_of}
use Rattle.std.specs.FinMap as finite
use Rattle.nf_net.proofs.answers.BusyRuns.{keeps_is, open_busy, closed_busy, plan_is}
use Rattle.nf_net.proofs.answers.CommandPromises.{run_busy}

module _ {F R : Type 0} (setting : Setting F R) where
  open setting use {function as f, config as c, items}

  pub record AreUnderWay (n : ℕ) (w : Network (Node F R) Msg Note) (j : Joined f (given setting) n w) : Type 0 where
    -- the open operations are the commands that keep others off
    pub keeps_is : (op : ℕ) → finite.contains_key j.nodes.controller.operations op ≡ keeps_off c.names (order_numbered items) op w.log
    -- the command of an open move is under way, and one whose operation isn't open isn't
    pub open_busy : (op : ℕ) (m : MoveState) → finite.get j.nodes.controller.operations op ≡ Some (Move m) → is_busy op w.log ≡ true
    pub closed_busy : (op : ℕ) → finite.get j.nodes.controller.operations op ≡ None → is_busy op w.log ≡ false
    -- an open move's plan is that of its number's order
    pub plan_is : (op : ℕ) (m : MoveState) → finite.get j.nodes.controller.operations op ≡ Some (Move m) → IsPlan (given setting) op m.plan

module _ {F R : Type 0} (setting : Setting F R) where
  open setting use {function as f, config as c}

  pub moves_under_way : (cs : List Choice) → IsCourse setting cs → (j : Joined f (given setting) (length c.names + 2) (world_of setting cs))
      → AreUnderWay setting (length c.names + 2) (world_of setting cs) j
  moves_under_way cs run_is j =
      let w = world_of setting cs in
      let b = (run_busy setting cs run_is).1 in
      record {
        keeps_is = keeps_is f (given setting) (length c.names + 2) refl w j b;
        open_busy = λ op m there. open_busy f (given setting) (length c.names + 2) refl w j b op (Move m) there refl;
        closed_busy = closed_busy f (given setting) (length c.names + 2) refl w j b;
        plan_is = plan_is f (given setting) (length c.names + 2) refl w j b;
      }
