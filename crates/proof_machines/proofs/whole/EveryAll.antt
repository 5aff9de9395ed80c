-- The invariant of the whole world: what holds of all units at once, and for every unit where it is and that its records which stand by or are in
-- chunks are folds of fronts of what was done. Each step keeps it, and so does each begin.
use Rattle.proof_machines.proofs.net.Words.{◌≡◌, ℕ, ◌≤◌, Bool, true, false, List, ◌∷◌, ◌==◌, Filter, Asked, MoveAsked, Sys, IsSys, TakesSome, GlobalAll, Any}
use Rattle.proof_machines.proofs.net.Words.{Old, New, ShareMsg, ShareAsked, Sharing, IsSharing, WholeWorld, moves_of, whole_inst, whole_ctrl, whole_switch}
use Rattle.proof_machines.proofs.net.Words.{whole_input, asks, begin_move, begin_share, puts_get, keeps, meets_shares, MayShare, ran_of, SeeingShare, Unit}
use Rattle.proof_machines.proofs.net.Units.{May}
use Rattle.proof_machines.proofs.net.GlobalSteps.{inst_keeps, ctrl_keeps, switch_keeps, input_keeps}
use Rattle.proof_machines.proofs.net.GlobalBegins.{begin_keeps, share_keeps, get_keeps, keeps_keeps, asks_move_keeps, asks_share_keeps}
use Rattle.proof_machines.proofs.net.UntakenSwitch.{HandsAny}
use Rattle.proof_machines.proofs.net.UnderSwitch.{NoDiverts}
use Rattle.proof_machines.proofs.whole.WhereAll.{Came, WhereAll, comes, diverted_all, still_all, inst_all, ctrl_all, switch_all, input_all, begin_all, get_all}
use Rattle.proof_machines.proofs.whole.WhereAll.{asks_move_all, asks_share_all, keeps_all, share_all}
use Rattle.proof_machines.proofs.whole.Fronts.{FrontOf, Fronts, front_by}
use Rattle.proof_machines.proofs.whole.FrontSteps.{inst_fronts, ctrl_fronts, switch_fronts, input_fronts, move_fronts, share_fronts, get_fronts}
use Rattle.proof_machines.proofs.whole.FrontSteps.{asks_move_fronts, asks_share_fronts, keeps_fronts}

module _ {R : Type 0} (S : Sys R) (A : Sharing S) (laws : IsSys S) where
  pub record EveryAll (w : WholeWorld S A) (came : Unit → Came) : Type 0 where
    pub global : GlobalAll S A w
    pub unit : (u : Unit) → WhereAll S A laws u w (came u)
    pub fronts : (u : Unit) → Fronts S A laws u w

  -- units whose packets go to the controller are taken by shares
  pub diverted : (w : WholeWorld S A) (came : Unit → Came) → EveryAll w came → (v : Unit) → w.target v ≡ 1 → TakesSome S w.shares v
  diverted w came h v one = diverted_all S A laws v w (came v) (h.unit v) one

  pub inst_every_all : IsSharing S A → (w : WholeWorld S A) (came : Unit → Came) → EveryAll w came → (p y : ℕ) (m : Any R) (rest : List (Any R))
      → (y == 0) ≡ false → (y == 1) ≡ false → w.link p y ≡ m ∷ rest → EveryAll (whole_inst S A w p y m) came
  inst_every_all ok w came h p y m rest y0 y1 waits = record {
    global = inst_keeps S A laws w h.global p y m rest y0 waits;
    unit = λ u. inst_all S A laws u ok w (came u) h.global p y m rest y0 y1 waits (h.unit u);
    fronts = λ u. inst_fronts S A laws u ok w (came u) h.global p y rest y0 y1 (h.unit u) (h.fronts u) m waits;
  }

  pub ctrl_every_all : IsSharing S A → (w : WholeWorld S A) (came : Unit → Came) → EveryAll w came → (p : ℕ) (m : Any R) (rest : List (Any R))
      → w.link p 1 ≡ m ∷ rest → EveryAll (whole_ctrl S A w p m) came
  ctrl_every_all ok w came h p m rest waits = record {
    global = ctrl_keeps S A laws ok w h.global p m rest waits;
    unit = λ u. ctrl_all S A laws u ok w (came u) h.global p m rest waits (h.unit u);
    fronts = λ u. ctrl_fronts S A laws u w h.global (h.fronts u) p m rest waits;
  }

  none_diverts : (w : WholeWorld S A) (came : Unit → Came) → EveryAll w came → (p : ℕ) (m : Any R) (rest : List (Any R)) → (p == 0) ≡ false
      → w.link p 0 ≡ m ∷ rest → (z : SeeingShare) → NoDiverts S A laws z w m
  none_diverts w came h p (Old m) rest p0 waits z = λ v one. still_all S A laws v w (came v) h.global p m rest p0 waits (h.unit v) one
  none_diverts w came h p (New m) rest p0 waits z = tt

  -- the switch's step, by what it says of the units that a move without a buffer hands on
  pub switch_every_all : IsSharing S A → (w : WholeWorld S A) (came : Unit → Came) (bared : Unit → Bool) → EveryAll w came
      → (p : ℕ) (m : Any R) (rest : List (Any R)) → (p == 0) ≡ false → w.link p 0 ≡ m ∷ rest → ((u : Unit) → (came u).bared ≡ true → bared u ≡ true)
      → ((u : Unit) → HandsAny S A laws u w m (bared u)) → EveryAll (whole_switch S A w p m) (λ u. record (came u) { bared = bared u })
  switch_every_all ok w came bared h p m rest p0 waits grows hands = record {
    global = switch_keeps S A laws w h.global p m rest p0 waits;
    unit = λ u. switch_all S A laws u ok w (came u) (bared u) h.global p m rest p0 waits (grows u) (hands u) (none_diverts w came h p m rest p0 waits)
        (h.unit u);
    fronts = λ u. switch_fronts S A laws u w (h.fronts u) p m;
  }

  pub input_every_all : IsSharing S A → (w : WholeWorld S A) (came : Unit → Came) → EveryAll w came → (q : ℕ)
      → EveryAll (whole_input S A w q) (λ u. comes S A laws u w q (came u))
  input_every_all ok w came h q = record {
    global = input_keeps S A laws w h.global q (diverted w came h (S.packet_unit q));
    unit = λ u. input_all S A laws u ok w (came u) h.global q (h.unit u);
    fronts = λ u. input_fronts S A laws u w (h.fronts u) q;
  }

  -- Commands go to the controller
  pub asks_move_every_all : (w : WholeWorld S A) (came : Unit → Came) → EveryAll w came → (x : MoveAsked) → EveryAll (asks S A w (Old (Asked x))) came
  asks_move_every_all w came h x = record {
    global = asks_move_keeps S A laws w h.global x;
    unit = λ u. asks_move_all S A laws u w (came u) h.global x (h.unit u);
    fronts = λ u. asks_move_fronts S A laws u w (h.fronts u) x;
  }

  pub asks_share_every_all : (w : WholeWorld S A) (came : Unit → Came) → EveryAll w came → (x : ShareAsked)
      → EveryAll (asks S A w (New (ShareMsg.Asked x))) came
  asks_share_every_all w came h x = record {
    global = asks_share_keeps S A laws w h.global x;
    unit = λ u. asks_share_all S A laws u w (came u) x (h.unit u);
    fronts = λ u. asks_share_fronts S A laws u w (h.fronts u) x;
  }

  -- Begins: of a move, of a share, of a copy, whose records an instance keeps
  pub move_every_all : (w : WholeWorld S A) (came : Unit → Came) → EveryAll w came → (x : MoveAsked) → May S (moves_of S A w) x
      → meets_shares S A x.filter w.shares ≡ false → EveryAll (begin_move S A w x) came
  move_every_all w came h x may meets = record {
    global = begin_keeps S A laws w h.global x may.fresh meets;
    unit = λ u. begin_all S A laws u w (came u) h.global x may meets (h.unit u);
    fronts = λ u. move_fronts S A laws u w (h.fronts u) x;
  }

  pub share_every_all : IsSharing S A → (w : WholeWorld S A) (came : Unit → Came) → EveryAll w came → (x : ShareAsked) → MayShare S A w x
      → EveryAll (begin_share S A w x) came
  share_every_all ok w came h x may = record {
    global = share_keeps S A laws w h.global x may;
    unit = λ u. share_all S A laws u ok w (came u) h.global x may (diverted w came h) (λ _. front_by S A laws u w (h.fronts u)) (h.unit u);
    fronts = λ u. share_fronts S A laws u w (h.fronts u) x;
  }

  pub get_every_all : (w : WholeWorld S A) (came : Unit → Came) → EveryAll w came → (n : ℕ) (g : Filter) (src : ℕ) → w.next ≤ n
      → EveryAll (puts_get S A w n g src) came
  get_every_all w came h n g src fresh = record {
    global = get_keeps S A laws w h.global n g src fresh;
    unit = λ u. get_all S A laws u w (came u) h.global n g src fresh (h.unit u);
    fronts = λ u. get_fronts S A laws u w (h.fronts u) n g src;
  }

  -- what an instance keeps of a copy: its records are folds of fronts, and of a unit that a share takes they are what stands there
  pub record MayKeep (w : WholeWorld S A) (y : ℕ) (t : S.B.T) : Type 0 where
    pub fronts : (u : Unit) → FrontOf S A laws u (ran_of S A u w.done) (S.B.at u t)
    pub of_shares : (u : Unit) → TakesSome S w.shares u → S.B.at u t ≡ S.B.at u (w.standby y)

  pub keeps_every_all : (w : WholeWorld S A) (came : Unit → Came) → EveryAll w came → (y : ℕ) (t : S.B.T) → MayKeep w y t
      → EveryAll (keeps S A w y t) came
  keeps_every_all w came h y t may = record {
    global = keeps_keeps S A laws w h.global y t;
    unit = λ u. keeps_all S A laws u w (came u) y t (may.of_shares u) (h.unit u);
    fronts = λ u. keeps_fronts S A laws u w (h.fronts u) y t (may.fronts u);
  }
