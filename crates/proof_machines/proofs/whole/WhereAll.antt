-- Where a unit is in the whole world: apart from shares, as moves know it, or under a share. Each node's step and each begin leaves it there, but
-- for the begin of a share that takes it at its home: from there on it is under that share.
use Rattle.proof_machines.proofs.net.Words.{◌≡◌, ℕ, ◌+◌, ◌≤◌, Bool, true, false, Some, List, [], ◌∷◌, ◌++◌, refl, sym, ap, ◌∙◌, subst, append-nil, arith}
use Rattle.proof_machines.proofs.net.Words.{if◌then◌else◌, ◌&&◌, ◌==◌, nat_tests, Decides-eqb, firsts, times, IsOrderedAs, Each, shape, Filter, Msg, Asked}
use Rattle.proof_machines.proofs.net.Words.{MoveAsked, Sys, IsSys, sw_target, sw_next, OpLabel, Rest, NothingOf, Disjoint, TakesSome, GlobalAll, unit_share}
use Rattle.proof_machines.proofs.net.Words.{as_share, Any, Old, New, ShareMsg, ShareAsked, olds, Sharing, IsSharing, OpenShare, find_share, WholeWorld}
use Rattle.proof_machines.proofs.net.Words.{moves_of, whole_inst, whole_ctrl, whole_switch, whole_input, asks, begin_move, begin_share, puts_get, keeps}
use Rattle.proof_machines.proofs.net.Words.{meets_shares, MayShare, SeeingShare, same_unit, either_way, Unit, split}
use Rattle.proof_machines.proofs.unit.Loose.{times-append}
use Rattle.proof_machines.proofs.net.Ctrl.{each_found}
use Rattle.proof_machines.proofs.net.Units.{Where, Where.At_rest, Where.In_move, May, see, switch_where}
use Rattle.proof_machines.proofs.net.Elsewhere.{where_two}
use Rattle.proof_machines.proofs.net.GlobalBegins.{meets_none, meets_no_move}
use Rattle.proof_machines.proofs.net.UntakenInst.{Unshared, inst_unshared, ctrl_unshared}
use Rattle.proof_machines.proofs.net.UntakenSwitch.{sw_same, HandsAny, switch_unshared, input_unshared}
use Rattle.proof_machines.proofs.net.UntakenBegins.{begin_unshared, share_unshared, get_unshared, keeps_unshared, asks_move_unshared, asks_share_unshared}
use Rattle.proof_machines.proofs.net.UnderSwitch.{NoDiverts}
use Rattle.proof_machines.proofs.net.Under.{Under}
use Rattle.proof_machines.proofs.net.UnderSteps.{under_inst, under_ctrl, under_switch, under_input, comes_last}
use Rattle.proof_machines.proofs.net.UnderBegins.{under_begin_move, under_begin_share, under_get, under_asks_move, under_asks_share, under_keeps}
use Rattle.proof_machines.proofs.net.UnderStarts.{seeing, FrontBy, under_starts}

-- what has come of a unit: its packets, those of them that came while its packets were diverted, and whether a move without a buffer ever handed
-- it on
pub record Came : Type 0 where
  pub all : List ℕ
  pub diverted : List ℕ
  pub bared : Bool

-- packets that come last in both
order_more : (b : Bool) (xs ys came : List ℕ) → IsOrderedAs b xs ys → IsOrderedAs b (xs ++ came) (ys ++ came)
order_more true xs ys came o = λ p. times-append p xs came ∙ ap (λ n. n + times p came) (o p) ∙ sym (times-append p ys came)
order_more false xs ys came o = ap (λ v. v ++ came) o

pub order_same : (b : Bool) (xs zs ys : List ℕ) → xs ≡ zs → IsOrderedAs b xs ys → IsOrderedAs b zs ys
order_same b xs zs ys e o = subst (λ v. IsOrderedAs b v ys) e o

-- a share that is found takes what its filter takes
pub found_takes : {R : Type 0} (S : Sys R) (es : List OpenShare) (n : ℕ) (e : OpenShare) (v : Unit) → find_share es n ≡ Some e
    → S.takes e.filter v ≡ true → TakesSome S es v
found_takes S [] n e v is on = cc
found_takes S (x ∷ es) n e v is on = either_way (S.takes x.filter v) (λ t. (x, rw t refl))
    (λ off. let more = later off (λ there. found_takes S es n e v there on) in (more.0, rw off more.1))
  where
    later : S.takes x.filter v ≡ false → (find_share es n ≡ Some e → TakesSome S es v) → TakesSome S es v
    later off others = split (x.num == n) (λ a. (if a then Some x else find_share es n) ≡ Some e → TakesSome S es v)
        (λ _. λ there. let same : x ≡ e = cc in let never : true ≡ false = sym on ∙ ap (λ y. S.takes y.filter v) (sym same) ∙ off in cc) (λ _. others) is

module _ {R : Type 0} (S : Sys R) (A : Sharing S) (laws : IsSys S) (u : Unit) where
  -- under a share `b` says whether a loose move once handed the unit on: a share never does
  pub data WhereAll (w : WholeWorld S A) (k : Came) : Type 0 where
    Apart_from_shares : Unshared S A laws u w k.all k.bared → k.diverted ≡ [] → WhereAll w k
    Under_share : (x : ShareAsked) (before : List ℕ) (b : Bool) → Under S A (seeing S A u x) w before k.diverted → IsOrderedAs b (before ++ k.diverted) k.all
        → (b ≡ true → k.bared ≡ true) → WhereAll w k

  -- a unit whose packets go to the controller is taken by a share
  pub diverted_all : (w : WholeWorld S A) (k : Came) → WhereAll w k → w.target u ≡ 1 → TakesSome S w.shares u
  diverted_all w k (Apart_from_shares h none) one =
      let never : ⊥ = omega (arith, where_two S laws u (moves_of S A w) k.all k.bared h.is, one) in
      absurd never
  diverted_all w k (Under_share x before b h o f) one =
      let z = seeing S A u x in
      let v = shape (unit_share S A z) h.stage in
      found_takes S w.shares x.num (as_share S A z v.phase v.queue) u h.holds.share h.covered

  -- An instance and the controller
  pub inst_all : IsSharing S A → (w : WholeWorld S A) (k : Came) → GlobalAll S A w → (p y : ℕ) (m : Any R) (rest : List (Any R)) → (y == 0) ≡ false
      → (y == 1) ≡ false → w.link p y ≡ m ∷ rest → WhereAll w k → WhereAll (whole_inst S A w p y m) k
  inst_all ok w k g p y m rest y0 y1 waits (Apart_from_shares h none) =
      Apart_from_shares (inst_unshared S A laws u ok w k.all k.bared g p y m rest y0 y1 waits h) none
  inst_all ok w k g p y m rest y0 y1 waits (Under_share x before b h o f) =
      Under_share x before b (under_inst S A (seeing S A u x) laws ok w before k.diverted g h y p y0 y1 m rest waits).under o f

  pub ctrl_all : IsSharing S A → (w : WholeWorld S A) (k : Came) → GlobalAll S A w → (p : ℕ) (m : Any R) (rest : List (Any R)) → w.link p 1 ≡ m ∷ rest
      → WhereAll w k → WhereAll (whole_ctrl S A w p m) k
  ctrl_all ok w k g p m rest waits (Apart_from_shares h none) = Apart_from_shares (ctrl_unshared S A laws u w k.all k.bared g p m rest waits h) none
  ctrl_all ok w k g p m rest waits (Under_share x before b h o f) =
      Under_share x before b (under_ctrl S A (seeing S A u x) laws ok w before k.diverted g h p m rest waits).under o f

  -- The switch: a message of a move doesn't make it divert
  pub still_all : (w : WholeWorld S A) (k : Came) → GlobalAll S A w → (p : ℕ) (m : Msg R) (rest : List (Any R)) → (p == 0) ≡ false
      → w.link p 0 ≡ Old m ∷ rest → WhereAll w k → sw_target S w.target m u ≡ 1 → w.target u ≡ 1
  still_all w k g p m rest p0 waits (Apart_from_shares h none) one =
      let after = switch_where S laws u (moves_of S A w) k.all k.bared true g.moves p m (olds rest) p0 (ap olds waits) (λ _. refl)
      (λ _ _ _ _ _ _ _ _ _ _. refl) h.is in
      let two : 2 ≤ sw_target S w.target m u = where_two S laws u (sw_next S (moves_of S A w) p m) k.all true after in
      let never : ⊥ = omega (arith, two, one) in
      absurd never
  still_all w k g p m rest p0 waits (Under_share x before b h o f) one =
      let off : (p == 0) && (0 == 0) ≡ false = rw p0 refl in
      let label = (subst (λ ms. Each (NothingOf S u p) (olds ms)) waits (h.labels p 0 off)).0 in
      sym (sw_same S A laws u w.target p m label) ∙ one

  pub switch_all : IsSharing S A → (w : WholeWorld S A) (k : Came) (d : Bool) → GlobalAll S A w → (p : ℕ) (m : Any R) (rest : List (Any R))
      → (p == 0) ≡ false → w.link p 0 ≡ m ∷ rest → (k.bared ≡ true → d ≡ true) → HandsAny S A laws u w m d → ((z : SeeingShare) → NoDiverts S A laws z w m)
      → WhereAll w k → WhereAll (whole_switch S A w p m) (record k { bared = d })
  switch_all ok w k d g p m rest p0 waits grows hands few (Apart_from_shares h none) =
      Apart_from_shares (switch_unshared S A laws u w k.all k.bared d g p m rest p0 waits grows hands h) none
  switch_all ok w k d g p m rest p0 waits grows hands few (Under_share x before b h o f) = Under_share x before b
      (under_switch S A (seeing S A u x) laws ok w before k.diverted g h p m rest p0 waits (few (seeing S A u x))).under o (λ e. grows (f e))

  -- A packet of the input
  abbrev pub its : ℕ → List ℕ
  its q = if same_unit (S.packet_unit q) u then q ∷ [] else []

  abbrev pub comes : WholeWorld S A → ℕ → Came → Came
  comes w q k = record { all = k.all ++ its q; diverted = k.diverted ++ (if w.target u == 1 then its q else []); bared = k.bared }

  none_diverted : (t : ℕ) (ps qs : List ℕ) → 2 ≤ t → ps ≡ [] → ps ++ (if t == 1 then qs else []) ≡ []
  none_diverted t ps qs two none = let off : (t == 1) ≡ false = grind (arith, nat_tests, two) in rw (off, none) refl

  -- the switch diverts it where its packets go to the controller
  diverts_is : (b : Bool) (t home : ℕ) → t ≡ (if b then 1 else home) → 2 ≤ home → b ≡ (t == 1)
  diverts_is true t home e two = rw e refl
  diverts_is false t home e two = let off : (home == 1) ≡ false = grind (arith, nat_tests, two) in rw (e, off) refl

  pub input_all : IsSharing S A → (w : WholeWorld S A) (k : Came) → GlobalAll S A w → (q : ℕ) → WhereAll w k → WhereAll (whole_input S A w q) (comes w q k)
  input_all ok w k g q (Apart_from_shares h none) = Apart_from_shares (input_unshared S A laws u w k.all k.bared g q h)
      (none_diverted (w.target u) k.diverted (its q) (where_two S laws u (moves_of S A w) k.all k.bared h.is) none)
  input_all ok w k g q (Under_share x before b h o f) =
      let z = seeing S A u x in
      let d = (shape (unit_share S A z) h.stage).diverts in
      let goes = under_input S A z laws ok w before k.diverted h q in
      let same : d ≡ (w.target u == 1) = diverts_is d (w.target u) x.home h.holds.target (h.insts x.home h.is.home_in) in
      let order : IsOrderedAs b ((before ++ (if d then [] else its q)) ++ (k.diverted ++ (if d then its q else []))) (k.all ++ its q) = order_same b
      ((before ++ k.diverted) ++ its q) ((before ++ (if d then [] else its q)) ++ (k.diverted ++ (if d then its q else []))) (k.all ++ its q)
      (sym (comes_last S A z w before k.diverted h (its q))) (order_more b (before ++ k.diverted) k.all (its q) o) in
      Under_share x (before ++ (if d then [] else its q)) b
      (subst (λ t. Under S A z (whole_input S A w q) (before ++ (if d then [] else its q)) (k.diverted ++ (if t then its q else []))) same goes.under)
      (subst (λ t. IsOrderedAs b ((before ++ (if d then [] else its q)) ++ (k.diverted ++ (if t then its q else []))) (k.all ++ its q)) same order) f

  -- A move begins, or a command or a copy's Get goes out
  pub begin_all : (w : WholeWorld S A) (k : Came) → GlobalAll S A w → (x : MoveAsked) → May S (moves_of S A w) x
      → meets_shares S A x.filter w.shares ≡ false → WhereAll w k → WhereAll (begin_move S A w x) k
  begin_all w k g x may meets (Apart_from_shares h none) = Apart_from_shares (begin_unshared S A laws u w k.all k.bared g x may h) none
  begin_all w k g x may meets (Under_share y before b h o f) =
      Under_share y before b (under_begin_move S A (seeing S A u y) w before k.diverted h laws x may meets).under o f

  pub get_all : (w : WholeWorld S A) (k : Came) → GlobalAll S A w → (n : ℕ) (g : Filter) (src : ℕ) → w.next ≤ n → WhereAll w k
      → WhereAll (puts_get S A w n g src) k
  get_all w k g n h src fresh (Apart_from_shares i none) = Apart_from_shares (get_unshared S A laws u w k.all k.bared n h src i) none
  get_all w k g n h src fresh (Under_share x before b i o f) =
      Under_share x before b (under_get S A (seeing S A u x) w before k.diverted i g n h src fresh).under o f

  pub asks_move_all : (w : WholeWorld S A) (k : Came) → GlobalAll S A w → (x : MoveAsked) → WhereAll w k → WhereAll (asks S A w (Old (Asked x))) k
  asks_move_all w k g x (Apart_from_shares h none) = Apart_from_shares (asks_move_unshared S A laws u w k.all k.bared g x h) none
  asks_move_all w k g x (Under_share y before b h o f) = Under_share y before b (under_asks_move S A (seeing S A u y) w before k.diverted h x).under o f

  pub asks_share_all : (w : WholeWorld S A) (k : Came) (x : ShareAsked) → WhereAll w k → WhereAll (asks S A w (New (ShareMsg.Asked x))) k
  asks_share_all w k x (Apart_from_shares h none) = Apart_from_shares (asks_share_unshared S A laws u w k.all k.bared x h) none
  asks_share_all w k x (Under_share y before b h o f) = Under_share y before b (under_asks_share S A (seeing S A u y) w before k.diverted h x).under o f

  -- an instance keeps records of a copy: none of a unit that a share takes
  pub keeps_all : (w : WholeWorld S A) (k : Came) (y : ℕ) (t : S.B.T) → (TakesSome S w.shares u → S.B.at u t ≡ S.B.at u (w.standby y)) → WhereAll w k
      → WhereAll (keeps S A w y t) k
  keeps_all w k y t same (Apart_from_shares h none) = Apart_from_shares (keeps_unshared S A laws u w k.all k.bared y t h) none
  keeps_all w k y t same (Under_share x before b h o f) =
      let z = seeing S A u x in
      let v = shape (unit_share S A z) h.stage in
      Under_share x before b (under_keeps S A z w before k.diverted h y t
      (same (found_takes S w.shares x.num (as_share S A z v.phase v.queue) u h.holds.share h.covered))).under o f

  -- A share begins. Records that stand by of a unit that it takes are folds of fronts of what was done
  abbrev pub HasFronts : WholeWorld S A → ShareAsked → Type 0
  HasFronts w x = S.takes x.filter u ≡ true → (k : ℕ) → FrontBy S A u w k

  module _ (ok : IsSharing S A) (w : WholeWorld S A) (k : Came) (g : GlobalAll S A w) (x : ShareAsked) (may : MayShare S A w x) where
    elsewhere : (S.takes x.filter u ≡ true → (x.home == w.target u) ≡ false) → Unshared S A laws u w k.all k.bared → k.diverted ≡ []
        → WhereAll (begin_share S A w x) k
    elsewhere away h none = Apart_from_shares (share_unshared S A laws u w k.all k.bared g x may.fresh away h) none

    taken : ((v : Unit) → w.target v ≡ 1 → TakesSome S w.shares v) → HasFronts w x → S.takes x.filter u ≡ true → k.diverted ≡ []
        → Unshared S A laws u w k.all k.bared → Where S laws u (moves_of S A w) k.all k.bared → WhereAll (begin_share S A w x) k
    taken diverts fronts takes none h (At_rest owner d l b r o f) = either_way (owner == x.home)
        (λ on.
        let rest : Rest S u (moves_of S A w) x.home d l = subst (λ n. Rest S u (moves_of S A w) n d l) ((Decides-eqb owner x.home).0 on) r in
        let starts = under_starts S A u w g x may.fresh takes (meets_none S A laws x.filter w.shares may.shares_apart) ok may d l rest (fronts takes)
        diverts in
        let order : IsOrderedAs b ((firsts d ++ l) ++ []) k.all = order_same b (firsts d ++ l) ((firsts d ++ l) ++ []) k.all
        (sym (append-nil (firsts d ++ l))) o in
        Under_share x (firsts d ++ l) b (subst (λ v. Under S A (seeing S A u x) (begin_share S A w x) (firsts d ++ l) v) (sym none) starts)
        (subst (λ v. IsOrderedAs b ((firsts d ++ l) ++ v) k.all) (sym none) order) f)
        (λ off. let at : w.target u ≡ owner = r.target in elsewhere (λ _. grind (arith, nat_tests, off, at)) h none)
    taken diverts fronts takes none h (In_move op third e s b there i o f c) =
        let a = each_found (OpLabel S (see S laws u op third)) op.num w.ops e i.ops there in
        let out = each_found (λ y. Disjoint S x.filter y.filter) op.num w.ops e (meets_no_move S A laws x.filter w.ops may.moves_apart) there in
        let never : false ≡ true = sym (out.0 u takes) ∙ a.0.0 ∙ a.1 in
        cc

    pub share_all : ((v : Unit) → w.target v ≡ 1 → TakesSome S w.shares v) → HasFronts w x → WhereAll w k → WhereAll (begin_share S A w x) k
    share_all diverts fronts (Under_share y before b h o f) =
        Under_share y before b (under_begin_share S A (seeing S A u y) w before k.diverted h g x may.fresh).under o f
    share_all diverts fronts (Apart_from_shares h none) = either_way (S.takes x.filter u) (λ takes. taken diverts fronts takes none h h.is)
        (λ out. elsewhere (λ takes. let never : true ≡ false = sym takes ∙ out in cc) h none)
