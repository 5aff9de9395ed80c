-- Where one packet of a unit that a share has is processed: at its member, if it came while the unit's packets were diverted, and else at home.
use Rattle.nf_net.proofs.Words.{◌≡◌, ◌≢◌, ℕ, ◌+◌, ◌≤◌, Bool, true, false, cond, List, [], ◌∷◌, ◌++◌, map, ◌⊎◌, inl, inr, refl, sym, ap, ◌∙◌, subst, arith}
use Rattle.nf_net.proofs.Words.{if◌then◌else◌, ◌&&◌, ◌==◌, nat_tests, Decides-eqb, IsOrderedAs, same_of, Ran, UnitShare, Stage, served, shape, Sys, IsSys}
use Rattle.nf_net.proofs.Words.{none_mine, GlobalAll, NoShare, head_none, unit_share, Under, seeing, Any, ShareMsg, olds, Sharing, IsSharing, OpenShare}
use Rattle.nf_net.proofs.Words.{ShareAsked, member_step, WholeWorld, moves_of, ran_of, SeeingShare, Came, WhereAll, Apart_from_shares, Under_share, ItsShare}
use Rattle.nf_net.proofs.Words.{its_share, ran_by, MayRun, processed_where, same_unit, Stands, In_first, In_second, stands, Unit, split}
use Rattle.proof_machines.proofs.unit.Stages.{times}
use Rattle.proof_machines.proofs.unit.Loose.{times-append}
use Rattle.proof_machines.proofs.share.Share.{Item, Item.Carry}
use Rattle.proof_machines.proofs.share.Stages.{Stage.Diverting, packets}
use Rattle.proof_machines.proofs.share.Order.{Parts, parts}
use Rattle.proof_machines.proofs.share.Places.{At_places}
use Rattle.proof_machines.proofs.net.Net.{at_node}
use Rattle.proof_machines.proofs.net.UnderInst.{did_at}
use Rattle.proof_machines.proofs.net.UnderReadings.{all_done, first_item}
use Rattle.proof_machines.proofs.net.Shares.{Any.Old, Any.New, ShareMsg.Shared_on}
use Rattle.proof_machines.proofs.whole.PlacesAll.{Processes, As_moves, At_member, processes_all}

-- A packet among some, with its node.
pub some_times : (front back : List Ran) (p y : ℕ) → 1 ≤ times p (packets (front ++ (p, y) ∷ back))
some_times [] back p y = let self : (p == p) ≡ true = grind (arith, nat_tests) in rw self (omega arith)
some_times (x ∷ front) back p y = let rest = some_times front back p y in omega (arith, rest)

module _ {R : Type 0} (f : UnitShare R) where
  -- of those that are served each is at its member
  served_at : (ps : List ℕ) (front back : List Ran) (p y : ℕ) → served f ps ≡ front ++ (p, y) ∷ back → y ≡ f.member_of p
  served_at [] [] back p y e = cc
  served_at [] (x ∷ front) back p y e = cc
  served_at (q ∷ ps) [] back p y e =
      let first : ◌≡◌ {A = Ran} (q, f.member_of q) (p, y) = cc in
      let same : q ≡ p = ap (λ d. d.0) first in
      let at : f.member_of q ≡ y = ap (λ d. d.1) first in
      sym at ∙ ap f.member_of same
  served_at (q ∷ ps) (x ∷ front) back p y e = let tail : served f ps ≡ front ++ (p, y) ∷ back = cc in served_at ps front back p y tail

  placed_at : (front back : List Ran) (p y : ℕ) → At_places f (front ++ (p, y) ∷ back) → (y ≡ f.home) ⊎ (y ≡ f.member_of p)
  placed_at [] back p y h = h.0
  placed_at (x ∷ front) back p y h = placed_at front back p y h.1

  -- before the switch diverts, what stands on a link to an instance stands on the one to home
  home_head : (s : Stage R) → (shape f s).diverts ≡ false → (y : ℕ) (it : Item R) (rest : List (Item R)) → (shape f s).sw y ≡ it ∷ rest → y ≡ f.home
  home_head (Diverting d b l) off y it rest e = split (y == f.home) (λ t. cond t (map Carry l) [] ≡ it ∷ rest → y ≡ f.home)
      (λ on _. (Decides-eqb y f.home).0 on) (λ _ never. cc) e
  home_head s off y it rest e = cc

  none_to : (s : Stage R) → (shape f s).diverts ≡ false → (y : ℕ) (it : Item R) (rest : List (Item R)) → (shape f s).to y ≡ it ∷ rest → y ≡ f.home
  none_to (Diverting d b l) off y it rest e = cc
  none_to s off y it rest e = cc

module _ {R : Type 0} (S : Sys R) (A : Sharing S) (laws : IsSys S) (u : Unit) where
  -- a packet of the unit where an instance processes some
  ran_there : (y q : ℕ) → same_unit (S.packet_unit q) u ≡ true → (front back : List ℕ)
      → (before : List Ran) × (after : List Ran) × (ran_of S A u (at_node y (front ++ q ∷ back)) ≡ before ++ (q, y) ∷ after)
  ran_there y q mine [] back = ([], ran_of S A u (at_node y back), rw mine refl)
  ran_there y q mine (p ∷ front) back =
      let r = ran_there y q mine front back in
      split (same_unit (S.packet_unit p) u)
      (λ b. (before : List Ran) × (after : List Ran) ×
      ((if b then (p, y) ∷ ran_of S A u (at_node y (front ++ q ∷ back)) else ran_of S A u (at_node y (front ++ q ∷ back))) ≡ before ++ (q, y) ∷ after))
      (λ _. ((p, y) ∷ r.0, r.1, ap (λ v. (p, y) ∷ v) r.2)) (λ _. r)

  pub mine_there : (q : ℕ) → same_unit (S.packet_unit q) u ≡ true → (front back : List ℕ) → none_mine S u (front ++ q ∷ back) ≢ []
  mine_there q mine [] back none = let some : q ∷ none_mine S u back ≡ [] = rw mine at none in cc
  mine_there q mine (p ∷ front) back none =
      split (same_unit (S.packet_unit p) u) (λ b. (if b then p ∷ none_mine S u (front ++ q ∷ back) else none_mine S u (front ++ q ∷ back)) ≡ [] → ⊥)
      (λ _ never. cc) (λ _ rest. mine_there q mine front back rest) none

  -- A packet of the unit that came while its packets were diverted, once, and was done
  module _ (w : WholeWorld S A) (k : Came) (p y : ℕ) (once : times p k.all ≤ 1) (came : 1 ≤ times p k.diverted) (front back : List Ran)
      (there : ran_of S A u w.done ≡ front ++ (p, y) ∷ back) where
    pub record DoneAt : Type 0 where
      pub share : OpenShare
      pub its : ItsShare S A laws u w share
      pub at : y ≡ A.member share.members p

    done_under : (x : ShareAsked) (before : List ℕ) (b : Bool) → Under S A (seeing S A u x) w before k.diverted → IsOrderedAs b (before ++ k.diverted) k.all
        → DoneAt
    done_under x before b h o = record {
      share = its_share S A laws u w x before k.diverted h;
      its = record { found = h.holds.share; takes = h.covered; home_in = h.is.home_in };
      at = by_place (stands parted.before (served own_share parted.since) front (p, y) back
          (sym parted.done ∙ sym (all_done S A (seeing S A u x) w before k.diverted h) ∙ there));
    }
      where
        own_share : UnitShare R
        own_share = unit_share S A (seeing S A u x)

        parted : Parts own_share h.stage
        parted = parts own_share h.stage

        -- it isn't one of those that came before
        not_before : times p (packets parted.before) ≡ 0
        not_before =
            let all : times p (before ++ k.diverted) ≡ times p k.all = same_of b (before ++ k.diverted) k.all o p in
            let first : times p before ≡ times p (packets parted.before) + times p parted.early_waits = ap (times p) (h.before_is ∙ parted.early_is)
            ∙ times-append p (packets parted.before) parted.early_waits in
            omega (arith, all, times-append p before k.diverted, first, once, came)

        by_place : Stands parted.before (served own_share parted.since) (record { before = front; item = (p, y); after = back }) → y ≡ A.member x.members p
        by_place (In_first cs here) =
            let none = not_before in let same = ap (λ ds. times p (packets ds)) here in absurd (omega (arith, some_times front cs p y, none, same))
        by_place (In_second cs from at) = served_at own_share parted.since cs back p y at

    pub done_at : WhereAll S A laws u w k → DoneAt
    done_at (Apart_from_shares h none) = let zero = ap (times p) none in absurd (omega (arith, came, zero))
    done_at (Under_share x before b h o f) = done_under x before b h o

  -- What an instance that no share's packet comes to processes on a message of a share: nothing of the unit
  pub unseen_ran : (es : List OpenShare) (live standby : S.B.T) (m : ShareMsg R) → NoShare S u es m → none_mine S u (member_step S A live standby m).ran ≡ []
  unseen_ran es live standby (Shared_on n true p) off = rw off refl
  unseen_ran es live standby (Shared_on n false p) off = rw off refl
  unseen_ran es live standby (ShareMsg.Sync n true cs) off = refl
  unseen_ran es live standby (ShareMsg.Sync n false cs) off = refl
  unseen_ran es live standby m off = refl

  -- under a share that doesn't divert yet it is home that processes
  module _ (ok : IsSharing S A) (w : WholeWorld S A) (x : ShareAsked) (before since : List ℕ) (h : Under S A (seeing S A u x) w before since)
      (g : GlobalAll S A w) (y p : ℕ) (m : Any R) (rest : List (Any R)) (y0 : (y == 0) ≡ false) (y1 : (y == 1) ≡ false)
      (waits : w.link p y ≡ m ∷ rest) (some : ran_of S A u (at_node y (did_at S A laws (seeing S A u x) w y m).ran) ≢ [])
      (off : (shape (unit_share S A (seeing S A u x)) h.stage).diverts ≡ false) where
    abbrev z : SeeingShare
    z = seeing S A u x

    undiverted_home : y ≡ x.home
    undiverted_home =
        let one = first_item S A z w before since h laws ok g y p m rest y0 y1 waits some in
        elim one.first as (λ _. y ≡ x.home) [
          | inl a ↦ home_head (unit_share S A z) h.stage off y one.item _ a.0
          | inr a ↦ none_to (unit_share S A z) h.stage off y one.item _ a.0
        ]

  -- Where an instance processes a packet of the unit: as moves know it, at the home of its share, or at its member while its packets are diverted
  pub data ProcessesOne (w : WholeWorld S A) (y q : ℕ) : Type 0 where
    By_move : MayRun S (moves_of S A w) u y → ProcessesOne w y q
    By_home : (e : OpenShare) → ItsShare S A laws u w e → (w.target u ≡ 1) ⊎ (w.target u ≡ e.home) → y ≡ e.home → ProcessesOne w y q
    By_member : (e : OpenShare) → ItsShare S A laws u w e → w.target u ≡ 1 → y ≡ A.member e.members q → ProcessesOne w y q

  module _ (ok : IsSharing S A) (w : WholeWorld S A) (k : Came) (g : GlobalAll S A w) (p y : ℕ) (m : Any R) (rest : List (Any R)) (y0 : (y == 0) ≡ false)
      (y1 : (y == 1) ≡ false) (waits : w.link p y ≡ m ∷ rest) (q : ℕ) (mine : same_unit (S.packet_unit q) u ≡ true) (front back : List ℕ)
      (ran : ran_by S A laws w y m ≡ front ++ q ∷ back) where
    some_mine : none_mine S u (ran_by S A laws w y m) ≢ []
    some_mine = subst (λ v. none_mine S u v ≢ []) (sym ran) (mine_there q mine front back)

    its_ran : (before : List Ran) × (after : List Ran) × (ran_of S A u (at_node y (ran_by S A laws w y m)) ≡ before ++ (q, y) ∷ after)
    its_ran = subst (λ v. (before : List Ran) × (after : List Ran) × (ran_of S A u (at_node y v) ≡ before ++ (q, y) ∷ after)) (sym ran)
        (ran_there y q mine front back)

    none_left : (xs ys : List Ran) → xs ++ (q, y) ∷ ys ≡ [] → ⊥
    none_left [] ys e = cc
    none_left (x ∷ xs) ys e = cc

    some_ran : (z : SeeingShare) (n : Any R) → m ≡ n → ran_of S A u (at_node y (did_at S A laws z w y n).ran) ≢ []
    some_ran z (Old o) same none = none_left its_ran.0 its_ran.1 (sym its_ran.2 ∙ ap (λ v. ran_of S A u (at_node y (ran_by S A laws w y v))) same ∙ none)
    some_ran z (New o) same none = none_left its_ran.0 its_ran.1 (sym its_ran.2 ∙ ap (λ v. ran_of S A u (at_node y (ran_by S A laws w y v))) same ∙ none)

    under_one : (x : ShareAsked) (before since : List ℕ) → Under S A (seeing S A u x) w before since → Processes S A laws w u y (ran_by S A laws w y m)
        → ProcessesOne w y q
    under_one x before since h (As_moves may live) = By_move may
    under_one x before since h (At_member e its inside places own) = by_diverts (shape (unit_share S A (seeing S A u x)) h.stage).diverts refl
      where
        here : OpenShare
        here = its_share S A laws u w x before since h

        its_here : ItsShare S A laws u w here
        its_here = record { found = h.holds.share; takes = h.covered; home_in = h.is.home_in }

        by_diverts : (d : Bool) → (shape (unit_share S A (seeing S A u x)) h.stage).diverts ≡ d → ProcessesOne w y q
        by_diverts false off = By_home here its_here (inr (h.holds.target ∙ ap (λ b. if b then 1 else x.home) off))
            (undiverted_home ok w x before since h g y p m rest y0 y1 waits (some_ran (seeing S A u x) m refl) off)
        by_diverts true on = by_place (placed_at (unit_share S A (record { unit = u; num = e.num; home = e.home; members = e.members; filter = e.filter }))
            its_ran.0 its_ran.1 q y
            (subst (At_places (unit_share S A (record { unit = u; num = e.num; home = e.home; members = e.members; filter = e.filter }))) its_ran.2 places))
          where
            one : w.target u ≡ 1
            one = h.holds.target ∙ ap (λ b. if b then 1 else x.home) on

            by_place : (y ≡ e.home) ⊎ (y ≡ A.member e.members q) → ProcessesOne w y q
            by_place (inl at) = By_home e its (inl one) at
            by_place (inr at) = By_member e its one at

    apart_one : (n : Any R) → m ≡ n → WhereAll S A laws u w k → Processes S A laws w u y (ran_by S A laws w y m) → ProcessesOne w y q
    apart_one n same h (As_moves may live) = By_move may
    apart_one n same (Under_share x before b h o f) its = under_one x before k.diverted h its
    apart_one (Old o) same (Apart_from_shares h none) its = By_move (processed_where S laws u (moves_of S A w) p y o (olds rest) y0 y1 (ap olds
        (waits ∙ ap (λ v. v ∷ rest) same)) (subst (λ v. none_mine S u (ran_by S A laws w y v) ≢ []) same some_mine) k.all k.bared g.moves h.is).place
    apart_one (New o) same (Apart_from_shares h none) its =
        let off : (p == 0) && (y == 0) ≡ false = rw y0 (elim (p == 0) as (λ b. b && false ≡ false) [ true ↦ refl | false ↦ refl ]) in
        absurd (some_mine (ap (λ v. none_mine S u (ran_by S A laws w y v)) same
        ∙ unseen_ran w.shares (w.inst y).live (w.standby y) o (head_none S u A w p y (New o) rest off (waits ∙ ap (λ v. v ∷ rest) same) h.untaken)))

    pub processes_one : WhereAll S A laws u w k → ProcessesOne w y q
    processes_one h = apart_one m refl h (processes_all S A laws u ok w k g h p y m rest y0 y1 waits some_mine)
