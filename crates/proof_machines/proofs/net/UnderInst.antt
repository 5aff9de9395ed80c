-- An instance's step is, to a unit under a share, nothing or a move of the share's machine (`inst_goes`).
use Rattle.proof_machines.proofs.net.Words.{◌≡◌, ℕ, Bool, true, false, Some, None, List, [], ◌∷◌, ◌++◌, ◌⊎◌, inl, inr, refl, sym, ap, ◌∙◌, subst, append-nil}
use Rattle.proof_machines.proofs.net.Words.{arith, if◌then◌else◌, ◌&&◌, ◌==◌, nat_tests, Decides-eqb, add, sent_for, UnitShare, View, Take_sw, Take_to, has}
use Rattle.proof_machines.proofs.net.Words.{put, joined, only, member_does, from_sw, from_to, ToMembers, Sys, IsSys, inst_step, links_after, at_node}
use Rattle.proof_machines.proofs.net.Words.{share_expect, unit_share, share_seen, share_items, own_of, own_at, ShareHolds, Any, Old, New, Sharing, find_share}
use Rattle.proof_machines.proofs.net.Words.{MemberTurn, WholeWorld, whole_inst, ran_of, SeeingShare, split, true_from_ne_false, Unit}
use Rattle.proof_machines.proofs.share.Share.{Item}
use Rattle.std.proofs.lemmas.List.Elements.{filter-append}
use Rattle.proof_machines.proofs.net.ShareLinks.{sw_links, to_links, quiet_links, view_after, Goes, Goes.Nothing, Goes.Moves_so}
use Rattle.proof_machines.proofs.net.MemberSteps.{any_step, as_was, does, SeesMember}

module _ {R : Type 0} (S : Sys R) (A : Sharing S) (laws : IsSys S) (z : SeeingShare) where
  abbrev f : UnitShare R
  f = unit_share S A z

  abbrev pub did_at : WholeWorld S A → ℕ → Any R → MemberTurn S A
  did_at w y m = any_step S A laws z (w.inst y) (w.standby y) m

  -- what the world is after the step
  inst_links : (w : WholeWorld S A) (p y : ℕ) (m : Any R) (i j : ℕ) → (whole_inst S A w p y m).link i j ≡ links_after w.link p y (did_at w y m).sends i j
  inst_links w p y (Old m) i j = refl
  inst_links w p y (New m) i j = refl

  inst_done : (w : WholeWorld S A) (p y : ℕ) (m : Any R) → (whole_inst S A w p y m).done ≡ w.done ++ at_node y (did_at w y m).ran
  inst_done w p y (Old m) = refl
  inst_done w p y (New m) = refl

  inst_shares : (w : WholeWorld S A) (p y : ℕ) (m : Any R) → (whole_inst S A w p y m).shares ≡ w.shares
  inst_shares w p y (Old m) = refl
  inst_shares w p y (New m) = refl

  inst_target : (w : WholeWorld S A) (p y : ℕ) (m : Any R) (v : Unit) → (whole_inst S A w p y m).target v ≡ w.target v
  inst_target w p y (Old m) v = refl
  inst_target w p y (New m) v = refl

  inst_own : (w : WholeWorld S A) (p y : ℕ) (m : Any R) (k : ℕ) → own_at S A z (whole_inst S A w p y m) k
      ≡ (if k == y then own_of S A z (y == z.home) (did_at w y m).live (did_at w y m).standby else own_at S A z w k)
  inst_own w p y (Old m) k = split (k == y) (λ b. own_of S A z (k == z.home) (if b then (inst_step S (w.inst y) m).node else w.inst k).live (w.standby k)
      ≡ (if b then own_of S A z (y == z.home) (did_at w y (Old m)).live (did_at w y (Old m)).standby else own_at S A z w k))
      (λ on. ap (λ n. own_of S A z (n == z.home) (inst_step S (w.inst y) m).node.live (w.standby n)) ((Decides-eqb k y).0 on))
      (λ _. refl)
  inst_own w p y (New m) k = split (k == y)
      (λ b. own_of S A z (k == z.home) (if b then record (w.inst y) { live = (did_at w y (New m)).live } else w.inst k).live
      (if b then (did_at w y (New m)).standby else w.standby k)
      ≡ (if b then own_of S A z (y == z.home) (did_at w y (New m)).live (did_at w y (New m)).standby else own_at S A z w k))
      (λ on. ap (λ n. own_of S A z (n == z.home) (did_at w y (New m)).live (did_at w y (New m)).standby) ((Decides-eqb k y).0 on))
      (λ _. refl)

  module _ (w : WholeWorld S A) (x : View R) (h : ShareHolds S A z w x) (only_members : ToMembers f x) (y p : ℕ) (m : Any R) (rest : List (Any R))
      (y0 : (y == 0) ≡ false) (y1 : (y == 1) ≡ false) (waits : w.link p y ≡ m ∷ rest) where
    abbrev w' : WholeWorld S A
    w' = whole_inst S A w p y m

    abbrev d : MemberTurn S A
    d = did_at w y m

    abbrev left : List (Item R)
    left = share_items S A z y rest

    abbrev sent : ℕ → List (Item R)
    sent j = share_items S A z j (sent_for j d.sends)

    no_input : (p == 0) && (y == 0) ≡ false
    no_input = rw y0 (elim (p == 0) as (λ b. b && false ≡ false) [ true ↦ refl | false ↦ refl ])

    after_is : (i j : ℕ) → (i == 0) && (j == 0) ≡ false
        → share_items S A z j (w'.link i j) ≡ (if (i == p) && (j == y) then left else share_expect x i j) ++ (if i == y then sent j else [])
    after_is i j e = ap (share_items S A z j) (inst_links w p y m i j) ∙ view_after S A z w.link p y m rest d.sends waits i j
        ∙ ap (λ v. (if (i == p) && (j == y) then left else v) ++ (if i == y then sent j else [])) (h.links i j e)

    -- the item, where the unit sees one, heads the link that its view expects
    pub heads : add (share_seen S A z y m) left ≡ share_expect x p y
    heads = sym (ap (share_items S A z y) waits) ∙ h.links p y no_input

    -- a view of the world after the step
    holds_at : (x' : View R) → ((i j : ℕ) → (i == 0) && (j == 0) ≡ false
        → (if (i == p) && (j == y) then left else share_expect x i j) ++ (if i == y then sent j else []) ≡ share_expect x' i j)
        → ((k : ℕ) → has z.members k ≡ true → (if k == y then own_of S A z (y == z.home) d.live d.standby else own_at S A z w k) ≡ x'.own k)
        → x'.phase ≡ x.phase → x'.queue ≡ x.queue → x'.diverts ≡ x.diverts → ran_of S A z.unit w.done ++ ran_of S A z.unit (at_node y d.ran) ≡ x'.done
        → ShareHolds S A z w' x'
    holds_at x' links own phase queue diverts done = record {
      links = λ i j e. after_is i j e ∙ links i j e;
      own = λ k inside. inst_own w p y m k ∙ own k inside;
      share = ap (λ es. find_share es z.num) (inst_shares w p y m) ∙ rw (phase, queue) h.share;
      target = inst_target w p y m z.unit ∙ rw diverts h.target;
      diverts = λ v t c. diverts ∙ h.diverts v t (sym (inst_target w p y m v) ∙ c);
      done = ap (ran_of S A z.unit) (inst_done w p y m) ∙ filter-append _ w.done (at_node y d.ran) ∙ done;
    }

    quiet : share_seen S A z y m ≡ None → SeesMember S A laws z y (w.inst y).live d (as_was S A laws z (own_at S A z w y)) → Goes S A z w' x
    quiet none s = Nothing (holds_at x (λ i j e. quiet_links x p y i j left sent (ap (λ o. add o left) (sym none) ∙ heads) (λ r. none_sent r (r == 1) refl))
        (λ k inside. split (k == y) (λ b. (if b then own_of S A z (y == z.home) d.live d.standby else own_at S A z w k) ≡ x.own k)
        (λ on. s.own ∙ subst (λ n. own_at S A z w n ≡ x.own k) ((Decides-eqb k y).0 on) (h.own k inside))
        (λ _. h.own k inside)) refl refl refl (ap (λ v. ran_of S A z.unit w.done ++ v) s.ran ∙ append-nil (ran_of S A z.unit w.done) ∙ h.done))
      where
        none_sent : (r : ℕ) (b : Bool) → (r == 1) ≡ b → sent r ≡ []
        none_sent r true on = let one : r ≡ 1 = (Decides-eqb r 1).0 on in rw one s.to_c
        none_sent r false off = s.others r off

    member : (it : Item R) (its : List (Item R)) → its ≡ it ∷ left → (has z.members y ≡ false → its ≡ []) → has z.members y ≡ true
    member it its head out = true_from_ne_false (has z.members y) (λ e. let never : it ∷ left ≡ [] = sym head ∙ out e in cc)

    at_own : (it : Item R) → has z.members y ≡ true → SeesMember S A laws z y (w.inst y).live d (member_does f y (own_at S A z w y) it)
        → SeesMember S A laws z y (w.inst y).live d (member_does f y (x.own y) it)
    at_own it inside s = subst (λ o. SeesMember S A laws z y (w.inst y).live d (member_does f y o it)) (h.own y inside) s

    own_after : (it : Item R) → SeesMember S A laws z y (w.inst y).live d (member_does f y (x.own y) it) → (k : ℕ) → has z.members k ≡ true
        → (if k == y then own_of S A z (y == z.home) d.live d.standby else own_at S A z w k) ≡ put x.own y (member_does f y (x.own y) it).own k
    own_after it s k inside = elim (k == y) as (λ b. (if b then own_of S A z (y == z.home) d.live d.standby else own_at S A z w k)
        ≡ (if b then (member_does f y (x.own y) it).own else x.own k)) [ true ↦ s.own | false ↦ h.own k inside ]

    done_after : (it : Item R) → SeesMember S A laws z y (w.inst y).live d (member_does f y (x.own y) it)
        → ran_of S A z.unit w.done ++ ran_of S A z.unit (at_node y d.ran) ≡ x.done ++ (member_does f y (x.own y) it).ran
    done_after it s = ap (λ v. ran_of S A z.unit w.done ++ v) s.ran ∙ ap (λ v. v ++ (member_does f y (x.own y) it).ran) h.done

    by_sw : (it : Item R) → x.sw y ≡ it ∷ left → p ≡ 0 → SeesMember S A laws z y (w.inst y).live d (member_does f y (own_at S A z w y) it) → Goes S A z w' x
    by_sw it head from s0 =
        let s = at_own it (member it (x.sw y) head (only_members.sw y)) s0 in
        let did = member_does f y (x.own y) it in
        Moves_so (Take_sw y) refl (subst (λ ys. ShareHolds S A z w' (from_sw f x y ys)) (sym head)
        (holds_at (record x { sw = put x.sw y left; own = put x.own y did.own; back = joined x.back (only y did.to_c); done = x.done ++ did.ran })
        (λ i j e. subst (λ n. (if (i == n) && (j == y) then left else share_expect x i j) ++ (if i == y then sent j else [])
        ≡ share_expect (record x { sw = put x.sw y left; back = joined x.back (only y did.to_c) }) i j)
        (sym from) (sw_links x y i j left did.to_c sent y0 y1 e s.to_c s.others)) (own_after it s) refl refl refl (done_after it s)))

    by_to : (it : Item R) → x.to y ≡ it ∷ left → p ≡ 1 → SeesMember S A laws z y (w.inst y).live d (member_does f y (own_at S A z w y) it) → Goes S A z w' x
    by_to it head from s0 =
        let s = at_own it (member it (x.to y) head (only_members.to y)) s0 in
        let did = member_does f y (x.own y) it in
        Moves_so (Take_to y) refl (subst (λ ys. ShareHolds S A z w' (from_to f x y ys)) (sym head)
        (holds_at (record x { to = put x.to y left; own = put x.own y did.own; back = joined x.back (only y did.to_c); done = x.done ++ did.ran })
        (λ i j e. subst (λ n. (if (i == n) && (j == y) then left else share_expect x i j) ++ (if i == y then sent j else [])
        ≡ share_expect (record x { to = put x.to y left; back = joined x.back (only y did.to_c) }) i j)
        (sym from) (to_links x y i j left did.to_c sent y0 y1 s.to_c s.others)) (own_after it s) refl refl refl (done_after it s)))

    -- which link it was
    pub inst_from : (it : Item R) → it ∷ left ≡ share_expect x p y → (x.sw y ≡ it ∷ left) × (p ≡ 0) ⊎ (x.to y ≡ it ∷ left) × (p ≡ 1)
    inst_from it e = grind (arith, nat_tests)

    pub inst_goes : SeesMember S A laws z y (w.inst y).live d (does S A laws z y (own_at S A z w y) (share_seen S A z y m)) → Goes S A z w' x
    inst_goes sees = elim (share_seen S A z y m) as (λ o. share_seen S A z y m ≡ o
        → SeesMember S A laws z y (w.inst y).live d (does S A laws z y (own_at S A z w y) o) → add o left ≡ share_expect x p y → Goes S A z w' x) [
          | None ↦ λ e s _. quiet e s
          | Some it ↦ λ e s there. elim (inst_from it there) as (λ _. Goes S A z w' x) [
            | inl a ↦ by_sw it a.0 a.1 s
            | inr a ↦ by_to it a.0 a.1 s
          ]
        ] refl sees heads
