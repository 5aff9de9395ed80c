-- A packet of the input: to a unit under a share it arrives, by the old rules or at the controller, or it isn't the unit's nor its share's
-- (`comes`).
use Rattle.proof_machines.proofs.net.Words.{◌≡◌, ℕ, Bool, true, false, Some, List, [], ◌∷◌, ◌++◌, map, refl, sym, ap, ◌∙◌, subst, append-nil, arith}
use Rattle.proof_machines.proofs.net.Words.{if◌then◌else◌, ◌&&◌, ◌==◌, nat_tests, Decides-eqb, nat_eq_equiv, where_true, add, sent_for, Carry, Diverted, Stray}
use Rattle.proof_machines.proofs.net.Words.{UnitShare, View, Arrive, if_mine, joined, only, nowhere, Carry_on, Sys, mine, share_expect, unit_share, share_items}
use Rattle.proof_machines.proofs.net.Words.{ShareHolds, Old, New, Diverted_on, Sharing, arrive_sends, WholeWorld, whole_input, SeeingShare, same_unit-true}
use Rattle.proof_machines.proofs.net.Words.{either_way, false_from_ne_true}
use Rattle.proof_machines.proofs.share.Share.{Item, moved}
use Rattle.proof_machines.proofs.share.Setting.{same_but_sc, same_but_sw}
use Rattle.proof_machines.proofs.net.ShareLinks.{in_links, none_links, view_put, lone_view, lone_unseen, holds_alike}

module _ {R : Type 0} (S : Sys R) (A : Sharing S) (z : SeeingShare) where
  abbrev f : UnitShare R
  f = unit_share S A z

  -- after a packet of the input
  pub data Comes (w : WholeWorld S A) (x : View R) (q : ℕ) : Type 0 where
    Not_its : if_mine f q ≡ [] → ShareHolds S A z w x → Comes w x q
    Arrives : ShareHolds S A z w (moved f x (Arrive q)) → Comes w x q

  module _ (covered : S.takes z.filter z.unit ≡ true) (apart : (1 == z.home) ≡ false) (w : WholeWorld S A) (x : View R) (h : ShareHolds S A z w x) (q : ℕ) where
    abbrev target : ℕ
    target = w.target (S.packet_unit q)

    abbrev w' : WholeWorld S A
    w' = whole_input S A w q

    abbrev sent : ℕ → List (Item R)
    sent j = share_items S A z j (sent_for j (arrive_sends S A target q))

    link_is : (i j : ℕ) → (i == 0) && (j == 0) ≡ false → share_items S A z j (w'.link i j) ≡ share_expect x i j ++ (if i == 0 then sent j else [])
    link_is i j e = view_put S A z w.link 0 (arrive_sends S A target q) i j ∙ ap (λ v. v ++ (if i == 0 then sent j else [])) (h.links i j e)

    goes_in : (sc : List (Item R)) (to : ℕ → List (Item R)) → sent 1 ≡ sc → ((k : ℕ) → (k == 1) ≡ false → sent k ≡ to k)
        → ShareHolds S A z w' (record x { sc = x.sc ++ sc; sw = joined x.sw to })
    goes_in sc to at_1 at_k = record {
      links = λ i j e. link_is i j e ∙ in_links x i j sc to sent e at_1 (λ k _ k1. at_k k k1);
      own = h.own;
      share = h.share;
      target = h.target;
      diverts = h.diverts;
      done = h.done;
    }

    unseen : if_mine f q ≡ [] → ((j : ℕ) → sent j ≡ []) → Comes w' x q
    unseen other none = Not_its other (record {
      links = λ i j e. link_is i j e ∙ none_links x 0 i j sent none;
      own = h.own;
      share = h.share;
      target = h.target;
      diverts = h.diverts;
      done = h.done;
    })

    not_its : mine S A z q ≡ false → if_mine f q ≡ []
    not_its off = rw off refl

    arrives : (y : View R) → moved f x (Arrive q) ≡ y → ShareHolds S A z w' y → Comes w' x q
    arrives y is k = Arrives (subst (λ v. ShareHolds S A z w' v) (sym is) k)

    -- at the controller
    to_ctrl : (target == 1) ≡ true → arrive_sends S A target q ≡ (1, New (Diverted_on q)) ∷ []
    to_ctrl on = rw on refl

    diverted_at : (target == 1) ≡ true → S.takes z.filter (S.packet_unit q) ≡ true → (j : ℕ) → sent j ≡ (if 1 == j then Diverted q ∷ [] else [])
    diverted_at on takes j = ap (λ xs. share_items S A z j (sent_for j xs)) (to_ctrl on) ∙ lone_view S A z 1 j (New (Diverted_on q))
        ∙ ap (λ b. if 1 == j then add (if b then Some (Diverted q) else where_true (mine S A z q) Stray) [] else []) takes

    diverted : (target == 1) ≡ true → S.takes z.filter (S.packet_unit q) ≡ true → Comes w' x q
    diverted on takes =
        let diverts : x.diverts ≡ true = h.diverts (S.packet_unit q) takes ((Decides-eqb target 1).0 on) in
        arrives (record x { sc = x.sc ++ Diverted q ∷ [] })
        (ap (λ b. if b then record x { sc = x.sc ++ Diverted q ∷ [] } else record x { sw = joined x.sw (only f.home (map Carry (if_mine f q))) }) diverts)
        (holds_alike S A z w' (record x { sc = x.sc ++ Diverted q ∷ []; sw = joined x.sw nowhere }) (record x { sc = x.sc ++ Diverted q ∷ [] })
        (goes_in (Diverted q ∷ []) nowhere (diverted_at on takes 1) (λ k off. let other : (1 == k) ≡ false = grind (arith, nat_tests) in
        diverted_at on takes k ∙ rw other refl))
        (same_but_sw f _ _ (λ k. append-nil (x.sw k))))

    outside : S.takes z.filter (S.packet_unit q) ≡ false → mine S A z q ≡ false
    outside off = false_from_ne_true (mine S A z q)
        (λ on. let never : true ≡ false = sym covered ∙ ap (S.takes z.filter) (sym (same_unit-true (S.packet_unit q) z.unit on)) ∙ off in cc)

    passed : (target == 1) ≡ true → S.takes z.filter (S.packet_unit q) ≡ false → Comes w' x q
    passed on off =
        let other = outside off in
        unseen (not_its other)
        (λ j. ap (λ xs. share_items S A z j (sent_for j xs)) (to_ctrl on) ∙ lone_unseen S A z 1 j (New (Diverted_on q)) (λ r. rw (off, other) refl))

    -- at an instance
    to_inst : (target == 1) ≡ false → arrive_sends S A target q ≡ (target, Old (Carry_on q)) ∷ []
    to_inst off = rw off refl

    carried_at : (target == 1) ≡ false → mine S A z q ≡ true → (j : ℕ) → sent j ≡ (if target == j then Carry q ∷ [] else [])
    carried_at off on j = ap (λ xs. share_items S A z j (sent_for j xs)) (to_inst off) ∙ lone_view S A z target j (Old (Carry_on q))
        ∙ ap (λ b. if target == j then add (where_true b (Carry q)) [] else []) on

    carried : (target == 1) ≡ false → mine S A z q ≡ true → (b : Bool) → x.diverts ≡ b → Comes w' x q
    carried off on true diverts =
        let there : target ≡ 1 = ap w.target (same_unit-true (S.packet_unit q) z.unit on) ∙ h.target ∙ ap (λ b. if b then 1 else z.home) diverts in
        let never : true ≡ false = sym ((Decides-eqb target 1).1 there) ∙ off in
        cc
    carried off on false diverts =
        let there : target ≡ z.home = ap w.target (same_unit-true (S.packet_unit q) z.unit on) ∙ h.target ∙ ap (λ b. if b then 1 else z.home) diverts in
        let at : (j : ℕ) → sent j ≡ only z.home (Carry q ∷ []) j = λ j. carried_at off on j ∙ ap (λ t. if t == j then Carry q ∷ [] else []) there
        ∙ ap (λ b. if b then Carry q ∷ [] else []) (nat_eq_equiv.symm z.home j) in
        arrives (record x { sw = joined x.sw (only z.home (Carry q ∷ [])) })
        (ap (λ b. if b then record x { sc = x.sc ++ Diverted q ∷ [] } else record x { sw = joined x.sw (only f.home (map Carry (if_mine f q))) }) diverts
        ∙ ap (λ b. record x { sw = joined x.sw (only f.home (map Carry (if b then q ∷ [] else []))) }) on)
        (holds_alike S A z w' (record x { sc = x.sc ++ []; sw = joined x.sw (only z.home (Carry q ∷ [])) })
        (record x { sw = joined x.sw (only z.home (Carry q ∷ [])) }) (goes_in [] (only z.home (Carry q ∷ [])) (at 1 ∙ rw apart refl) (λ k _. at k))
        (same_but_sc f _ _ (append-nil x.sc)))

    another : (target == 1) ≡ false → mine S A z q ≡ false → Comes w' x q
    another off other = unseen (not_its other)
        (λ j. ap (λ xs. share_items S A z j (sent_for j xs)) (to_inst off) ∙ lone_unseen S A z target j (Old (Carry_on q)) (λ r. rw other refl))

    pub comes : Comes w' x q
    comes = either_way (target == 1) (λ on. either_way (S.takes z.filter (S.packet_unit q)) (λ takes. diverted on takes) (λ off. passed on off))
        (λ off. either_way (mine S A z q) (λ on. carried off on x.diverts refl) (λ other. another off other))
