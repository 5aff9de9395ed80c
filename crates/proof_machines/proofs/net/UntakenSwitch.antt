-- A unit that no share has, and the switch's steps: it stays where it is, and no share has it. The switch's packets from the input, too.
use Rattle.proof_machines.proofs.net.Words.{◌≡◌, ℕ, Bool, true, false, Some, None, List, [], ◌∷◌, ◌++◌, ◌⊎◌, inl, inr, refl, sym, ap, ◌∙◌, subst, append-nil}
use Rattle.proof_machines.proofs.net.Words.{arith, if◌then◌else◌, ◌&&◌, ◌==◌, nat_tests, Decides-eqb, MoveMsg, sent_for, Each, each_map, Msg, Carry_on}
use Rattle.proof_machines.proofs.net.Words.{Fence_on, Of_move, Sys, IsSys, Open, find_op, sw_target, sw_sends, sw_next, in_next, World, NothingOf, found_each}
use Rattle.proof_machines.proofs.net.Words.{Disjoint, OfShare, GlobalAll, Any, Old, New, ShareMsg, Shared_on, olds, as_old, Sharing, OpenShare, find_share}
use Rattle.proof_machines.proofs.net.Words.{share_target, share_sends, arrive_sends, WholeWorld, moves_of, whole_switch, whole_input, same_unit, same_unit-true}
use Rattle.proof_machines.proofs.net.Words.{split, false_from_ne_true, Unit}
use Rattle.proof_machines.proofs.net.Units.{Where, Where.At_rest, Where.In_move, Hands_on, switch_where, input_where}
use Rattle.proof_machines.proofs.net.Elsewhere.{elsewhere_where, fence_where, where_two, where_rests}
use Rattle.proof_machines.proofs.net.AsMoves.{old_sends, olds-put, no_olds-put, news-after, no_olds-after, switch_old}
use Rattle.proof_machines.proofs.net.NewMessages.{EachSentNew, sent_old, new_after, new_put, new_head}
use Rattle.proof_machines.proofs.net.Untaken.{NoShare, ElsewhereHome, Untaken, head_none}
use Rattle.proof_machines.proofs.net.UntakenInst.{Unshared}

module _ {R : Type 0} (S : Sys R) (A : Sharing S) (laws : IsSys S) (u : Unit) where
  -- the flag may grow
  where_grows : (w : World S) (ps : List ℕ) (c d : Bool) → (c ≡ true → d ≡ true) → Where S laws u w ps c → Where S laws u w ps d
  where_grows w ps c d grows (At_rest owner n l b h o f) = At_rest owner n l b h o (λ e. grows (f e))
  where_grows w ps c d grows (In_move op third x s b there h o f k) = In_move op third x s b there h o (λ e. grows (f e)) (λ on plain at. grows (k on plain at))

  -- A message of a move
  pub sw_same : (t : Unit → ℕ) (p : ℕ) (m : Msg R) → NothingOf S u p m → sw_target S t m u ≡ t u
  sw_same t p (Of_move g (MoveMsg.Install n from to)) h = let off = h.1 in rw off refl
  sw_same t p m h = refl

  -- a unit that a share takes is at rest, so no move changes its target
  homes_after : (ops : List (Open R)) (t v : Unit → ℕ) (es : List OpenShare) → (Each (λ o. S.takes o.filter u ≡ false) ops → v u ≡ t u)
      → Each (λ e. Each (λ o. Disjoint S e.filter o.filter) ops) es → Each (ElsewhereHome S u t) es → Each (ElsewhereHome S u v) es
  homes_after ops t v [] same a h = tt
  homes_after ops t v (e ∷ es) same a h = ((λ on. let is = same (each_map (λ o d. d u on) ops a.0) in rw is (h.0 on)), homes_after ops t v es same a.1 h.1)

  old_same : (w : WholeWorld S A) (ps : List ℕ) (c : Bool) (p : ℕ) (m : Msg R) (rest : List (Any R)) → (p == 0) ≡ false → w.link p 0 ≡ Old m ∷ rest
      → Where S laws u (moves_of S A w) ps c → Each (λ o. S.takes o.filter u ≡ false) w.ops → sw_target S w.target m u ≡ w.target u
  old_same w ps c p m rest p0 waits h free =
      let r = where_rests S laws u (moves_of S A w) ps c free h in
      let off : (p == 0) && (0 == 0) ≡ false = rw p0 refl in
      sw_same w.target p m (subst (λ ms. Each (NothingOf S u p) ms) (ap olds waits) (r.rest.labels p 0 off)).0

  -- A message of a share
  share_same : (w : WholeWorld S A) → Untaken S u A w → (m : ShareMsg R) → OfShare S w.shares 0 m → share_target S A w.target m u ≡ w.target u
  share_same w h (ShareMsg.Install n g from) of = split (S.takes g u) (λ b. (if b && (w.target u == from) then 1 else w.target u) ≡ w.target u)
      (λ on.
      let takes : S.takes of.share.filter u ≡ true = ap (λ x. S.takes x u) (sym of.says.0) ∙ on in
      let away : (of.share.home == w.target u) ≡ false = found_each (ElsewhereHome S u w.target) w.shares n of.share h.homes of.found takes in
      let home : from ≡ of.share.home = of.says.1 in
      let off : (w.target u == from) ≡ false = grind (arith, nat_tests, away, home) in
      rw off refl)
      (λ _. refl)
  share_same w h (Shared_on n home p) of = refl
  share_same w h m of = refl

  sends_none : (es : List OpenShare) (m : ShareMsg R) → NoShare S u es m → EachSentNew (λ _ m. NoShare S u es m) (share_sends S A m)
  sends_none es (ShareMsg.Install n g from) h = (tt, tt)
  sends_none es (ShareMsg.Forward n home p to) h = (h, tt)
  sends_none es m h = tt

  not_move : (w : WholeWorld S A) → GlobalAll S A w → (n : ℕ) (e : OpenShare) → find_share w.shares n ≡ Some e → find_op w.ops n ≡ None
  not_move w g n e there = by_kind (g.one_kind n)
    where
      by_kind : (find_op w.ops n ≡ None) ⊎ (find_share w.shares n ≡ None) → find_op w.ops n ≡ None
      by_kind (inl none) = none
      by_kind (inr none) = let never : None ≡ Some e = sym none ∙ there in cc

  -- nothing that moves see is sent
  quiet : (w : WholeWorld S A) (ps : List ℕ) (c : Bool) → Untaken S u A w → (p : ℕ) (m : ShareMsg R) (rest : List (Any R))
      → w.link p 0 ≡ New m ∷ rest → OfShare S w.shares 0 m → old_sends (share_sends S A m) ≡ [] → Where S laws u (moves_of S A w) ps c
      → Where S laws u (moves_of S A (whole_switch S A w p (New m))) ps c
  quiet w ps c h p m rest waits of none is = elsewhere_where S laws u (moves_of S A w) (moves_of S A (whole_switch S A w p (New m))) ps c (record {
    target = share_same w h m of;
    ops = refl;
    live = λ k. refl;
    rules = λ k. refl;
    link = λ i j _. no_olds-after w.link p 0 m rest (share_sends S A m) waits none i j;
    done = refl;
  }) is

  switch_new : (w : WholeWorld S A) (ps : List ℕ) (c : Bool) → GlobalAll S A w → Untaken S u A w → (p : ℕ) (m : ShareMsg R) (rest : List (Any R))
      → w.link p 0 ≡ New m ∷ rest → OfShare S w.shares 0 m → Where S laws u (moves_of S A w) ps c
      → Where S laws u (moves_of S A (whole_switch S A w p (New m))) ps c
  switch_new w ps c g h p (ShareMsg.Install n f from) rest waits of is =
      elsewhere_where S laws u fences (moves_of S A (whole_switch S A w p (New (ShareMsg.Install n f from)))) ps c (record {
        target = share_same w h (ShareMsg.Install n f from) of;
        ops = refl;
        live = λ k. refl;
        rules = λ k. refl;
        link = λ i j _. news-after w.link p 0 rest ((from, Old (Fence_on n)) ∷ []) ((from, Fence_on n) ∷ []) refl (ShareMsg.Install n f from) waits i j;
        done = refl;
      }) (fence_where S laws u (moves_of S A w) ps c n from (not_move w g n of.share of.found) is)
    where
      fences : World S
      fences = record (moves_of S A w) { link = λ i j. olds (w.link i j) ++ (if i == 0 then sent_for j ((from, Fence_on n) ∷ []) else []) }
  switch_new w ps c g h p m rest waits of is = quiet w ps c h p m rest waits of refl is

  -- The steps. No message of a share hands a unit on
  abbrev pub HandsAny : WholeWorld S A → Any R → Bool → Type 0
  HandsAny w (Old m) d = Hands_on S laws u (moves_of S A w) m d
  HandsAny w (New m) d = Prim.Unit {0}

  pub switch_unshared : (w : WholeWorld S A) (ps : List ℕ) (c d : Bool) → GlobalAll S A w → (p : ℕ) (m : Any R) (rest : List (Any R)) → (p == 0) ≡ false
      → w.link p 0 ≡ m ∷ rest → (c ≡ true → d ≡ true) → HandsAny w m d → Unshared S A laws u w ps c → Unshared S A laws u (whole_switch S A w p m) ps d
  switch_unshared w ps c d g p (Old m) rest p0 waits grows hands h = record {
    is = elsewhere_where S laws u (sw_next S (moves_of S A w) p m) (moves_of S A (whole_switch S A w p (Old m))) ps d (switch_old S A w p m rest u waits)
        (switch_where S laws u (moves_of S A w) ps c d g.moves p m (olds rest) p0 (ap olds waits) grows hands h.is);
    untaken = record {
      homes = homes_after w.ops w.target (λ v. sw_target S w.target m v) w.shares (λ free. old_same w ps c p m rest p0 waits h.is free) g.apart_moves
          h.untaken.homes;
      queues = h.untaken.queues;
      links = new_after (λ _ m. NoShare S u w.shares m) w.link h.untaken.links p 0 (as_old (sw_sends m))
          (sent_old (λ _ m. NoShare S u w.shares m) (sw_sends m));
    };
  }
  switch_unshared w ps c d g p (New m) rest p0 waits grows hands h =
      let off : (p == 0) && (0 == 0) ≡ false = rw p0 refl in
      let of = new_head (OfShare S w.shares) w.link g.messages p 0 m rest off waits in
      let none = head_none S u A w p 0 (New m) rest off waits h.untaken in
      record {
        is = where_grows (moves_of S A (whole_switch S A w p (New m))) ps c d grows (switch_new w ps c g h.untaken p m rest waits of h.is);
        untaken = record {
          homes = each_map (λ e k on. let same = share_same w h.untaken m of in rw same (k on)) w.shares h.untaken.homes;
          queues = h.untaken.queues;
          links = new_after (λ _ m. NoShare S u w.shares m) w.link h.untaken.links p 0 (share_sends S A m) (sends_none w.shares m none);
        };
      }

  -- a packet of the input
  pub input_unshared : (w : WholeWorld S A) (ps : List ℕ) (c : Bool) → GlobalAll S A w → (q : ℕ) → Unshared S A laws u w ps c
      → Unshared S A laws u (whole_input S A w q) (ps ++ (if same_unit (S.packet_unit q) u then q ∷ [] else [])) c
  input_unshared w ps c g q h = by_target (w.target (S.packet_unit q) == 1) refl
    where
      sends : List (ℕ × Any R)
      sends = arrive_sends S A (w.target (S.packet_unit q)) q

      by_target : (b : Bool) → (w.target (S.packet_unit q) == 1) ≡ b
          → Unshared S A laws u (whole_input S A w q) (ps ++ (if same_unit (S.packet_unit q) u then q ∷ [] else [])) c
      by_target true on =
          let one : w.target (S.packet_unit q) ≡ 1 = (Decides-eqb (w.target (S.packet_unit q)) 1).0 on in
          let other : same_unit (S.packet_unit q) u ≡ false = false_from_ne_true (same_unit (S.packet_unit q) u)
          (λ its. let there : w.target u ≡ 1 = ap w.target (sym (same_unit-true (S.packet_unit q) u its)) ∙ one in
          let never : ⊥ = omega (arith, where_two S laws u (moves_of S A w) ps c h.is, there) in absurd never) in
          let all : ps ++ (if same_unit (S.packet_unit q) u then q ∷ [] else []) ≡ ps = rw other (append-nil ps) in
          let none : old_sends sends ≡ [] = rw on refl in
          record {
            is = subst (λ v. Where S laws u (moves_of S A (whole_input S A w q)) v c) (sym all)
                (elsewhere_where S laws u (moves_of S A w) (moves_of S A (whole_input S A w q)) ps c (record {
                  target = refl;
                  ops = refl;
                  live = λ k. refl;
                  rules = λ k. refl;
                  link = λ i j _. no_olds-put (w.link i j) (i == 0) j sends none;
                  done = refl;
                }) h.is);
            untaken = record {
              homes = h.untaken.homes;
              queues = h.untaken.queues;
              links = new_put (λ _ m. NoShare S u w.shares m) w.link h.untaken.links 0 sends (rw on (other, tt));
            };
          }
      by_target false off =
          let carried : old_sends sends ≡ (w.target (S.packet_unit q), Carry_on q) ∷ [] = rw off refl in
          record {
            is = elsewhere_where S laws u (in_next S (moves_of S A w) q) (moves_of S A (whole_input S A w q))
                (ps ++ (if same_unit (S.packet_unit q) u then q ∷ [] else [])) c (record {
                  target = refl;
                  ops = refl;
                  live = λ k. refl;
                  rules = λ k. refl;
                  link = λ i j _. olds-put (w.link i j) (i == 0) j sends ((w.target (S.packet_unit q), Carry_on q) ∷ []) carried;
                  done = refl;
                }) (input_where S laws u (moves_of S A w) ps c g.moves q h.is);
            untaken = record {
              homes = h.untaken.homes;
              queues = h.untaken.queues;
              links = new_put (λ _ m. NoShare S u w.shares m) w.link h.untaken.links 0 sends (rw off (tt, tt));
            };
          }
