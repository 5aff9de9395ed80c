-- Moves' worlds that are the same to a unit: where the unit is goes from one to the other. And it stays where it is when an instance is
-- sent a fence of a number that no open move has. What of its target and its rest is read off where it is.
use Rattle.proof_machines.proofs.net.Words.{filter_map-append, ◌≡◌, ℕ, ◌≤◌, Bool, true, false, Some, None, List, [], ◌∷◌, ◌++◌, refl, sym, ap, ◌∙◌, subst}
use Rattle.proof_machines.proofs.net.Words.{append-nil, if◌then◌else◌, ◌&&◌, ◌==◌, Decides-eqb, At_a, At_b, At_c, Ran, State, sent_for, only_mine, Each, Nodes}
use Rattle.proof_machines.proofs.net.Words.{filter_map, seat_shape, Msg, Fence_on, Sys, IsSys, find_rule, rule_of, held_of, find_op, World, seen, Seeing, frame}
use Rattle.proof_machines.proofs.net.Words.{Label, shows, RuleLabel, OpLabel, place, IsController, Holds, each_put, Rest, RestRule, RestOp, NothingOf}
use Rattle.proof_machines.proofs.net.Words.{carries_of, done_u, split, false_from_ne_true, Unit, Side}
use Rattle.proof_machines.proofs.net.Ctrl.{each_found}
use Rattle.proof_machines.proofs.net.OtherWorld.{put_unseen, one_unseen}
use Rattle.proof_machines.proofs.net.Units.{Where, Where.At_rest, Where.In_move, see}

-- all that where a unit is looks at
pub record Elsewhere {R : Type 0} (S : Sys R) (u : Unit) (w v : World S) : Type 0 where
  pub target : v.target u ≡ w.target u
  pub ops : v.ops ≡ w.ops
  pub live : (k : ℕ) → S.B.at u (v.inst k).live ≡ S.B.at u (w.inst k).live
  pub rules : (k : ℕ) → (v.inst k).rules ≡ (w.inst k).rules
  pub link : (i j : ℕ) → (i == 0) && (j == 0) ≡ false → v.link i j ≡ w.link i j
  pub done : done_u S u v.done ≡ done_u S u w.done

-- a unit at rest, without a word of where its packets are
pub record Resting {R : Type 0} (S : Sys R) (u : Unit) (w : World S) : Type 0 where
  pub owner : ℕ
  pub done : List Ran
  pub waits : List ℕ
  pub rest : Rest S u w owner done waits

module _ {R : Type 0} (S : Sys R) where
  pub elsewhere_rest : (u : Unit) (w v : World S) (owner : ℕ) (d : List Ran) (l : List ℕ) → Elsewhere S u w v → Rest S u w owner d l
      → Rest S u v owner d l
  elsewhere_rest u w v owner d l e h = record {
    two = h.two;
    links = λ i j off. ap (carries_of S u) (e.link i j off) ∙ h.links i j off;
    labels = λ i j off. subst (λ ms. Each (NothingOf S u i) ms) (sym (e.link i j off)) (h.labels i j off);
    live = λ k. e.live k ∙ h.live k;
    rules = λ k. subst (λ rs. Each (RestRule S u) rs) (sym (e.rules k)) (h.rules k);
    target = e.target ∙ h.target;
    ops = subst (λ es. Each (RestOp S u) es) (sym e.ops) h.ops;
    done = e.done ∙ h.done;
  }

  pub elsewhere_holds : (z : Seeing) (w v : World S) (x : State R) → Elsewhere S z.unit w v → Holds S z w x → Holds S z v x
  elsewhere_holds z w v x e h = record {
    apart = h.apart;
    nodes = h.nodes;
    views = λ i j. again i j ∙ h.views i j;
    labels = λ i j off. subst (λ ms. Each (Label S z i) ms) (sym (e.link i j off)) (h.labels i j off);
    insts = λ k. record {
      live = e.live k ∙ (h.insts k).live;
      rule = ap (λ rs. rule_of (find_rule z.op.num rs)) (e.rules k) ∙ (h.insts k).rule;
      held = ap (λ rs. only_mine (frame S z) (held_of (find_rule z.op.num rs))) (e.rules k) ∙ (h.insts k).held;
      rules = subst (λ rs. Each (RuleLabel S z) rs) (sym (e.rules k)) (h.insts k).rules;
    };
    target = e.target ∙ h.target;
    ctrl = subst (λ es. IsController S z (find_op es z.op.num) x) (sym e.ops) h.ctrl;
    ops = subst (λ es. Each (OpLabel S z) es) (sym e.ops) h.ops;
    done = e.done ∙ h.done;
  }
    where
      again : (i j : ℕ) → shows S z v.link i j ≡ shows S z w.link i j
      again i j = split ((i == 0) && (j == 0)) (λ b. (if b then [] else filter_map (seen (frame S z)) (v.link i j))
          ≡ (if b then [] else filter_map (seen (frame S z)) (w.link i j)))
          (λ _. refl)
          (λ off. ap (filter_map (seen (frame S z))) (e.link i j off))

  module _ (laws : IsSys S) (u : Unit) where
    pub elsewhere_where : (w v : World S) (ps : List ℕ) (c : Bool) → Elsewhere S u w v → Where S laws u w ps c → Where S laws u v ps c
    elsewhere_where w v ps c e (At_rest owner d l b h o f) = At_rest owner d l b (elsewhere_rest u w v owner d l e h) o f
    elsewhere_where w v ps c e (In_move op third x s b there h o f k) = In_move op third x s b (ap (λ es. find_op es op.num) e.ops ∙ there)
        (elsewhere_holds (see S laws u op third) w v (seat_shape S.F s) e h) o f (λ on plain at. k on plain (sym e.target ∙ at))

    no_carry : (n : ℕ) (a t : Bool) → carries_of S u (if a then (if t then Fence_on n ∷ [] else []) else []) ≡ []
    no_carry n true true = refl
    no_carry n true false = refl
    no_carry n false t = refl

    -- the switch sends an instance a fence of a number that no open move has
    pub fence_where : (w : World S) (ps : List ℕ) (c : Bool) (n to : ℕ) → find_op w.ops n ≡ None → Where S laws u w ps c
        → Where S laws u (record w { link = λ i j. w.link i j ++ (if i == 0 then sent_for j ((to, Fence_on n) ∷ []) else []) }) ps c
    fence_where w ps c n to none (At_rest owner d l b h o f) =
        At_rest owner d l b (record {
          two = h.two;
          links = λ i j off. filter_map-append _ (w.link i j) (fence i j) ∙ ap (λ v. carries_of S u (w.link i j) ++ v) (no_carry n (i == 0) (to == j))
              ∙ append-nil (carries_of S u (w.link i j)) ∙ h.links i j off;
          labels = each_put (λ i _ m. NothingOf S u i m) w.link 0 ((to, Fence_on n) ∷ []) h.labels (tt, tt);
          live = h.live;
          rules = h.rules;
          target = h.target;
          ops = h.ops;
          done = h.done;
        }) o f
      where
        fence : ℕ → ℕ → List (Msg R)
        fence i j = if i == 0 then sent_for j ((to, Fence_on n) ∷ []) else []
    fence_where w ps c n to none (In_move op third x s b there h o f k) =
        let z = see S laws u op third in
        let other : (n == op.num) ≡ false = false_from_ne_true (n == op.num)
        (λ on. let same : n ≡ op.num = (Decides-eqb n op.num).0 on in
        let never : None ≡ Some x = sym none ∙ subst (λ q. find_op w.ops q ≡ Some x) (sym same) there in cc) in
        In_move op third x s b there
        (put_unseen S laws z w (seat_shape S.F s) h 0 ((to, Fence_on n) ∷ []) (one_unseen S laws z 0 to (Fence_on n) (rw other refl)) (tt, tt)) o f k

    side_two : (z : Seeing) (x : Side) → Nodes z.op.src z.op.dst z.third → 2 ≤ place S z x
    side_two z At_a nodes = nodes.a_is
    side_two z At_b nodes = nodes.b_is
    side_two z At_c nodes = nodes.c_is

    -- its packets go to an instance
    pub where_two : (w : World S) (ps : List ℕ) (c : Bool) → Where S laws u w ps c → 2 ≤ w.target u
    where_two w ps c (At_rest owner d l b h o f) = subst (λ k. 2 ≤ k) (sym h.target) h.two
    where_two w ps c (In_move op third x s b there h o f k) =
        subst (λ k. 2 ≤ k) (sym h.target) (side_two (see S laws u op third) (seat_shape S.F s).target h.nodes)

    -- where no open move takes it, it rests
    pub where_rests : (w : World S) (ps : List ℕ) (c : Bool) → Each (λ e. S.takes e.filter u ≡ false) w.ops → Where S laws u w ps c → Resting S u w
    where_rests w ps c free (At_rest owner d l b h o f) = record { owner = owner; done = d; waits = l; rest = h }
    where_rests w ps c free (In_move op third x s b there h o f k) =
        let a = each_found (OpLabel S (see S laws u op third)) op.num w.ops x h.ops there in
        let out = each_found (λ e. S.takes e.filter u ≡ false) op.num w.ops x free there in
        let never : false ≡ true = sym out.0 ∙ a.0.0 ∙ a.1 in
        cc
