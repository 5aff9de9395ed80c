-- A world with a unit at rest shows a seat at rest, and a seat at rest whose move isn't open is a unit at rest.
use Rattle.proof_machines.proofs.Tests.{by_if}
use Rattle.proof_machines.proofs.unit.Real.{sent_either}
use Rattle.proof_machines.proofs.NumberedLists.{none_below}
use Rattle.proof_machines.proofs.EachLaws.{each_both}
use Rattle.proof_machines.proofs.net.Words.{◌≡◌, ℕ, ◌≤◌, ◌<◌, Bool, true, false, Option, Some, None, List, [], ◌∷◌, map, refl, sym, ap, ◌∙◌, subst, unwrap_or}
use Rattle.proof_machines.proofs.net.Words.{arith, if◌then◌else◌, ◌&&◌, ◌==◌, nat_tests, Where, At_a, At_b, At_c, Ran, after, Free, idle, Item, Over, firsts}
use Rattle.proof_machines.proofs.net.Words.{MoveMsg, where_true, add, only_mine, off_if, none_if, NodesDiffer, Each, each_both, Nodes, expect, rest_at}
use Rattle.proof_machines.proofs.net.Words.{filter_map, Filter, Msg, In_packet, Asked, Carry_on, Pass_on, Fence_on, Of_move, Sys, Ruling, find_rule, rule_of}
use Rattle.proof_machines.proofs.net.Words.{is_free, held_of, Open, find_op, num_of, World, seen, Seeing, frame, MoveLabel, Label, RuleLabel, OpLabel, SeesNode}
use Rattle.proof_machines.proofs.net.Words.{shows, node_at, place, IsController, Holds, same_unit, IsBelow, Below, below_off, Global, HasNothing, NothingOf}
use Rattle.proof_machines.proofs.net.Words.{RestRule, RestOp, carries_of, Rest, split, Unit}
use Rattle.proof_machines.proofs.unit.Machine.{Carry, Stray, Phase, Idle}
use Rattle.proof_machines.proofs.unit.Real

module _ {R : Type 0} (S : Sys R) (z : Seeing) where
  abbrev u : Unit
  u = z.unit

  abbrev n : ℕ
  n = z.op.num

  abbrev its : List (Msg R) → List (Item R)
  its ms = filter_map (seen (frame S z)) ms

  -- From rest to a seat: the number n is on nothing.
  module _ (b : ℕ) (new : b ≤ n) where
    off : (k : ℕ) → k < b → (k == n) ≡ false
    off k e = below_off k b n e new

    pub mv_label : (g : Filter) (m : MoveMsg R) → IsBelow b (num_of m) → HasNothing S u g m → MoveLabel S z g m
    mv_label g (MoveMsg.Enable k r) e h = (h.0 ∙ sym (off k e), h.1)
    mv_label g (MoveMsg.Stream k) e h = h ∙ sym (off k e)
    mv_label g (MoveMsg.Install k from to) e h = h ∙ sym (off k e)
    mv_label g (MoveMsg.Event k p) e h = λ is. let both : false ≡ true = sym h ∙ is in cc
    mv_label g (MoveMsg.Delete k us) e h = λ _. h
    mv_label g (MoveMsg.Put k p first) e h = λ _. h
    mv_label g (MoveMsg.Restore k cs) e h = λ _. h
    mv_label g (MoveMsg.Piece k p) e h = λ _. h
    mv_label g (MoveMsg.Put_no k why cs) e h = λ _. h
    mv_label g m e h = tt

    to_label : (i : ℕ) (m : Msg R) → Below b m → NothingOf S u i m → Label S z i m
    to_label i (Of_move g m) e h = (h.0, mv_label g m e h.1)
    to_label i (Pass_on p) e h = tt
    to_label i (Carry_on p) e h = tt
    to_label i m e h = tt

    pub mv_unseen : (g : Filter) (m : MoveMsg R) → IsBelow b (num_of m) → HasNothing S u g m → Real.seen (frame S z) m ≡ None
    mv_unseen g (MoveMsg.Event k p) e h = rw h refl
    mv_unseen g (MoveMsg.Forward p to) e h = rw h refl
    mv_unseen g m e h = none_if _ _ (off (unwrap_or (num_of m) 0) e)

    view_rest : (i : ℕ) (ms : List (Msg R)) → Each (Below b) ms → Each (NothingOf S u i) ms → its ms ≡ map Carry (carries_of S u ms)
    view_rest i [] e h = refl
    view_rest i (Carry_on p ∷ ms) e h = elim (same_unit (S.packet_unit p) u)
        as (λ t. add (where_true t (Carry p)) (its ms) ≡ map Carry (add (where_true t p) (carries_of S u ms)))
        [ true ↦ ap (λ v. Carry p ∷ v) (view_rest i ms e.1 h.1) | false ↦ view_rest i ms e.1 h.1 ]
    view_rest i (Pass_on p ∷ ms) e h = let o = h.0 in rw o (view_rest i ms e.1 h.1)
    view_rest i (Fence_on k ∷ ms) e h = let o = off k e.0 in rw o (view_rest i ms e.1 h.1)
    view_rest i (Of_move g m ∷ ms) e h = let o = mv_unseen g m e.0 h.0.1 in rw o (view_rest i ms e.1 h.1)
    view_rest i (In_packet p ∷ ms) e h = view_rest i ms e.1 h.1
    view_rest i (Asked a ∷ ms) e h = view_rest i ms e.1 h.1

    pub rule_labels : (rs : List Ruling) → Each (λ r. r.num < b) rs → Each (RestRule S u) rs → Each (RuleLabel S z) rs
    rule_labels rs e h = each_both (λ r few rests. (rests.0 ∙ sym (off r.num few), (λ _. rests.1), rests.2)) rs e h

    pub op_labels : (es : List (Open R)) → Each (λ e. e.op.num < b) es → Each (RestOp S u) es → Each (OpLabel S z) es
    op_labels es e h = each_both (λ x few rests. (rests.0 ∙ sym (off x.op.num few), (λ _. rests.1), rests.2)) es e h

    rest_links : (side : Where) (d : List Ran) (l : List ℕ) (keep : Bool) (i j : ℕ) (m : List (Item R)) → Nodes z.op.src z.op.dst z.third → map Carry l ≡ m
        → (if (i == 0) && (j == 0) then [] else (if (i == 0) && (j == place S z side) then m else []))
        ≡ expect z.op.src z.op.dst z.third (rest_at S.F side d l (Over Idle) keep) i j
    rest_links At_a d l keep i j m nodes e = grind (arith, nat_tests, e, nodes.a_is, nodes.b_is, nodes.c_is, nodes.ab, nodes.ac, nodes.bc)
    rest_links side d l keep i j m nodes e = grind (arith, nat_tests, e, nodes.a_is, nodes.b_is, nodes.c_is, nodes.ab, nodes.ac, nodes.bc)

    map_if : (t : Bool) (l : List ℕ) → map {A = ℕ} {B = Item R} Carry (if t then l else []) ≡ (if t then map Carry l else [])
    map_if true l = refl
    map_if false l = refl

  node_rest : (side : Where) (d : List Ran) (l : List ℕ) (ph : Phase R) (keep : Bool) (k : ℕ) → Nodes z.op.src z.op.dst z.third
      → node_at S z (rest_at S.F side d l ph keep) k ≡ idle (if k == place S z side then after S.F d else None)
  node_rest At_a d l ph keep k nodes = split (k == z.op.src)
      (λ t. (if t then idle (after S.F d) else if k == z.op.dst then idle None else if k == z.third then idle None else idle None) ≡ idle
      (if t then after S.F d else None))
      (λ _. refl)
      (λ _. elim (k == z.op.dst) as (λ t. (if t then idle None else if k == z.third then idle None else idle None) ≡ idle {R = R} None)
      [ true ↦ refl | false ↦ elim (k == z.third) as (λ t. (if t then idle None else idle None) ≡ idle {R = R} None) [ true ↦ refl | false ↦ refl ] ])
  node_rest At_b d l ph keep k nodes = split (k == z.op.src)
      (λ t. (if t then idle None else if k == z.op.dst then idle (after S.F d) else if k == z.third then idle None else idle None)
      ≡ idle (if k == z.op.dst then after S.F d else None))
      (λ e. let ab = nodes.ab in let no : (k == z.op.dst) ≡ false = grind (arith, nat_tests, ab) in rw no refl)
      (λ _. elim (k == z.op.dst) as (λ t. (if t then idle (after S.F d) else if k == z.third then idle None else idle None)
      ≡ idle (if t then after S.F d else None))
      [ true ↦ refl | false ↦ elim (k == z.third) as (λ t. (if t then idle None else idle None) ≡ idle {R = R} None) [ true ↦ refl | false ↦ refl ] ])
  node_rest At_c d l ph keep k nodes = split (k == z.op.src)
      (λ t. (if t then idle None else if k == z.op.dst then idle None else if k == z.third then idle (after S.F d) else idle None)
      ≡ idle (if k == z.third then after S.F d else None))
      (λ e. let ac = nodes.ac in let no : (k == z.third) ≡ false = grind (arith, nat_tests, ac) in rw no refl)
      (λ _. split (k == z.op.dst) (λ t. (if t then idle None else if k == z.third then idle (after S.F d) else idle None)
      ≡ idle (if k == z.third then after S.F d else None))
      (λ e. let bc = nodes.bc in let no : (k == z.third) ≡ false = grind (arith, nat_tests, bc) in rw no refl)
      (λ _. elim (k == z.third) as (λ t. (if t then idle (after S.F d) else idle None) ≡ idle (if t then after S.F d else None))
      [ true ↦ refl | false ↦ refl ]))

  done_rest : (side : Where) (d : List Ran) (l : List ℕ) (ph : Phase R) (keep : Bool) → (rest_at S.F side d l ph keep).done ≡ d
  done_rest At_a d l ph keep = refl
  done_rest side d l ph keep = refl

  target_rest : (side : Where) (d : List Ran) (l : List ℕ) (ph : Phase R) (keep : Bool) → (rest_at S.F side d l ph keep).target ≡ side
  target_rest At_a d l ph keep = refl
  target_rest side d l ph keep = refl

  idle_phase : (side : Where) (d : List Ran) (l : List ℕ) (keep : Bool) → (rest_at S.F side d l (Over Idle) keep).phase ≡ (Over Idle)
  idle_phase At_a d l keep = refl
  idle_phase side d l keep = refl

  pub rest_holds : (w : World S) → Global S w → w.next ≤ n → NodesDiffer z.op → Nodes z.op.src z.op.dst z.third
      → (side : Where) (d : List Ran) (l : List ℕ) (keep : Bool) → Rest S u w (place S z side) d l → Holds S z w (rest_at S.F side d l (Over Idle) keep)
  rest_holds w g new apart nodes side d l keep h = record {
    apart = apart;
    nodes = nodes;
    views = λ i j. by_input i j ∙ rest_links w.next new side d l keep i j (map Carry l) nodes refl;
    labels = λ i j e. each_both (λ m a c. to_label w.next new i m a c) (w.link i j) (g.messages i j e) (h.labels i j e);
    insts = λ k.
        let none : find_rule n (w.inst k).rules ≡ None = none_below _ w.next n (w.inst k).rules new (g.rules k) in
        subst (λ v. SeesNode S z (w.inst k) v) (sym (node_rest side d l (Over Idle) keep k nodes)) (record {
          live = h.live k;
          rule = ap rule_of none;
          held = ap (λ o. only_mine (frame S z) (held_of o)) none;
          rules = rule_labels w.next new (w.inst k).rules (g.rules k) (h.rules k);
        });
    target = h.target ∙ ap (place S z) (sym (target_rest side d l (Over Idle) keep));
    ctrl = subst (λ o. IsController S z o (rest_at S.F side d l (Over Idle) keep)) (sym (none_below _ w.next n w.ops new g.ops))
        (let e = idle_phase side d l keep in rw e refl);
    ops = op_labels w.next new w.ops g.ops h.ops;
    done = h.done ∙ ap firsts (sym (done_rest side d l (Over Idle) keep));
  }
    where
      by_input : (i j : ℕ) → shows S z w.link i j ≡ (if (i == 0) && (j == 0) then [] else (if (i == 0) && (j == place S z side) then map Carry l else []))
      by_input i j = split ((i == 0) && (j == 0)) (λ t. (if t then [] else its (w.link i j))
          ≡ (if t then [] else (if (i == 0) && (j == place S z side) then map Carry l else [])))
          (λ _. refl)
          (λ e. view_rest w.next new i (w.link i j) (g.messages i j e) (h.labels i j e) ∙ ap (λ v. map Carry v) (h.links i j e)
          ∙ map_if w.next new ((i == 0) && (j == place S z side)) l)

  abbrev no_carry : Option (Item R) → Bool
  no_carry (Some (Carry p)) = false
  no_carry o = true

  carry_head : (o : Option (Item R)) (v : List (Item R)) (l : List ℕ) → no_carry o ≡ true → add o v ≡ map Carry l → (o ≡ None) × (v ≡ map Carry l)
  carry_head None v l a e = (refl, e)
  carry_head (Some it) v [] a e = cc
  carry_head (Some it) v (p ∷ l) a e = let same : it ≡ Carry p = cc in let never : false ≡ true = ap (λ q. no_carry (Some q)) (sym same) ∙ a in cc

  no_if : (t : Bool) (it : Item R) → no_carry (Some it) ≡ true → no_carry (where_true t it) ≡ true
  no_if true it e = e
  no_if false it e = refl

  mv_no_carry : (m : MoveMsg R) → no_carry (Real.seen (frame S z) m) ≡ true
  mv_no_carry (MoveMsg.Forward p to) = no_if (same_unit (S.packet_unit p) u) _
      (sent_either (λ it. no_carry (Some it) ≡ true) (frame S z) to (λ v. Rattle.proof_machines.proofs.unit.Machine.Forward v p) (λ v. refl) refl)
  mv_no_carry (MoveMsg.Fence_to k to) = no_if (k == n) _
      (sent_either (λ it. no_carry (Some it) ≡ true) (frame S z) to (λ v. Rattle.proof_machines.proofs.unit.Machine.Fence_to v) (λ v. refl) refl)
  mv_no_carry (MoveMsg.Install k from to) = no_if (k == n) _
      (by_if (λ it. no_carry (Some it) ≡ true) ((from == z.op.src) && (to == z.op.dst)) refl refl)
  mv_no_carry m = no_if _ _ refl

  pub mv_nothing : (g : Filter) (m : MoveMsg R) → Real.seen (frame S z) m ≡ None → MoveLabel S z g m → HasNothing S u g m
  mv_nothing g (MoveMsg.Enable k r) e l = (l.0 ∙ off_if (k == n) _ e, l.1)
  mv_nothing g (MoveMsg.Stream k) e l = l ∙ off_if (k == n) _ e
  mv_nothing g (MoveMsg.Install k from to) e l = l ∙ off_if (k == n) _ e
  mv_nothing g (MoveMsg.Event k p) e l = off_if (same_unit (S.packet_unit p) u) _ e
  mv_nothing g (MoveMsg.Forward p to) e l = off_if (same_unit (S.packet_unit p) u) _ e
  mv_nothing g (MoveMsg.Delete k us) e l = l (off_if (k == n) _ e)
  mv_nothing g (MoveMsg.Put k p first) e l = l (off_if (k == n) _ e)
  mv_nothing g (MoveMsg.Restore k cs) e l = l (off_if (k == n) _ e)
  mv_nothing g (MoveMsg.Piece k p) e l = l (off_if (k == n) _ e)
  mv_nothing g (MoveMsg.Put_no k why cs) e l = l (off_if (k == n) _ e)
  mv_nothing g m e l = tt

  link_rest : (i : ℕ) (ms : List (Msg R)) (l : List ℕ) → its ms ≡ map Carry l → Each (Label S z i) ms → (carries_of S u ms ≡ l) × Each (NothingOf S u i) ms
  link_rest i [] [] e h = (refl, tt)
  link_rest i [] (p ∷ l) e h = cc
  link_rest i (Carry_on p ∷ ms) l e h =
      split (same_unit (S.packet_unit p) u)
      (λ t. add (where_true t (Carry p)) (its ms) ≡ map Carry l → (add (where_true t p) (carries_of S u ms) ≡ l) × Each (NothingOf S u i)
      (Carry_on p ∷ ms))
      (λ _. λ g. by_list l g (λ k t. link_rest i ms k t h.1)) (λ _. λ g. let r = link_rest i ms l g h.1 in (r.0, (tt, r.1))) e
    where
      by_list : (l : List ℕ) → Carry p ∷ its ms ≡ map Carry l → ((k : List ℕ) → its ms ≡ map Carry k → (carries_of S u ms ≡ k) × Each (NothingOf S u i) ms)
          → (p ∷ carries_of S u ms ≡ l) × Each (NothingOf S u i) (Carry_on p ∷ ms)
      by_list [] g more = cc
      by_list (q ∷ l) g more =
          let tail : its ms ≡ map Carry l = cc in
          let same : p ≡ q = cc in
          let r = more l tail in
          (rw (same, r.0) refl, (tt, r.1))
  link_rest i (Pass_on p ∷ ms) l e h = let a = carry_head (seen (frame S z) (Pass_on p)) (its ms) l (no_if (same_unit (S.packet_unit p) u) _ refl) e in
      let r = link_rest i ms l a.1 h.1 in (r.0, (off_if (same_unit (S.packet_unit p) u) _ a.0, r.1))
  link_rest i (Fence_on k ∷ ms) l e h =
      let a = carry_head (seen (frame S z) (Fence_on k)) (its ms) l (no_if (k == n) _ refl) e in let r = link_rest i ms l a.1 h.1 in (r.0, (tt, r.1))
  link_rest i (Of_move g m ∷ ms) l e h = let a = carry_head (seen (frame S z) (Of_move g m)) (its ms) l (mv_no_carry m) e in
      let r = link_rest i ms l a.1 h.1 in (r.0, ((h.0.0, mv_nothing g m a.0 h.0.1), r.1))
  link_rest i (In_packet p ∷ ms) l e h = let r = link_rest i ms l e h.1 in (r.0, (tt, r.1))
  link_rest i (Asked a ∷ ms) l e h = let r = link_rest i ms l e h.1 in (r.0, (tt, r.1))

  -- no rule and no move with the number is left
  pub rules_rest : (rs : List Ruling) → rule_of (find_rule n rs) ≡ Free → Each (RuleLabel S z) rs → Each (RestRule S u) rs
  rules_rest [] e h = tt
  rules_rest (r ∷ rs) e h =
      split (r.num == n) (λ t. rule_of (if t then Some r else find_rule n rs) ≡ Free → Each (RestRule S u) (r ∷ rs))
      (λ _ free. let never : true ≡ false = ap is_free (sym free) ∙ h.0.2 in cc)
      (λ o free. ((h.0.0 ∙ o, h.0.1 o, h.0.2), rules_rest rs free h.1)) e

  pub ops_rest : (es : List (Open R)) → find_op es n ≡ None → Each (OpLabel S z) es → Each (RestOp S u) es
  ops_rest [] e h = tt
  ops_rest (x ∷ es) e h = split (x.op.num == n) (λ t. (if t then Some x else find_op es n) ≡ None → Each (RestOp S u) (x ∷ es)) (λ _ bad. cc)
      (λ o none. ((h.0.0 ∙ o, ((h.0.1 o).0, (h.0.1 o).1), h.0.2), ops_rest es none h.1)) e

  end_links : (side : Where) (d : List Ran) (l : List ℕ) (ph : Phase R) (keep : Bool) (i j : ℕ) → Nodes z.op.src z.op.dst z.third
      → expect z.op.src z.op.dst z.third (rest_at S.F side d l ph keep) i j ≡ (if (i == 0) && (j == place S z side) then map Carry l else [])
  end_links At_a d l ph keep i j nodes = grind (arith, nat_tests, nodes.a_is, nodes.b_is, nodes.c_is, nodes.ab, nodes.ac, nodes.bc)
  end_links side d l ph keep i j nodes = grind (arith, nat_tests, nodes.a_is, nodes.b_is, nodes.c_is, nodes.ab, nodes.ac, nodes.bc)

  place_two : (side : Where) → Nodes z.op.src z.op.dst z.third → 2 ≤ place S z side
  place_two At_a nodes = nodes.a_is
  place_two At_b nodes = nodes.b_is
  place_two At_c nodes = nodes.c_is

  if_map : (t : Bool) (l : List ℕ) → (if t then map {A = ℕ} {B = Item R} Carry l else []) ≡ map Carry (if t then l else [])
  if_map true l = refl
  if_map false l = refl

  pub holds_rest : (w : World S) (side : Where) (d : List Ran) (l : List ℕ) (ph : Phase R) (keep : Bool) → Holds S z w (rest_at S.F side d l ph keep)
      → find_op w.ops n ≡ None → Rest S u w (place S z side) d l
  holds_rest w side d l ph keep h none = record {
    two = place_two side h.nodes;
    links = λ i j e. (at i j e).0;
    labels = λ i j e. (at i j e).1;
    live = λ k. (h.insts k).live ∙ ap (λ x. x.live) (node_rest side d l ph keep k h.nodes);
    rules = λ k. rules_rest (w.inst k).rules ((h.insts k).rule ∙ ap (λ x. x.rule) (node_rest side d l ph keep k h.nodes)) (h.insts k).rules;
    target = h.target ∙ ap (place S z) (target_rest side d l ph keep);
    ops = ops_rest w.ops none h.ops;
    done = h.done ∙ ap firsts (done_rest side d l ph keep);
  }
    where
      at : (i j : ℕ) → (i == 0) && (j == 0) ≡ false
          → (carries_of S u (w.link i j) ≡ (if (i == 0) && (j == place S z side) then l else [])) × Each (NothingOf S u i) (w.link i j)
      at i j e =
          let v : its (w.link i j) ≡ map Carry (if (i == 0) && (j == place S z side) then l else []) = ap (λ t. if t then [] else its (w.link i j)) (sym e)
          ∙ h.views i j ∙ end_links side d l ph keep i j h.nodes ∙ if_map ((i == 0) && (j == place S z side)) l in
          link_rest i (w.link i j) (if (i == 0) && (j == place S z side) then l else []) v (h.labels i j e)
