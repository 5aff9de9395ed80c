-- An instance takes a packet or a fence: one unit sees the machine's step of that side, or nothing.
use Rattle.proof_machines.proofs.net.Words.{◌≡◌, ℕ, Bool, true, false, Option, Some, None, List, [], ◌∷◌, ◌++◌, map, refl, sym, ap, ◌∙◌, subst, append-nil}
use Rattle.proof_machines.proofs.net.Words.{if◌then◌else◌, ◌==◌, option_map, eqb-true, Where, Rule, Free, Drops, Buffers, Part, Inst, Did, inst_does, carried}
use Rattle.proof_machines.proofs.net.Words.{ran_one, Item, Pass, firsts, firsts-on, MoveMsg, Frame, where_true, add, view, only_mine, sent_for, filter-append}
use Rattle.proof_machines.proofs.net.Words.{Each, filter_map, Filter, Carry_on, Pass_on, Fence_on, Sys, IsSys, Ruling, first_rule, find_rule, set_rule, hold}
use Rattle.proof_machines.proofs.net.Words.{holding, drop_rule, rule_of, is_free, held_of, to_ctrl, NumberedInstance, InstanceTurn, process, process_all}
use Rattle.proof_machines.proofs.net.Words.{runs_it, by_kind, by_rule, fenced, inst_step, seen, Seeing, EachSent, frame, Label, RuleLabel, SeesNode, same_unit}
use Rattle.proof_machines.proofs.net.Words.{same_unit-true, Answer, either_way, split, did_sends}
use Rattle.proof_machines.proofs.unit.Machine.{fold, Carry, Fence}
use Rattle.proof_machines.proofs.unit.Real
use Rattle.proof_machines.proofs.NumberedLists.{find-drop_own, find-drop_other, each-drop, each-change, found_number}
use Rattle.proof_machines.proofs.net.RuleLists.{each_set, find_hold_other, find_hold_own, hold_rule}

module _ {R : Type 0} (S : Sys R) (laws : IsSys S) (z : Seeing) (num : (z.op.num == z.op.num) ≡ true) where
  abbrev own_frame : Frame
  own_frame = frame S z

  abbrev n : ℕ
  n = z.op.num

  abbrev mine : ℕ → Bool
  mine p = same_unit (S.packet_unit p) z.unit

  -- rules
  first_is_found : (rs : List Ruling) → Each (RuleLabel S z) rs → first_rule S z.unit rs ≡ find_rule n rs
  first_is_found [] l = refl
  first_is_found (r ∷ rs) l = let e = l.0.0 in rw e (ap (λ o. if r.num == n then Some r else o) (first_is_found rs l.1))

  found_label : (m : ℕ) (rs : List Ruling) → Each (RuleLabel S z) rs → (m == n) ≡ false → only_mine own_frame (held_of (find_rule m rs)) ≡ []
  found_label m [] l off = refl
  found_label m (r ∷ rs) l off =
      split (r.num == m) (λ b. only_mine own_frame (held_of (if b then Some r else find_rule m rs)) ≡ [])
      (λ e. l.0.1 (let same : r.num ≡ m = eqb-true r.num m e in rw same off))
      (λ _. found_label m rs l.1 off)

  -- a packet of another unit is held, and one of its own
  hold_else : (m p : ℕ) (rs : List Ruling) → mine p ≡ false → only_mine own_frame (held_of (find_rule n (hold m p rs)))
      ≡ only_mine own_frame (held_of (find_rule n rs))
  hold_else m p rs off =
      either_way (m == n)
      (λ e. let same : m ≡ n = eqb-true m n e in
      ap (λ k. only_mine own_frame (held_of (find_rule n (hold k p rs)))) same ∙ ap (λ o. only_mine own_frame (held_of o)) (find_hold_own n p rs)
      ∙ still (find_rule n rs))
      (λ out. ap (λ o. only_mine own_frame (held_of o)) (find_hold_other n m p rs out))
    where
      still : (o : Option Ruling) → only_mine own_frame (held_of (option_map (holding p) o)) ≡ only_mine own_frame (held_of o)
      still None = refl
      still (Some r) = filter-append _ r.held (p ∷ []) ∙ rw off (append-nil (only_mine own_frame r.held))

  hold_own_held : (p : ℕ) (rs : List Ruling) (r : Ruling) → find_rule n rs ≡ Some r → held_of (find_rule n (hold n p rs)) ≡ r.held ++ p ∷ []
  hold_own_held p rs r e = ap held_of (find_hold_own n p rs ∙ ap (option_map (holding p)) e)

  -- labels of rules
  pub label_set : (m : ℕ) (g : Filter) (k : Rule) (rs : List Ruling) → (S.takes g z.unit ≡ (m == n)) × (is_free k ≡ false) → Each (RuleLabel S z) rs
      → Each (RuleLabel S z) (set_rule m g k rs)
  label_set m g k rs e l =
      each_set (RuleLabel S z) m g k rs (λ r same h. (let at : r.num ≡ m = eqb-true r.num m same in rw at e.0, h.1, e.1)) (e.0, (λ _. refl), e.1) l

  more_else : (h : List ℕ) (p : ℕ) → only_mine own_frame h ≡ [] → mine p ≡ false → only_mine own_frame (h ++ p ∷ []) ≡ []
  more_else h p e off = filter-append _ h (p ∷ []) ∙ rw (e, off) refl

  label_hold : (m p : ℕ) (rs : List Ruling) → ((m == n) ≡ false → mine p ≡ false) → Each (RuleLabel S z) rs → Each (RuleLabel S z) (hold m p rs)
  label_hold m p rs off l = each-change _ (RuleLabel S z) m (holding p)
      (λ r same h. (h.0, (λ t. more_else r.held p (h.1 t) (off (let at : r.num ≡ m = eqb-true r.num m same in rw (← at) t))), h.2)) rs l

  -- tables
  process_mine : (t : S.B.T) (p : ℕ) → mine p ≡ true → S.B.at z.unit (process S t p) ≡ Some (S.F.step (S.B.at z.unit t) p)
  process_mine t p e =
      let same : S.packet_unit p ≡ z.unit = same_unit-true (S.packet_unit p) z.unit e in
      laws.written z.unit (S.packet_unit p) (S.F.step (S.B.at (S.packet_unit p) t) p) t ∙ rw e (ap (λ u. Some (S.F.step (S.B.at u t) p)) same)

  process_other : (t : S.B.T) (p : ℕ) → mine p ≡ false → S.B.at z.unit (process S t p) ≡ S.B.at z.unit t
  process_other t p e = laws.written z.unit (S.packet_unit p) (S.F.step (S.B.at (S.packet_unit p) t) p) t ∙ rw e refl

  process_seen : (t : S.B.T) (ps : List ℕ) (o : Option R) → S.B.at z.unit t ≡ o → S.B.at z.unit (process_all S t ps) ≡ fold S.F o (only_mine own_frame ps)
  process_seen t [] o e = e
  process_seen t (p ∷ ps) o e =
      split (mine p) (λ b. S.B.at z.unit (process_all S (process S t p) ps) ≡ fold S.F o (if b then p ∷ only_mine own_frame ps else only_mine own_frame ps))
      (λ is. process_seen (process S t p) ps (Some (S.F.step o p)) (process_mine t p is ∙ ap (λ x. Some (S.F.step x p)) e))
      (λ off. process_seen (process S t p) ps o (process_other t p off ∙ e))

  -- what an instance's step is to the unit
  pub record InstanceGoes (did : InstanceTurn S) (d : Did R) : Type 0 where
    pub node : SeesNode S z did.node d.inst
    pub to_c : filter_map (seen own_frame) (sent_for 1 did.sends) ≡ d.to_c
    pub others : (j : ℕ) → (1 == j) ≡ false → filter_map (seen own_frame) (sent_for j did.sends) ≡ []
    pub labels : EachSent (λ j m. Label S z 1 m) did.sends
    pub ran : only_mine own_frame did.ran ≡ firsts d.ran

  -- what is sent to the controller
  pub ctrl_sends : (g : Filter) (ms : List (MoveMsg R)) → filter_map (seen own_frame) (sent_for 1 (map to_ctrl ms)) ≡ view own_frame ms
  ctrl_sends g [] = refl
  ctrl_sends g (m ∷ ms) = ap (λ x. add (Real.seen own_frame m) x) (ctrl_sends g ms)

  pub ctrl_else : (ms : List (MoveMsg R)) (j : ℕ) → (1 == j) ≡ false → filter_map (seen own_frame) (sent_for j (map to_ctrl ms)) ≡ []
  ctrl_else [] j e = refl
  ctrl_else (m ∷ ms) j e = rw e (ctrl_else ms j e)

  pub one_else : (m : MoveMsg R) (j : ℕ) → (1 == j) ≡ false → filter_map (seen own_frame) (sent_for j (to_ctrl m ∷ [])) ≡ []
  one_else m j e = rw e refl

  -- what the machine's instance does on what is seen
  abbrev pub does : Where → List (Part R) → Option Answer → Inst R → Option (Item R) → Did R
  does w parts refuse x None = did_sends x []
  does w parts refuse x (Some it) = inst_does S.F w parts refuse x it

  module _ (w : Where) (i : NumberedInstance S) (x : Inst R) (s : SeesNode S z i x) where
    -- a packet of the unit is processed
    runs_mine : (p : ℕ) → mine p ≡ true → InstanceGoes (runs_it S i p) (ran_one S.F w x p)
    runs_mine p is = record {
      node = record { live = process_mine i.live p is ∙ ap (λ o. Some (S.F.step o p)) s.live; rule = s.rule; held = s.held; rules = s.rules };
      to_c = refl;
      others = λ j e. refl;
      labels = tt;
      ran = rw is refl;
    }

    runs_other : (p : ℕ) → mine p ≡ false → InstanceGoes (runs_it S i p) (did_sends x [])
    runs_other p off = record {
      node = record { live = process_other i.live p off ∙ s.live; rule = s.rule; held = s.held; rules = s.rules };
      to_c = refl;
      others = λ j e. refl;
      labels = tt;
      ran = rw off refl;
    }

    kind_mine : (p : ℕ) (k : Rule) (r : Ruling) → mine p ≡ true → find_rule n i.rules ≡ Some r → InstanceGoes (by_kind S i p n k) (carried S.F w k x p)
    kind_mine p Free r is e = runs_mine p is
    kind_mine p Drops r is e =
        record { node = s; to_c = rw is refl; others = λ j off. one_else (MoveMsg.Event n p) j off; labels = ((refl, λ _. num), tt); ran = refl }
    kind_mine p Buffers r is e = record {
      node = record {
        live = s.live;
        rule = hold_rule n n p i.rules ∙ s.rule;
        held = ap (only_mine own_frame) (hold_own_held p i.rules r e) ∙ filter-append _ r.held (p ∷ [])
            ∙ ap (λ h. h ++ only_mine own_frame (p ∷ [])) (ap (λ o. only_mine own_frame (held_of o)) (sym e) ∙ s.held) ∙ rw is refl;
        rules = label_hold n p i.rules (λ off. let both : true ≡ false = sym num ∙ off in cc) s.rules;
      };
      to_c = refl;
      others = λ j off. refl;
      labels = tt;
      ran = refl;
    }

    kind_other : (p m : ℕ) (k : Rule) → mine p ≡ false → InstanceGoes (by_kind S i p m k) (did_sends x [])
    kind_other p m Free off = runs_other p off
    kind_other p m Drops off = record {
      node = s;
      to_c = rw off refl;
      others = λ j e. one_else (MoveMsg.Event m p) j e;
      labels = ((refl, λ is. let both : true ≡ false = sym is ∙ off in cc), tt);
      ran = refl;
    }
    kind_other p m Buffers off = record {
      node = record {
        live = s.live;
        rule = hold_rule n m p i.rules ∙ s.rule;
        held = hold_else m p i.rules off ∙ s.held;
        rules = label_hold m p i.rules (λ _. off) s.rules;
      };
      to_c = refl;
      others = λ j e. refl;
      labels = tt;
      ran = refl;
    }

    rule_mine : (p : ℕ) (o : Option Ruling) → mine p ≡ true → find_rule n i.rules ≡ o → InstanceGoes (by_rule S i p o) (carried S.F w x.rule x p)
    rule_mine p None is e =
        let free : x.rule ≡ Free = sym s.rule ∙ ap rule_of e in subst (λ k. InstanceGoes (runs_it S i p) (carried S.F w k x p)) (sym free) (runs_mine p is)
    rule_mine p (Some r) is e =
        let kind : x.rule ≡ r.rule = sym s.rule ∙ ap rule_of e in
        let its : r.num ≡ n = eqb-true r.num n (found_number _ n i.rules r e) in
        subst (λ k. InstanceGoes (by_kind S i p r.num r.rule) (carried S.F w k x p)) (sym kind)
        (subst (λ m. InstanceGoes (by_kind S i p m r.rule) (carried S.F w r.rule x p)) (sym its) (kind_mine p r.rule r is e))

    rule_other : (p : ℕ) (o : Option Ruling) → mine p ≡ false → InstanceGoes (by_rule S i p o) (did_sends x [])
    rule_other p None off = runs_other p off
    rule_other p (Some r) off = kind_other p r.num r.rule off

    pub carry_goes : (p : ℕ) (parts : List (Part R)) (refuse : Option Answer)
        → InstanceGoes (inst_step S i (Carry_on p)) (does w parts refuse x (seen own_frame (Carry_on p)))
    carry_goes p parts refuse = split (mine p)
        (λ b. InstanceGoes (by_rule S i p (first_rule S (S.packet_unit p) i.rules)) (does w parts refuse x (where_true b (Carry p))))
        (λ is.
        let same : S.packet_unit p ≡ z.unit = same_unit-true (S.packet_unit p) z.unit is in
        let found : first_rule S (S.packet_unit p) i.rules ≡ find_rule n i.rules = ap (λ u. first_rule S u i.rules) same
        ∙ first_is_found i.rules s.rules in
        subst (λ o. InstanceGoes (by_rule S i p o) (carried S.F w x.rule x p)) (sym found) (rule_mine p (find_rule n i.rules) is refl))
        (λ off. rule_other p (first_rule S (S.packet_unit p) i.rules) off)

    pub pass_goes : (p : ℕ) (parts : List (Part R)) (refuse : Option Answer)
        → InstanceGoes (inst_step S i (Pass_on p)) (does w parts refuse x (seen own_frame (Pass_on p)))
    pass_goes p parts refuse = split (mine p) (λ b. InstanceGoes (runs_it S i p) (does w parts refuse x (where_true b (Pass p)))) (λ is. runs_mine p is)
        (λ off. runs_other p off)

    pub fence_goes : (m : ℕ) (parts : List (Part R)) (refuse : Option Answer)
        → InstanceGoes (inst_step S i (Fence_on m)) (does w parts refuse x (seen own_frame (Fence_on m)))
    fence_goes m parts refuse =
        split (m == n) (λ b. InstanceGoes (fenced S i m (held_of (find_rule m i.rules))) (does w parts refuse x (where_true b Fence)))
        (λ e. let same : m ≡ n = eqb-true m n e in
        subst (λ k. InstanceGoes (fenced S i k (held_of (find_rule k i.rules))) (inst_does S.F w parts refuse x Fence)) (sym same) (record {
          node = record {
            live = process_seen i.live (held_of (find_rule n i.rules)) x.live s.live ∙ ap (fold S.F x.live) s.held;
            rule = ap rule_of (find-drop_own _ n i.rules);
            held = ap (λ o. only_mine own_frame (held_of o)) (find-drop_own _ n i.rules);
            rules = each-drop _ (RuleLabel S z) n i.rules s.rules;
          };
          to_c = rw num refl;
          others = λ j off. one_else (MoveMsg.Fenced n) j off;
          labels = ((refl, tt), tt);
          ran = s.held ∙ sym (firsts-on w x.held);
        }))
        (λ e.
        let none = found_label m i.rules s.rules e in
        let same : find_rule n (drop_rule m i.rules) ≡ find_rule n i.rules = find-drop_other _ m n i.rules e in
        record {
          node = record {
            live = process_seen i.live (held_of (find_rule m i.rules)) x.live s.live ∙ ap (fold S.F x.live) none;
            rule = ap rule_of same ∙ s.rule;
            held = ap (λ o. only_mine own_frame (held_of o)) same ∙ s.held;
            rules = each-drop _ (RuleLabel S z) m i.rules s.rules;
          };
          to_c = rw e refl;
          others = λ j off. one_else (MoveMsg.Fenced m) j off;
          labels = ((refl, tt), tt);
          ran = none;
        })
