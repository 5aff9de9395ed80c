-- Each message of a run leaves an instance such a one, and what it sends and notes is such as comes in a run.
use Rattle.proof_outlines.proofs.Words.{◌≡◌, ℕ, ◌+◌, ◌≤◌, Bool, true, false, Option, Some, None, List, [], ◌∷◌, ◌++◌, refl, sym, ap, ◌∙◌, subst, if◌then◌else◌}
use Rattle.proof_outlines.proofs.Words.{◌&&◌, ◌||◌, ◌==◌, not, find, nat_lt, is_some, Ok, Filter, matches, flow_of, Chunk, Fits, Semantics, unit_at, part}
use Rattle.proof_outlines.proofs.Words.{after_packet, AreSound, Action, Mark, FullCell, Answer, Piece, Msg, switch_node, instance_node, Instance, to_controller}
use Rattle.proof_outlines.proofs.Words.{is_live, with_count, table_after, share_message, carry_step, on_delete, with_live, with_standby, with_records}
use Rattle.proof_outlines.proofs.Words.{tally_put, instance_step, EachSent, Each, each-append, is_free, sent-append, split, by_if, Unit, FunctionLaws}
use Rattle.proof_outlines.proofs.Words.{EventRule}
use Rattle.std.specs.FinMap as finite
use Rattle.event_filter.specs.Rules as rules
use Rattle.event_filter.proofs.RulePlaces.{HasNone, one_each-changed, one_each-push, one_each-without}
use Rattle.instance_worker.specs.Instance.{Step, process_step, all_processed, on_carry, on_fence}
use Rattle.proof_outlines.proofs.joined.Words.{is_whole, number, rule_of, is_done, IsInstance, held_genuine, may_process, refusal_of, WaysOfInstance}
use Rattle.proof_outlines.proofs.joined.Words.{instance_fits, Given, place, Genuine, AreGoodChunks, Label}
use Rattle.proof_outlines.proofs.whole.MemberTables.{AreBothSound, with_part_sound, part_sound, records_sound, newest_sound}
use Rattle.proof_outlines.proofs.joined.InstanceKeeps.{sound_after, sound_without, valid_chunks}
use Rattle.proof_outlines.proofs.joined.InstanceSends.{stream_sends, get_sends, shared_sends}

-- what holds of each rule
module _ (P : EventRule FullCell → Type 0) where
  rules_changed : (op : ℕ) (change : EventRule FullCell → EventRule FullCell) → ((r : EventRule FullCell) → P r → P (change r))
      → (rs : List (EventRule FullCell)) → Each P rs → Each P (rules.with_change rs op change)
  rules_changed op change keeps [] h = tt
  rules_changed op change keeps (r ∷ rs) h =
      (by_if P (r.op == op) (keeps r h.0) h.0, rules_changed op change keeps rs h.1)

  rules_without : (op : ℕ) (rs : List (EventRule FullCell)) → Each P rs → Each P (rules.without_rule rs op)
  rules_without op [] h = tt
  rules_without op (r ∷ rs) h = elim (r.op == op) as (λ b. Each P (if not b then r ∷ rules.without_rule rs op else rules.without_rule rs op))
      [ true ↦ rules_without op rs h.1 | false ↦ (h.0, rules_without op rs h.1) ]

  rules_set : (op : ℕ) (filter : Filter) (act : Action) (rs : List (EventRule FullCell))
      → ((r : EventRule FullCell) → P r → P (rules.with_rule_of filter act r)) → P (record { op = op; filter = filter; action = act; held = [] })
      → Each P rs → Each P (rules.with_rule rs op filter act)
  rules_set op filter act rs keeps new h =
      by_if (Each P) (is_some (rules.rule_at rs op)) (rules_changed op (rules.with_rule_of filter act) keeps rs h) (each-append P rs _ h (new, tt))

  found_has : (p : EventRule FullCell → Bool) (rs : List (EventRule FullCell)) (r : EventRule FullCell) → Each P rs → find p rs ≡ Some r → P r
  found_has p [] r h e = cc
  found_has p (x ∷ rs) r h e = elim (p x) as (λ b. (if b then Some x else find p rs) ≡ Some r → P r)
      [ true ↦ λ is. let same : x ≡ r = cc in subst P same h.0 | false ↦ λ is. found_has p rs r h.1 is ] e

-- a rule that is set leaves one rule for each operation
none_of : (op : ℕ) (rs : List (EventRule FullCell)) → rules.rule_at rs op ≡ None → HasNone op rs
none_of op [] e = tt
none_of op (r ∷ rs) e =
    split (r.op == op) (λ b. (if b then Some r else rules.rule_at rs op) ≡ None → ((r.op == op) ≡ false) × HasNone op rs) (λ here is. cc)
    (λ off is. (off, none_of op rs is)) e

one_each-with_rule : (rs : List (EventRule FullCell)) (op : ℕ) (filter : Filter) (act : Action) → rules.HaveOneEach rs
    → rules.HaveOneEach (rules.with_rule rs op filter act)
one_each-with_rule rs op filter act one =
    elim (rules.rule_at rs op) as (λ o. rules.rule_at rs op ≡ o → rules.HaveOneEach (if is_some o
    then rules.with_change rs op (rules.with_rule_of filter act) else rs ++ (record { op = op; filter = filter; action = act; held = [] }) ∷ [])) [
      | None ↦ λ absent. one_each-push rs (record { op = op; filter = filter; action = act; held = [] }) (none_of op rs absent) one
      | Some r ↦ λ is. one_each-changed rs op (rules.with_rule_of filter act) (λ x. refl) one
    ] refl

module _ {F R : Type 0} (f : Semantics R) (g : Given) where
  -- what holds of an instance at node k in a run
  pub record IsRight (k : ℕ) (i : Instance F R) : Type 0 where
    pub rules : IsInstance f g.site g.packet (place g) i
    pub held : Each (λ r. is_free (rule_of r.action) ≡ false) i.rules
    pub sound : AreSound f i.table.live
    pub number : instance_node i.index ≡ k

  -- what a step leaves
  pub record Leaves (k : ℕ) (step : Step F R) : Type 0 where
    pub node : IsRight k step.node
    pub stands : AreSound f step.node.table.standby
    pub sends : EachSent (Label f g) k step.sends

module _ {F R : Type 0} (f : Semantics R) (laws : FunctionLaws f) (g : Given) (fitting : (number : ℕ) → Fits g.site (g.packet number)) (k : ℕ)
    (two : 2 ≤ k) where
  abbrev Right : Instance F R → Type 0
  Right i = IsRight f g k i

  fits_at : (i : Instance F R) (cell : FullCell) → Right i → Genuine f g cell → Fits i.site cell.packet
  fits_at i cell h genuine = subst (λ s. Fits s cell.packet) (sym h.rules.at) (subst (λ q. Fits g.site q) (sym genuine.same) (fitting (number cell)))

  -- one that differs in its table, its tally and its end alone
  same_right : (i j : Instance F R) → Right i → j.rules ≡ i.rules → j.site ≡ i.site → j.index ≡ i.index → AreSound f j.table.live → Right j
  same_right i j h same site index sound = record {
    rules = record {
      at = site ∙ h.rules.at;
      whole = subst (Each (λ r. is_whole f.kind r.filter ≡ true)) (sym same) h.rules.whole;
      held = subst (Each (λ r. Each (Genuine f g) r.held)) (sym same) h.rules.held;
      one_each = subst rules.HaveOneEach (sym same) h.rules.one_each;
    };
    held = subst (Each (λ r. is_free (rule_of r.action) ≡ false)) (sym same) h.held;
    sound = sound;
    number = ap instance_node index ∙ h.number;
  }

  -- a packet of a share steps the live records at its home, and elsewhere those that stand by
  pub sound_part : (i : Instance F R) (home : Bool) (cell : FullCell) → Right i → AreSound f i.table.standby → Genuine f g cell
      → AreSound f (after_packet f i.site (part i.table home) cell.packet)
  sound_part i home cell h stands genuine = sound_after f laws i.site (part i.table home) cell.packet (fits_at i cell h genuine)
      (part_sound f i.table home (record { live = h.sound; standby = stands }))

  told_sends : (j : Instance F R) (mk : Mark) (u : Unit) (cell : FullCell) → AreBothSound f j.table → cell.pool ≡ 0
      → EachSent (Label f g) k (to_controller (share_message f j mk u) ++ (switch_node, Msg.Credit cell) ∷ [])
  told_sends j (Mark.Shared op home) u cell both pool =
      shared_sends f laws g k op u (finite.get (part j.table home) u) cell two pool (part_sound f j.table home both u)
  told_sends j mk u cell both pool = ((two, refl, pool), tt)

  processed_leaves : (i : Instance F R) (mk : Mark) (cell : FullCell) → Right i → AreSound f i.table.standby → Genuine f g cell
      → Leaves f g k (process_step f i mk cell)
  unfolding process_step
  processed_leaves i mk cell h stands genuine =
      let after = with_count (record i { table = table_after f i mk cell.packet }) in
      let both = with_part_sound f i.table (is_live mk) (after_packet f i.site (part i.table (is_live mk)) cell.packet)
      (record { live = h.sound; standby = stands }) (sound_part i (is_live mk) cell h stands genuine) in
      record {
        node = same_right i after h refl refl refl both.live;
        stands = both.standby;
        sends = told_sends after mk (unit_at f.kind i.site cell.packet) cell both genuine.pool;
      }

  all_leave : (i : Instance F R) (cells : List FullCell) → Right i → AreSound f i.table.standby → Each (Genuine f g) cells
      → Leaves f g k (all_processed f i cells)
  unfolding all_processed
  all_leave i [] h stands all = record { node = h; stands = stands; sends = tt }
  all_leave i (cell ∷ cells) h stands all =
      let one = processed_leaves i Mark.Plain cell h stands all.0 in
      let rest = all_leave (process_step f i Mark.Plain cell).node cells one.node one.stands all.1 in
      record {
        node = rest.node;
        stands = rest.stands;
        sends = sent-append (Label f g) k (process_step f i Mark.Plain cell).sends _ one.sends rest.sends;
      }

  -- an instance with other rules
  with_rules : (i : Instance F R) (rs : List (EventRule FullCell)) → Right i → Each (λ r. is_whole f.kind r.filter ≡ true) rs
      → Each (λ r. Each (Genuine f g) r.held) rs → Each (λ r. is_free (rule_of r.action) ≡ false) rs → rules.HaveOneEach rs
      → Right (record i { rules = rs })
  with_rules i rs h whole held ruled one =
      record { rules = record { at = h.rules.at; whole = whole; held = held; one_each = one }; held = ruled; sound = h.sound; number = h.number }

  carried_leaves : (i : Instance F R) (cell : FullCell) (o : Option (EventRule FullCell))
      → ((r : EventRule FullCell) → o ≡ Some r → is_free (rule_of r.action) ≡ false) → Right i → AreSound f i.table.standby → Genuine f g cell
      → Leaves f g k (carry_step f i Mark.Plain cell (rules.decided_by o))
  carried_leaves i cell None ruled h stands genuine = processed_leaves i Mark.Plain cell h stands genuine
  carried_leaves i cell (Some r) ruled h stands genuine = by_action r.action refl
    where
      by_action : (a : Action) → r.action ≡ a → Leaves f g k (carry_step f i Mark.Plain cell (rules.decided r.op r.action))
      by_action Action.Process e = let off : true ≡ false = rw e at (ruled r refl) in cc
      by_action Action.Drop e = rw e (record { node = h; stands = stands; sends = (((two, refl), genuine), tt) })
      by_action Action.Buffer e = rw e (record {
        node = with_rules i (rules.with_held i.rules r.op cell) h
            (rules_changed (λ x. is_whole f.kind x.filter ≡ true) r.op (rules.holding cell) (λ x t. t) i.rules h.rules.whole)
            (rules_changed (λ x. Each (Genuine f g) x.held) r.op (rules.holding cell) (λ x t. each-append (Genuine f g) x.held (cell ∷ []) t (genuine, tt))
            i.rules h.rules.held)
            (rules_changed (λ x. is_free (rule_of x.action) ≡ false) r.op (rules.holding cell) (λ x t. t) i.rules h.held)
            (one_each-changed i.rules r.op (rules.holding cell) (λ x. refl) h.rules.one_each);
        stands = stands;
        sends = tt;
      })

  carry_leaves : (i : Instance F R) (cell : FullCell) → Right i → AreSound f i.table.standby → Genuine f g cell → Leaves f g k (on_carry f i Mark.Plain cell)
  unfolding on_carry
  carry_leaves i cell h stands genuine = carried_leaves i cell (rules.first_rule i.rules (flow_of i.site cell.packet).0)
      (λ r e. found_has (λ x. is_free (rule_of x.action) ≡ false) (λ x. matches x.filter (flow_of i.site cell.packet).0) i.rules r h.held e) h stands genuine

  fence_leaves : (i : Instance F R) (op : ℕ) → Right i → AreSound f i.table.standby → Leaves f g k (on_fence f i op)
  unfolding on_fence
  fence_leaves i op h stands =
      let j : Instance F R = record i { rules = rules.without_rule i.rules op } in
      let cells = rules.held_at i.rules op in
      let without = with_rules i (rules.without_rule i.rules op) h
      (rules_without (λ x. is_whole f.kind x.filter ≡ true) op i.rules h.rules.whole)
      (rules_without (λ x. Each (Genuine f g) x.held) op i.rules h.rules.held)
      (rules_without (λ x. is_free (rule_of x.action) ≡ false) op i.rules h.held)
      (one_each-without i.rules op h.rules.one_each) in
      let all = all_leave j cells without stands (held_genuine g.site g.packet op i.rules h.rules.held) in
      record {
        node = all.node;
        stands = all.stands;
        sends = sent-append (Label f g) k (all_processed f j cells).sends _ all.sends ((two, refl), tt);
      }

  -- a refusal isn't Done
  refused_is : (i : Instance F R) (piece : Piece) (first : Bool) (why : Answer) → refusal_of i piece first ≡ Some why → is_done why ≡ false
  refused_is i piece false why e = cc
  refused_is i piece true why e =
      by_tests (nat_lt i.limit (finite.len i.table.live + piece.total)) (i.marked && nat_lt 1 piece.newest) e
    where
      by_tests : (a b : Bool) → (if a then Some (Answer.Import (finite.len i.table.live) piece.total i.limit) else if b
          then Some (Answer.Old piece.newest 1) else None) ≡ Some why
          → is_done why ≡ false
      by_tests true b is = subst (λ w. is_done w ≡ false) (let same : Answer.Import (finite.len i.table.live) piece.total i.limit ≡ why = cc in same) refl
      by_tests false true is = subst (λ w. is_done w ≡ false) (let same : Answer.Old piece.newest 1 ≡ why = cc in same) refl
      by_tests false false is = cc

  with_chunks : (i : Instance F R) (chunks : List Chunk) → Right i → AreGoodChunks f g chunks → Right (with_live f i chunks)
  with_chunks i chunks h good =
      same_right i (with_live f i chunks) h refl refl refl (newest_sound f laws i.table.live chunks (valid_chunks f laws g chunks good.each) h.sound)

  -- what the step on a message of a run leaves where it processes no packet
  abbrev Allows : Instance F R → Msg → Step F R → Type 0
  Allows i m did = may_process m ≡ false → (p : ℕ) → Label f g p k m → Right i → AreSound f i.table.standby → Leaves f g k did

  ways : WaysOfInstance f Allows
  ways = record {
    still = λ i m e p l h s. record { node = h; stands = s; sends = tt };
    held = λ i mk cell op e. cc;
    processed = λ i mk cell e. cc;
    released = λ i op cell e. cc;
    both = λ i m did next may one more e. (let never : true ≡ false = sym may ∙ e in cc);
    unruled = λ i op did one e. cc;
    seen = λ i mk cell op e. cc;
    event = λ i mk cell op e. cc;
    fenced = λ i op e. cc;
    stopped = λ i e p l h s.
        record { node = same_right i (record i { ended = true }) h refl refl refl h.sound; stands = s; sends = ((two, refl), tt) };
    enabled = λ i op filter act e p l h s. record {
      node = with_rules i (rules.with_rule i.rules op filter act) h
          (rules_set (λ x. is_whole f.kind x.filter ≡ true) op filter act i.rules (λ x t. l.1) l.1 h.rules.whole)
          (rules_set (λ x. Each (Genuine f g) x.held) op filter act i.rules (λ x t. t) tt h.rules.held)
          (rules_set (λ x. is_free (rule_of x.action) ≡ false) op filter act i.rules (λ x t. l.2) l.2 h.held)
          (one_each-with_rule i.rules op filter act h.rules.one_each);
      stands = s;
      sends = ((two, refl), tt);
    };
    given = λ i op filter e p l h s. record { node = h; stands = s; sends = get_sends f laws g k op filter i.table.live two h.sound };
    streamed = λ i op filter e p l h s. record { node = h; stands = s; sends = stream_sends f laws g k op filter i.table.live two h.sound };
    all_given = λ i op e p l h s. record { node = h; stands = s; sends = ((two, refl), tt) };
    deleted = λ i op gone e p l h s. record {
      node = same_right i (on_delete i op gone).node h refl refl refl (sound_without f laws gone i.table.live h.sound);
      stands = s;
      sends = ((two, refl), tt);
    };
    refused = λ i op piece first why is e p l h s.
        record { node = h; stands = s; sends = (((two, refl), l.1.good, refused_is i piece first why is), tt) };
    taken = λ i op piece first is e p l h s. record {
      node = with_chunks i piece.chunks h l.1.good;
      stands = s;
      sends = by_if (λ ms. EachSent (Label f g) k (to_controller ms)) (first || piece.last) ((two, refl), tt) tt;
    };
    restored = λ i op chunks e p l h s. record { node = with_chunks i chunks h l.1; stands = s; sends = ((two, refl), tt) };
    stood_by = λ i op chunks e p l h s. record {
      node = same_right i (with_standby f i chunks) h refl refl refl h.sound;
      stands = newest_sound f laws i.table.standby chunks (valid_chunks f laws g chunks l.1.each) s;
      sends = ((two, refl), tt);
    };
    synced = λ i home op chunks e p l h s. (
        let both = records_sound f laws i.table home chunks (valid_chunks f laws g chunks l.1.each) (record { live = h.sound; standby = s }) in record {
          node = same_right i (with_records f i home chunks) h refl refl refl both.live;
          stands = both.standby;
          sends = ((two, refl), tt);
        });
    merged = λ i op chunk slots is e p l h s.
        record { node = same_right i (tally_put i op (Ok slots)).node h refl refl refl h.sound; stands = s; sends = ((two, refl), tt) };
  }

  -- what the step on any message of a run leaves
  pub instance_leaves : (i : Instance F R) (m : Msg) (p : ℕ) → Label f g p k m → Right i → AreSound f i.table.standby → Leaves f g k (instance_step f i m)
  unfolding on_carry
  instance_leaves i (Msg.Carry Mark.Plain cell) p l h s = carry_leaves i cell h s l.1
  instance_leaves i (Msg.Carry (Mark.Pass op) cell) p l h s = processed_leaves i (Mark.Pass op) cell h s l.1
  instance_leaves i (Msg.Carry (Mark.Shared op home) cell) p l h s = processed_leaves i (Mark.Shared op home) cell h s l.1
  instance_leaves i (Msg.Fence op) p l h s = fence_leaves i op h s
  instance_leaves i m p l h s = instance_fits f Allows ways i m refl p l h s
