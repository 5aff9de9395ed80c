-- The outline of an instance's step on a packet, a fence or an event rule is the step of the abstract network.
use Rattle.proof_outlines.proofs.Words.{◌≡◌, ℕ, true, false, Option, Some, None, List, [], ◌∷◌, ◌++◌, map, refl, sym, ap, ◌∙◌, subst, append-nil, if◌then◌else◌}
use Rattle.proof_outlines.proofs.Words.{◌==◌, not, is_some, option_map, option_map_or, filter_map, map-append, Filter, Flow, Packet, Site, matches, flow_of}
use Rattle.proof_outlines.proofs.Words.{is_transport, unit_of, Semantics, unit_at, Records, after_packet, Action, FullCell, Instance, carry_step, on_enable}
use Rattle.proof_outlines.proofs.Words.{controller_node, MoveMsg, Each, Ruling, InstanceTurn, find_rule, drop_rule, change_rules, has_rule, set_rule, ruled_by}
use Rattle.proof_outlines.proofs.Words.{holding, held_of, process, process_all, runs_it, by_rule, inst_step, everything, split, Mark, Msg, EventRule}
use Rattle.std.proofs.Common.{filter}
use Rattle.std.specs.FinMap as finite
use Rattle.event_filter.specs.Rules as rules
use Rattle.instance_worker.specs.Instance.{Step, process_step, all_processed, on_carry, on_fence}
use Rattle.proof_machines.proofs.net.Net as net
use Rattle.proof_outlines.proofs.outline.FiltersApart.{is_whole, flow_fits, takes_whole, whole_takes}
use Rattle.proof_outlines.proofs.outline.Outline.{number, rule_of, outline_rule, outline_sent, outline_sends, ran_in, sys, outline_instance}

-- lists of rules
without_same : (op : ℕ) (rs : List (EventRule FullCell)) → map outline_rule (rules.without_rule rs op) ≡ drop_rule op (map outline_rule rs)
without_same op [] = refl
without_same op (r ∷ rs) =
    split (r.op == op) (λ b. map outline_rule (if not b then r ∷ rules.without_rule rs op else rules.without_rule rs op) ≡
    (if not b then outline_rule r ∷ drop_rule op (map outline_rule rs) else drop_rule op (map outline_rule rs)))
    (λ _. without_same op rs) (λ _. ap (λ xs. outline_rule r ∷ xs) (without_same op rs))

rule_same : (op : ℕ) (rs : List (EventRule FullCell)) → option_map outline_rule (rules.rule_at rs op) ≡ find_rule op (map outline_rule rs)
rule_same op [] = refl
rule_same op (r ∷ rs) =
    split (r.op == op) (λ b. option_map outline_rule (if b then Some r else rules.rule_at rs op) ≡
    (if b then Some (outline_rule r) else find_rule op (map outline_rule rs)))
    (λ _. refl) (λ _. rule_same op rs)

pub some_same : {X Y : Type 0} (g : X → Y) (o : Option X) → is_some (option_map g o) ≡ is_some o
some_same g None = refl
some_same g (Some x) = refl

held_found : (o : Option (EventRule FullCell)) → map number (option_map_or (λ r. r.held) o []) ≡ held_of (option_map outline_rule o)
held_found None = refl
held_found (Some r) = refl

held_same : (op : ℕ) (rs : List (EventRule FullCell)) → map number (rules.held_at rs op) ≡ held_of (find_rule op (map outline_rule rs))
held_same op rs = held_found (rules.rule_at rs op) ∙ ap held_of (rule_same op rs)

changed_same : (op : ℕ) (change : EventRule FullCell → EventRule FullCell) (outlined : Ruling → Ruling)
    → ((r : EventRule FullCell) → outline_rule (change r) ≡ outlined (outline_rule r)) → (rs : List (EventRule FullCell))
    → map outline_rule (rules.with_change rs op change) ≡ change_rules op outlined (map outline_rule rs)
changed_same op change outlined same [] = refl
changed_same op change outlined same (r ∷ rs) =
    split (r.op == op) (λ b. outline_rule (if b then change r else r) ∷ map outline_rule (rules.with_change rs op change) ≡
    (if b then outlined (outline_rule r) else outline_rule r) ∷ change_rules op outlined (map outline_rule rs))
    (λ _. ap (λ x. x ∷ map outline_rule (rules.with_change rs op change)) (same r)
    ∙ ap (λ xs. outlined (outline_rule r) ∷ xs) (changed_same op change outlined same rs))
    (λ _. ap (λ xs. outline_rule r ∷ xs) (changed_same op change outlined same rs))

set_same : (op : ℕ) (filter : Filter) (act : Action) (rs : List (EventRule FullCell))
    → map outline_rule (rules.with_rule rs op filter act) ≡ set_rule op filter (rule_of act) (map outline_rule rs)
set_same op filter act rs =
    split (is_some (rules.rule_at rs op)) (λ b. map outline_rule (if b then rules.with_change rs op (rules.with_rule_of filter act) else rs
    ++ (record { op = op; filter = filter; action = act; held = [] }) ∷ []) ≡ set_rule op filter (rule_of act) (map outline_rule rs))
    (λ e. let has : has_rule op (map outline_rule rs) ≡ true = there ∙ e in
    rw has (changed_same op (rules.with_rule_of filter act) (ruled_by filter (rule_of act)) (λ r. refl) rs))
    (λ e. let has : has_rule op (map outline_rule rs) ≡ false = there ∙ e in
    rw has (map-append outline_rule rs ((record { op = op; filter = filter; action = act; held = [] }) ∷ [])))
  where
    there : has_rule op (map outline_rule rs) ≡ is_some (rules.rule_at rs op)
    there = ap is_some (sym (rule_same op rs)) ∙ some_same outline_rule (rules.rule_at rs op)

hold_same : (op : ℕ) (cell : FullCell) (rs : List (EventRule FullCell))
    → map outline_rule (rules.with_held rs op cell) ≡ net.hold op (number cell) (map outline_rule rs)
hold_same op cell rs = changed_same op (rules.holding cell) (holding (number cell))
    (λ r. ap (λ h. record { num = r.op; filter = r.filter; rule = rule_of r.action; held = h }) (map-append number r.held (cell ∷ []))) rs

module _ (site : Site) (packet : ℕ → Packet) where
  -- a packet of the trace, in a cell of the switch's pool
  pub record IsGenuine (cell : FullCell) : Type 0 where
    pub same : cell.packet ≡ packet (number cell)
    pub transport : is_transport cell.packet.proto ≡ true
    pub fits : flow_fits (flow_of site cell.packet).0 ≡ true
    pub pool : cell.pool ≡ 0

module _ {R : Type 0} (f : Semantics R) (site : Site) (packet : ℕ → Packet) where
  pub after_same : (live : Records R) (at : Site) (cell : FullCell) → at ≡ site → IsGenuine site packet cell
      → after_packet f at live cell.packet ≡ process (sys f site packet) live (number cell)
  after_same live at cell is g =
      let stepped : Packet → Records R = λ p. finite.insert live (unit_at f.kind site p) (f.stepped site (finite.get live (unit_at f.kind site p)) p).kept in
      let here : after_packet f at live cell.packet ≡ stepped cell.packet = rw (is, g.transport) refl in
      here ∙ ap stepped g.same

module _ {F R : Type 0} (f : Semantics R) (site : Site) (packet : ℕ → Packet) (place : List ℕ → Option ℕ) where
  -- what a step does, as the proof of moves sees it
  pub record Follows (step : Step F R) (did : InstanceTurn (sys f site packet)) : Type 0 where
    pub node : outline_instance f site packet step.node ≡ did.node
    pub sends : outline_sends f place step.sends ≡ did.sends
    pub ran : filter_map ran_in step.notes ≡ did.ran

  runs_plain : (i : Instance F R) (cell : FullCell) → i.site ≡ site → IsGenuine site packet cell
      → Follows (process_step f i Mark.Plain cell) (runs_it (sys f site packet) (outline_instance f site packet i) (number cell))
  unfolding process_step
  runs_plain i cell at g = record {
    node = ap (λ live. record (outline_instance f site packet i) { live = live }) (after_same f site packet i.table.live i.site cell at g);
    sends = refl;
    ran = refl;
  }

  runs_passed : (i : Instance F R) (op : ℕ) (cell : FullCell) → i.site ≡ site → IsGenuine site packet cell
      → Follows (process_step f i (Mark.Pass op) cell) (runs_it (sys f site packet) (outline_instance f site packet i) (number cell))
  unfolding process_step
  runs_passed i op cell at g = record {
    node = ap (λ live. record (outline_instance f site packet i) { live = live }) (after_same f site packet i.table.live i.site cell at g);
    sends = refl;
    ran = refl;
  }

  all_run : (i : Instance F R) (cells : List FullCell) → i.site ≡ site → Each (IsGenuine site packet) cells → Follows (all_processed f i cells) (record {
    node = record (outline_instance f site packet i) { live = process_all (sys f site packet) i.table.live (map number cells) };
    sends = [];
    ran = map number cells;
  })
  unfolding process_step all_processed
  all_run i [] at h = record { node = refl; sends = refl; ran = refl }
  all_run i (cell ∷ cells) at h =
      let one = runs_plain i cell at h.0 in
      let next = (process_step f i Mark.Plain cell).node in
      let rest = all_run next cells at h.1 in
      record {
        node = rest.node ∙ ap (λ live. record (outline_instance f site packet i) { live = process_all (sys f site packet) live (map number cells) })
            (after_same f site packet i.table.live i.site cell at h.0);
        sends = rest.sends;
        ran = ap (λ xs. number cell ∷ xs) rest.ran;
      }

-- A packet that comes by the switch's rules, and a fence.
first_same : {R : Type 0} (f : Semantics R) (site : Site) (packet : ℕ → Packet) (flow : Flow)
    → flow_fits flow ≡ true → (rs : List (EventRule FullCell)) → Each (λ r. is_whole f.kind r.filter ≡ true) rs
    → option_map outline_rule (rules.first_rule rs flow) ≡ net.first_rule (sys f site packet) (unit_of f.kind flow) (map outline_rule rs)
first_same f site packet flow fits [] h = refl
first_same f site packet flow fits (r ∷ rs) h =
    let same : takes_whole f.kind r.filter (unit_of f.kind flow) ≡ matches r.filter flow = whole_takes f.kind r.filter flow h.0 fits in
    rw same (split (matches r.filter flow)
    (λ b. option_map outline_rule (if b then Some r else rules.first_rule rs flow) ≡
    (if b then Some (outline_rule r) else net.first_rule (sys f site packet) (unit_of f.kind flow) (map outline_rule rs)))
    (λ _. refl) (λ _. first_same f site packet flow fits rs h.1))

pub filter_map-put : {X Y : Type 0} (g : X → Option Y) (xs ys : List X) → filter_map g (xs ++ ys) ≡ filter_map g xs ++ filter_map g ys
filter_map-put g [] ys = refl
filter_map-put {Y = Y} g (x ∷ xs) ys = by_head (g x) refl (filter_map-put g xs ys)
  where
    by_head : (o : Option Y) → g x ≡ o → filter_map g (xs ++ ys) ≡ filter_map g xs ++ filter_map g ys
        → filter_map g (x ∷ (xs ++ ys)) ≡ filter_map g (x ∷ xs) ++ filter_map g ys
    by_head None e rest = rw e rest
    by_head (Some y) e rest = rw e (ap (λ zs. y ∷ zs) rest)

pub held_genuine : (site : Site) (packet : ℕ → Packet) (op : ℕ) (rs : List (EventRule FullCell)) → Each (λ r. Each (IsGenuine site packet) r.held) rs
    → Each (IsGenuine site packet) (rules.held_at rs op)
held_genuine site packet op [] h = tt
held_genuine site packet op (r ∷ rs) h =
    split (r.op == op) (λ b. Each (IsGenuine site packet) (option_map_or (λ x. x.held) (if b then Some r else rules.rule_at rs op) [])) (λ _. h.0)
    (λ _. held_genuine site packet op rs h.1)

module _ {F R : Type 0} (f : Semantics R) (site : Site) (packet : ℕ → Packet) (place : List ℕ → Option ℕ) where
  -- what holds of each instance in a run: its rules are those of moves, and it holds packets of the trace
  pub record IsInstance (i : Instance F R) : Type 0 where
    pub at : i.site ≡ site
    pub whole : Each (λ r. is_whole f.kind r.filter ≡ true) i.rules
    pub held : Each (λ r. Each (IsGenuine site packet) r.held) i.rules
    pub one_each : rules.HaveOneEach i.rules

  carried_same : (i : Instance F R) (cell : FullCell) (o : Option (EventRule FullCell)) → IsInstance i → IsGenuine site packet cell
      → Follows f site packet place (carry_step f i Mark.Plain cell (rules.decided_by o))
      (by_rule (sys f site packet) (outline_instance f site packet i) (number cell) (option_map outline_rule o))
  unfolding process_step
  carried_same i cell None ok g = runs_plain f site packet place i cell ok.at g
  carried_same i cell (Some r) ok g = by_action r.action refl
    where
      by_action : (a : Action) → r.action ≡ a → Follows f site packet place (carry_step f i Mark.Plain cell (rules.decided r.op r.action))
          (net.by_kind (sys f site packet) (outline_instance f site packet i) (number cell) r.op (rule_of r.action))
      by_action Action.Process e = rw e (let one = runs_plain f site packet place i cell ok.at g in record { node = one.node; sends = refl; ran = refl })
      by_action Action.Drop e = rw e (record { node = refl; sends = refl; ran = refl })
      by_action Action.Buffer e = rw e
          (record { node = ap (λ rs. record (outline_instance f site packet i) { rules = rs }) (hold_same r.op cell i.rules); sends = refl; ran = refl })

  pub carry_follows : (i : Instance F R) (cell : FullCell) → IsInstance i → IsGenuine site packet cell → Follows f site packet place
      (on_carry f i Mark.Plain cell) (inst_step (sys f site packet) (outline_instance f site packet i) (net.Carry_on (number cell)))
  unfolding on_carry
  carry_follows i cell ok g =
      let flow = (flow_of i.site cell.packet).0 in
      let fits : flow_fits flow ≡ true = ap (λ s. flow_fits (flow_of s cell.packet).0) ok.at ∙ g.fits in
      let unit_is : unit_of f.kind flow ≡ unit_at f.kind site (packet (number cell)) = ap (λ s. unit_at f.kind s cell.packet) ok.at
      ∙ ap (unit_at f.kind site) g.same in
      let found : option_map outline_rule (rules.first_rule i.rules flow)
      ≡ net.first_rule (sys f site packet) (unit_at f.kind site (packet (number cell))) (map outline_rule i.rules) =
      first_same f site packet flow fits i.rules ok.whole ∙ ap (λ u. net.first_rule (sys f site packet) u (map outline_rule i.rules)) unit_is in
      subst (λ o. Follows f site packet place (carry_step f i Mark.Plain cell (rules.decided_by (rules.first_rule i.rules flow)))
      (by_rule (sys f site packet) (outline_instance f site packet i) (number cell) o)) found (carried_same i cell (rules.first_rule i.rules flow) ok g)

  pub pass_follows : (i : Instance F R) (op : ℕ) (cell : FullCell) → IsInstance i → IsGenuine site packet cell → Follows f site packet place
      (on_carry f i (Mark.Pass op) cell) (inst_step (sys f site packet) (outline_instance f site packet i) (net.Pass_on (number cell)))
  unfolding on_carry
  pass_follows i op cell ok g = runs_passed f site packet place i op cell ok.at g

  pub fence_follows : (i : Instance F R) (op : ℕ) → IsInstance i
      → Follows f site packet place (on_fence f i op) (inst_step (sys f site packet) (outline_instance f site packet i) (net.Fence_on op))
  unfolding on_fence
  fence_follows i op ok =
      let without = record i { rules = rules.without_rule i.rules op } in
      let cells = rules.held_at i.rules op in
      let all = all_run f site packet place without cells ok.at (held_genuine site packet op i.rules ok.held) in
      record {
        node = all.node
            ∙ ap (λ rs. record (outline_instance f site packet i) { live = process_all (sys f site packet) i.table.live (map number cells); rules = rs })
            (without_same op i.rules)
            ∙ ap (λ h. record (outline_instance f site packet
            i) { live = process_all (sys f site packet) i.table.live h; rules = drop_rule op (map outline_rule i.rules) }) (held_same op i.rules);
        sends = filter_map-put (outline_sent f place) (all_processed f without cells).sends ((controller_node, Msg.Fenced op) ∷ [])
            ∙ ap (λ xs. xs ++ (controller_node, net.Of_move everything (MoveMsg.Fenced op)) ∷ []) all.sends;
        ran = filter_map-put ran_in (all_processed f without cells).notes [] ∙ append-nil (filter_map ran_in (all_processed f without cells).notes)
            ∙ all.ran ∙ held_same op i.rules;
      }

  pub enable_follows : (i : Instance F R) (op : ℕ) (g : Filter) (act : Action) → Follows f site packet place (on_enable i op g act)
      (inst_step (sys f site packet) (outline_instance f site packet i) (net.Of_move g (MoveMsg.Enable op (rule_of act))))
  enable_follows i op g act =
      record { node = ap (λ rs. record (outline_instance f site packet i) { rules = rs }) (set_same op g act i.rules); sends = refl; ran = refl }
