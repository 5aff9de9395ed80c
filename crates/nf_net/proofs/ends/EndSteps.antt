-- What each node's step does with the input's end, the finish and the stops: the end goes to the controller, which sends the finish once all is quiet, and
-- the switch then stops the instances, each of which answers.
use Rattle.nf_net.proofs.Words.{◌≡◌, ◌⊎◌, inl, inr, ℕ, zero, suc, ◌+◌, ◌<◌, ◌≤◌, Bool, true, false, Option, Some, None, List, [], ◌∷◌, ◌++◌, length, get_or}
use Rattle.nf_net.proofs.Words.{refl, sym, ap, ◌∙◌, subst, arith, if◌then◌else◌, ◌&&◌, ◌||◌, ◌==◌, not, nat_lt, nat_le, nat_tests, Decides-eqb, length-set}
use Rattle.nf_net.proofs.Words.{Packet, Semantics, one_more, Target, rules_redirected, Answer, Msg, instance_node, turn_of, lasts, are_quiet, ControllerState}
use Rattle.nf_net.proofs.Words.{may_finish, controller_step, SwitchState, switch_step, stop_messages, reaches, sent_for, put_on_link, weigh, sent_weight}
use Rattle.nf_net.proofs.Words.{row_fits, Given, Label, Mark, Note, split, weigh-append}
use Rattle.std.proofs.Common.{◌-◌, set}
use Rattle.std.specs.FinMap as finite
use Rattle.std.proofs.lemmas.List.{get_or-set_same}
use Rattle.ctrl_node.specs.Operations.{Turn}
use Rattle.ctrl_node.specs.Controller as ctrl
use Rattle.ctrl_node.specs.Controller.{Step}
use Rattle.switch_node.specs.Switch as switches
use Rattle.net_world.proofs.SentMessages.{sent_for-append, sent_weight-append}
use Rattle.nf_net.proofs.answers.InstallCounts.{finish}

-- the input's end, on its way; a stop; its answer
abbrev pub ending : Msg → ℕ
ending Msg.InEnd = 1
ending Msg.End = 1
ending m = 0

abbrev pub stop : Msg → ℕ
stop Msg.Stop = 1
stop m = 0

abbrev pub final : Msg → ℕ
final Msg.Final = 1
final m = 0

-- The controller
module _ (c : ControllerState) where
  -- a step that changes the open operations and what is stored, and nothing else
  abbrev Aside : ControllerState → Type 0
  Aside node = node ≡ record c { operations = node.operations; store = node.store }

  after_aside : (op : ℕ) (t : Turn) (a : Option Answer) → Aside (ctrl.after_turn c op t a).node
  after_aside op t None = refl
  after_aside op t (Some why) = elim (lasts t.operation)
      as (λ b. Aside (if b then ctrl.with_turn c op t else ctrl.without_operation (ctrl.with_turn c op t) op)) [ true ↦ refl | false ↦ refl ]

  serves_aside : (d : ControllerState) (op : ℕ) → Aside d → Aside (ctrl.serve_step d op).node
  serves_aside d op h = let put : ControllerState → ControllerState =
      (λ x. record x { operations = (ctrl.serve_step d op).node.operations; store = (ctrl.serve_step d op).node.store }) in
      ap put h

  handed_aside : (op p : ℕ) (m : Msg) → Aside (ctrl.hand_step c op p m).node
  handed_aside op p m =
      let t = turn_of (finite.get c.operations op) c.store p m in
      serves_aside (ctrl.takes_turn c op t).node op (after_aside op t t.answer)

  row_aside : (p : ℕ) (m : Msg) → ending m ≡ 0 → final m ≡ 0 → Aside (ctrl.row c p m).node
  row_aside = row_fits c (λ m did. ending m ≡ 0 → final m ≡ 0 → Aside did.node) (record {
    still = λ m going other. refl;
    ended = λ going other. absurd (omega (arith, going));
    stopped = λ i going other. absurd (omega (arith, other));
    returned = λ op i cell going other. refl;
    handed = λ op port m going other. handed_aside op port m;
    queued = λ op cell going other. refl;
    answers = λ k op answer going other. refl;
    begins = record {
      moves = λ k op from to filter keep going other. refl;
      copies = λ k op from to filter going other. refl;
      shares = λ k op filter home others going other. refl;
    };
  })

  -- what becomes of the end and of the stopped instances
  pub record RowEnds (p : ℕ) (m : Msg) (node : ControllerState) : Type 0 where
    pub came : c.end_came ≡ true → node.end_came ≡ true
    pub comes : 1 ≤ ending m → node.end_came ≡ true
    pub sent : node.finish_sent ≡ c.finish_sent
    pub names : node.names ≡ c.names
    pub many : length node.stopped ≡ length c.stopped
    pub stays : (i : ℕ) → get_or c.stopped i false ≡ true → get_or node.stopped i false ≡ true
    pub stops : (i : ℕ) → 1 ≤ final m → p ≡ instance_node i → i < length c.stopped → get_or node.stopped i false ≡ true

  aside_ends : (p : ℕ) (m : Msg) (node : ControllerState) → ending m ≡ 0 → final m ≡ 0 → Aside node → RowEnds p m node
  aside_ends p m node none not_final h = record {
    came = λ e. ap (λ x. x.end_came) h ∙ e;
    comes = λ some. absurd (omega (arith, some, none));
    sent = ap (λ x. x.finish_sent) h;
    names = ap (λ x. x.names) h;
    many = ap (λ x. length x.stopped) h;
    stays = λ i e. ap (λ x. get_or x.stopped i false) h ∙ e;
    stops = λ i some. absurd (omega (arith, some, not_final));
  }

  -- an instance's answer
  stopped_at : (xs : List Bool) (i k : ℕ) → get_or xs k false ≡ true → get_or (set xs i true) k false ≡ true
  stopped_at [] i k e = e
  stopped_at (x ∷ xs) zero zero e = refl
  stopped_at (x ∷ xs) zero (suc k) e = e
  stopped_at (x ∷ xs) (suc i) zero e = e
  stopped_at (x ∷ xs) (suc i) (suc k) e = stopped_at xs i k e

  module _ (long : length c.stopped ≡ length c.names) where
    final_ends : (p : ℕ) (o : Option ℕ) → ctrl.instance_at c p ≡ o → RowEnds p Msg.Final (ctrl.on_final c o).node
    final_ends p None is = record {
      came = λ e. e;
      comes = λ some. absurd (omega (arith, some));
      sent = refl;
      names = refl;
      many = refl;
      stays = λ i e. e;
      stops = λ i some from less. (let there : nat_le 2 p && nat_lt (p - 2) (length c.names) ≡ true = grind (arith, nat_tests, from, less, long) in
          let at : ctrl.instance_at c p ≡ Some (p - 2) = ap (λ b. if b then Some (p - 2) else None) there in
          let never : None ≡ Some (p - 2) = sym is ∙ at in cc);
    }
    final_ends p (Some k) is = record {
      came = λ e. e;
      comes = λ some. absurd (omega (arith, some));
      sent = refl;
      names = refl;
      many = length-set c.stopped k true;
      stays = λ i e. stopped_at c.stopped k i e;
      stops = λ i some from less.
          let there : nat_le 2 p && nat_lt (p - 2) (length c.names) ≡ true = grind (arith, nat_tests, from, less, long) in
          let at : ctrl.instance_at c p ≡ Some (p - 2) = ap (λ b. if b then Some (p - 2) else None) there in
          let same : Some (p - 2) ≡ Some k = sym at ∙ is in
          let its : p - 2 ≡ k = cc in
          let here : k ≡ i = omega (arith, its, from) in
          subst (λ y. get_or (set c.stopped y true) i false ≡ true) (sym here) (get_or-set_same c.stopped i true false less);
    }

    row_ends : {R : Type 0} (f : Semantics R) (g : Given) (p : ℕ) (m : Msg) → Label f g p 1 m → RowEnds p m (ctrl.row c p m).node
    row_ends f g p Msg.Final label = final_ends p (ctrl.instance_at c p) refl
    row_ends f g p Msg.End label =
        let from : (p == 0) ≡ true = (Decides-eqb p 0).1 label.0 in
        subst (λ b. RowEnds p Msg.End (if b then ctrl.still (record c { end_came = true }) else ctrl.still c).node) (sym from) (record {
          came = λ e. refl;
          comes = λ some. refl;
          sent = refl;
          names = refl;
          many = refl;
          stays = λ i e. e;
          stops = λ i some. absurd (omega (arith, some));
        })
    row_ends f g p Msg.InEnd label = let never = label.1 in cc
    row_ends f g p m label = aside_ends p m _ refl refl (row_aside p m refl refl)

    -- and behind the finish
    pub record ControllerEnds (n p : ℕ) (m : Msg) (did : Step) : Type 0 where
      pub row : RowEnds p m (ctrl.row c p m).node
      pub came : did.node.end_came ≡ (ctrl.row c p m).node.end_came
      pub stopped : did.node.stopped ≡ (ctrl.row c p m).node.stopped
      pub names : did.node.names ≡ c.names
      pub quiet : may_finish did.node ≡ false
      pub sent : did.node.finish_sent ≡ true → (c.finish_sent ≡ true) ⊎ (1 ≤ sent_weight finish n 1 did.sends)

    sent_once : (a q : Bool) → a && not true && q ≡ false
    sent_once true q = refl
    sent_once false q = refl

    pub controller_ends : {R : Type 0} (f : Semantics R) (g : Given) (n p : ℕ) (m : Msg) → reaches n 1 0 ≡ true → Label f g p 1 m
        → ControllerEnds n p m (controller_step c p m)
    controller_ends f g n p m reach label =
        let r = ctrl.row c p m in
        let row = row_ends f g p m label in
        split (may_finish r.node)
        (λ b. ControllerEnds n p m
        (record {
          node = if b then record r.node { finish_sent = true } else r.node;
          sends = r.sends ++
              (if b then (0, Msg.Finish) ∷ [] else []);
          notes = r.notes;
        }))
        (λ on. record {
          row = row;
          came = refl;
          stopped = refl;
          names = row.names;
          quiet = sent_once r.node.end_came (are_quiet r.node.operations r.node.store);
          sent = λ _. inr (let both = sent_weight-append finish n 1 r.sends ((0, Msg.Finish) ∷ []) in
              let one : sent_weight finish n 1 ((0, Msg.Finish) ∷ []) ≡ 1 = rw reach refl in omega (arith, both, one));
        }) (λ off. record { row = row; came = refl; stopped = refl; names = row.names; quiet = off; sent = λ e. inl (sym row.sent ∙ e) })

-- The switch
module _ (n : ℕ) (s : SwitchState) where
  pub record SwitchEnds (m : Msg) (did : switches.Step) : Type 0 where
    pub hands : ending m ≤ sent_weight ending n 0 did.sends
    pub closed : s.closed ≡ true → did.node.closed ≡ true
    pub closes : 1 ≤ finish m → did.node.closed ≡ true
    pub stops : did.node.closed ≡ true → (s.closed ≡ true) ⊎ ((i : ℕ) → i < s.instances → 1 ≤ weigh stop (put_on_link n 0 0 (instance_node i) did.sends))

  same_ends : (m : Msg) (did : switches.Step) → ending m ≡ 0 → finish m ≡ 0 → did.node.closed ≡ s.closed → SwitchEnds m did
  same_ends m did none unfinished same = record {
    hands = omega (arith, none);
    closed = λ e. same ∙ e;
    closes = λ some. absurd (omega (arith, some, unfinished));
    stops = λ e. inl (sym same ∙ e);
  }

  goes_same : (q : Packet) (t : Target) → (switches.goes_to s q t).node.closed ≡ s.closed
  goes_same q Target.Controller = refl
  goes_same q (Target.Instance i) = elim (nat_lt i s.instances)
      as (λ b. (if b then switches.arrival_step s q (instance_node i) (Msg.Carry Mark.Plain) else switches.still s).node.closed ≡ s.closed)
      [ true ↦ refl | false ↦ refl ]

  to_same : (i : ℕ) (m : Msg) → (switches.sends_to_instance s i m).node.closed ≡ s.closed
  to_same i m = elim (nat_lt i s.instances) as (λ b. (if b then switches.sends_on s (instance_node i) m else switches.still s).node.closed ≡ s.closed)
      [ true ↦ refl | false ↦ refl ]

  -- a stop for each instance
  stops_sent : (count i : ℕ) → i < count → 1 ≤ weigh stop (sent_for (instance_node i) (stop_messages count))
  stops_sent zero i less = absurd (omega (arith, less))
  stops_sent (suc count) i less =
      let last = (instance_node count, Msg.Stop) ∷ [] in
      let both =
      ap (weigh stop) (sent_for-append (instance_node i) (stop_messages count) last)
      ∙ weigh-append stop (sent_for (instance_node i) (stop_messages count)) (sent_for (instance_node i) last)
      in
      split (i == count) (λ _. 1 ≤ weigh stop (sent_for (instance_node i) (stop_messages (suc count))))
      (λ on.
      let here : (instance_node count == instance_node i) ≡ true = grind (arith, nat_tests, on) in
      let one : weigh stop (sent_for (instance_node i) ((instance_node count, Msg.Stop) ∷ [])) ≡ 1 = rw here refl in
      omega (arith, both, one)) (λ off. (let rest = stops_sent count i (grind (arith, nat_tests, less, off)) in omega (arith, both, rest)))

  finish_ends : s.instances + 2 ≤ n → SwitchEnds Msg.Finish (switch_step s Msg.Finish)
  finish_ends small = record {
    hands = omega arith;
    closed = λ e. refl;
    closes = λ some. refl;
    stops = λ e. inr (λ i less.
        let there : reaches n 0 (instance_node i) ≡ true = grind (arith, nat_tests, small, less) in
        let put : put_on_link n 0 0 (instance_node i) (stop_messages s.instances) ≡ sent_for (instance_node i) (stop_messages s.instances) =
        ap (λ b. if b then sent_for (instance_node i) (stop_messages s.instances) else []) there in
        omega (arith, stops_sent s.instances i less, ap (weigh stop) put));
  }

  pub switch_ends : {R : Type 0} (f : Semantics R) (g : Given) (p : ℕ) (m : Msg) → reaches n 0 1 ≡ true → s.instances + 2 ≤ n → Label f g p 0 m
      → SwitchEnds m (switch_step s m)
  switch_ends f g p (Msg.InPacket q) reach small label = same_ends (Msg.InPacket q) _ refl refl
      (elim (switches.has_room s) as (λ b. (if b then switches.goes_to s q (switches.target_of s q) else switches.still s).node.closed ≡ s.closed)
      [ true ↦ goes_same q (switches.target_of s q) | false ↦ refl ])
  switch_ends f g p (Msg.InCommand k) reach small label = same_ends (Msg.InCommand k) _ refl refl refl
  switch_ends f g p Msg.InEnd reach small label = record {
    hands = (let one : sent_weight ending n 0 ((1, Msg.End) ∷ []) ≡ 1 = rw reach refl in omega (arith, one));
    closed = λ e. e;
    closes = λ some. absurd (omega (arith, some));
    stops = λ e. inl e;
  }
  switch_ends f g p Msg.End reach small label = let never = label.1 in cc
  switch_ends f g p (Msg.Forward to k cell) reach small label = same_ends (Msg.Forward to k cell) _ refl refl (to_same to (Msg.Carry k cell))
  switch_ends f g p (Msg.Install op filter from to) reach small label =
      same_ends (Msg.Install op filter from to) _ refl refl (elim (nat_lt from s.instances && switches.is_there s to) as (λ b. (if b then record {
        node = record s { rules = rules_redirected (record { filter = filter; from = Target.Instance from; to = to }) s.rules };
        sends = (instance_node from, Msg.Fence op) ∷ [];
        notes = Note.Installed op ∷ [];
      } else switches.still s).node.closed ≡ s.closed) [ true ↦ refl | false ↦ refl ])
  switch_ends f g p (Msg.FenceTo op to) reach small label = same_ends (Msg.FenceTo op to) _ refl refl (to_same to (Msg.Fence op))
  switch_ends f g p (Msg.Answered op) reach small label = same_ends (Msg.Answered op) _ refl refl refl
  switch_ends f g p Msg.Finish reach small label = finish_ends small
  switch_ends f g p (Msg.Credit cell) reach small label =
      same_ends (Msg.Credit cell) _ refl refl (elim ((s.flying == 0) || not (cell.pool == s.pool.name)) as (λ b. (if b then switches.still s
      else record { node = record s { pool = one_more s.pool; flying = s.flying - 1 }; sends = []; notes = [] }).node.closed ≡ s.closed)
      [ true ↦ refl | false ↦ refl ])
  switch_ends f g p m reach small label = same_ends m _ refl refl refl
