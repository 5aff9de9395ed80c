-- What each node's step keeps of the input's end: no command comes after it, the controller finishes once no operation is open but shares
-- that are set up, and the switch closes where it takes the finish.
use Rattle.nf_net.proofs.Words.{◌≡◌, ℕ, zero, suc, ◌+◌, ◌≤◌, Bool, true, false, cond, Option, Some, None, List, [], ◌∷◌, ◌++◌, refl, sym, ap, ◌∙◌, subst, arith}
use Rattle.nf_net.proofs.Words.{if◌then◌else◌, ◌&&◌, ◌||◌, ◌==◌, not, nat_lt, list_all, nat_cmp, eq_by_cmp, and_parts, Filter, Packet, Semantics, FullCell}
use Rattle.nf_net.proofs.Words.{one_more, Target, rules_redirected, Answer, Msg, Note, instance_node, op_of, core_sent, neither, Each, each-append, Operation}
use Rattle.nf_net.proofs.Words.{Move, Copy, Share, Store, stored_of, SharePhase, ShareState, is_idle, OpenOperations, turn_of, is_quiet, are_quiet}
use Rattle.nf_net.proofs.Words.{ControllerState, on_diverted, takes_turn, hand_step, on_final, instance_at, SwitchState, switch_step, stop_messages}
use Rattle.nf_net.proofs.Words.{sends_to_instance, target_of, has_room, is_there, row_fits, NotShared, Given, Label, Mark, split}
use Rattle.std.proofs.Common.{◌-◌}
use Rattle.std.specs.FinMap as finite
use Rattle.std.proofs.lemmas.List.Folds.{list_all-append}
use Rattle.ctrl_node.specs.Controller as controller
use Rattle.ctrl_node.specs.Controller.{Step, still, numbered, on_event}
use Rattle.switch_node.specs.Switch as switch
use Rattle.switch_node.specs.Switch.{goes_to}
use Rattle.nf_net.proofs.answers.ControllerCases.{by_diverted, by_handed, by_sender, by_stop}
use Rattle.nf_net.proofs.answers.InstallCounts.{finish}
use Rattle.nf_net.proofs.answers.ShareTells.{is_set_up, Tells, turn_end, ShareStep}
use Rattle.proof_outlines.proofs.joined.KnownOperations.{AreKnown}
use Rattle.nf_net.proofs.answers.LinePicks.{picked}

-- a command, or the end
abbrev pub sign_in : Msg → List Bool
sign_in (Msg.Asked c) = true ∷ []
sign_in (Msg.InCommand c) = true ∷ []
sign_in Msg.End = false ∷ []
sign_in Msg.InEnd = false ∷ []
sign_in m = []

-- no command is there, and none behind an end
abbrev pub no_command : List Bool → Bool
no_command xs = list_all not xs

abbrev pub in_order : List Bool → Bool
in_order [] = true
in_order (true ∷ xs) = in_order xs
in_order (false ∷ xs) = no_command xs

pub none_ordered : (xs : List Bool) → no_command xs ≡ true → in_order xs ≡ true
none_ordered [] h = refl
none_ordered (true ∷ xs) h = cc
none_ordered (false ∷ xs) h = h

pub ordered_behind : (xs ys : List Bool) → in_order (xs ++ ys) ≡ true → in_order ys ≡ true
ordered_behind [] ys h = h
ordered_behind (true ∷ xs) ys h = ordered_behind xs ys h
ordered_behind (false ∷ xs) ys h = none_ordered ys (and_parts (no_command xs) (no_command ys) (sym (list_all-append not xs ys) ∙ h)).1

-- Nothing but shares that are set up is open where all is quiet.
abbrev pub IsSettled : Option Operation → Type 0
IsSettled None = Unit {0}
IsSettled (Some (Share s)) = is_set_up s.phase ≡ true
IsSettled o = ⊥

idle_set_up : (ph : SharePhase) (cells : List FullCell) → is_idle ph cells ≡ true → is_set_up ph ≡ true
idle_set_up SharePhase.Fencing cells e = cc
idle_set_up SharePhase.Getting cells e = cc
idle_set_up (SharePhase.Setting left) cells e = cc
idle_set_up ph cells e = refl

quiet_found : (store : Store) (op : ℕ) (es : List (ℕ × Operation)) (o : Operation) → list_all (λ e. is_quiet store e.1) es ≡ true
    → finite.find nat_cmp op es ≡ Some o → is_quiet store o ≡ true
quiet_found store op [] o h there = cc
quiet_found store op (e ∷ es) o h there =
    let all = and_parts (is_quiet store e.1) (list_all (λ x. is_quiet store x.1) es) h in
    split (eq_by_cmp nat_cmp op e.0) (λ b. cond b (Some e.1) (finite.find nat_cmp op es) ≡ Some o → is_quiet store o ≡ true)
    (λ _ here. let same : e.1 ≡ o = cc in subst (λ x. is_quiet store x ≡ true) same all.0) (λ _ rest. quiet_found store op es o all.1 rest) there

pub quiet_settled : (ops : OpenOperations) (store : Store) → are_quiet ops store ≡ true → (op : ℕ) → IsSettled (finite.get ops op)
quiet_settled ops store h op = by_got (finite.get ops op) refl
  where
    quiet : (o : Operation) → finite.get ops op ≡ Some o → is_quiet store o ≡ true
    quiet o e = quiet_found store op (finite.entries ops) o h (sym (finite.get-entries ops op) ∙ e)

    by_got : (o : Option Operation) → finite.get ops op ≡ o → IsSettled o
    by_got None e = tt
    by_got (Some (Move m)) e = let never : false ≡ true = quiet (Move m) e in cc
    by_got (Some (Copy y)) e = let never : false ≡ true = quiet (Copy y) e in cc
    by_got (Some (Share s)) e = idle_set_up s.phase (stored_of store s.plan.op) (quiet (Share s) e)

wrong : false ≡ true → ⊥
wrong e = cc

-- The controller.
module _ (g : Given) (c : ControllerState) (are : AreKnown g c) where
  -- what is open is settled
  abbrev AreSettled : OpenOperations → Type 0
  AreSettled ops = (op : ℕ) → IsSettled (finite.get ops op)

  -- the input's end is as it was, and nothing opens
  record Rests (did : Step) : Type 0 where
    end_same : did.node.end_came ≡ c.end_came
    settled : AreSettled c.operations → AreSettled did.node.operations

  rests : Rests (still c)
  rests = record { end_same = refl; settled = λ h. h }

  turn_rests : (op port : ℕ) (m : Msg) (o : Option Operation) → finite.get c.operations op ≡ o → NotShared o
      → Rests (takes_turn c op (turn_of o c.store port m))
  turn_rests op port m None is no_share = record { end_same = refl; settled = λ h. h }
  turn_rests op port m (Some (Move mv)) is no_share = record {
    end_same = turn_end c op (turn_of (Some (Move mv)) c.store port m) (turn_of (Some (Move mv)) c.store port m).answer;
    settled = λ h. absurd (subst IsSettled is (h op));
  }
  turn_rests op port m (Some (Copy y)) is no_share = record {
    end_same = turn_end c op (turn_of (Some (Copy y)) c.store port m) (turn_of (Some (Copy y)) c.store port m).answer;
    settled = λ h. absurd (subst IsSettled is (h op));
  }
  turn_rests op port m (Some (Share s)) is no_share = absurd no_share

  -- an open share stays one that is set up
  share_rests : (op : ℕ) (s : ShareState) → finite.get c.operations op ≡ Some (Share s) → (did : Step) → ShareStep c op s did → Rests did
  share_rests op s there did l = record {
    end_same = l.end_same;
    settled = λ h k. subst IsSettled (sym (l.operations k))
        (split (k == op) (λ b. IsSettled (cond b (Some (Share (record s { phase = l.after }))) (finite.get c.operations k)))
        (λ _. still_set_up (is_set_up s.phase) (is_set_up l.after) l.answer l.tells (subst IsSettled there (h op))) (λ _. h k));
  }
    where
      still_set_up : (was now : Bool) (a : Option Answer) → Tells was now a → was ≡ true → now ≡ true
      still_set_up was now None same on = sym same ∙ on
      still_set_up was now (Some why) tells on = tells.2

  handed_rests : (op port : ℕ) (m : Msg) → Rests (hand_step c op port m)
  handed_rests op port m = by_handed Rests c (λ k s is. (are.shares k s is).0) share_rests op port m (turn_rests op port m (finite.get c.operations op) refl)

  diverted_rests : (cell : FullCell) → Rests (on_diverted c cell)
  diverted_rests = by_diverted Rests c (λ k s is. (are.shares k s is).0) share_rests rests

  numbered_rests : (port : ℕ) (m : Msg) (o : Option ℕ) → Rests (numbered c port m o)
  numbered_rests port m None = rests
  numbered_rests port m (Some op) = handed_rests op port m

  event_rests : (port op : ℕ) (cell : FullCell) (i : Option ℕ) → Rests (on_event c port op cell i)
  event_rests port op cell i =
      by_sender Rests c port op cell i rests (handed_rests op port (Msg.Event op cell)) (λ k. record { end_same = refl; settled = λ h. h })

  final_rests : (i : Option ℕ) → Rests (on_final c i)
  final_rests i = by_stop Rests c i rests (λ k. record { end_same = refl; settled = λ h. h })

  either_rests : (b : Bool) (did : Step) → Rests did → Rests (if b then did else still c)
  either_rests true did h = h
  either_rests false did h = rests

  -- a command leaves the input's end as it was
  abbrev SameEnd : Step → Type 0
  SameEnd did = did.node.end_came ≡ c.end_came

  abbrev is_asked : Msg → Bool
  is_asked (Msg.Asked k) = true
  is_asked m = false

  asked_end : (p : ℕ) (m : Msg) → is_asked m ≡ true → SameEnd (controller.row c p m)
  asked_end = row_fits c (λ m did. is_asked m ≡ true → SameEnd did) (record {
    still = λ m asked. refl;
    ended = λ asked. cc;
    stopped = λ i asked. cc;
    returned = λ op i cell asked. refl;
    handed = λ op port m asked. (handed_rests op port m).end_same;
    queued = λ op cell asked. refl;
    answers = λ k op answer asked. refl;
    begins = record {
      moves = λ k op from to filter keep asked. refl;
      copies = λ k op from to filter asked. refl;
      shares = λ k op filter home others asked. refl;
    };
  })

  -- what is left of the way to the controller after its step, and what it says
  pub record Ended (did : Step) (way : List Bool) : Type 0 where
    pub ended : did.node.end_came ≡ true → no_command way ≡ true
    pub settled : c.end_came ≡ true → AreSettled c.operations → (did.node.end_came ≡ true) × AreSettled did.node.operations

  module _ (way : List Bool) where
    by_rests : (did : Step) → Rests did → (c.end_came ≡ true → no_command way ≡ true) → Ended did way
    by_rests did r ended = record { ended = λ e. ended (sym r.end_same ∙ e); settled = λ e h. (r.end_same ∙ e, r.settled h) }

    module _ {R : Type 0} (f : Semantics R) where
      pub row_ends : (p : ℕ) (m : Msg) → Label f g p 1 m → in_order (sign_in m ++ way) ≡ true → (c.end_came ≡ true → no_command (sign_in m ++ way) ≡ true)
          → Ended (controller.row c p m) way
      row_ends p (Msg.Asked k) label ordered ended = record {
        ended = λ e. (let never : false ≡ true = ended (sym (asked_end p (Msg.Asked k) refl) ∙ e) in cc);
        settled = λ e h. absurd (let never : false ≡ true = ended e in wrong never);
      }
      row_ends p Msg.End label ordered ended = split (p == 0) (λ b. Ended (if b then still (record c { end_came = true }) else still c) way)
          (λ on. record { ended = λ e. ordered; settled = λ e h. (refl, h) }) (λ off. record { ended = λ e. ordered; settled = λ e h. (e, h) })
      row_ends p (Msg.Diverted cell) label ordered ended = by_rests _ (either_rests (p == 0) (on_diverted c cell) (diverted_rests cell)) ended
      row_ends p (Msg.InCommand k) label ordered ended = let never = label.0.1 in cc
      row_ends p Msg.InEnd label ordered ended = let never = label.1 in cc
      row_ends p (Msg.Event op cell) label ordered ended = by_rests _ (event_rests p op cell (instance_at c p)) ended
      row_ends p Msg.Final label ordered ended = by_rests _ (final_rests (instance_at c p)) ended
      row_ends p m label ordered ended = by_rests _ (numbered_rests p m (op_of m)) ended

-- where commands and ends come from
module _ {R : Type 0} (f : Semantics R) (g : Given) where
  pub sign_at_switch : (p : ℕ) (m : Msg) → Label f g p 0 m → sign_in m ≡ (if 0 == p then sign_in m else [])
  sign_at_switch p (Msg.InCommand c) label = let from = label.0.0 in rw from refl
  sign_at_switch p Msg.InEnd label = let from = label.0 in rw from refl
  sign_at_switch p (Msg.Asked c) label = let never = label.1 in cc
  sign_at_switch p Msg.End label = let never = label.1 in cc
  sign_at_switch p m label = sym (neither (0 == p))

  pub sign_at_controller : (p : ℕ) (m : Msg) → Label f g p 1 m → sign_in m ≡ (if 0 == p then sign_in m else [])
  sign_at_controller p (Msg.Asked c) label = let from = label.0 in rw from refl
  sign_at_controller p Msg.End label = let from = label.0 in rw from refl
  sign_at_controller p (Msg.InCommand c) label = let never = label.0.1 in cc
  sign_at_controller p Msg.InEnd label = let never = label.1 in cc
  sign_at_controller p m label = sym (neither (0 == p))

-- The switch hands on commands and the end.
abbrev NoSign : List (ℕ × Msg) → Type 0
NoSign sends = Each (λ x. sign_in x.1 ≡ []) sends

no_sign : (r : ℕ) (sends : List (ℕ × Msg)) → NoSign sends → picked sign_in (core_sent r sends) ≡ []
no_sign r [] h = refl
no_sign r (x ∷ xs) h = split (x.0 == r) (λ b. picked sign_in ((if b then x.1 ∷ [] else []) ++ core_sent r xs) ≡ [])
    (λ _. ap (λ v. v ++ picked sign_in (core_sent r xs)) h.0 ∙ no_sign r xs h.1) (λ _. no_sign r xs h.1)

abbrev pub flag : Bool → ℕ
flag b = if b then 1 else 0

pub flag_most : (b : Bool) → flag b ≤ 1
flag_most true = omega arith
flag_most false = omega arith

pub flag_full : (b : Bool) → 1 ≤ flag b → b ≡ true
flag_full true h = refl
flag_full false h = absurd (omega (arith, h))

-- what is handed on, and whether the switch closes
pub record Closes (s : SwitchState) (m : Msg) (did : switch.Step) : Type 0 where
  pub hands : picked sign_in (core_sent 1 did.sends) ≡ sign_in m
  pub closed : flag did.node.closed ≤ flag s.closed + finish m

module _ (s : SwitchState) where
  closes : (m : Msg) → sign_in m ≡ [] → finish m ≡ 0 → (t : SwitchState) → t.closed ≡ s.closed → (sends : List (ℕ × Msg)) (notes : List Note) → NoSign sends
      → Closes s m (record { node = t; sends = sends; notes = notes })
  closes m none off t same sends notes h = record { hands = no_sign 1 sends h ∙ sym none; closed = (let e = ap flag same in omega (arith, e)) }

  stops_none : (i : ℕ) → NoSign (stop_messages i)
  stops_none zero = tt
  stops_none (suc i) = each-append (λ x. sign_in x.1 ≡ []) (stop_messages i) ((instance_node i, Msg.Stop) ∷ []) (stops_none i) (refl, tt)

  still_closes : (m : Msg) → sign_in m ≡ [] → finish m ≡ 0 → Closes s m (switch.still s)
  still_closes m none off = closes m none off s refl [] [] tt

  goes_closes : (m : Msg) → sign_in m ≡ [] → finish m ≡ 0 → (p : Packet) (t : Target) → Closes s m (goes_to s p t)
  goes_closes m none off p Target.Controller = closes m none off _ refl _ _ (refl, tt)
  goes_closes m none off p (Target.Instance i) =
      elim (nat_lt i s.instances) as (λ b. Closes s m (if b then switch.arrival_step s p (instance_node i) (Msg.Carry Mark.Plain) else switch.still s))
      [ true ↦ closes m none off _ refl _ _ (refl, tt) | false ↦ still_closes m none off ]

  to_closes : (m : Msg) → sign_in m ≡ [] → finish m ≡ 0 → (i : ℕ) (a : Msg) → sign_in a ≡ [] → Closes s m (sends_to_instance s i a)
  to_closes m none off i a h = elim (nat_lt i s.instances) as (λ b. Closes s m (if b then switch.sends_on s (instance_node i) a else switch.still s))
      [ true ↦ closes m none off s refl ((instance_node i, a) ∷ []) [] (h, tt) | false ↦ still_closes m none off ]

  install_closes : (op : ℕ) (filter : Filter) (from : ℕ) (to : Target) → Closes s (Msg.Install op filter from to) (switch.on_install s op filter from to)
  install_closes op filter from to = split (nat_lt from s.instances && is_there s to)
      (λ b. Closes s (Msg.Install op filter from to)
      (if b then record {
        node = record s { rules = rules_redirected (record { filter = filter; from = Target.Instance from; to = to }) s.rules };
        sends =
            (instance_node from, Msg.Fence op) ∷ [];
        notes = Note.Installed op ∷ [];
      } else switch.still s))
      (λ _. closes (Msg.Install op filter from to) refl refl _ refl _ _ (refl, tt)) (λ _. still_closes (Msg.Install op filter from to) refl refl)

  module _ {R : Type 0} (f : Semantics R) (g : Given) where
    pub switch_closes : (p : ℕ) (m : Msg) → Label f g p 0 m → Closes s m (switch_step s m)
    switch_closes p (Msg.InPacket q) label =
        elim (has_room s) as (λ b. Closes s (Msg.InPacket q) (if b then goes_to s q (target_of s q) else switch.still s))
        [ true ↦ goes_closes (Msg.InPacket q) refl refl q (target_of s q) | false ↦ still_closes (Msg.InPacket q) refl refl ]
    switch_closes p (Msg.InCommand c) label = record { hands = refl; closed = omega arith }
    switch_closes p Msg.InEnd label = record { hands = refl; closed = omega arith }
    switch_closes p (Msg.Forward to k cell) label = to_closes (Msg.Forward to k cell) refl refl to (Msg.Carry k cell) refl
    switch_closes p (Msg.Install op filter from to) label = install_closes op filter from to
    switch_closes p (Msg.FenceTo op to) label = to_closes (Msg.FenceTo op to) refl refl to (Msg.Fence op) refl
    switch_closes p (Msg.Answered op) label = closes (Msg.Answered op) refl refl _ refl [] [] tt
    switch_closes p Msg.Finish label = record { hands = no_sign 1 (stop_messages s.instances) (stops_none s.instances); closed = omega arith }
    switch_closes p (Msg.Credit cell) label = elim ((s.flying == 0) || not (cell.pool == s.pool.name)) as (λ b. Closes s (Msg.Credit cell)
        (if b then switch.still s else record { node = record s { pool = one_more s.pool; flying = s.flying - 1 }; sends = []; notes = [] }))
        [ true ↦ still_closes (Msg.Credit cell) refl refl | false ↦ closes (Msg.Credit cell) refl refl _ refl [] [] tt ]
    switch_closes p (Msg.Asked c) label = let never = label.1 in cc
    switch_closes p Msg.End label = let never = label.1 in cc
    switch_closes p m label = still_closes m refl refl
