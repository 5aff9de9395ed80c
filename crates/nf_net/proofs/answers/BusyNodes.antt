-- The steps of the switch and of the instances say nothing of commands, except that the switch hands on each command of the input.
use Rattle.nf_net.proofs.Words.{◌≡◌, ℕ, zero, suc, ◌+◌, Bool, true, false, Option, Some, None, List, [], ◌∷◌, ◌++◌, map, refl, sym, ap, ◌∙◌, subst}
use Rattle.nf_net.proofs.Words.{if◌then◌else◌, ◌&&◌, ◌||◌, ◌==◌, nat_lt, option_map, Chunk, Semantics, unit_at, record_chunk, part, Mark, FullCell, Answer}
use Rattle.nf_net.proofs.Words.{Import, Command, Msg, Note, switch_node, instance_node, Stepped, core_sent, EachSent, Each, each-append, SwitchState}
use Rattle.nf_net.proofs.Words.{switch_step, stop_messages, InstanceState, pieces, to_controller, share_message, instance_step, selected_chunks, chunk_told}
use Rattle.nf_net.proofs.Words.{with_count, table_after, step_fits, refusal_of, instance_fits, Given, Label, sent-append, Unit, split, IsQuiet, instance_quiet}
use Rattle.std.specs.FinMap as finite
use Rattle.nf_msgs.specs.declared.answer.Answer.TheVariants.{Old}
use Rattle.nf_msgs.specs.declared.msg.Piece.{Piece as APiece}
use Rattle.switch_node.specs.Switch as switch
use Rattle.instance_worker.specs.Instance.{process_step}
use Rattle.nf_net.proofs.answers.BusyLemmas.{AreOther, is_outcome}
use Rattle.nf_net.proofs.answers.BusyController.{told_in}
use Rattle.nf_net.proofs.answers.LinePicks.{picked}
use Rattle.nf_net.proofs.answers.MoveSays.{Says}

-- the numbers of the commands among messages
abbrev pub numbers : List Msg → List ℕ
numbers ms = picked told_in ms

-- no command is among what is sent
abbrev pub NoneTold : List (ℕ × Msg) → Type 0
NoneTold sends = Each (λ x. told_in x.1 ≡ []) sends

pub none_told : (r : ℕ) (sends : List (ℕ × Msg)) → NoneTold sends → numbers (core_sent r sends) ≡ []
none_told r [] h = refl
none_told r (x ∷ xs) h = split (x.0 == r) (λ b. numbers ((if b then x.1 ∷ [] else []) ++ core_sent r xs) ≡ [])
    (λ _. ap (λ v. v ++ numbers (core_sent r xs)) h.0 ∙ none_told r xs h.1) (λ _. none_told r xs h.1)

-- The switch.
module _ (g : Given) where
  pub record SwitchIs (sends : List (ℕ × Msg)) (notes : List Note) : Type 0 where
    pub none : NoneTold sends
    pub notes_are : AreOther notes
    pub says : EachSent (Says g) 0 sends

  stops_none : (i : ℕ) → NoneTold (stop_messages i)
  stops_none zero = tt
  stops_none (suc i) = each-append (λ x. told_in x.1 ≡ []) (stop_messages i) ((instance_node i, Msg.Stop) ∷ []) (stops_none i) (refl, tt)

  stops_say : (i : ℕ) → EachSent (Says g) 0 (stop_messages i)
  stops_say zero = tt
  stops_say (suc i) = sent-append (Says g) 0 (stop_messages i) ((instance_node i, Msg.Stop) ∷ []) (stops_say i) (tt, tt)

  abbrev Quiet : switch.Step → Type 0
  Quiet did = SwitchIs did.sends did.notes

  still_quiet : (s : SwitchState) → Quiet (switch.still s)
  still_quiet s = record { none = tt; notes_are = tt; says = tt }

  switch_quiet : (s : SwitchState) (m : Msg) → ((c : Command) → m ≡ Msg.InCommand c → ⊥) → Quiet (switch_step s m)
  switch_quiet s = step_fits s (λ m did. ((c : Command) → m ≡ Msg.InCommand c → ⊥) → Quiet did) (record {
    still = λ m not_it. still_quiet s;
    to_controller = λ p not_it. record { none = (refl, tt); notes_are = (refl, tt); says = (tt, tt) };
    to_instance = λ p i not_it. record { none = (refl, tt); notes_are = (refl, tt); says = (tt, tt) };
    command = λ c not_it. absurd (not_it c refl);
    ended = λ not_it. record { none = (refl, tt); notes_are = tt; says = (tt, tt) };
    forward = λ to k cell not_it. record { none = (refl, tt); notes_are = tt; says = (tt, tt) };
    install = λ op filter from to not_it. record { none = (refl, tt); notes_are = (refl, tt); says = (tt, tt) };
    fence = λ op to not_it. record { none = (refl, tt); notes_are = tt; says = (tt, tt) };
    answered = λ op not_it. record { none = tt; notes_are = tt; says = tt };
    finish = λ not_it. record { none = stops_none s.instances; notes_are = tt; says = stops_say s.instances };
    credit = λ cell not_it. record { none = tt; notes_are = tt; says = tt };
  })

  -- what the switch hands on to the controller is what it took, and else it says nothing of commands
  pub record SwitchHands (s : SwitchState) (m : Msg) : Type 0 where
    pub hands : numbers (core_sent 1 (switch_step s m).sends) ≡ told_in m
    pub notes_are : AreOther (switch_step s m).notes
    pub says : EachSent (Says g) 0 (switch_step s m).sends

module _ {R : Type 0} (f : Semantics R) (g : Given) where
  quiet_hands : (s : SwitchState) (m : Msg) → told_in m ≡ [] → ((c : Command) → m ≡ Msg.InCommand c → ⊥) → SwitchHands g s m
  quiet_hands s m none not_it =
      let q = switch_quiet g s m not_it in record { hands = none_told 1 (switch_step s m).sends q.none ∙ sym none; notes_are = q.notes_are; says = q.says }

  pub switch_hands : (s : SwitchState) (p : ℕ) (m : Msg) → Label f g p 0 m → SwitchHands g s m
  switch_hands s p (Msg.InCommand c) label = record { hands = refl; notes_are = tt; says = (tt, tt) }
  switch_hands s p (Msg.Asked c) label = let never = label.1 in cc
  switch_hands s p m label = quiet_hands s m refl (λ c is. cc)

-- An instance.
quiet_other : (k : ℕ) (notes : List Note) → Each (IsQuiet k) notes → AreOther notes
quiet_other k [] h = tt
quiet_other k (Note.Begun op ∷ notes) h = absurd h.0
quiet_other k (Note.Answered op answer ∷ notes) h = absurd h.0
quiet_other k (n ∷ notes) h = (refl, quiet_other k notes h.1)

abbrev IsOutcome : Option Answer → Type 0
IsOutcome None = Prim.Unit {0}
IsOutcome (Some a) = is_outcome a ≡ true

module _ (g : Given) (k : ℕ) where
  chunk_says : (op : ℕ) (o : Option Chunk) → EachSent (Says g) k (to_controller (chunk_told op o))
  chunk_says op None = tt
  chunk_says op (Some chunk) = (tt, tt)

  pieces_say : (op : ℕ) (ps : List APiece) → EachSent (Says g) k (to_controller (map (Msg.Piece op) ps))
  pieces_say op [] = tt
  pieces_say op (p ∷ ps) = (tt, pieces_say op ps)

module _ {F R : Type 0} (f : Semantics R) (g : Given) (k : ℕ) where
  abbrev SaysSo : Stepped (InstanceState F R) Msg Note → Type 0
  SaysSo did = EachSent (Says g) k did.sends

  shared_says : (i : InstanceState F R) (m : Mark) (u : Unit) → EachSent (Says g) k (to_controller (share_message f i m u))
  shared_says i (Mark.Shared op home) u = chunk_says g k op (option_map (record_chunk f u) (finite.get (part i.table home) u))
  shared_says i m u = tt

  processed_says : (i : InstanceState F R) (m : Mark) (cell : FullCell) → SaysSo (process_step f i m cell)
  unfolding process_step
  processed_says i m cell =
      let after = with_count (record i { table = table_after f i m cell.packet }) in
      let u = unit_at f.kind i.site cell.packet in
      sent-append (Says g) k (to_controller (share_message f after m u)) ((switch_node, Msg.Credit cell) ∷ []) (shared_says after m u) (tt, tt)

  -- a refusal is an outcome
  refusal_says : (i : InstanceState F R) (piece : APiece) (first : Bool) → IsOutcome (refusal_of i piece first)
  refusal_says i piece false = tt
  refusal_says i piece true = split (nat_lt i.limit (finite.len i.table.live + piece.total))
      (λ b. IsOutcome (if b then Some (Import (finite.len i.table.live) piece.total i.limit) else if i.marked && nat_lt 1 piece.newest then Some
      (Old piece.newest 1) else None))
      (λ _. refl)
      (λ _. elim (i.marked && nat_lt 1 piece.newest) as (λ b. IsOutcome (if b then Some (Old piece.newest 1) else None)) [ true ↦ refl | false ↦ tt ])

  step_says : (i : InstanceState F R) (m : Msg) → SaysSo (instance_step f i m)
  step_says = instance_fits f (λ _ _ did. SaysSo did) (record {
    still = λ i m. tt;
    held = λ i mk cell op. tt;
    processed = λ i mk cell. processed_says i mk cell;
    released = λ i op cell. processed_says i Mark.Plain cell;
    both = λ i m did next w a b. sent-append (Says g) k did.sends (next did.node).sends a b;
    unruled = λ i op did h. h;
    seen = λ i mk cell op. (tt, tt);
    event = λ i mk cell op. (tt, tt);
    fenced = λ i op. (tt, tt);
    stopped = λ i. (tt, tt);
    enabled = λ i op filter action. (tt, tt);
    given = λ i op filter. (tt, tt);
    streamed = λ i op filter. pieces_say g k op (pieces (selected_chunks f i filter));
    all_given = λ i op. (tt, tt);
    deleted = λ i op gone. (tt, tt);
    refused = λ i op piece first why is. (subst IsOutcome is (refusal_says i piece first), tt);
    taken = λ i op piece first is.
        elim (first || piece.last) as (λ b. EachSent (Says g) k (to_controller (if b then Msg.PutOk op ∷ [] else []))) [ true ↦ (tt, tt) | false ↦ tt ];
    restored = λ i op chunks. (tt, tt);
    stood_by = λ i op chunks. (tt, tt);
    synced = λ i home op chunks. (tt, tt);
    merged = λ i op chunk slots is. (tt, tt);
  })

  pub record InstanceSays (did : Stepped (InstanceState F R) Msg Note) : Type 0 where
    pub notes_are : AreOther did.notes
    pub says : SaysSo did

  pub instance_says : (i : InstanceState F R) (m : Msg) → InstanceSays (instance_step f i m)
  instance_says i m = record { notes_are = quiet_other i.index (instance_step f i m).notes (instance_quiet f i m); says = step_says i m }
