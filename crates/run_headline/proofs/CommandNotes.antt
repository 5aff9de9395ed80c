-- What a step of the controller notes of commands: of one that it is asked for, that it begins or is refused, and else of those that are open alone.
use Rattle.run_headline.proofs.Words.{◌≡◌, ℕ, Bool, true, false, Option, Some, None, List, [], ◌∷◌, refl, sym, ap, ◌∙◌, subst, if◌then◌else◌, ◌==◌, is_some}
use Rattle.run_headline.proofs.Words.{or-false, Decides-eqb, Filter, FullCell, Answer, Command, Order, Msg, Note, Operation, ControllerState, place_of}
use Rattle.run_headline.proofs.Words.{controller_step, before_command, is_of_command, is_noted}
use Rattle.std.specs.Prelude.{◌||◌}
use Rattle.std.specs.List.{filter_map}
use Rattle.std.specs.FinMap as finite
use Rattle.nf_msgs.specs.declared.command.Order.TheVariants as order
use Rattle.nf_msgs.specs.declared.msg.Msg.TheVariants as msg
use Rattle.nf_msgs.specs.declared.note.Note.TheVariants as note
use Rattle.nf_msgs.specs.Nodes.{switch_node}
use Rattle.copy_share.specs.Share.{ShareState}
use Rattle.ctrl_node.specs.declared.operation.Operation.TheVariants.{Share}
use Rattle.ctrl_node.specs.Operations.{turn_of}
use Rattle.ctrl_node.specs.Controller.{Step, still, refusal, move_between, copy_between, share_begin, begin_step, decision_step, on_asked, on_diverted}
use Rattle.ctrl_node.specs.Controller.{queue_step, after_turn, takes_turn, hand_step}
use Rattle.net_world.proofs.PickedLists.{before_one}
use Rattle.run_report.specs.nf_net.proofs.answers.ControllerCases.{by_operation, by_queue}
use Rattle.run_report.specs.nf_net.proofs.answers.ShareTells.{ShareStep, handed_share, queued_share}
use Rattle.run_report.specs.proof_outlines.proofs.outline.ControllerWays.{row_by}
use Rattle.run_report.specs.proof_outlines.proofs.whole.ShareLeft.{noted}

-- the notes are first notes of commands that pass, each the only note
abbrev pub OfThese : (ℕ → Type 0) → List Note → Type 0
OfThese P notes = (k : ℕ) → is_noted k notes ≡ true → P k × (before_command k notes ≡ [])

module _ (P : ℕ → Type 0) where
  pub of_none : (notes : List Note) → notes ≡ [] → OfThese P notes
  of_none notes none k on = (let never : false ≡ true = sym (ap (is_noted k) none) ∙ on in cc)

  of_same : (op k : ℕ) → (op == k) || false ≡ true → P op → P k
  of_same op k on holds = elim (op == k) as (λ b. (op == k) ≡ b → b || false ≡ true → P k) [
    | true ↦ λ is _. subst P ((Decides-eqb op k).0 is) holds
    | false ↦ λ is never. cc
  ] refl on

  only_false : (b : Bool) → b || false ≡ true → b ≡ true
  only_false b h = sym (or-false b) ∙ h

  or_false_of : (b : Bool) → (b || false) || false ≡ true → b || false ≡ true
  or_false_of b h = only_false (b || false) h

  pub of_answer : (op : ℕ) (a : Answer) → P op → OfThese P (note.Answered op a ∷ [])
  of_answer op a holds k on = (of_same op k on holds, before_one (is_of_command k) (note.Answered op a) [] (only_false (op == k) on))

  pub of_begin : (op : ℕ) → P op → OfThese P (note.Begun op ∷ [])
  of_begin op holds k on =
      let own = or_false_of (op == k) on in (of_same op k own holds, before_one (is_of_command k) (note.Begun op) [] (only_false (op == k) own))

module _ (c : ControllerState) where
  -- the number of an open operation
  abbrev pub IsOpen : ℕ → Type 0
  IsOpen k = finite.contains_key c.operations k ≡ true

  abbrev OfOpen : Step → Type 0
  OfOpen did = OfThese IsOpen did.notes

  still_open : OfOpen (still c)
  still_open = of_none IsOpen [] refl

  turn_open : (op port : ℕ) (m : Msg) (o : Option Operation) → finite.get c.operations op ≡ o → OfOpen (takes_turn c op (turn_of o c.store port m))
  turn_open op port m None is = of_none IsOpen [] refl
  turn_open op port m (Some x) is = by_answer (turn_of (Some x) c.store port m).answer
    where
      by_answer : (a : Option Answer) → OfOpen (after_turn c op (turn_of (Some x) c.store port m) a)
      by_answer None = of_none IsOpen [] refl
      by_answer (Some a) = of_answer IsOpen op a (ap is_some is)

  share_open : (op : ℕ) (s : ShareState) → finite.get c.operations op ≡ Some (Share s) → (did : Step) → ShareStep c op s did → OfOpen did
  share_open op s there did l = subst (OfThese IsOpen) (sym l.notes_are) (by_answer l.answer)
    where
      by_answer : (a : Option Answer) → OfThese IsOpen (noted op a)
      by_answer None = of_none IsOpen [] refl
      by_answer (Some a) = of_answer IsOpen op a (ap is_some there)

  module _ (own : (op : ℕ) (s : ShareState) → finite.get c.operations op ≡ Some (Share s) → s.plan.op ≡ op) where
    handed_open : (op port : ℕ) (m : Msg) → OfOpen (hand_step c op port m)
    handed_open op port m = by_operation OfOpen c op port m
        (λ no_share. turn_open op port m (finite.get c.operations op) refl)
        (λ s is. share_open op s is (hand_step c op port m) (handed_share c op s is (own op s is) port m))

    diverted_open : (cell : FullCell) → OfOpen (on_diverted c cell)
    diverted_open cell = by_queue OfOpen c cell still_open
        (λ op s is. share_open op s is (queue_step c cell (Some op)) (queued_share c op s is (own op s is) cell))

    -- what isn't asked is noted of open operations alone
    pub step_open : (port : ℕ) (m : Msg) → ((x : Command) → m ≡ msg.Asked x → ⊥) → OfOpen (controller_step c port m)
    step_open port m unasked = row_by c port (λ y did. ((x : Command) → y ≡ msg.Asked x → ⊥) → OfOpen did) (record {
      still = λ y other. still_open;
      ended = λ other. of_none IsOpen [] refl;
      stopped = λ i other. of_none IsOpen [] refl;
      returned = λ op i cell other. of_none IsOpen [] refl;
      handed = λ op y is other. handed_open op port y;
      diverted = λ cell other. diverted_open cell;
      asked = λ x other. absurd (other x refl);
    }) m unasked

  -- A command that is asked for.
  module _ (op : ℕ) where
    abbrev IsIt : ℕ → Type 0
    IsIt k = k ≡ op

    abbrev OfIt : Step → Type 0
    OfIt did = OfThese IsIt did.notes

    still_it : OfIt (still c)
    still_it = of_none IsIt [] refl

    between_it : (filter : Filter) (keep : Bool) (a b : Option ℕ) → OfIt (move_between c op filter keep a b)
    between_it filter keep (Some from) (Some to) = of_begin IsIt op refl
    between_it filter keep None b = still_it
    between_it filter keep (Some from) None = still_it

    copies_it : (filter : Option Filter) (a b : Option ℕ) → OfIt (copy_between c op filter a b)
    copies_it filter (Some from) (Some to) = of_begin IsIt op refl
    copies_it filter None b = still_it
    copies_it filter (Some from) None = still_it

    shares_it : (filter : Filter) (members : List ℕ) → OfIt (share_begin c op filter members)
    shares_it filter [] = still_it
    shares_it filter (home ∷ others) = of_begin IsIt op refl

    begins_it : (what : Order) → OfIt (begin_step c op what)
    begins_it (order.Move source destination filter keep) = between_it filter keep (place_of c.names source) (place_of c.names destination)
    begins_it (order.Copy source destination filter) = copies_it filter (place_of c.names source) (place_of c.names destination)
    begins_it (order.Share members filter) = shares_it filter (filter_map (place_of c.names) members)

    decided_it : (what : Order) (o : Option Answer) → OfIt (decision_step c op what o)
    decided_it what None = begins_it what
    decided_it what (Some a) = of_answer IsIt op a refl

    asked_it : (what : Order) → OfIt (on_asked c (record { op = op; what = what }))
    asked_it what = elim (finite.contains_key c.operations op) as (λ b. OfIt (if b then still c else decision_step c op what (refusal c what))) [
      | true ↦ still_it
      | false ↦ decided_it what (refusal c what)
    ]

    pub step_asked : (port : ℕ) (what : Order) → OfIt (controller_step c port (msg.Asked (record { op = op; what = what })))
    step_asked port what = elim (port == switch_node) as (λ b. OfIt (if b then on_asked c (record { op = op; what = what }) else still c)) [
      | true ↦ asked_it what
      | false ↦ still_it
    ]
