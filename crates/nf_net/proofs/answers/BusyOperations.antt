-- The open operations of the controller are the commands under way; so what it refuses an order for is true of the log.
use Rattle.nf_net.proofs.Words.{◌≡◌, ℕ, ◌≤◌, true, false, Option, Some, None, List, [], ◌∷◌, refl, sym, ap, ◌∙◌, if◌then◌else◌, find, is_some, option_map}
use Rattle.nf_net.proofs.Words.{option_or, option_map_or, Filter, Answer, Unknown, Overlap, Order, Note, Phase, SharePlan, Operation, Move, Copy, Share}
use Rattle.nf_net.proofs.Words.{OpenOperations, ControllerState, unknown_name, overlap, refusal, unknown_in, Rising, keeps_off, answers_of, MayBegin, Given}
use Rattle.nf_net.proofs.Words.{IsPlan, IsCopyPlan, Door, Done}
use Rattle.std.specs.Prelude.{option_and_then}
use Rattle.std.specs.FinMap as finite
use Rattle.flow_filter.specs.Filter.{meets}
use Rattle.move_op.specs.Phases as phase
use Rattle.copy_share.specs.Copy as copy
use Rattle.ctrl_node.specs.Operations.{meets_operation, lowest_meeting}
use Rattle.nf_msgs.specs.Orders.{order_filter}
use Rattle.net_world.specs.Commands.{busy_filter}
use Rattle.nf_net.proofs.answers.BusyLemmas.{is_noted, is_outcome, IsAnswered, IsCauseIn}
use Rattle.nf_net.proofs.answers.FirstEntries.{passes, IsFirstOf, found_is}
use Rattle.nf_net.proofs.answers.ShareTells.{is_set_up}

-- what a move that was refused, or is over, is to be answered
abbrev pub HasOutcome : Phase → Type 0
HasOutcome (phase.Streaming frozen free came (Door.Refused why)) = is_outcome why ≡ true
HasOutcome (phase.Restoring why) = is_outcome why ≡ true
HasOutcome (phase.Returning why) = is_outcome why ≡ true
HasOutcome (phase.Undoing why) = is_outcome why ≡ true
HasOutcome (phase.Over why) = is_outcome why ≡ true
HasOutcome p = Unit {0}

-- an open share is that of the order under its number
pub record IsShareOf (g : Given) (op : ℕ) (plan : SharePlan) : Type 0 where
  pub op_is : plan.op ≡ op
  pub names : List (List ℕ)
  pub order_is : g.orders op ≡ Some (Order.Share names plan.filter)

-- what is known of an open operation: it is that of its number's order
abbrev pub IsPlanned : Given → ℕ → Operation → Type 0
IsPlanned g op (Move m) = IsPlan g op m.plan
IsPlanned g op (Copy y) = IsCopyPlan g op y.plan × (copy.answer_of y.phase ≡ None)
IsPlanned g op (Share s) = IsShareOf g op s.plan

abbrev pub HasAnswer : Operation → Type 0
HasAnswer (Move m) = HasOutcome m.phase
HasAnswer operation = Unit {0}

-- the answers to a command whose operation is open: a share that is set up was answered that it is done
abbrev pub answers_to : Operation → List Answer
answers_to (Share s) = if is_set_up s.phase then Done ∷ [] else []
answers_to operation = []

-- a controller whose open operations are the commands that keep others off, by the log, and the numbers of the commands that still wait
pub record IsBusy (g : Given) (ops : OpenOperations) (log : List Note) (waits : List ℕ) : Type 0 where
  pub busy : (op : ℕ) → finite.contains_key ops op ≡ keeps_off g.names g.orders op log
  pub plan : (op : ℕ) (o : Operation) → finite.get ops op ≡ Some o → IsPlanned g op o
  pub outcome : (op : ℕ) (o : Operation) → finite.get ops op ≡ Some o → HasAnswer o
  pub told : (op : ℕ) (o : Operation) → finite.get ops op ≡ Some o → answers_of op log ≡ answers_to o
  pub next : ℕ
  pub rising : Rising next waits
  pub unnoted : (op : ℕ) → next ≤ op → is_noted op log ≡ false
  pub answered : (op : ℕ) → IsAnswered g.names g.orders op log

module _ (g : Given) (ops : OpenOperations) (log : List Note) (waits : List ℕ) (h : IsBusy g ops log waits) where
  -- a command that keeps others off is open, with the filter of its order
  met_by : (filter : Filter) (op : ℕ) (o : Operation) (what : Order) → finite.get ops op ≡ Some o → g.orders op ≡ Some what
      → option_map_or (meets filter) (busy_filter g.names g.orders op log) false ≡ option_map_or (meets filter) (order_filter what) false
  met_by filter op o what is known =
      ap (λ b. option_map_or (meets filter) (if b then option_and_then order_filter (g.orders op) else None) false) (sym (h.busy op) ∙ ap is_some is)
      ∙ ap (λ q. option_map_or (meets filter) (option_and_then order_filter q) false) known

  filter_met : (filter : Filter) (op : ℕ) (o : Option Operation) → finite.get ops op ≡ o
      → option_map_or (meets filter) (busy_filter g.names g.orders op log) false ≡ passes (meets_operation filter) o
  filter_met filter op None is =
      ap (λ b. option_map_or (meets filter) (if b then option_and_then order_filter (g.orders op) else None) false) (sym (h.busy op) ∙ ap is_some is)
  filter_met filter op (Some (Move m)) is =
      let p = h.plan op (Move m) is in met_by filter op (Move m) (Order.Move p.source p.destination m.plan.filter m.plan.keep) is p.order_is
  filter_met filter op (Some (Copy y)) is =
      let p = (h.plan op (Copy y) is).0 in met_by filter op (Copy y) (Order.Copy p.source p.destination y.plan.filter) is p.order_is
  filter_met filter op (Some (Share s)) is = let p = h.plan op (Share s) is in met_by filter op (Share s) (Order.Share p.names s.plan.filter) is p.order_is

  -- the test of the controller is that of the log
  test_same : (fo : Option Filter) (op : ℕ) → option_map_or (λ filter. passes (meets_operation filter) (finite.get ops op)) fo false
      ≡ option_map_or (λ filter. option_map_or (meets filter) (busy_filter g.names g.orders op log) false) fo false
  test_same None op = refl
  test_same (Some filter) op = sym (filter_met filter op (finite.get ops op) refl)

  first_by : (fo : Option Filter)
      → IsFirstOf (option_and_then (lowest_meeting ops) fo) (λ op. option_map_or (λ filter. passes (meets_operation filter) (finite.get ops op)) fo false)
  first_by None = λ op. refl
  first_by (Some filter) = found_is ops (meets_operation filter) (find (λ e. meets_operation filter e.1) (finite.entries ops)) refl

  -- what a refusal says, or that there is none
  abbrev pub Causes : Order → Option Answer → Type 0
  Causes what None = MayBegin g.names g.orders what log
  Causes what (Some a) = IsCauseIn g.names g.orders a what log

  by_finds : (what : Order) (u : Option (List ℕ)) (q : Option ℕ) → unknown_in g.names what ≡ u
      → IsFirstOf q (λ op. option_map_or (λ filter. passes (meets_operation filter) (finite.get ops op)) (order_filter what) false)
      → Causes what (option_or (option_map Unknown u) (option_map Overlap q))
  by_finds what (Some name) q known first = known
  by_finds what None None known first = record { known = known; apart = λ op. sym (test_same (order_filter what) op) ∙ first op }
  by_finds what None (Some d) known first = (
    known,
    record { picked = sym (test_same (order_filter what) d) ∙ first.0; lowest = λ k small. sym (test_same (order_filter what) k) ∙ first.1 k small },
  )

pub refusal_is : (g : Given) (c : ControllerState) (log : List Note) (waits : List ℕ) → c.names ≡ g.names → (h : IsBusy g c.operations log waits)
    → (what : Order) → Causes g c.operations log waits h what (refusal c what)
refusal_is g c log waits names h what = by_finds g c.operations log waits h what (unknown_name c what) (overlap c what)
    (ap (λ ns. unknown_in ns what) (sym names)) (first_by g c.operations log waits h (order_filter what))
