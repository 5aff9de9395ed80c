-- What holds in each case of a message holds of what the controller does with it: its operation is a share or isn't, a share takes the packet or
-- none does, the instance that sent it is known or isn't, a command is open already, is refused, or begins.
use Rattle.nf_net.proofs.Words.{◌≡◌, ℕ, Bool, true, false, Option, Some, None, List, [], ◌∷◌, ◌++◌, refl, sym, subst, if◌then◌else◌, is_some, slice_set}
use Rattle.nf_net.proofs.Words.{filter_map, Filter, place_of, Answer, Order, Operation, may_finish, step_and_finish, refusal, move_between, copy_between}
use Rattle.nf_net.proofs.Words.{share_begin, begin_step, decision_step, on_asked, FullCell, Msg, switch_node, ShareState, Share, turn_of, ControllerState}
use Rattle.nf_net.proofs.Words.{on_diverted, queue_step, takes_turn, hand_step, on_final, NotShared, handed_is, shared_or_not, split}
use Rattle.ctrl_node.specs.Controller.{answers, Step, still, on_event}
use Rattle.std.specs.FinMap as finite
use Rattle.event_filter.specs.declared.mark.Mark.TheVariants.{Pass}
use Rattle.nf_net.proofs.answers.ShareTells.{Queues, Queues_none, Queues_at, queues, ShareStep, handed_share, queued_share}

-- the step in which an operation begins by its order
pub data OpensBy (c : ControllerState) (op : ℕ) : Order → Step → Type 0 where
  Opens_move : {source destination : List ℕ} {filter : Filter} {keep : Bool} (from to : ℕ) → place_of c.names source ≡ Some from
      → place_of c.names destination ≡ Some to → OpensBy c op (Order.Move source destination filter keep) (move_between c op filter keep (Some from) (Some to))
  Opens_copy : {source destination : List ℕ} {filter : Option Filter} (from to : ℕ) → place_of c.names source ≡ Some from
      → place_of c.names destination ≡ Some to → OpensBy c op (Order.Copy source destination filter) (copy_between c op filter (Some from) (Some to))
  Opens_share : {members : List (List ℕ)} {filter : Filter} (home : ℕ) (others : List ℕ)
      → OpensBy c op (Order.Share members filter) (share_begin c op filter (home ∷ others))

module _ (P : Step → Type 0) (c : ControllerState) where
  pub by_operation : (op port : ℕ) (m : Msg)
      → (NotShared (finite.get c.operations op) → P (takes_turn c op (turn_of (finite.get c.operations op) c.store port m)))
      → ((s : ShareState) → finite.get c.operations op ≡ Some (Share s) → P (hand_step c op port m)) → P (hand_step c op port m)
  by_operation op port m other share =
      shared_or_not (finite.get c.operations op) (λ no_share. subst P (sym (handed_is c op port m no_share)) (other no_share)) share

  pub by_queue : (cell : FullCell) → P (still c)
      → ((op : ℕ) (s : ShareState) → finite.get c.operations op ≡ Some (Share s) → P (queue_step c cell (Some op))) → P (on_diverted c cell)
  by_queue cell none share = by_queues (on_diverted c cell) (queues c cell)
    where
      by_queues : (did : Step) → Queues c cell did → P did
      by_queues did (Queues_none e) = subst P (sym e) none
      by_queues did (Queues_at op s is e) = subst P (sym e) (share op s is)

  -- what the steps of shares by their numbers keep, a message that is handed on and a packet of a share keep
  module _ (op_is : (op : ℕ) (s : ShareState) → finite.get c.operations op ≡ Some (Share s) → s.plan.op ≡ op)
      (share : (op : ℕ) (s : ShareState) → finite.get c.operations op ≡ Some (Share s) → (did : Step) → ShareStep c op s did → P did) where
    pub by_handed : (op port : ℕ) (m : Msg)
        → (NotShared (finite.get c.operations op) → P (takes_turn c op (turn_of (finite.get c.operations op) c.store port m))) → P (hand_step c op port m)
    by_handed op port m other = by_operation op port m other (λ s is. share op s is (hand_step c op port m) (handed_share c op s is (op_is op s is) port m))

    pub by_diverted : P (still c) → (cell : FullCell) → P (on_diverted c cell)
    by_diverted none cell = by_queue cell none (λ op s is. share op s is (queue_step c cell (Some op)) (queued_share c op s is (op_is op s is) cell))

  pub by_sender : (port op : ℕ) (cell : FullCell) (i : Option ℕ) → P (still c) → P (hand_step c op port (Msg.Event op cell))
      → ((k : ℕ) → P (record { node = c; sends = (switch_node, Msg.Forward k (Pass op) cell) ∷ []; notes = [] })) → P (on_event c port op cell i)
  by_sender port op cell None none open_it back = none
  by_sender port op cell (Some k) none open_it back = split (finite.contains_key c.operations op)
      (λ b. P (if b then hand_step c op port
      (Msg.Event op cell) else record { node = c; sends = (switch_node, Msg.Forward k (Pass op) cell) ∷ []; notes = [] }))
      (λ _. open_it) (λ _. back k)

  pub by_stop : (i : Option ℕ) → P (still c) → ((k : ℕ) → P (still (record c { stopped = slice_set c.stopped k true }))) → P (on_final c i)
  by_stop None none stopped = none
  by_stop (Some k) none stopped = stopped k

  begun : (op : ℕ) (what : Order) → P (still c) → ((did : Step) → OpensBy c op what did → P did) → P (begin_step c op what)
  begun op (Order.Move source destination filter keep) none opens = between (place_of c.names source) (place_of c.names destination) refl refl
    where
      between : (a b : Option ℕ) → place_of c.names source ≡ a → place_of c.names destination ≡ b → P (move_between c op filter keep a b)
      between (Some from) (Some to) e k = opens (move_between c op filter keep (Some from) (Some to)) (Opens_move from to e k)
      between (Some from) None e k = none
      between None b e k = none
  begun op (Order.Copy source destination filter) none opens = between (place_of c.names source) (place_of c.names destination) refl refl
    where
      between : (a b : Option ℕ) → place_of c.names source ≡ a → place_of c.names destination ≡ b → P (copy_between c op filter a b)
      between (Some from) (Some to) e k = opens (copy_between c op filter (Some from) (Some to)) (Opens_copy from to e k)
      between (Some from) None e k = none
      between None b e k = none
  begun op (Order.Share members filter) none opens = among (filter_map (place_of c.names) members)
    where
      among : (places : List ℕ) → P (share_begin c op filter places)
      among [] = none
      among (home ∷ others) = opens (share_begin c op filter (home ∷ others)) (Opens_share home others)

  pub by_command : (op : ℕ) (what : Order) → P (still c)
      → ((a : Answer) → finite.get c.operations op ≡ None → refusal c what ≡ Some a → P (answers c op a))
      → ((did : Step) → finite.get c.operations op ≡ None → refusal c what ≡ None → OpensBy c op what did → P did)
      → P (on_asked c (record { op = op; what = what }))
  by_command op what none refused opens = by_got (finite.get c.operations op) refl
    where
      decided : finite.get c.operations op ≡ None → (o : Option Answer) → refusal c what ≡ o → P (decision_step c op what o)
      decided new (Some a) is = refused a new is
      decided new None is = begun op what none (λ did by. opens did new is by)

      by_got : (o : Option Operation) → finite.get c.operations op ≡ o → P (if is_some o then still c else decision_step c op what (refusal c what))
      by_got None new = decided new (refusal c what) refl
      by_got (Some x) got = none

  -- the finish may stand behind all else
  pub by_finish : (did : Step)
      → P (record { node = record did.node { finish_sent = true }; sends = did.sends ++ (switch_node, Msg.Finish) ∷ []; notes = did.notes })
      → P (record { node = did.node; sends = did.sends ++ []; notes = did.notes }) → P (step_and_finish did)
  by_finish did told untold = elim (may_finish did.node) as (λ b. P (record {
    node = if b then record did.node { finish_sent = true } else did.node;
    sends = did.sends ++ (if b then (switch_node, Msg.Finish) ∷ [] else []);
    notes = did.notes;
  })) [ true ↦ told | false ↦ untold ]
