-- No two open operations of the controller have filters that meet: each message keeps that, since an order whose filter meets one is refused.
use Rattle.proof_outlines.proofs.Words.{◌≡◌, ℕ, Bool, true, false, cond, ◌⊎◌, inl, inr, Option, Some, None, List, [], ◌∷◌, ◌++◌, refl, sym, ◌∙◌, subst, arith}
use Rattle.proof_outlines.proofs.Words.{◌==◌, filter_map, option_and_then, nat_tests, Decides-eqb, Filter, meets, flow_of, FullCell, stored_of, with_parcels}
use Rattle.proof_outlines.proofs.Words.{Store, Answer, Command, Order, Msg, Operation, Move, Copy, Share, OpenOperations, filter_of, lowest_meeting}
use Rattle.proof_outlines.proofs.Words.{meets_operation, lasts, Turn, turn_of, serving_of, share_of, with_operation, place_of, ControllerState, controller_step}
use Rattle.proof_outlines.proofs.Words.{split, by_if}
use Rattle.std.specs.FinMap as finite
use Rattle.ctrl_node.specs.Controller as ctrl
use Rattle.proof_outlines.proofs.joined.Words.{row_by, got_insert, got_remove}
use Rattle.proof_outlines.proofs.joined.ControllerBegins.{no_overlap, none_meets}

-- two filters don't meet, if both are there
abbrev pub AreApart : Option Filter → Option Filter → Type 0
AreApart (Some a) (Some b) = (meets a b ≡ false) ⊎ (meets b a ≡ false)
AreApart a b = Unit {0}

apart_swap : (a b : Option Filter) → AreApart a b → AreApart b a
apart_swap None (Some b) h = tt
apart_swap (Some a) (Some b) (inl h) = inr h
apart_swap (Some a) (Some b) (inr h) = inl h
apart_swap o None h = tt

-- the filters of what stands under different numbers
abbrev pub AllApart : OpenOperations → Type 0
AllApart ops = (k l : ℕ) (a b : Operation) → (k == l) ≡ false → finite.get ops k ≡ Some a → finite.get ops l ≡ Some b → AreApart (filter_of a) (filter_of b)

pub none_apart : AllApart finite.empty
none_apart k l a b off here there = let none : None ≡ Some a = sym (finite.get-empty _ k) ∙ here in cc

-- What stands under a number stood there with its filter before, or nothing stands there.
abbrev Same : Option Operation → Option Operation → Type 0
Same o None = Unit {0}
Same None (Some b) = ⊥
Same (Some a) (Some b) = filter_of a ≡ filter_of b

same_refl : (o : Option Operation) → Same o o
same_refl None = tt
same_refl (Some a) = refl

same_trans : (o p q : Option Operation) → Same o p → Same p q → Same o q
same_trans o p None a b = tt
same_trans o None (Some z) a b = absurd b
same_trans None (Some y) (Some z) a b = absurd a
same_trans (Some x) (Some y) (Some z) a b = a ∙ b

abbrev Stay : OpenOperations → OpenOperations → Type 0
Stay xs ys = (k : ℕ) → Same (finite.get xs k) (finite.get ys k)

stay_trans : (xs ys zs : OpenOperations) → Stay xs ys → Stay ys zs → Stay xs zs
stay_trans xs ys zs a b k = same_trans (finite.get xs k) (finite.get ys k) (finite.get zs k) (a k) (b k)

-- so what was apart is
record WasThere (xs : OpenOperations) (k : ℕ) (b : Operation) : Type 0 where
  before : Operation
  there : finite.get xs k ≡ Some before
  filter : filter_of before ≡ filter_of b

was_there : (xs : OpenOperations) (k : ℕ) (b : Operation) → Same (finite.get xs k) (Some b) → WasThere xs k b
was_there xs k b same = by_got (finite.get xs k) refl same
  where
    by_got : (o : Option Operation) → finite.get xs k ≡ o → Same o (Some b) → WasThere xs k b
    by_got None e h = absurd h
    by_got (Some a) e h = record { before = a; there = e; filter = h }

stay_apart : (xs ys : OpenOperations) → Stay xs ys → AllApart xs → AllApart ys
stay_apart xs ys stay apart k l a b off here there =
    let x = was_there xs k a (subst (λ o. Same (finite.get xs k) o) here (stay k)) in
    let y = was_there xs l b (subst (λ o. Same (finite.get xs l) o) there (stay l)) in
    subst (λ p. AreApart p (filter_of b)) x.filter (subst (λ q. AreApart (filter_of x.before) q) y.filter (apart k l x.before y.before off x.there y.there))

-- an operation is written, or closed
with_stays : (xs : OpenOperations) (op : ℕ) (o : Option Operation) → Same (finite.get xs op) o → Stay xs (with_operation xs op o)
with_stays xs op None h k = same_refl (finite.get xs k)
with_stays xs op (Some b) h k = subst (λ o. Same (finite.get xs k) o) (sym (got_insert xs op k b))
    (split (k == op) (λ t. Same (finite.get xs k) (cond t (Some b) (finite.get xs k)))
    (λ on. subst (λ y. Same (finite.get xs y) (Some b)) (sym ((Decides-eqb k op).0 on)) h)
    (λ off. same_refl (finite.get xs k)))

remove_stays : (xs : OpenOperations) (op : ℕ) → Stay xs (finite.remove xs op)
remove_stays xs op k = subst (λ o. Same (finite.get xs k) o) (sym (got_remove xs op k))
    (elim (k == op) as (λ t. Same (finite.get xs k) (cond t None (finite.get xs k))) [ true ↦ tt | false ↦ same_refl (finite.get xs k) ])

turn_same : (o : Option Operation) (store : Store) (port : ℕ) (m : Msg) → Same o (turn_of o store port m).operation
turn_same None store port m = tt
turn_same (Some (Move mv)) store port m = refl
turn_same (Some (Copy y)) store port m = refl
turn_same (Some (Share s)) store port m = refl

serving_same : (o : Option Operation) (store : Store) → Same o (serving_of o store).operation
serving_same None store = tt
serving_same (Some (Move mv)) store = tt
serving_same (Some (Copy y)) store = tt
serving_same (Some (Share s)) store = refl

-- What a step leaves.
module _ (c : ControllerState) where
  abbrev LeavesSo : ControllerState → Type 0
  LeavesSo d = Stay c.operations d.operations

  after_stays : (op : ℕ) (t : Turn) (o : Option Answer) → Same (finite.get c.operations op) t.operation → LeavesSo (ctrl.after_turn c op t o).node
  after_stays op t None h = with_stays c.operations op t.operation h
  after_stays op t (Some why) h =
      by_if LeavesSo (lasts t.operation) (with_stays c.operations op t.operation h)
      (stay_trans c.operations (ctrl.with_turn c op t).operations _ (with_stays c.operations op t.operation h)
      (remove_stays (ctrl.with_turn c op t).operations op))

  serves_stays : (op : ℕ) → LeavesSo (ctrl.serve_step c op).node
  serves_stays op = with_stays c.operations op (serving_of (finite.get c.operations op) c.store).operation (serving_same (finite.get c.operations op) c.store)

module _ (c : ControllerState) (port : ℕ) where
  handed_stays : (op : ℕ) (m : Msg) → Stay c.operations (ctrl.hand_step c op port m).node.operations
  handed_stays op m =
      let t = turn_of (finite.get c.operations op) c.store port m in
      let did = ctrl.takes_turn c op t in
      stay_trans c.operations did.node.operations _ (after_stays c op t t.answer (turn_same (finite.get c.operations op) c.store port m))
      (serves_stays did.node op)

  -- an operation begins under a number that none has
  begun_apart : (op : ℕ) (o : Operation) → finite.get c.operations op ≡ None → option_and_then (lowest_meeting c.operations) (filter_of o) ≡ None
      → AllApart c.operations → AllApart (finite.insert c.operations op o)
  begun_apart op o free none apart k l a b off here there =
      by_tests (k == op) (l == op) refl refl (sym (got_insert c.operations op k o) ∙ here) (sym (got_insert c.operations op l o) ∙ there)
    where
      from_new : (i : ℕ) (x : Operation) → finite.get c.operations i ≡ Some x → AreApart (filter_of o) (filter_of x)
      from_new i x at = by_filters (filter_of o) (filter_of x) refl none
        where
          by_filters : (p q : Option Filter) → filter_of x ≡ q → option_and_then (lowest_meeting c.operations) p ≡ None → AreApart p q
          by_filters None q e low = tt
          by_filters (Some p) None e low = tt
          by_filters (Some p) (Some q) e low =
              inl (let out : meets_operation p x ≡ false = none_meets c p i x low at in let test : meets p q ≡ false = rw e at out in test)

      by_tests : (s t : Bool) → (k == op) ≡ s → (l == op) ≡ t → cond s (Some o) (finite.get c.operations k) ≡ Some a
          → cond t (Some o) (finite.get c.operations l) ≡ Some b → AreApart (filter_of a) (filter_of b)
      by_tests true true on too x y = let never : (k == l) ≡ true = grind (arith, nat_tests, on, too) in let bad : true ≡ false = sym never ∙ off in cc
      by_tests true false on too x y = let same : o ≡ a = cc in subst (λ z. AreApart (filter_of z) (filter_of b)) same (from_new l b y)
      by_tests false true on too x y =
          let same : o ≡ b = cc in subst (λ z. AreApart (filter_of a) (filter_of z)) same (apart_swap (filter_of o) (filter_of a) (from_new k a x))
      by_tests false false on too x y = apart k l a b off x y

  abbrev KeepsSo : ControllerState → Type 0
  KeepsSo d = AllApart c.operations → AllApart d.operations

  stays_so : (d : ControllerState) → Stay c.operations d.operations → KeepsSo d
  stays_so d stay apart = stay_apart c.operations d.operations stay apart

  moves_apart : (op : ℕ) (filter : Filter) (keep : Bool) (from to : Option ℕ) → finite.get c.operations op ≡ None
      → lowest_meeting c.operations filter ≡ None → KeepsSo (ctrl.move_between c op filter keep from to).node
  moves_apart op filter keep (Some from) (Some to) free none apart = begun_apart op _ free none apart
  moves_apart op filter keep (Some from) None free none apart = apart
  moves_apart op filter keep None to free none apart = apart

  copies_apart : (op : ℕ) (filter : Option Filter) (from to : Option ℕ) → finite.get c.operations op ≡ None
      → option_and_then (lowest_meeting c.operations) filter ≡ None → KeepsSo (ctrl.copy_between c op filter from to).node
  copies_apart op filter (Some from) (Some to) free none apart = begun_apart op _ free none apart
  copies_apart op filter (Some from) None free none apart = apart
  copies_apart op filter None to free none apart = apart

  shares_apart : (op : ℕ) (filter : Filter) (members : List ℕ) → finite.get c.operations op ≡ None → lowest_meeting c.operations filter ≡ None
      → KeepsSo (ctrl.share_begin c op filter members).node
  shares_apart op filter [] free none apart = apart
  shares_apart op filter (member ∷ members) free none apart = begun_apart op _ free none apart

  begins_apart : (op : ℕ) (what : Order) → finite.get c.operations op ≡ None → ctrl.overlap c what ≡ None → KeepsSo (ctrl.begin_step c op what).node
  begins_apart op (Order.Move source destination filter keep) free none =
      moves_apart op filter keep (place_of c.names source) (place_of c.names destination) free none
  begins_apart op (Order.Copy source destination filter) free none = copies_apart op filter (place_of c.names source) (place_of c.names destination) free none
  begins_apart op (Order.Share members filter) free none = shares_apart op filter (filter_map (place_of c.names) members) free none

  decided_apart : (op : ℕ) (what : Order) (o : Option Answer) → ctrl.refusal c what ≡ o → finite.get c.operations op ≡ None
      → KeepsSo (ctrl.decision_step c op what o).node
  decided_apart op what (Some why) e free = λ apart. apart
  decided_apart op what None e free = begins_apart op what free (no_overlap c what e)

  asked_apart : (k : Command) → KeepsSo (ctrl.on_asked c k).node
  asked_apart k = by_got (finite.get c.operations k.op) refl
    where
      by_got : (o : Option Operation) → finite.get c.operations k.op ≡ o → KeepsSo (ctrl.on_asked c k).node
      by_got (Some a) e = rw (known a e) (λ apart. apart)
        where
          known : (x : Operation) → finite.get c.operations k.op ≡ Some x → finite.contains_key c.operations k.op ≡ true
          known x is = rw is refl
      by_got None e = rw (unknown e) (decided_apart k.op k.what (ctrl.refusal c k.what) refl e)
        where
          unknown : finite.get c.operations k.op ≡ None → finite.contains_key c.operations k.op ≡ false
          unknown is = rw is refl

  queued_apart : (cell : FullCell) (o : Option ℕ) → KeepsSo (ctrl.queue_step c cell o).node
  queued_apart cell None = λ apart. apart
  queued_apart cell (Some op) =
      stays_so (ctrl.queue_step c cell (Some op)).node (serves_stays (record c { store = with_parcels c.store op (stored_of c.store op ++ cell ∷ []) }) op)

  row_apart : (m : Msg) → KeepsSo (ctrl.row c port m).node
  row_apart = row_by c port (λ _ did. KeepsSo did.node) (record {
    still = λ m apart. apart;
    ended = λ apart. apart;
    stopped = λ i apart. apart;
    returned = λ op i cell apart. apart;
    handed = λ op m its. stays_so (ctrl.hand_step c op port m).node (handed_stays op m);
    diverted = λ cell. queued_apart cell (share_of c.operations (flow_of c.site cell.packet).0);
    asked = λ k. asked_apart k;
  })

  -- what is apart stays apart with a message
  pub controller_apart : (m : Msg) → AllApart c.operations → AllApart (controller_step c port m).node.operations
  controller_apart m apart = by_if (λ (r : ControllerState). AllApart r.operations) (ctrl.may_finish (ctrl.row c port m).node) (row_apart m apart)
      (row_apart m apart)
