-- The controller's step on a command that it refuses, or by which a move or a copy begins.
use Rattle.proof_outlines.proofs.Words.{◌≡◌, ◌≢◌, ℕ, suc, ◌≤◌, Bool, true, false, cond, Option, Some, None, List, [], ◌∷◌, ◌++◌, refl, sym, ap, ◌∙◌, subst}
use Rattle.proof_outlines.proofs.Words.{append-nil, arith, if◌then◌else◌, ◌&&◌, ◌==◌, not, find, option_map, option_or, nat_cmp, eq_by_cmp, bytes_eq, nat_tests}
use Rattle.proof_outlines.proofs.Words.{and_parts, Filter, meets, Semantics, stored_of, Answer, Command, Order, Msg, instance_node, MovePlan, move_at_start}
use Rattle.proof_outlines.proofs.Words.{CopyPlan, Operation, Move, Copy, Share, lowest_meeting, meets_operation, ControllerState, Step, still, refusal}
use Rattle.proof_outlines.proofs.Words.{unknown_name, overlap, answers, move_begin, copy_begin, place_of, EachSent, sent_for, Each, each-append, MoveAsked}
use Rattle.proof_outlines.proofs.Words.{Open, new_op, begin_sends, meets_any, behind, links_after, Rising, AreNumbersApart, Any, Old, New, ShareMsg, ShareAsked}
use Rattle.proof_outlines.proofs.Words.{OpenShare, find_share, WholeWorld, moves_of, as_old, whole_ctrl, begin_move, puts_get, meets_shares, ctrl_every_all}
use Rattle.proof_outlines.proofs.Words.{move_every_all, get_every_all, split}
use Rattle.std.specs.FinMap as finite
use Rattle.copy_share.specs.Copy as copy
use Rattle.proof_machines.proofs.net.Net as net
use Rattle.proof_machines.proofs.net.Units.{May}
use Rattle.proof_outlines.proofs.joined.Words.{is_whole, want_at, want_of, is_sys, got_insert, outline_all, asked_of, want_share_of, is_sharing, OpensAll}
use Rattle.proof_outlines.proofs.joined.Words.{real_share, Given, place, Scene, AreShown, IsTaken, IsController, IsListed, IsMove, IsCopy, Label, S, A, shown}
use Rattle.proof_outlines.proofs.joined.Words.{is_whole_if, is_built, commands, came_by, asked_nums}
use Rattle.proof_outlines.proofs.whole.BeginsAll.{move_begun, copy_begun}
use Rattle.proof_outlines.proofs.joined.ShareBegins.{place_below, places_apart}
use Rattle.proof_outlines.proofs.joined.ControllerScenes.{AreQuiet, RowLeads, Idles, links_by, waits, stays, unseen}
use Rattle.proof_outlines.proofs.joined.ControllerChanges.{NotMove, AreAlike, IsOperation, listed_alike, changed}

-- what no entry passes, no value does
find_none : {X : Type 0} (p : X → Bool) (es : List (ℕ × X)) (k : ℕ) (v : X) → find (λ e. p e.1) es ≡ None → finite.find nat_cmp k es ≡ Some v → p v ≡ false
find_none p [] k v none there = cc
find_none {X = X} p (e ∷ es) k v none there = split (p e.1) (λ b. (if b then Some e else find (λ d. p d.1) es) ≡ None → p v ≡ false) (λ _ bad. cc)
    (λ out more. split (eq_by_cmp nat_cmp k e.0) (λ b. cond b (Some e.1) (finite.find nat_cmp k es) ≡ Some v → p v ≡ false)
    (λ _. λ is. let same : e.1 ≡ v = cc in subst (λ y. p y ≡ false) same out) (λ _. λ is. find_none p es k v more is) there) none

map_none : {X Y : Type 0} (h : X → Y) (o : Option X) → option_map h o ≡ None → o ≡ None
map_none h None e = refl
map_none h (Some x) e = cc

or_none : {X : Type 0} (a b : Option X) → option_or a b ≡ None → (a ≡ None) × (b ≡ None)
or_none None b e = (refl, e)
or_none (Some x) b e = cc

-- where an order isn't refused, its names are known, and no open operation's filter meets its own
pub no_overlap : (c : ControllerState) (what : Order) → refusal c what ≡ None → overlap c what ≡ None
no_overlap c what e =
    map_none Answer.Overlap (overlap c what) (or_none (option_map Answer.Unknown (unknown_name c what)) (option_map Answer.Overlap (overlap c what)) e).1

pub none_unknown : (c : ControllerState) (what : Order) → refusal c what ≡ None → unknown_name c what ≡ None
none_unknown c what e = map_none Answer.Unknown (unknown_name c what)
    (or_none (option_map Answer.Unknown (unknown_name c what)) (option_map Answer.Overlap (overlap c what)) e).0

pub none_meets : (c : ControllerState) (filter : Filter) (k : ℕ) (o : Operation) → lowest_meeting c.operations filter ≡ None
    → finite.get c.operations k ≡ Some o → meets_operation filter o ≡ false
none_meets c filter k o none there = find_none (meets_operation filter) (finite.entries c.operations) k o (map_none (λ entry. entry.0)
    (find (λ entry. meets_operation filter entry.1) (finite.entries c.operations)) none) (sym (finite.get-entries c.operations k) ∙ there)

-- a list of shares of different numbers: each is found by its own
found_each_own : (es : List OpenShare) → AreNumbersApart es → Each (λ e. find_share es e.num ≡ Some e) es
found_each_own [] h = tt
found_each_own (e ∷ es) h = (own, later es h.0 (found_each_own es h.1))
  where
    own : find_share (e ∷ es) e.num ≡ Some e
    own = let self : (e.num == e.num) ≡ true = grind (arith, nat_tests) in rw self refl

    later : (ds : List OpenShare) → Each (λ d. (e.num == d.num) ≡ false) ds → Each (λ d. find_share es d.num ≡ Some d) ds
        → Each (λ d. find_share (e ∷ es) d.num ≡ Some d) ds
    later [] off there = tt
    later (d ∷ ds) off there = (ap (λ b. if b then Some e else find_share es d.num) off.0 ∙ there.0, later ds off.1 there.1)

module _ {R : Type 0} (f : Semantics R) (g : Given) where
  any_meets : (c : ControllerState) (filter : Filter) (es : List (Open R)) → Each (IsListed f g c) es → lowest_meeting c.operations filter ≡ None
      → meets_any (S f g) filter es ≡ false
  any_meets c filter [] h none = refl
  any_meets c filter (e ∷ es) h none =
      let l = h.0 in
      let off : meets filter e.filter ≡ false = ap (meets filter) l.filter ∙ none_meets c filter e.op.num (Move l.move) none l.there in
      rw off (any_meets c filter es h.1 none)

  any_share_meets : (c : ControllerState) (ops : List (Open R)) (shares : List OpenShare) → OpensAll f (place g) g.site ops shares c
      → (filter : Filter) (es : List OpenShare) → Each (λ e. find_share shares e.num ≡ Some e) es → lowest_meeting c.operations filter ≡ None
      → meets_shares (S f g) (A f g) filter es ≡ false
  any_share_meets c ops shares h filter [] found none = refl
  any_share_meets c ops shares h filter (e ∷ es) found none =
      let r = real_share f (place g) g.site ops shares c e.num e h found.0 in
      let off : meets filter e.filter ≡ false = ap (λ y. meets filter y.filter) r.sees.is ∙ none_meets c filter e.num (Share r.s) none r.there in
      rw off (any_share_meets c ops shares h filter es found.1 none)

  -- An operation begins under a number that none has.
  module _ (c : ControllerState) (ops : List (Open R)) (shares : List OpenShare) (next op : ℕ) (is : IsController f g c ops shares next)
      (none : finite.get c.operations op ≡ None) (o : Operation) where
    abbrev begun_at : ControllerState
    begun_at = record c { operations = finite.insert c.operations op o }

    pub got_begun : finite.get begun_at.operations op ≡ Some o
    got_begun = let self : (op == op) ≡ true = grind (arith, nat_tests) in
        got_insert c.operations op op o ∙ ap (λ b. cond b (Some o) (finite.get c.operations op)) self

    begun_alike : AreAlike c begun_at op
    begun_alike = record {
      names = refl;
      site = refl;
      operations = λ k off. got_insert c.operations op k o ∙ ap (λ b. cond b (Some o) (finite.get c.operations k)) off;
      store = λ k off. refl;
    }

    -- moves that were open are
    pub listed_begun : Each (IsListed f g begun_at) ops
    listed_begun = listed_alike f g c begun_at op begun_alike (subst NotMove (sym none) tt) ops is.listed

    pub controller_begun : (after : ℕ) → next ≤ after → IsOperation f g op (Some o) [] → (new : List (Open R)) (others : List OpenShare)
        → OpensAll f (place g) g.site new others begun_at → Each (IsListed f g begun_at) new → IsController f g begun_at new others after
    controller_begun after grows own new others opens listed =
        let empty : stored_of c.store op ≡ [] = is.emptied op none in
        changed f g c begun_at ops shares next after op is begun_alike grows
        (subst (λ p. IsOperation f g op p (stored_of c.store op)) (sym got_begun) (subst (IsOperation f g op (Some o)) (sym empty) own))
        (λ _. empty) new others opens listed

-- a command's number, and those of commands that wait behind it, are new
pub record IsNext {F R : Type 0} (f : Semantics R) (g : Given) (x : Scene F f g) (cmd : Command) : Type 0 where
  pub fresh : x.world.next ≤ cmd.op
  pub later : Rising (suc cmd.op) (asked_nums (x.world.link 0 1) ++ commands f g x.input)

-- what the step on a message needs beside the world: where a copy is asked for, that its number and those behind it are new
abbrev pub OrderNext : {F R : Type 0} (f : Semantics R) (g : Given) → Scene F f g → Command → Order → Type 0
OrderNext f g x cmd (Order.Copy src dst filter) = IsNext f g x cmd
OrderNext f g x cmd what = Unit {0}

abbrev pub CopiesNext : {F R : Type 0} (f : Semantics R) (g : Given) → Scene F f g → Msg → Type 0
CopiesNext f g x (Msg.Asked cmd) = OrderNext f g x cmd cmd.what
CopiesNext f g x m = Unit {0}

-- The step on a command.
module _ {F R : Type 0} (f : Semantics R) (g : Given) (n : ℕ) (x : Scene F f g) (p : ℕ) (cmd : Command) (are : AreShown f g n x)
    (is : IsTaken f g n x (record { node = 1; port = p; message = Msg.Asked cmd })) where
  abbrev c : ControllerState
  c = x.nodes.controller

  abbrev pub Leads_to : Step → Type 0
  Leads_to did = RowLeads f g x p (Msg.Asked cmd) did

  abbrev Stays : Any R → Type 0
  Stays a = Idles f g n x p (Msg.Asked cmd) are is a

  -- what the abstract controller does with it: nothing yet
  old_idle : (o : Option MoveAsked) (a : Any R) → option_map (λ w. Old (net.Asked w)) o ≡ Some a → Stays a
  old_idle None a e = cc
  old_idle (Some w) a e = let same : Old (net.Asked w) ≡ a = cc in subst Stays same refl

  new_idle : (o : Option ShareAsked) (a : Any R) → option_map (λ w. New (ShareMsg.Asked w)) o ≡ Some a → Stays a
  new_idle None a e = cc
  new_idle (Some w) a e = let same : New (ShareMsg.Asked w) ≡ a = cc in subst Stays same refl

  asked_idle : (what : Order) (a : Any R) → asked_of f (place g) cmd.op what ≡ Some a → Stays a
  asked_idle (Order.Share members filter) a e = new_idle (want_share_of (place g) cmd.op (Order.Share members filter)) a e
  asked_idle what a e = old_idle (want_of (place g) cmd.op what) a e

  pub stays_still : Leads_to (still c)
  stays_still = stays f g n x p (Msg.Asked cmd) are is (still c) refl refl refl refl refl tt
      (record { arrived_is = refl; done_is = refl; installed_is = refl }) (asked_idle cmd.what)

  pub answered : (why : Answer) → Leads_to (answers c cmd.op why)
  answered why = stays f g n x p (Msg.Asked cmd) are is (answers c cmd.op why) refl refl refl refl refl ((refl, refl), tt)
      (record { arrived_is = refl; done_is = refl; installed_is = refl }) (asked_idle cmd.what)

  -- the place of a name at the controller is that in a run
  pub placed : (name : List ℕ) (i : ℕ) → place_of c.names name ≡ Some i → place g name ≡ Some i
  placed name i at = ap (λ names. place_of names name) (sym are.controller.names) ∙ at

  -- no open share's filter meets this one, and no open move's
  pub shares_apart : (filter : Filter) → lowest_meeting c.operations filter ≡ None → meets_shares (S f g) (A f g) filter x.world.shares ≡ false
  shares_apart filter none = any_share_meets f g c x.world.ops x.world.shares are.controller.opens filter x.world.shares
      (found_each_own x.world.shares are.every.global.nums_apart) none

  pub moves_apart : (filter : Filter) → lowest_meeting c.operations filter ≡ None → meets_any (S f g) filter x.world.ops ≡ false
  moves_apart filter none = any_meets f g c filter x.world.ops are.controller.listed none

  -- it is taken from the link
  pub comes : (a : Any R) → shown f g (Msg.Asked cmd) ≡ Some a → x.world.link 0 1 ≡ a ∷ is.rest
  comes a seen = ap (λ k. x.world.link k 1) (sym is.label.0) ∙ waits f g n x p (Msg.Asked cmd) are is a seen

  pub rises : (a : Any R) → shown f g (Msg.Asked cmd) ≡ Some a → Rising x.world.next (asked_nums (a ∷ is.rest) ++ commands f g x.input)
  rises a seen = subst (λ l. Rising x.world.next (asked_nums l ++ commands f g x.input)) (comes a seen) are.rising

  -- the link behind it, where nothing is sent to the controller
  pub link_left : (a : Any R) → shown f g (Msg.Asked cmd) ≡ Some a → links_after x.world.link p 1 [] 0 1 ++ [] ≡ is.rest
  link_left a seen =
      let port : p ≡ 0 = is.label.0 in
      let on : (0 == p) && (1 == 1) ≡ true = grind (arith, nat_tests, port) in
      append-nil (links_after x.world.link p 1 [] 0 1) ∙ append-nil (behind ((0 == p) && (1 == 1)) (x.world.link 0 1))
      ∙ ap (λ b. behind b (x.world.link 0 1)) on ∙ ap (behind true) (comes a seen)

  pub link_same : (b : Bool) (xs ys : List (Any R)) → (xs ++ (if b then [] else [])) ++ ys ≡ xs ++ ys
  link_same true xs ys = ap (λ zs. zs ++ ys) (append-nil xs)
  link_same false xs ys = ap (λ zs. zs ++ ys) (append-nil xs)

  -- A move begins.
  module _ (src dst : List ℕ) (filter : Filter) (keep : Bool) (from to : ℕ) (what : cmd.what ≡ Order.Move src dst filter keep)
      (none : finite.get c.operations cmd.op ≡ None) (apart : lowest_meeting c.operations filter ≡ None) (from_is : place_of c.names src ≡ Some from)
      (to_is : place_of c.names dst ≡ Some to) where
    abbrev plan : MovePlan
    plan = record { op = cmd.op; from = from; to = to; filter = filter; keep = keep }

    abbrev its : MoveAsked
    its = record { num = cmd.op; src = instance_node from; dst = instance_node to; keep = keep; filter = filter }

    abbrev its_message : Any R
    its_message = Old (net.Asked its)

    from_at : place g src ≡ Some from
    from_at = placed src from from_is

    to_at : place g dst ≡ Some to
    to_at = placed dst to to_is

    is_moved : is_whole f.kind filter && not (bytes_eq src dst) ≡ true
    is_moved = ap (is_built f g) (sym what) ∙ is.label.2.built

    differ : from ≢ to
    differ = places_apart g.names src dst from to from_at to_at (and_parts (is_whole f.kind filter) _ is_moved).1

    seen : shown f g (Msg.Asked cmd) ≡ Some its_message
    seen = ap (asked_of f (place g) cmd.op) what ∙ ap (λ o. option_map (λ w. Old (net.Asked w)) (want_at cmd.op filter keep o (place g dst))) from_at
        ∙ ap (λ o. option_map (λ w. Old (net.Asked w)) (want_at cmd.op filter keep (Some from) o)) to_at

    move : IsMove f g cmd.op (move_at_start plan)
    move = record {
      op_is = refl;
      from = place_below g.names src from from_at;
      to = place_below g.names dst to to_at;
      other = differ;
      whole = (and_parts (is_whole f.kind filter) _ is_moved).0;
      plan = record { source = src; destination = dst; order_is = is.label.2.known ∙ ap Some what; from_is = from_at; to_is = to_at };
      refusing = tt;
      pieces = tt;
    }

    -- first the command is taken, and then the move begins
    abbrev asked : WholeWorld (S f g) (A f g)
    asked = whole_ctrl (S f g) (A f g) x.world p its_message

    abbrev after : WholeWorld (S f g) (A f g)
    after = begin_move (S f g) (A f g) asked its

    fresh : x.world.next ≤ cmd.op
    fresh = (rises its_message seen).0

    may : May (S f g) (moves_of (S f g) (A f g) asked) its
    may = record { fresh = fresh; src = omega arith; dst = omega arith; other = λ e. differ (omega (arith, e)); apart = moves_apart filter apart }

    controller_moves : IsController f g (move_begin c plan).node after.ops after.shares (suc cmd.op)
    controller_moves =
        let opens = (move_begun f g.site g.packet (place g) c x.world.ops x.world.shares are.controller.opens cmd.op none
        (are.controller.emptied cmd.op none) plan refl).opens in
        let listed = each-append (IsListed f g (move_begin c plan).node) x.world.ops (new_op cmd.op its ∷ [])
        (listed_begun f g c x.world.ops x.world.shares x.world.next cmd.op are.controller none (Move (move_at_start plan))) (
          record {
            move = move_at_start plan;
            there = got_begun f g c x.world.ops x.world.shares x.world.next cmd.op are.controller none (Move (move_at_start plan));
            filter = refl;
          },
          tt,
        ) in
        controller_begun f g c x.world.ops x.world.shares x.world.next cmd.op are.controller none (Move (move_at_start plan)) (suc cmd.op)
        (let low = fresh in omega (arith, low)) (record { kind = (move, refl); genuine = tt }) after.ops after.shares opens listed

    pub move_begins : Leads_to (move_begin c plan)
    move_begins = record {
      ops = after.ops;
      shares = after.shares;
      next = after.next;
      link = after.link;
      links =
          λ i j. link_same (i == 1) (behind ((i == p) && (j == 1)) (x.world.link i j)) (if i == 1 then sent_for j (as_old (begin_sends cmd.op its)) else [])
          ∙ sym (ap (λ o. links_by f g o x.world.link p (outline_all f (place g) (move_begin c plan).sends) i j) seen);
      labels = (((refl, omega arith), move.whole, refl), tt);
      grows = λ low. omega arith;
      controller = controller_moves;
      quiet = record { arrived_is = refl; done_is = refl; installed_is = refl };
      every = move_every_all (S f g) (A f g) (is_sys f g.site g.packet) asked (came_by f g x.log)
          (ctrl_every_all (S f g) (A f g) (is_sys f g.site g.packet) (is_sharing f g.site g.packet) x.world (came_by f g x.log) are.every p its_message
          is.rest (waits f g n x p (Msg.Asked cmd) are is its_message seen)) its may (shares_apart filter apart);
      rising = subst (λ l. Rising (suc cmd.op) (asked_nums l ++ commands f g x.input)) (sym (link_left its_message seen)) (rises its_message seen).1;
    }

  -- A copy begins: of what a filter takes, or of all.
  module _ (src dst : List ℕ) (filter : Option Filter) (from to : ℕ) (what : cmd.what ≡ Order.Copy src dst filter) (none : finite.get c.operations cmd.op
      ≡ None) (from_is : place_of c.names src ≡ Some from) (to_is : place_of c.names dst ≡ Some to) (next : IsNext f g x cmd) where
    abbrev copy_plan : CopyPlan
    copy_plan = record { op = cmd.op; from = from; to = to; filter = filter }

    source_at : place g src ≡ Some from
    source_at = placed src from from_is

    destination_at : place g dst ≡ Some to
    destination_at = placed dst to to_is

    is_copied : is_whole_if f g filter && not (bytes_eq src dst) ≡ true
    is_copied = ap (is_built f g) (sym what) ∙ is.label.2.built

    hidden : shown f g (Msg.Asked cmd) ≡ None
    hidden = ap (asked_of f (place g) cmd.op) what

    copy_is : IsCopy f g cmd.op (copy.copy_at_start copy_plan)
    copy_is = record {
      op_is = refl;
      from = place_below g.names src from source_at;
      to = place_below g.names dst to destination_at;
      other = places_apart g.names src dst from to source_at destination_at (and_parts (is_whole_if f g filter) _ is_copied).1;
      whole = (and_parts (is_whole_if f g filter) _ is_copied).0;
      plan = record { source = src; destination = dst; order_is = is.label.2.known ∙ ap Some what; from_is = source_at; to_is = destination_at };
      going = refl;
    }

    opens_copied : OpensAll f (place g) g.site x.world.ops x.world.shares (copy_begin c copy_plan).node
    opens_copied = (copy_begun f g.site g.packet (place g) c x.world.ops x.world.shares are.controller.opens cmd.op none
        (are.controller.emptied cmd.op none) copy_plan refl).opens

    controller_copies : (after : ℕ) → x.world.next ≤ after → IsController f g (copy_begin c copy_plan).node x.world.ops x.world.shares after
    controller_copies after grows = controller_begun f g c x.world.ops x.world.shares x.world.next cmd.op are.controller none
        (Copy (copy.copy_at_start copy_plan)) after grows (record { kind = (copy_is, refl); genuine = tt }) x.world.ops x.world.shares opens_copied
        (listed_begun f g c x.world.ops x.world.shares x.world.next cmd.op are.controller none (Copy (copy.copy_at_start copy_plan)))

    quiet : AreQuiet (copy_begin c copy_plan).notes
    quiet = record { arrived_is = refl; done_is = refl; installed_is = refl }

    all_begins : filter ≡ None → Leads_to (copy_begin c copy_plan)
    all_begins e = unseen f g n x p (Msg.Asked cmd) are is (copy_begin c copy_plan) hidden (controller_copies x.world.next (omega arith)) sends label quiet
      where
        sends : outline_all f (place g) (copy_begin c copy_plan).sends ≡ []
        sends = rw e refl

        label : EachSent (Label f g) 1 (copy_begin c copy_plan).sends
        label = rw e ((refl, omega arith), tt)

    some_begins : (flt : Filter) → filter ≡ Some flt → Leads_to (copy_begin c copy_plan)
    some_begins flt e = record {
      ops = x.world.ops;
      shares = x.world.shares;
      next = suc cmd.op;
      link = (puts_get (S f g) (A f g) x.world cmd.op flt (instance_node from)).link;
      links = λ i j. ap (λ xs. x.world.link i j ++ (if i == 1 then sent_for j xs else [])) (sym sends)
          ∙ sym (ap (λ o. links_by f g o x.world.link p (outline_all f (place g) (copy_begin c copy_plan).sends) i j) hidden);
      labels = label;
      grows = λ low. omega arith;
      controller = controller_copies (suc cmd.op) (let low = next.fresh in omega (arith, low));
      quiet = quiet;
      every = get_every_all (S f g) (A f g) (is_sys f g.site g.packet) x.world (came_by f g x.log) are.every cmd.op flt (instance_node from) next.fresh;
      rising = subst (λ l. Rising (suc cmd.op) (asked_nums l ++ commands f g x.input)) (sym (append-nil (x.world.link 0 1))) next.later;
    }
      where
        sends : outline_all f (place g) (copy_begin c copy_plan).sends ≡ (instance_node from, New (ShareMsg.Get cmd.op flt)) ∷ []
        sends = rw e refl

        is_whole_one : is_whole f.kind flt ≡ true
        is_whole_one = ap (is_whole_if f g) (sym e) ∙ copy_is.whole

        label : EachSent (Label f g) 1 (copy_begin c copy_plan).sends
        label = rw e (((refl, omega arith), is_whole_one), tt)

    pub copy_begins : Leads_to (copy_begin c copy_plan)
    copy_begins = by_filter filter refl
      where
        by_filter : (o : Option Filter) → filter ≡ o → Leads_to (copy_begin c copy_plan)
        by_filter None e = all_begins e
        by_filter (Some flt) e = some_begins flt e
