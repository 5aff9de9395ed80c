-- The controller's step on each command: it is refused, or its share, move or copy begins.
use Rattle.proof_outlines.proofs.Words.{◌≡◌, ℕ, suc, ◌<◌, ◌≤◌, true, false, not, Option, Some, None, List, [], ◌∷◌, ◌++◌, length, refl, sym, ap, ◌∙◌, subst}
use Rattle.proof_outlines.proofs.Words.{arith, if◌then◌else◌, ◌&&◌, ◌==◌, nat_lt, is_some, option_map, filter_map, nat_tests, Decides-ltb, and_parts, not-true}
use Rattle.proof_outlines.proofs.Words.{Filter, Semantics, Answer, Command, Order, switch_node, instance_node, SharePlan, Operation, Share, lowest_meeting}
use Rattle.proof_outlines.proofs.Words.{ControllerState, Step, still, refusal, move_between, copy_between, share_begin, begin_step, decision_step, on_asked}
use Rattle.proof_outlines.proofs.Words.{has_twice, place_of, sent_for, Each, behind, Rising, Any, New, ShareMsg, ShareAsked, new_share, WholeWorld, whole_ctrl}
use Rattle.proof_outlines.proofs.Words.{begin_share, MayShare, ctrl_every_all, share_every_all, by_if, Msg, IsDistinct}
use Rattle.std.specs.FinMap as finite
use Rattle.copy_share.specs.Share as share
use Rattle.proof_outlines.proofs.joined.Words.{is_whole, is_sys, outline_all, asked_of, with_member, members_of, share_between, want_share_of, is_sharing}
use Rattle.proof_outlines.proofs.joined.Words.{members_long, members_are, members_apart, StepFollows, Given, place, Scene, AreShown, IsTaken, IsController}
use Rattle.proof_outlines.proofs.joined.Words.{IsShare, S, A, count, shown, is_built, commands, came_by, asked_nums}
use Rattle.proof_outlines.proofs.whole.BeginsAll.{share_begun}
use Rattle.proof_outlines.proofs.joined.ShareBegins.{place_tells, names_distinct, few_placed, all_apart, FirstKnown, first_known, unknown}
use Rattle.proof_outlines.proofs.joined.ControllerScenes.{links_by, waits}
use Rattle.proof_outlines.proofs.joined.ControllerBegins.{no_overlap, none_unknown, controller_begun, listed_begun, OrderNext, Leads_to, stays_still, answered}
use Rattle.proof_outlines.proofs.joined.ControllerBegins.{shares_apart, moves_apart, rises, link_left, link_same, move_begins, copy_begins}

module _ {F R : Type 0} (f : Semantics R) (g : Given) (n : ℕ) (x : Scene F f g) (p : ℕ) (cmd : Command) (are : AreShown f g n x)
    (is : IsTaken f g n x (record { node = 1; port = p; message = Msg.Asked cmd })) where
  abbrev c : ControllerState
  c = x.nodes.controller

  abbrev Leads : Step → Type 0
  Leads did = Leads_to f g n x p cmd are is did

  -- A share begins between the instances with these names.
  module _ (name : List ℕ) (others : List (List ℕ)) (filter : Filter) (what : cmd.what ≡ Order.Share (name ∷ others) filter)
      (none : finite.get c.operations cmd.op ≡ None) (fine : refusal c (Order.Share (name ∷ others) filter) ≡ None) where
    apart : lowest_meeting c.operations filter ≡ None
    apart = no_overlap c (Order.Share (name ∷ others) filter) fine

    known : FirstKnown g.names name others
    known = first_known g.names name others
        (subst (λ names. unknown names (name ∷ others) ≡ None) are.controller.names (none_unknown c (Order.Share (name ∷ others) filter) fine))

    its_built : is_whole f.kind filter && (nat_lt 1 (length (name ∷ others)) && not (has_twice (name ∷ others))) ≡ true
    its_built = ap (is_built f g) (sym what) ∙ is.label.2.built

    members_fine : (nat_lt 1 (length (name ∷ others)) ≡ true) × (not (has_twice (name ∷ others)) ≡ true)
    members_fine = and_parts (nat_lt 1 (length (name ∷ others))) (not (has_twice (name ∷ others))) (and_parts (is_whole f.kind filter) _ its_built).1

    two_names : 1 < length (name ∷ others)
    two_names = (Decides-ltb 1 (length (name ∷ others))).0 members_fine.0

    once : has_twice (name ∷ others) ≡ false
    once = not-true (has_twice (name ∷ others)) members_fine.1

    abbrev its : ShareAsked
    its = record { num = cmd.op; home = instance_node known.home; members = instance_node known.home ∷ known.nodes; filter = filter }

    abbrev its_message : Any R
    its_message = New (ShareMsg.Asked its)

    nodes_are : members_of (place g) (name ∷ others) ≡ Some its.members
    nodes_are = ap (λ o. with_member o (members_of (place g) others)) known.at ∙ ap (with_member (Some known.home)) known.members

    wanted : want_share_of (place g) cmd.op (Order.Share (name ∷ others) filter) ≡ Some its
    wanted = ap (share_between cmd.op filter) nodes_are

    seen : shown f g (Msg.Asked cmd) ≡ Some its_message
    seen = ap (asked_of f (place g) cmd.op) what ∙ ap (option_map (λ w. New (ShareMsg.Asked w))) wanted

    -- the plan, and the step by which it begins
    abbrev members : List ℕ
    members = known.home ∷ filter_map (place g) others

    abbrev plan : SharePlan
    plan = record { op = cmd.op; members = members; filter = filter; site = c.site }

    abbrev did : Step
    did = share_begin c cmd.op filter members

    did_is : begin_step c cmd.op (Order.Share (name ∷ others) filter) ≡ did
    did_is = ap (share_begin c cmd.op filter) (ap (λ names. filter_map (place_of names) (name ∷ others)) are.controller.names ∙ known.instances)

    share_is : IsShare f g cmd.op (share.share_at_start plan)
    share_is =
        record {
          op_is = refl;
          few = subst (Each (λ member. nat_lt member (count f g) ≡ true)) known.instances (few_placed g.names (name ∷ others));
          some = omega (arith, known.many, two_names);
          distinct = subst (IsDistinct ◌==◌) known.instances (all_apart g.names (name ∷ others) once);
          whole = (and_parts (is_whole f.kind filter) _ its_built).0;
          plan = record { names = name ∷ others; order_is = is.label.2.known ∙ ap Some what; members_are = known.instances; site_is = are.controller.site };
          out = tt;
        }

    -- first the command is taken, and then the share begins
    abbrev asked : WholeWorld (S f g) (A f g)
    asked = whole_ctrl (S f g) (A f g) x.world p its_message

    abbrev after : WholeWorld (S f g) (A f g)
    after = begin_share (S f g) (A f g) asked its

    fresh : x.world.next ≤ cmd.op
    fresh = (rises f g n x p cmd are is its_message seen).0

    may : MayShare (S f g) (A f g) asked its
    may = record {
      fresh = fresh;
      home_in = let self : (instance_node known.home == instance_node known.home) ≡ true = grind (arith, nat_tests) in rw self refl;
      apart = members_apart (place g) (place_tells g.names) (name ∷ others) its.members (names_distinct (name ∷ others) once) nodes_are;
      two = let long = members_long (place g) (name ∷ others) its.members nodes_are in let two = two_names in omega (arith, long, two);
      insts = members_are (place g) (name ∷ others) its.members nodes_are;
      moves_apart = moves_apart f g n x p cmd are is filter apart;
      shares_apart = shares_apart f g n x p cmd are is filter apart;
    }

    followed : StepFollows f g.site g.packet (place g) did (record {
      ops = x.world.ops;
      shares = x.world.shares ++ new_share its ∷ [];
      sends = (0, New (ShareMsg.Install cmd.op filter (instance_node known.home))) ∷ [];
    })
    followed = subst (λ step. StepFollows f g.site g.packet (place g) step (record {
      ops = x.world.ops;
      shares = x.world.shares ++ new_share its ∷ [];
      sends = (0, New (ShareMsg.Install cmd.op filter (instance_node known.home))) ∷ [];
    })) did_is
        (share_begun f g.site g.packet (place g) c x.world.ops x.world.shares are.controller.opens cmd.op none (are.controller.emptied cmd.op none)
        (name ∷ others) filter its (ap place_of are.controller.names) are.controller.site wanted)

    controller_shares : IsController f g did.node after.ops after.shares (suc cmd.op)
    controller_shares = controller_begun f g c x.world.ops x.world.shares x.world.next cmd.op are.controller none (Share (share.share_at_start plan))
        (suc cmd.op) (let low = fresh in omega (arith, low)) (record { kind = share_is; genuine = tt }) after.ops after.shares followed.opens
        (listed_begun f g c x.world.ops x.world.shares x.world.next cmd.op are.controller none (Share (share.share_at_start plan)))

    begins_well : Leads did
    begins_well = record {
      ops = after.ops;
      shares = after.shares;
      next = after.next;
      link = after.link;
      links = λ i j. link_same f g n x p cmd are is (i == 1) (behind ((i == p) && (j == 1)) (x.world.link i j))
          (if i == 1 then sent_for j ((0, New (ShareMsg.Install cmd.op filter (instance_node known.home))) ∷ []) else [])
          ∙ sym (ap (λ o. links_by f g o x.world.link p (outline_all f (place g) did.sends) i j) seen);
      labels = (
        (
          (refl, refl),
          share_is.few.0,
          refl,
          share_is.whole,
          record { name = name; others = others; order_is = is.label.2.known ∙ ap Some what; home_is = known.at },
        ),
        tt,
      );
      grows = λ low. omega arith;
      controller = controller_shares;
      quiet = record { arrived_is = refl; done_is = refl; installed_is = refl };
      every = share_every_all (S f g) (A f g) (is_sys f g.site g.packet) (is_sharing f g.site g.packet) asked (came_by f g x.log)
          (ctrl_every_all (S f g) (A f g) (is_sys f g.site g.packet) (is_sharing f g.site g.packet) x.world (came_by f g x.log) are.every p its_message
          is.rest (waits f g n x p (Msg.Asked cmd) are is its_message seen)) its may;
      rising = subst (λ l. Rising (suc cmd.op) (asked_nums l ++ commands f g x.input)) (sym (link_left f g n x p cmd are is its_message seen))
          (rises f g n x p cmd are is its_message seen).1;
    }

    share_begins : Leads (begin_step c cmd.op (Order.Share (name ∷ others) filter))
    share_begins = subst Leads (sym did_is) begins_well

  -- a command that isn't refused
  begins_row : (what : Order) → cmd.what ≡ what → OrderNext f g x cmd what → finite.get c.operations cmd.op ≡ None → refusal c what ≡ None
      → Leads (begin_step c cmd.op what)
  begins_row (Order.Share [] filter) e next none fine =
      let bad : is_built f g (Order.Share [] filter) ≡ true = ap (is_built f g) (sym e) ∙ is.label.2.built in
      let never : false ≡ true = (and_parts (is_whole f.kind filter) false bad).1 in
      cc
  begins_row (Order.Share (name ∷ others) filter) e next none fine = share_begins name others filter e none fine
  begins_row (Order.Copy src dst filter) e next none fine = by_places (place_of c.names src) (place_of c.names dst) refl refl
    where
      by_places : (a b : Option ℕ) → place_of c.names src ≡ a → place_of c.names dst ≡ b → Leads (copy_between c cmd.op filter a b)
      by_places (Some from) (Some to) from_is to_is = copy_begins f g n x p cmd are is src dst filter from to e none from_is to_is next
      by_places (Some from) None from_is to_is = stays_still f g n x p cmd are is
      by_places None b from_is to_is = stays_still f g n x p cmd are is
  begins_row (Order.Move src dst filter keep) e next none fine = by_places (place_of c.names src) (place_of c.names dst) refl refl
    where
      by_places : (a b : Option ℕ) → place_of c.names src ≡ a → place_of c.names dst ≡ b → Leads (move_between c cmd.op filter keep a b)
      by_places (Some from) (Some to) from_is to_is =
          move_begins f g n x p cmd are is src dst filter keep from to e none (no_overlap c (Order.Move src dst filter keep) fine) from_is to_is
      by_places (Some from) None from_is to_is = stays_still f g n x p cmd are is
      by_places None b from_is to_is = stays_still f g n x p cmd are is

  pub asked_leads : OrderNext f g x cmd cmd.what → Leads (if p == switch_node then on_asked c cmd else still c)
  asked_leads next = by_if Leads (p == switch_node) (by_open (finite.get c.operations cmd.op) refl) (stays_still f g n x p cmd are is)
    where
      by_refusal : (o : Option Answer) → refusal c cmd.what ≡ o → finite.get c.operations cmd.op ≡ None → Leads (decision_step c cmd.op cmd.what o)
      by_refusal (Some why) e none = answered f g n x p cmd are is why
      by_refusal None e none = begins_row cmd.what refl next none e

      by_open : (o : Option Operation) → finite.get c.operations cmd.op ≡ o
          → Leads (if is_some o then still c else decision_step c cmd.op cmd.what (refusal c cmd.what))
      by_open (Some operation) e = stays_still f g n x p cmd are is
      by_open None e = by_refusal (refusal c cmd.what) refl e
