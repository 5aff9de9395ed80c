-- In every run, who owns a unit when a share that takes it begins owns it for good: no move that takes the unit is under way then, and none begins.
use Rattle.nf_net.proofs.Words.{◌≡◌, ℕ, zero, suc, ◌+◌, Bool, true, false, Some, List, [], ◌∷◌, ◌++◌, length, refl, sym, ap, ◌∙◌, subst, append-nil, ◌||◌, ◌==◌}
use Rattle.nf_net.proofs.Words.{list_any, option_map_or, Filter, Semantics, takes, Msg, Note, instance_node, switch_step, controller_step, Choice, Network}
use Rattle.nf_net.proofs.Words.{world_next, Each, each_found, OpLabel, NothingOf, found_each, Any, olds, moves_of, Where, seeing, no_change, WhereAll}
use Rattle.nf_net.proofs.Words.{Apart_from_shares, Under_share, Config, Node, is_begun, order_numbered, before_begun, begin_in, installs_in, node_step}
use Rattle.nf_net.proofs.Words.{first_owner, owner_after_order, owner_after, owner, has_begun-append, installed-append, any_picked, before_kept, before_new}
use Rattle.nf_net.proofs.Words.{unit_fits, is_whole, takes_whole, takes_same, is_sys, Both, both, Given, place, owner_next, S, A, Joined, came_by, Scene}
use Rattle.nf_net.proofs.Words.{IsTaken, node_of, scene, Wants, node_leads, AllApart, installed_quiet, installed_none, instance_quiet, controller_uninstalled}
use Rattle.nf_net.proofs.Words.{Runs, given, all_fit, Unit, Order, split, Setting, IsCourse, world_of, MoveMsg}
use Rattle.std.specs.List.{position_or_len}
use Rattle.proof_machines.proofs.unit.Real as real
use Rattle.proof_machines.proofs.net.GlobalAll.{Disjoint}
use Rattle.proof_machines.proofs.net.Net as net
use Rattle.proof_machines.proofs.net.Shares.{Old}
use Rattle.proof_machines.proofs.net.Units.{At_rest, In_move, see}
use Rattle.net_world.specs.Log.{change_in}
use Rattle.net_world.proofs.PickedLists.{before_all, front_picked}
use Rattle.nf_net.proofs.RunWords.{Busy, run_busy, count, log_keeps}
use Rattle.nf_net.proofs.RuleSteps.{Changed, No_rule, Moves_on, Diverts, changed}
use Rattle.nf_net.proofs.SourceSteps.{owner_stays}
use Rattle.nf_net.proofs.UnitShares.{IsOpenShare, open_begun}

-- The log before a command began.
abbrev is_begin : ℕ → Note → Bool
is_begin op n = option_map_or (λ k. k == op) (begin_in n) false

begin_is : (op : ℕ) (b : Bool) (log : List Note) → is_begun op log ≡ b → list_any (is_begin op) log ≡ b
begin_is op b log e = any_picked begin_in (λ k. k == op) log ∙ e

-- where it began before, more notes change nothing; and where it didn't, all is before
before_same : (op : ℕ) (xs ys : List Note) → is_begun op xs ≡ true → before_begun op (xs ++ ys) ≡ before_begun op xs
before_same op xs ys e = before_kept (is_begin op) xs ys (begin_is op true xs e)

all_before : (op : ℕ) (xs : List Note) → is_begun op xs ≡ false → installs_in (before_begun op xs) ≡ installs_in xs
all_before op xs e = ap installs_in (before_all (is_begin op) xs (begin_is op false xs e))

-- notes of no change of the rules change nothing of what was installed before
pub installed_before : (op : ℕ) (xs ys : List Note) → installs_in ys ≡ [] → installs_in (before_begun op (xs ++ ys)) ≡ installs_in (before_begun op xs)
installed_before op xs ys e = split (is_begun op xs) (λ _. installs_in (before_begun op (xs ++ ys)) ≡ installs_in (before_begun op xs))
    (λ on. ap installs_in (before_same op xs ys on))
    (λ off.
    ap installs_in (before_new (is_begin op) xs ys (begin_is op false xs off)) ∙ installed-append xs (before_begun op ys)
    ∙ ap (λ ops. installs_in xs ++ ops) (front_picked change_in (position_or_len (is_begin op) ys) ys e) ∙ append-nil (installs_in xs)
    ∙ sym (all_before op xs off))

or_none : (a : Bool) → a || false ≡ true → a ≡ true
or_none true e = refl
or_none false e = e

-- A share that began, in a world of a run, and a unit that it takes.
module _ {F R : Type 0} (setting : Setting F R) (n : ℕ) (count_is : n ≡ length setting.config.names + 2) (w : Network (Node F R) Msg Note)
    (j : Joined setting.function (given setting) n w) (apart : AllApart j.nodes.controller.operations) (b : Busy (given setting) w) (op : ℕ)
    (ms : List (List ℕ)) (filter : Filter) (what : order_numbered setting.items op ≡ Some (Order.Share ms filter)) (begun : is_begun op w.log ≡ true) where
  open setting use {function as f}

  abbrev g : Given
  g = given setting

  pub begun_open : IsOpenShare setting n count_is w j apart b op ms filter
  begun_open = open_begun setting n count_is w j apart b op ms filter what begun

  pub begun_seen : Both f (place g) g.site j.world.shares j.nodes.controller op begun_open.state
  begun_seen = both f (place g) g.site j.world.ops j.world.shares j.nodes.controller op begun_open.state j.shown_is.controller.opens begun_open.there

  module _ (u : Unit) (fits : unit_fits f.kind u ≡ true) (takes_it : takes filter u ≡ true) where
    pub begun_takes : (S f g).takes begun_seen.e.filter u ≡ true
    begun_takes = ap (λ x. takes_whole f.kind x.filter u) begun_seen.sees.is ∙ takes_same f.kind begun_open.state.plan.filter u
        (j.shown_is.controller.shared op begun_open.state begun_open.there).whole fits ∙ ap (λ q. takes q u) begun_open.filter_is ∙ takes_it

    -- no change of the rules for a move that waits takes it
    pub unmoved : (k : ℕ) (flt : Filter) (from dst : ℕ) (rest : List (Any R)) → is_whole f.kind flt ≡ true
        → j.world.link 1 0 ≡ Old (net.Of_move flt (MoveMsg.Install k from dst)) ∷ rest → takes flt u ≡ false
    unmoved k flt from dst rest whole waits = sym (takes_same f.kind flt u whole fits) ∙ by_where (j.shown_is.every.unit u)
      where
        by_moves : Where (S f g) (is_sys f g.site g.packet) u (moves_of (S f g) (A f g) j.world) (came_by f g w.log u).all (came_by f g w.log u).bared
            → takes_whole f.kind flt u ≡ false
        by_moves (At_rest owned d l t r o q) = (subst (λ ms. Each (NothingOf (S f g) u 1) (olds ms)) waits (r.labels 1 0 refl)).0.1
        by_moves (In_move o third e s t there i y q fl) =
            let its = each_found (OpLabel (S f g) (see (S f g) (is_sys f g.site g.packet) u o third)) o.num j.world.ops e i.ops there in
            let out = each_found (λ x. Disjoint (S f g) begun_seen.e.filter x.filter) o.num j.world.ops e
            (found_each (λ x. Each (λ y. Disjoint (S f g) x.filter y.filter) j.world.ops) j.world.shares op begun_seen.e j.shown_is.every.global.apart_moves
            begun_seen.there) there in
            let never : false ≡ true = sym (out.0 u begun_takes) ∙ its.0.0 ∙ its.1 in
            cc

        by_where : WhereAll (S f g) (A f g) (is_sys f g.site g.packet) u j.world (came_by f g w.log u) → takes_whole f.kind flt u ≡ false
        by_where (Apart_from_shares h none) = by_moves h.is
        by_where (Under_share x before d h o q) = no_change (S f g) (A f g) (seeing (S f g) (A f g) u x) j.world before _ h k from dst flt rest waits

module _ {R : Type 0} (f : Semantics R) (c : Config) (items : List Msg) where
  -- who owned a unit that a share takes when the share began owns it still
  abbrev pub OwnersStay : List Note → Type 0
  OwnersStay log = (op : ℕ) (ms : List (List ℕ)) (filter : Filter) (u : Unit) → order_numbered items op ≡ Some (Order.Share ms filter)
      → is_begun op log ≡ true → unit_fits f.kind u ≡ true → takes filter u ≡ true → owner c items u (before_begun op log) ≡ owner c items u log

  abbrev by : Unit → List ℕ → ℕ
  by u ops = owner_after c.names (order_numbered items) u (first_owner u c.routes) ops

  quiet_owners : (log notes : List Note) → installs_in notes ≡ [] → OwnersStay log → OwnersStay (log ++ notes)
  quiet_owners log notes none h op ms filter u what begun fits world_next =
      ap (by u) (installed_before op log notes none)
      ∙ split (is_begun op log) (λ _. by u (installs_in (before_begun op log)) ≡ owner c items u log) (λ on. h op ms filter u what on fits world_next)
      (λ off. ap (by u) (all_before op log off))
      ∙ sym (owner_stays f c items u log notes none)

module _ {F R : Type 0} (setting : Setting F R) where
  open setting use {function as f, laws, config as c, items}

  abbrev gr : Given
  gr = given setting

  module _ (w : Network (Node F R) Msg Note) (r : Runs setting w) (b : Busy gr w) (h : OwnersStay f c items w.log) where
    abbrev here : Scene F f gr
    here = scene f gr (length c.names + 2) refl (Wants f gr) (node_leads f laws gr (all_fit setting) (length c.names + 2)) w r.joined

    -- a change of the rules that leaves such units with their owner
    change_stays : (k : ℕ) → ((op : ℕ) (ms : List (List ℕ)) (filter : Filter) (u : Unit)
        → order_numbered items op ≡ Some (Order.Share ms filter) → is_begun op w.log ≡ true → unit_fits f.kind u ≡ true → takes filter u ≡ true
        → owner_after_order c.names (order_numbered items) u (order_numbered items k) (owner c items u w.log) ≡ owner c items u w.log)
        → OwnersStay f c items (w.log ++ Note.Installed k ∷ [])
    change_stays k stays op ms filter u what begun fits world_next =
        let on : is_begun op w.log ≡ true = or_none (is_begun op w.log) (sym (has_begun-append (λ q. q == op) w.log (Note.Installed k ∷ [])) ∙ begun) in
        ap (owner c items u) (before_same op w.log (Note.Installed k ∷ []) on)
        ∙ h op ms filter u what on fits world_next
        ∙ sym (stays op ms filter u what on fits world_next)
        ∙ sym (owner_next gr u w.log k)

    switch_stays : (p : ℕ) (m : Msg) (it : IsTaken f gr (length c.names + 2) here (record { node = 0; port = p; message = m })) → Changed f gr
        (length c.names + 2) here r.joined.shown_is p m it
        → OwnersStay f c items (w.log ++ (switch_step r.joined.nodes.switch m).notes)
    switch_stays p m it (No_rule none) = quiet_owners f c items w.log (switch_step r.joined.nodes.switch m).notes none h
    switch_stays p m it (Moves_on k flt from dst rest noted its whole waits) =
        subst (λ ns. OwnersStay f c items (w.log ++ ns)) (sym noted) (change_stays k (λ op ms filter u what on fits world_next.
        let order_is : order_numbered items k ≡ Some (Order.Move its.plan_is.source its.plan_is.destination flt its.plan.keep) = its.plan_is.order_is
        ∙ ap (λ y. Some (Order.Move its.plan_is.source its.plan_is.destination y its.plan.keep)) its.filter_is in
        let off : takes flt u ≡ false = unmoved setting
        (length c.names + 2) refl w r.joined r.beside.kept.apart b op ms filter what on u fits world_next k flt
        (instance_node from) (instance_node dst) rest whole waits in
        rw (order_is, off) refl))
    switch_stays p m it (Diverts k flt from rest noted its whole waits) = subst (λ ns. OwnersStay f c items (w.log ++ ns)) (sym noted)
        (change_stays k (λ op ms filter u what on fits world_next. (let order_is = its.order_is in rw order_is refl)))

    step_stays : (k p : ℕ) (m : Msg) → IsTaken f gr (length c.names + 2) here (record { node = k; port = p; message = m })
        → OwnersStay f c items (w.log ++ (node_step f (node_of r.joined.nodes k) p m).notes)
    step_stays zero p m it = switch_stays p m it (changed f gr (length c.names + 2) _ r.joined.shown_is p m it)
    step_stays (suc zero) p m it = quiet_owners f c items w.log (controller_step r.joined.nodes.controller p m).notes
        (installed_none _ (controller_uninstalled r.joined.nodes.controller p m)) h
    step_stays (suc (suc y)) p m it = quiet_owners f c items w.log (node_step f (node_of r.joined.nodes (suc (suc y))) p m).notes
        (installed_quiet (r.joined.nodes.instance (suc (suc y))).index _ (instance_quiet f (r.joined.nodes.instance (suc (suc y))) m)) h

  pub owners_stay : (cs : List Choice) → IsCourse setting cs → OwnersStay f c items (world_of setting cs).log
  owners_stay = log_keeps setting (OwnersStay f c items) (λ op ms filter u what begun fits world_next. cc) (λ ds ok d s h. step_stays
      (world_of setting ds) s.runs (run_busy setting ds ok).1 h d.node d.port s.taking.message s.taken)
