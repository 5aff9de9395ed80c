-- What the log of every run says of shares: the home of the share that has a unit owns it for good; and a share that the switch installs has begun,
-- and isn't answered before, if its home owns a unit that it takes.
use Rattle.nf_net.proofs.Words.{◌≡◌, ℕ, zero, suc, ◌+◌, ◌≤◌, true, false, Option, Some, None, List, [], ◌∷◌, ◌++◌, length, append-nil, refl, sym, ap, ◌∙◌}
use Rattle.nf_net.proofs.Words.{subst, arith, option_or, Filter, Semantics, takes, Msg, Note, instance_node, switch_step, Share, controller_step, Choice}
use Rattle.nf_net.proofs.Words.{Network, queue_at, behind_nil, where_two, OfShare, new_head, Any, ShareMsg, moves_of, seeing, no_change, WhereAll}
use Rattle.nf_net.proofs.Words.{Apart_from_shares, Under_share, Config, Node, is_begun, has_answered, times_installed, order_numbered, installs_in, node_step}
use Rattle.nf_net.proofs.Words.{first_owner, owner_after_order, owner_after, is_home, shared_among, members_after, owner, members, installed-append, is_whole}
use Rattle.nf_net.proofs.Words.{unit_fits, takes_whole, takes_same, is_sys, real_share, Given, place, owner_next, S, A, Joined, came_by, Scene, IsTaken}
use Rattle.nf_net.proofs.Words.{node_of, scene, Wants, node_leads, AllApart, installed_same, installed_quiet, installed_none, Stands, In_first, In_second}
use Rattle.nf_net.proofs.Words.{stands, instance_quiet, controller_uninstalled, Runs, given, all_fit, Unit, Order, nowhere, Setting, start, IsCourse, world_of}
use Rattle.nf_net.proofs.Words.{MoveMsg}
use Rattle.actor_net.proofs.EnabledChoices.{at as at_node}
use Rattle.proof_machines.proofs.unit.Real as real
use Rattle.proof_machines.proofs.net.Net as net
use Rattle.proof_machines.proofs.net.Shares.{Old}
use Rattle.nf_net.proofs.RunWords.{Busy, open_began, run_busy, Installs, run_installs, count, log_keeps}
use Rattle.nf_net.proofs.MemberLemmas.{SharesIt, shares_it, members-append}
use Rattle.nf_net.proofs.RuleSteps.{Changed, No_rule, Moves_on, Diverts, changed}
use Rattle.nf_net.proofs.UnitShares.{members_go, set_up_installed}

none_or : {X : Type 0} (o : Option X) → option_or o None ≡ o
none_or None = refl
none_or (Some x) = refl

-- one note alone
pub data Alone {X : Type 0} (x y : X) (front back : List X) : Type 0 where
  Is_it : x ≡ y → front ≡ [] → back ≡ [] → Alone x y front back

pub alone : {X : Type 0} (x y : X) (front back : List X) → x ∷ [] ≡ front ++ y ∷ back → Alone x y front back
alone x y [] back e = let same : x ≡ y = cc in let none : [] ≡ back = cc in Is_it same refl (sym none)
alone x y (z ∷ []) back e = cc
alone x y (z ∷ (v ∷ front)) back e = cc

installed_nowhere : (notes cs back : List Note) (op : ℕ) → installs_in notes ≡ [] → notes ≡ cs ++ Note.Installed op ∷ back → ⊥
installed_nowhere notes cs back op none e =
    behind_nil (installs_in cs) op (installs_in back) (sym (sym none ∙ ap installs_in e ∙ installed-append cs (Note.Installed op ∷ back)))

abbrev op_in : ℕ → Note → ℕ
op_in d (Note.Installed op) = op
op_in d n = d

module _ {R : Type 0} (f : Semantics R) (c : Config) (items : List Msg) where
  -- where the switch installs a share: the log up to there
  pub record IsInstalledShare (first : List Note) (op : ℕ) (ms : List (List ℕ)) (filter : Filter) : Type 0 where
    pub begun : is_begun op first ≡ true
    pub set_up : (u : Unit) → unit_fits f.kind u ≡ true → takes filter u ≡ true
        → is_home c.names (order_numbered items) ms (owner c items u first) ≡ true → has_answered op first ≡ true → 1 ≤ times_installed op first

  pub record SaysOfShares (log : List Note) : Type 0 where
    pub homes : (u : Unit) → unit_fits f.kind u ≡ true → (ms : List (List ℕ)) → members c items u log ≡ Some ms
        → is_home c.names (order_numbered items) ms (owner c items u log) ≡ true
    pub installs : (first rest : List Note) (op : ℕ) (ms : List (List ℕ)) (filter : Filter) → log ≡ first ++ Note.Installed op ∷ rest
        → order_numbered items op ≡ Some (Order.Share ms filter) → IsInstalledShare first op ms filter

  -- notes of no change of the rules
  quiet_says : (log notes : List Note) → installs_in notes ≡ [] → SaysOfShares log → SaysOfShares (log ++ notes)
  quiet_says log notes none h = record {
    homes = λ u fits ms e.
        let same = installed_same log notes none in
        ap (λ ops. is_home c.names (order_numbered items) ms (owner_after c.names (order_numbered items) u (first_owner u c.routes) ops)) same
        ∙ h.homes u fits ms (ap (members_after c.names (order_numbered items) u (first_owner u c.routes)) (sym same) ∙ e);
    installs = λ first rest op ms filter e what. by_place first rest op ms filter what (stands log notes first (Note.Installed op) rest e);
  }
    where
      by_place : (first rest : List Note) (op : ℕ) (ms : List (List ℕ)) (filter : Filter) → order_numbered items op ≡ Some (Order.Share ms filter)
          → Stands log notes (record { before = first; item = Note.Installed op; after = rest }) → IsInstalledShare first op ms filter
      by_place first rest op ms filter what (In_first cs here) = h.installs first cs op ms filter here what
      by_place first rest op ms filter what (In_second cs from there) = absurd (installed_nowhere notes cs rest op none there)

  -- a change of the rules
  module _ (log : List Note) (k : ℕ) (h : SaysOfShares log)
      (new : (ms : List (List ℕ)) (filter : Filter) → order_numbered items k ≡ Some (Order.Share ms filter) → IsInstalledShare log k ms filter) where
    installs_more : (first rest : List Note) (op : ℕ) (ms : List (List ℕ)) (filter : Filter)
        → log ++ Note.Installed k ∷ [] ≡ first ++ Note.Installed op ∷ rest → order_numbered items op ≡ Some (Order.Share ms filter)
        → IsInstalledShare first op ms filter
    installs_more first rest op ms filter e what = by_place (stands log (Note.Installed k ∷ []) first (Note.Installed op) rest e)
      where
        by_alone : (cs : List Note) → first ≡ log ++ cs → Alone (Note.Installed k) (Note.Installed op) cs rest → IsInstalledShare first op ms filter
        by_alone cs from (Is_it same none last) =
            let op_is : k ≡ op = ap (op_in 0) same in
            let at : log ≡ first = sym (from ∙ ap (λ xs. log ++ xs) none ∙ append-nil log) in
            subst (λ xs. IsInstalledShare xs op ms filter) at
            (subst (λ q. IsInstalledShare log q ms filter) op_is (new ms filter (ap (order_numbered items) op_is ∙ what)))

        by_place : Stands log (Note.Installed k ∷ []) (record { before = first; item = Note.Installed op; after = rest }) → IsInstalledShare first op ms filter
        by_place (In_first cs here) = h.installs first cs op ms filter here what
        by_place (In_second cs from there) = by_alone cs from (alone (Note.Installed k) (Note.Installed op) cs rest there)

module _ {F R : Type 0} (setting : Setting F R) (n : ℕ) (count_is : n ≡ length setting.config.names + 2) (w : Network (Node F R) Msg Note)
    (j : Joined setting.function (given setting) n w) (apart : AllApart j.nodes.controller.operations) (b : Busy (given setting) w)
    (i : Installs (given setting) w) (h : SaysOfShares setting.function setting.config setting.items w.log) where
  open setting use {function as f, config as c, items}

  abbrev g : Given
  g = given setting

  -- the members of a unit after a change more
  members_next : (u : Unit) (k : ℕ) → members c items u (w.log ++ Note.Installed k ∷ [])
      ≡ option_or (members c items u w.log) (shared_among c.names (order_numbered items) u (order_numbered items k) (owner c items u w.log))
  members_next u k =
      ap (members_after c.names (order_numbered items) u (first_owner u c.routes)) (installed-append w.log (Note.Installed k ∷ []))
      ∙ members-append g u (first_owner u c.routes) (installs_in w.log) (k ∷ [])
      ∙ ap (option_or (members c items u w.log)) (none_or (shared_among c.names (order_numbered items) u (order_numbered items k) (owner c items u w.log)))

  -- a move takes no unit that a share has
  not_moved : (u : Unit) → unit_fits f.kind u ≡ true → (ms : List (List ℕ)) → members c items u w.log ≡ Some ms
      → (k : ℕ) (filter : Filter) (from dst : ℕ) (rest : List (Any R)) → is_whole f.kind filter ≡ true
      → j.world.link 1 0 ≡ Old (net.Of_move filter (MoveMsg.Install k from dst)) ∷ rest → takes filter u ≡ false
  not_moved u fits ms e k filter from dst rest whole waits = sym (takes_same f.kind filter u whole fits) ∙ by_where (j.shown_is.every.unit u)
    where
      by_where : WhereAll (S f g) (A f g) (is_sys f g.site g.packet) u j.world (came_by f g w.log u) → takes_whole f.kind filter u ≡ false
      by_where (Apart_from_shares q none) =
          let one = members_go setting n w j u fits ms e in
          absurd (omega (arith, where_two (S f g) (is_sys f g.site g.packet) u (moves_of (S f g) (A f g) j.world) _ _ q.is, one))
      by_where (Under_share x before d q o m) = no_change (S f g) (A f g) (seeing (S f g) (A f g) u x) j.world before _ q k from dst filter rest waits

  -- the same owner and members, or the first ones
  module _ (k : ℕ) (u : Unit) (fits : unit_fits f.kind u ≡ true) (ms : List (List ℕ))
      (e : members c items u (w.log ++ Note.Installed k ∷ []) ≡ Some ms) where
    home_by : (stays : (old : List (List ℕ)) → members c items u w.log ≡ Some old
        → owner_after_order c.names (order_numbered items) u (order_numbered items k) (owner c items u w.log) ≡ owner c items u w.log)
        (begins : SharesIt g u (order_numbered items k) (owner c items u w.log) ms
        → owner_after_order c.names (order_numbered items) u (order_numbered items k) (owner c items u w.log) ≡ owner c items u w.log)
        → is_home c.names (order_numbered items) ms (owner c items u (w.log ++ Note.Installed k ∷ [])) ≡ true
    home_by stays begins = by_old (members c items u w.log) refl (sym (members_next u k) ∙ e)
      where
        i' : ℕ
        i' = owner c items u w.log

        at_owner : owner_after_order c.names (order_numbered items) u (order_numbered items k) i' ≡ i' → is_home c.names (order_numbered items) ms i' ≡ true
            → is_home c.names (order_numbered items) ms (owner c items u (w.log ++ Note.Installed k ∷ [])) ≡ true
        at_owner same on = ap (is_home c.names (order_numbered items) ms) (owner_next g u w.log k ∙ same) ∙ on

        by_old : (o : Option (List (List ℕ))) → members c items u w.log ≡ o
            → option_or o (shared_among c.names (order_numbered items) u (order_numbered items k) i') ≡ Some ms
            → is_home c.names (order_numbered items) ms (owner c items u (w.log ++ Note.Installed k ∷ [])) ≡ true
        by_old (Some old) at found = let same : old ≡ ms = cc in at_owner (stays old at) (h.homes u fits ms (at ∙ ap Some same))
        by_old None at found = let its = shares_it g u (order_numbered items k) i' ms found in at_owner (begins its) its.home

  -- a step of the switch
  module _ (p : ℕ) (m : Msg) (it : IsTaken f g n (record { nodes = j.nodes; world = j.world; log = w.log; input = queue_at w (at_node 0 0) })
      (record { node = 0; port = p; message = m })) where
    abbrev here : Scene F f g
    here = record { nodes = j.nodes; world = j.world; log = w.log; input = queue_at w (at_node 0 0) }

    says_after : Changed f g n here j.shown_is p m it → SaysOfShares f c items (w.log ++ (switch_step j.nodes.switch m).notes)
    says_after (No_rule none) = quiet_says f c items w.log (switch_step j.nodes.switch m).notes none h
    says_after (Moves_on k filter from dst rest noted its whole waits) = subst (λ ns. SaysOfShares f c items (w.log ++ ns)) (sym noted) (record {
      homes = λ u fits ms e. home_by k u fits ms e (λ old at. unmoved u
          (not_moved u fits old at k filter (instance_node from) (instance_node dst) rest whole waits)) (λ s. let never = sym order_is ∙ s.order_is in cc);
      installs = installs_more f c items w.log k h (λ ms flt what. let never = sym order_is ∙ what in cc);
    })
      where
        order_is : order_numbered items k ≡ Some (Order.Move its.plan_is.source its.plan_is.destination filter its.plan.keep)
        order_is = its.plan_is.order_is ∙ ap (λ y. Some (Order.Move its.plan_is.source its.plan_is.destination y its.plan.keep)) its.filter_is

        unmoved : (u : Unit) → takes filter u ≡ false
            → owner_after_order c.names (order_numbered items) u (order_numbered items k) (owner c items u w.log) ≡ owner c items u w.log
        unmoved u off = let what = order_is in rw (what, off) refl
    says_after (Diverts k filter from rest noted its whole waits) = subst (λ ns. SaysOfShares f c items (w.log ++ ns)) (sym noted) (record {
      homes = λ u fits ms e. home_by k u fits ms e (λ old at. unmoved u) (λ s. unmoved u);
      installs = installs_more f c items w.log k h (λ ms flt what. record {
        begun = begun;
        set_up = λ u fits on home answered. set_up_installed setting n count_is w j apart b u fits i k ms flt what on home answered begun;
      });
    })
      where
        unmoved : (u : Unit) → owner_after_order c.names (order_numbered items) u (order_numbered items k) (owner c items u w.log) ≡ owner c items u w.log
        unmoved u = let what = its.order_is in rw what refl

        begun : is_begun k w.log ≡ true
        begun =
            let of = new_head (λ r m. OfShare (S f g) j.world.shares r m) j.world.link j.shown_is.every.global.messages 1 0
            (ShareMsg.Install k filter (instance_node from)) rest refl waits in
            let s = real_share f (place g) g.site j.world.ops j.world.shares j.nodes.controller k of.share j.shown_is.controller.opens of.found in
            open_began f g n count_is w j b k (Share s.s) s.there

module _ {F R : Type 0} (setting : Setting F R) where
  open setting use {function as f, laws, config as c, items}

  abbrev first : Network (Node F R) Msg Note
  first = start setting

  module _ (w : Network (Node F R) Msg Note) (r : Runs setting w) (b : Busy (given setting) w) (i : Installs (given setting) w)
      (h : SaysOfShares f c items w.log) where
    step_says : (k p : ℕ) (m : Msg) → IsTaken f (given setting) (length c.names + 2)
        (scene f (given setting) (length c.names + 2) refl (Wants f (given setting))
        (node_leads f laws (given setting) (all_fit setting) (length c.names + 2)) w r.joined) (record { node = k; port = p; message = m })
        → SaysOfShares f c items (w.log ++ (node_step f (node_of r.joined.nodes k) p m).notes)
    step_says zero p m it = says_after setting (length c.names + 2) refl w r.joined r.beside.kept.apart b i h p m it
        (changed f (given setting) (length c.names + 2) _ r.joined.shown_is p m it)
    step_says (suc zero) p m it = quiet_says f c items w.log (controller_step r.joined.nodes.controller p m).notes
        (installed_none _ (controller_uninstalled r.joined.nodes.controller p m)) h
    step_says (suc (suc y)) p m it = quiet_says f c items w.log (node_step f (node_of r.joined.nodes (suc (suc y))) p m).notes
        (installed_quiet (r.joined.nodes.instance (suc (suc y))).index _ (instance_quiet f (r.joined.nodes.instance (suc (suc y))) m)) h

  says_at_start : SaysOfShares f c items []
  says_at_start = record {
    homes = λ u fits ms e. cc;
    installs = λ before rest op ms filter e what. absurd (nowhere before rest (Note.Installed op) e);
  }

  pub says_of_shares : (cs : List Choice) → IsCourse setting cs → SaysOfShares f c items (world_of setting cs).log
  says_of_shares = log_keeps setting (SaysOfShares f c items) says_at_start (λ ds ok d s h. step_says (world_of setting ds) s.runs
      (run_busy setting ds ok).1 (run_installs setting ds ok) h d.node d.port s.taking.message s.taken)
