-- What a row of the controller's table leads to: a whole world that takes the same message, and no more changes than that. The finish after
-- a row changes nothing of it.
use Rattle.proof_outlines.proofs.Words.{◌≡◌, ◌≢◌, ℕ, zero, suc, Bool, true, false, Option, Some, None, List, [], ◌∷◌, ◌++◌, refl, sym, ap, ◌∙◌, subst}
use Rattle.proof_outlines.proofs.Words.{append-nil, arith, if◌then◌else◌, ◌&&◌, ◌==◌, nat_tests, Semantics, stored_of, Each, Msg, Note, ControllerState, Step}
use Rattle.proof_outlines.proofs.Words.{step_and_finish, may_finish, EachSent, sent_for, Open, find_op, behind, links_after, Any, Old, New, ShareMsg, OpenShare}
use Rattle.proof_outlines.proofs.Words.{find_share, WholeWorld, Rising, rising_less, EveryAll, ctrl_every_all, as_node, Controller, arrivals_in, dones_in}
use Rattle.proof_outlines.proofs.Words.{installs_in, sent-append, done-append, split}
use Rattle.std.specs.FinMap as finite
use Rattle.proof_machines.proofs.net.Net as net
use Rattle.proof_outlines.proofs.joined.Words.{is_sys, filter_map-put, outline_each, outline_all, is_sharing, SeesAny, AllStep, all_step, Given, place, Genuine}
use Rattle.proof_outlines.proofs.joined.Words.{Label, Scene, Nodes, AreShown, IsTaken, IsController, IsListed, Leads, node_of, shown, S, A, by_node, commands}
use Rattle.proof_outlines.proofs.joined.Words.{links_next, came_by, asked_nums, Grows, same_grows, instance_stays}
use Rattle.proof_outlines.proofs.joined.LogLemmas.{every_same, owners_on, came_on}

-- a message is taken from the switch's link, or from another: the numbers of waiting commands rise as before
rising_drop : {R : Type 0} (b : ℕ) (a : Any R) (rest : List (Any R)) (ks : List ℕ) → Rising b (asked_nums (a ∷ rest) ++ ks) → Rising b (asked_nums rest ++ ks)
rising_drop b (Old (net.Asked x)) rest ks h = let least = h.0 in rising_less b (suc x.num) (asked_nums rest ++ ks) (omega (arith, least)) h.1
rising_drop b (New (ShareMsg.Asked x)) rest ks h = let least = h.0 in rising_less b (suc x.num) (asked_nums rest ++ ks) (omega (arith, least)) h.1
rising_drop b a rest ks h = h

pub rising_behind : {R : Type 0} (b : ℕ) (t : Bool) (l rest : List (Any R)) (a : Any R) (ks : List ℕ) → (t ≡ true → l ≡ a ∷ rest)
    → Rising b (asked_nums l ++ ks) → Rising b (asked_nums (behind t l ++ []) ++ ks)
rising_behind b true l rest a ks at h = subst (λ xs. Rising b (asked_nums xs ++ ks)) (sym (append-nil (behind true l)))
    (let here = at refl in rw here (rising_drop b a rest ks (subst (λ xs. Rising b (asked_nums xs ++ ks)) here h)))
rising_behind b false l rest a ks at h = subst (λ xs. Rising b (asked_nums xs ++ ks)) (sym (append-nil l)) h

-- in these notes no packet arrives, none is processed, and no rule changes
pub record AreQuiet (notes : List Note) : Type 0 where
  pub arrived_is : arrivals_in notes ≡ []
  pub done_is : dones_in notes ≡ []
  pub installed_is : installs_in notes ≡ []

module _ {R : Type 0} (f : Semantics R) (g : Given) where
  -- the links after a message that is shown as this one
  abbrev pub links_by : Option (Any R) → (ℕ → ℕ → List (Any R)) → ℕ → List (ℕ × Any R) → ℕ → ℕ → List (Any R)
  links_by (Some m) l p sends i j = links_after l p 1 sends i j
  links_by None l p sends i j = l i j ++ (if i == 1 then sent_for j sends else [])

  links_are : (l : ℕ → ℕ → List (Any R)) (p : ℕ) (m : Msg) (sends : List (ℕ × Msg)) (i j : ℕ) (o : Option (Any R)) → shown f g m ≡ o
      → links_by o l p (outline_all f (place g) sends) i j ≡ links_next f g l (record { node = 1; port = p; message = m }) sends i j
  links_are l p m sends i j None e = rw e refl
  links_are l p m sends i j (Some a) e = rw e refl

  pub listed_same : (c d : ControllerState) (ops : List (Open R)) → d.operations ≡ c.operations → Each (IsListed f g c) ops → Each (IsListed f g d) ops
  listed_same c d [] same h = tt
  listed_same c d (e ∷ ops) same h =
      let k = h.0 in (record { move = k.move; there = ap (λ o. finite.get o e.op.num) same ∙ k.there; filter = k.filter }, listed_same c d ops same h.1)

  -- what no operation looks at may change
  pub controller_same : (c d : ControllerState) (ops : List (Open R)) (shares : List OpenShare) (next : ℕ) → d.names ≡ c.names → d.site ≡ c.site
      → d.operations ≡ c.operations → d.store ≡ c.store → IsController f g c ops shares next → IsController f g d ops shares next
  controller_same c d ops shares next names site operations store is = record {
    names = names ∙ is.names;
    site = site ∙ is.site;
    opens = λ k. subst (λ o. SeesAny f (place g) g.site (find_op ops k) (find_share shares k) (finite.get o k) (stored_of d.store k)) (sym operations)
        (subst (λ o. SeesAny f (place g) g.site (find_op ops k) (find_share shares k) (finite.get c.operations k) (stored_of o k)) (sym store)
        (is.opens k));
    moves = λ k mv e. is.moves k mv (sym (ap (λ o. finite.get o k) operations) ∙ e);
    copies = λ k y e. is.copies k y (sym (ap (λ o. finite.get o k) operations) ∙ e);
    shared = λ k s e. is.shared k s (sym (ap (λ o. finite.get o k) operations) ∙ e);
    listed = listed_same c d ops operations is.listed;
    nothing = λ k least. ap (λ o. stored_of o k) store ∙ is.nothing k least;
    emptied = λ k none. ap (λ o. stored_of o k) store ∙ is.emptied k (sym (ap (λ o. finite.get o k) operations) ∙ none);
    unstored = λ k y e. ap (λ o. stored_of o k) store ∙ is.unstored k y (sym (ap (λ o. finite.get o k) operations) ∙ e);
    going = λ k mv e. is.going k mv (sym (ap (λ o. finite.get o k) operations) ∙ e);
    genuine = λ k. subst (λ o. Each (Genuine f g) (stored_of o k)) (sym store) (is.genuine k);
  }

module _ {F R : Type 0} (f : Semantics R) (g : Given) where
  -- a row of the controller's table leads from a world of a run to one
  pub record RowLeads (x : Scene F f g) (p : ℕ) (m : Msg) (did : Step) : Type 0 where
    pub ops : List (Open R)
    pub shares : List OpenShare
    pub next : ℕ
    pub link : ℕ → ℕ → List (Any R)
    pub links : (i j : ℕ) → link i j ≡ links_by f g (shown f g m) x.world.link p (outline_all f (place g) did.sends) i j
    pub labels : EachSent (Label f g) 1 did.sends
    pub grows : Grows m x.world.next next
    pub controller : IsController f g did.node ops shares next
    pub quiet : AreQuiet did.notes
    pub every : EveryAll (S f g) (A f g) (is_sys f g.site g.packet) (record x.world { ops = ops; shares = shares; next = next; link = link })
        (came_by f g x.log)
    pub rising : Rising next (asked_nums (link 0 1) ++ commands f g x.input)

  -- what comes behind a row and isn't looked at changes nothing of it
  module _ (n : ℕ) (x : Scene F f g) (p : ℕ) (m : Msg) (did : Step) (are : AreShown f g n x) (l : RowLeads x p m did) where
    abbrev nodes_after : ControllerState → Nodes F R
    nodes_after c = record x.nodes { controller = c }

    others_stay : (c : ControllerState) (j : ℕ) → j ≢ 1 → node_of (nodes_after c) j ≡ node_of x.nodes j
    others_stay c zero off = refl
    others_stay c (suc zero) off = absurd (off refl)
    others_stay c (suc (suc j)) off = refl

    abbrev world_after : WholeWorld (S f g) (A f g)
    world_after = record x.world { ops = l.ops; shares = l.shares; next = l.next; link = l.link }

    done_same : dones_in x.log ≡ dones_in (x.log ++ did.notes)
    done_same = sym (done-append x.log did.notes ∙ ap (λ ys. dones_in x.log ++ ys) l.quiet.done_is ∙ append-nil (dones_in x.log))

    with_tail : (c : ControllerState) (tail : List (ℕ × Msg)) → IsController f g c l.ops l.shares l.next
        → outline_all f (place g) tail ≡ [] → EachSent (Label f g) 1 tail
        → Leads f g n x (record { node = 1; port = p; message = m }) (record { node = Controller c; sends = did.sends ++ tail; notes = did.notes })
    with_tail c tail is none labels = record {
      nodes = nodes_after c;
      own = refl;
      others = others_stay c;
      world = world_after;
      links = λ i j. l.links i j ∙ ap (λ xs. links_by f g (shown f g m) x.world.link p xs i j) (sym (filter_map-put (outline_each f (place g)) did.sends
          tail ∙ ap (λ xs. outline_all f (place g) did.sends ++ xs) none ∙ append-nil (outline_all f (place g) did.sends)))
          ∙ links_are f g x.world.link p m (did.sends ++ tail) i j (shown f g m) refl;
      labels = sent-append (Label f g) 1 did.sends tail l.labels labels;
      grows = l.grows;
      shown_is = record {
        switch = are.switch;
        controller = is;
        owners = owners_on f g n x are did.notes l.quiet.installed_is;
        instances = λ k two low. instance_stays f g refl refl (are.instances k two low);
        every = every_same (S f g) (A f g) (is_sys f g.site g.packet) world_after (came_by f g x.log) (came_by f g (x.log ++ did.notes))
            (came_on f g n x are did.notes l.quiet.installed_is l.quiet.arrived_is) l.every;
        done_is = are.done_is ∙ ap (by_node f g) done_same;
        rising = l.rising;
      };
    }

    pub lead : Leads f g n x (record { node = 1; port = p; message = m }) (as_node Controller (step_and_finish did))
    lead = split (may_finish did.node)
        (λ b. Leads f g n x (record { node = 1; port = p; message = m })
        (record {
          node = Controller (if b then record did.node { finish_sent = true } else did.node);
          sends = did.sends ++
              (if b then (0, Msg.Finish) ∷ [] else []);
          notes = did.notes;
        }))
        (λ _. with_tail (record did.node { finish_sent = true }) ((0, Msg.Finish) ∷ []) (controller_same f g did.node
        (record did.node { finish_sent = true }) l.ops l.shares l.next refl refl refl refl l.controller) refl ((refl, refl), tt))
        (λ _. with_tail did.node [] l.controller refl tt)

  module _ (n : ℕ) (x : Scene F f g) (p : ℕ) (m : Msg) (are : AreShown f g n x) (is : IsTaken f g n x (record { node = 1; port = p; message = m })) where
    not_input : (p == 0) && (1 == 0) ≡ false
    not_input = elim (p == 0) as (λ b. b && false ≡ false) [ true ↦ refl | false ↦ refl ]

    pub waits : (a : Any R) → shown f g m ≡ Some a → x.world.link p 1 ≡ a ∷ is.rest
    waits a seen = is.head not_input a seen

    -- what the abstract controller does with a message
    abbrev pub step_on : Any R → AllStep R
    step_on a = all_step f g.site g.packet (place g) x.world.ops x.world.shares p a

    -- a message that is shown is taken by the abstract controller
    pub taken : (did : Step) (a : Any R) → shown f g m ≡ Some a → outline_all f (place g) did.sends ≡ (step_on a).sends
        → IsController f g did.node (step_on a).ops (step_on a).shares x.world.next → EachSent (Label f g) 1 did.sends → AreQuiet did.notes
        → RowLeads x p m did
    taken did a seen sends controller labels quiet = record {
      ops = (step_on a).ops;
      shares = (step_on a).shares;
      next = x.world.next;
      link = links_after x.world.link p 1 (step_on a).sends;
      links = λ i j. ap (λ xs. links_after x.world.link p 1 xs i j) (sym sends)
          ∙ sym (ap (λ o. links_by f g o x.world.link p (outline_all f (place g) did.sends) i j) seen);
      labels = labels;
      grows = same_grows m x.world.next;
      controller = controller;
      quiet = quiet;
      every = ctrl_every_all (S f g) (A f g) (is_sys f g.site g.packet) (is_sharing f g.site g.packet) x.world (came_by f g x.log) are.every p a is.rest
          (waits a seen);
      rising = rising_behind x.world.next ((0 == p) && (1 == 1)) (x.world.link 0 1) is.rest a (commands f g x.input)
          (λ e. let at : p ≡ 0 = grind (arith, nat_tests) in ap (λ k. x.world.link k 1) (sym at) ∙ waits a seen) are.rising;
    }

    unseen_links : (i j : ℕ) → x.world.link i j ++ (if i == 1 then [] else []) ≡ x.world.link i j
    unseen_links i j = elim (i == 1) as (λ b. x.world.link i j ++ (if b then [] else []) ≡ x.world.link i j)
        [ true ↦ append-nil (x.world.link i j) | false ↦ append-nil (x.world.link i j) ]

    -- a message that isn't shown, and a row that changes no move and no share
    pub unseen : (did : Step) → shown f g m ≡ None → IsController f g did.node x.world.ops x.world.shares x.world.next
        → outline_all f (place g) did.sends ≡ [] → EachSent (Label f g) 1 did.sends → AreQuiet did.notes → RowLeads x p m did
    unseen did seen controller sends labels quiet = record {
      ops = x.world.ops;
      shares = x.world.shares;
      next = x.world.next;
      link = x.world.link;
      links = λ i j. sym (unseen_links i j) ∙ ap (λ xs. x.world.link i j ++ (if i == 1 then sent_for j xs else [])) (sym sends)
          ∙ sym (ap (λ o. links_by f g o x.world.link p (outline_all f (place g) did.sends) i j) seen);
      labels = labels;
      grows = same_grows m x.world.next;
      controller = controller;
      quiet = quiet;
      every = are.every;
      rising = are.rising;
    }

    -- the abstract controller does nothing with a message
    abbrev pub Idles : Any R → Type 0
    Idles a = step_on a ≡ record { ops = x.world.ops; shares = x.world.shares; sends = [] }

    -- a row of which no move and no share sees anything
    pub idles : (did : Step) → IsController f g did.node x.world.ops x.world.shares x.world.next → outline_all f (place g) did.sends ≡ []
        → EachSent (Label f g) 1 did.sends → AreQuiet did.notes → ((a : Any R) → shown f g m ≡ Some a → Idles a) → RowLeads x p m did
    idles did same sends labels quiet idle = by_shown (shown f g m) refl
      where
        by_shown : (o : Option (Any R)) → shown f g m ≡ o → RowLeads x p m did
        by_shown (Some a) seen = taken did a seen (sends ∙ sym (ap (λ s. s.sends) (idle a seen)))
            (subst (λ s. IsController f g did.node s.ops s.shares x.world.next) (sym (idle a seen)) same) labels quiet
        by_shown None seen = unseen did seen same sends labels quiet

    -- a row that changes nothing that an operation looks at
    pub stays : (did : Step) → did.node.names ≡ x.nodes.controller.names → did.node.site ≡ x.nodes.controller.site
        → did.node.operations ≡ x.nodes.controller.operations → did.node.store ≡ x.nodes.controller.store → outline_all f (place g) did.sends ≡ []
        → EachSent (Label f g) 1 did.sends → AreQuiet did.notes → ((a : Any R) → shown f g m ≡ Some a → Idles a) → RowLeads x p m did
    stays did names site operations store sends labels quiet idle = idles did (controller_same f g x.nodes.controller did.node x.world.ops x.world.shares
        x.world.next names site operations store are.controller) sends labels quiet idle
