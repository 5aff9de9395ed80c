-- The world at the start of a run is a world of a run.
use Rattle.proof_outlines.proofs.Words.{◌≡◌, ℕ, zero, suc, ◌+◌, ◌<◌, ◌≤◌, Bool, true, false, Option, Some, None, List, [], ◌∷◌, map, length, get_or, lit<, refl}
use Rattle.proof_outlines.proofs.Words.{sym, ap, ◌∙◌, subst, arith, if◌then◌else◌, ◌&&◌, ◌==◌, nat_lt, option_map, unwrap_or, find, nat_cmp, option_map_or}
use Rattle.proof_outlines.proofs.Words.{nat_tests, Decides-ltb, All-cons, All-nil, get_or_append_left, RestRule, stored_of, stored-empty, Ruling, WholeWorld}
use Rattle.proof_outlines.proofs.Words.{moves_of, Rising, Filter, Flow, Packet, IsFilter, matches, flow_of, Kind, Fits, takes, unit_cmp, unit_of, Semantics}
use Rattle.proof_outlines.proofs.Words.{AreFilters, any, first_match, opened, FullCell, Command, Order, Msg, instance_node, Each, each_both, Config, IsInput}
use Rattle.proof_outlines.proofs.Words.{is_item, packets, commands, no_packet, packet_numbered, order_numbered, IsRising, IsSteered, IsWhole, IsProper, Node}
use Rattle.proof_outlines.proofs.Words.{Note, queue_at, at, opening_waiting, opening_on_links, first_owner, first_switch, first_instance, first_instances}
use Rattle.proof_outlines.proofs.Words.{first_nodes, either_way, by_if, Unit, Target, InstanceState, split}
use Rattle.std.specs.FinMap as finite
use Rattle.std.proofs.Math.Seq.{get_or-append_seam}
use Rattle.event_filter.proofs.RulePlaces.{one_each-none}
use Rattle.ctrl_node.specs.Controller.{controller_at_start as opened_controller}
use Rattle.proof_machines.proofs.whole.Starts.{starts}
use Rattle.proof_machines.proofs.net.Units.{Where, Where.At_rest}
use Rattle.proof_outlines.proofs.joined.Words.{is_sys, outline_instance, is_whole, flow_fits, unit_fits, takes_whole, takes_same, whole_takes, HasRecords}
use Rattle.proof_outlines.proofs.joined.Words.{all_each, SeesAny, Given, place, GenuinePacket, is_built, IsCommand, Label, S, A, IsSwitch, IsController, Nodes}
use Rattle.proof_outlines.proofs.joined.Words.{node_of, Scene, Joined, IsInstanceAt, AreShown, Instance}
use Rattle.net_world.proofs.StartingLemmas.{length-first_instances}
use Rattle.proof_outlines.proofs.joined.InputLemmas.{found_each, fits_flow, whole_is}
use Rattle.proof_outlines.proofs.joined.Joined.{commands as numbers_of}
use Rattle.proof_outlines.proofs.joined.Setting.{Setting, start}

-- Routes.
module _ (kind : Kind) where
  -- where the routes send a unit
  abbrev pub route : List (Filter × ℕ) → Unit → ℕ
  route [] u = 0
  route (r ∷ rs) u = if takes_whole kind r.0 u then r.1 else route rs u

  route_first : (rs : List (Filter × ℕ)) (flow : Flow) → Each (λ r. is_whole kind r.0 ≡ true) rs → flow_fits flow ≡ true
      → first_match (opened rs) flow ≡ Some (Target.Instance (route rs (unit_of kind flow)))
  route_first [] flow whole fits = refl
  route_first (r ∷ rs) flow whole fits =
      rw (whole_takes kind r.0 flow whole.0 fits)
      (split (matches r.0 flow)
      (λ b. option_map (λ x. x.1) (if b then Some (r.0, Target.Instance r.1) else find (λ x. matches x.0 flow) (opened rs)) ≡ Some
      (Target.Instance (if b then r.1 else route rs (unit_of kind flow))))
      (λ _. refl) (λ _. route_first rs flow whole.1 fits))

  route_there : (count : ℕ) → 0 < count → (rs : List (Filter × ℕ)) (u : Unit) → Each (λ r. r.1 < count) rs → nat_lt (route rs u) count ≡ true
  route_there count some [] u few = (Decides-ltb 0 count).1 some
  route_there count some (r ∷ rs) u few = by_if (λ r. nat_lt r count ≡ true) (takes_whole kind r.0 u) ((Decides-ltb r.1 count).1 few.0)
      (route_there count some rs u few.1)

  -- for a unit that packets may have it is the first route whose filter takes it
  route_is : (u : Unit) → unit_fits kind u ≡ true → (rs : List (Filter × ℕ)) → Each (λ r. is_whole kind r.0 ≡ true) rs → route rs u ≡ first_owner u rs
  route_is u fits [] h = refl
  route_is u fits (r ∷ rs) h = ap (λ b. if b then r.1 else route rs u) (takes_same kind r.0 u h.0 fits)
      ∙ split (takes r.0 u) (λ b. (if b then r.1 else route rs u) ≡ option_map_or (λ x. x.1) (if b then Some r else find (λ x. takes x.0 u) rs) 0) (λ _. refl)
      (λ _. route_is u fits rs h.1)

-- Packets.
module _ {kind : Kind} (c : Config) (items : List Msg) (is : IsInput kind c items) where
  fits_found : (number : ℕ) (ps : List Packet) → Each (IsSteered c.site) ps → Fits c.site (unwrap_or (find (λ p. p.number == number) ps) no_packet)
  fits_found number [] h =
      record { transport = refl; nanos = lit< tt; length = lit< tt; src = lit< tt; sport = lit< tt; dst = lit< tt; dport = lit< tt; inside = is.site }
  fits_found number (p ∷ ps) h =
      by_if (λ r. Fits c.site (unwrap_or r no_packet)) (p.number == number) h.0.fits (fits_found number ps h.1)

  pub input_fits : (number : ℕ) → Fits c.site (packet_numbered items number)
  input_fits number = fits_found number (packets items) (all_each (IsSteered c.site) (packets items) is.steered)

module _ {F R : Type 0} (setting : Setting F R) where
  open setting use {function as f, config as c, items, is_input as is}

  abbrev pub given : Given
  given = record { site = c.site; packet = packet_numbered items; names = c.names; orders = order_numbered items; first = λ u. first_owner u c.routes }

  -- The items.
  found_packet : (p : Packet) → find (λ q. q.number == p.number) (packets items) ≡ Some p → IsSteered c.site p → GenuinePacket f given p
  found_packet p found ok = record {
    same = sym (ap (λ o. unwrap_or o no_packet) found);
    transport = ok.fits.transport;
    fits = fits_flow (flow_of c.site p).0 ok.flow;
    pool = refl;
  }

  -- the packet of any number fits its types
  pub all_fit : (number : ℕ) → Fits c.site (packet_numbered items number)
  all_fit = input_fits c items is

  pub genuine : Each (GenuinePacket f given) (packets items)
  genuine = each_both found_packet (packets items) (found_each (λ p. p.number) 0 (packets items) is.numbers)
      (all_each (IsSteered c.site) (packets items) is.steered)

  found_command : (k : Command) → find (λ q. q.op == k.op) (commands items) ≡ Some k → IsProper f.kind k.what → IsCommand f given k
  found_command k found ok = record { known = ap (option_map (λ q. q.what)) found; built = order_is k.what ok }
    where
      order_is : (o : Order) → IsProper f.kind o → is_built f given o ≡ true
      order_is (Order.Move source destination filter keep) h = let apart = h.0 in let whole = whole_is f.kind filter h.1 in rw (whole, apart) refl
      order_is (Order.Copy source destination None) h = let apart = h.0 in rw apart refl
      order_is (Order.Copy source destination (Some filter)) h =
          let apart = h.0 in let whole = whole_is f.kind filter (h.1 filter refl) in rw (whole, apart) refl
      order_is (Order.Share members filter) h =
          let once = h.0.once in let whole = whole_is f.kind filter h.1 in rw (whole, (Decides-ltb 1 (length members)).1 h.0.some, once) refl

  listed : Each (IsCommand f given) (commands items)
  listed = each_both found_command (commands items) (found_each (λ k. k.op) 0 (commands items) is.ops)
      (all_each (λ k. IsProper f.kind k.what) (commands items) is.orders)

  labelled : (xs : List Msg) → Each (λ item. is_item item ≡ true) xs → Each (GenuinePacket f given) (packets xs) → Each (IsCommand f given) (commands xs)
      → Each (Label f given 0 0) xs
  labelled [] ok ps cs = tt
  labelled (Msg.InPacket p ∷ xs) ok ps cs = (((refl, refl), ps.0), labelled xs ok.1 ps.1 cs)
  labelled (Msg.InCommand k ∷ xs) ok ps cs = (((refl, refl), cs.0), labelled xs ok.1 ps cs.1)
  labelled (Msg.InSettle ∷ xs) ok ps cs = ((refl, refl), labelled xs ok.1 ps cs)
  labelled (Msg.InEnd ∷ xs) ok ps cs = ((refl, refl), labelled xs ok.1 ps cs)
  labelled (m ∷ xs) ok ps cs = let never : false ≡ true = ok.0 in cc

  pub all_labelled : Each (Label f given 0 0) items
  all_labelled = labelled items (all_each (λ item. is_item item ≡ true) items is.only_items) genuine listed

  -- The switch.
  abbrev pub routed : Unit → ℕ
  routed u = instance_node (route f.kind c.routes u)

  whole_routes : (rs : List (Filter × ℕ)) → Each (λ r. IsWhole f.kind r.0) rs → Each (λ r. is_whole f.kind r.0 ≡ true) rs
  whole_routes [] h = tt
  whole_routes (r ∷ rs) h = (whole_is f.kind r.0 h.0, whole_routes rs h.1)

  filters_of : (rs : List (Filter × ℕ)) → Each (λ r. IsWhole f.kind r.0) rs → AreFilters (opened rs)
  filters_of [] h = All-cons (λ r. IsFilter r.0) (any, Target.Instance 0) []
      (record { proto = λ n is. cc; local = λ n is. cc; lport = λ n is. cc; remote = λ n is. cc; rport = λ n is. cc }) (All-nil (λ r. IsFilter r.0))
  filters_of (r ∷ rs) h = All-cons (λ x. IsFilter x.0) (r.0, Target.Instance r.1) (opened rs) h.0.numbers (filters_of rs h.1)

  abbrev each_whole : Each (λ r. IsWhole f.kind r.0) c.routes
  each_whole = all_each (λ r. IsWhole f.kind r.0) c.routes is.routes

  route_is_there : (u : Unit) → nat_lt (route f.kind c.routes u) (length c.names) ≡ true
  route_is_there u =
      route_there f.kind (length c.names) (omega (arith, is.is_config.some)) c.routes u (all_each (λ r. r.1 < length c.names) c.routes is.is_config.routes)

  pub owners_are : (u : Unit) → unit_fits f.kind u ≡ true → routed u ≡ instance_node (first_owner u c.routes)
  owners_are u fits = ap instance_node (route_is f.kind u fits c.routes (whole_routes c.routes each_whole))

  pub switch_is : IsSwitch f given (first_switch c) routed
  switch_is = record {
    site = refl;
    instances = refl;
    filters = filters_of c.routes each_whole;
    routes = λ flow fits. record {
      target = Target.Instance (route f.kind c.routes (unit_of f.kind flow));
      first = route_first f.kind c.routes flow (whole_routes c.routes each_whole) fits;
      node = refl;
      there = route_is_there (unit_of f.kind flow);
    };
    pool = refl;
  }

  -- The controller.
  controller_is : IsController f given (opened_controller c.names c.site) [] [] 0
  controller_is = record {
    names = refl;
    site = refl;
    opens = λ op. none op (finite.get-empty nat_cmp op);
    moves = λ op m there. (let none = sym there ∙ finite.get-empty nat_cmp op in cc);
    copies = λ op y there. (let none = sym there ∙ finite.get-empty nat_cmp op in cc);
    shared = λ op s there. (let none = sym there ∙ finite.get-empty nat_cmp op in cc);
    listed = tt;
    nothing = λ op _. stored-empty op;
    emptied = λ op _. stored-empty op;
    unstored = λ op y _. stored-empty op;
    going = λ op m there. (let none = sym there ∙ finite.get-empty nat_cmp op in cc);
    genuine = λ op. (let none : stored_of (opened_controller c.names c.site).store op ≡ [] = stored-empty op in rw none tt);
  }
    where
      none : (op : ℕ) → finite.get (opened_controller c.names c.site).operations op ≡ None → SeesAny f (place given) c.site None None
          (finite.get (opened_controller c.names c.site).operations op) (stored_of (opened_controller c.names c.site).store op)
      none op is = rw is (record { move = tt; share = tt })

nothing_carried : (b : Bool) → ◌≡◌ {A = List ℕ} [] (if b then [] else [])
nothing_carried true = refl
nothing_carried false = refl

no_record : (R : Type 0) (b : Bool) → ◌≡◌ {A = Option R} None (if b then None else None)
no_record R true = refl
no_record R false = refl

pub rising_of : (least : ℕ) (ns : List ℕ) → IsRising least ns → Rising least ns
rising_of least [] h = tt
rising_of least (n ∷ ns) h = (h.0, rising_of (suc n) ns h.1)

same_numbers : {R : Type 0} (f : Semantics R) (g : Given) (xs : List Msg) → map (λ k. k.op) (commands xs) ≡ numbers_of f g xs
same_numbers f g [] = refl
same_numbers f g (Msg.InCommand k ∷ xs) = ap (λ ns. k.op ∷ ns) (same_numbers f g xs)
same_numbers f g (Msg.InPacket p ∷ xs) = same_numbers f g xs
same_numbers f g (m ∷ xs) = same_numbers f g xs

module _ {F R : Type 0} (setting : Setting F R) where
  open setting use {function as f, alloc, config as c, items, is_input as is}

  abbrev g : Given
  g = given setting

  abbrev instances : ℕ → InstanceState F R
  instances (suc (suc i)) = first_instance alloc c i
  instances k = first_instance alloc c 0

  abbrev nodes : Nodes F R
  nodes = record { switch = first_switch c; controller = opened_controller c.names c.site; instance = instances }

  abbrev world : WholeWorld (S f g) (A f g)
  world = record {
    target = routed setting;
    ops = [];
    shares = [];
    next = 0;
    inst = λ k. outline_instance f c.site (packet_numbered items) (instances k);
    standby = λ k. (instances k).table.standby;
    link = λ i j. [];
    done = [];
  }

  abbrev scene : Scene F f g
  scene = record { nodes = nodes; world = world; log = []; input = items }

  no_records : HasRecords f finite.empty
  no_records = record {
    sound = λ u. (let none = finite.get-empty {X = R} unit_cmp u in rw none refl);
    fits = λ u some. (let none = finite.get-empty {X = R} unit_cmp u in let never : false ≡ true = rw none at some in cc);
  }

  instance_is : (k : ℕ) → 2 ≤ k → IsInstanceAt f g k (instances k) world
  instance_is zero two = absurd (omega (arith, two))
  instance_is (suc zero) two = absurd (omega (arith, two))
  instance_is (suc (suc i)) two = record {
    outline_is = refl;
    standby_is = refl;
    stands = no_records;
    rules = record { at = refl; whole = tt; held = tt; one_each = one_each-none FullCell };
    held = tt;
    records = no_records;
    number = omega arith;
  }

  no_rules : (k : ℕ) (P : Ruling → Type 0) → Each P (world.inst k).rules
  no_rules zero P = tt
  no_rules (suc zero) P = tt
  no_rules (suc (suc i)) P = tt

  no_live : (k : ℕ) (u : Unit) → finite.get (world.inst k).live u ≡ None
  no_live zero u = finite.get-empty unit_cmp u
  no_live (suc zero) u = finite.get-empty unit_cmp u
  no_live (suc (suc i)) u = finite.get-empty unit_cmp u

  no_standby : (u : Unit) (k : ℕ) → finite.get (world.standby k) u ≡ None
  no_standby u zero = finite.get-empty unit_cmp u
  no_standby u (suc zero) = finite.get-empty unit_cmp u
  no_standby u (suc (suc i)) = finite.get-empty unit_cmp u

  at_rest : (u : Unit) → Where (S f g) (is_sys f c.site (packet_numbered items)) u (moves_of (S f g) (A f g) world) [] false
  at_rest u = At_rest (world.target u) [] [] false (record {
    two = omega arith;
    links = λ i j off. nothing_carried ((i == 0) && (j == world.target u));
    labels = λ i j off. tt;
    live = λ k. no_live k u ∙ no_record R (k == world.target u);
    rules = λ k. no_rules k (RestRule (S f g) u);
    target = refl;
    ops = tt;
    done = refl;
  }) refl (λ e. let never : false ≡ true = e in cc)

  pub shown_at_start : AreShown f g (length c.names + 2) scene
  shown_at_start = record {
    switch = switch_is setting;
    controller = controller_is setting;
    owners = owners_are setting;
    instances = λ k two few. instance_is k two;
    every = starts (S f g) (A f g) (is_sys f c.site (packet_numbered items)) world
        (record { shares = refl; links = λ i j off. refl; standby = no_standby }) (λ u. []) (λ u. false)
        (record { global = record { messages = λ i j off. tt; rules = λ k. no_rules k (λ r. r.num < 0); ops = tt }; unit = at_rest });
    done_is = refl;
    rising = subst (λ ns. Rising 0 ns) (same_numbers f g items) (rising_of 0 (map (λ k. k.op) (commands items)) is.ops);
  }

  pub count_at_start : length (first_nodes {F = F} {R = R} alloc c) ≡ length c.names + 2
  count_at_start = let few = length-first_instances F R alloc c (length c.names) in omega (arith, few)

  -- each of the first instances stands at its place
  pub instance_found : (i j : ℕ) (d : Node F R) → j < i → get_or (first_instances alloc c i) j d ≡ Instance (first_instance alloc c j)
  instance_found zero j d few = absurd (omega (arith, few))
  instance_found (suc i) j d few =
      let l = length-first_instances F R alloc c i in
      either_way (nat_lt j i)
      (λ e. get_or_append_left (first_instances alloc c i) (Instance (first_instance alloc c i) ∷ []) d j
      (let k = (Decides-ltb j i).0 e in rw l k) ∙ instance_found i j d ((Decides-ltb j i).0 e))
      (λ e.
      let last : j ≡ i = grind (arith, nat_tests, few, e) in
      subst (λ x. get_or (first_instances alloc c (suc i)) x d ≡ Instance (first_instance alloc c x)) (sym last)
      (subst (λ x. get_or (first_instances {F = F} {R = R} alloc c (suc i)) x d ≡ Instance (first_instance alloc c i)) l
      (get_or-append_seam (first_instances alloc c i) (Instance (first_instance alloc c i)) [] d)))

  nodes_found : (k : ℕ) → k < length c.names + 2 → (d : Node F R) → get_or (first_nodes alloc c) k d ≡ node_of nodes k
  nodes_found zero few d = refl
  nodes_found (suc zero) few d = refl
  nodes_found (suc (suc k)) few d = instance_found (length c.names) k d (omega (arith, few))

  only_input : (i j : ℕ) → (i == 0) && (j == 0) ≡ false → (if (j == 0) && (i == 0) then items else []) ≡ []
  only_input i j off = let swapped : (j == 0) && (i == 0) ≡ false = grind (arith, nat_tests, off) in rw swapped refl

  -- the world at the start is one of a run
  pub start_joined : Joined f g (length c.names + 2) (start setting)
  start_joined =
      let waits = opening_waiting Note (first_nodes {F = F} {R = R} alloc c) items (omega (arith, count_at_start)) in
      record {
        nodes = nodes;
        nodes_are = nodes_found;
        world = world;
        links = λ i j hi hj off. (let none : queue_at (start setting) (at j i) ≡ [] = waits i j ∙ only_input i j off in rw none refl);
        labels = opening_on_links Note (first_nodes {F = F} {R = R} alloc c) items (Label f g) (omega (arith, count_at_start)) (all_labelled setting);
        shown_is = subst (λ xs. AreShown f g (length c.names + 2) (record { nodes = nodes; world = world; log = []; input = xs })) (sym (waits 0 0))
            shown_at_start;
      }
