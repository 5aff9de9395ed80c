-- What is under way of a unit that no share has is what waits at its seat, in the order of the seat.
use Rattle.nf_net.proofs.Words.{◌≡◌, ◌≢◌, ℕ, ◌<◌, ◌≤◌, Bool, true, false, List, [], ◌∷◌, ◌++◌, map, length, refl, sym, ap, ◌∙◌, subst, append_assoc, append-nil}
use Rattle.nf_net.proofs.Words.{arith, if◌then◌else◌, ◌==◌, ◌&&◌, ◌-◌, nat_lt, slice_get, filter, flat_map, ltb-false, nat_tests, Decides-ltb, slice_get_past}
use Rattle.nf_net.proofs.Words.{filter-append, Packet, unit_at, same_unit-true, Target, is_there, instance_node, State, idle, nil_right, Each, firsts, same_of}
use Rattle.nf_net.proofs.Words.{passes_in, events_in, expect, seat_shape, seat_all, seat_path, none_in, Seeing, node_at, side_place, seat_parts, where_two}
use Rattle.nf_net.proofs.Words.{moves_of, packet_numbered, arrivals_in, installs_in, all_but, passed_in, forwarded_in, handed_over_in, diverted_in, stored_by}
use Rattle.nf_net.proofs.Words.{queued_by, on_links, owner, is_loose, IsFront, is_of, arrived_of, processed_of, in_flight_of, unit_fits, target_node, is_sys}
use Rattle.nf_net.proofs.Words.{unit_is_fit, Given, GenuinePacket, S, A, done_same, given, genuine, Unit, flow_of, split}
use Rattle.std.specs.Prelude.{None}
use Rattle.proof_machines.proofs.unit.Stages as stages
use Rattle.proof_machines.proofs.unit.Path.{carries, forwards, places}
use Rattle.proof_machines.proofs.unit.Sides.{at_side, Last, At_source, At_destination, At_third, SidesStand, seat_stands, Empty, empty_of}
use Rattle.proof_machines.proofs.net.Units.{see}
use Rattle.net_world.specs.Input.{packets}
use Rattle.net_world.specs.Path.{at_instance}
use Rattle.proof_outlines.proofs.joined.Given.{target_by}
use Rattle.proof_outlines.proofs.joined.HandedUnits.{owner_at}
use Rattle.nf_net.proofs.paths.PathPlaces.{passes_are, forwards_are, events_are, diverted_are}
use Rattle.nf_net.proofs.paths.PathSeats.{Seated, seated, stands_at}
use Rattle.nf_net.proofs.paths.PathStores.{store_is, queue_is}
use Rattle.nf_net.proofs.paths.PathSums.{those-but, but_none, but_one}
use Rattle.nf_net.proofs.paths.Reached.{Reached, IsApart, AsMoves}

-- of three lists each is empty
three_nil : (a b c : Bool) (xs ys zs : List ℕ) → xs ≡ [] → ys ≡ [] → zs ≡ [] → (if a then xs else if b then ys else if c then zs else []) ≡ []
three_nil true b c xs ys zs e f h = e
three_nil false true c xs ys zs e f h = f
three_nil false false true xs ys zs e f h = h
three_nil false false false xs ys zs e f h = refl

-- the places of a path, each as the unit sees it
pub those-places : (mine : ℕ → Bool) (p q r s t v x y : List ℕ) → filter mine (p ++ (q ++ (r ++ (s ++ (t ++ (v ++ (x ++ y)))))))
    ≡ filter mine p ++ (filter mine q ++ (filter mine r ++ (filter mine s ++ (filter mine t ++ (filter mine v ++ (filter mine x ++ filter mine y))))))
those-places mine p q r s t v x y =
    filter-append mine p (q ++ (r ++ (s ++ (t ++ (v ++ (x ++ y))))))
    ∙ ap (λ l. filter mine p ++ l) (filter-append mine q (r ++ (s ++ (t ++ (v ++ (x ++ y)))))
    ∙ ap (λ l. filter mine q ++ l) (filter-append mine r (s ++ (t ++ (v ++ (x ++ y))))
    ∙ ap (λ l. filter mine r ++ l) (filter-append mine s (t ++ (v ++ (x ++ y)))
    ∙ ap (λ l. filter mine s ++ l) (filter-append mine t (v ++ (x ++ y))
    ∙ ap (λ l. filter mine t ++ l) (filter-append mine v (x ++ y)
    ∙ ap (λ l. filter mine v ++ l) (filter-append mine x y))))))

module _ {F R : Type 0} (here : Reached F R) (in_turn : IsFront (arrivals_in here.w.log) (map (λ p. p.number) (packets here.setting.items))) (u : Unit)
    (at : AsMoves here u) (apart : IsApart here u) where
  open here use {setting, n, count, w, nodes, j}
  open setting use {function as f, config as c, items}

  abbrev g : Given
  g = given setting

  abbrev mine : ℕ → Bool
  mine = is_of f c items u

  abbrev i0 : ℕ
  i0 = owner c items u w.log

  abbrev k : Seated here u
  k = seated here u at

  abbrev x : State R
  x = seat_shape (S f g).F k.seat

  abbrev way : List ℕ
  way = seat_path k.seat

  abbrev z : Seeing
  z = see (S f g) (is_sys f g.site g.packet) u k.op k.third

  stands : SidesStand x way
  stands = seat_stands (S f g).F k.seat

  -- a unit of which something came: its packets go to its owner, which is there
  pub record IsOwned : Type 0 where
    pub few : j.world.target u < n
    pub own : j.world.target u ≡ instance_node i0

  two : 2 ≤ j.world.target u
  two = where_two (S f g) (is_sys f g.site g.packet) u (moves_of (S f g) (A f g) j.world) (arrived_of f c items u w.log) (is_loose c items u w.log) at

  -- by its target, and the log
  owned_by : (t : Target) → j.world.target u ≡ target_node t → is_there j.nodes.switch t ≡ true → unit_fits f.kind u ≡ true → IsOwned
  owned_by Target.Controller node there fits = absurd (omega (arith, two, node))
  owned_by (Target.Instance i) node there fits =
      let small : nat_lt i (length c.names) ≡ true = subst (λ m. nat_lt i m ≡ true) j.shown_is.switch.instances there in
      let few : instance_node i < n = omega (arith, (Decides-ltb i (length c.names)).0 small, count) in
      let is_at : target_by g u (installs_in w.log) ≡ instance_node i = sym (j.shown_is.owners u fits) ∙ node in
      let owns : i0 ≡ i = owner_at g u (installs_in w.log) i is_at in
      record { few = subst (λ m. m < n) (sym node) few; own = node ∙ ap instance_node (sym owns) }

  known_of : (qs : List Packet) → Each (GenuinePacket f g) qs → (p : ℕ) (ps : List ℕ) → filter mine (map (λ q. q.number) qs) ≡ p ∷ ps → IsOwned
  known_of [] h p ps e = cc
  known_of (q ∷ qs) h p ps e =
      split (mine q.number) (λ b. (if b then q.number ∷ filter mine (map (λ y. y.number) qs) else filter mine (map (λ y. y.number) qs)) ≡ p ∷ ps → IsOwned)
      (λ its _.
      let to = j.shown_is.switch.routes (flow_of c.site q).0 h.0.fits in
      let unit : unit_at f.kind c.site q ≡ u = ap (unit_at f.kind c.site) h.0.same
      ∙ same_unit-true (unit_at f.kind c.site (packet_numbered items q.number)) u its in
      let fits : unit_fits f.kind u ≡ true = subst (λ v. unit_fits f.kind v ≡ true) unit (unit_is_fit f.kind (flow_of c.site q).0 h.0.fits) in
      owned_by to.target (ap j.world.target (sym unit) ∙ to.node) to.there fits) (λ _ rest. known_of qs h.1 p ps rest) e

  pub by_came : {P : Type 0} → (seat_all k.seat ≡ [] → P) → (IsOwned → P) → P
  by_came {P = P} none some = by_list (arrived_of f c items u w.log) refl
    where
      by_list : (ps : List ℕ) → arrived_of f c items u w.log ≡ ps → P
      by_list [] e = none (none_in (seat_all k.seat) (λ p. same_of k.flag (seat_all k.seat) (arrived_of f c items u w.log) k.order p ∙ ap (stages.times p) e))
      by_list (p ∷ ps) e =
          let whole : filter mine (map (λ q. q.number) (packets items)) ≡ p ∷ (ps ++ filter mine in_turn.rest) = ap (filter mine) (sym in_turn.whole)
          ∙ filter-append mine (arrivals_in w.log) in_turn.rest ∙ ap (λ v. v ++ filter mine in_turn.rest) e in
          some (known_of (packets items) (genuine setting) p (ps ++ filter mine in_turn.rest) whole)

  -- what stands at an instance
  abbrev at_one : ℕ → List ℕ
  at_one m = if m == k.op.src then at_side x.a x.sa else if m == k.op.dst then at_side x.b x.sb else if m == k.third then at_side x.c x.sc else []

  side_is : (m : ℕ) → (node_at (S f g) z x m).held ++ carries (expect k.op.src k.op.dst k.third x 0 m) ≡ at_one m
  side_is m = split (m == k.op.src)
      (λ t. (if t then x.a else if m == k.op.dst then x.b else if m == k.third then x.c else idle None).held ++ carries
      (if t then x.sa else if m == k.op.dst then x.sb else if m == k.third then x.sc else []) ≡
      (if t then at_side x.a x.sa else if m == k.op.dst then at_side x.b x.sb else if m == k.third then at_side x.c x.sc else []))
      (λ _. refl)
      (λ _. split (m == k.op.dst)
      (λ t. (if t then x.b else if m == k.third then x.c else idle None).held ++ carries (if t then x.sb else if m == k.third then x.sc else []) ≡
      (if t then at_side x.b x.sb else if m == k.third then at_side x.c x.sc else []))
      (λ _. refl)
      (λ _. elim (m == k.third) as (λ t. (if t then x.c else idle None).held ++ carries (if t then x.sc else [])
      ≡ (if t then at_side x.c x.sc else []))
      [ true ↦ refl | false ↦ refl ]))

  inside : (i : ℕ) → instance_node i < n → filter mine (at_instance w i) ≡ at_one (instance_node i)
  inside i few = stands_at here u apart k.op k.third x k.holds (instance_node i) (omega arith) few ∙ side_is (instance_node i)

  outside : (i : ℕ) → n ≤ instance_node i → filter mine (at_instance w i) ≡ []
  outside i far =
      let past : slice_get w.nodes (instance_node i) ≡ None = slice_get_past w.nodes (instance_node i) (rw nodes far) in
      let off : nat_lt (instance_node i) (length w.nodes) ≡ false = grind (arith, nat_tests, far, nodes) in
      let both : nat_lt 0 (length w.nodes) && nat_lt (instance_node i) (length w.nodes) ≡ false =
      rw off (elim (nat_lt 0 (length w.nodes)) as (λ b. b && false ≡ false) [ true ↦ refl | false ↦ refl ]) in
      rw (past, both) refl

  -- the path has these places
  record Ends (last : List ℕ) : Type 0 where
    joins : filter mine (all_but i0 (at_instance w) (length c.names)) ++ filter mine (at_instance w i0) ≡ last

  -- and nothing of it is with a share
  none_shared : filter mine (flat_map queued_by w.nodes) ++ filter mine (on_links w diverted_in) ≡ []
  none_shared = ap (λ v. v ++ filter mine (on_links w diverted_in)) (queue_is here u apart k.op k.third x k.holds)
      ∙ diverted_are here u apart k.op k.third x k.holds

  placed : (last : List ℕ) → Ends last → way ≡ places x last → in_flight_of f c items u w ≡ way
  placed last ends e =
      those-places mine (on_links w passed_in) (on_links w forwarded_in) (flat_map stored_by w.nodes) (on_links w handed_over_in)
      (all_but i0 (at_instance w) (length c.names)) (at_instance w i0) (flat_map queued_by w.nodes) (on_links w diverted_in)
      ∙ ap (λ v. filter mine (on_links w passed_in) ++ (filter mine (on_links w forwarded_in) ++ (filter mine (flat_map stored_by w.nodes)
      ++ (filter mine (on_links w handed_over_in) ++ (filter mine (all_but i0 (at_instance w) (length c.names)) ++ v)))))
      (ap (λ v. filter mine (at_instance w i0) ++ v) none_shared ∙ append-nil (filter mine (at_instance w i0)))
      ∙ ap (λ v. v ++ (filter mine (on_links w forwarded_in) ++ (filter mine (flat_map stored_by w.nodes)
      ++ (filter mine (on_links w handed_over_in) ++ (filter mine (all_but i0 (at_instance w) (length c.names)) ++ filter mine (at_instance w i0))))))
      (passes_are here u apart k.op k.third x k.holds stands.third stands.handed k.passes_a k.passes_b)
      ∙ ap (λ v. (passes_in x.sa ++ passes_in x.sb) ++ (v ++ (filter mine (flat_map stored_by w.nodes)
      ++ (filter mine (on_links w handed_over_in) ++ (filter mine (all_but i0 (at_instance w) (length c.names)) ++ filter mine (at_instance w i0))))))
      (forwards_are here u apart k.op k.third x k.holds stands.known)
      ∙ ap (λ v. (passes_in x.sa ++ passes_in x.sb) ++ (forwards x.cs
      ++ (v ++ (filter mine (on_links w handed_over_in) ++ (filter mine (all_but i0 (at_instance w) (length c.names)) ++ filter mine (at_instance w i0))))))
      (store_is here u apart k.op k.third x k.holds stands.released)
      ∙ ap (λ v. (passes_in x.sa ++ passes_in x.sb)
      ++ (forwards x.cs ++ (x.store ++ (v ++ (filter mine (all_but i0 (at_instance w) (length c.names)) ++ filter mine (at_instance w i0))))))
      (events_are here u apart k.op k.third x k.holds stands.events_b stands.events_c k.events_a)
      ∙ ap (λ v. (passes_in x.sa ++ passes_in x.sb) ++ (forwards x.cs ++ (x.store ++ (events_in x.ac ++ v)))) ends.joins
      ∙ append_assoc (passes_in x.sa) (passes_in x.sb) (forwards x.cs ++ (x.store ++ (events_in x.ac ++ last)))
      ∙ sym e

  but : (of : List ℕ) → all_but i0 (λ i. filter mine (at_instance w i)) (length c.names) ≡ of → filter mine (all_but i0 (at_instance w) (length c.names)) ≡ of
  but of e = those-but mine i0 (at_instance w) (length c.names) ∙ e

  -- nothing of the unit is under way
  nowhere : way ≡ [] → in_flight_of f c items u w ≡ way
  nowhere none =
      let empty = empty_of x way stands.last none in
      let no_side : (m : ℕ) → at_one m ≡ [] = λ m. no_one m empty in
      let none_at : (i : ℕ) → filter mine (at_instance w i) ≡ [] = λ i. split (nat_lt (instance_node i) n) (λ _. filter mine (at_instance w i) ≡ [])
      (λ e. inside i ((Decides-ltb (instance_node i) n).0 e) ∙ no_side (instance_node i)) (λ e. outside i (ltb-false (instance_node i) n e)) in
      placed [] (record {
        joins = ap (λ v. v ++ filter mine (at_instance w i0))
            (but [] (but_none i0 (λ i. filter mine (at_instance w i)) (length c.names) (λ i _ _. none_at i))) ∙ none_at i0;
      }) (none ∙ sym (rw (empty.passes_a, empty.passes_b, empty.forwards_s, empty.store, empty.events_a) refl))
    where
      no_one : (m : ℕ) → Empty x → at_one m ≡ []
      no_one m empty =
          three_nil (m == k.op.src) (m == k.op.dst) (m == k.third) (at_side x.a x.sa) (at_side x.b x.sb) (at_side x.c x.sc) empty.at_a empty.at_b empty.at_c

  -- at the sides
  at_source : at_one k.op.src ≡ at_side x.a x.sa
  at_source = let self = k.holds.apart.src in rw self refl

  at_destination : at_one k.op.dst ≡ at_side x.b x.sb
  at_destination = let self = k.holds.apart.dst in let off = k.holds.apart.dst_src in rw (off, self) refl

  at_third : at_one k.third ≡ at_side x.c x.sc
  at_third =
      let off_a : (k.third == k.op.src) ≡ false = grind (arith, nat_tests, k.holds.nodes.ac) in
      let off_b : (k.third == k.op.dst) ≡ false = grind (arith, nat_tests, k.holds.nodes.bc) in
      let self : (k.third == k.third) ≡ true = grind (arith, nat_tests) in
      rw (off_a, off_b, self) refl

  -- where a side isn't, and what the others have
  not_source : (m : ℕ) → m ≢ k.op.src → at_side x.b x.sb ≡ [] → at_side x.c x.sc ≡ [] → at_one m ≡ []
  not_source m off none_b none_c =
      let out : (m == k.op.src) ≡ false = grind (arith, nat_tests, off) in
      rw out (three_nil false (m == k.op.dst) (m == k.third) [] (at_side x.b x.sb) (at_side x.c x.sc) refl none_b none_c)

  not_either : (m : ℕ) → m ≢ k.op.src → m ≢ k.op.dst → at_side x.c x.sc ≡ [] → at_one m ≡ []
  not_either m off_a off_b none_c =
      let out_a : (m == k.op.src) ≡ false = grind (arith, nat_tests, off_a) in
      let out_b : (m == k.op.dst) ≡ false = grind (arith, nat_tests, off_b) in
      rw (out_a, out_b) (three_nil false false (m == k.third) [] [] (at_side x.c x.sc) refl refl none_c)

  not_third : (m : ℕ) → m ≢ k.third → at_side x.a x.sa ≡ [] → at_side x.b x.sb ≡ [] → at_one m ≡ []
  not_third m off none_a none_b =
      let out : (m == k.third) ≡ false = grind (arith, nat_tests, off) in
      rw out (three_nil (m == k.op.src) (m == k.op.dst) false (at_side x.a x.sa) (at_side x.b x.sb) [] none_a none_b refl)

  few_of : (i : ℕ) → i < length c.names → instance_node i < n
  few_of i small = omega (arith, small, count)

  -- the unit goes to its owner
  somewhere : IsOwned → in_flight_of f c items u w ≡ way
  somewhere owned = by_last stands.last
    where
      own_few : instance_node i0 < n
      own_few = subst (λ m. m < n) owned.own owned.few

      by_last : Last x way → in_flight_of f c items u w ≡ way
      by_last (At_source t none_b none_c e) =
          let at : instance_node i0 ≡ k.op.src = sym owned.own ∙ k.holds.target ∙ ap (side_place (S f g) z) t in
          let others : all_but i0 (λ i. filter mine (at_instance w i)) (length c.names) ≡ [] = but_none i0
          (λ i. filter mine (at_instance w i)) (length c.names)
          (λ i small off. inside i (few_of i small) ∙ not_source (instance_node i) (λ same. off (omega (arith, same, at))) none_b none_c) in
          placed (at_side x.a x.sa)
          (record { joins = ap (λ v. v ++ filter mine (at_instance w i0)) (but [] others) ∙ inside i0 own_few ∙ ap at_one at ∙ at_source }) e
      by_last (At_destination t none_c e) =
          let at : instance_node i0 ≡ k.op.dst = sym owned.own ∙ k.holds.target ∙ ap (side_place (S f g) z) t in
          let src = k.source t in
          let two = k.holds.nodes.a_is in
          let ab = k.holds.nodes.ab in
          let m : ℕ = k.op.src - 2 in
          let m_is : instance_node m ≡ k.op.src = omega (arith, two) in
          let others : all_but i0 (λ i. filter mine (at_instance w i)) (length c.names) ≡ filter mine (at_instance w m) = but_one i0 m
          (λ i. filter mine (at_instance w i)) (length c.names) (omega (arith, src, count, two)) (λ same. ab (sym m_is ∙ ap instance_node same ∙ at))
          (λ i small off apart. inside i (few_of i small)
          ∙ not_either (instance_node i) (λ same. apart (omega (arith, same, m_is))) (λ same. off (omega (arith, same, at))) none_c) in
          placed (at_side x.a x.sa ++ at_side x.b x.sb) (record {
            joins = ap (λ v. v ++ filter mine (at_instance w i0)) (but (filter mine (at_instance w m)) others)
                ∙ ap (λ v. v ++ filter mine (at_instance w i0)) (inside m (subst (λ q. q < n) (sym m_is) src) ∙ ap at_one m_is ∙ at_source)
                ∙ ap (λ v. at_side x.a x.sa ++ v) (inside i0 own_few ∙ ap at_one at ∙ at_destination);
          }) e
      by_last (At_third t none_a none_b e) =
          let at : instance_node i0 ≡ k.third = sym owned.own ∙ k.holds.target ∙ ap (side_place (S f g) z) t in
          let others : all_but i0 (λ i. filter mine (at_instance w i)) (length c.names) ≡ [] = but_none i0 (λ i. filter mine (at_instance w i))
          (length c.names) (λ i small off. inside i (few_of i small) ∙ not_third (instance_node i) (λ same. off (omega (arith, same, at))) none_a none_b) in
          placed (at_side x.c x.sc)
          (record { joins = ap (λ v. v ++ filter mine (at_instance w i0)) (but [] others) ∙ inside i0 own_few ∙ ap at_one at ∙ at_third }) e

  path_is : in_flight_of f c items u w ≡ way
  path_is = by_came (λ all. nowhere (nil_right (firsts x.done) way (sym (seat_parts (S f g).F k.seat) ∙ all))) somewhere

  pub all_is : processed_of f c items u w.log ++ in_flight_of f c items u w ≡ seat_all k.seat
  all_is =
      ap (λ v. v ++ in_flight_of f c items u w) (sym (done_same setting n w j u) ∙ k.holds.done)
      ∙ ap (λ v. firsts x.done ++ v) path_is ∙ sym (seat_parts (S f g).F k.seat)
