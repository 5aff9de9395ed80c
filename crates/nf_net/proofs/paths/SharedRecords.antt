-- The records of a unit under a share, at the instances of a world: the live one is at the home and has seen all that was processed, or all but the last
-- packet, whose member has the newer record standing by while one is on its way to the home.
use Rattle.nf_net.proofs.Words.{◌≡◌, ◌≢◌, ℕ, ◌<◌, ◌≤◌, true, false, Option, None, List, [], ◌∷◌, ◌++◌, refl, sym, ap, ◌∙◌, arith, if◌then◌else◌, ◌==◌, ◌-◌}
use Rattle.nf_net.proofs.Words.{nat_lt, slice_get, flat_map, ltb-false, or_left, or_right, nat_tests, Decides-ltb, slice_get_past, Semantics, same_unit}
use Rattle.nf_net.proofs.Words.{is_among, controller_node, instance_node, on_link, Ran, UnitShare, View, has, processed, shape, self, unit_share, as_share}
use Rattle.nf_net.proofs.Words.{ShareAsked, SeeingShare, ran_of, seeing, packets_done, fold_packets, owner, is_of, processed_of, live_in, live_at, standby_in}
use Rattle.nf_net.proofs.Words.{standby_at, Given, S, A, done_same, given, Unit, split}
use Rattle.std.specs.FinMap as finite
use Rattle.proof_machines.proofs.share.Share.{runs}
use Rattle.proof_machines.proofs.share.Stages.{packets}
use Rattle.std.proofs.lemmas.List.{map-append}
use Rattle.proof_machines.proofs.net.Readings.{fold}
use Rattle.proof_machines.proofs.net.UnderReadings.{all_done}
use Rattle.net_world.specs.Records.{shared_in, synced_in, is_to_take}
use Rattle.nf_net.proofs.RunWords.{found_instance, members_few, Reached, IsUnder, HomesTold}
use Rattle.nf_net.proofs.paths.SharedChunks.{given_on, taken_on}
use Rattle.nf_net.proofs.paths.SharedStages.{Comes, From_member, To_home, Ahead, Sees, Sees_all, Is_ahead, sees}

-- the last of those that were done of a unit is the unit's
last_mine : {R : Type 0} (f : Semantics R) (g : Given) (u : Unit) (ds xs : List Ran) (d : Ran) → ran_of (S f g) (A f g) u ds ≡ xs ++ d ∷ []
    → same_unit ((S f g).packet_unit d.0) u ≡ true
last_mine f g u [] [] d e = cc
last_mine f g u [] (y ∷ ys) d e = cc
last_mine f g u (x ∷ ds) xs d e = split (same_unit ((S f g).packet_unit x.0) u)
    (λ b. (if b then x ∷ ran_of (S f g) (A f g) u ds else ran_of (S f g) (A f g) u ds) ≡ xs ++ d ∷ [] → same_unit ((S f g).packet_unit d.0) u ≡ true)
    (λ on q. by_front on (λ ys more. last_mine f g u ds ys d more) xs q) (λ _ q. last_mine f g u ds xs d q) e
  where
    by_front : same_unit ((S f g).packet_unit x.0) u ≡ true
        → ((ys : List Ran) → ran_of (S f g) (A f g) u ds ≡ ys ++ d ∷ [] → same_unit ((S f g).packet_unit d.0) u ≡ true) → (ys : List Ran)
        → x ∷ ran_of (S f g) (A f g) u ds ≡ ys ++ d ∷ [] → same_unit ((S f g).packet_unit d.0) u ≡ true
    by_front on later [] q = let same_one : x ≡ d = cc in ap (λ y. same_unit ((S f g).packet_unit y.0) u) (sym same_one) ∙ on
    by_front on later (y ∷ ys) q = let rest : ran_of (S f g) (A f g) u ds ≡ ys ++ d ∷ [] = cc in later ys rest

module _ {F R : Type 0} (here : Reached F R) (told : HomesTold here) (u : Unit) (x : ShareAsked) (before since : List ℕ)
    (k : IsUnder here u x before since) where
  open here use {setting, n, count, w, nodes, j}
  open setting use {function as f, config as c, items}

  abbrev g : Given
  g = given setting

  abbrev z : SeeingShare
  z = seeing (S f g) (A f g) u x

  abbrev own_share : UnitShare R
  own_share = unit_share (S f g) (A f g) z

  abbrev v : View R
  v = shape own_share k.stage

  -- the home, by its instance
  abbrev pub i0 : ℕ
  i0 = owner c items u w.log

  home_is : instance_node i0 ≡ x.home
  home_is = told u x before since k

  few : (m : ℕ) → has x.members m ≡ true → m < n
  few m inside = members_few setting n count w j (as_share (S f g) (A f g) z v.phase v.queue) k.holds.share m inside

  -- what is kept after packets
  abbrev pub kept : List ℕ → Option R
  kept ps = fold (S f g).F None ps

  kept_runs : (ds : List Ran) → runs (S f g).F None ds ≡ kept (packets ds)
  kept_runs ds = fold_packets (S f g).F None ds

  went_is : processed_of f c items u w.log ≡ packets (processed own_share k.stage)
  went_is = sym (done_same setting n w j u) ∙ sym (packets_done (S f g) (A f g) u j.world.done) ∙ ap packets (all_done (S f g) (A f g) z j.world before since k)

  -- At an instance.
  live_there : (m : ℕ) → 2 ≤ m → m < n → live_in u (slice_get w.nodes m) ≡ (S f g).B.at u (j.world.inst m).live
  live_there m two low = ap (live_in u) (found_instance f g n w nodes j m two low) ∙ ap (λ y. finite.get y.live u) (j.shown_is.instances m two low).outline_is

  standby_there : (m : ℕ) → 2 ≤ m → m < n → standby_in u (slice_get w.nodes m) ≡ (S f g).B.at u (j.world.standby m)
  standby_there m two low = ap (standby_in u) (found_instance f g n w nodes j m two low) ∙ ap (λ t. finite.get t u) (j.shown_is.instances m two low).standby_is

  home_live : live_at w i0 u ≡ v.own x.home
  home_live =
      ap (λ m. live_in u (slice_get w.nodes m)) home_is ∙ live_there x.home (k.insts x.home k.is.home_in) (few x.home k.is.home_in)
      ∙ (rw (self x.home) at (k.holds.own x.home k.is.home_in))

  -- no other has a live record
  pub alone : (i : ℕ) → i ≢ i0 → live_at w i u ≡ None
  alone i off =
      let other : (instance_node i == x.home) ≡ false = (let home = home_is in grind (arith, nat_tests, off, home)) in
      split (nat_lt (instance_node i) n) (λ _. live_at w i u ≡ None)
      (λ e. live_there (instance_node i) (omega arith) ((Decides-ltb (instance_node i) n).0 e) ∙ k.away (instance_node i) other)
      (λ e. ap (live_in u) (slice_get_past w.nodes (instance_node i) (rw nodes (ltb-false (instance_node i) n e))))

  -- a member has processed the last packet, and the home is to take its record
  pub record HomeLacksLast : Type 0 where
    pub last : ℕ
    pub seen : List ℕ
    pub last_is : processed_of f c items u w.log ≡ seen ++ last ∷ []
    pub live : live_at w i0 u ≡ kept seen
    pub member : ℕ
    pub member_is : (A f g).member x.members last ≡ instance_node member
    pub other : member ≢ i0
    pub stands_by : standby_at w member u ≡ kept (processed_of f c items u w.log)
    pub on_its_way : is_to_take w u i0 member ≡ true
    pub its : is_of f c items u last ≡ true
    pub diverts : v.diverts ≡ true

  pub data HasShared : Type 0 where
    Saw_all : live_at w i0 u ≡ kept (processed_of f c items u w.log) → HasShared
    Home_lacks_last : HomeLacksLast → HasShared

  module _ (a : Ahead own_share k.stage) where
    abbrev node : ℕ
    node = own_share.member_of a.last

    inside : has x.members node ≡ true
    inside = k.is.member_in a.last

    two : 2 ≤ node
    two = k.insts node inside

    abbrev m : ℕ
    m = node - 2

    m_is : instance_node m ≡ node
    m_is = let low = two in omega (arith, low)

    apart : (node == x.home) ≡ false
    apart = let off = a.away in grind (arith, nat_tests, off)

    -- where the record is
    comes : Comes own_share k.stage node → is_to_take w u i0 m ≡ true
    comes (From_member r e) =
        let low = two in
        let off_0 : (node == 0) ≡ false = grind (arith, nat_tests, low) in
        let off_1 : (node == 1) ≡ false = grind (arith, nat_tests, low) in
        let on : is_among (flat_map shared_in (on_link w node controller_node)) u ≡ true = given_on here u x before since k
        node 1 (few node inside) (omega (arith, count)) (rw off_0 refl) r (rw (off_0, off_1) e) in
        or_left (is_among (flat_map shared_in (on_link w (instance_node m) controller_node)) u)
        (is_among (flat_map synced_in (on_link w controller_node (instance_node i0))) u)
        (ap (λ q. is_among (flat_map shared_in (on_link w q controller_node)) u) m_is ∙ on)
    comes (To_home r e) =
        let off_0 : (x.home == 0) ≡ false = grind (arith, nat_tests, k.insts x.home k.is.home_in) in
        let on : is_among (flat_map synced_in (on_link w controller_node x.home)) u ≡ true = taken_on here u x before since
        k 1 x.home (omega (arith, count)) (few x.home k.is.home_in) refl r (rw off_0 e) in
        or_right (is_among (flat_map shared_in (on_link w (instance_node m) controller_node)) u)
        (is_among (flat_map synced_in (on_link w controller_node (instance_node i0))) u)
        (ap (λ q. is_among (flat_map synced_in (on_link w controller_node q)) u) home_is ∙ on)

    all_ran : ran_of (S f g) (A f g) u j.world.done ≡ a.seen ++ (a.last, node) ∷ []
    all_ran = all_done (S f g) (A f g) z j.world before since k ∙ a.all

    behind : HomeLacksLast
    behind = record {
      last = a.last;
      seen = packets a.seen;
      last_is = went_is ∙ ap packets a.all ∙ map-append (λ ran. ran.0) a.seen ((a.last, node) ∷ []);
      live = home_live ∙ a.live ∙ kept_runs a.seen;
      member = m;
      member_is = sym m_is;
      other = λ same. a.away (sym m_is ∙ ap instance_node same ∙ home_is);
      stands_by =
          ap (λ q. standby_in u (slice_get w.nodes q)) m_is ∙ standby_there node two (few node inside)
          ∙ (rw apart at (k.holds.own node inside)) ∙ a.own ∙ kept_runs (processed own_share k.stage) ∙ ap kept (sym went_is);
      on_its_way = comes a.comes;
      its = last_mine f g u j.world.done a.seen (a.last, node) all_ran;
      diverts = a.diverts;
    }

  pub has_shared : HasShared
  has_shared = by_stage (sees own_share k.is k.stage k.fits)
    where
      by_stage : Sees own_share k.stage → HasShared
      by_stage (Sees_all e) = Saw_all (home_live ∙ e ∙ kept_runs (processed own_share k.stage) ∙ ap kept (sym went_is))
      by_stage (Is_ahead a) = Home_lacks_last (behind a)
