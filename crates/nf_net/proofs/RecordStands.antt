-- In every run the record of a unit is live at one instance, or in one chunk on its way, or in both as long as its source is still to
-- remove it. Where a share has the unit, it is live at the home, and may lack the last packet as long as the home is to take a newer one.
use Rattle.nf_net.proofs.Words.{◌≡◌, ◌≢◌, ℕ, ◌<◌, ◌≤◌, true, false, Option, Some, None, List, [], ◌∷◌, ◌++◌, map, refl, sym, ap, ◌∙◌, subst, arith}
use Rattle.nf_net.proofs.Words.{if◌then◌else◌, ◌==◌, ◌-◌, ◌||◌, nat_lt, slice_get, option_to_list, flat_map, ltb-false, or_right, nat_tests, Decides-eqb}
use Rattle.nf_net.proofs.Words.{Decides-ltb, slice_get_past, controller_node, instance_node, is_among, Choice, on_link, State, idle, nil_left, firsts, Kept}
use Rattle.nf_net.proofs.Words.{third_silent, seat_shape, seat_path, Seeing, node_at, side_place, seat_parts, ShareAsked, WhereAll, Apart_from_shares}
use Rattle.nf_net.proofs.Words.{Under_share, job_of, arrivals_in, IsFront, processed_of, owner, live_in, live_at, given_in, removed_by, AllApart, is_sys}
use Rattle.nf_net.proofs.Words.{run_beside, done_same, given, Given, S, A, came_by, Unit, split, Setting, IsCourse, world_of}
use Rattle.std.specs.FinMap as finite
use Rattle.proof_machines.proofs.unit.Machine.{after}
use Rattle.proof_machines.proofs.unit.Lists.{map_nil}
use Rattle.proof_machines.proofs.unit.Kept.{Nowhere, Is_live, On_way, Twice, lives, on_way}
use Rattle.proof_machines.proofs.unit.ToRemove.{ToRemove, Is_given, Is_named, still_to_remove, third_live}
use Rattle.proof_machines.proofs.unit.SeatLaws.{seat_kept}
use Rattle.proof_machines.proofs.net.Readings as readings
use Rattle.proof_machines.proofs.net.Units.{see}
use Rattle.net_world.specs.Input.{packets}
use Rattle.net_world.specs.Fold.{fold}
use Rattle.net_world.specs.Seen.{HasRecord, Sees_all, Lacks_last}
use Rattle.net_world.specs.Records as records
use Rattle.net_world.specs.Records.{is_to_remove, IsNowhereLive, IsLiveAt, HasOneRecord}
use Rattle.nf_net.proofs.paths.ChunkPlaces.{link_spelled, none_on_way, one_on_way}
use Rattle.nf_net.proofs.RunWords.{arrivals_run, Busy, run_busy, Installs, run_installs, HomesOwn, fold_is, Seated, seated, HasSides, Are_there, Rests}
use Rattle.nf_net.proofs.RunWords.{found_instance, one_place, Reached, reached, IsApart, AsMoves, IsUnder}
use Rattle.nf_net.proofs.paths.SeatPaths.{IsOwned, by_came}
use Rattle.nf_net.proofs.paths.SharedChunks.{none_on_way as none_shared}
use Rattle.nf_net.proofs.InstalledShares.{SaysOfShares, says_of_shares}
use Rattle.nf_net.proofs.SharedHomes.{goes_so, homes_own}
use Rattle.nf_net.proofs.paths.SharedRecords.{HasShared, Saw_all, Home_lacks_last, alone, has_shared}

-- none of three, and one of three
record AreNone {R : Type 0} (a b c : Option R) : Type 0 where
  none_a : a ≡ None
  none_b : b ≡ None
  none_c : c ≡ None

are_none : {R : Type 0} (a b c : Option R) → option_to_list a ++ (option_to_list b ++ option_to_list c) ≡ [] → AreNone a b c
are_none None None None e = record { none_a = refl; none_b = refl; none_c = refl }
are_none None None (Some z) e = cc
are_none None (Some y) c e = cc
are_none (Some x) b c e = cc

data IsOneOf {R : Type 0} (r : R) (a b c : Option R) : Type 0 where
  In_a : a ≡ Some r → IsOneOf r a b c
  In_b : b ≡ Some r → IsOneOf r a b c
  In_c : c ≡ Some r → IsOneOf r a b c

one_of : {R : Type 0} (r : R) (a b c : Option R) → option_to_list a ++ (option_to_list b ++ option_to_list c) ≡ r ∷ [] → IsOneOf r a b c
one_of r None None None e = cc
one_of r None None (Some z) e = In_c cc
one_of r None (Some y) c e = In_b cc
one_of r (Some x) b c e = In_a cc

never : {P R : Type 0} (o : Option R) (r : R) → o ≡ None → o ≡ Some r → P
never o r none some = let bad = sym none ∙ some in cc

not_nil : {P R : Type 0} (xs : List R) (r : R) → xs ≡ [] → xs ≡ r ∷ [] → P
not_nil xs r none one = let bad = sym none ∙ one in cc

module _ {F R : Type 0} (here : Reached F R) (in_turn : IsFront (arrivals_in here.w.log) (map (λ p. p.number) (packets here.setting.items))) (u : Unit)
    (at : AsMoves here u) (apart : IsApart here u) where
  open here use {setting, n, count, w, nodes, j}
  open setting use {function as f, config as c, items}

  abbrev g : Given
  g = given setting

  abbrev k : Seated here u
  k = seated here u at

  abbrev x : State R
  x = seat_shape (S f g).F k.seat

  abbrev z : Seeing
  z = see (S f g) (is_sys f g.site g.packet) u k.op k.third

  silent : x.cc ≡ []
  silent = third_silent (S f g).F k.seat

  -- What is live at an instance.
  live_there : (m : ℕ) → 2 ≤ m → m < n → live_in u (slice_get w.nodes m) ≡ (node_at (S f g) z x m).live
  live_there m two few =
      ap (live_in u) (found_instance f g n w nodes j m two few) ∙ ap (λ y. finite.get y.live u) (j.shown_is.instances m two few).outline_is
      ∙ (k.holds.insts m).live

  nowhere : lives x ≡ [] → IsNowhereLive w u
  nowhere none i =
      let three = are_none x.a.live x.b.live x.c.live none in
      split (nat_lt (instance_node i) n) (λ _. live_at w i u ≡ None)
      (λ e. live_there (instance_node i) (omega arith) ((Decides-ltb (instance_node i) n).0 e) ∙ none_at three (instance_node i))
      (λ e. ap (live_in u) (slice_get_past w.nodes (instance_node i) (rw nodes (ltb-false (instance_node i) n e))))
    where
      none_at : AreNone x.a.live x.b.live x.c.live → (m : ℕ) → (node_at (S f g) z x m).live ≡ None
      none_at three m = split (m == k.op.src) (λ t. (if t then x.a else if m == k.op.dst then x.b else if m == k.third then x.c else idle None).live ≡ None)
          (λ _. three.none_a)
          (λ _. split (m == k.op.dst) (λ t. (if t then x.b else if m == k.third then x.c else idle None).live ≡ None) (λ _. three.none_b)
          (λ _. elim (m == k.third) as (λ t. (if t then x.c else idle None).live ≡ None) [ true ↦ three.none_c | false ↦ refl ]))

  -- a unit with a record goes to an instance that is there
  owned : (r : R) → after (S f g).F x.done ≡ Some r → IsOwned here in_turn u at apart
  owned r some = by_came here in_turn u at apart
      (λ all.
      let none : x.done ≡ [] = map_nil _ x.done (nil_left (firsts x.done) (seat_path k.seat) (sym (seat_parts (S f g).F k.seat) ∙ all)) in
      never (after (S f g).F x.done) r (ap (after (S f g).F) none) some)
      (λ h. h)

  -- at a side that is there
  live_one : (r : R) (m : ℕ) → 2 ≤ m → m < n → (node_at (S f g) z x m).live ≡ Some r → IsLiveAt w u (m - 2) r
  live_one r m two few live =
      let at : instance_node (m - 2) ≡ m = omega (arith, two) in
      let there : live_at w (m - 2) u ≡ Some r = ap (λ y. live_in u (slice_get w.nodes y)) at ∙ live_there m two few ∙ live in
      record { there = there; alone = λ i s h. one_place setting n w nodes j u i (m - 2) s r h there }

  at_source : (r : R) → k.op.src < n → x.a.live ≡ Some r → IsLiveAt w u (k.op.src - 2) r
  at_source r few live = let self = k.holds.apart.src in live_one r k.op.src k.holds.nodes.a_is few (rw self live)

  record IsSomewhere (r : R) : Type 0 where
    i : ℕ
    live : IsLiveAt w u i r

  somewhere : (r : R) → after (S f g).F x.done ≡ Some r → lives x ≡ r ∷ [] → IsSomewhere r
  somewhere r some one = by_side (one_of r x.a.live x.b.live x.c.live one)
    where
      own : IsOwned here in_turn u at apart
      own = owned r some

      source_there : HasSides here k.op x → k.op.src < n
      source_there (Are_there e found src dst) = src
      source_there (Rests none_way none_b at_a) = subst (λ m. m < n) (k.holds.target ∙ ap (side_place (S f g) z) at_a) own.few

      destination_there : x.b.live ≡ Some r → HasSides here k.op x → k.op.dst < n
      destination_there live (Are_there e found src dst) = dst
      destination_there live (Rests none_way none_b at_a) = never x.b.live r none_b live

      by_side : IsOneOf r x.a.live x.b.live x.c.live → IsSomewhere r
      by_side (In_a live) = record { i = k.op.src - 2; live = at_source r (source_there k.ends) live }
      by_side (In_b live) =
          let self = k.holds.apart.dst in let off = k.holds.apart.dst_src in
          record { i = k.op.dst - 2; live = live_one r k.op.dst k.holds.nodes.b_is (destination_there live k.ends) (rw (off, self) live) }
      by_side (In_c live) =
          let ac = k.holds.nodes.ac in let bc = k.holds.nodes.bc in
          let off_a : (k.third == k.op.src) ≡ false = grind (arith, nat_tests, ac) in
          let off_b : (k.third == k.op.dst) ≡ false = grind (arith, nat_tests, bc) in
          let self : (k.third == k.third) ≡ true = grind (arith, nat_tests) in
          let few : k.third < n = subst (λ m. m < n) (k.holds.target ∙ ap (side_place (S f g) z) (third_live (S f g).F k.seat r live)) own.few in
          record { i = k.third - 2; live = live_one r k.third k.holds.nodes.c_is few (rw (off_a, off_b, self) live) }

  -- What is on its way.
  none_way : on_way x ≡ [] → records.on_way f w u ≡ []
  none_way none = none_on_way here u apart k.op k.third x k.holds silent none

  one_way : (r : R) → k.op.src < n → k.op.dst < n → on_way x ≡ r ∷ [] → records.on_way f w u ≡ Some (u, r) ∷ []
  one_way r src dst one = one_on_way here u apart k.op k.third x k.holds silent r one src dst

  -- the source is still to remove it
  to_remove : (r : R) → k.op.src < n → ToRemove x.ac x.ca → is_to_remove w u (k.op.src - 2) ≡ true
  to_remove r few h =
      ap (λ m. is_among (flat_map given_in (on_link w m controller_node)) u || is_among (flat_map removed_by (on_link w controller_node m)) u) source_is
      ∙ by_link h
    where
      source_is : instance_node (k.op.src - 2) ≡ k.op.src
      source_is = let two = k.holds.nodes.a_is in omega (arith, two)

      self : (k.op.src == k.op.src) ≡ true
      self = k.holds.apart.src

      off_0 : (k.op.src == 0) ≡ false
      off_0 = let two = k.holds.nodes.a_is in grind (arith, nat_tests, two)

      off_1 : (k.op.src == 1) ≡ false
      off_1 = let two = k.holds.nodes.a_is in grind (arith, nat_tests, two)

      some : 1 < n
      some = omega (arith, count)

      by_link : ToRemove x.ac x.ca → is_among (flat_map given_in (on_link w k.op.src controller_node)) u
          || is_among (flat_map removed_by (on_link w controller_node k.op.src)) u ≡ true
      by_link (Is_given e) =
          let read = (link_spelled here u apart k.op k.third x k.holds k.op.src 1 few some (rw off_0 refl)).given in
          let on : is_among (flat_map given_in (on_link w k.op.src controller_node)) u ≡ true = read ∙ rw (off_0, off_1, self) e in
          rw on refl
      by_link (Is_named e) =
          let read = (link_spelled here u apart k.op k.third x k.holds 1 k.op.src some few refl).removed in
          let on : is_among (flat_map removed_by (on_link w controller_node k.op.src)) u ≡ true = read ∙ rw (off_0, self) e in
          or_right (is_among (flat_map given_in (on_link w k.op.src controller_node)) u)
          (is_among (flat_map removed_by (on_link w controller_node k.op.src)) u) on

  -- the machine's record is the fold of what was processed
  fold_same : after (S f g).F x.done ≡ fold f c items None (processed_of f c items u w.log)
  fold_same =
      ap (readings.fold (S f g).F None) (sym k.holds.done ∙ done_same setting n w j u)
      ∙ sym (fold_is setting None (processed_of f c items u w.log))

  apart_stands : HasOneRecord f w u (fold f c items None (processed_of f c items u w.log))
  apart_stands = by_kept (seat_kept (S f g).F k.seat)
    where
      by_sides : (r : R) → after (S f g).F x.done ≡ Some r → on_way x ≡ r ∷ []
          → (k.op.src < n → k.op.dst < n → HasOneRecord f w u (fold f c items None (processed_of f c items u w.log)))
          → HasSides here k.op x → HasOneRecord f w u (fold f c items None (processed_of f c items u w.log))
      by_sides r some one both (Are_there e found src dst) = both src dst
      by_sides r some one both (Rests none none_b at_a) = not_nil (on_way x) r none one

      by_kept : Kept (after (S f g).F x.done) x.a.live (lives x) (on_way x) → HasOneRecord f w u (fold f c items None (processed_of f c items u w.log))
      by_kept (Nowhere none live way) = records.Has_none (sym fold_same ∙ none) (nowhere live) (none_way way)
      by_kept (Is_live r some live way) = let at = somewhere r some live in records.Is_live at.i r (sym fold_same ∙ some) at.live (none_way way)
      by_kept (On_way r some live way) =
          by_sides r some way (λ src dst. records.Is_on_way r (sym fold_same ∙ some) (nowhere live) (one_way r src dst way)) k.ends
      by_kept (Twice r some at_a live way) = by_sides r some way (λ src dst. records.Is_given (k.op.src - 2) r (sym fold_same ∙ some) (at_source r src at_a)
          (one_way r src dst way) (to_remove r src (still_to_remove (S f g).F k.seat r r [] at_a way))) k.ends

module _ {F R : Type 0} (here : Reached F R) (in_turn : IsFront (arrivals_in here.w.log) (map (λ p. p.number) (packets here.setting.items)))
    (unmixed : AllApart here.j.nodes.controller.operations) (b : Busy (given here.setting) here.w)
    (h : Installs (given here.setting) here.w) (says : SaysOfShares here.setting.function here.setting.config here.setting.items here.w.log) (u : Unit) where
  open here use {setting, n, count, w, j}
  open setting use {function as f, config as c, items}

  abbrev gr : Given
  gr = given setting

  -- by the log
  told : HomesOwn setting n count w j
  told = homes_own setting n count w j unmixed b h says

  abbrev all : List ℕ
  all = processed_of f c items u w.log

  folded : (ps : List ℕ) → fold f c items None ps ≡ readings.fold (S f gr).F None ps
  folded ps = fold_is setting None ps

  -- Under a share.
  module _ (x : ShareAsked) (before since : List ℕ) (k : IsUnder here u x before since) where
    abbrev home : ℕ
    home = owner c items u w.log

    only_home : (i : ℕ) → i ≢ home → live_at w i u ≡ None
    only_home = alone here told u x before since k

    -- the record at the home is all that there is
    one_there : (o : Option R) → live_at w home u ≡ o → HasOneRecord f w u o
    one_there None e = records.Has_none refl nowhere_live (none_shared here u x before since k)
      where
        nowhere_live : IsNowhereLive w u
        nowhere_live i = split (i == home) (λ _. live_at w i u ≡ None) (λ on. ap (λ q. live_at w q u) ((Decides-eqb i home).0 on) ∙ e)
            (λ off. only_home i (λ same. (let never : true ≡ false = sym ((Decides-eqb i home).1 same) ∙ off in cc)))
    one_there (Some r) e =
        records.Is_live home r refl (record { there = e; alone = at_home }) (none_shared here u x before since k)
      where
        at_home : (i : ℕ) (s : R) → live_at w i u ≡ Some s → i ≡ home
        at_home i s live = split (i == home) (λ _. i ≡ home) (λ on. (Decides-eqb i home).0 on)
            (λ off. never (live_at w i u) s (only_home i (λ same. (let bad : true ≡ false = sym ((Decides-eqb i home).1 same) ∙ off in cc))) live)

    shared_stands : HasShared here told u x before since k → HasRecord (job_of f c items) w u
    shared_stands (Saw_all live) = record { seen = all; has_seen = Sees_all refl; one = one_there (fold f c items None all) (live ∙ sym (folded all)) }
    shared_stands (Home_lacks_last y) = record {
      seen = y.seen;
      has_seen = Lacks_last (record {
        last = y.last;
        went_is = y.last_is;
        member = y.member;
        member_is = goes_so setting n count w j unmixed b h says u x before since k y.diverts y.last y.its y.member y.member_is;
        other = y.other;
        stands_by = y.stands_by ∙ sym (folded all);
        on_its_way = y.on_its_way;
      });
      one = one_there (fold f c items None y.seen) (y.live ∙ sym (folded y.seen));
    }

  pub record_stands : HasRecord (job_of f c items) w u
  record_stands = by_where (j.shown_is.every.unit u)
    where
      by_where : WhereAll (S f gr) (A f gr) (is_sys f gr.site gr.packet) u j.world (came_by f gr w.log u) → HasRecord (job_of f c items) w u
      by_where (Apart_from_shares h none) =
          record { seen = all; has_seen = Sees_all refl; one = apart_stands here in_turn u h.is h.untaken }
      by_where (Under_share x before b h o i) = shared_stands x before (came_by f gr w.log u).diverted h
          (has_shared here told u x before (came_by f gr w.log u).diverted h)

-- Of every run.
module _ {F R : Type 0} (setting : Setting F R) (cs : List Choice) (runs : IsCourse setting cs) where
  open setting use {function as f, config as c, items}

  pub records_stand : (u : Unit) → HasRecord (job_of f c items) (world_of setting cs) u
  records_stand = record_stands (reached setting cs runs) (arrivals_run setting cs runs)
      (run_beside setting cs runs).beside.kept.apart (run_busy setting cs runs).1 (run_installs setting cs runs) (says_of_shares setting cs runs)
