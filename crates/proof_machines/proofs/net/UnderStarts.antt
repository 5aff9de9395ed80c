-- A share begins: a unit that rests at its home, and that its filter takes, is under the share (`under_starts`).
use Rattle.proof_machines.proofs.net.Words.{◌≡◌, ℕ, ◌≤◌, ◌<◌, Bool, true, false, Option, Some, None, List, [], ◌∷◌, ◌++◌, map, refl, sym, ap, ◌∙◌, append-nil}
use Rattle.proof_machines.proofs.net.Words.{arith, if◌then◌else◌, ◌&&◌, ◌==◌, nat_tests, Decides-eqb, Steps, firsts, MoveMsg, where_true, add, sent_for, Each}
use Rattle.proof_machines.proofs.net.Words.{Carry, Fence, Install, Stray, View, runs, only, Diverting, packets, shape, IsFront, self, In_packet, Asked}
use Rattle.proof_machines.proofs.net.Words.{Carry_on, Pass_on, Fence_on, Of_move, Sys, num_of, Rest, Below, IsBelow, NothingOf, carries_of, done_u, found_each}
use Rattle.proof_machines.proofs.net.Words.{find_new, Numbered, Disjoint, TakesSome, OfShare, GlobalAll, mine, share_expect, unit_share, move_seen, new_seen}
use Rattle.proof_machines.proofs.net.Words.{share_items, own_of, Any, Old, New, ShareMsg, Shared_on, Diverted_on, ShareAsked, EachNew, olds, Sharing, IsSharing}
use Rattle.proof_machines.proofs.net.Words.{OpenShare, new_share, find_share, WholeWorld, moves_of, begin_share, MayShare, ran_of, SeeingShare, same_unit}
use Rattle.proof_machines.proofs.net.Words.{same_unit-true, false_from_ne_true, Unit, split}
use Rattle.proof_machines.proofs.unit.Machine as moves
use Rattle.proof_machines.proofs.unit.Real
use Rattle.proof_machines.proofs.share.Share.{Ran, Item, after}
use Rattle.proof_machines.proofs.net.ShareRows.{taking_each}
use Rattle.proof_machines.proofs.net.GlobalShares.{not_yet}
use Rattle.proof_machines.proofs.net.ShareLinks.{view_put}
use Rattle.proof_machines.proofs.net.Under.{Under, put_labels}

-- the fold depends on the packets alone
pub fold_packets : {R : Type 0} (F : Steps R) (o : Option R) (ds : List Ran) → runs F o ds ≡ moves.fold F o (packets ds)
fold_packets F o [] = refl
fold_packets F o (d ∷ ds) = fold_packets F (Some (F.step o d.0)) ds

module _ {R : Type 0} (S : Sys R) (A : Sharing S) (u : Unit) where
  -- a unit and the share that is asked for
  abbrev pub seeing : ShareAsked → SeeingShare
  seeing x = record { unit = u; num = x.num; home = x.home; members = x.members; filter = x.filter }

  -- a record that stands by is the fold of a front of what was done
  pub record FrontBy (w : WholeWorld S A) (k : ℕ) : Type 0 where
    pub seen : List Ran
    pub fold : S.B.at u (w.standby k) ≡ runs S.F None seen
    pub front : IsFront seen (ran_of S A u w.done)

  pub packets_done : (ds : List Ran) → packets (ran_of S A u ds) ≡ done_u S u ds
  packets_done [] = refl
  packets_done (d ∷ ds) = elim (same_unit (S.packet_unit d.0) u) as (λ b. packets (if b then d ∷ ran_of S A u ds else ran_of S A u ds)
      ≡ (if b then d.0 ∷ done_u S u ds else done_u S u ds)) [ true ↦ ap (λ v. d.0 ∷ v) (packets_done ds) | false ↦ packets_done ds ]

  module _ (w : WholeWorld S A) (g : GlobalAll S A w) (x : ShareAsked) (fresh : w.next ≤ x.num) (covered : S.takes x.filter u ≡ true)
      (apart : Each (λ e. Disjoint S x.filter e.filter) w.shares) where
    abbrev z : SeeingShare
    z = seeing x

    off : (n : ℕ) → n < w.next → (n == x.num) ≡ false
    off n few = grind (arith, nat_tests, few, fresh)

    -- No message has the new number, and none of a share has anything of the unit
    share_off : (n : ℕ) (e : OpenShare) → find_share w.shares n ≡ Some e → (n == x.num) ≡ false
    share_off n e there = false_from_ne_true (n == x.num)
        (λ on.
        let num : n ≡ x.num = (Decides-eqb n x.num).0 on in
        let never : None ≡ Some e = sym (not_yet w.shares x.num w.next fresh g.shares_below) ∙ ap (find_share w.shares) (sym num) ∙ there in
        cc)

    not_mine : (p : ℕ) → S.takes x.filter (S.packet_unit p) ≡ false → mine S A z p ≡ false
    not_mine p out = false_from_ne_true (mine S A z p)
        (λ on. let never : true ≡ false = sym covered ∙ ap (S.takes x.filter) (sym (same_unit-true (S.packet_unit p) u on)) ∙ out in cc)

    not_taken : (e : OpenShare) (v : Unit) → Disjoint S x.filter e.filter → S.takes e.filter v ≡ true → S.takes x.filter v ≡ false
    not_taken e v d on = false_from_ne_true (S.takes x.filter v) (λ t. let never : true ≡ false = sym on ∙ d v t in cc)

    others_packet : (n p : ℕ) (e : OpenShare) → find_share w.shares n ≡ Some e → S.takes e.filter (S.packet_unit p) ≡ true → mine S A z p ≡ false
    others_packet n p e there on = not_mine p (not_taken e (S.packet_unit p) (found_each (λ e. Disjoint S x.filter e.filter) w.shares n e apart there) on)

    diverted_off : (v : Unit) → TakesSome S w.shares v → S.takes x.filter v ≡ false
    diverted_off v t = let k = taking_each S A (λ e. Disjoint S x.filter e.filter) w.shares v t.0 apart t.1 in not_taken t.0 v k.0 k.1

    new_none : (j : ℕ) (m : ShareMsg R) → OfShare S w.shares j m → Numbered w.next m → new_seen S A z j m ≡ None
    new_none j (Shared_on n home p) of few =
        let other = share_off n of.share of.found in let its = others_packet n p of.share of.found of.says.0 in rw (other, its) refl
    new_none j (Diverted_on p) of few = let out = diverted_off (S.packet_unit p) of.1 in let its = not_mine p out in rw (out, its) refl
    new_none j (ShareMsg.Asked a) of few = refl
    new_none j (ShareMsg.Install n h from) of few = let other = share_off n of.share of.found in rw other refl
    new_none j (ShareMsg.Forward n home p to) of few =
        let other = share_off n of.share of.found in let its = others_packet n p of.share of.found of.says.0 in rw (other, its) refl
    new_none j (ShareMsg.Get n h) of few = let other = off n few in rw other refl
    new_none j (ShareMsg.Sync n home cs) of few = let other = share_off n of.share of.found in rw other refl
    new_none j (ShareMsg.Chunks n cs) of few = let other = off n few in rw other refl
    new_none j (ShareMsg.Shared n c) of few = let other = share_off n of.share of.found in rw other refl
    new_none j (ShareMsg.Synced n) of few = let other = share_off n of.share of.found in rw other refl

    move_none : (m : MoveMsg R) → IsBelow w.next (num_of m) → move_seen S A z m ≡ None
    move_none (MoveMsg.Fenced n) few = let other = off n few in rw other refl
    move_none (MoveMsg.Install n a b) few = let other = off n few in rw other refl
    move_none (MoveMsg.Fence_to n to) few = let other = off n few in rw other refl
    move_none m few = refl

    -- so the unit sees its plain packets
    plain : (i j : ℕ) (ms : List (Any R)) → EachNew (OfShare S w.shares j) ms → EachNew (Numbered w.next) ms → Each (Below w.next) (olds ms)
        → Each (NothingOf S u i) (olds ms) → share_items S A z j ms ≡ map Carry (carries_of S u (olds ms))
    plain i j [] of few below h = refl
    plain i j (New m ∷ ms) of few below h = ap (λ o. add o (share_items S A z j ms)) (new_none j m of.0 few.0) ∙ plain i j ms of.1 few.1 below h
    plain i j (Old (Carry_on p) ∷ ms) of few below h = elim (same_unit (S.packet_unit p) u)
        as (λ b. add (where_true b (Carry p)) (share_items S A z j ms) ≡ map Carry (add (where_true b p) (carries_of S u (olds ms))))
        [ true ↦ ap (λ v. Carry p ∷ v) (plain i j ms of few below.1 h.1) | false ↦ plain i j ms of few below.1 h.1 ]
    plain i j (Old (Pass_on p) ∷ ms) of few below h = ap (λ b. add (where_true b Stray) (share_items S A z j ms)) h.0 ∙ plain i j ms of few below.1 h.1
    plain i j (Old (Fence_on n) ∷ ms) of few below h =
        ap (λ b. add (where_true b Fence) (share_items S A z j ms)) (off n below.0) ∙ plain i j ms of few below.1 h.1
    plain i j (Old (Of_move k m) ∷ ms) of few below h = ap (λ o. add o (share_items S A z j ms)) (move_none m below.0) ∙ plain i j ms of few below.1 h.1
    plain i j (Old (In_packet p) ∷ ms) of few below h = plain i j ms of few below.1 h.1
    plain i j (Old (Asked a) ∷ ms) of few below h = plain i j ms of few below.1 h.1

    abbrev install : List (ℕ × Any R)
    install = (0, New (ShareMsg.Install x.num x.filter x.home)) ∷ []

    install_seen : (j : ℕ) → share_items S A z j (sent_for j install) ≡ (if 0 == j then Install ∷ [] else [])
    install_seen j =
        split (0 == j) (λ b. share_items S A z j (if b then New (ShareMsg.Install x.num x.filter x.home) ∷ [] else []) ≡ (if b then Install ∷ [] else []))
        (λ _. (let num = self x.num in let home = self x.home in rw (num, home) refl)) (λ _. refl)

    map_if : (b : Bool) (l : List ℕ) → map {A = ℕ} {B = Item R} Carry (if b then l else []) ≡ (if b then map Carry l else [])
    map_if true l = refl
    map_if false l = refl

    -- the links at the share's first stage
    first_links : (v : View R) (m : List (Item R)) (i j : ℕ) → 2 ≤ x.home → v.sw ≡ only x.home m
        → v.sc ≡ [] → v.cs ≡ Install ∷ [] → v.to ≡ (λ _. []) → v.back ≡ (λ _. [])
        → (if (i == 0) && (j == x.home) then m else []) ++ (if i == 1 then (if 0 == j then Install ∷ [] else []) else []) ≡ share_expect v i j
    first_links v m i j two sw sc cs to back = rw (sw, sc, cs, to, back) (by_i (i == 0) (i == 1) (j == 1) (j == x.home) (0 == j) (j == 0)
        (grind (arith, nat_tests)) (grind (arith, nat_tests, two)) (grind (arith, nat_tests)))
      where
        by_i : (a b c d e f : Bool) → (a ≡ true → b ≡ false) → (c ≡ true → d ≡ false) → e ≡ f
            → (if a && d then m else []) ++ (if b then (if e then Install ∷ [] else []) else [])
            ≡ (if a then (if c then [] else if d then m else []) else if b then (if f then Install ∷ [] else []) else if c then [] else [])
        by_i true b true d e f ab cd ef = rw (ab refl, cd refl) refl
        by_i true b false d e f ab cd ef = rw (ab refl) (append-nil (if d then m else []))
        by_i false true c d e f ab cd ef = ap (λ t. if t then Install ∷ [] else []) ef
        by_i false false true d e f ab cd ef = refl
        by_i false false false d e f ab cd ef = refl

    some_members : {n : ℕ} → 1 < n → 0 < n
    some_members h = omega (arith, h)

    pub under_starts : IsSharing S A → (may : MayShare S A w x) (d : List moves.Ran) (l : List ℕ) → Rest S u (moves_of S A w) x.home d l
        → ((k : ℕ) → FrontBy w k) → ((v : Unit) → w.target v ≡ 1 → TakesSome S w.shares v) → Under S A z (begin_share S A w x) (firsts d ++ l) []
    under_starts ok may d l h by diverts =
        let ds = ran_of S A u w.done in
        let b : ℕ → List Ran = λ k. (by k).seen in
        let f = unit_share S A z in
        let num = self x.num in
        record {
          is = record { home_in = may.home_in; member_in = λ p. ok.member_in x.members p (some_members may.two); apart = may.apart; two = may.two };
          insts = may.insts;
          covered = covered;
          stage = Diverting ds b l;
          fits = λ k. (by k).front;
          holds = record {
            links = λ i j e. view_put S A z w.link 1 install i j ∙ ap (λ v. v ++ (if i == 1 then share_items S A z j (sent_for j install) else []))
                (plain i j (w.link i j) (g.messages i j e) (g.numbers i j e) (g.moves.messages i j e) (h.labels i j e)
                ∙ ap (λ v. map Carry v) (h.links i j e) ∙ map_if ((i == 0) && (j == x.home)) l)
                ∙ ap (λ v. (if (i == 0) && (j == x.home) then map Carry l else []) ++ (if i == 1 then v else [])) (install_seen j)
                ∙ first_links (shape f (Diverting ds b l)) (map Carry l) i j h.two refl refl refl refl refl;
            own = λ k _. own_first (k == x.home) k refl;
            share = find_new w.shares (new_share x) x.num (not_yet w.shares x.num w.next fresh g.shares_below) num;
            target = h.target;
            diverts = λ v t one. let never : true ≡ false = sym t ∙ diverted_off v (diverts v one) in cc;
            done = refl;
          };
          labels = put_labels S A z w.link 1 install [] refl h.labels tt;
          rules = h.rules;
          ops = h.ops;
          away = λ k out. h.live k ∙ rw out refl;
          before_is = ap (λ v. v ++ l) (sym h.done ∙ sym (packets_done w.done));
          since_is = refl;
        }
      where
        own_first : (b : Bool) (k : ℕ) → (k == x.home) ≡ b
            → own_of S A z b (w.inst k).live (w.standby k) ≡ after (unit_share S A z) (if b then ran_of S A u w.done else (by k).seen)
        own_first true k on = h.live k ∙ ap (λ t. if t then moves.after S.F d else None) on
            ∙ ap (moves.fold S.F None) (sym h.done ∙ sym (packets_done w.done)) ∙ sym (fold_packets S.F None (ran_of S A u w.done))
        own_first false k out = (by k).fold
