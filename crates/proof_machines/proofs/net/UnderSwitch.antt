-- The switch's step is, to a unit under a share, nothing or a move of the share's machine (`switch_goes`).
use Rattle.proof_machines.proofs.net.Words.{◌≡◌, ℕ, ◌≤◌, Bool, true, false, Option, Some, None, List, [], ◌∷◌, ◌++◌, refl, sym, ap, ◌∙◌, subst, arith}
use Rattle.proof_machines.proofs.net.Words.{if◌then◌else◌, ◌&&◌, ◌==◌, nat_tests, Decides-eqb, nat_eq_equiv, neither, record_at, MoveMsg, where_true, add}
use Rattle.proof_machines.proofs.net.Words.{sent_for, off_if, Carry, Fence, Shared, Diverted, Install, Forward, Get, Sync, Fenced, Chunk, Synced, Stray}
use Rattle.proof_machines.proofs.net.Words.{UnitShare, View, Take_cs, has, joined, only, from_cs, Stage, IsShare, shape, self, Filter, Msg, Carry_on, Pass_on}
use Rattle.proof_machines.proofs.net.Words.{Fence_on, Of_move, Sys, IsSys, sw_target, sw_sends, links_after, NothingOf, mine, share_expect, unit_share, fit}
use Rattle.proof_machines.proofs.net.Words.{move_seen, old_seen, new_seen, share_seen, share_items, ShareHolds, Any, Old, New, ShareMsg, Shared_on, Diverted_on}
use Rattle.proof_machines.proofs.net.Words.{same, as_old, Sharing, share_target, share_sends, WholeWorld, whole_switch, SeeingShare, either_way, split, Unit}
use Rattle.proof_machines.proofs.unit.Real
use Rattle.proof_machines.proofs.share.Share.{Item, Item.Chunks}
use Rattle.proof_machines.proofs.net.UntakenSwitch.{sw_same}
use Rattle.proof_machines.proofs.net.OnShareLinks.{To_switch, cs_items}
use Rattle.proof_machines.proofs.net.ShareLinks.{cs_links, quiet_links, view_after, lone_view, Goes, Goes.Nothing, Goes.Moves_so}
use Rattle.proof_machines.proofs.net.ShareLabels.{ShareLabel}
use Rattle.proof_machines.proofs.net.MemberMoves.{Unseen, unseen_view}

module _ {R : Type 0} (S : Sys R) (A : Sharing S) (laws : IsSys S) (z : SeeingShare) where
  abbrev f : UnitShare R
  f = unit_share S A z

  -- no message of a move turns a target into the controller
  abbrev pub NoDiverts : WholeWorld S A → Any R → Type 0
  NoDiverts w (Old m) = (v : Unit) → sw_target S w.target m v ≡ 1 → w.target v ≡ 1
  NoDiverts w (New m) = Prim.Unit {0}

  abbrev targets : WholeWorld S A → Any R → Unit → ℕ
  targets w (Old m) v = sw_target S w.target m v
  targets w (New m) v = share_target S A w.target m v

  abbrev sends_of : Any R → List (ℕ × Any R)
  sends_of (Old m) = as_old (sw_sends m)
  sends_of (New m) = share_sends S A m

  abbrev Next_to : WholeWorld S A → ℕ → Any R → WholeWorld S A
  Next_to w p m = record w { target = λ v. targets w m v; link = links_after w.link p 0 (sends_of m) }

  -- what the switch isn't sent
  abbrev IsNotFor : Option (Item R) → Type 0
  IsNotFor None = Prim.Unit {0}
  IsNotFor (Some it) = To_switch it → ⊥

  not_if : (b : Bool) (it : Item R) → (To_switch it → ⊥) → IsNotFor (where_true b it)
  not_if true it n = n
  not_if false it n = tt

  not_fit : (b : Bool) (it : Item R) → (To_switch it → ⊥) → To_switch (fit S A z b it) → ⊥
  not_fit true it n = n
  not_fit false it n = λ e. e

  not_else : (b : Bool) (q : ℕ) (it : Item R) → (To_switch it → ⊥) → IsNotFor (if b then Some it else where_true (mine S A z q) Stray)
  not_else true q it n = n
  not_else false q it n = not_if (mine S A z q) Stray (λ e. e)

  not_move : (m : MoveMsg R) → IsNotFor (move_seen S A z m)
  not_move (MoveMsg.Fenced n) = not_if (n == z.num) Fenced (λ e. e)
  not_move (MoveMsg.Install n a b) = not_if (n == z.num) Stray (λ e. e)
  not_move (MoveMsg.Fence_to n to) = not_if (n == z.num) Stray (λ e. e)
  not_move m = tt

  not_old : (m : Msg R) → IsNotFor (old_seen S A z m)
  not_old (Carry_on q) = not_if (mine S A z q) (Carry q) (λ e. e)
  not_old (Pass_on q) = not_if (mine S A z q) Stray (λ e. e)
  not_old (Fence_on n) = not_if (n == z.num) Fence (λ e. e)
  not_old (Of_move g m) = not_move m
  not_old m = tt

  -- what the switch sends on a move's message that isn't seen
  sends_unseen : (k : ℕ) (m : Msg R) → NothingOf S z.unit k m → old_seen S A z m ≡ None → Unseen S A z (sw_sends m)
  sends_unseen k (Of_move g (MoveMsg.Forward q to)) l none = (let off = l.1 in rw off refl, tt)
  sends_unseen k (Of_move g (MoveMsg.Install n a b)) l none = (let off = off_if (n == z.num) Stray none in rw off refl, tt)
  sends_unseen k (Of_move g (MoveMsg.Fence_to n to)) l none = (let off = off_if (n == z.num) Stray none in rw off refl, tt)
  sends_unseen k m l none = tt

  -- the fence after an Install, the packet after a Forward
  fence_at : (n from k : ℕ) → (n == z.num) ≡ true → from ≡ z.home
      → share_items S A z k (sent_for k ((from, Old (Fence_on n)) ∷ [])) ≡ only z.home (Fence ∷ []) k
  fence_at n from k on home = lone_view S A z from k (Old (Fence_on n)) ∙ ap (λ b. if from == k then add (where_true b Fence) [] else []) on
      ∙ ap (λ h. if h == k then Fence ∷ [] else []) home ∙ ap (λ b. if b then Fence ∷ [] else []) (nat_eq_equiv.symm z.home k)

  packet_at : (n q to k : ℕ) (home : Bool) → (n == z.num) ≡ true → same home (to == z.home) ≡ true
      → share_items S A z k (sent_for k ((to, New (Shared_on n home q)) ∷ [])) ≡ only to (Shared q ∷ []) k
  packet_at n q to k home on flag =
      lone_view S A z to k (New (Shared_on n home q))
      ∙ split (k == to) (λ b. (if to == k then share_items S A z k (New (Shared_on n home q) ∷ []) else []) ≡ (if b then Shared q ∷ [] else []))
      (λ t. let eq : k ≡ to = (Decides-eqb k to).0 t in let own = self to in rw (eq, own, on, flag) refl)
      (λ off. let other : (to == k) ≡ false = nat_eq_equiv.symm to k ∙ off in rw other refl)

  module _ (is : IsShare f) (insts : (k : ℕ) → has z.members k ≡ true → 2 ≤ k) (covered : S.takes z.filter z.unit ≡ true) (w : WholeWorld S A) (s : Stage R)
      (h : ShareHolds S A z w (shape f s)) (p : ℕ) (p0 : (p == 0) ≡ false) where
    abbrev x : View R
    x = shape f s

    one_not : (k : ℕ) → has z.members k ≡ true → (1 == k) ≡ false
    one_not k inside = let two = insts k inside in grind (arith, nat_tests, two)

    module _ (m : Any R) (rest : List (Any R)) (waits : w.link p 0 ≡ m ∷ rest) where
      abbrev w' : WholeWorld S A
      w' = Next_to w p m

      abbrev left : List (Item R)
      left = share_items S A z 0 rest

      abbrev sent : ℕ → List (Item R)
      sent j = share_items S A z j (sent_for j (sends_of m))

      after_is : (i j : ℕ) → (i == 0) && (j == 0) ≡ false
          → share_items S A z j (w'.link i j) ≡ (if (i == p) && (j == 0) then left else share_expect x i j) ++ (if i == 0 then sent j else [])
      after_is i j e = view_after S A z w.link p 0 m rest (sends_of m) waits i j
          ∙ ap (λ v. (if (i == p) && (j == 0) then left else v) ++ (if i == 0 then sent j else [])) (h.links i j e)

      heads : add (share_seen S A z 0 m) left ≡ share_expect x p 0
      heads = let off : (p == 0) && (0 == 0) ≡ false = rw p0 refl in sym (ap (share_items S A z 0) waits) ∙ h.links p 0 off

      from_ctrl : (it : Item R) → it ∷ left ≡ share_expect x p 0 → (x.cs ≡ it ∷ left) × (p ≡ 1)
      from_ctrl it e =
          split (p == 1) (λ b. it ∷ left ≡ (if false then x.sw 0 else if b then x.cs else []) → (x.cs ≡ it ∷ left) × (p ≡ 1))
          (λ t r. (sym r, (Decides-eqb p 1).0 t))
          (λ _ r. cc) (rw p0 at e)

      -- nothing is seen of what the switch isn't sent
      pub unseen : (o : Option (Item R)) → share_seen S A z 0 m ≡ o → IsNotFor o → share_seen S A z 0 m ≡ None
      unseen None e n = e
      unseen (Some it) e n = absurd (n (cs_items f s it left (from_ctrl it (ap (λ o. add o left) (sym e) ∙ heads)).0))

      quiet : share_seen S A z 0 m ≡ None → ((r : ℕ) → sent r ≡ []) → targets w m z.unit ≡ w.target z.unit
          → ((v : Unit) → S.takes z.filter v ≡ true → targets w m v ≡ 1 → w.target v ≡ 1) → Goes S A z w' x
      quiet none nothing target diverts = Nothing (record {
        links = λ i j e. after_is i j e ∙ quiet_links x p 0 i j left sent (ap (λ o. add o left) (sym none) ∙ heads) nothing;
        own = h.own;
        share = h.share;
        target = target ∙ h.target;
        diverts = λ v t c. h.diverts v t (diverts v t c);
        done = h.done;
      })

      -- an item is seen
      moves_on : (it : Item R) (to : ℕ → List (Item R)) (b : Bool) → share_seen S A z 0 m ≡ Some it
          → from_cs f x (it ∷ left) ≡ record x { cs = left; sw = joined x.sw to; diverts = b } → sent 1 ≡ [] → ((k : ℕ) → sent k ≡ to k)
          → targets w m z.unit ≡ (if b then 1 else z.home) → ((v : Unit) → S.takes z.filter v ≡ true → targets w m v ≡ 1 → b ≡ true) → Goes S A z w' x
      moves_on it to b sees does at_1 at_k target diverts =
          let from = from_ctrl it (ap (λ o. add o left) (sym sees) ∙ heads) in
          Moves_so Take_cs refl (subst (λ ys. ShareHolds S A z w' (from_cs f x ys)) (sym from.0) (subst (λ y. ShareHolds S A z w' y) (sym does) (record {
            links = λ i j e. after_is i j e ∙ subst (λ n. (if (i == n) && (j == 0) then left else share_expect x i j) ++ (if i == 0 then sent j else [])
                ≡ share_expect (record x { cs = left; sw = joined x.sw to; diverts = b }) i j)
                (sym from.1) (cs_links x i j left to sent e at_1 (λ k _ _. at_k k));
            own = h.own;
            share = h.share;
            target = target;
            diverts = diverts;
            done = h.done;
          })))

    old_goes : (k : ℕ) (m : Msg R) (rest : List (Any R)) → w.link p 0 ≡ Old m ∷ rest → NothingOf S z.unit k m → NoDiverts w (Old m)
        → Goes S A z (Next_to w p (Old m)) x
    old_goes k m rest waits l few =
        let none = unseen (Old m) rest waits (old_seen S A z m) refl (not_old m) in
        quiet (Old m) rest waits none (unseen_view S A z (sw_sends m) (sends_unseen k m l none)) (sw_same S A laws z.unit w.target k m l) (λ v _ c. few v c)

    -- a share's message without effect at the switch
    idle : (m : ShareMsg R) (rest : List (Any R)) → w.link p 0 ≡ New m ∷ rest → share_sends S A m ≡ []
        → ((v : Unit) → share_target S A w.target m v ≡ w.target v) → IsNotFor (new_seen S A z 0 m) → Goes S A z (Next_to w p (New m)) x
    idle m rest waits none target never = quiet (New m) rest waits (unseen (New m) rest waits (new_seen S A z 0 m) refl never)
        (λ r. ap (λ xs. share_items S A z r (sent_for r xs)) none) (target z.unit) (λ v _ c. sym (target v) ∙ c)

    installs : (g : Filter) (from t : ℕ) (b : Bool) → t ≡ (if b then 1 else z.home) → from ≡ z.home → S.takes g z.unit ≡ true
        → (if S.takes g z.unit && (t == from) then 1 else t) ≡ 1
    installs g from t true e home takes = elim (S.takes g z.unit && (t == from)) as (λ c. (if c then 1 else t) ≡ 1) [ true ↦ refl | false ↦ e ]
    installs g from t false e home takes = let on : (t == from) ≡ true = (Decides-eqb t from).1 (e ∙ sym home) in rw (takes, on) refl

    install_goes : (n : ℕ) (g : Filter) (from : ℕ) (rest : List (Any R)) → w.link p 0 ≡ New (ShareMsg.Install n g from) ∷ rest
        → ShareLabel S A z 0 (ShareMsg.Install n g from) → Goes S A z (Next_to w p (New (ShareMsg.Install n g from))) x
    install_goes n g from rest waits l = either_way (n == z.num)
        (λ on.
        let own = l.0 on in
        let home : (from == z.home) ≡ true = (Decides-eqb from z.home).1 own.1 in
        let takes : S.takes g z.unit ≡ true = ap (λ k. S.takes k z.unit) own.0 ∙ covered in
        let apart : (1 == z.home) ≡ false = one_not z.home is.home_in in
        moves_on (New (ShareMsg.Install n g from)) rest waits Install (only z.home (Fence ∷ [])) true (rw (on, home) refl) refl (fence_at n from 1 on own.1
        ∙ rw apart refl) (λ k. fence_at n from k on own.1) (installs g from (w.target z.unit) x.diverts h.target own.1 takes) (λ v _ _. refl))
        (λ off.
        let other = l.1 off in
        let none : old_seen S A z (Fence_on n) ≡ None = rw off refl in
        quiet (New (ShareMsg.Install n g from)) rest waits (rw off refl) (λ r. unseen_view S A z ((from, Fence_on n) ∷ []) (none, tt) r)
        (let out = other z.unit covered in rw out refl) (λ v t c. let out = other v t in rw out at c))

    forward_goes : (n q to : ℕ) (home : Bool) (rest : List (Any R)) → w.link p 0 ≡ New (ShareMsg.Forward n home q to) ∷ rest
        → ShareLabel S A z 0 (ShareMsg.Forward n home q to) → Goes S A z (Next_to w p (New (ShareMsg.Forward n home q to))) x
    forward_goes n q to home rest waits l = either_way (n == z.num)
        (λ on.
        let own = l.0 on in
        let flag = own.0 in
        let apart : (1 == to) ≡ false = one_not to own.1 in
        moves_on (New (ShareMsg.Forward n home q to)) rest waits (Forward q to) (only to (Shared q ∷ [])) x.diverts (rw (on, flag) refl) refl
        (packet_at n q to 1 home on flag ∙ rw apart refl) (λ k. packet_at n q to k home on flag) h.target h.diverts)
        (λ off.
        let other = l.1 off in
        quiet (New (ShareMsg.Forward n home q to)) rest waits (rw (off, other) refl)
        (λ r. lone_view S A z to r (New (Shared_on n home q)) ∙ rw (off, other) (neither (to == r))) refl (λ v _ c. c))

    new_goes : (m : ShareMsg R) (rest : List (Any R)) → w.link p 0 ≡ New m ∷ rest → ShareLabel S A z 0 m → Goes S A z (Next_to w p (New m)) x
    new_goes (ShareMsg.Install n g from) rest waits l = install_goes n g from rest waits l
    new_goes (ShareMsg.Forward n home q to) rest waits l = forward_goes n q to home rest waits l
    new_goes (Shared_on n home q) rest waits l = idle (Shared_on n home q) rest waits refl (λ v. refl)
        (not_else (n == z.num) q (fit S A z (same home (0 == z.home)) (Shared q)) (not_fit (same home (0 == z.home)) (Shared q) (λ e. e)))
    new_goes (Diverted_on q) rest waits l =
        idle (Diverted_on q) rest waits refl (λ v. refl) (not_else (S.takes z.filter (S.packet_unit q)) q (Diverted q) (λ e. e))
    new_goes (ShareMsg.Asked a) rest waits l = idle (ShareMsg.Asked a) rest waits refl (λ v. refl) tt
    new_goes (ShareMsg.Get n g) rest waits l = idle (ShareMsg.Get n g) rest waits refl (λ v. refl) (not_if (n == z.num) Get (λ e. e))
    new_goes (ShareMsg.Sync n home cs) rest waits l = idle (ShareMsg.Sync n home cs) rest waits refl (λ v. refl) (not_if (n == z.num)
        (fit S A z (same home (0 == z.home)) (Sync (record_at z.unit cs))) (not_fit (same home (0 == z.home)) (Sync (record_at z.unit cs)) (λ e. e)))
    new_goes (ShareMsg.Chunks n cs) rest waits l =
        idle (ShareMsg.Chunks n cs) rest waits refl (λ v. refl) (not_if (n == z.num) (Chunks (record_at z.unit cs)) (λ e. e))
    new_goes (ShareMsg.Shared n c) rest waits l =
        idle (ShareMsg.Shared n c) rest waits refl (λ v. refl) (not_if (n == z.num) (Chunk (record_at z.unit (c ∷ []))) (λ e. e))
    new_goes (ShareMsg.Synced n) rest waits l = idle (ShareMsg.Synced n) rest waits refl (λ v. refl) (not_if (n == z.num) Synced (λ e. e))

    -- what is known of the message
    abbrev pub LabelAt : ℕ → Any R → Type 0
    LabelAt k (Old m) = NothingOf S z.unit k m
    LabelAt k (New m) = ShareLabel S A z 0 m

    pub switch_goes : (k : ℕ) (m : Any R) (rest : List (Any R)) → w.link p 0 ≡ m ∷ rest → LabelAt k m → NoDiverts w m → Goes S A z (whole_switch S A w p m) x
    switch_goes k (Old m) rest waits l few = old_goes k m rest waits l few
    switch_goes k (New m) rest waits l few = new_goes m rest waits l
