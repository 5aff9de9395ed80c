-- A member takes any message: a unit under a share sees the step of the share's machine, or nothing (`member_sees`).
use Rattle.proof_machines.proofs.net.Words.{◌≡◌, ℕ, Bool, true, false, Option, Some, None, List, [], ◌∷◌, refl, sym, ap, ◌∙◌, subst, arith, if◌then◌else◌, ◌==◌}
use Rattle.proof_machines.proofs.net.Words.{option_to_list, option_map_or, nat_tests, Decides-eqb, both_ways, record_at, where_true, add, sent_for, first}
use Rattle.proof_machines.proofs.net.Words.{first_of_one, record_first, Shared, Diverted, Install, Forward, Get, Sync, Chunk, Synced, Stray, UnitShare}
use Rattle.proof_machines.proofs.net.Words.{member_does, stepped, chunk_of, if_mine, over, Filter, Sys, IsSys, NumberedInstance, process, inst_step, at_node}
use Rattle.proof_machines.proofs.net.Words.{none_mine, mine, unit_share, fit, new_seen, share_items, own_of, Any, Old, New, ShareMsg, Shared_on, Diverted_on}
use Rattle.proof_machines.proofs.net.Words.{same, as_old, Sharing, IsSharing, shared_chunk, MemberTurn, member_step, ran_of, SeeingShare, same_unit_equiv}
use Rattle.proof_machines.proofs.net.Words.{same_unit-true, split}
use Rattle.proof_machines.proofs.unit.Real
use Rattle.proof_machines.proofs.share.Share.{Item, Item.Chunks, Did}
use Rattle.proof_machines.proofs.share.Share as share
use Rattle.proof_machines.proofs.net.ShareLabels.{ShareLabel}

pub same_true : (b : Bool) → same true b ≡ true → b ≡ true
same_true true e = refl
same_true false e = cc

pub same_false : (b : Bool) → same false b ≡ true → b ≡ false
same_false true e = cc
same_false false e = refl

module _ {R : Type 0} (S : Sys R) (A : Sharing S) (laws : IsSys S) (z : SeeingShare) where
  abbrev f : UnitShare R
  f = unit_share S A z

  -- what an instance does on any message
  abbrev pub any_step : NumberedInstance S → S.B.T → Any R → MemberTurn S A
  any_step i standby (Old m) =
      record { live = (inst_step S i m).node.live; standby = standby; sends = as_old (inst_step S i m).sends; ran = (inst_step S i m).ran }
  any_step i standby (New m) = member_step S A i.live standby m

  abbrev pub as_was : Option R → Did R
  as_was r = record { own = r; to_c = []; ran = [] }

  abbrev pub does : ℕ → Option R → Option (Item R) → Did R
  does y r None = as_was r
  does y r (Some it) = member_does f y r it

  -- what the unit sees of a step of node y, whose live table it was
  pub record SeesMember (y : ℕ) (live : S.B.T) (d : MemberTurn S A) (x : Did R) : Type 0 where
    pub own : own_of S A z (y == z.home) d.live d.standby ≡ x.own
    pub away : (y == z.home) ≡ false → S.B.at z.unit d.live ≡ S.B.at z.unit live
    pub to_c : share_items S A z 1 (sent_for 1 d.sends) ≡ x.to_c
    pub others : (r : ℕ) → (r == 1) ≡ false → share_items S A z r (sent_for r d.sends) ≡ []
    pub ran : ran_of S A z.unit (at_node y d.ran) ≡ x.ran

  -- a message to the controller isn't another's
  pub not_others : (m : Any R) (r : ℕ) → (r == 1) ≡ false → share_items S A z r (sent_for r ((1, m) ∷ [])) ≡ []
  not_others m r off = let other : (1 == r) ≡ false = grind (arith, nat_tests) in rw other refl

  -- A packet in a table
  process_at : (t : S.B.T) (p : ℕ) → S.B.at z.unit (process S t p) ≡ (if mine S A z p then Some (S.F.step (S.B.at z.unit t) p) else S.B.at z.unit t)
  process_at t p = laws.written z.unit (S.packet_unit p) (S.F.step (S.B.at (S.packet_unit p) t) p) t ∙ split (mine S A z p)
      (λ b. (if b then Some (S.F.step (S.B.at (S.packet_unit p) t) p) else S.B.at z.unit t)
      ≡ (if b then Some (S.F.step (S.B.at z.unit t) p) else S.B.at z.unit t))
      (λ on. ap (λ u. Some (S.F.step (S.B.at u t) p)) (same_unit-true (S.packet_unit p) z.unit on))
      (λ _. refl)

  process_seen : (y p : ℕ) (t : S.B.T) → S.B.at z.unit (process S t p) ≡ stepped f y (S.B.at z.unit t) p
  process_seen y p t = process_at t p ∙ elim (mine S A z p) as (λ b. (if b then Some (S.F.step (S.B.at z.unit t) p) else S.B.at z.unit t)
      ≡ share.runs S.F (S.B.at z.unit t) (share.at_node y (if b then p ∷ [] else []))) [ true ↦ refl | false ↦ refl ]

  process_other : (p : ℕ) (t : S.B.T) → mine S A z p ≡ false → S.B.at z.unit (process S t p) ≡ S.B.at z.unit t
  process_other p t off = process_at t p ∙ rw off refl

  ran_one : (y p : ℕ) → ran_of S A z.unit (at_node y (p ∷ [])) ≡ share.at_node y (if_mine f p)
  ran_one y p = elim (mine S A z p) as (λ b. (if b then (p, y) ∷ [] else []) ≡ share.at_node y (if b then p ∷ [] else [])) [ true ↦ refl | false ↦ refl ]

  pub ran_at : (y : ℕ) (ps : List ℕ) → ran_of S A z.unit (at_node y ps) ≡ share.at_node y (none_mine S z.unit ps)
  ran_at y [] = refl
  ran_at y (p ∷ ps) = elim (mine S A z p) as (λ b. (if b then (p, y) ∷ ran_of S A z.unit (at_node y ps) else ran_of S A z.unit (at_node y ps))
      ≡ share.at_node y (if b then p ∷ none_mine S z.unit ps else none_mine S z.unit ps))
      [ true ↦ ap (λ v. (p, y) ∷ v) (ran_at y ps) | false ↦ ran_at y ps ]

  -- the chunk of a packet
  chunk_sent : (n p : ℕ) (t : S.B.T)
      → shared_chunk S A n p (process S t p) ≡ (1, New (ShareMsg.Shared n (S.packet_unit p, S.F.step (S.B.at (S.packet_unit p) t) p))) ∷ []
  chunk_sent n p t =
      let is : S.B.at (S.packet_unit p) (process S t p) ≡ Some (S.F.step (S.B.at (S.packet_unit p) t) p) =
      laws.written (S.packet_unit p) (S.packet_unit p) (S.F.step (S.B.at (S.packet_unit p) t) p) t ∙ rw (same_unit_equiv.refl (S.packet_unit p)) refl in
      ap (λ o. option_map_or (λ r. (1, New (ShareMsg.Shared n (S.packet_unit p, r))) ∷ []) o []) is

  chunk_seen : (y p : ℕ) (t : S.B.T)
      → record_at z.unit ((S.packet_unit p, S.F.step (S.B.at (S.packet_unit p) t) p) ∷ []) ≡ chunk_of f p (stepped f y (S.B.at z.unit t) p)
  chunk_seen y p t =
      ap (λ b. if b then Some (S.F.step (S.B.at (S.packet_unit p) t) p) else None) (same_unit_equiv.symm z.unit (S.packet_unit p))
      ∙ split (mine S A z p) (λ b. (if b then Some (S.F.step (S.B.at (S.packet_unit p) t) p) else None)
      ≡ (if b then share.runs S.F (S.B.at z.unit t) (share.at_node y (if b then p ∷ [] else [])) else None))
      (λ on. ap (λ u. Some (S.F.step (S.B.at u t) p)) (same_unit-true (S.packet_unit p) z.unit on))
      (λ _. refl)

  -- Messages of shares
  module _ (ok : IsSharing S A) (y : ℕ) (live standby : S.B.T) where
    abbrev own : Option R
    own = own_of S A z (y == z.home) live standby

    abbrev Sees : ShareMsg R → Option (Item R) → Type 0
    Sees m o = SeesMember y live (member_step S A live standby m) (does y own o)

    -- the chunk as the unit sees it
    shared_to : (n p : ℕ) (t : S.B.T) → (n == z.num) ≡ true
        → share_items S A z 1 (sent_for 1 (shared_chunk S A n p (process S t p))) ≡ Chunk (chunk_of f p (stepped f y (S.B.at z.unit t) p)) ∷ []
    shared_to n p t on = ap (λ xs. share_items S A z 1 (sent_for 1 xs)) (chunk_sent n p t)
        ∙ ap (λ b. add (where_true b (Chunk (record_at z.unit ((S.packet_unit p, S.F.step (S.B.at (S.packet_unit p) t) p) ∷ [])))) []) on
        ∙ ap (λ o. Chunk o ∷ []) (chunk_seen y p t)

    shared_none : (n p : ℕ) (t : S.B.T) → (n == z.num) ≡ false → share_items S A z 1 (sent_for 1 (shared_chunk S A n p (process S t p))) ≡ []
    shared_none n p t off = ap (λ xs. share_items S A z 1 (sent_for 1 xs)) (chunk_sent n p t)
        ∙ ap (λ b. add (where_true b (Chunk (record_at z.unit ((S.packet_unit p, S.F.step (S.B.at (S.packet_unit p) t) p) ∷ [])))) []) off

    shared_others : (n p : ℕ) (t : S.B.T) (r : ℕ) → (r == 1) ≡ false → share_items S A z r (sent_for r (shared_chunk S A n p (process S t p))) ≡ []
    shared_others n p t r off = ap (λ xs. share_items S A z r (sent_for r xs)) (chunk_sent n p t)
        ∙ not_others (New (ShareMsg.Shared n (S.packet_unit p, S.F.step (S.B.at (S.packet_unit p) t) p))) r off

    shared_home : (n p : ℕ) → (n == z.num) ≡ true → (y == z.home) ≡ true → Sees (Shared_on n true p) (Some (Shared p))
    shared_home n p on here = record {
      own = rw here (process_seen y p live);
      away = λ off. absurd (both_ways (y == z.home) off here);
      to_c = rw here (shared_to n p live on);
      others = λ r off. shared_others n p live r off;
      ran = ran_one y p;
    }

    shared_other : (n p : ℕ) → (n == z.num) ≡ true → (y == z.home) ≡ false → Sees (Shared_on n false p) (Some (Shared p))
    shared_other n p on there = record {
      own = rw there (process_seen y p standby);
      away = λ _. refl;
      to_c = rw there (shared_to n p standby on);
      others = λ r off. shared_others n p standby r off;
      ran = ran_one y p;
    }

    own_live : (b : Bool) (t : S.B.T) → S.B.at z.unit t ≡ S.B.at z.unit live → own_of S A z b t standby ≡ own_of S A z b live standby
    own_live true t e = e
    own_live false t e = refl

    own_standby : (b : Bool) (t : S.B.T) → S.B.at z.unit t ≡ S.B.at z.unit standby → own_of S A z b live t ≡ own_of S A z b live standby
    own_standby true t e = refl
    own_standby false t e = e

    shared_else : (n p : ℕ) (home : Bool) → (n == z.num) ≡ false → mine S A z p ≡ false → Sees (Shared_on n home p) None
    shared_else n p true away off = record {
      own = own_live (y == z.home) (process S live p) (process_other p live off);
      away = λ _. process_other p live off;
      to_c = shared_none n p live away;
      others = λ r e. shared_others n p live r e;
      ran = rw off refl;
    }
    shared_else n p false away off = record {
      own = own_standby (y == z.home) (process S standby p) (process_other p standby off);
      away = λ _. refl;
      to_c = shared_none n p standby away;
      others = λ r e. shared_others n p standby r e;
      ran = rw off refl;
    }

    shared_own : (n p : ℕ) (home : Bool) → (n == z.num) ≡ true → same home (y == z.home) ≡ true → Sees (Shared_on n home p) (Some (Shared p))
    shared_own n p true on flag = shared_home n p on (same_true (y == z.home) flag)
    shared_own n p false on flag = shared_other n p on (same_false (y == z.home) flag)

    shared_sees : (n p : ℕ) (home : Bool) → ShareLabel S A z y (Shared_on n home p) → Sees (Shared_on n home p) (new_seen S A z y (Shared_on n home p))
    shared_sees n p home l = split (n == z.num)
        (λ b. Sees (Shared_on n home p) (if b then Some (fit S A z (same home (y == z.home)) (Shared p)) else where_true (mine S A z p) Stray))
        (λ on. let flag = l.0 on in rw flag (shared_own n p home on flag))
        (λ away. let off = l.1 away in rw off (shared_else n p home away off))

    sync_own : (n : ℕ) (home : Bool) (cs : Real.Chunks R) → (n == z.num) ≡ true → same home (y == z.home) ≡ true
        → Sees (ShareMsg.Sync n home cs) (Some (Sync (record_at z.unit cs)))
    sync_own n true cs on flag =
        let here = same_true (y == z.home) flag in
        record {
          own = rw here (ok.replaced z.unit cs live);
          away = λ off. absurd (both_ways (y == z.home) off here);
          to_c = rw on refl;
          others = λ r off. not_others (New (ShareMsg.Synced n)) r off;
          ran = refl;
        }
    sync_own n false cs on flag =
        record {
          own = rw (same_false (y == z.home) flag) (ok.replaced z.unit cs standby);
          away = λ _. refl;
          to_c = rw on refl;
          others = λ r off. not_others (New (ShareMsg.Synced n)) r off;
          ran = refl;
        }

    over_none : (cs : Real.Chunks R) (t : S.B.T) → record_at z.unit cs ≡ None → S.B.at z.unit (A.replace cs t) ≡ S.B.at z.unit t
    over_none cs t none = ok.replaced z.unit cs t ∙ ap (λ o. over o (S.B.at z.unit t)) none

    sync_else : (n : ℕ) (home : Bool) (cs : Real.Chunks R) → (n == z.num) ≡ false → record_at z.unit cs ≡ None → Sees (ShareMsg.Sync n home cs) None
    sync_else n true cs away none = record {
      own = own_live (y == z.home) (A.replace cs live) (over_none cs live none);
      away = λ _. over_none cs live none;
      to_c = rw away refl;
      others = λ r off. not_others (New (ShareMsg.Synced n)) r off;
      ran = refl;
    }
    sync_else n false cs away none = record {
      own = own_standby (y == z.home) (A.replace cs standby) (over_none cs standby none);
      away = λ _. refl;
      to_c = rw away refl;
      others = λ r off. not_others (New (ShareMsg.Synced n)) r off;
      ran = refl;
    }

    sync_sees : (n : ℕ) (home : Bool) (cs : Real.Chunks R) → ShareLabel S A z y (ShareMsg.Sync n home cs)
        → Sees (ShareMsg.Sync n home cs) (new_seen S A z y (ShareMsg.Sync n home cs))
    sync_sees n home cs l = split (n ==
        z.num) (λ b. Sees (ShareMsg.Sync n home cs) (where_true b (fit S A z (same home (y == z.home)) (Sync (record_at z.unit cs)))))
        (λ on. let flag = l.0 on in rw flag (sync_own n home cs on flag))
        (λ away. sync_else n home cs away (l.1 away))

    -- what is selected of the unit
    selected : (g : Filter) → S.takes g z.unit ≡ true → record_at z.unit (S.B.select (S.takes g) live) ≡ S.B.at z.unit live
    selected g takes = record_first z.unit (S.B.select (S.takes g) live)
        ∙ ap first (laws.laws.selected z.unit (S.takes g) live ∙ ap (λ b. option_to_list (if b then S.B.at z.unit live else None)) takes)
        ∙ first_of_one (S.B.at z.unit live)

    get_sees : (n : ℕ) (g : Filter) → S.takes z.filter z.unit ≡ true → ShareLabel S A z y (ShareMsg.Get n g)
        → Sees (ShareMsg.Get n g) (new_seen S A z y (ShareMsg.Get n g))
    get_sees n g covered l = split (n == z.num) (λ b. Sees (ShareMsg.Get n g) (where_true b Get))
        (λ on.
        let k = l on in
        let here : (y == z.home) ≡ true = (Decides-eqb y z.home).1 k.0 in
        let takes : S.takes g z.unit ≡ true = ap (λ h. S.takes h z.unit) k.1 ∙ covered in
        record {
          own = refl;
          away = λ _. refl;
          to_c = ap (λ b. add (where_true b (Chunks (record_at z.unit (S.B.select (S.takes g) live)))) []) on ∙ ap (λ o. Chunks o ∷ []) (selected g takes)
              ∙ rw here refl;
          others = λ r off. not_others (New (ShareMsg.Chunks n (S.B.select (S.takes g) live))) r off;
          ran = refl;
        })
        (λ away. record {
          own = refl;
          away = λ _. refl;
          to_c = rw away refl;
          others = λ r off. not_others (New (ShareMsg.Chunks n (S.B.select (S.takes g) live))) r off;
          ran = refl;
        })

    -- a message that isn't for an instance
    idles : (o : Option (Item R)) → does y own o ≡ as_was own
        → SeesMember y live (record { live = live; standby = standby; sends = []; ran = [] }) (does y own o)
    idles o e = subst (λ d. SeesMember y live (record { live = live; standby = standby; sends = []; ran = [] }) d) (sym e)
        (record { own = refl; away = λ _. refl; to_c = refl; others = λ r _. refl; ran = refl })

    idle_if : (b : Bool) (it : Item R) → member_does f y own it ≡ as_was own → does y own (where_true b it) ≡ as_was own
    idle_if true it e = e
    idle_if false it e = refl

    idle_fit : (b : Bool) (it : Item R) → member_does f y own it ≡ as_was own → member_does f y own (fit S A z b it) ≡ as_was own
    idle_fit true it e = e
    idle_fit false it e = refl

    idle_else : (b : Bool) (p : ℕ) (it : Item R) → member_does f y own it ≡ as_was own
        → does y own (if b then Some it else where_true (mine S A z p) Stray) ≡ as_was own
    idle_else true p it e = e
    idle_else false p it e = idle_if (mine S A z p) Stray refl

    pub member_sees : S.takes z.filter z.unit ≡ true → (m : ShareMsg R) → ShareLabel S A z y m → Sees m (new_seen S A z y m)
    member_sees covered (Shared_on n home p) l = shared_sees n p home l
    member_sees covered (ShareMsg.Sync n home cs) l = sync_sees n home cs l
    member_sees covered (ShareMsg.Get n g) l = get_sees n g covered l
    member_sees covered (Diverted_on p) l = idles (new_seen S A z y (Diverted_on p)) (idle_else (S.takes z.filter (S.packet_unit p)) p (Diverted p) refl)
    member_sees covered (ShareMsg.Asked x) l = idles None refl
    member_sees covered (ShareMsg.Install n g from) l =
        idles (new_seen S A z y (ShareMsg.Install n g from))
        (idle_if (n == z.num) (fit S A z (from == z.home) Install) (idle_fit (from == z.home) Install refl))
    member_sees covered (ShareMsg.Forward n home p to) l = idles (new_seen S A z y (ShareMsg.Forward n home p to))
        (idle_else (n == z.num) p (fit S A z (same home (to == z.home)) (Forward p to)) (idle_fit (same home (to == z.home)) (Forward p to) refl))
    member_sees covered (ShareMsg.Chunks n cs) l = idles (new_seen S A z y (ShareMsg.Chunks n cs)) (idle_if (n == z.num) (Chunks (record_at z.unit cs)) refl)
    member_sees covered (ShareMsg.Shared n c) l = idles (new_seen S A z y (ShareMsg.Shared n c)) (idle_if (n == z.num) (Chunk (record_at z.unit (c ∷ []))) refl)
    member_sees covered (ShareMsg.Synced n) l = idles (new_seen S A z y (ShareMsg.Synced n)) (idle_if (n == z.num) Synced refl)
