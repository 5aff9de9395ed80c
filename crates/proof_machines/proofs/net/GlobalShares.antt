-- What holds of all shares and of their messages stays when one of them changes, or another begins; and what a share's row sends is its own.
use Rattle.proof_machines.proofs.net.Words.{◌≡◌, ℕ, ◌<◌, ◌≤◌, Bool, true, false, Option, Some, None, List, [], ◌∷◌, ◌++◌, length, refl, sym, ap, ◌∙◌, subst}
use Rattle.proof_machines.proofs.net.Words.{arith, if◌then◌else◌, ◌==◌, nat_tests, Chunks, Each, each-append, each_any, SharePhase, has, Filter, Msg, Sys, Open}
use Rattle.proof_machines.proofs.net.Words.{find_op, ctrl_step, num_of, numbered, found, row, SameShare, AreNumbersApart, find_set, set_find, find_more}
use Rattle.proof_machines.proofs.net.Words.{find_old, Opened, Numbered, Within, TakesSome, OfShare, Any, Old, New, ShareMsg, Shared_on, Diverted_on, same}
use Rattle.proof_machines.proofs.net.Words.{Sharing, IsSharing, OpenShare, find_share, set_share, share_taking, Told, same_unit, same_unit-true, split, by_if}
use Rattle.proof_machines.proofs.net.Words.{Unit}
use Rattle.proof_machines.proofs.net.Net as net
use Rattle.proof_machines.proofs.net.Ctrl.{each_write}
use Rattle.proof_machines.proofs.net.NewMessages.{OnNew}
use Rattle.proof_machines.proofs.net.ShareRows.{Tells, ToldOf, SentBy, taking_each}

-- Lists of shares
pub each_set_any : (P : OpenShare → Type 0) (n : ℕ) (ph : SharePhase) (q : List ℕ) → ((e : OpenShare) → P e → P (record e { phase = ph; queue = q }))
    → (es : List OpenShare) → Each P es → Each P (set_share n ph q es)
each_set_any P n ph q step [] h = tt
each_set_any P n ph q step (x ∷ es) h = by_if (Each P) (x.num == n) (step x h.0, h.1) (h.0, each_set_any P n ph q step es h.1)

pub nums_set : (n : ℕ) (ph : SharePhase) (q : List ℕ) (es : List OpenShare) → AreNumbersApart es → AreNumbersApart (set_share n ph q es)
nums_set n ph q [] h = tt
nums_set n ph q (x ∷ es) h = by_if AreNumbersApart (x.num == n) (h.0, h.1)
    (each_set_any (λ d. (x.num == d.num) ≡ false) n ph q (λ d k. k) es h.0, nums_set n ph q es h.1)

pub nums_more : (es : List OpenShare) (x : OpenShare) (b : ℕ) → b ≤ x.num → Each (λ e. e.num < b) es → AreNumbersApart es → AreNumbersApart (es ++ x ∷ [])
nums_more [] x b fresh few h = (tt, tt)
nums_more (e ∷ es) x b fresh few h =
    let less : e.num < b = few.0 in
    let off : (e.num == x.num) ≡ false = grind (arith, nat_tests, less, fresh) in
    (each-append (λ d. (e.num == d.num) ≡ false) es (x ∷ []) h.0 (off, tt), nums_more es x b fresh few.1 h.1)

pub not_yet : (es : List OpenShare) (n b : ℕ) → b ≤ n → Each (λ e. e.num < b) es → find_share es n ≡ None
not_yet [] n b fresh few = refl
not_yet (e ∷ es) n b fresh few =
    let less : e.num < b = few.0 in let off : (e.num == n) ≡ false = grind (arith, nat_tests, less, fresh) in rw off (not_yet es n b fresh few.1)

pub none_set : (n : ℕ) (ph : SharePhase) (q : List ℕ) (es : List OpenShare) (k : ℕ) → find_share es k ≡ None → find_share (set_share n ph q es) k ≡ None
none_set n ph q es k none = by_found (find_share (set_share n ph q es) k) refl
  where
    by_found : (o : Option OpenShare) → find_share (set_share n ph q es) k ≡ o → o ≡ None
    by_found None is = refl
    by_found (Some e) is = let f = set_find n ph q es k e is in let never : None ≡ Some f.share = sym none ∙ f.found in cc

-- Open moves: what holds of each by its number and filter stays
pub ctrl_each : {R : Type 0} (P : Open R → Type 0)
    → ((e : Open R) (ph : Rattle.proof_machines.proofs.unit.Real.MovePhase R) (f : List ℕ) → P e → P (record e { phase = ph; store = f }))
    → (es : List (Open R)) (p : ℕ) (m : Msg R) → Each P es → Each P (ctrl_step es p m).ops
ctrl_each {R} P step es p (net.Of_move g m) h = by_num (num_of m)
  where
    by_move : (n : ℕ) (o : Option (Open R)) → Each P (found es n p m o).ops
    by_move n None = h
    by_move n (Some e) = each_write P n (row e p m).phase (row e p m).store es (λ y _ k. step y (row e p m).phase (row e p m).store k) h

    by_num : (o : Option ℕ) → Each P (numbered es p m o).ops
    by_num None = h
    by_num (Some n) = by_move n (find_op es n)
ctrl_each P step es p (net.In_packet q) h = h
ctrl_each P step es p (net.Asked x) h = h
ctrl_each P step es p (net.Carry_on q) h = h
ctrl_each P step es p (net.Pass_on q) h = h
ctrl_each P step es p (net.Fence_on n) h = h

none_each : {R : Type 0} (es : List (Open R)) (n : ℕ) → find_op es n ≡ None → Each (λ e. (e.op.num == n) ≡ false) es
none_each [] n is = tt
none_each (e ∷ es) n is = split (e.op.num == n) (λ b. (if b then Some e else find_op es n) ≡ None → Each (λ e. (e.op.num == n) ≡ false) (e ∷ es)) (λ _ bad. cc)
    (λ off rest. (off, none_each es n rest)) is

each_none : {R : Type 0} (es : List (Open R)) (n : ℕ) → Each (λ e. (e.op.num == n) ≡ false) es → find_op es n ≡ None
each_none [] n h = refl
each_none (e ∷ es) n h = let off = h.0 in rw off (each_none es n h.1)

pub ops_not_yet : {R : Type 0} (es : List (Open R)) (n b : ℕ) → b ≤ n → Each (λ e. e.op.num < b) es → find_op es n ≡ None
ops_not_yet [] n b fresh few = refl
ops_not_yet (e ∷ es) n b fresh few =
    let less : e.op.num < b = few.0 in let off : (e.op.num == n) ≡ false = grind (arith, nat_tests, less, fresh) in rw off (ops_not_yet es n b fresh few.1)

pub ops_old : {R : Type 0} (es : List (Open R)) (x : Open R) (n : ℕ) → (x.op.num == n) ≡ false → find_op (es ++ x ∷ []) n ≡ find_op es n
ops_old [] x n off = rw off refl
ops_old (e ∷ es) x n off = ap (λ o. if e.op.num == n then Some e else o) (ops_old es x n off)

pub ctrl_none : {R : Type 0} (es : List (Open R)) (p : ℕ) (m : Msg R) (n : ℕ) → find_op es n ≡ None → find_op (ctrl_step es p m).ops n ≡ None
ctrl_none es p m n none = each_none (ctrl_step es p m).ops n (ctrl_each (λ e. (e.op.num == n) ≡ false) (λ e ph f k. k) es p m (none_each es n none))

self : (b : Bool) → same b b ≡ true
self true = refl
self false = refl

module _ {R : Type 0} (S : Sys R) where
  -- Messages: as the shares change
  opened_set : (n : ℕ) (ph : SharePhase) (q : List ℕ) (es : List OpenShare) (k : ℕ) (P : OpenShare → Type 0) → ((d e : OpenShare) → SameShare d e → P e → P d)
      → Opened es k P → Opened (set_share n ph q es) k P
  opened_set n ph q es k P again o =
      let f = find_set n ph q es k o.share o.found in record { share = f.share; found = f.found; says = again f.share o.share f.same o.says }

  same_filter : (d e : OpenShare) (v : Unit) (b : Bool) → SameShare d e → S.takes e.filter v ≡ b → S.takes d.filter v ≡ b
  same_filter d e v b s is = ap (λ g. S.takes g v) s.filter ∙ is

  same_home : (d e : OpenShare) (home : Bool) (j : ℕ) → SameShare d e → same home (j == e.home) ≡ true → same home (j == d.home) ≡ true
  same_home d e home j s is = subst (λ k. same home (j == k) ≡ true) (sym s.home) is

  same_within : (d e : OpenShare) (cs : Chunks R) → SameShare d e → Within S e.filter cs → Within S d.filter cs
  same_within d e cs s w v out = w v (ap (λ g. S.takes g v) (sym s.filter) ∙ out)

  pub taking_set : (n : ℕ) (ph : SharePhase) (q : List ℕ) (es : List OpenShare) (v : Unit) → TakesSome S es v → TakesSome S (set_share n ph q es) v
  taking_set n ph q [] v h = let never : None ≡ Some h.0 = h.1 in cc
  taking_set n ph q (x ∷ es) v h = by_if (λ r. TakesSome S r v) (x.num == n) (first (S.takes x.filter v) refl h.1)
      (later (S.takes x.filter v) refl h.1 (λ is. taking_set n ph q es v (h.0, is)))
    where
      first : (b : Bool) → S.takes x.filter v ≡ b → (if b then Some x else share_taking S es v) ≡ Some h.0
          → TakesSome S (record x { phase = ph; queue = q } ∷ es) v
      first true on is = (record x { phase = ph; queue = q }, rw on refl)
      first false on is = (h.0, rw on is)

      later : (b : Bool) → S.takes x.filter v ≡ b → (if b then Some x else share_taking S es v) ≡ Some h.0
          → (share_taking S es v ≡ Some h.0 → TakesSome S (set_share n ph q es) v) → TakesSome S (x ∷ set_share n ph q es) v
      later true on is more = (x, rw on refl)
      later false on is more = let k = more is in (k.0, rw on k.1)

  pub of_share_set : (n : ℕ) (ph : SharePhase) (q : List ℕ) (es : List OpenShare) (j : ℕ) (m : ShareMsg R) → OfShare S es j m
      → OfShare S (set_share n ph q es) j m
  of_share_set n ph q es j (Shared_on k home p) o = opened_set n ph q es k (λ e. (S.takes e.filter (S.packet_unit p) ≡ true)
      × (same home (j == e.home) ≡ true)) (λ d e s h. (same_filter d e (S.packet_unit p) true s h.0, same_home d e home j s h.1)) o
  of_share_set n ph q es j (Diverted_on p) o = (o.0, taking_set n ph q es (S.packet_unit p) o.1)
  of_share_set n ph q es j (ShareMsg.Asked x) o = tt
  of_share_set n ph q es j (ShareMsg.Install k g from) o =
      opened_set n ph q es k (λ e. (g ≡ e.filter) × (from ≡ e.home)) (λ d e s h. (h.0 ∙ sym s.filter, h.1 ∙ sym s.home)) o
  of_share_set n ph q es j (ShareMsg.Forward k home p to) o =
      opened_set n ph q es k (λ e. (S.takes e.filter (S.packet_unit p) ≡ true) × (has e.members to ≡ true) × (same home (to == e.home) ≡ true))
      (λ d e s h. (same_filter d e (S.packet_unit p) true s h.0, ap (λ ms. has ms to) s.members ∙ h.1, same_home d e home to s h.2)) o
  of_share_set n ph q es j (ShareMsg.Get k g) o = λ e is. let f = set_find n ph q es k e is in let h =
      o f.share f.found in (h.0 ∙ f.same.filter, h.1 ∙ f.same.home)
  of_share_set n ph q es j (ShareMsg.Sync k home cs) o = opened_set n ph q es k (λ e. Within S e.filter cs × (same home (j == e.home) ≡ true))
      (λ d e s h. (same_within d e cs s h.0, same_home d e home j s h.1)) o
  of_share_set n ph q es j (ShareMsg.Chunks k cs) o = λ e is v out.
      let f = set_find n ph q es k e is in o f.share f.found v (ap (λ g. S.takes g v) f.same.filter ∙ out)
  of_share_set n ph q es j (ShareMsg.Shared k c) o = opened_set n ph q es k (λ e. S.takes e.filter c.0 ≡ true) (λ d e s h. same_filter d e c.0 true s h) o
  of_share_set n ph q es j (ShareMsg.Synced k) o = opened_set n ph q es k (λ e. Prim.Unit {0}) (λ d e s h. tt) o

  -- another begins
  opened_more : (es : List OpenShare) (x : OpenShare) (k : ℕ) (P : OpenShare → Type 0) → Opened es k P → Opened (es ++ x ∷ []) k P
  opened_more es x k P o = record { share = o.share; found = find_more es x k o.share o.found; says = o.says }

  taking_more : (es : List OpenShare) (x : OpenShare) (v : Unit) (e : OpenShare) → share_taking S es v ≡ Some e → share_taking S (es ++ x ∷ []) v ≡ Some e
  taking_more [] x v e is = cc
  taking_more (y ∷ es) x v e is = elim (S.takes y.filter v) as (λ b. (if b then Some y else share_taking S es v) ≡ Some e
      → (if b then Some y else share_taking S (es ++ x ∷ []) v) ≡ Some e) [ true ↦ λ there. there | false ↦ λ there. taking_more es x v e there ] is

  pub of_share_more : (es : List OpenShare) (x : OpenShare) (b : ℕ) → b ≤ x.num → (j : ℕ) (m : ShareMsg R) → Numbered b m → OfShare S es j m
      → OfShare S (es ++ x ∷ []) j m
  of_share_more es x b fresh j (Shared_on k home p) few o =
      opened_more es x k (λ e. (S.takes e.filter (S.packet_unit p) ≡ true) × (same home (j == e.home) ≡ true)) o
  of_share_more es x b fresh j (Diverted_on p) few o = (o.0, (o.1.0, taking_more es x (S.packet_unit p) o.1.0 o.1.1))
  of_share_more es x b fresh j (ShareMsg.Asked y) few o = tt
  of_share_more es x b fresh j (ShareMsg.Install k g from) few o = opened_more es x k (λ e. (g ≡ e.filter) × (from ≡ e.home)) o
  of_share_more es x b fresh j (ShareMsg.Forward k home p to) few o =
      opened_more es x k (λ e. (S.takes e.filter (S.packet_unit p) ≡ true) × (has e.members to ≡ true) × (same home (to == e.home) ≡ true)) o
  of_share_more es x b fresh j (ShareMsg.Get k g) few o = λ e is.
      let off : (x.num == k) ≡ false = grind (arith, nat_tests, few, fresh) in o e (sym (find_old es x k off) ∙ is)
  of_share_more es x b fresh j (ShareMsg.Sync k home cs) few o = opened_more es x k (λ e. Within S e.filter cs × (same home (j == e.home) ≡ true)) o
  of_share_more es x b fresh j (ShareMsg.Chunks k cs) few o = λ e is.
      let off : (x.num == k) ≡ false = grind (arith, nat_tests, few, fresh) in o e (sym (find_old es x k off) ∙ is)
  of_share_more es x b fresh j (ShareMsg.Shared k c) few o = opened_more es x k (λ e. S.takes e.filter c.0 ≡ true) o
  of_share_more es x b fresh j (ShareMsg.Synced k) few o = opened_more es x k (λ e. Prim.Unit {0}) o

  -- What a share is told, and what it sends
  module _ (A : Sharing S) where
    one_within : (g : Filter) (c : Unit × R) → S.takes g c.0 ≡ true → Within S g (c ∷ [])
    one_within g c on v out = split (same_unit v c.0) (λ b. (if b then Some c.1 else None) ≡ None)
        (λ is. let same : v ≡ c.0 = same_unit-true v c.0 is in let never : true ≡ false = sym on ∙ ap (S.takes g) (sym same) ∙ out in cc)
        (λ _. refl)

    abbrev pub TakenBy : OpenShare → ℕ → Type 0
    TakenBy e p = S.takes e.filter (S.packet_unit p) ≡ true

    -- on a link to the controller
    pub told_of : (es : List OpenShare) (m : Any R) (e : OpenShare) (t : Told R) → OnNew (OfShare S es 1) m → Tells S A es m e t
        → ToldOf S A e (TakenBy e) (Within S e.filter) t
    told_of es (Old m) e t h is = rw is tt
    told_of es (New (ShareMsg.Chunks n cs)) e t h is = let eq = is.1 in rw eq (h e is.0)
    told_of es (New (ShareMsg.Shared n c)) e t h is =
        let same : h.share ≡ e = (let both = sym h.found ∙ is.0 in cc) in
        rw is.1 (one_within e.filter c (subst (λ d. S.takes d.filter c.0 ≡ true) same h.says))
    told_of es (New (ShareMsg.Synced n)) e t h is = rw is tt
    told_of es (New (Diverted_on p)) e t h is =
        let eq = is.1 in let k = (taking_each S A (λ _. Prim.Unit {0}) es (S.packet_unit p) e (each_any es) is.0).1 in rw eq k
    told_of es m e t h is = absurd is

    -- d is the share e after its step
    pub sent_of : IsSharing S A → (es : List OpenShare) (e d : OpenShare) → find_share es e.num ≡ Some d → SameShare d e → 0 < length e.members
        → (j : ℕ) (m : Any R) → SentBy S A e (TakenBy e) (Within S e.filter) j m → OnNew (OfShare S es j) m
    sent_of ok es e d there s some j (New (ShareMsg.Get n g)) h = λ x is.
        let same : x ≡ d = (let both : Some x ≡ Some d = sym is ∙ ap (find_share es) h.0 ∙ there in cc) in
        (h.1 ∙ sym s.filter ∙ ap (λ y. y.filter) (sym same), h.2 ∙ sym s.home ∙ ap (λ y. y.home) (sym same))
    sent_of ok es e d there s some j (New (ShareMsg.Sync n home cs)) h = record {
      share = d;
      found = ap (find_share es) h.0 ∙ there;
      says = (same_within d e cs s h.1, (let eq : home ≡ (j == d.home) = h.2 ∙ ap (λ k. j == k) (sym s.home) in rw eq (self (j == d.home))));
    }
    sent_of ok es e d there s some j (New (ShareMsg.Forward n home p to)) h = record {
      share = d;
      found = ap (find_share es) h.0 ∙ there;
      says = (
        same_filter d e (S.packet_unit p) true s h.1,
        (let eq = h.2 in ap (λ ms. has ms to) s.members ∙ rw eq (ok.member_in e.members p some)),
        (let eq : home ≡ (to == d.home) = h.3 ∙ ap (λ k. to == k) (sym s.home) in rw eq (self (to == d.home))),
      );
    }
    sent_of ok es e d there s some j (Old m) h = tt
    sent_of ok es e d there s some j m h = absurd h
