-- What a unit under a share knows of a share's message: of its own share what the share is, of another's that it has nothing of the unit. It
-- follows from what holds of all shares (`GlobalAll`).
use Rattle.proof_machines.proofs.net.Words.{◌≡◌, ℕ, true, false, Some, None, List, [], ◌∷◌, refl, sym, ap, ◌∙◌, subst, arith, if◌then◌else◌, ◌==◌, nat_tests}
use Rattle.proof_machines.proofs.net.Words.{Decides-eqb, record_at, Each, each_any, SharePhase, has, Sys, found_each, Disjoint, OfShare, GlobalAll, mine}
use Rattle.proof_machines.proofs.net.Words.{as_share, ShareMsg, Shared_on, Diverted_on, same, Sharing, OpenShare, find_share, share_taking, WholeWorld}
use Rattle.proof_machines.proofs.net.Words.{SeeingShare, same_unit-true, either_way, split, false_from_ne_true, Unit}
use Rattle.proof_machines.proofs.net.ShareRows.{taking_each, taking_found}

module _ {R : Type 0} (S : Sys R) (A : Sharing S) (z : SeeingShare) where
  -- on a link to node r
  abbrev pub ShareLabel : ℕ → ShareMsg R → Type 0
  ShareLabel r (Shared_on n home p) = ((n == z.num) ≡ true → same home (r == z.home) ≡ true) × ((n == z.num) ≡ false → mine S A z p ≡ false)
  ShareLabel r (ShareMsg.Install n g from) = ((n == z.num) ≡ true → (g ≡ z.filter) × (from ≡ z.home)) × ((n == z.num) ≡ false → Disjoint S z.filter g)
  ShareLabel r (ShareMsg.Forward n home p to) =
      ((n == z.num) ≡ true → (same home (to == z.home) ≡ true) × (has z.members to ≡ true)) × ((n == z.num) ≡ false → mine S A z p ≡ false)
  ShareLabel r (ShareMsg.Get n g) = (n == z.num) ≡ true → (r ≡ z.home) × (g ≡ z.filter)
  ShareLabel r (ShareMsg.Sync n home cs) = ((n == z.num) ≡ true → same home (r == z.home) ≡ true) × ((n == z.num) ≡ false → record_at z.unit cs ≡ None)
  ShareLabel r m = Prim.Unit {0}

  takes_some : (es : List OpenShare) (n : ℕ) (e : OpenShare) (v : Unit) → find_share es n ≡ Some e → S.takes e.filter v ≡ true
      → (d : OpenShare) × (share_taking S es v ≡ Some d)
  takes_some [] n e v is on = cc
  takes_some (x ∷ es) n e v is on =
      split (S.takes x.filter v) (λ b. (d : OpenShare) × ((if b then Some x else share_taking S es v) ≡ Some d)) (λ _. (x, refl))
      (λ off. split (x.num == n) (λ b. (if b then Some x else find_share es n) ≡ Some e → (d : OpenShare) × (share_taking S es v ≡ Some d))
      (λ _. λ here. let same_is : x ≡ e = cc in let never : false ≡ true = sym off ∙ subst (λ y. S.takes y.filter v ≡ true) (sym same_is) on in cc)
      (λ _. λ there. takes_some es n e v there on) is)

  module _ (w : WholeWorld S A) (g : GlobalAll S A w) (covered : S.takes z.filter z.unit ≡ true) (ph : SharePhase) (q : List ℕ)
      (there : find_share w.shares z.num ≡ Some (as_share S A z ph q)) where
    pub own_is : (n : ℕ) (e : OpenShare) → find_share w.shares n ≡ Some e → (n == z.num) ≡ true → e ≡ as_share S A z ph q
    own_is n e is on =
        let num : n ≡ z.num = (Decides-eqb n z.num).0 on in
        let both : Some e ≡ Some (as_share S A z ph q) = sym is ∙ ap (find_share w.shares) num ∙ there in cc

    pub other_is : (n : ℕ) (e : OpenShare) → find_share w.shares n ≡ Some e → (n == z.num) ≡ false → Disjoint S z.filter e.filter
    other_is n e is off = g.apart z.num n (as_share S A z ph q) e there is (let other : (z.num == n) ≡ false = grind (arith, nat_tests) in other)

    -- what another share takes isn't the unit's
    pub not_mine : (n p : ℕ) (e : OpenShare) → find_share w.shares n ≡ Some e → (n == z.num) ≡ false → S.takes e.filter (S.packet_unit p) ≡ true
        → mine S A z p ≡ false
    not_mine n p e is off takes = false_from_ne_true (mine S A z p)
        (λ on.
        let same_is : S.packet_unit p ≡ z.unit = same_unit-true (S.packet_unit p) z.unit on in
        let its : S.takes e.filter z.unit ≡ true = ap (S.takes e.filter) (sym same_is) ∙ takes in
        let never : true ≡ false = sym its ∙ other_is n e is off z.unit covered in
        cc)

    pub label_of : (r : ℕ) (m : ShareMsg R) → OfShare S w.shares r m → ShareLabel r m
    label_of r (Shared_on n home p) of = (
      (λ on. let e = own_is n of.share of.found on in subst (λ y. same home (r == y.home) ≡ true) e of.says.1),
      (λ off. not_mine n p of.share of.found off of.says.0),
    )
    label_of r (Diverted_on p) of = tt
    label_of r (ShareMsg.Asked x) of = tt
    label_of r (ShareMsg.Install n f from) of = (
      (λ on. let e = own_is n of.share of.found on in (of.says.0 ∙ ap (λ y. y.filter) e, of.says.1 ∙ ap (λ y. y.home) e)),
      (λ off v takes. ap (λ k. S.takes k v) of.says.0 ∙ other_is n of.share of.found off v takes),
    )
    label_of r (ShareMsg.Forward n home p to) of = (
      (λ on. let e = own_is n of.share of.found on in
          (subst (λ y. same home (to == y.home) ≡ true) e of.says.2, subst (λ y. has y.members to ≡ true) e of.says.1)),
      (λ off. not_mine n p of.share of.found off of.says.0),
    )
    label_of r (ShareMsg.Get n f) of = λ on.
        let num : n ≡ z.num = (Decides-eqb n z.num).0 on in let k = of (as_share S A z ph q) (ap (find_share w.shares) num ∙ there) in (k.1, k.0)
    label_of r (ShareMsg.Sync n home cs) of = (
      (λ on. let e = own_is n of.share of.found on in subst (λ y. same home (r == y.home) ≡ true) e of.says.1),
      (λ off. of.says.0 z.unit (other_is n of.share of.found off z.unit covered)),
    )
    label_of r (ShareMsg.Chunks n cs) of = tt
    label_of r (ShareMsg.Shared n c) of = tt
    label_of r (ShareMsg.Synced n) of = tt

    -- the share that takes what the unit's share takes, and one that takes what it doesn't
    pub taking_own : (v : Unit) → S.takes z.filter v ≡ true → share_taking S w.shares v ≡ Some (as_share S A z ph q)
    taking_own v takes =
        let k = takes_some w.shares z.num (as_share S A z ph q) v there takes in
        let found = taking_found S A w.shares v k.0 g.nums_apart k.1 in
        let its = (taking_each S A (λ _. Prim.Unit {0}) w.shares v k.0 (each_any w.shares) k.1).1 in
        either_way (k.0.num == z.num) (λ on. k.1 ∙ ap Some (own_is k.0.num k.0 found on))
        (λ off. let never : true ≡ false = sym its ∙ other_is k.0.num k.0 found off v takes in cc)

    pub taking_other : (v : Unit) (e : OpenShare) → S.takes z.filter v ≡ false → share_taking S w.shares v ≡ Some e → (e.num == z.num) ≡ false
    taking_other v e out is = false_from_ne_true (e.num == z.num)
        (λ on.
        let same_is = own_is e.num e (taking_found S A w.shares v e g.nums_apart is) on in
        let its = (taking_each S A (λ _. Prim.Unit {0}) w.shares v e (each_any w.shares) is).1 in
        let never : true ≡ false = sym its ∙ ap (λ y. S.takes y.filter v) same_is ∙ out in
        cc)

    -- no packet of the unit waits at another share
    pub queue_other : (n : ℕ) (e : OpenShare) → find_share w.shares n ≡ Some e → (n == z.num) ≡ false → Each (λ p. mine S A z p ≡ false) e.queue
    queue_other n e is off = none_in e.queue (found_each (λ e. Each (λ p. S.takes e.filter (S.packet_unit p) ≡ true) e.queue) w.shares n e g.queues is)
      where
        none_in : (ps : List ℕ) → Each (λ p. S.takes e.filter (S.packet_unit p) ≡ true) ps → Each (λ p. mine S A z p ≡ false) ps
        none_in [] h = tt
        none_in (p ∷ ps) h = (not_mine n p e is off h.0, none_in ps h.1)
