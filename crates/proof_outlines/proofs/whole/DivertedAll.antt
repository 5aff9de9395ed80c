-- The controller's step on a packet whose target it is: the share whose filter matches the packet's flow is the one that takes its unit.
use Rattle.proof_outlines.proofs.Words.{◌≡◌, ℕ, ◌<◌, Bool, true, false, cond, Option, Some, None, List, [], ◌∷◌, ◌++◌, refl, sym, ap, ◌∙◌, subst, arith, T}
use Rattle.proof_outlines.proofs.Words.{if◌then◌else◌, ◌==◌, find, option_map, unwrap_or, nat_cmp, eq_by_cmp, is_lt, nat_tests, Filter, Flow, Packet, Site}
use Rattle.proof_outlines.proofs.Words.{matches, flow_of, Semantics, unit_at, FullCell, stored_of, ShareState, Operation, Share, is_shared_by, share_of}
use Rattle.proof_outlines.proofs.Words.{ControllerState, queue_step, on_diverted, Each, each_any, Sys, Open, AreNumbersApart, taking_each, taking_found, New}
use Rattle.proof_outlines.proofs.Words.{Diverted_on, Sharing, OpenShare, find_share, share_taking, Has_packet, share_row, by_share, split, Unit}
use Rattle.std.specs.FinMap as finite
use Rattle.std.specs.FinMap.Entries.{below_all}
use Rattle.std.proofs.Math.Facts.{and_yes}
use Rattle.copy_share.specs.Share as real
use Rattle.proof_outlines.proofs.outline.FiltersApart.{is_whole, takes_whole, whole_takes}
use Rattle.proof_outlines.proofs.outline.Outline.{number, sys}
use Rattle.proof_outlines.proofs.outline.InstanceOutline.{IsGenuine}
use Rattle.proof_outlines.proofs.whole.WholeOutline.{sharing}
use Rattle.proof_outlines.proofs.whole.ShareOutline.{ShareFollows, outline_share, packet_rows}
use Rattle.proof_outlines.proofs.whole.OpenShares.{OpensAll, both, real_share, all_step, StepFollows}
use Rattle.proof_outlines.proofs.whole.ShareTurns.{share_queued}

pub is_less : (a b : ℕ) → T (is_lt (nat_cmp a b)) → a < b
is_less a b h = grind (arith, nat_tests)

module _ (test : Operation → Bool) where
  abbrev first : List (ℕ × Operation) → Option (ℕ × Operation)
  first es = find (λ e. test e.1) es

  above : (j : ℕ) (es : List (ℕ × Operation)) (x : ℕ × Operation) → T (below_all nat_cmp j es) → first es ≡ Some x → j < x.0
  above j [] x below is = cc
  above j (e ∷ es) x below is = split (test e.1) (λ b. (if b then Some e else first es) ≡ Some x → j < x.0)
      (λ _. λ here. let same : e ≡ x = ap (λ o. unwrap_or o e) here in
      subst (λ y. j < y.0) same (is_less j e.0 (and_yes (is_lt (nat_cmp j e.0)) (below_all nat_cmp j es) below).0))
      (λ _. λ rest. above j es x (and_yes (is_lt (nat_cmp j e.0)) (below_all nat_cmp j es) below).1 rest) is

  first_found : (es : List (ℕ × Operation)) (x : ℕ × Operation) → T (finite.is_sorted nat_cmp es) → first es ≡ Some x
      → (test x.1 ≡ true) × (finite.find nat_cmp x.0 es ≡ Some x.1)
  first_found [] x sorted is = cc
  first_found (e ∷ es) x sorted is = split (test e.1) (λ b. (if b then Some e else first es) ≡ Some x → (test x.1 ≡ true)
      × (finite.find nat_cmp x.0 (e ∷ es) ≡ Some x.1))
      (λ on here.
      let same : e ≡ x = ap (λ o. unwrap_or o e) here in
      let self : eq_by_cmp nat_cmp e.0 e.0 ≡ true = grind (arith, nat_tests) in
      let found : finite.find nat_cmp e.0 (e ∷ es) ≡ Some e.1 = ap (λ b. cond b (Some e.1) (finite.find nat_cmp e.0 es)) self in
      subst (λ y. (test y.1 ≡ true) × (finite.find nat_cmp y.0 (e ∷ es) ≡ Some y.1)) same (on, found))
      (λ off rest.
      let more = first_found es x (and_yes (below_all nat_cmp e.0 es) (finite.is_sorted nat_cmp es) sorted).1 rest in
      let higher : e.0 < x.0 = above e.0 es x (and_yes (below_all nat_cmp e.0 es) (finite.is_sorted nat_cmp es) sorted).0 rest in
      let other : eq_by_cmp nat_cmp x.0 e.0 ≡ false = grind (arith, nat_tests, higher) in
      (more.0, ap (λ b. cond b (Some e.1) (finite.find nat_cmp x.0 es)) other ∙ more.1)) is

  none_passes : (es : List (ℕ × Operation)) (k : ℕ) (v : Operation) → first es ≡ None → finite.find nat_cmp k es ≡ Some v → test v ≡ false
  none_passes [] k v none there = cc
  none_passes (e ∷ es) k v none there = split (test e.1) (λ b. (if b then Some e else first es) ≡ None → test v ≡ false) (λ _ bad. cc)
      (λ out more. split (eq_by_cmp nat_cmp k e.0) (λ b. cond b (Some e.1) (finite.find nat_cmp k es) ≡ Some v → test v ≡ false)
      (λ _. λ is. let same : e.1 ≡ v = cc in subst (λ y. test y ≡ false) same out) (λ _. λ is. none_passes es k v more is) there) none

-- a share whose filter takes a unit is among those that do
takes_some : {R : Type 0} (S : Sys R) (es : List OpenShare) (n : ℕ) (e : OpenShare) (v : Unit) → find_share es n ≡ Some e → S.takes e.filter v ≡ true
    → share_taking S es v ≡ None → ⊥
takes_some S [] n e v is on none = cc
takes_some S (x ∷ es) n e v is on none = split (S.takes x.filter v) (λ b. (if b then Some x else share_taking S es v) ≡ None → ⊥) (λ _ bad. cc)
    (λ off rest. split (x.num == n) (λ b. (if b then Some x else find_share es n) ≡ Some e → ⊥)
    (λ _. λ here. let same : x ≡ e = cc in let never : false ≡ true = sym off ∙ ap (λ y. S.takes y.filter v) same ∙ on in cc)
    (λ _. λ there. takes_some S es n e v there on rest) is) none

module _ {R : Type 0} (f : Semantics R) (at : Site) (packet : ℕ → Packet) (place : List ℕ → Option ℕ) (c : ControllerState) (ops : List (Open R))
    (shares : List OpenShare) (h : OpensAll f place at ops shares c) where
  abbrev S : Sys R
  S = sys f at packet

  abbrev A : Sharing S
  A = sharing f at packet

  -- open shares of whole units, of which at most one takes a unit
  pub record AreApart (u : Unit) : Type 0 where
    pub nums : AreNumbersApart shares
    pub whole : (k : ℕ) (s : ShareState) → finite.get c.operations k ≡ Some (Share s) → is_whole f.kind s.plan.filter ≡ true
    pub one : (j k : ℕ) (d e : OpenShare) → find_share shares j ≡ Some d → find_share shares k ≡ Some e → S.takes d.filter u ≡ true
        → S.takes e.filter u ≡ true → j ≡ k

  module _ (cell : FullCell) (site : c.site ≡ at) (genuine : IsGenuine at packet cell) (apart : AreApart (S.packet_unit (number cell))) where
    abbrev u : Unit
    u = S.packet_unit (number cell)

    abbrev flow : Flow
    flow = (flow_of c.site cell.packet).0

    -- a filter takes the packet's unit where it matches its flow
    takes_it : (g : Filter) → is_whole f.kind g ≡ true → S.takes g u ≡ matches g flow
    takes_it g whole =
        ap (λ p. takes_whole f.kind g (unit_at f.kind at p)) (sym genuine.same)
        ∙ whole_takes f.kind g (flow_of at cell.packet).0 whole genuine.fits
        ∙ ap (λ x. matches g (flow_of x cell.packet).0) (sym site)

    -- of an open share
    share_takes : (k : ℕ) (s : ShareState) (e : OpenShare) → finite.get c.operations k ≡ Some (Share s) → e ≡ outline_share s (stored_of c.store k)
        → S.takes e.filter u ≡ matches s.plan.filter flow
    share_takes k s e there is = ap (λ x. S.takes x.filter u) is ∙ takes_it s.plan.filter (apart.whole k s there)

    record FoundReal (k : ℕ) : Type 0 where
      e : OpenShare
      found : find_share shares k ≡ Some e
      on : S.takes e.filter u ≡ true

    -- what the real look-up finds
    found_real : (x : ℕ × Operation) → find (λ e. is_shared_by flow e.1) (finite.entries c.operations) ≡ Some x → FoundReal x.0
    found_real x is = by_operation x.1 both_is.0 (finite.get-entries c.operations x.0 ∙ both_is.1)
      where
        both_is : (is_shared_by flow x.1 ≡ true) × (finite.find nat_cmp x.0 (finite.entries c.operations) ≡ Some x.1)
        both_is = first_found (is_shared_by flow) (finite.entries c.operations) x (finite.entries_sorted c.operations) is

        by_operation : (p : Operation) → is_shared_by flow p ≡ true → finite.get c.operations x.0 ≡ Some p → FoundReal x.0
        by_operation (Share s) on there =
            let b = both f place at ops shares c x.0 s h there in record { e = b.e; found = b.there; on = share_takes x.0 s b.e there b.sees.is ∙ on }
        by_operation s on there = cc

    abbrev real_first : Option (ℕ × Operation)
    real_first = find (λ e. is_shared_by flow e.1) (finite.entries c.operations)

    pub taken_is : (e : OpenShare) → share_taking S shares u ≡ Some e → share_of c.operations flow ≡ Some e.num
    taken_is e taking = by_first real_first refl
      where
        on : S.takes e.filter u ≡ true
        on = (taking_each S A (λ d. Prim.Unit {0}) shares u e (each_any shares) taking).1

        found : find_share shares e.num ≡ Some e
        found = taking_found S A shares u e apart.nums taking

        by_first : (o : Option (ℕ × Operation)) → real_first ≡ o → share_of c.operations flow ≡ Some e.num
        by_first None none =
            let r = real_share f place at ops shares c e.num e h found in
            let out : matches r.s.plan.filter flow ≡ false = none_passes (is_shared_by flow) (finite.entries c.operations) e.num (Share r.s) none
            (sym (finite.get-entries c.operations e.num) ∙ r.there) in
            let never : true ≡ false = sym on ∙ share_takes e.num r.s e r.there r.sees.is ∙ out in
            cc
        by_first (Some x) is =
            let r = found_real x is in
            ap (option_map (λ y. y.0)) is ∙ ap Some (apart.one x.0 e.num r.e e r.found found r.on on)

    pub none_is : share_taking S shares u ≡ None → share_of c.operations flow ≡ None
    none_is taking = by_first real_first refl
      where
        by_first : (o : Option (ℕ × Operation)) → real_first ≡ o → share_of c.operations flow ≡ None
        by_first None none = ap (option_map (λ y. y.0)) none
        by_first (Some x) is = let r = found_real x is in absurd (takes_some S shares x.0 r.e u r.found r.on taking)

    -- what the real queue and the abstract one are given
    abbrev Queues : ℕ → Option ℕ → Option OpenShare → Type 0
    Queues port o taking = StepFollows f at packet place (queue_step c cell o) (record {
      ops = ops;
      shares = (by_share S A shares port (option_map (λ e. (e, Has_packet (number cell))) taking)).shares;
      sends = (by_share S A shares port (option_map (λ e. (e, Has_packet (number cell))) taking)).sends;
    })

    -- The packet waits for its share, which serves.
    pub diverted_follows : (port : ℕ) → ((k : ℕ) → Each (IsGenuine at packet) (stored_of c.store k))
        → StepFollows f at packet place (on_diverted c cell) (all_step f at packet place ops shares port (New (Diverted_on (number cell))))
    diverted_follows port genuines = by_taking (share_taking S shares u) refl
      where
        by_taking : (o : Option OpenShare) → share_taking S shares u ≡ o → Queues port (share_of c.operations flow) (share_taking S shares u)
        by_taking None taking = subst (λ o. Queues port o (share_taking S shares u)) (sym (none_is taking))
            (subst (Queues port None) (sym taking) (record { opens = h; sends = refl }))
        by_taking (Some e) taking =
            let found = taking_found S A shares u e apart.nums taking in
            let r = real_share f place at ops shares c e.num e h found in
            let cells = stored_of c.store e.num in
            let follows : ShareFollows f at packet place r.s.plan (cells ++ cell ∷ []) (real.next_phase r.s.phase [])
            (share_row S A e port (Has_packet (number cell))) =
            subst (λ y. ShareFollows f at packet place r.s.plan (cells ++ cell ∷ []) (real.next_phase r.s.phase [])
            (share_row S A y port (Has_packet (number cell))))
            (sym r.sees.is) (packet_rows f at packet place r.s cells port r.sees.site r.sees.some (genuines e.num) cell genuine) in
            subst (λ o. Queues port o (share_taking S shares u)) (sym (taken_is e taking)) (subst (Queues port (Some e.num)) (sym taking)
            (share_queued f at packet place c ops shares h e.num r.s r.there e found r.sees port cell follows))
