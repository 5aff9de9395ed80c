-- What a step does to a stage of a share, from the moment on that the switch has fenced the home.
use Rattle.std.proofs.Common.{◌≡◌, ℕ, Bool, true, false, cond, not, ◌&&◌, ◌==◌, Option, List, [], ◌∷◌, ◌++◌, length, refl, sym, ap, subst, ◌∙◌, append-nil}
use Rattle.std.proofs.Common.{arith}
use Rattle.std.proofs.lemmas.Bool.Decides.{nat_tests}
use Rattle.copy_share.specs.declared.share_phase.SharePhase.{SharePhase}
use Rattle.copy_share.specs.declared.share_phase.SharePhase.TheVariants.{Idle, Setting}
use Rattle.copy_share.specs.ShareTable as said
use Rattle.std.specs.Prelude.{if◌then◌else◌}
use Rattle.proof_machines.proofs.share.Share.{Ran, Item, Item.Get, Item.Sync, Item.Fenced, Item.Chunks, UnitShare, View, put, put_ctrl, ControllerTurn, words}
use Rattle.proof_machines.proofs.share.Share.{serves, ShareMachineStep, ShareMachineStep.Arrive, ShareMachineStep.Take_sc, ShareMachineStep.Take_to}
use Rattle.proof_machines.proofs.share.Share.{ShareMachineStep.Take_back, has, without_number, after, over, moved, from_to, from_back}
use Rattle.proof_machines.proofs.share.Stages.{Turn.Going, Turn.Quiet, is_going, goes_to, comes_from, Stage, Stage.Fenced_comes, Stage.Get_goes}
use Rattle.proof_machines.proofs.share.Stages.{Stage.Chunks_come, Stage.Spreads, shape, IsFront, IsShare, FitsSpread, Behind, brings, Leads}
use Rattle.proof_machines.proofs.share.Lists.{self, over_front, has-without, distinct-without, length-without, counts_turns, turns_sent, turn_of, in_without}
use Rattle.proof_machines.proofs.share.Lists.{turn_self}
use Rattle.proof_machines.proofs.share.Setting.{links, orders, at_only, front_same, front_more, alike_in, same_view, same_but_sc, same_but_to, leads}
use Rattle.proof_machines.proofs.share.Setting.{leads_same, stays, seen_more}

module _ {R : Type 0} (f : UnitShare R) where
  pub fenced_comes : (d : List Ran) (b : ℕ → List Ran) (q v : List ℕ) → ((k : ℕ) → IsFront (b k) d) → (m : ShareMachineStep)
      → Leads f (Fenced_comes d b q v) (moved f (shape f (Fenced_comes d b q v)) m) (brings f m)
  fenced_comes d b q v h (Arrive p) =
      leads_same f (Fenced_comes d b q (v ++ p ∷ [])) h (same_but_sc f _ _ (simp links)) (simp orders) (simp orders) (λ k. refl)
  fenced_comes d b q (p ∷ v) h Take_sc = leads_same f (Fenced_comes d b (q ++ p ∷ []) v) h (same_view f _) (simp orders) (simp orders) (λ k. refl)
  fenced_comes d b q v h (Take_back j) =
      at_only (λ n ys. Leads f (Fenced_comes d b q v) (from_back f (shape f (Fenced_comes d b q v)) n ys) []) f.home j (Fenced ∷ [])
      (leads_same f (Get_goes d b q v) h (alike_in f (λ k. refl) (λ k. refl) (λ k. simp links) (λ k _. refl) refl) (simp orders) (simp orders) (λ k. refl))
      (stays f (Fenced_comes d b q v) h)
  fenced_comes d b q [] h Take_sc = stays f (Fenced_comes d b q []) h
  fenced_comes d b q v h m = stays f (Fenced_comes d b q v) h

  pub get_goes : (d : List Ran) (b : ℕ → List Ran) (q v : List ℕ) → ((k : ℕ) → IsFront (b k) d) → (m : ShareMachineStep)
      → Leads f (Get_goes d b q v) (moved f (shape f (Get_goes d b q v)) m) (brings f m)
  get_goes d b q v h (Arrive p) =
      leads_same f (Get_goes d b q (v ++ p ∷ [])) h (same_but_sc f _ _ (simp links)) (simp orders) (simp orders) (λ k. refl)
  get_goes d b q (p ∷ v) h Take_sc = leads_same f (Get_goes d b (q ++ p ∷ []) v) h (same_but_to f _ _ (λ k. simp links)) (simp orders) (simp orders) (λ k. refl)
  get_goes d b q v h (Take_to j) = at_only (λ n ys. Leads f (Get_goes d b q v) (from_to f (shape f (Get_goes d b q v)) n ys) []) f.home j (Get ∷ [])
      (leads_same f (Chunks_come d b q v) h (alike_in f (λ k. refl) (λ k. simp links) (λ k. rw (self f.home) refl)
      (λ k _. rw (self f.home) (seen_more f (k == f.home) d d (b k) (after f d) refl)) (append-nil d)) (simp orders) (simp orders) (λ k. refl))
      (stays f (Get_goes d b q v) h)
  get_goes d b q [] h Take_sc = stays f (Get_goes d b q []) h
  get_goes d b q v h m = stays f (Get_goes d b q v) h

  -- links and records where a Sync has just gone out
  pub sync_goes : (t : Bool) (c : Option R) → cond t (Sync c ∷ []) [] ≡ goes_to c (cond t Going Quiet)
  sync_goes true c = refl
  sync_goes false c = refl

  pub none_comes : (t : Bool) → ◌≡◌ {A = List (Item R)} [] (comes_from (cond t Going Quiet))
  none_comes true = refl
  none_comes false = refl

  -- a member other than this one has a Sync on its way
  pub turns : {X : Type 0} (ms : List ℕ) (j k : ℕ) (new old : X) → has ms k ≡ true
      → cond (is_going (turn_of (without_number ms j) k)) old new ≡ cond (k == j) new old
  turns ms j k new old h =
      rw (has-without ms j k, h)
      (elim (k == j) as (λ t. cond (is_going (cond (true && not t) Going Quiet)) old new ≡ cond t new old) [ true ↦ refl | false ↦ refl ])

  -- a Sync goes to one member at least
  pub some_left : IsShare f → (j : ℕ) → (length (without_number f.members j) == 0) ≡ false
  some_left is j =
      let two = is.two in
      let others = length-without f.members j is.apart in
      grind (arith, nat_tests)

  -- a Sync has just gone to all members but this one
  pub just_sent : IsShare f → (m : ℕ) {n : List Ran} {b : ℕ → List Ran} {c : Option R}
      → ((k : ℕ) → has f.members k ≡ true → over c (after f (b k)) ≡ after f n) → ((k : ℕ) → IsFront (b k) n)
      → (is_going (turn_of (without_number f.members m) f.home) ≡ true → Behind f (b f.home) n (turn_of (without_number f.members m)))
      → let o = without_number f.members m in FitsSpread f n (record { seen = b; chunk = c; turn = turn_of o; asked = o; left = length o })
  just_sent is m gives fronts lately = let o = without_number f.members m in record {
    gives = gives;
    fronts = fronts;
    counts = counts_turns o;
    some = some_left is m;
    sent = turns_sent o;
    lately = lately;
    inside = λ k e. in_without f.members m k e;
    apart = distinct-without f.members m is.apart;
  }

  -- the controller waits for one answer at least
  pub at_least_one : IsShare f → (j : ℕ) (s : Stage R) (x : View R) (did : Bool → ControllerTurn R) → Leads f s (put_ctrl x (did false)) []
      → Leads f s (put_ctrl x (did (length (without_number f.members j) == 0))) []
  at_least_one is j s x did h = subst (λ b. Leads f s (put_ctrl x (did b)) []) (sym (some_left is j)) h

  chunks_arrive : IsShare f → (d : List Ran) (b : ℕ → List Ran) (q v : List ℕ) → ((k : ℕ) → IsFront (b k) d)
      → Leads f (Chunks_come d b q v) (from_back f (shape f (Chunks_come d b q v)) f.home (Chunks (after f d) ∷ [])) []
  chunks_arrive is d b q v h =
      let o = without_number f.members f.home in
      let next : SharePhase → ControllerTurn R = λ phase. (words f q).next phase (said.Sync f.home (after f d)) in
      at_least_one is f.home (Chunks_come d b q v) (record (shape f (Chunks_come d b q v)) { back = put (shape f (Chunks_come d b q v)).back f.home [] })
      (λ t. serves f (if t then next Idle else next (Setting (length o))))
      (leads f (Spreads true d [] b (after f d) (turn_of o) o (length o) q v)
      (just_sent is f.home (λ k _. rw (append-nil d) (over_front f.F (b k) d (h k))) (λ k. front_more (b k) d [] (h k))
      (λ g. let never : true ≡ false = sym g ∙ ap is_going (turn_self f.members f.home) in cc))
      (alike_in f (λ k. refl) (λ k. sync_goes (has o k) (after f d)) (λ k. simp links (none_comes (has o k)))
      (λ k m. rw (append-nil d, turns f.members f.home k d (b k) m) refl) (sym (append-nil d))) (simp orders) (simp orders)
      (λ k m. rw (append-nil d, turns f.members f.home k d (b k) m) (front_same (cond (k == f.home) d (b k)))))

  pub chunks_come : IsShare f → (d : List Ran) (b : ℕ → List Ran) (q v : List ℕ) → ((k : ℕ) → IsFront (b k) d) → (m : ShareMachineStep)
      → Leads f (Chunks_come d b q v) (moved f (shape f (Chunks_come d b q v)) m) (brings f m)
  chunks_come is d b q v h (Arrive p) =
      leads_same f (Chunks_come d b q (v ++ p ∷ [])) h (same_but_sc f _ _ (simp links)) (simp orders) (simp orders) (λ k. refl)
  chunks_come is d b q (p ∷ v) h Take_sc = leads_same f (Chunks_come d b (q ++ p ∷ []) v) h (same_view f _) (simp orders) (simp orders) (λ k. refl)
  chunks_come is d b q v h (Take_back j) = at_only (λ n ys. Leads f (Chunks_come d b q v) (from_back f (shape f (Chunks_come d b q v)) n ys) []) f.home j
      (Chunks (after f d) ∷ []) (chunks_arrive is d b q v h) (stays f (Chunks_come d b q v) h)
  chunks_come is d b q [] h Take_sc = stays f (Chunks_come d b q []) h
  chunks_come is d b q v h m = stays f (Chunks_come d b q v) h
