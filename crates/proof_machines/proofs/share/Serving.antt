-- Each move from each stage in which a share serves a packet, up to the Sync that it gives.
use Rattle.std.proofs.Common.{◌≡◌, ℕ, Bool, true, false, cond, ◌==◌, None, List, [], ◌∷◌, ◌++◌, length, inl, inr, refl, sym, ap, append_assoc, append-nil}
use Rattle.std.proofs.lemmas.List.{map-append}
use Rattle.proof_machines.proofs.share.Share.{Ran, Item.Shared, Item.Chunk, UnitShare, put, serves, ShareMachineStep, ShareMachineStep.Arrive}
use Rattle.proof_machines.proofs.share.Share.{ShareMachineStep.Take_cs, ShareMachineStep.Take_sc, ShareMachineStep.Take_sw, ShareMachineStep.Take_back, has}
use Rattle.proof_machines.proofs.share.Share.{without_number, words, if_mine, at_node, runs, after, chunk_of, over, moved, from_sw, from_back}
use Rattle.copy_share.specs.declared.share_phase.SharePhase.TheVariants.{Idle, Syncing}
use Rattle.copy_share.specs.ShareTable.{Sync}
use Rattle.std.specs.Prelude.{if◌then◌else◌}
use Rattle.proof_machines.proofs.share.Stages.{Turn, is_pending, Stage.Spreads, Stage.Resting, Stage.Forwards, Stage.Carries, Stage.Chunk_comes, shape, served}
use Rattle.proof_machines.proofs.share.Stages.{IsFront, IsShare, Behind, brings, Leads}
use Rattle.proof_machines.proofs.share.Lists.{runs-append, turn_of, turn_self, served_at}
use Rattle.proof_machines.proofs.share.Setting.{links, orders, at_only, front_same, alike_in, same_but_sc, same_view, leads, leads_same, stays}
use Rattle.proof_machines.proofs.share.FencedSetting.{sync_goes, none_comes, turns, just_sent, at_least_one}
use Rattle.proof_machines.proofs.Tests.{split}

module _ {R : Type 0} (f : UnitShare R) where
  pub resting : (d : List Ran) (e v : List ℕ) → (m : ShareMachineStep) → Leads f (Resting d e v) (moved f (shape f (Resting d e v)) m) (brings f m)
  resting d e v (Arrive p) = leads_same f (Resting d e (v ++ p ∷ [])) tt (same_but_sc f _ _ (simp links)) (simp orders) (simp orders) (λ k. refl)
  resting d e (p ∷ v) Take_sc = leads_same f (Forwards d e p [] v) tt (same_view f _) (simp orders) (simp orders) (λ k. refl)
  resting d e [] Take_sc = stays f (Resting d e []) tt
  resting d e v m = stays f (Resting d e v) tt

  pub forwards : (d : List Ran) (e : List ℕ) (p : ℕ) (q v : List ℕ) → (m : ShareMachineStep)
      → Leads f (Forwards d e p q v) (moved f (shape f (Forwards d e p q v)) m) (brings f m)
  forwards d e p q v (Arrive r) =
      leads_same f (Forwards d e p q (v ++ r ∷ [])) tt (same_but_sc f _ _ (simp links)) (simp orders) (simp orders) (λ k. refl)
  forwards d e p q (r ∷ v) Take_sc = leads_same f (Forwards d e p (q ++ r ∷ []) v) tt (same_view f _) (simp orders) (simp orders) (λ k. refl)
  forwards d e p q v Take_cs = leads_same f (Carries d e p q v) tt (same_view f _) (simp orders) (simp orders) (λ k. refl)
  forwards d e p q [] Take_sc = stays f (Forwards d e p q []) tt
  forwards d e p q v m = stays f (Forwards d e p q v) tt

  -- the member's record and what is done, once it took its packet
  took : (d : List Ran) (e : List ℕ) (p : ℕ)
      → runs f.F (after f (d ++ served f e)) (at_node (f.member_of p) (if_mine f p)) ≡ after f (d ++ served f (e ++ if_mine f p))
  took d e p = rw (served_at f p, map-append _ e (if_mine f p), ← append_assoc d (served f e) (served f (if_mine f p)))
      (sym (runs-append f.F None (d ++ served f e) (served f (if_mine f p))))

  took_done : (d : List Ran) (e : List ℕ) (p : ℕ) → (d ++ served f e) ++ at_node (f.member_of p) (if_mine f p) ≡ d ++ served f (e ++ if_mine f p)
  took_done d e p = rw (served_at f p, map-append _ e (if_mine f p)) (append_assoc d (served f e) (served f (if_mine f p)))

  pub took_more : (d : List Ran) (e : List ℕ) (p : ℕ) → IsFront (d ++ served f e) (d ++ served f (e ++ if_mine f p))
  took_more d e p = (served f (if_mine f p), rw (map-append _ e (if_mine f p)) (sym (append_assoc d (served f e) (served f (if_mine f p)))))

  -- a value at one place, under a function
  cond-at : {X Y : Type 0} (t : Bool) (g : X → Y) (x y : X) → cond t (g x) (g y) ≡ g (cond t x y)
  cond-at true g x y = refl
  cond-at false g x y = refl

  longer_at : (t : Bool) (old new : List Ran) → IsFront old new → IsFront old (cond t new old)
  longer_at true old new h = h
  longer_at false old new h = front_same old

  pub carries : (d : List Ran) (e : List ℕ) (p : ℕ) (q v : List ℕ) → (m : ShareMachineStep)
      → Leads f (Carries d e p q v) (moved f (shape f (Carries d e p q v)) m) (brings f m)
  carries d e p q v (Arrive r) =
      leads_same f (Carries d e p q (v ++ r ∷ [])) tt (same_but_sc f _ _ (simp links)) (simp orders) (simp orders) (λ k. refl)
  carries d e p q (r ∷ v) Take_sc = leads_same f (Carries d e p (q ++ r ∷ []) v) tt (same_view f _) (simp orders) (simp orders) (λ k. refl)
  carries d e p q v (Take_sw j) =
      at_only (λ n ys. Leads f (Carries d e p q v) (from_sw f (shape f (Carries d e p q v)) n ys) []) (f.member_of p) j (Shared p ∷ [])
      (leads f (Chunk_comes d e p q v) tt (alike_in f (λ k. simp links) (λ k. refl) (λ k. rw (took d e p) refl)
      (λ k _. rw (took d e p) (cond-at (k == f.member_of p) (after f) (d ++ served f (e ++ if_mine f p)) (d ++ served f e))) (took_done d e p))
      (simp orders) (simp orders) (λ k _. longer_at (k == f.member_of p) (d ++ served f e) (d ++ served f (e ++ if_mine f p)) (took_more d e p)))
      (stays f (Carries d e p q v) tt)
  carries d e p q [] Take_sc = stays f (Carries d e p q []) tt
  carries d e p q v m = stays f (Carries d e p q v) tt

  -- the chunk that a member sent, over what another has
  renews : (d : List Ran) (e : List ℕ) (p : ℕ)
      → over (chunk_of f p (after f (d ++ served f (e ++ if_mine f p)))) (after f (d ++ served f e)) ≡ after f (d ++ served f (e ++ if_mine f p))
  renews d e p =
      rw (← took d e p) (elim (f.mine p) as (λ t. over (cond t (runs f.F (after f (d ++ served f e)) (at_node (f.member_of p) (cond t (p ∷ []) []))) None)
      (after f (d ++ served f e)) ≡ runs f.F (after f (d ++ served f e)) (at_node (f.member_of p) (cond t (p ∷ []) []))) [ true ↦ refl | false ↦ refl ])

  -- home is behind by the packet, where it is the unit's
  just_took : (d : List Ran) (e : List ℕ) (p : ℕ) (at : ℕ → Turn) → is_pending (at (f.member_of p)) ≡ false
      → Behind f (d ++ served f e) (d ++ served f (e ++ if_mine f p)) at
  just_took d e p at off =
      split (f.mine p) (λ t. Behind f (d ++ served f e) (d ++ served f (e ++ cond t (p ∷ []) [])) at)
      (λ _. inr (p, (rw (map-append _ e (p ∷ [])) (sym (append_assoc d (served f e) ((p, f.member_of p) ∷ []))), off)))
      (λ _. inl (rw (append-nil e) refl))

  chunk_arrives : IsShare f → (d : List Ran) (e : List ℕ) (p : ℕ) (q v : List ℕ) → Leads f (Chunk_comes d e p q v)
      (from_back f (shape f (Chunk_comes d e p q v)) (f.member_of p) (Chunk (chunk_of f p (after f (d ++ served f (e ++ if_mine f p)))) ∷ [])) []
  chunk_arrives is d e p q v =
      let m = f.member_of p in
      let o = without_number f.members m in
      let c = chunk_of f p (after f (d ++ served f (e ++ if_mine f p))) in
      at_least_one f is m (Chunk_comes d e p q v) (record (shape f (Chunk_comes d e p q v)) { back = put (shape f (Chunk_comes d e p q v)).back m [] })
      (λ b. serves f ((words f q).next (if b then Idle else Syncing (length o)) (Sync m c)))
      (leads f (Spreads false d (e ++ if_mine f p) (λ k. d ++ served f e) c (turn_of o) o (length o) q v)
      (just_sent f is m (λ k _. renews d e p) (λ k. took_more d e p)
      (λ _. just_took d e p (turn_of o) (ap is_pending (turn_self f.members m))))
      (alike_in f (λ k. refl) (λ k. sync_goes f (has o k) c) (λ k. simp links (none_comes f (has o k)))
      (λ k h. rw (turns f f.members m k (d ++ served f (e ++ if_mine f p)) (d ++ served f e) h) refl) refl) (simp orders) (simp orders)
      (λ k h. rw (turns f f.members m k (d ++ served f (e ++ if_mine f p)) (d ++ served f e) h)
      (front_same (cond (k == m) (d ++ served f (e ++ if_mine f p)) (d ++ served f e)))))

  pub chunk_comes : IsShare f → (d : List Ran) (e : List ℕ) (p : ℕ) (q v : List ℕ) → (m : ShareMachineStep)
      → Leads f (Chunk_comes d e p q v) (moved f (shape f (Chunk_comes d e p q v)) m) (brings f m)
  chunk_comes is d e p q v (Arrive r) =
      leads_same f (Chunk_comes d e p q (v ++ r ∷ [])) tt (same_but_sc f _ _ (simp links)) (simp orders) (simp orders) (λ k. refl)
  chunk_comes is d e p q (r ∷ v) Take_sc = leads_same f (Chunk_comes d e p (q ++ r ∷ []) v) tt (same_view f _) (simp orders) (simp orders) (λ k. refl)
  chunk_comes is d e p q v (Take_back j) =
      at_only (λ n ys. Leads f (Chunk_comes d e p q v) (from_back f (shape f (Chunk_comes d e p q v)) n ys) []) (f.member_of p) j
      (Chunk (chunk_of f p (after f (d ++ served f (e ++ if_mine f p)))) ∷ []) (chunk_arrives is d e p q v) (stays f (Chunk_comes d e p q v) tt)
  chunk_comes is d e p q [] Take_sc = stays f (Chunk_comes d e p q []) tt
  chunk_comes is d e p q v m = stays f (Chunk_comes d e p q v) tt
