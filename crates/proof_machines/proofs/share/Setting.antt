-- Each move from each stage in which a share is set up, up to the first Sync.
use Rattle.std.proofs.Common.{◌≡◌, ℕ, ◌+◌, Bool, true, false, cond, ◌==◌, Option, None, Some, List, [], ◌∷◌, ◌++◌, map, refl, sym, ap, subst, ◌∙◌, append_assoc}
use Rattle.std.proofs.Common.{append-nil}
use Rattle.std.proofs.lemmas.Bool.Decides.{Decides-eqb}
use Rattle.std.proofs.lemmas.List.{map-append}
use Rattle.std.proofs.lemmas.List.Elements.{filter-append}
use Rattle.proof_machines.proofs.share.Share.{Ran, Item, Item.Carry, Item.Fence, UnitShare, View, ShareMachineStep, ShareMachineStep.Arrive}
use Rattle.proof_machines.proofs.share.Share.{ShareMachineStep.Take_cs, ShareMachineStep.Take_sc, ShareMachineStep.Take_sw, has, if_mine, after, only, moved}
use Rattle.proof_machines.proofs.share.Share.{from_sw}
use Rattle.proof_machines.proofs.share.Stages.{Stage, Stage.Diverting, Stage.Fence_goes, Stage.Fenced_comes, front, early, late, shape, IsFront, FitsStage}
use Rattle.proof_machines.proofs.share.Stages.{Alike, brings, Leads}
use Rattle.proof_machines.proofs.share.Lists.{cond-same, cond-append, cond-cons, cond-cond, self, runs-append, packets-served}
use Rattle.proof_machines.proofs.Tests.{split}

pub ruleset links = (cond-append, cond-cond, cond-same, append-nil, map-append)

pub ruleset orders = (map-append, packets-served, filter-append, cond-cons, append_assoc, append-nil)

-- a link that only one instance has
pub at_only : {X : Type 0} (P : ℕ → List X → Type 0) (h j : ℕ) (xs : List X) → P h xs → P j [] → P j (only h xs j)
at_only P h j xs here other =
    split (j == h) (λ t. P j (cond t xs [])) (λ e. subst (λ n. P n xs) (sym ((Decides-eqb j h).0 e)) here) (λ _. other)

pub front_same : {X : Type 0} (xs : List X) → IsFront xs xs
front_same xs = ([], sym (append-nil xs))

pub front_more : {X : Type 0} (xs ys zs : List X) → IsFront xs ys → IsFront xs (ys ++ zs)
front_more xs ys zs h = (h.0 ++ zs, ap (λ ws. ws ++ zs) h.1 ∙ append_assoc xs h.0 zs)

pub nothing_comes : {X : Type 0} (b : Bool) (xs : List X) → xs ≡ xs ++ cond b [] []
nothing_comes true xs = sym (append-nil xs)
nothing_comes false xs = sym (append-nil xs)

module _ {R : Type 0} (f : UnitShare R) where
  -- views that differ in the members' links and records, and in what was processed
  pub alike_in : {x : View R} {sw to back : ℕ → List (Item R)} {own : ℕ → Option R} {done : List Ran} → ((k : ℕ) → x.sw k ≡ sw k)
      → ((k : ℕ) → x.to k ≡ to k) → ((k : ℕ) → x.back k ≡ back k) → ((k : ℕ) → has f.members k ≡ true → x.own k ≡ own k) → x.done ≡ done
      → Alike f x (record x { sw = sw; to = to; back = back; own = own; done = done })
  alike_in sw to back own done =
      record { sw = sw; sc = refl; cs = refl; to = to; back = back; own = own; phase = refl; queue = refl; diverts = refl; done = done }

  pub same_view : (x : View R) → Alike f x x
  same_view x = alike_in (λ k. refl) (λ k. refl) (λ k. refl) (λ k _. refl) refl

  -- views that differ in one link alone, or in one of each instance, which hold the same
  pub same_but_sc : (x : View R) (ys : List (Item R)) → x.sc ≡ ys → Alike f x (record x { sc = ys })
  same_but_sc x ys is = record {
    sw = λ k. refl;
    sc = is;
    cs = refl;
    to = λ k. refl;
    back = λ k. refl;
    own = λ k _. refl;
    phase = refl;
    queue = refl;
    diverts = refl;
    done = refl;
  }

  pub same_but_sw : (x : View R) (ys : ℕ → List (Item R)) → ((k : ℕ) → x.sw k ≡ ys k) → Alike f x (record x { sw = ys })
  same_but_sw x ys are = alike_in are (λ k. refl) (λ k. refl) (λ k _. refl) refl

  pub same_but_to : (x : View R) (ys : ℕ → List (Item R)) → ((k : ℕ) → x.to k ≡ ys k) → Alike f x (record x { to = ys })
  same_but_to x ys are = alike_in (λ k. refl) are (λ k. refl) (λ k _. refl) refl

  -- on to a stage
  pub leads : {s : Stage R} {x : View R} {ps : List ℕ} (next : Stage R) → FitsStage f next → Alike f x (shape f next)
      → early next ≡ early s ++ cond (shape f s).diverts [] ps → late f next ≡ late f s ++ cond (shape f s).diverts ps []
      → ((k : ℕ) → has f.members k ≡ true → IsFront (front f s k) (front f next k)) → Leads f s x ps
  leads next fits alike early_is late_is longer =
      record { next = next; fits = fits; alike = alike; early_is = early_is; late_is = late_is; longer = longer }

  -- and to one at which each record has seen what it had
  pub leads_same : {s : Stage R} {x : View R} {ps : List ℕ} (next : Stage R) → FitsStage f next → Alike f x (shape f next)
      → early next ≡ early s ++ cond (shape f s).diverts [] ps → late f next ≡ late f s ++ cond (shape f s).diverts ps []
      → ((k : ℕ) → front f next k ≡ front f s k) → Leads f s x ps
  leads_same {s} next fits alike early_is late_is same =
      leads next fits alike early_is late_is (λ k _. ([], same k ∙ sym (append-nil (front f s k))))

  -- a link with nothing on it
  pub stays : (s : Stage R) → FitsStage f s → Leads f s (shape f s) []
  stays s h = leads_same s h (same_view (shape f s)) (nothing_comes (shape f s).diverts (early s)) (nothing_comes (shape f s).diverts (late f s)) (λ k. refl)

  -- one member's record has seen more
  pub seen_more : (t : Bool) (old new b : List Ran) (r : Option R) → r ≡ after f new → cond t r (after f (cond t old b)) ≡ after f (cond t new b)
  seen_more true old new b r e = e
  seen_more false old new b r e = refl

  pub longer_at : (t : Bool) (old new b : List Ran) → IsFront old new → IsFront (cond t old b) (cond t new b)
  longer_at true old new b h = h
  longer_at false old new b h = front_same b

  -- a plain packet at home
  more_at_home : (d : List Ran) (b : ℕ → List Ran) (p k : ℕ) → cond (k == f.home) (Some (f.F.step (after f d) p)) (after f (cond (k == f.home) d (b k)))
      ≡ after f (cond (k == f.home) (d ++ (p, f.home) ∷ []) (b k))
  more_at_home d b p k = seen_more (k == f.home) d (d ++ (p, f.home) ∷ []) (b k) (Some (f.F.step (after f d) p))
      (sym (runs-append f.F None d ((p, f.home) ∷ [])))

  longer_at_home : (d : List Ran) (b : ℕ → List Ran) (p k : ℕ) → IsFront (cond (k == f.home) d (b k)) (cond (k == f.home) (d ++ (p, f.home) ∷ []) (b k))
  longer_at_home d b p k = longer_at (k == f.home) d (d ++ (p, f.home) ∷ []) (b k) ((p, f.home) ∷ [], refl)

  processes : (d : List Ran) (b : ℕ → List Ran) (l : List ℕ) → ((k : ℕ) → IsFront (b k) d)
      → Leads f (Diverting d b l) (from_sw f (shape f (Diverting d b l)) f.home (map Carry l)) []
  processes d b [] h = stays (Diverting d b []) h
  processes d b (p ∷ l) h = leads (Diverting (d ++ (p, f.home) ∷ []) b l) (λ k. front_more (b k) d ((p, f.home) ∷ []) (h k))
      (alike_in (λ k. simp links) (λ k. refl) (λ k. simp links) (λ k _. rw (self f.home) (more_at_home d b p k)) refl) (simp orders) refl
      (λ k _. longer_at_home d b p k)

  pub diverting : (d : List Ran) (b : ℕ → List Ran) (l : List ℕ) → ((k : ℕ) → IsFront (b k) d) → (m : ShareMachineStep)
      → Leads f (Diverting d b l) (moved f (shape f (Diverting d b l)) m) (brings f m)
  diverting d b l h (Arrive p) =
      leads_same (Diverting d b (l ++ if_mine f p)) h (same_but_sw _ _ (λ k. simp links)) (simp orders) refl (λ k. refl)
  diverting d b l h Take_cs = leads_same (Fence_goes d b l [] []) h (same_but_sw _ _ (λ k. simp links)) (simp orders) refl (λ k. refl)
  diverting d b l h (Take_sw j) = at_only (λ n ys. Leads f (Diverting d b l) (from_sw f (shape f (Diverting d b l)) n ys) []) f.home j (map Carry l)
      (processes d b l h) (stays (Diverting d b l) h)
  diverting d b l h m = stays (Diverting d b l) h

  fence_takes : (d : List Ran) (b : ℕ → List Ran) (l q v : List ℕ) → ((k : ℕ) → IsFront (b k) d)
      → Leads f (Fence_goes d b l q v) (from_sw f (shape f (Fence_goes d b l q v)) f.home (map Carry l ++ Fence ∷ [])) []
  fence_takes d b [] q v h = leads_same (Fenced_comes d b q v) h (alike_in (λ k. simp links) (λ k. refl) (λ k. refl)
      (λ k _. rw (self f.home) (seen_more (k == f.home) d d (b k) (after f d) refl)) (append-nil d)) (simp orders) (simp orders) (λ k. refl)
  fence_takes d b (p ∷ l) q v h = leads (Fence_goes (d ++ (p, f.home) ∷ []) b l q v) (λ k. front_more (b k) d ((p, f.home) ∷ []) (h k))
      (alike_in (λ k. simp links) (λ k. refl) (λ k. simp links) (λ k _. rw (self f.home) (more_at_home d b p k)) refl) (simp orders) (simp orders)
      (λ k _. longer_at_home d b p k)

  pub fence_goes : (d : List Ran) (b : ℕ → List Ran) (l q v : List ℕ) → ((k : ℕ) → IsFront (b k) d) → (m : ShareMachineStep)
      → Leads f (Fence_goes d b l q v) (moved f (shape f (Fence_goes d b l q v)) m) (brings f m)
  fence_goes d b l q v h (Arrive p) =
      leads_same (Fence_goes d b l q (v ++ p ∷ [])) h (same_but_sc _ _ (simp links)) (simp orders) (simp orders) (λ k. refl)
  fence_goes d b l q (p ∷ v) h Take_sc = leads_same (Fence_goes d b l (q ++ p ∷ []) v) h (same_view _) (simp orders) (simp orders) (λ k. refl)
  fence_goes d b l q v h (Take_sw j) = at_only (λ n ys. Leads f (Fence_goes d b l q v) (from_sw f (shape f (Fence_goes d b l q v)) n ys) []) f.home j
      (map Carry l ++ Fence ∷ []) (fence_takes d b l q v h) (stays (Fence_goes d b l q v) h)
  fence_goes d b l q [] h Take_sc = stays (Fence_goes d b l q []) h
  fence_goes d b l q v h m = stays (Fence_goes d b l q v) h
