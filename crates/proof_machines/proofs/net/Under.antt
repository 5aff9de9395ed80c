-- A unit under a share (`Under`): the world shows it a stage of its share, and no move has anything of it. Each node's step keeps it: the
-- stage goes on, no member's record has seen less, and what is processed is at its place.
use Rattle.proof_machines.proofs.net.Words.{◌≡◌, ℕ, ◌≤◌, true, false, None, List, [], ◌∷◌, ◌++◌, refl, sym, ap, ◌∙◌, subst, append-nil, if◌then◌else◌, ◌&&◌}
use Rattle.proof_machines.proofs.net.Words.{◌==◌, neither, sent_for, Each, UnitShare, has, Stage, front, processed, early, late, shape, IsFront, IsShare}
use Rattle.proof_machines.proofs.net.Words.{FitsStage, goes_on, Msg, Sys, links_after, EachSent, each_after, each_put, RestRule, RestOp, NothingOf, unit_share}
use Rattle.proof_machines.proofs.net.Words.{ShareHolds, Any, Old, New, ShareMsg, olds, Sharing, WholeWorld, SeeingShare, Grows, placed}
use Rattle.proof_machines.proofs.share.Share.{moved}
use Rattle.proof_machines.proofs.net.AsMoves.{old_sends, olds-put, olds-after, news-after}
use Rattle.proof_machines.proofs.net.ShareLinks.{Goes, Goes.Nothing, Goes.Moves_so, holds_alike}

module _ {R : Type 0} (S : Sys R) (A : Sharing S) (z : SeeingShare) where
  abbrev pub f : UnitShare R
  f = unit_share S A z

  -- with the unit's packets that arrived before and since they are diverted
  pub record Under (w : WholeWorld S A) (before since : List ℕ) : Type 0 where
    pub is : IsShare (unit_share S A z)
    pub insts : (k : ℕ) → has z.members k ≡ true → 2 ≤ k
    pub covered : S.takes z.filter z.unit ≡ true
    pub stage : Stage R
    pub fits : FitsStage (unit_share S A z) stage
    pub holds : ShareHolds S A z w (shape (unit_share S A z) stage)
    pub labels : (i j : ℕ) → (i == 0) && (j == 0) ≡ false → Each (NothingOf S z.unit i) (olds (w.link i j))
    pub rules : (k : ℕ) → Each (RestRule S z.unit) (w.inst k).rules
    pub ops : Each (RestOp S z.unit) w.ops
    pub away : (k : ℕ) → (k == z.home) ≡ false → S.B.at z.unit (w.inst k).live ≡ None
    pub before_is : before ≡ early stage
    pub since_is : since ≡ late (unit_share S A z) stage

  -- a unit that was at a stage is under its share still
  pub record Goes_on (s : Stage R) (w : WholeWorld S A) (before since : List ℕ) : Type 0 where
    pub under : Under w before since
    pub longer : (k : ℕ) → has z.members k ≡ true → IsFront (front (unit_share S A z) s k) (front (unit_share S A z) under.stage k)
    pub placed : Grows (unit_share S A z) (processed (unit_share S A z) s) (processed (unit_share S A z) under.stage)

  -- what a step leaves of the stage
  pub record NextStage (s : Stage R) (w : WholeWorld S A) (before since : List ℕ) : Type 0 where
    pub stage : Stage R
    pub fits : FitsStage f stage
    pub holds : ShareHolds S A z w (shape f stage)
    pub before_is : early stage ≡ early s ++ before
    pub since_is : late f stage ≡ late f s ++ since
    pub longer : (k : ℕ) → has z.members k ≡ true → IsFront (front f s k) (front f stage k)
    pub placed : Grows f (processed f s) (processed f stage)

  pub stays : (s : Stage R) → FitsStage f s → (w : WholeWorld S A) → ShareHolds S A z w (shape f s) → (before since : List ℕ) → before ≡ [] → since ≡ []
      → NextStage s w before since
  stays s h w holds before since b e = record {
    stage = s;
    fits = h;
    holds = holds;
    before_is = sym (ap (λ ps. early s ++ ps) b ∙ append-nil (early s));
    since_is = sym (ap (λ ps. late f s ++ ps) e ∙ append-nil (late f s));
    longer = λ k _. ([], sym (append-nil (front f s k)));
    placed = record { by = []; is = sym (append-nil (processed f s)); places = tt };
  }

  pub next : IsShare f → (s : Stage R) → FitsStage f s → (w : WholeWorld S A) → Goes S A z w (shape f s) → NextStage s w [] []
  next is s h w (Nothing holds) = stays s h w holds [] [] refl refl
  next is s h w (Moves_so mv quiet holds) =
      let on = goes_on f is s h mv in
      let b = (shape f s).diverts in
      record {
        stage = on.next;
        fits = on.fits;
        holds = holds_alike S A z w (moved f (shape f s) mv) (shape f on.next) holds on.alike;
        before_is = on.early_is ∙ ap (λ ps. early s ++ (if b then [] else ps)) quiet ∙ ap (λ ps. early s ++ ps) (neither b);
        since_is = on.late_is ∙ ap (λ ps. late f s ++ (if b then ps else [])) quiet ∙ ap (λ ps. late f s ++ ps) (neither b);
        longer = on.longer;
        placed = placed f is s h mv;
      }

  -- what else a step keeps
  pub record KeepsRest (w : WholeWorld S A) : Type 0 where
    pub labels : (i j : ℕ) → (i == 0) && (j == 0) ≡ false → Each (NothingOf S z.unit i) (olds (w.link i j))
    pub rules : (k : ℕ) → Each (RestRule S z.unit) (w.inst k).rules
    pub ops : Each (RestOp S z.unit) w.ops
    pub away : (k : ℕ) → (k == z.home) ≡ false → S.B.at z.unit (w.inst k).live ≡ None

  pub leads_to : (s : Stage R) (w' : WholeWorld S A) (early_ps late_ps before since : List ℕ) → IsShare f → ((k : ℕ) → has z.members k ≡ true → 2 ≤ k)
      → S.takes z.filter z.unit ≡ true → NextStage s w' early_ps late_ps → KeepsRest w' → before ≡ early s ++ early_ps → since ≡ late f s ++ late_ps
      → Goes_on s w' before since
  leads_to s w' early_ps late_ps before since is insts covered n k before_is since_is = record {
    under = record {
      is = is;
      insts = insts;
      covered = covered;
      stage = n.stage;
      fits = n.fits;
      holds = n.holds;
      labels = k.labels;
      rules = k.rules;
      ops = k.ops;
      away = k.away;
      before_is = before_is ∙ sym n.before_is;
      since_is = since_is ∙ sym n.since_is;
    };
    longer = n.longer;
    placed = n.placed;
  }

  pub goes_to : (w w' : WholeWorld S A) (before since : List ℕ) (u : Under w before since) → Goes S A z w' (shape f u.stage) → KeepsRest w'
      → Goes_on u.stage w' before since
  goes_to w w' before since u goes k =
      leads_to u.stage w' [] [] before since u.is u.insts u.covered (next u.is u.stage u.fits w' goes) k (u.before_is ∙ sym (append-nil (early u.stage)))
      (u.since_is ∙ sym (append-nil (late f u.stage)))

  -- Labels of moves' messages: of a head, after a step and where something is put
  abbrev Labelled : (ℕ → ℕ → List (Any R)) → Type 0
  Labelled l = (i j : ℕ) → (i == 0) && (j == 0) ≡ false → Each (NothingOf S z.unit i) (olds (l i j))

  pub head_old : (P : Msg R → Type 0) (m : Msg R) (rest l : List (Any R)) → l ≡ Old m ∷ rest → Each P (olds l) → P m
  head_old P m rest l waits h = (subst (λ ms. Each P (olds ms)) waits h).0

  pub after_old : (l : ℕ → ℕ → List (Any R)) (p k : ℕ) (m : Msg R) (rest : List (Any R)) (sends : List (ℕ × Any R)) (ys : List (ℕ × Msg R))
      → l p k ≡ Old m ∷ rest
      → old_sends sends ≡ ys → Labelled l → EachSent (λ _ m. NothingOf S z.unit k m) ys → Labelled (λ i j. links_after l p k sends i j)
  after_old l p k m rest sends ys waits is h new i j e = subst (λ ms. Each (NothingOf S z.unit i) ms) (sym (olds-after l p k rest sends ys is m waits i j))
      (each_after (λ i _ m. NothingOf S z.unit i m) (λ i j. olds (l i j)) p k ys h new i j e)

  pub after_new : (l : ℕ → ℕ → List (Any R)) (p k : ℕ) (m : ShareMsg R) (rest : List (Any R)) (sends : List (ℕ × Any R)) (ys : List (ℕ × Msg R))
      → l p k ≡ New m ∷ rest → old_sends sends ≡ ys → Labelled l → EachSent (λ _ m. NothingOf S z.unit k m) ys → Labelled (λ i j. links_after l p k sends i j)
  after_new l p k m rest sends ys waits is h new i j e = subst (λ ms. Each (NothingOf S z.unit i) ms) (sym (news-after l p k rest sends ys is m waits i j))
      (each_put (λ i _ m. NothingOf S z.unit i m) (λ i j. olds (l i j)) k ys h new i j e)

  pub put_labels : (l : ℕ → ℕ → List (Any R)) (k : ℕ) (sends : List (ℕ × Any R)) (ys : List (ℕ × Msg R)) → old_sends sends ≡ ys → Labelled l
      → EachSent (λ _ m. NothingOf S z.unit k m) ys → Labelled (λ i j. l i j ++ (if i == k then sent_for j sends else []))
  put_labels l k sends ys is h new i j e = subst (λ ms. Each (NothingOf S z.unit i) ms) (sym (olds-put (l i j) (i == k) j sends ys is))
      (each_put (λ i _ m. NothingOf S z.unit i m) (λ i j. olds (l i j)) k ys h new i j e)
