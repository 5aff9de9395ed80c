-- What stands at the head of a link to a member meets that member's record: where it processes a packet of the share its record is the
-- fold of all that was done, and a Sync brings at least what is there.
use Rattle.std.proofs.Common.{◌≡◌, ℕ, true, false, cond, ◌==◌, Option, List, [], ◌∷◌, ◌++◌, map, refl, sym, subst, ◌∙◌}
use Rattle.std.proofs.lemmas.Bool.Decides.{Decides-eqb}
use Rattle.proof_machines.proofs.share.Share.{Ran, Item, Item.Carry, Item.Fence, Item.Shared, Item.Get, Item.Sync, UnitShare, View, has, only, over, after}
use Rattle.proof_machines.proofs.share.Stages.{Turn, Turn.Going, is_going, is_pending, goes_to, Stage, Stage.Diverting, Stage.Fence_goes, Stage.Fenced_comes}
use Rattle.proof_machines.proofs.share.Stages.{Stage.Get_goes, Stage.Chunks_come, Stage.Spreads, Stage.Carries, front, processed, shape, IsFront, IsShare}
use Rattle.proof_machines.proofs.share.Stages.{FitsStage}
use Rattle.proof_machines.proofs.share.Lists.{self}
use Rattle.proof_machines.proofs.Tests.{either_way, split}

-- a link that only one node has leads to that node
at_head : {X : Type 0} (h j : ℕ) (xs : List X) (x : X) (rest : List X) → only h xs j ≡ x ∷ rest → (j ≡ h) × (xs ≡ x ∷ rest)
at_head h j xs x rest e = split (j == h) (λ b. cond b xs [] ≡ x ∷ rest → (j ≡ h) × (xs ≡ x ∷ rest)) (λ t g. ((Decides-eqb j h).0 t, g)) (λ _ g. cc) e

-- and to none that isn't a member, if that one is
none_outside : {X : Type 0} (h k : ℕ) (xs : List X) (ms : List ℕ) → has ms h ≡ true → has ms k ≡ false → only h xs k ≡ []
none_outside h k xs ms inside out =
    split (k == h) (λ b. cond b xs [] ≡ []) (λ e. let same : k ≡ h = (Decides-eqb k h).0 e in let both : false ≡ true = sym out ∙ rw same inside in cc)
    (λ _. refl)

quiet_to : {R : Type 0} (c : Option R) (t : Turn) → is_pending t ≡ false → goes_to c t ≡ []
quiet_to c Going e = cc
quiet_to c turn e = refl

module _ {R : Type 0} (f : UnitShare R) where
  -- members alone are sent anything
  pub record ToMembers (x : View R) : Type 0 where
    pub sw : (k : ℕ) → has f.members k ≡ false → x.sw k ≡ []
    pub to : (k : ℕ) → has f.members k ≡ false → x.to k ≡ []

  pub to_members : IsShare f → (s : Stage R) → FitsStage f s → ToMembers (shape f s)
  to_members is (Diverting d b l) h = record { sw = λ k out. none_outside f.home k (map Carry l) f.members is.home_in out; to = λ k _. refl }
  to_members is (Fence_goes d b l q v) h = record { sw = λ k out. none_outside f.home k (map Carry l ++ Fence ∷ []) f.members is.home_in out; to = λ k _. refl }
  to_members is (Fenced_comes d b q v) h = record { sw = λ k _. refl; to = λ k _. refl }
  to_members is (Get_goes d b q v) h = record { sw = λ k _. refl; to = λ k out. none_outside f.home k (Get ∷ []) f.members is.home_in out }
  to_members is (Chunks_come d b q v) h = record { sw = λ k _. refl; to = λ k _. refl }
  to_members is (Spreads first d e b c at o left q v) h = record {
    sw = λ k _. refl;
    to = λ k out. either_way (is_pending (at k)) (λ p. let both : false ≡ true = sym out ∙ h.inside k (h.sent k p) in cc) (λ p. quiet_to c (at k) p);
  }
  to_members is (Carries d e p q v) h = record { sw = λ k out. none_outside (f.member_of p) k (Shared p ∷ []) f.members (is.member_in p) out; to = λ k _. refl }
  to_members is s h = record { sw = λ k _. refl; to = λ k _. refl }

  -- the record at a node has all that was done
  abbrev HasAll : Stage R → ℕ → Type 0
  HasAll s j = after f (front f s j) ≡ after f (processed f s)

  -- what must hold at a node for an item at the head of a link to it
  abbrev pub Meets : Stage R → ℕ → Item R → Type 0
  Meets s j (Carry q) = (j ≡ f.home) × HasAll s j
  Meets s j (Shared q) = (j ≡ f.member_of q) × HasAll s j
  Meets s j (Sync c) = IsFront (front f s j) (processed f s) × (over c (after f (front f s j)) ≡ after f (processed f s))
  Meets s j item = Unit {0}

  home_has : (d b : List Ran) (j : ℕ) → j ≡ f.home → after f (cond (j == f.home) d b) ≡ after f d
  home_has d b j e = rw (e, self f.home) refl

  no_head : (s : Stage R) (j : ℕ) (it : Item R) (rest : List (Item R)) → ◌≡◌ {A = List (Item R)} [] (it ∷ rest) → Meets s j it
  no_head s j it rest e = cc

  -- the first of plain packets, and of plain packets with a fence behind them
  first_plain : (s : Stage R) (j : ℕ) (l : List ℕ) (it : Item R) (rest : List (Item R)) → map Carry l ≡ it ∷ rest → (j ≡ f.home) × HasAll s j → Meets s j it
  first_plain s j [] it rest e g = cc
  first_plain s j (q ∷ l) it rest e g = let same : Carry q ≡ it = cc in subst (Meets s j) same g

  first_fence : (s : Stage R) (j : ℕ) (l : List ℕ) (it : Item R) (rest : List (Item R)) → map Carry l ++ Fence ∷ [] ≡ it ∷ rest → (j ≡ f.home) × HasAll s j
      → Meets s j it
  first_fence s j [] it rest e g = let same : Fence ≡ it = cc in subst (Meets s j) same tt
  first_fence s j (q ∷ l) it rest e g = let same : Carry q ≡ it = cc in subst (Meets s j) same g

  pub meets_sw : (s : Stage R) (j : ℕ) (it : Item R) (rest : List (Item R)) → (shape f s).sw j ≡ it ∷ rest → Meets s j it
  meets_sw (Diverting d b l) j it rest e =
      let a = at_head f.home j (map Carry l) it rest e in first_plain (Diverting d b l) j l it rest a.1 (a.0, home_has d (b j) j a.0)
  meets_sw (Fence_goes d b l q v) j it rest e =
      let a = at_head f.home j (map Carry l ++ Fence ∷ []) it rest e in first_fence (Fence_goes d b l q v) j l it rest a.1 (a.0, home_has d (b j) j a.0)
  meets_sw (Carries d e₁ p q v) j it rest e =
      let a = at_head (f.member_of p) j (Shared p ∷ []) it rest e in
      let list = a.1 in let same : Shared p ≡ it = cc in subst (Meets (Carries d e₁ p q v) j) same (a.0, refl)
  meets_sw s j it rest e = no_head s j it rest e

  sync_meets : (s : Stage R) (j : ℕ) (c : Option R) (t : Turn) (it : Item R) (rest : List (Item R)) → goes_to c t ≡ it ∷ rest
      → (is_going t ≡ true → Meets s j (Sync c)) → Meets s j it
  sync_meets s j c Going it rest e g = let same : Sync c ≡ it = cc in subst (Meets s j) same (g refl)
  sync_meets s j c turn it rest e g = no_head s j it rest e

  pub meets_to : (s : Stage R) → FitsStage f s → (j : ℕ) → has f.members j ≡ true → (it : Item R) (rest : List (Item R)) → (shape f s).to j ≡ it ∷ rest
      → Meets s j it
  meets_to (Get_goes d b q v) h j m it rest e =
      let a = at_head f.home j (Get ∷ []) it rest e in let list = a.1 in let same : Get ≡ it = cc in subst (Meets (Get_goes d b q v) j) same tt
  meets_to (Spreads first d e₁ b c at o left q v) h j m it rest e =
      sync_meets (Spreads first d e₁ b c at o left q v) j c (at j) it rest e (λ g. rw g (h.fronts j, h.gives j m))
  meets_to s h j m it rest e = no_head s j it rest e
