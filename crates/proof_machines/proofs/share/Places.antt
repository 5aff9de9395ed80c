-- Where the unit's packets are processed: in each step at home, by the old rules, or each at its member (`placed`).
use Rattle.std.proofs.Common.{◌≡◌, ℕ, Bool, true, false, cond, Option, List, [], ◌∷◌, ◌++◌, ◌⊎◌, inl, inr, refl, sym, subst, ◌∙◌, append-nil}
use Rattle.proof_machines.proofs.share.Share.{Ran, at_node, Item, Item.Carry, Item.Shared, Item.Install, Item.Forward, UnitShare, View, ShareMachineStep}
use Rattle.proof_machines.proofs.share.Share.{ShareMachineStep.Arrive, ShareMachineStep.Take_cs, ShareMachineStep.Take_sc, ShareMachineStep.Take_sw}
use Rattle.proof_machines.proofs.share.Share.{ShareMachineStep.Take_to, ShareMachineStep.Take_back, has, member_does, from_cs, from_sc, from_sw, from_to}
use Rattle.proof_machines.proofs.share.Share.{from_back, moved}
use Rattle.proof_machines.proofs.share.Stages.{Stage, processed, shape, IsShare, FitsStage}
use Rattle.proof_machines.proofs.share.Steps.{goes_on}
use Rattle.proof_machines.proofs.share.Records.{done_is}
use Rattle.proof_machines.proofs.share.Heads.{Meets, meets_sw, meets_to, to_members}
use Rattle.proof_machines.proofs.Tests.{either_way}

module _ {R : Type 0} (f : UnitShare R) where
  abbrev pub At_places : List Ran → Type 0
  At_places [] = Unit {0}
  At_places (x ∷ xs) = ((x.1 ≡ f.home) ⊎ (x.1 ≡ f.member_of x.0)) × At_places xs

  -- what was processed has grown by packets at their places
  pub record Grows (old new : List Ran) : Type 0 where
    pub by : List Ran
    pub is : new ≡ old ++ by
    pub places : At_places by

  as_it_was : (old new : List Ran) → new ≡ old → Grows old new
  as_it_was old new e = record { by = []; is = e ∙ sym (append-nil old); places = tt }

  if_mine_at : (j p : ℕ) (b : Bool) → j ≡ f.member_of p → At_places (at_node j (cond b (p ∷ []) []))
  if_mine_at j p true e = (inr e, tt)
  if_mine_at j p false e = tt

  ran_at : (s : Stage R) (j : ℕ) (r : Option R) (it : Item R) → Meets f s j it → At_places (member_does f j r it).ran
  ran_at s j r (Carry p) m = (inl m.0, tt)
  ran_at s j r (Shared p) m = if_mine_at j p (f.mine p) m.0
  ran_at s j r it m = tt

  cs_done : (x : View R) (its : List (Item R)) → (from_cs f x its).done ≡ x.done
  cs_done x [] = refl
  cs_done x (Install ∷ rest) = refl
  cs_done x (Forward p m ∷ rest) = refl
  cs_done x (it ∷ rest) = refl

  sc_done : (x : View R) (its : List (Item R)) → (from_sc f x its).done ≡ x.done
  sc_done x [] = refl
  sc_done x (it ∷ rest) = refl

  back_done : (x : View R) (j : ℕ) (its : List (Item R)) → (from_back f x j its).done ≡ x.done
  back_done x j [] = refl
  back_done x j (it ∷ rest) = refl

  arrive_done : (x y z : View R) (b : Bool) → y.done ≡ x.done → z.done ≡ x.done → (cond b y z).done ≡ x.done
  arrive_done x y z true e g = e
  arrive_done x y z false e g = g

  sw_grows : (s : Stage R) (j : ℕ) (its : List (Item R)) → (shape f s).sw j ≡ its → Grows (shape f s).done (from_sw f (shape f s) j its).done
  sw_grows s j [] e = as_it_was (shape f s).done (shape f s).done refl
  sw_grows s j (it ∷ rest) e =
      let did = member_does f j ((shape f s).own j) it in
      record { by = did.ran; is = refl; places = ran_at s j ((shape f s).own j) it (meets_sw f s j it rest e) }

  to_meets : IsShare f → (s : Stage R) → FitsStage f s → (j : ℕ) (it : Item R) (rest : List (Item R)) → (shape f s).to j ≡ it ∷ rest → Meets f s j it
  to_meets is s h j it rest e =
      either_way (has f.members j) (λ m. meets_to f s h j m it rest e) (λ out. let never : it ∷ rest ≡ [] = sym e ∙ (to_members f is s h).to j out in cc)

  to_grows : IsShare f → (s : Stage R) → FitsStage f s → (j : ℕ) (its : List (Item R)) → (shape f s).to j ≡ its
      → Grows (shape f s).done (from_to f (shape f s) j its).done
  to_grows is s h j [] e = as_it_was (shape f s).done (shape f s).done refl
  to_grows is s h j (it ∷ rest) e =
      let did = member_does f j ((shape f s).own j) it in
      record { by = did.ran; is = refl; places = ran_at s j ((shape f s).own j) it (to_meets is s h j it rest e) }

  pub grows : IsShare f → (s : Stage R) → FitsStage f s → (m : ShareMachineStep) → Grows (shape f s).done (moved f (shape f s) m).done
  grows is s h (Arrive p) = as_it_was (shape f s).done (moved f (shape f s) (Arrive p)).done (arrive_done (shape f s) _ _ (shape f s).diverts refl refl)
  grows is s h Take_cs = as_it_was (shape f s).done (moved f (shape f s) Take_cs).done (cs_done (shape f s) (shape f s).cs)
  grows is s h Take_sc = as_it_was (shape f s).done (moved f (shape f s) Take_sc).done (sc_done (shape f s) (shape f s).sc)
  grows is s h (Take_sw j) = sw_grows s j ((shape f s).sw j) refl
  grows is s h (Take_to j) = to_grows is s h j ((shape f s).to j) refl
  grows is s h (Take_back j) = as_it_was (shape f s).done (moved f (shape f s) (Take_back j)).done (back_done (shape f s) j ((shape f s).back j))

  -- the same from stage to stage
  pub placed : (is : IsShare f) (s : Stage R) (h : FitsStage f s) (m : ShareMachineStep) → Grows (processed f s) (processed f (goes_on f is s h m).next)
  placed is s h m =
      let on = goes_on f is s h m in
      subst (λ ds. Grows ds (processed f on.next)) (done_is f s) (subst (λ ds. Grows (shape f s).done ds) (on.alike.done ∙ done_is f on.next) (grows is s h m))
