-- How many ways in a new worker has, and what waits at a node other than 0.
use Rattle.std.proofs.Common.{◌≡◌, ◌≢◌, ◌==◌, ℕ, true, false, if◌then◌else◌, List, [], ◌∷◌, length, ap, refl, suc}
use Rattle.std.proofs.lemmas.Bool.Decides.{Decides-eqb}
use Rattle.actor_net.specs.declared.stamped.Stamped.{Stamped}
use Rattle.fifo_link.specs.Ends.{End}
use Rattle.actor_threads.specs.Work.{all_in, queues_at}

module _ {M : Type 0} where
  pub length-all_in : (takes : List (End (List (Stamped M)))) (kept : List (List M)) → length kept ≡ length takes → length (all_in takes kept) ≡ length takes
  length-all_in [] kept e = refl
  length-all_in (t ∷ ts) [] e = absurd (cc)
  length-all_in (t ∷ ts) (k ∷ ks) e = ap suc (length-all_in ts ks (cc))

  -- at another node than 0 nothing changes
  pub waits_other : (number : ℕ) (input : List M) (kept : List (List M)) → number ≢ 0 → queues_at number input kept ≡ kept
  waits_other number input [] other = refl
  waits_other number input (k ∷ ks) other =
      elim (number == 0) as (λ b. (number == 0) ≡ b → (if b then input else k) ∷ ks ≡ k ∷ ks)
      [ true ↦ λ t. absurd (other ((Decides-eqb number 0).0 t)) | false ↦ λ _. refl ] refl
