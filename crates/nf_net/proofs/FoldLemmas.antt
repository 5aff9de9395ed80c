-- The fold of a unit's records by the words of the promises is that of the abstract network.
use Rattle.nf_net.proofs.Words.{◌≡◌, ℕ, Option, Some, List, [], ◌∷◌, refl, packet_numbered, S, given, all_fit, Setting}
use Rattle.proof_machines.proofs.net.Readings as readings
use Rattle.net_world.specs.Fold.{fold}

module _ {F R : Type 0} (setting : Setting F R) where
  open setting use {function as f, config as c, items}

  pub fold_is : (kept : Option R) (ps : List ℕ) → fold f c items kept ps ≡ readings.fold (S f (given setting)).F kept ps
  fold_is kept [] = refl
  fold_is kept (p ∷ ps) = rw ((all_fit setting p).transport) (fold_is (Some (f.stepped c.site kept (packet_numbered items p)).kept) ps)
