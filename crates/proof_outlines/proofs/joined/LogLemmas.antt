-- What is read off a log that goes on; and where a unit is doesn't depend on how its packets are told.
use Rattle.proof_outlines.proofs.Words.{◌≡◌, ℕ, Bool, true, List, [], ◌∷◌, ◌++◌, refl, sym, ap, ◌∙◌, subst, append_assoc, append-nil, if◌then◌else◌, ◌&&◌, ◌||◌}
use Rattle.proof_outlines.proofs.Words.{filter, or_assoc, map-append, Note, instance_node, Semantics, Sys, IsSys, Sharing, WholeWorld, Came, WhereAll, EveryAll}
use Rattle.proof_outlines.proofs.Words.{Done, arrivals_in, installs_in, owner_after_order, owner_after, Unit, split}
pub use Rattle.net_world.proofs.LogLemmas.{arrived-append, done-append}
use Rattle.proof_outlines.proofs.joined.Words.{unit_fits, Given, loose_by, diverts, diverted_after, is_diverted, diverted_in, target_by, Scene, AreShown}
use Rattle.proof_outlines.proofs.joined.Words.{by_node, came_by, is_of}
use Rattle.proof_outlines.proofs.joined.OwnerLemmas.{installed_same}

pub by_node-append : {R : Type 0} (f : Semantics R) (g : Given) (xs ys : List Done) → by_node f g (xs ++ ys) ≡ by_node f g xs ++ by_node f g ys
by_node-append f g xs ys = map-append (λ (d : Done). (d.number, instance_node d.instance)) xs ys

-- where each unit is, by another function that gives the same
pub every_same : {R : Type 0} (S : Sys R) (A : Sharing S) (laws : IsSys S) (w : WholeWorld S A) (came came' : Unit → Came)
    → ((u : Unit) → came u ≡ came' u) → EveryAll S A laws w came → EveryAll S A laws w came'
every_same S A laws w came came' same h = record {
  global = h.global;
  unit = λ u. subst (λ k. WhereAll S A laws u w k) (same u) (h.unit u);
  fronts = h.fronts;
}

-- Whether a share has a unit, by a log that goes on.
module _ (g : Given) where
  pub diverted_after-append : (u : Unit) (i : ℕ) (xs ys : List ℕ)
      → diverted_after g u i (xs ++ ys) ≡ diverted_after g u i xs || diverted_after g u (owner_after g.names g.orders u i xs) ys
  diverted_after-append u i [] ys = refl
  diverted_after-append u i (op ∷ xs) ys = ap (λ b. diverts g u (g.orders op) i || b)
      (diverted_after-append u (owner_after_order g.names g.orders u (g.orders op) i) xs ys) ∙ sym (or_assoc (diverts g u (g.orders op) i) _ _)

  -- and its packets that arrived meanwhile
  pub diverted_in-append : (mine : ℕ → Bool) (u : Unit) (ops : List ℕ) (xs ys : List Note)
      → diverted_in g mine u ops (xs ++ ys) ≡ diverted_in g mine u ops xs ++ diverted_in g mine u (ops ++ installs_in xs) ys
  diverted_in-append mine u ops [] ys = ap (λ v. diverted_in g mine u v ys) (sym (append-nil ops))
  diverted_in-append mine u ops (Note.Arrived p ∷ xs) ys =
      split (mine p && is_diverted g u ops)
      (λ b. (if b then p ∷ diverted_in g mine u ops (xs ++ ys) else diverted_in g mine u ops (xs ++ ys)) ≡
      (if b then p ∷ diverted_in g mine u ops xs else diverted_in g mine u ops xs) ++ diverted_in g mine u (ops ++ installs_in xs) ys)
      (λ _. ap (λ v. p ∷ v) (diverted_in-append mine u ops xs ys)) (λ _. diverted_in-append mine u ops xs ys)
  diverted_in-append mine u ops (Note.Installed op ∷ xs) ys = diverted_in-append mine u (ops ++ op ∷ []) xs ys
      ∙ ap (λ v. diverted_in g mine u (ops ++ op ∷ []) xs ++ diverted_in g mine u v ys) (append_assoc ops (op ∷ []) (installs_in xs))
  diverted_in-append mine u ops (n ∷ xs) ys = diverted_in-append mine u ops xs ys

  -- none where nothing arrives
  pub diverted_none : (mine : ℕ → Bool) (u : Unit) (ops : List ℕ) (xs : List Note) → arrivals_in xs ≡ [] → diverted_in g mine u ops xs ≡ []
  diverted_none mine u ops [] none = refl
  diverted_none mine u ops (Note.Arrived p ∷ xs) none = cc
  diverted_none mine u ops (Note.Installed op ∷ xs) none = diverted_none mine u (ops ++ op ∷ []) xs none
  diverted_none mine u ops (n ∷ xs) none = diverted_none mine u ops xs none

-- what came of a unit, after notes among which no packet arrives
module _ {R : Type 0} (f : Semantics R) (g : Given) (log notes : List Note) (still : arrivals_in notes ≡ []) where
  pub came_more : (u : Unit) → came_by f g (log ++ notes) u ≡ record (came_by f g log u) { bared = loose_by g u (installs_in (log ++ notes)) }
  came_more u =
      let all : filter (is_of f g u) (arrivals_in (log ++ notes)) ≡ filter (is_of f g u) (arrivals_in log) = ap (filter (is_of f g u))
      (arrived-append log notes ∙ ap (λ v. arrivals_in log ++ v) still ∙ append-nil (arrivals_in log)) in
      let diverted : diverted_in g (is_of f g u) u [] (log ++ notes) ≡ diverted_in g (is_of f g u) u [] log = diverted_in-append g (is_of f g u) u [] log
      notes ∙ ap (λ v. diverted_in g (is_of f g u) u [] log ++ v) (diverted_none g (is_of f g u) u (installs_in log) notes still)
      ∙ append-nil (diverted_in g (is_of f g u) u [] log) in
      rw (all, diverted) refl

-- to which node a unit's packets go, whether a plain move handed it on, and what came of it, after notes among which no change of the rules stands
module _ {F R : Type 0} (f : Semantics R) (g : Given) (n : ℕ) (x : Scene F f g) (are : AreShown f g n x) (notes : List Note)
    (none : installs_in notes ≡ []) where
  pub owners_on : (u : Unit) → unit_fits f.kind u ≡ true → x.world.target u ≡ target_by g u (installs_in (x.log ++ notes))
  owners_on u fits = are.owners u fits ∙ ap (λ ops. target_by g u ops) (sym (installed_same x.log notes none))

  pub loose_on : (u : Unit) → loose_by g u (installs_in x.log) ≡ loose_by g u (installs_in (x.log ++ notes))
  loose_on u = ap (loose_by g u) (sym (installed_same x.log notes none))

  pub came_on : arrivals_in notes ≡ [] → (u : Unit) → came_by f g x.log u ≡ came_by f g (x.log ++ notes) u
  came_on still u = ap (λ b. record (came_by f g x.log u) { bared = b }) (loose_on u) ∙ sym (came_more f g x.log notes still u)
