-- The lost and the open packets are packets of the input.
use Rattle.standby_failover.proofs.Words.{◌≡◌, ℕ, true, List, [], ◌∷◌, ◌++◌, Some, Option, drop, take, length, refl, sym, ap, ◌∙◌, ◌==◌, ◌||◌, All, IsSome}
use Rattle.standby_failover.proofs.Words.{find, is_some, or-true, take_at, packets, arrivals_in, Promoted, Failover, lost_in_order, numbers_done, open_packets}
use Rattle.standby_failover.proofs.Words.{is_in, is_lost, is_open, IsLeft, IsPromoted}
use Rattle.std.proofs.lemmas.List.Elements.{All-append, All-cons, All-filter, All-nil, All-same, All-weaker, All-take, All-drop}
use Rattle.std.proofs.lemmas.List.{drop_at}
use Rattle.standby_failover.proofs.ListLemmas.{same_number}
use Rattle.standby_failover.proofs.Arrivals.{found_came, found_done}

some_of : {X : Type 0} (o : Option X) → ((y : X) × (o ≡ Some y)) → IsSome o
some_of o h = ap is_some h.1

all_in : (xs : List ℕ) → All (λ p. is_in p xs ≡ true) xs
all_in [] = All-nil (λ p. is_in p [] ≡ true)
all_in (x ∷ xs) = All-cons (λ p. is_in p (x ∷ xs) ≡ true) x xs (ap (λ b. b || is_in x xs) (same_number x))
    (All-weaker (λ p. is_in p xs ≡ true) (λ p. is_in p (x ∷ xs) ≡ true) (λ p e. ap (λ b. (p == x) || b) e ∙ or-true (p == x)) xs (all_in xs))

module _ {F R : Type 0} (x : Failover F R) (left : IsLeft x) where
  abbrev IsKnown : ℕ → Type 0
  IsKnown n = IsSome (find (λ q. q.number == n) (packets x.job.items))

  lost_known : All IsKnown (lost_in_order x)
  lost_known = All-filter (is_lost x) IsKnown (numbers_done x.world.log)
      (All-weaker (λ p. is_in p (numbers_done x.world.log) ≡ true) IsKnown
      (λ p e. some_of (find (λ q. q.number == p) (packets x.job.items)) (found_done x left p e)) (numbers_done x.world.log) (all_in (numbers_done x.world.log)))

  open_known : All IsKnown (open_packets x)
  open_known = All-filter (is_open x) IsKnown (arrivals_in x.world.log)
      (All-weaker (λ p. is_in p (arrivals_in x.world.log) ≡ true) IsKnown
      (λ p e. some_of (find (λ q. q.number == p) (packets x.job.items)) (found_came x left p e))
      (arrivals_in x.world.log) (all_in (arrivals_in x.world.log)))

  pub known : (p : Promoted F R) → IsPromoted x p → All IsKnown (p.order ++ p.pending)
  known p h = All-append IsKnown p.order p.pending (All-same IsKnown p.order (lost_in_order x) h.order lost_known)
      (All-same IsKnown p.pending (open_packets x) h.pending open_known)

-- the parts of what holds of all
pub all_first : (P : ℕ → Type 0) (xs ys : List ℕ) → All P (xs ++ ys) → All P xs
all_first P xs ys h = All-same P xs (take (length xs) (xs ++ ys)) (sym (take_at xs ys (length xs) refl)) (All-take P (length xs) (xs ++ ys) h)

pub all_second : (P : ℕ → Type 0) (xs ys : List ℕ) → All P (xs ++ ys) → All P ys
all_second P xs ys h = All-same P ys (drop (length xs) (xs ++ ys)) (sym (drop_at xs ys (length xs) refl)) (All-drop P (length xs) (xs ++ ys) h)
