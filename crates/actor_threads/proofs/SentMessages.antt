-- What a step sent, under equal names for its clock and its list.
use Rattle.std.proofs.Common.{◌≡◌, ℕ, List, subst}
use Rattle.actor_threads.specs.Ways.{Outgoing, Sends}
use Rattle.actor_threads.specs.Work.{put_for}

-- what was sent, by other names for the clock and the list
pub sends_as : {M : Type 0} (old new : Outgoing M) (n from to k k' : ℕ) (l l' : List (ℕ × M)) → k ≡ k' → l ≡ l' → Sends old new (put_for n from to k l)
    → Sends old new (put_for n from to k' l')
sends_as {M = M} old new n from to k k' l l' p q s = subst (λ (v : ℕ × List (ℕ × M)). Sends old new (put_for n from to v.0 v.1)) (λ i. (p i, q i)) s
