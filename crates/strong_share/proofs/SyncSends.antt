-- The Syncs with one chunk, to each member but one.
use Rattle.strong_share.proofs.Words.{◌≡◌, ℕ, zero, suc, ◌+◌, ◌<◌, Bool, true, false, List, [], ◌∷◌, ◌++◌, refl, ap, ◌∙◌, if◌then◌else◌, ◌==◌, Chunk, Msg}
use Rattle.strong_share.proofs.Words.{Sync, instance_node, sent_for, the_share, is_home, syncs}
use Rattle.strong_share.proofs.MemberLists.{syncs_more}
use Rattle.net_world.proofs.SentMessages.{sent_for-append}
use Rattle.strong_share.proofs.Reading.{sent_one, sent_each}

abbrev pub own_sync : ℕ → Chunk → ℕ → List Msg
own_sync m chunk k = if k == m then [] else Sync (is_home k) the_share (chunk ∷ []) ∷ []

pub syncs_sent : (m : ℕ) (chunk : Chunk) (n k : ℕ) → k < n → sent_for (k + 2) (syncs n m chunk) ≡ own_sync m chunk k
syncs_sent m chunk = sent_each (own_sync m chunk) (λ n. syncs n m chunk) refl more
  where
    more : (i k : ℕ) → sent_for (k + 2) (syncs (suc i) m chunk) ≡ sent_for (k + 2) (syncs i m chunk) ++ (if k == i then own_sync m chunk i else [])
    more i k = ap (sent_for (k + 2)) (syncs_more i m chunk) ∙ sent_for-append (k + 2) (syncs i m chunk) (if i == m then [] else
        (instance_node i, Sync (is_home i) the_share (chunk ∷ [])) ∷ []) ∙ ap (λ z. sent_for (k + 2) (syncs i m chunk) ++ z) (one (i == m))
      where
        neither : (b : Bool) → ◌≡◌ {A = List Msg} [] (if b then [] else [])
        neither true = refl
        neither false = refl

        one : (b : Bool) → sent_for (k + 2) (if b then [] else (instance_node i, Sync (is_home i) the_share (chunk ∷ [])) ∷ [])
            ≡ (if k == i then (if b then [] else Sync (is_home i) the_share (chunk ∷ []) ∷ []) else [])
        one true = neither (k == i)
        one false = sent_one i k (Sync (is_home i) the_share (chunk ∷ []))

pub syncs_other : (m : ℕ) (chunk : Chunk) (n to : ℕ) → ((i : ℕ) → (i + 2 == to) ≡ false) → sent_for to (syncs n m chunk) ≡ []
syncs_other m chunk zero to apart = refl
syncs_other m chunk (suc n) to apart = ap (sent_for to) (syncs_more n m chunk)
    ∙ sent_for-append to (syncs n m chunk) (if n == m then [] else (instance_node n, Sync (is_home n) the_share (chunk ∷ [])) ∷ [])
    ∙ ap (λ z. z ++ sent_for to (if n == m then [] else (instance_node n, Sync (is_home n) the_share (chunk ∷ [])) ∷ [])) (syncs_other m chunk n to apart)
    ∙ one (n == m)
  where
    one : (b : Bool) → sent_for to (if b then [] else (instance_node n, Sync (is_home n) the_share (chunk ∷ [])) ∷ []) ≡ []
    one true = refl
    one false = ap (λ b. (if b then Sync (is_home n) the_share (chunk ∷ []) ∷ [] else []) ++ []) (apart n)
