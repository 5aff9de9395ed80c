-- The table of a share over other packets, chunks and words: what holds between what the words of two tables come to holds between their rows.
-- So what is seen of a row is the row of what is seen.
use Rattle.std.proofs.Common.{◌≡◌, ℕ, ◌-◌, Bool, List, [], ◌∷◌, refl}
use Rattle.std.specs.Prelude.{if◌then◌else◌, ◌==◌}
use Rattle.copy_share.specs.declared.share_phase.SharePhase.{SharePhase}
use Rattle.copy_share.specs.declared.share_phase.SharePhase.TheVariants.{Fencing, Getting, Setting, Idle, Out, Syncing}
use Rattle.copy_share.specs.ShareTable.{Nothing, Get, Sync, Words, setting, syncing, on_fenced, on_chunks, on_shared, on_synced, service_of, service_if_idle}
use Rattle.proof_machines.proofs.Tests.{split}

-- a phase with another number for the member at which a packet is out
abbrev pub map_phase : (ℕ → ℕ) → SharePhase → SharePhase
map_phase m (Out one) = Out (m one)
map_phase m phase = phase

-- what is to hold between the words of two tables
pub record Follow {P C N T Q D M V : Type 0} (w : Words P C N T) (v : Words Q D M V) (m : ℕ → ℕ) (Leads : N → M → Type 0) : Type 0 where
  pub home : v.home ≡ m w.home
  pub others : (one : ℕ) → v.others (m one) ≡ w.others one
  pub nothing : (ph : SharePhase) → Leads (w.next ph Nothing) (v.next (map_phase m ph) Nothing)
  pub get : Leads (w.next Getting Get) (v.next Getting Get)
  pub done : {n : N} {k : M} → Leads n k → Leads (w.done n) (v.done k)

module _ {P C N T Q D M V : Type 0} {w : Words P C N T} {v : Words Q D M V} {m : ℕ → ℕ} {Leads : N → M → Type 0} (f : Follow w v m Leads) where
  setting_follows : (n : SharePhase → N) (k : SharePhase → M) → ((ph : SharePhase) → Leads (n ph) (k (map_phase m ph))) → (left : ℕ)
      → Leads (setting n w.done left) (setting k v.done left)
  setting_follows n k h left = split (left == 0)
      (λ b. Leads (if b then w.done (n Idle) else n (Setting left)) (if b then v.done (k Idle) else k (Setting left))) (λ _. f.done (h Idle))
      (λ _. h (Setting left))

  syncing_follows : (n : SharePhase → N) (k : SharePhase → M) → ((ph : SharePhase) → Leads (n ph) (k (map_phase m ph))) → (left : ℕ)
      → Leads (syncing n left) (syncing k left)
  syncing_follows n k h left = split (left == 0) (λ b. Leads (n (if b then Idle else Syncing left)) (k (if b then Idle else Syncing left)))
      (λ _. h Idle) (λ _. h (Syncing left))

  pub fenced_follows : (ph : SharePhase) → Leads (on_fenced w ph) (on_fenced v (map_phase m ph))
  fenced_follows Fencing = f.get
  fenced_follows ph = f.nothing ph

  pub synced_follows : (ph : SharePhase)
      → Leads (on_synced (λ ph. w.next ph Nothing) w.done ph) (on_synced (λ ph. v.next ph Nothing) v.done (map_phase m ph))
  synced_follows (Setting left) = setting_follows (λ ph. w.next ph Nothing) (λ ph. v.next ph Nothing) f.nothing (left - 1)
  synced_follows (Syncing left) = syncing_follows (λ ph. w.next ph Nothing) (λ ph. v.next ph Nothing) f.nothing (left - 1)
  synced_follows ph = f.nothing ph

  -- chunks that members are to take, and what is seen of them
  module _ (c : C) (d : D) (taken : (one : ℕ) (ph : SharePhase) → Leads (w.next ph (Sync one c)) (v.next (map_phase m ph) (Sync (m one) d))) where
    pub chunks_follows : (ph : SharePhase) → Leads (on_chunks w ph c) (on_chunks v (map_phase m ph) d)
    chunks_follows Getting = rw (f.home, f.others w.home)
        (setting_follows (λ ph. w.next ph (Sync w.home c)) (λ ph. v.next ph (Sync (m w.home) d)) (taken w.home) (w.others w.home))
    chunks_follows ph = f.nothing ph

    -- the message comes from the member at which a packet is out, as it is seen too
    pub shared_follows : (from seen_from : ℕ → Bool) (ph : SharePhase) → ((one : ℕ) → ph ≡ Out one → seen_from (m one) ≡ from one)
        → Leads (on_shared w ph from c) (on_shared v (map_phase m ph) seen_from d)
    shared_follows from seen_from (Out one) same = rw (same one refl, f.others one) (split (from one)
        (λ b. Leads (if b then syncing (λ ph. w.next ph (Sync one c)) (w.others one) else w.next (Out one) Nothing)
        (if b then syncing (λ ph. v.next ph (Sync (m one) d)) (w.others one) else v.next (Out (m one)) Nothing))
        (λ _. syncing_follows (λ ph. w.next ph (Sync one c)) (λ ph. v.next ph (Sync (m one) d)) (taken one) (w.others one)) (λ _. f.nothing (Out one)))
    shared_follows from seen_from ph same = f.nothing ph

  module _ (Gives : T → V → Type 0) (keeps : (n : N) (k : M) → Leads n k → Gives (w.keeps n) (v.keeps k)) where
    -- both serve a packet, or there is none
    abbrev pub Serve : List P → List Q → Type 0
    Serve [] [] = Prim.Unit {0}
    Serve (p ∷ ps) (q ∷ qs) = Gives (service_of w p ps) (service_of v q qs)
    Serve ps qs = ⊥

    pub service_follows : (ph : SharePhase) (ps : List P) (qs : List Q) → Serve ps qs
        → Gives (service_if_idle w ph ps) (service_if_idle v (map_phase m ph) qs)
    service_follows Idle (p ∷ ps) (q ∷ qs) h = h
    service_follows Idle [] [] h = keeps _ _ (f.nothing Idle)
    service_follows Idle [] (q ∷ qs) h = absurd h
    service_follows Idle (p ∷ ps) [] h = absurd h
    service_follows ph ps qs h = keeps _ _ (f.nothing ph)
