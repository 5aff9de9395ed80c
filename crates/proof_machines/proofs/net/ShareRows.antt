-- What an open share is told by a message, and that its row keeps and sends nothing but what it was told.
use Rattle.proof_machines.proofs.net.Words.{◌≡◌, ℕ, true, false, Option, Some, None, List, [], ◌∷◌, map, refl, subst, if◌then◌else◌, ◌==◌, option_map, Chunks}
use Rattle.proof_machines.proofs.net.Words.{MoveMsg, Each, each-append, SharePhase, Idle, without_number, self, Of_move, Sys, EachSent, AreNumbersApart}
use Rattle.proof_machines.proofs.net.Words.{found_own, Any, Old, New, Diverted_on, ShareMsg, Sharing, OpenShare, find_share, share_taking, Told, Is_fenced}
use Rattle.proof_machines.proofs.net.Words.{Has_chunks, Has_chunk, Is_synced, Has_packet, ShareTurn, share_words, s_row, share_row, told_by, SharesStep}
use Rattle.proof_machines.proofs.net.Words.{by_share, split, by_if, Unit}
use Rattle.copy_share.specs.ShareTable.{Words, service_if_idle}
use Rattle.proof_machines.proofs.share.TableViews.{Follow, fenced_follows, chunks_follows, shared_follows, synced_follows}
use Rattle.proof_machines.proofs.net.ShareLists.{find_each}

module _ {R : Type 0} (S : Sys R) (A : Sharing S) where
  -- the share that takes a unit is found by its number
  pub taking_each : (P : OpenShare → Type 0) (es : List OpenShare) (v : Unit) (e : OpenShare) → Each P es → share_taking S es v ≡ Some e
      → P e × (S.takes e.filter v ≡ true)
  taking_each P es v e h is = find_each P (λ d. S.takes d.filter v) es e h is

  pub taking_found : (es : List OpenShare) (v : Unit) (e : OpenShare) → AreNumbersApart es → share_taking S es v ≡ Some e → find_share es e.num ≡ Some e
  taking_found [] v e h is = cc
  taking_found (x ∷ es) v e h is =
      split (S.takes x.filter v) (λ b. (if b then Some x else share_taking S es v) ≡ Some e → find_share (x ∷ es) e.num ≡ Some e)
      (λ _. λ there.
      let same : x ≡ e = cc in let self : (x.num == x.num) ≡ true = self x.num in subst (λ y. find_share (x ∷ es) y.num ≡ Some y) same (rw self refl))
      (λ _. λ there. let other = (taking_each (λ d. (x.num == d.num) ≡ false) es v e h.0 there).0 in rw other (taking_found es v e h.1 there)) is

  -- what a message tells a share
  abbrev pub Tells : List OpenShare → Any R → OpenShare → Told R → Type 0
  Tells es (Old m) e t = t ≡ Is_fenced
  Tells es (New (ShareMsg.Chunks n cs)) e t = (find_share es n ≡ Some e) × (t ≡ Has_chunks cs)
  Tells es (New (ShareMsg.Shared n c)) e t = (find_share es n ≡ Some e) × (t ≡ Has_chunk c)
  Tells es (New (ShareMsg.Synced n)) e t = t ≡ Is_synced
  Tells es (New (Diverted_on p)) e t = (share_taking S es (S.packet_unit p) ≡ Some e) × (t ≡ Has_packet p)
  Tells es (New m) e t = ⊥

  abbrev pub no_step : List OpenShare → SharesStep S A
  no_step es = record { shares = es; sends = [] }

  by_option : (G : SharesStep S A → Type 0) (es : List OpenShare) (p : ℕ) (t : Told R) (o : Option OpenShare) → G (no_step es)
      → ((e : OpenShare) → o ≡ Some e → G (by_share S A es p (Some (e, t)))) → G (by_share S A es p (option_map (λ e. (e, t)) o))
  by_option G es p t None none some = none
  by_option G es p t (Some e) none some = some e refl

  -- a step of the shares on any message: nothing, or the row of one that is found
  pub told_cases : (G : SharesStep S A → Type 0) (es : List OpenShare) (p : ℕ) (m : Any R) → AreNumbersApart es → G (no_step es)
      → ((e : OpenShare) (t : Told R) → find_share es e.num ≡ Some e → Tells es m e t → G (by_share S A es p (Some (e, t))))
      → G (by_share S A es p (told_by S A es m))
  told_cases G es p (Old (Of_move g (MoveMsg.Fenced n))) nums none some =
      by_option G es p Is_fenced (find_share es n) none (λ e is. some e Is_fenced (found_own es n e is) refl)
  told_cases G es p (New (ShareMsg.Chunks n cs)) nums none some =
      by_option G es p (Has_chunks cs) (find_share es n) none (λ e is. some e (Has_chunks cs) (found_own es n e is) (is, refl))
  told_cases G es p (New (ShareMsg.Shared n c)) nums none some =
      by_option G es p (Has_chunk c) (find_share es n) none (λ e is. some e (Has_chunk c) (found_own es n e is) (is, refl))
  told_cases G es p (New (ShareMsg.Synced n)) nums none some =
      by_option G es p Is_synced (find_share es n) none (λ e is. some e Is_synced (found_own es n e is) refl)
  told_cases G es p (New (Diverted_on q)) nums none some = by_option G es p (Has_packet q) (share_taking S es (S.packet_unit q)) none
      (λ e is. some e (Has_packet q) (taking_found es (S.packet_unit q) e nums is) (is, refl))
  told_cases G es p m nums none some = none

  -- Of one share: packets that are Q and chunks that are C
  module _ (e : OpenShare) (Q : ℕ → Type 0) (C : Chunks R → Type 0) where
    abbrev pub ToldOf : Told R → Type 0
    ToldOf Is_fenced = Prim.Unit {0}
    ToldOf (Has_chunks cs) = C cs
    ToldOf (Has_chunk c) = C (c ∷ [])
    ToldOf Is_synced = Prim.Unit {0}
    ToldOf (Has_packet p) = Q p

    abbrev pub SentBy : ℕ → Any R → Type 0
    SentBy j (New (ShareMsg.Get n g)) = (n ≡ e.num) × (g ≡ e.filter) × (j ≡ e.home)
    SentBy j (New (ShareMsg.Sync n home cs)) = (n ≡ e.num) × C cs × (home ≡ (j == e.home))
    SentBy j (New (ShareMsg.Forward n home p to)) = (n ≡ e.num) × Q p × (to ≡ A.member e.members p) × (home ≡ (to == e.home))
    SentBy j m = ⊥

    abbrev pub Keeps : ShareTurn R → Type 0
    Keeps d = Each Q d.queue × EachSent SentBy d.sends

    syncs_by : (cs : Chunks R) → C cs → (ms : List ℕ) → EachSent SentBy (map (λ m. (m, New (ShareMsg.Sync e.num (m == e.home) cs))) ms)
    syncs_by cs c [] = tt
    syncs_by cs c (m ∷ ms) = ((refl, c, refl), syncs_by cs c ms)

    module _ (h : Each Q e.queue) where
      abbrev w : Words ℕ (Chunks R) (ShareTurn R) (ShareTurn R)
      w = share_words S A e e.queue

      follow : Follow w w (λ m. m) (λ d _. Keeps d)
      follow = record { home = refl; others = λ one. refl; nothing = λ ph. (h, tt); get = (h, ((refl, refl, refl), tt)); done = λ k. k }

      row_by : (sender : ℕ) (told : Told R) → ToldOf told → Keeps (s_row S A e sender told)
      row_by sender Is_fenced t = by_if Keeps (sender == e.home) (fenced_follows follow e.phase) (h, tt)
      row_by sender (Has_chunks cs) t = by_if Keeps (sender == e.home)
          (chunks_follows follow cs cs (λ one ph. (h, syncs_by cs t (without_number e.members one))) e.phase) (h, tt)
      row_by sender (Has_chunk c) t = shared_follows follow (c ∷ []) (c ∷ []) (λ one ph. (h, syncs_by (c ∷ []) t (without_number e.members one)))
          (λ m. sender == m) (λ m. sender == m) e.phase (λ one _. refl)
      row_by sender Is_synced t = synced_follows follow e.phase
      row_by sender (Has_packet p) t = (each-append Q e.queue (p ∷ []) h (t, tt), tt)

    served_by : (ph : SharePhase) (q : List ℕ) → Each Q q → Keeps (service_if_idle (share_words S A e q) ph q)
    served_by Idle (p ∷ q) h = (h.1, ((refl, h.0, refl, refl), tt))
    served_by ph q h = (h, tt)

    pub share_row_by : (sender : ℕ) (told : Told R) → ToldOf told → Each Q e.queue → Keeps (share_row S A e sender told)
    share_row_by sender told t h =
        let r = s_row S A e sender told in
        let k = row_by h sender told t in
        let next = served_by r.phase r.queue k.0 in
        (next.0, each-append _ r.sends (service_if_idle (share_words S A e r.queue) r.phase r.queue).sends k.1 next.1)
