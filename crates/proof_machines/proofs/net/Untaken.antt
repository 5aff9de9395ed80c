-- A unit that no share has: no message of a share and no queue has anything of it, and where a share's filter takes it, its packets go
-- elsewhere than to the share's home. With the switch's and the controller's steps, which keep it so.
use Rattle.proof_machines.proofs.EachLaws.{each_fails, none_passes}
use Rattle.proof_machines.proofs.unit.Labels.{each_map}
use Rattle.proof_machines.proofs.net.Words.{◌≡◌, ℕ, true, false, Some, None, List, [], ◌∷◌, ◌++◌, refl, ◌∙◌, ◌&&◌, ◌==◌, Chunks, record_at, Each, Sys}
use Rattle.proof_machines.proofs.net.Words.{none_mine, AreNumbersApart, found_each, each_set_share, set_find, Any, Old, New, ShareMsg, Shared_on, Diverted_on}
use Rattle.proof_machines.proofs.net.Words.{EachNew, as_old, Sharing, OpenShare, find_share, set_share, Told, share_row, told_by, SharesStep, by_share}
use Rattle.proof_machines.proofs.net.Words.{WholeWorld, old_step, whole_ctrl, same_unit, same_unit_equiv, Unit, SharePhase}
use Rattle.proof_machines.proofs.net.NewMessages.{OnNew, EachSentNew, each_new_map, sent_old_and, new_after, new_head}
use Rattle.proof_machines.proofs.net.ShareRows.{Tells, told_cases, ToldOf, SentBy, share_row_by}

module _ {R : Type 0} (S : Sys R) (u : Unit) where
  -- a message of a share has nothing of the unit; a copy's chunks may
  abbrev pub NoShare : List OpenShare → ShareMsg R → Type 0
  NoShare es (Shared_on n home p) = same_unit (S.packet_unit p) u ≡ false
  NoShare es (Diverted_on p) = same_unit (S.packet_unit p) u ≡ false
  NoShare es (ShareMsg.Forward n home p to) = same_unit (S.packet_unit p) u ≡ false
  NoShare es (ShareMsg.Sync n home cs) = record_at u cs ≡ None
  NoShare es (ShareMsg.Chunks n cs) = (e : OpenShare) → find_share es n ≡ Some e → record_at u cs ≡ None
  NoShare es (ShareMsg.Shared n c) = same_unit c.0 u ≡ false
  NoShare es m = Prim.Unit {0}

  abbrev pub ElsewhereHome : (Unit → ℕ) → OpenShare → Type 0
  ElsewhereHome t e = S.takes e.filter u ≡ true → (e.home == t u) ≡ false

  -- packets of other units
  abbrev pub Others : List ℕ → Type 0
  Others ps = Each (λ p. same_unit (S.packet_unit p) u ≡ false) ps

  pub others_of : (ps : List ℕ) → none_mine S u ps ≡ [] → Others ps
  others_of ps e = each_fails _ ps e

  pub none_of : (ps : List ℕ) → Others ps → none_mine S u ps ≡ []
  none_of ps h = none_passes _ ps h

  module _ (A : Sharing S) where
    pub record Untaken (w : WholeWorld S A) : Type 0 where
      pub homes : Each (ElsewhereHome w.target) w.shares
      pub queues : Each (λ e. none_mine S u e.queue ≡ []) w.shares
      pub links : (i j : ℕ) → (i == 0) && (j == 0) ≡ false → EachNew (NoShare w.shares) (w.link i j)

    -- the same shares are found
    no_share_set : (n : ℕ) (ph : SharePhase) (q : List ℕ) (es : List OpenShare) (m : ShareMsg R) → NoShare es m
        → NoShare (set_share n ph q es) m
    no_share_set n ph q es (ShareMsg.Chunks k cs) h = λ e is. let f = set_find n ph q es k e is in h f.share f.found
    no_share_set n ph q es (ShareMsg.Asked x) h = tt
    no_share_set n ph q es (ShareMsg.Install k g from) h = tt
    no_share_set n ph q es (ShareMsg.Get k g) h = tt
    no_share_set n ph q es (ShareMsg.Synced k) h = tt
    no_share_set n ph q es m h = h

    one_chunk : (c : Unit × R) → same_unit c.0 u ≡ false → record_at u (c ∷ []) ≡ None
    one_chunk c off = let other : same_unit u c.0 ≡ false = same_unit_equiv.symm u c.0 ∙ off in rw other refl

    -- The controller
    abbrev IsNotIn : Chunks R → Type 0
    IsNotIn cs = record_at u cs ≡ None

    not_told : (es : List OpenShare) (m : Any R) (e : OpenShare) (t : Told R) → OnNew (NoShare es) m → Tells S A es m e t
        → ToldOf S A e (λ p. same_unit (S.packet_unit p) u ≡ false) IsNotIn t
    not_told es (Old m) e t h is = rw is tt
    not_told es (New (ShareMsg.Chunks n cs)) e t h is = let eq = is.1 in rw eq (h e is.0)
    not_told es (New (ShareMsg.Shared n c)) e t h is = let eq = is.1 in rw eq (one_chunk c h)
    not_told es (New (ShareMsg.Synced n)) e t h is = rw is tt
    not_told es (New (Diverted_on p)) e t h is = let eq = is.1 in rw eq h
    not_told es m e t h is = absurd is

    sent_none : (es : List OpenShare) (e : OpenShare) (j : ℕ) (m : Any R) → SentBy S A e (λ p. same_unit (S.packet_unit p) u ≡ false) IsNotIn j m
        → OnNew (NoShare es) m
    sent_none es e j (New (ShareMsg.Get n g)) h = tt
    sent_none es e j (New (ShareMsg.Sync n home cs)) h = h.1
    sent_none es e j (New (ShareMsg.Forward n home p to)) h = h.1
    sent_none es e j (Old m) h = tt
    sent_none es e j m h = absurd h

    -- what the shares' step leaves
    pub record UntakenStep (w : WholeWorld S A) (s : SharesStep S A) : Type 0 where
      pub homes : Each (ElsewhereHome w.target) s.shares
      pub queues : Each (λ e. none_mine S u e.queue ≡ []) s.shares
      pub links : (m : ShareMsg R) → NoShare w.shares m → NoShare s.shares m
      pub sends : EachSentNew (λ _ m. NoShare s.shares m) s.sends

    shares_untaken : (w : WholeWorld S A) (p : ℕ) (m : Any R) → AreNumbersApart w.shares → Untaken w → OnNew (NoShare w.shares) m
        → UntakenStep w (by_share S A w.shares p (told_by S A w.shares m))
    shares_untaken w p m nums h head =
        told_cases S A (UntakenStep w) w.shares p m nums (record { homes = h.homes; queues = h.queues; links = λ _ k. k; sends = tt }) goes
      where
        goes : (e : OpenShare) (t : Told R) → find_share w.shares e.num ≡ Some e → Tells S A w.shares m e t
            → UntakenStep w (by_share S A w.shares p (Some (e, t)))
        goes e t there is =
            let r = share_row S A e p t in
            let k = share_row_by S A e (λ p. same_unit (S.packet_unit p) u ≡ false) IsNotIn p t (not_told w.shares m e t head is)
            (others_of e.queue (found_each (λ e. none_mine S u e.queue ≡ []) w.shares e.num e h.queues there)) in
            record {
              homes = each_set_share (ElsewhereHome w.target) e.num r.phase r.queue w.shares e there
                  (found_each (ElsewhereHome w.target) w.shares e.num e h.homes there) h.homes;
              queues = each_set_share (λ e. none_mine S u e.queue ≡ []) e.num r.phase r.queue w.shares e there (none_of r.queue k.0) h.queues;
              links = λ m x. no_share_set e.num r.phase r.queue w.shares m x;
              sends = each_map (λ x h. sent_none (set_share e.num r.phase r.queue w.shares) e x.0 x.1 h) r.sends k.1;
            }

    pub head_none : (w : WholeWorld S A) (p k : ℕ) (m : Any R) (rest : List (Any R)) → (p == 0) && (k == 0) ≡ false → w.link p k ≡ m ∷ rest → Untaken w
        → OnNew (NoShare w.shares) m
    head_none w p k (Old m) rest off waits h = tt
    head_none w p k (New m) rest off waits h = new_head (λ _ m. NoShare w.shares m) w.link h.links p k m rest off waits

    pub ctrl_untaken : (w : WholeWorld S A) (p : ℕ) (m : Any R) (rest : List (Any R)) → w.link p 1 ≡ m ∷ rest → AreNumbersApart w.shares → Untaken w
        → Untaken (whole_ctrl S A w p m)
    ctrl_untaken w p m rest waits nums h =
        let off : (p == 0) && (1 == 0) ≡ false = elim (p == 0) as (λ b. b && false ≡ false) [ true ↦ refl | false ↦ refl ] in
        let k = shares_untaken w p m nums h (head_none w p 1 m rest off waits h) in
        let s = by_share S A w.shares p (told_by S A w.shares m) in
        record {
          homes = k.homes;
          queues = k.queues;
          links = new_after (λ _ m. NoShare s.shares m) w.link
              (λ i j e. each_new_map (NoShare w.shares) (NoShare s.shares) k.links (w.link i j) (h.links i j e)) p 1
              (as_old (old_step S A w.ops p m).sends ++ s.sends) (sent_old_and (λ _ m. NoShare s.shares m) (old_step S A w.ops p m).sends s.sends k.sends);
        }
