-- A unit's own share takes what it is told: the unit sees what the share's machine does (`fenced_sees` to `packet_sees`).
use Rattle.proof_machines.proofs.net.Words.{◌≡◌, ℕ, ◌≤◌, Bool, true, false, Option, Some, List, [], ◌∷◌, ◌++◌, map, refl, sym, ap, ◌∙◌, subst, append-nil}
use Rattle.proof_machines.proofs.net.Words.{arith, if◌then◌else◌, ◌==◌, nat_tests, Decides-eqb, nat_eq_equiv, record_at, where_true, add, sent_for}
use Rattle.proof_machines.proofs.net.Words.{filter_map-append, sent_for-append, Forward, Get, Sync, Diverted, Fenced, Chunk, Synced, Stray, UnitShare}
use Rattle.proof_machines.proofs.net.Words.{SharePhase, Getting, Idle, Out, has, without_number, only, nowhere, waits, sync_to, serves, said_to, share_does}
use Rattle.proof_machines.proofs.net.Words.{distinct}
use Rattle.proof_machines.proofs.net.Words.{IsShare, self, has-without, apart_of, Sys, mine, unit_share, fit, share_seen, share_items, as_share, Any, New}
use Rattle.proof_machines.proofs.net.Words.{ShareMsg, same, Sharing, OpenShare, Told, Is_fenced, Has_chunks, Has_chunk, Is_synced, Has_packet, ShareTurn, s_row}
use Rattle.proof_machines.proofs.net.Words.{s_serves, share_row, share_words, SeeingShare, split, false_from_ne_true, Unit}
use Rattle.copy_share.specs.ShareTable as said
use Rattle.copy_share.specs.ShareTable.{Said, on_fenced, on_chunks, on_shared, on_synced, service_if_idle}
use Rattle.proof_machines.proofs.unit.Real
use Rattle.proof_machines.proofs.share.Share.{Item, Item.Chunks, ControllerTurn, words, said_to_switch}
use Rattle.proof_machines.proofs.share.Lists.{distinct-without}
use Rattle.proof_machines.proofs.share.TableViews.{map_phase, Follow, fenced_follows, chunks_follows, shared_follows, synced_follows, Serve, service_follows}
use Rattle.proof_machines.proofs.net.Shares.{syncs, share_says}
use Rattle.proof_machines.proofs.net.OnShareLinks.{Sender}
use Rattle.proof_machines.proofs.net.ShareLinks.{lone_view}

-- one message for each of these
sent_each : {R : Type 0} (g : ℕ → Any R) (k : ℕ) (ms : List ℕ) → distinct ms ≡ true → sent_for k (map (λ m. (m, g m)) ms) ≡ (if has ms k then g k ∷ [] else [])
sent_each g k [] d = refl
sent_each g k (m ∷ ms) d =
    let a = apart_of (has ms m) (distinct ms) d in
    let rest = sent_each g k ms a.1 in
    split (m == k) (λ b. (if b then g m ∷ sent_for k (map (λ m. (m, g m)) ms) else sent_for k (map (λ m. (m, g m)) ms))
    ≡ (if (if k == m then true else has ms k) then g k ∷ [] else []))
    (λ e.
    let eq : m ≡ k = (Decides-eqb m k).0 e in
    let out : has ms k ≡ false = subst (λ y. has ms y ≡ false) eq a.0 in
    let on : (k == m) ≡ true = grind (arith, nat_tests) in
    rw (rest, out, on) (ap (λ y. g y ∷ []) eq))
    (λ e. let off : (k == m) ≡ false = grind (arith, nat_tests) in rw off rest)

module _ {R : Type 0} (S : Sys R) (A : Sharing S) (z : SeeingShare) (is : IsShare (unit_share S A z)) (insts : (k : ℕ) → has z.members k ≡ true → 2 ≤ k) where
  abbrev f : UnitShare R
  f = unit_share S A z

  -- what the unit sees of a row, against what the share does with an item
  pub record SeesRow (r : ShareTurn R) (d : ControllerTurn R) : Type 0 where
    pub phase : r.phase ≡ d.phase
    pub queue : r.queue ≡ d.queue
    pub to_s : share_items S A z 0 (sent_for 0 r.sends) ≡ d.to_s
    pub to : (k : ℕ) → (k == 0) ≡ false → share_items S A z k (sent_for k r.sends) ≡ d.to k

  home_0 : (z.home == 0) ≡ false
  home_0 = let two = insts z.home is.home_in in grind (arith, nat_tests, two)

  none_at_0 : has z.members 0 ≡ false
  none_at_0 = false_from_ne_true (has z.members 0) (λ on. let two : 2 ≤ 0 = insts 0 on in let never : ⊥ = omega (arith, two) in absurd never)

  agrees : (b : Bool) (it : Item R) → fit S A z (same b b) it ≡ it
  agrees true it = refl
  agrees false it = refl

  -- a Sync to each of the others, as the unit sees it
  syncs_seen : (j : ℕ) (cs : Real.Chunks R) (k : ℕ)
      → share_items S A z k (sent_for k (syncs z.num z.home j cs z.members)) ≡ sync_to (without_number z.members j) (record_at z.unit cs) k
  syncs_seen j cs k =
      ap (share_items S A z k) (sent_each (λ m. New (ShareMsg.Sync z.num (m == z.home) cs)) k (without_number z.members j)
      (distinct-without z.members j is.apart))
      ∙ split (has (without_number z.members j) k)
      (λ b. share_items S A z k (if b then New (ShareMsg.Sync z.num (k == z.home) cs) ∷ [] else []) ≡ (if b then Sync (record_at z.unit cs) ∷ [] else []))
      (λ _. ap (λ b. add (where_true b (fit S A z (same (k == z.home) (k == z.home)) (Sync (record_at z.unit cs)))) []) (self z.num)
      ∙ ap (λ it. it ∷ []) (agrees (k == z.home) (Sync (record_at z.unit cs)))) (λ _. refl)

  none_to_s : (j : ℕ) (cs : Real.Chunks R) → share_items S A z 0 (sent_for 0 (syncs z.num z.home j cs z.members)) ≡ []
  none_to_s j cs = let out : has (without_number z.members j) 0 ≡ false = has-without z.members j 0 ∙ rw none_at_0 refl in syncs_seen j cs 0 ∙ rw out refl

  -- the packet that is served
  forward_seen : (to p : ℕ) → share_items S A z 0 ((New (ShareMsg.Forward z.num (to == z.home) p to)) ∷ []) ≡ Forward p to ∷ []
  forward_seen to p =
      ap (λ b. add (if b then Some (fit S A z (same (to == z.home) (to == z.home)) (Forward p to)) else where_true (mine S A z p) Stray) []) (self z.num)
      ∙ ap (λ it. it ∷ []) (agrees (to == z.home) (Forward p to))

  get_seen : (k : ℕ) → share_items S A z k (sent_for k ((z.home, New (ShareMsg.Get z.num z.filter)) ∷ [])) ≡ only z.home (Get ∷ []) k
  get_seen k = lone_view S A z z.home k (New (ShareMsg.Get z.num z.filter)) ∙ ap (λ b. if z.home == k then add (where_true b Get) [] else []) (self z.num)
      ∙ ap (λ b. if b then Get ∷ [] else []) (nat_eq_equiv.symm z.home k)

  phase_same : (ph : SharePhase) → map_phase (λ m. m) ph ≡ ph
  phase_same (Out m) = refl
  phase_same ph = refl

  module _ (ph0 : SharePhase) (q0 : List ℕ) where
    abbrev e : OpenShare
    e = as_share S A z ph0 q0

    -- what is said, as the unit sees it
    goes : (q : List ℕ) (s : Said ℕ (Real.Chunks R)) (t : Said ℕ (Option R)) → share_items S A z 0 (sent_for 0 (share_says e s)) ≡ said_to_switch t
        → ((k : ℕ) → (k == 0) ≡ false → share_items S A z k (sent_for k (share_says e s)) ≡ said_to f t k) → (ph : SharePhase)
        → SeesRow ((share_words S A e q).next ph s) ((words f q).next (map_phase (λ m. m) ph) t)
    goes q s t to_s to ph = record { phase = sym (phase_same ph); queue = refl; to_s = to_s; to = to }

    follow : (q : List ℕ) → Follow (share_words S A e q) (words f q) (λ m. m) SeesRow
    follow q = record {
      home = refl;
      others = λ one. refl;
      nothing = goes q said.Nothing said.Nothing refl (λ k _. refl);
      get = goes q said.Get said.Get (get_seen 0 ∙ (let away : (0 == z.home) ≡ false = nat_eq_equiv.symm 0 z.home ∙ home_0 in rw away refl))
          (λ k _. get_seen k) Getting;
      done = λ r. r;
    }

    syncs_show : (q : List ℕ) (cs : Real.Chunks R) (one : ℕ) (ph : SharePhase)
        → SeesRow ((share_words S A e q).next ph (said.Sync one cs)) ((words f q).next (map_phase (λ m. m) ph) (said.Sync one (record_at z.unit cs)))
    syncs_show q cs one = goes q (said.Sync one cs) (said.Sync one (record_at z.unit cs)) (none_to_s one cs) (λ k _. syncs_seen one cs k)

    as_is : (r : ShareTurn R) (d : SharePhase → ControllerTurn R) → SeesRow r (d (map_phase (λ m. m) ph0)) → SeesRow r (d ph0)
    as_is r d h = subst (λ ph. SeesRow r (d ph)) (phase_same ph0) h

    -- what a row then serves
    serve_seen : (q left : List ℕ) → Serve (follow left) SeesRow (λ _ _ r. r) q q
    serve_seen [] left = tt
    serve_seen (p ∷ q) left = record {
      phase = refl;
      queue = refl;
      to_s = forward_seen (A.member z.members p) p;
      to = λ k off. let other : (0 == k) ≡ false = nat_eq_equiv.symm 0 k ∙ off in rw other refl;
    }

    quiet : (ph : SharePhase) (q left : List ℕ) → (service_if_idle (words f left) ph q).to ≡ nowhere
    quiet Idle (p ∷ q) left = refl
    quiet ph q left = refl

    behind : (k : ℕ) (xs ys : List (ℕ × Any R))
        → share_items S A z k (sent_for k (xs ++ ys)) ≡ share_items S A z k (sent_for k xs) ++ share_items S A z k (sent_for k ys)
    behind k xs ys = ap (share_items S A z k) (sent_for-append k xs ys) ∙ filter_map-append (share_seen S A z k) (sent_for k xs) (sent_for k ys)

    served : (r : ShareTurn R) (d : ControllerTurn R) → SeesRow r d → SeesRow (s_serves S A e r) (serves f d)
    served r d h =
        let next = service_if_idle (share_words S A e r.queue) r.phase r.queue in
        let at : (ph : SharePhase) (q : List ℕ) → SeesRow (service_if_idle (share_words S A e q) ph q) (service_if_idle (words f q) ph q) = λ ph q.
        subst (λ x. SeesRow (service_if_idle (share_words S A e q) ph q) (service_if_idle (words f q) x q)) (phase_same ph)
        (service_follows (follow q) SeesRow (λ _ _ r. r) ph q q (serve_seen q q)) in
        let its : SeesRow next (service_if_idle (words f d.queue) d.phase d.queue) = rw (← h.phase, ← h.queue) (at r.phase r.queue) in
        record {
          phase = its.phase;
          queue = its.queue;
          to_s = behind 0 r.sends next.sends ∙ ap (λ v. v ++ share_items S A z 0 (sent_for 0 next.sends)) h.to_s ∙ ap (λ v. d.to_s ++ v) its.to_s;
          to = λ k off. behind k r.sends next.sends ∙ ap (λ v. v ++ share_items S A z k (sent_for k next.sends)) (h.to k off)
              ∙ ap (λ v. d.to k ++ v) (its.to k off ∙ ap (λ to. to k) (quiet d.phase d.queue d.queue)) ∙ append-nil (d.to k);
        }

    abbrev Row : ℕ → Told R → ShareTurn R
    Row sender told = share_row S A e sender told

    pub fenced_sees : (sender : ℕ) → Sender f ph0 sender Fenced → SeesRow (Row sender Is_fenced) (share_does f Fenced ph0 q0)
    fenced_sees sender from = let on = (Decides-eqb sender z.home).1 from in
        rw on (served _ _ (as_is _ (λ ph. on_fenced (words f q0) ph) (fenced_follows (follow q0) ph0)))

    pub chunks_sees : (sender : ℕ) (cs : Real.Chunks R) → Sender f ph0 sender (Chunks (record_at z.unit cs))
        → SeesRow (Row sender (Has_chunks cs)) (share_does f (Chunks (record_at z.unit cs)) ph0 q0)
    chunks_sees sender cs from = let on = (Decides-eqb sender z.home).1 from in
        rw on (served _ _ (as_is _ (λ ph. on_chunks (words f q0) ph (record_at z.unit cs))
        (chunks_follows (follow q0) cs (record_at z.unit cs) (syncs_show q0 cs) ph0)))

    pub chunk_sees : (sender : ℕ) (c : Unit × R) → Sender f ph0 sender (Chunk (record_at z.unit (c ∷ [])))
        → SeesRow (Row sender (Has_chunk c)) (share_does f (Chunk (record_at z.unit (c ∷ []))) ph0 q0)
    chunk_sees sender c from = served _ _ (as_is _ (λ ph. on_shared (words f q0) ph (λ m. true) (record_at z.unit (c ∷ [])))
        (shared_follows (follow q0) (c ∷ []) (record_at z.unit (c ∷ [])) (syncs_show q0 (c ∷ [])) (λ m. sender == m) (λ m. true) ph0
        (λ one out. let its : sender ≡ one = cc in sym ((Decides-eqb sender one).1 its))))

    pub synced_sees : (sender : ℕ) → SeesRow (Row sender Is_synced) (share_does f Synced ph0 q0)
    synced_sees sender = served _ _ (as_is _ (λ ph. on_synced (λ next. waits next q0) (λ did. did) ph) (synced_follows (follow q0) ph0))

    pub packet_sees : (sender p : ℕ) → SeesRow (Row sender (Has_packet p)) (share_does f (Diverted p) ph0 q0)
    packet_sees sender p = served (s_row S A e sender (Has_packet p)) (waits ph0 (q0 ++ p ∷ []))
        (record { phase = refl; queue = refl; to_s = refl; to = λ k _. refl })
