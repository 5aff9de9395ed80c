-- The controller takes any message: a unit under a share sees of its own share what the share's machine does, of another share nothing
-- (`share_sees`), and of a move nothing.
use Rattle.proof_machines.proofs.net.Words.{◌≡◌, ℕ, ◌≤◌, Bool, true, false, Option, Some, None, List, [], ◌∷◌, ◌⊎◌, inl, inr, refl, sym, ap, ◌∙◌, subst, arith}
use Rattle.proof_machines.proofs.net.Words.{if◌then◌else◌, ◌==◌, option_map, nat_tests, Decides-eqb, record_at, MoveMsg, Op, where_true, add, sent_for, Each}
use Rattle.proof_machines.proofs.net.Words.{Carry, Fence, Shared, Diverted, Install, Forward, Get, Sync, Fenced, Chunk, Synced, Stray, UnitShare, SharePhase}
use Rattle.proof_machines.proofs.net.Words.{has, waits, share_does, IsShare, Filter, In_packet, Carry_on, Pass_on, Fence_on, Of_move, Sys, Open, find_op, row}
use Rattle.proof_machines.proofs.net.Words.{filter_for, wrap, found, numbered, num_of, EachSent, found_num, GlobalAll, mine, unit_share, fit, move_seen}
use Rattle.proof_machines.proofs.net.Words.{old_seen, new_seen, share_seen, share_items, as_share, Any, Old, New, Shared_on, Diverted_on, ShareMsg, same}
use Rattle.proof_machines.proofs.net.Words.{Sharing, OpenShare, find_share, set_share, share_taking, Told, Is_fenced, Has_chunks, Has_chunk, Is_synced}
use Rattle.proof_machines.proofs.net.Words.{Has_packet, share_row, told_by, SharesStep, by_share, WholeWorld, old_step, SeeingShare, same_unit-true, split}
use Rattle.proof_machines.proofs.net.Words.{false_from_ne_true}
use Rattle.proof_machines.proofs.unit.Real
use Rattle.proof_machines.proofs.share.Share.{Item, Item.Chunks, ControllerTurn}
use Rattle.proof_machines.proofs.net.Ctrl.{each_found}
use Rattle.proof_machines.proofs.net.RowNumbers.{OfRow, SentOf, row_numbers}
use Rattle.proof_machines.proofs.net.ShareRows.{ToldOf, SentBy, share_row_by, taking_found}
use Rattle.proof_machines.proofs.net.OnShareLinks.{Sender}
use Rattle.proof_machines.proofs.net.ShareLabels.{taking_own, taking_other, queue_other}
use Rattle.proof_machines.proofs.net.MemberMoves.{Unseen}
use Rattle.proof_machines.proofs.net.OwnShare.{SeesRow, fenced_sees, chunks_sees, chunk_sees, synced_sees, packet_sees}

pub found_set : (n : ℕ) (ph : SharePhase) (q : List ℕ) (es : List OpenShare) (e : OpenShare) → find_share es n ≡ Some e
    → find_share (set_share n ph q es) n ≡ Some (record e { phase = ph; queue = q })
found_set n ph q [] e is = cc
found_set n ph q (x ∷ es) e is = split (x.num == n) (λ b. (if b then Some x else find_share es n) ≡ Some e
    → find_share (if b then record x { phase = ph; queue = q } ∷ es else x ∷ set_share n ph q es) n ≡ Some (record e { phase = ph; queue = q }))
    (λ on there.
    let same_is : x ≡ e = cc in let change : OpenShare → Option OpenShare = λ y. Some (record y { phase = ph; queue = q }) in rw on (ap change same_is))
    (λ off there. rw off (found_set n ph q es e there)) is

pub found_set_other : (n : ℕ) (ph : SharePhase) (q : List ℕ) (es : List OpenShare) (k : ℕ) → (n == k) ≡ false
    → find_share (set_share n ph q es) k ≡ find_share es k
found_set_other n ph q [] k off = refl
found_set_other n ph q (x ∷ es) k off = split (x.num == n) (λ b. find_share (if b then record x { phase = ph; queue = q } ∷ es else x ∷ set_share n ph q es) k
    ≡ (if x.num == k then Some x else find_share es k))
    (λ on. let same_is : x.num ≡ n = (Decides-eqb x.num n).0 on in let out : (x.num == k) ≡ false = ap (λ j. j == k) same_is ∙ off in rw out refl)
    (λ _. ap (λ o. if x.num == k then Some x else o) (found_set_other n ph q es k off))

module _ {R : Type 0} (S : Sys R) (A : Sharing S) (z : SeeingShare) where
  abbrev f : UnitShare R
  f = unit_share S A z

  -- what the unit sees of a step of the shares
  pub record Sees_share (s : SharesStep S A) (d : ControllerTurn R) : Type 0 where
    pub share : find_share s.shares z.num ≡ Some (as_share S A z d.phase d.queue)
    pub to_s : share_items S A z 0 (sent_for 0 s.sends) ≡ d.to_s
    pub to : (k : ℕ) → (k == 0) ≡ false → share_items S A z k (sent_for k s.sends) ≡ d.to k

  abbrev pub share_item : SharePhase → List ℕ → Option (Item R) → ControllerTurn R
  share_item ph q None = waits ph q
  share_item ph q (Some it) = share_does f it ph q

  -- the sender of what is seen
  abbrev pub SenderIf : SharePhase → ℕ → Option (Item R) → Type 0
  SenderIf ph p None = Unit {0}
  SenderIf ph p (Some it) = Sender f ph p it

  -- Another share's sends
  another : (e : OpenShare) → (e.num == z.num) ≡ false → (j k : ℕ) (m : Any R) → SentBy S A e (λ p. mine S A z p ≡ false) (λ _. Unit {0}) j m
      → share_seen S A z k m ≡ None
  another e off j k (New (ShareMsg.Get n g)) h = let none : (n == z.num) ≡ false = ap (λ i. i == z.num) h.0 ∙ off in rw none refl
  another e off j k (New (ShareMsg.Sync n home cs)) h = let none : (n == z.num) ≡ false = ap (λ i. i == z.num) h.0 ∙ off in rw none refl
  another e off j k (New (ShareMsg.Forward n home p to)) h = let none : (n == z.num) ≡ false = ap (λ i. i == z.num) h.0
      ∙ off in let its = h.1 in rw (none, its) refl
  another e off j k m h = absurd h

  another_view : (e : OpenShare) → (e.num == z.num) ≡ false → (k : ℕ) (xs : List (ℕ × Any R))
      → EachSent (SentBy S A e (λ p. mine S A z p ≡ false) (λ _. Unit {0})) xs → share_items S A z k (sent_for k xs) ≡ []
  another_view e off k [] h = refl
  another_view e off k (x ∷ xs) h = split (x.0 == k) (λ b. share_items S A z k (if b then x.1 ∷ sent_for k xs else sent_for k xs) ≡ [])
      (λ _. ap (λ o. add o (share_items S A z k (sent_for k xs))) (another e off x.0 k x.1 h.0) ∙ another_view e off k xs h.1)
      (λ _. another_view e off k xs h.1)

  module _ (is : IsShare f) (insts : (k : ℕ) → has z.members k ≡ true → 2 ≤ k) (w : WholeWorld S A) (g : GlobalAll S A w) (covered : S.takes z.filter z.unit
      ≡ true) (ph : SharePhase) (q : List ℕ) (there : find_share w.shares z.num ≡ Some (as_share S A z ph q)) (p : ℕ) where
    abbrev es : List OpenShare
    es = w.shares

    as_before : Sees_share (record { shares = es; sends = [] }) (waits ph q)
    as_before = record { share = there; to_s = refl; to = λ k _. refl }

    -- the unit's own share
    of_own : (t : Told R) (d : ControllerTurn R) → SeesRow S A z is insts (share_row S A (as_share S A z ph q) p t) d
        → Sees_share (by_share S A es p (Some (as_share S A z ph q, t))) d
    of_own t d s =
        let r = share_row S A (as_share S A z ph q) p t in
        record {
          share = found_set z.num r.phase r.queue es (as_share S A z ph q) there ∙ ap (λ x. Some (as_share S A z x r.queue)) s.phase
              ∙ ap (λ x. Some (as_share S A z d.phase x)) s.queue;
          to_s = s.to_s;
          to = s.to;
        }

    -- another's
    of_other : (e : OpenShare) (t : Told R) → find_share es e.num ≡ Some e → (e.num == z.num) ≡ false
        → ToldOf S A e (λ p. mine S A z p ≡ false) (λ _. Unit {0}) t → Sees_share (by_share S A es p (Some (e, t))) (waits ph q)
    of_other e t found_e off told =
        let r = share_row S A e p t in
        let k = share_row_by S A e (λ p. mine S A z p ≡ false) (λ _. Unit {0}) p t told (queue_other S A z w g covered ph q there e.num e found_e off) in
        record {
          share = found_set_other e.num r.phase r.queue es z.num off ∙ there;
          to_s = another_view e off 0 r.sends k.1;
          to = λ j _. another_view e off j r.sends k.1;
        }

    by_number : (n : ℕ) (t : Told R) (it : Item R)
        → ((n == z.num) ≡ true → SeesRow S A z is insts (share_row S A (as_share S A z ph q) p t) (share_does f it ph q))
        → ((e : OpenShare) → ToldOf S A e (λ p. mine S A z p ≡ false) (λ _. Unit {0}) t)
        → Sees_share (by_share S A es p (option_map (λ e. (e, t)) (find_share es n))) (share_item ph q (where_true (n == z.num) it))
    by_number n t it own told = split (n == z.num)
        (λ b. Sees_share (by_share S A es p (option_map (λ e. (e, t)) (find_share es n))) (share_item ph q (where_true b it)))
        (λ on. let num : n ≡ z.num = (Decides-eqb n z.num).0 on in
        subst (λ o. Sees_share (by_share S A es p (option_map (λ e. (e, t)) o)) (share_does f it ph q)) (sym (ap (find_share es) num ∙ there))
        (of_own t (share_does f it ph q) (own on)))
        (λ off. if_found (find_share es n) refl off)
      where
        if_found : (o : Option OpenShare) → find_share es n ≡ o → (n == z.num) ≡ false
            → Sees_share (by_share S A es p (option_map (λ e. (e, t)) o)) (waits ph q)
        if_found None none off = as_before
        if_found (Some e) found_e off =
            let num : e.num ≡ n = (Decides-eqb e.num n).0 (found_num es n e found_e) in
            of_other e t (ap (find_share es) num ∙ found_e) (ap (λ k. k == z.num) num ∙ off) (told e)

    -- a packet that is diverted
    diverted : (k : ℕ) → Sees_share (by_share S A es p (option_map (λ e. (e, Has_packet k)) (share_taking S es (S.packet_unit k))))
        (share_item ph q (new_seen S A z 1 (Diverted_on k)))
    diverted k = split (S.takes z.filter (S.packet_unit k))
        (λ b. Sees_share (by_share S A es p (option_map (λ e. (e, Has_packet k)) (share_taking S es (S.packet_unit k))))
        (share_item ph q (if b then Some (Diverted k) else where_true (mine S A z k) Stray)))
        (λ on. subst (λ o. Sees_share (by_share S A es p (option_map (λ e. (e, Has_packet k)) o)) (share_does f (Diverted k) ph q))
        (sym (taking_own S A z w g covered ph q there (S.packet_unit k) on))
        (of_own (Has_packet k) (share_does f (Diverted k) ph q) (packet_sees S A z is insts ph q p k)))
        (λ off. let other = not_its off in rw other (if_taken (share_taking S es (S.packet_unit k)) refl off other))
      where
        not_its : S.takes z.filter (S.packet_unit k) ≡ false → mine S A z k ≡ false
        not_its off = false_from_ne_true (mine S A z k)
            (λ on. let never : true ≡ false = sym covered ∙ ap (S.takes z.filter) (sym (same_unit-true (S.packet_unit k) z.unit on)) ∙ off in cc)

        if_taken : (o : Option OpenShare) → share_taking S es (S.packet_unit k) ≡ o → S.takes z.filter (S.packet_unit k) ≡ false → mine S A z k ≡ false
            → Sees_share (by_share S A es p (option_map (λ e. (e, Has_packet k)) o)) (waits ph q)
        if_taken None none off other = as_before
        if_taken (Some e) taken off other = of_other e (Has_packet k) (taking_found S A es (S.packet_unit k) e g.nums_apart taken)
            (taking_other S A z w g covered ph q there (S.packet_unit k) e off taken) other

    -- an item that isn't for the controller
    quiet_if : (b : Bool) (it : Item R) → share_does f it ph q ≡ waits ph q
        → Sees_share (record { shares = es; sends = [] }) (share_item ph q (where_true b it))
    quiet_if true it e = subst (λ d. Sees_share (record { shares = es; sends = [] }) d) (sym e) as_before
    quiet_if false it e = as_before

    quiet_fit : (b : Bool) (it : Item R) → share_does f it ph q ≡ waits ph q → share_does f (fit S A z b it) ph q ≡ waits ph q
    quiet_fit true it e = e
    quiet_fit false it e = refl

    quiet_else : (b : Bool) (k : ℕ) (it : Item R) → share_does f it ph q ≡ waits ph q
        → Sees_share (record { shares = es; sends = [] }) (share_item ph q (if b then Some it else where_true (mine S A z k) Stray))
    quiet_else true k it e = quiet_if true it e
    quiet_else false k it e = quiet_if (mine S A z k) Stray refl

    of_sender : (b : Bool) (it : Item R) → b ≡ true → SenderIf ph p (where_true b it) → Sender f ph p it
    of_sender true it on h = h
    of_sender false it off h = let never : false ≡ true = off in cc

    move_sees : (h : Filter) (m : MoveMsg R) → SenderIf ph p (move_seen S A z m)
        → Sees_share (by_share S A es p (told_by S A es (Old (Of_move h m)))) (share_item ph q (move_seen S A z m))
    move_sees h (MoveMsg.Fenced n) from =
        by_number n Is_fenced Fenced (λ on. fenced_sees S A z is insts ph q p (of_sender (n == z.num) Fenced on from)) (λ _. tt)
    move_sees h (MoveMsg.Install n a b) from = quiet_if (n == z.num) Stray refl
    move_sees h (MoveMsg.Fence_to n to) from = quiet_if (n == z.num) Stray refl
    move_sees h m from = as_before

    pub share_sees : (m : Any R) → SenderIf ph p (share_seen S A z 1 m)
        → Sees_share (by_share S A es p (told_by S A es m)) (share_item ph q (share_seen S A z 1 m))
    share_sees (Old (Of_move h m)) from = move_sees h m from
    share_sees (Old (Carry_on k)) from = quiet_if (mine S A z k) (Carry k) refl
    share_sees (Old (Pass_on k)) from = quiet_if (mine S A z k) Stray refl
    share_sees (Old (Fence_on n)) from = quiet_if (n == z.num) Fence refl
    share_sees (New (ShareMsg.Chunks n cs)) from = by_number n (Has_chunks cs) (Chunks (record_at z.unit cs))
        (λ on. chunks_sees S A z is insts ph q p cs (of_sender (n == z.num) (Chunks (record_at z.unit cs)) on from)) (λ _. tt)
    share_sees (New (ShareMsg.Shared n c)) from = by_number n (Has_chunk c) (Chunk (record_at z.unit (c ∷ [])))
        (λ on. chunk_sees S A z is insts ph q p c (of_sender (n == z.num) (Chunk (record_at z.unit (c ∷ []))) on from)) (λ _. tt)
    share_sees (New (ShareMsg.Synced n)) from = by_number n Is_synced Synced (λ on. synced_sees S A z is insts ph q p) (λ _. tt)
    share_sees (New (Diverted_on k)) from = diverted k
    share_sees (New (Shared_on n home k)) from =
        quiet_else (n == z.num) k (fit S A z (same home (1 == z.home)) (Shared k)) (quiet_fit (same home (1 == z.home)) (Shared k) refl)
    share_sees (New (ShareMsg.Install n h from_n)) from =
        quiet_if (n == z.num) (fit S A z (from_n == z.home) Install) (quiet_fit (from_n == z.home) Install refl)
    share_sees (New (ShareMsg.Forward n home k to)) from =
        quiet_else (n == z.num) k (fit S A z (same home (to == z.home)) (Forward k to)) (quiet_fit (same home (to == z.home)) (Forward k to) refl)
    share_sees (New (ShareMsg.Get n h)) from = quiet_if (n == z.num) Get refl
    share_sees (New (ShareMsg.Sync n home cs)) from = quiet_if (n == z.num) (fit S A z (same home (1 == z.home)) (Sync (record_at z.unit cs)))
        (quiet_fit (same home (1 == z.home)) (Sync (record_at z.unit cs)) refl)
    share_sees m from = as_before

    -- Moves' rows: none has the share's number
    row_unseen : (o : Op) (h : Filter) (m : MoveMsg R) → (o.num == z.num) ≡ false → OfRow o m → old_seen S A z (Of_move h m) ≡ None
    row_unseen o h (MoveMsg.Install n a b) off of = let none : (n == z.num) ≡ false = ap (λ k. k == z.num) of ∙ off in rw none refl
    row_unseen o h (MoveMsg.Fence_to n to) off of = let none : (n == z.num) ≡ false = ap (λ k. k == z.num) of ∙ off in rw none refl
    row_unseen o h (MoveMsg.Fenced n) off of = absurd of
    row_unseen o h m off of = refl

    wrap_unseen : (o : Op) (h : Filter) (xs : List (ℕ × MoveMsg R)) → (o.num == z.num) ≡ false → Each (SentOf o) xs → Unseen S A z (wrap h xs)
    wrap_unseen o h [] off of = tt
    wrap_unseen o h (x ∷ xs) off of = (row_unseen o (filter_for h x.1) x.1 off of.0, wrap_unseen o h xs off of.1)

    not_move : (n : ℕ) (e : Open R) → find_op w.ops n ≡ Some e → (e.op.num == z.num) ≡ false
    not_move n e found_e = false_from_ne_true (e.op.num == z.num)
        (λ on.
        let own : (e.op.num == n) ≡ true = (each_found (λ _. Unit {0}) n w.ops e (all w.ops) found_e).1 in
        let num : n ≡ z.num = grind (arith, nat_tests, own, on) in
        by_kind (g.one_kind n) num)
      where
        all : (os : List (Open R)) → Each (λ _. Unit {0}) os
        all [] = tt
        all (o ∷ os) = (tt, all os)

        by_kind : (find_op w.ops n ≡ None) ⊎ (find_share w.shares n ≡ None) → n ≡ z.num → ⊥
        by_kind (inl none) num = let never : None ≡ Some e = sym none ∙ found_e in cc
        by_kind (inr none) num = let never : None ≡ Some (as_share S A z ph q) = sym none ∙ ap (find_share w.shares) num ∙ there in cc

    pub moves_unseen : (m : Any R) → Unseen S A z (old_step S A w.ops p m).sends
    moves_unseen (New m) = tt
    moves_unseen (Old (Of_move h m)) = by_num (num_of m)
      where
        by_op : (n : ℕ) (o : Option (Open R)) → find_op w.ops n ≡ o → Unseen S A z (found w.ops n p m o).sends
        by_op n None none = tt
        by_op n (Some e) found_e = wrap_unseen e.op e.filter (row e p m).sends (not_move n e found_e) (row_numbers e.op e.phase e.store p m)

        by_num : (o : Option ℕ) → Unseen S A z (numbered w.ops p m o).sends
        by_num None = tt
        by_num (Some n) = by_op n (find_op w.ops n) refl
    moves_unseen (Old (In_packet k)) = tt
    moves_unseen m = tt
