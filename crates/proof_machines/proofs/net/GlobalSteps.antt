-- What holds of the whole world for all units at once stays so with each step of an instance, the controller and the switch, and with each
-- packet of the input.
use Rattle.proof_machines.proofs.unit.Labels.{each_map}
use Rattle.proof_machines.proofs.net.Words.{◌≡◌, ℕ, ◌<◌, Bool, true, false, Option, Some, None, List, [], ◌∷◌, ◌++◌, ◌⊎◌, inl, inr, length, refl, sym, ap, ◌∙◌}
use Rattle.proof_machines.proofs.net.Words.{subst, if◌then◌else◌, ◌&&◌, ◌==◌, option_to_list, option_map_or, Decides-eqb, first, record_first, Each, each_map}
use Rattle.proof_machines.proofs.net.Words.{Filter, Msg, Carry_on, Sys, IsSys, process, inst_step, Open, find_op, sw_sends, World, inst_next, ctrl_next}
use Rattle.proof_machines.proofs.net.Words.{sw_next, in_next, EachSent, each_put, Below, Global, AreNumbersApart, found_each, found_num, each_set_share}
use Rattle.proof_machines.proofs.net.Words.{find_set, set_find, Opened, Numbered, Disjoint, Within, TakesSome, OfShare, GlobalAll, same_shares, Any, Old, New}
use Rattle.proof_machines.proofs.net.Words.{ShareMsg, Shared_on, olds, as_old, Sharing, IsSharing, OpenShare, find_share, set_share, Told, share_row, told_by}
use Rattle.proof_machines.proofs.net.Words.{SharesStep, by_share, member_step, share_sends, arrive_sends, old_step, WholeWorld, moves_of, whole_inst}
use Rattle.proof_machines.proofs.net.Words.{whole_ctrl, whole_switch, whole_input}
use Rattle.proof_machines.proofs.net.Every.{inst_global, ctrl_global, switch_global, input_global}
use Rattle.proof_machines.proofs.net.AsMoves.{old_sends, old_sends-old, olds-put, no_olds-put, olds-after, news-after, no_olds-after, by_share_new, member_new}
use Rattle.proof_machines.proofs.net.AsMoves.{ctrl_links}
use Rattle.proof_machines.proofs.net.NewMessages.{OnNew, EachSentNew, each_new_map, sent_old, sent_old_and, new_after, new_put, new_head}
use Rattle.proof_machines.proofs.net.ShareRows.{Tells, told_cases, SentBy, share_row_by}
use Rattle.proof_machines.proofs.net.GlobalShares.{each_set_any, nums_set, none_set, ctrl_each, ctrl_none, of_share_set, TakenBy, told_of, sent_of}

module _ {R : Type 0} (S : Sys R) (A : Sharing S) (laws : IsSys S) where
  -- over links that are the same
  pub global_as : (w : World S) (l : ℕ → ℕ → List (Msg R)) → ((i j : ℕ) → l i j ≡ w.link i j) → Global S w → Global S (record w { link = l })
  global_as w l e g = record { messages = λ i j off. subst (λ ms. Each (Below w.next) ms) (sym (e i j)) (g.messages i j off); rules = g.rules; ops = g.ops }

  -- An instance
  chunk_of_share : (es : List OpenShare) (n p : ℕ) (o : Option R) → Opened es n (λ e. S.takes e.filter (S.packet_unit p) ≡ true)
      → EachSentNew (OfShare S es) (option_map_or (λ r. (1, New (ShareMsg.Shared n (S.packet_unit p, r))) ∷ []) o [])
  chunk_of_share es n p None h = tt
  chunk_of_share es n p (Some r) h = (record { share = h.share; found = h.found; says = h.says }, tt)

  chunk_numbered : (b n p : ℕ) (o : Option R)
      → EachSentNew (λ _ m. Numbered b m) (option_map_or (λ r. (1, New (ShareMsg.Shared n (S.packet_unit p, r))) ∷ []) o [])
  chunk_numbered b n p None = tt
  chunk_numbered b n p (Some r) = (tt, tt)

  taken : (es : List OpenShare) (j n : ℕ) (home : Bool) (p : ℕ) → OfShare S es j (Shared_on n home p)
      → Opened es n (λ e. S.takes e.filter (S.packet_unit p) ≡ true)
  taken es j n home p h = record { share = h.share; found = h.found; says = h.says.0 }

  selected_within : (g : Filter) (t : S.B.T) → Within S g (S.B.select (S.takes g) t)
  selected_within g t v out = record_first v (S.B.select (S.takes g) t)
      ∙ ap first (laws.laws.selected v (S.takes g) t ∙ ap (λ b. option_to_list (if b then S.B.at v t else None)) out)

  member_of_share : (es : List OpenShare) (live standby : S.B.T) (y : ℕ) (m : ShareMsg R) → OfShare S es y m
      → EachSentNew (OfShare S es) (member_step S A live standby m).sends
  member_of_share es live standby y (Shared_on n true p) h = chunk_of_share es n p (S.B.at (S.packet_unit p) (process S live p)) (taken es y n true p h)
  member_of_share es live standby y (Shared_on n false p) h = chunk_of_share es n p (S.B.at (S.packet_unit p) (process S standby p)) (taken es y n false p h)
  member_of_share es live standby y (ShareMsg.Get n g) h =
      ((λ e there. let is : g ≡ e.filter = (h e there).0 in subst (λ f. Within S f (S.B.select (S.takes g) live)) is (selected_within g live)), tt)
  member_of_share es live standby y (ShareMsg.Sync n true cs) h = (record { share = h.share; found = h.found; says = tt }, tt)
  member_of_share es live standby y (ShareMsg.Sync n false cs) h = (record { share = h.share; found = h.found; says = tt }, tt)
  member_of_share es live standby y m h = tt

  member_numbered : (b : ℕ) (live standby : S.B.T) (m : ShareMsg R) → Numbered b m → EachSentNew (λ _ m. Numbered b m) (member_step S A live standby m).sends
  member_numbered b live standby (Shared_on n true p) h = chunk_numbered b n p (S.B.at (S.packet_unit p) (process S live p))
  member_numbered b live standby (Shared_on n false p) h = chunk_numbered b n p (S.B.at (S.packet_unit p) (process S standby p))
  member_numbered b live standby (ShareMsg.Get n g) h = (h, tt)
  member_numbered b live standby (ShareMsg.Sync n true cs) h = (tt, tt)
  member_numbered b live standby (ShareMsg.Sync n false cs) h = (tt, tt)
  member_numbered b live standby m h = tt

  pub inst_keeps : (w : WholeWorld S A) → GlobalAll S A w → (p y : ℕ) (m : Any R) (rest : List (Any R)) → (y == 0) ≡ false → w.link p y ≡ m ∷ rest
      → GlobalAll S A (whole_inst S A w p y m)
  inst_keeps w g p y (Old m) rest y0 waits =
      let sent = (inst_step S (w.inst y) m).sends in
      same_shares S A g
      (global_as (inst_next S (moves_of S A w) p y m) (λ i j. olds (Rattle.proof_machines.proofs.net.Net.links_after w.link p y (as_old sent) i j))
      (λ i j. olds-after w.link p y rest (as_old sent) sent (old_sends-old sent) m waits i j)
      (inst_global S laws (moves_of S A w) g.moves p y m (olds rest) y0 (ap olds waits)))
      (new_after (OfShare S w.shares) w.link g.messages p y (as_old sent) (sent_old (OfShare S w.shares) sent))
      (new_after (λ _ m. Numbered w.next m) w.link g.numbers p y (as_old sent) (sent_old (λ _ m. Numbered w.next m) sent))
      g.shares_below
  inst_keeps w g p y (New m) rest y0 waits =
      let off : (p == 0) && (y == 0) ≡ false = rw y0 (elim (p == 0) as (λ b. b && false ≡ false) [ true ↦ refl | false ↦ refl ]) in
      let d = member_step S A (w.inst y).live (w.standby y) m in
      let of = new_head (OfShare S w.shares) w.link g.messages p y m rest off waits in
      let few = new_head (λ _ m. Numbered w.next m) w.link g.numbers p y m rest off waits in
      same_shares S A g
      (record {
        messages = λ i j e. subst (λ ms. Each (Below w.next) ms)
            (sym (no_olds-after w.link p y m rest d.sends waits (member_new S A (w.inst y).live (w.standby y) m) i j)) (g.moves.messages i j e);
        rules = λ k. elim (k == y) as (λ b. Each (λ r. r.num < w.next) (if b then record (w.inst y) { live = d.live } else w.inst k).rules)
            [ true ↦ g.moves.rules y | false ↦ g.moves.rules k ];
        ops = g.moves.ops;
      })
      (new_after (OfShare S w.shares) w.link g.messages p y d.sends (member_of_share w.shares (w.inst y).live (w.standby y) y m of))
      (new_after (λ _ m. Numbered w.next m) w.link g.numbers p y d.sends (member_numbered w.next (w.inst y).live (w.standby y) m few))
      g.shares_below

  -- The controller: its shares
  record SharesOk (w : WholeWorld S A) (s : SharesStep S A) : Type 0 where
    below : Each (λ e. e.num < w.next) s.shares
    nums : AreNumbersApart s.shares
    some : Each (λ e. 0 < length e.members) s.shares
    none : (n : ℕ) → find_share w.shares n ≡ None → find_share s.shares n ≡ None
    apart_moves : Each (λ e. Each (λ o. Disjoint S e.filter o.filter) w.ops) s.shares
    apart : (n k : ℕ) (d e : OpenShare) → find_share s.shares n ≡ Some d → find_share s.shares k ≡ Some e → (n == k) ≡ false → Disjoint S d.filter e.filter
    queues : Each (λ e. Each (TakenBy S A e) e.queue) s.shares
    links : (j : ℕ) (m : ShareMsg R) → OfShare S w.shares j m → OfShare S s.shares j m
    sends : EachSentNew (OfShare S s.shares) s.sends
    numbers : EachSentNew (λ _ m. Numbered w.next m) s.sends

  sent_numbered : (e : OpenShare) (b j : ℕ) (m : Any R) → e.num < b → SentBy S A e (TakenBy S A e) (Within S e.filter) j m → OnNew (Numbered b) m
  sent_numbered e b j (New (ShareMsg.Get n g)) few h = subst (λ k. k < b) (sym h.0) few
  sent_numbered e b j (New (ShareMsg.Chunks n cs)) few h = absurd h
  sent_numbered e b j m few h = tt

  shares_ok : IsSharing S A → (w : WholeWorld S A) → GlobalAll S A w → (p : ℕ) (m : Any R) → OnNew (OfShare S w.shares 1) m
      → SharesOk w (by_share S A w.shares p (told_by S A w.shares m))
  shares_ok ok w g p m head =
      told_cases S A (SharesOk w) w.shares p m g.nums_apart (record {
        below = g.shares_below;
        nums = g.nums_apart;
        some = g.some;
        none = λ n e. e;
        apart_moves = g.apart_moves;
        apart = g.apart;
        queues = g.queues;
        links = λ j m h. h;
        sends = tt;
        numbers = tt;
      }) goes
    where
      goes : (e : OpenShare) (t : Told R) → find_share w.shares e.num ≡ Some e → Tells S A w.shares m e t → SharesOk w (by_share S A w.shares p (Some (e, t)))
      goes e t there is =
          let r = share_row S A e p t in
          let es = set_share e.num r.phase r.queue w.shares in
          let k = share_row_by S A e (TakenBy S A e) (Within S e.filter) p t (told_of S A w.shares m e t head is)
          (found_each (λ e. Each (TakenBy S A e) e.queue) w.shares e.num e g.queues there) in
          let f = find_set e.num r.phase r.queue w.shares e.num e there in
          record {
            below = each_set_any (λ e. e.num < w.next) e.num r.phase r.queue (λ d h. h) w.shares g.shares_below;
            nums = nums_set e.num r.phase r.queue w.shares g.nums_apart;
            some = each_set_any (λ e. 0 < length e.members) e.num r.phase r.queue (λ d h. h) w.shares g.some;
            none = λ n h. none_set e.num r.phase r.queue w.shares n h;
            apart_moves = each_set_any (λ e. Each (λ o. Disjoint S e.filter o.filter) w.ops) e.num r.phase r.queue (λ d h. h) w.shares g.apart_moves;
            apart = λ n j x y a b off.
                let x0 = set_find e.num r.phase r.queue w.shares n x a in
                let y0 = set_find e.num r.phase r.queue w.shares j y b in
                subst (λ h. Disjoint S x.filter h) y0.same.filter
                (subst (λ h. Disjoint S h y0.share.filter) x0.same.filter (g.apart n j x0.share y0.share x0.found y0.found off));
            queues = each_set_share (λ e. Each (TakenBy S A e) e.queue) e.num r.phase r.queue w.shares e there k.0 g.queues;
            links = λ j m h. of_share_set S e.num r.phase r.queue w.shares j m h;
            sends = each_map (λ x. sent_of S A ok es e f.share f.found f.same (found_each (λ e. 0 < length e.members) w.shares e.num e g.some there) x.0 x.1)
                r.sends k.1;
            numbers = each_map (λ x h. sent_numbered e w.next x.0 x.1 (found_each (λ e. e.num < w.next) w.shares e.num e g.shares_below there) h) r.sends k.1;
          }

  head_of_share : (w : WholeWorld S A) → GlobalAll S A w → (p k : ℕ) (m : Any R) (rest : List (Any R)) → (p == 0) && (k == 0) ≡ false
      → w.link p k ≡ m ∷ rest → OnNew (OfShare S w.shares k) m
  head_of_share w g p k (Old m) rest off waits = tt
  head_of_share w g p k (New m) rest off waits = new_head (OfShare S w.shares) w.link g.messages p k m rest off waits

  ops_each : (P : Open R → Type 0)
      → ((e : Open R) (ph : Rattle.proof_machines.proofs.unit.Real.MovePhase R) (f : List ℕ) → P e → P (record e { phase = ph; store = f }))
      → (es : List (Open R)) (p : ℕ) (m : Any R) → Each P es → Each P (old_step S A es p m).ops
  ops_each P step es p (Old m) h = ctrl_each P step es p m h
  ops_each P step es p (New m) h = h

  ops_none : (es : List (Open R)) (p : ℕ) (m : Any R) (n : ℕ) → find_op es n ≡ None → find_op (old_step S A es p m).ops n ≡ None
  ops_none es p (Old m) n none = ctrl_none es p m n none
  ops_none es p (New m) n none = none

  ctrl_moves : (w : WholeWorld S A) → GlobalAll S A w → (p : ℕ) (m : Any R) (rest : List (Any R)) → w.link p 1 ≡ m ∷ rest
      → Global S (moves_of S A (whole_ctrl S A w p m))
  ctrl_moves w g p (Old m) rest waits = global_as (ctrl_next S (moves_of S A w) p m) (moves_of S A (whole_ctrl S A w p (Old m))).link
      (λ i j. ctrl_links S A w p m rest waits i j) (ctrl_global S laws (moves_of S A w) g.moves p m)
  ctrl_moves w g p (New m) rest waits = global_as (moves_of S A w) (moves_of S A (whole_ctrl S A w p (New m))).link (λ i j. no_olds-after w.link p 1 m rest
      (by_share S A w.shares p (told_by S A w.shares (New m))).sends waits (by_share_new S A w.shares p (told_by S A w.shares (New m))) i j) g.moves

  pub ctrl_keeps : IsSharing S A → (w : WholeWorld S A) → GlobalAll S A w → (p : ℕ) (m : Any R) (rest : List (Any R)) → w.link p 1 ≡ m ∷ rest
      → GlobalAll S A (whole_ctrl S A w p m)
  ctrl_keeps ok w g p m rest waits =
      let off : (p == 0) && (1 == 0) ≡ false = elim (p == 0) as (λ b. b && false ≡ false) [ true ↦ refl | false ↦ refl ] in
      let k = shares_ok ok w g p m (head_of_share w g p 1 m rest off waits) in
      let s = by_share S A w.shares p (told_by S A w.shares m) in
      let o = old_step S A w.ops p m in
      record {
        moves = ctrl_moves w g p m rest waits;
        messages = new_after (OfShare S s.shares) w.link (λ i j e. each_new_map (OfShare S w.shares j) (OfShare S s.shares j) (k.links j) (w.link i j)
            (g.messages i j e)) p 1 (as_old o.sends ++ s.sends) (sent_old_and (OfShare S s.shares) o.sends s.sends k.sends);
        numbers = new_after (λ _ m. Numbered w.next m) w.link g.numbers p 1 (as_old o.sends ++ s.sends)
            (sent_old_and (λ _ m. Numbered w.next m) o.sends s.sends k.numbers);
        shares_below = k.below;
        nums_apart = k.nums;
        some = k.some;
        one_kind = λ n. by_kind k.none n (g.one_kind n);
        apart_moves = each_map (λ e h. ops_each (λ x. Disjoint S e.filter x.filter) (λ _ _ _ d. d) w.ops p m h) s.shares k.apart_moves;
        apart = k.apart;
        queues = k.queues;
      }
    where
      by_kind : ((n : ℕ) → find_share w.shares n ≡ None → find_share (by_share S A w.shares p (told_by S A w.shares m)).shares n ≡ None)
          → (n : ℕ) → (find_op w.ops n ≡ None) ⊎ (find_share w.shares n ≡ None)
          → (find_op (old_step S A w.ops p m).ops n ≡ None) ⊎ (find_share (by_share S A w.shares p (told_by S A w.shares m)).shares n ≡ None)
      by_kind f n (inl none) = inl (ops_none w.ops p m n none)
      by_kind f n (inr none) = inr (f n none)

  -- The switch
  fence_below : (w : WholeWorld S A) → GlobalAll S A w → (m : ShareMsg R) → OfShare S w.shares 0 m
      → EachSent (λ _ x. Below w.next x) (old_sends (share_sends S A m))
  fence_below w g (ShareMsg.Install n f from) o =
      let same : o.share.num ≡ n = (Decides-eqb o.share.num n).0 (found_num w.shares n o.share o.found) in
      (subst (λ k. k < w.next) same (found_each (λ e. e.num < w.next) w.shares n o.share g.shares_below o.found), tt)
  fence_below w g m o = tt

  forward_of_share : (es : List OpenShare) (m : ShareMsg R) → OfShare S es 0 m → EachSentNew (OfShare S es) (share_sends S A m)
  forward_of_share es (ShareMsg.Forward n home p to) o = (record { share = o.share; found = o.found; says = (o.says.0, o.says.2) }, tt)
  forward_of_share es (ShareMsg.Install n f from) o = (tt, tt)
  forward_of_share es m o = tt

  forward_numbered : (b : ℕ) (m : ShareMsg R) → EachSentNew (λ _ m. Numbered b m) (share_sends S A m)
  forward_numbered b (ShareMsg.Forward n home p to) = (tt, tt)
  forward_numbered b (ShareMsg.Install n f from) = (tt, tt)
  forward_numbered b m = tt

  pub switch_keeps : (w : WholeWorld S A) → GlobalAll S A w → (p : ℕ) (m : Any R) (rest : List (Any R)) → (p == 0) ≡ false → w.link p 0 ≡ m ∷ rest
      → GlobalAll S A (whole_switch S A w p m)
  switch_keeps w g p (Old m) rest p0 waits = same_shares S A g
      (global_as (sw_next S (moves_of S A w) p m) (moves_of S A (whole_switch S A w p (Old m))).link
      (λ i j. olds-after w.link p 0 rest (as_old (sw_sends m)) (sw_sends m) (old_sends-old (sw_sends m)) m waits i j)
      (switch_global S laws (moves_of S A w) g.moves p m (olds rest) p0 (ap olds waits)))
      (new_after (OfShare S w.shares) w.link g.messages p 0 (as_old (sw_sends m)) (sent_old (OfShare S w.shares) (sw_sends m)))
      (new_after (λ _ m. Numbered w.next m) w.link g.numbers p 0 (as_old (sw_sends m)) (sent_old (λ _ m. Numbered w.next m) (sw_sends m)))
      g.shares_below
  switch_keeps w g p (New m) rest p0 waits =
      let off : (p == 0) && (0 == 0) ≡ false = rw p0 refl in
      let of = new_head (OfShare S w.shares) w.link g.messages p 0 m rest off waits in
      let fences = old_sends (share_sends S A m) in
      same_shares S A g
      (record {
        messages = λ i j e. subst (λ ms. Each (Below w.next) ms) (sym (news-after w.link p 0 rest (share_sends S A m) fences refl m waits i j))
            (each_put (λ _ _ x. Below w.next x) (λ i j. olds (w.link i j)) 0 fences g.moves.messages (fence_below w g m of) i j e);
        rules = g.moves.rules;
        ops = g.moves.ops;
      })
      (new_after (OfShare S w.shares) w.link g.messages p 0 (share_sends S A m) (forward_of_share w.shares m of))
      (new_after (λ _ m. Numbered w.next m) w.link g.numbers p 0 (share_sends S A m) (forward_numbered w.next m))
      g.shares_below

  -- a packet of the input; what goes to the controller is taken by a share
  pub input_keeps : (w : WholeWorld S A) → GlobalAll S A w → (q : ℕ) → (w.target (S.packet_unit q) ≡ 1 → TakesSome S w.shares (S.packet_unit q))
      → GlobalAll S A (whole_input S A w q)
  input_keeps w g q diverted = same_shares S A g
      (moved (w.target (S.packet_unit q) == 1) refl)
      (new_put (OfShare S w.shares) w.link g.messages 0 sends (by_target (w.target (S.packet_unit q) == 1) refl))
      (new_put (λ _ m. Numbered w.next m) w.link g.numbers 0 sends (unnumbered (w.target (S.packet_unit q) == 1) refl))
      g.shares_below
    where
      sends : List (ℕ × Any R)
      sends = arrive_sends S A (w.target (S.packet_unit q)) q

      by_target : (b : Bool) → (w.target (S.packet_unit q) == 1) ≡ b → EachSentNew (OfShare S w.shares) sends
      by_target true on = rw on ((refl, diverted ((Decides-eqb (w.target (S.packet_unit q)) 1).0 on)), tt)
      by_target false off = rw off (tt, tt)

      unnumbered : (b : Bool) → (w.target (S.packet_unit q) == 1) ≡ b → EachSentNew (λ _ m. Numbered w.next m) sends
      unnumbered true on = rw on (tt, tt)
      unnumbered false off = rw off (tt, tt)

      moved : (b : Bool) → (w.target (S.packet_unit q) == 1) ≡ b → Global S (moves_of S A (whole_input S A w q))
      moved true on =
          let none : old_sends sends ≡ [] = rw on refl in
          global_as (moves_of S A w) (moves_of S A (whole_input S A w q)).link (λ i j. no_olds-put (w.link i j) (i == 0) j sends none) g.moves
      moved false off =
          let one : old_sends sends ≡ (w.target (S.packet_unit q), Carry_on q) ∷ [] = rw off refl in
          global_as (in_next S (moves_of S A w) q) (moves_of S A (whole_input S A w q)).link (λ i j. olds-put (w.link i j) (i == 0) j sends
          ((w.target (S.packet_unit q), Carry_on q) ∷ []) one) (input_global S laws (moves_of S A w) g.moves q)
