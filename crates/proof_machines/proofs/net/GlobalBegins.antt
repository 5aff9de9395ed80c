-- What holds of the whole world for all units at once stays so when a move, a share or a copy begins, when a command goes out, and when an
-- instance keeps records that stand by.
use Rattle.proof_machines.proofs.net.Words.{◌||◌, ◌≡◌, ℕ, suc, ◌<◌, ◌≤◌, Bool, true, false, Some, None, List, [], ◌∷◌, ◌++◌, ◌⊎◌, inl, inr, length, refl, sym}
use Rattle.proof_machines.proofs.net.Words.{ap, ◌∙◌, subst, arith, if◌then◌else◌, ◌&&◌, ◌==◌, nat_tests, Decides-eqb, self, Each, each-append, each_map, Filter}
use Rattle.proof_machines.proofs.net.Words.{Asked, MoveAsked, Sys, IsSys, Open, find_op, new_op, meets_any, begin_sends, begin_next, each_put, Below, find_old}
use Rattle.proof_machines.proofs.net.Words.{find_new, Numbered, Disjoint, disjoint_sym, OfShare, GlobalAll, same_shares, Any, Old, New, ShareMsg, ShareAsked}
use Rattle.proof_machines.proofs.net.Words.{olds, as_old, Sharing, OpenShare, new_share, find_share, WholeWorld, moves_of, asks, begin_move, begin_share}
use Rattle.proof_machines.proofs.net.Words.{puts_get, keeps, meets_shares, MayShare, split}
use Rattle.proof_machines.proofs.net.Every.{begin_global, global_more}
use Rattle.proof_machines.proofs.net.AsMoves.{old_sends-old, olds-put, no_olds-put}
use Rattle.proof_machines.proofs.net.NewMessages.{each_new_map, each_new_both, sent_old, new_put}
use Rattle.proof_machines.proofs.net.GlobalShares.{nums_more, not_yet, ops_not_yet, ops_old, of_share_more}
use Rattle.proof_machines.proofs.net.GlobalSteps.{global_as}

module _ {R : Type 0} (S : Sys R) (A : Sharing S) (laws : IsSys S) where
  -- filters that don't meet take no unit together
  pub meets_none : (g : Filter) (es : List OpenShare) → meets_shares S A g es ≡ false → Each (λ e. Disjoint S g e.filter) es
  meets_none g [] h = tt
  meets_none g (e ∷ es) h = split (S.meets g e.filter) (λ b. (if b then true else meets_shares S A g es) ≡ false → Each (λ e. Disjoint S g e.filter) (e ∷ es))
      (λ _ bad. cc)
      (λ off more. ((λ v on. laws.apart g e.filter v off on), meets_none g es more)) h

  pub meets_no_move : (g : Filter) (es : List (Open R)) → meets_any S g es ≡ false → Each (λ o. Disjoint S g o.filter) es
  meets_no_move g [] h = tt
  meets_no_move g (o ∷ es) h = split (S.meets g o.filter) (λ b. b || meets_any S g es ≡ false → Each (λ o. Disjoint S g o.filter) (o ∷ es))
      (λ _ bad. cc)
      (λ off more. ((λ v on. laws.apart g o.filter v off on), meets_no_move g es more)) h

  -- the next number grows
  numbered_more : (a b : ℕ) → a ≤ b → (m : ShareMsg R) → Numbered a m → Numbered b m
  numbered_more a b few (ShareMsg.Get n g) h = omega (arith, h, few)
  numbered_more a b few (ShareMsg.Chunks n cs) h = omega (arith, h, few)
  numbered_more a b few m h = tt

  numbers_more : (w : WholeWorld S A) → GlobalAll S A w → (b : ℕ) → w.next ≤ b → (i j : ℕ) → (i == 0) && (j == 0) ≡ false
      → Rattle.proof_machines.proofs.net.Shares.EachNew (Numbered b) (w.link i j)
  numbers_more w g b few i j off = each_new_map (Numbered w.next) (Numbered b) (numbered_more w.next b few) (w.link i j) (g.numbers i j off)

  shares_more : (w : WholeWorld S A) → GlobalAll S A w → (b : ℕ) → w.next ≤ b → Each (λ e. e.num < b) w.shares
  shares_more w g b few = each_map (λ e h. omega (arith, h, few)) w.shares g.shares_below

  -- a move begins, whose filter meets no open share's
  pub begin_keeps : (w : WholeWorld S A) → GlobalAll S A w → (x : MoveAsked) → w.next ≤ x.num → meets_shares S A x.filter w.shares ≡ false
      → GlobalAll S A (begin_move S A w x)
  begin_keeps w g x fresh meets =
      let few : w.next ≤ suc x.num = omega (arith, fresh) in
      record {
        moves = global_as S A laws (begin_next S (moves_of S A w) x) (moves_of S A (begin_move S A w x)).link
            (λ i j. olds-put (w.link i j) (i == 1) j (as_old (begin_sends x.num x)) (begin_sends x.num x) (old_sends-old (begin_sends x.num x)))
            (begin_global S laws (moves_of S A w) g.moves x fresh);
        messages = new_put (OfShare S w.shares) w.link g.messages 1 (as_old (begin_sends x.num x)) (sent_old (OfShare S w.shares) (begin_sends x.num x));
        numbers = new_put (λ _ m. Numbered (suc x.num) m) w.link (numbers_more w g (suc x.num) few) 1 (as_old (begin_sends x.num x))
            (sent_old {R = R} (λ _ m. Numbered (suc x.num) m) (begin_sends x.num x));
        shares_below = shares_more w g (suc x.num) few;
        nums_apart = g.nums_apart;
        some = g.some;
        one_kind = λ n. by_num n (x.num == n) refl (g.one_kind n);
        apart_moves = both w.shares g.apart_moves (meets_none x.filter w.shares meets);
        apart = g.apart;
        queues = g.queues;
      }
    where
      by_num : (n : ℕ) (b : Bool) → (x.num == n) ≡ b → (find_op w.ops n ≡ None) ⊎ (find_share w.shares n ≡ None)
          → (find_op (w.ops ++ new_op x.num x ∷ []) n ≡ None) ⊎ (find_share w.shares n ≡ None)
      by_num n true on h =
          let same : x.num ≡ n = (Decides-eqb x.num n).0 on in inr (not_yet w.shares n w.next (subst (λ k. w.next ≤ k) same fresh) g.shares_below)
      by_num n false off (inl none) = inl (ops_old w.ops (new_op x.num x) n off ∙ none)
      by_num n false off (inr none) = inr none

      both : (es : List OpenShare) → Each (λ e. Each (λ o. Disjoint S e.filter o.filter) w.ops) es → Each (λ e. Disjoint S x.filter e.filter) es
          → Each (λ e. Each (λ o. Disjoint S e.filter o.filter) (w.ops ++ new_op x.num x ∷ [])) es
      both [] a b = tt
      both (e ∷ es) a b =
          (each-append (λ o. Disjoint S e.filter o.filter) w.ops (new_op x.num x ∷ []) a.0 (disjoint_sym S x.filter e.filter b.0, tt), both es a.1 b.1)

  -- a share begins
  pub share_keeps : (w : WholeWorld S A) → GlobalAll S A w → (x : ShareAsked) → MayShare S A w x → GlobalAll S A (begin_share S A w x)
  share_keeps w g x may =
      let fresh = may.fresh in
      let few : w.next ≤ suc x.num = omega (arith, fresh) in
      let more = global_more S laws (moves_of S A w) g.moves (suc x.num) few in
      let install : List (ℕ × Any R) = (0, New (ShareMsg.Install x.num x.filter x.home)) ∷ [] in
      record {
        moves = record {
          messages = λ i j e. subst (λ ms. Each (Below (suc x.num)) ms) (sym (no_olds-put (w.link i j) (i == 1) j install refl)) (more.messages i j e);
          rules = more.rules;
          ops = more.ops;
        };
        messages = new_put (OfShare S (w.shares ++ new_share x ∷ [])) w.link
            (λ i j e. each_new_both (Numbered w.next) (OfShare S w.shares j) (OfShare S (w.shares ++ new_share x ∷ []) j)
            (of_share_more S w.shares (new_share x) w.next fresh j) (w.link i j) (g.numbers i j e) (g.messages i j e)) 1 install (
              record {
                share = new_share x;
                found = find_new w.shares (new_share x) x.num (not_yet w.shares x.num w.next fresh g.shares_below) (self x.num);
                says = (refl, refl);
              },
              tt,
            );
        numbers = new_put (λ _ m. Numbered (suc x.num) m) w.link (numbers_more w g (suc x.num) few) 1 install (tt, tt);
        shares_below = each-append (λ e. e.num < suc x.num) w.shares (new_share x ∷ []) (shares_more w g (suc x.num) few) (omega arith, tt);
        nums_apart = nums_more w.shares (new_share x) w.next fresh g.shares_below g.nums_apart;
        some = each-append (λ e. 0 < length e.members) w.shares (new_share x ∷ []) g.some (omega (arith, may.two), tt);
        one_kind = λ n. by_num n (x.num == n) refl (g.one_kind n);
        apart_moves = each-append (λ e. Each (λ o. Disjoint S e.filter o.filter) w.ops) w.shares (new_share x ∷ []) g.apart_moves
            (meets_no_move x.filter w.ops may.moves_apart, tt);
        apart = λ n k d e a b off. by_both n k d e off (x.num == n) refl (x.num == k) refl a b;
        queues = each-append (λ e. Each (λ p. S.takes e.filter (S.packet_unit p) ≡ true) e.queue) w.shares (new_share x ∷ []) g.queues (tt, tt);
      }
    where
      by_num : (n : ℕ) (b : Bool) → (x.num == n) ≡ b → (find_op w.ops n ≡ None) ⊎ (find_share w.shares n ≡ None)
          → (find_op w.ops n ≡ None) ⊎ (find_share (w.shares ++ new_share x ∷ []) n ≡ None)
      by_num n true on h =
          let same : x.num ≡ n = (Decides-eqb x.num n).0 on in inl (ops_not_yet w.ops n w.next (subst (λ k. w.next ≤ k) same may.fresh) g.moves.ops)
      by_num n false off (inl none) = inl none
      by_num n false off (inr none) = inr (find_old w.shares (new_share x) n off ∙ none)

      -- what is found by another number was there
      old : (n : ℕ) (e : OpenShare) → (x.num == n) ≡ false → find_share (w.shares ++ new_share x ∷ []) n ≡ Some e → find_share w.shares n ≡ Some e
      old n e off is = sym (find_old w.shares (new_share x) n off) ∙ is

      its : (n : ℕ) (e : OpenShare) → (x.num == n) ≡ true → find_share (w.shares ++ new_share x ∷ []) n ≡ Some e → e.filter ≡ x.filter
      its n e on is =
          let same : x.num ≡ n = (Decides-eqb x.num n).0 on in
          let new = find_new w.shares (new_share x) n (not_yet w.shares n w.next (subst (λ k. w.next ≤ k) same may.fresh) g.shares_below) on in
          let both : Some e ≡ Some (new_share x) = sym is ∙ new in
          let one : e ≡ new_share x = cc in
          ap (λ y. y.filter) one

      apart_new : (n : ℕ) (e : OpenShare) → find_share w.shares n ≡ Some e → Disjoint S x.filter e.filter
      apart_new n e is = Rattle.proof_machines.proofs.net.ShareLists.found_each (λ e. Disjoint S x.filter e.filter) w.shares n e
          (meets_none x.filter w.shares may.shares_apart) is

      by_both : (n k : ℕ) (d e : OpenShare) → (n == k) ≡ false → (a : Bool) → (x.num == n) ≡ a → (b : Bool) → (x.num == k) ≡ b
          → find_share (w.shares ++ new_share x ∷ []) n ≡ Some d → find_share (w.shares ++ new_share x ∷ []) k ≡ Some e → Disjoint S d.filter e.filter
      by_both n k d e off true on true also u v = let never : true ≡ false = grind (arith, nat_tests, off, on, also) in cc
      by_both n k d e off true on false other u v = let is = its n d on u in subst (λ h. Disjoint S h e.filter) (sym is) (apart_new k e (old k e other v))
      by_both n k d e off false other true on u v =
          let is = its k e on v in subst (λ h. Disjoint S d.filter h) (sym is) (disjoint_sym S x.filter d.filter (apart_new n d (old n d other u)))
      by_both n k d e off false other false also u v = g.apart n k d e (old n d other u) (old k e also v) off

  -- a copy's Get goes out
  pub get_keeps : (w : WholeWorld S A) → GlobalAll S A w → (n : ℕ) (f : Filter) (src : ℕ) → w.next ≤ n → GlobalAll S A (puts_get S A w n f src)
  get_keeps w g n f src fresh =
      let few : w.next ≤ suc n = omega (arith, fresh) in
      let more = global_more S laws (moves_of S A w) g.moves (suc n) few in
      let get : List (ℕ × Any R) = (src, New (ShareMsg.Get n f)) ∷ [] in
      same_shares S A g
      (record {
        messages = λ i j e. subst (λ ms. Each (Below (suc n)) ms) (sym (no_olds-put (w.link i j) (i == 1) j get refl)) (more.messages i j e);
        rules = more.rules;
        ops = more.ops;
      })
      (new_put (OfShare S w.shares) w.link g.messages 1 get
      ((λ e is. let never : None ≡ Some e = sym (not_yet w.shares n w.next fresh g.shares_below) ∙ is in cc), tt))
      (new_put (λ _ m. Numbered (suc n) m) w.link (numbers_more w g (suc n) few) 1 get (omega arith, tt))
      (shares_more w g (suc n) few)

  pub keeps_keeps : (w : WholeWorld S A) → GlobalAll S A w → (y : ℕ) (t : S.B.T) → GlobalAll S A (keeps S A w y t)
  keeps_keeps w g y t = same_shares S A g g.moves g.messages g.numbers g.shares_below

  -- a command goes to the controller
  pub asks_move_keeps : (w : WholeWorld S A) → GlobalAll S A w → (x : MoveAsked) → GlobalAll S A (asks S A w (Old (Asked x)))
  asks_move_keeps w g x = same_shares S A g
      (record {
        messages = λ i j e. subst (λ ms. Each (Below w.next) ms) (sym (olds-put (w.link i j) (i == 0) j ((1, Old (Asked x)) ∷ []) ((1, Asked x) ∷ []) refl))
            (each_put (λ _ _ m. Below w.next m) (λ i j. olds (w.link i j)) 0 ((1, Asked x) ∷ []) g.moves.messages (tt, tt) i j e);
        rules = g.moves.rules;
        ops = g.moves.ops;
      })
      (new_put (OfShare S w.shares) w.link g.messages 0 ((1, Old (Asked x)) ∷ []) (tt, tt))
      (new_put (λ _ m. Numbered w.next m) w.link g.numbers 0 ((1, Old (Asked x)) ∷ []) (tt, tt))
      g.shares_below

  pub asks_share_keeps : (w : WholeWorld S A) → GlobalAll S A w → (x : ShareAsked) → GlobalAll S A (asks S A w (New (ShareMsg.Asked x)))
  asks_share_keeps w g x = same_shares S A g
      (global_as S A laws (moves_of S A w) (moves_of S A (asks S A w (New (ShareMsg.Asked x)))).link
      (λ i j. no_olds-put (w.link i j) (i == 0) j ((1, New (ShareMsg.Asked x)) ∷ []) refl) g.moves)
      (new_put (OfShare S w.shares) w.link g.messages 0 ((1, New (ShareMsg.Asked x)) ∷ []) (tt, tt))
      (new_put (λ _ m. Numbered w.next m) w.link g.numbers 0 ((1, New (ShareMsg.Asked x)) ∷ []) (tt, tt))
      g.shares_below
