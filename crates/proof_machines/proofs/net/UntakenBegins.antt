-- A unit that no share has stays so when a move or another share begins, when a command or a copy's Get goes out, and when an instance keeps
-- records that stand by.
use Rattle.proof_machines.proofs.net.Words.{◌≡◌, ℕ, suc, ◌≤◌, Bool, true, false, List, [], ◌∷◌, ◌++◌, refl, sym, ◌∙◌, arith, if◌then◌else◌, ◌==◌, nat_tests}
use Rattle.proof_machines.proofs.net.Words.{each-append, Filter, Asked, MoveAsked, Sys, IsSys, begin_sends, begin_next, World, sent_for, none_mine, find_old}
use Rattle.proof_machines.proofs.net.Words.{Numbered, GlobalAll, Any, Old, New, ShareMsg, ShareAsked, olds, as_old, Sharing, OpenShare, new_share, WholeWorld}
use Rattle.proof_machines.proofs.net.Words.{moves_of, asks, begin_move, begin_share, puts_get, keeps, Unit}
use Rattle.proof_machines.proofs.net.Units.{Where, May, put_where}
use Rattle.proof_machines.proofs.net.ToldUnits.{begin_where}
use Rattle.proof_machines.proofs.net.Elsewhere.{elsewhere_where}
use Rattle.proof_machines.proofs.net.AsMoves.{old_sends, olds-put, no_olds-put, begin_old}
use Rattle.proof_machines.proofs.net.NewMessages.{sent_old, each_new_both, new_put}
use Rattle.proof_machines.proofs.net.Untaken.{NoShare, ElsewhereHome}
use Rattle.proof_machines.proofs.net.UntakenInst.{Unshared}

module _ {R : Type 0} (S : Sys R) (A : Sharing S) (laws : IsSys S) (u : Unit) where
  pub begin_unshared : (w : WholeWorld S A) (ps : List ℕ) (c : Bool) → GlobalAll S A w → (x : MoveAsked) → May S (moves_of S A w) x
      → Unshared S A laws u w ps c → Unshared S A laws u (begin_move S A w x) ps c
  begin_unshared w ps c g x may h = record {
    is = elsewhere_where S laws u (begin_next S (moves_of S A w) x) (moves_of S A (begin_move S A w x)) ps c (begin_old S A u w x)
        (begin_where S laws u (moves_of S A w) ps c x g.moves may h.is);
    untaken = record {
      homes = h.untaken.homes;
      queues = h.untaken.queues;
      links = new_put (λ _ m. NoShare S u w.shares m) w.link h.untaken.links 1 (as_old (begin_sends x.num x))
          (sent_old (λ _ m. NoShare S u w.shares m) (begin_sends x.num x));
    };
  }

  -- messages of shares alone are put on a node's links
  put_new : (w : WholeWorld S A) (ps : List ℕ) (c : Bool) (y next : ℕ) (shares : List OpenShare) (sends : List (ℕ × Any R))
      → old_sends sends ≡ [] → Where S laws u (moves_of S A w) ps c → Where S laws u
      (moves_of S A (record w { shares = shares; next = next; link = λ i j. w.link i j ++ (if i == y then sent_for j sends else []) })) ps c
  put_new w ps c y next shares sends none is = elsewhere_where S laws u (moves_of S A w)
      (moves_of S A (record w { shares = shares; next = next; link = λ i j. w.link i j ++ (if i == y then sent_for j sends else []) })) ps c (record {
        target = refl;
        ops = refl;
        live = λ k. refl;
        rules = λ k. refl;
        link = λ i j _. no_olds-put (w.link i j) (i == y) j sends none;
        done = refl;
      }) is

  -- no message has the new number
  no_share_more : (es : List OpenShare) (x : OpenShare) (b : ℕ) → b ≤ x.num → (m : ShareMsg R) → Numbered b m → NoShare S u es m → NoShare S u (es ++ x ∷ []) m
  no_share_more es x b fresh (ShareMsg.Chunks k cs) few h = λ e is.
      let off : (x.num == k) ≡ false = grind (arith, nat_tests, few, fresh) in h e (sym (find_old es x k off) ∙ is)
  no_share_more es x b fresh (ShareMsg.Asked y) few h = tt
  no_share_more es x b fresh (ShareMsg.Install k g from) few h = tt
  no_share_more es x b fresh (ShareMsg.Get k g) few h = tt
  no_share_more es x b fresh (ShareMsg.Synced k) few h = tt
  no_share_more es x b fresh m few h = h

  -- a share that doesn't take the unit, or whose home isn't where its packets go
  pub share_unshared : (w : WholeWorld S A) (ps : List ℕ) (c : Bool) → GlobalAll S A w → (x : ShareAsked) → w.next ≤ x.num
      → (S.takes x.filter u ≡ true → (x.home == w.target u) ≡ false) → Unshared S A laws u w ps c → Unshared S A laws u (begin_share S A w x) ps c
  share_unshared w ps c g x fresh away h = record {
    is = put_new w ps c 1 (suc x.num) (w.shares ++ new_share x ∷ []) ((0, New (ShareMsg.Install x.num x.filter x.home)) ∷ []) refl h.is;
    untaken = record {
      homes = each-append (ElsewhereHome S u w.target) w.shares (new_share x ∷ []) h.untaken.homes (away, tt);
      queues = each-append (λ e. none_mine S u e.queue ≡ []) w.shares (new_share x ∷ []) h.untaken.queues (refl, tt);
      links = new_put (λ _ m. NoShare S u (w.shares ++ new_share x ∷ []) m) w.link (λ i j e. each_new_both (Numbered w.next) (NoShare S u w.shares)
          (NoShare S u (w.shares ++ new_share x ∷ [])) (no_share_more w.shares (new_share x) w.next fresh) (w.link i j) (g.numbers i j e)
          (h.untaken.links i j e)) 1 ((0, New (ShareMsg.Install x.num x.filter x.home)) ∷ []) (tt, tt);
    };
  }

  -- a copy's Get, and what an instance keeps of a copy
  pub get_unshared : (w : WholeWorld S A) (ps : List ℕ) (c : Bool) (n : ℕ) (g : Filter) (src : ℕ) → Unshared S A laws u w ps c
      → Unshared S A laws u (puts_get S A w n g src) ps c
  get_unshared w ps c n g src h = record {
    is = put_new w ps c 1 (suc n) w.shares ((src, New (ShareMsg.Get n g)) ∷ []) refl h.is;
    untaken = record {
      homes = h.untaken.homes;
      queues = h.untaken.queues;
      links = new_put (λ _ m. NoShare S u w.shares m) w.link h.untaken.links 1 ((src, New (ShareMsg.Get n g)) ∷ []) (tt, tt);
    };
  }

  pub keeps_unshared : (w : WholeWorld S A) (ps : List ℕ) (c : Bool) (y : ℕ) (t : S.B.T) → Unshared S A laws u w ps c
      → Unshared S A laws u (keeps S A w y t) ps c
  keeps_unshared w ps c y t h = record { is = h.is; untaken = record { homes = h.untaken.homes; queues = h.untaken.queues; links = h.untaken.links } }

  -- a command for a move, and one for a share
  pub asks_move_unshared : (w : WholeWorld S A) (ps : List ℕ) (c : Bool) → GlobalAll S A w → (x : MoveAsked) → Unshared S A laws u w ps c
      → Unshared S A laws u (asks S A w (Old (Asked x))) ps c
  asks_move_unshared w ps c g x h = record {
    is = elsewhere_where S laws u asked (moves_of S A (asks S A w (Old (Asked x)))) ps c (record {
      target = refl;
      ops = refl;
      live = λ k. refl;
      rules = λ k. refl;
      link = λ i j _. olds-put (w.link i j) (i == 0) j ((1, Old (Asked x)) ∷ []) ((1, Asked x) ∷ []) refl;
      done = refl;
    }) (put_where S laws u (moves_of S A w) ps c g.moves 0 1 (Asked x) (λ z. refl) (λ z. tt) h.is);
    untaken = record {
      homes = h.untaken.homes;
      queues = h.untaken.queues;
      links = new_put (λ _ m. NoShare S u w.shares m) w.link h.untaken.links 0 ((1, Old (Asked x)) ∷ []) (tt, tt);
    };
  }
    where
      asked : World S
      asked = record (moves_of S A w) { link = λ i j. olds (w.link i j) ++ (if i == 0 then sent_for j ((1, Asked x) ∷ []) else []) }

  pub asks_share_unshared : (w : WholeWorld S A) (ps : List ℕ) (c : Bool) (x : ShareAsked) → Unshared S A laws u w ps c
      → Unshared S A laws u (asks S A w (New (ShareMsg.Asked x))) ps c
  asks_share_unshared w ps c x h = record {
    is = put_new w ps c 0 w.next w.shares ((1, New (ShareMsg.Asked x)) ∷ []) refl h.is;
    untaken = record {
      homes = h.untaken.homes;
      queues = h.untaken.queues;
      links = new_put (λ _ m. NoShare S u w.shares m) w.link h.untaken.links 0 ((1, New (ShareMsg.Asked x)) ∷ []) (tt, tt);
    };
  }
