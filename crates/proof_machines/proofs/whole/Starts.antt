-- The whole world at its start: where moves' world keeps its invariant, no share is open, no message is on a link and nothing stands by, the whole
-- world keeps its own.
use Rattle.proof_machines.proofs.net.Words.{◌≡◌, ℕ, ◌<◌, Bool, true, false, None, Some, List, [], inr, length, refl, sym, ap, ◌∙◌, subst, ◌&&◌, ◌==◌, Each, Sys}
use Rattle.proof_machines.proofs.net.Words.{IsSys, none_mine, AreNumbersApart, Numbered, Disjoint, OfShare, ShareMsg, EachNew, Sharing, OpenShare, find_share}
use Rattle.proof_machines.proofs.net.Words.{WholeWorld, moves_of, ran_of, Unit}
use Rattle.proof_machines.proofs.net.Every.{Every}
use Rattle.proof_machines.proofs.net.Untaken.{NoShare, ElsewhereHome}
use Rattle.proof_machines.proofs.whole.WhereAll.{Apart_from_shares}
use Rattle.proof_machines.proofs.whole.Fronts.{MsgFront, front_none}
use Rattle.proof_machines.proofs.whole.EveryAll.{EveryAll}

module _ {R : Type 0} (S : Sys R) (A : Sharing S) (laws : IsSys S) where
  -- nothing but what moves see
  pub record IsStart (w : WholeWorld S A) : Type 0 where
    pub shares : w.shares ≡ []
    pub links : (i j : ℕ) → (i == 0) && (j == 0) ≡ false → w.link i j ≡ []
    pub standby : (u : Unit) (k : ℕ) → S.B.at u (w.standby k) ≡ None

  module _ (w : WholeWorld S A) (start : IsStart w) where
    no_new : (P : ShareMsg R → Type 0) (i j : ℕ) → (i == 0) && (j == 0) ≡ false → EachNew P (w.link i j)
    no_new P i j e = subst (λ ms. EachNew P ms) (sym (start.links i j e)) tt

    each_share : (P : OpenShare → Type 0) → Each P w.shares
    each_share P = subst (λ es. Each P es) (sym start.shares) tt

    none_found : (n : ℕ) → find_share w.shares n ≡ None
    none_found n = ap (λ es. find_share es n) start.shares

    pub starts : (arrived : Unit → List ℕ) (bared : Unit → Bool) → Every S laws (moves_of S A w) arrived bared
        → EveryAll S A laws w (λ u. record { all = arrived u; diverted = []; bared = bared u })
    starts arrived bared h = record {
      global = record {
        moves = h.global;
        messages = λ i j e. no_new (OfShare S w.shares j) i j e;
        numbers = λ i j e. no_new (Numbered w.next) i j e;
        shares_below = each_share (λ e. e.num < w.next);
        nums_apart = subst AreNumbersApart (sym start.shares) tt;
        some = each_share (λ e. 0 < length e.members);
        one_kind = λ n. inr (none_found n);
        apart_moves = each_share (λ e. Each (λ o. Disjoint S e.filter o.filter) w.ops);
        apart = λ n k d e a b off. let never : None ≡ Some d = sym (none_found n) ∙ a in cc;
        queues = each_share (λ e. Each (λ p. S.takes e.filter (S.packet_unit p) ≡ true) e.queue);
      };
      unit = λ u. Apart_from_shares (record {
        is = h.unit u;
        untaken = record {
          homes = each_share (ElsewhereHome S u w.target);
          queues = each_share (λ e. none_mine S u e.queue ≡ []);
          links = λ i j e. no_new (NoShare S u w.shares) i j e;
        };
      }) refl;
      fronts = λ u. record {
        standby = λ k. front_none S A laws u (ran_of S A u w.done) (S.B.at u (w.standby k)) (start.standby u k);
        links = λ i j e. no_new (MsgFront S A laws u (ran_of S A u w.done)) i j e;
      };
    }
