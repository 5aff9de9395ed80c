-- A unit under a share stays there when a move or another share begins, when a command or a copy's Get goes out, and when an instance keeps
-- records that stand by.
use Rattle.proof_machines.proofs.net.Words.{◌≡◌, ℕ, suc, ◌≤◌, ◌<◌, Bool, true, false, List, [], ◌∷◌, ◌++◌, refl, sym, ap, ◌∙◌, arith, if◌then◌else◌, ◌==◌}
use Rattle.proof_machines.proofs.net.Words.{nat_tests, Decides-eqb, sent_for, Each, each-append, shape, Filter, Msg, Asked, MoveAsked, Sys, IsSys, Open, new_op}
use Rattle.proof_machines.proofs.net.Words.{begin_sends, EachSent, RestOp, NothingOf, found_each, find_more, Disjoint, disjoint_sym, GlobalAll, unit_share}
use Rattle.proof_machines.proofs.net.Words.{share_items, own_of, own_at, as_share, Any, Old, New, ShareMsg, ShareAsked, as_old, Sharing, OpenShare, new_share}
use Rattle.proof_machines.proofs.net.Words.{find_share, WholeWorld, moves_of, asks, begin_move, begin_share, puts_get, keeps, meets_shares, SeeingShare, split}
use Rattle.proof_machines.proofs.net.Units.{May, apart_of}
use Rattle.proof_machines.proofs.net.AsMoves.{old_sends, old_sends-old}
use Rattle.proof_machines.proofs.net.GlobalBegins.{meets_none}
use Rattle.proof_machines.proofs.net.ShareLinks.{none_links, view_put, lone_unseen, Goes.Nothing}
use Rattle.proof_machines.proofs.net.MemberMoves.{unseen_view}
use Rattle.proof_machines.proofs.net.Under.{Under, Goes_on, goes_to, put_labels}

module _ {R : Type 0} (S : Sys R) (A : Sharing S) (z : SeeingShare) (w : WholeWorld S A) (before since : List ℕ) (u : Under S A z w before since) where
  -- something is put on node k's links that the unit doesn't see
  put_unseen : (ops : List (Open R)) (es : List OpenShare) (next k : ℕ) (sends : List (ℕ × Any R)) (ys : List (ℕ × Msg R))
      → old_sends sends ≡ ys → ((j : ℕ) → share_items S A z j (sent_for j sends) ≡ []) → find_share es z.num ≡ find_share w.shares z.num
      → Each (RestOp S z.unit) ops → EachSent (λ _ m. NothingOf S z.unit k m) ys → Goes_on S A z u.stage
      (record w { ops = ops; shares = es; next = next; link = λ i j. w.link i j ++ (if i == k then sent_for j sends else []) }) before since
  put_unseen ops es next k sends ys is none same opens new =
      let w' : WholeWorld S A = record w { ops = ops; shares = es; next = next; link = λ i j. w.link i j ++ (if i == k then sent_for j sends else []) } in
      let x = shape (unit_share S A z) u.stage in
      goes_to S A z w w' before since u (Nothing (record {
        links = λ i j e. view_put S A z w.link k sends i j ∙ ap (λ v. v ++ (if i == k then share_items S A z j (sent_for j sends) else []))
            (u.holds.links i j e) ∙ none_links x k i j (λ j. share_items S A z j (sent_for j sends)) none;
        own = u.holds.own;
        share = same ∙ u.holds.share;
        target = u.holds.target;
        diverts = u.holds.diverts;
        done = u.holds.done;
      })) (record { labels = put_labels S A z w.link k sends ys is u.labels new; rules = u.rules; ops = opens; away = u.away })

  -- a new number isn't the share's
  new_num : GlobalAll S A w → (n : ℕ) → w.next ≤ n → (n == z.num) ≡ false
  new_num g n fresh = let below : z.num < w.next = found_each (λ e. e.num < w.next) w.shares z.num
      (as_share S A z (shape (unit_share S A z) u.stage).phase (shape (unit_share S A z) u.stage).queue) g.shares_below u.holds.share in
      grind (arith, nat_tests, below, fresh)

  pub under_begin_move : IsSys S → (x : MoveAsked) → May S (moves_of S A w) x → meets_shares S A x.filter w.shares ≡ false
      → Goes_on S A z u.stage (begin_move S A w x) before since
  under_begin_move laws x may meets =
      let apart = found_each (λ e. Disjoint S x.filter e.filter) w.shares z.num (as_share S A z (shape (unit_share S A z) u.stage).phase
      (shape (unit_share S A z) u.stage).queue) (meets_none S A laws x.filter w.shares meets) u.holds.share in
      let off : S.takes x.filter z.unit ≡ false = disjoint_sym S x.filter z.filter apart z.unit u.covered in
      put_unseen (w.ops ++ new_op x.num x ∷ []) w.shares (suc x.num) 1 (as_old (begin_sends x.num x)) (begin_sends x.num x)
      (old_sends-old (begin_sends x.num x)) (unseen_view S A z (begin_sends x.num x) (refl, tt)) refl (each-append (RestOp S z.unit) w.ops
      (new_op x.num x ∷ []) u.ops ((off, (tt, refl), apart_of S laws z.unit x.num x.src x.dst x.keep may.src may.dst may.other), tt))
      ((refl, (off, refl)), tt)

  -- another share
  pub under_begin_share : GlobalAll S A w → (x : ShareAsked) → w.next ≤ x.num → Goes_on S A z u.stage (begin_share S A w x) before since
  under_begin_share g x fresh =
      put_unseen w.ops (w.shares ++ new_share x ∷ []) (suc x.num) 1 ((0, New (ShareMsg.Install x.num x.filter x.home)) ∷ []) [] refl
      (λ j. lone_unseen S A z 0 j (New (ShareMsg.Install x.num x.filter x.home)) (λ r. rw (new_num g x.num fresh) refl)) (find_more w.shares (new_share x) z.num
      (as_share S A z (shape (unit_share S A z) u.stage).phase (shape (unit_share S A z) u.stage).queue) u.holds.share ∙ sym u.holds.share) u.ops tt

  -- a copy's Get
  pub under_get : GlobalAll S A w → (n : ℕ) (h : Filter) (src : ℕ) → w.next ≤ n → Goes_on S A z u.stage (puts_get S A w n h src) before since
  under_get g n h src fresh =
      put_unseen w.ops w.shares (suc n) 1 ((src, New (ShareMsg.Get n h)) ∷ []) [] refl
      (λ j. lone_unseen S A z src j (New (ShareMsg.Get n h)) (λ r. rw (new_num g n fresh) refl)) refl
      u.ops tt

  -- a command for a move, and one for a share
  pub under_asks_move : (x : MoveAsked) → Goes_on S A z u.stage (asks S A w (Old (Asked x))) before since
  under_asks_move x = put_unseen w.ops w.shares w.next 0 ((1, Old (Asked x)) ∷ []) ((1, Asked x) ∷ []) refl
      (λ j. lone_unseen S A z 1 j (Old (Asked x)) (λ r. refl)) refl u.ops (tt, tt)

  pub under_asks_share : (x : ShareAsked) → Goes_on S A z u.stage (asks S A w (New (ShareMsg.Asked x))) before since
  under_asks_share x =
      put_unseen w.ops w.shares w.next 0 ((1, New (ShareMsg.Asked x)) ∷ []) [] refl (λ j. lone_unseen S A z 1 j (New (ShareMsg.Asked x)) (λ r. refl)) refl
      u.ops tt

  -- what an instance keeps of a copy has nothing new of the unit
  pub under_keeps : (y : ℕ) (t : S.B.T) → S.B.at z.unit t ≡ S.B.at z.unit (w.standby y) → Goes_on S A z u.stage (keeps S A w y t) before since
  under_keeps y t same_record = goes_to S A z w (keeps S A w y t) before since u (Nothing (record {
    links = u.holds.links;
    own = λ k inside. own_same k ∙ u.holds.own k inside;
    share = u.holds.share;
    target = u.holds.target;
    diverts = u.holds.diverts;
    done = u.holds.done;
  })) (record { labels = u.labels; rules = u.rules; ops = u.ops; away = u.away })
    where
      own_if : (b : Bool) (k : ℕ) (v : S.B.T) → S.B.at z.unit v ≡ S.B.at z.unit (w.standby k)
          → own_of S A z b (w.inst k).live v ≡ own_of S A z b (w.inst k).live (w.standby k)
      own_if true k v e = refl
      own_if false k v e = e

      own_same : (k : ℕ) → own_at S A z (keeps S A w y t) k ≡ own_at S A z w k
      own_same k = split (k == y) (λ b. own_of S A z (k == z.home) (w.inst k).live (if b then t else w.standby k) ≡ own_at S A z w k)
          (λ on. own_if (k == z.home) k t (same_record ∙ ap (λ n. S.B.at z.unit (w.standby n)) (sym ((Decides-eqb k y).0 on))))
          (λ _. refl)
