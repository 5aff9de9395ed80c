-- Each node's step keeps a unit under a share.
use Rattle.proof_machines.proofs.unit.Labels.{each_map}
use Rattle.proof_machines.proofs.net.Words.{◌≡◌, ℕ, Bool, true, false, None, List, [], ◌∷◌, ◌++◌, ◌⊎◌, inl, inr, refl, sym, ap, ◌∙◌, append-nil, append_assoc}
use Rattle.proof_machines.proofs.net.Words.{arith, if◌then◌else◌, ◌&&◌, ◌==◌, nat_tests, Decides-eqb, neither, MoveMsg, where_true, add, Each, Carry, Arrive}
use Rattle.proof_machines.proofs.net.Words.{has, if_mine, Stage, Diverting, late, shape, IsShare, FitsStage, goes_on, to_members, meets_sw, meets_to, Msg}
use Rattle.proof_machines.proofs.net.Words.{Carry_on, Pass_on, Of_move, Sys, IsSys, inst_step, sw_sends, ctrl_step, EachSent, Below, RestRule, NothingOf}
use Rattle.proof_machines.proofs.net.Words.{OfShare, GlobalAll, mine, share_seen, share_items, own_at, Any, Old, New, ShareMsg, Diverted_on, as_old, Sharing}
use Rattle.proof_machines.proofs.net.Words.{IsSharing, told_by, by_share, share_sends, arrive_sends, WholeWorld, whole_inst, whole_ctrl, whole_switch}
use Rattle.proof_machines.proofs.net.Words.{whole_input, SeeingShare, either_way, split, placed}
use Rattle.proof_machines.proofs.share.Share.{moved}
use Rattle.std.proofs.lemmas.List.Elements.{filter_map-append}
use Rattle.proof_machines.proofs.net.AsMoves.{old_sent, old_sends, old_sends-old, member_new, by_share_new}
use Rattle.proof_machines.proofs.net.NewMessages.{new_head}
use Rattle.proof_machines.proofs.net.UnderOld.{inst_leaves, ctrl_leaves}
use Rattle.proof_machines.proofs.net.ShareLinks.{holds_alike}
use Rattle.proof_machines.proofs.net.ShareLabels.{label_of}
use Rattle.proof_machines.proofs.net.MemberSteps.{does, SeesMember, member_sees}
use Rattle.proof_machines.proofs.net.MemberMoves.{AtHome, moves_sees}
use Rattle.proof_machines.proofs.net.UnderInst.{did_at, heads, inst_from, inst_goes}
use Rattle.proof_machines.proofs.net.UnderCtrl.{ctrl_goes}
use Rattle.proof_machines.proofs.net.UnderSwitch.{NoDiverts, LabelAt, switch_goes}
use Rattle.proof_machines.proofs.net.UnderInput.{Comes, Comes.Not_its, Comes.Arrives, comes}
use Rattle.proof_machines.proofs.net.Under.{f, Under, Goes_on, NextStage, stays, KeepsRest, leads_to, goes_to, head_old, after_old, after_new, put_labels}

module _ {R : Type 0} (S : Sys R) (A : Sharing S) (z : SeeingShare) where
  -- which instance sends is nothing to a message
  of_sender : (y : ℕ) → (y == 0) ≡ false → (m : Msg R) → NothingOf S z.unit 1 m → NothingOf S z.unit y m
  of_sender y y0 (Of_move g m) h = (y0, h.1)
  of_sender y y0 (Pass_on p) h = h
  of_sender y y0 m h = tt

  module _ (laws : IsSys S) (ok : IsSharing S A) where
    -- An instance: of a move's message and of a share's
    module _ (w : WholeWorld S A) (before since : List ℕ) (g : GlobalAll S A w) (u : Under S A z w before since) (y p : ℕ) (y0 : (y == 0) ≡ false)
        (y1 : (y == 1) ≡ false) where
      no_input : (p == 0) && (y == 0) ≡ false
      no_input = rw y0 (elim (p == 0) as (λ b. b && false ≡ false) [ true ↦ refl | false ↦ refl ])

      pub record KeepsInstance (m : Any R) : Type 0 where
        pub sees : SeesMember S A laws z y (w.inst y).live (did_at S A laws z w y m) (does S A laws z y (own_at S A z w y) (share_seen S A z y m))
        pub keeps : KeepsRest S A z (whole_inst S A w p y m)

      -- a plain packet of the unit comes to home alone
      carried_home : (q : ℕ) (rest : List (Any R)) → w.link p y ≡ Old (Carry_on q) ∷ rest → mine S A z q ≡ true → (y == z.home) ≡ true
      carried_home q rest waits on =
          let members = to_members (f S A z) u.is u.stage u.fits in
          let head = ap (λ b. add (where_true b (Carry q)) (share_items S A z y rest)) (sym on)
          ∙ heads S A laws z w (shape (f S A z) u.stage) u.holds members y p (Old (Carry_on q)) rest y0 y1 waits in
          (Decides-eqb y z.home).1
          (by_link (inst_from S A laws z w (shape (f S A z) u.stage) u.holds members y p (Old (Carry_on q)) rest y0 y1 waits (Carry q) head))
        where
          by_link : ((shape (f S A z) u.stage).sw y ≡ Carry q ∷ share_items S A z y rest) × (p ≡ 0)
              ⊎ ((shape (f S A z) u.stage).to y ≡ Carry q ∷ share_items S A z y rest) × (p ≡ 1) → y ≡ z.home
          by_link (inl a) = (meets_sw (f S A z) u.stage y (Carry q) (share_items S A z y rest) a.0).0
          by_link (inr a) = either_way (has z.members y) (λ inside. (meets_to (f S A z) u.stage u.fits y inside (Carry q) (share_items S A z y rest) a.0).0)
              (λ out. let never : Carry q ∷ share_items S A z y rest ≡ [] = sym a.0 ∙ (to_members (f S A z) u.is u.stage u.fits).to y out in cc)

      at_home : (m : Msg R) (rest : List (Any R)) → w.link p y ≡ Old m ∷ rest → AtHome S A z laws y (w.inst y) (w.standby y) m
      at_home (Carry_on q) rest waits = λ on. carried_home q rest waits on
      at_home m rest waits = tt

      away_after : (m : Any R) → SeesMember S A laws z y (w.inst y).live (did_at S A laws z w y m) (does S A laws z y (own_at S A z w y) (share_seen S A z y m))
          → (k : ℕ) → (k == z.home) ≡ false → S.B.at z.unit (if k == y then (did_at S A laws z w y m).live else (w.inst k).live) ≡ None
      away_after m sees k off = split (k == y) (λ b. S.B.at z.unit (if b then (did_at S A laws z w y m).live else (w.inst k).live) ≡ None)
          (λ on. let here : (y == z.home) ≡ false = ap (λ n. n == z.home) (sym ((Decides-eqb k y).0 on)) ∙ off in sees.away here ∙ u.away y here)
          (λ _. u.away k off)

      of_old : (m : Msg R) (rest : List (Any R)) → w.link p y ≡ Old m ∷ rest → KeepsInstance (Old m)
      of_old m rest waits =
          let few = head_old S A z (Below w.next) m rest (w.link p y) waits (g.moves.messages p y no_input) in
          let label = head_old S A z (NothingOf S z.unit p) m rest (w.link p y) waits (u.labels p y no_input) in
          let leaves = inst_leaves S laws z.unit w.next (w.inst y) (g.moves.rules y) (u.rules y) p m few label in
          let sees = moves_sees S A z laws y (w.inst y) (w.standby y) p m leaves label (at_home m rest waits) in
          let sent = (inst_step S (w.inst y) m).sends in
          record {
            sees = sees;
            keeps = record {
              labels = after_old S A z w.link p y m rest (as_old sent) sent waits (old_sends-old sent) u.labels
                  (each_map (λ x h. of_sender y y0 x.1 h) sent leaves.sends);
              rules = λ k. elim (k == y) as (λ b. Each (RestRule S z.unit) (if b then (inst_step S (w.inst y) m).node else w.inst k).rules)
                  [ true ↦ leaves.rules | false ↦ u.rules k ];
              ops = u.ops;
              away = λ k off. live_if (k == y) k m ∙ away_after (Old m) sees k off;
            };
          }
        where
          live_if : (b : Bool) (k : ℕ) (m : Msg R) → S.B.at z.unit (if b then (inst_step S (w.inst y) m).node else w.inst k).live
              ≡ S.B.at z.unit (if b then (did_at S A laws z w y (Old m)).live else (w.inst k).live)
          live_if true k m = refl
          live_if false k m = refl

      of_new : (m : ShareMsg R) (rest : List (Any R)) → w.link p y ≡ New m ∷ rest → KeepsInstance (New m)
      of_new m rest waits =
          let label = label_of S A z w g u.covered (shape (f S A z) u.stage).phase (shape (f S A z) u.stage).queue u.holds.share y m
          (new_head (OfShare S w.shares) w.link g.messages p y m rest no_input waits) in
          let sees = member_sees S A laws z ok y (w.inst y).live (w.standby y) u.covered m label in
          let d = did_at S A laws z w y (New m) in
          record {
            sees = sees;
            keeps = record {
              labels = after_new S A z w.link p y m rest d.sends [] waits (member_new S A (w.inst y).live (w.standby y) m) u.labels tt;
              rules = λ k. elim (k == y) as (λ b. Each (RestRule S z.unit) (if b then record (w.inst y) { live = d.live } else w.inst k).rules)
                  [ true ↦ u.rules y | false ↦ u.rules k ];
              ops = u.ops;
              away = λ k off. live_if (k == y) k ∙ away_after (New m) sees k off;
            };
          }
        where
          live_if : (b : Bool) (k : ℕ) → S.B.at z.unit (if b then record (w.inst y) { live = (did_at S A laws z w y (New m)).live } else w.inst k).live
              ≡ S.B.at z.unit (if b then (did_at S A laws z w y (New m)).live else (w.inst k).live)
          live_if true k = refl
          live_if false k = refl

      pub inst_keeps : (m : Any R) (rest : List (Any R)) → w.link p y ≡ m ∷ rest → KeepsInstance m
      inst_keeps (Old m) rest waits = of_old m rest waits
      inst_keeps (New m) rest waits = of_new m rest waits

      pub under_inst : (m : Any R) (rest : List (Any R)) → w.link p y ≡ m ∷ rest → Goes_on S A z u.stage (whole_inst S A w p y m) before since
      under_inst m rest waits =
          let k = inst_keeps m rest waits in
          goes_to S A z w (whole_inst S A w p y m) before since u
          (inst_goes S A laws z w (shape (f S A z) u.stage) u.holds (to_members (f S A z) u.is u.stage u.fits) y p m rest y0 y1 waits k.sees) k.keeps

    -- The controller
    pub under_ctrl : (w : WholeWorld S A) (before since : List ℕ) → GlobalAll S A w → (u : Under S A z w before since) (p : ℕ) (m : Any R) (rest : List (Any R))
        → w.link p 1 ≡ m ∷ rest → Goes_on S A z u.stage (whole_ctrl S A w p m) before since
    under_ctrl w before since g u p m rest waits =
        goes_to S A z w (whole_ctrl S A w p m) before since u (ctrl_goes S A z u.is u.insts w g u.covered u.stage u.fits u.holds p m rest waits)
        (by_kind m waits)
      where
        no_input : (p == 0) && (1 == 0) ≡ false
        no_input = elim (p == 0) as (λ b. b && false ≡ false) [ true ↦ refl | false ↦ refl ]

        all_olds : (xs : List (ℕ × Msg R)) (m : Any R) → old_sends (as_old xs ++ (by_share S A w.shares p (told_by S A w.shares m)).sends) ≡ xs
        all_olds xs m = filter_map-append old_sent (as_old xs) (by_share S A w.shares p (told_by S A w.shares m)).sends
            ∙ ap (λ v. v ++ old_sends (by_share S A w.shares p (told_by S A w.shares m)).sends) (old_sends-old xs)
            ∙ ap (λ v. xs ++ v) (by_share_new S A w.shares p (told_by S A w.shares m)) ∙ append-nil xs

        by_kind : (m : Any R) → w.link p 1 ≡ m ∷ rest → KeepsRest S A z (whole_ctrl S A w p m)
        by_kind (New m) at = record {
          labels = after_new S A z w.link p 1 m rest (by_share S A w.shares p (told_by S A w.shares (New m))).sends [] at
              (by_share_new S A w.shares p (told_by S A w.shares (New m))) u.labels tt;
          rules = u.rules;
          ops = u.ops;
          away = u.away;
        }
        by_kind (Old m) at =
            let few = head_old S A z (Below w.next) m rest (w.link p 1) at (g.moves.messages p 1 no_input) in
            let label = head_old S A z (NothingOf S z.unit p) m rest (w.link p 1) at (u.labels p 1 no_input) in
            let leaves = ctrl_leaves S laws z.unit w.next w.ops g.moves.ops u.ops p p m few label in
            let sent = (ctrl_step w.ops p m).sends in
            record {
              labels = after_old S A z w.link p 1 m rest (as_old sent ++ (by_share S A w.shares p (told_by S A w.shares (Old m))).sends) sent at
                  (all_olds sent (Old m)) u.labels leaves.sends;
              rules = u.rules;
              ops = leaves.ops;
              away = u.away;
            }

    -- The switch
    switch_labels : (k : ℕ) (m : Msg R) → NothingOf S z.unit k m → EachSent (λ _ m. NothingOf S z.unit 0 m) (sw_sends m)
    switch_labels k (Of_move g (MoveMsg.Forward q to)) h = (h.1, tt)
    switch_labels k (Of_move g (MoveMsg.Install n a b)) h = (tt, tt)
    switch_labels k (Of_move g (MoveMsg.Fence_to n to)) h = (tt, tt)
    switch_labels k m h = tt

    fence_labels : (m : ShareMsg R) → EachSent (λ _ m. NothingOf S z.unit 0 m) (old_sends (share_sends S A m))
    fence_labels (ShareMsg.Install n h from) = (tt, tt)
    fence_labels m = tt

    pub under_switch : (w : WholeWorld S A) (before since : List ℕ) → GlobalAll S A w
        → (u : Under S A z w before since) (p : ℕ) (m : Any R) (rest : List (Any R))
        → (p == 0) ≡ false → w.link p 0 ≡ m ∷ rest → NoDiverts S A laws z w m → Goes_on S A z u.stage (whole_switch S A w p m) before since
    under_switch w before since g u p m rest p0 waits few = goes_to S A z w (whole_switch S A w p m) before since u
        (switch_goes S A laws z u.is u.insts u.covered w u.stage u.holds p p0 p m rest waits (label m waits) few) (by_kind m waits)
      where
        no_input : (p == 0) && (0 == 0) ≡ false
        no_input = rw p0 refl

        label : (m : Any R) → w.link p 0 ≡ m ∷ rest → LabelAt S A laws z u.is u.insts u.covered w u.stage u.holds p p0 p m
        label (Old m) at = head_old S A z (NothingOf S z.unit p) m rest (w.link p 0) at (u.labels p 0 no_input)
        label (New m) at = label_of S A z w g u.covered (shape (f S A z) u.stage).phase (shape (f S A z) u.stage).queue u.holds.share 0 m
            (new_head (OfShare S w.shares) w.link g.messages p 0 m rest no_input at)

        by_kind : (m : Any R) → w.link p 0 ≡ m ∷ rest → KeepsRest S A z (whole_switch S A w p m)
        by_kind (Old m) at = record {
          labels = after_old S A z w.link p 0 m rest (as_old (sw_sends m)) (sw_sends m) at (old_sends-old (sw_sends m)) u.labels
              (switch_labels p m (head_old S A z (NothingOf S z.unit p) m rest (w.link p 0) at (u.labels p 0 no_input)));
          rules = u.rules;
          ops = u.ops;
          away = u.away;
        }
        by_kind (New m) at = record {
          labels = after_new S A z w.link p 0 m rest (share_sends S A m) (old_sends (share_sends S A m)) at refl u.labels (fence_labels m);
          rules = u.rules;
          ops = u.ops;
          away = u.away;
        }

    -- A packet of the input
    abbrev its_early : Stage R → ℕ → List ℕ
    its_early s q = if (shape (f S A z) s).diverts then [] else if_mine (f S A z) q

    abbrev its_late : Stage R → ℕ → List ℕ
    its_late s q = if (shape (f S A z) s).diverts then if_mine (f S A z) q else []

    input_next : IsShare (f S A z) → (s : Stage R) → FitsStage (f S A z) s → (w : WholeWorld S A) (q : ℕ) → Comes S A z w (shape (f S A z) s) q
        → NextStage S A z s w (its_early s q) (its_late s q)
    input_next is s h w q (Not_its other holds) = let b = (shape (f S A z) s).diverts in
        stays S A z s h w holds (its_early s q) (its_late s q) (ap (λ ps. if b then [] else ps) other ∙ neither b)
        (ap (λ ps. if b then ps else []) other ∙ neither b)
    input_next is s h w q (Arrives holds) = let on = goes_on (f S A z) is s h (Arrive q) in record {
      stage = on.next;
      fits = on.fits;
      holds = holds_alike S A z w (moved (f S A z) (shape (f S A z) s) (Arrive q)) (shape (f S A z) on.next) holds on.alike;
      before_is = on.early_is;
      since_is = on.late_is;
      longer = on.longer;
      placed = placed (f S A z) is s h (Arrive q);
    }

    arrive_olds : (b : Bool) (t q : ℕ)
        → EachSent (λ _ m. NothingOf S z.unit 0 m) (old_sends (if b then (1, New (Diverted_on q)) ∷ [] else (t, Old (Carry_on q)) ∷ []))
    arrive_olds true t q = tt
    arrive_olds false t q = (tt, tt)

    pub under_input : (w : WholeWorld S A) (before since : List ℕ) (u : Under S A z w before since) (q : ℕ) → Goes_on S A z u.stage (whole_input S A w q)
        (before ++ (if (shape (f S A z) u.stage).diverts then [] else if_mine (f S A z) q))
        (since ++ (if (shape (f S A z) u.stage).diverts then if_mine (f S A z) q else []))
    under_input w before since u q =
        let apart : (1 == z.home) ≡ false = grind (arith, nat_tests, u.insts z.home u.is.home_in) in
        let sends = arrive_sends S A (w.target (S.packet_unit q)) q in
        leads_to S A z u.stage (whole_input S A w q) (its_early u.stage q) (its_late u.stage q) (before ++ its_early u.stage q)
        (since ++ its_late u.stage q) u.is
        u.insts u.covered (input_next u.is u.stage u.fits (whole_input S A w q) q (comes S A z u.covered apart w (shape (f S A z) u.stage) u.holds q)) (record {
          labels = put_labels S A z w.link 0 sends (old_sends sends) refl u.labels
              (arrive_olds (w.target (S.packet_unit q) == 1) (w.target (S.packet_unit q)) q);
          rules = u.rules;
          ops = u.ops;
          away = u.away;
        }) (ap (λ ps. ps ++ its_early u.stage q) u.before_is) (ap (λ ps. ps ++ its_late u.stage q) u.since_is)

  -- nothing has arrived since where nothing is diverted, so what arrives is last
  none_since : (s : Stage R) → (shape (f S A z) s).diverts ≡ false → late (f S A z) s ≡ []
  none_since (Diverting d b l) e = refl
  none_since s e = cc

  pub comes_last : (w : WholeWorld S A) (before since : List ℕ) (u : Under S A z w before since) (ps : List ℕ)
      → (before ++ (if (shape (f S A z) u.stage).diverts then [] else ps)) ++ (since ++ (if (shape (f S A z) u.stage).diverts then ps else []))
      ≡ (before ++ since) ++ ps
  comes_last w before since u ps = split ((shape (f S A z) u.stage).diverts) (λ b. (before ++ (if b then [] else ps)) ++ (since ++ (if b then ps else []))
      ≡ (before ++ since) ++ ps)
      (λ _. ap (λ v. v ++ (since ++ ps)) (append-nil before) ∙ sym (append_assoc before since ps))
      (λ off.
      let none : since ≡ [] = u.since_is ∙ none_since u.stage off in rw none (append-nil (before ++ ps) ∙ ap (λ v. v ++ ps) (sym (append-nil before))))
