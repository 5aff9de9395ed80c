-- The whole world's steps as moves see them: a step on a message of a move is, to every unit, that of the moves' world; a step on a
-- message of a share leaves the controller's moves as they are.
use Rattle.proof_machines.proofs.net.Words.{◌≡◌, ℕ, Bool, true, false, Option, Some, None, List, [], ◌∷◌, ◌++◌, drop, refl, sym, ap, ◌∙◌, append-nil, arith}
use Rattle.proof_machines.proofs.net.Words.{if◌then◌else◌, ◌&&◌, ◌==◌, option_map, option_map_or, nat_tests, sent_for, each_any, EachSent, Msg, MoveAsked, Sys}
use Rattle.proof_machines.proofs.net.Words.{process, inst_step, ctrl_step, sw_sends, begin_sends, behind, links_after, inst_next, ctrl_next, sw_next}
use Rattle.proof_machines.proofs.net.Words.{begin_next, Any, Old, New, ShareMsg, Shared_on, olds, as_old, Sharing, OpenShare, Told, Is_fenced, share_row}
use Rattle.proof_machines.proofs.net.Words.{told_by, by_share, shared_chunk, member_step, WholeWorld, moves_of, whole_inst, whole_ctrl, whole_switch}
use Rattle.proof_machines.proofs.net.Words.{begin_move, Unit}
use Rattle.std.proofs.lemmas.List.Elements.{filter_map-append}
use Rattle.std.specs.List.{filter_map}
use Rattle.proof_machines.proofs.unit.Lists.{picked_each}
use Rattle.proof_machines.proofs.net.Shares.{old_of}
use Rattle.proof_machines.proofs.net.Elsewhere.{Elsewhere}
use Rattle.proof_machines.proofs.net.ShareRows.{ToldOf, SentBy, share_row_by}

-- the moves' messages among sends
abbrev pub old_sent : {R : Type 0} → ℕ × Any R → Option (ℕ × Msg R)
old_sent x = option_map (λ m. (x.0, m)) (old_of x.1)

abbrev pub old_sends : {R : Type 0} → List (ℕ × Any R) → List (ℕ × Msg R)
old_sends xs = filter_map old_sent xs

pub old_sends-old : {R : Type 0} (xs : List (ℕ × Msg R)) → old_sends (as_old xs) ≡ xs
old_sends-old xs = picked_each old_sent (λ x. (x.0, Old x.1)) (λ x. refl) xs

pub olds-sent : {R : Type 0} (j : ℕ) (xs : List (ℕ × Any R)) → olds (sent_for j xs) ≡ sent_for j (old_sends xs)
olds-sent j [] = refl
olds-sent j ((k, Old m) ∷ xs) = let rest = olds-sent j xs in elim (k == j) as (λ b. olds (if b then Old m ∷ sent_for j xs else sent_for j xs)
    ≡ (if b then m ∷ sent_for j (old_sends xs) else sent_for j (old_sends xs))) [ true ↦ ap (λ v. m ∷ v) rest | false ↦ rest ]
olds-sent j ((k, New m) ∷ xs) = let rest = olds-sent j xs in
    elim (k == j) as (λ b. olds (if b then New m ∷ sent_for j xs else sent_for j xs) ≡ sent_for j (old_sends xs)) [ true ↦ rest | false ↦ rest ]

olds-if : {R : Type 0} (b : Bool) (j : ℕ) (xs : List (ℕ × Any R)) → olds (if b then sent_for j xs else []) ≡ (if b then sent_for j (old_sends xs) else [])
olds-if true j xs = olds-sent j xs
olds-if false j xs = refl

-- links with sends put on them
pub olds-put : {R : Type 0} (l : List (Any R)) (b : Bool) (j : ℕ) (xs : List (ℕ × Any R)) (ys : List (ℕ × Msg R)) → old_sends xs ≡ ys
    → olds (l ++ (if b then sent_for j xs else [])) ≡ olds l ++ (if b then sent_for j ys else [])
olds-put l b j xs ys e = filter_map-append old_of l (if b then sent_for j xs else [])
    ∙ ap (λ v. olds l ++ v) (olds-if b j xs ∙ ap (λ v. if b then sent_for j v else []) e)

pub no_olds-put : {R : Type 0} (l : List (Any R)) (b : Bool) (j : ℕ) (xs : List (ℕ × Any R)) → old_sends xs ≡ []
    → olds (l ++ (if b then sent_for j xs else [])) ≡ olds l
no_olds-put l true j xs e = olds-put l true j xs [] e ∙ append-nil (olds l)
no_olds-put l false j xs e = ap olds (append-nil l)

old-behind : {R : Type 0} (b : Bool) (xs rest : List (Any R)) (m : Msg R) → (b ≡ true → xs ≡ Old m ∷ rest) → olds (behind b xs) ≡ behind b (olds xs)
old-behind true xs rest m e = ap (λ v. olds (drop 1 v)) (e refl) ∙ sym (ap (λ v. drop 1 (olds v)) (e refl))
old-behind false xs rest m e = refl

new-behind : {R : Type 0} (b : Bool) (xs rest : List (Any R)) (m : ShareMsg R) → (b ≡ true → xs ≡ New m ∷ rest) → olds (behind b xs) ≡ olds xs
new-behind true xs rest m e = ap (λ v. olds (drop 1 v)) (e refl) ∙ sym (ap olds (e refl))
new-behind false xs rest m e = refl

module _ {R : Type 0} (l : ℕ → ℕ → List (Any R)) (p k : ℕ) (rest : List (Any R)) (sends : List (ℕ × Any R)) (ys : List (ℕ × Msg R))
    (is : old_sends sends ≡ ys) where
  the_head : (m : Any R) → l p k ≡ m ∷ rest → (i j : ℕ) → (i == p) && (j == k) ≡ true → l i j ≡ m ∷ rest
  the_head m waits i j e = let ip : i ≡ p = grind (arith, nat_tests) in let jk : j ≡ k = grind (arith, nat_tests) in rw (ip, jk) waits

  -- after a step on a message of a move
  pub olds-after : (m : Msg R) → l p k ≡ Old m ∷ rest → (i j : ℕ) → olds (links_after l p k sends i j) ≡ links_after (λ i j. olds (l i j)) p k ys i j
  olds-after m waits i j = olds-put (behind ((i == p) && (j == k)) (l i j)) (i == k) j sends ys is
      ∙ ap (λ v. v ++ (if i == k then sent_for j ys else [])) (old-behind ((i == p) && (j == k)) (l i j) rest m (the_head (Old m) waits i j))

  -- and on one of a share
  pub news-after : (m : ShareMsg R) → l p k ≡ New m ∷ rest → (i j : ℕ)
      → olds (links_after l p k sends i j) ≡ olds (l i j) ++ (if i == k then sent_for j ys else [])
  news-after m waits i j = olds-put (behind ((i == p) && (j == k)) (l i j)) (i == k) j sends ys is
      ∙ ap (λ v. v ++ (if i == k then sent_for j ys else [])) (new-behind ((i == p) && (j == k)) (l i j) rest m (the_head (New m) waits i j))

pub no_olds-after : {R : Type 0} (l : ℕ → ℕ → List (Any R)) (p k : ℕ) (m : ShareMsg R) (rest : List (Any R)) (sends : List (ℕ × Any R))
    → l p k ≡ New m ∷ rest → old_sends sends ≡ [] → (i j : ℕ) → olds (links_after l p k sends i j) ≡ olds (l i j)
no_olds-after {R} l p k m rest sends waits is i j = news-after l p k rest sends [] is m waits i j ∙ none (i == k)
  where
    none : (b : Bool) → olds (l i j) ++ (if b then sent_for {M = Msg R} j [] else []) ≡ olds (l i j)
    none true = append-nil (olds (l i j))
    none false = append-nil (olds (l i j))

module _ {R : Type 0} (S : Sys R) (A : Sharing S) where
  -- a share sends messages of shares alone
  none_old : (e : OpenShare) (xs : List (ℕ × Any R)) → EachSent (SentBy S A e (λ _. Prim.Unit {0}) (λ _. Prim.Unit {0})) xs → old_sends xs ≡ []
  none_old e [] h = refl
  none_old e ((j, Old m) ∷ xs) h = absurd h.0
  none_old e ((j, New m) ∷ xs) h = none_old e xs h.1

  any_told : (e : OpenShare) (told : Told R) → ToldOf S A e (λ _. Prim.Unit {0}) (λ _. Prim.Unit {0}) told
  any_told e Is_fenced = tt
  any_told e told = tt

  pub by_share_new : (es : List OpenShare) (sender : ℕ) (o : Option (OpenShare × Told R)) → old_sends (by_share S A es sender o).sends ≡ []
  by_share_new es sender None = refl
  by_share_new es sender (Some x) = none_old x.0 (share_row S A x.0 sender x.1).sends
      (share_row_by S A x.0 (λ _. Prim.Unit {0}) (λ _. Prim.Unit {0}) sender x.1 (any_told x.0 x.1) (each_any x.0.queue)).1

  chunk_new : (n p : ℕ) (t : S.B.T) → old_sends (shared_chunk S A n p t) ≡ []
  chunk_new n p t = elim (S.B.at (S.packet_unit p) t) as (λ o. old_sends (option_map_or (λ r. (1, New (ShareMsg.Shared n (S.packet_unit p, r))) ∷ []) o [])
      ≡ [])
      [ None ↦ refl | Some r ↦ refl ]

  -- and so does a member
  pub member_new : (live standby : S.B.T) (m : ShareMsg R) → old_sends (member_step S A live standby m).sends ≡ []
  member_new live standby (Shared_on n true p) = chunk_new n p (process S live p)
  member_new live standby (Shared_on n false p) = chunk_new n p (process S standby p)
  member_new live standby (ShareMsg.Sync n true cs) = refl
  member_new live standby (ShareMsg.Sync n false cs) = refl
  member_new live standby m = refl

  -- The steps, as moves see them
  module _ (w : WholeWorld S A) (p : ℕ) (m : Msg R) (rest : List (Any R)) where
    pub inst_old : (u : Unit) (y : ℕ) → w.link p y ≡ Old m ∷ rest
        → Elsewhere S u (inst_next S (moves_of S A w) p y m) (moves_of S A (whole_inst S A w p y (Old m)))
    inst_old u y waits = record {
      target = refl;
      ops = refl;
      live = λ k. refl;
      rules = λ k. refl;
      link = λ i j _. olds-after w.link p y rest (as_old sent) sent (old_sends-old sent) m waits i j;
      done = refl;
    }
      where
        sent : List (ℕ × Msg R)
        sent = (inst_step S (w.inst y) m).sends

    pub ctrl_links : w.link p 1 ≡ Old m ∷ rest → (i j : ℕ) → (moves_of S A (whole_ctrl S A w p (Old m))).link i j ≡ (ctrl_next S (moves_of S A w) p m).link i j
    ctrl_links waits i j = olds-after w.link p 1 rest (as_old sent ++ its) sent both m waits i j
      where
        sent : List (ℕ × Msg R)
        sent = (ctrl_step w.ops p m).sends

        its : List (ℕ × Any R)
        its = (by_share S A w.shares p (told_by S A w.shares (Old m))).sends

        both : old_sends (as_old sent ++ its) ≡ sent
        both = filter_map-append old_sent (as_old sent) its ∙ ap (λ v. v ++ old_sends its) (old_sends-old sent)
            ∙ ap (λ v. sent ++ v) (by_share_new w.shares p (told_by S A w.shares (Old m))) ∙ append-nil sent

    pub ctrl_old : (u : Unit) → w.link p 1 ≡ Old m ∷ rest → Elsewhere S u (ctrl_next S (moves_of S A w) p m) (moves_of S A (whole_ctrl S A w p (Old m)))
    ctrl_old u waits = record { target = refl; ops = refl; live = λ k. refl; rules = λ k. refl; link = λ i j _. ctrl_links waits i j; done = refl }

    pub switch_old : (u : Unit) → w.link p 0 ≡ Old m ∷ rest → Elsewhere S u (sw_next S (moves_of S A w) p m) (moves_of S A (whole_switch S A w p (Old m)))
    switch_old u waits = record {
      target = refl;
      ops = refl;
      live = λ k. refl;
      rules = λ k. refl;
      link = λ i j _. olds-after w.link p 0 rest (as_old (sw_sends m)) (sw_sends m) (old_sends-old (sw_sends m)) m waits i j;
      done = refl;
    }

  pub ctrl_new : (u : Unit) (w : WholeWorld S A) (p : ℕ) (m : ShareMsg R) (rest : List (Any R)) → w.link p 1 ≡ New m ∷ rest
      → Elsewhere S u (moves_of S A w) (moves_of S A (whole_ctrl S A w p (New m)))
  ctrl_new u w p m rest waits = record {
    target = refl;
    ops = refl;
    live = λ k. refl;
    rules = λ k. refl;
    link = λ i j _. no_olds-after w.link p 1 m rest (by_share S A w.shares p (told_by S A w.shares (New m))).sends waits
        (by_share_new w.shares p (told_by S A w.shares (New m))) i j;
    done = refl;
  }

  pub begin_old : (u : Unit) (w : WholeWorld S A) (x : MoveAsked) → Elsewhere S u (begin_next S (moves_of S A w) x) (moves_of S A (begin_move S A w x))
  begin_old u w x = record {
    target = refl;
    ops = refl;
    live = λ k. refl;
    rules = λ k. refl;
    link = λ i j _. olds-put (w.link i j) (i == 1) j (as_old (begin_sends x.num x)) (begin_sends x.num x) (old_sends-old (begin_sends x.num x));
    done = refl;
  }
