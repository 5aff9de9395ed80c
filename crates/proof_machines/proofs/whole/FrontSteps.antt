-- Records that stand by or are in chunks stay folds of fronts of what was done (`Fronts`): with each node's step, each packet of the input and each
-- begin.
use Rattle.proof_machines.proofs.unit.Labels.{each_map, each_any}
use Rattle.proof_machines.proofs.net.Words.{◌≡◌, ◌≢◌, ℕ, Bool, true, false, Option, Some, None, List, [], ◌∷◌, ◌++◌, refl, sym, ap, ◌∙◌, subst, append-nil}
use Rattle.proof_machines.proofs.net.Words.{if◌then◌else◌, ◌&&◌, ◌==◌, Chunks, record_at, sent_for, runs, shape, Filter, Asked, Carry_on, MoveAsked, Sys, IsSys}
use Rattle.proof_machines.proofs.net.Words.{inst_step, sw_sends, begin_sends, at_node, OfShare, GlobalAll, unit_share, own_of, Any, Old, New, ShareMsg}
use Rattle.proof_machines.proofs.net.Words.{Shared_on, Diverted_on, ShareAsked, EachNew, same, as_old, Sharing, IsSharing, OpenShare, find_share, Told}
use Rattle.proof_machines.proofs.net.Words.{share_row, told_by, by_share, member_step, share_sends, arrive_sends, WholeWorld, old_step, whole_inst, whole_ctrl}
use Rattle.proof_machines.proofs.net.Words.{whole_switch, whole_input, asks, begin_move, begin_share, puts_get, keeps, ran_of, same_unit, Unit}
use Rattle.proof_machines.proofs.share.Share.{Ran}
use Rattle.proof_machines.proofs.net.NewMessages.{OnNew, EachSentNew, each_new_map, sent_old, sent_old_and, new_after, new_put, new_head}
use Rattle.proof_machines.proofs.net.ShareRows.{Tells, told_cases, ToldOf, SentBy, share_row_by}
use Rattle.proof_machines.proofs.net.ShareLabels.{ShareLabel, label_of}
use Rattle.proof_machines.proofs.net.Untaken.{head_none}
use Rattle.proof_machines.proofs.net.UnderStarts.{seeing}
use Rattle.proof_machines.proofs.net.UnderReadings.{under_fresh}
use Rattle.proof_machines.proofs.whole.WhereAll.{Came, WhereAll, Apart_from_shares, Under_share}
use Rattle.proof_machines.proofs.whole.Fronts.{FrontOf, MsgFront, Fronts, front_more, front_over, msg_more, ran_more, live_front, selected_front}
use Rattle.proof_machines.proofs.whole.Fronts.{processed_front, chunk_front}

module _ {R : Type 0} (S : Sys R) (A : Sharing S) (laws : IsSys S) (u : Unit) where
  pub no_input : (p y : ℕ) → (y == 0) ≡ false → (p == 0) && (y == 0) ≡ false
  no_input p y y0 = rw y0 (elim (p == 0) as (λ b. b && false ≡ false) [ true ↦ refl | false ↦ refl ])

  -- The table in which a packet of a share is processed has seen all of the unit, where the packet is the unit's
  own_table : (x : ShareAsked) (home b : Bool) (live standby : S.B.T) (r : Option R) → same home b ≡ true → own_of S A (seeing S A u x) b live standby ≡ r
      → S.B.at u (if home then live else standby) ≡ r
  own_table x true true live standby r e own = own
  own_table x false false live standby r e own = own
  own_table x true false live standby r e own = cc
  own_table x false true live standby r e own = cc

  one_ran : (n q y : ℕ) (home : Bool) (live standby : S.B.T) → at_node y (member_step S A live standby (Shared_on n home q)).ran ≡ (q, y) ∷ []
  one_ran n q y true live standby = refl
  one_ran n q y false live standby = refl

  module _ (ok : IsSharing S A) (w : WholeWorld S A) (k : Came) (g : GlobalAll S A w) (p y : ℕ) (rest : List (Any R)) (y0 : (y == 0) ≡ false)
      (y1 : (y == 1) ≡ false) where
    pub table_seen : WhereAll S A laws u w k → (n : ℕ) (home : Bool) (q : ℕ) → w.link p y ≡ New (Shared_on n home q) ∷ rest
        → same_unit (S.packet_unit q) u ≡ true → S.B.at u (if home then (w.inst y).live else w.standby y) ≡ runs S.F None (ran_of S A u w.done)
    table_seen (Apart_from_shares h none) n home q waits on =
        let other : same_unit (S.packet_unit q) u ≡ false = head_none S u A w p y (New (Shared_on n home q)) rest (no_input p y y0) waits h.untaken in
        let never : true ≡ false = sym on ∙ other in cc
    table_seen (Under_share x before b h o f) n home q waits on = by_num (n == x.num) refl
      where
        some : ran_of S A u (at_node y (member_step S A (w.inst y).live (w.standby y) (Shared_on n home q)).ran) ≢ []
        some none =
            let all : ran_of S A u ((q, y) ∷ []) ≡ [] = ap (ran_of S A u) (sym (one_ran n q y home (w.inst y).live (w.standby y))) ∙ none in
            let never : ◌≡◌ {A = List Ran} ((q, y) ∷ []) [] = ap (λ t. if t then (q, y) ∷ [] else []) (sym on) ∙ all in
            cc

        label : ShareLabel S A (seeing S A u x) y (Shared_on n home q)
        label = let v = shape (unit_share S A (seeing S A u x)) h.stage in
            label_of S A (seeing S A u x) w g h.covered v.phase v.queue h.holds.share y (Shared_on n home q)
            (new_head (OfShare S w.shares) w.link g.messages p y (Shared_on n home q) rest (no_input p y y0) waits)

        by_num : (t : Bool) → (n == x.num) ≡ t → S.B.at u (if home then (w.inst y).live else w.standby y) ≡ runs S.F None (ran_of S A u w.done)
        by_num true its = own_table x home (y == x.home) (w.inst y).live (w.standby y) (runs S.F None (ran_of S A u w.done)) (label.0 its)
            (under_fresh S A (seeing S A u x) w before k.diverted h laws ok g y p (New (Shared_on n home q)) rest y0 y1 waits some).own
        by_num false off = let never : true ≡ false = sym on ∙ label.1 off in cc

    -- what an instance leaves, on a message of a share
    record Leaves (m : ShareMsg R) : Type 0 where
      more : List Ran
      done : ran_of S A u (w.done ++ at_node y (member_step S A (w.inst y).live (w.standby y) m).ran) ≡ ran_of S A u w.done ++ more
      standby : FrontOf S A laws u (ran_of S A u w.done ++ more) (S.B.at u (member_step S A (w.inst y).live (w.standby y) m).standby)
      sends : EachSentNew (λ _ x. MsgFront S A laws u (ran_of S A u w.done ++ more) x) (member_step S A (w.inst y).live (w.standby y) m).sends

    nothing_ran : ran_of S A u (w.done ++ []) ≡ ran_of S A u w.done ++ []
    nothing_ran = ap (ran_of S A u) (append-nil w.done) ∙ sym (append-nil (ran_of S A u w.done))

    -- the same with none processed
    as_before : (r : Option R) → FrontOf S A laws u (ran_of S A u w.done) r → FrontOf S A laws u (ran_of S A u w.done ++ []) r
    as_before r h = front_more S A laws u (ran_of S A u w.done) [] r h

    leaves : WhereAll S A laws u w k → Fronts S A laws u w → (m : ShareMsg R) → w.link p y ≡ New m ∷ rest → Leaves m
    leaves wh fronts (Shared_on n true q) waits =
        let all = table_seen wh n true q waits in
        let ds = ran_of S A u w.done in
        record {
          more = ran_of S A u ((q, y) ∷ []);
          done = ran_more S A laws u w.done ((q, y) ∷ []);
          standby = front_more S A laws u ds (ran_of S A u ((q, y) ∷ [])) (S.B.at u (w.standby y)) (fronts.standby y);
          sends = chunk_front S A laws u ds q y (w.inst y).live all n;
        }
    leaves wh fronts (Shared_on n false q) waits =
        let all = table_seen wh n false q waits in
        let ds = ran_of S A u w.done in
        record {
          more = ran_of S A u ((q, y) ∷ []);
          done = ran_more S A laws u w.done ((q, y) ∷ []);
          standby = processed_front S A laws u ds q y (w.standby y) all (fronts.standby y);
          sends = chunk_front S A laws u ds q y (w.standby y) all n;
        }
    leaves wh fronts (ShareMsg.Get n f) waits = record {
      more = [];
      done = nothing_ran;
      standby = as_before (S.B.at u (w.standby y)) (fronts.standby y);
      sends = (
        as_before (record_at u (S.B.select (S.takes f) (w.inst y).live))
            (selected_front S A laws u (ran_of S A u w.done) (S.takes f) (w.inst y).live (live_front S A laws u w k g wh y)),
        tt,
      );
    }
    leaves wh fronts (ShareMsg.Sync n true cs) waits =
        record { more = []; done = nothing_ran; standby = as_before (S.B.at u (w.standby y)) (fronts.standby y); sends = (tt, tt) }
    leaves wh fronts (ShareMsg.Sync n false cs) waits =
        let chunk = new_head (λ _ x. MsgFront S A laws u (ran_of S A u w.done) x) w.link fronts.links p y (ShareMsg.Sync n false cs) rest (no_input p y y0)
        waits in
        record {
          more = [];
          done = nothing_ran;
          standby = as_before (S.B.at u (A.replace cs (w.standby y)))
              (subst (λ o. FrontOf S A laws u (ran_of S A u w.done) o) (sym (ok.replaced u cs (w.standby y)))
              (front_over S A laws u (ran_of S A u w.done) (record_at u cs) (S.B.at u (w.standby y)) chunk (fronts.standby y)));
          sends = (tt, tt);
        }
    leaves wh fronts m waits = record { more = []; done = nothing_ran; standby = as_before (S.B.at u (w.standby y)) (fronts.standby y); sends = tt }

    -- messages on the links, once more is done
    links_more : Fronts S A laws u w → (more : List Ran) → (i j : ℕ) → (i == 0) && (j == 0) ≡ false
        → EachNew (MsgFront S A laws u (ran_of S A u w.done ++ more)) (w.link i j)
    links_more fronts more i j e = each_new_map (MsgFront S A laws u (ran_of S A u w.done)) (MsgFront S A laws u (ran_of S A u w.done ++ more))
        (msg_more S A laws u (ran_of S A u w.done) more) (w.link i j) (fronts.links i j e)

    fronts_at : (v : WholeWorld S A) (ds : List Ran) → ran_of S A u v.done ≡ ds → ((j : ℕ) → FrontOf S A laws u ds (S.B.at u (v.standby j)))
        → ((i j : ℕ) → (i == 0) && (j == 0) ≡ false → EachNew (MsgFront S A laws u ds) (v.link i j)) → Fronts S A laws u v
    fronts_at v ds is standby links = record {
      standby = λ j. subst (λ es. FrontOf S A laws u es (S.B.at u (v.standby j))) (sym is) (standby j);
      links = λ i j e. subst (λ es. EachNew (MsgFront S A laws u es) (v.link i j)) (sym is) (links i j e);
    }

    pub inst_fronts : WhereAll S A laws u w k → Fronts S A laws u w → (m : Any R) → w.link p y ≡ m ∷ rest → Fronts S A laws u (whole_inst S A w p y m)
    inst_fronts wh fronts (Old m) waits =
        let sent = (inst_step S (w.inst y) m).sends in
        let more = ran_of S A u (at_node y (inst_step S (w.inst y) m).ran) in
        let ds = ran_of S A u w.done ++ more in
        fronts_at (whole_inst S A w p y (Old m)) ds (ran_more S A laws u w.done (at_node y (inst_step S (w.inst y) m).ran))
        (λ j. front_more S A laws u (ran_of S A u w.done) more (S.B.at u (w.standby j)) (fronts.standby j))
        (new_after (λ _ x. MsgFront S A laws u ds x) w.link (links_more fronts more) p y (as_old sent) (sent_old (λ _ x. MsgFront S A laws u ds x) sent))
    inst_fronts wh fronts (New m) waits =
        let l = leaves wh fronts m waits in
        let d = member_step S A (w.inst y).live (w.standby y) m in
        let ds = ran_of S A u w.done ++ l.more in
        fronts_at (whole_inst S A w p y (New m)) ds l.done
        (λ j. elim (j == y) as (λ b. FrontOf S A laws u ds (S.B.at u (if b then d.standby else w.standby j)))
        [ true ↦ l.standby | false ↦ front_more S A laws u (ran_of S A u w.done) l.more (S.B.at u (w.standby j)) (fronts.standby j) ])
        (new_after (λ _ x. MsgFront S A laws u ds x) w.link (links_more fronts l.more) p y d.sends l.sends)

  -- The controller sends on what it was told
  abbrev In_front : List Ran → Chunks R → Type 0
  In_front ds cs = FrontOf S A laws u ds (record_at u cs)

  told_front : (ds : List Ran) (es : List OpenShare) (m : Any R) (e : OpenShare) (t : Told R) → OnNew (MsgFront S A laws u ds) m → Tells S A es m e t
      → ToldOf S A e (λ _. Prim.Unit {0}) (In_front ds) t
  told_front ds es (Old m) e t h is = rw is tt
  told_front ds es (New (ShareMsg.Chunks n cs)) e t h is = let eq = is.1 in rw eq h
  told_front ds es (New (ShareMsg.Shared n c)) e t h is = let eq = is.1 in rw eq h
  told_front ds es (New (ShareMsg.Synced n)) e t h is = rw is tt
  told_front ds es (New (Diverted_on p)) e t h is = let eq = is.1 in rw eq tt
  told_front ds es m e t h is = absurd is

  sent_front : (ds : List Ran) (e : OpenShare) (j : ℕ) (m : Any R) → SentBy S A e (λ _. Prim.Unit {0}) (In_front ds) j m → OnNew (MsgFront S A laws u ds) m
  sent_front ds e j (New (ShareMsg.Sync n home cs)) h = h.1
  sent_front ds e j (New (ShareMsg.Chunks n cs)) h = absurd h
  sent_front ds e j (New (ShareMsg.Shared n c)) h = absurd h
  sent_front ds e j m h = tt

  head_front : (w : WholeWorld S A) → Fronts S A laws u w → (p j : ℕ) (m : Any R) (rest : List (Any R)) → (p == 0) && (j == 0) ≡ false
      → w.link p j ≡ m ∷ rest → OnNew (MsgFront S A laws u (ran_of S A u w.done)) m
  head_front w fronts p j (Old m) rest off waits = tt
  head_front w fronts p j (New m) rest off waits = new_head (λ _ x. MsgFront S A laws u (ran_of S A u w.done) x) w.link fronts.links p j m rest off waits

  pub ctrl_fronts : (w : WholeWorld S A) → GlobalAll S A w → Fronts S A laws u w → (p : ℕ) (m : Any R) (rest : List (Any R)) → w.link p 1 ≡ m ∷ rest
      → Fronts S A laws u (whole_ctrl S A w p m)
  ctrl_fronts w g fronts p m rest waits = record {
    standby = fronts.standby;
    links = new_after (λ _ x. MsgFront S A laws u ds x) w.link fronts.links p 1
        (as_old (old_step S A w.ops p m).sends ++ (by_share S A w.shares p (told_by S A w.shares m)).sends)
        (sent_old_and (λ _ x. MsgFront S A laws u ds x) (old_step S A w.ops p m).sends (by_share S A w.shares p (told_by S A w.shares m)).sends
        (told_cases S A (λ s. EachSentNew (λ _ x. MsgFront S A laws u ds x) s.sends) w.shares p m g.nums_apart tt goes));
  }
    where
      ds : List Ran
      ds = ran_of S A u w.done

      goes : (e : OpenShare) (t : Told R) → find_share w.shares e.num ≡ Some e → Tells S A w.shares m e t
          → EachSentNew (λ _ x. MsgFront S A laws u ds x) (by_share S A w.shares p (Some (e, t))).sends
      goes e t there is = each_map (λ x h. sent_front ds e x.0 x.1 h)
          (share_row S A e p t).sends (share_row_by S A e (λ _. Prim.Unit {0}) (In_front ds) p t (told_front ds w.shares m e t
          (head_front w fronts p 1 m rest (elim (p == 0) as (λ b. b && false ≡ false) [ true ↦ refl | false ↦ refl ]) waits) is) (each_any e.queue)).1

  -- The switch sends no chunk, and so does the input
  no_chunk : (ds : List Ran) (m : ShareMsg R) → EachSentNew (λ _ x. MsgFront S A laws u ds x) (share_sends S A m)
  no_chunk ds (ShareMsg.Install n f from) = (tt, tt)
  no_chunk ds (ShareMsg.Forward n home p to) = (tt, tt)
  no_chunk ds m = tt

  pub switch_fronts : (w : WholeWorld S A) → Fronts S A laws u w → (p : ℕ) (m : Any R) → Fronts S A laws u (whole_switch S A w p m)
  switch_fronts w fronts p (Old m) = record {
    standby = fronts.standby;
    links = new_after (λ _ x. MsgFront S A laws u (ran_of S A u w.done) x) w.link fronts.links p 0 (as_old (sw_sends m))
        (sent_old (λ _ x. MsgFront S A laws u (ran_of S A u w.done) x) (sw_sends m));
  }
  switch_fronts w fronts p (New m) = record {
    standby = fronts.standby;
    links = new_after (λ _ x. MsgFront S A laws u (ran_of S A u w.done) x) w.link fronts.links p 0 (share_sends S A m) (no_chunk (ran_of S A u w.done) m);
  }

  -- messages without chunks are put on a node's links
  put_links : (w : WholeWorld S A) → Fronts S A laws u w → (y : ℕ) (sends : List (ℕ × Any R))
      → EachSentNew (λ _ x. MsgFront S A laws u (ran_of S A u w.done) x) sends → (i j : ℕ) → (i == 0) && (j == 0) ≡ false
      → EachNew (MsgFront S A laws u (ran_of S A u w.done)) (w.link i j ++ (if i == y then sent_for j sends else []))
  put_links w fronts y sends s = new_put (λ _ x. MsgFront S A laws u (ran_of S A u w.done) x) w.link fronts.links y sends s

  arrives : (ds : List Ran) (b : Bool) (t q : ℕ)
      → EachSentNew (λ _ x. MsgFront S A laws u ds x) (if b then (1, New (Diverted_on q)) ∷ [] else (t, Old (Carry_on q)) ∷ [])
  arrives ds true t q = (tt, tt)
  arrives ds false t q = (tt, tt)

  pub input_fronts : (w : WholeWorld S A) → Fronts S A laws u w → (q : ℕ) → Fronts S A laws u (whole_input S A w q)
  input_fronts w fronts q = record {
    standby = fronts.standby;
    links = put_links w fronts 0 (arrive_sends S A (w.target (S.packet_unit q)) q)
        (arrives (ran_of S A u w.done) (w.target (S.packet_unit q) == 1) (w.target (S.packet_unit q)) q);
  }

  pub move_fronts : (w : WholeWorld S A) → Fronts S A laws u w → (x : MoveAsked) → Fronts S A laws u (begin_move S A w x)
  move_fronts w fronts x = record {
    standby = fronts.standby;
    links = put_links w fronts 1 (as_old (begin_sends x.num x)) (sent_old (λ _ m. MsgFront S A laws u (ran_of S A u w.done) m) (begin_sends x.num x));
  }

  pub share_fronts : (w : WholeWorld S A) → Fronts S A laws u w → (x : ShareAsked) → Fronts S A laws u (begin_share S A w x)
  share_fronts w fronts x = record { standby = fronts.standby; links = put_links w fronts 1 ((0, New (ShareMsg.Install x.num x.filter x.home)) ∷ []) (tt, tt) }

  pub get_fronts : (w : WholeWorld S A) → Fronts S A laws u w → (n : ℕ) (g : Filter) (src : ℕ) → Fronts S A laws u (puts_get S A w n g src)
  get_fronts w fronts n g src = record { standby = fronts.standby; links = put_links w fronts 1 ((src, New (ShareMsg.Get n g)) ∷ []) (tt, tt) }

  pub asks_move_fronts : (w : WholeWorld S A) → Fronts S A laws u w → (x : MoveAsked) → Fronts S A laws u (asks S A w (Old (Asked x)))
  asks_move_fronts w fronts x = record { standby = fronts.standby; links = put_links w fronts 0 ((1, Old (Asked x)) ∷ []) (tt, tt) }

  pub asks_share_fronts : (w : WholeWorld S A) → Fronts S A laws u w → (x : ShareAsked) → Fronts S A laws u (asks S A w (New (ShareMsg.Asked x)))
  asks_share_fronts w fronts x = record { standby = fronts.standby; links = put_links w fronts 0 ((1, New (ShareMsg.Asked x)) ∷ []) (tt, tt) }

  -- what an instance keeps of a copy
  pub keeps_fronts : (w : WholeWorld S A) → Fronts S A laws u w → (y : ℕ) (t : S.B.T) → FrontOf S A laws u (ran_of S A u w.done) (S.B.at u t)
      → Fronts S A laws u (keeps S A w y t)
  keeps_fronts w fronts y t new = record {
    standby = λ j. elim (j == y) as (λ b. FrontOf S A laws u (ran_of S A u w.done) (S.B.at u (if b then t else w.standby j)))
        [ true ↦ new | false ↦ fronts.standby j ];
    links = fronts.links;
  }
