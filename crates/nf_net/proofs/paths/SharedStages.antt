-- At a stage of a share: at which member's link the share's packet is, and the path by its places; and that the live record has seen all that was
-- processed, or the record of the member that processed the last packet is on its way to the home.
use Rattle.nf_net.proofs.Words.{◌≡◌, ◌≢◌, ℕ, Bool, true, false, cond, Option, Some, None, List, [], ◌∷◌, ◌++◌, map, inl, inr, refl, sym, ap, ◌∙◌, append_assoc}
use Rattle.nf_net.proofs.Words.{append-nil, arith, nat_tests, Decides-eqb, Ran, UnitShare, has, mine_in, served, Stage, processed, shape, self, cond-same}
use Rattle.nf_net.proofs.Words.{forwarded, diverted, split}
use Rattle.std.proofs.Common.{◌==◌}
use Rattle.proof_machines.proofs.share.Share.{Item, Item.Carry, Item.Fence, Item.Shared, Item.Sync, Item.Chunk, after, over, only, nowhere}
use Rattle.proof_machines.proofs.share.Stages.{Turn, Turn.Going, Turn.Coming, Turn.Quiet, is_going, is_pending, goes_to, Stage.Diverting, Stage.Fence_goes}
use Rattle.proof_machines.proofs.share.Stages.{Stage.Fenced_comes, Stage.Get_goes, Stage.Chunks_come, Stage.Spreads, Stage.Resting, Stage.Forwards}
use Rattle.proof_machines.proofs.share.Stages.{Stage.Carries, Stage.Chunk_comes, path, IsShare, Behind, FitsStage}
use Rattle.proof_machines.proofs.share.Lists.{runs-append}
use Rattle.std.proofs.lemmas.List.{map-append}
use Rattle.proof_machines.proofs.share.Path as paths
use Rattle.proof_machines.proofs.share.Path.{gather, gather_none, gather_only, carries, shared_in}
use Rattle.proof_machines.proofs.share.Records.{not_pending}

module _ {R : Type 0} (f : UnitShare R) where
  -- Packets.
  pub record Places (s : Stage R) : Type 0 where
    pub at : ℕ
    pub inside : has f.members at ≡ true
    pub others : (k : ℕ) → k ≢ at → shared_in f ((shape f s).sw k) ≡ []
    pub plain : (k : ℕ) → k ≢ f.home → carries ((shape f s).sw k) ≡ []
    pub path_is : path f s ≡ shared_in f ((shape f s).sw at)
        ++ (forwarded f (shape f s).cs ++ (carries ((shape f s).sw f.home) ++ (mine_in f (shape f s).queue ++ diverted f (shape f s).sc)))

  own_link : {X : Type 0} (h : ℕ) (xs : List X) → only h xs h ≡ xs
  own_link h xs = let one = self h in rw one refl

  -- what is read of a link that isn't the one
  off_link : {X Y : Type 0} (read : List X → List Y) (h : ℕ) (xs : List X) → read [] ≡ [] → (k : ℕ) → k ≢ h → read (only h xs k) ≡ []
  off_link read h xs none k off = let out : (k == h) ≡ false = grind (arith, nat_tests, off) in rw out none

  no_plain : (h p k : ℕ) → carries {R = R} (only h (Shared p ∷ []) k) ≡ []
  no_plain h p k = elim (k == h) as (λ b. carries {R = R} (cond b (Shared p ∷ []) []) ≡ []) [ true ↦ refl | false ↦ refl ]

  module _ (is : IsShare f) where
    -- by what stands on all members' links
    by_gather : (s : Stage R) (at : ℕ) → gather f.members (shape f s).sw ≡ (shape f s).sw at → path f s ≡ shared_in f ((shape f s).sw at)
        ++ (forwarded f (shape f s).cs ++ (carries ((shape f s).sw f.home) ++ (mine_in f (shape f s).queue ++ diverted f (shape f s).sc)))
    by_gather s at e = sym (paths.path_is f is s) ∙ ap (λ v. shared_in f v
        ++ (forwarded f (shape f s).cs ++ (carries ((shape f s).sw f.home) ++ (mine_in f (shape f s).queue ++ diverted f (shape f s).sc)))) e

    -- a stage with nothing on these links, and one with something on one of them
    empty_places : (s : Stage R) → (shape f s).sw ≡ nowhere → Places s
    empty_places s none = record {
      at = f.home;
      inside = is.home_in;
      others = λ k off. ap (λ l. shared_in f (l k)) none;
      plain = λ k off. ap (λ l. carries (l k)) none;
      path_is = by_gather s f.home (ap (gather f.members) none ∙ gather_none f.members ∙ ap (λ l. l f.home) (sym none));
    }

    home_places : (s : Stage R) (xs : List (Item R)) → (shape f s).sw ≡ only f.home xs → Places s
    home_places s xs there = record {
      at = f.home;
      inside = is.home_in;
      others = λ k off. ap (λ l. shared_in f (l k)) there ∙ off_link (shared_in f) f.home xs refl k off;
      plain = λ k off. ap (λ l. carries (l k)) there ∙ off_link carries f.home xs refl k off;
      path_is = by_gather s f.home
          (ap (gather f.members) there ∙ gather_only f.members f.home xs is.apart is.home_in ∙ sym (own_link f.home xs) ∙ ap (λ l. l f.home) (sym there));
    }

    pub places : (s : Stage R) → Places s
    places (Diverting d b l) = home_places (Diverting d b l) (map Carry l) refl
    places (Fence_goes d b l q v) = home_places (Fence_goes d b l q v) (map Carry l ++ Fence ∷ []) refl
    places (Carries d e p q v) = record {
      at = f.member_of p;
      inside = is.member_in p;
      others = λ k off. off_link (shared_in f) (f.member_of p) (Shared p ∷ []) refl k off;
      plain = λ k off. no_plain (f.member_of p) p k;
      path_is = by_gather (Carries d e p q v) (f.member_of p)
          (gather_only f.members (f.member_of p) (Shared p ∷ []) is.apart (is.member_in p) ∙ sym (own_link (f.member_of p) (Shared p ∷ [])));
    }
    places s = empty_places s refl

  -- Records: one on its way to the home, from the member, or by the controller.
  pub data Comes (s : Stage R) (member : ℕ) : Type 0 where
    From_member : (r : R) → (shape f s).back member ≡ Chunk (Some r) ∷ [] → Comes s member
    To_home : (r : R) → (shape f s).to f.home ≡ Sync (Some r) ∷ [] → Comes s member

  -- another member has processed the last packet
  pub record Ahead (s : Stage R) : Type 0 where
    pub last : ℕ
    pub seen : List Ran
    pub all : processed f s ≡ seen ++ (last, f.member_of last) ∷ []
    pub live : (shape f s).own f.home ≡ after f seen
    pub away : f.member_of last ≢ f.home
    pub own : (shape f s).own (f.member_of last) ≡ after f (processed f s)
    pub diverts : (shape f s).diverts ≡ true
    pub comes : Comes s (f.member_of last)

  pub data Sees (s : Stage R) : Type 0 where
    Sees_all : (shape f s).own f.home ≡ after f (processed f s) → Sees s
    Is_ahead : Ahead s → Sees s

  off_home : (m : ℕ) → (f.home == m) ≡ false → m ≢ f.home
  off_home m off same = let on : (f.home == m) ≡ true = (Decides-eqb f.home m).1 (sym same) in let never : true ≡ false = sym on ∙ off in cc

  -- what is kept after one more packet
  one_more : (ds : List Ran) (x : Ran) → after f (ds ++ x ∷ []) ≡ Some (f.F.step (after f ds) x.0)
  one_more ds x = runs-append f.F None ds (x ∷ [])

  served_one : (d : List Ran) (e : List ℕ) (p : ℕ) → d ++ served f (e ++ p ∷ []) ≡ (d ++ served f e) ++ (p, f.member_of p) ∷ []
  served_one d e p = ap (λ v. d ++ v) (map-append (λ q. (q, f.member_of q)) e (p ∷ [])) ∙ sym (append_assoc d (served f e) ((p, f.member_of p) ∷ []))

  -- the member that has just processed a packet
  sent_back : (d : List Ran) (e : List ℕ) (p : ℕ) (q v : List ℕ) (t h : Bool) → f.mine p ≡ t → (f.home == f.member_of p) ≡ h → Sees (Chunk_comes d e p q v)
  sent_back d e p q v true true on at = Sees_all (rw at refl)
  sent_back d e p q v false h off at = Sees_all (rw (off, append-nil e, cond-same (f.home == f.member_of p) (d ++ served f e)) refl)
  sent_back d e p q v true false on at =
      let m = f.member_of p in
      let here = self m in
      let r = f.F.step (after f (d ++ served f e)) p in
      let more : after f (d ++ served f (e ++ p ∷ [])) ≡ Some r = ap (after f) (served_one d e p) ∙ one_more (d ++ served f e) (p, m) in
      Is_ahead (record {
        last = p;
        seen = d ++ served f e;
        all = rw on (served_one d e p);
        live = rw at refl;
        away = off_home m at;
        own = rw here refl;
        diverts = refl;
        comes = From_member r (rw (here, on) (ap (λ o. Chunk o ∷ []) more));
      })

  -- members that a Sync goes to, or doesn't
  going_pending : (t : Turn) → is_going t ≡ true → is_pending t ≡ true
  going_pending Going e = refl
  going_pending Coming e = cc
  going_pending Quiet e = cc

  sync_goes : (c : Option R) (t : Turn) → is_going t ≡ true → goes_to c t ≡ Sync c ∷ []
  sync_goes c Going e = refl
  sync_goes c Coming e = cc
  sync_goes c Quiet e = cc

  spread : (first : Bool) (d : List Ran) (e : List ℕ) (b : ℕ → List Ran) (c : Option R) (at : ℕ → Turn) (o : List ℕ) (left : ℕ) (q v : List ℕ)
      → is_going (at f.home) ≡ true → over c (after f (b f.home)) ≡ after f (d ++ served f e) → Behind f (b f.home) (d ++ served f e) at
      → Sees (Spreads first d e b c at o left q v)
  spread first d e b c at o left q v on gives (inl same) = Sees_all (rw on (ap (after f) same))
  spread first d e b None at o left q v on gives (inr a) = Sees_all (rw on gives)
  spread first d e b (Some r) at o left q v on gives (inr a) =
      let p = a.0 in
      let off : is_going (at (f.member_of p)) ≡ false = not_pending (at (f.member_of p)) a.1.1 in
      Is_ahead (record {
        last = p;
        seen = b f.home;
        all = a.1.0;
        live = rw on refl;
        away = λ same. (let never : true ≡ false = sym (going_pending (at f.home) on) ∙ ap (λ k. is_pending (at k)) (sym same) ∙ a.1.1 in cc);
        own = rw off refl;
        diverts = refl;
        comes = To_home r (sync_goes (Some r) (at f.home) on);
      })

  module _ (is : IsShare f) where
    pub sees : (s : Stage R) → FitsStage f s → Sees s
    sees (Diverting d b l) h = let home = self f.home in Sees_all (rw home refl)
    sees (Fence_goes d b l q v) h = let home = self f.home in Sees_all (rw home refl)
    sees (Fenced_comes d b q v) h = let home = self f.home in Sees_all (rw home refl)
    sees (Get_goes d b q v) h = let home = self f.home in Sees_all (rw home refl)
    sees (Chunks_come d b q v) h = let home = self f.home in Sees_all (rw home refl)
    sees (Spreads first d e b c at o left q v) h =
        split (is_going (at f.home)) (λ _. Sees (Spreads first d e b c at o left q v))
        (λ on. spread first d e b c at o left q v on (h.gives f.home is.home_in) (h.lately on)) (λ off. Sees_all (rw off refl))
    sees (Resting d e v) h = Sees_all refl
    sees (Forwards d e p q v) h = Sees_all refl
    sees (Carries d e p q v) h = Sees_all refl
    sees (Chunk_comes d e p q v) h = sent_back d e p q v (f.mine p) (f.home == f.member_of p) refl refl
