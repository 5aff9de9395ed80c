-- What the links of a share's stage have at their heads: who sends what to the controller, and what the switch is sent.
use Rattle.proof_machines.proofs.net.Words.{◌≡◌, ℕ, List, [], ◌∷◌, ◌++◌, map, sym, ap, subst, ◌∙◌, refl, if◌then◌else◌, ◌==◌, Decides-eqb, Diverted, Install}
use Rattle.proof_machines.proofs.net.Words.{Forward, Fenced, Chunk, Synced, UnitShare, SharePhase, Fencing, Getting, Out, only, chunk_of, if_mine, Turn, Coming}
use Rattle.proof_machines.proofs.net.Words.{comes_from, served, Stage, Diverting, Fence_goes, Fenced_comes, Get_goes, Chunks_come, Spreads, Resting, Forwards}
use Rattle.proof_machines.proofs.net.Words.{Carries, Chunk_comes, shape, split}
use Rattle.proof_machines.proofs.share.Share.{Item, Item.Chunks, after}

-- the sender of an item to the controller, in a phase
abbrev pub Sender : {R : Type 0} → UnitShare R → SharePhase → ℕ → Item R → Type 0
Sender f ph p Fenced = p ≡ f.home
Sender f ph p (Chunks c) = p ≡ f.home
Sender f ph p (Chunk c) = ph ≡ Out p
Sender f ph p item = Unit {0}

abbrev pub To_switch : {R : Type 0} → Item R → Type 0
To_switch Install = Unit {0}
To_switch (Forward p m) = Unit {0}
To_switch item = ⊥

-- a link that only one node has, at its head
head_at : {X : Type 0} (h j : ℕ) (y x : X) (rest : List X) → only h (y ∷ []) j ≡ x ∷ rest → (j ≡ h) × (y ≡ x)
head_at h j y x rest e = split (j == h) (λ b. (if b then y ∷ [] else []) ≡ x ∷ rest → (j ≡ h) × (y ≡ x)) (λ t g. ((Decides-eqb j h).0 t, cc)) (λ _ g. cc) e

module _ {R : Type 0} (f : UnitShare R) where
  no_item : {P : Type 0} (it : Item R) (rest : List (Item R)) → ◌≡◌ {A = List (Item R)} [] (it ∷ rest) → P
  no_item it rest e = cc

  answer_from : (ph : SharePhase) (p : ℕ) (t : Turn) (it : Item R) (rest : List (Item R)) → comes_from t ≡ it ∷ rest → Sender f ph p it
  answer_from ph p Coming it rest e = let same : Synced ≡ it = cc in subst (Sender f ph p) same tt
  answer_from ph p turn it rest e = no_item it rest e

  pub back_sender : (s : Stage R) (p : ℕ) (it : Item R) (rest : List (Item R)) → (shape f s).back p ≡ it ∷ rest → Sender f (shape f s).phase p it
  back_sender (Fenced_comes d b q v) p it rest e = let a = head_at f.home p Fenced it rest e in subst (Sender f Fencing p) a.1 a.0
  back_sender (Chunks_come d b q v) p it rest e = let a = head_at f.home p (Chunks (after f d)) it rest e in subst (Sender f Getting p) a.1 a.0
  back_sender (Spreads first d e₁ b c at o left q v) p it rest e = answer_from (shape f (Spreads first d e₁ b c at o left q v)).phase p (at p) it rest e
  back_sender (Chunk_comes d e₁ k q v) p it rest e =
      let a = head_at (f.member_of k) p (Chunk (chunk_of f k (after f (d ++ served f (e₁ ++ if_mine f k))))) it rest e in
      let out : Out (f.member_of k) ≡ Out p = ap Out (sym a.0) in
      subst (Sender f (Out (f.member_of k)) p) a.1 out
  back_sender s p it rest e = no_item it rest e

  -- from the switch only what is diverted comes
  diverted_from : (ph : SharePhase) (p : ℕ) (v : List ℕ) (it : Item R) (rest : List (Item R)) → map Diverted v ≡ it ∷ rest → Sender f ph p it
  diverted_from ph p [] it rest e = no_item it rest e
  diverted_from ph p (q ∷ v) it rest e = let same : Diverted q ≡ it = cc in subst (Sender f ph p) same tt

  sc_is : (s : Stage R) → (v : List ℕ) × ((shape f s).sc ≡ map Diverted v)
  sc_is (Diverting d b l) = ([], refl)
  sc_is (Fence_goes d b l q v) = (v, refl)
  sc_is (Fenced_comes d b q v) = (v, refl)
  sc_is (Get_goes d b q v) = (v, refl)
  sc_is (Chunks_come d b q v) = (v, refl)
  sc_is (Spreads first d e b c at o left q v) = (v, refl)
  sc_is (Resting d e v) = (v, refl)
  sc_is (Forwards d e p q v) = (v, refl)
  sc_is (Carries d e p q v) = (v, refl)
  sc_is (Chunk_comes d e p q v) = (v, refl)

  pub sc_sender : (s : Stage R) (p : ℕ) (it : Item R) (rest : List (Item R)) → (shape f s).sc ≡ it ∷ rest → Sender f (shape f s).phase p it
  sc_sender s p it rest e = let k = sc_is s in diverted_from (shape f s).phase p k.0 it rest (sym k.1 ∙ e)

  pub cs_items : (s : Stage R) (it : Item R) (rest : List (Item R)) → (shape f s).cs ≡ it ∷ rest → To_switch it
  cs_items (Diverting d b l) it rest e = let same : Install ≡ it = cc in subst To_switch same tt
  cs_items (Forwards d e₁ p q v) it rest e = let same : Forward p (f.member_of p) ≡ it = cc in subst To_switch same tt
  cs_items s it rest e = no_item it rest e
