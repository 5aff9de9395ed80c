-- What is kept of a way in, and what its take end gives it.
use Rattle.std.proofs.Common.{◌≡◌, ◌<◌, Option, Some, None, MatchOption, List, [], ◌∷◌, ◌++◌, sym, ◌∙◌, ap, append-nil, refl}
use Rattle.std.proofs.lemmas.List.{map-append}
use Rattle.actor_net.specs.declared.stamped.Stamped.{Stamped}
use Rattle.actor_net.specs.Histories.{messages}
use Rattle.actor_threads.specs.Ways.{Incoming, Draws, with_stamp_0, last_clock}

module _ {M : Type 0} {old new : Incoming M} where
  -- nothing was taken
  pub drew_nothing : new.done ≡ old.done → new.kept ≡ old.kept → new.link ≡ old.link → Draws old new []
  drew_nothing d k l = record { grown = []; done = d ∙ sym (append-nil _); whole = append-nil _ ∙ sym k; link = l }

  -- a batch was taken, and all of it is kept but for what was used
  pub drew_batch : (batch used : List (Stamped M)) → new.done ≡ old.done ++ batch → old.kept ≡ [] → batch ≡ used ++ new.kept → new.link ≡ old.link
      → Draws old new used
  drew_batch batch used d o k l = record { grown = batch; done = d; whole = ap (λ q. q ++ batch) o ∙ k; link = l }

  -- a kept message was used
  pub drew_first : (x : Stamped M) → new.done ≡ old.done → old.kept ≡ x ∷ new.kept → new.link ≡ old.link → Draws old new (x ∷ [])
  drew_first x d k l = record { grown = []; done = d ∙ sym (append-nil _); whole = append-nil _ ∙ k; link = l }

module _ {M : Type 0} (old new : Incoming M) where
  -- what was kept, and the first of it may be used
  pub drew_kept : (r : Option (Stamped M)) → MatchOption r (new ≡ old) (λ x. (x.clock < last_clock) × (old.kept ≡ x ∷ new.kept))
      → (new.link ≡ old.link) × (new.done ≡ old.done)
      → MatchOption r (Draws old new []) (λ x. (x.clock < last_clock) × Draws old new (x ∷ []))
  drew_kept None e same = drew_nothing same.1 (ap (λ (w : Incoming M). w.kept) e) same.0
  drew_kept (Some x) e same = (e.0, drew_first x same.1 e.1 same.0)

  -- a batch was taken, and the first of it may be used
  pub drew_from : (r : Option (Stamped M)) (batch left : List (Stamped M)) → new.done ≡ old.done ++ batch → old.kept ≡ [] → new.link ≡ old.link
      → new.kept ≡ left
      → MatchOption r (left ≡ batch) (λ x. (x.clock < last_clock) × (batch ≡ x ∷ left))
      → MatchOption r (Draws old new []) (λ x. (x.clock < last_clock) × Draws old new (x ∷ []))
  drew_from None batch left d o l k e = drew_batch batch [] d o (sym (k ∙ e)) l
  drew_from (Some x) batch left d o l k e = (e.0, drew_batch batch (x ∷ []) d o (e.1 ∙ ap (λ q. x ∷ q) (sym k)) l)

-- messages from before a round, without their stamps
pub messages-with_stamp_0 : {M : Type 0} (kept : List M) → messages (with_stamp_0 kept) ≡ kept
messages-with_stamp_0 [] = refl
messages-with_stamp_0 (x ∷ xs) = ap (λ l. x ∷ l) (messages-with_stamp_0 xs)

-- all that is kept, without stamps
pub messages_kept : {M : Type 0} (kept : List M) (batch items : List (Stamped M)) → items ≡ batch
    → kept ++ messages items ≡ messages (with_stamp_0 kept ++ batch)
messages_kept kept batch items e = (λ i. sym (messages-with_stamp_0 kept) i ++ messages (e i)) ∙ sym (map-append (λ x. x.message) (with_stamp_0 kept) batch)
