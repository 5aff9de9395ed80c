-- The messages of batches, one batch more at a time.
use Rattle.std.proofs.Common.{◌≡◌, List, [], ◌∷◌, ◌++◌, ap, sym, refl, ◌∙◌, append-nil, append_assoc}
use Rattle.std.proofs.lemmas.List.{map-append}
use Rattle.std.proofs.lemmas.List.Concat.{flat_map-append}
use Rattle.actor_net.specs.declared.stamped.Stamped.{Stamped}
use Rattle.actor_net.specs.Histories.{messages}
use Rattle.actor_threads.specs.Ways.{unpacked, with_stamp_0}

module _ {M : Type 0} where
  pub unpacked-append : (a b : List (List (Stamped M))) → unpacked (a ++ b) ≡ unpacked a ++ unpacked b
  unpacked-append a b = flat_map-append (λ batch. batch) a b

  -- one batch more
  pub unpacked_more : (batches : List (List (Stamped M))) (batch : List (Stamped M)) → unpacked (batches ++ batch ∷ []) ≡ unpacked batches ++ batch
  unpacked_more batches batch = unpacked-append batches (batch ∷ []) ∙ ap (λ l. unpacked batches ++ l) (append-nil batch)

  -- the same without stamps, after others
  pub messages_more : (before : List M) (batches : List (List (Stamped M))) (batch : List (Stamped M))
      → (before ++ messages (unpacked batches)) ++ messages batch ≡ before ++ messages (unpacked (batches ++ batch ∷ []))
  messages_more before batches batch = append_assoc before (messages (unpacked batches)) (messages batch)
      ∙ ap (λ l. before ++ l) (sym (map-append (λ x. x.message) (unpacked batches) batch) ∙ ap messages (sym (unpacked_more batches batch)))

  -- one message more, without its stamp
  pub one_message_more : {list : List M} (before : List M) (yielded : List (Stamped M)) (x : Stamped M) → list ≡ before ++ messages yielded
      → list ++ x.message ∷ [] ≡ before ++ messages (yielded ++ x ∷ [])
  one_message_more before yielded x e = ap (λ l. l ++ x.message ∷ []) e ∙ append_assoc before (messages yielded) _
      ∙ ap (λ l. before ++ l) (sym (map-append (λ y. y.message) yielded (x ∷ [])))

  -- the messages of three lists, one after another
  pub messages_joined : (before : List M) (a b c : List (Stamped M)) → ((before ++ messages a) ++ messages b) ++ messages c ≡ before ++ messages (a ++ (b ++ c))
  messages_joined before a b c = append_assoc (before ++ messages a) (messages b) (messages c) ∙ append_assoc before (messages a) (messages b ++ messages c)
      ∙ ap (λ l. before ++ l)
      (ap (λ l. messages a ++ l) (sym (map-append (λ x. x.message) b c)) ∙ sym (map-append (λ x. x.message) a (b ++ c)))

  -- nothing is kept only where no message from before the round is
  pub none_from_before : (kept : List M) (batch : List (Stamped M)) → with_stamp_0 kept ++ batch ≡ [] → kept ≡ []
  none_from_before [] batch e = refl
  none_from_before (x ∷ xs) batch e = absurd (cc)
