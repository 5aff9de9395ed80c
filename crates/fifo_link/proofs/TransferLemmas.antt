-- What is sent and taken in transfers put one after another.
use Rattle.std.proofs.Common.{◌≡◌, List, [], ◌∷◌, ◌++◌, map, sym, ap, refl, ◌∙◌, append-nil, append_assoc}
use Rattle.std.proofs.lemmas.List.{map-append}
use Rattle.fifo_link.specs.declared.knowledge.Transfer.{Transfer}
use Rattle.fifo_link.specs.declared.knowledge.Transfer.TheVariants.{Sent, Taken}
use Rattle.fifo_link.specs.Transfers.{sent_in, taken_in, SentSince, TakenSince}

module _ {M : Type 0} where
  pub sent_in-append : (a b : List (Transfer M)) → sent_in (a ++ b) ≡ sent_in a ++ sent_in b
  unfolding sent_in
  sent_in-append [] b = refl
  sent_in-append (Sent x ∷ xs) b = ap (λ l. x ∷ l) (sent_in-append xs b)
  sent_in-append (Taken x ∷ xs) b = sent_in-append xs b

  pub taken_in-append : (a b : List (Transfer M)) → taken_in (a ++ b) ≡ taken_in a ++ taken_in b
  unfolding taken_in
  taken_in-append [] b = refl
  taken_in-append (Sent x ∷ xs) b = taken_in-append xs b
  taken_in-append (Taken x ∷ xs) b = ap (λ l. x ∷ l) (taken_in-append xs b)

  sent_in-taken : (xs : List M) → sent_in (map Taken xs) ≡ []
  unfolding sent_in
  sent_in-taken [] = refl
  sent_in-taken (x ∷ xs) = sent_in-taken xs

  sent_in-sent : (xs : List M) → sent_in (map Sent xs) ≡ xs
  unfolding sent_in
  sent_in-sent [] = refl
  sent_in-sent (x ∷ xs) = ap (λ l. x ∷ l) (sent_in-sent xs)

  taken_in-sent : (xs : List M) → taken_in (map Sent xs) ≡ []
  unfolding taken_in
  taken_in-sent [] = refl
  taken_in-sent (x ∷ xs) = taken_in-sent xs

  -- where messages were only taken, the same were sent
  pub same_sent : (known all : List (Transfer M)) → TakenSince known all → sent_in all ≡ sent_in known
  same_sent known all t = ap sent_in t.1 ∙ sent_in-append known (map Taken t.0) ∙ ap (λ l. sent_in known ++ l) (sent_in-taken t.0) ∙ append-nil (sent_in known)

  -- where messages were only sent, the same were taken
  pub same_taken : (known all : List (Transfer M)) → SentSince known all → taken_in all ≡ taken_in known
  same_taken known all t =
      ap taken_in t.1 ∙ taken_in-append known (map Sent t.0) ∙ ap (λ l. taken_in known ++ l) (taken_in-sent t.0) ∙ append-nil (taken_in known)

  -- where messages were only sent, they were sent after the others
  pub more_sent : (known all : List (Transfer M)) (t : SentSince known all) → sent_in all ≡ sent_in known ++ t.0
  more_sent known all t = ap sent_in t.1 ∙ sent_in-append known (map Sent t.0) ∙ ap (λ l. sent_in known ++ l) (sent_in-sent t.0)

  -- one more is sent, and the same are taken
  pub one_sent : (all : List (Transfer M)) (x : M) → (sent_in (all ++ Sent x ∷ []) ≡ sent_in all ++ x ∷ []) × (taken_in (all ++ Sent x ∷ []) ≡ taken_in all)
  unfolding sent_in taken_in
  one_sent all x = (sent_in-append all (Sent x ∷ []), taken_in-append all (Sent x ∷ []) ∙ append-nil (taken_in all))

  -- one more is taken, and the same are sent
  pub one_taken : (all : List (Transfer M)) (x : M) → (taken_in (all ++ Taken x ∷ []) ≡ taken_in all ++ x ∷ []) × (sent_in (all ++ Taken x ∷ []) ≡ sent_in all)
  unfolding sent_in taken_in
  one_taken all x = (taken_in-append all (Taken x ∷ []), sent_in-append all (Taken x ∷ []) ∙ append-nil (sent_in all))

  -- the same was done since then, and one thing more
  pub sent_more : (known all : List (Transfer M)) (x : M) → SentSince known all → SentSince known (all ++ Sent x ∷ [])
  sent_more known all x t = (
    t.0 ++ x ∷ [],
    ap (λ l. l ++ Sent x ∷ []) t.1 ∙ append_assoc known (map Sent t.0) (Sent x ∷ []) ∙ ap (λ l. known ++ l) (sym (map-append Sent t.0 (x ∷ []))),
  )

  pub taken_more : (known all : List (Transfer M)) (x : M) → TakenSince known all → TakenSince known (all ++ Taken x ∷ [])
  taken_more known all x t = (
    t.0 ++ x ∷ [],
    ap (λ l. l ++ Taken x ∷ []) t.1 ∙ append_assoc known (map Taken t.0) (Taken x ∷ []) ∙ ap (λ l. known ++ l) (sym (map-append Taken t.0 (x ∷ []))),
  )

  -- nothing was done since then
  pub none_sent : (all : List (Transfer M)) → SentSince all all
  none_sent all = ([], sym (append-nil all))

  pub none_taken : (all : List (Transfer M)) → TakenSince all all
  none_taken all = ([], sym (append-nil all))

  -- nothing was done
  pub no_sent : (known : List (Transfer M)) → known ≡ [] → sent_in known ≡ []
  unfolding sent_in
  no_sent known e = ap sent_in e

  pub no_taken : (known : List (Transfer M)) → known ≡ [] → taken_in known ≡ []
  unfolding taken_in
  no_taken known e = ap taken_in e
