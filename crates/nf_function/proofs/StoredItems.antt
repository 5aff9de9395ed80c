-- Items in stored bytes: as many as are told are read again from their bytes, and from these alone.
use Rattle.std.proofs.Common.{◌≡◌, ◌∙◌, ◌<◌, ◌≤◌, ◌+◌, ◌-◌, ◌*◌, ℕ, zero, suc, Bool, true, List, [], ◌∷◌, ◌++◌, length}
use Rattle.std.proofs.Common.{Option, None, Some, option_map, option_and_then, refl, sym, ap, arith, append-nil, length-append}
use Rattle.std.specs.List.{flat_map, list_all}
use Rattle.std.proofs.Math.Nat.{suc-mul}
use Rattle.std.proofs.lemmas.Bool.{and_parts}
use Rattle.std.proofs.lemmas.List.{append_assoc}
use Rattle.std.proofs.lemmas.Option.{same_Some, option_and_then_some}
use Rattle.nf_function.specs.Stored.{IsBytes, first_items}
use Rattle.nf_function.proofs.StoredFronts.{IsFront, then_front}

module _ {X : Type 0} (first : List ℕ → Option (X × List ℕ)) (spell : X → List ℕ) where
  -- items are read again, whatever follows
  pub items_again : (fits : X → Bool) → ((x : X) (rest : List ℕ) → fits x ≡ true → first (spell x ++ rest) ≡ Some (x, rest))
      → (xs : List X) (rest : List ℕ) → list_all fits xs ≡ true → first_items first (length xs) (flat_map spell xs ++ rest) ≡ Some (xs, rest)
  unfolding first_items
  items_again fits again [] rest h = refl
  items_again fits again (x ∷ xs) rest h =
      let parts = and_parts (fits x) (list_all fits xs) h in
      rw (append_assoc (spell x) (flat_map spell xs) rest, again x (flat_map spell xs ++ rest) parts.0, items_again fits again xs rest parts.1) refl

  -- and those that were read have their bytes in front
  pub items_some : ((bytes : List ℕ) (read : X × List ℕ) → IsBytes bytes → first bytes ≡ Some read → IsFront (spell read.0) bytes read.1)
      → (n : ℕ) (bytes : List ℕ) (read : List X × List ℕ) → IsBytes bytes → first_items first n bytes ≡ Some read
      → IsFront (flat_map spell read.0) bytes read.1 × (length read.0 ≡ n)
  unfolding first_items
  items_some one zero bytes read are h = rw (← same_Some ([], bytes) read h) (record { spelled = refl; rest_bytes = are }, refl)
  items_some one (suc n) bytes read are h =
      option_and_then_some _ (first bytes) read h (λ item p h1.
      option_and_then_some _ (first_items first n item.1) read h1 (λ more q last.
      let front = one bytes item are p in
      let rest = items_some one n item.1 more front.rest_bytes q in
      rw (← same_Some (item.0 ∷ more.0, more.1) read last) (then_front front rest.0, ap suc rest.1)))

-- items of one size
pub length-items : {X : Type 0} (spell : X → List ℕ) (size : ℕ) → ((x : X) → length (spell x) ≡ size) → (xs : List X)
    → length (flat_map spell xs) ≡ length xs * size
length-items spell size each [] = omega arith
length-items spell size each (x ∷ xs) =
    rw (length-append (spell x) (flat_map spell xs), each x, length-items spell size each xs) (omega (arith, suc-mul (length xs) size))

-- items that were read, and others after them
abbrev pub joined : {X : Type 0} → List X → List X × List ℕ → List X × List ℕ
joined front more = (front ++ more.0, more.1)

module _ {X : Type 0} (first : List ℕ → Option (X × List ℕ)) where
  -- with so many items more, those that were read are what is to be read
  abbrev pub IsRead : ℕ → List X × List ℕ → Option (List X × List ℕ) → Type 0
  IsRead left read whole = option_map (joined read.0) (first_items first left read.1) ≡ whole

  one_less : (count n : ℕ) (read : List X × List ℕ) (whole : Option (List X × List ℕ)) → n < count → IsRead (count - n) read whole
      → IsRead (suc (count - (n + 1))) read whole
  one_less count n read whole h is =
      let less : count - n ≡ suc (count - (n + 1)) = omega arith in
      ap (λ left. option_map (joined read.0) (first_items first left read.1)) (sym less) ∙ is

  pub one_read : (count n : ℕ) (read : List X × List ℕ) (item : X × List ℕ) (whole : Option (List X × List ℕ)) → n < count → first read.1 ≡ Some item
      → IsRead (count - n) read whole → IsRead (count - (n + 1)) (read.0 ++ item.0 ∷ [], item.1) whole
  unfolding first_items
  one_read count n read item whole h found is =
      sym (by_more (first_items first (count - (n + 1)) item.1)) ∙ rw found at (one_less count n read whole h is)
    where
      by_more : (more : Option (List X × List ℕ))
          → option_map (joined read.0) (option_and_then (λ (m : List X × List ℕ). Some (item.0 ∷ m.0, m.1)) more)
          ≡ option_map (joined (read.0 ++ item.0 ∷ [])) more
      by_more None = refl
      by_more (Some m) = rw (append_assoc read.0 (item.0 ∷ []) m.0) refl

  -- where the next item can't be read, nothing is
  pub none_read : (count n : ℕ) (read : List X × List ℕ) (whole : Option (List X × List ℕ)) → n < count → first read.1 ≡ None
      → IsRead (count - n) read whole → whole ≡ None
  unfolding first_items
  none_read count n read whole h none is = sym (rw none at (one_less count n read whole h is))

  pub all_read : (count n : ℕ) (read : List X × List ℕ) (whole : Option (List X × List ℕ)) → count ≤ n → IsRead (count - n) read whole → whole ≡ Some read
  unfolding first_items
  all_read count n read whole h is =
      let none : count - n ≡ 0 = omega arith in
      sym is ∙ rw (none, append-nil read.0) refl
