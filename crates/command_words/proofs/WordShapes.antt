-- How a word looks: to the grammar, and to clap.
use Rattle.std.proofs.Common.{◌≡◌, ◌⊎◌, ℕ, Bool, true, false, refl, sym, subst, [], ◌∷◌, Option, Some, None, inl, inr, eqb-true}
use Rattle.std.specs.Prelude.{codes, slice_get, ◌==◌}
use Rattle.std.specs.Str.{bytes_eq, chars}
use Rattle.clap.specs.Lexer.{long_of, short_of, name_and_value}
use Rattle.basics.specs.Options.{◌>>=◌}
use Rattle.command_words.specs.Arguments.{Text}
use Rattle.command_words.specs.Grammar.{after_hyphen, is_text}

-- a word that is no text
pub data NoText (word : Text) : Type 0 where
  as_dashes : bytes_eq word (codes "--") ≡ true → NoText word
  as_long : (written : Text) → bytes_eq word (codes "--") ≡ false → (after_hyphen word >>= after_hyphen) ≡ Some written
      → long_of word ≡ Some (name_and_value written) → NoText word
  as_short : (first : ℕ) (more : Text) (x : ℕ) → bytes_eq word (codes "--") ≡ false → (after_hyphen word >>= after_hyphen) ≡ None
      → long_of word ≡ None → short_of word ≡ Some (first ∷ more) → slice_get (chars (first ∷ more)) 0 ≡ Some x → NoText word

pub data Looks (word : Text) : Type 0 where
  as_text : bytes_eq word (codes "--") ≡ false → is_text word ≡ true → long_of word ≡ None
      → (short_of word ≡ None) ⊎ ((flags : Text) × (short_of word ≡ Some flags) × (slice_get (chars flags) 0 ≡ None)) → Looks word
  as_other : is_text word ≡ false → NoText word → Looks word

two_hyphens : (rest : Text) → Looks (45 ∷ 45 ∷ rest)
unfolding chars
two_hyphens [] = as_other refl (as_dashes refl)
two_hyphens (x ∷ xs) = as_other refl (as_long (x ∷ xs) refl refl refl)

one_hyphen : (c : ℕ) (rest : Text) → (c == 45) ≡ false → Looks (45 ∷ c ∷ rest)
one_hyphen c rest other = go (slice_get (chars (c ∷ rest)) 0) refl
  where
    go : (o : Option ℕ) → slice_get (chars (c ∷ rest)) 0 ≡ o → Looks (45 ∷ c ∷ rest)
    go None e = as_text (rw other refl) (rw e refl) (rw other refl) (inr (c ∷ rest, rw other refl, e))
    go (Some x) e = as_other (rw e refl) (as_short c rest x (rw other refl) (rw other refl) (rw other refl) (rw other refl) e)

after_one : (more : Text) → Looks (45 ∷ more)
unfolding chars
after_one [] = as_text refl refl refl (inl refl)
after_one (c ∷ rest) = go (c == 45) refl
  where
    go : (t : Bool) → (c == 45) ≡ t → Looks (45 ∷ c ∷ rest)
    go true e = subst (λ z. Looks (45 ∷ z ∷ rest)) (sym (eqb-true c 45 e)) (two_hyphens rest)
    go false e = one_hyphen c rest e

pub looks : (word : Text) → Looks word
looks [] = as_text refl refl refl (inl refl)
looks (b ∷ more) = go (b == 45) refl
  where
    go : (t : Bool) → (b == 45) ≡ t → Looks (b ∷ more)
    go true e = subst (λ z. Looks (z ∷ more)) (sym (eqb-true b 45 e)) (after_one more)
    go false e = as_text (rw e refl) (rw e refl) (rw e refl) (inl (rw e refl))
