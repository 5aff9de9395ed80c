-- The records that stand in a piece, and those that come after them.
use Rattle.std.proofs.Common.{◌≡◌, ℕ, suc, ◌+◌, List, ◌++◌, refl, ap, sym, ◌∙◌, append_assoc}
use Rattle.rand_core.specs.Steps.{first_words}
use Rattle.rand_xoshiro.specs.SplitMix64.{mix_u64}
use Rattle.trace_reader.specs.Generated.{drawn_by, record_bytes, records}

-- the record of the first packet, and then those of the others
records-next : (hosts j m s : ℕ) → records hosts j (first_words mix_u64 (suc m) s)
    ≡ record_bytes j (drawn_by hosts (mix_u64 s).0) ++ records hosts (j + 1) (first_words mix_u64 m (mix_u64 s).1)
unfolding first_words
records-next hosts j m s = refl

-- one more record stands in the piece, and one less comes behind it
pub filled_more : (whole old new : List ℕ) (hosts j m s : ℕ) (drew : ℕ × ℕ) → drew ≡ mix_u64 s
    → whole ≡ old ++ records hosts j (first_words mix_u64 (suc m) s) → new ≡ old ++ record_bytes j (drawn_by hosts drew.0)
    → whole ≡ new ++ records hosts (j + 1) (first_words mix_u64 m drew.1)
filled_more whole old new hosts j m s drew word before grown =
    before ∙ ap (λ l. old ++ l) (records-next hosts j m s)
    ∙ ap (λ (d : ℕ × ℕ). old ++ (record_bytes j (drawn_by hosts d.0) ++ records hosts (j + 1) (first_words mix_u64 m d.1))) (sym word)
    ∙ sym (append_assoc old (record_bytes j (drawn_by hosts drew.0)) _) ∙ ap (λ l. l ++ records hosts (j + 1) (first_words mix_u64 m drew.1)) (sym grown)
