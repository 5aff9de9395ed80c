-- Making a capture: what was written so far, and then the records still to come, are the whole.
use Rattle.std.proofs.Common.{◌≡◌, ◌≤◌, ℕ, ◌+◌, ◌-◌, List, [], ◌++◌, Option, length, take, refl, ap, sym, ◌∙◌, subst, append-nil, append_assoc, arith}
use Rattle.std.proofs.Math.Seq.{take-append-add}
use Rattle.std.proofs.lemmas.List.{take-append-le, length-append}
use Rattle.std.proofs.KnownBytes.{Appends-nil, Appends-trans}
use Rattle.std.specs.Io.KnownBytes.{Appends}
use Rattle.rand_core.specs.Steps.{first_words}
use Rattle.rand_xoshiro.specs.SplitMix64.{mix_u64}
use Rattle.nf_io.specs.Meaning.{AppendsFront}
use Rattle.trace_reader.specs.Generated.{file_header, records, capture}

-- the records of the packets behind the first `made` of so many, whose words are drawn from this state on
abbrev pub rest_of : ℕ → ℕ → ℕ → ℕ → List ℕ
rest_of packets hosts made state = records hosts (made + 1) (first_words mix_u64 (packets - made) state)

-- these bytes were appended, and with the rest they are the whole
pub record MadeSoFar (whole : List ℕ) (rest : List ℕ) (old now : Option (List ℕ)) : Type 0 where
  pub bytes : List ℕ
  pub wrote : Appends old now bytes
  pub together : whole ≡ bytes ++ rest

-- the header was written
pub made_header : (number packets hosts state : ℕ) (old now : Option (List ℕ)) → state ≡ number → Appends old now file_header
    → MadeSoFar (capture number packets hosts) (rest_of packets hosts 0 state) old now
unfolding capture
made_header number packets hosts state old now same wrote =
    let all : packets ≡ packets - 0 = omega arith in
    record {
      bytes = file_header;
      wrote = wrote;
      together = ap (λ n. file_header ++ records hosts 1 (first_words mix_u64 n number)) all
          ∙ ap (λ s. file_header ++ records hosts 1 (first_words mix_u64 (packets - 0) s)) (sym same);
    }

-- a piece was written
pub made_piece : (whole piece rest left : List ℕ) (old mid now : Option (List ℕ)) → MadeSoFar whole left old mid → left ≡ piece ++ rest
    → Appends mid now piece → MadeSoFar whole rest old now
made_piece whole piece rest left old mid now so_far split wrote = record {
  bytes = so_far.bytes ++ piece;
  wrote = Appends-trans old mid now so_far.bytes piece so_far.wrote wrote;
  together = so_far.together ∙ ap (λ l. so_far.bytes ++ l) split ∙ sym (append_assoc so_far.bytes piece rest);
}

-- a part of a piece was written
pub made_front : (whole piece rest left : List ℕ) (old mid now : Option (List ℕ)) → MadeSoFar whole left old mid → left ≡ piece ++ rest
    → AppendsFront mid now piece → AppendsFront old now whole
made_front whole piece rest left old mid now so_far split wrote =
    let all : whole ≡ so_far.bytes ++ (piece ++ rest) = so_far.together ∙ ap (λ l. so_far.bytes ++ l) split in
    let front : take (length so_far.bytes + wrote.0) whole ≡ so_far.bytes ++ take wrote.0 piece =
    ap (take (length so_far.bytes + wrote.0)) all ∙ take-append-add so_far.bytes (piece ++ rest) wrote.0
    ∙ ap (λ l. so_far.bytes ++ l) (take-append-le wrote.0 piece rest wrote.1) in (
      length so_far.bytes + wrote.0,
      omega (arith, ap length all, length-append so_far.bytes (piece ++ rest), length-append piece rest, wrote.1),
      subst (Appends old now) (sym front) (Appends-trans old mid now so_far.bytes (take wrote.0 piece) so_far.wrote wrote.2),
    )

-- a part of the header was written
pub header_front : (number packets hosts : ℕ) (old now : Option (List ℕ)) → AppendsFront old now file_header
    → AppendsFront old now (capture number packets hosts)
unfolding capture
header_front number packets hosts old now wrote =
    let rest = records hosts 1 (first_words mix_u64 packets number) in
    made_front (file_header ++ rest) file_header rest (file_header ++ rest) old old now
    (record { bytes = []; wrote = Appends-nil old; together = refl }) refl wrote

-- how the records still to come are those of a piece and the rest
pub piece_next : (packets hosts made count : ℕ) (piece : List ℕ) (before after : ℕ) → made + count ≤ packets
    → ((more : ℕ) → records hosts (made + 1) (first_words mix_u64 (count + more) before)
    ≡ piece ++ records hosts (made + 1 + count) (first_words mix_u64 more after))
    → rest_of packets hosts made before ≡ piece ++ rest_of packets hosts (made + count) after
piece_next packets hosts made count piece before after within filled =
    let left : packets - made ≡ count + (packets - (made + count)) = omega arith in
    let place : made + 1 + count ≡ made + count + 1 = omega arith in
    ap (λ n. records hosts (made + 1) (first_words mix_u64 n before)) left ∙ filled (packets - (made + count))
    ∙ ap (λ j. piece ++ records hosts j (first_words mix_u64 (packets - (made + count)) after)) place

-- all was written
pub made_all : (whole : List ℕ) (packets hosts made state : ℕ) (old now : Option (List ℕ)) → packets ≤ made
    → MadeSoFar whole (rest_of packets hosts made state) old now → Appends old now whole
unfolding first_words
made_all whole packets hosts made state old now over so_far =
    let none : packets - made ≡ 0 = omega arith in
    subst (Appends old now)
    (sym (so_far.together ∙ ap (λ n. so_far.bytes ++ records hosts (made + 1) (first_words mix_u64 n state)) none ∙ append-nil so_far.bytes)) so_far.wrote
