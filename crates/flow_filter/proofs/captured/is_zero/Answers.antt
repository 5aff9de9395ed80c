-- Bytes that are all 0 are so many zeros.
use Rattle.std.proofs.Common.{◌≡◌, ℕ, List, length, replicate, sym, ◌∙◌, arith}
use Rattle.std.proofs.lemmas.Bool.Decides.{Decides-eqb}
use Rattle.std.proofs.lemmas.List.{ext_get_or, get_or-replicate, length-replicate}
use Rattle.flow_filter.proofs.captured.is_zero.Goals as goal

pub returns : goal.returns
returns c = λ yes.
    let none : c.loop-byte.greatest ≡ 0 = (Decides-eqb c.loop-byte.greatest 0).0 yes in
    let long : length c.args.bytes.now ≡ 64 = c.told-bytes in
    let zeros : List ℕ = replicate 64 0 in
    ext_get_or 0 c.args.bytes.now zeros (long ∙ sym (length-replicate {A = ℕ} 64 0)) (λ k below.
    c.loop-byte.invariant none k (omega (arith, below, long, c.loop-byte-test.false)) ∙ sym (get_or-replicate {A = ℕ} 64 k 0 0 (omega (arith, below, long))))
