-- What is held without its first bytes.
use Rattle.std.proofs.Common.{◌≡◌, ℕ, ◌+◌, ◌-◌, ◌≤◌, List, take, drop, slice_range, sym, ap, ◌∙◌, arith, drop-drop, length-take}
use Rattle.std.proofs.lemmas.List.{drop-take}
use Rattle.nf_io.proofs.read_ahead.ReadAhead.skip.Goals as goal

slice_range_from : (xs : List ℕ) (start end n : ℕ) → n ≤ end - start → slice_range xs (start + n) end ≡ drop n (slice_range xs start end)
slice_range_from xs start end n within =
    let whole : n + (end - (start + n)) ≡ end - start = omega arith in
    ap (take (end - (start + n))) (sym (drop-drop n start xs))
    ∙ sym (drop-take n (end - (start + n)) (drop start xs))
    ∙ ap (λ k. drop n (take k (drop start xs))) whole

pub returns : goal.returns
returns c =
    let ahead = c.args.self.now in
    slice_range_from ahead.bytes.items ahead.start ahead.end c.args.count (omega (arith, length-take {A = ℕ}, c.requires))
