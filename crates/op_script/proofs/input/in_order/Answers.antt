-- The references are those of all lines, sorted by their points.
use Rattle.op_script.proofs.Words.{◌≡◌, ◌<◌, ◌^◌, ℕ, ◌∙◌, ap, map, refl, rules, subst, YieldsList-from_slice, Line, Settle, AreLinesFrom}
use Rattle.std.proofs.lemmas.Iterator.{items_from_drains}
use Rattle.std.proofs.lemmas.List.Sorted.{IsNonDecreasingBy-from_sort_by_key, answers_always}
use Rattle.op_script.proofs.LinesByPoint.{sorted_ahead}
use Rattle.op_script.proofs.input.in_order.Goals as goal

-- a line at a point
abbrev settle : (point : ℕ) → point < 2 ^ 32 → Line
settle point below = record { at = point; what = Settle; at_in_range = below; filter_in_range = λ filter is. absurd cc }

pub returns : goal.returns
returns c = let ran = c.in_ok-found.ensures.ran in
    let lines : map (λ line. line.now) c.in_ok-found.found.items ≡ c.args.lines.now =
    ap (map (λ line. line.now)) ran.2.0 ∙ items_from_drains ran.0 ran.1 (YieldsList-from_slice c.args.lines.now c.iter.ensures.rest) in
    subst (AreLinesFrom 0 (map (λ line. line.now) c.sort_by_key.new.self.items)) lines
    (sorted_ahead (λ line. line.now) c.in_ok-found.found.items c.sort_by_key.new.self.items
    (λ point below. record { ref_ptr = (0, 0); now = settle point below }) (λ point below. refl)
    (IsNonDecreasingBy-from_sort_by_key (λ line. line.now.at) _ c.in_ok-sort_by_key.ensures.sorted (λ a r q k. search rules))
    (c.in_ok-sort_by_key.ensures.stable (λ line. line.now.at) (answers_always _ _ _ (λ q a r next k. search rules))))
