-- The parts of the line come one after another.
use Rattle.std.proofs.Common.{◌≡◌, ℕ, List, ◌++◌, append_assoc, codes, ap, ◌∙◌}
use Rattle.std.proofs.lemmas.Result.{on_ok_weaker}
use Rattle.report_lines.specs.Lines.{trace_line}
use Rattle.report_lines.specs.Pieces.{counts_text, end_text}
use Rattle.report_lines.proofs.heads.push_trace_line.Goals as goal

in_turn : (t f a b : List ℕ) → ((t ++ f) ++ a) ++ b ≡ t ++ ((f ++ a) ++ b)
in_turn t f a b = ap (λ l. l ++ b) (append_assoc t f a) ∙ append_assoc t (f ++ a) b

pub returns : goal.returns
unfolding trace_line counts_text
returns c =
    let front = counts_text c.args.packets c.args.skipped in
    on_ok_weaker c.push_bytes-2.result (λ is. is
    ∙ ap (λ t. t ++ codes "\n") (c.in_ok-push_bytes.ensures.ok
    ∙ ap (λ e. c.push_counts.new.text ++ e) (c.as_bytes.ensures.value ∙ c.end_name.ensures)
    ∙ ap (λ t. t ++ end_text c.args.cut) c.in_ok-push_counts.ensures)
    ∙ in_turn c.args.text.now front (end_text c.args.cut) (codes "\n")) c.push_bytes-2.ensures.ok
