-- The parts of the line come one after another.
use Rattle.std.proofs.Common.{◌≡◌, ℕ, List, ◌++◌, append_assoc, codes, ap, ◌∙◌}
use Rattle.std.specs.Prelude.{decimal}
use Rattle.std.proofs.lemmas.Result.{on_ok_weaker}
use Rattle.report_lines.specs.Lines.{function_line}
use Rattle.report_lines.specs.Pieces.{function_text}
use Rattle.report_lines.proofs.heads.push_function_line.Goals as goal

in_turn : (t f a b c : List ℕ) → (((t ++ f) ++ a) ++ b) ++ c ≡ t ++ (((f ++ a) ++ b) ++ c)
in_turn t f a b c = ap (λ l. (l ++ b) ++ c) (append_assoc t f a) ∙ ap (λ l. l ++ c) (append_assoc t (f ++ a) b) ∙ append_assoc t ((f ++ a) ++ b) c

pub returns : goal.returns
unfolding function_line function_text
returns c =
    let front = function_text c.args.kind c.args.instances in
    on_ok_weaker c.push_bytes-2.result (λ is. is
    ∙ ap (λ t. t ++ codes "\n") (c.in_ok-push_decimal.ensures.ok
    ∙ ap (λ n. c.push_bytes.new.self ++ decimal n) c.from.ensures
    ∙ ap (λ t. t ++ decimal c.args.window) (c.in_ok-push_bytes.ensures.ok
    ∙ ap (λ t. t ++ codes " window ") c.in_ok-push_function.ensures))
    ∙ in_turn c.args.text.now front (codes " window ") (decimal c.args.window) (codes "\n")) c.push_bytes-2.ensures.ok
