-- The block, with the last digit in its place.
use Rattle.std.proofs.Common.{◌+◌, ◌++◌, [], ◌∷◌, length, take, ◌-◌, ap, ◌∙◌}
use Rattle.counted_lines.specs.Pages.{page_text}
use Rattle.counted_lines.proofs.PageLemmas.{put_last}
use Rattle.counted_lines.proofs.page.Page.put_count.Goals as goal

pub returns-clause-text : goal.returns-clause-text
returns-clause-text c =
    put_last (page_text c.args.self.now) c.block.result.now (page_text c.set_last.new.self) (48 + c.digit.result) c.block.ensures.some
    (λ front last is. c.set_last.ensures.text front last (c.put.ensures.text ∙ is))
    ∙ ap (λ l. page_text c.args.self.now ++ l)
    (ap (λ d. take (length c.block.result.now - 1) c.block.result.now ++ (48 + d) ∷ []) c.digit.ensures.value ∙ c.block.ensures.text)
