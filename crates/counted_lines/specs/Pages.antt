-- Steps between code and definition, which nobody has to believe: the text of a page.
use Rattle.std.specs.Prelude.{ℕ, List, take}
use Rattle.counted_lines.specs.declared.page.Page.{Page as ThePage}
use Rattle.counted_lines.specs.declared.lines.CountedLines.{CountedLines as TheLines}

-- the text of a page
abbrev pub page_text : ThePage → List ℕ
page_text page = take page.used page.bytes.items

-- the lines that are still to go to the text
abbrev pub pending : TheLines → List ℕ
pending lines = page_text lines.page

-- the word that each line begins with
abbrev pub word_of : TheLines → List ℕ
word_of lines = lines.count.word.now
