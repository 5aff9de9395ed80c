-- Steps between code and definition, which nobody has to believe: what stands behind the references of lists on the way to the report.
use Rattle.std.specs.Prelude.{ℕ}
use Rattle.std.specs.Borrow.{Bor}
use Rattle.nf_msgs.specs.declared.answer.Answer.{Answer}

-- an answer with its number, behind its reference
abbrev pub answer_seen : ℕ × Bor Answer → ℕ × Answer
answer_seen x = (x.0, x.1.now)
