-- The words in which an answer is printed. This project's own.
use Rattle.std.specs.Prelude.{ℕ, ◌++◌, List, codes, decimal}
use Rattle.nf_msgs.specs.declared.answer.Answer.{Answer}
use Rattle.nf_msgs.specs.declared.answer.Answer.TheVariants.{Done, Unknown, Overlap, Import, Old}

-- the answer's words
abbrev pub answer_text : Answer → List ℕ
answer_text Done = codes "done"
answer_text (Unknown name) = codes "unknown " ++ name
answer_text (Overlap op) = codes "overlap " ++ decimal op
answer_text (Import held coming limit) = codes "import " ++ decimal held ++ codes " " ++ decimal coming ++ codes " " ++ decimal limit
answer_text (Old newest reads) = codes "old " ++ decimal newest ++ codes " " ++ decimal reads
