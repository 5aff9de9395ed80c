-- What contracts see of the two ends of a link, this project's own.
use Rattle.std.specs.Prelude.{ℕ, List}
use Rattle.atomic_table.specs.Seated.{TableId}
use Rattle.fifo_link.specs.declared.knowledge.Transfer.{Transfer}

-- an end of a link: which link it is of, how many messages that holds at most, what this end sent or took, and all that was done
-- on the link, by both ends, up to this end's last message
pub record End (M : Type 0) : Type 0 where
  pub link : TableId
  pub capacity : ℕ
  pub done : List M
  pub known : List (Transfer M)
