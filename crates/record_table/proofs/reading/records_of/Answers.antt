-- The lifetimes of what is read are within those of the record.
use Rattle.std.proofs.Common.{append-nil}
use Rattle.record_table.proofs.Lifetimes.{of_none, of_entries, of_map}
use Rattle.record_table.proofs.reading.records_of.Goals as goal

pub branch-entries-requires : goal.branch-entries-requires
branch-entries-requires g c κs = λ h. (simp append-nil (of_entries κs.0 g.row.F-Record.lives h), of_none κs.1.0)

pub branch-records-requires : goal.branch-records-requires
branch-records-requires g c κs = λ h. (simp append-nil (of_map κs.0 g.row.F-Record.lives h), of_none κs.1.0)
