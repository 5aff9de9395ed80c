-- Steps between code and definition, which nobody has to believe: the notes of steps, kept as one list with a count for each step, in runs
-- that end at a step with notes. This project's own.
use Rattle.std.specs.Prelude.{ℕ, zero, suc, List, [], ◌∷◌, take, drop}
use Rattle.actor_threads.specs.declared.notes.Run.{Run}

-- so many zeros in front of a list
abbrev pub zeros_then : ℕ → List ℕ → List ℕ
zeros_then zero counts = counts
zeros_then (suc k) counts = 0 ∷ zeros_then k counts

-- the counts of all steps; so many steps after the last run noted nothing
abbrev pub counts_of : List Run → ℕ → List ℕ
counts_of [] silent = zeros_then silent []
counts_of (run ∷ runs) silent = zeros_then run.silent (run.count ∷ counts_of runs silent)

-- the list cut into one list for each count
abbrev pub by_counts : {N : Type 0} → List ℕ → List N → List (List N)
by_counts [] all = []
by_counts (count ∷ counts) all = take count all ∷ by_counts counts (drop count all)
