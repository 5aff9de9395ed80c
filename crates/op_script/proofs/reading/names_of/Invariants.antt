-- The names that were read so far, and the text that is left.
use Rattle.op_script.proofs.Words.{◌≡◌, ◌++◌, Some, None, cond, option_map, slice_split, list_all, is_name, remaining_pieces, bytes_left}
use Rattle.std.proofs.Common.{◌==◌}
use Rattle.op_script.proofs.reading.names_of.Given as goal

-- the names so far and the pieces that are left give what the whole list gives
abbrev pub invariant-loop-rest : goal.invariant-loop-rest
invariant-loop-rest l = let left = remaining_pieces 44 (option_map (λ t. t.now) l.rest) in let whole = slice_split (λ b. b == 44) l.list in
    cond (list_all is_name left) (Some (l.names ++ left)) None ≡ cond (list_all is_name whole) (Some whole) None

abbrev pub decreases-loop-rest : goal.decreases-loop-rest
decreases-loop-rest l = bytes_left (option_map (λ t. t.now) l.rest)
