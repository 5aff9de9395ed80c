-- The instances that were read so far, and the text that is left.
use Rattle.std.proofs.Common.{◌≡◌, ◌==◌, ◌++◌, option_map}
use Rattle.std.specs.List.{slice_split}
use Rattle.basics.specs.Parsing.{remaining_pieces}
use Rattle.basics.proofs.BytesLeft.{bytes_left}
use Rattle.command_words.specs.Values.{all_instances}
use Rattle.command_words.proofs.instances.all_instances.Given as goal

-- the instances so far and the pieces that are left give what the whole list gives
abbrev pub invariant-loop-rest : goal.invariant-loop-rest
invariant-loop-rest l = option_map (λ more. l.rows.items ++ more) (all_instances (remaining_pieces 44 (option_map (λ t. t.now) l.rest)))
    ≡ all_instances (slice_split (λ b. b == 44) l.list)

abbrev pub decreases-loop-rest : goal.decreases-loop-rest
decreases-loop-rest l = bytes_left (option_map (λ t. t.now) l.rest)
