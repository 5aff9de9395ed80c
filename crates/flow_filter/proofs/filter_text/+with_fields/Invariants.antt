-- Each field makes the text that is left shorter.
use Rattle.std.proofs.Common.{length}
use Rattle.flow_filter.proofs.filter_text.+with_fields.Given as goal

-- the text that is left
abbrev pub decreases-with_fields : goal.decreases-with_fields
decreases-with_fields l = length l.text.now
