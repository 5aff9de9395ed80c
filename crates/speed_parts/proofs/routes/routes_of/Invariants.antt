-- There are as many routes as numbers so far.
use Rattle.std.proofs.Common.{◌≡◌, vec_len}
use Rattle.speed_parts.proofs.routes.routes_of.Given as goal

abbrev pub invariant-loop-number : goal.invariant-loop-number
invariant-loop-number l = vec_len l.all ≡ l.number
