-- Of the choices the first so many are left once the packets are made.
use Rattle.std.proofs.Common.{◌⊎◌, Result, Ok, Err, inr}
use Rattle.std.specs.Prelude.{MatchResult}
use Rattle.standby_failover.proofs.promoting.promote.Goals as goal

always : {T E P : Type 0} (Q : Type 0) (r : Result T E) → P → MatchResult r (λ _. P) (λ _. Q ⊎ P)
always Q (Ok x) holds = holds
always Q (Err e) holds = inr holds

pub returns-clause-choices : goal.returns-clause-choices
returns-clause-choices g c = always _ c.promote_with.result c.promote_with.ensures.choices
