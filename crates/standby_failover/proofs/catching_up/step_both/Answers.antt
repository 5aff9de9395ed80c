-- Records that are stepped on one list and then on another are stepped on both.
use Rattle.standby_failover.proofs.Words.{ℕ, List, ◌∙◌, IsSome, on_ok_weaker, Packet}
use Rattle.std.proofs.Common.{◌==◌, find}
use Rattle.standby_failover.proofs.CaughtUp.{joined_live}
use Rattle.standby_failover.proofs.Known.{all_first, all_second}
use Rattle.standby_failover.proofs.catching_up.step_both.Goals as goal

abbrev IsKnown : List Packet → ℕ → Type 0
IsKnown ps n = IsSome (find (λ p. p.number == n) ps)

pub step_all-requires-clause-known : goal.step_all-requires-clause-known
step_all-requires-clause-known g c = all_first (IsKnown c.args.packets.now) c.args.first.now c.args.second.now c.requires.known

pub step_all-requires-2-clause-known : goal.step_all-requires-2-clause-known
step_all-requires-2-clause-known g c = all_second (IsKnown c.args.packets.now) c.args.first.now c.args.second.now c.requires.known

pub returns-clause-live : goal.returns-clause-live
returns-clause-live g c =
    on_ok_weaker c.step_all-2.result (joined_live g.F.Function.semantics c.args.site.now c.args.packets.now c.args.first.now c.args.second.now
    c.args.table.now.live c.step_all.new.table.live c.step_all-2.new.table.live c.in_ok-step_all.ensures.live) c.step_all-2.ensures.live

pub returns-clause-standby : goal.returns-clause-standby
returns-clause-standby g c = on_ok_weaker c.step_all-2.result (λ same. same ∙ c.in_ok-step_all.ensures.standby) c.step_all-2.ensures.standby
