-- What is found of the affected units is as the definitions say of the world.
use Rattle.standby_failover.proofs.Words.{rules, ◌≡◌, filter, ap, ◌∙◌, arrivals_in, is_in, lost_in_order, failover_in}
use Rattle.std.specs.FinMap as finite
use Rattle.standby_failover.proofs.Arrivals.{lost_by_number}
use Rattle.standby_failover.proofs.scene.Scene.affected.Goals as goal

pub returns : goal.returns
returns g c = λ v is.
    let f = g.F.Function.semantics in
    let s = c.args.self.now in
    let listed : c.items.result.now ≡ c.in_ok-order.order = search rules in
    record {
      lost = c.in_ok-lost.ensures
          ∙ ap (λ ns. filter (λ p. is_in p ns) (arrivals_in s.log.now)) (listed ∙ c.in_ok-order.ensures v is)
          ∙ ap (λ l. filter (λ p. is_in p (lost_in_order (failover_in f v))) (arrivals_in l)) is.log
          ∙ lost_by_number (failover_in f v);
      pending = c.in_ok-pending.ensures v is;
      order = c.in_ok-order.ensures v is;
      units = c.in_ok-units.ensures ∙ ap (λ t. finite.keys t.live) is.failed;
    }
