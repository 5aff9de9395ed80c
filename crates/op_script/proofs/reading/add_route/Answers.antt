-- One route more, whose filter is in range; or no more, where memory is out.
use Rattle.op_script.proofs.Words.{ℕ, sym, subst, Filter, IsFilter}
use Rattle.std.proofs.Common.{All}
use Rattle.op_script.proofs.OneMore.{one_more}
use Rattle.op_script.proofs.reading.add_route.Goals as goal

pub invariant_of-reader : goal.invariant_of-reader
invariant_of-reader c =
    (c.reader.invariant.0, subst (All (λ (route : Filter × ℕ). IsFilter route.0)) (sym c.in_err-push.ensures.items) c.reader.invariant.1)

pub invariant_of-reader-2 : goal.invariant_of-reader-2
invariant_of-reader-2 c =
    let before = c.reader.inside.routes.items in (
      c.reader.invariant.0,
      one_more (λ (route : Filter × ℕ). IsFilter route.0) before c.push.new.self.items _ c.in_ok-push.ensures.items c.reader.invariant.1
          c.in_ok-filter.ensures.in_range,
    )
