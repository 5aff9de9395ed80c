-- The unit's record is the new one, and a unit that had none is counted.
use Rattle.std.proofs.Common.{Some, ◌∙◌, sym, ap, arith, ◌+◌, is_some, ◌≡◌, Bool, true, false}
use Rattle.std.specs.Prelude.{not}
use Rattle.std.specs.FinMap as finite
use Rattle.record_table.specs.Entries.{map_of}
use Rattle.record_table.proofs.EntryMaps.{map_of-same, len-map_of, get-map_of, IsPut, put, counted_on}
use Rattle.record_table.proofs.Results.{on_err_given}
use Rattle.record_table.proofs.record_map.RecordMap.insert.Given.{Over}
use Rattle.record_table.proofs.record_map.RecordMap.insert.Goals as goal
use Rattle.record_table.proofs.record_map.RecordMap.insert.Goals.{After-from}

not_again : (a b : Bool) → a ≡ not b → b ≡ not a
not_again a true h = ap not (sym h)
not_again a false h = ap not (sym h)

done : (g : Over) (c : After-from g) → IsPut c.self.inside.records c.insert.new.self c.args.unit (Some c.args.kept)
done g c = put _ _ c.args.unit (Some c.args.kept) c.in_ok-insert.ensures.updates

counted : (g : Over) (c : After-from g) → c.self.inside.count + c.from.result ≡ finite.len (map_of c.insert.new.self)
counted g c = rw c.self.invariant (counted_on _ _ c.from.result c.is_none-is_new.result c.in_ok-insert.field-0 c.is_none-is_new.ensures c.from.ensures
    (rw c.in_ok-insert.ensures.was (done g c).counted))

pub invariant_of-self : goal.invariant_of-self
invariant_of-self g c = c.self.invariant ∙ sym (ap finite.len (map_of-same c.self.inside.records c.insert.new.self c.in_err-insert.ensures.err))

pub returns-in_err-insert-clause-err : goal.returns-in_err-insert-clause-err
returns-in_err-insert-clause-err g c =
    on_err_given c.from_residual.result (map_of-same c.self.inside.records c.insert.new.self c.in_err-insert.ensures.err ∙ c.self.view_is)

pub overflow_add-self : goal.overflow_add-self
overflow_add-self g c = omega (arith, counted g c, len-map_of c.insert.new.self, c.insert.ensures.map.few)

pub invariant_of-self-2 : goal.invariant_of-self-2
invariant_of-self-2 g c = counted g (goal.at.invariant_of-self-2 g c).After-from

pub returns-clause-is_new : goal.returns-clause-is_new
returns-clause-is_new g c =
    not_again (is_some c.in_ok-insert.field-0) c.is_none-is_new.result c.is_none-is_new.ensures
    ∙ ap (λ o. not (is_some o))
    (c.in_ok-insert.ensures.was ∙ sym (get-map_of c.self.inside.records c.args.unit) ∙ ap (λ m. finite.get m c.args.unit) c.self.view_is)

pub returns-clause-ok : goal.returns-clause-ok
returns-clause-ok g c = (done g (goal.at.returns-clause-ok g c).After-from).map ∙ ap (λ m. finite.insert m c.args.unit c.args.kept) c.self.view_is
