-- Two runs over one capture say the same of a unit: each says what one instance says that nothing moved.
use Rattle.run_headline.proofs.Words.{◌≡◌, None, sym, ◌∙◌, filter, fold, option_to_list, scan, kept_after, output_for, unit_at, same_unit, outputs_to}
use Rattle.run_headline.proofs.Words.{packets_of, record_after, Subject}
use Rattle.nf_function.specs.declared.unit.Unit as units
use Rattle.run_headline.specs.Law.{AreAlike, TwoRunsLaw}

module _ {R : Type 0} (one other : Subject R) (alike : AreAlike one other) (unit : units.Unit) where
  outputs_same : outputs_to one (packets_of one unit) ≡ outputs_to other (packets_of other unit)
  outputs_same = λ i. scan (kept_after (alike.function i) (alike.site i)) (output_for (alike.function i) (alike.site i)) None
      (filter (λ p. same_unit (unit_at (alike.function i).kind (alike.site i) p) unit) (alike.packets i))

  records_same : option_to_list (record_after one (packets_of one unit)) ≡ option_to_list (record_after other (packets_of other unit))
  records_same = λ i. option_to_list (fold (kept_after (alike.function i) (alike.site i)) None
      (filter (λ p. same_unit (unit_at (alike.function i).kind (alike.site i) p) unit) (alike.packets i)))

pub two_runs : (R : Type 0) → TwoRunsLaw R
two_runs R one other lines again alike first second unit off off_again = (
  first.outputs unit off ∙ outputs_same one other alike unit ∙ sym (second.outputs unit off_again),
  first.record_is unit off ∙ records_same one other alike unit ∙ sym (second.record_is unit off_again),
)
