-- Each field that is read keeps that the protocol has a name.
use Rattle.std.proofs.Common.{refl}
use Rattle.std.specs.Prelude.{◌==◌}
use Rattle.std.specs.List.{slice_split}
use Rattle.flow_filter.specs.FilterText.{nothing}
use Rattle.flow_filter.proofs.ParsedFilters.{printable}
use Rattle.flow_filter.proofs.filter.Filter.parse_bytes.Goals as goal

pub returns-else-eq-clause-printable : goal.returns-else-eq-clause-printable
returns-else-eq-clause-printable c = printable nothing c.with_fields.result (slice_split (λ b. b == 44) c.args.text.now) refl c.with_fields.ensures
