-- The law is proved for any call.
use Rattle.opennf_calls.proofs.CallLaws.{outcome_law}
use Rattle.opennf_calls.proofs.laws.outcome_is_headline.Goals as goal

pub returns : goal.returns
returns c = outcome_law
