-- The law is proved for any two calls.
use Rattle.opennf_calls.proofs.CallLaws.{sim_law}
use Rattle.opennf_calls.proofs.laws.simulates_again.Goals as goal

pub returns : goal.returns
returns c = sim_law
