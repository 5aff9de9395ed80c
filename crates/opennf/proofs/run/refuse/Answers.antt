-- Nothing was done but that the line of the status was put, whatever was asked.
use Rattle.std.proofs.Common.{rules}
use Rattle.opennf.proofs.run.refuse.Goals as goal

pub returns : goal.returns
returns g c = λ request. record {
  outcome = c.opennf_unread.result;
  did = c.opennf_unread.ensures request;
  is = search rules;
}
