-- The report is that of what is left, and the status that of the fault.
use Rattle.network_calls.proofs.failing.FailedForFunction.call.Goals as goal

pub returns-in-Err : goal.returns-in-Err
returns-in-Err g c = rw c.status_of.ensures c.in-Err.ensures
