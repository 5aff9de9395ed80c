-- The law of audits is proved for any run.
use Rattle.opennf_calls.proofs.AuditLaws.{audit_law}
use Rattle.opennf_calls.proofs.audit.audits_again.Goals as goal

pub returns : goal.returns
returns c = audit_law
