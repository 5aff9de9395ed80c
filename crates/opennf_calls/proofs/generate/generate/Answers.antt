-- What the command did is known from the capture that it wrote and the line after it.
use Rattle.opennf_calls.proofs.Words.{rules, gen_view}
use Rattle.opennf_calls.proofs.MakingLemmas.{gen_ended}
use Rattle.opennf_calls.proofs.generate.generate.Goals as goal

pub returns-in-Ok : goal.returns-in-Ok
returns-in-Ok g c =
    gen_ended (gen_view c.args.asked.now) (g.O.Outside.seen c.args.outside.now) (g.O.Outside.seen c.write_capture.new.outside)
    (g.O.Outside.seen c.put_report.new.outside) c.requires (search rules) c.as_bytes.result.now (search rules) _ c.put_report.ensures
