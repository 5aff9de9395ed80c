-- What is known of the outside once the sink over it is gone.
use Rattle.opennf_calls.proofs.Words.{rules, err_from_is_err_and, gen_view}
use Rattle.nf_io.proofs.RolesAfterLoan.{written_left, written_name, written_others}
use Rattle.opennf_calls.proofs.MakingLemmas.{making_performs}
use Rattle.opennf_calls.proofs.generate.write_capture.Goals as goal

pub returns-in_err-make_trace : goal.returns-in_err-make_trace
returns-in_err-make_trace g c =
    let failed = err_from_is_err_and c.from_residual.result c.from_residual.ensures.1 in
    rw (failed.1, failed.2)
    (making_performs (gen_view c.args.asked.now) (g.O.Outside.seen c.args.outside.now) _ c.in_err-make_trace.field-0.0 c.requires
    (record {
      later = search rules;
      left = written_left g.O.Outside.seen _ _ _ _ _ c.make_trace.ensures.stays.same_rest (search rules);
      name = written_name g.O.Outside.seen _ _ _ _ _ c.make_trace.ensures.stays.same_rest (search rules);
      others = written_others g.O.Outside.seen _ _ _ _ _ c.make_trace.ensures.stays.same_rest (search rules);
    }) (search rules) (search rules))

pub returns : goal.returns
returns g c = record {
  gains = search rules;
  later = search rules;
  left = written_left g.O.Outside.seen _ _ _ _ _ c.make_trace.ensures.stays.same_rest (search rules);
  name = written_name g.O.Outside.seen _ _ _ _ _ c.make_trace.ensures.stays.same_rest (search rules);
  others = written_others g.O.Outside.seen _ _ _ _ _ c.make_trace.ensures.stays.same_rest (search rules);
}
