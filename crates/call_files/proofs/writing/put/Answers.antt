-- What is known of the outside once the sink over it is gone.
use Rattle.std.proofs.Common.{rules}
use Rattle.nf_io.proofs.RolesAfterLoan.{written_left, written_name, written_others}
use Rattle.call_files.proofs.WritingLemmas.{gains_by}
use Rattle.call_files.proofs.writing.put.Goals as goal

pub returns : goal.returns
returns g c = record {
  gains = gains_by _ _ _ c.write_all.result (search rules) (search rules);
  later = search rules;
  left = written_left g.O.Outside.seen _ _ _ _ _ c.write_all.ensures.stays.same_rest (search rules);
  name = written_name g.O.Outside.seen _ _ _ _ _ c.write_all.ensures.stays.same_rest (search rules);
  others = written_others g.O.Outside.seen _ _ _ _ _ c.write_all.ensures.stays.same_rest (search rules);
}
