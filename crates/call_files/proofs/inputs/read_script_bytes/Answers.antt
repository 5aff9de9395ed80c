-- What is known of the outside once the source over it is gone.
use Rattle.std.proofs.Common.{rules, ◌≡◌, ◌+◌, Some, IfOk, take, drop, subst}
use Rattle.nf_io.specs.declared.outside.Role.TheVariants.{Script as ScriptRole}
use Rattle.nf_io.proofs.RolesAfterLoan.{left_written, left_name, left_others}
use Rattle.call_files.proofs.inputs.read_script_bytes.Goals as goal

pub returns-clause-bytes : goal.returns-clause-bytes
returns-clause-bytes g c = λ x told.
    let told' : (g.O.Outside.seen c.args.outside.now ScriptRole).left ≡ Some x = search rules in
    subst (λ left. IfOk c.read_upto.result (λ found. (found ≡ take (c.args.most + 1) x) × (left ≡ Some (drop (c.args.most + 1) x))))
    (search rules) (c.read_upto.ensures.bytes x told')

pub returns-clause-alone : goal.returns-clause-alone
returns-clause-alone g c = record {
  written = left_written g.O.Outside.seen _ _ _ _ _ c.read_upto.ensures.stays.same_rest (search rules);
  name = left_name g.O.Outside.seen _ _ _ _ _ c.read_upto.ensures.stays.same_rest (search rules);
  others = left_others g.O.Outside.seen _ _ _ _ _ c.read_upto.ensures.stays.same_rest (search rules);
}
