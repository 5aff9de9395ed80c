-- The records of one instance are in order.
use Rattle.std.proofs.Common.{◌≡◌, ◌++◌, [], ◌∷◌, OnOk, sym, ap, subst, ◌∙◌}
use Rattle.std.specs.List.{flat_map}
use Rattle.report_lines.specs.Lines.{by_unit, named_records, record_line}
use Rattle.report_lines.proofs.SortedAlready.{one_instance, only_one}
use Rattle.report_lines.proofs.states.push_record_lines.Goals as goal

pub returns-in-len1 : goal.returns-in-len1
returns-in-len1 g c =
    let f = g.F.Function.semantics in
    let only = c.only-item.result in
    let all : c.args.instances.now ≡ only ∷ [] = only_one c.args.instances.now only c.in-len1.len_at_least c.in-len1.len_below c.only-item.is in
    let list : by_unit c.args.live c.args.instances.now ≡ named_records c.args.live only = ap (by_unit c.args.live) all ∙ one_instance c.args.live only in
    subst (λ records. OnOk c.push_own_lines.result (c.push_own_lines.new.text ≡ c.args.text.now ++ flat_map (record_line f c.args.word.now) records)) (sym list)
    c.push_own_lines.ensures
