-- What `take_while` gives is counted.
use Rattle.op_script.proofs.Words.{◌∙◌, rules, eqb, YieldsList-from_slice, YieldsList-at}
use Rattle.std.proofs.lemmas.Iterator.Consumers.{count_from_yields_List}
use Rattle.std.proofs.lemmas.Iterator.Search.{YieldsList-from_take_while}
use Rattle.std.proofs.lemmas.List.Folds.{length-prefix_len}
use Rattle.op_script.proofs.LinesByPoint.{prefix_len-map}
use Rattle.op_script.proofs.input.count_at.Goals as goal

pub returns-clause-count : goal.returns-clause-count
returns-clause-count c =
    count_from_yields_List c.take_while.result c.count.result c.count.ensures.ran
    (YieldsList-from_take_while _ (λ line. eqb line.now.at c.args.point) (YieldsList-at c.take_while.ensures.source
    (YieldsList-from_slice c.args.lines.now c.iter.ensures.rest)) c.take_while.ensures.closure c.take_while.ensures.done (λ x b q k. search rules))
    ∙ length-prefix_len (λ line. eqb line.now.at c.args.point) c.args.lines.now
    ∙ prefix_len-map (λ line. line.now) (λ line. eqb line.at c.args.point) c.args.lines.now
