-- What is known of the end stands, whatever became of the line on the standard error.
use Rattle.opennf_calls.proofs.Words.{rules, ◌≡◌, ◌∙◌, Errors, as_named, same_named}
use Rattle.call_files.specs.Status.{line_of}
use Rattle.opennf_calls.proofs.CompleteLemmas.{complete}
use Rattle.opennf_calls.proofs.LastLineLemmas.{cause_around, line_after, names_after, puts_line}
use Rattle.opennf_calls.proofs.top.tell.Goals as goal

pub returns : goal.returns
returns g c = λ request shown old ended.
    let is : c.as_bytes.result.now ≡ line_of c.args.outcome.status = search rules in
    let mid = g.O.Outside.seen c.args.outside.now in
    let new = g.O.Outside.seen c.put.new.outside in
    let before = as_named shown old new in
    let around = line_after shown old mid new _ c.put.ensures in
    let cause = cause_around before (as_named shown old mid) mid new around request c.args.outcome ended.cause in
    record {
      cause = cause;
      names = names_after request mid new around.names ended.names;
      errors = puts_line _ before mid new c.put.result (ended.errors ∙ same_named shown old mid new around.names Errors) (rw (← is) c.put.ensures);
      complete = complete request before new c.args.outcome cause;
    }
