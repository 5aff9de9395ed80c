-- The notes of one more choice go from its node's queue to the log.
use Rattle.std.proofs.Common.{◌<◌, [], ◌++◌, ◌∙◌, ap, arith, length, slice_set}
use Rattle.std.proofs.lemmas.List.{get_or_default}
use Rattle.actor_net.specs.Histories.{without_first_list, first_list, notes_of_choices}
use Rattle.actor_threads.specs.LinkTable.{row_at}
use Rattle.actor_threads.proofs.DealtNotes.{deal_one}
use Rattle.actor_threads.proofs.merged.deal_one.Goals as goal

pub returns : goal.returns
returns g c = λ cs.
    let notes = c.args.notes.now.items in
    let node = c.args.choice.node in
    let inside : node < length notes = omega (arith, c.if-node-len.false, c.len.ensures, c.args.notes.now.ok.0) in
    let read = c.index_mut.ensures.value ∙ get_or_default notes node _ [] inside in
    let queue = c.in_ok-deal.ensures.queue ∙ ap without_first_list read in
    let log = c.in_ok-deal.ensures.log ∙ ap (λ q. c.args.log.now.items ++ first_list q) read in
    (λ i. log i ++ notes_of_choices (λ j. row_at (slice_set notes node (queue i)) j) cs) ∙ deal_one notes c.args.choice cs c.args.log.now.items inside
