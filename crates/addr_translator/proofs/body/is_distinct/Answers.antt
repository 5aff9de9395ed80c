-- Where each end is new, none stands twice.
use Rattle.std.proofs.Common.{◌∙◌, ◌+◌, sym, ap, get_or, drop}
use Rattle.std.proofs.lemmas.List.{drop_more}
use Rattle.std.proofs.lemmas.Bool.{not-true}
use Rattle.addr_translator.specs.Body.{is_mapping}
use Rattle.addr_translator.specs.Ends.{has_end}
use Rattle.addr_translator.proofs.SeenEnds.{are_apart, left_all, none_seen, seen_one}
use Rattle.addr_translator.proofs.body.is_distinct.Goals as goal

pub loop-mapping-init : goal.loop-mapping-init
loop-mapping-init c = sym (none_seen c.none-seen.result.words c.args.mappings.now c.none-seen.ensures c.requires)

pub loop-mapping-preserved : goal.loop-mapping-preserved
loop-mapping-preserved c =
    let ends = c.args.mappings.now in
    let place = c.loop-mapping.mapping-index in
    let end = get_or ends place (record { proto = 0; port = 0 }) in
    c.loop-mapping.invariant
    ∙ ap (are_apart c.loop-mapping.seen.words) (drop_more ends place (record { proto = 0; port = 0 }) c.loop-mapping-test.true)
    ∙ seen_one c.loop-mapping.seen.words c.see.new.self.words end (drop (place + 1) ends) c.see.ensures.added (left_all is_mapping (place + 1) ends c.requires)
    (not-true (has_end c.loop-mapping.seen.words end) (sym c.see.ensures.fresh ∙ c.if-not-see.false))
