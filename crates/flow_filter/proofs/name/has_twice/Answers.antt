-- The set is made of the bytes of each name.
use Rattle.std.proofs.Common.{◌≡◌, ◌∙◌, ap, map, rules, ltb, length}
use Rattle.std.proofs.lemmas.Iterator.{YieldsList-from_slice, YieldsList-from_map_by, items_from_drains}
use Rattle.std.proofs.lemmas.Iterator.Consumers.{YieldsList-at}
use Rattle.std.proofs.lemmas.List.{map-id}
use Rattle.flow_filter.proofs.DoubledNames.{fewer_distinct}
use Rattle.flow_filter.proofs.name.has_twice.Goals as goal

pub returns : goal.returns
returns c = let ran = c.in_ok-distinct.ensures.ran in
    let texts : map (λ t. t.now) ran.0 ≡ map (λ name. name) c.args.names.now =
    items_from_drains ran.0 ran.1 (YieldsList-from_map_by _ (λ t. t.now) (λ name. name)
    (YieldsList-at c.map.ensures.source (YieldsList-from_slice c.args.names.now c.iter.ensures.rest)) c.map.ensures.closure (λ x r q k. search rules)) in
    ap (λ count. ltb count (length c.args.names.now)) c.len.ensures.len
    ∙ fewer_distinct (λ t. t.now) ran.0 c.args.names.now _ (texts ∙ map-id c.args.names.now) ran.2
