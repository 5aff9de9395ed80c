-- One more sender's links.
use Rattle.std.proofs.Common.{◌≡◌, ◌+◌, sym, ◌∙◌, ap, subst, arith, map}
use Rattle.std.proofs.lemmas.List.{length-map, map-append}
use Rattle.actor_threads.specs.LinkTable.{RowOpened, AllOpened}
use Rattle.actor_threads.proofs.LinkTableLemmas.{all_opened_more}
use Rattle.actor_threads.proofs.links.open_rows.Goals as goal

pub loop-preserved : goal.loop-preserved
loop-preserved g c =
    let row = subst (λ n. RowOpened n c.in_ok-open_row.field-0.items (map (λ v. v.items) c.loop.takes.items)
    (map (λ v. v.items) c.open_row.new.takes.items)) (sym (length-map c.loop.takes.items (λ v. v.items))) c.in_ok-open_row.ensures in
    subst (λ l. AllOpened (c.loop.counter + 1) c.args.nodes l (map (λ v. v.items) c.open_row.new.takes.items))
    (sym (ap (map (λ v. v.items)) c.in_ok-push.ensures.items ∙ map-append _ c.loop.sends.items _))
    (all_opened_more _ _ _ _ _ _ c.loop.invariant row)

pub returns : goal.returns
returns g c =
    let done : c.loop.counter ≡ c.args.nodes = omega arith in
    subst (λ k. AllOpened k c.args.nodes (map (λ v. v.items) c.loop.sends.items) (map (λ v. v.items) c.loop.takes.items)) done c.loop.invariant
