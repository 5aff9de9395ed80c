-- The inside block of a site that translates is a /24, so its bits leave room for the last byte.
use Rattle.std.proofs.Common.{◌≡◌, ◌+◌, ◌/◌, ◌^◌, ◌<◌, arith, rules}
use Rattle.flow_filter.proofs.SiteLemmas.{is_24, last_byte_fits}
use Rattle.flow_filter.specs.Flow.{ports_per_host}
use Rattle.flow_filter.proofs.flow.mapped.Goals as goal

pub overflow_add-result : goal.overflow_add-result
overflow_add-result c =
    let is_len : c.args.site.now.inside.len ≡ 24 = is_24 _ _ _ _ _ c.args.site.now.translates c.requires in
    let fits : c.args.site.now.inside.bits + c.from-host.result / ports_per_host < 2 ^ 32 =
    last_byte_fits c.args.site.now.inside.bits c.args.site.now.inside.len (c.from-host.result / ports_per_host) is_len (omega arith)
    c.args.site.now.inside.aligned (omega arith) in
    search rules
