-- The ways stand after those of the workers before.
use Rattle.std.proofs.Common.{ap, ◌∙◌, [], ◌∷◌, ◌++◌, map}
use Rattle.std.proofs.lemmas.List.{map-append}
use Rattle.actor_threads.proofs.round.add_ways.Goals as goal

pub returns : goal.returns
returns g c =
    let ins = c.args.all_ins.now.items in
    let outs = c.args.all_outs.now.items in
    record {
      ins = ap (map (λ v. v.items)) c.in_ok-push.ensures.items ∙ map-append (λ v. v.items) ins _
          ∙ ap (λ l. map (λ v. v.items) ins ++ l ∷ []) c.from_vec.ensures.items;
      outs = ap (map (λ v. v.items)) c.in_ok-push-2.ensures.items ∙ map-append (λ v. v.items) outs _
          ∙ ap (λ l. map (λ v. v.items) outs ++ l ∷ []) c.from_vec-2.ensures.items;
    }
