-- One more note goes from the front of the list to the end of the log.
use Rattle.std.proofs.Common.{◌≡◌, ◌+◌, ◌++◌, ◌∷◌, [], take, drop, length, length-drop, ap, sym, ◌∙◌, refl, append-nil, append_assoc, add-one, arith}
use Rattle.actor_threads.proofs.NotesByCounts.{rest_after, taken_more}
use Rattle.actor_threads.proofs.notes.give.Goals as goal

pub loop-init : goal.loop-init
loop-init g c = record { within = omega arith; rest = refl; moved = sym (append-nil _) }

pub loop-preserved : goal.loop-preserved
loop-preserved g c =
    let inv = c.loop.invariant in
    let k = c.loop.counter in
    let all = c.args.all.now.items in
    let log = c.args.log.now.items in
    let shown = sym inv.rest ∙ c.in-Some.ensures.items in
    let taken : take k all ++ c.in-Some.note ∷ [] ≡ take (k + 1) all = rw add-one (sym (taken_more k _ _ _ shown)) in
    record {
      within = omega (arith, c.loop-test.true);
      rest = rw add-one (sym (rest_after k _ _ _ shown));
      moved = c.in_ok-push-in-Some.ensures.items ∙ ap (λ l. l ++ c.in-Some.note ∷ []) inv.moved ∙ append_assoc log (take k all) (c.in-Some.note ∷ [])
          ∙ ap (λ l. log ++ l) taken;
    }

pub returns : goal.returns
returns g c =
    let inv = c.loop.invariant in
    let done : c.loop.counter ≡ c.args.count = omega (arith, inv.within, c.loop-test.false) in
    record {
      all = inv.rest ∙ ap (λ n. drop n c.args.all.now.items) done;
      log = inv.moved ∙ ap (λ n. c.args.log.now.items ++ take n c.args.all.now.items) done;
      err = omega (arith, ap length inv.rest, length-drop c.loop.counter c.args.all.now.items, done);
    }
