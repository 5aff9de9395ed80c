-- One more packet at the end has the next number.
use Rattle.std.proofs.Common.{◌≡◌, ℕ, ◌+◌, arith, true, All, List, [], ◌∷◌, ◌++◌, length, sym, ap, ◌∙◌, subst}
use Rattle.std.proofs.lemmas.List.{length-append}
use Rattle.std.proofs.lemmas.List.Elements.{All-push}
use Rattle.nf_function.specs.Units.{is_transport}
use Rattle.flow_filter.specs.declared.packet.Packet.{Packet}
use Rattle.trace_reader.specs.Records.{AreNumbered}
use Rattle.test_program.proofs.tests.threads_tests.packets.Goals as goal

numbered_push : (n : ℕ) (ps : List Packet) (p : Packet) → AreNumbered n ps → p.number ≡ n + length ps → AreNumbered n (ps ++ p ∷ [])
numbered_push n [] p first last = (omega (arith, last), tt)
numbered_push n (q ∷ ps) p first last = (first.0, numbered_push (n + 1) ps p first.1 (omega (arith, last)))

pub loop-number-preserved : goal.loop-number-preserved
loop-number-preserved c =
    let ps = c.loop-number.packets in
    let p = c.packet-next.result in
    let so_far = c.loop-number.invariant in
    let pushed : c.push.new.self ≡ ps ++ p ∷ [] = c.in_ok-push.ensures.ok in
    let number = c.packet-next.ensures.number in
    let count = so_far.count in
    record {
      numbers = subst (λ qs. AreNumbered 1 qs) (sym pushed) (numbered_push 1 ps p so_far.numbers (omega (arith, number, count)));
      count = ap length pushed ∙ length-append ps (p ∷ []) ∙ ap (λ n. n + 1) count;
      steered = subst (λ qs. All (λ q. is_transport q.proto ≡ true) qs) (sym pushed)
          (All-push (λ q. is_transport q.proto ≡ true) ps p so_far.steered c.packet-next.ensures.transport);
    }
