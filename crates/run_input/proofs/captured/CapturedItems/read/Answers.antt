-- The packets that were kept as items are the trace's.
use Rattle.std.proofs.Common.{◌≡◌, ◌≤◌, true, All, List, [], Ok, length, ap, sym, ◌∙◌, subst, arith}
use Rattle.flow_filter.specs.declared.packet.Packet.{Packet}
use Rattle.flow_filter.specs.Limits.{most_packets}
use Rattle.trace_reader.specs.Steered.{is_steered_proto}
use Rattle.trace_reader.specs.Records.{AreNumbered}
use Rattle.run_input.proofs.captured.CapturedItems.read.Goals as goal

pub returns-clause-trace : goal.returns-clause-trace
returns-clause-trace g c = λ bytes told.
    let gives = c.in_ok-end.ensures.trace bytes told in (
      gives.1 ∙ ap (λ (ps : List Packet). Ok (record { packets = ps; skipped = c.in_ok-end.end.skipped; cut = c.in_ok-end.end.cut }))
          (sym (gives.4 tt [] c.«open».ensures)),
      gives.3,
    )

pub returns-clause-numbers : goal.returns-clause-numbers
returns-clause-numbers g c =
    let handed = c.in_ok-end.ensures.steered in
    subst (λ (ps : List Packet). AreNumbered 1 ps) (sym (handed.kept tt [] c.«open».ensures)) handed.numbers

pub returns-clause-steered : goal.returns-clause-steered
returns-clause-steered g c =
    let handed = c.in_ok-end.ensures.steered in
    subst (All (λ (packet : Packet). is_steered_proto packet.proto ≡ true)) (sym (handed.kept tt [] c.«open».ensures)) handed.steered

pub returns-clause-few : goal.returns-clause-few
returns-clause-few g c =
    let handed = c.in_ok-end.ensures.steered in
    subst (λ (ps : List Packet). length ps ≤ most_packets) (sym (handed.kept tt [] c.«open».ensures)) (omega (arith, c.in_ok-end.ensures.few, handed.counted))

pub invariant_of-result : goal.invariant_of-result
invariant_of-result g c =
    let handed = c.in_ok-end.ensures.steered in
    ap (λ (ps : List Packet). length ps) (handed.kept tt [] c.«open».ensures) ∙ handed.counted
