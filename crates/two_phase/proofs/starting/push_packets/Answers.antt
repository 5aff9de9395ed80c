-- A packet is moved; all are to be moved at first, and none in the end.
use Rattle.two_phase.proofs.Words.{◌≡◌, map, take, drop, ◌-◌, ◌+◌, ◌++◌, sym, ap, ◌∙◌, arith, InPacket}
use Rattle.std.proofs.Common.{append-nil}
use Rattle.two_phase.proofs.PushedPackets.{moved, still_left}
use Rattle.two_phase.proofs.starting.push_packets.Goals as goal

pub loop-count-preserved : goal.loop-count-preserved
loop-count-preserved c =
    let first = c.in-Some.ensures.items in
    let packet = c.in-Some.packet in
    let rest = c.pop_front.new.self.items in
    let more = c.loop-count-test.true in (
      ap (λ xs. xs ++ map InPacket (take (c.args.most - (c.loop-count._count + 1)) rest)) c.in_ok-push.ensures.items
          ∙ moved InPacket c.args.most c.loop-count._count more packet rest c.loop-count.left.items first c.loop-count.items.items
          ∙ c.loop-count.invariant.0,
      still_left InPacket c.args.most c.loop-count._count more packet rest c.loop-count.left.items first ∙ c.loop-count.invariant.1,
    )

pub loop-count-init : goal.loop-count-init
loop-count-init c =
    let left = c.args.left.now.items in
    let all : c.args.most - 0 ≡ c.args.most = omega arith in
    (ap (λ k. c.args.items.now.items ++ map InPacket (take k left)) all, ap (λ k. drop k left) all)

pub returns-after-loop-count : goal.returns-after-loop-count
returns-after-loop-count c =
    let items = c.loop-count.items.items in
    let left = c.loop-count.left.items in
    let none : c.args.most - c.loop-count._count ≡ 0 = omega (arith, c.loop-count-test.false) in
    record {
      items = sym (append-nil items) ∙ ap (λ k. items ++ map InPacket (take k left)) (sym none) ∙ c.loop-count.invariant.0;
      left = ap (λ k. drop k left) (sym none) ∙ c.loop-count.invariant.1;
    }
