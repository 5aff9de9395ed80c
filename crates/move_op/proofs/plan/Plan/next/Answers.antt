-- The row of a message is that of its sender.
use Rattle.std.proofs.Common.{◌≡◌, eqb, true, false, eq-eqb, ne_eqb, sym, ◌∙◌, rules}
use Rattle.move_op.specs.Move.{source, destination}
use Rattle.move_op.proofs.plan.Plan.next.Goals as goal

pub returns-then-sender-source : goal.returns-then-sender-source
returns-then-sender-source c =
    let here : eqb c.args.sender (source c.args.self.now) ≡ true = eq-eqb _ _ (c.if-sender-source.true ∙ c.source.ensures) in
    let done = c.from_source.ensures in record { phase = rw here done.phase; stored = rw here done.stored; out = rw here done.out }

pub returns-then-sender-destination : goal.returns-then-sender-destination
returns-then-sender-destination c =
    let other : eqb c.args.sender (source c.args.self.now) ≡ false = ne_eqb _ _ (λ same. c.if-sender-source.false (same ∙ sym c.source.ensures)) in
    let here : eqb c.args.sender (destination c.args.self.now) ≡ true = eq-eqb _ _ (c.if-sender-destination.true ∙ c.destination.ensures) in
    let done = c.from_destination.ensures in
    record { phase = rw (other, here) done.phase; stored = rw (other, here) done.stored; out = rw (other, here) done.out }

pub returns : goal.returns
returns c =
    let other : eqb c.args.sender (source c.args.self.now) ≡ false = ne_eqb _ _ (λ same. c.if-sender-source.false (same ∙ sym c.source.ensures)) in
    let neither : eqb c.args.sender (destination c.args.self.now) ≡ false =
    ne_eqb _ _ (λ same. c.if-sender-destination.false (same ∙ sym c.destination.ensures)) in
    rw (other, neither) (search rules)
