-- What the spans tell is no greater than the number of any share that matches, and what is open under it and matches is the lowest.
use Rattle.std.proofs.Common.{◌≡◌, rules, tests, true, eqb, None, Some, sym, ap, subst, ◌∙◌, arith}
use Rattle.std.specs.Map.{lookup}
use Rattle.switch_rules.specs.Spans.{is_up_to}
use Rattle.ctrl_node.specs.Operations.{is_shared_by, share_of}
use Rattle.ctrl_node.proofs.LowestShares.{no_share, told_share}
use Rattle.ctrl_node.proofs.operations.Operations.share_of.Goals as goal

pub returns-in_err-place : goal.returns-in_err-place
returns-in_err-place c =
    let none : c.next.result ≡ None = search (rules, tests) in
    let given : c.from_residual.result ≡ None = search (rules, tests) in
    given ∙ sym (subst (λ m. share_of m c.args.flow.now ≡ None) c.self.view_is
    (no_share c.self.inside.shares c.self.inside.by_number.entries c.args.flow.now c.self.invariant.0 c.self.invariant.1
    (λ op f noted matched. subst (λ told. is_up_to told op ≡ true) none (c.next.ensures.before op f (omega arith) noted matched))))

pub returns-in-Some : goal.returns-in-Some
returns-in-Some c =
    let place : c.next.result ≡ Some c.in_ok-place.place = search (rules, tests) in
    let number : c.in_ok-place.place ≡ c.in-Ok.op = search (rules, tests) in
    let told : c.next.result ≡ Some c.in-Ok.op = place ∙ ap (λ n. Some n) number in
    let at : lookup (eqb c.in-Ok.op) c.self.inside.by_number.entries ≡ Some c.in-Some.operation.now = sym c.in-Some.ensures.value in
    let shared : is_shared_by c.args.flow.now c.in-Some.operation.now ≡ true = search (rules, tests) in
    sym (subst (λ m. share_of m c.args.flow.now ≡ Some c.in-Ok.op) c.self.view_is
    (told_share c.self.inside.shares c.self.inside.by_number.entries c.args.flow.now c.self.invariant.0 c.self.invariant.1 c.in-Ok.op c.in-Some.operation.now
    (λ op f noted matched. subst (λ told. is_up_to told op ≡ true) told (c.next.ensures.before op f (omega arith) noted matched)) at shared))
