-- The operation is written where it stands. A share keeps its filter, and so it is noted still.
use Rattle.std.proofs.Common.{◌≡◌, None, Some, refl, sym, ap, subst, ◌++◌, append-nil, ◌∙◌}
use Rattle.std.proofs.lemmas.Result.{on_ok_weaker}
use Rattle.std.specs.Prelude.{IsSome, OnOk, IfOk}
use Rattle.std.specs.Option.{option_copied_mut}
use Rattle.ctrl_node.specs.Operations.{turn_of, with_operation}
use Rattle.ctrl_node.proofs.OperationLookUps.{found_in, inserted, view}
use Rattle.ctrl_node.proofs.LowestShares.{written_noted}
use Rattle.ctrl_node.proofs.WrittenOperations.{written_step}
use Rattle.ctrl_node.proofs.operations.Operations.on.Goals as goal

pub invariant_of-self-2 : goal.invariant_of-self-2
invariant_of-self-2 c =
    let at = sym c.get_mut.ensures.value ∙ ap option_copied_mut c.in-Some.is in
    let through = c.get_mut.follows.holds c.on.new.self in
    written_noted c.self.inside.shares c.self.inside.by_number.entries (c.get_mut.follows.lender c.on.new.self).entries c.args.op c.in-Some.operation.now
    c.on.new.self c.self.invariant.0 c.self.invariant.1 at through.1 (through.3 (subst IsSome (sym at) refl)).0 c.on.ensures.filter

pub returns-clause-operations : goal.returns-clause-operations
returns-clause-operations c =
    let old = c.self.inside.by_number.entries in let now = c.on.new.self in let new = (c.get_mut.follows.lender now).entries in
    let at = sym c.get_mut.ensures.value ∙ ap option_copied_mut c.in-Some.is in
    subst (λ o. OnOk c.on.result (view new
    ≡ with_operation c.args.self.now c.args.op (turn_of o c.args.store.now c.args.sender c.args.message).operation))
    (sym (found_in old c.args.op c.self.view_is at))
    (on_ok_weaker c.on.result (λ same.
    inserted old new c.args.self.now c.args.op now c.self.view_is ((c.get_mut.follows.holds now).3 (subst IsSome (sym at) refl)).0
    ∙ written_step c.args.self.now c.args.op now (turn_of (Some c.in-Some.operation.now) c.args.store.now c.args.sender c.args.message).operation same)
    c.on.ensures.operation)

pub returns-in_default-clause-operations : goal.returns-in_default-clause-operations
returns-in_default-clause-operations c =
    let none = sym c.get_mut.ensures.value ∙ ap option_copied_mut c.in_default.is in
    subst (λ o. view c.get_mut.follows.lender-at-none.entries
    ≡ with_operation c.args.self.now c.args.op (turn_of o c.args.store.now c.args.sender c.args.message).operation)
    (sym (found_in c.self.inside.by_number.entries c.args.op c.self.view_is none)) (ap (λ m. view m.entries) c.get_mut.follows.holds-at-none ∙ c.self.view_is)

pub returns-in_default-clause-answer : goal.returns-in_default-clause-answer
returns-in_default-clause-answer c =
    let none = sym c.get_mut.ensures.value ∙ ap option_copied_mut c.in_default.is in
    subst (λ o. None ≡ (turn_of o c.args.store.now c.args.sender c.args.message).answer)
    (sym (found_in c.self.inside.by_number.entries c.args.op c.self.view_is none)) refl

pub returns-clause-answer : goal.returns-clause-answer
returns-clause-answer c =
    let at = sym c.get_mut.ensures.value ∙ ap option_copied_mut c.in-Some.is in
    subst (λ o. IfOk c.on.result (λ answer. answer ≡ (turn_of o c.args.store.now c.args.sender c.args.message).answer))
    (sym (found_in c.self.inside.by_number.entries c.args.op c.self.view_is at)) c.on.ensures.answer

pub returns-in_default-clause-store : goal.returns-in_default-clause-store
returns-in_default-clause-store c =
    let none = sym c.get_mut.ensures.value ∙ ap option_copied_mut c.in_default.is in
    subst (λ o. c.args.store.now ≡ (turn_of o c.args.store.now c.args.sender c.args.message).store)
    (sym (found_in c.self.inside.by_number.entries c.args.op c.self.view_is none)) refl

pub returns-in_default-clause-sends : goal.returns-in_default-clause-sends
returns-in_default-clause-sends c =
    let none = sym c.get_mut.ensures.value ∙ ap option_copied_mut c.in_default.is in
    subst (λ o. c.args.out.now.0 ≡ c.args.out.now.0 ++ (turn_of o c.args.store.now c.args.sender c.args.message).sends)
    (sym (found_in c.self.inside.by_number.entries c.args.op c.self.view_is none)) (sym (append-nil c.args.out.now.0))

pub returns-clause-store : goal.returns-clause-store
returns-clause-store c =
    let at = sym c.get_mut.ensures.value ∙ ap option_copied_mut c.in-Some.is in
    subst (λ o. OnOk c.on.result (c.on.new.store ≡ (turn_of o c.args.store.now c.args.sender c.args.message).store))
    (sym (found_in c.self.inside.by_number.entries c.args.op c.self.view_is at)) c.on.ensures.store

pub returns-clause-sends : goal.returns-clause-sends
returns-clause-sends c =
    let at = sym c.get_mut.ensures.value ∙ ap option_copied_mut c.in-Some.is in
    subst (λ o. OnOk c.on.result (c.on.new.out.0 ≡ c.args.out.now.0 ++ (turn_of o c.args.store.now c.args.sender c.args.message).sends))
    (sym (found_in c.self.inside.by_number.entries c.args.op c.self.view_is at)) c.on.ensures.sends
