-- The share is written where it stands, and any other operation as it was. A share keeps its filter, and so it is noted still.
use Rattle.std.proofs.Common.{◌≡◌, Some, refl, sym, ap, subst, ◌++◌, append-nil, ◌∙◌}
use Rattle.std.proofs.lemmas.Result.{on_ok_weaker}
use Rattle.std.specs.Prelude.{IsSome, OnOk}
use Rattle.std.specs.Option.{option_copied_mut}
use Rattle.ctrl_node.specs.Operations.{serving_of, with_operation}
use Rattle.ctrl_node.proofs.OperationLookUps.{found_in, inserted, view}
use Rattle.ctrl_node.proofs.LowestShares.{written_noted}
use Rattle.ctrl_node.proofs.WrittenOperations.{written}
use Rattle.ctrl_node.proofs.operations.Operations.serve.Goals as goal

pub invariant_of-self-2 : goal.invariant_of-self-2
invariant_of-self-2 c =
    let at = sym c.get_mut.ensures.value ∙ ap option_copied_mut c.in-Some.is in
    let through = c.get_mut.follows.holds c.serve.new.self in
    written_noted c.self.inside.shares c.self.inside.by_number.entries (c.get_mut.follows.lender c.serve.new.self).entries c.args.op c.in-Some.operation.now
    c.serve.new.self c.self.invariant.0 c.self.invariant.1 at through.1 (through.3 (subst IsSome (sym at) refl)).0 c.serve.ensures.filter

pub returns-clause-operations : goal.returns-clause-operations
returns-clause-operations c =
    let old = c.self.inside.by_number.entries in let was = c.in-Some.operation.now in let now = c.serve.new.self in
    let at = sym c.get_mut.ensures.value ∙ ap option_copied_mut c.in-Some.is in
    let found = found_in old c.args.op c.self.view_is at in
    let new = (c.get_mut.follows.lender now).entries in
    subst (λ o. OnOk c.serve.result (view new ≡ with_operation c.args.self.now c.args.op (serving_of o c.args.store.now).operation)) (sym found)
    (on_ok_weaker c.serve.result (λ same.
    inserted old new c.args.self.now c.args.op now c.self.view_is ((c.get_mut.follows.holds now).3 (subst IsSome (sym at) refl)).0
    ∙ written c.args.self.now c.args.op was now (serving_of (Some was) c.args.store.now).operation found same) c.serve.ensures.operation)

pub returns-in_default-clause-operations : goal.returns-in_default-clause-operations
returns-in_default-clause-operations c =
    let none = sym c.get_mut.ensures.value ∙ ap option_copied_mut c.in_default.is in
    subst (λ o. view c.get_mut.follows.lender-at-none.entries ≡ with_operation c.args.self.now c.args.op (serving_of o c.args.store.now).operation)
    (sym (found_in c.self.inside.by_number.entries c.args.op c.self.view_is none)) (ap (λ m. view m.entries) c.get_mut.follows.holds-at-none ∙ c.self.view_is)

pub returns-in_default-clause-store : goal.returns-in_default-clause-store
returns-in_default-clause-store c =
    let none = sym c.get_mut.ensures.value ∙ ap option_copied_mut c.in_default.is in
    subst (λ o. c.args.store.now ≡ (serving_of o c.args.store.now).store) (sym (found_in c.self.inside.by_number.entries c.args.op c.self.view_is none)) refl

pub returns-in_default-clause-sends : goal.returns-in_default-clause-sends
returns-in_default-clause-sends c =
    let none = sym c.get_mut.ensures.value ∙ ap option_copied_mut c.in_default.is in
    subst (λ o. c.args.out.now.0 ≡ c.args.out.now.0 ++ (serving_of o c.args.store.now).sends)
    (sym (found_in c.self.inside.by_number.entries c.args.op c.self.view_is none)) (sym (append-nil c.args.out.now.0))

pub returns-clause-store : goal.returns-clause-store
returns-clause-store c =
    let at = sym c.get_mut.ensures.value ∙ ap option_copied_mut c.in-Some.is in
    subst (λ o. OnOk c.serve.result (c.serve.new.store ≡ (serving_of o c.args.store.now).store))
    (sym (found_in c.self.inside.by_number.entries c.args.op c.self.view_is at)) c.serve.ensures.store

pub returns-clause-sends : goal.returns-clause-sends
returns-clause-sends c =
    let at = sym c.get_mut.ensures.value ∙ ap option_copied_mut c.in-Some.is in
    subst (λ o. OnOk c.serve.result (c.serve.new.out.0 ≡ c.args.out.now.0 ++ (serving_of o c.args.store.now).sends))
    (sym (found_in c.self.inside.by_number.entries c.args.op c.self.view_is at)) c.serve.ensures.sends
