-- One more redirect, in the last section or in one of its own.
use Rattle.std.proofs.Common.{◌++◌, ◌∷◌, [], set, ap, ◌∙◌, arith, Result, Ok, Err, IsErr, OnOk, OnErr}
use Rattle.std.specs.Prelude.{flat_map}
use Rattle.std.proofs.lemmas.Result.{on_ok_weaker}
use Rattle.switch_rules.proofs.SectionLemmas.{last_section}
use Rattle.switch_rules.proofs.redirect_list.RedirectList.push.Goals as goal

pub returns-in_ok-note-in-Some-clause-ok : goal.returns-in_ok-note-in-Some-clause-ok
returns-in_ok-note-in-Some-clause-ok c = on_ok_weaker c.push.result (λ added.
    let sections = c.self.inside.sections.items in let last = c.in-Some.last in let r = c.args.redirect in
    ap (λ section. flat_map (λ s. s) (set sections last section)) added
    ∙ last_section sections last c.index_mut.result.now r (omega (arith, c.in-Some.ensures.last, c.deref.ensures.len))
    (omega (arith, c.in-Some.ensures.last, c.deref.ensures.len)) c.index_mut.ensures.value
    ∙ ap (λ redirects. redirects ++ r ∷ []) c.self.view_is) c.push.ensures.ok

no_value : {T E : Type 0} (P : Type 0) (r : Result T E) → IsErr r → OnOk r P
no_value P (Ok x) h = absurd (cc)
no_value P (Err e) h = tt

in_any_case : {T E P : Type 0} (r : Result T E) → P → OnErr r P
in_any_case (Ok x) p = tt
in_any_case (Err e) p = p

pub returns-in_err-note-in-Some-clause-ok : goal.returns-in_err-note-in-Some-clause-ok
returns-in_err-note-in-Some-clause-ok c = no_value _ _ c.from_residual.ensures.0

pub returns-in_err-note-in-Some-clause-err : goal.returns-in_err-note-in-Some-clause-err
returns-in_err-note-in-Some-clause-err c = in_any_case _ c.self.view_is

pub returns-in_err-note-in-None-clause-ok : goal.returns-in_err-note-in-None-clause-ok
returns-in_err-note-in-None-clause-ok c = no_value _ _ c.from_residual-in_err-note-in-None.ensures.0

pub returns-in_err-note-in-None-clause-err : goal.returns-in_err-note-in-None-clause-err
returns-in_err-note-in-None-clause-err c = in_any_case _ c.self.view_is

pub returns-in_err-push-in-None-clause-ok : goal.returns-in_err-push-in-None-clause-ok
returns-in_err-push-in-None-clause-ok c = no_value _ _ c.from_residual-in_err-push-in-None.ensures.0

pub returns-in_err-push-in-None-clause-err : goal.returns-in_err-push-in-None-clause-err
returns-in_err-push-in-None-clause-err c = in_any_case _ (ap (flat_map (λ s. s)) c.in_err-push-in-None.ensures.items ∙ c.self.view_is)
