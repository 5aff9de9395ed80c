-- Each filter that was noted is noted still, and so is the new one.
use Rattle.std.proofs.Common.{◌≡◌, true, subst, sym, ◌∙◌, Some, ◌&&◌}
use Rattle.std.specs.Prelude.{position}
use Rattle.std.proofs.lemmas.Result.{on_ok_weaker}
use Rattle.switch_rules.specs.Masks.{mask_eq}
use Rattle.switch_rules.specs.Rules.{target_eq}
use Rattle.switch_rules.specs.Spans.{is_noted, is_of}
use Rattle.switch_rules.proofs.SpanLemmas.{IsWidened, noted_here, noted_last, noted_still}
use Rattle.switch_rules.proofs.spans.Spans.note.Goals as goal

pub returns-in-Some-clause-kept : goal.returns-in-Some-clause-kept
returns-in-Some-clause-kept c i f t noted =
    let g = c.index_mut.result.now in
    noted_still c.note.result c.self.inside.groups.items c.in-Some.at g c.note.new.self c.values_of-key.result c.args.place c.index_mut.ensures.value
    c.note.ensures.mask c.note.ensures.from c.note.ensures.spans c.note.ensures.err i f t (subst (λ gs. is_noted gs i f t ≡ true) (sym c.self.view_is) noted)

pub returns-in-Some-clause-noted : goal.returns-in-Some-clause-noted
returns-in-Some-clause-noted c = on_ok_weaker c.note.result (λ own.
    let f = c.args.filter.now in let t = c.args.from in let g = c.index_mut.result.now in let gs = c.self.inside.groups.items in
    noted_here gs c.in-Some.at c.args.place f t g c.note.new.self
    (subst (λ xs. position (is_of f t) xs ≡ Some c.in-Some.at) c.deref.ensures.value
    (subst (λ m. position (λ x. mask_eq x.mask m && target_eq x.from t) c.deref.result.now ≡ Some c.in-Some.at) c.of-mask.ensures (sym c.in-Some.ensures)))
    c.index_mut.ensures.value c.note.ensures.mask c.note.ensures.from
    (subst (λ key. IsWidened key c.args.place g c.note.new.self) c.values_of-key.ensures own)) c.note.ensures.spans

pub returns-in_ok-push-in-None-clause-noted : goal.returns-in_ok-push-in-None-clause-noted
returns-in_ok-push-in-None-clause-noted c =
    let f = c.args.filter.now in let t = c.args.from in let g = c.note-in-None.new.self in
    subst (λ gs. is_noted gs c.args.place f t ≡ true) (sym c.in_ok-push-in-None.ensures.items)
    (noted_last c.self.inside.groups.items c.args.place f t c.open-group.result g
    (c.in_ok-note-in-None.ensures.mask ∙ c.open-group.ensures.mask ∙ c.of-mask.ensures) (c.in_ok-note-in-None.ensures.from ∙ c.open-group.ensures.from)
    (subst (λ key. IsWidened key c.args.place c.open-group.result g) c.values_of-key.ensures c.in_ok-note-in-None.ensures.spans))
