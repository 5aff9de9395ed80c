-- A key's entry is looked for along its probes, and then in the tree.
use Rattle.std.proofs.Common.{◌≡◌, length, false, arith, ap, sym, ◌∙◌, subst}
use Rattle.std.specs.Option.{option_copied}
use Rattle.std.proofs.lemmas.Option.{none-some, same_Some}
use Rattle.unit_map.specs.Notes.{key_rules, has_key}
use Rattle.unit_map.proofs.ProbeLemmas.{slot_read, at_free, passed, taken_more, in_tree}
use Rattle.unit_map.proofs.index.Index.find_by_hash.Goals as goal
use Rattle.unit_map.proofs.index.Index.find_by_hash.Goals.{else-slot-tag-via-then-slot-tag+else-has_key, else-slot-tag-via-else-slot-tag}

pub returns-then-slot-eq0-clause-absent : goal.returns-then-slot-eq0-clause-absent
returns-then-slot-eq0-clause-absent g c =
    let index = c.args.self.now in
    let count : c.len-2.result ≡ length index.slots.items = omega (arith, c.len-2.ensures) in
    let at = slot_read index c.hash_of-hash.result c.len-2.result c.start_of-start.result c.loop-step.step c.index-slot.result.now count
    c.start_of-start.ensures.value (omega (arith, c.start_of-start.ensures.within, c.loop-step-test.true)) c.index-slot.ensures in
    at_free (key_rules g.K.PartialEq.eq g.K.Ord.cmp g.K.Hash.hash_input) index c.args.key.now c.args.entries.now c.hash_of-hash.result
    c.hash_of-hash.ensures c.loop-step.step c.index-slot.result.now c.loop-step-test.true c.loop-step.invariant.others at c.if-slot-eq0.true

pub loop-step-preserved : goal.loop-step-preserved
loop-step-preserved g c =
    let index = c.args.self.now in
    let hash = c.hash_of-hash.result in
    let slot = c.index-slot.result.now in
    let i = c.loop-step.step in
    let rules = key_rules g.K.PartialEq.eq g.K.Ord.cmp g.K.Hash.hash_input in
    let key = c.args.key.now in
    let es = c.args.entries.now in
    let count : c.len-2.result ≡ length index.slots.items = omega (arith, c.len-2.ensures) in
    let at = slot_read index hash c.len-2.result c.start_of-start.result i slot count c.start_of-start.ensures.value
    (omega (arith, c.start_of-start.ensures.within, c.loop-step-test.true)) c.index-slot.ensures in
    record {
      taken = taken_more rules index key es hash i slot c.loop-step.invariant.taken at c.if-slot-eq0.false;
      others = passed rules index key es hash i slot c.loop-step.invariant.others at (λ n is. elim c.else-slot-tag.branch [
        | else-slot-tag-via-then-slot-tag+else-has_key w ↦
            subst (λ k. has_key g.K.PartialEq.eq es k key ≡ false) (ap (λ s. s.number) is) (sym w.has_key.ensures ∙ w.if-has_key.false)
        | else-slot-tag-via-else-slot-tag w ↦ absurd (w.if-slot-tag.false (ap (λ s. s.tag) is ∙ sym c.tag_of-tag.ensures))
      ]);
    }

pub returns-in_default-clause-absent : goal.returns-in_default-clause-absent
returns-in_default-clause-absent g c =
    in_tree (key_rules g.K.PartialEq.eq g.K.Ord.cmp g.K.Hash.hash_input) c.args.self.now c.args.key.now c.args.entries.now c.hash_of-hash.result
    c.hash_of-hash.ensures c.loop-step.step c.loop-step-test.false c.loop-step.invariant.others (λ n got.
    subst (λ k. has_key g.K.PartialEq.eq c.args.entries.now k c.args.key.now ≡ false) (same_Some _ _ (c.in-Some.ensures.value ∙ got))
    (sym c.if-has_key-2.ensures))

pub returns-in_default-2-clause-absent : goal.returns-in_default-2-clause-absent
returns-in_default-2-clause-absent g c =
    in_tree (key_rules g.K.PartialEq.eq g.K.Ord.cmp g.K.Hash.hash_input) c.args.self.now c.args.key.now c.args.entries.now c.hash_of-hash.result
    c.hash_of-hash.ensures c.loop-step.step c.loop-step-test.false c.loop-step.invariant.others (λ n got.
    absurd (none-some n (sym (ap option_copied c.in_default.is) ∙ c.get.ensures.value ∙ got)))
