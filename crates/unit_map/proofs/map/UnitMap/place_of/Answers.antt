-- What no note leads to isn't there.
use Rattle.std.proofs.Common.{IfNone, Option, None, Some}
use Rattle.std.proofs.lemmas.Option.{IfSome_then}
use Rattle.unit_map.proofs.EntryLemmas.{place_within}
use Rattle.unit_map.proofs.SoundnessLemmas.{key_laws, absent_everywhere}
use Rattle.unit_map.proofs.map.UnitMap.place_of.Goals as goal

IfNone-weaker : {X P Q : Type 0} (r : Option X) → (P → Q) → IfNone r P → IfNone r Q
IfNone-weaker None f p = f p
IfNone-weaker (Some x) f p = tt

pub returns-clause-absent : goal.returns-clause-absent
returns-clause-absent g c =
    let laws = key_laws g.K.PartialEq.eq g.K.Ord.cmp g.K.Hash.hash_input g.met.K.Eq.laws g.met.K.Ord.total g.met.K.Ord.matches_eq g.met.K.Hash.respects_eq in
    IfNone-weaker c.find.result
    (λ h. rw (← c.self.view_is) (absent_everywhere _ laws c.self.inside.index c.args.key.now c.self.inside.entries.items c.self.invariant.noted h))
    (rw c.deref.ensures.value at c.find.ensures.absent)

pub returns-clause-map : goal.returns-clause-map
returns-clause-map g c = rw (← c.self.view_is) c.self.invariant.map

pub returns-clause-found : goal.returns-clause-found
returns-clause-found g c = rw (← c.self.view_is) (rw c.deref.ensures.value at c.find.ensures.found)

pub returns-clause-within : goal.returns-clause-within
returns-clause-within g c =
    rw (← c.self.view_is) (IfSome_then c.find.result (rw c.deref.ensures.value at c.find.ensures.found)
    (λ place h. place_within g.K.PartialEq.eq c.args.key.now c.self.inside.entries.items place h))
