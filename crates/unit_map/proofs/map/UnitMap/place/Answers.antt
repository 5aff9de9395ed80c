-- A key without an entry gets one, behind the others.
use Rattle.std.proofs.Common.{◌∙◌, ap, refl}
use Rattle.std.proofs.lemmas.Result.{IfOk-weaker}
use Rattle.unit_map.specs.Entries.{record_of}
use Rattle.unit_map.proofs.EntryLemmas.{record_by_add, place_by_add, place_within, no_value}
use Rattle.unit_map.proofs.map.UnitMap.place.Goals as goal

pub returns-in-Some : goal.returns-in-Some
returns-in-Some g c = record {
  found = c.in-Some.ensures.found;
  within = c.in-Some.ensures.within;
  same = λ k. refl;
  map = c.place_of.ensures.map;
}

pub invariant_of-self : goal.invariant_of-self
invariant_of-self g c = c.make_room.ensures.sound

pub returns-in_err-make_room-clause-found : goal.returns-in_err-make_room-clause-found
returns-in_err-make_room-clause-found g c = no_value _ _ c.from_residual.ensures.0

pub returns-in_err-make_room-clause-within : goal.returns-in_err-make_room-clause-within
returns-in_err-make_room-clause-within g c = no_value _ _ c.from_residual.ensures.0

pub returns-in_err-make_room-clause-same : goal.returns-in_err-make_room-clause-same
returns-in_err-make_room-clause-same g c = λ k. c.make_room.ensures.same k ∙ ap (λ es. record_of g.K.PartialEq.eq es k) c.self.view_is

pub returns-in_err-make_room-clause-map : goal.returns-in_err-make_room-clause-map
returns-in_err-make_room-clause-map g c = c.make_room.ensures.sound.map

pub add-requires : goal.add-requires
add-requires g c = record {
  room = c.in_ok-make_room.ensures.room;
  sound = c.make_room.ensures.sound;
  absent = c.make_room.ensures.absent c.args.key (rw c.self.view_is c.in_default.ensures.absent);
}

pub invariant_of-self-2 : goal.invariant_of-self-2
invariant_of-self-2 g c = c.add.ensures.sound

pub returns-clause-same : goal.returns-clause-same
returns-clause-same g c = λ k.
    record_by_add g.K.PartialEq.eq g.met.K.Eq.laws c.add.result _ _ c.args.key
    (c.make_room.ensures.absent c.args.key (rw c.self.view_is c.in_default.ensures.absent)) c.add.ensures.ok c.add.ensures.err k
    ∙ c.make_room.ensures.same k ∙ ap (λ es. record_of g.K.PartialEq.eq es k) c.self.view_is

pub returns-clause-map : goal.returns-clause-map
returns-clause-map g c = c.add.ensures.sound.map

pub returns-clause-found : goal.returns-clause-found
returns-clause-found g c =
    place_by_add g.K.PartialEq.eq g.met.K.Eq.laws c.add.result _ c.add.new.entries.items c.args.key c.add.ensures.place c.add.ensures.ok

pub returns-clause-within : goal.returns-clause-within
returns-clause-within g c =
    IfOk-weaker c.add.result _ _ (λ place h. place_within g.K.PartialEq.eq c.args.key c.add.new.entries.items place h)
    (place_by_add g.K.PartialEq.eq g.met.K.Eq.laws c.add.result _ c.add.new.entries.items c.args.key c.add.ensures.place c.add.ensures.ok)
