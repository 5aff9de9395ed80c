-- Places stay those of their keys while further entries are added.
use Rattle.std.proofs.Common.{arith, ◌≡◌, ◌∙◌, ◌+◌, refl, sym, ap, subst, true, List, [], ◌∷◌, ◌++◌, take}
use Rattle.std.specs.List.{AllZip}
use Rattle.std.proofs.lemmas.List.{take_all, take_more}
use Rattle.std.specs.Map.{keys_of}
use Rattle.unit_map.specs.Entries.{is_place_of, record_of}
use Rattle.unit_map.proofs.EntryLemmas.{keys_added, no_value}
use Rattle.unit_map.proofs.map.UnitMap.places.Goals as goal

AllZip-weaker : {A B : Type 0} (P Q : A → B → Type 0) → ((a : A) (b : B) → P a b → Q a b) → (xs : List A) (ys : List B) → AllZip P xs ys → AllZip Q xs ys
AllZip-weaker P Q f [] [] h = h
AllZip-weaker P Q f [] (y ∷ ys) h = h
AllZip-weaker P Q f (x ∷ xs) [] h = h
AllZip-weaker P Q f (x ∷ xs) (y ∷ ys) h = (f x y h.0, AllZip-weaker P Q f xs ys h.1)

AllZip-more : {A B : Type 0} (R : A → B → Type 0) (xs : List A) (ys : List B) (x : A) (y : B) → AllZip R xs ys → R x y → AllZip R (xs ++ x ∷ []) (ys ++ y ∷ [])
AllZip-more R [] [] x y h r = (r, h)
AllZip-more R [] (z ∷ ys) x y h r = absurd h
AllZip-more R (z ∷ xs) [] x y h r = absurd h
AllZip-more R (z ∷ xs) (w ∷ ys) x y h r = (h.0, AllZip-more R xs ys x y h.1 r)

pub invariant_of-self : goal.invariant_of-self
invariant_of-self g c = c.make_room.ensures.sound

pub returns-in_err-places-clause-found : goal.returns-in_err-places-clause-found
returns-in_err-places-clause-found g c = no_value _ _ c.from_residual.ensures.0

pub returns-in_err-places-clause-same : goal.returns-in_err-places-clause-same
returns-in_err-places-clause-same g c = λ k. refl

pub returns-in_err-places-clause-map : goal.returns-in_err-places-clause-map
returns-in_err-places-clause-map g c = rw (← c.self.view_is) c.self.invariant.map

pub returns-in_err-make_room-clause-found : goal.returns-in_err-make_room-clause-found
returns-in_err-make_room-clause-found g c = no_value _ _ c.from_residual-in_err-make_room.ensures.0

pub returns-in_err-make_room-clause-same : goal.returns-in_err-make_room-clause-same
returns-in_err-make_room-clause-same g c = λ k. c.make_room.ensures.same k ∙ ap (λ es. record_of g.K.PartialEq.eq es k) c.self.view_is

pub returns-in_err-make_room-clause-map : goal.returns-in_err-make_room-clause-map
returns-in_err-make_room-clause-map g c = c.make_room.ensures.sound.map

pub loop-item-init : goal.loop-item-init
loop-item-init g c = record {
  room = c.in_ok-make_room.ensures.room;
  sound = c.make_room.ensures.sound;
  found = rw c.in_ok-places.ensures.items tt;
  same = λ k. c.make_room.ensures.same k ∙ ap (λ es. record_of g.K.PartialEq.eq es k) c.self.view_is;
}

pub invariant_of-self-in-loop-item : goal.invariant_of-self-in-loop-item
invariant_of-self-in-loop-item g c = c.loop-item.invariant.sound

pub place_in-requires : goal.place_in-requires
place_in-requires g c = record { room = c.loop-item.invariant.room; sound = c.loop-item.invariant.sound }

pub invariant_of-self-in_err-place : goal.invariant_of-self-in_err-place
invariant_of-self-in_err-place g c = c.place_in.ensures.sound

pub returns-in_err-place-clause-found : goal.returns-in_err-place-clause-found
returns-in_err-place-clause-found g c = no_value _ _ c.from_residual-in_err-place.ensures.0

pub returns-in_err-place-clause-same : goal.returns-in_err-place-clause-same
returns-in_err-place-clause-same g c = λ k. c.place_in.ensures.same k ∙ c.loop-item.invariant.same k

pub returns-in_err-place-clause-map : goal.returns-in_err-place-clause-map
returns-in_err-place-clause-map g c = c.place_in.ensures.sound.map

pub invariant_of-self-in_err-push : goal.invariant_of-self-in_err-push
invariant_of-self-in_err-push g c = c.place_in.ensures.sound

pub returns-in_err-push-clause-found : goal.returns-in_err-push-clause-found
returns-in_err-push-clause-found g c = no_value _ _ c.from_residual-in_err-push.ensures.0

pub returns-in_err-push-clause-same : goal.returns-in_err-push-clause-same
returns-in_err-push-clause-same g c = λ k. c.place_in.ensures.same k ∙ c.loop-item.invariant.same k

pub returns-in_err-push-clause-map : goal.returns-in_err-push-clause-map
returns-in_err-push-clause-map g c = c.place_in.ensures.sound.map

pub loop-item-preserved : goal.loop-item-preserved
loop-item-preserved g c =
    let items = c.args.items.now in
    let i = c.loop-item.item-index in
    let item = c.item-item.result in
    let keys = keys_of (take i items) in
    let more : keys_of (take (i + 1) items) ≡ keys ++ item.0 ∷ [] =
    ap keys_of (take_more items i item c.loop-item-test.true ∙ ap (λ e. take i items ++ e ∷ []) (sym c.item-item.is))
    ∙ keys_added g.K.PartialEq.eq item.0 item.1 (take i items) in
    record {
      room = c.place_in.ensures.room;
      sound = c.place_in.ensures.sound;
      found = rw (more, c.in_ok-push.ensures.items) (AllZip-more _ keys c.loop-item.places.items item.0 c.in_ok-place.place
          (AllZip-weaker _ _ (λ k place h. c.place_in.ensures.stays place k h) keys c.loop-item.places.items c.loop-item.invariant.found)
          c.in_ok-place.ensures.found);
      same = λ k. c.place_in.ensures.same k ∙ c.loop-item.invariant.same k;
    }

pub returns : goal.returns
returns g c = record {
  found = subst (λ es. AllZip (λ k place. is_place_of g.K.PartialEq.eq c.loop-item.self-inside.entries.items place k ≡ true)
      (keys_of es) c.loop-item.places.items)
      (take_all c.loop-item.item-index c.args.items.now (omega (arith, c.loop-item-test.false))) c.loop-item.invariant.found;
  same = c.loop-item.invariant.same;
  map = c.loop-item.invariant.sound.map;
}
