-- Each step from a stage before the move streams leads to a stage, with the unit's packets in order.
use Rattle.std.proofs.Common.{ℕ, Bool, List, [], ◌∷◌, ◌++◌, map, refl, sym, append_assoc, append-nil}
use Rattle.std.proofs.lemmas.List.{map-append}
use Rattle.std.proofs.lemmas.List.Elements.{filter_map-append}
use Rattle.std.proofs.lemmas.List.Sums.{fold-append}
use Rattle.proof_machines.proofs.unit.Machine.{Where, At_a, Ran, Steps, after, Part, MachineStep, Begin, Arrive, Take_sa, Take_ac, Take_ca}
use Rattle.proof_machines.proofs.unit.Lists.{firsts-on, Event_of, Piece_of, events-sent, pieces-sent, named-sent, shown-sent}
use Rattle.proof_machines.proofs.unit.UnitPieces.{ArePiecesOf, pick_all, not_nil}
use Rattle.proof_machines.proofs.unit.Stages.{At_rest, Begun, Frozen, Stream_goes, Streams, Flows, Is_shut, body, shape, Allowed, GoesOn, Placed}

pub ruleset shapes = (map-append, append_assoc, append-nil, firsts-on, fold-append)

pub ruleset paths = (map-append, firsts-on, append_assoc, append-nil, filter_map-append)

pub still : (w : Where) (d : List Ran) → Placed w d d
still w d = ([], sym (append-nil d))

pub one_more : (w : Where) (d : List Ran) (p : ℕ) → Placed w d (d ++ (p, w) ∷ [])
one_more w d p = (p ∷ [], refl)

pub at_rest : {R : Type 0} (F : Steps R) (d : List Ran) (l : List ℕ) (k : Bool) (m : MachineStep R) → GoesOn F (At_rest d l k) m
at_rest F d l k (Begin keep) = (Begun d l keep, first_of (simp shapes, cc), first_of (simp paths, cc), still At_a d)
at_rest F d l k (Arrive p) = (At_rest d (l ++ p ∷ []) k, first_of (simp shapes, cc), first_of (simp paths, cc), still At_a d)
at_rest F d [] k Take_sa = (At_rest d [] k, first_of (simp shapes, cc), first_of (simp paths, cc), still At_a d)
at_rest F d (p ∷ l) k Take_sa = (At_rest (d ++ (p, At_a) ∷ []) l k, first_of (simp shapes, cc), first_of (simp paths, cc), one_more At_a d p)
at_rest F d l k m = (At_rest d l k, first_of (simp shapes, cc), first_of (simp paths, cc), still At_a d)

pub begun_on : {R : Type 0} (F : Steps R) (d : List Ran) (l : List ℕ) (k : Bool) (m : MachineStep R) → GoesOn F (Begun d l k) m
begun_on F d l k (Arrive p) = (Begun d (l ++ p ∷ []) k, first_of (simp shapes, cc), first_of (simp paths, cc), still At_a d)
begun_on F d [] k Take_sa = (Begun d [] k, first_of (simp shapes, cc), first_of (simp paths, cc), still At_a d)
begun_on F d (p ∷ l) k Take_sa = (Begun (d ++ (p, At_a) ∷ []) l k, first_of (simp shapes, cc), first_of (simp paths, cc), one_more At_a d p)
begun_on F d l k (Take_ca parts) = (Frozen d [] l k, first_of (simp shapes, cc), first_of (simp paths, cc), still At_a d)
begun_on F d l k m = (Begun d l k, first_of (simp shapes, cc), first_of (simp paths, cc), still At_a d)

pub frozen : {R : Type 0} (F : Steps R) (d : List Ran) (e l : List ℕ) (k : Bool) (m : MachineStep R) → GoesOn F (Frozen d e l k) m
frozen F d e l k (Arrive p) = (Frozen d e (l ++ p ∷ []) k, first_of (simp shapes, cc), first_of (simp paths, cc), still At_a d)
frozen F d e [] k Take_sa = (Frozen d e [] k, first_of (simp shapes, cc), first_of (simp paths, cc), still At_a d)
frozen F d e (p ∷ l) k Take_sa = (Frozen d (e ++ p ∷ []) l k, first_of (simp shapes, cc), first_of (simp paths, cc), still At_a d)
frozen F d e l k Take_ac = (Stream_goes d [] e l k, first_of (simp shapes, cc), first_of (simp paths, cc), still At_a d)
frozen F d e l k m = (Frozen d e l k, first_of (simp shapes, cc), first_of (simp paths, cc), still At_a d)

-- what a Stream leaves on the link is the pieces, behind the events
sent : {R : Type 0} (F : Steps R) (d : List Ran) (e : List ℕ) (parts : List (Part R)) → ArePiecesOf parts (after F d)
    → Flows F d Is_shut (body (map Event_of e ++ map Piece_of parts) [])
sent F d e parts fits = record { fits = rw (named-sent e parts, pieces-sent e parts) fits; going = refl }

pub stream_goes : {R : Type 0} (F : Steps R) (d : List Ran) (f e l : List ℕ) (k : Bool) (m : MachineStep R) → Allowed (shape F (Stream_goes d f e l k)) m
    → GoesOn F (Stream_goes d f e l k) m
stream_goes F d f e l k (Arrive p) a = (Stream_goes d f e (l ++ p ∷ []) k, first_of (simp shapes, cc), first_of (simp paths, cc), still At_a d)
stream_goes F d f e [] k Take_sa a = (Stream_goes d f e [] k, first_of (simp shapes, cc), first_of (simp paths, cc), still At_a d)
stream_goes F d f e (p ∷ l) k Take_sa a = (Stream_goes d f (e ++ p ∷ []) l k, first_of (simp shapes, cc), first_of (simp paths, cc), still At_a d)
stream_goes F d f [] l k Take_ac a = (Stream_goes d f [] l k, first_of (simp shapes, cc), first_of (simp paths, cc), still At_a d)
stream_goes F d f (p ∷ e) l k Take_ac a = (Stream_goes d (f ++ p ∷ []) e l k, first_of (simp shapes, cc), first_of (simp paths, cc), still At_a d)
stream_goes F d f e l k (Take_ca parts) a = (
  Streams d f (map Event_of e ++ map Piece_of parts) [] l k Is_shut (sent F d e parts a),
  rw (shown-sent e parts, named-sent e parts, pieces-sent e parts, pick_all parts (after F d) a, not_nil parts (after F d) a) (simp append-nil),
  simp (events-sent, append-nil),
  still At_a d,
)
stream_goes F d f e l k m a = (Stream_goes d f e l k, first_of (simp shapes, cc), first_of (simp paths, cc), still At_a d)
