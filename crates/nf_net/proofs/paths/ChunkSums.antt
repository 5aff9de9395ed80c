-- A record that is on its way at a seat stands at one place: on a link between the controller and a side of the move, or in a piece that the
-- controller keeps.
use Rattle.nf_net.proofs.Words.{◌≡◌, List, [], ◌∷◌, ◌++◌, refl, append-nil, ap, ◌∙◌, State, nil_left, nil_right, records_on}
use Rattle.proof_machines.proofs.unit.Machine.{Phase}
use Rattle.proof_machines.proofs.unit.Kept.{frozen_in, free_in, on_way}

-- the unit's record in the pieces that the controller keeps
abbrev pub kept_records : {R : Type 0} → Phase R → List R
kept_records ph = frozen_in ph ++ free_in ph

-- nothing is on its way
pub record IsEmpty {R : Type 0} (x : State R) : Type 0 where
  pub ac : records_on x.ac ≡ []
  pub bc : records_on x.bc ≡ []
  pub ca : records_on x.ca ≡ []
  pub cb : records_on x.cb ≡ []
  pub kept : kept_records x.phase ≡ []

-- a record is, at one place
pub data IsAt {R : Type 0} (x : State R) (r : R) : Type 0 where
  From_a : records_on x.ac ≡ r ∷ [] → records_on x.bc ≡ [] → records_on x.ca ≡ [] → records_on x.cb ≡ [] → kept_records x.phase ≡ [] → IsAt x r
  From_b : records_on x.bc ≡ r ∷ [] → records_on x.ac ≡ [] → records_on x.ca ≡ [] → records_on x.cb ≡ [] → kept_records x.phase ≡ [] → IsAt x r
  To_a : records_on x.ca ≡ r ∷ [] → records_on x.ac ≡ [] → records_on x.bc ≡ [] → records_on x.cb ≡ [] → kept_records x.phase ≡ [] → IsAt x r
  To_b : records_on x.cb ≡ r ∷ [] → records_on x.ac ≡ [] → records_on x.bc ≡ [] → records_on x.ca ≡ [] → kept_records x.phase ≡ [] → IsAt x r
  In_store : kept_records x.phase ≡ r ∷ [] → records_on x.ac ≡ [] → records_on x.bc ≡ [] → records_on x.ca ≡ [] → records_on x.cb ≡ [] → IsAt x r

-- one record in one of two lists
data Split {R : Type 0} (r : R) (xs ys : List R) : Type 0 where
  In_left : xs ≡ r ∷ [] → ys ≡ [] → Split r xs ys
  In_right : xs ≡ [] → ys ≡ r ∷ [] → Split r xs ys

split : {R : Type 0} (r : R) (xs ys : List R) → xs ++ ys ≡ r ∷ [] → Split r xs ys
split r [] ys e = In_right refl e
split r (x ∷ xs) ys e =
    let same : x ≡ r = cc in
    let more : xs ++ ys ≡ [] = cc in
    In_left (rw (nil_left xs ys more, same) refl) (nil_right xs ys more)

both_nil : {R : Type 0} (xs ys : List R) → xs ≡ [] → ys ≡ [] → xs ++ ys ≡ []
both_nil xs ys a b = rw (a, b) refl

module _ {R : Type 0} (x : State R) where
  -- the lists of what is on its way, from each place on
  abbrev from_free : List R
  from_free = free_in x.phase ++ records_on x.ca

  abbrev from_puts : List R
  from_puts = records_on x.cb ++ from_free

  abbrev from_answers : List R
  from_answers = records_on x.bc ++ from_puts

  abbrev from_frozen : List R
  from_frozen = frozen_in x.phase ++ from_answers

  pub none_of : on_way x ≡ [] → IsEmpty x
  none_of none =
      let after_pieces : from_frozen ≡ [] = nil_right (records_on x.ac) from_frozen none in
      let after_frozen : from_answers ≡ [] = nil_right (frozen_in x.phase) from_answers after_pieces in
      let after_answers : from_puts ≡ [] = nil_right (records_on x.bc) from_puts after_frozen in
      let after_puts : from_free ≡ [] = nil_right (records_on x.cb) from_free after_answers in
      record {
        ac = nil_left (records_on x.ac) from_frozen none;
        bc = nil_left (records_on x.bc) from_puts after_frozen;
        ca = nil_right (free_in x.phase) (records_on x.ca) after_puts;
        cb = nil_left (records_on x.cb) from_free after_answers;
        kept = both_nil (frozen_in x.phase) (free_in x.phase) (nil_left (frozen_in x.phase) from_answers after_pieces)
            (nil_left (free_in x.phase) (records_on x.ca) after_puts);
      }

  module _ (r : R) where
    by_free : records_on x.ac ≡ [] → frozen_in x.phase ≡ [] → records_on x.bc ≡ [] → records_on x.cb ≡ [] → Split r (free_in x.phase) (records_on x.ca)
        → IsAt x r
    by_free ac to_remove bc cb (In_left free ca) = In_store (ap (λ v. v ++ free_in x.phase) to_remove ∙ free) ac bc ca cb
    by_free ac to_remove bc cb (In_right free ca) = To_a ca ac bc cb (both_nil (frozen_in x.phase) (free_in x.phase) to_remove free)

    by_puts : records_on x.ac ≡ [] → frozen_in x.phase ≡ [] → records_on x.bc ≡ [] → Split r (records_on x.cb) from_free → IsAt x r
    by_puts ac to_remove bc (In_left cb none) = To_b cb ac bc (nil_right (free_in x.phase) (records_on x.ca) none)
        (both_nil (frozen_in x.phase) (free_in x.phase) to_remove (nil_left (free_in x.phase) (records_on x.ca) none))
    by_puts ac to_remove bc (In_right cb some) = by_free ac to_remove bc cb (split r (free_in x.phase) (records_on x.ca) some)

    by_answers : records_on x.ac ≡ [] → frozen_in x.phase ≡ [] → Split r (records_on x.bc) from_puts → IsAt x r
    by_answers ac to_remove (In_left bc none) =
        let after_puts : from_free ≡ [] = nil_right (records_on x.cb) from_free none in
        From_b bc ac (nil_right (free_in x.phase) (records_on x.ca) after_puts) (nil_left (records_on x.cb) from_free none)
        (both_nil (frozen_in x.phase) (free_in x.phase) to_remove (nil_left (free_in x.phase) (records_on x.ca) after_puts))
    by_answers ac to_remove (In_right bc some) = by_puts ac to_remove bc (split r (records_on x.cb) from_free some)

    by_frozen : records_on x.ac ≡ [] → Split r (frozen_in x.phase) from_answers → IsAt x r
    by_frozen ac (In_left to_remove none) =
        let after_answers : from_puts ≡ [] = nil_right (records_on x.bc) from_puts none in
        let after_puts : from_free ≡ [] = nil_right (records_on x.cb) from_free after_answers in
        let free : free_in x.phase ≡ [] = nil_left (free_in x.phase) (records_on x.ca) after_puts in
        In_store (ap (λ v. frozen_in x.phase ++ v) free ∙ append-nil (frozen_in x.phase) ∙ to_remove) ac (nil_left (records_on x.bc) from_puts none)
        (nil_right (free_in x.phase) (records_on x.ca) after_puts) (nil_left (records_on x.cb) from_free after_answers)
    by_frozen ac (In_right to_remove some) = by_answers ac to_remove (split r (records_on x.bc) from_puts some)

    by_pieces : Split r (records_on x.ac) from_frozen → IsAt x r
    by_pieces (In_left ac none) =
        let after_frozen : from_answers ≡ [] = nil_right (frozen_in x.phase) from_answers none in
        let after_answers : from_puts ≡ [] = nil_right (records_on x.bc) from_puts after_frozen in
        let after_puts : from_free ≡ [] = nil_right (records_on x.cb) from_free after_answers in
        From_a ac (nil_left (records_on x.bc) from_puts after_frozen) (nil_right (free_in x.phase) (records_on x.ca) after_puts)
        (nil_left (records_on x.cb) from_free after_answers) (both_nil (frozen_in x.phase) (free_in x.phase)
        (nil_left (frozen_in x.phase) from_answers none) (nil_left (free_in x.phase) (records_on x.ca) after_puts))
    by_pieces (In_right ac some) = by_frozen ac (split r (frozen_in x.phase) from_answers some)

    pub one_of : on_way x ≡ r ∷ [] → IsAt x r
    one_of one = by_pieces (split r (records_on x.ac) from_frozen one)
