-- The fields of a text, from left to right.
use Rattle.std.proofs.Common.{◌≡◌, ℕ, List, None, Some, Ok, Err, Result, refl}
use Rattle.std.specs.Prelude.{◌==◌}
use Rattle.std.specs.List.{slice_split}
use Rattle.flow_filter.specs.declared.filter_text.FilterFault.{FilterFault}
use Rattle.flow_filter.specs.declared.filter.Filter.{Filter}
use Rattle.basics.specs.Parsing.{split_once}
use Rattle.basics.specs.Results.{◌>>=◌}
use Rattle.flow_filter.specs.FilterText.{Fields, AgreesBy, fields_of, with_fields}
use Rattle.flow_filter.specs.FieldSteps.{Answer, with_field}
use Rattle.basics.proofs.SplitLemmas.{split-Some, split-None}

then-Ok : (a : Answer) → (a >>= λ f. Ok f) ≡ a
then-Ok (Ok f) = refl
then-Ok (Err fault) = refl

-- the last field
pub one_field : (f : Fields) (text : List ℕ) (r : Result Filter FilterFault) → None ≡ split_once 44 text → AgreesBy fields_of r (with_field f text)
    → AgreesBy fields_of r (with_fields f (slice_split (λ b. b == 44) text))
one_field f text r at given = rw (split-None 44 text at, then-Ok (with_field f text)) given

-- a field that breaks a rule
pub first_wrong : (f : Fields) (text front more : List ℕ) (fault : FilterFault) → Some (front, more) ≡ split_once 44 text → with_field f front ≡ Err fault
    → with_fields f (slice_split (λ b. b == 44) text) ≡ Err fault
first_wrong f text front more fault at wrong = rw (split-Some 44 text front more at, wrong) refl

-- a field and those after it
pub first_field : (f g : Fields) (text front more : List ℕ) (r : Result Filter FilterFault) → Some (front, more) ≡ split_once 44 text
    → with_field f front ≡ Ok g
    → AgreesBy fields_of r (with_fields g (slice_split (λ b. b == 44) more)) → AgreesBy fields_of r (with_fields f (slice_split (λ b. b == 44) text))
first_field f g text front more r at right given = rw (split-Some 44 text front more at, right) given
