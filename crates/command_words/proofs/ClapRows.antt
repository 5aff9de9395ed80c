-- The rows of clap's matches for pairs of names and texts, and one more use.
use Rattle.std.proofs.Common.{◌≡◌, ◌∙◌, ℕ, Bool, false, ◌||◌, refl, sym, ap, List, [], ◌∷◌, ◌++◌, map, Option, Some, None, append-nil}
use Rattle.std.specs.Prelude.{codes}
use Rattle.std.specs.Str.{bytes_eq}
use Rattle.std.proofs.lemmas.List.{map-append}
use Rattle.std.proofs.lemmas.Bool.{or_parts}
use Rattle.clap.specs.Walk.{Row, at_row, has_row, more_values, used}
use Rattle.clap.specs.declared.builder.value_parser.Reading.TheVariants.{AsWritten}
use Rattle.clap.specs.declared.parser.matches.ValueSource.TheVariants.{CommandLine}
use Rattle.command_words.specs.Arguments.{Text}
use Rattle.command_words.specs.Grammar.{Pairs, is_given}
use Rattle.command_words.proofs.ClapLookups.{flagged, valued}

abbrev pub row_for : Text × Text → Row
row_for p = record { id = p.0; values = p.1 ∷ []; count = None; source = Some CommandLine; reading = AsWritten }

abbrev pub rows_for : Pairs → List Row
rows_for pairs = map row_for pairs

pub has_row_is : (id : Text) (pairs : Pairs) → has_row id (rows_for pairs) ≡ is_given id pairs
has_row_is id [] = refl
has_row_is id (p ∷ pairs) = ap (λ b. bytes_eq p.0 id || b) (has_row_is id pairs)

pub no_row : (id : Text) (change : Row → List Row) (missing rows : List Row) → has_row id rows ≡ false → at_row id change missing rows ≡ rows ++ missing
no_row id change missing [] none = refl
no_row id change missing (r ∷ rows) none =
    let parts = or_parts (bytes_eq r.id id) _ none in
    rw parts.0 (ap (λ rs. r ∷ rs) (no_row id change missing rows parts.1))

-- a first use of a name
first_use : (change : Row → List Row) (name text : Text) (pairs : Pairs) → is_given name pairs ≡ false
    → at_row name change (row_for (name, text) ∷ []) (at_row name (λ _. []) [] (rows_for pairs)) ≡ rows_for (pairs ++ (name, text) ∷ [])
first_use change name text pairs none =
    let new = has_row_is name pairs ∙ none in
    ap (at_row name change (row_for (name, text) ∷ [])) (no_row name (λ _. []) [] (rows_for pairs) new ∙ append-nil (rows_for pairs))
    ∙ no_row name change (row_for (name, text) ∷ []) (rows_for pairs) new ∙ sym (map-append row_for pairs ((name, text) ∷ []))

pub valued_used : (name text : Text) (long : Option Text) (index : Option ℕ) (required : Bool) (pairs : Pairs) → is_given name pairs ≡ false
    → used (valued name long index required) (text ∷ []) (rows_for pairs) ≡ rows_for (pairs ++ (name, text) ∷ [])
valued_used name text long index required pairs none = first_use (more_values CommandLine (text ∷ [])) name text pairs none

pub flag_used : (name : Text) (pairs : Pairs) → is_given name pairs ≡ false
    → used (flagged name) [] (rows_for pairs) ≡ rows_for (pairs ++ (name, codes "true") ∷ [])
flag_used name pairs none = first_use (more_values CommandLine (codes "true" ∷ [])) name (codes "true") pairs none
