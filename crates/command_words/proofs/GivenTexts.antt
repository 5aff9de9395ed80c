-- What clap found for a name is of the words or a default.
use Rattle.std.proofs.Common.{◌≡◌, ◌∙◌, Bool, true, false, not, refl, sym, ap, List, [], ◌∷◌, Option, Some, None, true≢false}
use Rattle.std.specs.Prelude.{find, option_and_then, option_map, slice_get}
use Rattle.std.specs.Borrow.{Bor}
use Rattle.std.specs.Str.{bytes_eq}
use Rattle.clap.specs.Facts.{Entry, explicit_source}
use Rattle.clap.specs.Matches.{first_value}
use Rattle.clap.specs.Walk.{Row, row_of, rows_of, texts}
use Rattle.clap.specs.declared.parser.matches.Found.{Found}
use Rattle.clap.specs.declared.parser.matches.MatchedArg.{MatchedArg}
use Rattle.clap.proofs.WalkLemmas.{find-map}
use Rattle.command_words.specs.Arguments.{Text}
use Rattle.command_words.specs.ClapArguments.{given_by_words, given_in, rows_taken, form_app}
use Rattle.command_words.specs.Grammar.{given_arguments}
use Rattle.clap.specs.Words.{App}
use Rattle.command_words.specs.declared.forms.Form.{Form}
use Rattle.command_words.specs.declared.fault.ArgumentsFault.{ArgumentsFault}
use Rattle.command_words.specs.declared.fault.ArgumentsFault.TheVariants.{Usage, NoMemory}
use Rattle.command_words.specs.Views.{Refuses}
use Rattle.command_words.proofs.SameWords.{same_words}

first_text : (vs : List (Bor Text)) → option_map (λ s. s.now) (slice_get vs 0) ≡ slice_get (texts vs) 0
first_text [] = refl
first_text (v ∷ vs) = refl

abbrev entry_at : Found → Text → Option Entry
entry_at f name = find (λ (e : Entry). bytes_eq e.0.now name) f.entries.items

abbrev source_is_default : Option Entry → Bool
source_is_default o = not (explicit_source (option_and_then (λ (a : MatchedArg). a.source) (option_map (λ (e : Entry). e.1) o)))

is_explicit : (b : Bool) → not b ≡ false → b ≡ true
is_explicit true e = refl
is_explicit false e = absurd (true≢false e)

is_not_explicit : (b : Bool) → not b ≡ true → b ≡ false
is_not_explicit true e = absurd (true≢false (sym e))
is_not_explicit false e = refl

given_at : (f : Found) (name : Text) → given_in (rows_of f) name ≡ option_and_then given_by_words (option_map row_of (entry_at f name))
given_at f name = ap (option_and_then given_by_words) (sym (find-map (λ (r : Row). bytes_eq r.id name) row_of f.entries.items))

pub text_of_words : (f : Found) (name : Text) → source_is_default (entry_at f name) ≡ false → first_value f name ≡ given_in (rows_of f) name
text_of_words f name e = go (entry_at f name) e ∙ sym (given_at f name)
  where
    go : (o : Option Entry) → source_is_default o ≡ false
        → option_and_then (λ (a : MatchedArg). option_map (λ s. s.now) (slice_get a.vals.items 0)) (option_map (λ (x : Entry). x.1) o)
        ≡ option_and_then given_by_words (option_map row_of o)
    go None e = refl
    go (Some x) e = rw (is_explicit (explicit_source x.1.source) e) (first_text x.1.vals.items)

pub text_of_default : (f : Found) (name : Text) → source_is_default (entry_at f name) ≡ true → given_in (rows_of f) name ≡ None
text_of_default f name e = given_at f name ∙ go (entry_at f name) e
  where
    go : (o : Option Entry) → source_is_default o ≡ true → option_and_then given_by_words (option_map row_of o) ≡ None
    go None e = refl
    go (Some x) e = rw (is_not_explicit (explicit_source x.1.source) e) refl

-- the words of a form's command
pub form_words : (form : Form) (app : App) (words : List Text) → app ≡ form_app form → option_map given_in (rows_taken app words) ≡ given_arguments form words
form_words form app words is = ap (λ a. option_map given_in (rows_taken a words)) is ∙ same_words form words

pub words_taken : (form : Form) (app : App) (words : List Text) (rows : List Row) → app ≡ form_app form → rows_taken app words ≡ Some rows
    → given_arguments form words ≡ Some (given_in rows)
words_taken form app words rows is taken = sym (form_words form app words is) ∙ ap (option_map given_in) taken

pub words_refused : (form : Form) (app : App) (words : List Text) (fault : ArgumentsFault) → app ≡ form_app form → Refuses fault (rows_taken app words)
    → Refuses fault (given_arguments form words)
words_refused form app words Usage is refused = sym (form_words form app words is) ∙ ap (option_map given_in) refused
words_refused form app words NoMemory is refused = tt
