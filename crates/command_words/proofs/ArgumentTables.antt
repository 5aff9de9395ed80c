-- The arguments of a table so far, and one more; and that each form is as simple as clap's clauses ask.
use Rattle.std.proofs.Common.{◌≡◌, ℕ, ◌+◌, ◌<◌, ◌≤◌, List, [], ◌∷◌, ◌++◌, true, length, get_or, take, map, ap, sym, refl, ◌∙◌}
use Rattle.std.proofs.lemmas.List.{take_all, take_more, map-append}
use Rattle.std.specs.Borrow.{Bor}
use Rattle.clap.specs.Words.{App, is_simple_and_free}
use Rattle.clap.proofs.OnLiterals.{clap_on_literals}
use Rattle.command_words.specs.declared.forms.ArgumentKind.{ArgumentKind}
use Rattle.command_words.specs.declared.forms.Form.{Form}
use Rattle.command_words.specs.Arguments.{Text}
use Rattle.command_words.specs.declared.forms.Form.TheVariants.{Run, Sim, Fail, Check, Gen, Published, Strong}
use Rattle.command_words.specs.ClapArguments.{app_with, form_app, rule_by, rule_for}

pub map_more : {X Y : Type 0} (f : X → Y) (xs : List X) (i : ℕ) (d : X) → i < length xs → map f (take i xs) ++ f (get_or xs i d) ∷ [] ≡ map f (take (i + 1) xs)
map_more f xs i d below = sym (ap (map f) (take_more xs i d below) ∙ map-append f (take i xs) (get_or xs i d ∷ []))

pub all_mapped : {X Y : Type 0} (f : X → Y) (xs : List X) (i : ℕ) → length xs ≤ i → map f (take i xs) ≡ map f xs
all_mapped f xs i over = ap (map f) (take_all i xs over)

-- the rules of arguments are those of their kinds and names
pub same_rules : (xs : List (ArgumentKind × Bor Text)) → map (λ e. rule_by e.0 e.1.now) xs ≡ map rule_for (map (λ e. (e.0, e.1.now)) xs)
same_rules [] = refl
same_rules (x ∷ xs) = ap (λ rules. rule_by x.0 x.1.now ∷ rules) (same_rules xs)

is_simple_form : (form : Form) → is_simple_and_free (form_app form) ≡ true
unfolding app_with clap_on_literals
is_simple_form Run = refl
is_simple_form Sim = refl
is_simple_form Fail = refl
is_simple_form Check = refl
is_simple_form Gen = refl
is_simple_form Published = refl
is_simple_form Strong = refl

pub is_simple_app : (form : Form) (app : App) → app ≡ form_app form → is_simple_and_free app ≡ true
is_simple_app form app is = ap is_simple_and_free is ∙ is_simple_form form
