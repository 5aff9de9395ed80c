-- What clap builds of a table of arguments, and what it finds there.
use Rattle.std.proofs.Common.{◌≡◌, ℕ, Bool, cond, true, false, ◌&&◌, ◌||◌, not, ◌+◌, refl, ap, subst, List, [], ◌∷◌, map, Option, Some, None}
use Rattle.std.specs.Prelude.{codes, min, find, option_map, unwrap_or, ⊤}
use Rattle.std.specs.List.{AllByRecursion}
use Rattle.std.specs.Str.{bytes_eq}
use Rattle.clap.specs.Lexer.{usize_max}
use Rattle.clap.specs.Walk.{Rule, arg_by_id, arg_by_index, arg_by_long, arg_by_short}
use Rattle.clap.specs.Simple.{filled_from, new_rule}
use Rattle.clap.specs.declared.builder.action.ArgAction.TheVariants.{Set, SetTrue}
use Rattle.clap.specs.declared.builder.value_parser.ValueParser.TheVariants as vp
use Rattle.command_words.specs.declared.forms.ArgumentKind.{ArgumentKind}
use Rattle.command_words.specs.declared.forms.ArgumentKind.TheVariants.{Positional, OptionalPositional, Required, Optional, Flag}
use Rattle.command_words.specs.declared.forms.Form.{Form}
use Rattle.command_words.specs.declared.forms.Form.TheVariants.{Run, Sim, Fail, Check, Gen, Published, Strong}
use Rattle.command_words.specs.Arguments.{Argument, arguments_of, Text, is_place, place_names}
use Rattle.command_words.specs.ClapArguments.{rule_by, rule_for}

-- an argument with a value, and a flag
abbrev pub valued : Text → Option Text → Option ℕ → Bool → Rule
valued name long index required = record (new_rule name) {
  long = long;
  index = index;
  action = Some Set;
  range = Some (record { start_inclusive = 1; end_inclusive = 1 });
  parser = Some vp.String;
  required = required;
}

abbrev pub flagged : Text → Rule
flagged name = record (new_rule name) {
  long = Some name;
  action = Some SetTrue;
  range = Some (record { start_inclusive = 0; end_inclusive = 0 });
  defaults = codes "false" ∷ [];
  missing = codes "true" ∷ [];
  parser = Some vp.Bool;
}

abbrev pub built_by : ℕ → ArgumentKind → Text → Rule
built_by i Positional name = valued name None (Some i) true
built_by i OptionalPositional name = valued name None (Some i) false
built_by i Required name = valued name (Some name) None true
built_by i Optional name = valued name (Some name) None false
built_by i Flag name = flagged name

abbrev pub index_past : ℕ → ArgumentKind → ℕ
index_past i Positional = min (i + 1) usize_max
index_past i OptionalPositional = min (i + 1) usize_max
index_past i kind = i

abbrev pub built_rules : ℕ → List Argument → List Rule
built_rules i [] = []
built_rules i (a ∷ rest) = built_by i a.0 a.1 ∷ built_rules (index_past i a.0) rest

pub all_built : (i : ℕ) (table : List Argument) → filled_from i (map rule_for table) ≡ built_rules i table
all_built i [] = refl
all_built i (a ∷ rest) = go a.0 a.1 (λ k. all_built k rest)
  where
    go : (kind : ArgumentKind) (name : Text) → ((k : ℕ) → filled_from k (map rule_for rest) ≡ built_rules k rest)
        → filled_from i (rule_by kind name ∷ map rule_for rest) ≡ built_by i kind name ∷ built_rules (index_past i kind) rest
    go Flag name more = ap (λ rules. built_by i Flag name ∷ rules) (more i)
    go kind name more = ap (λ rules. built_by i kind name ∷ rules) (more (index_past i kind))

-- clap finds the option or the flag that the grammar finds
abbrev pub built_option : Argument → Rule
built_option a = built_by 0 a.0 a.1

found_or_next : (t : Bool) (a : Argument) (r : Rule) (o : Option Rule) (p : Option Argument) → r ≡ built_option a → o ≡ option_map built_option p
    → cond (t || false) (Some r) o ≡ option_map built_option (cond t (Some a) p)
found_or_next true a r o p same next = ap (λ x. Some x) same
found_or_next false a r o p same next = next

abbrev pub is_option_named : Text → Argument → Bool
is_option_named name a = not (is_place a) && bytes_eq a.1 name

pub by_long : (i : ℕ) (table : List Argument) (name : Text) → arg_by_long (built_rules i table) name
    ≡ option_map built_option (find (is_option_named name) table)
by_long i [] name = refl
by_long i (a ∷ rest) name = go a.0 a.1 (λ k. by_long k rest name)
  where
    go : (kind : ArgumentKind) (own : Text)
        → ((k : ℕ) → arg_by_long (built_rules k rest) name ≡ option_map built_option (find (is_option_named name) rest))
        → arg_by_long (built_by i kind own ∷ built_rules (index_past i kind) rest) name
        ≡ option_map built_option (find (is_option_named name) ((kind, own) ∷ rest))
    go Positional own more = more (min (i + 1) usize_max)
    go OptionalPositional own more = more (min (i + 1) usize_max)
    go kind own more = found_or_next (bytes_eq own name) (kind, own) _ _ _ refl (more i)

pub by_short : (i : ℕ) (table : List Argument) (x : ℕ) → arg_by_short (built_rules i table) x ≡ None
by_short i [] x = refl
by_short i (a ∷ rest) x = go a.0 a.1 (λ k. by_short k rest x)
  where
    go : (kind : ArgumentKind) (own : Text) → ((k : ℕ) → arg_by_short (built_rules k rest) x ≡ None)
        → arg_by_short (built_by i kind own ∷ built_rules (index_past i kind) rest) x ≡ None
    go Flag own more = more i
    go kind own more = more (index_past i kind)

-- the options with a value are found by their names
abbrev pub IsFoundById : List Rule → ArgumentKind → Text → Type 0
IsFoundById rules Required name = arg_by_id rules name ≡ Some (valued name (Some name) None true)
IsFoundById rules Optional name = arg_by_id rules name ≡ Some (valued name (Some name) None false)
IsFoundById rules kind name = ⊤

abbrev pub AreFoundById : List Rule → List Argument → Type 0
AreFoundById rules table = AllByRecursion (λ (a : Argument). IsFoundById rules a.0 a.1) table

-- what is found has passed
pub the_found : (P : Argument → Type 0) (p : Argument → Bool) (table : List Argument) (a : Argument) → AllByRecursion P table → find p table ≡ Some a
    → P a × (p a ≡ true)
the_found P p [] a all found = cc
the_found P p (x ∷ rest) a all found = go (p x) refl (the_found P p rest a all.1)
  where
    go : (t : Bool) → p x ≡ t → (find p rest ≡ Some a → P a × (p a ≡ true)) → P a × (p a ≡ true)
    go true e more = let same : Some x ≡ Some a = rw e at found in
        subst (λ y. P y × (p y ≡ true)) (ap (λ (o : Option Argument). unwrap_or o x) same) (all.0, e)
    go false e more = more (rw e at found)

-- the places with these names come next, and are found by their names too
abbrev pub ArePlacesAt : List Rule → ℕ → List Text → Type 0
ArePlacesAt rules position [] = arg_by_index rules position ≡ None
ArePlacesAt rules position (name ∷ names) = (required : Bool) × (arg_by_index rules position ≡ Some (valued name None (Some position) required))
    × (arg_by_id rules name ≡ Some (valued name None (Some position) required)) × ArePlacesAt rules (min (position + 1) usize_max) names

-- a table in which clap finds each argument
pub record IsTable (table : List Argument) : Type 0 where
  pub options : AreFoundById (built_rules 1 table) table
  pub places : ArePlacesAt (built_rules 1 table) 1 (place_names table)

pub is_table : (form : Form) → IsTable (arguments_of form)
is_table Run = record {
  options = (tt, (refl, (refl, (refl, (refl, (refl, (tt, (tt, (tt, tt)))))))));
  places = (true, refl, refl, (true, refl, refl, (false, refl, refl, refl)));
}
is_table Sim = record {
  options = (tt, (refl, (refl, (refl, (refl, (refl, (refl, (tt, (tt, (tt, tt))))))))));
  places = (true, refl, refl, (true, refl, refl, (false, refl, refl, refl)));
}
is_table Fail = record {
  options = (tt, (refl, (refl, (refl, (refl, (refl, (refl, (refl, (refl, (tt, (tt, tt)))))))))));
  places = (true, refl, refl, (true, refl, refl, (false, refl, refl, refl)));
}
is_table Check = record { options = (tt, (refl, (tt, tt))); places = (true, refl, refl, (true, refl, refl, refl)) }
is_table Gen = record { options = (tt, (refl, (refl, (tt, tt)))); places = (true, refl, refl, (true, refl, refl, refl)) }
is_table Published = record {
  options = (tt, (refl, (refl, (refl, (refl, (tt, (tt, (tt, tt))))))));
  places = (true, refl, refl, (true, refl, refl, (true, refl, refl, (true, refl, refl, refl))));
}
is_table Strong = record {
  options = (tt, (refl, (refl, (refl, (refl, (refl, (tt, (tt, tt))))))));
  places = (true, refl, refl, (true, refl, refl, (false, refl, refl, refl)));
}
