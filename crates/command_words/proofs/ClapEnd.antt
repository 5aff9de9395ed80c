-- After the last word: clap's defaults say nothing of what the words gave, and it asks for what is required.
use Rattle.std.proofs.Common.{◌≡◌, ◌∙◌, ℕ, Bool, cond, true, false, ◌&&◌, ◌||◌, not, refl}
use Rattle.std.proofs.Common.{sym, ap, List, [], ◌∷◌, ◌++◌, Some, None, append-nil, append_assoc}
use Rattle.std.specs.Prelude.{codes, option_and_then, option_map}
use Rattle.std.specs.List.{find, fold, list_all, list_any}
use Rattle.std.specs.Option.{option_map_or}
use Rattle.std.specs.Str.{bytes_eq}
use Rattle.clap.specs.Facts.{explicit_source}
use Rattle.clap.specs.Faults.{defaults_fault}
use Rattle.clap.specs.Kinds.{Kinds, or_else}
use Rattle.clap.specs.Takes.{is_given as is_in_rows}
use Rattle.clap.specs.Walk.{Row, Rule, has_row, more_values, with_default}
use Rattle.clap.specs.declared.builder.value_parser.Reading.TheVariants.{AsWritten}
use Rattle.clap.specs.declared.parser.matches.ValueSource.TheVariants.{DefaultValue}
use Rattle.command_words.specs.declared.forms.ArgumentKind.{ArgumentKind}
use Rattle.command_words.specs.declared.forms.ArgumentKind.TheVariants.{Positional, Required, Flag}
use Rattle.command_words.specs.Arguments.{Argument, Text, is_required}
use Rattle.command_words.specs.Grammar.{Pairs, texts_of, is_given}
use Rattle.command_words.specs.ClapArguments.{given_by_words, given_in}
use Rattle.command_words.proofs.ClapLookups.{built_by, built_rules, index_past}
use Rattle.command_words.proofs.ClapRows.{no_row, row_for, rows_for}

-- ---- defaults

pub no_default_fault : (table : List Argument) (i : ℕ) (rows : List Row) → defaults_fault rows (built_rules i table) ≡ []
unfolding defaults_fault
no_default_fault [] i rows = refl
no_default_fault (a ∷ rest) i rows = go a.0 a.1 (no_default_fault rest)
  where
    valued_one : (b : Bool) (x y : Kinds) → x ≡ [] → y ≡ [] → or_else (cond (b || true) [] x) y ≡ []
    valued_one true x y e f = f
    valued_one false x y e f = f

    flag_one : (b : Bool) (y : Kinds) → y ≡ [] → or_else (cond (b || false) [] []) y ≡ []
    flag_one true y f = f
    flag_one false y f = f

    go : (kind : ArgumentKind) (name : Text) → ((k : ℕ) (others : List Row) → defaults_fault others (built_rules k rest) ≡ [])
        → defaults_fault rows (built_by i kind name ∷ built_rules (index_past i kind) rest) ≡ []
    go Flag name more = flag_one (has_row name rows) _ (more _ _)
    go kind name more = valued_one (has_row name rows) _ _ refl (more _ _)

abbrev pub is_default : Row → Bool
is_default r = not (explicit_source r.source)

-- the defaults come last
pub record Ends (rules : List Rule) (rows : List Row) : Type 0 where
  pub defaults : List Row
  pub last : fold with_default rows rules ≡ rows ++ defaults
  pub weak : list_all is_default defaults ≡ true

abbrev default_row : Text → Row
default_row name = record { id = name; values = codes "false" ∷ []; count = None; source = Some DefaultValue; reading = AsWritten }

pub end_rows : (table : List Argument) (i : ℕ) (rows : List Row) → Ends (built_rules i table) rows
end_rows [] i rows = record { defaults = []; last = sym (append-nil rows); weak = refl }
end_rows (a ∷ rest) i rows = go a.0 a.1 (end_rows rest)
  where
    valued_one : (kind : ArgumentKind) (name : Text) → Ends (built_rules (index_past i kind) rest) rows → with_default rows (built_by i kind name) ≡ rows
        → Ends (built_by i kind name ∷ built_rules (index_past i kind) rest) rows
    valued_one kind name ends same = record {
      defaults = ends.defaults;
      last = ap (λ rs. fold with_default rs (built_rules (index_past i kind) rest)) same ∙ ends.last;
      weak = ends.weak;
    }

    alike : {X : Type 0} (b : Bool) (x : X) → cond b x x ≡ x
    alike true x = refl
    alike false x = refl

    flag_one : (name : Text) (b : Bool) → has_row name rows ≡ b → ((others : List Row) → Ends (built_rules i rest) others)
        → Ends (built_by i Flag name ∷ built_rules i rest) rows
    flag_one name true e more = valued_one Flag name (more rows) (rw e refl)
    flag_one name false e more =
        let one : with_default rows (built_by i Flag name) ≡ rows ++ default_row name ∷ [] = rw e
        (no_row name (more_values DefaultValue (codes "false" ∷ [])) (default_row name ∷ []) rows e) in
        let ends = more (rows ++ default_row name ∷ []) in
        record {
          defaults = default_row name ∷ ends.defaults;
          last = ap (λ rs. fold with_default rs (built_rules i rest)) one ∙ ends.last ∙ append_assoc rows (default_row name ∷ []) ends.defaults;
          weak = ends.weak;
        }

    go : (kind : ArgumentKind) (name : Text) → ((k : ℕ) (others : List Row) → Ends (built_rules k rest) others)
        → Ends (built_by i kind name ∷ built_rules (index_past i kind) rest) rows
    go Flag name more = flag_one name (has_row name rows) refl (more i)
    go kind name more = valued_one kind name (more _ rows) (alike (has_row name rows) rows)

-- ---- what was given, beside defaults

no_text : (name : Text) (rows : List Row) → list_all is_default rows ≡ true → given_in rows name ≡ None
no_text name [] weak = refl
no_text name (r ∷ rows) weak = go (explicit_source r.source) (bytes_eq r.id name) refl (no_text name rows)
  where
    go : (b t : Bool) → explicit_source r.source ≡ b → (list_all is_default rows ≡ true → given_in rows name ≡ None)
        → option_and_then given_by_words (cond t (Some r) (find (λ x. bytes_eq x.id name) rows)) ≡ None
    go true t e more = let no : false ≡ true = rw e at weak in cc
    go false true e more = rw e refl
    go false false e more = more (rw e at weak)

text_before : (name : Text) (pairs : Pairs) (defaults : List Row) → list_all is_default defaults ≡ true
    → given_in (rows_for pairs ++ defaults) name ≡ texts_of pairs name
text_before name [] defaults weak = no_text name defaults weak
text_before name (p ∷ pairs) defaults weak = go (bytes_eq p.0 name) (text_before name pairs defaults weak)
  where
    go : (t : Bool) → given_in (rows_for pairs ++ defaults) name ≡ texts_of pairs name
        → option_and_then given_by_words (cond t (Some (row_for p)) (find (λ x. bytes_eq x.id name) (rows_for pairs ++ defaults)))
        ≡ option_map (λ (q : Text × Text). q.1) (cond t (Some p) (find (λ (q : Text × Text). bytes_eq q.0 name) pairs))
    go true e = refl
    go false e = e

pub texts_before : (pairs : Pairs) (defaults : List Row) → list_all is_default defaults ≡ true → given_in (rows_for pairs ++ defaults) ≡ texts_of pairs
texts_before pairs defaults weak = λ i name. text_before name pairs defaults weak i

not_given : (id : Text) (rows : List Row) → list_all is_default rows ≡ true → is_in_rows id rows ≡ false
not_given id [] weak = refl
not_given id (r ∷ rows) weak = go (explicit_source r.source) (bytes_eq r.id id) refl (not_given id rows)
  where
    go : (b t : Bool) → explicit_source r.source ≡ b → (list_all is_default rows ≡ true → is_in_rows id rows ≡ false)
        → option_map_or (λ (x : Row). explicit_source x.source) (cond t (Some r) (find (λ x. bytes_eq x.id id) rows)) false ≡ false
    go true t e more = let no : false ≡ true = rw e at weak in cc
    go false true e more = e
    go false false e more = more (rw e at weak)

pub given_before : (id : Text) (pairs : Pairs) (defaults : List Row) → list_all is_default defaults ≡ true
    → is_in_rows id (rows_for pairs ++ defaults) ≡ is_given id pairs
given_before id [] defaults weak = not_given id defaults weak
given_before id (p ∷ pairs) defaults weak = go (bytes_eq p.0 id) (given_before id pairs defaults weak)
  where
    go : (t : Bool) → is_in_rows id (rows_for pairs ++ defaults) ≡ is_given id pairs
        → option_map_or (λ (x : Row). explicit_source x.source) (cond t (Some (row_for p)) (find (λ x. bytes_eq x.id id) (rows_for pairs ++ defaults))) false
        ≡ (t || is_given id pairs)
    go true e = refl
    go false e = e

-- an argument is wanted exactly where the grammar wants one
abbrev pub is_wanted_by : List Row → Rule → Bool
is_wanted_by rows rule = rule.required && not (is_in_rows rule.id rows)

abbrev pub is_satisfied : Pairs → Argument → Bool
is_satisfied pairs a = not (is_required a) || is_given a.1 pairs

pub all_wanted : (table : List Argument) (i : ℕ) (rows : List Row) (pairs : Pairs) → ((id : Text) → is_in_rows id rows ≡ is_given id pairs)
    → list_any (is_wanted_by rows) (built_rules i table) ≡ not (list_all (is_satisfied pairs) table)
all_wanted [] i rows pairs same = refl
all_wanted (a ∷ rest) i rows pairs same = go a.0 a.1 (λ k. all_wanted rest k rows pairs same)
  where
    one : (b c : Bool) (x : Bool) (y : Bool) → b ≡ c → x ≡ not y → (not b || x) ≡ not (c && y)
    one b true x y e f = rw e f
    one b false x y e f = rw e refl

    go : (kind : ArgumentKind) (name : Text) → ((k : ℕ) → list_any (is_wanted_by rows) (built_rules k rest) ≡ not (list_all (is_satisfied pairs) rest))
        → list_any (is_wanted_by rows) (built_by i kind name ∷ built_rules (index_past i kind) rest)
        ≡ not (list_all (is_satisfied pairs) ((kind, name) ∷ rest))
    go Positional name more = one _ _ _ _ (same name) (more _)
    go Required name more = one _ _ _ _ (same name) (more i)
    go kind name more = more (index_past i kind)
