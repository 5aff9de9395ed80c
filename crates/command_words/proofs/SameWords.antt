-- What clap's definitions give of the words of a table is what the grammar gives.
use Rattle.std.proofs.Common.{◌≡◌, ◌∙◌, ℕ, Bool, true, false, ◌+◌, refl, sym, ap, ap₂, List, [], ◌∷◌, ◌++◌, map, Option, Some, None, true≢false}
use Rattle.std.specs.Prelude.{codes, drop, min, option_map, is_some, slice_get}
use Rattle.std.specs.List.{before_first}
use Rattle.clap.specs.Lexer.{name_and_value, usize_max}
use Rattle.clap.specs.Faults.{built_fault, entered_fault, level_fault, long_fault, react_fault, settle_fault, turn_fault, use_fault}
use Rattle.clap.specs.Kinds.{or_else}
use Rattle.clap.specs.Simple.{App, entered}
use Rattle.clap.specs.Walk.{Row, Rule, arg_by_id, arg_by_long, arg_by_short, done, idle, nothing_held}
use Rattle.clap.specs.Walk.{rows_after, walk, long_met, option, settled_rows, used}
use Rattle.clap.specs.declared.error.kind.ErrorKind.TheVariants as kind
use Rattle.command_words.specs.declared.forms.ArgumentKind.{ArgumentKind}
use Rattle.command_words.specs.declared.forms.ArgumentKind.TheVariants.{Required, Optional, Flag}
use Rattle.basics.specs.Options.{◌>>=◌}
use Rattle.flow_filter.specs.Name.{has_twice}
use Rattle.command_words.specs.Values.{only}
use Rattle.command_words.specs.Arguments.{Argument, arguments_of, Text, place_names}
use Rattle.command_words.specs.declared.forms.Form.{Form}
use Rattle.command_words.specs.ClapArguments.{app_with, form_app, given_in, rows_taken, rule_for, taken}
use Rattle.command_words.specs.Grammar.{Pairs, given_arguments, is_whole, pairs_of, texts_of, also, is_equals}
use Rattle.command_words.specs.Grammar.{is_given, is_text, option_of, read_words, value_in, with_option}
use Rattle.command_words.proofs.WordShapes.{as_dashes, as_long, as_short, Looks, as_text, as_other, looks}
use Rattle.command_words.proofs.ClapLookups.{ArePlacesAt, IsFoundById, IsTable, is_table, all_built, built_option}
use Rattle.command_words.proofs.ClapLookups.{built_by, by_long, by_short, flagged, is_option_named, the_found, valued}
use Rattle.command_words.proofs.PairLemmas.{carried, names_of, once_more, outcome, refused_twice}
use Rattle.command_words.proofs.ClapRows.{flag_used, rows_for, valued_used}
use Rattle.command_words.proofs.ClapTurns.{Fails, IsForPlace, IsLong, dashes_fault, dashes_walked, done_turn, ended, goes_on, held, long_turn}
use Rattle.command_words.proofs.ClapTurns.{place_turn, place_walked, shape_with, short_fails, stops, stray_fails, value_turn, waits_turn, walk_at}
use Rattle.command_words.proofs.SameTexts.{Settles, after_text, clap_rules, end_same, end_stuck, flag_fault, for_place}
use Rattle.command_words.proofs.SameTexts.{idle_stuck, not_text_stuck, repeated, trailing_same, valued_fault}

-- a command of these rules
abbrev app_of_rules : List Rule → App
app_of_rules rules = record { top = shape_with rules; subs = [] }

module _ (table : List Argument) where
  abbrev rules : List Rule
  rules = clap_rules table

  -- where nothing waits, and where an option waits for its value
  abbrev IdleSame : List Text → Type 0
  IdleSame words = (names : List Text) (rows : List Row) (pending : Option (Text × List Text)) (position : ℕ) (pairs : Pairs)
      → ArePlacesAt rules position names → Settles rules rows pending pairs
      → option_map given_in (ended rules (walk_at (held rows pending) idle position false) words) ≡ outcome table pairs (read_words table names None words)

  abbrev IsValued : Text → Type 0
  IsValued name = (long : Option Text) × (index : Option ℕ) × (required : Bool) × (arg_by_id rules name ≡ Some (valued name long index required))

  abbrev WaitsSame : List Text → Type 0
  WaitsSame words = (names : List Text) (rows : List Row) (position : ℕ) (pairs : Pairs) (name : Text)
      → ArePlacesAt rules position names → IsValued name → rows ≡ rows_for pairs → has_twice (names_of pairs) ≡ false
      → option_map given_in (ended rules (walk_at (held rows (Some (name, []))) (option name) position false) words)
      ≡ outcome table pairs (read_words table names (Some name) words)

  no_short : (c : ℕ) → arg_by_short rules c ≡ None
  no_short c = by_short 1 table c

  -- one word more, where nothing waits
  module _ (word : Text) (words names : List Text) (rows : List Row) (pending : Option (Text × List Text)) (position : ℕ) (pairs : Pairs)
      (places : ArePlacesAt rules position names) (settles : Settles rules rows pending pairs) where
    abbrev Gives : Option Pairs → Type 0
    Gives more = option_map given_in (ended rules (walk_at (held rows pending) idle position false) (word ∷ words)) ≡ outcome table pairs more

    refused : Fails (turn_fault (shape_with rules) [] (walk_at (held rows pending) idle position false) word) → Gives None
    refused f = ap (option_map given_in) (stops rules _ word words f)

    -- an option whose value stands in its word, or a flag
    done_same : (written : Text) (rule : Rule) (texts : List Text) (name given : Text) → IdleSame words → IsLong word written
        → (long_fault rules false (arg_by_long rules (name_and_value written).0) (name_and_value written).1 (held rows pending)
        ≡ react_fault rules false rule texts (held rows pending))
        → (long_met rules (arg_by_long rules (name_and_value written).0) (name_and_value written).1 (held rows pending)
        ≡ (held (used rule texts (settled_rows rules pending rows)) None, done))
        → use_fault false rule texts (rows_for pairs) ≡ repeated (is_given name pairs)
        → (is_given name pairs ≡ false → used rule texts (rows_for pairs) ≡ rows_for (pairs ++ (name, given) ∷ []))
        → Gives (also name given (read_words table names None words))
    done_same written rule texts name given same is fault met use_is gives = go (is_given name pairs) refl
      where
        whole : long_fault rules false (arg_by_long rules (name_and_value written).0) (name_and_value written).1 (held rows pending)
            ≡ repeated (is_given name pairs)
        whole = fault ∙ ap₂ or_else settles.fault (ap (use_fault false rule texts) settles.rows_are ∙ use_is)

        go : (again : Bool) → is_given name pairs ≡ again → Gives (also name given (read_words table names None words))
        go true e = refused (long_turn rules (held rows pending) idle position word written is (kind.ArgumentConflict, [], whole ∙ ap repeated e))
            ∙ sym (refused_twice table pairs name given (read_words table names None words) e)
        go false e =
            let turn = done_turn rules (held rows pending) _ idle position word written is (whole ∙ ap repeated e) met in
            ap (option_map given_in) (goes_on rules _ _ word words turn.0 turn.1)
            ∙ same names (used rule texts (settled_rows rules pending rows)) None position (pairs ++ (name, given) ∷ []) places (record {
              fault = refl;
              rows_are = ap (used rule texts) settles.rows_are ∙ gives e;
              once = once_more name given pairs settles.once e;
            })
            ∙ sym (carried table pairs name given (read_words table names None words))

    -- an option with a value, by what stands after its `=`
    valued_same : (written name : Text) (required : Bool) → IdleSame words → WaitsSame words → IsLong word written
        → arg_by_long rules (name_and_value written).0 ≡ Some (valued name (Some name) None required)
        → arg_by_id rules name ≡ Some (valued name (Some name) None required)
        → (v : Option Text) → value_in written ≡ v → Gives (with_option (Required, name) v (λ option. read_words table names option words))
    valued_same written name required same waiting is found by_id (Some value) e =
        done_same written (valued name (Some name) None required) (value ∷ []) name value same is (rw (found, e) refl) (rw (found, e) refl)
        (valued_fault name value (Some name) None required pairs) (valued_used name value (Some name) None required pairs)
    valued_same written name required same waiting is found by_id None e =
        let turn = waits_turn rules (held rows pending) (held (settled_rows rules pending rows) (Some (name, []))) idle position word written name is
        (rw (found, e) settles.fault) (rw (found, e) refl) in
        ap (option_map given_in) (goes_on rules _ _ word words turn.0 turn.1)
        ∙ waiting names (settled_rows rules pending rows) position pairs name places (Some name, None, required, by_id) settles.rows_are settles.once

    flag_same : (written name : Text) → IdleSame words → IsLong word written → arg_by_long rules (name_and_value written).0 ≡ Some (flagged name)
        → (v : Option Text) → value_in written ≡ v → Gives (with_option (Flag, name) v (λ option. read_words table names option words))
    flag_same written name same is found (Some value) e =
        refused (long_turn rules (held rows pending) idle position word written is (kind.TooManyValues, [], rw (found, e) refl))
    flag_same written name same is found None e =
        done_same written (flagged name) [] name (codes "true") same is (rw (found, e) refl) (rw (found, e) refl) (flag_fault name pairs) (flag_used name pairs)

    -- the option or the flag that the word names
    option_same : (written : Text) → IsTable table → IdleSame words → WaitsSame words → IsLong word written
        → Gives (option_of table written >>= λ a. with_option a (value_in written) (λ option. read_words table names option words))
    option_same written t same waiting is = go (option_of table written) refl
      where
        optional : (name : Text) (v : Option Text) → Gives (with_option (Required, name) v (λ option. read_words table names option words))
            → Gives (with_option (Optional, name) v (λ option. read_words table names option words))
        optional name None result = result
        optional name (Some value) result = result

        by_kind : (kind : ArgumentKind) (name : Text) → IsFoundById rules kind name → is_option_named (before_first is_equals written) (kind, name) ≡ true
            → arg_by_long rules (name_and_value written).0 ≡ Some (built_by 0 kind name)
            → Gives (with_option (kind, name) (value_in written) (λ option. read_words table names option words))
        by_kind Required name by_id passed found = valued_same written name true same waiting is found by_id (value_in written) refl
        by_kind Optional name by_id passed found =
            optional name (value_in written) (valued_same written name false same waiting is found by_id (value_in written) refl)
        by_kind Flag name by_id passed found = flag_same written name same is found (value_in written) refl
        by_kind kind name by_id passed found = absurd (true≢false (sym passed))

        go : (o : Option Argument) → option_of table written ≡ o
            → Gives (o >>= λ a. with_option a (value_in written) (λ option. read_words table names option words))
        go None e =
            let found : arg_by_long rules (name_and_value written).0 ≡ None =
            by_long 1 table (before_first is_equals written) ∙ ap (option_map built_option) e in
            refused (long_turn rules (held rows pending) idle position word written is (kind.UnknownArgument, [], rw found refl))
        go (Some a) e =
            let it = the_found (λ (x : Argument). IsFoundById rules x.0 x.1) (is_option_named (before_first is_equals written)) table a t.options e in
            by_kind a.0 a.1 it.0 it.1 (by_long 1 table (before_first is_equals written) ∙ ap (option_map built_option) e)

    idle_word : IsTable table → IdleSame words → WaitsSame words → Gives (read_words table names None (word ∷ words))
    unfolding read_words
    idle_word t same waiting = go (looks word)
      where
        in_place : (free : List Text) → ArePlacesAt rules position free → IsForPlace rules (held rows pending) idle position false word
            → Gives (slice_get free 0 >>= λ name. also name word (read_words table (drop 1 free) None words))
        in_place [] at for = refused (stray_fails rules rows pending idle position false word for at)
        in_place (name ∷ others) at for =
            let after = settled_rows rules pending rows in
            ap (option_map given_in) (goes_on rules _ _ word words
            (place_turn rules rows pending idle position false word name at.0 for (at.1, at.2) ∙ settles.fault)
            (place_walked rules rows pending idle position false word name at.0 for (at.1, at.2)))
            ∙ after_text table after pairs name word None (Some position) at.0 _ (read_words table others None words) at.2 settles.rows_are settles.once
            (λ more. same others after (Some (name, word ∷ [])) (min (position + 1) usize_max) (pairs ++ (name, word) ∷ []) at.3 more)
            (λ f. idle_stuck rules words others after (Some (name, word ∷ [])) (min (position + 1) usize_max) at.3 no_short f)

        go : Looks word → Gives (read_words table names None (word ∷ words))
        go (as_text e is l s) = rw (e, is) (in_place names places (for_place rules rows pending position word e l s))
        go (as_other is (as_dashes e)) = rw e (ap (option_map given_in) (goes_on rules _ _ word words
            (dashes_fault rules (held rows pending) idle position word e) (dashes_walked rules (held rows pending) idle position word e))
            ∙ trailing_same table words names rows pending idle position pairs places settles)
        go (as_other is (as_long written e a l)) = rw (e, is, a) (option_same written t same waiting (e, l))
        go (as_other is (as_short first more x e a l s at)) = rw (e, is, a) (refused
            (short_fails rules rows pending idle position word first more x no_short e l s at))

  -- where an option waits in vain
  in_vain : (rows : List Row) (name : Text) → IsValued name → Fails (settle_fault rules false (held rows (Some (name, []))))
  in_vain rows name is = let fault : settle_fault rules false (held rows (Some (name, []))) ≡ kind.InvalidValue ∷ [] = rw is.3 refl in
      (kind.InvalidValue, [], fault)

  waits_step : (word : Text) (words : List Text) → IdleSame words → WaitsSame (word ∷ words)
  unfolding read_words
  waits_step word words same names rows position pairs name places is are once = go (looks word)
    where
      go : Looks word → option_map given_in (ended rules (walk_at (held rows (Some (name, []))) (option name) position false) (word ∷ words))
          ≡ outcome table pairs (only (is_text word) (also name word (read_words table names None words)))
      go (as_text e t l s) =
          let turn = value_turn rules rows position word name is.0 is.1 is.2 e l s is.3 in
          rw t (ap (option_map given_in) (goes_on rules _ _ word words turn.0 turn.1)
          ∙ after_text table rows pairs name word is.0 is.1 is.2 _ (read_words table names None words) is.3 are once
          (λ more. same names rows (Some (name, word ∷ [])) position (pairs ++ (name, word) ∷ []) places more)
          (λ f. idle_stuck rules words names rows (Some (name, word ∷ [])) position places no_short f))
      go (as_other t look) = rw t (ap (option_map given_in)
          (not_text_stuck rules word words names rows (Some (name, [])) (option name) position places no_short (in_vain rows name is) look))

  all_same : IsTable table → (words : List Text) → IdleSame words × WaitsSame words
  unfolding read_words
  all_same t [] = (
    λ names rows pending position pairs places settles. end_same table rows pending idle position false pairs settles,
    λ names rows position pairs name places is are once.
        ap (option_map given_in) (end_stuck rules (held rows (Some (name, []))) (option name) position false (in_vain rows name is)),
  )
  all_same t (word ∷ words) =
      let more = all_same t words in (
        λ names rows pending position pairs places settles.
            idle_word word words names rows pending position pairs places settles t more.0 more.1,
        waits_step word words more.0,
      )

-- ---- a form's command

no_level : (rules : List Rule) (words : List Text) (stop : Option (Text × List Text))
    → taken (level_fault (shape_with rules) [] nothing_held words (is_some (entered (app_of_rules rules) stop)) (entered_fault (app_of_rules rules) stop))
    (rows_after rules [] words)
    ≡ ended rules (walk_at (held [] None) idle 1 false) words
no_level rules words None = refl
no_level rules words (Some p) = refl

app_same : (table : List Argument) (words : List Text)
    → rows_taken (app_with (map rule_for table)) words ≡ ended (clap_rules table) (walk_at (held [] None) idle 1 false) words
unfolding app_with rows_taken
app_same table words =
    ap (λ rules. taken (built_fault (app_of_rules rules) nothing_held words) (rows_after rules [] words)) (all_built 1 table)
    ∙ no_level (clap_rules table) words (walk (clap_rules table) [] nothing_held words).stopped

pub same_words : (form : Form) (words : List Text) → option_map given_in (rows_taken (form_app form) words) ≡ given_arguments form words
unfolding given_arguments pairs_of
same_words form words =
    let table = arguments_of form in
    let t = is_table form in
    ap (option_map given_in) (app_same table words)
    ∙ (all_same table t words).0 (place_names table) [] None 1 [] t.places (record { fault = refl; rows_are = refl; once = refl })
    ∙ last (read_words table (place_names table) None words)
  where
    last : (o : Option Pairs) → outcome (arguments_of form) [] o ≡ option_map texts_of (o >>= λ pairs. only (is_whole (arguments_of form) pairs) (Some pairs))
    last None = refl
    last (Some pairs) = go (is_whole (arguments_of form) pairs)
      where
        go : (b : Bool) → only b (Some (texts_of pairs)) ≡ option_map texts_of (only b (Some pairs))
        go true = refl
        go false = refl
