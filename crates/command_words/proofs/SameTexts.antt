-- Where clap's walk has read words so far: what it gives of texts, at the end, and where a name is given twice.
use Rattle.std.proofs.Common.{◌≡◌, ◌∙◌, ℕ, Bool, cond, true, false, ◌&&◌, not, ◌+◌, refl, sym, ap}
use Rattle.std.proofs.Common.{List, [], ◌∷◌, ◌++◌, Option, Some, None, append-nil}
use Prim.Native.Nat.compare
use Rattle.std.specs.Prelude.{codes, length, min, nat_le, option_map}
use Rattle.std.specs.List.{fold, list_all, zip}
use Rattle.std.specs.Str.{bytes_eq}
use Rattle.clap.specs.Lexer.{long_of, name_and_value, usize_max}
use Rattle.clap.specs.Faults.{check_fault, defaults_fault, settle_fault, use_fault, walk_fault}
use Rattle.clap.specs.Kinds.{Kinds, or_else}
use Rattle.clap.specs.Walk.{Held, Row, Rule, Waiting, arg_by_id, arg_by_long, arg_by_short, finished, has_row, idle, settled, settled_rows, with_default}
use Rattle.clap.specs.declared.error.kind.ErrorKind.TheVariants as kind
use Rattle.command_words.specs.ClapArguments.{given_in, taken}
use Rattle.flow_filter.specs.Name.{has_twice}
use Rattle.command_words.specs.Values.{only}
use Rattle.command_words.specs.Arguments.{Argument, Text}
use Rattle.command_words.specs.Grammar.{Pairs, texts_of, also, is_given}
use Rattle.command_words.proofs.WordShapes.{NoText, as_dashes, as_long, as_short, Looks, as_text, as_other, looks}
use Rattle.command_words.proofs.ClapLookups.{ArePlacesAt, built_rules, flagged, valued}
use Rattle.command_words.proofs.PairLemmas.{carried, names_of, once_more, outcome, refused_twice}
use Rattle.command_words.proofs.ClapRows.{has_row_is, rows_for, valued_used}
use Rattle.command_words.proofs.ClapEnd.{all_wanted, end_rows, given_before, is_satisfied, no_default_fault, texts_before}
use Rattle.command_words.proofs.ClapTurns.{Fails, IsForPlace, IsShortOfNone, dashes_fault, dashes_walked, ended, fails_first, goes_on, held, long_fails}
use Rattle.command_words.proofs.ClapTurns.{long_turn, place_turn, place_walked, shape_with, short_fails, stops, stray_fails, text_fault, text_met, walk_at}

abbrev pub clap_rules : List Argument → List Rule
clap_rules table = built_rules 1 table

-- what is held comes to these pairs
pub record Settles (rules : List Rule) (rows : List Row) (pending : Option (Text × List Text)) (pairs : Pairs) : Type 0 where
  pub fault : settle_fault rules false (held rows pending) ≡ []
  pub rows_are : settled_rows rules pending rows ≡ rows_for pairs
  pub once : has_twice (names_of pairs) ≡ false

-- ---- at the end

pub end_stuck : (rules : List Rule) (h : Held) (waiting : Waiting) (position : ℕ) (is_trailing : Bool) → Fails (settle_fault rules false h)
    → ended rules (walk_at h waiting position is_trailing) [] ≡ None
unfolding walk_fault
end_stuck rules h waiting position is_trailing f =
    let first = fails_first (settle_fault rules false h) (or_else (defaults_fault (settled rules h).rows rules)
    (check_fault (shape_with rules) (finished rules h) false)) f in
    ap (λ faults. taken faults (finished rules h)) first.2

wanted_or_given : (once whole : Bool) (rows : List Row) (pairs : Pairs) → once ≡ true → given_in rows ≡ texts_of pairs
    → option_map given_in (taken (cond (not whole) (kind.MissingRequiredArgument ∷ []) []) rows) ≡ only (once && whole) (Some (texts_of pairs))
wanted_or_given once true rows pairs e same = rw e (ap (λ ps. Some ps) same)
wanted_or_given once false rows pairs e same = rw e refl

pub end_same : (table : List Argument) (rows : List Row) (pending : Option (Text × List Text)) (waiting : Waiting) (position : ℕ) (is_trailing : Bool)
    (pairs : Pairs)
    → Settles (clap_rules table) rows pending pairs
    → option_map given_in (ended (clap_rules table) (walk_at (held rows pending) waiting position is_trailing) []) ≡ outcome table pairs (Some [])
unfolding walk_fault
end_same table rows pending waiting position is_trailing pairs settles =
    let rules = clap_rules table in
    let ends = end_rows table 1 (rows_for pairs) in
    let last : fold with_default (settled_rows rules pending rows) rules ≡ rows_for pairs ++ ends.defaults =
    ap (λ rs. fold with_default rs rules) settles.rows_are ∙ ends.last in
    let wanted = all_wanted table 1 (rows_for pairs ++ ends.defaults) pairs (λ id. given_before id pairs ends.defaults ends.weak) in
    rw (settles.fault, no_default_fault table 1 (settled_rows rules pending rows), last, wanted, append-nil pairs)
    (wanted_or_given (not (has_twice (names_of pairs))) (list_all (is_satisfied pairs) table) (rows_for pairs ++ ends.defaults) pairs (ap not settles.once)
    (texts_before pairs ends.defaults ends.weak))

-- ---- where what is held has a fault, no words give anything

place_stuck : (rules : List Rule) (rows : List Row) (pending : Option (Text × List Text)) (waiting : Waiting) (position : ℕ) (is_trailing : Bool)
    (names : List Text) (word : Text) (words : List Text) → ArePlacesAt rules position names
    → IsForPlace rules (held rows pending) waiting position is_trailing word
    → Fails (settle_fault rules false (held rows pending)) → ended rules (walk_at (held rows pending) waiting position is_trailing) (word ∷ words) ≡ None
place_stuck rules rows pending waiting position is_trailing [] word words places for f =
    stops rules _ word words (stray_fails rules rows pending waiting position is_trailing word for places)
place_stuck rules rows pending waiting position is_trailing (name ∷ names) word words places for f =
    stops rules _ word words (f.0, f.1, place_turn rules rows pending waiting position is_trailing word name places.0 for (places.1, places.2) ∙ f.2)

pub trailing_stuck : (rules : List Rule) (words : List Text) (names : List Text) (rows : List Row) (pending : Option (Text × List Text)) (waiting : Waiting)
    (position : ℕ)
    → ArePlacesAt rules position names → Fails (settle_fault rules false (held rows pending))
    → ended rules (walk_at (held rows pending) waiting position true) words ≡ None
trailing_stuck rules [] names rows pending waiting position places f = end_stuck rules (held rows pending) waiting position true f
trailing_stuck rules (word ∷ words) names rows pending waiting position places f =
    place_stuck rules rows pending waiting position true names word words places (refl, refl) f

-- a word that is no text
pub not_text_stuck : (rules : List Rule) (word : Text) (words : List Text) (names : List Text) (rows : List Row) (pending : Option (Text × List Text))
    (waiting : Waiting) (position : ℕ)
    → ArePlacesAt rules position names → ((c : ℕ) → arg_by_short rules c ≡ None) → Fails (settle_fault rules false (held rows pending)) → NoText word
    → ended rules (walk_at (held rows pending) waiting position false) (word ∷ words) ≡ None
not_text_stuck rules word words names rows pending waiting position places no_short f (as_dashes e) =
    goes_on rules _ _ word words (dashes_fault rules (held rows pending) waiting position word e)
    (dashes_walked rules (held rows pending) waiting position word e)
    ∙ trailing_stuck rules words names rows pending waiting position places f
not_text_stuck rules word words names rows pending waiting position places no_short f (as_long written e a l) =
    stops rules _ word words (long_turn rules (held rows pending) waiting position word written (e, l)
    (long_fails rules (held rows pending) (arg_by_long rules (name_and_value written).0) (name_and_value written).1 f))
not_text_stuck rules word words names rows pending waiting position places no_short f (as_short first more x e a l s at) =
    stops rules _ word words (short_fails rules rows pending waiting position word first more x no_short e l s at)

pub for_place : (rules : List Rule) (rows : List Row) (pending : Option (Text × List Text)) (position : ℕ) (word : Text)
    → bytes_eq word (codes "--") ≡ false → long_of word ≡ None → IsShortOfNone word → IsForPlace rules (held rows pending) idle position false word
for_place rules rows pending position word e l s =
    (text_met rules rows pending idle position word e l s, text_fault rules (held rows pending) idle word e l s)

pub idle_stuck : (rules : List Rule) (words : List Text) (names : List Text) (rows : List Row) (pending : Option (Text × List Text)) (position : ℕ)
    → ArePlacesAt rules position names → ((c : ℕ) → arg_by_short rules c ≡ None) → Fails (settle_fault rules false (held rows pending))
    → ended rules (walk_at (held rows pending) idle position false) words ≡ None
idle_stuck rules [] names rows pending position places no_short f = end_stuck rules (held rows pending) idle position false f
idle_stuck rules (word ∷ words) names rows pending position places no_short f = go (looks word)
  where
    go : Looks word → ended rules (walk_at (held rows pending) idle position false) (word ∷ words) ≡ None
    go (as_text e t l s) = place_stuck rules rows pending idle position false names word words places (for_place rules rows pending position word e l s) f
    go (as_other t look) = not_text_stuck rules word words names rows pending idle position places no_short f look

-- ---- one more text

one_use : (b : Bool) → or_else (cond (b && true) (kind.ArgumentConflict ∷ []) []) [] ≡ cond b (kind.ArgumentConflict ∷ []) []
one_use true = refl
one_use false = refl

abbrev pub repeated : Bool → Kinds
repeated again = cond again (kind.ArgumentConflict ∷ []) []

pub valued_fault : (name text : Text) (long : Option Text) (index : Option ℕ) (required : Bool) (pairs : Pairs)
    → use_fault false (valued name long index required) (text ∷ []) (rows_for pairs) ≡ repeated (is_given name pairs)
valued_fault name text long index required pairs = one_use (has_row name (rows_for pairs)) ∙ ap repeated (has_row_is name pairs)

pub flag_fault : (name : Text) (pairs : Pairs) → use_fault false (flagged name) [] (rows_for pairs) ≡ repeated (is_given name pairs)
flag_fault name pairs = one_use (has_row name (rows_for pairs)) ∙ ap repeated (has_row_is name pairs)

-- a text waits to be used for a name
pub after_text : (table : List Argument) (rows : List Row) (pairs : Pairs) (name word : Text) (long : Option Text) (index : Option ℕ) (required : Bool)
    (result : Option (List Row)) (more : Option Pairs) → arg_by_id (clap_rules table) name ≡ Some (valued name long index required) → rows ≡ rows_for pairs
    → has_twice (names_of pairs) ≡ false
    → (Settles (clap_rules table) rows (Some (name, word ∷ [])) (pairs ++ (name, word) ∷ [])
    → option_map given_in result ≡ outcome table (pairs ++ (name, word) ∷ []) more)
    → (Fails (settle_fault (clap_rules table) false (held rows (Some (name, word ∷ [])))) → result ≡ None)
    → option_map given_in result ≡ outcome table pairs (also name word more)
after_text table rows pairs name word long index required result more found are once next stuck = go (is_given name pairs) refl
  where
    fault : settle_fault (clap_rules table) false (held rows (Some (name, word ∷ []))) ≡ repeated (is_given name pairs)
    fault = rw (found, are) (valued_fault name word long index required pairs)

    go : (again : Bool) → is_given name pairs ≡ again → option_map given_in result ≡ outcome table pairs (also name word more)
    go true e = ap (option_map given_in) (stuck (kind.ArgumentConflict, [], fault ∙ ap repeated e)) ∙ sym (refused_twice table pairs name word more e)
    go false e = next (record {
      fault = fault ∙ ap repeated e;
      rows_are = rw (found, are) (valued_used name word long index required pairs e);
      once = once_more name word pairs once e;
    }) ∙ sym (carried table pairs name word more)

-- ---- after `--`

abbrev pub in_places : List Text → List Text → Option Pairs
in_places names texts = only (nat_le (length texts) (length names)) (Some (zip names texts))

more_places : (name text : Text) (names texts : List Text) → in_places (name ∷ names) (text ∷ texts) ≡ also name text (in_places names texts)
more_places name text names texts = rw compare.suc-suc (go (nat_le (length texts) (length names)))
  where
    go : (b : Bool) → only b (Some ((name, text) ∷ zip names texts)) ≡ also name text (only b (Some (zip names texts)))
    go true = refl
    go false = refl

too_many : (text : Text) (texts : List Text) → in_places [] (text ∷ texts) ≡ None
too_many text texts = rw compare.suc-zero refl

no_places : (names : List Text) → in_places names [] ≡ Some []
no_places [] = refl
no_places (name ∷ names) = rw compare.zero-suc refl

pub trailing_same : (table : List Argument) (words : List Text) (names : List Text) (rows : List Row) (pending : Option (Text × List Text))
    (waiting : Waiting) (position : ℕ) (pairs : Pairs)
    → ArePlacesAt (clap_rules table) position names → Settles (clap_rules table) rows pending pairs
    → option_map given_in (ended (clap_rules table) (walk_at (held rows pending) waiting position true) words) ≡ outcome table pairs (in_places names words)
trailing_same table [] names rows pending waiting position pairs places settles =
    end_same table rows pending waiting position true pairs settles ∙ ap (outcome table pairs) (sym (no_places names))
trailing_same table (word ∷ words) [] rows pending waiting position pairs places settles =
    ap (option_map given_in) (stops (clap_rules table) _ word words
    (stray_fails (clap_rules table) rows pending waiting position true word (refl, refl) places))
    ∙ ap (outcome table pairs) (sym (too_many word words))
trailing_same table (word ∷ words) (name ∷ names) rows pending waiting position pairs places settles =
    let rules = clap_rules table in
    let after = settled_rows rules pending rows in
    ap (option_map given_in) (goes_on rules _ _ word words
    (place_turn rules rows pending waiting position true word name places.0 (refl, refl) (places.1, places.2) ∙ settles.fault)
    (place_walked rules rows pending waiting position true word name places.0 (refl, refl) (places.1, places.2)))
    ∙ after_text table after pairs name word None (Some position) places.0 _ (in_places names words) places.2 settles.rows_are settles.once
    (λ more. trailing_same table words names after (Some (name, word ∷ [])) idle (min (position + 1) usize_max) (pairs ++ (name, word) ∷ []) places.3 more)
    (λ f. trailing_stuck rules words names after (Some (name, word ∷ [])) idle (min (position + 1) usize_max) places.3 f)
    ∙ ap (outcome table pairs) (sym (more_places name word names words))
