-- Names that are given once, and what follows from a name that is given twice.
use Rattle.std.proofs.Common.{◌≡◌, ◌∙◌, Bool, true, false, ◌||◌, refl, sym, ap, List, [], ◌∷◌, ◌++◌, map, Option, Some, None, append_assoc, true≢false}
use Rattle.std.specs.List.{list_any}
use Rattle.std.specs.Str.{bytes_eq}
use Rattle.std.proofs.lemmas.Bool.{false_from_ne_true, or_parts}
use Rattle.std.proofs.lemmas.Slice.Eq.{bytes_eq-Decides}
use Rattle.basics.specs.Options.{◌>>=◌}
use Rattle.flow_filter.specs.Name.{has_twice}
use Rattle.command_words.specs.Values.{only}
use Rattle.command_words.specs.Arguments.{Argument, Text}
use Rattle.command_words.specs.Grammar.{Texts, Pairs, texts_of, also, is_given, is_whole}

abbrev pub names_of : Pairs → List Text
names_of pairs = map (λ (p : Text × Text). p.0) pairs

same_back : (a b : Text) → bytes_eq a b ≡ true → bytes_eq b a ≡ true
same_back a b e = (bytes_eq-Decides b a).1 (sym ((bytes_eq-Decides a b).0 e))

same_both_ways : (a b : Text) (t : Bool) → bytes_eq a b ≡ t → bytes_eq b a ≡ t
same_both_ways a b true e = same_back a b e
same_both_ways a b false e = false_from_ne_true (bytes_eq b a) (λ f. true≢false (sym (same_back b a f) ∙ e))

or_yes : (a b : Bool) → b ≡ true → (a || b) ≡ true
or_yes true b e = refl
or_yes false b e = e

in_middle : (test : Text → Bool) (before after : Pairs) (p : Text × Text) → test p.0 ≡ true → list_any test (names_of (before ++ p ∷ after)) ≡ true
in_middle test [] after p e = rw e refl
in_middle test (q ∷ before) after p e = or_yes (test q.0) _ (in_middle test before after p e)

-- a name that was given, given again
pub twice_in : (name text : Text) (before after : Pairs) → is_given name before ≡ true → has_twice (names_of (before ++ (name, text) ∷ after)) ≡ true
twice_in name text [] after e = cc
twice_in name text (p ∷ before) after e = go (bytes_eq p.0 name) refl (twice_in name text before after)
  where
    go : (t : Bool) → bytes_eq p.0 name ≡ t → (is_given name before ≡ true → has_twice (names_of (before ++ (name, text) ∷ after)) ≡ true)
        → has_twice (names_of ((p ∷ before) ++ (name, text) ∷ after)) ≡ true
    go true f more = rw (in_middle (λ other. bytes_eq other p.0) before after (name, text) (same_both_ways p.0 name true f)) refl
    go false f more = or_yes _ _ (more (rw f at e))

none_more : (test : Text → Bool) (before : Pairs) (p : Text × Text) → list_any test (names_of before) ≡ false → test p.0 ≡ false
    → list_any test (names_of (before ++ p ∷ [])) ≡ false
none_more test [] p none e = rw e refl
none_more test (q ∷ before) p none e = let parts = or_parts (test q.0) _ none in rw (parts.0, none_more test before p parts.1 e) refl

pub once_more : (name text : Text) (before : Pairs) → has_twice (names_of before) ≡ false → is_given name before ≡ false
    → has_twice (names_of (before ++ (name, text) ∷ [])) ≡ false
once_more name text [] once e = refl
once_more name text (p ∷ before) once e =
    let parts = or_parts (list_any (λ other. bytes_eq other p.0) (names_of before)) _ once in
    let new = or_parts (bytes_eq p.0 name) _ e in
    rw (
      none_more (λ other. bytes_eq other p.0) before (name, text) parts.0
          (same_both_ways p.0 name false new.0),
      once_more name text before parts.1 new.1,
    ) refl

-- what the words give after these pairs
abbrev pub outcome : List Argument → Pairs → Option Pairs → Option Texts
outcome table before more = more >>= λ pairs. only (is_whole table (before ++ pairs)) (Some (texts_of (before ++ pairs)))

pub carried : (table : List Argument) (before : Pairs) (name text : Text) (more : Option Pairs)
    → outcome table before (also name text more) ≡ outcome table (before ++ (name, text) ∷ []) more
carried table before name text None = refl
carried table before name text (Some pairs) = ap (λ all. only (is_whole table all) (Some (texts_of all)))
    (sym (append_assoc before ((name, text) ∷ []) pairs))

pub refused_twice : (table : List Argument) (before : Pairs) (name text : Text) (more : Option Pairs) → is_given name before ≡ true
    → outcome table before (also name text more) ≡ None
refused_twice table before name text None e = refl
refused_twice table before name text (Some pairs) e = rw (twice_in name text before pairs e) refl
