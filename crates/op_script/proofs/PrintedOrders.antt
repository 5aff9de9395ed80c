-- The words of an order are read as the order.
use Rattle.op_script.proofs.Words.{◌≡◌, ℕ, ◌<◌, ◌≤◌, ◌^◌, Bool, true, false, not, cond, eqb, leb, ◌&&◌, List, [], ◌∷◌, ◌++◌, length, Option, None, Some}
use Rattle.op_script.proofs.Words.{is_some, option_map, Ok, refl, ap, sym, ◌∙◌, arith, codes, AllByRecursion, slice_split, join_with_byte, list_all, ForSome}
use Rattle.op_script.proofs.Words.{bytes_eq, decimal, ne_eqb, and_parts, not-false, or_parts, bytes_eq-Decides, Filter, IsFilter, is_name, is_name_byte}
use Rattle.op_script.proofs.Words.{has_twice, Fields, print, parse, fields_of, split_once, Lacks, split_once-append, split-Some, Kind, splits, Word, Event}
use Rattle.op_script.proofs.Words.{Moving, Copying, Sharing, Happening, statement_of, distinct_names, filter_of, order_said, order_view, unless, order_splits}
use Rattle.std.proofs.Common.{◌||◌}
use Rattle.std.proofs.lemmas.Bool.{false_from_ne_true}
use Rattle.flow_filter.specs.FilterText.{is_printable}
use Rattle.basics.proofs.SplitLemmas.{split_once-lacks, split-None}
use Rattle.flow_filter.proofs.PrintedFilters.{parse-print}
use Rattle.nf_msgs.specs.declared.command.Order.{Order}
use Rattle.nf_msgs.specs.declared.command.Order.TheVariants.{Move, Copy, Share}
use Rattle.op_script.specs.declared.fault.ScriptKind.TheVariants as bad
use Rattle.nf_msgs.specs.Orders.{order_filter}
use Rattle.op_script.specs.Printing.{copied_word, order_words, IsOrder}
use Rattle.op_script.proofs.JudgedLemmas.{unless_Ok}
use Rattle.op_script.proofs.PrintableWords.{IsWord, literal_word, name_word}
use Rattle.op_script.proofs.FilterWordLemmas.{filter_word, join_word}
use Rattle.op_script.proofs.PrintedLines.{at_statement, move_event, copy_event, share_event}

-- the event that an order's words spell
abbrev pub event_in : Order → Event
event_in (Move source destination filter keep) = Moving source destination (print filter) keep
event_in (Copy source destination filter) = Copying source destination (option_map print filter)
event_in (Share members filter) = Sharing (join_with_byte 44 members) (print filter)

pub filter_again : (kind : Kind) (f : Filter) → IsFilter f → is_printable f ≡ true → splits kind (fields_of f) ≡ false
    → filter_of kind (print f) ≡ Ok (fields_of f)
unfolding filter_of
filter_again kind f fits prints whole = rw (parse-print f fits prints, whole) refl

not_all : (text : Word) (g : Fields) (test : Bool) → bytes_eq text (codes "all") ≡ test → parse text ≡ Ok g → test ≡ false
unfolding parse
not_all text g false is read = refl
not_all text g true is read = let all : text ≡ codes "all" = (bytes_eq-Decides text (codes "all")).0 is in let wrong = rw all at read in absurd cc

pub differs : (name other : Word) → bytes_eq other name ≡ false → bytes_eq name other ≡ false
differs name other is = false_from_ne_true (bytes_eq name other) (λ same.
    let back : bytes_eq other name ≡ true = (bytes_eq-Decides other name).1 (sym ((bytes_eq-Decides name other).0 same)) in cc)

-- what is known of the two names of a move or a copy
pub record Ends (a b : Word) : Type 0 where
  pub source : is_name a ≡ true
  pub destination : is_name b ≡ true
  pub other : bytes_eq a b ≡ false

pub ends_known : (source destination : Word) → distinct_names (source ∷ destination ∷ []) ≡ Ok (source ∷ destination ∷ []) → Ends source destination
unfolding distinct_names
ends_known source destination is =
    let names = source ∷ destination ∷ [] in
    let first = unless_Ok (not (list_all is_name names)) bad.Name (unless (has_twice names) bad.SameInstance (Ok names)) names is in
    let second = unless_Ok (has_twice names) bad.SameInstance (Ok names) names first.1 in
    let both = and_parts (is_name source) (is_name destination && true) (not-false _ first.0) in
    let back = bytes_eq destination source in
    record {
      source = both.0;
      destination = (and_parts (is_name destination) true both.1).0;
      other = differs source destination (or_parts back false (or_parts (back || false) false second.0).0).0;
    }

letters_lack : (name : Word) → list_all is_name_byte name ≡ true → Lacks 44 name
letters_lack [] is = tt
letters_lack (b ∷ more) is =
    let p = and_parts (is_name_byte b) (list_all is_name_byte more) is in
    (ne_eqb b 44 (λ comma. let letter = rw comma at p.0 in absurd cc), letters_lack more p.1)

name_lacks : (name : Word) → is_name name ≡ true → Lacks 44 name
name_lacks name is = letters_lack name (and_parts (leb 1 (length name) && leb (length name) 16) (list_all is_name_byte name) is).1

names_split : (first : Word) (more : List Word) → list_all is_name (first ∷ more) ≡ true
    → slice_split (λ b. eqb b 44) (join_with_byte 44 (first ∷ more)) ≡ first ∷ more
names_split first [] are = split-None 44 first (sym (split_once-lacks 44 first (name_lacks first (and_parts (is_name first) true are).0)))
names_split first (next ∷ more) are =
    let p = and_parts (is_name first) (list_all is_name (next ∷ more)) are in
    split-Some 44 (first ++ (44 ∷ join_with_byte 44 (next ∷ more))) first (join_with_byte 44 (next ∷ more))
    (sym (split_once-append 44 first (join_with_byte 44 (next ∷ more)) (name_lacks first p.0)))
    ∙ ap (λ t. first ∷ t) (names_split next more p.1)

members_again : (members : List Word) → 2 ≤ length members → list_all is_name members ≡ true → has_twice members ≡ false
    → (distinct_names (slice_split (λ b. eqb b 44) (join_with_byte 44 members)) ≡ Ok members)
    × (is_some (split_once 44 (join_with_byte 44 members)) ≡ true) × IsWord (join_with_byte 44 members)
unfolding distinct_names
members_again [] two are once = absurd (omega arith)
members_again (first ∷ []) two are once = absurd (omega arith)
members_again (first ∷ next ∷ more) two are once =
    let p = and_parts (is_name first) (list_all is_name (next ∷ more)) are in (
      rw (names_split first (next ∷ more) are, are, once) refl,
      rw (split_once-append 44 first (join_with_byte 44 (next ∷ more)) (name_lacks first p.0)) refl,
      join_word first (next ∷ more) (names_words (first ∷ next ∷ more) are),
    )
  where
    names_words : (names : List Word) → list_all is_name names ≡ true → AllByRecursion IsWord names
    names_words [] are = tt
    names_words (name ∷ more) are = let p = and_parts (is_name name) (list_all is_name more) are in (name_word name p.0, names_words more p.1)

-- the words of an order are its event's statement
pub order_statement : (at : ℕ) (o : Order) → at < 2 ^ 32 → IsOrder (order_view o) → ForSome (order_filter o) IsFilter
    → statement_of (codes "at" ∷ decimal at ∷ order_words o) ≡ Some (Happening at (event_in o))
order_statement at (Move source destination filter keep) small is fits =
    at_statement at (codes "move") _ _ small (move_event source destination (print filter) keep)
order_statement at (Copy source destination None) small is fits = at_statement at (codes "copy") _ _ small (copy_event source destination (codes "all"))
order_statement at (Copy source destination (Some filter)) small is fits =
    let other = not_all (print filter) (fields_of filter) (bytes_eq (print filter) (codes "all")) refl (parse-print filter (fits filter refl) is.1) in
    at_statement at (codes "copy") _ _ small
    (copy_event source destination (print filter) ∙ ap (λ (test : Bool). Some (Copying source destination (cond test None (Some (print filter))))) other)
order_statement at (Share members filter) small is fits =
    at_statement at (codes "share") _ _ small (share_event (join_with_byte 44 members) (print filter) (members_again members is.0 is.1 is.2).1)

-- the event of an order gives the order
pub order_again : (kind : Kind) (o : Order) → IsOrder (order_view o) → ForSome (order_filter o) IsFilter → order_splits kind (order_view o) ≡ false
    → order_said kind (event_in o) ≡ Ok (Some (order_view o))
unfolding order_said
order_again kind (Move source destination filter keep) is fits whole = rw (is.0, filter_again kind filter (fits filter refl) is.1 whole) refl
order_again kind (Copy source destination None) is fits whole = let ends = is.0 in rw ends refl
order_again kind (Copy source destination (Some filter)) is fits whole = rw (is.0, filter_again kind filter (fits filter refl) is.1 whole) refl
order_again kind (Share members filter) is fits whole =
    rw ((members_again members is.0 is.1 is.2).0, filter_again kind filter (fits filter refl) is.3 whole) refl

-- the words of an order are words
pub order_words_are : (o : Order) → IsOrder (order_view o) → ForSome (order_filter o) IsFilter → AllByRecursion IsWord (order_words o)
order_words_are (Move source destination filter keep) is fits =
    let names = ends_known source destination is.0 in (
      literal_word (codes "move") refl,
      (
        name_word source names.source,
        (
          name_word destination names.destination,
          (filter_word filter (fits filter refl), (how_word keep, tt)),
        ),
      ),
    )
  where
    how_word : (keep : Bool) → IsWord (cond keep (codes "order") (codes "lossfree"))
    how_word true = literal_word (codes "order") refl
    how_word false = literal_word (codes "lossfree") refl
order_words_are (Copy source destination filter) is fits =
    let names = ends_known source destination is.0 in
    (literal_word (codes "copy") refl, (name_word source names.source, (name_word destination names.destination, (word_of filter fits, tt))))
  where
    word_of : (filter : Option Filter) → ForSome filter IsFilter → IsWord (copied_word filter)
    word_of None fits = literal_word (codes "all") refl
    word_of (Some filter) fits = filter_word filter (fits filter refl)
order_words_are (Share members filter) is fits = (
  literal_word (codes "share") refl,
  ((members_again members is.0 is.1 is.2).2, (filter_word filter (fits filter refl), (literal_word (codes "strict") refl, tt))),
)
