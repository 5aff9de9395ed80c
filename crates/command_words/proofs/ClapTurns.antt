-- One word more, as clap's walk takes it.
use Rattle.std.proofs.Common.{◌≡◌, ◌⊎◌, ◌∙◌, ℕ, Bool, cond, true, false, ◌&&◌, ◌||◌, ◌+◌, refl, ap, ap₂, List, [], ◌∷◌, Option, Some, None, inl, inr}
use Rattle.std.specs.Prelude.{codes, min, slice_get, is_some}
use Rattle.std.specs.List.{fold}
use Rattle.std.specs.Str.{bytes_eq, chars}
use Rattle.std.proofs.lemmas.Slice.Eq.{bytes_eq-Decides}
use Rattle.clap.specs.Lexer.{long_of, short_of, name_and_value, usize_max}
use Rattle.clap.specs.Faults.{bundle_fault, check_fault, defaults_fault, flags_fault, long_fault, option_fault}
use Rattle.clap.specs.Faults.{react_fault, settle_fault, turn_fault, use_fault, walk_fault, word_fault}
use Rattle.clap.specs.Kinds.{Kinds, or_else}
use Rattle.clap.specs.Simple.{Shape, new_shape}
use Rattle.clap.specs.Walk.{Held, Row, Rule, Waiting, Walk, arg_by_id, arg_by_index, arg_by_long, arg_by_short, bundle}
use Rattle.clap.specs.Walk.{bundle_met, finished, idle, is_pending, option, plain, plain_word, positional, settled, settled_rows}
use Rattle.clap.specs.Walk.{subcommand_met, value, walked, word_met, long_met, long_word, done, waits, pushed, takes_values}
use Rattle.clap.specs.declared.error.kind.ErrorKind.{ErrorKind}
use Rattle.clap.specs.declared.error.kind.ErrorKind.TheVariants as kind
use Rattle.command_words.specs.ClapArguments.{taken}
use Rattle.command_words.specs.Arguments.{Text}
use Rattle.command_words.proofs.ClapLookups.{valued}

abbrev pub shape_with : List Rule → Shape
shape_with rules = record (new_shape (codes "opennf")) {
  rules = rules;
  no_binary_name = true;
  disable_help_flag = true;
  disable_help_subcommand = true;
  is_built = true;
}

abbrev pub held : List Row → Option (Text × List Text) → Held
held rows pending = record { rows = rows; pending = pending; skip = 0 }

abbrev pub walk_at : Held → Waiting → ℕ → Bool → Walk
walk_at h waiting position is_trailing = record { held = h; waiting = waiting; position = position; is_trailing = is_trailing; stopped = None }

-- there is a fault
abbrev pub Fails : Kinds → Type 0
Fails kinds = (kind : ErrorKind) × (more : Kinds) × (kinds ≡ kind ∷ more)

pub fails_first : (xs ys : Kinds) → Fails xs → Fails (or_else xs ys)
fails_first xs ys f = (f.0, f.1, rw f.2 refl)

-- ---- the whole walk, and its faults

abbrev pub at_end : List Rule → Held → Kinds
at_end rules h = or_else (settle_fault rules false h) (or_else (defaults_fault (settled rules h).rows rules)
    (check_fault (shape_with rules) (finished rules h) false))

abbrev pub ended : List Rule → Walk → List Text → Option (List Row)
ended rules w words = taken (or_else (walk_fault (shape_with rules) [] w words) (at_end rules (fold (walked rules []) w words).held))
    (finished rules (fold (walked rules []) w words).held)

or_assoc : (xs ys zs : Kinds) → or_else (or_else xs ys) zs ≡ or_else xs (or_else ys zs)
or_assoc [] ys zs = refl
or_assoc (x ∷ xs) ys zs = refl

pub goes_on : (rules : List Rule) (w after : Walk) (word : Text) (words : List Text) → turn_fault (shape_with rules) [] w word ≡ []
    → walked rules [] w word ≡ after
    → ended rules w (word ∷ words) ≡ ended rules after words
unfolding walk_fault
goes_on rules w after word words none is =
    ap (λ faults. taken (or_else (or_else faults (walk_fault (shape_with rules) [] (walked rules [] w word) words))
    (at_end rules (fold (walked rules []) (walked rules [] w word) words).held))
    (finished rules (fold (walked rules []) (walked rules [] w word) words).held)) none ∙ ap (λ v. ended rules v words) is

pub stops : (rules : List Rule) (w : Walk) (word : Text) (words : List Text) → Fails (turn_fault (shape_with rules) [] w word)
    → ended rules w (word ∷ words) ≡ None
unfolding walk_fault
stops rules w word words f =
    ap (λ faults. taken (or_else (or_else faults (walk_fault (shape_with rules) [] (walked rules [] w word) words))
    (at_end rules (fold (walked rules []) (walked rules [] w word) words).held))
    (finished rules (fold (walked rules []) (walked rules [] w word) words).held)) f.2

-- ---- what a word is met as

no_subcommand : (waiting : Waiting) (word : Text) → subcommand_met [] waiting word ≡ None
no_subcommand idle word = refl
no_subcommand (option id) word = refl
no_subcommand positional word = refl

-- `--`
pub dashes_fault : (rules : List Rule) (h : Held) (waiting : Waiting) (position : ℕ) (word : Text) → bytes_eq word (codes "--") ≡ true
    → turn_fault (shape_with rules) [] (walk_at h waiting position false) word ≡ []
dashes_fault rules h waiting position word e = rw (no_subcommand waiting word, e) refl

pub dashes_walked : (rules : List Rule) (h : Held) (waiting : Waiting) (position : ℕ) (word : Text) → bytes_eq word (codes "--") ≡ true
    → walked rules [] (walk_at h waiting position false) word ≡ walk_at h waiting position true
unfolding walked
dashes_walked rules h waiting position word e = rw (no_subcommand waiting word, e) refl

-- a text
abbrev pub IsShortOfNone : Text → Type 0
IsShortOfNone word = (short_of word ≡ None) ⊎ ((flags : Text) × (short_of word ≡ Some flags) × (slice_get (chars flags) 0 ≡ None))

empty_bundle : (rules : List Rule) (flags : Text) (rows : List Row) (pending : Option (Text × List Text)) → slice_get (chars flags) 0 ≡ None
    → bundle rules flags (held rows pending) ≡ (held rows pending, plain)
unfolding bundle_met
empty_bundle rules [] rows pending e = refl
empty_bundle rules (x ∷ xs) rows pending e = rw e refl

empty_bundle_fault : (rules : List Rule) (flags : Text) (h : Held) → slice_get (chars flags) 0 ≡ None → bundle_fault rules false flags h ≡ []
unfolding flags_fault
empty_bundle_fault rules [] h e = refl
empty_bundle_fault rules (x ∷ xs) h e = rw e refl

pub text_met : (rules : List Rule) (rows : List Row) (pending : Option (Text × List Text)) (waiting : Waiting) (position : ℕ) (word : Text)
    → bytes_eq word (codes "--") ≡ false → long_of word ≡ None → IsShortOfNone word
    → word_met rules [] false waiting position word (held rows pending) ≡ plain_word rules waiting word (held rows pending)
text_met rules rows pending waiting position word e no_long (inl none) = rw (no_subcommand waiting word, e, no_long, none) refl
text_met rules rows pending waiting position word e no_long (inr some) =
    rw (no_subcommand waiting word, e, no_long, some.1, empty_bundle rules some.0 rows pending some.2) refl

pub text_fault : (rules : List Rule) (h : Held) (waiting : Waiting) (word : Text)
    → bytes_eq word (codes "--") ≡ false → long_of word ≡ None → IsShortOfNone word → word_fault (shape_with rules) [] false waiting word h ≡ []
text_fault rules h waiting word e no_long (inl none) = rw (no_subcommand waiting word, e, no_long, none) refl
text_fault rules h waiting word e no_long (inr some) =
    rw (no_subcommand waiting word, e, no_long, some.1, empty_bundle_fault rules some.0 h some.2) refl

-- letters after one hyphen
pub short_fails : (rules : List Rule) (rows : List Row) (pending : Option (Text × List Text)) (waiting : Waiting) (position : ℕ) (word : Text)
    (first : ℕ) (more : Text) (x : ℕ) → ((c : ℕ) → arg_by_short rules c ≡ None) → bytes_eq word (codes "--") ≡ false → long_of word ≡ None
    → short_of word ≡ Some (first ∷ more) → slice_get (chars (first ∷ more)) 0 ≡ Some x
    → Fails (turn_fault (shape_with rules) [] (walk_at (held rows pending) waiting position false) word)
unfolding flags_fault
short_fails rules rows pending waiting position word first more x no_short e no_long some at =
    let fault : word_fault (shape_with rules) [] false waiting word (held rows pending) ≡ kind.UnknownArgument ∷ [] =
    rw (no_subcommand waiting word, e, no_long, some, at, no_short x) refl in
    fails_first _ _ (kind.UnknownArgument, [], fault)

-- an option or a flag
pub long_word_met : (rules : List Rule) (h : Held) (waiting : Waiting) (position : ℕ) (word written : Text)
    → bytes_eq word (codes "--") ≡ false → long_of word ≡ Some (name_and_value written)
    → word_met rules [] false waiting position word h ≡ long_word rules waiting word (name_and_value written).0 (name_and_value written).1 h
long_word_met rules h waiting position word written e is = rw (no_subcommand waiting word, e, is) refl

pub long_word_fault : (rules : List Rule) (h : Held) (waiting : Waiting) (word written : Text)
    → bytes_eq word (codes "--") ≡ false → long_of word ≡ Some (name_and_value written)
    → word_fault (shape_with rules) [] false waiting word h ≡ long_fault rules false (arg_by_long rules (name_and_value written).0)
    (name_and_value written).1 h
long_word_fault rules h waiting word written e is = rw (no_subcommand waiting word, e, is) refl

-- ---- a text of a place

abbrev pub HasPlace : List Rule → ℕ → Text → Bool → Type 0
HasPlace rules position name required = (arg_by_index rules position ≡ Some (valued name None (Some position) required))
    × (arg_by_id rules name ≡ Some (valued name None (Some position) required))

-- the word goes to a place
abbrev pub IsForPlace : List Rule → Held → Waiting → ℕ → Bool → Text → Type 0
IsForPlace rules h waiting position is_trailing word = (word_met rules [] is_trailing waiting position word h ≡ (h, value))
    × (word_fault (shape_with rules) [] is_trailing waiting word h ≡ [])

not_pending : {X : Type 0} (b : Bool) (x y : X) → cond (b && false) x y ≡ y
not_pending true x y = refl
not_pending false x y = refl

pub place_turn : (rules : List Rule) (rows : List Row) (pending : Option (Text × List Text)) (waiting : Waiting) (position : ℕ) (is_trailing : Bool)
    (word name : Text) (required : Bool)
    → IsForPlace rules (held rows pending) waiting position is_trailing word → HasPlace rules position name required
    → turn_fault (shape_with rules) [] (walk_at (held rows pending) waiting position is_trailing) word ≡ settle_fault rules false (held rows pending)
place_turn rules rows pending waiting position is_trailing word name required for has =
    rw (for.1, for.0, has.0) (not_pending (is_pending (valued name None (Some position) required) pending) [] (settle_fault rules false (held rows pending)))

or_no : (b : Bool) → (b || false) ≡ b
or_no true = refl
or_no false = refl

pub place_walked : (rules : List Rule) (rows : List Row) (pending : Option (Text × List Text)) (waiting : Waiting) (position : ℕ) (is_trailing : Bool)
    (word name : Text) (required : Bool)
    → IsForPlace rules (held rows pending) waiting position is_trailing word → HasPlace rules position name required
    → walked rules [] (walk_at (held rows pending) waiting position is_trailing) word
    ≡ walk_at (held (settled_rows rules pending rows) (Some (name, word ∷ []))) idle (min (position + 1) usize_max) is_trailing
unfolding walked
place_walked rules rows pending waiting position is_trailing word name required for has =
    rw (for.0, has.0) (ap₂ (λ h b. walk_at h idle (min (position + 1) usize_max) b) (ap (λ (h : Held). pushed name word h)
    (not_pending (is_pending (valued name None (Some position) required) pending) (held rows pending) (settled rules (held rows pending))))
    (or_no is_trailing))

pub stray_fails : (rules : List Rule) (rows : List Row) (pending : Option (Text × List Text)) (waiting : Waiting) (position : ℕ) (is_trailing : Bool)
    (word : Text)
    → IsForPlace rules (held rows pending) waiting position is_trailing word → arg_by_index rules position ≡ None
    → Fails (turn_fault (shape_with rules) [] (walk_at (held rows pending) waiting position is_trailing) word)
stray_fails rules rows pending waiting position is_trailing word for none =
    let fault : turn_fault (shape_with rules) [] (walk_at (held rows pending) waiting position is_trailing) word
    ≡ kind.UnknownArgument ∷ [] = rw (for.1, for.0, none) refl in
    (kind.UnknownArgument, [], fault)

-- ---- an option or a flag

abbrev pub IsLong : Text → Text → Type 0
IsLong word written = (bytes_eq word (codes "--") ≡ false) × (long_of word ≡ Some (name_and_value written))

-- where what was met before has a fault, so has the word
pub long_fails : (rules : List Rule) (h : Held) (found : Option Rule) (given : Option Text) → Fails (settle_fault rules false h)
    → Fails (long_fault rules false found given h)
long_fails rules h None given f = (kind.UnknownArgument, [], refl)
long_fails rules h (Some a) given f = go (takes_values a) given
  where
    go : (b : Bool) (v : Option Text) → Fails (cond b (option_fault rules false a v h)
        (cond (is_some v) (kind.TooManyValues ∷ []) (react_fault rules false a [] h)))
    go true (Some v) = fails_first (settle_fault rules false h) (use_fault false a (v ∷ []) (settled rules h).rows) f
    go true None = f
    go false (Some v) = (kind.TooManyValues, [], refl)
    go false None = fails_first (settle_fault rules false h) (use_fault false a [] (settled rules h).rows) f

pub long_turn : (rules : List Rule) (h : Held) (waiting : Waiting) (position : ℕ) (word written : Text) → IsLong word written
    → Fails (long_fault rules false (arg_by_long rules (name_and_value written).0) (name_and_value written).1 h)
    → Fails (turn_fault (shape_with rules) [] (walk_at h waiting position false) word)
long_turn rules h waiting position word written is f =
    fails_first _ _ (f.0, f.1, long_word_fault rules h waiting word written is.0 is.1 ∙ f.2)

-- the value of an option in its word, or a flag
pub done_turn : (rules : List Rule) (h after : Held) (waiting : Waiting) (position : ℕ) (word written : Text) → IsLong word written
    → long_fault rules false (arg_by_long rules (name_and_value written).0) (name_and_value written).1 h ≡ []
    → long_met rules (arg_by_long rules (name_and_value written).0) (name_and_value written).1 h ≡ (after, done)
    → (turn_fault (shape_with rules) [] (walk_at h waiting position false) word ≡ [])
    × (walked rules [] (walk_at h waiting position false) word ≡ walk_at after idle position false)
unfolding walked
done_turn rules h after waiting position word written is none met = (
  rw (long_word_fault rules h waiting word written is.0 is.1, long_word_met rules h waiting position word written is.0 is.1, none, met) refl,
  rw (long_word_met rules h waiting position word written is.0 is.1, met) refl,
)

pub waits_turn : (rules : List Rule) (h after : Held) (waiting : Waiting) (position : ℕ) (word written name : Text) → IsLong word written
    → long_fault rules false (arg_by_long rules (name_and_value written).0) (name_and_value written).1 h ≡ []
    → long_met rules (arg_by_long rules (name_and_value written).0) (name_and_value written).1 h ≡ (after, waits name)
    → (turn_fault (shape_with rules) [] (walk_at h waiting position false) word ≡ [])
    × (walked rules [] (walk_at h waiting position false) word ≡ walk_at after (option name) position false)
unfolding walked
waits_turn rules h after waiting position word written name is none met = (
  rw (long_word_fault rules h waiting word written is.0 is.1, long_word_met rules h waiting position word written is.0 is.1, none, met) refl,
  rw (long_word_met rules h waiting position word written is.0 is.1, met) refl,
)

-- the value of an option that waits for it
pub value_turn : (rules : List Rule) (rows : List Row) (position : ℕ) (word name : Text) (long : Option Text) (index : Option ℕ) (required : Bool)
    → bytes_eq word (codes "--") ≡ false → long_of word ≡ None → IsShortOfNone word → arg_by_id rules name ≡ Some (valued name long index required)
    → (turn_fault (shape_with rules) [] (walk_at (held rows (Some (name, []))) (option name) position false) word ≡ [])
    × (walked rules [] (walk_at (held rows (Some (name, []))) (option name) position false) word
    ≡ walk_at (held rows (Some (name, word ∷ []))) idle position false)
unfolding walked
value_turn rules rows position word name long index required e no_long short found =
    let met = text_met rules rows (Some (name, [])) (option name) position word e no_long short in
    let fault = text_fault rules (held rows (Some (name, []))) (option name) word e no_long short in
    let own : bytes_eq name name ≡ true = (bytes_eq-Decides name name).1 refl in
    (rw (fault, met) refl, rw (met, found, own) refl)
