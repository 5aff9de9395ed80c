-- The text of a script is read as the script: one line.
use Rattle.op_script.proofs.Words.{◌≡◌, ℕ, ◌<◌, ◌^◌, Bool, true, false, cond, eqb, List, [], ◌∷◌, ◌++◌, map, None, Some, is_some, Ok, refl, ap, sym, ◌∙◌}
use Rattle.op_script.proofs.Words.{arith, append_assoc, codes, AllByRecursion, slice_split, join_with_byte, concat, bytes_eq, strip_carriage_return, decimal}
use Rattle.op_script.proofs.Words.{ne_eqb, split_once, Lacks, split_once-append, split-Some, Kind, Word, Event, Moving, Copying, Sharing, Settling, Statement}
use Rattle.op_script.proofs.Words.{Routing, Happening, statement_of, event_of, State, with_text, with_statement, line_text}
use Rattle.basics.proofs.PrintedNumbers.{parse_number-printed}
use Rattle.op_script.proofs.PrintableWords.{Within, IsWord, words-joined, line_seen, strip-line, line_utf8}

-- bytes from the space on lack a line's end
lacks_end : (text : List ℕ) → Within 32 127 text → Lacks 10 text
lacks_end [] seen = tt
lacks_end (b ∷ more) seen = (let first = seen.0 in ne_eqb b 10 (omega arith), lacks_end more seen.1)

-- a line of words that is a statement says what the statement says
pub line_says : (kind : Kind) (names : List Word) (s : State) (first : Word) (more : List Word) (statement : Statement) (t : State)
    → AllByRecursion IsWord (first ∷ more)
    → statement_of (first ∷ more) ≡ Some statement → with_statement kind names s statement ≡ Ok t
    → with_text kind names s (strip_carriage_return (join_with_byte 32 (first ∷ more))) ≡ Ok t
line_says kind names s first more statement t are is says =
    let seen = line_seen first more are in
    rw (strip-line (join_with_byte 32 (first ∷ more)) seen, line_utf8 (join_with_byte 32 (first ∷ more)) seen, words-joined first more are, is) says

-- the lines of a text of lines
pub lines-joined : (wss : List (List Word)) → AllByRecursion (λ ws. Within 32 127 (join_with_byte 32 ws)) wss
    → slice_split (λ b. eqb b 10) (concat (map line_text wss)) ≡ map (join_with_byte 32) wss ++ [] ∷ []
lines-joined [] seen = refl
lines-joined (ws ∷ more) seen =
    let line = join_with_byte 32 ws in
    let rest = concat (map line_text more) in
    ap (slice_split (λ b. eqb b 10)) (append_assoc line (10 ∷ []) rest)
    ∙ split-Some 10 (line ++ 10 ∷ rest) line rest (sym (split_once-append 10 line rest (lacks_end line seen.0)))
    ∙ ap (λ t. line ∷ t) (lines-joined more seen.1)

-- the statement of a route
pub route_statement : (filter name : Word) → statement_of (codes "route" ∷ filter ∷ name ∷ []) ≡ Some (Routing filter name)
unfolding statement_of
route_statement filter name = refl

-- the statement of an `at` line
pub at_statement : (at : ℕ) (verb : Word) (more : List Word) (event : Event) → at < 2 ^ 32 → event_of verb more ≡ Some event
    → statement_of (codes "at" ∷ decimal at ∷ verb ∷ more) ≡ Some (Happening at event)
unfolding statement_of
at_statement at verb more event small is = rw (parse_number-printed 4294967295 at (omega arith) (omega arith), is) refl

pub move_event : (source destination filter : Word) (keep : Bool)
    → event_of (codes "move") (source ∷ destination ∷ filter ∷ cond keep (codes "order") (codes "lossfree") ∷ []) ≡ Some (Moving source destination filter keep)
unfolding event_of
move_event source destination filter true = refl
move_event source destination filter false = refl

pub copy_event : (source destination what : Word)
    → event_of (codes "copy") (source ∷ destination ∷ what ∷ []) ≡ Some (Copying source destination (cond (bytes_eq what (codes "all")) None (Some what)))
unfolding event_of
copy_event source destination what = refl

pub share_event : (list filter : Word) → is_some (split_once 44 list) ≡ true
    → event_of (codes "share") (list ∷ filter ∷ codes "strict" ∷ []) ≡ Some (Sharing list filter)
unfolding event_of
share_event list filter comma = rw comma refl

pub settle_event : event_of (codes "settle") [] ≡ Some Settling
unfolding event_of
settle_event = refl
