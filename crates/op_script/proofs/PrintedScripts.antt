-- The text of a script is read as the script: all lines.
use Rattle.op_script.proofs.Words.{◌≡◌, ℕ, ◌+◌, ◌<◌, ◌≤◌, ◌^◌, Bool, true, false, not, cond, eqb, leb, List, [], ◌∷◌, ◌++◌, zero, suc, length, map, get_or}
use Rattle.op_script.proofs.Words.{Option, None, Some, unwrap_or, Ok, refl, ap, sym, ◌∙◌, subst, arith, append_assoc, append-nil, length-append, codes}
use Rattle.op_script.proofs.Words.{AllByRecursion, join_with_byte, concat, prefix_len, ForSome, bytes_eq, decimal, and_parts, leb-true, or_parts, map-append}
use Rattle.op_script.proofs.Words.{length-map, bytes_eq-Decides, Filter, IsFilter, is_name, has_twice, place_of, Fields, print, fields_of, Kind, splits}
use Rattle.op_script.proofs.Words.{Script, Line, Settle, Word, Event, Routing, Happening, Settling, statement_of, State, OrderView, LineView, with_route}
use Rattle.op_script.proofs.Words.{order_said, with_statement, with_lines, script_of, line_view, order_view, script_view, goes_back, start, noted, numbered}
use Rattle.op_script.proofs.Words.{command_count, route_view, route_words, line_words, IsWhat, line_text, script_text, IsRoute, IsLine, IsScript, SplitsNone}
use Rattle.op_script.proofs.Words.{what_splits, is_in_order, next_after, and_then}
use Rattle.std.specs.List.{list_any, slice_index_or}
use Rattle.std.proofs.lemmas.Bool.{eqb-true, lt-leb, lt-ltb, le-ltb}
use Rattle.std.proofs.lemmas.List.Elements.{recursion_from_All}
use Rattle.op_script.specs.declared.script.What.{What}
use Rattle.op_script.specs.declared.script.What.TheVariants.{Command}
use Rattle.op_script.specs.Reading.{what_view, ScriptView}
use Rattle.op_script.specs.ReadingSteps.{ScriptAnswer}
use Rattle.op_script.specs.LineFilters.{what_filter}
use Rattle.op_script.specs.Printing.{what_words, script_words}
use Rattle.op_script.proofs.PrintableWords.{Within, IsWord, literal_word, line_seen, line_utf8, name_word, decimal_word}
use Rattle.op_script.proofs.FilterWordLemmas.{filter_word}
use Rattle.op_script.proofs.PrintedLines.{line_says, lines-joined, route_statement, at_statement, settle_event}
use Rattle.op_script.proofs.PrintedOrders.{differs, event_in, filter_again, order_statement, order_again, order_words_are}
use Rattle.op_script.proofs.ScriptLineLemmas.{All-append, count-append}

differs_at : (name : Word) (more : List Word) (i : ℕ) → i < length more → list_any (λ other. bytes_eq other name) more ≡ false
    → bytes_eq name (get_or more i []) ≡ false
differs_at name [] i below is = absurd (omega arith)
differs_at name (other ∷ more) zero below is = differs name other (or_parts (bytes_eq other name) _ is).0
differs_at name (other ∷ more) (suc i) below is = differs_at name more i (omega arith) (or_parts (bytes_eq other name) _ is).1

first_at : (names : List Word) (i : ℕ) → i < length names → has_twice names ≡ false → prefix_len (λ x. not (bytes_eq x (get_or names i []))) names ≡ i
first_at [] i below once = absurd (omega arith)
first_at (name ∷ more) zero below once = rw ((bytes_eq-Decides name name).1 refl) refl
first_at (name ∷ more) (suc i) below once =
    let p = or_parts (list_any (λ other. bytes_eq other name) more) (has_twice more) once in
    rw (differs_at name more i (omega arith) p.0) (ap (λ n. 1 + n) (first_at more i (omega arith) p.1) ∙ omega arith)

-- a name stands at its place, where names differ
place_at : (names : List Word) (i : ℕ) → i < length names → has_twice names ≡ false → place_of names (slice_index_or names i []) ≡ Some i
place_at names i below once = rw (first_at names i below once, lt-ltb i (length names) below) refl

-- the word of a route's instance is a name
abbrev pub IsNamed : List Word → Filter × ℕ → Type 0
IsNamed names route = is_name (slice_index_or names route.1 []) ≡ true

-- a route's line
route_says : (kind : Kind) (names : List Word) (s : State) (route : Filter × ℕ) → has_twice names ≡ false → s.last ≡ None → length s.routes < 1000
    → IsRoute names (route_view route) → IsFilter route.0 → splits kind (fields_of route.0) ≡ false
    → with_statement kind names s (Routing (print route.0) (slice_index_or names route.1 [])) ≡ Ok (record s { routes = s.routes ++ route_view route ∷ [] })
unfolding with_route
route_says kind names s route once front few is fits whole =
    rw (front, place_at names route.1 is.0 once, filter_again kind route.0 fits is.1 whole, lt-leb 1000 (length s.routes) few) refl

route_are : (names : List Word) (route : Filter × ℕ) → IsNamed names route → IsFilter route.0 → AllByRecursion IsWord (route_words names route)
route_are names route named fits = (literal_word (codes "route") refl, (filter_word route.0 fits, (name_word (slice_index_or names route.1 []) named, tt)))

-- the routes' lines
pub routes_again : (kind : Kind) (names : List Word) (n : ℕ) (s t : State) (routes : List (Filter × ℕ)) (rest : List (List ℕ))
    → AllByRecursion (IsNamed names) routes → has_twice names ≡ false
    → s.last ≡ None → length s.routes + length routes ≤ 1000 → AllByRecursion (IsRoute names) (map route_view routes)
    → AllByRecursion (λ route. IsFilter route.0) routes
    → AllByRecursion (λ (route : Fields × ℕ). splits kind route.0 ≡ false) (map route_view routes)
    → with_lines kind names (n + length routes) (record s { routes = s.routes ++ map route_view routes }) rest ≡ Ok t
    → with_lines kind names n s (map (join_with_byte 32) (map (route_words names) routes) ++ rest) ≡ Ok t
routes_again kind names n s t [] rest named once front few is fits whole then =
    let same : n + 0 ≡ n = omega arith in
    subst (λ (rs : List (Fields × ℕ)). with_lines kind names n (record s { routes = rs }) rest ≡ Ok t) (append-nil s.routes)
    (subst (λ m. with_lines kind names m (record s { routes = s.routes ++ [] }) rest ≡ Ok t) same then)
routes_again kind names n s t (route ∷ more) rest named once front few is fits whole then =
    let next : State = record s { routes = s.routes ++ route_view route ∷ [] } in
    let line = line_says kind names s (codes "route") (print route.0 ∷ slice_index_or names route.1 [] ∷ [])
    (Routing (print route.0) (slice_index_or names route.1 [])) next
    (route_are names route named.0 fits.0) (route_statement (print route.0) (slice_index_or names route.1 []))
    (route_says kind names s route once front (omega arith) is.0 fits.0 whole.0) in
    rw line (routes_again kind names (n + 1) next t more rest named.1 once front (omega (arith, length-append s.routes (route_view route ∷ []))) is.1 fits.1
    whole.1
    (subst (λ (rs : List (Fields × ℕ)). with_lines kind names (n + 1 + length more) (record s { routes = rs }) rest ≡ Ok t)
    (sym (append_assoc s.routes (route_view route ∷ []) (map route_view more)))
    (subst (λ m. with_lines kind names m (record s { routes = s.routes ++ map route_view (route ∷ more) }) rest ≡ Ok t)
    (let same : n + suc (length more) ≡ n + 1 + length more = omega arith in same) then)))

-- an `at` line
goes_on : (last : Option ℕ) (at : ℕ) → unwrap_or last 0 ≤ at → goes_back last at ≡ false
goes_on None at far = le-ltb at 0 far
goes_on (Some last) at far = le-ltb at last far

event_says : (kind : Kind) (names : List Word) (s : State) (at : ℕ) (event : Event) (order : Option OrderView) → unwrap_or s.last 0 ≤ at → length s.lines < 1000
    → order_said kind event ≡ Ok order → with_statement kind names s (Happening at event) ≡ Ok (noted s at order)
event_says kind names s at event order far few is = rw (goes_on s.last at far, is, lt-leb 1000 (length s.lines) few) refl

-- the order and the event of what happens
abbrev order_in : What → Option OrderView
order_in (Command command) = Some (order_view command.what)
order_in Settle = None

abbrev event_of_what : What → Event
event_of_what (Command command) = event_in command.what
event_of_what Settle = Settling

what_statement : (at : ℕ) (what : What) → at < 2 ^ 32 → IsWhat (what_view what) → ForSome (what_filter what) IsFilter
    → statement_of (codes "at" ∷ decimal at ∷ what_words what) ≡ Some (Happening at (event_of_what what))
what_statement at (Command command) small is fits = order_statement at command.what small is fits
what_statement at Settle small is fits = at_statement at (codes "settle") [] Settling small settle_event

what_again : (kind : Kind) (what : What) → IsWhat (what_view what) → ForSome (what_filter what) IsFilter → what_splits kind (what_view what) ≡ false
    → order_said kind (event_of_what what) ≡ Ok (order_in what)
unfolding order_said
what_again kind (Command command) is fits whole = order_again kind command.what is fits whole
what_again kind Settle is fits whole = refl

what_are : (what : What) → IsWhat (what_view what) → ForSome (what_filter what) IsFilter → AllByRecursion IsWord (what_words what)
what_are (Command command) is fits = order_words_are command.what is fits
what_are Settle is fits = (literal_word (codes "settle") refl, tt)

line_are : (line : Line) → IsLine (line_view line) → AllByRecursion IsWord (line_words line)
line_are line is = let small = line.at_in_range in
    (literal_word (codes "at") refl, (decimal_word line.at (omega arith), what_are line.what is line.filter_in_range))

some_next : (test : Bool) (n m : ℕ) → cond test (Some m) None ≡ Some n → (test ≡ true) × (m ≡ n)
some_next true n m is = (refl, cc)
some_next false n m is = absurd cc

-- what happens has the number that reading gives it, and the next number is after it
next_is : (lines : List LineView) (at : ℕ) (what : What) (n : ℕ) → next_after (1 + command_count lines) (what_view what) ≡ Some n
    → (numbered lines (order_in what) ≡ what_view what) × (n ≡ 1 + command_count (lines ++ record { at = at; what = what_view what } ∷ []))
next_is lines at (Command command) n is =
    let next = some_next (eqb command.op (1 + command_count lines)) n (1 + command_count lines + 1) is in
    let op : command.op ≡ 1 + command_count lines = eqb-true command.op (1 + command_count lines) next.0 in
    let same : command_count lines + 1 ≡ command.op = omega arith in
    let more = count-append lines (record { at = at; what = what_view (Command command) }) in
    (ap (λ (k : ℕ). Some (k, order_view command.what)) same, (let m = next.1 in omega arith))
next_is lines at Settle n is =
    let same : 1 + command_count lines ≡ n = cc in
    let more = count-append lines (record { at = at; what = None }) in
    (refl, omega arith)

then_true : (o : Option ℕ) (test : ℕ → Bool) → and_then o test ≡ true → (n : ℕ) × (o ≡ Some n) × (test n ≡ true)
then_true None test is = absurd cc
then_true (Some n) test is = (n, refl, is)

-- what reading lines gives
record LinesRead (result : ScriptAnswer) (before : State) (lines : List LineView) : Type 0 where
  state : State
  is_read : result ≡ Ok state
  routes : state.routes ≡ before.routes
  lines_are : state.lines ≡ before.lines ++ lines

empty_line : (kind : Kind) (names : List Word) (n : ℕ) (s : State) → with_lines kind names n s ([] ∷ []) ≡ Ok s
unfolding statement_of
empty_line kind names n s = rw (line_utf8 [] tt) refl

lines_again : (kind : Kind) (names : List Word) (n : ℕ) (s : State) (lines : List Line) → length s.lines + length lines ≤ 1000
    → AllByRecursion IsLine (map line_view lines) → AllByRecursion (λ (line : LineView). what_splits kind line.what ≡ false) (map line_view lines)
    → is_in_order (unwrap_or s.last 0) (1 + command_count s.lines) (map line_view lines) ≡ true
    → LinesRead (with_lines kind names n s (map (join_with_byte 32) (map line_words lines) ++ [] ∷ [])) s (map line_view lines)
lines_again kind names n s [] few is whole follow =
    record { state = s; is_read = empty_line kind names n s; routes = refl; lines_are = sym (append-nil s.lines) }
lines_again kind names n s (line ∷ more) few is whole follow =
    let parts = and_parts (leb (unwrap_or s.last 0) line.at)
    (and_then (next_after (1 + command_count s.lines) (what_view line.what)) (λ k. is_in_order line.at k (map line_view more))) follow in
    let next = then_true (next_after (1 + command_count s.lines) (what_view line.what)) (λ k. is_in_order line.at k (map line_view more)) parts.1 in
    let number = next_is s.lines line.at line.what next.0 next.1 in
    let after : State = record s { lines = s.lines ++ line_view line ∷ []; last = Some line.at } in
    let same : noted s line.at (order_in line.what) ≡ after =
    ap (λ (w : Option (ℕ × OrderView)). record s { lines = s.lines ++ record { at = line.at; what = w } ∷ []; last = Some line.at }) number.0 in
    let says = event_says kind names s line.at (event_of_what line.what) (order_in line.what) (leb-true _ _ parts.0) (omega arith)
    (what_again kind line.what is.0 line.filter_in_range whole.0)
    ∙ ap (λ (t : State). Ok t) same in
    let text = line_says kind names s (codes "at") (decimal line.at ∷ what_words line.what) (Happening line.at (event_of_what line.what)) after
    (line_are line is.0) (what_statement line.at line.what line.at_in_range is.0 line.filter_in_range) says in
    let rest = lines_again kind names (n + 1) after more (omega (arith, length-append s.lines (line_view line ∷ []))) is.1 whole.1
    (subst (λ k. is_in_order line.at k (map line_view more) ≡ true) number.1 next.2) in
    record {
      state = rest.state;
      is_read = rw text rest.is_read;
      routes = rest.routes;
      lines_are = rest.lines_are ∙ append_assoc s.lines (line_view line ∷ []) (map line_view more);
    }

-- each route and line can be read again
routes_seen : (names : List Word) (routes : List (Filter × ℕ)) → AllByRecursion (IsNamed names) routes → AllByRecursion (λ route. IsFilter route.0) routes
    → AllByRecursion (λ ws. Within 32 127 (join_with_byte 32 ws)) (map (route_words names) routes)
routes_seen names [] named fits = tt
routes_seen names (route ∷ more) named fits = (
  line_seen (codes "route") (print route.0 ∷ slice_index_or names route.1 [] ∷ []) (route_are names route named.0 fits.0),
  routes_seen names more named.1 fits.1,
)

lines_seen : (lines : List Line) → AllByRecursion IsLine (map line_view lines)
    → AllByRecursion (λ ws. Within 32 127 (join_with_byte 32 ws)) (map line_words lines)
lines_seen [] is = tt
lines_seen (line ∷ more) is = (line_seen (codes "at") (decimal line.at ∷ what_words line.what) (line_are line is.0), lines_seen more is.1)

-- the text of a script is read as the script
pub script_again : (kind : Kind) (names : List Word) (script : Script) → IsScript names (script_view script)
    → AllByRecursion (IsNamed names) script.routes.items → has_twice names ≡ false
    → SplitsNone kind (script_view script)
    → length (script_text names script) ≤ 1048576 → script_of kind names (script_text names script) ≡ Ok (script_view script)
unfolding script_of script_text
script_again kind names script is named once whole short =
    let route_fits = recursion_from_All (λ (route : Filter × ℕ). IsFilter route.0) script.routes.items script.routes_in_range in
    let join = map (join_with_byte 32) in
    let few_routes : 0 + length script.routes.items ≤ 1000 = (let few = is.few_routes in omega (arith, length-map script.routes.items route_view)) in
    let few_lines : 0 + length script.lines.items ≤ 1000 = (let few = is.few_lines in omega (arith, length-map script.lines.items line_view)) in
    let rs = map (route_words names) script.routes.items in
    let ls = map line_words script.lines.items in
    let pieces = lines-joined (script_words names script)
    (All-append (λ ws. Within 32 127 (join_with_byte 32 ws)) rs ls (routes_seen names script.routes.items named route_fits)
    (lines_seen script.lines.items is.lines))
    ∙ ap (λ t. t ++ [] ∷ []) (map-append (join_with_byte 32) rs ls) ∙ append_assoc (join rs) (join ls) ([] ∷ []) in
    let after : State = record start { routes = map route_view script.routes.items } in
    let rest = lines_again kind names (1 + length script.routes.items) after script.lines.items few_lines is.lines whole.lines is.follow in
    let all = routes_again kind names 1 start rest.state script.routes.items (join ls ++ [] ∷ []) named once refl few_routes is.routes route_fits
    whole.routes rest.is_read in
    let views : (rest.state.routes, rest.state.lines) ≡ script_view script = ap (λ (rs : List (Fields × ℕ)). (rs, rest.state.lines)) rest.routes
    ∙ ap (λ (ls : List LineView). (map route_view script.routes.items, ls)) rest.lines_are in
    rw (le-ltb 1048576 (length (concat (map line_text (script_words names script)))) short, pieces, all) (ap (λ (v : ScriptView). Ok v) views)
