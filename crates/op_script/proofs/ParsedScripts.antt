-- What was read breaks no rule, and splits no unit.
use Rattle.op_script.proofs.Words.{◌≡◌, ℕ, ◌+◌, ◌<◌, ◌≤◌, true, false, not, leb, List, [], ◌∷◌, ◌++◌, length, Option, None, Some, is_some, unwrap_or, Ok, Err}
use Rattle.op_script.proofs.Words.{Result, refl, ap, sym, ◌∙◌, arith, subst, length-append, list_all, slice_split, bytes_eq, not-false, has_twice, is_name}
use Rattle.op_script.proofs.Words.{place_of, split_once, ◌>>=◌, Fields, parse, Kind, splits, Word, words, Event, Moving, Copying, Sharing, Settling, Statement}
use Rattle.op_script.proofs.Words.{Routing, Happening, State, OrderView, LineView, Judged, distinct_names, filter_of, with_route, order_said, with_statement}
use Rattle.op_script.proofs.Words.{with_text, with_lines, unless, goes_back, start, wanted, noted, numbered, IsRoute, IsWhat, IsLine, IsScript, SplitsNone}
use Rattle.op_script.proofs.Words.{order_splits, what_splits, ◌==◌, strip_carriage_return, split-Some}
use Rattle.std.specs.Result.{result_map_both}
use Rattle.std.proofs.lemmas.Bool.{leb-false, ltb-false}
use Rattle.std.proofs.lemmas.List.Quantifiers.{position-Some}
use Rattle.flow_filter.specs.declared.filter_text.FilterFault.{FilterFault}
use Rattle.flow_filter.specs.FilterText.{is_transport}
use Rattle.flow_filter.proofs.ParsedFilters.{parse_printable}
use Rattle.op_script.specs.Statements.{Silent}
use Rattle.op_script.specs.Reading.{Moves, Copies, Shares, with_line}
use Rattle.op_script.specs.ReadingSteps.{whole, filter_or_all, with_event}
use Rattle.op_script.specs.Printing.{is_writable}
use Rattle.std.proofs.lemmas.List.Splits.{length-slice_split}
use Rattle.op_script.specs.declared.fault.ScriptKind.TheVariants as bad
use Rattle.op_script.proofs.StatementLemmas.{IsEvent, IsStatement, statement_right}
use Rattle.op_script.proofs.JudgedLemmas.{judged_some, steps, unless_Ok, wanted_Ok}
use Rattle.std.proofs.lemmas.List.Sums.{fold-append}
use Rattle.op_script.proofs.ScriptLineLemmas.{All-append, last_at, follows-append, numbered_next}

-- a filter that was read has a text, and splits no unit
filter_right : (kind : Kind) (text : Word) (f : Fields) → filter_of kind text ≡ Ok f → (is_transport f.proto ≡ true) × (splits kind f ≡ false)
unfolding filter_of
filter_right kind text f is = whole_right (parse text) f is (λ read. parse_printable f text read)
  where
    whole_right : (r : Result Fields FilterFault) (f : Fields) → whole kind r ≡ Ok f → (r ≡ Ok f → is_transport f.proto ≡ true)
        → (is_transport f.proto ≡ true) × (splits kind f ≡ false)
    whole_right (Err e) f is given = absurd cc
    whole_right (Ok g) f is given = let right = unless_Ok (splits kind g) bad.SplitsUnit (Ok g) f is in
        let same : g ≡ f = let rest = right.1 in cc in (given (ap (λ (h : Fields). Ok h) same), rw (← same) right.0)

copied_right : (kind : Kind) (source destination : Word) (text : Option Word) (f : Option Fields) → filter_or_all kind text ≡ Ok f
    → (is_writable f ≡ true) × (order_splits kind (Copies source destination f) ≡ false)
copied_right kind source destination None f is = let none : None ≡ f = cc in
    subst (λ (f : Option Fields). (is_writable f ≡ true) × (order_splits kind (Copies source destination f) ≡ false)) none (refl, refl)
copied_right kind source destination (Some text) f is =
    let s = steps (filter_of kind text) (λ g. Ok (Some g)) f (sym (judged_some (filter_of kind text)) ∙ is) in
    let some : Some s.value ≡ f = let rest = s.rest in cc in
    subst (λ (f : Option Fields). (is_writable f ≡ true) × (order_splits kind (Copies source destination f) ≡ false)) some
    (filter_right kind text s.value s.first)

two_pieces : (list : Word) (r : Option (Word × Word)) → split_once 44 list ≡ r → is_some r ≡ true → 2 ≤ length (slice_split (λ b. b == 44) list)
two_pieces list None at is = absurd cc
two_pieces list (Some p) at is = rw (split-Some 44 list p.0 p.1 (sym at)) (omega (arith, length-slice_split (λ b. b == 44) p.1))

-- names that were judged are names, and differ
names_right : (all names : List Word) → distinct_names all ≡ Ok names → (list_all is_name all ≡ true) × (has_twice all ≡ false) × (all ≡ names)
unfolding distinct_names
names_right all names is =
    let first = unless_Ok (not (list_all is_name all)) bad.Name (unless (has_twice all) bad.SameInstance (Ok all)) names is in
    let second = unless_Ok (has_twice all) bad.SameInstance (Ok all) names first.1 in
    (not-false (list_all is_name all) first.0, second.0, (let rest = second.1 in cc))

names_again : (all names : List Word) → distinct_names all ≡ Ok names → distinct_names all ≡ Ok all
names_again all names is = is ∙ ap (λ (ns : List Word). Ok ns) (sym (names_right all names is).2)

-- the members of a share
members_right : (list : Word) (members : List Word) → is_some (split_once 44 list) ≡ true → distinct_names (slice_split (λ b. b == 44) list) ≡ Ok members
    → (2 ≤ length members) × (list_all is_name members ≡ true) × (has_twice members ≡ false)
members_right list members comma is =
    let right = names_right (slice_split (λ b. b == 44) list) members is in
    subst (λ (ms : List Word). (2 ≤ length ms) × (list_all is_name ms ≡ true) × (has_twice ms ≡ false)) right.2
    (two_pieces list (split_once 44 list) refl comma, right.0, right.1)

module _ (kind : Kind) (names : List Word) where
  -- what happens after these lines may be printed, and splits nothing
  abbrev IsRight : List LineView → Option OrderView → Type 0
  IsRight lines order = IsWhat (numbered lines order) × (what_splits kind (numbered lines order) ≡ false)

  order_right : (event : Event) (order : Option OrderView) → IsEvent event → order_said kind event ≡ Ok order → (lines : List LineView) → IsRight lines order
  unfolding order_said
  order_right (Moving source destination filter keep) order right is lines =
      let ends = steps (distinct_names (source ∷ destination ∷ []))
      (λ _. filter_of kind filter >>= λ f. Ok (Some (Moves source destination f keep))) order is in
      let read = steps (filter_of kind filter) (λ f. Ok (Some (Moves source destination f keep))) order ends.rest in
      let same : Some (Moves source destination read.value keep) ≡ order = let rest = read.rest in cc in
      let f = filter_right kind filter read.value read.first in
      subst (IsRight lines) same ((names_again (source ∷ destination ∷ []) ends.value ends.first, f.0), f.1)
  order_right (Copying source destination filter) order right is lines =
      let ends = steps (distinct_names (source ∷ destination ∷ []))
      (λ _. filter_or_all kind filter >>= λ f. Ok (Some (Copies source destination f))) order is in
      let read = steps (filter_or_all kind filter) (λ f. Ok (Some (Copies source destination f))) order ends.rest in
      let same : Some (Copies source destination read.value) ≡ order = let rest = read.rest in cc in
      let f = copied_right kind source destination filter read.value read.first in
      subst (IsRight lines) same ((names_again (source ∷ destination ∷ []) ends.value ends.first, f.0), f.1)
  order_right (Sharing list filter) order right is lines =
      let members = steps (distinct_names (slice_split (λ b. b == 44) list)) (λ m. filter_of kind filter >>= λ f. Ok (Some (Shares m f))) order is in
      let read = steps (filter_of kind filter) (λ f. Ok (Some (Shares members.value f))) order members.rest in
      let same : Some (Shares members.value read.value) ≡ order = let rest = read.rest in cc in
      let all = members_right list members.value right members.first in
      let f = filter_right kind filter read.value read.first in
      subst (IsRight lines) same ((all.0, all.1, all.2, f.0), f.1)
  order_right Settling order right is lines = let same : None ≡ order = cc in subst (IsRight lines) same (tt, refl)

  -- what holds while lines are read
  record IsState (s : State) : Type 0 where
    script : IsScript names (s.routes, s.lines)
    whole : SplitsNone kind (s.routes, s.lines)
    last : last_at 0 s.lines ≡ unwrap_or s.last 0

  start_state : IsState start
  start_state = record {
    script = record { few_routes = omega arith; few_lines = omega arith; routes = tt; lines = tt; follow = refl };
    whole = record { routes = tt; lines = tt };
    last = refl;
  }

  route_kept : (s t : State) (filter instance : Word) → IsState s → with_route kind names s filter instance ≡ Ok t → IsState t
  unfolding with_route
  route_kept s t filter instance kept is =
      let first = unless_Ok (is_some s.last) bad.Order _ t is in
      let place = steps (wanted (place_of names instance) bad.Name) _ t first.1 in
      let read = steps (filter_of kind filter) _ t place.rest in
      let few = unless_Ok (leb 1000 (length s.routes)) bad.TooMany (Ok (record s { routes = s.routes ++ (read.value, place.value) ∷ [] })) t read.rest in
      let same : record s { routes = s.routes ++ (read.value, place.value) ∷ [] } ≡ t = let rest = few.1 in cc in
      let less : length s.routes < 1000 = leb-false 1000 (length s.routes) few.0 in
      let within = position-Some (λ other. bytes_eq other instance) names place.value []
      (wanted_Ok (place_of names instance) bad.Name place.value place.first) in
      let f = filter_right kind filter read.value read.first in
      subst IsState same (record {
        script = record {
          few_routes = omega (arith, length-append s.routes ((read.value, place.value) ∷ []));
          few_lines = kept.script.few_lines;
          routes = All-append (IsRoute names) s.routes _ kept.script.routes ((within.0, f.0), tt);
          lines = kept.script.lines;
          follow = kept.script.follow;
        };
        whole = record {
          routes = All-append (λ (route : Fields × ℕ). splits kind route.0 ≡ false) s.routes _ kept.whole.routes (f.1, tt);
          lines = kept.whole.lines;
        };
        last = kept.last;
      })

  event_kept : (s t : State) (at : ℕ) (event : Event) → IsEvent event → IsState s → with_event kind s at event ≡ Ok t → IsState t
  event_kept s t at event right kept is =
      let first = unless_Ok (goes_back s.last at) bad.Order (order_said kind event >>= with_line s at) t is in
      let order = steps (order_said kind event) (with_line s at) t first.1 in
      let few = unless_Ok (leb 1000 (length s.lines)) bad.TooMany (Ok (noted s at order.value)) t order.rest in
      let same : noted s at order.value ≡ t = let rest = few.1 in cc in
      let line : LineView = record { at = at; what = numbered s.lines order.value } in
      let less : length s.lines < 1000 = leb-false 1000 (length s.lines) few.0 in
      let far : last_at 0 s.lines ≤ at = rw kept.last (far_enough s.last at first.0) in
      let told = order_right event order.value right order.first s.lines in
      subst IsState same (record {
        script = record {
          few_routes = kept.script.few_routes;
          few_lines = omega (arith, length-append s.lines (line ∷ []));
          routes = kept.script.routes;
          lines = All-append IsLine s.lines (line ∷ []) kept.script.lines (told.0, tt);
          follow = follows-append 0 1 s.lines line kept.script.follow far (numbered_next s.lines order.value);
        };
        whole = record {
          routes = kept.whole.routes;
          lines = All-append (λ (line : LineView). what_splits kind line.what ≡ false) s.lines (line ∷ []) kept.whole.lines (told.1, tt);
        };
        last = fold-append (λ before said. said.at) 0 s.lines (line ∷ []);
      })
    where
      far_enough : (last : Option ℕ) (at : ℕ) → goes_back last at ≡ false → unwrap_or last 0 ≤ at
      far_enough None at is = omega arith
      far_enough (Some last) at is = ltb-false at last is

  statement_kept : (s t : State) (statement : Statement) → IsStatement statement → IsState s → with_statement kind names s statement ≡ Ok t → IsState t
  statement_kept s t Silent right kept is = let same : s ≡ t = cc in subst IsState same kept
  statement_kept s t (Routing filter instance) right kept is = route_kept s t filter instance kept is
  statement_kept s t (Happening at event) right kept is = event_kept s t at event right kept is

  text_kept : (s t : State) (line : List ℕ) → IsState s → with_text kind names s line ≡ Ok t → IsState t
  text_kept s t line kept is =
      let text = unless_Ok _ _ _ t is in
      let statement = steps _ (with_statement kind names s) t text.1 in
      statement_kept s t statement.value (statement_right (words line) statement.value (wanted_Ok _ _ _ statement.first)) kept statement.rest

  lines_then : (n : ℕ) (t : State) (more : List (List ℕ)) (read : Judged State) → ((u : State) → read ≡ Ok u → IsState u)
      → ((u : State) → IsState u → with_lines kind names (n + 1) u more ≡ Ok t → IsState t)
      → (result_map_both (λ u. u) (λ fault. (n, fault)) read >>= λ u. with_lines kind names (n + 1) u more) ≡ Ok t → IsState t
  lines_then n t more (Ok u) first rest is = rest u (first u refl) is
  lines_then n t more (Err fault) first rest is = absurd cc

  lines_kept : (n : ℕ) (s t : State) (texts : List (List ℕ)) → IsState s → with_lines kind names n s texts ≡ Ok t → IsState t
  lines_kept n s t [] kept is = let same : s ≡ t = cc in subst IsState same kept
  lines_kept n s t (text ∷ more) kept is =
      lines_then n t more (with_text kind names s (strip_carriage_return text)) (λ u read. text_kept s u (strip_carriage_return text) kept read)
      (λ u kept_u rest. lines_kept (n + 1) u t more kept_u rest) is

  -- what lines that were read say breaks no rule, and splits nothing
  pub lines_right : (s : State) (texts : List (List ℕ)) → with_lines kind names 1 start texts ≡ Ok s → IsScript names (s.routes, s.lines)
  lines_right s texts is = (lines_kept 1 start s texts start_state is).script

  pub lines_whole : (s : State) (texts : List (List ℕ)) → with_lines kind names 1 start texts ≡ Ok s → SplitsNone kind (s.routes, s.lines)
  lines_whole s texts is = (lines_kept 1 start s texts start_state is).whole
