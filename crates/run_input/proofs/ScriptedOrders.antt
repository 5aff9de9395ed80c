-- The commands of a script's lines: their numbers rise, and each is of whole units and names different instances.
use Rattle.std.proofs.Common.{◌≡◌, ℕ, suc, ◌+◌, ◌<◌, ◌≤◌, Bool, true, false, Some, None, List}
use Rattle.std.proofs.Common.{[], ◌∷◌, map, length, eqb, eqb-true, leb, refl, subst, arith}
use Rattle.std.specs.Prelude.{All, if◌then◌else◌}
use Rattle.std.specs.List.{AllByRecursion}
use Rattle.std.specs.Option.{ForSome}
use Rattle.std.proofs.lemmas.Bool.Decides.{nat_tests}
use Rattle.std.proofs.lemmas.List.Elements.{All-cons, All-nil, All-head, All-tail}
use Rattle.std.proofs.lemmas.Bool.{and_parts}
use Rattle.flow_filter.specs.declared.filter.Filter.{Filter}
use Rattle.flow_filter.specs.declared.packet.Packet.{Packet}
use Rattle.flow_filter.specs.Filter.{IsFilter}
use Rattle.nf_function.specs.declared.kind.Kind.{Kind}
use Rattle.nf_function.specs.Units.{splits}
use Rattle.nf_msgs.specs.declared.command.Command.{Command}
use Rattle.nf_msgs.specs.declared.command.Order.{Order}
use Rattle.nf_msgs.specs.declared.command.Order.TheVariants.{Move, Copy, Share}
use Rattle.trace_reader.specs.Records.{AreNumbered}
use Rattle.op_script.specs.declared.script.Line.{Line}
use Rattle.op_script.specs.declared.script.What.{What}
use Rattle.op_script.specs.declared.script.What.TheVariants as what
use Rattle.op_script.specs.Statements.{Word}
use Rattle.op_script.specs.Items.{IsFrom}
use Rattle.op_script.specs.Reading.{line_view, what_view, order_view}
use Rattle.op_script.specs.ReadingSteps.{route_view}
use Rattle.nf_msgs.specs.Orders.{order_filter}
use Rattle.op_script.specs.LineFilters.{what_filter}
use Rattle.op_script.specs.Printing.{IsRoute, IsLine, IsWhat, IsOrder, next_after, and_then, is_in_order, what_splits, order_splits}
use Rattle.op_script.proofs.PrintedOrders.{ends_known}
use Rattle.net_world.specs.Input.{IsRising, IsWhole, IsProper}
use Rattle.run_input.proofs.SaidCommands.{with_command, line_commands}

-- Numbers that rise.
pub numbers_rise : (n least : ℕ) (ps : List Packet) → least ≤ n → AreNumbered n ps → IsRising least (map (λ p. p.number) ps)
numbers_rise n least [] le h = tt
numbers_rise n least (p ∷ ps) le h =
    let is : p.number ≡ n = h.0 in
    (omega (arith, is, le), numbers_rise (n + 1) (suc p.number) ps (omega (arith, is)) h.1)

-- the number after what happens, which has the next number if it is a command
abbrev IsNext : ℕ → What → ℕ → Type 0
IsNext next (what.Command command) n = (command.op ≡ next) × (n ≡ next + 1)
IsNext next what.Settle n = n ≡ next

record Followed (next : ℕ) (w : What) (test : ℕ → Bool) : Type 0 where
  number : ℕ
  is_next : IsNext next w number
  holds : test number ≡ true

followed : (next : ℕ) (w : What) (test : ℕ → Bool) → and_then (next_after next (what_view w)) test ≡ true → Followed next w test
followed next what.Settle test h = record { number = next; is_next = refl; holds = h }
followed next (what.Command command) test h = elim (eqb command.op next)
    as (λ b. eqb command.op next ≡ b → and_then (if b then Some (next + 1) else None) test ≡ true → Followed next (what.Command command) test) [
      | true ↦ λ same more. record { number = next + 1; is_next = (eqb-true command.op next same, refl); holds = more }
      | false ↦ λ other more. absurd cc
    ] refl h

record Goes (last number : ℕ) (line : Line) (more : List Line) : Type 0 where
  far : last ≤ line.at
  next : Followed number line.what (λ n. is_in_order line.at n (map line_view more))

goes : (last next : ℕ) (line : Line) (more : List Line) → is_in_order last next (map line_view (line ∷ more)) ≡ true → Goes last next line more
goes last next line more h =
    let two = and_parts (leb last line.at) _ h in
    let far = two.0 in
    record { far = grind (arith, nat_tests, far); next = followed next line.what _ two.1 }

-- the lines stand in the order of their points
pub in_order : (last next : ℕ) (lines : List Line) → is_in_order last next (map line_view lines) ≡ true → IsFrom last lines
in_order last next [] h = tt
in_order last next (line ∷ more) h = let g = goes last next line more h in (g.far, in_order line.at g.next.number more g.next.holds)

rise_with : (least next n : ℕ) (w : What) (cs : List Command) → IsNext next w n → least ≤ next → ((l : ℕ) → l ≤ n → IsRising l (map (λ c. c.op) cs))
    → IsRising least (map (λ c. c.op) (with_command w cs))
rise_with least next n what.Settle cs is le rest = rest least (omega (arith, is, le))
rise_with least next n (what.Command command) cs is le rest =
    let here = is.0 in let after = is.1 in
    (omega (arith, here, le), rest (suc command.op) (omega (arith, here, after)))

-- and their commands are numbered from the next number on
pub ops_rise : (least last next : ℕ) (lines : List Line) → least ≤ next → is_in_order last next (map line_view lines) ≡ true
    → IsRising least (map (λ c. c.op) (line_commands lines))
ops_rise least last next [] le h = tt
ops_rise least last next (line ∷ more) le h =
    let g = goes last next line more h in
    rise_with least next g.next.number line.what (line_commands more) g.next.is_next le (λ l le'. ops_rise l line.at g.next.number more le' g.next.holds)

module _ (kind : Kind) where
  is_proper : (o : Order) → IsOrder (order_view o) → order_splits kind (order_view o) ≡ false → ForSome (order_filter o) IsFilter → IsProper kind o
  is_proper (Move source destination filter keep) right whole fits =
      ((ends_known source destination right.0).other, record { numbers = fits filter refl; whole = whole })
  is_proper (Copy source destination None) right whole fits = ((ends_known source destination right.0).other, λ filter is. cc)
  is_proper (Copy source destination (Some filter)) right whole fits = (
    (ends_known source destination right.0).other,
    λ g is. (let same : filter ≡ g = cc in subst (IsWhole kind) same (record { numbers = fits filter refl; whole = whole })),
  )
  is_proper (Share members filter) right whole fits =
      (record { some = right.0; once = right.2 }, record { numbers = fits filter refl; whole = whole })

  proper_with : (w : What) (cs : List Command) → IsWhat (what_view w) → what_splits kind (what_view w) ≡ false → ForSome (what_filter w) IsFilter
      → All (λ (c : Command). IsProper kind c.what) cs → All (λ (c : Command). IsProper kind c.what) (with_command w cs)
  proper_with what.Settle cs right whole fits rest = rest
  proper_with (what.Command command) cs right whole fits rest =
      All-cons (λ (c : Command). IsProper kind c.what) command cs (is_proper command.what right whole fits) rest

  -- each command is one that a run may be given
  pub all_proper : (lines : List Line) → AllByRecursion IsLine (map line_view lines)
      → AllByRecursion (λ line. what_splits kind line.what ≡ false) (map line_view lines)
      → All (λ (c : Command). IsProper kind c.what) (line_commands lines)
  all_proper [] right whole = All-nil (λ (c : Command). IsProper kind c.what)
  all_proper (line ∷ more) right whole =
      proper_with line.what (line_commands more) right.0 whole.0 line.filter_in_range (all_proper more right.1 whole.1)

  -- Routes.
  pub routes_whole : (routes : List (Filter × ℕ)) → AllByRecursion (λ route. splits kind route.0 ≡ false) (map route_view routes)
      → All (λ (route : Filter × ℕ). IsFilter route.0) routes → All (λ (route : Filter × ℕ). IsWhole kind route.0) routes
  routes_whole [] whole filters = All-nil (λ (route : Filter × ℕ). IsWhole kind route.0)
  routes_whole (route ∷ more) whole filters =
      All-cons (λ (route : Filter × ℕ). IsWhole kind route.0) route more
      (record { numbers = All-head (λ (route : Filter × ℕ). IsFilter route.0) route more filters; whole = whole.0 })
      (routes_whole more whole.1 (All-tail (λ (route : Filter × ℕ). IsFilter route.0) route more filters))

pub routes_there : (names : List Word) (routes : List (Filter × ℕ)) → AllByRecursion (IsRoute names) (map route_view routes)
    → All (λ (route : Filter × ℕ). route.1 < length names) routes
routes_there names [] there = All-nil (λ (route : Filter × ℕ). route.1 < length names)
routes_there names (route ∷ more) there = All-cons (λ (route : Filter × ℕ). route.1 < length names) route more there.0.0 (routes_there names more there.1)
