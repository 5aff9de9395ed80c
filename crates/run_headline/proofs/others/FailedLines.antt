-- The units that a failover affects, its lost and its open packets, and the records once they have caught up: what its lines tell of them.
use Rattle.run_headline.proofs.Words.{◌≡◌, ℕ, Bool, true, false, ◌&&◌, ◌||◌, not, Option, Some, None, List, [], ◌∷◌, ◌++◌, map, refl, sym, ap, ◌∙◌, filter}
use Rattle.run_headline.proofs.Words.{is_some, option_map, slice_get, AllByRecursion, flat_map, and-true, or-true, and_parts, true≢false, Semantics, unit_at}
use Rattle.run_headline.proofs.Words.{instance_node, is_among, same_unit, same_unit_equiv, commands, order_numbered, packets, arrivals_in, installs_in}
use Rattle.run_headline.proofs.Words.{is_loose, unit_in, table_at, Failover, IsLeft, is_affected, is_in, promoted_line, filter_same, in_filter, those_filter}
use Rattle.run_headline.proofs.Words.{moves, numbered_in}
use Rattle.std.specs.List.{cons_option, filter_map}
use Rattle.std.specs.FinMap as finite
use Rattle.std.specs.FinMap.{contains_key-keys}
use Rattle.nf_function.specs.declared.unit.Unit as units
use Rattle.standby_failover.specs.Lines.{caught_line}
use Rattle.standby_failover.proofs.ListLemmas.{filter_all}
use Rattle.standby_failover.proofs.PromotedTables.{live_table}
use Rattle.run_headline.proofs.AnswerLines.{found_any}
use Rattle.run_headline.proofs.CoveredUnits.{hands_on, is_plain, some_order}
use Rattle.run_headline.specs.Failover.{LinesOfUnit, may_move}
use Rattle.run_headline.proofs.others.FailedPackets.{HaveCome, first, first_is, numbered_are, numbers_are, of, with_numbers}
use Rattle.run_headline.proofs.others.PacketNumbers.{filter_numbered, numbers}

-- what holds of each unit among some
pub each_among : (Q : units.Unit → Type 0) (us : List units.Unit) → ((u : units.Unit) → is_among us u ≡ true → Q u) → AllByRecursion Q us
each_among Q [] holds = tt
each_among Q (u ∷ us) holds = (
  holds u (ap (λ b. b || is_among us u) (same_unit_equiv.refl u)),
  each_among Q us (λ v on. holds v (ap (λ b. same_unit v u || b) on ∙ or-true (same_unit v u))),
)

-- units with what is promoted of each, and with the record that has caught up, if there is one
module _ {R : Type 0} (g h : units.Unit → Option R) where
  abbrev lines_if : units.Unit → Option R → Option (LinesOfUnit R)
  lines_if u o = option_map (λ r. record { unit = u; promoted = g u; caught = r }) o

  abbrev pub lines_of : List units.Unit → List (LinesOfUnit R)
  lines_of us = filter_map (λ u. lines_if u (h u)) us

  abbrev AreThere : List units.Unit → Type 0
  AreThere us = AllByRecursion (λ u. is_some (h u) ≡ true) us

  next_unit : (u : units.Unit) (o : Option R) (rest : List (LinesOfUnit R)) → is_some o ≡ true
      → map (λ y. y.unit) (cons_option (lines_if u o) rest) ≡ u ∷ map (λ y. y.unit) rest
  next_unit u None rest some = cc
  next_unit u (Some r) rest some = refl

  pub units_are : (us : List units.Unit) → AreThere us → map (λ y. y.unit) (lines_of us) ≡ us
  units_are [] all = refl
  units_are (u ∷ us) all = next_unit u (h u) (lines_of us) all.0 ∙ ap (λ l. u ∷ l) (units_are us all.1)

  next_holds : (P : LinesOfUnit R → Type 0) (u : units.Unit) (o : Option R) (rest : List (LinesOfUnit R))
      → ((r : R) → o ≡ Some r → P (record { unit = u; promoted = g u; caught = r })) → AllByRecursion P rest
      → AllByRecursion P (cons_option (lines_if u o) rest)
  next_holds P u None rest holds all = all
  next_holds P u (Some r) rest holds all = (holds r refl, all)

  pub all_lines : (P : LinesOfUnit R → Type 0) (us : List units.Unit)
      → AllByRecursion (λ u. (r : R) → h u ≡ Some r → P (record { unit = u; promoted = g u; caught = r })) us → AllByRecursion P (lines_of us)
  all_lines P [] all = tt
  all_lines P (u ∷ us) all = next_holds P u (h u) (lines_of us) all.0 (all_lines P us all.1)

  -- their texts
  module _ (f : Semantics R) (name : List ℕ) where
    next_promoted : (u : units.Unit) (o : Option R) (rest : List (LinesOfUnit R)) → is_some o ≡ true
        → flat_map (λ y. promoted_line f name y.unit y.promoted) (cons_option (lines_if u o) rest)
        ≡ promoted_line f name u (g u) ++ flat_map (λ y. promoted_line f name y.unit y.promoted) rest
    next_promoted u None rest some = cc
    next_promoted u (Some r) rest some = refl

    pub promoted_text : (us : List units.Unit) → AreThere us
        → flat_map (λ y. promoted_line f name y.unit y.promoted) (lines_of us) ≡ flat_map (λ u. promoted_line f name u (g u)) us
    promoted_text [] all = refl
    promoted_text (u ∷ us) all =
        next_promoted u (h u) (lines_of us) all.0 ∙ ap (λ l. promoted_line f name u (g u) ++ l) (promoted_text us all.1)

    next_caught : (u : units.Unit) (o : Option R) (rest : List (LinesOfUnit R))
        → flat_map (λ y. caught_line f name y.unit (Some y.caught)) (cons_option (lines_if u o) rest)
        ≡ caught_line f name u o ++ flat_map (λ y. caught_line f name y.unit (Some y.caught)) rest
    next_caught u None rest = refl
    next_caught u (Some r) rest = refl

    pub caught_text : (us : List units.Unit)
        → flat_map (λ y. caught_line f name y.unit (Some y.caught)) (lines_of us) ≡ flat_map (λ u. caught_line f name u (h u)) us
    caught_text [] = refl
    caught_text (u ∷ us) = next_caught u (h u) (lines_of us) ∙ ap (λ l. caught_line f name u (h u) ++ l) (caught_text us)

module _ {F R : Type 0} (x : Failover F R) (left : IsLeft x) where
  -- the affected units
  abbrev pub keys : List units.Unit
  keys = finite.keys (table_at x.world x.failed).live

  pub among_affected : (u : units.Unit) → is_among keys u ≡ is_affected x u
  among_affected u =
      sym (contains_key-keys (table_at x.world x.failed).live u) ∙ sym (ap is_some (live_table (slice_get x.world.nodes (instance_node x.failed)) u))

  -- no plain move handed a unit on where none stands among the commands
  pub steady : (u : units.Unit) → may_move (of x left) u ≡ false → is_loose x.job.config x.job.items u x.world.log ≡ false
  steady u off = elim (is_loose x.job.config x.job.items u x.world.log) as (λ b. is_loose x.job.config x.job.items u x.world.log ≡ b → b ≡ false) [
    | true ↦ λ is.
        let on = hands_on x.job.config.names (order_numbered x.job.items) u _ (installs_in x.world.log) is in
        let order = some_order u (order_numbered x.job.items on.op) on.plain in
        let plain : moves not u order.0 ≡ true = sym (ap (is_plain u) order.1) ∙ on.plain in
        absurd (true≢false (sym (found_any (λ k. moves not u k.what) on.op order.0 plain (commands x.job.items) order.1) ∙ off))
    | false ↦ λ is. refl
  ] refl

  -- packets that were picked out by a test that affected units alone pass
  module _ (test : ℕ → Bool) (affects : (n : ℕ) → test n ≡ true → is_affected x (unit_in x.job n) ≡ true)
      (listed : List units.Unit) (listed_is : listed ≡ keys) where
    abbrev picked : List ℕ
    picked = filter test (arrivals_in x.world.log)

    abbrev is_listed : ℕ → Bool
    is_listed n = is_among listed (unit_in x.job n)

    abbrev in_picked : ℕ → Bool
    in_picked n = is_in n picked

    picked_again : filter in_picked (arrivals_in x.world.log) ≡ picked
    picked_again = filter_same in_picked test (arrivals_in x.world.log) (λ n there.
        in_filter n test (arrivals_in x.world.log) ∙ ap (λ b. test n && b) there ∙ and-true (test n))

    each_listed : (n : ℕ) → in_picked n ≡ true → is_listed n ≡ true
    each_listed n there =
        let passes = (and_parts (test n) (is_in n (arrivals_in x.world.log)) (sym (in_filter n test (arrivals_in x.world.log)) ∙ there)).0 in
        ap (λ us. is_among us (unit_in x.job n)) listed_is ∙ among_affected (unit_in x.job n) ∙ affects n passes

    -- they are those of such units
    all_listed : filter in_picked (filter is_listed (arrivals_in x.world.log)) ≡ picked
    all_listed = those_filter in_picked is_listed (arrivals_in x.world.log) ∙ ap (filter is_listed) picked_again ∙ filter_all is_listed picked each_listed

    came_listed : HaveCome x left (filter is_listed (arrivals_in x.world.log))
    came_listed n there = (and_parts (is_listed n) (is_in n (arrivals_in x.world.log)) (sym (in_filter n is_listed (arrivals_in x.world.log)) ∙ there)).1

    came_picked : HaveCome x left picked
    came_picked n there = (and_parts (test n) (is_in n (arrivals_in x.world.log)) (sym (in_filter n test (arrivals_in x.world.log)) ∙ there)).1

    pub picked_are : picked ≡ numbers (numbered_in picked (filter (λ p. is_among listed (unit_at x.job.function.kind x.job.config.site p)) (first x left)))
    picked_are = sym (
        ap (λ l. numbers (numbered_in picked (filter (λ p. is_among listed (unit_at x.job.function.kind x.job.config.site p)) l))) (first_is x left)
        ∙ ap (λ l. numbers (numbered_in picked l)) (filter_numbered (packets x.job.items)
        (λ p. is_among listed (unit_at x.job.function.kind x.job.config.site p)) (arrivals_in x.world.log))
        ∙ ap numbers (numbered_are x left picked (filter is_listed (arrivals_in x.world.log)) came_listed ∙ ap (with_numbers x left) all_listed)
        ∙ numbers_are x left picked came_picked)
