-- The answer to each command of a completed run has its true cause, in the words of the headline.
use Rattle.run_headline.proofs.Words.{◌≡◌, ℕ, ◌+◌, ◌<◌, Bool, true, false, not, ◌&&◌, ◌||◌, Option, Some, None, List, [], ◌∷◌, map, refl, sym, ap, ◌∙◌, subst}
use Rattle.run_headline.proofs.Words.{arith, ◌==◌, nat_lt, option_map, if◌then◌else◌, slice_index_or, AllByRecursion, list_any, position_or_len, option_map_or}
use Rattle.run_headline.proofs.Words.{or-true, nat_tests, Decides-ltb, and_parts, Filter, Answer, Command, Order, Move, Copy, Share, Msg, Note, unknown_in}
use Rattle.run_headline.proofs.Words.{Network, run, Node, answers_of, before_command, has_answered, is_of_command, commands, order_numbered, course_of, job_of}
use Rattle.run_headline.proofs.Words.{started_with, is_refusal, answer_in, is_noted, by_number, is_answered, subject}
use Rattle.std.specs.Prelude.{option_and_then, slice_index}
use Rattle.std.specs.List.{AllZip}
use Rattle.flow_filter.specs.Filter.{meets}
use Rattle.nf_function.specs.declared.unit.Unit as units
use Rattle.nf_function.specs.Stored.{plain_version, timed_version}
use Rattle.nf_function.specs.Units.{has_times}
use Rattle.nf_msgs.specs.declared.answer.Answer.TheVariants as answers
use Rattle.nf_msgs.specs.Orders.{order_filter}
use Rattle.net_world.specs.Commands as commands_noted
use Rattle.net_world.specs.Commands.{keeps_off}
use Rattle.net_world.specs.Verdicts.{Weighed, receiver_of, verdict, IsVerdict}
use Rattle.net_world.specs.Log.{begin_in}
use Rattle.net_world.proofs.PickedLists.{any_front}
use Rattle.run_report.specs.nf_net.proofs.answers.BusyLemmas.{none_answered}
use Rattle.run_headline.specs.Causes.{AreTrue, HasCause, orders_meet}
use Rattle.run_headline.proofs.AnswerLines.{IsOnly, Line, answer_to, found_any, only, so_answered}
use Rattle.run_headline.proofs.CommandOrder.{run_in_turn}
use Rattle.run_headline.proofs.FoundNumbers.{IsFound, all_found}
use Rattle.run_headline.proofs.CompletedRuns.{CompletedRun, world_of}

-- what began before the first note of a command began
began_before : (op k : ℕ) (log : List Note) → commands_noted.is_begun k (before_command op log) ≡ true → commands_noted.is_begun k log ≡ true
began_before op k log h = any_front begin_in (λ j. j == k) (position_or_len (is_of_command op) log) log h

-- a command that has an answer was noted
answered_noted : (op : ℕ) (log : List Note) (a : Answer) → answers_of op log ≡ a ∷ [] → is_noted op log ≡ true
answered_noted op log a is = elim (has_answered op log) as (λ b. has_answered op log ≡ b → (commands_noted.is_begun op log || b) ≡ true) [
  | true ↦ λ _. or-true (commands_noted.is_begun op log)
  | false ↦ λ off. (let none = sym is ∙ none_answered op log off in cc)
] refl

-- one that began
abbrev is_of_begun : Answer → Bool
is_of_begun answer = not (is_refusal answer)

-- an order that meets the filter of a command that keeps others off, of which there is one then
record Meets (what : Order) (keeps : Bool) (order : Option Order) : Type 0 where
  keeps_is : keeps ≡ true
  other : Order
  order_is : order ≡ Some other
  meet : orders_meet what other ≡ true

no_filter : (o : Option Filter) → option_map_or (λ filter. option_map_or (meets filter) None false) o false ≡ true → ⊥
no_filter None is = cc
no_filter (Some filter) is = cc

meets_one : (what : Order) (keeps : Bool) (order : Option Order)
    → option_map_or (λ filter. option_map_or (meets filter) (if keeps then option_and_then order_filter order else None) false) (order_filter what) false
    ≡ true
    → Meets what keeps order
meets_one what true (Some other) h = record { keeps_is = refl; other = other; order_is = refl; meet = h }
meets_one what true None h = absurd (no_filter (order_filter what) h)
meets_one what false order h = absurd (no_filter (order_filter what) h)

-- Verdicts.
record IsFull (x : Weighed) (held coming limit : ℕ) : Type 0 where
  limit_is : x.limit ≡ limit
  more : limit < held + coming

is_full : (x : Weighed) (held coming limit : ℕ) → answers.Import held coming limit ≡ verdict x → IsFull x held coming limit
is_full x held coming limit = elim (nat_lt x.limit (x.held + x.coming)) as (λ b. nat_lt x.limit (x.held + x.coming) ≡ b
    → answers.Import held coming limit
    ≡ (if b then answers.Import x.held x.coming x.limit else if x.marked && x.timed then answers.Old timed_version plain_version else answers.Done)
    → IsFull x held coming limit) [
      | true ↦ λ large is.
          let held_is : held ≡ x.held = cc in
          let coming_is : coming ≡ x.coming = cc in
          let limit_is : limit ≡ x.limit = cc in
          let less : x.limit < x.held + x.coming = (Decides-ltb x.limit (x.held + x.coming)).0 large in
          record { limit_is = sym limit_is; more = omega (arith, held_is, coming_is, limit_is, less) }
      | false ↦ λ small. elim (x.marked && x.timed)
          as (λ b. answers.Import held coming limit ≡ (if b then answers.Old timed_version plain_version else answers.Done)
          → IsFull x held coming limit) [
            | true ↦ λ never. cc
            | false ↦ λ never. cc
          ]
    ] refl

record IsTooNew (x : Weighed) (newest reads : ℕ) : Type 0 where
  marked : x.marked ≡ true
  timed : x.timed ≡ true
  newest_is : newest ≡ timed_version
  reads_is : reads ≡ plain_version

is_too_new : (x : Weighed) (newest reads : ℕ) → answers.Old newest reads ≡ verdict x → IsTooNew x newest reads
is_too_new x newest reads = elim (nat_lt x.limit (x.held + x.coming)) as (λ b.
    answers.Old newest reads
    ≡ (if b then answers.Import x.held x.coming x.limit else if x.marked && x.timed then answers.Old timed_version plain_version else answers.Done)
    → IsTooNew x newest reads) [
      | true ↦ λ never. cc
      | false ↦ elim (x.marked && x.timed)
          as (λ b. (x.marked && x.timed) ≡ b → answers.Old newest reads ≡ (if b then answers.Old timed_version plain_version else answers.Done)
          → IsTooNew x newest reads) [
            | true ↦ λ on is. (let parts = and_parts x.marked x.timed on in record { marked = parts.0; timed = parts.1; newest_is = cc; reads_is = cc })
            | false ↦ λ off never. cc
          ] refl
    ]

no_refusal : (x : Weighed) → is_refusal (verdict x) ≡ false
no_refusal x = elim (nat_lt x.limit (x.held + x.coming)) as (λ b.
    is_refusal (if b then answers.Import x.held x.coming x.limit else if x.marked && x.timed then answers.Old timed_version plain_version else answers.Done)
    ≡ false) [
      | true ↦ refl
      | false ↦ elim (x.marked && x.timed) as (λ b. is_refusal (if b then answers.Old timed_version plain_version else answers.Done) ≡ false) [
        | true ↦ refl
        | false ↦ refl
      ]
    ]

-- what holds of one of some units holds
some_unit : (kept : Bool) (p : units.Unit → Bool) (us : List units.Unit) → list_any (λ u. kept && p u) us ≡ true → kept ≡ true
some_unit true p us h = refl
some_unit false p [] h = h
some_unit false p (u ∷ us) h = some_unit false p us h

-- each command beside its line
beside : (P : Command → Answer → Type 0) (there : Command → Type 0) (alone : Line → Type 0)
    → ((c : Command) (a : Answer) → there c → alone (c.op, a) → P c a) → (cs : List Command) (xs : List Line) → map (λ x. x.0) xs ≡ map (λ c. c.op) cs
    → AllByRecursion there cs → AllByRecursion alone xs → AllZip (λ c x. (x.0 ≡ c.op) × P c x.1) cs xs
beside P there alone holds [] [] same all only = tt
beside P there alone holds [] (x ∷ xs) same all only = cc
beside P there alone holds (c ∷ cs) [] same all only = cc
beside P there alone holds (c ∷ cs) (x ∷ xs) same all only =
    let number : x.0 ≡ c.op = cc in
    let rest : map (λ y. y.0) xs ≡ map (λ d. d.op) cs = cc in
    ((number, holds c x.1 all.0 (subst (λ k. alone (k, x.1)) number only.0)), beside P there alone holds cs xs rest all.1 only.1)

module _ {F R : Type 0} (completed : CompletedRun F R) where
  open completed use {setting, choices, is}
  open setting use {function as f, alloc, config as c, items}

  abbrev w : Network (Node F R) Msg Note
  w = world_of setting choices

  abbrev lines_told : List Line
  lines_told = by_number answer_in w.log

  -- how many records the instance takes in to which an order moves units, and whether it reads chunks of version 1 alone
  abbrev limit_of : Order → Option ℕ
  limit_of what = option_map (slice_index c.limits) (receiver_of c (Some what))

  abbrev reads_old : Order → Option Bool
  reads_old what = option_map (λ i. slice_index_or c.marked i false) (receiver_of c (Some what))

  abbrev HasIts : Command → Answer → Type 0
  HasIts k answer = HasCause (subject f c items) lines_told k answer

  abbrev orders : ℕ → Option Order
  orders = order_numbered items

  module _ (op : ℕ) (what : Order) (answer : Answer) (order : orders op ≡ Some what) (told : answers_of op w.log ≡ answer ∷ []) where
    -- it began, if its answer is no refusal
    pub began_if : is_refusal answer ≡ false → commands_noted.is_begun op w.log ≡ true
    began_if fair = elim (commands_noted.is_begun op w.log) as (λ b. commands_noted.is_begun op w.log ≡ b → b ≡ true) [
      | true ↦ λ _. refl
      | false ↦ λ off. (let never = sym fair ∙ is.verdicts.refused op answer off told in cc)
    ] refl

    known : is_refusal answer ≡ false → unknown_in c.names what ≡ None
    known fair = (is.promises.answers.begins op what order (began_if fair)).known

    -- one that began isn't refused
    no_cause : commands_noted.is_begun op w.log ≡ true → is_refusal answer ≡ false
    no_cause on = by_order what order
      where
        by_order : (o : Order) → orders op ≡ Some o → is_refusal answer ≡ false
        by_order (Move source destination filter keep) e =
            let judged = is.verdicts.judged op source destination filter keep answer e on told in
            ap is_refusal judged.answer_is ∙ no_refusal judged.weighed
        by_order (Copy source destination filter) e = ap is_refusal (is.verdicts.copied op source destination filter answer e on told)
        by_order (Share members filter) e = ap is_refusal (is.verdicts.set_up op members filter answer e on told)

  module _ (op : ℕ) (what : Order) (order : orders op ≡ Some what) where
    abbrev it : Command
    it = record { op = op; what = what }

    -- a command that was met
    overlapped : (k : ℕ) → answers_of op w.log ≡ answers.Overlap k ∷ [] → HasIts it (answers.Overlap k)
    overlapped k told =
        let cause = is.promises.answers.causes op what (answers.Overlap k) order told in
        let front = before_command op w.log in
        let one = meets_one what (keeps_off c.names orders k front) (orders k) cause.1.picked in
        let kept = and_parts (commands_noted.is_begun k front) _ one.keeps_is in
        let low : k < op = run_in_turn setting choices is.is_run op k (answered_noted op w.log (answers.Overlap k) told) kept.0 in
        let answer = answer_to w.log is.promises.answers.answered_once items is.answers k one.other one.order_is in
        let unrefused : is_of_begun answer.0 ≡ true = ap not (no_cause k one.other answer.0 one.order_is answer.1 (began_before op k w.log kept.0)) in
        let said : is_answered is_of_begun (by_number answer_in w.log) k ≡ true = so_answered is_of_begun answer.0 unrefused k w.log answer.1 in
        let own : (k == k) ≡ true = grind (arith, nat_tests) in
        let less : nat_lt k op ≡ true = (Decides-ltb k op).1 low in
        let meet = one.meet in (
          cause.0,
          found_any (λ d. (d.op == k) && nat_lt d.op op && is_answered is_of_begun lines_told d.op && orders_meet what d.what) k one.other
              (rw (own, less, said, meet) refl)
              (commands items) one.order_is,
        )

    abbrev Judged : Answer → Type 0
    Judged answer = IsVerdict {F = F} (job_of f c items) (course_of (started_with alloc c items) choices) op answer

    -- what a move is judged by
    judged : (answer : Answer) → answers_of op w.log ≡ answer ∷ [] → is_refusal answer ≡ false → (answer ≡ answers.Done → ⊥) → Judged answer
    judged answer told fair other = by_order what order
      where
        on : commands_noted.is_begun op w.log ≡ true
        on = began_if op what answer order told fair

        by_order : (o : Order) → orders op ≡ Some o → Judged answer
        by_order (Move source destination filter keep) e = is.verdicts.judged op source destination filter keep answer e on told
        by_order (Copy source destination filter) e = absurd (other (is.verdicts.copied op source destination filter answer e on told))
        by_order (Share members filter) e = absurd (other (is.verdicts.set_up op members filter answer e on told))

    full : (held coming limit : ℕ) → answers_of op w.log ≡ answers.Import held coming limit ∷ [] → HasIts it (answers.Import held coming limit)
    full held coming limit told =
        let v = judged (answers.Import held coming limit) told refl (λ never. cc) in
        let much = is_full v.weighed held coming limit v.answer_is in
        let takes : limit_of what ≡ Some limit = ap (λ o. option_map (slice_index c.limits) (receiver_of c o)) (sym order)
        ∙ ap (option_map (slice_index c.limits)) v.are_weighed.destination_is ∙ ap Some (sym v.are_weighed.limit ∙ much.limit_is) in
        (known op what (answers.Import held coming limit) order told refl, (takes, much.more))

    too_new : (newest reads : ℕ) → answers_of op w.log ≡ answers.Old newest reads ∷ [] → HasIts it (answers.Old newest reads)
    too_new newest reads told =
        let v = judged (answers.Old newest reads) told refl (λ never. cc) in
        let new = is_too_new v.weighed newest reads v.answer_is in
        let marked : reads_old what ≡ Some true = ap (λ o. option_map (λ i. slice_index_or c.marked i false) (receiver_of c o)) (sym order)
        ∙ ap (option_map (λ i. slice_index_or c.marked i false)) v.are_weighed.destination_is ∙ ap Some (sym v.are_weighed.marked ∙ new.marked) in
        let timed : has_times f.kind ≡ true = some_unit (has_times f.kind) _ v.are_weighed.units (sym v.are_weighed.timed ∙ new.timed) in
        (known op what (answers.Old newest reads) order told refl, (marked, timed, new.newest_is, new.reads_is))

    cause : (answer : Answer) → answers_of op w.log ≡ answer ∷ [] → HasIts it answer
    cause answers.Done told = (known op what answers.Done order told refl, tt)
    cause (answers.Unknown name) told = is.promises.answers.causes op what (answers.Unknown name) order told
    cause (answers.Overlap k) told = overlapped k told
    cause (answers.Import held coming limit) told = full held coming limit told
    cause (answers.Old newest reads) told = too_new newest reads told

  pub answers_true : AreTrue (subject f c items) lines_told
  answers_true =
      beside HasIts (IsFound (λ (k : Command). k.op) (commands items)) (IsOnly w.log is.promises.answers.answered_once)
      (λ k a found alone. cause k.op k.what (ap (option_map (λ (d : Command). d.what)) found) a alone)
      (commands items) (by_number answer_in w.log) is.answers (all_found (λ (k : Command). k.op) 0 (commands items) is.is_input.ops)
      (only w.log is.promises.answers.answered_once)
