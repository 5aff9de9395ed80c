-- What the report of every completed run says of its instances: their tallies, and the records that stand by, each by itself and with shares.
use Rattle.run_headline.proofs.Words.{◌≡◌, ◌≢◌, ℕ, zero, suc, ◌+◌, ◌<◌, ◌≤◌, Bool, true, false, not, Option, Some, None, List, [], ◌∷◌, ◌++◌, length, map}
use Rattle.run_headline.proofs.Words.{take, refl, sym, ap, ◌∙◌, subst, slice_index, arith, if◌then◌else◌, ◌==◌, filter_map, find, is_some, option_map}
use Rattle.run_headline.proofs.Words.{option_to_list, slice_get, zip, AllByRecursion, list_any, bytes_eq, or_parts, Decides-eqb, nat_tests}
use Rattle.run_headline.proofs.Words.{position-Some, Filter, Packet, has_twice, place_of, takes, same_unit-true, Answer, Command}
use Rattle.run_headline.proofs.Words.{Order, Move, Copy, Share, Msg, Note, instance_node, InstanceState, Network, run, at, run_world, has}
use Rattle.run_headline.proofs.Words.{Node, is_begun, IsProper, commands, order_numbered, packets, dones_in, done_where, node_ready, node_step, is_home, owner}
use Rattle.run_headline.proofs.Words.{live_at, job_of, standby_at, StandsBy, started_with, is_refusal, unit_fits, NamedInstance, NamedRecord, by_unit}
use Rattle.run_headline.proofs.Words.{instance_under, named_instances, run_beside, start_world, count_at_start, given, is_answered, is_done, ReportLines}
use Rattle.run_headline.proofs.Words.{is_covered, packets_of, record_after, Subject, IsAsNew, records_under, lines, subject}
use Rattle.std.specs.List.{take-map}
use Rattle.std.proofs.lemmas.List.{take_at}
use Rattle.nf_function.specs.declared.unit.Unit as units
use Rattle.nf_msgs.specs.declared.answer.Answer.TheVariants as answers
use Rattle.actor_net.proofs.CompleteWorlds.{done_waiting}
use Rattle.net_world.specs.Fold as folds
use Rattle.net_world.specs.Log.{Done}
use Rattle.net_world.specs.Nodes.{node_ended}
use Rattle.net_world.specs.Places.{is_at, unit_numbered}
use Rattle.run_report.specs.proof_outlines.proofs.joined.Joined.{shown}
use Rattle.run_report.specs.proof_outlines.proofs.joined.ShareBegins.{FirstKnown, first_known, places_apart}
use Rattle.run_report.specs.nf_net.proofs.answers.CommandPromises.{run_busy}
use Rattle.run_report.specs.nf_net.proofs.NumberedUnits.{units_fit}
use Rattle.run_headline.specs.Instances.{AreTallies, IsShared}
use Rattle.run_headline.proofs.AnswerCauses.{began_if}
use Rattle.run_headline.proofs.AnswerLines.{answer_to, answered_so}
use Rattle.run_headline.proofs.CoveredUnits.{uncovered}
use Rattle.run_headline.proofs.FoundNumbers.{IsFound, all_found}
use Rattle.run_headline.proofs.HeadlineRuns.{AreNodes, nodes}
use Rattle.run_headline.proofs.OwnTallies.{done_at}
use Rattle.run_headline.proofs.RecordsUnder.{all_told, under_name}
use Rattle.run_headline.proofs.SharedStandbys.{member_stands}
use Rattle.run_headline.proofs.SortedParts.{all_filter}
use Rattle.run_headline.proofs.TallyLines.{has_counts}
use Rattle.run_headline.proofs.UnitOutputs.{IsThere, folds_numbers, part, processed_all, those_numbers}
use Rattle.run_headline.proofs.UnitStates.{kept_nth}
use Rattle.run_headline.proofs.CompletedRuns.{CompletedRun, world_of}

-- The first of a list.
take_get : (n i : ℕ) (xs : List ℕ) → i < n → i < length xs → slice_get (take n xs) i ≡ Some (slice_index xs i)
take_get zero i xs low long = absurd (omega (arith, low))
take_get (suc n) i [] low long = absurd (omega (arith, long))
take_get (suc n) zero (x ∷ xs) low long = refl
take_get (suc n) (suc i) (x ∷ xs) low long = take_get n i xs (omega (arith, low)) (omega (arith, long))

take_less : (n j : ℕ) (xs : List ℕ) → slice_index (take n xs) j ≤ slice_index xs j
take_less zero j xs = let none : slice_index (take 0 xs) j ≡ 0 = refl in omega (arith, none)
take_less (suc n) j [] = omega arith
take_less (suc n) zero (x ∷ xs) = omega arith
take_less (suc n) (suc j) (x ∷ xs) = take_less n j xs

all_take : {X : Type 0} (P : X → Type 0) (n : ℕ) (xs : List X) → AllByRecursion P xs → AllByRecursion P (take n xs)
all_take P zero xs all = tt
all_take P (suc n) [] all = tt
all_take P (suc n) (x ∷ xs) all = (all.0, all_take P n xs all.1)

only_one : {R : Type 0} (o : Option R) (r : R) → option_to_list o ≡ r ∷ [] → o ≡ Some r
only_one None r same = cc
only_one (Some x) r same = let one : x ≡ r = cc in ap Some one

-- what was processed of some passes their test
done_passes : (mine : ℕ → Bool) (ds : List Done) (d : Done) (rest : List Done) → done_where mine ds ≡ d ∷ rest → mine d.number ≡ true
done_passes mine [] d rest is = cc
done_passes mine (x ∷ ds) d rest is =
    elim (mine x.number) as (λ b. mine x.number ≡ b → (if b then x ∷ done_where mine ds else done_where mine ds) ≡ d ∷ rest → mine d.number ≡ true) [
      | true ↦ λ on there. let same : x ≡ d = cc in ap (λ y. mine y.number) (sym same) ∙ on
      | false ↦ λ _ there. done_passes mine ds d rest there
    ] refl is

pub done_unrefused : (a : Answer) → is_done a ≡ true → is_refusal a ≡ false
done_unrefused answers.Done is = refl
done_unrefused a is = cc

-- what stands at a place among the named instances
told_nth : {F R : Type 0} (names : List (List ℕ)) (xs : List (InstanceState F R)) (i : ℕ) (x : NamedInstance R)
    → slice_get (map instance_under (zip names xs)) i ≡ Some x
    → (y : InstanceState F R) × (slice_get xs i ≡ Some y) × (y.tally.slots ≡ x.slots) × (i < length names)
told_nth [] xs i x found = cc
told_nth (name ∷ names) [] i x found = cc
told_nth (name ∷ names) (y ∷ xs) zero x found = (let same : instance_under (name, y) ≡ x = cc in (y, refl, ap (λ z. z.slots) same, omega arith))
told_nth (name ∷ names) (y ∷ xs) (suc i) x found = (let rest = told_nth names xs i x found in let low = rest.3 in (rest.0, rest.1, rest.2, omega (arith, low)))

module _ {F R : Type 0} (completed : CompletedRun F R) where
  open completed use {setting, choices, is}
  open setting use {function as f, alloc, config as c, items}

  abbrev w : Network (Node F R) Msg Note
  w = world_of setting choices

  abbrev pub of : Subject R
  of = subject f c items

  abbrev pub said : ReportLines R
  said = lines f c items w

  abbrev pub there : List (NamedInstance R)
  there = named_instances c.names w.nodes

  abbrev pub standbys : List (NamedRecord R)
  standbys = by_unit false there

  pub here : AreNodes w.nodes (length c.names)
  here = nodes completed

  pub told_is : there ≡ map instance_under (zip c.names here.instances)
  told_is = ap (λ l. map instance_under (zip c.names l)) here.in_order

  -- what the tally of an instance says
  record HasTally (i : ℕ) (x : NamedInstance R) : Type 0 where
    low : i < length c.names
    long : i < length x.slots
    own : slice_index x.slots i ≡ done_at i w.log
    others : (j : ℕ) → slice_index x.slots j ≤ done_at j w.log

  has_tally : (i : ℕ) (x : NamedInstance R) → slice_get there i ≡ Some x → HasTally i x
  has_tally i x found =
      let one = told_nth c.names here.instances i x (ap (λ l. slice_get l i) (sym told_is) ∙ found) in
      let same : one.0.tally.slots ≡ x.slots = one.2 in
      let counts = has_counts completed i one.0 one.3 (here.there i one.0 one.1) in
      record {
        low = one.3;
        long = subst (λ slots. i < length slots) same counts.low;
        own = ap (λ slots. slice_index slots i) (sym same) ∙ counts.own;
        others = λ j. subst (λ slots. slice_index slots j ≤ done_at j w.log) same (counts.others j);
      }

  pub tallies : AreTallies of said there
  tallies = λ i x found. (
    let t = has_tally i x found in take_get (length c.names) i x.slots t.low t.long ∙ ap Some t.own,
    λ j. (let less = (has_tally i x found).others j in let some = take_less (length c.names) j x.slots in omega (arith, less, some)),
  )

  pub packets_found : AllByRecursion (IsFound (λ p. p.number) (packets items)) (packets items)
  packets_found = all_found (λ p. p.number) 0 (packets items) is.is_input.numbers

  -- a record that stands by, of a unit that isn't covered
  pub stands_after : (k : ℕ) (u : units.Unit) (s : StandsBy (job_of f c items) w k u) → is_covered of said.answers u ≡ false
      → record_after of (take (length s.front) (packets_of of u)) ≡ Some s.kept
  stands_after k u s off =
      let mine = packets_of of u in
      let count = length s.front in
      let all = processed_all setting w is.promises is.completed u (uncovered f c items w.log is.promises.answers is.answers u off) in
      let whole : s.front ++ s.is_front.rest ≡ map (λ p. p.number) mine = s.is_front.whole ∙ all ∙ those_numbers f c items u (packets items) packets_found in
      let front : map (λ p. p.number) (take count mine) ≡ s.front =
      sym (take-map (λ (p : Packet). p.number) count mine) ∙ ap (take count) (sym whole) ∙ take_at s.front s.is_front.rest (length s.front) refl in
      let found = all_take (IsThere f c items u) count mine (all_filter (IsThere f c items u) (part f c items u) (packets items) packets_found) in
      sym (folds_numbers f c items u None (take count mine) found) ∙ ap (folds.fold f c items None) front ∙ s.folds

  front_of : (own : List ℕ) (k : ℕ) (u : units.Unit) (r : R) → kept_nth u false here.instances k ≡ Some r → is_covered of said.answers u ≡ false
      → IsAsNew of u 0 (r ∷ [])
  front_of own k u r kept off =
      let there : standby_at w k u ≡ Some r = here.stands u k ∙ kept in
      let s = is.standbys.fronts k u r there in
      record {
        count = length s.front;
        enough = omega arith;
        records_are = ap option_to_list (sym (stands_after k u s off ∙ sym s.there ∙ there));
      }

  pub fronts : AllByRecursion (λ s. is_covered of said.answers s.unit ≡ false → IsAsNew of s.unit 0 (s.kept ∷ [])) standbys
  fronts =
      subst (λ l. AllByRecursion (λ s. is_covered of said.answers s.unit ≡ false → IsAsNew of s.unit 0 (s.kept ∷ [])) (by_unit false l)) (sym told_is)
      (all_told (λ s. is_covered of said.answers s.unit ≡ false → IsAsNew of s.unit 0 (s.kept ∷ [])) false c.names here.instances front_of)

  -- a unit with a record is one that packets may have
  fits : (u : units.Unit) (r : R) → folds.fold f c items None (folds.processed_of f c items u w.log) ≡ Some r → unit_fits f.kind u ≡ true
  fits u r kept = by_done (done_where (folds.is_of f c items u) (dones_in w.log)) refl kept
    where
      by_done : (ds : List Done) → done_where (folds.is_of f c items u) (dones_in w.log) ≡ ds → folds.fold f c items None (map (λ d. d.number) ds) ≡ Some r
          → unit_fits f.kind u ≡ true
      by_done [] none h = cc
      by_done (d ∷ ds) some h =
          let same : unit_numbered c items f.kind d.number ≡ u =
          same_unit-true (unit_numbered c items f.kind d.number) u (done_passes (folds.is_of f c items u) (dones_in w.log) d ds some) in
          ap (unit_fits f.kind) (sym same) ∙ units_fit setting d.number

  -- A share that is done.
  module _ (once : has_twice c.names ≡ false) (op : ℕ) (home : List ℕ) (others : List (List ℕ)) (taken : Filter)
      (order : order_numbered items op ≡ Some (Share (home ∷ others) taken)) (is_answer : is_answered is_done said.answers op ≡ true) where
    begun : is_begun op w.log ≡ true
    begun =
        let one = answer_to w.log is.promises.answers.answered_once items is.answers op (Share (home ∷ others) taken) order in
        began_if completed op (Share (home ∷ others) taken) one.0 order one.1
        (done_unrefused one.0 (answered_so is_done one.0 op w.log one.1 is_answer))

    known : find (λ name. not (is_some (place_of c.names name))) (home ∷ others) ≡ None
    known = (is.promises.answers.begins op (Share (home ∷ others) taken) order begun).known

    first : FirstKnown c.names home others
    first = first_known c.names home others known

    -- a record under the name of its first member
    module _ (u : units.Unit) (r : R) (on : takes taken u ≡ true) (live : records_under u home said.states ≡ r ∷ []) where
      live_there : live_at w first.home u ≡ Some r
      live_there =
          let at = position-Some (λ other. bytes_eq other home) c.names first.home [] first.at in
          here.lives u first.home
          ∙ only_one (kept_nth u true here.instances first.home) r (sym (under_name u home true c.names here.instances first.home here.many once at.0 at.1)
          ∙ ap (λ l. records_under u home (by_unit true l)) (sym told_is) ∙ live)

      kept : folds.fold f c items None (folds.processed_of f c items u w.log) ≡ Some r
      kept = is.completed.records_are u first.home r live_there

      owns : first.home ≡ owner c items u w.log
      owns = is.completed.at_owner u first.home r live_there

      at_home : is_home c.names (order_numbered items) (home ∷ others) (owner c items u w.log) ≡ true
      at_home = ap (λ o. is_at o (owner c items u w.log)) first.at ∙ (Decides-eqb (owner c items u w.log) first.home).1 (sym owns)

      member_kept : (i : ℕ) → has (map instance_node (filter_map (place_of c.names) (home ∷ others))) (instance_node i) ≡ true → i ≢ first.home
          → standby_at w i u ≡ Some r
      member_kept i inside apart =
          let run = run_beside setting choices is.is_run in
          let busy = run_busy setting choices is.is_run in
          let reached = run_world node_ready (node_step f) (length c.names + 2) (started_with alloc c items) (start_world setting)
          (count_at_start setting) choices is.is_run in
          let off : (instance_node i == instance_node (owner c items u w.log)) ≡ false = grind (arith, nat_tests, apart, owns) in
          member_stands setting (length c.names + 2) refl w reached.1 run.joined run.beside.kept.apart busy.1 u (fits u r kept) op
          (home ∷ others) taken
          order on begun at_home
          (λ a b low high other. run.joined.links a b low high other
          ∙ ap (filter_map (shown f (given setting))) (done_waiting node_ended w is.is_ended (at b a))) (instance_node i) inside off ∙ kept

      one_other : (name : List ℕ) (i : ℕ) → place_of c.names name ≡ Some i → bytes_eq name home ≡ false
          → has (map instance_node (filter_map (place_of c.names) (home ∷ others))) (instance_node i) ≡ true → records_under u name standbys ≡ r ∷ []
      one_other name i place other inside =
          let at = position-Some (λ x. bytes_eq x name) c.names i [] place in
          let stands = member_kept i inside (places_apart c.names name home i first.home place first.at (ap not other)) in
          ap (λ l. records_under u name (by_unit false l)) told_is ∙ under_name u name false c.names here.instances i here.many once at.0 at.1
          ∙ ap option_to_list (sym (here.stands u i) ∙ stands)

      has_more : (k j : ℕ) (ks : List ℕ) → has ks j ≡ true → has (k ∷ ks) j ≡ true
      has_more k j ks inside = elim (j == k) as (λ b. (if b then true else has ks j) ≡ true) [ true ↦ refl | false ↦ inside ]

      rest_known : (name : List ℕ) (rest : List (List ℕ)) → find (λ x. not (is_some (place_of c.names x))) (name ∷ rest) ≡ None
          → find (λ x. not (is_some (place_of c.names x))) rest ≡ None
      rest_known name rest none = elim (not (is_some (place_of c.names name))) as (λ b.
          (if b then Some name else find (λ x. not (is_some (place_of c.names x))) rest) ≡ None → find (λ x. not (is_some (place_of c.names x))) rest ≡ None) [
            | true ↦ λ never. cc
            | false ↦ λ more. more
          ] none

      each_other : (rest : List (List ℕ)) → find (λ x. not (is_some (place_of c.names x))) rest ≡ None → list_any (λ other. bytes_eq other home) rest ≡ false
          → ((k : ℕ) → has (map instance_node (filter_map (place_of c.names) rest)) k ≡ true
          → has (map instance_node (filter_map (place_of c.names) (home ∷ others))) k ≡ true)
          → AllByRecursion (λ name. records_under u name standbys ≡ r ∷ []) rest
      each_other [] none apart inside = tt
      each_other (name ∷ rest) none apart inside =
          let one = first_known c.names name rest none in
          let parts = or_parts (bytes_eq name home) (list_any (λ other. bytes_eq other home) rest) apart in
          let same : map instance_node (filter_map (place_of c.names) (name ∷ rest))
          ≡ instance_node one.home ∷ map instance_node (filter_map (place_of c.names) rest) =
          ap (map instance_node) one.instances in
          let own : (instance_node one.home == instance_node one.home) ≡ true = grind (arith, nat_tests) in
          let first_in : has (map instance_node (filter_map (place_of c.names) (name ∷ rest))) (instance_node one.home) ≡ true =
          ap (λ ks. has ks (instance_node one.home)) same
          ∙ ap (λ b. if b then true else has (map instance_node (filter_map (place_of c.names) rest)) (instance_node one.home)) own in (
            one_other name one.home one.at parts.0 (inside (instance_node one.home) first_in),
            each_other rest (rest_known name rest none) parts.1
                (λ k at_rest. inside k
                (ap (λ ks. has ks k) same ∙ has_more (instance_node one.home) k (map instance_node (filter_map (place_of c.names) rest)) at_rest)),
          )

    share_stands : list_any (λ other. bytes_eq other home) others ≡ false → IsShared said.states standbys (Share (home ∷ others) taken)
    share_stands apart = λ u r on live.
        let one = first in
        each_other u r on live others (rest_known u r on live home others known) apart
        (λ k inside. ap (λ ks. has (map instance_node ks) k) one.instances
        ∙ has_more u r on live (instance_node one.home) k (map instance_node (filter_map (place_of c.names) others)) inside)

  shared_by : has_twice c.names ≡ false → (op : ℕ) (what : Order) → order_numbered items op ≡ Some what → IsProper f.kind what
      → is_answered is_done said.answers op ≡ true → IsShared said.states standbys what
  shared_by once op (Move source destination taken keep) order proper is_answer = tt
  shared_by once op (Copy source destination taken) order proper is_answer = tt
  shared_by once op (Share [] taken) order proper is_answer = tt
  shared_by once op (Share (home ∷ others) taken) order proper is_answer =
      share_stands once op home others taken order is_answer (or_parts (list_any (λ other. bytes_eq other home) others) (has_twice others) proper.0.once).0

  pub shared : has_twice c.names ≡ false → (ks : List Command) → AllByRecursion (IsFound (λ k. k.op) (commands items)) ks
      → AllByRecursion (λ k. IsProper f.kind k.what) ks
      → AllByRecursion (λ k. is_answered is_done said.answers k.op ≡ true → IsShared said.states standbys k.what) ks
  shared once [] found proper = tt
  shared once (k ∷ ks) found proper =
      (shared_by once k.op k.what (ap (option_map (λ x. x.what)) found.0) proper.0, shared once ks found.1 proper.1)
