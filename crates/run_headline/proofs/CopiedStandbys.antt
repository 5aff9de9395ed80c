-- What each copy that is done took stands by at its destination at the end of a completed run, or what is newer; with all else that stands by.
use Rattle.run_headline.proofs.Words.{◌≡◌, ℕ, ◌+◌, ◌≤◌, Bool, true, false, ◌||◌, not, cond, Option, Some, None, List, [], ◌∷◌, ◌++◌, length, map, take, refl}
use Rattle.run_headline.proofs.Words.{sym, ap, ◌∙◌, subst, arith, if◌then◌else◌, ◌==◌, filter, filter_map, find, is_some, option_map, option_to_list, unwrap_or}
use Rattle.run_headline.proofs.Words.{zip, AllByRecursion, list_any, option_map_or, bytes_eq, Decides-eqb, position-Some, Filter, Packet, has_twice, place_of}
use Rattle.run_headline.proofs.Words.{takes, Answer, Command, Order, Move, Copy, Share, Msg, Note, unknown_in, Network, IsRun, run, Node, answers_of, is_begun}
use Rattle.run_headline.proofs.Words.{IsProper, commands, no_packet, order_numbered, packet_numbered, packets, course_of, job_of, dones_in, done_where}
use Rattle.run_headline.proofs.Words.{node_ready, node_step, first_owner, owner, standby_at, StandsBy, by_unit, all_fit, is_answered, is_done, is_covered}
use Rattle.run_headline.proofs.Words.{packets_of, IsAsNew, records_under, done_in}
use Rattle.std.proofs.Common.{append_assoc, length-append}
use Rattle.std.specs.List.{before_first}
use Rattle.std.proofs.lemmas.List.Elements.{recursion_from_All}
use Rattle.nf_function.specs.declared.unit.Unit as units
use Rattle.nf_msgs.specs.declared.answer.Answer.TheVariants as answers
use Rattle.nf_msgs.specs.declared.msg.Msg.TheVariants as msg
use Rattle.nf_msgs.specs.declared.note.Note.TheVariants as note
use Rattle.actor_net.proofs.RunLaws.{run_splits}
use Rattle.net_world.specs.Fold as folds
use Rattle.net_world.specs.Verdicts.{before_export, export_in}
use Rattle.net_world.proofs.PickedLists.{before_first-cons}
use Rattle.run_report.specs.nf_net.specs.Copies.{IsCopied, UnitCopy}
use Rattle.run_report.specs.nf_net.proofs.EveryRun.{every_run}
use Rattle.run_report.specs.nf_net.proofs.FrontLemmas.{front_length}
use Rattle.run_report.specs.nf_net.proofs.SettleCounts.{packets-append}
use Rattle.run_report.specs.nf_net.proofs.StandbyFronts.{still_some}
use Rattle.run_headline.specs.Instances.{AreStandbys, HasBrought, StaysAt, dones_of}
use Rattle.run_headline.specs.Law.{points_of}
use Rattle.run_headline.proofs.AnswerCauses.{began_if}
use Rattle.run_headline.proofs.AnswerLines.{answer_to, answered_so}
use Rattle.run_headline.proofs.FoundNumbers.{IsFound, all_found}
use Rattle.run_headline.proofs.InstanceLines.{done_unrefused, fronts, here, of, packets_found, said, shared, standbys, stands_after, told_is}
use Rattle.run_headline.proofs.RecordsUnder.{under_name}
use Rattle.run_headline.proofs.UnitOutputs.{IsThere, mine, part}
use Rattle.run_headline.proofs.UnmovedUnits.{not_covered, owner_is}
use Rattle.run_headline.proofs.CompletedRuns.{CompletedRun, world_of, start}

-- The log before a note of what was given, and the lines of packets that were processed by then.
module _ {X : Type 0} (p : X → Bool) where
  and_after : (xs : List X) → (rest : List X) × (xs ≡ before_first p xs ++ rest)
  and_after [] = ([], refl)
  and_after (x ∷ xs) =
      let more = and_after xs in
      let parts = elim (p x) as (λ b. (rest : List X) × (x ∷ xs ≡ (if b then [] else x ∷ before_first p xs) ++ rest)) [
        | true ↦ (x ∷ xs, refl)
        | false ↦ (more.0, ap (λ l. x ∷ l) more.1)
      ] in
      (parts.0, parts.1 ∙ ap (λ l. l ++ parts.0) (sym (before_first-cons p x xs)))

after_export : (op : ℕ) (log : List Note) → (rest : List Note) × (log ≡ before_export op log ++ rest)
after_export op log = and_after (λ n. option_map_or (λ one. one.0 == op) (export_in n) false) log

first_dones : (xs ys : List Note) → take (length (dones_in xs)) (filter_map done_in (xs ++ ys)) ≡ filter_map done_in xs
first_dones [] ys = refl
first_dones (note.Processed number i output ∷ xs) ys = ap (λ l. (number, i) ∷ l) (first_dones xs ys)
first_dones (other ∷ xs) ys = first_dones xs ys

-- lines that pass a test are no more than what was processed of some, where these pass too
few_dones : (test : ℕ → Bool) (own : ℕ → Bool) → ((p : ℕ) → test p ≡ true → own p ≡ true) → (xs : List Note)
    → length (filter (λ d. test d.0) (filter_map done_in xs)) ≤ length (map (λ d. d.number) (done_where own (dones_in xs)))
few_dones test own less [] = omega arith
few_dones test own less (note.Processed number i output ∷ xs) =
    let more = few_dones test own less xs in
    elim (test number) as (λ b. test number ≡ b
    → length (cond b ((number, i) ∷ filter (λ d. test d.0) (filter_map done_in xs)) (filter (λ d. test d.0) (filter_map done_in xs)))
    ≤ length (map (λ d. d.number) (done_where own (dones_in (note.Processed number i output ∷ xs))))) [
      | true ↦ λ on. (let its = less number on in rw its (omega (arith, more)))
      | false ↦ λ off. elim (own number) as (λ b. length (filter (λ d. test d.0) (filter_map done_in xs))
          ≤ length (map (λ d. d.number)
          (if b then record { number = number; instance = i; output = output } ∷ done_where own (dones_in xs) else done_where own (dones_in xs)))) [
            | true ↦ omega (arith, more)
            | false ↦ omega (arith, more)
          ]
    ] refl
few_dones test own less (other ∷ xs) = few_dones test own less xs

done_only : (a : Answer) → is_done a ≡ true → a ≡ answers.Done
done_only answers.Done is = refl
done_only a is = cc

-- Two names that are known.
record BothKnown (names : List (List ℕ)) (a b : List ℕ) : Type 0 where
  first : ℕ
  second : ℕ
  first_is : place_of names a ≡ Some first
  second_is : place_of names b ≡ Some second

both_known : (names : List (List ℕ)) (a b : List ℕ) → find (λ name. not (is_some (place_of names name))) (a ∷ b ∷ []) ≡ None → BothKnown names a b
both_known names a b none = by_places (place_of names a) (place_of names b) refl refl
    none
  where
    by_places : (x y : Option ℕ) → place_of names a ≡ x → place_of names b ≡ y
        → find (λ name. not (is_some (place_of names name))) (a ∷ b ∷ []) ≡ None → BothKnown names a b
    by_places (Some i) (Some k) p q h = record { first = i; second = k; first_is = p; second_is = q }
    by_places None y p q h =
        let never : Some a ≡ None = sym (ap (λ o. if not (is_some o) then Some a else find (λ name. not (is_some (place_of names name))) (b ∷ [])) p) ∙ h in
        cc
    by_places (Some i) None p q h =
        let inner : find (λ name. not (is_some (place_of names name))) (b ∷ []) ≡ None =
        sym (ap (λ o. if not (is_some o) then Some a else find (λ name. not (is_some (place_of names name))) (b ∷ [])) p) ∙ h in
        let never : Some b ≡ None = sym (ap (λ o. if not (is_some o) then Some b else None) q) ∙ inner in
        cc

module _ {F R : Type 0} (completed : CompletedRun F R) where
  open completed use {setting, choices, is}
  open setting use {function as f, config as c, items}

  abbrev first : Network (Node F R) Msg Note
  first = start setting

  abbrev w : Network (Node F R) Msg Note
  w = world_of setting choices

  -- a line of a packet of the unit is of a packet that the unit has
  own_line : (u : units.Unit) (p : ℕ) (ps : List Packet) → AllByRecursion (IsThere f c items u) ps
      → list_any (λ q. q.number == p) (filter (part f c items u) ps) ≡ true → mine f c items u p ≡ true
  own_line u p [] all h = cc
  own_line u p (q ∷ ps) all h = elim (part f c items u q) as (λ b. part f c items u q ≡ b
      → list_any (λ x. x.number == p) (cond b (q ∷ filter (part f c items u) ps) (filter (part f c items u) ps)) ≡ true → mine f c items u p ≡ true) [
        | true ↦ λ on some. elim (q.number == p)
            as (λ b. (q.number == p) ≡ b → (b || list_any (λ x. x.number == p) (filter (part f c items u) ps)) ≡ true → mine f c items u p ≡ true) [
              | true ↦ λ same _. ap (λ k. mine f c items u k) (sym ((Decides-eqb q.number p).0 same))
                  ∙ ap (part f c items u) (ap (λ o. unwrap_or o no_packet) all.0) ∙ on
              | false ↦ λ _ more. own_line u p ps all.1 more
            ] refl some
        | false ↦ λ _ more. own_line u p ps all.1 more
      ] refl h

  -- A copy of units that is done.
  module _ (once : has_twice c.names ≡ false) (front behind : List Msg) (k : Command) (whole : items ≡ front ++ msg.InCommand k ∷ behind)
      (order : order_numbered items k.op ≡ Some k.what) (is_answer : is_answered is_done (said completed).answers k.op ≡ true)
      (source destination : List ℕ) (taken : Filter) (what_is : k.what ≡ Copy source destination (Some taken)) where
    answer : (a : Answer) × (answers_of k.op w.log ≡ a ∷ [])
    answer = answer_to w.log is.promises.answers.answered_once items is.answers k.op k.what order

    is_one : is_done answer.0 ≡ true
    is_one = answered_so is_done answer.0 k.op w.log answer.1 is_answer

    done_is : answers_of k.op w.log ≡ answers.Done ∷ []
    done_is = answer.1 ∙ ap (λ a. a ∷ []) (done_only answer.0 is_one)

    begun : is_begun k.op w.log ≡ true
    begun = began_if completed k.op k.what answer.0 order answer.1 (done_unrefused answer.0 is_one)

    known : BothKnown c.names source destination
    known = both_known c.names source destination
        (subst (λ what. unknown_in c.names what ≡ None) what_is (is.promises.answers.begins k.op k.what order begun).known)

    abbrev copy : UnitCopy
    copy = record { op = k.op; source = known.first; destination = known.second; filter = taken }

    copied : IsCopied (job_of f c items) (course_of first choices) copy
    copied = is.standbys.copied copy (record {
      source = source;
      destination = destination;
      order_is = order ∙ ap Some what_is;
      source_is = known.first_is;
      destination_is = known.second_is;
    }) done_is

    -- the world in which the source gave what it had
    abbrev given_at : Network (Node F R) Msg Note
    given_at = run (node_step f) copied.before first

    its_run : IsRun node_ready (node_step f) copied.before first
    its_run = (run_splits node_ready (node_step f) copied.before copied.later first
        (subst (λ xs. IsRun node_ready (node_step f) xs first) (sym copied.whole) is.is_run)).0

    abbrev moment : ℕ
    moment = length (dones_in given_at.log)

    late : length (packets front) ≤ moment + c.window
    late = omega (arith, copied.to_give.came front behind k whole refl, (every_run setting copied.before its_run).window.under_way)

    log_is : (rest : List Note) × (w.log ≡ given_at.log ++ rest)
    log_is = let it = after_export k.op w.log in (it.0, it.1 ∙ ap (λ l. l ++ it.0) copied.gave)

    -- A unit of it that stays at its source.
    module _ (u : units.Unit) (on : takes taken u ≡ true) (at : StaysAt (of completed) (said completed) u source) where
      abbrev went : List ℕ
      went = folds.processed_of f c items u given_at.log

      few : dones_of (of completed) (said completed) u moment ≤ length went
      few =
          let own = (λ (p : ℕ). own_line u p (packets items) (packets_found completed)) in
          let less = few_dones (λ p. list_any (λ q. q.number == p) (packets_of (of completed) u)) (mine f c items u) own given_at.log in
          subst (λ ds. length (filter (λ d. list_any (λ q. q.number == d.0) (packets_of (of completed) u)) ds) ≤ length went)
          (sym (ap (λ l. take moment (filter_map done_in l)) log_is.1 ∙ first_dones given_at.log log_is.0)) less

      off : is_covered (of completed) (said completed).answers u ≡ false
      off = not_covered f c items w.log is.promises.answers is.answers u at.unmoved

      owned : owner c items u given_at.log ≡ known.first
      owned =
          let at_first = owner_is f c items w.log is.promises.answers is.answers u at.unmoved given_at.log log_is.0 log_is.1 in
          let places : Some known.first ≡ Some (first_owner u c.routes) = sym known.first_is ∙ at.routed in
          let same : known.first ≡ first_owner u c.routes = cc in
          at_first ∙ sym same

      abbrev under : List R
      under = records_under u destination (standbys completed)

      under_is : under ≡ option_to_list (standby_at w known.second u)
      under_is =
          let place = position-Some (λ other. bytes_eq other destination) c.names known.second [] known.second_is in
          let nodes = here completed in
          ap (λ l. records_under u destination (by_unit false l)) (told_is completed)
          ∙ under_name u destination false c.names nodes.instances known.second nodes.many once place.0 place.1
          ∙ ap option_to_list (sym (nodes.stands u known.second))

      abbrev IsNew : Type 0
      IsNew = IsAsNew (of completed) u (dones_of (of completed) (said completed) u moment) under

      -- what stands by is the record of a front that is long enough
      by_standby : (s : StandsBy (job_of f c items) w known.second u) → length went ≤ length s.front → IsNew
      by_standby s long = record {
        count = length s.front;
        enough = (let less = few in omega (arith, less, long));
        records_are = under_is ∙ ap option_to_list (s.there ∙ sym (stands_after completed known.second u s off));
      }

      -- a packet leaves a record
      none_went : (ps : List ℕ) → folds.fold f c items None ps ≡ None → ps ≡ []
      none_went [] none = refl
      none_went (p ∷ ps) none =
          let one : folds.fold f c items None (p ∷ []) ≡ Some (f.stepped c.site None (packet_numbered items p)).kept =
          (let transport = (all_fit setting p).transport in rw transport refl) in
          let more = still_some f c items (p ∷ []) (p ∷ ps) (f.stepped c.site None (packet_numbered items p)).kept (record { rest = ps; whole = refl }) one in
          let never : None ≡ Some more.0 = sym none ∙ more.1 in
          cc

      -- nothing was there then
      by_none : length went ≡ 0 → (o : Option R) → standby_at w known.second u ≡ o → IsNew
      by_none short None there = record {
        count = 0;
        enough = (let less = few in omega (arith, less, short));
        records_are = under_is ∙ ap option_to_list there;
      }
      by_none short (Some r) there = by_standby (is.standbys.fronts known.second u r there) (omega (arith, short))

      by_fold : (o : Option R) → folds.fold f c items None went ≡ o → IsNew
      by_fold None none = by_none (ap length (none_went went none)) (standby_at w known.second u) refl
      by_fold (Some kept) some =
          let it = copied.stands u kept on (copied.to_give.owned u kept on owned some) in
          by_standby it.0 (front_length went it.0.front it.1)

      as_new : IsNew
      as_new = by_fold (folds.fold f c items None went) refl

  same_names : {a d x y : List ℕ} {o p : Filter} → Copy a d (Some o) ≡ Copy x y (Some p) → (a ≡ x) × (d ≡ y) × (o ≡ p)
  same_names e = (cc, cc, cc)

  brought_by : has_twice c.names ≡ false → (front behind : List Msg) (k : Command) → items ≡ front ++ msg.InCommand k ∷ behind
      → order_numbered items k.op ≡ Some k.what → is_answered is_done (said completed).answers k.op ≡ true → (what : Order) → k.what ≡ what
      → HasBrought (of completed) (said completed) (standbys completed) (k, length (packets front))
  brought_by once front behind k whole order is_answer (Copy source destination (Some taken)) what_is = record {
    moment = moment once front behind k whole order is_answer source destination taken what_is;
    late = late once front behind k whole order is_answer source destination taken what_is;
    stands = λ s d t u same on at. (let e = same_names (sym same ∙ what_is) in
        subst (λ n. IsAsNew (of completed) u (dones_of (of completed)
        (said completed) u (moment once front behind k whole order is_answer source destination taken what_is))
        (records_under u n (standbys completed))) (sym e.1)
        (as_new once front behind k whole order is_answer source destination taken what_is u (ap (λ q. takes q u) (sym e.2) ∙ on)
        (subst (StaysAt (of completed) (said completed) u) e.0 at)));
  }
  brought_by once front behind k whole order is_answer what what_is = record {
    moment = length (packets front);
    late = omega arith;
    stands = λ s d t u same on at. (let never : Copy s d (Some t) ≡ what = sym same ∙ what_is in cc);
  }

  abbrev Brought : Command × ℕ → Type 0
  Brought e = is_answered is_done (said completed).answers e.0.op ≡ true → HasBrought (of completed) (said completed) (standbys completed) e

  -- command by command
  all_brought : has_twice c.names ≡ false → (front rest : List Msg) (n : ℕ) → items ≡ front ++ rest → n ≡ length (packets front)
      → AllByRecursion (IsFound (λ k. k.op) (commands items)) (commands rest) → AllByRecursion Brought (zip (commands rest) (points_of n rest))
  all_brought once front [] n whole count found = tt
  all_brought once front (msg.InPacket p ∷ rest) n whole count found =
      all_brought once (front ++ msg.InPacket p ∷ []) rest (n + 1) (whole ∙ sym (append_assoc front (msg.InPacket p ∷ []) rest))
      (let more = ap length (packets-append front (msg.InPacket p ∷ [])) in
      let both = length-append (packets front) (p ∷ []) in omega (arith, count, more, both)) found
  all_brought once front (msg.InCommand k ∷ rest) n whole count found = (
    λ is_answer. subst (λ m. HasBrought (of completed) (said completed) (standbys completed) (k, m)) (sym count)
        (brought_by once front rest k whole (ap (option_map (λ x. x.what)) found.0) is_answer k.what refl),
    all_brought once (front ++ msg.InCommand k ∷ []) rest n (whole ∙ sym (append_assoc front (msg.InCommand k ∷ []) rest))
        (let more = ap length (packets-append front (msg.InCommand k ∷ [])) in
        let both = length-append (packets front) [] in omega (arith, count, more, both)) found.1,
  )
  all_brought once front (m ∷ rest) n whole count found =
      all_brought once (front ++ m ∷ []) rest n (whole ∙ sym (append_assoc front (m ∷ []) rest))
      (let more = ap length (packets-append front (m ∷ [])) in let both = length-append (packets front) [] in omega (arith, count, more, both)) found

  pub are_standbys : AreStandbys (of completed) (said completed) (standbys completed)
  are_standbys = record {
    fronts = fronts completed;
    shared = λ once. shared completed once (commands items) (all_found (λ k. k.op) 0 (commands items) is.is_input.ops)
        (recursion_from_All (λ k. IsProper f.kind k.what) (commands items) is.is_input.orders);
    copied = λ once. all_brought once [] items 0 refl refl (all_found (λ k. k.op) 0 (commands items) is.is_input.ops);
  }
