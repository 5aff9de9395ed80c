-- What is promised is read off a scene of a run.
use Rattle.strong_share.proofs.Words.{◌≡◌, ℕ, suc, ◌+◌, ◌-◌, ◌%◌, ◌<◌, ◌≤◌, Bool, true, false, Option, None, Some, List, [], ◌∷◌, ◌++◌, map, length, refl, sym}
use Rattle.strong_share.proofs.Words.{ap, subst, ◌∙◌, append_assoc, append-nil, arith, if◌then◌else◌, ◌==◌, ◌&&◌, not, slice_get, filter, flat_map, nat_tests}
use Rattle.strong_share.proofs.Words.{Decides-eqb, slice_get-get_or, filter-append, takes, Laws, Semantics, TableView, part, Msg, Network, is_done, at, Each}
use Rattle.strong_share.proofs.Words.{StrongNote, Serving, Idle, Out, Syncing, StrongNode, Switch, Controller, Instance, node_ended, is_home, is_idle}
use Rattle.strong_share.proofs.Words.{StrongJob, IsStrongJob, entries, queue_order, events_of, arrivals_in, done_numbers, is_taken, member_of, is_taken_at}
use Rattle.strong_share.proofs.Words.{is_of, fold, processed_of, outputs, outputs_of, StrongPromises, StrongCompleted, one_by_one}
use Rattle.std.specs.FinMap as finite
use Rattle.std.proofs.Math.Nat.{mod-lt}
use Rattle.std.proofs.lemmas.Bool.{and_parts}
use Rattle.std.proofs.lemmas.List.{nil_from_length}
use Rattle.nf_function.specs.declared.unit.Unit as units
use Rattle.actor_net.proofs.CompleteWorlds.{done_waiting, done_node}
use Rattle.net_world.specs.Fold.{times, IsFront}
use Rattle.strong_share.specs.Tables.{has_closed, all_stopped}
use Rattle.strong_share.specs.Start.{numbers_of}
use Rattle.strong_share.specs.Words.{numbers_in, queue_of, live_at, standby_at, live_in, standby_in, home_in, cells_at_home}
use Rattle.net_world.specs.Input.{IsRising}
use Rattle.net_world.proofs.NumberCounts.{times-append, times_filter}
use Rattle.strong_share.proofs.Lists.{filter_among, filter_few}
use Rattle.strong_share.proofs.Folds.{seen, unit_taken}
use Rattle.strong_share.proofs.Scenes.{Scene, Shows}
use Rattle.strong_share.proofs.ServedPackets.{raised_number, all_of, waits_of, at_rest, Rests}
use Rattle.strong_share.proofs.Reading.{packet_in, plain_in, event_in}
use Rattle.strong_share.proofs.Holding.{IsRight, sight, Holds}
use Rattle.strong_share.proofs.LogLemmas.{entry_numbers, member_numbers}

-- numbers that rise stand once each
above : (n p : ℕ) (ns : List ℕ) → IsRising n ns → p < n → times p ns ≡ 0
above n p [] h low = refl
above n p (q ∷ qs) h low =
    let is = h.0 in
    let off : (p == q) ≡ false = grind (arith, nat_tests, is, low) in
    rw off (omega (arith, above (suc q) p qs h.1 (omega (arith, low, is))))

pub numbered_once : (n p : ℕ) (ns : List ℕ) → IsRising n ns → times p ns ≤ 1
numbered_once n p [] h = omega arith
numbered_once n p (q ∷ qs) h = elim (p == q) as (λ b. (p == q) ≡ b → (if b then 1 else 0) + times p qs ≤ 1) [
  | true ↦ λ on. (let same : p ≡ q = (Decides-eqb p q).0 on in let rest = above (suc q) p qs h.1 (omega (arith, same)) in omega (arith, rest))
  | false ↦ λ _. (let rest = numbered_once (suc q) p qs h.1 in omega (arith, rest))
] refl

module _ {R : Type 0} (f : Semantics R) (laws : Laws f) (job : StrongJob) (job_is : IsStrongJob f.kind job) where
  pub given_there : (p : ℕ) → member_of job p < job.members
  given_there p = let two = job_is.some in elim (is_taken job p) as (λ b. (if b then (p - 1) % job.members else 0) < job.members) [
    | true ↦ mod-lt (p - 1) (omega (arith, two))
    | false ↦ omega (arith, two)
  ]

  -- what a member raised is what was queued of the packets that it is given
  one_entry : (b : Bool) (r : ℕ × ℕ) (rs : List (ℕ × ℕ)) → entry_numbers (if b then r ∷ rs else rs) ≡ (if b then r.0 ∷ entry_numbers rs else entry_numbers rs)
  one_entry true r rs = refl
  one_entry false r rs = refl

  pub raised_of : (k : ℕ) (rs : List (ℕ × ℕ)) → Each (IsRight job) rs → member_numbers k rs ≡ filter (λ p. member_of job p == k) (entry_numbers rs)
  raised_of k [] h = refl
  raised_of k (r ∷ rs) h =
      ap (λ m. entry_numbers (if m == k then r ∷ filter (λ e. e.1 == k) rs else filter (λ e. e.1 == k) rs)) (sym h.0.1)
      ∙ one_entry (member_of job r.0 == k) r (filter (λ e. e.1 == k) rs)
      ∙ ap (λ z. if member_of job r.0 == k then r.0 ∷ z else z) (raised_of k rs h.1)

  -- a unit's packets among all are those among the taken ones, or among the others
  pub taken_of : (u : units.Unit) → takes job.filter u ≡ true → (ps : List ℕ) → filter (is_of f job u) (filter (is_taken job) ps) ≡ filter (is_of f job u) ps
  taken_of u on = filter_among (is_of f job u) (is_taken job) (λ p of. unit_taken f laws job job_is p u of ∙ on)

  pub others_of : (u : units.Unit) → takes job.filter u ≡ false → (ps : List ℕ)
      → filter (is_of f job u) (filter (λ p. not (is_taken job p)) ps) ≡ filter (is_of f job u) ps
  others_of u off = filter_among (is_of f job u) (λ p. not (is_taken job p)) (λ p of. ap not (unit_taken f laws job job_is p u of ∙ off))

  module _ {F : Type 0} (w : Network (StrongNode F R) Msg StrongNote) (x : Scene F R) (shows : Shows job.members w x) (h : Holds f job x) where
    untaken : ℕ → Bool
    untaken p = not (is_taken job p)

    -- how often a packet is processed: no more often than it came
    few_taken : (p : ℕ) → is_taken job p ≡ true → times p (done_numbers x.log) ≤ times p (arrivals_in x.log)
    few_taken p on =
        let k = member_of job p in
        let all = all_of f job h.serves.stage h.serves.d in
        let waits = waits_of f job h.serves.stage in
        let done : times p (done_numbers x.log) ≡ times p all = sym (times_filter (is_taken job) p on (done_numbers x.log)) ∙ ap (times p) h.serves.done in
        let queued : times p (queue_order x.log) ≡ (times p all + times p waits) + times p (map raised_number x.controller.queue) = ap (times p) h.serves.order
        ∙ times-append p (all ++ waits) (map raised_number x.controller.queue)
        ∙ ap (λ n. n + times p (map raised_number x.controller.queue)) (times-append p all waits) in
        let own : (member_of job p == k) ≡ true = (Decides-eqb k k).1 refl in
        let by : times p (events_of k x.log) ≡ times p (queue_order x.log) = ap (times p) (raised_of k (entries x.log) h.ordered.right)
        ∙ times_filter (λ q. member_of job q == k) p own (queue_order x.log) in
        let rest = flat_map event_in (x.back k) ++ filter (is_taken_at job k) (flat_map plain_in (x.out k)) in
        let each : times p (events_of k x.log) + times p rest ≡ times p (filter (is_taken_at job k) (arrivals_in x.log)) =
        sym (times-append p (events_of k x.log) rest) ∙ ap (times p) (h.ordered.each_member k (given_there p)) in
        omega (arith, done, queued, by, each, filter_few (is_taken_at job k) p (arrivals_in x.log))

    few_others : (p : ℕ) → is_taken job p ≡ false → times p (done_numbers x.log) ≤ times p (arrivals_in x.log)
    unfolding untaken
    few_others p off =
        let on : untaken p ≡ true = ap not off in
        let done : times p (done_numbers x.log) ≡ times p (filter untaken (done_numbers x.log)) = sym (times_filter untaken p on (done_numbers x.log)) in
        let plains = filter untaken (flat_map plain_in (x.out 0)) in
        let each : times p (filter untaken (done_numbers x.log)) + times p plains
        ≡ times p (filter untaken (arrivals_in x.log)) = sym (times-append p (filter untaken (done_numbers x.log)) plains) ∙ ap (times p) h.ordered.others in
        omega (arith, done, each, filter_few untaken p (arrivals_in x.log))

    came_once : (p : ℕ) → times p (arrivals_in x.log) ≤ 1
    came_once p =
        let all = numbered_once 1 p (numbers_of job) (one_by_one 1 job.packets job_is.numbers) in
        omega (arith, ap (times p) h.ordered.in_turn, times-append p (arrivals_in x.log) (flat_map packet_in x.input), all)

    once : (p : ℕ) → times p (done_numbers x.log) ≤ 1
    once p = elim (is_taken job p) as (λ b. is_taken job p ≡ b → times p (done_numbers x.log) ≤ 1) [
      | true ↦ λ on. (let few = few_taken p on in let came = came_once p in omega (arith, few, came))
      | false ↦ λ off. (let few = few_others p off in let came = came_once p in omega (arith, few, came))
    ] refl

    -- of a unit that is taken
    processed_is : (u : units.Unit) → takes job.filter u ≡ true → processed_of f job u x.log ≡ filter (is_of f job u) (all_of f job h.serves.stage h.serves.d)
    processed_is u on = sym (taken_of u on (done_numbers x.log)) ∙ ap (filter (is_of f job u)) h.serves.done

    shared_order : (u : units.Unit) → takes job.filter u ≡ true → IsFront (processed_of f job u x.log) (queue_of f job u x.log)
    shared_order u on =
        let all = all_of f job h.serves.stage h.serves.d in
        let waits = waits_of f job h.serves.stage in
        let queue = map raised_number x.controller.queue in
        record {
          rest = filter (is_of f job u) (waits ++ queue);
          whole = ap (λ z. z ++ filter (is_of f job u) (waits ++ queue)) (processed_is u on) ∙ sym (filter-append (is_of f job u) all (waits ++ queue))
              ∙ ap (filter (is_of f job u)) (sym (append_assoc all waits queue)) ∙ ap (filter (is_of f job u)) (sym h.serves.order);
        }

    other_order : (u : units.Unit) → takes job.filter u ≡ false → IsFront (processed_of f job u x.log) (numbers_in f job u)
    unfolding untaken
    other_order u off =
        let plains = filter untaken (flat_map plain_in (x.out 0)) in
        let coming = flat_map packet_in x.input in
        record {
          rest = filter (is_of f job u) plains ++ filter (is_of f job u) coming;
          whole =
              sym (append_assoc (processed_of f job u x.log) (filter (is_of f job u) plains) (filter (is_of f job u) coming))
              ∙ ap (λ z. (z ++ filter (is_of f job u) plains) ++ filter (is_of f job u) coming) (sym (others_of u off (done_numbers x.log)))
              ∙ ap (λ z. z ++ filter (is_of f job u) coming) (sym (filter-append (is_of f job u) (filter untaken (done_numbers x.log)) plains)
              ∙ ap (filter (is_of f job u)) h.ordered.others ∙ others_of u off (arrivals_in x.log))
              ∙ sym (filter-append (is_of f job u) (arrivals_in x.log) coming)
              ∙ ap (filter (is_of f job u)) h.ordered.in_turn;
        }

    pub promised : StrongPromises f job w
    promised = record {
      in_turn = subst (λ l. IsFront (arrivals_in l) (numbers_of job)) (sym shows.log) (record { rest = flat_map packet_in x.input; whole = h.ordered.in_turn });
      once = subst (λ l. (p : ℕ) → times p (done_numbers l) ≤ 1) (sym shows.log) once;
      shared_order =
          subst (λ l. (u : units.Unit) → takes job.filter u ≡ true → IsFront (processed_of f job u l) (queue_of f job u l)) (sym shows.log) shared_order;
      other_order =
          subst (λ l. (u : units.Unit) → takes job.filter u ≡ false → IsFront (processed_of f job u l) (numbers_in f job u)) (sym shows.log) other_order;
      outputs_are = subst (λ l. (u : units.Unit) → outputs_of f job u l ≡ outputs f job None (processed_of f job u l)) (sym shows.log) h.answered;
      raised_in_turn =
          subst (λ l. (k : ℕ) → k < job.members → IsFront (events_of k l) (filter (is_taken_at job k) (arrivals_in l))) (sym shows.log)
          (λ k k_in. record {
            rest = flat_map event_in (x.back k) ++ filter (is_taken_at job k) (flat_map plain_in (x.out k));
            whole = h.ordered.each_member k k_in;
          });
    }

    -- a complete world
    module _ (done : is_done node_ended w ≡ true) where
      no_input : x.input ≡ []
      no_input = sym shows.input ∙ done_waiting node_ended w done (at 0 0)

      no_out : (k : ℕ) → k < job.members → x.out k ≡ []
      no_out k k_in = sym (shows.out k k_in) ∙ done_waiting node_ended w done (at (k + 2) 0)

      no_back : (k : ℕ) → k < job.members → x.back k ≡ []
      no_back k k_in = sym (shows.back k k_in) ∙ done_waiting node_ended w done (at 1 (k + 2))

      stopped : all_stopped x.controller ≡ true
      stopped =
          let count = shows.count in
          sym (ap node_ended (shows.controller (Controller x.controller))) ∙ done_node node_ended w done 1 (Controller x.controller) (omega (arith, count))

      rests : (length x.controller.queue == 0) && is_idle x.controller.serving ≡ true
      rests = (and_parts (x.controller.finals == x.controller.members) ((length x.controller.queue == 0) && is_idle x.controller.serving) stopped).1

      no_queue : x.controller.queue ≡ []
      no_queue = nil_from_length x.controller.queue ((Decides-eqb (length x.controller.queue) 0).0 (and_parts (length x.controller.queue == 0)
          (is_idle x.controller.serving) rests).0)

      idle : x.controller.serving ≡ Idle
      idle = by x.controller.serving (and_parts (length x.controller.queue == 0) (is_idle x.controller.serving) rests).1
        where
          by : (s : Serving) → is_idle s ≡ true → s ≡ Idle
          by Idle e = refl
          by (Out m) e = cc
          by (Syncing left) e = cc

      rest : Rests f job (sight job x)
      rest = at_rest f job (sight job x) h.serves idle

      -- all that were queued are processed
      queued_is : queue_order x.log ≡ rest.d
      queued_is = rest.order ∙ ap (λ q. rest.d ++ map raised_number q) no_queue ∙ append-nil rest.d

      all_came : arrivals_in x.log ≡ numbers_of job
      all_came = sym (append-nil (arrivals_in x.log)) ∙ ap (λ ms. arrivals_in x.log ++ flat_map packet_in ms) (sym no_input) ∙ h.ordered.in_turn

      raised_all : (k : ℕ) → k < job.members → events_of k x.log ≡ filter (is_taken_at job k) (numbers_of job)
      raised_all k k_in =
          sym (append-nil (events_of k x.log))
          ∙ ap (λ ms. events_of k x.log ++ (flat_map event_in ms ++ [])) (sym (no_back k k_in))
          ∙ ap (λ ms. events_of k x.log ++ (flat_map event_in (x.back k) ++ filter (is_taken_at job k) (flat_map plain_in ms))) (sym (no_out k k_in))
          ∙ h.ordered.each_member k k_in
          ∙ ap (filter (is_taken_at job k)) all_came

      others_all : filter untaken (done_numbers x.log) ≡ filter untaken (numbers_of job)
      unfolding untaken
      others_all =
          sym (append-nil (filter untaken (done_numbers x.log)))
          ∙ ap (λ ms. filter untaken (done_numbers x.log) ++ filter untaken (flat_map plain_in ms)) (sym
          (no_out 0 (let two = job_is.some in omega (arith, two))))
          ∙ h.ordered.others ∙ ap (filter untaken) all_came

      each_once : (p : ℕ) → times p (done_numbers x.log) ≡ times p (numbers_of job)
      unfolding untaken
      each_once p = elim (is_taken job p) as (λ b. is_taken job p ≡ b → times p (done_numbers x.log) ≡ times p (numbers_of job)) [
        | true ↦ λ on.
            let k = member_of job p in
            let own : (member_of job p == k) ≡ true = (Decides-eqb k k).1 refl in
            let mine_it : is_taken_at job k p ≡ true = ap (λ t. t && (member_of job p == k)) on ∙ own in
            sym (times_filter (is_taken job) p on (done_numbers x.log)) ∙ ap (times p) (rest.done ∙ sym queued_is)
            ∙ sym (times_filter (λ q. member_of job q == k) p own (queue_order x.log)) ∙ ap (times p) (sym (raised_of k (entries x.log) h.ordered.right))
            ∙ ap (times p) (raised_all k (given_there p)) ∙ times_filter (is_taken_at job k) p mine_it (numbers_of job)
        | false ↦ λ off. sym (times_filter untaken p (ap not off) (done_numbers x.log)) ∙ ap (times p) others_all
            ∙ times_filter untaken p (ap not off) (numbers_of job)
      ] refl

      shared_whole : (u : units.Unit) → takes job.filter u ≡ true → processed_of f job u x.log ≡ queue_of f job u x.log
      shared_whole u on = sym (taken_of u on (done_numbers x.log)) ∙ ap (filter (is_of f job u)) (rest.done ∙ sym queued_is)

      other_whole : (u : units.Unit) → takes job.filter u ≡ false → processed_of f job u x.log ≡ numbers_in f job u
      unfolding untaken
      other_whole u off = sym (others_of u off (done_numbers x.log)) ∙ ap (filter (is_of f job u)) others_all ∙ others_of u off (numbers_of job)

      -- where the records are
      own_is : (u : units.Unit) (k : ℕ) → k < job.members → finite.get (part (x.member k).table (is_home k)) u
          ≡ (if takes job.filter u then fold f job None (processed_of f job u x.log) else (if k == 0 then fold f job None (processed_of f job u x.log) else
          None))
      own_is u k k_in =
          rest.own k k_in u ∙ elim (takes job.filter u) as (λ b. takes job.filter u ≡ b
          → (if b then seen f job u rest.d else (if k == 0 then seen f job u (done_numbers x.log) else None))
          ≡ (if b then fold f job None (processed_of f job u x.log) else (if k == 0 then fold f job None (processed_of f job u x.log) else None))) [
            | true ↦ λ on. ap (λ ps. fold f job None (filter (is_of f job u) ps)) (sym rest.done) ∙ ap (fold f job None) (taken_of u on (done_numbers x.log))
            | false ↦ λ _. refl
          ] refl

      live_part : (t : TableView R) (b c : Bool) (o : Option R) (u : units.Unit) → finite.get (part t b) u ≡ (if c then o else (if b then o else None))
          → finite.get (part t (not b)) u ≡ None → finite.get t.live u ≡ (if b then o else None)
      live_part t true true o u own other = own
      live_part t true false o u own other = own
      live_part t false c o u own other = other

      standby_part : (t : TableView R) (b : Bool) (o : Option R) (u : units.Unit) → finite.get (part t b) u ≡ o → finite.get (part t (not b)) u ≡ None
          → finite.get t.standby u ≡ (if b then None else o)
      standby_part t true o u own other = other
      standby_part t false o u own other = own

      there : (k : ℕ) → k < job.members → slice_get w.nodes (k + 2) ≡ Some (Instance (x.member k))
      there k k_in =
          slice_get-get_or w.nodes (k + 2) (Instance (x.member k)) (omega (arith, shows.count, k_in)) ∙ ap Some (shows.member k k_in (Instance (x.member k)))

      live_is : (u : units.Unit) (k : ℕ) → k < job.members → live_at w k u ≡ (if k == 0 then fold f job None (processed_of f job u x.log) else None)
      live_is u k k_in =
          ap (live_in u) (there k k_in) ∙ live_part (x.member k).table (is_home k) (takes job.filter u) (fold f job None (processed_of f job u x.log)) u
          (own_is u k k_in) (rest.other k k_in u)

      standby_is : (u : units.Unit) (k : ℕ) → k < job.members → takes job.filter u ≡ true
          → standby_at w k u ≡ (if k == 0 then None else fold f job None (processed_of f job u x.log))
      standby_is u k k_in on =
          ap (standby_in u) (there k k_in) ∙ standby_part (x.member k).table (is_home k) (fold f job None (processed_of f job u x.log)) u
          (own_is u k k_in ∙ ap (λ b. if b then fold f job None (processed_of f job u x.log) else (if k == 0 then fold f job None (processed_of f job u x.log)
          else None)) on) (rest.other k k_in u)

      -- the switch has closed: no cell is out
      closed : has_closed x.switch ≡ true
      closed = sym (ap node_ended (shows.switch (Switch x.switch))) ∙ done_node node_ended w done 0 (Switch x.switch) (omega (arith, shows.count))

      home_is : x.switch.window.pool.home ≡ job.window
      home_is =
          let rests = (and_parts x.switch.window.closed (x.switch.window.flying == 0) closed).1 in
          let none : x.switch.window.flying ≡ 0 = (Decides-eqb x.switch.window.flying 0).0 rests in
          omega (arith, none, h.labelled.switch.balanced, h.labelled.switch.cells)

      all_home : cells_at_home w ≡ Some job.window
      all_home =
          ap home_in (slice_get-get_or w.nodes 0 (Switch x.switch) (omega (arith, shows.count)) ∙ ap Some (shows.switch (Switch x.switch))) ∙ ap Some home_is

      pub completed : StrongCompleted f job w
      completed = record {
        all_came = subst (λ l. arrivals_in l ≡ numbers_of job) (sym shows.log) all_came;
        each_once = subst (λ l. (p : ℕ) → times p (done_numbers l) ≡ times p (numbers_of job)) (sym shows.log) each_once;
        shared_whole = subst (λ l. (u : units.Unit) → takes job.filter u ≡ true → processed_of f job u l ≡ queue_of f job u l) (sym shows.log) shared_whole;
        other_whole = subst (λ l. (u : units.Unit) → takes job.filter u ≡ false → processed_of f job u l ≡ numbers_in f job u) (sym shows.log) other_whole;
        live_is = subst (λ l. (u : units.Unit) (k : ℕ) → k < job.members → live_at w k u ≡ (if k == 0 then fold f job None (processed_of f job u l) else None))
            (sym shows.log) live_is;
        standby_is =
            subst (λ l. (u : units.Unit) (k : ℕ) → k < job.members → takes job.filter u ≡ true
            → standby_at w k u ≡ (if k == 0 then None else fold f job None (processed_of f job u l))) (sym shows.log) standby_is;
        raised_all = subst (λ l. (k : ℕ) → k < job.members → events_of k l ≡ filter (is_taken_at job k) (numbers_of job)) (sym shows.log) raised_all;
        all_home = all_home;
      }
