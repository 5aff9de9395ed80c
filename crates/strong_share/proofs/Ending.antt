-- No run is longer than its bound, and a world of a run that isn't complete has an enabled choice.
use Rattle.strong_share.proofs.Words.{◌≡◌, ℕ, zero, suc, ◌+◌, ◌-◌, ◌*◌, ◌<◌, ◌≤◌, Bool, true, false, Option, None, Some, List, [], ◌∷◌, ◌++◌, length}
use Rattle.strong_share.proofs.Words.{length-append, get_or, refl, sym, ap, subst, ◌∙◌, arith, if◌then◌else◌, ◌==◌, ◌&&◌, flat_map, Global, Decides-eqb}
use Rattle.strong_share.proofs.Words.{Decides-ltb, Packet, Laws, Semantics, Chunk, Msg, InPacket, InEnd, Choice, Network, IsWorld, IsRun, run, world_next}
use Rattle.strong_share.proofs.Words.{queue_at, is_done, at, NextChoice, run_induction, Each, weigh, sent_weight, StrongNote, StrongNode, Switch, Controller}
use Rattle.strong_share.proofs.Words.{Idle, node_step, node_ready, node_ended, takes_in, is_idle, StrongJob, IsStrongJob, input_of, first_member, StrongEnds}
use Rattle.std.proofs.Math.Nat.{mul-suc}
use Rattle.actor_net.specs.declared.schedule.Schedule.TheVariants.{First}
use Rattle.actor_net.specs.Network.{is_enabled}
use Rattle.actor_net.specs.Schedules.{enabled_choices, pick_of}
use Rattle.actor_net.proofs.DisabledChoices.{stuck_links}
use Rattle.actor_net.proofs.OpeningWorlds.{opening_weight}
use Rattle.actor_net.proofs.RunInduction.{run_world}
use Rattle.actor_net.proofs.ScheduleLaws.{picked_enabled, picked_none}
use Rattle.actor_net.proofs.WeightLaws.{total, total_after}
use Rattle.strong_share.specs.Words.{most_choices}
use Rattle.strong_share.proofs.Lists.{two_zero}
use Rattle.strong_share.proofs.Scenes.{Scene, Shows, next_scene, sends_of, node_of}
use Rattle.strong_share.proofs.Shown.{found}
use Rattle.strong_share.proofs.ServedPackets.{one_if, Answer, Turn, Turn.Quiet, is_pending, pending, Stage, Stage.Resting, Stage.Carries, Stage.Tells}
use Rattle.strong_share.proofs.ServedPackets.{Stage.Spreads, chunk_after, goes_to, comes_from, to_of, answers_of, serving_of, FitsStage}
use Rattle.strong_share.proofs.Reading.{answer_in, end_in, stop_in}
use Rattle.strong_share.proofs.Holding.{in_label, ends_left, Holds}
use Rattle.strong_share.proofs.Steps.{kept}
use Rattle.strong_share.proofs.Starts.{start, count, start_world, first_scene, start_shows, start_holds}
use Rattle.strong_share.proofs.Weights.{weight, queue_weight, cell, final_in, few_sent, ended_below, ended_all}
use Rattle.strong_share.proofs.Flows.{flow, o}
use Rattle.net_world.proofs.SilentLinks.{all_of as all_nodes, silent_total, all_done, empty_input}

-- the input weighs what a run may take
input_weighs : (o : ℕ) (ps : List Packet) → weigh (weight o) (input_of ps) ≡ (2 * o + 6) * length ps + (2 * o + 5)
input_weighs o [] = omega arith
input_weighs o (p ∷ ps) = let rest = input_weighs o ps in let one = mul-suc (2 * o + 6) (length ps) in omega (arith, rest, one)

-- where all is quiet, none has yet to answer
all_quiet : (turn : ℕ → Turn) (n : ℕ) → ((k : ℕ) → k < n → turn k ≡ Quiet) → pending turn n ≡ 0
all_quiet turn zero h = refl
all_quiet turn (suc n) h = let rest = all_quiet turn n (λ k k_in. h k (omega (arith, k_in))) in let one = ap (λ t. one_if (is_pending t)) (h n (omega arith)) in
    omega (arith, rest, one)

module _ (F : Type 0) {R : Type 0} (f : Semantics R) (laws : Laws f) (alloc : Global) (job : StrongJob) (job_is : IsStrongJob f.kind job) where
  abbrev begin : Network (StrongNode F R) Msg StrongNote
  begin = start F f laws alloc job job_is

  abbrev n : ℕ
  n = job.members

  abbrev beside : ℕ
  beside = job.members - 1

  -- a world of a run, with what is counted
  record Counted (cs : List Choice) (w : Network (StrongNode F R) Msg StrongNote) : Type 0 where
    scene : Scene F R
    shows : Shows n w scene
    holds : Holds f job scene
    lighter : length cs + (total (weight beside) w + queue_weight beside scene.controller.queue) ≤ weigh (weight beside) (input_of job.packets)
    flies : scene.switch.window.flying ≤ total cell w + length scene.controller.queue
    stops : ended_below scene.member n ≤ scene.controller.finals + total final_in w
    few : scene.controller.finals ≤ n

  next_counted : (cs : List Choice) (w : Network (StrongNode F R) Msg StrongNote) (c : Choice) → NextChoice node_ready (node_step f) (n + 2) begin cs w c
      → Counted cs w → Counted (cs ++ c ∷ []) (world_next (node_step f) w c)
  next_counted cs w c next h =
      let t = next.taking in
      let g = found f n w h.scene h.shows c.node c.port t.takes.receiver t.takes.sender t.node t.message t.rest t.takes t.was_ready in
      let k = kept f laws job job_is h.scene h.holds g.0 in
      let its = flow f laws job job_is h.scene h.holds g.0 in
      let by = g.2 in
      let sends = by.sends in
      let after = (λ (weighs : Msg → ℕ). total_after (node_step f) (n + 2) w c.node c.port t.node t.message t.rest t.takes weighs) in
      let same = (λ (weighs : Msg → ℕ). ap (λ z. total weighs (world_next (node_step f) w c) + weighs z) by.message ∙ after weighs
      ∙ ap (λ ms. total weighs w + sent_weight weighs (n + 2) c.node ms) sends
      ∙ ap (λ i. total weighs w + sent_weight weighs (n + 2) i (sends_of f n h.scene g.0)) (sym by.node_is)) in
      let few = few_sent beside (n + 2) (node_of n h.scene g.0) (sends_of f n h.scene g.0) in
      record {
        scene = next_scene f n h.scene g.0;
        shows = g.1 k.0;
        holds = k.1;
        lighter = omega (arith, length-append cs (c ∷ []), same (weight beside), few, its.falls, h.lighter);
        flies = its.flies (total cell w) (total cell (world_next (node_step f) w c)) (same cell) h.flies;
        stops = its.stops (total final_in w) (total final_in (world_next (node_step f) w c)) (same final_in) h.stops;
        few = its.few h.few;
      }

  first_counted : Counted [] begin
  first_counted =
      record {
        scene = first_scene F f laws alloc job job_is;
        shows = start_shows F f laws alloc job job_is;
        holds = start_holds F f laws alloc job job_is;
        lighter = omega (arith, opening_weight StrongNote begin.nodes (input_of job.packets) (weight beside));
        flies = omega arith;
        stops = omega (arith, none_ended job.members);
        few = omega arith;
      }
    where
      none_ended : (k : ℕ) → ended_below (first_member {F = F} {R = R} alloc job) k ≡ 0
      none_ended zero = refl
      none_ended (suc k) = let rest = none_ended k in omega (arith, rest)

  run_counted : (cs : List Choice) → IsRun node_ready (node_step f) cs begin → Counted cs (run (node_step f) cs begin)
  run_counted cs is =
      run_induction node_ready (node_step f) (n + 2) Counted begin next_counted (start_world F f laws alloc job job_is) (count F f laws alloc job job_is)
      first_counted cs is

  pub run_short : (cs : List Choice) → IsRun node_ready (node_step f) cs begin → length cs ≤ most_choices job
  run_short cs is =
      let two = job_is.some in
      let members : 2 * beside + 6 ≡ 2 * job.members + 4 = omega (arith, two) in
      let all : (2 * beside + 6) * length job.packets ≡ (2 * job.members + 4) * length job.packets = ap (λ k. k * length job.packets) members in
      omega (arith, (run_counted cs is).lighter, input_weighs beside job.packets, two, all)

  -- a world in which no choice is enabled
  module _ (cs : List Choice) (is : IsRun node_ready (node_step f) cs begin) (none : enabled_choices node_ready (run (node_step f) cs begin) ≡ []) where
    abbrev w : Network (StrongNode F R) Msg StrongNote
    w = run (node_step f) cs begin

    counted : Counted cs w
    counted = run_counted cs is

    abbrev x : Scene F R
    x = counted.scene

    world : IsWorld w × (length w.nodes ≡ n + 2)
    world = run_world node_ready (node_step f) (n + 2) begin (start_world F f laws alloc job job_is) (count F f laws alloc job job_is) cs is

    silent : (s r : ℕ) → (r == 0) && (s == 0) ≡ false → queue_at w (at r s) ≡ []
    silent = stuck_links node_ready w world.0 none

    no_to : (k : ℕ) → k < n → x.to k ≡ []
    no_to k k_in = sym (counted.shows.to k k_in) ∙ silent 1 (k + 2) (rw (two_zero k) refl)

    no_out : (k : ℕ) → k < n → x.out k ≡ []
    no_out k k_in = sym (counted.shows.out k k_in) ∙ silent 0 (k + 2) (rw (two_zero k) refl)

    no_answers : (k : ℕ) → k < n → flat_map answer_in (x.back k) ≡ []
    no_answers k k_in = ap (flat_map answer_in) (sym (counted.shows.back k k_in) ∙ silent (k + 2) 1 refl)

    no_up : x.up ≡ []
    no_up = sym counted.shows.up ∙ silent 0 1 refl

    no_down : x.down ≡ []
    no_down = sym counted.shows.down ∙ silent 1 0 refl

    -- no packet is out
    at_self : (j : ℕ) (xs : List Msg) → (if j == j then xs else []) ≡ xs
    at_self j xs = ap (λ b. if b then xs else []) ((Decides-eqb j j).1 refl)

    told_self : (j : ℕ) (xs : List Answer) → (if j == j then xs else []) ≡ xs
    told_self j xs = ap (λ b. if b then xs else []) ((Decides-eqb j j).1 refl)

    quiet_turn : (k : ℕ) (t : Turn) (chunk : Chunk) → goes_to f job t k chunk ≡ [] → comes_from f job t ≡ [] → t ≡ Quiet
    quiet_turn k Quiet chunk a b = refl
    quiet_turn k x chunk a b = cc

    none_out : (s : Stage) → counted.holds.serves.stage ≡ s → FitsStage f job s → ((k : ℕ) → k < n → to_of f job s counted.holds.serves.d k ≡ [])
        → ((k : ℕ) → k < n → answers_of f job s counted.holds.serves.d k ≡ []) → serving_of f job s ≡ Idle
    none_out Resting e fit to answers = refl
    none_out (Carries r) e fit to answers = absurd (never (sym (at_self r.member _) ∙ to r.member fit.there))
      where
        never : {m : Msg} → ◌≡◌ {A = List Msg} (m ∷ []) [] → ⊥
        never e = cc
    none_out (Tells r) e fit to answers = absurd (never (sym (told_self r.member _) ∙ answers r.member fit.there))
      where
        never : {m : Answer} → ◌≡◌ {A = List Answer} (m ∷ []) [] → ⊥
        never e = cc
    none_out (Spreads r turn left) e fit to answers =
        let zero_left = all_quiet turn n (λ k k_in. quiet_turn k (turn k) (chunk_after f job r counted.holds.serves.d) (to k k_in) (answers k k_in)) in
        absurd (omega (arith, zero_left, fit.counts, fit.some))

    idle : x.controller.serving ≡ Idle
    idle = counted.holds.serves.serving ∙ none_out counted.holds.serves.stage refl counted.holds.serves.fits
        (λ k k_in. sym (counted.holds.serves.to k k_in) ∙ no_to k k_in) (λ k k_in. sym (counted.holds.serves.answers k k_in) ∙ no_answers k k_in)

    no_queue : x.controller.queue ≡ []
    no_queue = counted.holds.tight idle

    -- nothing is under way
    light_input : (measure : Msg → ℕ) → ((p : Packet) → measure (InPacket p) ≡ 0) → measure InEnd ≡ 0
        → (ms : List Msg) → Each (in_label job) ms → weigh measure ms ≡ 0
    light_input measure packet over [] l = refl
    light_input measure packet over (m ∷ ms) l =
        let rest = light_input measure packet over ms l.1 in let one = light m l.0 in omega (arith, rest, one)
      where
        light : (z : Msg) → in_label job z → measure z ≡ 0
        light (InPacket p) e = packet p
        light InEnd e = over
        light z e = absurd e

    input_label : Each (in_label job) w.input
    input_label = subst (Each (in_label job)) (sym (waiting_input w ∙ counted.shows.input)) counted.holds.labelled.input
      where
        waiting_input : (v : Network (StrongNode F R) Msg StrongNote) → v.input ≡ queue_at v (at 0 0)
        waiting_input v = refl

    rests : x.switch.window.flying ≡ 0
    rests =
        let light = light_input cell (λ p. refl) refl w.input input_label in
        omega (arith, counted.flies, silent_total w world.0 silent cell, light, ap length no_queue)

    input_empty : w.input ≡ []
    input_empty = empty_input node_ready w world.0 none (Switch x.switch) (counted.shows.switch (Switch x.switch)) takes_all
      where
        takes_all : (m : Msg) → takes_in x.switch m ≡ true
        takes_all (InPacket p) =
            (Decides-ltb x.switch.window.flying x.switch.window.pool.cells).1 (omega (arith, rests, counted.holds.labelled.switch.cells, job_is.window.0))
        takes_all m = refl

    -- the end has come everywhere
    no_ends : ends_left job x ≡ 0
    no_ends =
        let input = ap (weigh end_in) (sym counted.shows.input ∙ input_empty) in
        omega (arith, input, ap (weigh end_in) no_up, ap (weigh end_in) no_down)

    is_one : (b : Bool) → one_if b ≡ 1 → b ≡ true
    is_one true e = refl
    is_one false e = absurd (omega (arith, e))

    closed : x.switch.window.closed ≡ true
    closed = let all = counted.holds.ends.closed in let gone = no_ends in is_one x.switch.window.closed (omega (arith, all, gone))

    ended : (k : ℕ) → k < n → (x.member k).ended ≡ true
    ended k k_in = is_one (x.member k).ended (omega (arith, counted.holds.ends.stopped k k_in, no_ends, ap (weigh stop_in) (no_out k k_in)))

    finals : x.controller.finals ≡ x.controller.members
    finals =
        let unfinal = light_input final_in (λ p. refl) refl w.input input_label in
        omega (arith, ended_all x.member n ended, counted.stops, counted.few, silent_total w world.0 silent final_in, unfinal, counted.holds.labelled.members)

    switch_ended : node_ended {F = F} {R = R} (Switch x.switch) ≡ true
    switch_ended = let rest = (Decides-eqb x.switch.window.flying 0).1 rests in ap (λ b. b && (x.switch.window.flying == 0)) closed ∙ rest

    controller_ended : node_ended {F = F} {R = R} (Controller x.controller) ≡ true
    controller_ended =
        ap (λ b. b && ((length x.controller.queue == 0) && is_idle x.controller.serving)) ((Decides-eqb x.controller.finals x.controller.members).1 finals)
        ∙ ap (λ q. (length q == 0) && is_idle x.controller.serving) no_queue
        ∙ ap is_idle idle

    node_done : (k : ℕ) → k < length w.nodes → node_ended (get_or w.nodes k (Switch x.switch)) ≡ true
    node_done zero k_in = ap node_ended (counted.shows.switch (Switch x.switch)) ∙ switch_ended
    node_done (suc zero) k_in = ap node_ended (counted.shows.controller (Switch x.switch)) ∙ controller_ended
    node_done (suc (suc k)) k_in =
        let there : k < n = omega (arith, k_in, world.1) in
        let two : suc (suc k) ≡ k + 2 = omega arith in
        ap (λ i. node_ended (get_or w.nodes i (Switch x.switch))) two ∙ ap node_ended (counted.shows.member k there (Switch x.switch)) ∙ ended k there

    pub none_stuck : is_done node_ended w ≡ true
    none_stuck = all_done w world.0 silent node_ended input_empty (all_nodes node_ended w.nodes (Switch x.switch) node_done)

  -- so a world that isn't complete goes on
  pub run_goes_on : (cs : List Choice) → IsRun node_ready (node_step f) cs begin → is_done node_ended (run (node_step f) cs begin) ≡ false
      → (c : Choice) × (is_enabled node_ready (run (node_step f) cs begin) c ≡ true)
  run_goes_on cs is undone = by (pick_of node_ready First (run (node_step f) cs begin)) refl
    where
      by : (o : Option Choice) → pick_of node_ready First (run (node_step f) cs begin) ≡ o
          → (c : Choice) × (is_enabled node_ready (run (node_step f) cs begin) c ≡ true)
      by (Some c) e = (c, picked_enabled node_ready First (run (node_step f) cs begin) c e)
      by None e = let done = none_stuck cs is (picked_none node_ready First (run (node_step f) cs begin) e) in let both : false ≡ true = sym undone ∙ done in
          absurd cc

  pub run_ends : (cs : List Choice) → IsRun node_ready (node_step f) cs begin → StrongEnds job cs (run (node_step f) cs begin)
  run_ends cs is = record { short = run_short cs is; goes_on = run_goes_on cs is }
