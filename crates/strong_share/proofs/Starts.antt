-- The start is a scene that keeps it all, and so does every run.
use Rattle.strong_share.proofs.Words.{◌≡◌, ℕ, suc, ◌+◌, ◌<◌, Bool, true, false, Option, None, Some, List, [], ◌∷◌, map, length, get_or, refl, ap, ◌∙◌, arith}
use Rattle.strong_share.proofs.Words.{if◌then◌else◌, ◌==◌, ◌&&◌, flat_map, not, Global, nat_tests, Packet, takes, Laws, Semantics, part, Msg, Choice, Network}
use Rattle.strong_share.proofs.Words.{IsWorld, IsRun, run, world_next, queue_at, at, NextChoice, run_induction, Each, weigh, StrongNote, StrongNode, Instance}
use Rattle.strong_share.proofs.Words.{node_step, node_ready, is_home, StrongJob, IsStrongJob, input_of, first_switch, first_controller, first_member}
use Rattle.strong_share.proofs.Words.{first_members, strong_start, one_by_one}
use Rattle.std.specs.Prelude.{find, unwrap_or}
use Rattle.std.specs.FinMap as finite
use Rattle.std.proofs.lemmas.List.FromFn.{get_or-map-range_with_len}
use Rattle.nf_function.specs.declared.unit.Unit as units
use Rattle.nf_function.specs.Units.{unit_cmp}
use Rattle.record_table.specs.Table.{empty}
use Rattle.actor_net.proofs.OpeningWorlds.{opening_world, opening_waiting}
use Rattle.net_world.proofs.FoundPackets.{found_each}
use Rattle.strong_share.proofs.Scenes.{Scene, Shows, next_scene}
use Rattle.strong_share.proofs.Shown.{found}
use Rattle.strong_share.proofs.ServedPackets.{Stage.Resting}
use Rattle.strong_share.proofs.Reading.{packet_in, end_in}
use Rattle.strong_share.proofs.Holding.{in_label, Holds}
use Rattle.strong_share.proofs.StartNodes.{length-first_members}
use Rattle.strong_share.proofs.Steps.{kept}
use Rattle.net_world.specs.Input.{no_packet}

input_packets : (ps : List Packet) → flat_map packet_in (input_of ps) ≡ map (λ p. p.number) ps
input_packets [] = refl
input_packets (p ∷ ps) = ap (λ z. p.number ∷ z) (input_packets ps)

input_ends : (ps : List Packet) → weigh end_in (input_of ps) ≡ 1
input_ends [] = omega arith
input_ends (p ∷ ps) = let rest = input_ends ps in omega (arith, rest)

module _ (job : StrongJob) where
  input_labels : (ps : List Packet) → Each (λ p. find (λ q. q.number == p.number) job.packets ≡ Some p) ps → Each (in_label job) (input_of ps)
  input_labels [] h = (tt, tt)
  input_labels (p ∷ ps) h = (ap (λ o. unwrap_or o no_packet) h.0, input_labels ps h.1)

module _ (F : Type 0) {R : Type 0} (f : Semantics R) (laws : Laws f) (alloc : Global) (job : StrongJob) (job_is : IsStrongJob f.kind job) where
  abbrev pub start : Network (StrongNode F R) Msg StrongNote
  start = strong_start {F = F} {R = R} alloc job

  pub member_found : (n k : ℕ) (d : StrongNode F R) → k < n → get_or (first_members {F = F} {R = R} alloc job n) k d ≡ Instance (first_member alloc job k)
  member_found n k d few = get_or-map-range_with_len (λ i. Instance (first_member {F = F} {R = R} alloc job i)) 0 n k k d few (omega arith)

  pub count : length start.nodes ≡ job.members + 2
  count = let members = length-first_members F R alloc job job.members in omega (arith, members)

  abbrev pub first_scene : Scene F R
  first_scene = record {
    switch = first_switch job;
    controller = first_controller job;
    member = first_member alloc job;
    input = input_of job.packets;
    up = [];
    down = [];
    out = λ k. [];
    to = λ k. [];
    back = λ k. [];
    home = λ k. [];
    log = [];
  }

  silent : (s r : ℕ) → (r == 0) && (s == 0) ≡ false → queue_at start (at r s) ≡ []
  silent s r off = opening_waiting StrongNote start.nodes (input_of job.packets) (let c = count in omega (arith, c)) s r ∙ rw off refl

  pub start_shows : Shows job.members start first_scene
  start_shows = record {
    count = count;
    switch = λ d. refl;
    controller = λ d. refl;
    member = λ k k_in d. (let two : k + 2 ≡ suc (suc k) = omega arith in ap (λ i. get_or start.nodes i d) two ∙ member_found job.members k d k_in);
    input = opening_waiting StrongNote start.nodes (input_of job.packets) (let c = count in omega (arith, c)) 0 0;
    up = silent 0 1 refl;
    down = silent 1 0 refl;
    out = λ k _. silent 0 (k + 2) (grind (arith, nat_tests));
    to = λ k _. silent 1 (k + 2) (grind (arith, nat_tests));
    back = λ k _. silent (k + 2) 1 refl;
    home = λ k _. silent (k + 2) 0 (grind (arith, nat_tests));
    loop = silent 1 1 refl;
    between = λ j k. silent (k + 2) (j + 2) (grind (arith, nat_tests));
    log = refl;
  }

  none_of : (b c : Bool) → ◌≡◌ {A = Option R} None (if b then None else (if c then None else None))
  none_of true c = refl
  none_of false true = refl
  none_of false false = refl

  empty_part : (b : Bool) (u : units.Unit) → finite.get (part (empty {R = R}) b) u ≡ None
  empty_part true u = finite.get-empty unit_cmp u
  empty_part false u = finite.get-empty unit_cmp u

  pub start_holds : Holds f job first_scene
  start_holds = record {
    labelled = record {
      input = input_labels job job.packets (found_each 1 job.packets (one_by_one 1 job.packets job_is.numbers));
      up = tt;
      down = tt;
      out = λ k _. tt;
      back = λ k _. tt;
      home = λ k _. tt;
      switch = record { filter = refl; site = refl; members = refl; cells = refl; name = refl; balanced = omega arith };
      members = refl;
      member = λ k _. record { rules = refl; site = refl; index = refl };
    };
    ordered = record {
      in_turn = input_packets job.packets;
      each_member = λ k _. refl;
      others = refl;
      right = tt;
    };
    serves = record {
      d = [];
      stage = Resting;
      fits = tt;
      serving = refl;
      to = λ k _. refl;
      answers = λ k _. refl;
      order = refl;
      done = refl;
      queue = tt;
      own = λ k _ u. empty_part (is_home k) u ∙ none_of (takes job.filter u) (k == 0);
      other = λ k _ u. empty_part (not (is_home k)) u;
    };
    tight = λ _. refl;
    answered = λ u. refl;
    ends = record {
      closed = (let one = input_ends job.packets in omega (arith, one));
      stopped = λ k _. (let one = input_ends job.packets in omega (arith, one));
    };
  }

  -- a world of a run is a scene that keeps it
  pub record Reached (w : Network (StrongNode F R) Msg StrongNote) : Type 0 where
    pub scene : Scene F R
    pub shows : Shows job.members w scene
    pub holds : Holds f job scene

  pub start_world : IsWorld start
  start_world = let c = count in let few = job_is.few in opening_world start.nodes (input_of job.packets) (omega (arith, c)) (omega (arith, c, few))

  next_reached : (cs : List Choice) (w : Network (StrongNode F R) Msg StrongNote) (c : Choice)
      → NextChoice node_ready (node_step f) (job.members + 2) start cs w c → Reached w → Reached (world_next (node_step f) w c)
  next_reached cs w c next r =
      let t = next.taking in
      let g = found f job.members w r.scene r.shows c.node c.port t.takes.receiver t.takes.sender t.node t.message t.rest t.takes t.was_ready in
      let k = kept f laws job job_is r.scene r.holds g.0 in
      record { scene = next_scene f job.members r.scene g.0; shows = g.1 k.0; holds = k.1 }

  pub run_reached : (cs : List Choice) → IsRun node_ready (node_step f) cs start → Reached (run (node_step f) cs start)
  run_reached cs is =
      run_induction node_ready (node_step f) (job.members + 2) (λ cs w. Reached w) start next_reached start_world count
      (record { scene = first_scene; shows = start_shows; holds = start_holds }) cs is
