-- Each run of the network of an update is shown by one of the reduced network, from the start on.
use Rattle.two_phase.proofs.Words.{◌≡◌, ℕ, suc, Bool, true, false, Some, List, [], ◌∷◌, ◌++◌, map, take, drop, refl, sym, ap, subst, ◌∙◌, arith, if◌then◌else◌}
use Rattle.two_phase.proofs.Words.{is_some, Global, false≢true, Packet, matches, IsFilter, Output, FunctionLaws, Semantics, ToInstance, Choice, IsRun}
use Rattle.two_phase.proofs.Words.{queue_at, is_enabled, world_next, run, Each, packet_numbered, InPacket, node_step, node_ready, UpdateJob, IsUpdateJob}
use Rattle.two_phase.proofs.Words.{items_of, two_start, Rises}
use Rattle.std.proofs.lemmas.List.Elements.{All-nil, All-cons}
use Rattle.nf_function.specs.declared.unit.Unit as units
use Rattle.switch_rules.specs.Rules.{any}
use Rattle.two_phase.specs.declared.msg.TwoMsg.TheVariants.{InStart, InEnd}
use Rattle.two_phase.specs.Start.{first_controller}
use Rattle.two_machine.proofs.Tables as core
use Rattle.two_machine.proofs.Tables.{Fenced, Final}
use Rattle.two_machine.proofs.View.{World, net, Nobody}
use Rattle.two_machine.proofs.Labels.{Labels, Label}
use Rattle.two_machine.proofs.Places.{Place, Ac, Bc, choice, waiting_at}
use Rattle.two_machine.proofs.TakenMessages.{finds, labels_less, written}
use Rattle.two_machine.proofs.Runs.{Reached, step_reaches}
use Rattle.two_machine.proofs.Starts.{first_world, opens, first_holds}
use Rattle.two_machine.proofs.Promises as promises
use Rattle.two_machine.proofs.Theorem.{published}
use Rattle.two_phase.proofs.AlikeLists.{alike-append, alike-replicate}
use Rattle.two_phase.proofs.RecordLaws.{Sound, Setting, sys, its_laws, no_chunks}
use Rattle.two_phase.proofs.Outlines
use Rattle.two_phase.proofs.Outlines.{Shown}
use Rattle.two_phase.proofs.ControllerFollows.{is_proper}
use Rattle.two_phase.proofs.AlikeWorlds.{IsProper, Switches, Controllers, Instances, Real, Core, AreShown, Outlined, enabled_same, taken_alike}
use Rattle.net_world.proofs.WholeFilters.{whole_takes}
use Rattle.two_phase.proofs.NumberedPackets.{numbers, numbered_fits, rises_from, all_numbered, each_take, each_drop, numbers_split}

-- Fenced stands on the link from the destination alone, and Final on those from the instances
module _ {U T C R O : Type 0} (S : core.System U T C R O) where
  proper_at : (pl : Place) (m : core.Msg C) → Label S pl m → is_proper (choice pl).port m ≡ true
  proper_at Ac Final h = refl
  proper_at Bc Final h = refl
  proper_at Bc Fenced h = refl
  proper_at pl Final h = absurd h
  proper_at pl Fenced h = absurd h
  proper_at pl m h = refl

  proper_here : (v : World T C O) (c : Choice) → Labels S v → is_enabled (core.node_ready S) (net v) c ≡ true → IsProper c (queue_at (net v) c)
  proper_here v c l on =
      let took = finds S v c.node c.port on in
      let wrote = written S took.place v (took.message ∷ took.rest) took.waits_is in
      let label = (labels_less S took.place v took.message took.rest (subst (Labels S) wrote l)).0 in
      let here = proper_at took.place took.message label in
      subst (λ c. IsProper c (queue_at (net v) c)) (sym took.is)
      (subst (IsProper (choice took.place)) (sym (waiting_at S took.place v ∙ took.waits_is)) here)

any_is : IsFilter any
any_is = record {
  proto = λ n e. absurd (false≢true (ap is_some e));
  local = λ n e. absurd (false≢true (ap is_some e));
  lport = λ n e. absurd (false≢true (ap is_some e));
  remote = λ n e. absurd (false≢true (ap is_some e));
  rport = λ n e. absurd (false≢true (ap is_some e));
}

module _ (F : Type 0) {R : Type 0} (f : Semantics R) (laws : FunctionLaws f) (alloc : Global) (job : UpdateJob) (is : IsUpdateJob f.kind job) where
  abbrev pub setting : Setting R
  setting = record {
    f = f;
    laws = laws;
    site = job.site;
    filter = job.filter;
    numbers = is.filter.numbers;
    whole = whole_takes f.kind job.filter is.filter.whole;
    packet = packet_numbered (items_of job);
    fits = numbered_fits job.site job.packets is.site is.steered;
  }

  abbrev pub S : core.System units.Unit (Sound f) (Sound f) R Output
  S = sys setting

  -- the numbers before the start and after it
  abbrev pub early : List ℕ
  early = numbers (take job.at job.packets)

  abbrev pub late : List ℕ
  late = numbers (drop job.at job.packets)

  pub rising : Rises 0 (early ++ late)
  rising = subst (Rises 0) (numbers_split job.at job.packets) (rises_from 0 (numbers job.packets) is.numbers)

  found : Each (λ p. packet_numbered (items_of job) p.number ≡ p) job.packets
  found = all_numbered 1 job.packets is.numbers

  start : Real F R
  start = two_start alloc job

  core_start : Core setting
  core_start = promises.start S job.window early late

  packets_alike : (ps : List Packet) → Each (λ p. packet_numbered (items_of job) p.number ≡ p) ps
      → AreShown setting (map InPacket ps) (core.in_packets S (numbers ps))
  packets_alike [] h = tt
  packets_alike (p ∷ ps) h =
      (subst (λ q. Shown setting (InPacket q) (core.In_packet p.number)) h.0 (Outlines.In_packet p.number (ap (λ q. q.number) h.0)), packets_alike ps h.1)

  start_alike : Outlined {F = F} setting start core_start
  unfolding start core_start
  start_alike = record {
    nodes = (
      Switches (record {
        site_is = refl;
        filter_is = refl;
        filters = All-cons (λ r. IsFilter r.0) (any, ToInstance 0) [] any_is (All-nil (λ r. IsFilter r.0));
        routed = λ flow fits. routes (matches job.filter flow);
        window = record { name = refl; cells = refl; balanced = omega arith; flying = refl; closed = refl };
      }),
      (
        Controllers (record { cells = []; store = tt; is = ap (λ ks. record (first_controller job.filter) { kept = ks }) (no_chunks setting) }),
        (
          Instances (record { live = refl; site_is = refl; index_is = refl; ended = refl; rules = (refl, refl) }),
          (Instances (record { live = refl; site_is = refl; index_is = refl; ended = refl; rules = (refl, refl) }), tt),
        ),
      ),
    );
    links = alike-replicate (AreShown setting) 16 [] [] tt;
    input =
        let before = take job.at job.packets in
        let after = drop job.at job.packets in
        let fine = λ (p : Packet). packet_numbered (items_of job) p.number ≡ p in
        alike-append (Shown setting) (map InPacket before) (core.in_packets S early) (InStart ∷ (map InPacket after ++ InEnd ∷ []))
        (core.In_start ∷ (core.in_packets S late ++ core.In_end ∷ [])) (packets_alike before (each_take fine job.at job.packets found)) (
          Outlines.In_start,
          alike-append (Shown setting) (map InPacket after) (core.in_packets S late) (InEnd ∷ []) (core.In_end ∷ [])
              (packets_alike after (each_drop fine job.at job.packets found)) (Outlines.In_end, tt),
        );
    log = refl;
  }
    where
      routes : (b : Bool) → Some (ToInstance 0) ≡ Some (if b then ToInstance 0 else ToInstance 0)
      routes true = refl
      routes false = refl

  abbrev At : ℕ → Core setting → Type 0
  At n v = Reached S (its_laws setting) Nobody tt (early ++ late) rising (λ n v. Unit {0}) n v

  record Simulates (cs : List Choice) (w : Real F R) (v : Core setting) : Type 0 where
    pub is_run : IsRun (core.node_ready S) (core.node_step S) cs v
    pub outlined : Outlined setting (run (node_step f) cs w) (run (core.node_step S) cs v)

  simulates : (cs : List Choice) (n : ℕ) (w : Real F R) (v : Core setting) → Outlined setting w v → At n v → IsRun node_ready (node_step f) cs w
      → Simulates cs w v
  simulates [] n w v h r is = record { is_run = tt; outlined = h }
  simulates (c ∷ cs) n w v h r is =
      let here = r.is in
      let on : is_enabled (core.node_ready S) v c ≡ true = sym (enabled_same setting w v h c) ∙ is.0 in
      let on_net : is_enabled (core.node_ready S) (net r.world) c ≡ true = subst (λ y. is_enabled (core.node_ready S) y c ≡ true) here on in
      let fine : IsProper c (queue_at v c) = subst (λ y. IsProper c (queue_at y c)) (sym here) (proper_here S r.world c r.holds.labels on_net) in
      let next : At (suc n) (world_next (core.node_step S) v c) =
      subst (λ y. At (suc n) (world_next (core.node_step S) y c)) (sym here)
      (step_reaches S (its_laws setting) Nobody tt (early ++ late) rising (λ n v. Unit {0}) (λ n pl v x rest ready h q. tt) n r.world c r.holds tt on_net)
      in
      let rest = simulates cs (suc n) (world_next (node_step f) w c) (world_next (core.node_step S) v c) (taken_alike setting w v h c fine) next is.1 in
      record { is_run = (on, rest.is_run); outlined = rest.outlined }

  -- what is proved of the run that shows this one
  pub record IsShownBy (cs : List Choice) (w : Real F R) : Type 0 where
    pub world : Core setting
    pub outlined : Outlined setting w world
    pub published : promises.Published S job.window early late cs world

  pub run_shown : (cs : List Choice) → IsRun node_ready (node_step {F = F} f) cs (two_start alloc job)
      → IsShownBy cs (run (node_step f) cs (two_start alloc job))
  unfolding start core_start
  run_shown cs is_run =
      let first : At 0 core_start = record {
        world = first_world S job.window early late;
        is = opens S job.window early late;
        holds = first_holds S (its_laws setting) Nobody tt job.window early late rising;
        more = tt;
      } in
      let all = simulates cs 0 start core_start start_alike first is_run in
      let v = run (core.node_step S) cs core_start in
      let some = is.window in
      record {
        world = v;
        outlined = all.outlined;
        published =
            published S (its_laws setting) job.window early late (let one = some.0 in omega (arith, one)) rising cs v
            (record { is_run = all.is_run; reached = refl });
      }
