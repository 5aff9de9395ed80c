-- The rows of the switch keep what every scene of a run keeps.
use Rattle.strong_share.proofs.Words.{◌≡◌, ℕ, ◌+◌, ◌-◌, ◌%◌, ◌<◌, Bool, true, false, List, [], ◌∷◌, ◌++◌, map, refl, sym, ap, subst, ◌∙◌, append_assoc}
use Rattle.strong_share.proofs.Words.{append-nil, arith, if◌then◌else◌, ◌==◌, not, filter, flat_map, and-false, flat_map-append, filter-append, Packet}
use Rattle.strong_share.proofs.Words.{matches, flow_of, Semantics, FullCell, Msg, InPacket, InEnd, End, Finish, Carry, Stop, Credit, instance_node, sent_for}
use Rattle.strong_share.proofs.Words.{Each, each-append, weigh, weigh-append, Inner, SwitchStep, switch_still, switch_step, StrongJob, events_of, arrivals_in}
use Rattle.strong_share.proofs.Words.{done_numbers, packet_numbered, is_taken, member_of, is_taken_at, stop_messages}
use Rattle.event_filter.specs.declared.mark.Mark.TheVariants as mark
use Rattle.packet_window.specs.Window.{has_room, with_one, with_home, with_end}
use Rattle.packet_window.proofs.WindowLemmas.{one_balanced, home_balanced, home_name, home_cells, home_closed}
use Rattle.nf_msgs.specs.declared.note.Note.TheVariants.{Arrived}
use Rattle.strong_share.specs.Tables.{member_for}
use Rattle.strong_share.proofs.Lists.{put, two_one, swapped, one_two}
use Rattle.strong_share.proofs.Scenes.{Scene, switch_did}
use Rattle.strong_share.proofs.ServedPackets.{one_if, Agrees, serves_alike, tight_alike}
use Rattle.strong_share.proofs.Reading.{packet_in, plain_in, end_in, stop_in, more_at, each_taken, each_at, head_of, sent_one, stops_sent, stops_other}
use Rattle.strong_share.proofs.Reading.{event_in}
use Rattle.strong_share.proofs.Holding.{in_label, up_label, down_label, out_label, home_label, IsSwitch, IsRight, ends_left, sight, Holds, end_moves}
use Rattle.strong_share.proofs.LogLemmas.{arrived-append, entry_numbers, member_numbers, IsQuiet, quiet_log, answered_same}

-- what it brings to each member
brought : (mine : ℕ → Bool) (b : Bool) (p : ℕ) → (b ≡ false → mine p ≡ false) → filter mine (if b then p ∷ [] else []) ≡ (if mine p then p ∷ [] else [])
brought mine true p off = refl
brought mine false p off = let no = off refl in rw no refl

module _ {F R : Type 0} (f : Semantics R) (job : StrongJob) where
  -- A packet comes.
  abbrev pub arrives_as : Scene F R → Packet → SwitchStep
  arrives_as x p = record {
    node = record x.switch { window = with_one x.switch.window };
    sends = (instance_node (member_of job p.number), Carry mark.Plain (record { pool = 0; packet = p })) ∷ [];
    notes = Inner (Arrived p.number) ∷ [];
  }

  pub arrives_is : (x : Scene F R) (p : Packet) → IsSwitch job x.switch → packet_numbered job p.number ≡ p → has_room x.switch.window ≡ true
      → switch_step x.switch (InPacket p) ≡ arrives_as x p
  arrives_is x p ok same room =
      ap (λ b. if b then came (member_for x.switch p) x.switch.window.pool.name else switch_still x.switch) room
      ∙ ap (λ i. came i x.switch.window.pool.name) goes ∙ ap (λ q. came (member_of job p.number) q) ok.name
    where
      came : ℕ → ℕ → SwitchStep
      came i q = record {
        node = record x.switch { window = with_one x.switch.window };
        sends = (instance_node i, Carry mark.Plain (record { pool = q; packet = p })) ∷ [];
        notes = Inner (Arrived p.number) ∷ [];
      }

      goes : member_for x.switch p ≡ member_of job p.number
      goes =
          ap (λ g. if matches g (flow_of x.switch.site p).0 then (p.number - 1) % x.switch.members else 0) ok.filter
          ∙ ap (λ s. if matches job.filter (flow_of s p).0 then (p.number - 1) % x.switch.members else 0) ok.site
          ∙ ap (λ m. if matches job.filter (flow_of job.site p).0 then (p.number - 1) % m else 0) ok.members
          ∙ ap (λ q. if matches job.filter (flow_of job.site q).0 then (p.number - 1) % job.members else 0) (sym same)

  abbrev pub came : Scene F R → List Msg → Packet → Scene F R
  came x rest p = record x {
    input = rest;
    switch = record x.switch { window = with_one x.switch.window };
    out = λ k. x.out k ++ (if k == member_of job p.number then Carry mark.Plain (record { pool = 0; packet = p }) ∷ [] else []);
    log = x.log ++ Inner (Arrived p.number) ∷ [];
  }

  pub came_is : (x : Scene F R) (rest : List Msg) (p : Packet) → switch_did (record x { input = rest }) (arrives_as x p) ≡ came x rest p
  came_is x rest p = λ i. record x {
    input = rest;
    switch = record x.switch { window = with_one x.switch.window };
    up = up i;
    out = λ k. x.out k ++ sent_one (member_of job p.number) k (Carry mark.Plain (record { pool = 0; packet = p })) i;
    log = x.log ++ Inner (Arrived p.number) ∷ [];
  }
    where
      up : x.up ++ sent_for 1 (arrives_as x p).sends ≡ x.up
      up = ap (λ b. x.up ++ ((if b then Carry mark.Plain (record { pool = 0; packet = p }) ∷ [] else []) ++ [])) (two_one (member_of job p.number))
          ∙ append-nil x.up

  pub came_holds : (x : Scene F R) (p : Packet) (rest : List Msg) → Holds f job x → has_room x.switch.window ≡ true → x.input ≡ InPacket p ∷ rest
      → Holds f job (came x rest p)
  came_holds x p rest h room is = record {
    labelled = record {
      input = label.1;
      up = h.labelled.up;
      down = h.labelled.down;
      out = λ k k_in. each_at (out_label job) (member_of job q) k (x.out k) (Carry mark.Plain (record { pool = 0; packet = p }) ∷ []) (h.labelled.out k k_in)
          ((record { same = label.0; pool = refl }, refl), tt);
      back = h.labelled.back;
      home = h.labelled.home;
      switch = let s = h.labelled.switch in record {
        filter = s.filter;
        site = s.site;
        members = s.members;
        cells = s.cells;
        name = s.name;
        balanced = one_balanced x.switch.window s.balanced room;
      };
      members = h.labelled.members;
      member = h.labelled.member;
    };
    ordered = record {
      in_turn = ap (λ z. z ++ flat_map packet_in rest) (arrived-append x.log (Inner (Arrived q) ∷ []))
          ∙ append_assoc (arrivals_in x.log) (q ∷ []) (flat_map packet_in rest) ∙ ap (λ ms. arrivals_in x.log ++ flat_map packet_in ms) (sym is)
          ∙ h.ordered.in_turn;
      each_member =
          λ k k_in. more (is_taken_at job k) k (events_of k (came x rest p).log) (events_of k x.log) (flat_map event_in (x.back k))
          (ap (member_numbers k) quiet.entries_stay) (λ off. (let other = swapped (member_of job q) k ∙ off in rw other (and-false (is_taken job q))))
          (h.ordered.each_member k k_in);
      others = ap (λ z. z ++ filter untaken (flat_map plain_in ((came x rest p).out 0))) (ap (λ ds. filter untaken (map (λ d. d.number) ds)) quiet.done_stays)
          ∙ ap (λ z. filter untaken (done_numbers x.log) ++ filter untaken z) (more_at plain_in (x.out 0)
          (Carry mark.Plain (record { pool = 0; packet = p }) ∷ []) (0 == member_of job q))
          ∙ ap (λ z. filter untaken (done_numbers x.log) ++ z) (plus untaken (flat_map plain_in (x.out 0)) (0 == member_of job q) to_first)
          ∙ sym (append_assoc (filter untaken (done_numbers x.log)) (filter untaken (flat_map plain_in (x.out 0))) (if untaken q then q ∷ [] else []))
          ∙ ap (λ z. z ++ (if untaken q then q ∷ [] else [])) h.ordered.others
          ∙ sym (ap (filter untaken) (arrived-append x.log (Inner (Arrived q) ∷ [])) ∙ filter-append untaken (arrivals_in x.log) (q ∷ []));
      right = subst (Each (IsRight job)) (sym quiet.entries_stay) h.ordered.right;
    };
    serves = serves_alike f job (sight job x) (sight job (came x rest p)) like h.serves;
    tight = tight_alike f job (sight job x) (sight job (came x rest p)) like h.tight;
    answered = answered_same f job x.log (came x rest p).log quiet h.answered;
    ends = record {
      closed = ap (λ e. e + weigh end_in x.up + weigh end_in x.down + (if x.switch.window.closed then 1 else 0)) less ∙ h.ends.closed;
      stopped = λ k k_in. ap (λ e. e + weigh end_in x.up + weigh end_in x.down + weigh stop_in ((came x rest p).out k) + (if (x.member k).ended then 1 else 0))
          less ∙ ap (λ e. ends_left job x + e + (if (x.member k).ended then 1 else 0)) (stop_at (x.out k) (k == member_of job q)) ∙ h.ends.stopped k k_in;
    };
  }
    where
      q : ℕ
      q = p.number

      label : (packet_numbered job p.number ≡ p) × Each (in_label job) rest
      label = head_of (in_label job) x.input (InPacket p) rest is h.labelled.input

      quiet : IsQuiet x.log (x.log ++ Inner (Arrived p.number) ∷ [])
      quiet = quiet_log x.log (Inner (Arrived p.number) ∷ []) refl refl

      like : Agrees f job (sight job x) (sight job (came x rest p))
      like = record {
        serving = refl;
        queue = refl;
        to = λ k _. refl;
        answers = λ k _. refl;
        queued = ap entry_numbers quiet.entries_stay;
        processed = ap (map (λ d. d.number)) quiet.done_stays;
        own = λ k _ u. refl;
        other = λ k _ u. refl;
      }

      untaken : ℕ → Bool
      untaken i = not (is_taken job i)

      to_first : (0 == member_of job p.number) ≡ false → not (is_taken job p.number) ≡ false
      to_first off = elim (is_taken job p.number) as (λ b. (0 == (if b then (p.number - 1) % job.members else 0)) ≡ false → not b ≡ false) [
        | true ↦ λ _. refl
        | false ↦ λ never. cc
      ] off

      plus : (mine : ℕ → Bool) (xs : List ℕ) (b : Bool) → (b ≡ false → mine p.number ≡ false)
          → filter mine (xs ++ (if b then flat_map plain_in (Carry mark.Plain (record { pool = 0; packet = p }) ∷ []) else [])) ≡ filter mine xs
          ++ (if mine p.number then p.number ∷ [] else [])
      plus mine xs b off = filter-append mine xs (if b then p.number ∷ [] else []) ∙ ap (λ z. filter mine xs ++ z) (brought mine b p.number off)

      more : (mine : ℕ → Bool) (k : ℕ) (new old events : List ℕ) → new ≡ old → ((k == member_of job p.number) ≡ false → mine p.number ≡ false)
          → old ++ (events ++ filter mine (flat_map plain_in (x.out k))) ≡ filter mine (arrivals_in x.log)
          → new ++ (events ++ filter mine (flat_map plain_in ((came x rest p).out k))) ≡ filter mine (arrivals_in (came x rest p).log)
      more mine k new old events same off was =
          ap (λ z. z ++ (events ++ filter mine (flat_map plain_in ((came x rest p).out k)))) same
          ∙ ap (λ z. old ++ (events ++ filter mine z)) (more_at plain_in (x.out k) (Carry mark.Plain (record { pool = 0; packet = p }) ∷ [])
          (k == member_of job p.number))
          ∙ ap (λ z. old ++ (events ++ z)) (plus mine (flat_map plain_in (x.out k)) (k == member_of job p.number) off)
          ∙ ap (λ z. old ++ z) (sym (append_assoc events (filter mine (flat_map plain_in (x.out k))) (if mine p.number then p.number ∷ [] else [])))
          ∙ sym (append_assoc old (events ++ filter mine (flat_map plain_in (x.out k))) (if mine p.number then p.number ∷ [] else []))
          ∙ ap (λ z. z ++ (if mine p.number then p.number ∷ [] else [])) was
          ∙ sym (ap (filter mine) (arrived-append x.log (Inner (Arrived p.number) ∷ [])) ∙ filter-append mine (arrivals_in x.log) (p.number ∷ []))

      less : weigh end_in rest ≡ weigh end_in x.input
      less = let all = ap (weigh end_in) is in omega (arith, all)

      stop_at : (ms : List Msg) (b : Bool) → weigh stop_in (ms ++ (if b then Carry mark.Plain (record { pool = 0; packet = p }) ∷ [] else []))
          ≡ weigh stop_in ms
      stop_at ms true = let both = weigh-append stop_in ms (Carry mark.Plain (record { pool = 0; packet = p }) ∷ []) in omega (arith, both)
      stop_at ms false = ap (weigh stop_in) (append-nil ms)

  -- The input ends.
  abbrev pub ended_in : Scene F R → List Msg → Scene F R
  ended_in x rest = record x { input = rest; up = x.up ++ End ∷ [] }

  pub ended_is : (x : Scene F R) (rest : List Msg) → switch_did (record x { input = rest }) (switch_step x.switch InEnd) ≡ ended_in x rest
  ended_is x rest = λ i. record x { input = rest; up = x.up ++ End ∷ []; out = λ k. nothing k i; log = append-nil x.log i }
    where
      nothing : (k : ℕ) → x.out k ++ sent_for (k + 2) ((1, End) ∷ []) ≡ x.out k
      nothing k = ap (λ b. x.out k ++ ((if b then End ∷ [] else []) ++ [])) (one_two k) ∙ append-nil (x.out k)

  pub ended_holds : (x : Scene F R) (rest : List Msg) → Holds f job x → x.input ≡ InEnd ∷ rest → Holds f job (ended_in x rest)
  ended_holds x rest h is =
      end_moves f job x rest (x.up ++ End ∷ []) x.down h (head_of (in_label job) x.input InEnd rest is h.labelled.input).1
      (each-append (up_label job) x.up (End ∷ []) h.labelled.up (tt, tt)) h.labelled.down (ap (flat_map packet_in) (sym is)) same
    where
      same : weigh end_in rest + weigh end_in (x.up ++ End ∷ []) + weigh end_in x.down ≡ ends_left job x
      same = let all = ap (weigh end_in) is in let both = weigh-append end_in x.up (End ∷ []) in omega (arith, all, both)

  -- All is done: each member is to stop.
  abbrev pub closed_by : Scene F R → List Msg → Scene F R
  closed_by x rest = record x {
    down = rest;
    switch = record x.switch { window = with_end x.switch.window };
    out = λ k. x.out k ++ sent_for (k + 2) (stop_messages x.switch.members);
  }

  pub closed_is : (x : Scene F R) (rest : List Msg) → switch_did (record x { down = rest }) (switch_step x.switch Finish) ≡ closed_by x rest
  closed_is x rest = λ i. record x {
    down = rest;
    switch = record x.switch { window = with_end x.switch.window };
    up = up i;
    out = λ k. x.out k ++ sent_for (k + 2) (stop_messages x.switch.members);
    log = append-nil x.log i;
  }
    where
      up : x.up ++ sent_for 1 (stop_messages x.switch.members) ≡ x.up
      up = ap (λ z. x.up ++ z) (stops_other x.switch.members 1 two_one) ∙ append-nil x.up

  pub closed_holds : 0 < job.members → (x : Scene F R) (rest : List Msg) → Holds f job x → x.down ≡ Finish ∷ rest → Holds f job (closed_by x rest)
  closed_holds some x rest h is = record {
    labelled = record {
      input = h.labelled.input;
      up = h.labelled.up;
      down = label.1;
      out = λ k k_in. subst (λ ms. Each (out_label job k) (x.out k ++ ms)) (sym (sent k k_in)) (each-append (out_label job k) (x.out k) (Stop ∷ [])
          (h.labelled.out k k_in) (tt, tt));
      back = h.labelled.back;
      home = h.labelled.home;
      switch = let s = h.labelled.switch in
          record { filter = s.filter; site = s.site; members = s.members; cells = s.cells; name = s.name; balanced = s.balanced };
      members = h.labelled.members;
      member = h.labelled.member;
    };
    ordered = record {
      in_turn = h.ordered.in_turn;
      each_member = λ k k_in. ap (λ z. events_of k x.log ++ (flat_map event_in (x.back k) ++ filter (is_taken_at job k) z)) (no_plain k k_in)
          ∙ h.ordered.each_member k k_in;
      others = ap (λ z. filter (λ p. not (is_taken job p)) (done_numbers x.log) ++ filter (λ p. not (is_taken job p)) z) (no_plain 0 some) ∙ h.ordered.others;
      right = h.ordered.right;
    };
    serves = h.serves;
    tight = h.tight;
    answered = h.answered;
    ends = record {
      closed = (let was = h.ends.closed in omega (arith, was, moved, was_open));
      stopped = λ k k_in. (let was = h.ends.stopped k k_in in let more = ap (λ ms. weigh stop_in (x.out k ++ ms)) (sent k k_in)
          ∙ weigh-append stop_in (x.out k) (Stop ∷ []) in omega (arith, was, moved, more));
    };
  }
    where
      label : Unit {0} × Each (down_label job) rest
      label = head_of (down_label job) x.down Finish rest is h.labelled.down

      sent : (k : ℕ) → k < job.members → sent_for (k + 2) (stop_messages x.switch.members) ≡ Stop ∷ []
      sent k k_in = let members = h.labelled.switch.members in stops_sent x.switch.members k (rw members k_in)

      no_plain : (k : ℕ) → k < job.members → flat_map plain_in (x.out k ++ sent_for (k + 2) (stop_messages x.switch.members)) ≡ flat_map plain_in (x.out k)
      no_plain k k_in = ap (λ ms. flat_map plain_in (x.out k ++ ms)) (sent k k_in) ∙ flat_map-append plain_in (x.out k) (Stop ∷ [])
          ∙ append-nil (flat_map plain_in (x.out k))

      moved : weigh end_in x.input + weigh end_in x.up + weigh end_in rest + 1 ≡ ends_left job x
      moved = let all = ap (weigh end_in) is in omega (arith, all)

      was_open : one_if x.switch.window.closed ≡ 0
      was_open = let was = h.ends.closed in omega (arith, was, moved)

  -- A cell comes home.
  abbrev pub homed : Scene F R → ℕ → List Msg → FullCell → Scene F R
  homed x j rest c = record x { home = put x.home j rest; switch = record x.switch { window = with_home x.switch.window c } }

  pub homed_is : (x : Scene F R) (j : ℕ) (rest : List Msg) (c : FullCell)
      → switch_did (record x { home = put x.home j rest }) (switch_step x.switch (Credit c)) ≡ homed x j rest c
  homed_is x j rest c = λ i. record x {
    home = put x.home j rest;
    switch = record x.switch { window = with_home x.switch.window c };
    up = append-nil x.up i;
    out = λ k. append-nil (x.out k) i;
    log = append-nil x.log i;
  }

  pub homed_holds : (x : Scene F R) (j : ℕ) (rest : List Msg) (c : FullCell) → j < job.members → Holds f job x → x.home j ≡ Credit c ∷ rest
      → Holds f job (homed x j rest c)
  homed_holds x j rest c j_in h is = record {
    labelled = record {
      input = h.labelled.input;
      up = h.labelled.up;
      down = h.labelled.down;
      out = h.labelled.out;
      back = h.labelled.back;
      home = each_taken (λ k. home_label job) job.members x.home j (Credit c) rest j_in is h.labelled.home;
      switch = let s = h.labelled.switch in record {
        filter = s.filter;
        site = s.site;
        members = s.members;
        cells = home_cells x.switch.window c ∙ s.cells;
        name = home_name x.switch.window c ∙ s.name;
        balanced = home_balanced x.switch.window c s.balanced;
      };
      members = h.labelled.members;
      member = h.labelled.member;
    };
    ordered = record { in_turn = h.ordered.in_turn; each_member = h.ordered.each_member; others = h.ordered.others; right = h.ordered.right };
    serves = h.serves;
    tight = h.tight;
    answered = h.answered;
    ends = record {
      closed = ap (λ b. ends_left job x + (if b then 1 else 0)) (home_closed x.switch.window c) ∙ h.ends.closed;
      stopped = h.ends.stopped;
    };
  }
