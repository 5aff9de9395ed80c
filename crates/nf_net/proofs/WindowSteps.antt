-- What each step keeps of the window: of the packets that came, those under way are as many as the switch counts and as cells aren't at
-- home; a cell that goes home is still counted until the switch has it.
use Rattle.nf_net.proofs.Words.{◌≡◌, ℕ, ◌+◌, ◌<◌, ◌≤◌, true, false, List, [], ◌∷◌, length, refl, ap, ◌∙◌, arith, if◌then◌else◌, ◌==◌, ◌&&◌, nat_lt, nat_tests}
use Rattle.nf_net.proofs.Words.{Decides-eqb, Filter, Packet, FullCell, Target, rules_redirected, Msg, Note, instance_node, SwitchState, switch_step}
use Rattle.nf_net.proofs.Words.{sends_to_instance, target_of, has_room, is_there, arrivals_in, dones_in, Mark, split}
use Rattle.switch_node.specs.Switch as switch
use Rattle.switch_node.specs.Switch.{still, goes_to}
use Rattle.nf_net.proofs.answers.CreditCounts.{credit}

-- The switch counts what came and what comes home.
pub record Counts (window : ℕ) (s : SwitchState) (m : Msg) (step : switch.Step) : Type 0 where
  pub name : step.node.pool.name ≡ s.pool.name
  pub cells : step.node.pool.cells ≡ window
  pub home : step.node.flying + step.node.pool.home ≡ window
  pub flying : step.node.flying + credit m ≡ s.flying + length (arrivals_in step.notes)
  pub went : dones_in step.notes ≡ []

module _ (window : ℕ) (s : SwitchState) (cells : s.pool.cells ≡ window) (home : s.flying + s.pool.home ≡ window) where
  stays : (m : Msg) → credit m ≡ 0 → (t : SwitchState) → t.pool ≡ s.pool → t.flying ≡ s.flying → (sends : List (ℕ × Msg)) (notes : List Note)
      → arrivals_in notes ≡ [] → dones_in notes ≡ [] → Counts window s m (record { node = t; sends = sends; notes = notes })
  stays m none t pool flying sends notes came went = record {
    name = ap (λ p. p.name) pool;
    cells = ap (λ p. p.cells) pool ∙ cells;
    home = rw (pool, flying) home;
    flying = rw (none, flying, came) refl;
    went = went;
  }

  still_is : (m : Msg) → credit m ≡ 0 → Counts window s m (still s)
  still_is m none = stays m none s refl refl [] [] refl refl

  arrives_is : (q : Packet) (to : ℕ) (make : FullCell → Msg) → s.flying < window → Counts window s (Msg.InPacket q) (switch.arrival_step s q to make)
  arrives_is q to make room = record {
    name = refl;
    cells = cells;
    home = omega (arith, home, room);
    flying = omega arith;
    went = refl;
  }

  goes_is : (q : Packet) (t : Target) → s.flying < window → Counts window s (Msg.InPacket q) (goes_to s q t)
  goes_is q Target.Controller room = arrives_is q 1 Msg.Diverted room
  goes_is q (Target.Instance i) room = elim (nat_lt i s.instances)
      as (λ b. Counts window s (Msg.InPacket q) (if b then switch.arrival_step s q (instance_node i) (Msg.Carry Mark.Plain) else still s))
      [ true ↦ arrives_is q (instance_node i) (Msg.Carry Mark.Plain) room | false ↦ still_is (Msg.InPacket q) refl ]

  packet_is : (q : Packet) → Counts window s (Msg.InPacket q) (switch.on_packet s q)
  packet_is q = split (has_room s) (λ b. Counts window s (Msg.InPacket q) (if b then goes_to s q (target_of s q) else still s))
      (λ e. let room : s.flying < window = (rw (← cells) (grind (arith, nat_tests, e))) in goes_is q (target_of s q) room)
      (λ e. still_is (Msg.InPacket q) refl)

  to_instance_is : (m : Msg) → credit m ≡ 0 → (i : ℕ) (a : Msg) → Counts window s m (sends_to_instance s i a)
  to_instance_is m none i a = elim (nat_lt i s.instances) as (λ b. Counts window s m (if b then switch.sends_on s (instance_node i) a else still s))
      [ true ↦ stays m none s refl refl ((instance_node i, a) ∷ []) [] refl refl | false ↦ still_is m none ]

  install_is : (op : ℕ) (filter : Filter) (from : ℕ) (to : Target) → Counts window s (Msg.Install op filter from to) (switch.on_install s op filter from to)
  install_is op filter from to =
      let t : SwitchState = record s { rules = rules_redirected (record { filter = filter; from = Target.Instance from; to = to }) s.rules } in
      let sends : List (ℕ × Msg) = (instance_node from, Msg.Fence op) ∷ [] in
      let notes : List Note = Note.Installed op ∷ [] in
      split (nat_lt from s.instances && is_there s to)
      (λ b. Counts window s (Msg.Install op filter from to) (if b then record { node = t; sends = sends; notes = notes } else still s))
      (λ _. stays (Msg.Install op filter from to) refl t refl refl sends notes refl refl) (λ _. still_is (Msg.Install op filter from to) refl)

  credit_is : (cell : FullCell) → cell.pool ≡ s.pool.name → 1 ≤ s.flying → Counts window s (Msg.Credit cell) (switch.on_credit s cell)
  credit_is cell pool some =
      let own : (cell.pool == s.pool.name) ≡ true = (Decides-eqb cell.pool s.pool.name).1 pool in
      let flies : (s.flying == 0) ≡ false = grind (arith, nat_tests, some) in
      rw (flies, own) (record { name = refl; cells = cells; home = omega (arith, home, some); flying = omega (arith, some); went = refl })

  pub switch_counts : (m : Msg) → ((cell : FullCell) → m ≡ Msg.Credit cell → (cell.pool ≡ s.pool.name) × (1 ≤ s.flying)) → Counts window s m (switch_step s m)
  switch_counts (Msg.InPacket q) credits = packet_is q
  switch_counts (Msg.InCommand k) credits = stays (Msg.InCommand k) refl _ refl refl _ [] refl refl
  switch_counts Msg.InEnd credits = stays Msg.InEnd refl s refl refl _ [] refl refl
  switch_counts (Msg.Forward to mark cell) credits = to_instance_is (Msg.Forward to mark cell) refl to (Msg.Carry mark cell)
  switch_counts (Msg.Install op filter from to) credits = install_is op filter from to
  switch_counts (Msg.FenceTo op to) credits = to_instance_is (Msg.FenceTo op to) refl to (Msg.Fence op)
  switch_counts (Msg.Answered op) credits = stays (Msg.Answered op) refl _ refl refl [] [] refl refl
  switch_counts Msg.Finish credits = stays Msg.Finish refl _ refl refl _ [] refl refl
  switch_counts (Msg.Credit cell) credits = let ok = credits cell refl in credit_is cell ok.0 ok.1
  switch_counts m credits = still_is m refl
