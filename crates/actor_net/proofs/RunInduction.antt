-- What holds of every run: what each choice keeps of the choices so far and the world, a run keeps, complete or not. For
-- inductions over the runs of a network of n nodes that is built on these actors.
use Rattle.std.proofs.Common.{◌≡◌, ℕ, Bool, true, Option, None, Some, List, [], ◌∷◌, ◌++◌, length, refl, sym, subst, ◌∙◌, append_assoc, append-nil}
use Rattle.std.specs.Prelude.{slice_get}
use Rattle.std.proofs.lemmas.Option.{get_or_from_slice_get}
use Rattle.actor_net.specs.declared.choice.Choice.{Choice}
use Rattle.actor_net.specs.Network.{Network, Stepped, IsWorld, is_input, queue_at, takes_first, is_enabled, world_next, run, IsRun}
use Rattle.actor_net.proofs.ScheduleLaws.{enabled_within}
use Rattle.actor_net.proofs.RunLaws.{run_more, IsRun_more}
use Rattle.actor_net.proofs.StepOutcome.{Takes, taken_outcome}

record Found {A M : Type 0} (ready : A → M → Bool) (c : Choice) (o : Option A) (waits : List M) : Type 0 where
  node : A
  message : M
  rest : List M
  node_is : o ≡ Some node
  waits_is : waits ≡ message ∷ rest
  was_ready : is_input c ≡ true → ready node message ≡ true

found : {A M : Type 0} (ready : A → M → Bool) (c : Choice) (o : Option A) (waits : List M) → takes_first ready c o waits ≡ true → Found ready c o waits
found ready c None waits on = cc
found ready c (Some node) [] on = cc
found ready c (Some node) (m ∷ rest) on = record { node = node; message = m; rest = rest; node_is = refl; waits_is = refl; was_ready = λ is. rw is at on }

module _ {A M N : Type 0} (ready : A → M → Bool) (step : A → ℕ → M → Stepped A M N) (n : ℕ) where
  -- what an enabled choice takes: its node, and the first message that waits there
  pub record Taking (w : Network A M N) (c : Choice) : Type 0 where
    pub node : A
    pub message : M
    pub rest : List M
    pub takes : Takes step n w c.node c.port node message rest
    pub was_ready : is_input c ≡ true → ready node message ≡ true

  pub taking : (w : Network A M N) (c : Choice) → IsWorld w → length w.nodes ≡ n → is_enabled ready w c ≡ true → Taking w c
  taking w c world count on =
      let there = enabled_within ready w c world.some_node on in
      let first = found ready c (slice_get w.nodes c.node) (queue_at w c) on in
      record {
        node = first.node;
        message = first.message;
        rest = first.rest;
        takes = record {
          count = count;
          some = rw (← count) world.some_node;
          square = rw (← count) world.square;
          receiver = rw (← count) there.0;
          sender = rw (← count) there.1;
          node_is = λ d. get_or_from_slice_get w.nodes c.node first.node d first.node_is;
          waits = first.waits_is;
        };
        was_ready = first.was_ready;
      }

  -- a choice leaves a world
  pub taken_world : (w : Network A M N) (c : Choice) → IsWorld w → Taking w c → IsWorld (world_next step w c)
  taken_world w c world t =
      let left = taken_outcome step n w c.node c.port t.node t.message t.rest t.takes in
      let count = left.count ∙ sym t.takes.count in
      record {
        some_node = rw count world.some_node;
        few_nodes = rw count world.few_nodes;
        square = rw (count, left.links, t.takes.count) refl;
        no_loop = left.loop ∙ world.no_loop;
      }

  -- a run so far of a world, and a choice that is taken next
  pub record NextChoice (start : Network A M N) (cs : List Choice) (w : Network A M N) (c : Choice) : Type 0 where
    pub world : IsWorld w
    pub reached : w ≡ run step cs start
    pub is_run : IsRun ready step cs start
    pub taking : Taking w c

  module _ (P : List Choice → Network A M N → Type 0) (start : Network A M N)
      (keeps : (cs : List Choice) (w : Network A M N) (c : Choice) → NextChoice start cs w c → P cs w → P (cs ++ c ∷ []) (world_next step w c)) where
    goes_on : (cs : List Choice) (w : Network A M N) (ds : List Choice) → IsWorld w → length w.nodes ≡ n → w ≡ run step cs start → IsRun ready step cs start
        → P cs w → IsRun ready step ds w → P (cs ++ ds) (run step ds w)
    goes_on cs w [] world count reached is_run holds is = subst (λ xs. P xs w) (sym (append-nil cs)) holds
    goes_on cs w (d ∷ ds) world count reached is_run holds is =
        let t = taking w d world count is.0 in
        let next = keeps cs w d (record { world = world; reached = reached; is_run = is_run; taking = t }) holds in
        let left = taken_outcome step n w d.node d.port t.node t.message t.rest t.takes in
        subst (λ xs. P xs (run step ds (world_next step w d))) (append_assoc cs (d ∷ []) ds)
        (goes_on (cs ++ d ∷ []) (world_next step w d) ds (taken_world w d world t) left.count (run_more step cs d start w reached)
        (IsRun_more ready step cs d start w reached is_run is.0) next is.1)

    -- what holds at the start, and goes on with each choice that is enabled, holds of every run and the world that it reaches
    pub run_induction : IsWorld start → length start.nodes ≡ n → P [] start → (cs : List Choice) → IsRun ready step cs start → P cs (run step cs start)
    run_induction world count holds cs is = goes_on [] start cs world count refl tt holds is

  -- a run leaves a world of as many nodes
  pub run_world : (start : Network A M N) → IsWorld start → length start.nodes ≡ n → (cs : List Choice) → IsRun ready step cs start
      → IsWorld (run step cs start) × (length (run step cs start).nodes ≡ n)
  run_world start world count =
      run_induction (λ cs w. IsWorld w × (length w.nodes ≡ n)) start (λ cs w c next _. (
        taken_world w c next.world next.taking,
        (taken_outcome step n w c.node c.port next.taking.node next.taking.message next.taking.rest next.taking.takes).count,
      )) world count (world, count)
