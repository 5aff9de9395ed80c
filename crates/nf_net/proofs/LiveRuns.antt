-- At every point of a run the units that the history says are live at an instance are those with a live record there, each once.
use Rattle.nf_net.proofs.Words.{◌≡◌, ◌≢◌, ℕ, zero, suc, ◌<◌, true, false, Option, Some, None, List, [], ◌∷◌, ◌++◌, length, refl, sym, ap, ◌∙◌, subst, arith}
use Rattle.nf_net.proofs.Words.{if◌then◌else◌, ◌&&◌, ◌||◌, ◌==◌, not, is_some, slice_get, flat_map, nat_tests, Decides-eqb, slice_get-get_or, Chunk, is_among}
use Rattle.nf_net.proofs.Words.{same_unit_equiv, Msg, Note, instance_node, InstanceState, instance_step, Choice, Network, run, world_next, queue_at, at}
use Rattle.nf_net.proofs.Words.{run_more, Takes, Outcome, taken_outcome, Node, Switch, Controller, processed_of, order_numbered, with_units, without_units}
use Rattle.nf_net.proofs.Words.{gained_by, is_first_of, is_shared_away, node_step, unit_numbered, live_in, live_at, removed_by, live_number, Given, node_of}
use Rattle.nf_net.proofs.Words.{IsTaken, scene, Wants, node_leads, instance_quiet, Runs, run_beside, given, all_fit, count_at_start, Unit, Order, Instance}
use Rattle.nf_net.proofs.Words.{split, ◌+◌, Setting, start, IsCourse, world_of}
use Rattle.std.specs.Prelude.{drop}
use Rattle.std.specs.FinMap as finite
use Rattle.std.proofs.Math.Seq.{drop-append_seam}
use Rattle.instance_worker.specs.Instance.{Step}
use Rattle.net_world.specs.Fold.{fold}
use Rattle.net_world.specs.Lives.{lost_by, lives, lives_next, lives_from}
use Rattle.net_world.specs.Verdicts.{number_live}
use Rattle.proof_outlines.proofs.joined.CopyTokens.{token_open}
use Rattle.nf_net.proofs.RunWords.{run_busy, units_fit, count, RunStep, run_keeps, after_world}
use Rattle.nf_net.proofs.LiveRows.{Free, Lives}
use Rattle.nf_net.proofs.LiveShares.{nothing_live}
use Rattle.nf_net.proofs.LiveSteps.{away_quiet, step_lives}
use Rattle.nf_net.proofs.LiveUnits.{AreOnce, with_in, with_once, without_in, without_once, as_many}
use Rattle.nf_net.proofs.SharedHomes.{homes_of}
use Rattle.nf_net.proofs.ShareOwners.{owners_stay}
use Rattle.nf_net.proofs.StandbyFronts.{IsOfFront, lives_front}
use Rattle.nf_net.proofs.StandbySteps.{same_place}

none_before : (xs ys : List ℕ) → xs ++ ys ≡ [] → xs ≡ []
none_before [] ys e = refl
none_before (x ∷ xs) ys e = cc

other_node : (i y : ℕ) → (i == y) ≡ false → (suc (suc y) == instance_node i) ≡ false
other_node i y off = grind (arith, nat_tests, off)

no_instance : (k i : ℕ) → k < 2 → (k == instance_node i) ≡ false
no_instance k i low = grind (arith, nat_tests, low)

module _ {F R : Type 0} (setting : Setting F R) where
  open setting use {function as f, laws, config as c, items}

  abbrev g : Given
  g = given setting

  abbrev first : Network (Node F R) Msg Note
  first = start setting

  abbrev by : ℕ → List Choice → List Unit
  by i cs = lives f c items first i cs

  -- what is kept of the choices so far and the world
  pub record Lived (cs : List Choice) (w : Network (Node F R) Msg Note) : Type 0 where
    pub same : (i : ℕ) (u : Unit) → is_among (by i cs) u ≡ is_some (live_at w i u)
    pub once : (i : ℕ) → AreOnce (by i cs)

  -- one choice more at the end
  lives_more : (i : ℕ) (cs : List Choice) (d : Choice) (w : Network (Node F R) Msg Note) (us : List Unit)
      → lives_from f c items i w (cs ++ d ∷ []) us ≡ lives_next f c items i (run (node_step f) cs w) d (lives_from f c items i w cs us)
  lives_more i [] d w us = refl
  lives_more i (x ∷ cs) d w us = lives_more i cs d (world_next (node_step f) w x) (lives_next f c items i w x us)

  -- where a share has a packet's unit elsewhere, it isn't live
  away_nothing : (cs : List Choice) → IsCourse setting cs → (y k : ℕ)
      → is_shared_away c items (unit_numbered c items f.kind k) y (world_of setting cs).log ≡ true
      → live_at (world_of setting cs) y (unit_numbered c items f.kind k) ≡ None
  away_nothing cs runs y k away =
      let r : Runs setting (world_of setting cs) = run_beside setting cs runs in
      nothing_live setting (length c.names + 2) refl (world_of setting cs) r.joined r.beside.kept.apart
      (run_busy setting cs runs).1 (unit_numbered c items f.kind k) (units_fit setting k) (owners_stay setting cs runs) (after_world setting cs runs).1 y away

  -- nothing is live at the start
  none_live : (i : ℕ) (u : Unit) → live_at first i u ≡ None
  none_live i u =
      let r : Runs setting first = run_beside setting [] tt in
      let h : IsOfFront f c items (processed_of f c items u []) (live_at first i u) = lives_front setting (length c.names + 2) first
      (count_at_start setting)
      r.joined i u in
      let none : h.front ≡ [] = none_before h.front h.is_front.rest h.is_front.whole in
      sym h.folds ∙ ap (fold f c items None) none

  start_lived : Lived [] first
  start_lived = record { same = λ i u. sym (ap is_some (none_live i u)); once = λ i. tt }

  -- A choice of a run
  module _ (cs : List Choice) (runs : IsCourse setting cs) (d : Choice) (more : IsCourse setting (cs ++ d ∷ []))
      (h : Lived cs (world_of setting cs)) (s : RunStep setting (world_of setting cs) d) where
    abbrev w : Network (Node F R) Msg Note
    w = world_of setting cs

    abbrev v : Network (Node F R) Msg Note
    v = world_next (node_step f) w d

    abbrev r : Runs setting w
    r = s.runs

    next_is : (i : ℕ) → by i (cs ++ d ∷ []) ≡ lives_next f c items i w d (by i cs)
    next_is i = lives_more i cs d first []

    abbrev Same : ℕ → Type 0
    Same i = (u : Unit) → is_among (by i (cs ++ d ∷ [])) u ≡ is_some (live_at v i u)

    -- of another node
    other_same : (i : ℕ) → (d.node == instance_node i) ≡ false → ((u : Unit) → live_at v i u ≡ live_at w i u) → Same i
    other_same i off stays u =
        let unchanged : lives_next f c items i w d (by i cs) ≡ by i cs = rw off refl in
        ap (λ us. is_among us u) (next_is i ∙ unchanged) ∙ h.same i u ∙ sym (ap is_some (stays u))

    once_next : (i : ℕ) → AreOnce (by i (cs ++ d ∷ []))
    once_next i = subst AreOnce (sym (next_is i))
        (split (d.node == instance_node i)
        (λ t. AreOnce (if t then with_units (without_units (lost_by (queue_at w d)) (by i cs))
        (flat_map (gained_by c items f.kind i w.log) (drop (length w.log) v.log)) else by i cs))
        (λ _. with_once (without_units (lost_by (queue_at w d)) (by i cs)) (flat_map (gained_by c items f.kind i w.log) (drop (length w.log) v.log))
        (without_once (lost_by (queue_at w d)) (by i cs) (h.once i))) (λ _. h.once i))

    module _ (p : ℕ) (m : Msg) (rest : List Msg) where
      stays_at : (k : ℕ) (takes : Takes (node_step f) (length c.names + 2) w k p (node_of r.joined.nodes k) m rest) (i : ℕ) → instance_node i ≢ k → (u : Unit)
          → live_at (world_next (node_step f) w (at k p)) i u ≡ live_at w i u
      stays_at k takes i off u =
          let left = taken_outcome (node_step f) (length c.names + 2) w k p (node_of r.joined.nodes k) m rest takes in
          ap (live_in u) (same_place w.nodes (world_next (node_step f) w (at k p)).nodes (instance_node i) (takes.count ∙ sym left.count)
          (λ x. left.others (instance_node i) x off))

      module _ (y : ℕ) (takes : Takes (node_step f) (length c.names + 2) w (suc (suc y)) p (node_of r.joined.nodes (suc (suc y))) m rest)
          (t : IsTaken f g (length c.names + 2)
          (scene f g (length c.names + 2) refl (Wants f g) (node_leads f laws g (all_fit setting) (length c.names + 2)) w r.joined)
          (record { node = suc (suc y); port = p; message = m }))
          (d_is : d ≡ at (suc (suc y)) p) where
        abbrev own : InstanceState F R
        own = r.joined.nodes.instance (suc (suc y))

        abbrev did : Step F R
        did = instance_step f own m

        abbrev u_at : Network (Node F R) Msg Note
        u_at = world_next (node_step f) w (at (suc (suc y)) p)

        out : Outcome (node_step f) (length c.names + 2) w (suc (suc y)) p (node_of r.joined.nodes (suc (suc y))) m rest u_at
        out = taken_outcome (node_step f) (length c.names + 2) w (suc (suc y)) p (node_of r.joined.nodes (suc (suc y))) m rest takes

        node_is : instance_node y ≡ suc (suc y)
        node_is = omega arith

        there : slice_get w.nodes (instance_node y) ≡ Some (Instance own)
        there = subst (λ z. slice_get w.nodes z ≡ Some (Instance own)) (sym node_is)
            (slice_get-get_or w.nodes (suc (suc y)) (Instance own) (let small = takes.receiver in let count = takes.count in rw count small)
            ∙ ap Some (r.joined.nodes_are (suc (suc y)) takes.receiver (Instance own)))

        after : slice_get u_at.nodes (instance_node y) ≡ Some (Instance did.node)
        after = subst (λ z. slice_get u_at.nodes z ≡ Some (Instance did.node)) (sym node_is) (slice_get-get_or u_at.nodes (suc (suc y)) (Instance did.node)
            (let small = takes.receiver in let count = out.count in rw count small) ∙ ap Some (out.own (Instance did.node)))

        v_is : v ≡ u_at
        v_is = ap (world_next (node_step f) w) d_is

        now_live : (u : Unit) → live_at v y u ≡ finite.get did.node.table.live u
        now_live u = ap (λ x. live_at x y u) v_is ∙ ap (live_in u) after

        log_is : v.log ≡ w.log ++ did.notes
        log_is = ap (λ x. x.log) v_is ∙ out.log

        -- what is live then of a packet's unit no share has elsewhere
        free : Free setting y w.log own (r.joined.shown_is.instances (suc (suc y)) (omega arith) takes.receiver).rules.at did
        free k on = split (is_shared_away c items (unit_numbered c items f.kind k) y w.log) (λ b. b ≡ false)
            (λ away.
            let u = unit_numbered c items f.kind k in
            let reached : v ≡ world_of setting (cs ++ d ∷ []) = run_more (node_step f) cs d first w refl in
            let still : is_shared_away c items u y (world_of setting (cs ++ d ∷ [])).log ≡ true = ap (λ x. is_shared_away c items u y x.log)
            (sym reached) ∙ ap (is_shared_away c items u y) log_is ∙ away_quiet c items u y own.index w.log did.notes (instance_quiet f own m) ∙ away in
            let none : live_at v y u ≡ None = ap (λ x. live_at x y u) reached ∙ away_nothing (cs ++ d ∷ []) more y k still in
            let never : true ≡ false = sym on ∙ ap is_some (sym (now_live u) ∙ none) in
            cc) (λ _. refl)

        -- a copy's chunks are of a copy's number
        copied : (op : ℕ) (chunks : List Chunk) → m ≡ Msg.Standby op chunks → is_first_of c items (order_numbered items op) y ≡ false
        copied op chunks is_so =
            let open_so = token_open f g (length c.names + 2) w r.joined (suc (suc y)) p op chunks rest (omega (arith, takes.receiver))
            (subst (λ x. Takes (node_step f) (length c.names + 2) w (suc (suc y)) p
            (node_of r.joined.nodes (suc (suc y))) x rest) is_so takes) r.beside.tokens in
            let its = r.joined.shown_is.controller.copies op open_so.copy open_so.there in
            let what : order_numbered items op ≡ Some (Order.Copy its.plan.source its.plan.destination open_so.copy.plan.filter) =
            ap (order_numbered items) (sym its.op_is) ∙ its.plan.order_is in
            ap (λ o. is_first_of c items o y) what

        goes : Lives setting y w.log own (r.joined.shown_is.instances (suc (suc y)) (omega arith) takes.receiver).rules.at m did
        goes = step_lives setting (length c.names + 2) refl w r.joined r.beside.kept.apart (run_busy setting cs runs).1
            (homes_of setting cs runs r) (owners_stay setting cs runs) p y takes.receiver m t copied free

        own_same : Same y
        own_same u =
            let on : (d.node == instance_node y) ≡ true = ap (λ x. x.node == instance_node y) d_is
            ∙ (Decides-eqb (suc (suc y)) (instance_node y)).1 (sym node_is) in
            let us = by y cs in
            let gains = flat_map (gained_by c items f.kind y w.log) in
            let noted : drop (length w.log) v.log ≡ did.notes = ap (drop (length w.log)) log_is ∙ drop-append_seam w.log did.notes in
            let waits : queue_at w d ≡ m ∷ rest = ap (queue_at w) d_is ∙ takes.waits in
            let changed : lives_next f c items y w d us ≡ with_units (without_units (lost_by (queue_at w d)) us) (gains (drop (length w.log) v.log)) =
            rw on refl in
            let now : with_units (without_units (lost_by (queue_at w d)) us) (gains (drop (length w.log) v.log))
            ≡ with_units (without_units (removed_by m) us) (gains did.notes) =
            ap (λ ms. with_units (without_units (lost_by ms) us) (gains (drop (length w.log) v.log))) waits
            ∙ ap (λ ns. with_units (without_units (removed_by m) us) (gains ns)) noted in
            ap (λ xs. is_among xs u) (next_is y ∙ changed ∙ now)
            ∙ with_in (without_units (removed_by m) us) (gains did.notes) u
            ∙ ap (λ b. b || is_among (gains did.notes) u) (without_in (removed_by m) us u)
            ∙ ap (λ b. (b && not (is_among (removed_by m) u)) || is_among (gains did.notes) u) (h.same y u ∙ ap is_some (ap (live_in u) there))
            ∙ sym (goes u)
            ∙ sym (ap is_some (now_live u))

        at_instance : (i : ℕ) → Same i
        at_instance i = split (i == y) (λ _. Same i) (λ on. subst Same (sym ((Decides-eqb i y).0 on)) own_same)
            (λ off.
            let apart : instance_node i ≢ suc (suc y) =
            λ e. (let bad : i ≡ y = omega (arith, e) in let never : true ≡ false = sym ((Decides-eqb i y).1 bad) ∙ off in cc) in
            let other : (d.node == instance_node i) ≡ false = ap (λ x. x.node == instance_node i) d_is ∙ other_node i y off in
            other_same i other (λ u. ap (λ x. live_at x i u) v_is ∙ stays_at (suc (suc y)) takes i apart u))

      each_same : (k : ℕ) → Takes (node_step f) (length c.names + 2) w k p (node_of r.joined.nodes k) m rest → IsTaken f g (length c.names + 2)
          (scene f g (length c.names + 2) refl (Wants f g) (node_leads f laws g (all_fit setting) (length c.names + 2)) w r.joined)
          (record { node = k; port = p; message = m })
          → d ≡ at k p → (i : ℕ) → Same i
      each_same zero takes t d_is i = other_same i (ap (λ x. x.node == instance_node i) d_is ∙ no_instance 0 i (omega arith))
          (λ u. ap (λ x. live_at x i u) (ap (world_next (node_step f) w) d_is) ∙ stays_at 0 takes i (λ e. absurd (omega (arith, e))) u)
      each_same (suc zero) takes t d_is i = other_same i (ap (λ x. x.node == instance_node i) d_is ∙ no_instance 1 i (omega arith))
          (λ u. ap (λ x. live_at x i u) (ap (world_next (node_step f) w) d_is) ∙ stays_at 1 takes i (λ e. absurd (omega (arith, e))) u)
      each_same (suc (suc y)) takes t d_is i = at_instance y takes t d_is i

    lived_next : Lived (cs ++ d ∷ []) v
    lived_next = record { same = each_same d.port s.taking.message s.taking.rest d.node s.takes s.taken refl; once = once_next }

  -- every run keeps it
  pub run_lived : (cs : List Choice) → IsCourse setting cs → Lived cs (world_of setting cs)
  run_lived cs run_is = run_keeps setting (λ ds w. IsCourse setting ds → Lived ds w) (λ _. start_lived)
      (λ ds ok d s h more. lived_next ds ok d more (h ok) s) cs run_is run_is

  -- and so they are as many as the records
  pub lives_number : (cs : List Choice) → IsCourse setting cs → (i : ℕ) → length (by i cs) ≡ number_live (world_of setting cs) i
  lives_number cs run_is i = by_node (slice_get (world_of setting cs).nodes (instance_node i)) refl
    where
      h : Lived cs (world_of setting cs)
      h = run_lived cs run_is

      none_here : (us : List Unit) → ((u : Unit) → is_among us u ≡ false) → length us ≡ 0
      none_here [] all = refl
      none_here (u ∷ us) all =
          let self : is_among (u ∷ us) u ≡ true = rw (same_unit_equiv.refl u) refl in
          let never : true ≡ false = sym self ∙ all u in
          cc

      by_node : (o : Option (Node F R)) → slice_get (world_of setting cs).nodes (instance_node i) ≡ o → length (by i cs) ≡ live_number o
      by_node None e = none_here (by i cs) (λ u. h.same i u ∙ ap is_some (ap (live_in u) e))
      by_node (Some (Switch s)) e = none_here (by i cs) (λ u. h.same i u ∙ ap is_some (ap (live_in u) e))
      by_node (Some (Controller s)) e = none_here (by i cs) (λ u. h.same i u ∙ ap is_some (ap (live_in u) e))
      by_node (Some (Instance s)) e = as_many (by i cs) s.table.live (h.once i) (λ u. h.same i u ∙ ap is_some (ap (live_in u) e))
