-- What the workers of a round leave is the replay of the choices that they made.
use Rattle.std.proofs.Common.{◌≡◌, ◌≢◌, ◌==◌, ◌&&◌, ◌<◌, ◌≤◌, ℕ, zero, suc, ◌+◌, ◌*◌, Bool, true, false, true≢false, if◌then◌else◌, List, [], ◌∷◌}
use Rattle.std.proofs.Common.{◌++◌, length, slice_index_or, slice_set, map, sym, ◌∙◌, ap, refl, subst, inl, inr, arith, append_assoc, length-set}
use Rattle.std.proofs.lemmas.Bool.{cases_lt}
use Rattle.std.proofs.lemmas.Bool.Decides.{nat_tests}
use Rattle.std.proofs.lemmas.List.{length-map, get_or-map, get_or-set_same, get_or-set_other, get_or_past}
use Rattle.actor_net.specs.declared.choice.Choice.{Choice}
use Rattle.actor_net.specs.declared.stamped.Stamped.{Stamped}
use Rattle.actor_net.specs.declared.histories.History.{History}
use Rattle.actor_net.specs.Network.{Network, Stepped, IsWorld, queue_at}
use Rattle.actor_net.specs.Histories.{NodeStep, messages, history_of, node_after, notes_of, taken_at}
use Rattle.actor_net.specs.Histories.{put_between, notes_of_choices, ClocksRise, PortsBelow, WasReady}
use Rattle.actor_net.proofs.EnabledChoices.{at}
use Rattle.actor_net.proofs.WaitingMessages.{waiting_is}
use Rattle.actor_net.proofs.LinkLemmas.{inside}
use Rattle.actor_net.proofs.ClockOrder.{FitsWorld}
use Rattle.actor_net.proofs.MergeRun.{AreHistories, HistoriesLeave}
use Rattle.actor_threads.specs.Ways.{Incoming, Outgoing, with_stamp_0}
use Rattle.actor_threads.specs.Work.{WorkerView, in_at, out_at, Ticks, Worked, Ran}
use Rattle.actor_threads.specs.LinkTable.{row_at, Closed}
use Rattle.actor_threads.specs.Round.{StartsAs, AllStart, CanCloseAll}
use Rattle.actor_threads.proofs.WayInLemmas.{messages-with_stamp_0}
use Rattle.actor_net.proofs.ClockOrderRun.{dealt_same}

-- what was held and then sent was taken or is left
joined : {X : Type 0} (holds grown taken kept tail put : List X) → holds ++ grown ≡ taken ++ kept → put ≡ grown ++ tail → taken ++ (kept ++ tail) ≡ holds ++ put
joined holds grown taken kept tail put whole sent =
    sym (append_assoc taken kept tail) ∙ ap (λ l. l ++ tail) (sym whole) ∙ append_assoc holds grown tail ∙ ap (λ l. holds ++ l) (sym sent)

-- only the first place is 0
not_first : (m s r : ℕ) → 0 < m → (r == 0) && (s == 0) ≡ false → s * m + r ≡ 0 → ⊥
not_first m zero r h other e = let r_zero : r ≡ 0 = omega arith in true≢false (subst (λ k. (k == 0) && (0 == 0) ≡ false) r_zero other)
not_first m (suc k) r h other e = let more : suc k * m ≡ m + k * m = grind arith in omega arith

-- clocks that tick rise
rises : {M : Type 0} (clock : ℕ) (es : List (NodeStep M)) → Ticks clock es → ClocksRise clock es
rises clock [] t = tt
rises clock (e ∷ es) t = let is = t.0 in (omega arith, omega arith, rises e.clock es t.1)

-- the histories of workers that did these steps
pub matches_from : {A M N : Type 0} (node_steps : ℕ → List (NodeStep M)) (blank : WorkerView A M N) (i : ℕ) (workers : List (WorkerView A M N))
    → ((j : ℕ) → j < length workers
    → ((slice_index_or workers j blank).number ≡ j + i) × ((slice_index_or workers j blank).steps ≡ history_of (node_steps (j + i))))
    → ((j : ℕ) → length workers + i ≤ j → node_steps j ≡ [])
    → AreHistories node_steps i (map (λ (s : WorkerView A M N). let h : History = record { node = s.number; steps = s.steps } in h) workers)
matches_from node_steps blank i [] each none = λ j h. none j (omega arith)
matches_from node_steps blank i (x ∷ xs) each none =
    let first = each 0 (omega arith) in
    let zero_i : 0 + i ≡ i = omega arith in (
      first.0 ∙ zero_i,
      first.1 ∙ ap (λ k. history_of (node_steps k)) zero_i,
      matches_from node_steps blank (i + 1) xs
          (λ j h. let here = each (suc j) (omega arith) in
          let move : suc j + i ≡ j + (i + 1) = omega arith in (here.0 ∙ move, here.1 ∙ ap (λ k. history_of (node_steps k)) move))
          (λ j h. none j (omega arith)),
    )

module _ {A M N : Type 0} (ready : A → M → Bool) (step : A → ℕ → M → Stepped A M N) (w : Network A M N) (started ended : List (WorkerView A M N)) (d : A)
    (is : IsWorld w) (all : AllStart w started)
    (ran : (j : ℕ) (e : WorkerView A M N) → j < length w.nodes → Ran ready step (slice_index_or started j e) (slice_index_or ended j e))
    (count : length ended ≡ length w.nodes) where
  abbrev n : ℕ
  n = length w.nodes

  abbrev blank : WorkerView A M N
  blank = record { number = 0; node = d; clock = 0; steps = []; notes = []; ins = []; outs = [] }

  abbrev start_of : ℕ → WorkerView A M N
  start_of j = slice_index_or started j blank

  abbrev end_of : ℕ → WorkerView A M N
  end_of j = slice_index_or ended j blank

  abbrev node_at : ℕ → A
  node_at j = slice_index_or w.nodes j d

  starts : (j : ℕ) → j < n → StartsAs w all.names j (start_of j)
  starts j h = all.each j blank h

  -- the steps of a node, none where there is no such node
  abbrev Did : ℕ → List (NodeStep M) → Type 0
  Did j es = (j < n → (k : Worked ready step (start_of j) (end_of j)) × (k.node_steps ≡ es)) × (n ≤ j → es ≡ [])

  pub pick : (j : ℕ) → (es : List (NodeStep M)) × Did j es
  pick j = elim (cases_lt j n) [
    | inl h ↦ ((ran j blank h).worked.node_steps, ((λ _. ((ran j blank h).worked, refl)), λ o. absurd (omega arith)))
    | inr o ↦ ([], ((λ h. absurd (omega arith)), λ _. refl))
  ]

  abbrev pub node_steps : ℕ → List (NodeStep M)
  node_steps j = (pick j).0

  pub no_node_steps : (j : ℕ) → n ≤ j → node_steps j ≡ []
  no_node_steps j h = (pick j).1.1 h

  node_is : (j : ℕ) → j < n → (end_of j).node ≡ node_after step (node_at j) (node_steps j)
  node_is j h = let k = (pick j).1.0 h in k.0.node ∙ (λ i. node_after step ((starts j h).node d i) (k.1 i))

  steps_is : (j : ℕ) → j < n → (end_of j).steps ≡ history_of (node_steps j)
  steps_is j h = let k = (pick j).1.0 h in k.0.steps ∙ (λ i. (starts j h).steps i ++ history_of (k.1 i))

  notes_is : (j : ℕ) → j < n → (end_of j).notes ≡ notes_of step (node_at j) (node_steps j)
  notes_is j h = let k = (pick j).1.0 h in k.0.notes ∙ (λ i. (starts j h).notes i ++ notes_of step ((starts j h).node d i) (k.1 i))

  number_is : (j : ℕ) → j < n → (end_of j).number ≡ j
  number_is j h = let k = (pick j).1.0 h in k.0.number ∙ (starts j h).number

  -- a fact of each history, also of those that are empty
  each : (P : ℕ → List (NodeStep M) → Type 0) → ((j : ℕ) → j < n → P j (node_steps j)) → ((j : ℕ) → P j []) → (j : ℕ) → P j (node_steps j)
  each P some none j = elim (cases_lt j n) [ inl h ↦ some j h | inr o ↦ subst (λ es. P j es) (sym (no_node_steps j o)) (none j) ]

  ports_is : (j : ℕ) → PortsBelow n (node_steps j)
  ports_is = each (λ _ es. PortsBelow n es) (λ j h.
      let k = (pick j).1.0 h in subst (λ (v : ℕ × List (NodeStep M)). PortsBelow v.0 v.1) (λ i. ((starts j h).count_ins i, k.1 i)) k.0.ports) (λ _. tt)

  ready_is : (j : ℕ) → j ≡ 0 → WasReady ready step (node_at j) (node_steps j)
  ready_is = each (λ j es. j ≡ 0 → WasReady ready step (node_at j) es)
      (λ j h. let k = (pick j).1.0 h in
      subst (λ (v : ℕ × A × List (NodeStep M)). v.0 ≡ 0 → WasReady ready step v.1 v.2) (λ i. ((starts j h).number i, (starts j h).node d i, k.1 i))
      k.0.was_ready) (λ _ _. tt)

  pub rise_is : (j : ℕ) → ClocksRise 0 (node_steps j)
  rise_is = each (λ _ es. ClocksRise 0 es) (λ j h.
      let k = (pick j).1.0 h in subst (λ (v : ℕ × List (NodeStep M)). ClocksRise v.0 v.1) (λ i. ((starts j h).clock i, k.1 i)) (rises _ _ k.0.ticks))
      (λ _. tt)

  pub matches : AreHistories node_steps 0 (map (λ (s : WorkerView A M N). let h : History = record { node = s.number; steps = s.steps } in h) ended)
  matches = matches_from node_steps blank 0 ended (λ j h. let inside : j < n = subst (λ m. j < m) count h in
      (number_is j inside ∙ omega arith, steps_is j inside ∙ ap (λ m. history_of (node_steps m)) (omega arith)))
      (λ j h. no_node_steps j (omega (arith, count)))

  -- the links can be closed
  ins_at : (r : ℕ) → r < n → row_at (map (λ (s : WorkerView A M N). s.ins) ended) r ≡ (end_of r).ins
  ins_at r h = get_or-map (λ (s : WorkerView A M N). s.ins) ended r blank [] (subst (λ m. r < m) (sym count) h)

  outs_at : (s : ℕ) → s < n → row_at (map (λ (s : WorkerView A M N). s.outs) ended) s ≡ (end_of s).outs
  outs_at s h = get_or-map (λ (s : WorkerView A M N). s.outs) ended s blank [] (subst (λ m. s < m) (sym count) h)

  in_link : (s r : ℕ) → s < n → r < n → (in_at (end_of r).ins s).link ≡ all.names s r
  in_link s r hs hr =
      let k = (pick r).1.0 hr in
      (k.0.taken s (subst (λ m. s < m) (sym (starts r hr).count_ins) hs)).draws.link ∙ ap (λ (v : Incoming M). v.link) ((starts r hr).ins s hs)

  out_link : (s r : ℕ) → s < n → r < n → (out_at (end_of s).outs r).link ≡ all.names s r
  out_link s r hs hr =
      let k = (pick s).1.0 hs in
      (k.0.sent r (subst (λ m. r < m) (sym (starts s hs).count_outs) hr)).link ∙ ap (λ (v : Outgoing M). v.link) ((starts s hs).outs r hr)

  pub can_close_all : CanCloseAll n (map (λ (s : WorkerView A M N). s.ins) ended) (map (λ (s : WorkerView A M N). s.outs) ended)
  can_close_all = record {
    receivers = length-map ended _ ∙ count;
    senders = length-map ended _ ∙ count;
    in_rows = λ r h. ap (λ (l : List (Incoming M)). length l) (ins_at r h) ∙ ((pick r).1.0 h).0.count_ins ∙ (starts r h).count_ins;
    out_rows = λ s h. ap (λ (l : List (Outgoing M)). length l) (outs_at s h) ∙ ((pick s).1.0 h).0.count_outs ∙ (starts s h).count_outs;
    link = λ s r hs hr. ap (λ (l : List (Outgoing M)). (out_at l r).link) (outs_at s hs) ∙ out_link s r hs hr
        ∙ sym (ap (λ (l : List (Incoming M)). (in_at l s).link) (ins_at r hr) ∙ in_link s r hs hr);
  }

  -- what was held on a link
  abbrev pub holds : ℕ → ℕ → List (Stamped M)
  holds s r = with_stamp_0 (queue_at w (at r s))

  module _ (links : List (List M)) (square : length links ≡ n * n)
      (closed : (s r : ℕ) → s < n → r < n → Closed (in_at (row_at (map (λ (x : WorkerView A M N). x.ins) ended) r) s)
      (out_at (row_at (map (λ (x : WorkerView A M N). x.outs) ended) s) r) (row_at links (s * n + r))) where
    abbrev LeftAt : ℕ → ℕ → List (Stamped M) → Type 0
    LeftAt s r l = (row_at links (s * n + r) ≡ messages l) × (taken_at s (node_steps r) ++ l ≡ holds s r ++ put_between step n s r (node_at s) (node_steps s))

    left_at : (s r : ℕ) → s < n → r < n → (l : List (Stamped M)) × LeftAt s r l
    left_at s r hs hr =
        let c : Closed (in_at (end_of r).ins s) (out_at (end_of s).outs r) (row_at links (s * n + r)) =
        subst (λ (v : List (Incoming M) × List (Outgoing M)). Closed (in_at v.0 s) (out_at v.1 r) (row_at links (s * n + r)))
        (λ i. (ins_at r hr i, outs_at s hs i)) (closed s r hs hr) in
        let kr = (pick r).1.0 hr in
        let ks = (pick s).1.0 hs in
        let drew = (kr.0.taken s (subst (λ m. s < m) (sym (starts r hr).count_ins) hs)).draws in
        let begin = (starts r hr).ins s hs in
        let grown : (in_at (end_of r).ins s).done ≡ drew.grown = drew.done ∙ ap (λ (v : Incoming M). v.done ++ drew.grown) begin in
        let whole : holds s r ++ drew.grown ≡ taken_at s (node_steps r) ++ (in_at (end_of r).ins s).kept =
        sym (ap (λ (v : Incoming M). v.kept ++ drew.grown) begin) ∙ drew.whole ∙ ap (λ es. taken_at s es ++ (in_at (end_of r).ins s).kept) kr.1 in
        let went = ks.0.sent r (subst (λ m. r < m) (sym (starts s hs).count_outs) hr) in
        let put : put_between step n s r (node_at s) (node_steps s) ≡ drew.grown ++ c.tail =
        sym (went.all ∙ (λ i. ((starts s hs).outs r hr i).all
        ++ put_between step ((starts s hs).count_outs i) ((starts s hs).number i) r ((starts s hs).node d i) (ks.1 i)))
        ∙ c.sent ∙ ap (λ l. l ++ c.tail) grown in (
          (in_at (end_of r).ins s).kept ++ c.tail,
          (
            c.is,
            joined (holds s r) drew.grown (taken_at s (node_steps r)) (in_at (end_of r).ins s).kept c.tail
                (put_between step n s r (node_at s) (node_steps s)) whole put,
          ),
        )

    pub pick_left : (s r : ℕ) → (l : List (Stamped M)) × (s < n → r < n → LeftAt s r l)
    pick_left s r = elim (cases_lt s n) [
      | inl hs ↦ elim (cases_lt r n) [
        | inl hr ↦ let l = left_at s r hs hr in (l.0, λ _ _. l.1)
        | inr o ↦ ([], λ _ hr. absurd (omega arith))
      ]
      | inr o ↦ ([], λ hs _. absurd (omega arith))
    ]

    abbrev pub left : ℕ → ℕ → List (Stamped M)
    left s r = (pick_left s r).0

    pub fits : FitsWorld ready step d w node_steps holds left
    fits = record {
      some = is.some_node;
      square = is.square;
      shows = λ s r hs hr. sym (messages-with_stamp_0 (queue_at w (at r s)));
      whole = λ s r hs hr. ((pick_left s r).1 hs hr).1;
      within = no_node_steps;
      ports = ports_is;
      was_ready = ready_is;
    }

    -- the world that is left
    abbrev pub world_left : List Choice → Network A M N
    world_left cs = record {
      nodes = map (λ (s : WorkerView A M N). s.node) ended;
      links = slice_set links 0 [];
      input = row_at links 0;
      log = w.log ++ notes_of_choices (λ j. row_at (map (λ (s : WorkerView A M N). s.notes) ended) j) cs;
    }

    waits_left : (cs : List Choice) (s r : ℕ) → s < n → r < n → queue_at (world_left cs) (at r s) ≡ messages (left s r)
    waits_left cs s r hs hr =
        let nodes : length (map (λ (x : WorkerView A M N). x.node) ended) ≡ n = length-map ended _ ∙ count in
        let shown : row_at links (s * n + r) ≡ messages (left s r) = ((pick_left s r).1 hs hr).0 in
        waiting_is (world_left cs) s r (subst (λ m. s < m) (sym nodes) hs) (subst (λ m. r < m) (sym nodes) hr)
        ∙ elim ((r == 0) && (s == 0)) as (λ b. (r == 0) && (s == 0) ≡ b → (if b then row_at links 0
        else row_at (slice_set links 0 []) (s * length (map (λ (x : WorkerView A M N). x.node) ended) + r)) ≡ messages (left s r)) [
          | true ↦ λ t.
              let s_zero : s ≡ 0 = grind (arith, nat_tests) in
              let r_zero : r ≡ 0 = grind (arith, nat_tests) in
              let place : 0 ≡ s * n + r = sym (ap (λ (v : ℕ × ℕ). v.0 * n + v.1) (λ i. (s_zero i, r_zero i)) ∙ omega arith) in
              ap (λ k. row_at links k) place ∙ shown
          | false ↦ λ f.
              let other : s * n + r ≢ 0 = λ e. not_first n s r is.some_node f e in
              ap (λ m. row_at (slice_set links 0 []) (s * m + r)) nodes ∙ get_or-set_other links 0 (s * n + r) [] [] other ∙ shown
        ] refl

    notes_same : (j : ℕ) → row_at (map (λ (s : WorkerView A M N). s.notes) ended) j ≡ notes_of step (node_at j) (node_steps j)
    notes_same j = elim (cases_lt j n) [
      | inl h ↦ get_or-map (λ (s : WorkerView A M N). s.notes) ended j blank [] (subst (λ m. j < m) (sym count) h) ∙ notes_is j h
      | inr o ↦ get_or_past (map (λ (s : WorkerView A M N). s.notes) ended) j [] (subst (λ m. m ≤ j) (sym (length-map ended _ ∙ count)) o)
          ∙ sym (ap (notes_of step (node_at j)) (no_node_steps j o))
    ]

    pub leaves : (cs : List Choice) → HistoriesLeave ready step d w (world_left cs) node_steps left cs
    leaves cs = record {
      count = length-map ended _ ∙ count;
      nodes = λ j h. get_or-map (λ (s : WorkerView A M N). s.node) ended j blank d (subst (λ m. j < m) (sym count) h) ∙ node_is j h;
      waits = waits_left cs;
      log = ap (λ l. w.log ++ l)
          (dealt_same (λ j. row_at (map (λ (s : WorkerView A M N). s.notes) ended) j) (λ j. notes_of step (node_at j) (node_steps j)) cs notes_same);
      links = length-set links 0 [] ∙ square ∙ sym is.square;
      loop = get_or-set_same links 0 [] [] (subst (λ m. 0 < m) (sym square) (omega (arith, inside n 0 0 is.some_node is.some_node))) ∙ sym is.no_loop;
    }
