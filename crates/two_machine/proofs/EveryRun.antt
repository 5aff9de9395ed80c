-- Order, each packet at most once, true outputs, Low before High, for every run.
use Rattle.two_machine.proofs.Words.{◌≡◌, ◌≤◌, ℕ, ◌+◌, length, Bool, true, false, None, List, [], ◌∷◌, ◌++◌, refl, sym, ap, subst, ◌∙◌}
use Rattle.two_machine.proofs.Words.{append_assoc, arith, if◌then◌else◌, ◌==◌, nat_tests, Decides-eqb, Choice, Network, run, IsRun, done}
use Rattle.two_machine.proofs.Words.{path, Rises, System, Laws, Msg, Note, Node, node_step, node_ready, read, those, filter-append, carries, arrived, ran}
use Rattle.two_machine.proofs.Words.{Nobody, Of_unit, frame, with_waits, done_is}
use Rattle.actor_net.proofs.NumberCounts.{times-append, times_filter}
use Rattle.two_machine.proofs.Arrivals.{coming}
use Rattle.two_machine.proofs.Runs.{Reached, known}
use Rattle.two_machine.proofs.Outputs.{mine, IsRight, right_keeps, own_those}
use Rattle.two_machine.proofs.Untaken.{Stays, stays_keeps}
use Rattle.two_machine.proofs.RunLengths.{nobody_run}
use Rattle.two_machine.proofs.Promises.{times, IsFront, processed, of_unit, outputs, given, start, LeadsTo, Every}
use Rattle.two_machine.proofs.Scans.{scan_right, low_before_high, is_wrong}
use Rattle.two_machine.proofs.TakenMessages.{labels_less, kept_there}
use Rattle.two_machine.proofs.Starts.{every_run}

-- lists of numbers
times_below : (p n : ℕ) (xs : List ℕ) → p ≤ n → Rises n xs → times p xs ≡ 0
times_below p n [] less h = refl
times_below p n (x ∷ xs) less h =
    let other : (p == x) ≡ false = grind (arith, nat_tests, less, h.0) in
    rw other (omega (arith, times_below p x xs (omega (arith, less, h.0)) h.1))

times_once : (p n : ℕ) (xs : List ℕ) → Rises n xs → times p xs ≤ 1
times_once p n [] h = omega arith
times_once p n (x ∷ xs) h =
    elim (p == x) as (λ b. (p == x) ≡ b → (if b then 1 else 0) + times p xs ≤ 1) [
      | true ↦ λ e. let same : p ≡ x = (Decides-eqb p x).0 e in let rest = times_below p x xs (omega (arith, same)) h.1 in omega (arith, rest)
      | false ↦ λ _. omega (arith, times_once p x xs h.1)
    ] refl

module _ {U T C R O : Type 0} (S : System U T C R O) (laws : Laws S) (window : ℕ) (early late : List ℕ) (rises : Rises 0 (early ++ late)) (u : U) where
  -- what is known of a unit in any world of a run
  pub record UnitFacts (w : Network (Node T C) (Msg C) (Note O)) : Type 0 where
    pub front : IsFront (of_unit S u (processed w.log)) (of_unit S u (early ++ late))
    pub answers : given S u w.log ≡ outputs S None (of_unit S u (processed w.log))

  -- from an order in the words of the invariant
  front_from : (log : List (Note O)) (input waiting : List ℕ) → those (mine S laws u) (read ran log) ++ waiting ≡ those (mine S laws u) (read arrived log)
      → read arrived log ++ input ≡ early ++ late → IsFront (of_unit S u (processed log)) (of_unit S u (early ++ late))
  front_from log input waiting order are = record {
    rest = waiting ++ those (mine S laws u) input;
    whole =
        sym (append_assoc (those (mine S laws u) (read ran log)) waiting (those (mine S laws u) input))
        ∙ ap (λ xs. xs ++ those (mine S laws u) input) order
        ∙ sym (filter-append (mine S laws u) (read arrived log) input)
        ∙ ap (those (mine S laws u)) are;
  }

  abbrev pub WithRight : S.takes u ≡ true → ℕ → Network (Node T C) (Msg C) (Note O) → Type 0
  WithRight its n w = Reached S laws (Of_unit u) its (early ++ late) rises (λ n v. IsRight S laws u v.log) n w

  abbrev pub WithStays : S.takes u ≡ false → ℕ → Network (Node T C) (Msg C) (Note O) → Type 0
  WithStays not_its n w = Reached S laws Nobody tt (early ++ late) rises (λ n v. Stays S laws u not_its v) n w

  pub taken_run : (its : S.takes u ≡ true) (cs : List Choice) → IsRun (node_ready S) (node_step S) cs (start S window early late)
      → WithRight its (length cs + 0) (run (node_step S) cs (start S window early late))
  taken_run its cs is =
      every_run S laws (Of_unit u) its window early late rises (λ n v. IsRight S laws u v.log)
      (λ n pl v x rest ready h q. right_keeps S laws u its (early ++ late) rises pl v x rest h q) refl cs is

  pub untaken_run : (not_its : S.takes u ≡ false) (cs : List Choice) → IsRun (node_ready S) (node_step S) cs (start S window early late)
      → WithStays not_its (length cs + 0) (run (node_step S) cs (start S window early late))
  untaken_run not_its cs is =
      every_run S laws Nobody tt window early late rises (λ n v. Stays S laws u not_its v)
      (λ n pl v x rest ready h q.
      stays_keeps S laws u not_its pl v x rest (labels_less S pl v x rest h.labels).0 ready (kept_there S pl v (x ∷ rest) h.labels)
      (known S laws Nobody tt (early ++ late) rises (with_waits S pl (x ∷ rest) v) h) q)
      (record { a_is = laws.nothing u; b_is = laws.nothing u; order = refl; right = refl }) cs is

  pub facts_taken : {n : ℕ} (its : S.takes u ≡ true) (w : Network (Node T C) (Msg C) (Note O)) → WithRight its n w → UnitFacts w
  facts_taken its w r =
      let v = r.world in
      let h = r.holds in
      let dones : done h.stage ≡ those S.covers (read ran v.log) = done_is (frame S (Of_unit u)) h.stage ∙ sym (ap (λ x. x.done) h.alike) in
      let order : those (mine S laws u) (read ran v.log) ++ those (mine S laws u) (path h.stage) ≡ those (mine S laws u) (read arrived v.log) =
      ap (λ xs. xs ++ those (mine S laws u) (path h.stage)) (sym (own_those S laws u its (read ran v.log)) ∙ ap (those (mine S laws u)) (sym dones))
      ∙ sym (filter-append (mine S laws u) (done h.stage) (path h.stage))
      ∙ ap (those (mine S laws u)) h.order
      ∙ own_those S laws u its (read arrived v.log)
      in
      rw r.is
      (record {
        front = front_from v.log (read coming v.input) (those (mine S laws u) (path h.stage)) order h.arrivals_are;
        answers = r.more;
      })

  pub facts_untaken : {n : ℕ} (not_its : S.takes u ≡ false) (w : Network (Node T C) (Msg C) (Note O)) → WithStays not_its n w → UnitFacts w
  facts_untaken not_its w r =
      let v = r.world in
      rw r.is
      (record {
        front = front_from v.log (read coming v.input) (those (mine S laws u) (read carries v.sa)) r.more.order r.holds.arrivals_are;
        answers = r.more.right;
      })

  pub unit_facts : (cs : List Choice) → IsRun (node_ready S) (node_step S) cs (start S window early late)
      → UnitFacts (run (node_step S) cs (start S window early late))
  unit_facts cs is = by (S.takes u) refl
    where
      by : (b : Bool) → S.takes u ≡ b → UnitFacts (run (node_step S) cs (start S window early late))
      by true e = facts_taken e (run (node_step S) cs (start S window early late)) (taken_run e cs is)
      by false e = facts_untaken e (run (node_step S) cs (start S window early late)) (untaken_run e cs is)

module _ {U T C R O : Type 0} (S : System U T C R O) (laws : Laws S) (window : ℕ) (early late : List ℕ) (rises : Rises 0 (early ++ late)) where
  once_of : (p : ℕ) (w : Network (Node T C) (Msg C) (Note O)) → UnitFacts S laws window early late rises (S.unit_of p) w → times p (processed w.log) ≤ 1
  once_of p w facts =
      let u = S.unit_of p in
      let own = laws.itself u in
      let front = facts.front in
      let part = times-append p (of_unit S u (processed w.log)) front.rest in
      let whole = ap (times p) front.whole in
      let one = times_once p 0 (early ++ late) rises in
      omega (arith, times_filter (mine S laws u) p own (processed w.log), times_filter (mine S laws u) p own (early ++ late), part, whole, one)

  -- what every run keeps
  pub every : (cs : List Choice) (w : Network (Node T C) (Msg C) (Note O)) → LeadsTo S window early late cs w → Every S window early late w
  every cs w leads =
      let reached = leads.reached in
      let facts : (u : U) → UnitFacts S laws window early late rises u w =
      λ u. subst (UnitFacts S laws window early late rises u) (sym reached) (unit_facts S laws window early late rises u cs leads.is_run) in
      let nobody = nobody_run S laws window early late rises cs leads.is_run in
      let world = reached ∙ nobody.is in
      let right =
      subst (λ x. is_wrong x.scan ≡ false) (sym nobody.holds.alike) (scan_right (frame S Nobody) nobody.holds.stage) in
      record {
        in_turn = record {
          rest = read coming nobody.world.input;
          whole = ap (λ x. read arrived x.log ++ read coming nobody.world.input) world ∙ nobody.holds.arrivals_are;
        };
        front = λ u. (facts u).front;
        once = λ p. once_of p w (facts (S.unit_of p));
        answers = λ u. (facts u).answers;
        laid = record { between = λ before after is. low_before_high S nobody.world.log right before after (sym (ap (λ x. x.log) world) ∙ is) };
      }
