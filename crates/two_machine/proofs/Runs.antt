-- What holds of every world of a run, complete or not: each observer sees a stage, with the packets in order.
use Rattle.two_machine.proofs.Words.{◌≡◌, ◌<◌, ℕ, suc, ◌+◌, length, Bool, true, false, Option, Some, None, List, [], ◌∷◌, ◌++◌, sym, ap, subst, ◌∙◌}
use Rattle.two_machine.proofs.Words.{append_assoc, arith, if◌then◌else◌, Choice, Network, is_enabled, world_next, run, IsRun, Move, Stage}
use Rattle.two_machine.proofs.Words.{done, path, Fits, Rises, System, Laws, Msg, Note, Node, In_packet, End, node_step, node_ready, World, net, read, those}
use Rattle.two_machine.proofs.Words.{filter-append, arrived, Observer, IsTaken, frame, view, Labels, Label, Place, In, Sc, choice, with_waits, comes, result}
use Rattle.two_machine.proofs.Words.{shape, Each}
use Rattle.two_machine.proofs.Laws.{rises_front}
use Rattle.two_machine.proofs.Shapes.{Leads}
use Rattle.two_machine.proofs.EarlySteps.{stays}
use Rattle.two_machine.proofs.LateSteps.{goes_on}
use Rattle.two_machine.proofs.StageFacts.{Knows, knows, each_those, each_after}
use Rattle.two_machine.proofs.TurnSees.{moved_by, AllowedBy, brought, Permits, turn}
use Rattle.two_machine.proofs.Arrivals.{coming, EndAt, In_input_still, On_link, Has_come, quiet_copied, Ready, arrivals, end_goes}
use Rattle.two_machine.proofs.TakenMessages.{finds, labels_less, kept_there, written, log_there, rule_there, left_in}
use Rattle.two_machine.proofs.Closing.{Closing}
use Rattle.two_machine.proofs.ClosingPlaces.{closing_keeps}
use Rattle.two_machine.proofs.NextWorlds.{IsNext, next_is}

module _ {U T C R O : Type 0} (S : System U T C R O) where
  module _ (laws : Laws S) (o : Observer U) (its : IsTaken S o) (all : List ℕ) (rises : Rises 0 all) where
    -- what holds of a world of a run
    pub record Holds (v : World T C O) : Type 0 where
      pub labels : Labels S v
      pub end_at : EndAt v
      pub closing : Closing S v
      pub arrivals_are : read arrived v.log ++ read coming v.input ≡ all
      pub stage : Stage
      pub fits : Fits stage
      pub alike : view S o v ≡ shape (frame S o) stage
      pub order : done stage ++ path stage ≡ those S.covers (read arrived v.log)

    rises_more : (n k : ℕ) (xs : List ℕ) → n < k → Rises k xs → Rises n xs
    rises_more n k [] less h = tt
    rises_more n k (x ∷ xs) less h = (omega (arith, less, h.0), h.1)

    rises_those : (n : ℕ) (xs : List ℕ) → Rises n xs → Rises n (those S.covers xs)
    rises_those n [] h = tt
    rises_those n (x ∷ xs) h = by (S.covers x) (rises_those x xs h.1)
      where
        by : (b : Bool) → Rises x (those S.covers xs) → Rises n (if b then x ∷ those S.covers xs else those S.covers xs)
        by true more = (h.0, more)
        by false more = rises_more n x (those S.covers xs) h.0 more

    -- the packets of a stage rise, and the filter matches those that wait
    pub in_order : (v : World T C O) (h : Holds v) → Rises 0 (done h.stage ++ path h.stage)
    in_order v h =
        let front : Rises 0 (read arrived v.log) = rises_front 0 (read arrived v.log) (read coming v.input) (rw h.arrivals_are rises) in
        rw h.order (rises_those 0 (read arrived v.log) front)

    pub known : (v : World T C O) (h : Holds v) → Knows (λ p. S.covers p ≡ true) (view S o v)
    known v h =
        let each : Each (λ p. S.covers p ≡ true) (done h.stage ++ path h.stage) = rw h.order (each_those S.covers (read arrived v.log)) in
        rw h.alike (knows (frame S o) (λ p. S.covers p ≡ true) h.stage (each_after (λ p. S.covers p ≡ true) (done h.stage) (path h.stage) each))

    -- what a message needs of the input and its end
    permits : (pl : Place) (v : World T C O) (x : Msg C) (rest : List (Msg C)) → Ready S pl v x → Label S pl x → Labels S (with_waits S pl rest v)
        → EndAt (with_waits S pl (x ∷ rest) v) → Permits S laws o its pl v x rest
    permits In v (In_packet p) rest ready h l (In_input_still last quiet not_yet) = (ready, not_yet)
    permits In v (In_packet p) rest ready h l (On_link empty one not_yet) = cc
    permits In v (In_packet p) rest ready h l (Has_come empty quiet has) = cc
    permits Sc v End rest ready h l (In_input_still last quiet not_yet) = absurd quiet.0
    permits Sc v End rest ready h l (On_link empty one not_yet) = (not_yet, quiet_copied S o rest (l.standing Sc) one)
    permits Sc v End rest ready h l (Has_come empty quiet has) = absurd quiet.0
    permits pl v x rest ready h l e = tt

    -- where a step of the machine leads, or none
    goes_by : (s : Stage) → Fits s → Rises 0 (done s ++ path s) → (move : Option Move) → AllowedBy (shape (frame S o) s) move
        → Leads (frame S o) s (moved_by (frame S o) move (shape (frame S o) s)) (brought move)
    goes_by s fits rise None a = stays (frame S o) s fits
    goes_by s fits rise (Some mv) a = goes_on (frame S o) s fits 0 rise mv a

    -- a step keeps all
    pub keeps : (pl : Place) (v : World T C O) (x : Msg C) (rest : List (Msg C)) → Ready S pl v x → Holds (with_waits S pl (x ∷ rest) v)
        → Holds (result S pl (with_waits S pl rest v) x)
    keeps pl v x rest ready h =
        let two = labels_less S pl v x rest h.labels in
        let kept = kept_there S pl v (x ∷ rest) h.labels in
        let knowing = known (with_waits S pl (x ∷ rest) v) h in
        let permitted = permits pl v x rest ready two.0 two.1 h.end_at in
        let turned = turn S laws o its pl v x rest two.0 knowing permitted in
        let rise = in_order (with_waits S pl (x ∷ rest) v) h in
        let goes = goes_by h.stage h.fits rise turned.move (subst (λ y. AllowedBy y turned.move) h.alike turned.allowed) in
        let came = arrivals S pl v x rest two.0 ready kept in
        let logs = log_there S pl v (x ∷ rest) in
        record {
          labels = (next_of pl two.0 two.1 knowing).labels;
          end_at = end_goes S pl v x rest two.0 ready kept h.end_at;
          closing = closing_keeps S pl v x rest two.0 h.closing;
          arrivals_are =
              ap (λ xs. xs ++ read coming (result S pl (with_waits S pl rest v) x).input) came
              ∙ append_assoc (read arrived v.log) (comes pl x) (read coming (result S pl (with_waits S pl rest v) x).input)
              ∙ ap (λ xs. read arrived v.log ++ xs) (sym (left_in S pl v x rest two.0))
              ∙ ap (λ l. read arrived l ++ read coming (with_waits S pl (x ∷ rest) v).input) (sym logs)
              ∙ h.arrivals_are;
          stage = goes.next;
          fits = goes.fits;
          alike = turned.sees ∙ ap (moved_by (frame S o) turned.move) h.alike ∙ goes.alike;
          order =
              goes.order
              ∙ ap (λ xs. xs ++ brought turned.move) (h.order ∙ ap (λ l. those S.covers (read arrived l)) logs)
              ∙ ap (λ xs. those S.covers (read arrived v.log) ++ xs) turned.brings_is
              ∙ sym (filter-append S.covers (read arrived v.log) (comes pl x))
              ∙ ap (those S.covers) (sym came);
        }
      where
        next_of : (pl : Place) → Label S pl x → Labels S (with_waits S pl rest v) → Knows (λ p. S.covers p ≡ true) (view S o (with_waits S pl (x ∷ rest) v))
            → IsNext S (world_next (node_step S) (net (with_waits S pl (x ∷ rest) v)) (choice pl)) (result S pl (with_waits S pl rest v) x)
        next_of pl h l k = next_is S pl v x rest (rule_there S pl v (x ∷ rest) k.no_drop) h l

    pub next_equal : (pl : Place) (v : World T C O) (x : Msg C) (rest : List (Msg C)) → Holds (with_waits S pl (x ∷ rest) v)
        → world_next (node_step S) (net (with_waits S pl (x ∷ rest) v)) (choice pl) ≡ net (result S pl (with_waits S pl rest v) x)
    next_equal pl v x rest h =
        let two = labels_less S pl v x rest h.labels in
        let knowing = known (with_waits S pl (x ∷ rest) v) h in
        (next_is S pl v x rest (rule_there S pl v (x ∷ rest) knowing.no_drop) two.0 two.1).is

    -- the core's world after so many choices, and what holds of it besides
    pub record Reached (Q : ℕ → World T C O → Type 0) (n : ℕ) (w : Network (Node T C) (Msg C) (Note O)) : Type 0 where
      pub world : World T C O
      pub is : w ≡ net world
      pub holds : Holds world
      pub more : Q n world

    -- what holds besides goes on with each message that is taken
    abbrev pub Keeps : (ℕ → World T C O → Type 0) → Type 0
    Keeps Q = (n : ℕ) (pl : Place) (v : World T C O) (x : Msg C) (rest : List (Msg C)) → Ready S pl v x → Holds (with_waits S pl (x ∷ rest) v)
        → Q n (with_waits S pl (x ∷ rest) v) → Q (suc n) (result S pl (with_waits S pl rest v) x)

    module _ (Q : ℕ → World T C O → Type 0) (goes : Keeps Q) where
      pub step_reaches : (n : ℕ) (v : World T C O) (c : Choice) → Holds v → Q n v → is_enabled (node_ready S) (net v) c ≡ true
          → Reached Q (suc n) (world_next (node_step S) (net v) c)
      step_reaches n v c h q on =
          let took = finds S v c.node c.port on in
          let wrote = written S took.place v (took.message ∷ took.rest) took.waits_is in
          let holds : Holds (with_waits S took.place (took.message ∷ took.rest) v) = subst Holds wrote h in
          let more : Q n (with_waits S took.place (took.message ∷ took.rest) v) = subst (Q n) wrote q in
          let at : c ≡ choice took.place = took.is in
          subst (λ y. Reached Q (suc n) (world_next (node_step S) (net v) y)) (sym at)
          (subst (λ y. Reached Q (suc n) (world_next (node_step S) (net y) (choice took.place))) (sym wrote) (record {
            world = result S took.place (with_waits S took.place took.rest v) took.message;
            is = next_equal took.place v took.message took.rest holds;
            holds = keeps took.place v took.message took.rest took.ready holds;
            more = goes n took.place v took.message took.rest took.ready holds more;
          }))

      pub reach : (cs : List Choice) (n : ℕ) (w : Network (Node T C) (Msg C) (Note O)) → Reached Q n w → IsRun (node_ready S) (node_step S) cs w
          → Reached Q (length cs + n) (run (node_step S) cs w)
      reach [] n w r is = let counts : n ≡ 0 + n = omega arith in subst (λ k. Reached Q k w) counts r
      reach (c ∷ cs) n w r is =
          let here = r.is in
          let on : is_enabled (node_ready S) (net r.world) c ≡ true = subst (λ y. is_enabled (node_ready S) y c ≡ true) here is.0 in
          let next = subst (λ y. Reached Q (suc n) (world_next (node_step S) y c)) (sym here) (step_reaches n r.world c r.holds r.more on) in
          let counts : length cs + suc n ≡ suc (length cs) + n = omega arith in
          subst (λ k. Reached Q k (run (node_step S) (c ∷ cs) w)) counts (reach cs (suc n) (world_next (node_step S) w c) next is.1)
