-- The theorem's words: what is read off a run of a two-phase update, and what holds of every run. Packets go by their numbers.
use Rattle.two_machine.proofs.Words.{◌≡◌, ◌≤◌, ◌⊎◌, ℕ, ◌+◌, ◌*◌, Bool, true, Option, Some, None, List, [], ◌∷◌, ◌++◌, length, if◌then◌else◌}
use Rattle.two_machine.proofs.Words.{Choice, Network, IsRun, is_enabled, is_done, run, opening, System, Msg, Note, Node, Processed, Low, High, Done}
use Rattle.two_machine.proofs.Words.{No_packet, Is_switch, Is_inst, node_step, node_ready, node_ended, first_nodes, items, read, those, arrived, ran}
use Rattle.std.specs.Prelude.{fold as fold_over, scan, filter_map, option_to_list}
use Rattle.std.specs.List.{list_any}
pub use Rattle.actor_net.specs.Numbers.{IsFront, times}

module _ {O : Type 0} where
  -- packets that were processed, in order
  abbrev pub processed : List (Note O) → List ℕ
  processed ns = read ran ns

  -- what stands after the first Low
  abbrev pub after_low : List (Note O) → List (Note O)
  after_low [] = []
  after_low (Low ∷ ns) = ns
  after_low (n ∷ ns) = after_low ns

  -- whether such a packet arrived
  abbrev pub has_come : (ℕ → Bool) → List (Note O) → Bool
  has_come k ns = list_any k (read arrived ns)

  -- the notes of the update's end
  abbrev pub verdicts : List (Note O) → List (Note O)
  verdicts [] = []
  verdicts (Done ∷ ns) = Done ∷ verdicts ns
  verdicts (No_packet ∷ ns) = No_packet ∷ verdicts ns
  verdicts (n ∷ ns) = verdicts ns

-- the window of the switch, which is the first node
abbrev pub switch_window : {T C : Type 0} → List (Node T C) → Option ℕ
switch_window (Is_switch s ∷ nodes) = Some s.window
switch_window nodes = None

module _ {U T C R O : Type 0} (S : System U T C R O) where
  -- the packets of a unit among these
  abbrev pub of_unit : U → List ℕ → List ℕ
  of_unit u ps = those (λ p. S.equal (S.unit_of p) u) ps

  -- one instance that nothing moves: its record after packets of one unit, and its outputs
  abbrev pub fold : Option R → List ℕ → Option R
  fold r ps = fold_over (λ before p. Some (S.step before p)) r ps

  abbrev pub outputs : Option R → List ℕ → List O
  outputs r ps = scan (λ before p. Some (S.step before p)) S.output r ps

  -- what was answered to the unit's packets
  abbrev pub answer : U → Note O → List O
  answer u (Processed p i o) = if S.equal (S.unit_of p) u then o ∷ [] else []
  answer u n = []

  abbrev pub given : U → List (Note O) → List O
  given u ns = read (answer u) ns

  -- the unit's record that is live at a node
  abbrev pub live_in : U → Node T C → Option R
  live_in u (Is_inst n i) = S.at i.table u
  live_in u n = None

  -- Low stands before High, and between them such a packet arrived
  pub record LowBeforeHigh (log : List (Note O)) : Type 0 where
    pub between : (before after : List (Note O)) → log ≡ before ++ High ∷ after → has_come S.covers (after_low before) ≡ true

module _ {U T C R O : Type 0} (S : System U T C R O) (window : ℕ) (early late : List ℕ) where
  abbrev pub start : Network (Node T C) (Msg C) (Note O)
  start = opening (first_nodes S window) (items S early late)

  -- these choices are a run, and lead to this world
  pub record LeadsTo (cs : List Choice) (w : Network (Node T C) (Msg C) (Note O)) : Type 0 where
    pub is_run : IsRun (node_ready S) (node_step S) cs start
    pub reached : w ≡ run (node_step S) cs start

  -- what holds of every run
  pub record Every (w : Network (Node T C) (Msg C) (Note O)) : Type 0 where
    -- the switch takes the packets in their order
    pub in_turn : IsFront (read arrived w.log) (early ++ late)
    -- what is processed of a unit is a front of its packets, each packet once at most, with the outputs of one instance that nothing moves
    pub front : (u : U) → IsFront (of_unit S u (processed w.log)) (of_unit S u (early ++ late))
    pub once : (p : ℕ) → times p (processed w.log) ≤ 1
    pub answers : (u : U) → given S u w.log ≡ outputs S None (of_unit S u (processed w.log))
    -- the low rule is laid before the high one
    pub laid : LowBeforeHigh S w.log

  -- the run is short, and goes on unless nothing is left to do; and the window stays
  pub record Ends (cs : List Choice) (w : Network (Node T C) (Msg C) (Note O)) : Type 0 where
    pub short : length cs ≤ 8 * length (early ++ late) + 32
    pub goes_on : (is_done (node_ended S) w ≡ true) ⊎ ((c : Choice) × (is_enabled (node_ready S) w c ≡ true))
    pub window_is : switch_window w.nodes ≡ Some window

  -- what holds besides where nothing is left to do
  pub record Complete (w : Network (Node T C) (Msg C) (Note O)) : Type 0 where
    -- each packet of a unit is processed, and its record is live at one instance alone
    pub all : (u : U) → of_unit S u (processed w.log) ≡ of_unit S u (early ++ late)
    pub live : (u : U) → filter_map (live_in S u) w.nodes ≡ option_to_list (fold S None (of_unit S u (early ++ late)))
    -- the verdict
    pub verdict : verdicts w.log ≡ (if has_come S.covers (after_low w.log) then Done ∷ [] else No_packet ∷ [])

  -- the theorem, of a run from a start
  pub record Published (cs : List Choice) (w : Network (Node T C) (Msg C) (Note O)) : Type 0 where
    pub every : Every w
    pub ends : Ends cs w
    pub complete : is_done (node_ended S) w ≡ true → Complete w
