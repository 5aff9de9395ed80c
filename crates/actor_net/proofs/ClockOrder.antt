-- Steps of all nodes in the order of their clocks: when histories fit a world, and what a run leaves. This is the first half of
-- the law of the merge.
use Rattle.std.proofs.Common.{◌≡◌, ◌≢◌, ℕ, ◌*◌, ◌<◌, ◌≤◌, Bool, true, false, List, [], ◌∷◌, ◌++◌, length, get_or, map, refl, sym, ap, subst, ◌∙◌, arith}
use Rattle.std.specs.Prelude.{if◌then◌else◌, ◌==◌}
use Rattle.std.proofs.lemmas.Bool.Decides.{nat_tests, Decides-eqb}
use Rattle.actor_net.specs.declared.choice.Choice.{Choice}
use Rattle.actor_net.specs.declared.stamped.Stamped.{Stamped}
use Rattle.actor_net.specs.Network.{Network, Stepped, queue_at, run, IsRun, reaches}
use Rattle.actor_net.specs.Histories.{NodeStep, messages, does, node_after, taken_at, sent_for, with_clock}
use Rattle.actor_net.specs.Histories.{sent_to, put_between, notes_of, PortsBelow, WasReady, notes_of_choices}
use Rattle.actor_net.proofs.EnabledChoices.{at}
use Rattle.actor_net.proofs.WaitingMessages.{less_first}

pub same_test : (k : ℕ) → (k == k) ≡ true
same_test k = (Decides-eqb k k).1 refl

pub other_test : (j k : ℕ) → j ≢ k → (j == k) ≡ false
other_test j k other = grind (arith, nat_tests)

module _ {M : Type 0} where
  -- no clock is below this one
  abbrev pub NoClockBelow : ℕ → List (NodeStep M) → Type 0
  NoClockBelow clock [] = Unit {0}
  NoClockBelow clock (e ∷ es) = (clock ≤ e.clock) × NoClockBelow clock es

  -- each message was sent before its step
  abbrev pub SentBefore : List (NodeStep M) → Type 0
  SentBefore [] = Unit {0}
  SentBefore (e ∷ es) = (e.took.clock < e.clock) × SentBefore es

  -- the histories with another one at this node
  abbrev pub with_history : (ℕ → List (NodeStep M)) → ℕ → List (NodeStep M) → ℕ → List (NodeStep M)
  with_history hs k es j = if j == k then es else hs j

  -- these steps, each with its node, are those of the histories, and none has a smaller clock than one before it
  abbrev pub InClockOrder : (ℕ → List (NodeStep M)) → List (ℕ × NodeStep M) → Type 0
  InClockOrder hs [] = (k : ℕ) → hs k ≡ []
  InClockOrder hs (m ∷ ms) =
      (es : List (NodeStep M)) × (hs m.0 ≡ m.1 ∷ es) × ((j : ℕ) → NoClockBelow m.1.clock (hs j)) × InClockOrder (with_history hs m.0 es) ms

  -- the choices that these steps were
  abbrev pub choices_of : List (ℕ × NodeStep M) → List Choice
  choices_of ms = map (λ m. at m.0 m.1.port) ms

  -- a fact of the histories with another one at k
  pub at_history : (hs : ℕ → List (NodeStep M)) (k : ℕ) (es : List (NodeStep M)) (P : ℕ → List (NodeStep M) → Type 0) (j : ℕ) → P k es
      → (j ≢ k → P j (hs j)) → P j (with_history hs k es j)
  at_history hs k es P j here others =
      elim (j == k) as (λ b. (j == k) ≡ b → P j (if b then es else hs j)) [
        | true ↦ λ t. let same : j ≡ k = (Decides-eqb j k).0 t in subst (λ y. P y es) (sym same) here
        | false ↦ λ f. others (λ same. let yes = (Decides-eqb j k).1 same in let never : false ≡ true = sym f ∙ yes in cc)
      ] refl

module _ {A M N : Type 0} (ready : A → M → Bool) (step : A → ℕ → M → Stepped A M N) (d : A) where
  -- the node of this number
  abbrev pub node_of : Network A M N → ℕ → A
  node_of w j = get_or w.nodes j d

  -- histories that fit a world: on each link, what their steps take and then what is left is what the link holds and then
  -- what their steps put there
  pub record FitsWorld (w : Network A M N) (hs : ℕ → List (NodeStep M)) (holds left : ℕ → ℕ → List (Stamped M)) : Type 0 where
    pub some : 0 < length w.nodes
    pub square : length w.links ≡ length w.nodes * length w.nodes
    pub shows : (s r : ℕ) → s < length w.nodes → r < length w.nodes → queue_at w (at r s) ≡ messages (holds s r)
    pub whole : (s r : ℕ) → s < length w.nodes → r < length w.nodes
        → taken_at s (hs r) ++ left s r ≡ holds s r ++ put_between step (length w.nodes) s r (node_of w s) (hs s)
    pub within : (j : ℕ) → length w.nodes ≤ j → hs j ≡ []
    pub ports : (j : ℕ) → PortsBelow (length w.nodes) (hs j)
    pub was_ready : (j : ℕ) → j ≡ 0 → WasReady ready step (node_of w j) (hs j)

  -- what a run of these choices does
  pub record RunLeaves (w : Network A M N) (hs : ℕ → List (NodeStep M)) (left : ℕ → ℕ → List (Stamped M)) (cs : List Choice) : Type 0 where
    pub is_run : IsRun ready step cs w
    pub count : length (run step cs w).nodes ≡ length w.nodes
    pub nodes : (j : ℕ) → node_of (run step cs w) j ≡ node_after step (node_of w j) (hs j)
    pub waits : (s r : ℕ) → s < length w.nodes → r < length w.nodes → queue_at (run step cs w) (at r s) ≡ messages (left s r)
    pub log : (run step cs w).log ≡ w.log ++ notes_of_choices (λ j. notes_of step (node_of w j) (hs j)) cs
    pub links : length (run step cs w).links ≡ length w.links
    pub loop : get_or (run step cs w).links 0 [] ≡ get_or w.links 0 []

-- the first of a list that is two joined, where the second begins with what is later
pub head_held : {M : Type 0} (x : Stamped M) (xs ys zs : List (Stamped M)) → x ∷ xs ≡ ys ++ zs
    → ((z : Stamped M) (rest : List (Stamped M)) → zs ≡ z ∷ rest → x.clock < z.clock) → (rest : List (Stamped M)) × (ys ≡ x ∷ rest)
head_held x xs [] zs is later = let never = later x xs (sym is) in absurd (omega arith)
head_held x xs (y ∷ ys) zs is later = (ys, cc)

stamped_head : {M : Type 0} (c clock : ℕ) (ms : List M) (more : List (Stamped M)) (z : Stamped M) (rest : List (Stamped M)) → c ≤ clock
    → with_clock clock ms ++ more ≡ z ∷ rest → (more ≡ z ∷ rest → c ≤ z.clock) → c ≤ z.clock
stamped_head c clock [] more z rest first is later = later is
stamped_head c clock (m ∷ ms) more z rest first is later =
    let same : clock ≡ z.clock = cc in
    rw (← same) first

module _ {A M N : Type 0} (step : A → ℕ → M → Stepped A M N) where
  -- what is sent carries a clock that is no smaller
  sent_late : (c r : ℕ) (a : A) (es : List (NodeStep M)) (z : Stamped M) (rest : List (Stamped M)) → NoClockBelow c es → sent_to step r a es ≡ z ∷ rest
      → c ≤ z.clock
  sent_late c r a [] z rest over is = cc
  sent_late c r a (e ∷ es) z rest over is =
      stamped_head c e.clock (sent_for r (does step a e).sends) (sent_to step r (does step a e).node es) z rest over.0 is
      (sent_late c r (does step a e).node es z rest over.1)

  pub put_late : (c n s r : ℕ) (a : A) (es : List (NodeStep M)) (z : Stamped M) (rest : List (Stamped M)) → NoClockBelow c es
      → put_between step n s r a es ≡ z ∷ rest → c ≤ z.clock
  put_late c n s r a es z rest over is =
      elim (reaches n s r) as (λ b. (if b then sent_to step r a es else []) ≡ z ∷ rest → c ≤ z.clock) [
        | true ↦ λ sent. sent_late c r a es z rest over sent
        | false ↦ λ never. cc
      ] is

pub messages-stamped : {M : Type 0} (clock : ℕ) (ms : List M) → messages (with_clock clock ms) ≡ ms
messages-stamped clock [] = refl
messages-stamped clock (m ∷ ms) = ap (λ xs. m ∷ xs) (messages-stamped clock ms)

pub messages-less_first : {M : Type 0} (b : Bool) (xs : List (Stamped M)) → messages (less_first b xs) ≡ less_first b (messages xs)
messages-less_first true [] = refl
messages-less_first true (x ∷ xs) = refl
messages-less_first false xs = refl
