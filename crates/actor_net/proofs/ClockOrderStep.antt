-- One step of the merge's law: the first of the steps in order is enabled, and what is left of the histories fits the world
-- after it.
use Rattle.std.proofs.Common.{◌≡◌, ◌≢◌, ℕ, ◌<◌, ◌≤◌, Bool, true, false, Some, List, [], ◌∷◌, ◌++◌, length, refl, sym, ap, ◌∙◌, append_assoc, arith, inl, inr}
use Rattle.std.specs.Prelude.{if◌then◌else◌, ◌==◌, ◌&&◌, slice_get}
use Rattle.std.proofs.lemmas.Bool.{cases_lt}
use Rattle.std.proofs.lemmas.Bool.Decides.{nat_tests, Decides-eqb}
use Rattle.std.proofs.lemmas.List.{append_cancel_left, map-append, get_or_default}
use Rattle.std.proofs.lemmas.Option.{slice_get-get_or}
use Rattle.std.proofs.Math.Bool.{and-false}
use Rattle.actor_net.specs.declared.stamped.Stamped.{Stamped}
use Rattle.actor_net.specs.Network.{Network, Stepped, queue_at, is_enabled, takes_first, world_next, reaches}
use Rattle.actor_net.specs.Histories.{NodeStep, messages, does, taken_at, sent_for, with_clock, sent_to, put_between, PortsBelow, WasReady}
use Rattle.actor_net.proofs.EnabledChoices.{at}
use Rattle.actor_net.proofs.LinkLemmas.{put_on_link}
use Rattle.actor_net.proofs.WaitingMessages.{less_first}
use Rattle.actor_net.proofs.StepOutcome.{Takes, Outcome, taken_outcome}
use Rattle.actor_net.proofs.ClockOrder.{NoClockBelow, SentBefore, with_history, at_history, same_test, other_test}
use Rattle.actor_net.proofs.ClockOrder.{head_held, put_late, messages-stamped, messages-less_first, node_of, FitsWorld}

test_swap : (a b : ℕ) → (a == b) ≡ (b == a) && true
test_swap a b =
    elim (b == a) as (λ t. (b == a) ≡ t → (a == b) ≡ t && true) [
      | true ↦ λ is. (Decides-eqb a b).1 (sym ((Decides-eqb b a).0 is))
      | false ↦ λ off. other_test a b (λ same. let yes = (Decides-eqb b a).1 (sym same) in let never : false ≡ true = sym off ∙ yes in cc)
    ] refl

module _ {A M N : Type 0} (ready : A → M → Bool) (step : A → ℕ → M → Stepped A M N) (d : A) (w : Network A M N) (hs : ℕ → List (NodeStep M))
    (holds left : ℕ → ℕ → List (Stamped M)) (k : ℕ) (e : NodeStep M) (es : List (NodeStep M)) where
  -- the next step in order, of node k
  pub record NextStep : Type 0 where
    pub fits : FitsWorld ready step d w hs holds left
    pub past : (j : ℕ) → SentBefore (hs j)
    pub over : (j : ℕ) → NoClockBelow e.clock (hs j)
    pub is : hs k ≡ e ∷ es

  abbrev pub n : ℕ
  n = length w.nodes

  abbrev pub did : Stepped A M N
  did = does step (node_of ready step d w k) e

  abbrev pub next : Network A M N
  next = world_next step w (at k e.port)

  -- the histories after it
  abbrev pub rest : ℕ → List (NodeStep M)
  rest = with_history hs k es

  -- what the links hold after it
  abbrev pub gain : ℕ → ℕ → List (Stamped M)
  gain s r = with_clock e.clock (put_on_link n k s r did.sends)

  abbrev pub holds' : ℕ → ℕ → List (Stamped M)
  holds' s r = less_first ((s == e.port) && (r == k)) (holds s r) ++ gain s r

  receiver : NextStep → k < n
  receiver h = elim (cases_lt k n) [ inl less ↦ less | inr over ↦ (let empty = h.fits.within k over in let never = sym empty ∙ h.is in cc) ]

  sender : NextStep → e.port < n
  sender h = let is = h.is in (rw is at (h.fits.ports k)).0

  -- the message is the first that the link holds
  pub held : NextStep → (more : List (Stamped M)) × (holds e.port k ≡ e.took ∷ more)
  held h =
      let is = h.is in
      let same = same_test e.port in
      let takes : taken_at e.port (e ∷ es) ≡ e.took ∷ taken_at e.port es = rw same refl in
      let first : e.took ∷ (taken_at e.port es ++ left e.port k) ≡ holds e.port k ++ put_between step n e.port k (node_of ready step d w e.port) (hs e.port) =
      ap (λ xs. xs ++ left e.port k) (sym (ap (λ xs. taken_at e.port xs) is ∙ takes)) ∙ h.fits.whole e.port k (sender h) (receiver h) in
      head_held e.took (taken_at e.port es ++ left e.port k) (holds e.port k) (put_between step n e.port k (node_of ready step d w e.port) (hs e.port)) first
      (λ z more sent. let late = put_late step e.clock n e.port k (node_of ready step d w e.port) (hs e.port) z more (h.over e.port) sent in
      let early = (rw is at (h.past k)).0 in omega arith)

  takes : (h : NextStep) → Takes step n w k e.port (node_of ready step d w k) e.took.message (messages (held h).0)
  takes h = record {
    count = refl;
    some = h.fits.some;
    square = h.fits.square;
    receiver = receiver h;
    sender = sender h;
    node_is = λ other. get_or_default w.nodes k other d (receiver h);
    waits = h.fits.shows e.port k (sender h) (receiver h) ∙ ap messages (held h).1;
  }

  pub enabled : NextStep → is_enabled ready w (at k e.port) ≡ true
  enabled h =
      let is = h.is in
      let there : slice_get w.nodes k ≡ Some (node_of ready step d w k) = slice_get-get_or w.nodes k d (receiver h) in
      let was : k ≡ 0 → e.port ≡ 0 → ready (node_of ready step d w k) e.took.message ≡ true = λ first. (rw is at (h.fits.was_ready k first)).0 in
      ap (λ o. takes_first ready (at k e.port) o (queue_at w (at k e.port))) there
      ∙ ap (λ ms. takes_first ready (at k e.port) (Some (node_of ready step d w k)) ms) (takes h).waits
      ∙ elim ((k == 0) && (e.port == 0))
      as (λ b. (k == 0) && (e.port == 0) ≡ b → (if b then ready (node_of ready step d w k) e.took.message else true) ≡ true) [
        | true ↦ λ on. was (grind (arith, nat_tests)) (grind (arith, nat_tests))
        | false ↦ λ _. refl
      ] refl

  pub outcome_by : (h : NextStep) → Outcome step n w k e.port (node_of ready step d w k) e.took.message (messages (held h).0) next
  outcome_by h = taken_outcome step n w k e.port (node_of ready step d w k) e.took.message (messages (held h).0) (takes h)

  pub node_own : NextStep → node_of ready step d next k ≡ did.node
  node_own h = (outcome_by h).own d

  pub node_other : NextStep → (j : ℕ) → j ≢ k → node_of ready step d next j ≡ node_of ready step d w j
  node_other h j other = (outcome_by h).others j d other

  shows' : NextStep → (s r : ℕ) → s < n → r < n → queue_at next (at r s) ≡ messages (holds' s r)
  shows' h s r hs' hr =
      let test = (s == e.port) && (r == k) in
      (outcome_by h).waits s r
      ∙ ap (λ xs. less_first test xs ++ put_on_link n k s r did.sends) (h.fits.shows s r hs' hr)
      ∙ sym (rw (
        map-append (λ x. x.message) (less_first test (holds s r)) (gain s r),
        messages-less_first test (holds s r),
        messages-stamped e.clock (put_on_link n k s r did.sends),
      ) refl)

  -- what this step takes from a link
  abbrev head : ℕ → ℕ → List (Stamped M)
  head s r = if (s == e.port) && (r == k) then e.took ∷ [] else []

  taken_here : NextStep → (s r : ℕ) → taken_at s (hs r) ≡ head s r ++ taken_at s (rest r)
  taken_here h s r =
      let is = h.is in
      at_history hs k es (λ y xs. taken_at s (hs y) ≡ head s y ++ taken_at s xs) r
      (let same = same_test k in rw (is, same, test_swap e.port s) refl)
      (λ other. let off = other_test r k other in rw (off, and-false (s == e.port)) refl)

  held_here : NextStep → (s r : ℕ) → holds s r ≡ head s r ++ less_first ((s == e.port) && (r == k)) (holds s r)
  held_here h s r =
      elim ((s == e.port) && (r == k)) as (λ b. (s == e.port) && (r == k) ≡ b → holds s r ≡ (if b then e.took ∷ [] else []) ++ less_first b (holds s r)) [
        | true ↦ λ on.
            let here : s ≡ e.port = grind (arith, nat_tests) in
            let this : r ≡ k = grind (arith, nat_tests) in
            let first = (held h).1 in
            rw (here, this, first) refl
        | false ↦ λ _. refl
      ] refl

  sent_here : NextStep → (s r : ℕ)
      → put_between step n s r (node_of ready step d w s) (hs s) ≡ gain s r ++ put_between step n s r (node_of ready step d next s) (rest s)
  sent_here h s r =
      let is = h.is in
      let own = node_own h in
      at_history hs k es
      (λ y xs. put_between step n y r (node_of ready step d w y) (hs y) ≡ gain y r ++ put_between step n y r (node_of ready step d next y) xs) s
      (let same = same_test k in
      rw (is, own, same) (elim (reaches n k r) as (λ b. (if b then sent_to step r (node_of ready step d w k) (e ∷ es) else [])
      ≡ with_clock e.clock (if b then sent_for r did.sends else []) ++ (if b then sent_to step r did.node es else [])) [ true ↦ refl | false ↦ refl ]))
      (λ other. let off = other_test s k other in let node = node_other h s other in rw (off, node) refl)

  whole' : NextStep → (s r : ℕ) → s < n → r < n → taken_at s (rest r) ++ left s r ≡ holds' s r ++ put_between step n s r (node_of ready step d next s) (rest s)
  whole' h s r hs' hr =
      let lost = less_first ((s == e.port) && (r == k)) (holds s r) in
      let more = put_between step n s r (node_of ready step d next s) (rest s) in
      let all = put_between step n s r (node_of ready step d w s) (hs s) in
      let both : head s r ++ (taken_at s (rest r) ++ left s r) ≡ head s r ++ (lost ++ (gain s r ++ more)) =
      sym (append_assoc (head s r) (taken_at s (rest r)) (left s r))
      ∙ ap (λ xs. xs ++ left s r) (sym (taken_here h s r))
      ∙ h.fits.whole s r hs' hr
      ∙ ap (λ xs. xs ++ all) (held_here h s r)
      ∙ append_assoc (head s r) lost all
      ∙ ap (λ xs. head s r ++ (lost ++ xs)) (sent_here h s r) in
      append_cancel_left (head s r) (taken_at s (rest r) ++ left s r) (lost ++ (gain s r ++ more)) both ∙ sym (append_assoc lost (gain s r) more)

  -- what is left of the histories fits the world after the step
  pub fits_on : NextStep → FitsWorld ready step d next rest holds' left
  fits_on h =
      let is = h.is in
      let count = (outcome_by h).count in
      let own = node_own h in
      record {
        some = rw count h.fits.some;
        square = (outcome_by h).links ∙ rw count refl;
        shows = λ s r hs' hr. shows' h s r (rw count at hs') (rw count at hr);
        whole = λ s r hs' hr. rw count (whole' h s r (rw count at hs') (rw count at hr));
        within = rw count (λ j past. at_history hs k es (λ y xs. n ≤ y → xs ≡ []) j (λ over. let small = receiver h in absurd (omega arith))
            (λ _. h.fits.within j) past);
        ports = rw count (λ j. at_history hs k es (λ y xs. PortsBelow n xs) j (rw is at (h.fits.ports k)).1 (λ _. h.fits.ports j));
        was_ready = λ j. at_history hs k es (λ y xs. y ≡ 0 → WasReady ready step (node_of ready step d next y) xs) j
            (rw own (λ first. (rw is at (h.fits.was_ready k first)).1))
            (λ other. let node = node_other h j other in rw node (h.fits.was_ready j));
      }

  pub past_on : NextStep → (j : ℕ) → SentBefore (rest j)
  past_on h j = let is = h.is in at_history hs k es (λ y xs. SentBefore xs) j (rw is at (h.past k)).1 (λ _. h.past j)
