-- A whole round, from what its members did: the choices are a run, and the world left is its replay.
use Rattle.std.proofs.Common.{◌≡◌, ◌<◌, ℕ, zero, suc, Bool, true, false, true≢false, List, []}
use Rattle.std.proofs.Common.{◌∷◌, ◌++◌, length, slice_index_or, slice_set, map, sym, ◌∙◌, ap, refl, subst, arith, append-nil}
use Rattle.std.specs.List.{list_all}
use Rattle.std.proofs.lemmas.List.{length-map, get_or-map}
use Rattle.std.proofs.lemmas.Bool.{and_parts}
use Rattle.actor_net.specs.declared.choice.Choice.{Choice}
use Rattle.actor_net.specs.Histories.{notes_of_choices}
use Rattle.actor_net.specs.Merging.{IsMerge}
use Rattle.actor_net.specs.Network.{Network, Stepped, IsWorld, IsRun, run, is_enabled}
use Rattle.actor_net.proofs.ClockOrder.{RunLeaves}
use Rattle.actor_net.proofs.MergeRun.{merged, replay_is}
use Rattle.actor_threads.specs.declared.groups.Member.{Member}
use Rattle.actor_threads.specs.Groups.{has_run, AllInRound}
use Rattle.actor_threads.specs.Ways.{Incoming, Outgoing}
use Rattle.actor_threads.specs.Work.{WorkerView, Ran}
use Rattle.actor_threads.specs.LinkTable.{row_at, ways_of}
use Rattle.actor_threads.specs.Round.{AllStart, CanCloseAll, AllClosed, RoundLeft, StageLeft, after_log}
use Rattle.actor_threads.proofs.GroupLemmas.{ran}
use Rattle.actor_threads.proofs.RoundReplay.{can_close_all, node_steps, holds, left, rise_is, matches, fits, leaves}
use Rattle.actor_threads.proofs.RoundWithoutChoice.{history_of, no_steps, all_quiet}

-- a node of a world
pub some_node : {A : Type 0} (nodes : List A) → 0 < length nodes → A
some_node [] h = absurd (omega arith)
some_node (x ∷ xs) h = x

all_at : {X : Type 0} (p : X → Bool) (xs : List X) (i : ℕ) (d : X) → list_all p xs ≡ true → i < length xs → p (slice_index_or xs i d) ≡ true
all_at p [] i d e h = absurd (omega arith)
all_at p (x ∷ xs) zero d e h = (and_parts (p x) (list_all p xs) e).0
all_at p (x ∷ xs) (suc i) d e h = all_at p xs i d (and_parts (p x) (list_all p xs) e).1 (omega arith)

module _ {A M N : Type 0} where
  abbrev pub workers : List (Member A M N) → List (WorkerView A M N)
  workers members = map (λ (s : Member A M N). s.worker) members

  pub of_workers : {X : Type 0} (f : WorkerView A M N → X) (members : List (Member A M N))
      → map (λ (s : Member A M N). f s.worker) members ≡ map f (workers members)
  of_workers f [] = refl
  of_workers f (s ∷ ss) = ap (λ l. f s.worker ∷ l) (of_workers f ss)

module _ {A M N : Type 0} (ready : A → M → Bool) (step : A → ℕ → M → Stepped A M N) (w : Network A M N) (is : IsWorld w)
    (before after : List (Member A M N)) (all : AllStart w (workers before))
    (round : AllInRound ready step before after) (done : list_all has_run after ≡ true) (same : length after ≡ length before) where
  d : A
  d = some_node w.nodes is.some_node

  abbrev blank : WorkerView A M N
  blank = record { number = 0; node = d; clock = 0; steps = []; notes = []; ins = []; outs = [] }

  member_count : length before ≡ length w.nodes
  member_count = sym (length-map before _) ∙ all.count

  count : length (workers after) ≡ length w.nodes
  count = length-map after _ ∙ same ∙ member_count

  each : (j : ℕ) (e : WorkerView A M N) → j < length w.nodes → Ran ready step (slice_index_or (workers before) j e) (slice_index_or (workers after) j e)
  each j e h =
      let member : Member A M N = record { worker = e; looked = false; moved = false; failed = false } in
      let inside : j < length before = subst (λ m. j < m) (sym member_count) h in
      let there : j < length after = subst (λ m. j < m) (sym same) inside in
      subst (λ (v : WorkerView A M N × WorkerView A M N). Ran ready step v.0 v.1) (λ i. (
        sym (get_or-map (λ (s : Member A M N). s.worker) before j member e inside) i,
        sym (get_or-map (λ (s : Member A M N). s.worker) after j member e there) i,
      ))
      (ran ready step _ _ (round j member inside) (all_at has_run after j member done there))

  pub can_close_members : CanCloseAll (length w.nodes) (map (λ (s : WorkerView A M N). s.ins) (workers after))
      (map (λ (s : WorkerView A M N). s.outs) (workers after))
  can_close_members = can_close_all ready step w (workers before) (workers after) d is all each count

  -- what the workers leave
  abbrev pub left_over : RoundLeft A M
  left_over = record {
    nodes = map (λ (s : WorkerView A M N). s.node) (workers after);
    ways = ways_of (map (λ (s : WorkerView A M N). s.ins) (workers after)) (map (λ (s : WorkerView A M N). s.outs) (workers after));
  }

  module _ (v : Network A M N) (g : StageLeft left_over v) (cs : List Choice) (m : IsMerge (map history_of (workers after)) cs) where
    nodes : length (map (λ (s : WorkerView A M N). s.node) (workers after)) ≡ length w.nodes
    nodes = length-map (workers after) _ ∙ count

    closed : AllClosed (length w.nodes) (length w.nodes) left_over.ways g.links
    closed = subst (λ n. AllClosed n n left_over.ways g.links) nodes g.closed

    replayed : RunLeaves ready step d w (node_steps ready step w (workers before) (workers after) d is all each count)
        (left ready step w (workers before) (workers after) d is all each count g.links closed.count closed.closed) cs
    replayed = merged ready step d w (map history_of (workers after)) cs (node_steps ready step w (workers before) (workers after) d is all each count)
        (holds ready step w (workers before) (workers after) d is all each count)
        (left ready step w (workers before) (workers after) d is all each count g.links closed.count closed.closed)
        m (matches ready step w (workers before) (workers after) d is all each count)
        (rise_is ready step w (workers before) (workers after) d is all each count)
        (fits ready step w (workers before) (workers after) d is all each count g.links closed.count closed.closed)

    -- the choices are a run
    pub is_run : IsRun ready step cs w
    is_run = replayed.is_run

    -- and it leads to the stage that is left, with the notes in the order of the choices
    pub is_replay : w.log ≡ [] → run step cs w ≡ after_log (notes_of_choices (λ j. row_at (map (λ (s : WorkerView A M N). s.notes) (workers after)) j) cs) v
    is_replay none =
        let notes = notes_of_choices (λ j. row_at (map (λ (s : WorkerView A M N). s.notes) (workers after)) j) cs in
        sym (replay_is ready step d w _ (node_steps ready step w (workers before) (workers after) d is all each count)
        (left ready step w (workers before) (workers after) d is all each count g.links closed.count closed.closed) cs is.some_node is.square replayed
        (leaves ready step w (workers before) (workers after) d is all each count g.links closed.count closed.closed cs))
        ∙ ap (λ l. record { nodes = left_over.nodes; links = slice_set g.links 0 []; input = row_at g.links 0; log = l })
        (ap (λ l. l ++ notes) none ∙ sym (append-nil notes))
        ∙ sym (ap (after_log notes) g.is)

    -- with no choice none was enabled
    pub none_enabled : cs ≡ [] → (c : Choice) → is_enabled ready w c ≡ false
    none_enabled none = all_quiet ready w d (λ j. slice_index_or (workers before) j blank) all.names is.some_node (λ j h. all.each j blank h) (λ j h.
        (each j blank h).moves (ap (λ l. length l) (no_steps blank (workers after) cs m none j (subst (λ m. j < m) (sym count) h))
        ∙ sym (ap (λ l. length l) (all.each j blank h).steps)))

-- where none is enabled a run has no choice
pub no_choice : {A M N : Type 0} (ready : A → M → Bool) (step : A → ℕ → M → Stepped A M N) (w : Network A M N) (cs : List Choice) → IsRun ready step cs w
    → ((c : Choice) → is_enabled ready w c ≡ false) → cs ≡ []
no_choice ready step w [] r none = refl
no_choice ready step w (c ∷ cs) r none = absurd (true≢false (sym r.0 ∙ none c))

-- what is left, by other names for its parts
pub releft : {A M N : Type 0} {nodes nodes' : List A} {ins ins' : List (List (Incoming M))} {outs outs' : List (List (Outgoing M))} {v : Network A M N}
    → nodes ≡ nodes' → ins ≡ ins' → outs ≡ outs' → StageLeft (record { nodes = nodes; ways = ways_of ins outs }) v
    → StageLeft (record { nodes = nodes'; ways = ways_of ins' outs' }) v
releft {A} {M} {N} {nodes} {nodes'} {ins} {ins'} {outs} {outs'} {v} a b c g =
    subst (λ (left : RoundLeft A M). StageLeft left v) (λ i. record { nodes = a i; ways = ways_of (b i) (c i) }) g

pub reclose : {M : Type 0} {n n' : ℕ} {ins ins' : List (List (Incoming M))} {outs outs' : List (List (Outgoing M))} → n ≡ n' → ins ≡ ins' → outs ≡ outs'
    → CanCloseAll n ins outs → CanCloseAll n' ins' outs'
reclose {M} {n} {n'} {ins} {ins'} {outs} {outs'} a b c g =
    subst (λ (t : ℕ × List (List (Incoming M)) × List (List (Outgoing M))). CanCloseAll t.0 t.1 t.2) (λ i. (a i, b i, c i)) g

module _ {A M N : Type 0} where
  -- what the workers show, by the list of the members
  pub seen : {X : Type 0} (f : WorkerView A M N → X) (after : List (Member A M N)) (list : List X) → list ≡ map (λ (m : Member A M N). f m.worker) after
      → list ≡ map f (workers after)
  seen f after list e = e ∙ of_workers f after

  -- each member has a worker for its node
  pub members_count : (w : Network A M N) (before : List (Member A M N)) → AllStart w (workers before) → length before ≡ length w.nodes
  members_count w before all = sym (length-map before _) ∙ all.count
