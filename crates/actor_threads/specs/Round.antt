-- Steps between code and definition, which nobody has to believe: a round of all workers, how these start in a world, and what stands on
-- the links when all are closed. This project's own.
use Rattle.std.specs.Prelude.{◌≡◌, ◌<◌, ◌+◌, ◌*◌, ℕ, Bool, false, List, [], ◌++◌, length, slice_index_or, slice_set}
use Rattle.atomic_table.specs.Seated.{TableId}
use Rattle.actor_net.specs.declared.stamped.Stamped.{Stamped}
use Rattle.actor_net.specs.declared.choice.Choice.{Choice}
use Rattle.actor_net.specs.Network.{Network, Stepped, queue_at, is_enabled, run, IsRun}
use Rattle.actor_net.specs.Histories.{notes_of_choices}
use Rattle.actor_net.specs.Merging.{IsMerge}
use Rattle.fifo_link.specs.Ends.{End}
use Rattle.actor_threads.specs.Ways.{Incoming, Outgoing, with_stamp_0}
use Rattle.actor_threads.specs.Work.{WorkerView, in_at, out_at, fresh_worker, queues_at}
use Rattle.actor_threads.specs.LinkTable.{row_at, Closed, WayTable}
use Rattle.actor_threads.specs.declared.merged.Merged.{Merged}
use Rattle.actor_threads.specs.declared.merged.Unmerged.{Unmerged}
use Rattle.actor_threads.specs.declared.round.Round.{Round}
use Rattle.actor_threads.specs.declared.stage.StageParts.{StageParts}

module _ {A M N : Type 0} where
  -- the worker of node j at the start of a round: no step, on each way in what waits in the world, and nothing sent;
  -- the link from s to r has the name `names s r`
  pub record StartsAs (w : Network A M N) (names : ℕ → ℕ → TableId) (j : ℕ) (worker : WorkerView A M N) : Type 0 where
    pub number : worker.number ≡ j
    pub node : (d : A) → worker.node ≡ slice_index_or w.nodes j d
    pub clock : worker.clock ≡ 0
    pub steps : worker.steps ≡ []
    pub notes : worker.notes ≡ []
    pub count_ins : length worker.ins ≡ length w.nodes
    pub count_outs : length worker.outs ≡ length w.nodes
    pub ins : (p : ℕ) → p < length w.nodes
        → in_at worker.ins p ≡ record { link = names p j; done = []; kept = with_stamp_0 (queue_at w (record { node = j; port = p })) }
    pub outs : (r : ℕ) → r < length w.nodes → out_at worker.outs r ≡ record { link = names j r; all = [] }

  -- the workers of all nodes at the start of a round
  pub record AllStart (w : Network A M N) (workers : List (WorkerView A M N)) : Type 0 where
    pub names : ℕ → ℕ → TableId
    pub count : length workers ≡ length w.nodes
    pub each : (j : ℕ) (d : WorkerView A M N) → j < length w.nodes → StartsAs w names j (slice_index_or workers j d)

-- what a worker is opened with: its node's number and the node, what stands on all links and in the input, and the node's ends
pub record WorkerParts (A M : Type 0) : Type 0 where
  pub number : ℕ
  pub node : A
  pub links : List (List M)
  pub input : List M
  pub takes : List (End (List (Stamped M)))
  pub sends : List (End (List (Stamped M)))

-- the worker that is opened with these, with what stands on the links to its node: there are as many as it has take ends
pub record OpenedWith {A M N : Type 0} (parts : WorkerParts A M) (worker : WorkerView A M N) : Type 0 where
  pub kept : List (List M)
  pub count : length kept ≡ length parts.takes
  pub lists : (p : ℕ) → p < length parts.takes → row_at kept p ≡ row_at parts.links (p * length parts.takes + parts.number)
  pub is : worker ≡ fresh_worker parts.number parts.node (queues_at parts.number parts.input kept) parts.takes parts.sends

module _ {M : Type 0} where
  -- of n nodes each way in has the link of the way out at its other end
  pub record CanCloseAll (n : ℕ) (ins : List (List (Incoming M))) (outs : List (List (Outgoing M))) : Type 0 where
    pub receivers : length ins ≡ n
    pub senders : length outs ≡ n
    pub in_rows : (r : ℕ) → r < n → length (row_at ins r) ≡ n
    pub out_rows : (s : ℕ) → s < n → length (row_at outs s) ≡ n
    pub link : (s r : ℕ) → s < n → r < n → (out_at (row_at outs s) r).link ≡ (in_at (row_at ins r) s).link

  -- the links of the first k of n senders are closed, each to its place
  pub record AllClosed (k n : ℕ) (ways : WayTable M) (links : List (List M)) : Type 0 where
    pub count : length links ≡ k * n
    pub closed : (s r : ℕ) → s < k → r < n → Closed (in_at (row_at ways.ins r) s) (out_at (row_at ways.outs s) r) (row_at links (s * n + r))

-- what workers leave after a round: their nodes and their ways
pub record RoundLeft (A M : Type 0) : Type 0 where
  pub nodes : List A
  pub ways : WayTable M

-- the world without a log that is left once all links are closed: each link has its list, and that of the first is the input
pub record StageLeft {A M N : Type 0} (left : RoundLeft A M) (stage : Network A M N) : Type 0 where
  pub links : List (List M)
  pub closed : AllClosed (length left.nodes) (length left.nodes) left.ways links
  pub is : stage ≡ record { nodes = left.nodes; links = slice_set links 0 []; input = row_at links 0; log = [] }

-- the world of these parts, without a log
abbrev pub stage_of : {A M N : Type 0} → StageParts A M N → Network A M N
stage_of parts = record { nodes = parts.nodes.items; links = parts.links.items; input = parts.input; log = [] }

-- a world whose log stands after these notes
abbrev pub after_log : {A M N : Type 0} → List N → Network A M N → Network A M N
after_log log w = record { nodes = w.nodes; links = w.links; input = w.input; log = log ++ w.log }

-- what a round noted, in the order of these choices
abbrev pub notes_in : {N : Type 0} → Unmerged N → List Choice → List N
notes_in unmerged cs = notes_of_choices (λ j. row_at unmerged.notes.items j) cs

-- one more round is merged: its choices and its notes stand after those before
pub record MergesMore {N : Type 0} (unmerged : Unmerged N) (old new : Merged N) : Type 0 where
  pub more : List Choice
  pub merge : IsMerge unmerged.histories.items more
  pub choices : new.choices ≡ old.choices ++ more
  pub log : new.log.items ≡ old.log.items ++ notes_in unmerged more

-- a round that began like this came to that: a merge of its histories is a run to the stage left and to its notes, and a merge without a choice
-- tells that none was enabled
pub record IsRound {A M N : Type 0} (ready : A → M → Bool) (step : A → ℕ → M → Stepped A M N) (begin : Network A M N) (round : Round A M N) : Type 0 where
  pub is_run : (cs : List Choice) → IsMerge round.unmerged.histories.items cs → IsRun ready step cs begin
  pub leads : (cs : List Choice) → IsMerge round.unmerged.histories.items cs → run step cs begin ≡ after_log (notes_in round.unmerged cs) round.stage
  pub quiet : (cs : List Choice) → IsMerge round.unmerged.histories.items cs → cs ≡ [] → (c : Choice) → is_enabled ready begin c ≡ false
