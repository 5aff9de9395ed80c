-- Every run of a network leads to a world of a run; what is then read off the log of a unit.
use Rattle.proof_outlines.proofs.Words.{◌≡◌, ℕ, ◌+◌, ◌≤◌, true, false, List, [], ◌∷◌, ◌++◌, map, length, refl, sym, ap, ◌∙◌, arith, if◌then◌else◌, ◌==◌, Msg}
use Rattle.proof_outlines.proofs.Words.{Note, Choice, Network, IsWorld, world_next, opening_world, Taking, run_induction, done_u, Node, Done, dones_in}
use Rattle.proof_outlines.proofs.Words.{done_where, is_loose, node_step, node_ready, first_nodes, started_with, Unit, split}
use Rattle.proof_machines.proofs.unit.Stages as stages
use Rattle.proof_machines.proofs.net.Readings.{In_order}
use Rattle.proof_machines.proofs.whole.Readings.{order_all}
use Rattle.net_world.specs.Fold.{times, IsFront, is_of, arrived_of, processed_of}
use Rattle.proof_outlines.proofs.joined.Words.{is_sys, Given, S, A, by_node, came_by, Joined}
use Rattle.net_world.proofs.StartingLemmas.{few_nodes}
use Rattle.net_world.proofs.NumberCounts.{times-append}
use Rattle.proof_outlines.proofs.joined.StartJoined.{given, all_fit, count_at_start, start_joined}
use Rattle.proof_outlines.proofs.joined.BesideRuns.{HasBeside, next_joined, beside_next, beside_at_start}
use Rattle.proof_outlines.proofs.joined.Setting.{Setting, start, IsCourse, world_of}

module _ {F R : Type 0} (setting : Setting F R) where
  open setting use {function as f, laws, alloc, config as c, items, is_input as is}

  pub start_world : IsWorld (start setting)
  start_world = let few = few_nodes alloc c (first_nodes {F = F} {R = R} alloc c) is.is_config refl in opening_world (first_nodes alloc c) items few.0 few.1

  abbrev g : Given
  g = given setting

  abbrev n : ℕ
  n = length c.names + 2

  -- a world of a run, with what is kept beside it
  pub record Runs (w : Network (Node F R) Msg Note) : Type 0 where
    pub joined : Joined f g n w
    pub beside : HasBeside f g n w joined

  pub runs_at_start : Runs (started_with alloc c items)
  runs_at_start = record { joined = start_joined setting; beside = beside_at_start setting }

  pub runs_next : (w : Network (Node F R) Msg Note) (k : Choice) → Taking node_ready (node_step f) n w k → Runs w → Runs (world_next (node_step f) w k)
  runs_next w k t r = record {
    joined = next_joined f laws g (all_fit setting) n refl w k t r.joined r.beside;
    beside = beside_next f laws g (all_fit setting) n refl w k t r.joined r.beside;
  }

  pub run_beside : (cs : List Choice) → IsCourse setting cs → Runs (world_of setting cs)
  run_beside cs run_is = run_induction node_ready (node_step f) n (λ _ w. Runs w) (started_with alloc c items) (λ _ w k on r. runs_next w k on.taking r)
      start_world (count_at_start setting) runs_at_start cs run_is

module _ {F R : Type 0} (setting : Setting F R) where
  open setting use {function as f, config as c, items}

  abbrev gi : Given
  gi = given setting

  -- what was done of a unit
  pub went_same : (u : Unit) (ds : List Done) → done_u (S f gi) u (by_node f gi ds) ≡ map (λ d. d.number) (done_where (is_of f c items u) ds)
  went_same u [] = refl
  went_same u (d ∷ ds) =
      split (is_of f c items u d.number)
      (λ b. (if b then d.number ∷ done_u (S f gi) u (by_node f gi ds) else done_u (S f gi) u (by_node f gi ds)) ≡ map (λ x. x.number)
      (if b then d ∷ done_where (is_of f c items u) ds else done_where (is_of f c items u) ds))
      (λ _. ap (λ xs. d.number ∷ xs) (went_same u ds)) (λ _. went_same u ds)

pub same_times : (p : ℕ) (xs : List ℕ) → stages.times p xs ≡ times p xs
same_times p [] = refl
same_times p (x ∷ xs) = ap (λ k. (if p == x then 1 else 0) + k) (same_times p xs)

module _ {F R : Type 0} (setting : Setting F R) (n : ℕ) (w : Network (Node F R) Msg Note) (j : Joined setting.function (given setting) n w) where
  open setting use {function as f, config as c, items}

  abbrev gj : Given
  gj = given setting

  pub done_same : (u : Unit) → done_u (S f gj) u j.world.done ≡ processed_of f c items u w.log
  done_same u = ap (done_u (S f gj) u) j.shown_is.done_is ∙ went_same setting u (dones_in w.log)

  ordered : (u : Unit)
      → In_order (S f gj) (is_sys f gj.site gj.packet) u (done_u (S f gj) u j.world.done) (arrived_of f c items u w.log) (is_loose c items u w.log)
  ordered u = order_all (S f gj) (A f gj) (is_sys f gj.site gj.packet) u j.world (came_by f gj w.log u) (j.shown_is.every.unit u)

  pub in_order : (u : Unit) → is_loose c items u w.log ≡ false → IsFront (processed_of f c items u w.log) (arrived_of f c items u w.log)
  in_order u off = record { rest = (ordered u).waits; whole = ap (λ xs. xs ++ (ordered u).waits) (sym (done_same u)) ∙ (ordered u).exact off }

  pub once : (u : Unit) (p : ℕ) → times p (processed_of f c items u w.log) ≤ times p (arrived_of f c items u w.log)
  once u p =
      let same : times p (processed_of f c items u w.log ++ (ordered u).waits) ≡ times p (arrived_of f c items u w.log) =
      ap (λ xs. times p (xs ++ (ordered u).waits)) (sym (done_same u)) ∙ sym (same_times p (done_u (S f gj) u j.world.done ++ (ordered u).waits))
      ∙ (ordered u).same p ∙ same_times p (arrived_of f c items u w.log) in
      omega (arith, times-append p (processed_of f c items u w.log) (ordered u).waits, same)
