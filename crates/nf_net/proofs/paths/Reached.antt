-- A world of a run as the lemmas on the path of a unit take it: its nodes are there, and a whole world of the abstract network shows it.
use Rattle.nf_net.proofs.Words.{◌≡◌, ℕ, ◌+◌, List, length, refl, Msg, Note, Choice, Network, IsWorld, run_world, State, Op, ShareAsked, moves_of, Under, seeing}
use Rattle.nf_net.proofs.Words.{Where, Untaken, Node, node_step, node_ready, is_loose, arrived_of, is_sys, Given, S, A, Joined, run_beside, start_world, given}
use Rattle.nf_net.proofs.Words.{count_at_start, Unit, Setting, start, IsCourse, world_of}
use Rattle.proof_machines.proofs.net.Holding.{Holds}
use Rattle.proof_machines.proofs.net.Units.{see}
use Rattle.nf_net.proofs.paths.SharedOwners.{HomesOwn}

pub record Reached (F R : Type 0) : Type 0 where
  pub setting : Setting F R
  pub n : ℕ
  pub count : n ≡ length setting.config.names + 2
  pub w : Network (Node F R) Msg Note
  pub nodes : length w.nodes ≡ n
  pub j : Joined setting.function (given setting) n w
  pub world : IsWorld w

module _ {F R : Type 0} (here : Reached F R) where
  open here use {setting, n, count, w, j}
  open setting use {function as f, config as c, items}

  abbrev g : Given
  g = given setting

  -- no share has a unit
  abbrev pub IsApart : Unit → Type 0
  IsApart u = Untaken (S f g) u (A f g) j.world

  -- and moves know where it is
  abbrev pub AsMoves : Unit → Type 0
  AsMoves u = Where (S f g) (is_sys f g.site g.packet) u (moves_of (S f g) (A f g) j.world) (arrived_of f c items u w.log) (is_loose c items u w.log)

  -- what a move, and any third node, have of it
  abbrev pub HoldsAt : Unit → Op → ℕ → State R → Type 0
  HoldsAt u op third x = Holds (S f g) (see (S f g) (is_sys f g.site g.packet) u op third) (moves_of (S f g) (A f g) j.world) x

  -- or a share has it
  abbrev pub IsUnder : Unit → ShareAsked → List ℕ → List ℕ → Type 0
  IsUnder u x before since = Under (S f g) (A f g) (seeing (S f g) (A f g) u x) j.world before since

  -- whose home owns it
  abbrev pub HomesTold : Type 0
  HomesTold = HomesOwn setting n count w j

-- the world that a run leads to
module _ {F R : Type 0} (setting : Setting F R) (cs : List Choice) (runs : IsCourse setting cs) where
  open setting use {function as f, config as c}

  pub is_world : IsWorld (world_of setting cs) × (length (world_of setting cs).nodes ≡ length c.names + 2)
  is_world = run_world node_ready (node_step f) (length c.names + 2) (start setting) (start_world setting) (count_at_start setting) cs runs

  abbrev pub reached : Reached F R
  reached = record {
    setting = setting;
    n = length c.names + 2;
    count = refl;
    w = world_of setting cs;
    nodes = is_world.1;
    j = (run_beside setting cs runs).joined;
    world = is_world.0;
  }
