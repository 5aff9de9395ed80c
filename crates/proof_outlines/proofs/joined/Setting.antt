-- What the lemmas on runs are given: a function with its laws, an allocator, the configuration of a network, and an input that fits it.
use Rattle.proof_outlines.proofs.Words.{List, Global, FunctionLaws, Semantics, Msg, Note, Choice, Network, IsRun, run, Config, Node, IsInput, node_step}
use Rattle.proof_outlines.proofs.Words.{node_ready, started_with}

pub record Setting (F R : Type 0) : Type 0 where
  pub function : Semantics R
  pub laws : FunctionLaws function
  pub alloc : Global
  pub config : Config
  pub items : List Msg
  pub is_input : IsInput function.kind config items

abbrev pub setting_of : {F R : Type 0} (f : Semantics R) → FunctionLaws f → Global → (c : Config) (items : List Msg) → IsInput f.kind c items → Setting F R
setting_of f laws alloc c items is = record { function = f; laws = laws; alloc = alloc; config = c; items = items; is_input = is }

module _ {F R : Type 0} (setting : Setting F R) where
  abbrev pub start : Network (Node F R) Msg Note
  start = started_with {F = F} {R = R} setting.alloc setting.config setting.items

  -- choices that a run makes, and the world that they lead to
  abbrev pub IsCourse : List Choice → Type 0
  IsCourse cs = IsRun node_ready (node_step setting.function) cs start

  abbrev pub world_of : List Choice → Network (Node F R) Msg Note
  world_of cs = run (node_step setting.function) cs start
