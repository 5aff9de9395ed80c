-- That a world shows a state of the machine to a unit in a move (`Holds`), with the labels of messages, rules and open moves.
use Rattle.std.proofs.Common.{◌≡◌, ℕ, true, false, Option, Some, None, List, [], map}
use Rattle.std.specs.Prelude.{if◌then◌else◌, ◌&&◌, ◌==◌}
use Rattle.proof_machines.proofs.unit.Machine.{Where, At_a, At_b, At_c, Inst, Item, State, idle}
use Rattle.proof_machines.proofs.unit.Lists.{firsts}
use Rattle.proof_machines.proofs.unit.Real
use Rattle.proof_machines.proofs.unit.Real.{record_at, MoveMsg, Op, Frame, see_phase, only_mine}
use Rattle.proof_machines.proofs.unit.Seen.{NodesDiffer, frame_of}
use Rattle.proof_machines.proofs.unit.Labels.{Each, Without, Clean}
use Rattle.proof_machines.proofs.unit.Pairs.{Nodes, Sides, expect}
use Rattle.proof_machines.proofs.unit.Rests.{is_over}
use Rattle.std.specs.List.{filter, filter_map}
use Rattle.flow_filter.specs.declared.filter.Filter.{Filter}
use Rattle.proof_machines.proofs.net.Net.{Msg, Of_move, Sys, is_free, Ruling, find_rule, rule_of, held_of, NumberedInstance, Open, find_op, World, seen}
use Rattle.nf_function.specs.declared.unit.Unit as units
use Rattle.record_table.specs.Table.{same_unit, is_among}

-- a unit, its move, and a third node
pub record Seeing : Type 0 where
  pub unit : units.Unit
  pub op : Op
  pub third : ℕ

abbrev pub sides_of : Seeing → Sides
sides_of z = record { source = z.op.src; destination = z.op.dst; third = z.third }

abbrev pub EachSent : {M : Type 0} → (ℕ → M → Type 0) → List (ℕ × M) → Type 0
EachSent P xs = Each (λ x. P x.0 x.1) xs

module _ {R : Type 0} (S : Sys R) (z : Seeing) where
  abbrev pub frame : Frame
  frame = frame_of z.op (λ p. same_unit (S.packet_unit p) z.unit) z.unit

  -- a message of another move has nothing of the unit, and a filter takes it where the number is its move's
  abbrev pub MoveLabel : Filter → MoveMsg R → Type 0
  MoveLabel g (MoveMsg.Enable n k) = (S.takes g z.unit ≡ (n == z.op.num)) × (is_free k ≡ false)
  MoveLabel g (MoveMsg.Stream n) = S.takes g z.unit ≡ (n == z.op.num)
  MoveLabel g (MoveMsg.Install n from to) = S.takes g z.unit ≡ (n == z.op.num)
  MoveLabel g (MoveMsg.Event n p) = (same_unit (S.packet_unit p) z.unit) ≡ true → (n == z.op.num) ≡ true
  MoveLabel g (MoveMsg.Delete n us) = (n == z.op.num) ≡ false → is_among us z.unit ≡ false
  MoveLabel g (MoveMsg.Put n p first) = (n == z.op.num) ≡ false → Without z.unit p
  MoveLabel g (MoveMsg.Restore n cs) = (n == z.op.num) ≡ false → record_at z.unit cs ≡ None
  MoveLabel g (MoveMsg.Piece n p) = (n == z.op.num) ≡ false → Without z.unit p
  MoveLabel g (MoveMsg.Put_no n why cs) = (n == z.op.num) ≡ false → record_at z.unit cs ≡ None
  MoveLabel g m = Prim.Unit {0}

  -- the switch sends an instance no message of a move but packets and fences, and no packet comes from elsewhere than the input
  abbrev pub Label : ℕ → Msg R → Type 0
  Label i (Of_move g m) = ((i == 0) ≡ false) × MoveLabel g m
  Label i m = Prim.Unit {0}

  abbrev pub RuleLabel : Ruling → Type 0
  RuleLabel r = (S.takes r.filter z.unit ≡ (r.num == z.op.num)) × ((r.num == z.op.num) ≡ false → only_mine frame r.held ≡ []) × (is_free r.rule ≡ false)

  abbrev pub OpLabel : Open R → Type 0
  OpLabel e = (S.takes e.filter z.unit ≡ (e.op.num == z.op.num)) × ((e.op.num == z.op.num) ≡ false → Clean z.unit e.phase × (only_mine frame e.store ≡ []))
      × NodesDiffer e.op

  -- an instance as the unit sees it
  pub record SeesNode (i : NumberedInstance S) (x : Inst R) : Type 0 where
    pub live : S.B.at z.unit i.live ≡ x.live
    pub rule : rule_of (find_rule z.op.num i.rules) ≡ x.rule
    pub held : only_mine frame (held_of (find_rule z.op.num i.rules)) ≡ x.held
    pub rules : Each RuleLabel i.rules

  -- what is seen of a link; the input isn't one
  abbrev pub shows : (ℕ → ℕ → List (Msg R)) → ℕ → ℕ → List (Item R)
  shows l i j = if (i == 0) && (j == 0) then [] else filter_map (seen frame) (l i j)

  abbrev pub node_at : State R → ℕ → Inst R
  node_at x k = if k == z.op.src then x.a else if k == z.op.dst then x.b else if k == z.third then x.c else idle None

  abbrev pub place : Where → ℕ
  place At_a = z.op.src
  place At_b = z.op.dst
  place At_c = z.third

  -- the controller's move, open or closed
  abbrev pub IsController : Option (Open R) → State R → Type 0
  IsController None x = is_over x.phase ≡ true
  IsController (Some e) x = (e.op ≡ z.op) × (see_phase frame e.phase ≡ x.phase) × (only_mine frame e.store ≡ x.store) × (e.op.keep ≡ x.keep)

  -- packets of the unit among those done
  abbrev pub done_of : List (ℕ × ℕ) → List ℕ
  done_of ds = filter frame.mine (map (λ d. d.0) ds)

  -- at the state of the machine that a seat has
  pub record Holds (w : World S) (x : State R) : Type 0 where
    pub apart : NodesDiffer z.op
    pub nodes : Nodes z.op.src z.op.dst z.third
    pub views : (i j : ℕ) → shows w.link i j ≡ expect z.op.src z.op.dst z.third x i j
    pub labels : (i j : ℕ) → (i == 0) && (j == 0) ≡ false → Each (Label i) (w.link i j)
    pub insts : (k : ℕ) → SeesNode (w.inst k) (node_at x k)
    pub target : w.target z.unit ≡ place x.target
    pub ctrl : IsController (find_op w.ops z.op.num) x
    pub ops : Each OpLabel w.ops
    pub done : done_of w.done ≡ firsts x.done
