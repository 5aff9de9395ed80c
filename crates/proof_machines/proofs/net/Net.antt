-- The network as the proof of its moves sees it: messages, instances with event rules, the controller with its open moves, the
-- switch's routes, worlds, and the step of each node. A move's messages are those of `proof_machines`'s `Real`, with the move's filter
-- on Enable, Stream and Install.
use Rattle.std.proofs.Common.{◌≡◌, ℕ, suc, Bool, true, false, Option, Some, None, List, [], ◌∷◌, ◌++◌, length, map, drop}
use Rattle.std.specs.Prelude.{if◌then◌else◌, ◌&&◌, ◌==◌, is_some}
use Rattle.std.specs.List.{find, fold, list_any}
use Rattle.proof_machines.proofs.NumberedLists.{find_number, drop_number, change_number}
use Rattle.proof_machines.proofs.unit.Machine.{Steps, Rule, Free, Drops, Buffers, Item, Carry, Pass, Fence}
use Rattle.proof_machines.proofs.unit.Real
use Rattle.proof_machines.proofs.unit.Real.{Chunks, MovePiece, MoveMsg, MovePhase, Op, OperationTurn, operation_turn, operation_from_source}
use Rattle.proof_machines.proofs.unit.Real.{operation_from_destination, Frame, where_true, sent_for}
use Rattle.move_op.specs.Phases.{Freezing, Over}
use Rattle.nf_msgs.specs.declared.answer.Answer.{Answer}
use Rattle.nf_function.specs.declared.unit.Unit as units
use Rattle.record_table.specs.Table.{same_unit}
use Rattle.flow_filter.specs.declared.filter.Filter.{Filter}
use Rattle.proof_machines.proofs.unit.SeenInst.{Tables, Laws, stream_row, delete_row, restore_row, put_row}

-- what is asked for
pub record MoveAsked : Type 0 where
  pub num : ℕ
  pub src : ℕ
  pub dst : ℕ
  pub keep : Bool
  pub filter : Filter

pub data Msg (R : Type 0) : Type 0 where
  In_packet : ℕ → Msg R
  Asked : MoveAsked → Msg R
  Carry_on : ℕ → Msg R
  Pass_on : ℕ → Msg R
  Fence_on : ℕ → Msg R
  Of_move : (g : Filter) (m : MoveMsg R) → Msg R

-- how many records an instance takes, and whether it reads chunks of version 1 alone
pub record Room : Type 0 where
  pub limit : ℕ
  pub marked : Bool

-- what the network is given by: the function, the tables by look-ups, the unit of a packet, why an instance refuses a first piece
pub record Sys (R : Type 0) : Type 1 where
  pub F : Steps R
  pub B : Tables R
  pub packet_unit : ℕ → units.Unit
  pub takes : Filter → units.Unit → Bool
  pub meets : Filter → Filter → Bool
  pub newest : Chunks R → ℕ
  pub refuse : Room → B.T → MovePiece R → Option Answer
  pub write : units.Unit → R → B.T → B.T
  pub empty : B.T

pub record IsSys {R : Type 0} (S : Sys R) : Type 0 where
  pub laws : Laws S.F S.B
  pub written : (u v : units.Unit) (r : R) (t : S.B.T) → S.B.at u (S.write v r t) ≡ (if same_unit v u then Some r else S.B.at u t)
  pub nothing : (u : units.Unit) → S.B.at u S.empty ≡ None
  pub apart : (g h : Filter) (u : units.Unit) → S.meets g h ≡ false → S.takes g u ≡ true → S.takes h u ≡ false

-- the filter that gives no field; what is sent to the controller carries it
abbrev pub everything : Filter
everything = record { proto = None; local = None; lport = None; remote = None; rport = None }

-- a rule of an instance, with what it holds
pub record Ruling : Type 0 where
  pub num : ℕ
  pub filter : Filter
  pub rule : Rule
  pub held : List ℕ

abbrev pub first_rule : {R : Type 0} → Sys R → units.Unit → List Ruling → Option Ruling
first_rule S u rs = find (λ r. S.takes r.filter u) rs

abbrev pub find_rule : ℕ → List Ruling → Option Ruling
find_rule n rs = find_number (λ (r : Ruling). r.num) n rs

-- each rule with the number, changed
abbrev pub change_rules : ℕ → (Ruling → Ruling) → List Ruling → List Ruling
change_rules n change rs = change_number (λ (r : Ruling). r.num) n change rs

abbrev pub has_rule : ℕ → List Ruling → Bool
has_rule n rs = is_some (find_rule n rs)

abbrev pub ruled_by : Filter → Rule → Ruling → Ruling
ruled_by g k r = record r { filter = g; rule = k }

abbrev pub new_rule : ℕ → Filter → Rule → Ruling
new_rule n g k = record { num = n; filter = g; rule = k; held = [] }

abbrev pub holding : ℕ → Ruling → Ruling
holding p r = record r { held = r.held ++ p ∷ [] }

abbrev pub set_rule : ℕ → Filter → Rule → List Ruling → List Ruling
set_rule n g k rs = if has_rule n rs then change_rules n (ruled_by g k) rs else rs ++ new_rule n g k ∷ []

abbrev pub hold : ℕ → ℕ → List Ruling → List Ruling
hold n p rs = change_rules n (holding p) rs

abbrev pub drop_rule : ℕ → List Ruling → List Ruling
drop_rule n rs = drop_number (λ (r : Ruling). r.num) n rs

abbrev pub rule_of : Option Ruling → Rule
rule_of None = Free
rule_of (Some r) = r.rule

abbrev pub is_free : Rule → Bool
is_free Free = true
is_free k = false

abbrev pub held_of : Option Ruling → List ℕ
held_of None = []
held_of (Some r) = r.held

abbrev pub to_ctrl : {R : Type 0} → MoveMsg R → ℕ × Msg R
to_ctrl m = (1, Of_move everything m)

module _ {R : Type 0} (S : Sys R) where
  pub record NumberedInstance : Type 0 where
    pub live : S.B.T
    pub rules : List Ruling
    pub room : Room

  -- what an instance did: afterwards, sends, packets that it processed
  pub record InstanceTurn : Type 0 where
    pub node : NumberedInstance
    pub sends : List (ℕ × Msg R)
    pub ran : List ℕ

  abbrev pub process : S.B.T → ℕ → S.B.T
  process t p = S.write (S.packet_unit p) (S.F.step (S.B.at (S.packet_unit p) t) p) t

  abbrev pub process_all : S.B.T → List ℕ → S.B.T
  process_all t ps = fold process t ps

  abbrev pub says : NumberedInstance → List (ℕ × Msg R) → InstanceTurn
  says i xs = record { node = i; sends = xs; ran = [] }

  abbrev pub runs_it : NumberedInstance → ℕ → InstanceTurn
  runs_it i p = record { node = record i { live = process i.live p }; sends = []; ran = p ∷ [] }

  abbrev pub by_kind : NumberedInstance → ℕ → ℕ → Rule → InstanceTurn
  by_kind i p n Free = runs_it i p
  by_kind i p n Drops = says i (to_ctrl (MoveMsg.Event n p) ∷ [])
  by_kind i p n Buffers = says (record i { rules = hold n p i.rules }) []

  abbrev pub by_rule : NumberedInstance → ℕ → Option Ruling → InstanceTurn
  by_rule i p None = runs_it i p
  by_rule i p (Some r) = by_kind i p r.num r.rule

  abbrev pub with_table : NumberedInstance → S.B.T × List (MoveMsg R) → InstanceTurn
  with_table i x = says (record i { live = x.0 }) (map to_ctrl x.1)

  abbrev pub on_move : NumberedInstance → Filter → MoveMsg R → InstanceTurn
  on_move i g (MoveMsg.Enable n k) = says (record i { rules = set_rule n g k i.rules }) (to_ctrl (MoveMsg.Enabled n) ∷ [])
  on_move i g (MoveMsg.Stream n) =
      with_table i (stream_row S.F S.B n (length (S.B.select (S.takes g) i.live)) (S.newest (S.B.select (S.takes g) i.live)) (S.takes g) i.live)
  on_move i g (MoveMsg.Delete n us) = with_table i (delete_row S.F S.B n us i.live)
  on_move i g (MoveMsg.Put n p first) = with_table i (put_row S.F S.B n first (S.refuse i.room i.live p) p i.live)
  on_move i g (MoveMsg.Restore n cs) = with_table i (restore_row S.F S.B n cs i.live)
  on_move i g m = says i []

  abbrev pub fenced : NumberedInstance → ℕ → List ℕ → InstanceTurn
  fenced i n h = record { node = record i { live = process_all i.live h; rules = drop_rule n i.rules }; sends = to_ctrl (MoveMsg.Fenced n) ∷ []; ran = h }

  abbrev pub inst_step : NumberedInstance → Msg R → InstanceTurn
  inst_step i (Carry_on p) = by_rule i p (first_rule S (S.packet_unit p) i.rules)
  inst_step i (Pass_on p) = runs_it i p
  inst_step i (Fence_on n) = fenced i n (held_of (find_rule n i.rules))
  inst_step i (Of_move g m) = on_move i g m
  inst_step i m = says i []

-- the controller
pub record Open (R : Type 0) : Type 0 where
  pub op : Op
  pub filter : Filter
  pub phase : MovePhase R
  pub store : List ℕ

abbrev pub find_op : {R : Type 0} → List (Open R) → ℕ → Option (Open R)
find_op es n = find_number (λ (e : Open _). e.op.num) n es

abbrev pub written : {R : Type 0} → MovePhase R → List ℕ → Open R → Open R
written ph f e = record e { phase = ph; store = f }

abbrev pub set_op : {R : Type 0} → ℕ → MovePhase R → List ℕ → List (Open R) → List (Open R)
set_op n ph f es = change_number (λ (e : Open _). e.op.num) n (written ph f) es

abbrev pub close_op : {R : Type 0} → ℕ → List (Open R) → List (Open R)
close_op n es = drop_number (λ (e : Open _). e.op.num) n es

abbrev pub write_op : {R : Type 0} → ℕ → MovePhase R → List ℕ → List (Open R) → List (Open R)
write_op n (Over why) f es = close_op n es
write_op n ph f es = set_op n ph f es

abbrev pub num_of : {R : Type 0} → MoveMsg R → Option ℕ
num_of (MoveMsg.Enable n k) = Some n
num_of (MoveMsg.Stream n) = Some n
num_of (MoveMsg.Delete n us) = Some n
num_of (MoveMsg.Put n p first) = Some n
num_of (MoveMsg.Restore n cs) = Some n
num_of (MoveMsg.Enabled n) = Some n
num_of (MoveMsg.Event n p) = Some n
num_of (MoveMsg.Piece n p) = Some n
num_of (MoveMsg.Deleted n) = Some n
num_of (MoveMsg.Put_ok n) = Some n
num_of (MoveMsg.Put_no n why cs) = Some n
num_of (MoveMsg.Restored n) = Some n
num_of (MoveMsg.Fenced n) = Some n
num_of (MoveMsg.Forward p to) = None
num_of (MoveMsg.Install n from to) = Some n
num_of (MoveMsg.Fence_to n to) = Some n

-- the row by the sender
abbrev pub row_of : {R : Type 0} → Op → MovePhase R → List ℕ → ℕ → MoveMsg R → OperationTurn R
row_of o ph f port m = if port == o.src then operation_from_source o ph f m else if port ==
    o.dst then operation_from_destination o ph f m else operation_turn ph f []

abbrev pub row : {R : Type 0} → Open R → ℕ → MoveMsg R → OperationTurn R
row e port m = row_of e.op e.phase e.store port m

-- what a move sends carries its filter, where the receiver looks at it
abbrev pub filter_for : {R : Type 0} → Filter → MoveMsg R → Filter
filter_for g (MoveMsg.Enable n k) = g
filter_for g (MoveMsg.Stream n) = g
filter_for g (MoveMsg.Install n from to) = g
filter_for g m = everything

abbrev pub wrap : {R : Type 0} → Filter → List (ℕ × MoveMsg R) → List (ℕ × Msg R)
wrap g xs = map (λ x. (x.0, Of_move (filter_for g x.1) x.1)) xs

pub record ControllerMove (R : Type 0) : Type 0 where
  pub ops : List (Open R)
  pub sends : List (ℕ × Msg R)

abbrev pub found : {R : Type 0} → List (Open R) → ℕ → ℕ → MoveMsg R → Option (Open R) → ControllerMove R
found es n port m None = record { ops = es; sends = [] }
found es n port m (Some e) = record { ops = write_op n (row e port m).phase (row e port m).store es; sends = wrap e.filter (row e port m).sends }

abbrev pub numbered : {R : Type 0} → List (Open R) → ℕ → MoveMsg R → Option ℕ → ControllerMove R
numbered es port m None = record { ops = es; sends = [] }
numbered es port m (Some n) = found es n port m (find_op es n)

abbrev pub ctrl_step : {R : Type 0} → List (Open R) → ℕ → Msg R → ControllerMove R
ctrl_step es port (Of_move g m) = numbered es port m (num_of m)
ctrl_step es port m = record { ops = es; sends = [] }

-- a move may begin: two instances, and a filter that meets no open one
abbrev pub meets_any : {R : Type 0} → Sys R → Filter → List (Open R) → Bool
meets_any S g es = list_any (λ e. S.meets g e.filter) es

abbrev pub new_op : {R : Type 0} → ℕ → MoveAsked → Open R
new_op n x = record { op = record { num = n; src = x.src; dst = x.dst; keep = x.keep }; filter = x.filter; phase = Freezing; store = [] }

abbrev pub begin_sends : {R : Type 0} → ℕ → MoveAsked → List (ℕ × Msg R)
begin_sends n x = (x.src, Of_move x.filter (MoveMsg.Enable n Drops)) ∷ []

-- the switch: a route for each unit
abbrev pub sw_target : {R : Type 0} → Sys R → (units.Unit → ℕ) → Msg R → units.Unit → ℕ
sw_target S t (Of_move g (MoveMsg.Install n from to)) v = if S.takes g v && (t v == from) then to else t v
sw_target S t m v = t v

abbrev pub sw_sends : {R : Type 0} → Msg R → List (ℕ × Msg R)
sw_sends (Of_move g (MoveMsg.Forward p to)) = (to, Pass_on p) ∷ []
sw_sends (Of_move g (MoveMsg.Install n from to)) = (from, Fence_on n) ∷ []
sw_sends (Of_move g (MoveMsg.Fence_to n to)) = (to, Fence_on n) ∷ []
sw_sends m = []

-- a world, its links as a function of pairs
pub record World {R : Type 0} (S : Sys R) : Type 0 where
  pub target : units.Unit → ℕ
  pub ops : List (Open R)
  pub next : ℕ
  pub inst : ℕ → NumberedInstance S
  pub link : ℕ → ℕ → List (Msg R)
  pub done : List (ℕ × ℕ)

abbrev pub behind : {X : Type 0} → Bool → List X → List X
behind b xs = if b then drop 1 xs else xs

abbrev pub links_after : {M : Type 0} → (ℕ → ℕ → List M) → ℕ → ℕ → List (ℕ × M) → ℕ → ℕ → List M
links_after l p k sends i j = behind ((i == p) && (j == k)) (l i j) ++ (if i == k then sent_for j sends else [])

abbrev pub at_node : ℕ → List ℕ → List (ℕ × ℕ)
at_node y ps = map (λ p. (p, y)) ps

abbrev pub put : {X : Type 0} → (ℕ → X) → ℕ → X → ℕ → X
put g j x k = if k == j then x else g k

-- the world after a step: an instance's, the controller's, the switch's; after a packet of the input; and after a begin
module _ {R : Type 0} (S : Sys R) where
  abbrev pub inst_next : World S → ℕ → ℕ → Msg R → World S
  inst_next w p y m = record w {
    inst = put w.inst y (inst_step S (w.inst y) m).node;
    link = links_after w.link p y (inst_step S (w.inst y) m).sends;
    done = w.done ++ at_node y (inst_step S (w.inst y) m).ran;
  }

  abbrev pub ctrl_next : World S → ℕ → Msg R → World S
  ctrl_next w p m = record w { ops = (ctrl_step w.ops p m).ops; link = links_after w.link p 1 (ctrl_step w.ops p m).sends }

  abbrev pub sw_next : World S → ℕ → Msg R → World S
  sw_next w p m = record w { target = λ v. sw_target S w.target m v; link = links_after w.link p 0 (sw_sends m) }

  abbrev pub in_next : World S → ℕ → World S
  in_next w q = record w { link = λ i j. w.link i j ++ (if i == 0 then sent_for j ((w.target (S.packet_unit q), Carry_on q) ∷ []) else []) }

  abbrev pub begin_next : World S → MoveAsked → World S
  begin_next w x = record w {
    ops = w.ops ++ new_op x.num x ∷ [];
    next = suc x.num;
    link = λ i j. w.link i j ++ (if i == 1 then sent_for j (begin_sends x.num x) else []);
  }

-- what one unit sees
abbrev pub seen : {R : Type 0} → Frame → Msg R → Option (Item R)
seen v (Carry_on p) = where_true (v.mine p) (Carry p)
seen v (Pass_on p) = where_true (v.mine p) (Pass p)
seen v (Fence_on n) = where_true (n == v.move) Fence
seen v (Of_move g m) = Real.seen v m
seen v m = None
