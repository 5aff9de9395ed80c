-- What holds of each world of a run of moves, copies and shares: a whole world of the abstract network shows it, and its messages and nodes are
-- such as come in a run.
use Rattle.proof_outlines.proofs.Words.{◌∙◌, ◌≡◌, ◌≢◌, ℕ, zero, suc, ◌+◌, ◌<◌, ◌≤◌, Bool, true, false, Option, Some, None, List, [], ◌∷◌, ◌++◌, length, get_or}
use Rattle.proof_outlines.proofs.Words.{map, if◌then◌else◌, ◌&&◌, ◌==◌, not, nat_lt, filter, filter_map, keys_of, bytes_eq, Filter, Packet, Chunk, Semantics}
use Rattle.proof_outlines.proofs.Words.{unit_at, same_unit, Mark, stored_of, FullCell, Target, AreFilters, Command, Order, Piece, Msg, Note, instance_node}
use Rattle.proof_outlines.proofs.Words.{Door, Phase, MoveState, answer_of, CopyState, ShareState, home, SharePhase, SwitchState, takes_in, Move, Copy, Share}
use Rattle.proof_outlines.proofs.Words.{ControllerState, Network, Stepped, queue_at, at, less_first, OnLinks, EachSent, Each, Open, is_free, links_after}
use Rattle.proof_outlines.proofs.Words.{Rising, Any, Old, New, ShareMsg, Sharing, OpenShare, WholeWorld, has, EveryAll, Came, sent_for, Node, Switch}
use Rattle.proof_outlines.proofs.Words.{Controller, has_twice, Done, arrivals_in, dones_in, installs_in, Unit, IsDistinct, InstanceState}
use Rattle.std.specs.FinMap as finite
use Rattle.move_op.specs.Phases as phase
use Rattle.copy_share.specs.Copy as copy
use Rattle.copy_share.specs.declared.share_phase.SharePhase.TheVariants.{Out}
use Rattle.proof_machines.proofs.net.Net as net
use Rattle.net_world.specs.declared.node.Node.TheVariants.{Instance}
use Rattle.proof_outlines.proofs.joined.Given.{Given, place, IsPlan, IsCopyPlan, IsSharePlan, IsChange, target_by, diverted_in, loose_by}
use Rattle.proof_outlines.proofs.outline.FiltersApart.{is_whole, unit_fits}
use Rattle.proof_outlines.proofs.outline.Outline.{entries, rule_of, sys, is_sys, outline_instance}
use Rattle.proof_outlines.proofs.whole.WholeOutline.{outline_any, outline_all, sharing}
use Rattle.proof_outlines.proofs.whole.SwitchAll.{RoutesAll}
use Rattle.proof_outlines.proofs.whole.OpenShares.{OpensAll}
use Rattle.proof_outlines.proofs.outline.InstanceOutline.{IsGenuine, IsInstance}
use Rattle.proof_outlines.proofs.outline.StateOutline.{HasRecords}
use Rattle.proof_outlines.proofs.outline.MoveOutline.{IsChunk, IsRefusing, is_done}

-- between which nodes a message goes
abbrev pub FromSwitch : ℕ → ℕ → Type 0
FromSwitch s r = (s ≡ 0) × (2 ≤ r)

abbrev pub ToSwitch : ℕ → ℕ → Type 0
ToSwitch s r = (s ≡ 1) × (r ≡ 0)

abbrev pub FromController : ℕ → ℕ → Type 0
FromController s r = (s ≡ 1) × (2 ≤ r)

abbrev pub ToController : ℕ → ℕ → Type 0
ToController s r = (2 ≤ s) × (r ≡ 1)

abbrev pub Input : ℕ → ℕ → Type 0
Input s r = (s ≡ 0) × (r ≡ 0)

-- a packet is marked as one that the controller handed on, for a move or a share
abbrev pub is_handed : Mark → Bool
is_handed Mark.Plain = false
is_handed m = true

-- a target is the controller, or one of the first instances
abbrev pub is_target : ℕ → Target → Bool
is_target count (Target.Instance i) = nat_lt i count
is_target count Target.Controller = true

module _ {R : Type 0} (f : Semantics R) (g : Given) where
  abbrev pub Genuine : FullCell → Type 0
  Genuine = IsGenuine g.site g.packet

  abbrev pub GenuinePacket : Packet → Type 0
  GenuinePacket p = IsGenuine g.site g.packet (record { pool = 0; packet = p })

  abbrev pub count : ℕ
  count = length g.names

  -- a filter that splits no unit, if there is one
  abbrev pub is_whole_if : Option Filter → Bool
  is_whole_if None = true
  is_whole_if (Some filter) = is_whole f.kind filter

  -- an order to move or copy between two names, or to share between two or more, with such a filter
  abbrev pub is_built : Order → Bool
  is_built (Order.Move src dst filter keep) = is_whole f.kind filter && not (bytes_eq src dst)
  is_built (Order.Copy src dst filter) = is_whole_if filter && not (bytes_eq src dst)
  is_built (Order.Share members filter) = is_whole f.kind filter && (nat_lt 1 (length members) && not (has_twice members))

  pub record IsCommand (c : Command) : Type 0 where
    pub known : g.orders c.op ≡ Some c.what
    pub built : is_built c.what ≡ true

  -- a chunk that spells a valid record of its unit, and packets may have the unit
  pub record IsGoodChunk (c : Chunk) : Type 0 where
    pub chunk : IsChunk f (place g) c
    pub valid : f.is_valid chunk.entry.0 chunk.entry.1 ≡ true
    pub fits : unit_fits f.kind chunk.entry.0 ≡ true

  -- such chunks, no two of one unit
  pub record AreGoodChunks (cs : List Chunk) : Type 0 where
    pub each : Each IsGoodChunk cs
    pub distinct : IsDistinct same_unit (keys_of (entries f cs))

  -- a piece that may be put
  pub record IsGoodPiece (p : Piece) : Type 0 where
    pub good : AreGoodChunks p.chunks
    pub few : nat_lt p.total (length p.chunks) ≡ false

  -- the pieces of a phase may be put, or, behind a refusal, given back
  abbrev pub AreFree : Door → List Piece → Type 0
  AreFree (Door.Refused why) ps = Each (λ p. AreGoodChunks p.chunks) ps
  AreFree d ps = Each IsGoodPiece ps

  abbrev pub HasPieces : Phase → Type 0
  HasPieces (phase.Streaming frozen free came d) = Each IsGoodPiece frozen × AreFree d free
  HasPieces p = Prim.Unit {0}

  -- an open move of a number
  pub record IsMove (op : ℕ) (m : MoveState) : Type 0 where
    pub op_is : m.plan.op ≡ op
    pub from : nat_lt m.plan.from count ≡ true
    pub to : nat_lt m.plan.to count ≡ true
    pub other : m.plan.from ≢ m.plan.to
    pub whole : is_whole f.kind m.plan.filter ≡ true
    pub plan : IsPlan g m.plan.op m.plan
    pub refusing : IsRefusing m.phase
    pub pieces : HasPieces m.phase

  -- an open copy of a number
  pub record IsCopy (op : ℕ) (c : CopyState) : Type 0 where
    pub op_is : c.plan.op ≡ op
    pub from : nat_lt c.plan.from count ≡ true
    pub to : nat_lt c.plan.to count ≡ true
    pub other : c.plan.from ≢ c.plan.to
    pub whole : is_whole_if c.plan.filter ≡ true
    pub plan : IsCopyPlan g c.plan.op c.plan
    pub going : copy.answer_of c.phase ≡ None

  -- the member that a packet is out at is one of the share's
  abbrev pub IsOutAt : List ℕ → SharePhase → Type 0
  IsOutAt members (Out member) = has members member ≡ true
  IsOutAt members phase = Prim.Unit {0}

  -- an open share of a number
  pub record IsShare (op : ℕ) (s : ShareState) : Type 0 where
    pub op_is : s.plan.op ≡ op
    pub few : Each (λ member. nat_lt member count ≡ true) s.plan.members
    pub some : 1 < length s.plan.members
    pub distinct : IsDistinct ◌==◌ s.plan.members
    pub whole : is_whole f.kind s.plan.filter ≡ true
    pub plan : IsSharePlan g s.plan.op s.plan
    pub out : IsOutAt s.plan.members s.phase

  -- the messages that come in a run, by sender and receiver
  abbrev pub Label : ℕ → ℕ → Msg → Type 0
  Label s r (Msg.InPacket p) = Input s r × GenuinePacket p
  Label s r (Msg.InCommand c) = Input s r × IsCommand c
  Label s r Msg.InSettle = Input s r
  Label s r Msg.InEnd = Input s r
  Label s r (Msg.Asked c) = (s ≡ 0) × (r ≡ 1) × IsCommand c
  Label s r Msg.End = (s ≡ 0) × (r ≡ 1)
  Label s r (Msg.Diverted cell) = (s ≡ 0) × (r ≡ 1) × Genuine cell
  Label s r (Msg.Forward to mark cell) = ToSwitch s r × (nat_lt to count ≡ true) × (is_handed mark ≡ true) × Genuine cell
  Label s r (Msg.Install op filter from to) = ToSwitch s r × (nat_lt from count ≡ true) × (is_target count to ≡ true) × (is_whole f.kind filter ≡ true)
      × IsChange g op (record { filter = filter; from = from; to = to })
  Label s r (Msg.FenceTo op to) = ToSwitch s r × (nat_lt to count ≡ true)
  Label s r (Msg.Answered op) = ToSwitch s r
  Label s r Msg.Finish = ToSwitch s r
  Label s r (Msg.Carry mark cell) = FromSwitch s r × Genuine cell
  Label s r (Msg.Fence op) = FromSwitch s r
  Label s r Msg.Stop = FromSwitch s r
  Label s r (Msg.Enable op filter action) = FromController s r × (is_whole f.kind filter ≡ true) × (is_free (rule_of action) ≡ false)
  Label s r (Msg.Stream op filter) = FromController s r × (is_whole f.kind filter ≡ true)
  Label s r (Msg.Delete op gone) = FromController s r
  Label s r (Msg.Put op piece first) = FromController s r × IsGoodPiece piece
  Label s r (Msg.Restore op chunks) = FromController s r × AreGoodChunks chunks
  Label s r (Msg.Get op filter) = FromController s r × (is_whole f.kind filter ≡ true)
  Label s r (Msg.GetAll op) = FromController s r
  Label s r (Msg.Standby op chunks) = FromController s r × AreGoodChunks chunks
  Label s r (Msg.PutAll op chunk) = FromController s r
  Label s r (Msg.Sync home op chunks) = FromController s r × AreGoodChunks chunks
  Label s r (Msg.Enabled op) = ToController s r
  Label s r (Msg.Piece op piece) = ToController s r × IsGoodPiece piece
  Label s r (Msg.Deleted op) = ToController s r
  Label s r (Msg.PutOk op) = ToController s r
  Label s r (Msg.PutNo op refused) = ToController s r × AreGoodChunks refused.chunks × (is_done refused.why ≡ false)
  Label s r (Msg.Restored op) = ToController s r
  Label s r (Msg.Event op cell) = ToController s r × Genuine cell
  Label s r (Msg.Fenced op) = ToController s r
  Label s r (Msg.Chunks op chunks) = ToController s r × AreGoodChunks chunks
  Label s r (Msg.AllChunk op chunk) = ToController s r
  Label s r (Msg.Kept op) = ToController s r
  Label s r (Msg.Shared op chunk) = ToController s r × IsGoodChunk chunk
  Label s r (Msg.Synced op) = ToController s r
  Label s r Msg.Final = ToController s r
  Label s r (Msg.Credit cell) = (2 ≤ s) × (r ≡ 0) × (cell.pool ≡ 0)
  Label s r message = ⊥

  abbrev pub shown : Msg → Option (Any R)
  shown = outline_any f (place g)

  abbrev pub S : net.Sys R
  S = sys f g.site g.packet

  abbrev pub A : Sharing S
  A = sharing f g.site g.packet

  -- the numbers of commands that wait in the input
  abbrev pub commands : List Msg → List ℕ
  commands [] = []
  commands (Msg.InCommand c ∷ ms) = c.op ∷ commands ms
  commands (m ∷ ms) = commands ms

  -- whether a packet is of a unit
  abbrev pub is_of : Unit → ℕ → Bool
  is_of u p = same_unit (unit_at f.kind g.site (g.packet p)) u

  -- the switch of a world
  pub record IsSwitch (s : SwitchState) (to : Unit → ℕ) : Type 0 where
    pub site : s.site ≡ g.site
    pub instances : s.instances ≡ count
    pub filters : AreFilters s.rules
    pub routes : RoutesAll f.kind s to
    pub pool : s.pool.name ≡ 0

  -- an open move of the abstract network is one of the controller's
  pub record IsListed (c : ControllerState) (e : Open R) : Type 0 where
    pub move : MoveState
    pub there : finite.get c.operations e.op.num ≡ Some (Move move)
    pub filter : e.filter ≡ move.plan.filter

  -- the controller of a world
  pub record IsController (c : ControllerState) (ops : List (Open R)) (shares : List OpenShare) (next : ℕ) : Type 0 where
    pub names : c.names ≡ g.names
    pub site : c.site ≡ g.site
    pub opens : OpensAll f (place g) g.site ops shares c
    pub moves : (op : ℕ) (m : MoveState) → finite.get c.operations op ≡ Some (Move m) → IsMove op m
    pub copies : (op : ℕ) (y : CopyState) → finite.get c.operations op ≡ Some (Copy y) → IsCopy op y
    pub shared : (op : ℕ) (s : ShareState) → finite.get c.operations op ≡ Some (Share s) → IsShare op s
    pub listed : Each (IsListed c) ops
    pub nothing : (op : ℕ) → next ≤ op → stored_of c.store op ≡ []
    pub emptied : (op : ℕ) → finite.get c.operations op ≡ None → stored_of c.store op ≡ []
    pub unstored : (op : ℕ) (y : CopyState) → finite.get c.operations op ≡ Some (Copy y) → stored_of c.store op ≡ []
    pub going : (op : ℕ) (m : MoveState) → finite.get c.operations op ≡ Some (Move m) → answer_of m.phase ≡ None
    pub genuine : (op : ℕ) → Each Genuine (stored_of c.store op)

  -- what was done, by number and node
  abbrev pub by_node : List Done → List (ℕ × ℕ)
  by_node ds = map (λ d. (d.number, instance_node d.instance)) ds

-- the nodes of a world
pub record Nodes (F R : Type 0) : Type 0 where
  pub switch : SwitchState
  pub controller : ControllerState
  pub instance : ℕ → InstanceState F R

abbrev pub node_of : {F R : Type 0} → Nodes F R → ℕ → Node F R
node_of x zero = Switch x.switch
node_of x (suc zero) = Controller x.controller
node_of x (suc (suc i)) = Instance (x.instance (suc (suc i)))

-- how the next number may grow by a step: at most to behind that of a command that the controller takes
abbrev pub Grows : Msg → ℕ → ℕ → Type 0
Grows (Msg.Asked c) b a = b ≤ suc c.op → a ≤ suc c.op
Grows m b a = a ≤ b

-- which node took which message, from where
pub record Took : Type 0 where
  pub node : ℕ
  pub port : ℕ
  pub message : Msg

module _ {R : Type 0} (f : Semantics R) (g : Given) where
  -- the links of the abstract network after a node has taken a message that it shows, or doesn't
  abbrev pub links_next : (ℕ → ℕ → List (Any R)) → Took → List (ℕ × Msg) → ℕ → ℕ → List (Any R)
  links_next l t sends i j = by_shown (shown f g t.message)
    where
      by_shown : Option (Any R) → List (Any R)
      by_shown (Some m) = links_after l t.port t.node (outline_all f (place g) sends) i j
      by_shown None = l i j ++ (if i == t.node then sent_for j (outline_all f (place g) sends) else [])

  -- what has come of a unit by a log
  abbrev pub came_by : List Note → Unit → Came
  came_by log u =
      record { all = filter (is_of f g u) (arrivals_in log); diverted = diverted_in g (is_of f g u) u [] log; bared = loose_by g u (installs_in log) }

-- the numbers of the commands that are asked for on a link
abbrev pub asked_num : {R : Type 0} → Any R → Option ℕ
asked_num (Old (net.Asked x)) = Some x.num
asked_num (New (ShareMsg.Asked x)) = Some x.num
asked_num m = None

abbrev pub asked_nums : {R : Type 0} → List (Any R) → List ℕ
asked_nums ms = filter_map asked_num ms

-- what a step finds: the nodes, the world of the abstract network that shows them, the log, and the input
pub record Scene (F : Type 0) {R : Type 0} (f : Semantics R) (g : Given) : Type 0 where
  pub nodes : Nodes F R
  pub world : WholeWorld (S f g) (A f g)
  pub log : List Note
  pub input : List Msg

module _ {F R : Type 0} (f : Semantics R) (g : Given) where
  -- instance k of a world
  pub record IsInstanceAt (k : ℕ) (i : InstanceState F R) (w : WholeWorld (S f g) (A f g)) : Type 0 where
    pub outline_is : outline_instance f g.site g.packet i ≡ w.inst k
    pub standby_is : i.table.standby ≡ w.standby k
    pub stands : HasRecords f i.table.standby
    pub rules : IsInstance f g.site g.packet (place g) i
    pub held : Each (λ r. is_free (rule_of r.action) ≡ false) i.rules
    pub records : HasRecords f i.table.live
    pub number : instance_node i.index ≡ k

  -- also of another world that has the same there
  pub instance_stays : {k : ℕ} {i : InstanceState F R} {w v : WholeWorld (S f g) (A f g)} → w.inst k ≡ v.inst k → w.standby k ≡ v.standby k
      → IsInstanceAt k i w → IsInstanceAt k i v
  instance_stays same also h = record {
    outline_is = h.outline_is ∙ same;
    standby_is = h.standby_is ∙ also;
    stands = h.stands;
    rules = h.rules;
    held = h.held;
    records = h.records;
    number = h.number;
  }

  -- a list of links as the abstract network sees it
  abbrev pub Shows : ℕ → Network (Node F R) Msg Note → (ℕ → ℕ → List (Any R)) → Type 0
  Shows n w l = (i j : ℕ) → i < n → j < n → (i == 0) && (j == 0) ≡ false → l i j ≡ filter_map (shown f g) (queue_at w (at j i))

  -- what holds of what a step finds in a run of n nodes
  pub record AreShown (n : ℕ) (x : Scene F f g) : Type 0 where
    pub switch : IsSwitch f g x.nodes.switch x.world.target
    pub controller : IsController f g x.nodes.controller x.world.ops x.world.shares x.world.next
    pub owners : (u : Unit) → unit_fits f.kind u ≡ true → x.world.target u ≡ target_by g u (installs_in x.log)
    pub instances : (k : ℕ) → 2 ≤ k → k < n → IsInstanceAt k (x.nodes.instance k) x.world
    pub every : EveryAll (S f g) (A f g) (is_sys f g.site g.packet) x.world (came_by f g x.log)
    pub done_is : x.world.done ≡ by_node f g (dones_in x.log)
    pub rising : Rising x.world.next (asked_nums (x.world.link 0 1) ++ commands f g x.input)

  -- a world of a run
  pub record Joined (n : ℕ) (w : Network (Node F R) Msg Note) : Type 0 where
    pub nodes : Nodes F R
    pub nodes_are : (k : ℕ) → k < n → (d : Node F R) → get_or w.nodes k d ≡ node_of nodes k
    pub world : WholeWorld (S f g) (A f g)
    pub links : Shows n w world.link
    pub labels : OnLinks (Label f g) w
    pub shown_is : AreShown n (record { nodes = nodes; world = world; log = w.log; input = queue_at w (at 0 0) })

  -- what is found after a step
  abbrev pub scene_after : Scene F f g → Took → Stepped (Node F R) Msg Note → Nodes F R → WholeWorld (S f g) (A f g) → Scene F f g
  scene_after x t did nodes world =
      record { nodes = nodes; world = world; log = x.log ++ did.notes; input = less_first ((0 == t.node) && (0 == t.port)) x.input }

  -- a step leads from a world of a run to one
  pub record Leads (n : ℕ) (x : Scene F f g) (t : Took) (did : Stepped (Node F R) Msg Note) : Type 0 where
    pub nodes : Nodes F R
    pub own : did.node ≡ node_of nodes t.node
    pub others : (j : ℕ) → j ≢ t.node → node_of nodes j ≡ node_of x.nodes j
    pub world : WholeWorld (S f g) (A f g)
    pub links : (i j : ℕ) → world.link i j ≡ links_next f g x.world.link t did.sends i j
    pub labels : EachSent (Label f g) t.node did.sends
    pub grows : Grows t.message x.world.next world.next
    pub shown_is : AreShown n (scene_after x t did nodes world)

  -- what a step takes in a run of n nodes: a message that is the first on its link, or of the input
  pub record IsTaken (n : ℕ) (x : Scene F f g) (t : Took) : Type 0 where
    pub count_is : n ≡ count f g + 2
    pub receiver : t.node < n
    pub sender : t.port < n
    pub label : Label f g t.port t.node t.message
    pub rest : List (Any R)
    pub head : (t.port == 0) && (t.node == 0) ≡ false → (m : Any R) → shown f g t.message ≡ Some m → x.world.link t.port t.node ≡ m ∷ rest
    pub items : List Msg
    pub item : t.port ≡ 0 → t.node ≡ 0 → x.input ≡ t.message ∷ items
    pub ready : t.port ≡ 0 → t.node ≡ 0 → takes_in x.nodes.switch t.message ≡ true
