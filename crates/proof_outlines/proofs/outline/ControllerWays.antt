-- The ways in which the controller goes on with a message: what holds of each of them holds of its row.
use Rattle.proof_outlines.proofs.Words.{◌≡◌, ℕ, Bool, true, Option, Some, None, List, [], ◌∷◌, refl, ◌==◌, slice_set, filter_map, Filter, flow_of, Pass}
use Rattle.proof_outlines.proofs.Words.{FullCell, Answer, Command, Order, Msg, switch_node, op_of, SharePlan, Share, share_of, place_of, ControllerState, Step}
use Rattle.proof_outlines.proofs.Words.{by_if}
use Rattle.std.specs.FinMap as finite
use Rattle.copy_share.specs.Share as share
use Rattle.ctrl_node.specs.Controller as ctrl

-- The ways of a row, a command taken as a whole: nothing, the end, a final message, an event that goes back, a message of some number, a packet of a
-- share, and a command.
module _ (c : ControllerState) (port : ℕ) (Allows : Msg → Step → Type 0) where
  pub record WaysOfRow : Type 0 where
    pub still : (m : Msg) → Allows m (ctrl.still c)
    pub ended : Allows Msg.End (ctrl.still (record c { end_came = true }))
    pub stopped : (i : ℕ) → Allows Msg.Final (ctrl.still (record c { stopped = slice_set c.stopped i true }))
    pub returned : (op i : ℕ) (cell : FullCell)
        → Allows (Msg.Event op cell) (record { node = c; sends = (switch_node, Msg.Forward i (Pass op) cell) ∷ []; notes = [] })
    pub handed : (op : ℕ) (m : Msg) → op_of m ≡ Some op → Allows m (ctrl.hand_step c op port m)
    pub diverted : (cell : FullCell) → Allows (Msg.Diverted cell) (ctrl.on_diverted c cell)
    pub asked : (k : Command) → Allows (Msg.Asked k) (ctrl.on_asked c k)

  module _ (ways : WaysOfRow) where
    by_number : (m : Msg) (o : Option ℕ) → op_of m ≡ o → Allows m (ctrl.numbered c port m o)
    by_number m None is = ways.still m
    by_number m (Some op) is = ways.handed op m is

    by_event : (op : ℕ) (cell : FullCell) (o : Option ℕ) → Allows (Msg.Event op cell) (ctrl.on_event c port op cell o)
    by_event op cell None = ways.still (Msg.Event op cell)
    by_event op cell (Some i) = by_if (Allows (Msg.Event op cell)) (finite.contains_key c.operations op) (ways.handed op (Msg.Event op cell) refl)
        (ways.returned op i cell)

    by_final : (o : Option ℕ) → Allows Msg.Final (ctrl.on_final c o)
    by_final None = ways.still Msg.Final
    by_final (Some i) = ways.stopped i

    pub row_by : (m : Msg) → Allows m (ctrl.row c port m)
    row_by (Msg.Asked k) = by_if (Allows (Msg.Asked k)) (port == switch_node) (ways.asked k) (ways.still (Msg.Asked k))
    row_by (Msg.Diverted cell) = by_if (Allows (Msg.Diverted cell)) (port == switch_node) (ways.diverted cell) (ways.still (Msg.Diverted cell))
    row_by Msg.End = by_if (Allows Msg.End) (port == switch_node) ways.ended (ways.still Msg.End)
    row_by (Msg.Event op cell) = by_event op cell (ctrl.instance_at c port)
    row_by Msg.Final = by_final (ctrl.instance_at c port)
    row_by m = by_number m (op_of m) refl

module _ (c : ControllerState) (Allows : Msg → Step → Type 0) where
  abbrev share_plan : ℕ → Filter → ℕ → List ℕ → SharePlan
  share_plan op filter home others = record { op = op; members = home ∷ others; filter = filter; site = c.site }

  -- a command that begins: a move, a copy, or a share
  pub record Beginnings : Type 0 where
    pub moves : (k : Command) (op from to : ℕ) (filter : Filter) (keep : Bool)
        → Allows (Msg.Asked k) (ctrl.move_begin c (record { op = op; from = from; to = to; filter = filter; keep = keep }))
    pub copies : (k : Command) (op from to : ℕ) (filter : Option Filter)
        → Allows (Msg.Asked k) (ctrl.copy_begin c (record { op = op; from = from; to = to; filter = filter }))
    pub shares : (k : Command) (op : ℕ) (filter : Filter) (home : ℕ) (others : List ℕ) → Allows (Msg.Asked k)
        (ctrl.opening_step c op (Share (share.share_at_start (share_plan op filter home others))) (share.begin_sends (share_plan op filter home others)))

  -- nothing, the end, a final message, an event that goes back, a message or a packet of an open operation, and a command that is answered or begins
  pub record WaysOfController : Type 0 where
    pub still : (m : Msg) → Allows m (ctrl.still c)
    pub ended : Allows Msg.End (ctrl.still (record c { end_came = true }))
    pub stopped : (i : ℕ) → Allows Msg.Final (ctrl.still (record c { stopped = slice_set c.stopped i true }))
    pub returned : (op i : ℕ) (cell : FullCell)
        → Allows (Msg.Event op cell) (record { node = c; sends = (switch_node, Msg.Forward i (Pass op) cell) ∷ []; notes = [] })
    pub handed : (op port : ℕ) (m : Msg) → Allows m (ctrl.hand_step c op port m)
    pub queued : (op : ℕ) (cell : FullCell) → Allows (Msg.Diverted cell) (ctrl.queue_step c cell (Some op))
    pub answers : (k : Command) (op : ℕ) (answer : Answer) → Allows (Msg.Asked k) (ctrl.answers c op answer)
    pub begins : Beginnings

  module _ (ways : WaysOfController) where
    by_share : (cell : FullCell) (o : Option ℕ) → Allows (Msg.Diverted cell) (ctrl.queue_step c cell o)
    by_share cell None = ways.still (Msg.Diverted cell)
    by_share cell (Some op) = ways.queued op cell

    by_order : (k : Command) (op : ℕ) (what : Order) → Allows (Msg.Asked k) (ctrl.begin_step c op what)
    by_order k op (Order.Move source destination filter keep) = between (place_of c.names source) (place_of c.names destination)
      where
        between : (from to : Option ℕ) → Allows (Msg.Asked k) (ctrl.move_between c op filter keep from to)
        between (Some from) (Some to) = ways.begins.moves k op from to filter keep
        between (Some from) None = ways.still (Msg.Asked k)
        between None to = ways.still (Msg.Asked k)
    by_order k op (Order.Copy source destination filter) = between (place_of c.names source) (place_of c.names destination)
      where
        between : (from to : Option ℕ) → Allows (Msg.Asked k) (ctrl.copy_between c op filter from to)
        between (Some from) (Some to) = ways.begins.copies k op from to filter
        between (Some from) None = ways.still (Msg.Asked k)
        between None to = ways.still (Msg.Asked k)
    by_order k op (Order.Share members filter) = among (filter_map (place_of c.names) members)
      where
        among : (places : List ℕ) → Allows (Msg.Asked k) (ctrl.share_begin c op filter places)
        among [] = ways.still (Msg.Asked k)
        among (home ∷ others) = ways.begins.shares k op filter home others

    by_refusal : (k : Command) (op : ℕ) (what : Order) (o : Option Answer) → Allows (Msg.Asked k) (ctrl.decision_step c op what o)
    by_refusal k op what (Some answer) = ways.answers k op answer
    by_refusal k op what None = by_order k op what

    by_command : (k : Command) → Allows (Msg.Asked k) (ctrl.on_asked c k)
    by_command k = by_if (Allows (Msg.Asked k)) (finite.contains_key c.operations k.op) (ways.still (Msg.Asked k))
        (by_refusal k k.op k.what (ctrl.refusal c k.what))

    pub row_fits : (port : ℕ) (m : Msg) → Allows m (ctrl.row c port m)
    row_fits port = row_by c port Allows (record {
      still = ways.still;
      ended = ways.ended;
      stopped = ways.stopped;
      returned = ways.returned;
      handed = λ op m is. ways.handed op port m;
      diverted = λ cell. by_share cell (share_of c.operations (flow_of c.site cell.packet).0);
      asked = by_command;
    })
