-- The network with shares: its messages, the shares that are open, and the step of each node. Moves are those of `Net`: a whole world is
-- also one of `Net` (`moves_of`), whose links leave out what shares and copies send.
use Rattle.std.proofs.Common.{◌≡◌, ℕ, suc, ◌<◌, ◌≤◌, Bool, true, false, Option, Some, None, List, [], ◌∷◌, ◌++◌, length}
use Rattle.std.specs.Prelude.{if◌then◌else◌, ◌&&◌, ◌==◌, option_map, not, map, filter}
use Rattle.std.specs.List.{find, filter_map}
use Rattle.std.specs.Option.{option_map_or}
use Rattle.proof_machines.proofs.unit.Real.{Chunks, record_at, MoveMsg, sent_for}
use Rattle.proof_machines.proofs.share.Share as share
use Rattle.proof_machines.proofs.share.Stages.{distinct}
use Rattle.copy_share.specs.declared.share_phase.SharePhase.{SharePhase}
use Rattle.copy_share.specs.declared.share_phase.SharePhase.TheVariants.{Fencing}
use Rattle.copy_share.specs.ShareTable as said
use Rattle.copy_share.specs.ShareTable.{Said, Words, on_fenced, on_chunks, on_shared, on_synced, service_if_idle}
use Rattle.flow_filter.specs.declared.filter.Filter.{Filter}
use Rattle.proof_machines.proofs.net.Net.{Msg, Carry_on, Fence_on, Of_move, MoveAsked, Sys, NumberedInstance, inst_step, process, Open, ControllerMove}
use Rattle.proof_machines.proofs.net.Net.{ctrl_step, sw_target, sw_sends, meets_any, new_op, begin_sends, World, links_after, at_node, put}
use Rattle.nf_function.specs.declared.unit.Unit as units
use Rattle.record_table.specs.Table.{same_unit}
pub use Rattle.proof_machines.proofs.net.ShareMessages.{ShareAsked, ShareMsg, Shared_on, Diverted_on}

-- a message of a move or of a share
pub data Any (R : Type 0) : Type 0 where
  Old : Msg R → Any R
  New : ShareMsg R → Any R

-- what moves see of a message, and of a link
abbrev pub old_of : {R : Type 0} → Any R → Option (Msg R)
old_of (Old m) = Some m
old_of (New m) = None

abbrev pub olds : {R : Type 0} → List (Any R) → List (Msg R)
olds ms = filter_map old_of ms

-- of each message of a share on a link
abbrev pub EachNew : {R : Type 0} → (ShareMsg R → Type 0) → List (Any R) → Type 0
EachNew P [] = Prim.Unit {0}
EachNew P (Old m ∷ ms) = EachNew P ms
EachNew P (New m ∷ ms) = P m × EachNew P ms

abbrev pub same : Bool → Bool → Bool
same a b = if b then a else not a

-- what a step of moves sends, as sends of the whole world
abbrev pub as_old : {R : Type 0} → List (ℕ × Msg R) → List (ℕ × Any R)
as_old xs = map (λ x. (x.0, Old x.1)) xs

-- what shares need of the function, the tables and the packets, beside Sys
pub record Sharing {R : Type 0} (S : Sys R) : Type 0 where
  pub member : List ℕ → ℕ → ℕ  -- the member of a packet: by its ports and its remote address
  pub replace : Chunks R → S.B.T → S.B.T  -- Sync: the chunks' records in place of those that are there

pub record IsSharing {R : Type 0} (S : Sys R) (A : Sharing S) : Type 0 where
  pub member_in : (ms : List ℕ) (p : ℕ) → 0 < length ms → share.has ms (A.member ms p) ≡ true
  pub replaced : (u : units.Unit) (cs : Chunks R) (t : S.B.T) → S.B.at u (A.replace cs t) ≡ share.over (record_at u cs) (S.B.at u t)

-- an open share; it stays open
pub record OpenShare : Type 0 where
  pub num : ℕ
  pub home : ℕ
  pub members : List ℕ
  pub filter : Filter
  pub phase : SharePhase
  pub queue : List ℕ

abbrev pub new_share : ShareAsked → OpenShare
new_share x = record { num = x.num; home = x.home; members = x.members; filter = x.filter; phase = Fencing; queue = [] }

abbrev pub find_share : List OpenShare → ℕ → Option OpenShare
find_share es n = find (λ e. e.num == n) es

abbrev pub set_share : ℕ → SharePhase → List ℕ → List OpenShare → List OpenShare
set_share n ph q [] = []
set_share n ph q (e ∷ es) = if e.num == n then record e { phase = ph; queue = q } ∷ es else e ∷ set_share n ph q es

-- the share whose filter takes a unit
abbrev pub share_taking : {R : Type 0} → Sys R → List OpenShare → units.Unit → Option OpenShare
share_taking S es u = find (λ e. S.takes e.filter u) es

-- what a share is told
pub data Told (R : Type 0) : Type 0 where
  Is_fenced : Told R
  Has_chunks : Chunks R → Told R
  Has_chunk : units.Unit × R → Told R
  Is_synced : Told R
  Has_packet : ℕ → Told R

pub record ShareTurn (R : Type 0) : Type 0 where
  pub phase : SharePhase
  pub queue : List ℕ
  pub sends : List (ℕ × Any R)

-- a Sync to each member but one, in order
abbrev pub syncs : {R : Type 0} → ℕ → ℕ → ℕ → Chunks R → List ℕ → List (ℕ × Any R)
syncs n home j cs members = map (λ m. (m, New (ShareMsg.Sync n (m == home) cs))) (share.without_number members j)

-- what a row of a share says, as messages with their receivers
abbrev pub share_says : {R : Type 0} → OpenShare → Said ℕ (Chunks R) → List (ℕ × Any R)
share_says e said.Nothing = []
share_says e said.Get = (e.home, New (ShareMsg.Get e.num e.filter)) ∷ []
share_says e (said.Sync one cs) = syncs e.num e.home one cs e.members
share_says e (said.Forward to p) = (0, New (ShareMsg.Forward e.num (to == e.home) p to)) ∷ []

module _ {R : Type 0} (S : Sys R) (A : Sharing S) where
  abbrev pub s_goes : SharePhase → List ℕ → List (ℕ × Any R) → ShareTurn R
  s_goes ph q xs = record { phase = ph; queue = q; sends = xs }

  -- the words of a share's table, with the queue
  abbrev pub share_words : OpenShare → List ℕ → Words ℕ (Chunks R) (ShareTurn R) (ShareTurn R)
  share_words e q = record {
    home = e.home;
    others = λ one. length (share.without_number e.members one);
    member = A.member e.members;
    next = λ ph says. s_goes ph q (share_says e says);
    done = λ turn. turn;
    keeps = λ turn. turn;
    stores = λ left turn. record turn { queue = left };
  }

  -- the row by sender and message
  abbrev pub s_row : OpenShare → ℕ → Told R → ShareTurn R
  s_row e sender Is_fenced = if sender == e.home then on_fenced (share_words e e.queue) e.phase else s_goes e.phase e.queue []
  s_row e sender (Has_chunks cs) = if sender == e.home then on_chunks (share_words e e.queue) e.phase cs else s_goes e.phase e.queue []
  s_row e sender (Has_chunk c) = on_shared (share_words e e.queue) e.phase (λ m. sender == m) (c ∷ [])
  s_row e sender Is_synced = on_synced (λ ph. s_goes ph e.queue []) (λ turn. turn) e.phase
  s_row e sender (Has_packet p) = s_goes e.phase (e.queue ++ p ∷ []) []

  -- and then the next packet is served where that may be
  abbrev pub s_serves : OpenShare → ShareTurn R → ShareTurn R
  s_serves e r = let next = service_if_idle (share_words e r.queue) r.phase r.queue in record next { sends = r.sends ++ next.sends }

  abbrev pub share_row : OpenShare → ℕ → Told R → ShareTurn R
  share_row e sender told = s_serves e (s_row e sender told)

  -- the share that a message at the controller is for. (The real controller takes a Diverted from the switch alone: label it by its link.)
  abbrev pub told_by : List OpenShare → Any R → Option (OpenShare × Told R)
  told_by es (Old (Of_move g (MoveMsg.Fenced n))) = option_map (λ e. (e, Is_fenced)) (find_share es n)
  told_by es (New (ShareMsg.Chunks n cs)) = option_map (λ e. (e, Has_chunks cs)) (find_share es n)
  told_by es (New (ShareMsg.Shared n c)) = option_map (λ e. (e, Has_chunk c)) (find_share es n)
  told_by es (New (ShareMsg.Synced n)) = option_map (λ e. (e, Is_synced)) (find_share es n)
  told_by es (New (Diverted_on p)) = option_map (λ e. (e, Has_packet p)) (share_taking S es (S.packet_unit p))
  told_by es m = None

  pub record SharesStep : Type 0 where
    pub shares : List OpenShare
    pub sends : List (ℕ × Any R)

  abbrev pub by_share : List OpenShare → ℕ → Option (OpenShare × Told R) → SharesStep
  by_share es sender None = record { shares = es; sends = [] }
  by_share es sender (Some x) =
      record { shares = set_share x.0.num (share_row x.0 sender x.1).phase (share_row x.0 sender x.1).queue es; sends = (share_row x.0 sender x.1).sends }

  -- An instance, on a new message: its two tables
  pub record MemberTurn : Type 0 where
    pub live : S.B.T
    pub standby : S.B.T
    pub sends : List (ℕ × Any R)
    pub ran : List ℕ

  -- the chunk of a packet's unit, where it has a record (after the step it has)
  abbrev pub shared_chunk : ℕ → ℕ → S.B.T → List (ℕ × Any R)
  shared_chunk n p t = option_map_or (λ r. (1, New (ShareMsg.Shared n (S.packet_unit p, r))) ∷ []) (S.B.at (S.packet_unit p) t) []

  abbrev pub member_step : S.B.T → S.B.T → ShareMsg R → MemberTurn
  member_step live standby (Shared_on n true p) =
      record { live = process S live p; standby = standby; sends = shared_chunk n p (process S live p); ran = p ∷ [] }
  member_step live standby (Shared_on n false p) =
      record { live = live; standby = process S standby p; sends = shared_chunk n p (process S standby p); ran = p ∷ [] }
  member_step live standby (ShareMsg.Get n g) =
      record { live = live; standby = standby; sends = (1, New (ShareMsg.Chunks n (S.B.select (S.takes g) live))) ∷ []; ran = [] }
  member_step live standby (ShareMsg.Sync n true cs) = record {
    live = A.replace cs live;
    standby = standby;
    sends = (1, New (ShareMsg.Synced n)) ∷ [];
    ran = [];
  }
  member_step live standby (ShareMsg.Sync n false cs) = record {
    live = live;
    standby = A.replace cs standby;
    sends = (1, New (ShareMsg.Synced n)) ∷ [];
    ran = [];
  }
  member_step live standby m = record { live = live; standby = standby; sends = []; ran = [] }

  -- the switch, on a new message
  abbrev pub share_target : (units.Unit → ℕ) → ShareMsg R → units.Unit → ℕ
  share_target t (ShareMsg.Install n g from) v = if S.takes g v && (t v == from) then 1 else t v
  share_target t m v = t v

  abbrev pub share_sends : ShareMsg R → List (ℕ × Any R)
  share_sends (ShareMsg.Install n g from) = (from, Old (Fence_on n)) ∷ []
  share_sends (ShareMsg.Forward n home p to) = (to, New (Shared_on n home p)) ∷ []
  share_sends m = []

  -- the whole world
  pub record WholeWorld : Type 0 where
    pub target : units.Unit → ℕ  -- 1 is the controller
    pub ops : List (Open R)
    pub shares : List OpenShare
    pub next : ℕ
    pub inst : ℕ → NumberedInstance S
    pub standby : ℕ → S.B.T
    pub link : ℕ → ℕ → List (Any R)
    pub done : List (ℕ × ℕ)

  -- as moves see it
  abbrev pub moves_of : WholeWorld → World S
  moves_of w = record { target = w.target; ops = w.ops; next = w.next; inst = w.inst; link = λ i j. olds (w.link i j); done = w.done }

  -- a packet of the input: to its unit's instance, or to the controller
  abbrev pub arrive_sends : ℕ → ℕ → List (ℕ × Any R)
  arrive_sends t q = if t == 1 then (1, New (Diverted_on q)) ∷ [] else (t, Old (Carry_on q)) ∷ []

  -- steps, one for each kind of node: Old by Net's step, New by those above
  abbrev pub whole_inst : WholeWorld → ℕ → ℕ → Any R → WholeWorld
  whole_inst w p y (Old m) = record w {
    inst = put w.inst y (inst_step S (w.inst y) m).node;
    link = links_after w.link p y (as_old (inst_step S (w.inst y) m).sends);
    done = w.done ++ at_node y (inst_step S (w.inst y) m).ran;
  }
  whole_inst w p y (New m) =
      let d = member_step (w.inst y).live (w.standby y) m in
      record w {
        inst = put w.inst y (record (w.inst y) { live = d.live });
        standby = put w.standby y d.standby;
        link = links_after w.link p y d.sends;
        done = w.done ++ at_node y d.ran;
      }

  -- At most one of the two sends anything: no number is that of two operations. The real table looks into one list of operations.
  abbrev pub old_step : List (Open R) → ℕ → Any R → ControllerMove R
  old_step es p (Old m) = ctrl_step es p m
  old_step es p (New m) = record { ops = es; sends = [] }

  abbrev pub whole_ctrl : WholeWorld → ℕ → Any R → WholeWorld
  whole_ctrl w p m =
      let s = by_share w.shares p (told_by w.shares m) in
      record w { ops = (old_step w.ops p m).ops; shares = s.shares; link = links_after w.link p 1 (as_old (old_step w.ops p m).sends ++ s.sends) }

  abbrev pub whole_switch : WholeWorld → ℕ → Any R → WholeWorld
  whole_switch w p (Old m) = record w { target = λ v. sw_target S w.target m v; link = links_after w.link p 0 (as_old (sw_sends m)) }
  whole_switch w p (New m) = record w { target = λ v. share_target w.target m v; link = links_after w.link p 0 (share_sends m) }

  abbrev pub whole_input : WholeWorld → ℕ → WholeWorld
  whole_input w q = record w { link = λ i j. w.link i j ++ (if i == 0 then sent_for j (arrive_sends (w.target (S.packet_unit q)) q) else []) }

  -- a command goes from the input to the controller
  abbrev pub asks : WholeWorld → Any R → WholeWorld
  asks w m = record w { link = λ i j. w.link i j ++ (if i == 0 then sent_for j ((1, m) ∷ []) else []) }

  -- begins: of a move, as `Net` has it, and of a share
  abbrev pub begin_move : WholeWorld → MoveAsked → WholeWorld
  begin_move w x = record w {
    ops = w.ops ++ new_op x.num x ∷ [];
    next = suc x.num;
    link = λ i j. w.link i j ++ (if i == 1 then sent_for j (as_old (begin_sends x.num x)) else []);
  }

  abbrev pub begin_share : WholeWorld → ShareAsked → WholeWorld
  begin_share w x = record w {
    shares = w.shares ++ new_share x ∷ [];
    next = suc x.num;
    link = λ i j. w.link i j ++ (if i == 1 then sent_for j ((0, New (ShareMsg.Install x.num x.filter x.home)) ∷ []) else []);
  }

  -- what a copy does, which nothing here sees but for these two: its Get goes out (a number that no share has), and a Standby that is taken
  -- changes records that stand by; of no unit that a share takes, since the controller refuses a copy whose filter meets a share's
  abbrev pub puts_get : WholeWorld → ℕ → Filter → ℕ → WholeWorld
  puts_get w n g src = record w { next = suc n; link = λ i j. w.link i j ++ (if i == 1 then sent_for j ((src, New (ShareMsg.Get n g)) ∷ []) else []) }

  abbrev pub keeps : WholeWorld → ℕ → S.B.T → WholeWorld
  keeps w y t = record w { standby = put w.standby y t }

  abbrev pub meets_shares : Filter → List OpenShare → Bool
  meets_shares g [] = false
  meets_shares g (e ∷ es) = if S.meets g e.filter then true else meets_shares g es

  -- a share may begin; a move may as `May` says, and where its filter meets no share's
  pub record MayShare (w : WholeWorld) (x : ShareAsked) : Type 0 where
    pub fresh : w.next ≤ x.num
    pub home_in : share.has x.members x.home ≡ true
    pub apart : distinct x.members ≡ true
    pub two : 1 < length x.members
    pub insts : (k : ℕ) → share.has x.members k ≡ true → 2 ≤ k
    pub moves_apart : meets_any S x.filter w.ops ≡ false
    pub shares_apart : meets_shares x.filter w.shares ≡ false

  -- what was done of a unit, with places
  abbrev pub ran_of : units.Unit → List (ℕ × ℕ) → List (ℕ × ℕ)
  ran_of u ds = filter (λ d. same_unit (S.packet_unit d.0) u) ds

-- a unit, and its share
pub record SeeingShare : Type 0 where
  pub unit : units.Unit
  pub num : ℕ
  pub home : ℕ
  pub members : List ℕ
  pub filter : Filter
