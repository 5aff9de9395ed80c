-- What one unit under a share sees of the whole world: messages as items of the share's machine, links, the members' records, and that a world
-- shows a view (`ShareHolds`).
use Rattle.std.proofs.Common.{◌≡◌, ℕ, Bool, true, false, Option, Some, None, List, [], ◌∷◌}
use Rattle.std.specs.Prelude.{if◌then◌else◌, ◌&&◌, ◌==◌}
use Rattle.proof_machines.proofs.unit.Real
use Rattle.proof_machines.proofs.unit.Real.{record_at, MoveMsg, where_true}
use Rattle.std.specs.List.{filter_map}
use Rattle.proof_machines.proofs.share.Share.{Item, Item.Carry, Item.Fence, Item.Shared, Item.Diverted, Item.Install, Item.Forward, Item.Get, Item.Sync}
use Rattle.proof_machines.proofs.share.Share.{Item.Fenced, Item.Chunks, Item.Chunk, Item.Synced, Item.Stray, UnitShare, View, has}
use Rattle.copy_share.specs.declared.share_phase.SharePhase.{SharePhase}
use Rattle.proof_machines.proofs.net.Net.{Msg, Msg.Carry_on, Msg.Pass_on, Msg.Fence_on, Msg.Of_move, Sys}
use Rattle.proof_machines.proofs.net.Shares.{Any, Any.Old, Any.New, ShareMsg, ShareMsg.Shared_on, ShareMsg.Diverted_on}
use Rattle.proof_machines.proofs.net.Shares.{same}
use Rattle.proof_machines.proofs.net.Shares.{Sharing, OpenShare, find_share, WholeWorld, ran_of, SeeingShare}
use Rattle.nf_function.specs.declared.unit.Unit as units
use Rattle.record_table.specs.Table.{same_unit}

-- the links of a view, by pairs of nodes
abbrev pub share_expect : {R : Type 0} → View R → ℕ → ℕ → List (Item R)
share_expect x i j = if i == 0 then (if j == 1 then x.sc else x.sw j) else if i == 1 then (if j == 0 then x.cs else x.to j) else if j == 1 then x.back i else []

module _ {R : Type 0} (S : Sys R) (A : Sharing S) (z : SeeingShare) where
  abbrev pub mine : ℕ → Bool
  mine p = same_unit (S.packet_unit p) z.unit

  abbrev pub unit_share : UnitShare R
  unit_share = record { mine = mine; F = S.F; home = z.home; members = z.members; member_of = λ p. A.member z.members p }

  abbrev pub fit : Bool → Item R → Item R
  fit b item = if b then item else Stray

  -- what has something of the unit with another number is Stray, which no stage has
  abbrev pub of_number : ℕ → ℕ → Item R → Option (Item R)
  of_number n p item = if n == z.num then Some item else where_true (mine p) Stray

  -- a move's message with the share's number is Stray, but for the answer to a fence
  abbrev pub move_seen : MoveMsg R → Option (Item R)
  move_seen (MoveMsg.Fenced n) = where_true (n == z.num) Fenced
  move_seen (MoveMsg.Install n from to) = where_true (n == z.num) Stray
  move_seen (MoveMsg.Fence_to n to) = where_true (n == z.num) Stray
  move_seen m = None

  abbrev pub old_seen : Msg R → Option (Item R)
  old_seen (Carry_on p) = where_true (mine p) (Carry p)
  old_seen (Pass_on p) = where_true (mine p) Stray
  old_seen (Fence_on n) = where_true (n == z.num) Fence
  old_seen (Of_move g m) = move_seen m
  old_seen m = None

  -- at the receiver r
  abbrev pub new_seen : ℕ → ShareMsg R → Option (Item R)
  new_seen r (Shared_on n home p) = of_number n p (fit (same home (r == z.home)) (Shared p))
  new_seen r (Diverted_on p) = if S.takes z.filter (S.packet_unit p) then Some (Diverted p) else where_true (mine p) Stray
  new_seen r (ShareMsg.Asked x) = None
  new_seen r (ShareMsg.Install n g from) = where_true (n == z.num) (fit (from == z.home) Install)
  new_seen r (ShareMsg.Forward n home p to) = of_number n p (fit (same home (to == z.home)) (Forward p to))
  new_seen r (ShareMsg.Get n g) = where_true (n == z.num) Get
  new_seen r (ShareMsg.Sync n home cs) = where_true (n == z.num) (fit (same home (r == z.home)) (Sync (record_at z.unit cs)))
  new_seen r (ShareMsg.Chunks n cs) = where_true (n == z.num) (Chunks (record_at z.unit cs))
  new_seen r (ShareMsg.Shared n c) = where_true (n == z.num) (Chunk (record_at z.unit (c ∷ [])))
  new_seen r (ShareMsg.Synced n) = where_true (n == z.num) Synced

  abbrev pub share_seen : ℕ → Any R → Option (Item R)
  share_seen r (Old m) = old_seen m
  share_seen r (New m) = new_seen r m

  abbrev pub share_items : ℕ → List (Any R) → List (Item R)
  share_items r ms = filter_map (share_seen r) ms

  -- a member's record: live at home, standing by at the others
  abbrev pub own_of : Bool → S.B.T → S.B.T → Option R
  own_of home live standby = if home then S.B.at z.unit live else S.B.at z.unit standby

  abbrev pub own_at : WholeWorld S A → ℕ → Option R
  own_at w k = own_of (k == z.home) (w.inst k).live (w.standby k)

  -- the unit's share at the controller
  abbrev pub as_share : SharePhase → List ℕ → OpenShare
  as_share ph q = record { num = z.num; home = z.home; members = z.members; filter = z.filter; phase = ph; queue = q }

  pub record ShareHolds (w : WholeWorld S A) (x : View R) : Type 0 where
    pub links : (i j : ℕ) → (i == 0) && (j == 0) ≡ false → share_items j (w.link i j) ≡ share_expect x i j
    pub own : (k : ℕ) → has z.members k ≡ true → own_at w k ≡ x.own k
    pub share : find_share w.shares z.num ≡ Some (as_share x.phase x.queue)
    pub target : w.target z.unit ≡ (if x.diverts then 1 else z.home)
    pub diverts : (v : units.Unit) → S.takes z.filter v ≡ true → w.target v ≡ 1 → x.diverts ≡ true
    pub done : ran_of S A z.unit w.done ≡ x.done
