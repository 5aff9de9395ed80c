-- The machine of one unit under a strict share: what it sees of the switch, the controller and the members. Nodes are numbers: the
-- switch is 0, the controller 1, instances are from 2.
use Rattle.std.proofs.Common.{ℕ, Bool, true, false, Option, Some, None, List, [], ◌∷◌, ◌++◌, map, length}
use Rattle.std.specs.Prelude.{if◌then◌else◌, ◌==◌, not, filter}
use Rattle.copy_share.specs.declared.share_phase.SharePhase.{SharePhase}
use Rattle.copy_share.specs.ShareTable as said
use Rattle.copy_share.specs.ShareTable.{Said, Words, on_fenced, on_chunks, on_shared, on_synced, service_if_idle}
use Rattle.proof_machines.proofs.unit.Machine.{Steps}

-- a packet and the node that processed it
abbrev pub Ran : Type 0
Ran = ℕ × ℕ

abbrev pub at_node : ℕ → List ℕ → List Ran
at_node j ps = map (λ p. (p, j)) ps

abbrev pub runs : {R : Type 0} → Steps R → Option R → List Ran → Option R
runs F r [] = r
runs F r (d ∷ ds) = runs F (Some (F.step r d.0)) ds

-- Chunks show what they have of the unit. A packet of the share is seen whichever unit it is of.
pub data Item (R : Type 0) : Type 0 where
  -- from the switch to a member: a plain packet of the unit, the fence, a packet of the share
  Carry : ℕ → Item R
  Fence : Item R
  Shared : ℕ → Item R
  -- from the switch to the controller
  Diverted : ℕ → Item R
  -- from the controller to the switch: the change of rules, a packet of the share with its member
  Install : Item R
  Forward : ℕ → ℕ → Item R
  -- from the controller to a member
  Get : Item R
  Sync : Option R → Item R
  -- from a member to the controller: its fence came, all chunks, the chunk of one packet, a Sync is taken
  Fenced : Item R
  Chunks : Option R → Item R
  Chunk : Option R → Item R
  Synced : Item R
  -- what no shape has: a message of the share that says something wrong
  Stray : Item R

-- one unit and its share
pub record UnitShare (R : Type 0) : Type 0 where
  pub mine : ℕ → Bool  -- which packets are the unit's
  pub F : Steps R
  pub home : ℕ
  pub members : List ℕ
  pub member_of : ℕ → ℕ  -- of a packet

abbrev pub has : List ℕ → ℕ → Bool
has [] k = false
has (x ∷ xs) k = if k == x then true else has xs k

abbrev pub without_number : List ℕ → ℕ → List ℕ
without_number xs k = filter (λ x. not (x == k)) xs

-- the fold of what was processed
abbrev pub after : {R : Type 0} → UnitShare R → List Ran → Option R
after f ds = runs f.F None ds

-- a packet as a list, and those of a list, where they are the unit's
abbrev pub if_mine : {R : Type 0} → UnitShare R → ℕ → List ℕ
if_mine f p = if f.mine p then p ∷ [] else []

abbrev pub mine_in : {R : Type 0} → UnitShare R → List ℕ → List ℕ
mine_in f ps = filter f.mine ps

-- what the chunk of a packet shows of the unit
abbrev pub chunk_of : {R : Type 0} → UnitShare R → ℕ → Option R → Option R
chunk_of f p r = if f.mine p then r else None

-- a chunk over a record
abbrev pub over : {R : Type 0} → Option R → Option R → Option R
over (Some r) old = Some r
over None old = old

-- lists at nodes: changed at one, at one alone, put behind others, at none
abbrev pub put : {X : Type 0} → (ℕ → X) → ℕ → X → ℕ → X
put g j x k = if k == j then x else g k

abbrev pub only : {X : Type 0} → ℕ → List X → ℕ → List X
only j xs k = if k == j then xs else []

abbrev pub joined : {X : Type 0} → (ℕ → List X) → (ℕ → List X) → ℕ → List X
joined g h k = g k ++ h k

abbrev pub nowhere : {X : Type 0} → ℕ → List X
nowhere k = []

-- what a member did: its record afterwards, what it sends to the controller, what it processed
pub record Did (R : Type 0) : Type 0 where
  pub own : Option R
  pub to_c : List (Item R)
  pub ran : List Ran

abbrev pub stepped : {R : Type 0} → UnitShare R → ℕ → Option R → ℕ → Option R
stepped f j r p = runs f.F r (at_node j (if_mine f p))

-- a member's step; its record is the live one at home and the one that stands by at the others
abbrev pub member_does : {R : Type 0} → UnitShare R → ℕ → Option R → Item R → Did R
member_does f j r (Carry p) = record { own = Some (f.F.step r p); to_c = []; ran = (p, j) ∷ [] }
member_does f j r Fence = record { own = r; to_c = Fenced ∷ []; ran = [] }
member_does f j r (Shared p) = record { own = stepped f j r p; to_c = Chunk (chunk_of f p (stepped f j r p)) ∷ []; ran = at_node j (if_mine f p) }
member_does f j r Get = record { own = r; to_c = Chunks r ∷ []; ran = [] }
member_does f j r (Sync c) = record { own = over c r; to_c = Synced ∷ []; ran = [] }
member_does f j r item = record { own = r; to_c = []; ran = [] }

-- what the controller did
pub record ControllerTurn (R : Type 0) : Type 0 where
  pub phase : SharePhase
  pub queue : List ℕ
  pub to_s : List (Item R)
  pub to : ℕ → List (Item R)

abbrev pub waits : {R : Type 0} → SharePhase → List ℕ → ControllerTurn R
waits phase q = record { phase = phase; queue = q; to_s = []; to = nowhere }

-- a Sync to each of these
abbrev pub sync_to : {R : Type 0} → List ℕ → Option R → ℕ → List (Item R)
sync_to o c k = if has o k then Sync c ∷ [] else []

-- what a row says to the switch, and to the members
abbrev pub said_to_switch : {R : Type 0} → Said ℕ (Option R) → List (Item R)
said_to_switch (said.Forward to p) = Forward p to ∷ []
said_to_switch says = []

abbrev pub said_to : {R : Type 0} → UnitShare R → Said ℕ (Option R) → ℕ → List (Item R)
said_to f said.Get = only f.home (Get ∷ [])
said_to f (said.Sync one c) = sync_to (without_number f.members one) c
said_to f says = nowhere

-- the words of a share's table, with the queue
abbrev pub words : {R : Type 0} → UnitShare R → List ℕ → Words ℕ (Option R) (ControllerTurn R) (ControllerTurn R)
words f q = record {
  home = f.home;
  others = λ one. length (without_number f.members one);
  member = f.member_of;
  next = λ phase says. record { phase = phase; queue = q; to_s = said_to_switch says; to = said_to f says };
  done = λ did. did;
  keeps = λ did. did;
  stores = λ left did. record did { queue = left };
}

-- after its row a share serves, and that is said to the switch alone
abbrev pub serves : {R : Type 0} → UnitShare R → ControllerTurn R → ControllerTurn R
serves f did = let next = service_if_idle (words f did.queue) did.phase did.queue in record next { to_s = did.to_s ++ next.to_s; to = did.to }

-- the unit sees a packet's chunk come from the member at which the packet is out alone
abbrev pub share_does : {R : Type 0} → UnitShare R → Item R → SharePhase → List ℕ → ControllerTurn R
share_does f Fenced phase q = serves f (on_fenced (words f q) phase)
share_does f (Chunks c) phase q = serves f (on_chunks (words f q) phase c)
share_does f (Chunk c) phase q = serves f (on_shared (words f q) phase (λ member. true) c)
share_does f Synced phase q = serves f (on_synced (λ next. waits next q) (λ did. did) phase)
share_does f (Diverted p) phase q = serves f (waits phase (q ++ p ∷ []))
share_does f item phase q = waits phase q

-- all that the unit sees
pub record View (R : Type 0) : Type 0 where
  pub sw : ℕ → List (Item R)  -- from the switch to an instance
  pub sc : List (Item R)  -- to the controller
  pub cs : List (Item R)  -- from the controller to the switch
  pub to : ℕ → List (Item R)  -- to an instance
  pub back : ℕ → List (Item R)  -- from an instance to the controller
  pub own : ℕ → Option R  -- a member's record
  pub phase : SharePhase
  pub queue : List ℕ
  pub diverts : Bool  -- whether the switch sends the unit's packets to the controller
  pub done : List Ran

pub data ShareMachineStep : Type 0 where
  Arrive : ℕ → ShareMachineStep
  Take_cs : ShareMachineStep
  Take_sc : ShareMachineStep
  Take_sw : ℕ → ShareMachineStep
  Take_to : ℕ → ShareMachineStep
  Take_back : ℕ → ShareMachineStep

abbrev pub put_member : {R : Type 0} → View R → ℕ → Did R → View R
put_member x j did = record x { own = put x.own j did.own; back = joined x.back (only j did.to_c); done = x.done ++ did.ran }

abbrev pub put_ctrl : {R : Type 0} → View R → ControllerTurn R → View R
put_ctrl x did = record x { phase = did.phase; queue = did.queue; cs = x.cs ++ did.to_s; to = joined x.to did.to }

-- the step of the node at the end of a link, with what stands on it
abbrev pub from_cs : {R : Type 0} → UnitShare R → View R → List (Item R) → View R
from_cs f x [] = x
from_cs f x (Install ∷ rest) = record x { cs = rest; diverts = true; sw = joined x.sw (only f.home (Fence ∷ [])) }
from_cs f x (Forward p m ∷ rest) = record x { cs = rest; sw = joined x.sw (only m (Shared p ∷ [])) }
from_cs f x (item ∷ rest) = record x { cs = rest }

abbrev pub from_sw : {R : Type 0} → UnitShare R → View R → ℕ → List (Item R) → View R
from_sw f x j [] = x
from_sw f x j (item ∷ rest) = put_member (record x { sw = put x.sw j rest }) j (member_does f j (x.own j) item)

abbrev pub from_to : {R : Type 0} → UnitShare R → View R → ℕ → List (Item R) → View R
from_to f x j [] = x
from_to f x j (item ∷ rest) = put_member (record x { to = put x.to j rest }) j (member_does f j (x.own j) item)

abbrev pub from_sc : {R : Type 0} → UnitShare R → View R → List (Item R) → View R
from_sc f x [] = x
from_sc f x (item ∷ rest) = put_ctrl (record x { sc = rest }) (share_does f item x.phase x.queue)

abbrev pub from_back : {R : Type 0} → UnitShare R → View R → ℕ → List (Item R) → View R
from_back f x j [] = x
from_back f x j (item ∷ rest) = put_ctrl (record x { back = put x.back j rest }) (share_does f item x.phase x.queue)

abbrev pub moved : {R : Type 0} → UnitShare R → View R → ShareMachineStep → View R
moved f x (Arrive p) = if x.diverts then record x { sc = x.sc ++ Diverted p ∷ [] } else record x { sw = joined x.sw (only f.home (map Carry (if_mine f p))) }
moved f x Take_cs = from_cs f x x.cs
moved f x Take_sc = from_sc f x x.sc
moved f x (Take_sw j) = from_sw f x j (x.sw j)
moved f x (Take_to j) = from_to f x j (x.to j)
moved f x (Take_back j) = from_back f x j (x.back j)
