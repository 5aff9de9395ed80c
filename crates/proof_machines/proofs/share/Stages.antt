-- The stages of a unit under a strict share: a constructor for each place of the share's message, what the unit sees at each (`shape`),
-- what was processed and seen, what arrived, and where the packets wait (`path`).
use Rattle.std.proofs.Common.{◌≡◌, ℕ, ◌+◌, ◌<◌, Bool, true, false, not, Option, List, [], ◌∷◌, ◌++◌, map, length, ◌⊎◌}
use Rattle.std.specs.Prelude.{if◌then◌else◌, ◌&&◌, ◌==◌}
use Rattle.copy_share.specs.declared.share_phase.SharePhase.{SharePhase}
use Rattle.copy_share.specs.declared.share_phase.SharePhase.TheVariants.{Fencing, Getting, Setting, Idle, Out, Syncing}
use Rattle.proof_machines.proofs.share.Share.{Ran, Item, Item.Carry, Item.Fence, Item.Shared, Item.Diverted, Item.Install, Item.Forward, Item.Get, Item.Sync}
use Rattle.proof_machines.proofs.share.Share.{Item.Fenced, Item.Chunks, Item.Chunk, Item.Synced, UnitShare, View, ShareMachineStep, ShareMachineStep.Arrive}
use Rattle.proof_machines.proofs.share.Share.{has, if_mine, mine_in, after, chunk_of, over, only, nowhere}

-- where a member is with a Sync: it is on its way, the answer is, or neither
pub data Turn : Type 0 where
  Going : Turn
  Coming : Turn
  Quiet : Turn

abbrev pub is_going : Turn → Bool
is_going Going = true
is_going turn = false

abbrev pub is_pending : Turn → Bool
is_pending Quiet = false
is_pending turn = true

abbrev pub goes_to : {R : Type 0} → Option R → Turn → List (Item R)
goes_to c Going = Sync c ∷ []
goes_to c turn = []

abbrev pub comes_from : {R : Type 0} → Turn → List (Item R)
comes_from Coming = Synced ∷ []
comes_from turn = []

-- how many of these have yet to answer
abbrev pub count : (ℕ → Turn) → List ℕ → ℕ
count at [] = 0
count at (x ∷ xs) = (if is_pending (at x) then 1 else 0) + count at xs

-- d: what was processed before the share's packets; e: the unit's packets of the share that were processed, each at its member;
-- b: what each other member's record has seen; l: plain packets on the link to home; q: the queue; v: what is diverted and on its way.
-- Where a Sync goes round: whether the share is being set up, the chunk c, each member's turn, those that were sent it (o), and how many
-- of them have yet to answer.
pub data Stage (R : Type 0) : Type 0 where
  Diverting : (d : List Ran) (b : ℕ → List Ran) (l : List ℕ) → Stage R
  Fence_goes : (d : List Ran) (b : ℕ → List Ran) (l q v : List ℕ) → Stage R
  Fenced_comes : (d : List Ran) (b : ℕ → List Ran) (q v : List ℕ) → Stage R
  Get_goes : (d : List Ran) (b : ℕ → List Ran) (q v : List ℕ) → Stage R
  Chunks_come : (d : List Ran) (b : ℕ → List Ran) (q v : List ℕ) → Stage R
  Spreads : (first : Bool) (d : List Ran) (e : List ℕ) (b : ℕ → List Ran) (c : Option R) (at : ℕ → Turn) (o : List ℕ) (left : ℕ) (q v : List ℕ) → Stage R
  Resting : (d : List Ran) (e v : List ℕ) → Stage R
  Forwards : (d : List Ran) (e : List ℕ) (p : ℕ) (q v : List ℕ) → Stage R
  Carries : (d : List Ran) (e : List ℕ) (p : ℕ) (q v : List ℕ) → Stage R
  Chunk_comes : (d : List Ran) (e : List ℕ) (p : ℕ) (q v : List ℕ) → Stage R

-- packets, each at its member
abbrev pub served : {R : Type 0} → UnitShare R → List ℕ → List Ran
served f ps = map (λ p. (p, f.member_of p)) ps

-- what a member's record has seen
abbrev pub front : {R : Type 0} → UnitShare R → Stage R → ℕ → List Ran
front f (Diverting d b l) k = if k == f.home then d else b k
front f (Fence_goes d b l q v) k = if k == f.home then d else b k
front f (Fenced_comes d b q v) k = if k == f.home then d else b k
front f (Get_goes d b q v) k = if k == f.home then d else b k
front f (Chunks_come d b q v) k = if k == f.home then d else b k
front f (Spreads first d e b c at o left q v) k = if is_going (at k) then b k else d ++ served f e
front f (Resting d e v) k = d ++ served f e
front f (Forwards d e p q v) k = d ++ served f e
front f (Carries d e p q v) k = d ++ served f e
front f (Chunk_comes d e p q v) k = if k == f.member_of p then d ++ served f (e ++ if_mine f p) else d ++ served f e

-- what was processed, each packet with its node
abbrev pub processed : {R : Type 0} → UnitShare R → Stage R → List Ran
processed f (Diverting d b l) = d
processed f (Fence_goes d b l q v) = d
processed f (Fenced_comes d b q v) = d
processed f (Get_goes d b q v) = d
processed f (Chunks_come d b q v) = d
processed f (Spreads first d e b c at o left q v) = d ++ served f e
processed f (Resting d e v) = d ++ served f e
processed f (Forwards d e p q v) = d ++ served f e
processed f (Carries d e p q v) = d ++ served f e
processed f (Chunk_comes d e p q v) = d ++ served f (e ++ if_mine f p)

abbrev pub packets : List Ran → List ℕ
packets ds = map (λ d. d.0) ds

-- the unit's packets that arrived before the switch diverted: those that were processed, then those that wait
abbrev pub early : {R : Type 0} → Stage R → List ℕ
early (Diverting d b l) = packets d ++ l
early (Fence_goes d b l q v) = packets d ++ l
early (Fenced_comes d b q v) = packets d
early (Get_goes d b q v) = packets d
early (Chunks_come d b q v) = packets d
early (Spreads first d e b c at o left q v) = packets d
early (Resting d e v) = packets d
early (Forwards d e p q v) = packets d
early (Carries d e p q v) = packets d
early (Chunk_comes d e p q v) = packets d

-- those that arrived since
abbrev pub late : {R : Type 0} → UnitShare R → Stage R → List ℕ
late f (Diverting d b l) = []
late f (Fence_goes d b l q v) = mine_in f (q ++ v)
late f (Fenced_comes d b q v) = mine_in f (q ++ v)
late f (Get_goes d b q v) = mine_in f (q ++ v)
late f (Chunks_come d b q v) = mine_in f (q ++ v)
late f (Spreads first d e b c at o left q v) = e ++ mine_in f (q ++ v)
late f (Resting d e v) = e ++ mine_in f v
late f (Forwards d e p q v) = e ++ (if_mine f p ++ mine_in f (q ++ v))
late f (Carries d e p q v) = e ++ (if_mine f p ++ mine_in f (q ++ v))
late f (Chunk_comes d e p q v) = (e ++ if_mine f p) ++ mine_in f (q ++ v)

-- the unit's packets that have arrived and aren't processed, in order
abbrev pub path : {R : Type 0} → UnitShare R → Stage R → List ℕ
path f (Diverting d b l) = l
path f (Fence_goes d b l q v) = l ++ (mine_in f q ++ mine_in f v)
path f (Fenced_comes d b q v) = mine_in f q ++ mine_in f v
path f (Get_goes d b q v) = mine_in f q ++ mine_in f v
path f (Chunks_come d b q v) = mine_in f q ++ mine_in f v
path f (Spreads first d e b c at o left q v) = mine_in f q ++ mine_in f v
path f (Resting d e v) = mine_in f v
path f (Forwards d e p q v) = if_mine f p ++ (mine_in f q ++ mine_in f v)
path f (Carries d e p q v) = if_mine f p ++ (mine_in f q ++ mine_in f v)
path f (Chunk_comes d e p q v) = mine_in f q ++ mine_in f v

-- a view with nothing on its links but what is diverted
abbrev pub still : {R : Type 0} → SharePhase → List ℕ → List ℕ → List Ran → (ℕ → Option R) → View R
still phase q v d own =
    record { sw = nowhere; sc = map Diverted v; cs = []; to = nowhere; back = nowhere; own = own; phase = phase; queue = q; diverts = true; done = d }

-- the record of the unit while the share is being set up, and while it serves
abbrev pub set_up : {R : Type 0} → UnitShare R → List Ran → (ℕ → List Ran) → ℕ → Option R
set_up f d b k = after f (if k == f.home then d else b k)

abbrev pub all_at : {R : Type 0} → UnitShare R → List Ran → ℕ → Option R
all_at f n k = after f n

abbrev pub shape : {R : Type 0} → UnitShare R → Stage R → View R
shape f (Diverting d b l) = record (still Fencing [] [] d (set_up f d b)) { sw = only f.home (map Carry l); cs = Install ∷ []; diverts = false }
shape f (Fence_goes d b l q v) = record (still Fencing q v d (set_up f d b)) { sw = only f.home (map Carry l ++ Fence ∷ []) }
shape f (Fenced_comes d b q v) = record (still Fencing q v d (set_up f d b)) { back = only f.home (Fenced ∷ []) }
shape f (Get_goes d b q v) = record (still Getting q v d (set_up f d b)) { to = only f.home (Get ∷ []) }
shape f (Chunks_come d b q v) = record (still Getting q v d (set_up f d b)) { back = only f.home (Chunks (after f d) ∷ []) }
shape f (Spreads first d e b c at o left q v) =
    record (still (if first then Setting left else Syncing left) q v (d ++ served f e) (λ k. after f (if is_going (at k) then b k else d ++ served f e))) {
      to = λ k. goes_to c (at k);
      back = λ k. comes_from (at k);
    }
shape f (Resting d e v) = still Idle [] v (d ++ served f e) (all_at f (d ++ served f e))
shape f (Forwards d e p q v) = record (still (Out (f.member_of p)) q v (d ++ served f e) (all_at f (d ++ served f e))) { cs = Forward p (f.member_of p) ∷ [] }
shape f (Carries d e p q v) =
    record (still (Out (f.member_of p)) q v (d ++ served f e) (all_at f (d ++ served f e))) { sw = only (f.member_of p) (Shared p ∷ []) }
shape f (Chunk_comes d e p q v) = record (still (Out (f.member_of p)) q v (d ++ served f (e ++ if_mine f p))
    (λ k. after f (if k == f.member_of p then d ++ served f (e ++ if_mine f p) else d ++ served f e))) {
      back = only (f.member_of p) (Chunk (chunk_of f p (after f (d ++ served f (e ++ if_mine f p)))) ∷ []);
    }

-- the second list begins with the first
abbrev pub IsFront : {X : Type 0} → List X → List X → Type 0
IsFront {X} xs ys = (zs : List X) × (ys ≡ xs ++ zs)

abbrev pub distinct : List ℕ → Bool
distinct [] = true
distinct (x ∷ xs) = not (has xs x) && distinct xs

-- what a share is: two or more members, each once, with home among them, and each packet's member
pub record IsShare {R : Type 0} (f : UnitShare R) : Type 0 where
  pub home_in : has f.members f.home ≡ true
  pub member_in : (p : ℕ) → has f.members (f.member_of p) ≡ true
  pub apart : distinct f.members ≡ true
  pub two : 1 < length f.members

-- the record at home has seen all, or lacks the last packet, which was processed at another member that has seen it
abbrev pub Behind : {R : Type 0} → UnitShare R → List Ran → List Ran → (ℕ → Turn) → Type 0
Behind f b n at = (b ≡ n) ⊎ ((p : ℕ) × ((n ≡ b ++ (p, f.member_of p) ∷ []) × (is_pending (at (f.member_of p)) ≡ false)))

-- a Sync that goes round: what each member's record had seen before it, its chunk, each member's turn, those that were sent it, and how
-- many of them have yet to answer
pub record Spread (R : Type 0) : Type 0 where
  pub seen : ℕ → List Ran
  pub chunk : Option R
  pub turn : ℕ → Turn
  pub asked : List ℕ
  pub left : ℕ

-- what is known of it, where all that was processed is `n`
pub record FitsSpread {R : Type 0} (f : UnitShare R) (n : List Ran) (x : Spread R) : Type 0 where
  pub gives : (k : ℕ) → has f.members k ≡ true → over x.chunk (after f (x.seen k)) ≡ after f n
  pub fronts : (k : ℕ) → IsFront (x.seen k) n
  pub counts : count x.turn x.asked ≡ x.left
  pub some : (x.left == 0) ≡ false
  pub sent : (k : ℕ) → is_pending (x.turn k) ≡ true → has x.asked k ≡ true
  pub lately : is_going (x.turn f.home) ≡ true → Behind f (x.seen f.home) n x.turn
  pub inside : (k : ℕ) → has x.asked k ≡ true → has f.members k ≡ true
  pub apart : distinct x.asked ≡ true

-- what is known of a stage beside its shape
abbrev pub FitsStage : {R : Type 0} → UnitShare R → Stage R → Type 0
FitsStage f (Diverting d b l) = (k : ℕ) → IsFront (b k) d
FitsStage f (Fence_goes d b l q v) = (k : ℕ) → IsFront (b k) d
FitsStage f (Fenced_comes d b q v) = (k : ℕ) → IsFront (b k) d
FitsStage f (Get_goes d b q v) = (k : ℕ) → IsFront (b k) d
FitsStage f (Chunks_come d b q v) = (k : ℕ) → IsFront (b k) d
FitsStage f (Spreads first d e b c at o left q v) = FitsSpread f (d ++ served f e) (record { seen = b; chunk = c; turn = at; asked = o; left = left })
FitsStage f s = Unit {0}

-- two views agree, node by node
pub record Alike {R : Type 0} (f : UnitShare R) (x y : View R) : Type 0 where
  pub sw : (k : ℕ) → x.sw k ≡ y.sw k
  pub sc : x.sc ≡ y.sc
  pub cs : x.cs ≡ y.cs
  pub to : (k : ℕ) → x.to k ≡ y.to k
  pub back : (k : ℕ) → x.back k ≡ y.back k
  pub own : (k : ℕ) → has f.members k ≡ true → x.own k ≡ y.own k
  pub phase : x.phase ≡ y.phase
  pub queue : x.queue ≡ y.queue
  pub diverts : x.diverts ≡ y.diverts
  pub done : x.done ≡ y.done

-- the unit's packets that a move brings
abbrev pub brings : {R : Type 0} → UnitShare R → ShareMachineStep → List ℕ
brings f (Arrive p) = if_mine f p
brings f m = []

-- a view goes on to a stage: its shape is the view, what arrived is in order, and no member's record has seen less than before
pub record Leads {R : Type 0} (f : UnitShare R) (s : Stage R) (x : View R) (ps : List ℕ) : Type 0 where
  pub next : Stage R
  pub fits : FitsStage f next
  pub alike : Alike f x (shape f next)
  pub early_is : early next ≡ early s ++ (if (shape f s).diverts then [] else ps)
  pub late_is : late f next ≡ late f s ++ (if (shape f s).diverts then ps else [])
  pub longer : (k : ℕ) → has f.members k ≡ true → IsFront (front f s k) (front f next k)

-- a record has seen all, or lacks one packet, which another member has processed and seen
abbrev pub Lacks : {R : Type 0} → UnitShare R → List Ran → List Ran → (ℕ → List Ran) → Type 0
Lacks f seen all others = (seen ≡ all) ⊎ ((p : ℕ) × ((all ≡ seen ++ (p, f.member_of p) ∷ []) × (others (f.member_of p) ≡ all)))

-- so it is with the live record
abbrev pub Live : {R : Type 0} → UnitShare R → Stage R → Type 0
Live f s = Lacks f (front f s f.home) (processed f s) (front f s)
