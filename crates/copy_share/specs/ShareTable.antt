-- The rows of a strict share, over any packets and any chunks: what is said next, and how far the share has then come, for each message, and the
-- packet that is served next. What the words mean is left open. This project's own, after the strictly consistent shares of OpenNF.
use Rattle.std.specs.Prelude.{ℕ, ◌-◌, ◌==◌, Bool, List, ◌∷◌, if◌then◌else◌}
use Rattle.copy_share.specs.declared.share_phase.SharePhase.{SharePhase}
use Rattle.copy_share.specs.declared.share_phase.SharePhase.TheVariants.{Fencing, Getting, Setting, Idle, Out, Syncing}

-- What a row says: nothing; to the home, to send its records; to each member but one, to take chunks; to the switch, to send a packet to a
-- member.
pub data Said (P C : Type 0) : Type 0 where
  Nothing : Said P C
  Get : Said P C
  Sync : (one : ℕ) (chunks : C) → Said P C
  Forward : (member : ℕ) (packet : P) → Said P C

-- What the rows are of: the home; how many members there are but for one; the member of a packet; what comes of a phase and what is said (N),
-- with the answer where the share is then set up; and where the packets that wait stay, or where these wait afterwards (T).
pub record Words (P C N T : Type 0) : Type 0 where
  pub home : ℕ
  pub others : ℕ → ℕ
  pub member : P → ℕ
  pub next : SharePhase → Said P C → N
  pub done : N → N
  pub keeps : N → T
  pub stores : List P → N → T

-- so many members have yet to take the first records: with none the share is set up, and answered
abbrev pub setting : {N : Type 0} → (SharePhase → N) → (N → N) → ℕ → N
setting next done left = if left == 0 then done (next Idle) else next (Setting left)

-- so many members have yet to take the records after a packet: with none no packet is out
abbrev pub syncing : {N : Type 0} → (SharePhase → N) → ℕ → N
syncing next left = next (if left == 0 then Idle else Syncing left)

-- the fence came to the home: what it processed before is all that isn't shared
abbrev pub on_fenced : {P C N T : Type 0} → Words P C N T → SharePhase → N
on_fenced w Fencing = w.next Getting Get
on_fenced w phase = w.next phase Nothing

-- the first records come from the home
abbrev pub on_chunks : {P C N T : Type 0} → Words P C N T → SharePhase → C → N
on_chunks w Getting chunks = setting (λ phase. w.next phase (Sync w.home chunks)) w.done (w.others w.home)
on_chunks w phase chunks = w.next phase Nothing

-- a member has processed the packet that is out, if it is the one that the message comes from
abbrev pub on_shared : {P C N T : Type 0} → Words P C N T → SharePhase → (ℕ → Bool) → C → N
on_shared w (Out member) comes_from chunks =
    if comes_from member then syncing (λ phase. w.next phase (Sync member chunks)) (w.others member) else w.next (Out member) Nothing
on_shared w phase comes_from chunks = w.next phase Nothing

-- a member has taken the records: nothing is said
abbrev pub on_synced : {N : Type 0} → (SharePhase → N) → (N → N) → SharePhase → N
on_synced next done (Setting left) = setting next done (left - 1)
on_synced next done (Syncing left) = syncing next (left - 1)
on_synced next done phase = next phase

-- the next packet goes to its member
abbrev pub service_of : {P C N T : Type 0} → Words P C N T → P → List P → T
service_of w packet packets = let member = w.member packet in w.stores packets (w.next (Out member) (Forward member packet))

-- a packet is served only where the share is set up, none is out, and one waits
abbrev pub service_if_idle : {P C N T : Type 0} → Words P C N T → SharePhase → List P → T
service_if_idle w Idle (packet ∷ packets) = service_of w packet packets
service_if_idle w phase packets = w.keeps (w.next phase Nothing)
