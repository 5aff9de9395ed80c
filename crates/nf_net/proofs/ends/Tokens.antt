-- What an open copy or share waits for: messages of its number on their way, between nodes that its phase names. Each goes on as another one of the same
-- leg, until the controller takes it.
use Rattle.nf_net.proofs.Words.{◌≡◌, ℕ, zero, suc, ◌+◌, ◌≤◌, ◌⊎◌, inl, inr, Bool, true, false, Option, Some, None, List, ◌∷◌, ◌++◌, refl, ap, arith}
use Rattle.nf_net.proofs.Words.{if◌then◌else◌, ◌&&◌, ◌==◌, Mark, Target, Msg, instance_node, CopyPhase, SharePhase, CopyPlan, SharePlan, home, Operation, Copy}
use Rattle.nf_net.proofs.Words.{Share, reaches}
use Rattle.nf_net.proofs.answers.EndTables.{flag}
use Rattle.nf_net.proofs.ends.LinkWeights.{sends_weigh, sends_weigh-append}

-- the legs of a copy's and a share's way
pub data Leg : Type 0 where
  Gets : Leg  -- records are asked for, and given
  Alls : Leg  -- the all-flows state
  Keeps : Leg  -- what is to be kept, and that it was
  Fences : Leg  -- a change of the rules to the controller, and its fence
  Syncs : Leg  -- records for a member, and that it took them
  Serves : Leg  -- a packet for a member, and its record

-- a message of a leg, with the operation's number and the instance's node
pub record Token : Type 0 where
  pub leg : Leg
  pub op : ℕ
  pub node : ℕ

abbrev pub token : Leg → ℕ → ℕ → Option Token
token leg op node = Some (record { leg = leg; op = op; node = node })

-- what goes to an instance, to the controller, and from the controller to the switch
abbrev pub to_instance : Leg → ℕ → ℕ → Option Token
to_instance leg op zero = None
to_instance leg op (suc zero) = None
to_instance leg op (suc (suc i)) = token leg op (suc (suc i))

abbrev pub to_controller : Leg → ℕ → ℕ → ℕ → Option Token
to_controller leg op s (suc zero) = token leg op s
to_controller leg op s r = None

abbrev pub carried : ℕ → Mark → Option Token
carried (suc (suc i)) (Mark.Shared op home) = token Serves op (suc (suc i))
carried r m = None

abbrev pub forwarded : ℕ → ℕ → Mark → ℕ → Option Token
forwarded zero (suc zero) (Mark.Shared op home) i = token Serves op (instance_node i)
forwarded r s m i = None

abbrev pub installed : ℕ → ℕ → Target → ℕ → ℕ → Option Token
installed zero (suc zero) Target.Controller op i = token Fences op (instance_node i)
installed r s t op i = None

-- of a message from a node to another
abbrev pub token_of : ℕ → ℕ → Msg → Option Token
token_of s r (Msg.Get op filter) = to_instance Gets op r
token_of s r (Msg.Chunks op chunks) = to_controller Gets op s r
token_of s r (Msg.GetAll op) = to_instance Alls op r
token_of s r (Msg.AllChunk op chunk) = to_controller Alls op s r
token_of s r (Msg.Standby op chunks) = to_instance Keeps op r
token_of s r (Msg.PutAll op chunk) = to_instance Keeps op r
token_of s r (Msg.Kept op) = to_controller Keeps op s r
token_of s r (Msg.Install op filter from to) = installed r s to op from
token_of s r (Msg.Fence op) = to_instance Fences op r
token_of s r (Msg.Fenced op) = to_controller Fences op s r
token_of s r (Msg.Sync home op chunks) = to_instance Syncs op r
token_of s r (Msg.Synced op) = to_controller Syncs op s r
token_of s r (Msg.Forward to mark cell) = forwarded r s mark to
token_of s r (Msg.Carry mark cell) = carried r mark
token_of s r (Msg.Shared op chunk) = to_controller Serves op s r
token_of s r m = None

pub at_instance : (leg : Leg) (op i : ℕ) → to_instance leg op (instance_node i) ≡ token leg op (instance_node i)
at_instance leg op i = let two : i + 2 ≡ suc (suc i) = omega arith in rw two refl

pub at_member : (op i : ℕ) (home : Bool) → carried (instance_node i) (Mark.Shared op home) ≡ token Serves op (instance_node i)
at_member op i home = let two : i + 2 ≡ suc (suc i) = omega arith in rw two refl

-- whether an operation waits for a leg's message at a node
abbrev pub in_copy : CopyPlan → Leg → CopyPhase → ℕ → Bool
in_copy plan Gets CopyPhase.Getting node = node == instance_node plan.from
in_copy plan Alls CopyPhase.Getting node = node == instance_node plan.from
in_copy plan Keeps CopyPhase.Keeping node = node == instance_node plan.to
in_copy plan leg phase node = false

abbrev pub in_share : SharePlan → Leg → SharePhase → ℕ → Bool
in_share plan Fences SharePhase.Fencing node = node == instance_node (home plan)
in_share plan Gets SharePhase.Getting node = node == instance_node (home plan)
in_share plan Syncs (SharePhase.Setting left) node = true
in_share plan Syncs (SharePhase.Syncing left) node = true
in_share plan Serves (SharePhase.Out member) node = node == instance_node member
in_share plan leg phase node = false

abbrev pub awaits : Option Operation → Leg → ℕ → Bool
awaits (Some (Copy y)) leg node = in_copy y.plan leg y.phase node
awaits (Some (Share s)) leg node = in_share s.plan leg s.phase node
awaits o leg node = false

-- what a message counts for the operation of a number
abbrev pub counts : ℕ → Option Operation → Option Token → ℕ
counts n o None = 0
counts n o (Some t) = flag (awaits o t.leg t.node && (t.op == n))

abbrev pub weight : ℕ → Option Operation → ℕ → ℕ → Msg → ℕ
weight n o s r m = counts n o (token_of s r m)

-- how many messages an operation waits for
abbrev pub copy_wants : CopyPhase → ℕ
copy_wants CopyPhase.Getting = 1
copy_wants CopyPhase.Keeping = 1
copy_wants CopyPhase.Over = 0

abbrev pub some_left : ℕ → ℕ
some_left zero = 1
some_left (suc left) = suc left

abbrev pub share_wants : SharePhase → ℕ
share_wants SharePhase.Fencing = 1
share_wants SharePhase.Getting = 1
share_wants (SharePhase.Setting left) = some_left left
share_wants SharePhase.Idle = 0
share_wants (SharePhase.Out member) = 1
share_wants (SharePhase.Syncing left) = some_left left

abbrev pub wanted : Option Operation → ℕ
wanted (Some (Copy y)) = copy_wants y.phase
wanted (Some (Share s)) = share_wants s.phase
wanted o = 0

-- A message that goes on among what node k sends
pub record Goes (o : Option Token) (n k : ℕ) (sends : List (ℕ × Msg)) : Type 0 where
  pub before : List (ℕ × Msg)
  pub to : ℕ
  pub message : Msg
  pub after : List (ℕ × Msg)
  pub whole : sends ≡ before ++ (to, message) ∷ after
  pub reach : reaches n k to ≡ true
  pub same : token_of k to message ≡ o

abbrev pub Passes : Option Token → ℕ → ℕ → List (ℕ × Msg) → Type 0
Passes o n k sends = (o ≡ None) ⊎ Goes o n k sends

-- so nothing is lost
pub passes_weigh : (op : ℕ) (x : Option Operation) (n k : ℕ) (o : Option Token) (sends : List (ℕ × Msg)) → Passes o n k sends
    → counts op x o ≤ sends_weigh (weight op x) n k sends
passes_weigh op x n k o sends (inl none) = let own = ap (counts op x) none in omega (arith, own)
passes_weigh op x n k o sends (inr goes) =
    let both = sends_weigh-append (weight op x) n k goes.before ((goes.to, goes.message) ∷ goes.after) in
    let one = ap (λ b. if b then weight op x k goes.to goes.message else 0) goes.reach in
    omega (arith, ap (sends_weigh (weight op x) n k) goes.whole, both, one, ap (counts op x) goes.same)
