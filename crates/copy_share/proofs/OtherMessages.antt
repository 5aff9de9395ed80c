-- A message that the tables of copies and shares don't name leaves the operation as it is.
use Rattle.std.proofs.Common.{◌≡◌, ℕ, List, [], refl}
use Rattle.nf_function.specs.declared.chunk.Chunk.{Chunk}
use Rattle.nf_msgs.specs.declared.msg.Msg.{Msg}
use Rattle.nf_msgs.specs.declared.msg.Msg.TheVariants as msg
use Rattle.copy_share.specs.declared.copy_phase.CopyPhase.TheVariants.{Getting, Keeping}
use Rattle.copy_share.specs.Copy.{CopyPlan, from_source, from_destination}
use Rattle.copy_share.specs.Copy as copy
use Rattle.copy_share.specs.Share.{ShareState, row}
use Rattle.copy_share.specs.Share as share

pub other_of_source : (plan : CopyPlan) (message : Msg)
    → ((op : ℕ) (chunks : List Chunk) → message ≡ msg.Chunks op chunks → ⊥) → ((op : ℕ) (chunk : Chunk) → message ≡ msg.AllChunk op chunk → ⊥)
    → from_source plan Getting message ≡ copy.next_phase Getting []
other_of_source plan (msg.Chunks op chunks) a b = absurd (a op chunks refl)
other_of_source plan (msg.AllChunk op chunk) a b = absurd (b op chunk refl)
other_of_source plan message a b = refl

pub other_of_destination : (plan : CopyPlan) (message : Msg) → ((op : ℕ) → message ≡ msg.Kept op → ⊥)
    → from_destination plan Keeping message ≡ copy.next_phase Keeping []
other_of_destination plan (msg.Kept op) a = absurd (a op refl)
other_of_destination plan message a = refl

pub other_of_member : (s : ShareState) (sender : ℕ) (message : Msg)
    → ((op : ℕ) → message ≡ msg.Fenced op → ⊥) → ((op : ℕ) (chunks : List Chunk) → message ≡ msg.Chunks op chunks → ⊥)
    → ((op : ℕ) (chunk : Chunk) → message ≡ msg.Shared op chunk → ⊥) → ((op : ℕ) → message ≡ msg.Synced op → ⊥)
    → row s sender message ≡ share.next_phase s.phase []
other_of_member s sender (msg.Fenced op) a b c d = absurd (a op refl)
other_of_member s sender (msg.Chunks op chunks) a b c d = absurd (b op chunks refl)
other_of_member s sender (msg.Shared op chunk) a b c d = absurd (c op chunk refl)
other_of_member s sender (msg.Synced op) a b c d = absurd (d op refl)
other_of_member s sender message a b c d = refl
