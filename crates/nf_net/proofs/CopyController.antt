-- What the controller's step sends for copies of units is known, where what it takes was; and a copy is answered where its destination has kept what
-- came.
use Rattle.nf_net.proofs.Words.{◌≡◌, ℕ, Bool, true, false, Option, Some, None, List, [], ◌∷◌, ◌++◌, refl, sym, ◌∙◌, if◌then◌else◌, ◌==◌, option_map, option_or}
use Rattle.nf_net.proofs.Words.{Answer, Overlap, Unknown, Msg, instance_node, CopyPhase, CopyPlan, CopyState, Each, answered, Done, split}
use Rattle.copy_share.specs.Copy as copying
use Rattle.nf_net.proofs.answers.ShareTells.{is_of_share, AreOfShare}

-- A copy ends by the message that its destination has kept what came.
going_on : (ph : CopyPhase) (a : Answer) → copying.answer_of ph ≡ None → copying.answer_of ph ≡ Some a → ⊥
going_on ph a none some = let never = sym none ∙ some in cc

by_source : (plan : CopyPlan) (ph : CopyPhase) (m : Msg) (a : Answer) → copying.answer_of ph ≡ None
    → copying.answer_of (copying.from_source plan ph m).phase ≡ Some a → ⊥
by_source plan CopyPhase.Getting (Msg.Chunks op chunks) a none some = cc
by_source plan CopyPhase.Getting (Msg.AllChunk op chunk) a none some = cc
by_source plan ph m a none some = cc

by_destination : (plan : CopyPlan) (ph : CopyPhase) (m : Msg) (a : Answer) → copying.answer_of ph ≡ None
    → copying.answer_of (copying.from_destination plan ph m).phase ≡ Some a → (k : ℕ) × (m ≡ Msg.Kept k)
by_destination plan CopyPhase.Keeping (Msg.Kept k) a none some = (k, refl)
by_destination plan ph m a none some = cc

pub row_ends : (y : CopyState) (p : ℕ) (m : Msg) (a : Answer) → copying.answer_of y.phase ≡ None → copying.answer_of (copying.row y p m).phase ≡ Some a
    → (k : ℕ) × (m ≡ Msg.Kept k)
row_ends y p m a none some = split (p == instance_node y.plan.from)
    (λ b. copying.answer_of (if b then copying.from_source y.plan y.phase m else if p == instance_node y.plan.to
    then copying.from_destination y.plan y.phase m else copying.next_phase y.phase []).phase ≡ Some a → (k : ℕ) × (m ≡ Msg.Kept k))
    (λ _ is. absurd (by_source y.plan y.phase m a none is))
    (λ _ rest. split (p == instance_node y.plan.to)
    (λ b. copying.answer_of (if b then copying.from_destination y.plan y.phase m else copying.next_phase y.phase []).phase ≡ Some a → (k : ℕ) ×
    (m ≡ Msg.Kept k))
    (λ _ is. by_destination y.plan y.phase m a none is) (λ _ is. absurd (going_on y.phase a none is)) rest) some

-- A refusal isn't that a command is done.
pub not_refused : (u : Option (List ℕ)) (q : Option ℕ) → option_or (option_map Unknown u) (option_map Overlap q) ≡ Some Done → ⊥
not_refused (Some name) q e = cc
not_refused None (Some k) e = cc
not_refused None None e = cc

-- A message of a share, or one that tells of an answer.
abbrev pub is_shared : Msg → Bool
is_shared (Msg.Get op filter) = true
is_shared (Msg.Sync home op chunks) = true
is_shared (Msg.Forward to mark cell) = true
is_shared (Msg.Answered op) = true
is_shared m = false

shared_of : (m : Msg) → is_of_share m ≡ true → is_shared m ≡ true
shared_of (Msg.Get op filter) e = refl
shared_of (Msg.Sync home op chunks) e = refl
shared_of (Msg.Forward to mark cell) e = refl
shared_of (Msg.Answered op) e = refl
shared_of m e = e

all_shared : (xs ys : List (ℕ × Msg)) → AreOfShare xs → Each (λ x. is_shared x.1 ≡ true) ys → Each (λ x. is_shared x.1 ≡ true) (xs ++ ys)
all_shared [] ys h k = k
all_shared (x ∷ xs) ys h k = (shared_of x.1 h.0, all_shared xs ys h.1 k)

only_shared : (xs : List (ℕ × Msg)) → AreOfShare xs → Each (λ x. is_shared x.1 ≡ true) xs
only_shared [] h = tt
only_shared (x ∷ xs) h = (shared_of x.1 h.0, only_shared xs h.1)

both_shared : (xs ys : List (ℕ × Msg)) → Each (λ x. is_shared x.1 ≡ true) xs → Each (λ x. is_shared x.1 ≡ true) ys → Each (λ x. is_shared x.1 ≡ true) (xs ++ ys)
both_shared [] ys h k = k
both_shared (x ∷ xs) ys h k = (h.0, both_shared xs ys h.1 k)

pub answer_shared : (op : ℕ) (a : Option Answer) (first second : List (ℕ × Msg)) → AreOfShare first → AreOfShare second
    → Each (λ x. is_shared x.1 ≡ true) (answered op a first ++ second)
answer_shared op None first second h k = all_shared first second h (only_shared second k)
answer_shared op (Some why) first second h k =
    both_shared (first ++ (0, Msg.Answered op) ∷ []) second (all_shared first ((0, Msg.Answered op) ∷ []) h (refl, tt)) (only_shared second k)
