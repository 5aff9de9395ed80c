-- A move asks once for its state, and puts one piece first: what it sends of these is at most what its phase says that it has yet to send.
use Rattle.nf_net.proofs.Words.{◌≡◌, ℕ, ◌+◌, ◌≤◌, Bool, true, false, List, [], ◌∷◌, ◌++◌, refl, arith, if◌then◌else◌, ◌||◌, ◌==◌, cond-same, FullCell, Piece}
use Rattle.nf_net.proofs.Words.{Msg, Door, Phase, Nothing, Ask, Put, Release, Give_back, MovePlan, MoveNext, messages_of, source, destination, reaches}
use Rattle.nf_net.proofs.Words.{sent_weight}
use Rattle.move_op.specs.Phases as phase
use Rattle.move_op.specs.Table.{Said, Stream}
use Rattle.move_op.specs.Move.{row}
use Rattle.nf_net.proofs.MoveWays.{Goes, Pushed, Asks, Way, Begins, Removes, Is_removed, Is_taken, Is_refused, Holds, Releases, move_fits, OfWord, each_said}
use Rattle.nf_net.proofs.WeightlessMessages.{weighs_none}

-- what is sent once for a command: a piece that is put first, or the message that asks for its state
abbrev pub counts : Msg → Bool → ℕ → ℕ
counts (Msg.Put k piece true) true op = if k == op then 1 else 0
counts (Msg.Stream k filter) false op = if k == op then 1 else 0
counts (Msg.Get k filter) false op = if k == op then 1 else 0
counts m first op = 0

abbrev pub once : Bool → ℕ → Msg → ℕ
once first op m = counts m first op

-- how many of these a move has sent in this phase
abbrev pub spent : Phase → Bool → ℕ
spent phase.Freezing first = 0
spent (phase.Streaming frozen free came Door.Shut) true = 0
spent ph first = 1

pub spent_few : (ph : Phase) (first : Bool) → spent ph first ≤ 1
spent_few phase.Freezing first = omega arith
spent_few (phase.Streaming frozen free came Door.Shut) true = omega arith
spent_few ph first = omega arith

module _ (n k : ℕ) (first : Bool) where
  -- none of these is among what is sent
  abbrev pub NoneOnce : List (ℕ × Msg) → Type 0
  NoneOnce sends = (op : ℕ) → sent_weight (once first op) n k sends ≡ 0

  pub no_more : (to : ℕ) (m : Msg) → ((op : ℕ) → once first op m ≡ 0) → (sends : List (ℕ × Msg)) → NoneOnce sends → NoneOnce ((to, m) ∷ sends)
  no_more to m none sends h op = let own = none op in let rest = h op in rw (own, rest, cond-same {X = ℕ} (reaches n k to) 0) refl

  pub no_one : (to : ℕ) (m : Msg) → ((op : ℕ) → once first op m ≡ 0) → NoneOnce ((to, m) ∷ [])
  no_one to m none = no_more to m none [] (λ op. refl)

  -- one message weighs no more than it counts
  pub at_most : (to : ℕ) (m : Msg) (op : ℕ) → sent_weight (once first op) n k ((to, m) ∷ []) ≤ once first op m
  at_most to m op = elim (reaches n k to) as (λ b. (if b then once first op m else 0) + 0 ≤ once first op m) [ true ↦ omega arith | false ↦ omega arith ]

one_if : (b : Bool) → (if b then 1 else 0) ≤ 1
one_if true = omega arith
one_if false = omega arith

pub few_counts : (m : Msg) (first : Bool) (op : ℕ) → counts m first op ≤ 1
few_counts (Msg.Put k piece true) true op = one_if (k == op)
few_counts (Msg.Stream k filter) false op = one_if (k == op)
few_counts (Msg.Get k filter) false op = one_if (k == op)
few_counts m first op = omega arith

module _ (n : ℕ) (first : Bool) (plan : MovePlan) where
  -- what a move in a phase sends, and what it goes to
  pub record Spends (ph : Phase) (next : MoveNext) : Type 0 where
    pub own : sent_weight (once first plan.op) n 1 next.sends + spent ph first ≤ spent next.phase first
    pub other : (op : ℕ) → (plan.op == op) ≡ false → sent_weight (once first op) n 1 next.sends ≡ 0

  first_put : (p : Piece) (frozen free : List Piece) (came : Bool) (b : Bool)
      → counts (Msg.Put plan.op p true) b plan.op + spent (phase.Streaming frozen free came Door.Shut) b ≤ 1
  first_put p frozen free came true = let few = few_counts (Msg.Put plan.op p true) true plan.op in omega (arith, few)
  first_put p frozen free came false = omega arith

  first_put_other : (p : Piece) (b : Bool) (op : ℕ) → (plan.op == op) ≡ false → counts (Msg.Put plan.op p true) b op ≡ 0
  first_put_other p true op off = rw off refl
  first_put_other p false op off = refl

  stream : (b : Bool) → counts (Msg.Stream plan.op plan.filter) b plan.op + 0 ≤ spent (phase.Streaming [] [] false Door.Shut) b
  stream true = omega arith
  stream false = let few = few_counts (Msg.Stream plan.op plan.filter) false plan.op in omega (arith, few)

  stream_other : (b : Bool) (op : ℕ) → (plan.op == op) ≡ false → counts (Msg.Stream plan.op plan.filter) b op ≡ 0
  stream_other true op off = refl
  stream_other false op off = rw off refl

  -- the door alone tells what was sent
  same_spent : (a b c d : List Piece) (came since : Bool) (at : Door) (first : Bool)
      → spent (phase.Streaming a b came at) first ≡ spent (phase.Streaming c d since at) first
  same_spent a b c d came since Door.Shut true = refl
  same_spent a b c d came since at first = refl

  -- what is said counts where a piece asks, or the state is asked for
  abbrev tells : Said FullCell Piece → Bool → ℕ → ℕ
  tells (Ask p) b op = counts (Msg.Put plan.op p true) b op
  tells Stream b op = counts (Msg.Stream plan.op plan.filter) b op
  tells says b op = 0

  tells_other : (says : Said FullCell Piece) (op : ℕ) → (plan.op == op) ≡ false → tells says first op ≡ 0
  tells_other (Ask p) op off = first_put_other p first op off
  tells_other Stream op off = stream_other first op off
  tells_other says op off = refl

  none_said : (op : ℕ) (says : Said FullCell Piece) → OfWord (λ m. once first op m ≡ 0) plan says → sent_weight (once first op) n 1 (messages_of plan says) ≤ 0
  none_said op says h =
      let none = weighs_none (once first op) n 1 (messages_of plan says) (each_said (λ m. once first op m ≡ 0) plan says h) in omega (arith, none)

  said_spends : (op : ℕ) (says : Said FullCell Piece) → sent_weight (once first op) n 1 (messages_of plan says) ≤ tells says first op
  said_spends op Nothing = omega arith
  said_spends op (Ask p) = at_most n 1 first (destination plan) (Msg.Put plan.op p true) op
  said_spends op Stream = at_most n 1 first (source plan) (Msg.Stream plan.op plan.filter) op
  said_spends op (Put ps) = none_said op (Put ps) (λ p. refl)
  said_spends op (Release cells) = none_said op (Release cells) (refl, λ c. refl)
  said_spends op (Give_back cells) = none_said op (Give_back cells) (refl, λ c. refl)
  said_spends op says = none_said op says (refl, tt)

  push_spends : {ph to : Phase} {says : Said FullCell Piece} → Pushed ph to says → tells says first plan.op + spent ph first ≤ spent to first
  push_spends (Asks {a} {p} {b} {came}) = first_put p a (p ∷ b) came first
  push_spends push = omega arith

  module _ (events : List FullCell) where
    way_spends : {ph : Phase} {m : Msg} {x : Goes} → Way events ph m x → tells x.says first plan.op + spent ph first ≤ spent x.to first
    way_spends Begins = stream first
    way_spends (Removes {a} {b} {came} {d} {op} {p}) =
        let same = same_spent a b (a ++ p ∷ []) b came (came || p.last) d first in omega (arith, same)
    way_spends (Is_removed {p} {a} {b} {came} {d} push) =
        let same = same_spent (p ∷ a) b a (b ++ p ∷ []) came came d first in let more = push_spends push in omega (arith, same, more)
    way_spends (Is_taken push) = push_spends push
    way_spends (Is_refused push) = push_spends push
    way_spends (Holds {a} {b} {came} {d} put) = let few = spent_few (phase.Streaming a b came d) first in omega (arith, few)
    way_spends (Releases {a} {b} {came} {d} put) = let few = spent_few (phase.Streaming a b came d) first in omega (arith, few)
    way_spends way = omega arith

    pub row_spends : (ph : Phase) (port : ℕ) (message : Msg) → Spends ph (row (record { plan = plan; phase = ph }) events port message).next
    row_spends = move_fits plan events (λ ph m r. Spends ph r.next) (λ ph m x way. record {
      own = (let all = said_spends plan.op x.says in let more = way_spends way in omega (arith, all, more));
      other = λ op off. (let all = said_spends op x.says in let none = tells_other x.says op off in omega (arith, all, none));
    })
