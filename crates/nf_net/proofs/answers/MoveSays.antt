-- What a move is answered is why it was refused, or that it is done.
use Rattle.nf_net.proofs.Words.{◌≡◌, ℕ, Bool, true, false, Option, Some, None, List, [], ◌∷◌, ◌++◌, map, refl, subst, ◌||◌, FullCell, Answer, Piece, Msg, Door}
use Rattle.nf_net.proofs.Words.{Phase, Nothing, Put, Release, Give_back, MovePlan, MoveState, MoveRow, put_to, forward_to, messages_of, answer_of, EachSent}
use Rattle.nf_net.proofs.Words.{Given, sent-append, Target}
use Rattle.move_op.specs.Phases as phase
use Rattle.move_op.specs.Table.{Said}
use Rattle.move_op.specs.Move.{row}
use Rattle.nf_net.proofs.MoveWays.{Goes, Pushed, Asks, Way, Removes, Is_removed, Is_taken, Is_refused, Holds, Releases, Is_done, move_fits}
use Rattle.nf_net.proofs.answers.BusyLemmas.{is_outcome}
use Rattle.nf_net.proofs.answers.BusyOperations.{HasOutcome}

-- what is known of a message, by sender and receiver
abbrev pub Says : Given → ℕ → ℕ → Msg → Type 0
Says g s r (Msg.PutNo op refused) = is_outcome refused.why ≡ true
Says g s r message = Unit {0}

-- the answer of a move is an outcome
pub answer_is : (ph : Phase) (a : Answer) → HasOutcome ph → answer_of ph ≡ Some a → is_outcome a ≡ true
answer_is (phase.Over why) a h is = subst (λ o. is_some_outcome o) is h
  where
    is_some_outcome : Option Answer → Type 0
    is_some_outcome (Some b) = is_outcome b ≡ true
    is_some_outcome None = ⊥
answer_is ph a h is = cc

-- the door alone tells what a move is to be answered, and it is the same as pieces are pushed
same_door : (a b c d : List Piece) (came since : Bool) (at : Door) → HasOutcome (phase.Streaming a b came at) → HasOutcome (phase.Streaming c d since at)
same_door a b c d came since (Door.Refused why) h = h
same_door a b c d came since at h = tt

push_says : {ph to : Phase} {says : Said FullCell Piece} → Pushed ph to says → HasOutcome ph → HasOutcome to
push_says Asks h = tt
push_says push h = h

module _ (g : Given) where
  -- what a move is to be answered after a row, and what the row sends
  pub record RowSays (r : MoveRow) : Type 0 where
    pub outcome : HasOutcome r.next.phase
    pub says : EachSent (Says g) 1 r.next.sends

  module _ (plan : MovePlan) where
    puts : (ps : List Piece) → EachSent (Says g) 1 (map (put_to plan false) ps)
    puts [] = tt
    puts (p ∷ ps) = (tt, puts ps)

    forwards : (i : ℕ) (cells : List FullCell) → EachSent (Says g) 1 (map (forward_to plan i) cells)
    forwards i [] = tt
    forwards i (c ∷ cells) = (tt, forwards i cells)

    said_says : (said : Said FullCell Piece) → EachSent (Says g) 1 (messages_of plan said)
    said_says Nothing = tt
    said_says (Put ps) = puts ps
    said_says (Release cells) = sent-append (Says g) 1 (map (forward_to plan plan.to) cells)
        ((0, Msg.Install plan.op plan.filter plan.from (Target.Instance plan.to)) ∷ []) (forwards plan.to cells) (tt, tt)
    said_says (Give_back cells) = sent-append (Says g) 1 (map (forward_to plan plan.from) cells) ((0, Msg.FenceTo plan.op plan.from) ∷ [])
        (forwards plan.from cells) (tt, tt)
    said_says said = (tt, tt)

    module _ (events : List FullCell) where
      way_says : (port : ℕ) {ph : Phase} {m : Msg} {x : Goes} → Way events ph m x → HasOutcome ph → Says g port 1 m → HasOutcome x.to
      way_says port (Removes {a} {b} {came} {d} {op} {p}) h label = same_door a b (a ++ p ∷ []) b came (came || p.last) d h
      way_says port (Is_removed {p} {a} {b} {came} {d} push) h label = push_says push (same_door (p ∷ a) b a (b ++ p ∷ []) came came d h)
      way_says port (Is_taken push) h label = push_says push tt
      way_says port (Is_refused push) h label = push_says push label
      way_says port (Holds put) h label = tt
      way_says port (Releases put) h label = tt
      way_says port Is_done h label = refl
      way_says port way h label = h

  pub move_says : (m : MoveState) (events : List FullCell) (port : ℕ) (message : Msg) → HasOutcome m.phase → Says g port 1 message
      → RowSays (row m events port message)
  move_says m events port message = move_fits m.plan events (λ ph a r. HasOutcome ph → Says g port 1 a → RowSays r) (λ ph a x way h label. record {
    outcome = way_says m.plan events port way h label;
    says = said_says m.plan x.says;
  }) m.phase port message
