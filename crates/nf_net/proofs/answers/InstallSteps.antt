-- What the controller's step keeps of the changes of the switch's rules: it has sent one for each open move that passes packets on, for each
-- that was done, and for each open share.
use Rattle.nf_net.proofs.Words.{◌≡◌, ℕ, ◌+◌, Bool, true, false, Option, Some, None, List, [], ◌∷◌, ◌++◌, refl, sym, ap, ◌∙◌, arith, if◌then◌else◌, option_map}
use Rattle.nf_net.proofs.Words.{option_or, Answer, Unknown, Overlap, Order, Msg, Phase, answer_of, Operation, Move, Share, answered, option_map_or, weigh}
use Rattle.nf_net.proofs.Words.{weigh-append}
use Rattle.move_op.specs.Phases as phase
use Rattle.nf_net.proofs.answers.InstallCounts.{sent_of, done_in, passed, NoInstall, no_more, no_one, no_both}
use Rattle.nf_net.proofs.answers.ShareTells.{is_of_share, AreOfShare}

-- a command that moves units changes the rules where it is done
abbrev pub is_moving : Option Order → Bool
is_moving (Some (Order.Move source destination filter keep)) = true
is_moving o = false

-- how many changes were sent for commands that are answered so, if they move units
abbrev pub dones : Bool → List Answer → ℕ
dones moving answers = weigh (λ a. if moving then done_in a else 0) answers

pub dones-append : (moving : Bool) (xs ys : List Answer) → dones moving (xs ++ ys) ≡ dones moving xs + dones moving ys
dones-append moving xs ys = weigh-append (λ a. if moving then done_in a else 0) xs ys

pub dones-none : (moving : Bool) (a : Answer) → done_in a ≡ 0 → dones moving (a ∷ []) ≡ 0
dones-none true a none = omega (arith, none)
dones-none false a none = refl

-- and for an open one
abbrev pub open_in : Option Operation → ℕ
open_in (Some (Move m)) = passed m.phase
open_in (Some (Share s)) = 1
open_in o = 0

pub over_is : (ph : Phase) (a : Answer) → answer_of ph ≡ Some a → passed ph ≡ done_in a
over_is (phase.Over why) a is = by_some (Some why) is refl
  where
    done_of : Option Answer → ℕ
    done_of (Some x) = done_in x
    done_of None = 0

    by_some : (o : Option Answer) → o ≡ Some a → o ≡ Some why → done_in why ≡ done_in a
    by_some o e h = ap done_of (sym h) ∙ ap done_of e
over_is ph a is = cc

-- what a share sends once it has begun has no change
share_sent_none : (o : Option ℕ) (m : Msg) → is_of_share m ≡ true → sent_of o m ≡ 0
share_sent_none o (Msg.Install k filter from to) e = cc
share_sent_none o Msg.Finish e = cc
share_sent_none o m e = refl

pub shares_none : (n : ℕ) (sends : List (ℕ × Msg)) → AreOfShare sends → NoInstall n 1 sends
shares_none n [] h = λ o. refl
shares_none n (x ∷ xs) h = no_more n 1 x.0 x.1 (λ o. share_sent_none o x.1 h.0) xs (shares_none n xs h.1)

pub answered_none : (n op : ℕ) (a : Option Answer) (sends : List (ℕ × Msg)) → AreOfShare sends → NoInstall n 1 (answered op a sends)
answered_none n op None sends h = shares_none n sends h
answered_none n op (Some why) sends h = no_both n 1 sends ((0, Msg.Answered op) ∷ []) (shares_none n sends h) (no_one n 1 0 (Msg.Answered op) (λ o. refl))

same_answer : (b c : Answer) → Some b ≡ Some c → done_in b ≡ 0 → done_in c ≡ 0
same_answer b c e h = sym (ap (λ o. option_map_or done_in o 0) e) ∙ h

-- a refusal isn't an answer that it is done
pub refused_none : (u : Option (List ℕ)) (q : Option ℕ) (a : Answer) → option_or (option_map Unknown u) (option_map Overlap q) ≡ Some a → done_in a ≡ 0
refused_none (Some name) q a is = same_answer (Unknown name) a is refl
refused_none None (Some k) a is = same_answer (Overlap k) a is refl
refused_none None None a is = cc
