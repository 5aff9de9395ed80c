-- A move sends one change of the switch's rules, when it begins to pass packets on; so the changes that it sent are as many as its phase
-- says.
use Rattle.nf_net.proofs.Words.{◌≡◌, ℕ, ◌+◌, true, false, Option, Some, None, List, [], ◌∷◌, ◌++◌, map, refl, ◌∙◌, arith, if◌then◌else◌, ◌==◌, nat_tests}
use Rattle.nf_net.proofs.Words.{cond-same, FullCell, Answer, Piece, Msg, Phase, Nothing, Put, Release, Give_back, MovePlan, MoveNext, messages_of, forward_to}
use Rattle.nf_net.proofs.Words.{reaches, sent_weight, Target}
use Rattle.move_op.specs.Phases as phase
use Rattle.move_op.specs.Table.{Said}
use Rattle.move_op.specs.Move.{row}
use Rattle.nf_net.proofs.MoveWays.{Goes, Pushed, Asks, Way, Is_removed, Is_taken, Is_refused, Is_undone, move_fits, OfWord, each_forward, each_said}
use Rattle.nf_net.proofs.WeightlessMessages.{weighs_none}
use Rattle.net_world.proofs.SentMessages.{sent_weight-append}
use Rattle.proof_outlines.proofs.outline.MoveOutline.{IsRefusing, is_done}

-- what a change of the switch's rules for the command counts, or, of no command, the finish
abbrev pub change : Option ℕ → ℕ → ℕ
change None k = 0
change (Some op) k = if k == op then 1 else 0

abbrev pub finishing : Option ℕ → ℕ
finishing None = 1
finishing (Some op) = 0

abbrev pub sent_of : Option ℕ → Msg → ℕ
sent_of o (Msg.Install k filter from to) = change o k
sent_of o Msg.Finish = finishing o
sent_of o m = 0

-- a change of the switch's rules for the command counts, and nothing else
abbrev pub install : ℕ → Msg → ℕ
install op m = sent_of (Some op) m

-- the finish counts
abbrev pub finish : Msg → ℕ
finish m = sent_of None m

-- how many changes a move has sent that is answered so, and one in this phase
abbrev pub done_in : Answer → ℕ
done_in Answer.Done = 1
done_in a = 0

abbrev pub passed : Phase → ℕ
passed phase.Passing = 1
passed phase.Ending = 1
passed (phase.Over why) = done_in why
passed p = 0

pub done_none : (a : Answer) → is_done a ≡ false → done_in a ≡ 0
done_none Answer.Done e = cc
done_none a e = refl

module _ (n k : ℕ) where
  -- neither a change nor the finish is among what is sent
  abbrev pub NoInstall : List (ℕ × Msg) → Type 0
  NoInstall sends = (op : Option ℕ) → sent_weight (sent_of op) n k sends ≡ 0

  pub no_more : (to : ℕ) (m : Msg) → ((op : Option ℕ) → sent_of op m ≡ 0) → (sends : List (ℕ × Msg)) → NoInstall sends → NoInstall ((to, m) ∷ sends)
  no_more to m none sends h op = let own = none op in let rest = h op in rw (own, rest, cond-same {X = ℕ} (reaches n k to) 0) refl

  pub no_one : (to : ℕ) (m : Msg) → ((op : Option ℕ) → sent_of op m ≡ 0) → NoInstall ((to, m) ∷ [])
  no_one to m none = no_more to m none [] (λ op. refl)

  pub no_both : (xs ys : List (ℕ × Msg)) → NoInstall xs → NoInstall ys → NoInstall (xs ++ ys)
  no_both xs ys a b op = let both = sent_weight-append (sent_of op) n k xs ys in let first = a op in let second = b op in omega (arith, both, first, second)

module _ (n : ℕ) (reach : reaches n 1 0 ≡ true) (plan : MovePlan) where
  -- what a move in a phase sends, and what it goes to
  pub record Adds (ph : Phase) (next : MoveNext) : Type 0 where
    pub own : sent_weight (install plan.op) n 1 next.sends + passed ph ≡ passed next.phase
    pub other : (op : ℕ) → (plan.op == op) ≡ false → sent_weight (install op) n 1 next.sends ≡ 0
    pub unfinished : sent_weight finish n 1 next.sends ≡ 0

  -- what is said has one change, where stored parcels are released
  abbrev changes : Said FullCell Piece → ℕ
  changes (Release cells) = 1
  changes says = 0

  abbrev counts : Option ℕ → Said FullCell Piece → ℕ
  counts o (Release cells) = change o plan.op
  counts o says = 0

  none_said : (o : Option ℕ) (says : Said FullCell Piece) → OfWord (λ m. sent_of o m ≡ 0) plan says → sent_weight (sent_of o) n 1 (messages_of plan says) ≡ 0
  none_said o says h = weighs_none (sent_of o) n 1 (messages_of plan says) (each_said (λ m. sent_of o m ≡ 0) plan says h)

  said_adds : (o : Option ℕ) (says : Said FullCell Piece) → sent_weight (sent_of o) n 1 (messages_of plan says) ≡ counts o says
  said_adds o Nothing = refl
  said_adds o (Release cells) =
      let last : List (ℕ × Msg) = (0, Msg.Install plan.op plan.filter plan.from (Target.Instance plan.to)) ∷ [] in
      let none = weighs_none (sent_of o) n 1 (map (forward_to plan plan.to) cells) (each_forward (λ m. sent_of o m ≡ 0) plan plan.to (λ c. refl) cells) in
      let one : sent_weight (sent_of o) n 1 last ≡ change o plan.op = rw reach (omega arith) in
      omega (arith, sent_weight-append (sent_of o) n 1 (map (forward_to plan plan.to) cells) last, none, one)
  said_adds o (Put ps) = none_said o (Put ps) (λ p. refl)
  said_adds o (Give_back cells) = none_said o (Give_back cells) (refl, λ c. refl)
  said_adds o says = none_said o says (refl, tt)

  counts_own : (says : Said FullCell Piece) → counts (Some plan.op) says ≡ changes says
  counts_own (Release cells) = let self : (plan.op == plan.op) ≡ true = grind (arith, nat_tests) in rw self refl
  counts_own says = refl

  counts_other : (op : ℕ) → (plan.op == op) ≡ false → (says : Said FullCell Piece) → counts (Some op) says ≡ 0
  counts_other op off (Release cells) = rw off refl
  counts_other op off says = refl

  counts_end : (says : Said FullCell Piece) → counts None says ≡ 0
  counts_end (Release cells) = refl
  counts_end says = refl

  push_adds : {ph to : Phase} {says : Said FullCell Piece} → Pushed ph to says → changes says + passed ph ≡ passed to
  push_adds Asks = omega arith
  push_adds push = omega arith

  module _ (events : List FullCell) where
    way_adds : {ph : Phase} {m : Msg} {x : Goes} → Way events ph m x → IsRefusing ph → changes x.says + passed ph ≡ passed x.to
    way_adds (Is_removed push) h = push_adds push
    way_adds (Is_taken push) h = push_adds push
    way_adds (Is_refused push) h = push_adds push
    way_adds (Is_undone {why = why}) h = let none = done_none why h in omega (arith, none)
    way_adds way h = omega arith

    pub row_adds : (ph : Phase) (port : ℕ) (message : Msg) → IsRefusing ph → Adds ph (row (record { plan = plan; phase = ph }) events port message).next
    row_adds = move_fits plan events (λ ph m r. IsRefusing ph → Adds ph r.next) (λ ph m x way h.
        record {
          own = (let all = said_adds (Some plan.op) x.says in let one = counts_own x.says in omega (arith, way_adds way h, all, one));
          other = λ op off. said_adds (Some op) x.says ∙ counts_other op off x.says;
          unfinished = said_adds None x.says ∙ counts_end x.says;
        })
