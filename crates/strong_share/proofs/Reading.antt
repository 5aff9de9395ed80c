-- What is read off the messages of a scene, and how it changes where one is taken and others are sent.
use Rattle.strong_share.proofs.Words.{◌≡◌, ℕ, zero, suc, ◌+◌, ◌<◌, ◌≤◌, Bool, true, false, List, [], ◌∷◌, ◌++◌, refl, sym, ap, subst, ◌∙◌}
use Rattle.strong_share.proofs.Words.{append-nil, arith, if◌then◌else◌, ◌==◌, flat_map, nat_tests, Decides-eqb, flat_map-append, Msg, InPacket, InEnd, End}
use Rattle.strong_share.proofs.Words.{Finish, Carry, Stop, Event, Shared, Synced, instance_node, sent_for, Each, each-append, weigh, stop_messages}
use Rattle.event_filter.specs.declared.mark.Mark.TheVariants as mark
use Rattle.net_world.proofs.SentMessages.{sent_for-append}
use Rattle.strong_share.proofs.Lists.{put, two_two, swapped}
use Rattle.strong_share.proofs.ServedPackets.{number, Answer, Answer.Told, Answer.Took}

-- the packet of an item of the input, of a plain message and of an event
abbrev pub packet_in : Msg → List ℕ
packet_in (InPacket p) = p.number ∷ []
packet_in m = []

abbrev pub plain_in : Msg → List ℕ
plain_in (Carry mark.Plain c) = number c ∷ []
plain_in m = []

abbrev pub event_in : Msg → List ℕ
event_in (Event op c) = number c ∷ []
event_in m = []

abbrev pub answer_in : Msg → List Answer
answer_in (Shared op chunk) = Told chunk ∷ []
answer_in (Synced op) = Took ∷ []
answer_in m = []

-- the end on its way: to the controller and back, and to a member
abbrev pub end_in : Msg → ℕ
end_in InEnd = 1
end_in End = 1
end_in Finish = 1
end_in m = 0

abbrev pub stop_in : Msg → ℕ
stop_in Stop = 1
stop_in m = 0

-- a link from which a message is taken
module _ {Y : Type 0} (of : Msg → List Y) where
  pub taken_has : (links : ℕ → List Msg) (j : ℕ) (m : Msg) (rest : List Msg) → links j ≡ m ∷ rest → of m ≡ [] → (k : ℕ)
      → flat_map of (put links j rest k) ≡ flat_map of (links k)
  taken_has links j m rest is none k = elim (k == j) as (λ b. (k == j) ≡ b → flat_map of (if b then rest else links k) ≡ flat_map of (links k)) [
    | true ↦ λ on. (let same : k ≡ j =
        (Decides-eqb k j).0 on in sym (ap (λ i. flat_map of (links i)) same ∙ ap (flat_map of) is ∙ ap (λ z. z ++ flat_map of rest) none))
    | false ↦ λ _. refl
  ] refl

  pub taken_first : (links : ℕ → List Msg) (j : ℕ) (m : Msg) (rest : List Msg) → links j ≡ m ∷ rest → (k : ℕ)
      → flat_map of (put links j rest k) ≡ (if k == j then flat_map of rest else flat_map of (links k))
  taken_first links j m rest is k =
      elim (k == j) as (λ b. flat_map of (if b then rest else links k) ≡ (if b then flat_map of rest else flat_map of (links k))) [ true ↦ refl | false ↦ refl ]

  -- one to which a member sends
  pub more_at : (xs ys : List Msg) (b : Bool) → flat_map of (xs ++ (if b then ys else [])) ≡ flat_map of xs ++ (if b then flat_map of ys else [])
  more_at xs ys true = flat_map-append of xs ys
  more_at xs ys false = flat_map-append of xs []

  pub none_at : (xs ys : List Msg) (b : Bool) → flat_map of ys ≡ [] → flat_map of (xs ++ (if b then ys else [])) ≡ flat_map of xs
  none_at xs ys true none = flat_map-append of xs ys ∙ ap (λ z. flat_map of xs ++ z) none ∙ append-nil (flat_map of xs)
  none_at xs ys false none = flat_map-append of xs [] ∙ append-nil (flat_map of xs)

pub each_taken : (P : ℕ → Msg → Type 0) (n : ℕ) (links : ℕ → List Msg) (j : ℕ) (m : Msg) (rest : List Msg) → j < n → links j ≡ m ∷ rest
    → ((k : ℕ) → k < n → Each (P k) (links k)) → (k : ℕ) → k < n → Each (P k) (put links j rest k)
each_taken P n links j m rest j_in is all k k_in = elim (k == j) as (λ b. (k == j) ≡ b → Each (P k) (if b then rest else links k)) [
  | true ↦ λ on. (let same : k ≡ j = (Decides-eqb k j).0 on in let here : Each (P j) (m ∷ rest) = subst (Each (P j)) is (all j j_in) in
      subst (λ i. Each (P i) rest) (sym same) here.1)
  | false ↦ λ _. all k k_in
] refl

pub each_at : (P : ℕ → Msg → Type 0) (j k : ℕ) (xs ys : List Msg) → Each (P k) xs → Each (P j) ys → Each (P k) (xs ++ (if k == j then ys else []))
each_at P j k xs ys old new = each-append (P k) xs (if k == j then ys else []) old (elim (k == j) as (λ b. (k == j) ≡ b → Each (P k) (if b then ys else [])) [
  | true ↦ λ on. (let same : k ≡ j = (Decides-eqb k j).0 on in subst (λ i. Each (P i) ys) (sym same) new)
  | false ↦ λ _. tt
] refl)

pub head_of : (P : Msg → Type 0) (xs : List Msg) (m : Msg) (rest : List Msg) → xs ≡ m ∷ rest → Each P xs → P m × Each P rest
head_of P xs m rest is all = subst (Each P) is all

-- the same of weights
pub taken_weighs : (g : Msg → ℕ) (links : ℕ → List Msg) (j : ℕ) (m : Msg) (rest : List Msg) → links j ≡ m ∷ rest → g m ≡ 0 → (k : ℕ)
    → weigh g (put links j rest k) ≡ weigh g (links k)
taken_weighs g links j m rest is none k = elim (k == j) as (λ b. (k == j) ≡ b → weigh g (if b then rest else links k) ≡ weigh g (links k)) [
  | true ↦ λ on. (let same : k ≡ j = (Decides-eqb k j).0 on in let here = ap (λ i. weigh g (links i)) same ∙ ap (weigh g) is in omega (arith, here, none))
  | false ↦ λ _. refl
] refl

-- what a node sends to one member, and to each
pub sent_one : (i k : ℕ) (m : Msg) → sent_for (k + 2) ((i + 2, m) ∷ []) ≡ (if k == i then m ∷ [] else [])
sent_one i k m = ap (λ b. (if b then m ∷ [] else []) ++ []) (two_two i k ∙ swapped i k) ∙ append-nil (if k == i then m ∷ [] else [])

-- each of the first members gets its own
module _ (own : ℕ → List Msg) (sends : ℕ → List (ℕ × Msg)) (none : sends 0 ≡ []) (one_more : (i k : ℕ)
    → sent_for (k + 2) (sends (suc i)) ≡ sent_for (k + 2) (sends i) ++ (if k == i then own i else [])) where
  sent_over : (n k : ℕ) → n ≤ k → sent_for (k + 2) (sends n) ≡ []
  sent_over zero k over = ap (sent_for (k + 2)) none
  sent_over (suc n) k over =
      let other : (k == n) ≡ false = grind (arith, nat_tests, over) in
      one_more n k ∙ ap (λ z. z ++ (if k == n then own n else [])) (sent_over n k (omega (arith, over))) ∙ rw other refl

  pub sent_each : (n k : ℕ) → k < n → sent_for (k + 2) (sends n) ≡ own k
  sent_each zero k there = absurd (omega arith)
  sent_each (suc n) k there = one_more n k ∙ elim (k == n) as (λ b. (k == n) ≡ b → sent_for (k + 2) (sends n) ++ (if b then own n else []) ≡ own k) [
    | true ↦ λ on. (let same : k ≡ n = (Decides-eqb k n).0 on in ap (λ z. z ++ own n) (sent_over n k (omega (arith, same))) ∙ ap own (sym same))
    | false ↦ λ off. (let less : k < n = grind (arith, nat_tests, there, off) in append-nil (sent_for (k + 2) (sends n)) ∙ sent_each n k less)
  ] refl

pub stops_sent : (n k : ℕ) → k < n → sent_for (k + 2) (stop_messages n) ≡ Stop ∷ []
stops_sent =
    sent_each (λ k. Stop ∷ []) stop_messages refl (λ i k. sent_for-append (k + 2) (stop_messages i) ((instance_node i, Stop) ∷ [])
    ∙ ap (λ z. sent_for (k + 2) (stop_messages i) ++ z) (sent_one i k Stop))

pub stops_other : (n to : ℕ) → ((i : ℕ) → (i + 2 == to) ≡ false) → sent_for to (stop_messages n) ≡ []
stops_other zero to apart = refl
stops_other (suc n) to apart = sent_for-append to (stop_messages n) ((instance_node n, Stop) ∷ [])
    ∙ ap (λ z. z ++ sent_for to ((instance_node n, Stop) ∷ [])) (stops_other n to apart) ∙ ap (λ b. (if b then Stop ∷ [] else []) ++ []) (apart n)
