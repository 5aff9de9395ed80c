-- Where each message weighs nothing, an input weighs nothing, and so does all that a step sends. An item of an input is a packet, a command, a settle
-- or the end.
use Rattle.nf_net.proofs.Words.{◌≡◌, ℕ, true, false, List, [], ◌∷◌, refl, arith, Packet, Command, Msg, weigh, sent_weight, reaches, EachSent, Each, is_item}
use Rattle.nf_net.proofs.Words.{cond-same}

-- what holds of each kind of item holds of each item
pub each_item : (P : Msg → Type 0) → ((p : Packet) → P (Msg.InPacket p)) → ((c : Command) → P (Msg.InCommand c)) → P Msg.InSettle → P Msg.InEnd
    → (items : List Msg) → Each (λ item. is_item item ≡ true) items → Each P items
each_item P packet command settle end [] h = tt
each_item P packet command settle end (m ∷ items) h = (one m h.0, each_item P packet command settle end items h.1)
  where
    one : (m : Msg) → is_item m ≡ true → P m
    one (Msg.InPacket p) e = packet p
    one (Msg.InCommand c) e = command c
    one Msg.InSettle e = settle
    one Msg.InEnd e = end
    one m e = let never : false ≡ true = e in cc

pub weighs_nothing : {M : Type 0} (P : M → Type 0) (weight : M → ℕ) → ((m : M) → P m → weight m ≡ 0) → (ms : List M) → Each P ms → weigh weight ms ≡ 0
weighs_nothing P weight none [] h = refl
weighs_nothing P weight none (m ∷ ms) h =
    let own = none m h.0 in let rest = weighs_nothing P weight none ms h.1 in omega (arith, own, rest)

pub sends_nothing : {M : Type 0} (P : ℕ → ℕ → M → Type 0) (weight : M → ℕ) (k : ℕ) → ((r : ℕ) (m : M) → P k r m → weight m ≡ 0)
    → (n : ℕ) (sends : List (ℕ × M)) → EachSent P k sends → sent_weight weight n k sends ≡ 0
sends_nothing P weight k none n [] h = refl
sends_nothing P weight k none n (x ∷ xs) h =
    let own = none x.0 x.1 h.0 in let rest = sends_nothing P weight k none n xs h.1 in rw (own, rest, cond-same {X = ℕ} (reaches n k x.0) 0) refl

-- what a step sends, where each message is known to weigh nothing
pub weighs_none : {M : Type 0} (weight : M → ℕ) (n k : ℕ) (sends : List (ℕ × M)) → Each (λ x. weight x.1 ≡ 0) sends → sent_weight weight n k sends ≡ 0
weighs_none weight n k [] h = refl
weighs_none weight n k (x ∷ xs) h =
    let own = h.0 in let rest = weighs_none weight n k xs h.1 in rw (own, rest, cond-same {X = ℕ} (reaches n k x.0) 0) refl

-- what holds of a message that is sent so holds of all
pub each_sent : {M : Type 0} (P Q : ℕ → ℕ → M → Type 0) (k : ℕ) → ((r : ℕ) (m : M) → P k r m → Q k r m) → (sends : List (ℕ × M)) → EachSent P k sends
    → EachSent Q k sends
each_sent P Q k says [] h = tt
each_sent P Q k says (x ∷ xs) h = (says x.0 x.1 h.0, each_sent P Q k says xs h.1)
