-- How many commands of an input are answered, by the log; and two ends of one list, by their lengths.
use Rattle.nf_net.proofs.Words.{◌≡◌, ℕ, suc, ◌+◌, ◌<◌, ◌≤◌, true, false, Some, List, [], ◌∷◌, ◌++◌, map, length, length-append, refl, sym, ap, ◌∙◌, arith}
use Rattle.nf_net.proofs.Words.{if◌then◌else◌, ◌||◌, ◌==◌, find, option_map, nat_tests, Decides-eqb, or-true, or_left, Answer, Command, Order, Msg, Note, Each}
use Rattle.nf_net.proofs.Words.{has_answered, commands, IsRising, has_answered-append, split, weigh, weigh-append}
use Rattle.std.proofs.lemmas.List.Elements.{filter_map-append}
use Rattle.net_world.specs.Input.{command_in, packet_in, packets}
use Rattle.nf_net.proofs.answers.BusyController.{told_in}
use Rattle.nf_net.proofs.RunWords.{answered_same, flag, flag_most, flag_full}
use Rattle.nf_net.proofs.answers.LinePicks.{picked}

-- how many are answered
abbrev pub answered_in : List Command → List Note → ℕ
answered_in cs log = weigh (λ c. flag (has_answered c.op log)) cs

abbrev pub AllAnswered : List Command → List Note → Type 0
AllAnswered cs log = Each (λ c. has_answered c.op log ≡ true) cs

pub answered_in-append : (xs ys : List Command) (log : List Note) → answered_in (xs ++ ys) log ≡ answered_in xs log + answered_in ys log
answered_in-append xs ys log = weigh-append (λ c. flag (has_answered c.op log)) xs ys

-- no more than there are, and where as many, all
pub answered_most : (cs : List Command) (log : List Note) → answered_in cs log ≤ length cs
answered_most [] log = omega arith
answered_most (c ∷ cs) log = let own = flag_most (has_answered c.op log) in let rest = answered_most cs log in omega (arith, own, rest)

pub all_answered : (cs : List Command) (log : List Note) → length cs ≤ answered_in cs log → AllAnswered cs log
all_answered [] log h = tt
all_answered (c ∷ cs) log h =
    (flag_full (has_answered c.op log) (omega (arith, h, answered_most cs log)), all_answered cs log (omega (arith, h, flag_most (has_answered c.op log))))

pub none_answered_in : (cs : List Command) (log : List Note) → Each (λ c. has_answered c.op log ≡ false) cs → answered_in cs log ≡ 0
none_answered_in [] log h = refl
none_answered_in (c ∷ cs) log h = let own = h.0 in let rest = none_answered_in cs log h.1 in rw (own, rest) refl

pub answered_more : (op : ℕ) (log notes : List Note) → has_answered op log ≡ true → has_answered op (log ++ notes) ≡ true
answered_more op log notes h = has_answered-append op log notes ∙ or_left (has_answered op log) (has_answered op notes) h

pub all_answered_more : (cs : List Command) (log notes : List Note) → AllAnswered cs log → AllAnswered cs (log ++ notes)
all_answered_more [] log notes h = tt
all_answered_more (c ∷ cs) log notes h = (answered_more c.op log notes h.0, all_answered_more cs log notes h.1)

pub answered_in_same : (cs : List Command) (log notes : List Note) → ((op : ℕ) → has_answered op notes ≡ false)
    → answered_in cs (log ++ notes) ≡ answered_in cs log
answered_in_same [] log notes h = refl
answered_in_same (c ∷ cs) log notes h =
    let own = ap flag (answered_same c.op log notes (h c.op)) in let rest = answered_in_same cs log notes h in omega (arith, own, rest)

-- an answer to another command, and to one of these
apart_answer : (op k : ℕ) (a : Answer) → (op == k) ≡ false → has_answered k (Note.Answered op a ∷ []) ≡ false
apart_answer op k a off = rw off refl

answered_other : (op : ℕ) (a : Answer) (log : List Note) (least : ℕ) (cs : List Command) → op < least → IsRising least (map (λ c. c.op) cs)
    → answered_in cs (log ++ Note.Answered op a ∷ []) ≡ answered_in cs log
answered_other op a log least [] less h = refl
answered_other op a log least (c ∷ cs) less h =
    let first = h.0 in
    let off : (op == c.op) ≡ false = grind (arith, nat_tests, less, first) in
    let rest = answered_other op a log (suc c.op) cs (omega (arith, less, first)) h.1 in
    omega (arith, ap flag (answered_same c.op log (Note.Answered op a ∷ []) (apart_answer op c.op a off)), rest)

pub answered_one : (op : ℕ) (a : Answer) (what : Order) (log : List Note) → has_answered op log ≡ false → (least : ℕ) (cs : List Command)
    → IsRising least (map (λ c. c.op) cs) → option_map (λ c. c.what) (find (λ c. c.op == op) cs) ≡ Some what
    → answered_in cs (log ++ Note.Answered op a ∷ []) ≡ answered_in cs log + 1
answered_one op a what log none least [] h is = cc
answered_one op a what log none least (c ∷ cs) h is =
    split (c.op == op) (λ b. option_map (λ x. x.what) (if b then Some c else find (λ x. x.op == op) cs) ≡ Some what → answered_in (c ∷ cs)
    (log ++ Note.Answered op a ∷ []) ≡ answered_in (c ∷ cs) log + 1)
    (λ on _.
    let same : op ≡ c.op = sym ((Decides-eqb c.op op).0 on) in
    let self : (op == c.op) ≡ true = grind (arith, nat_tests, same) in
    let new : has_answered c.op (log ++ Note.Answered op a ∷ []) ≡ true = has_answered-append c.op log (Note.Answered op a ∷ [])
    ∙ ap (λ b. has_answered c.op log || (b || false)) self ∙ or-true (has_answered c.op log) in
    let old : has_answered c.op log ≡ false = ap (λ k. has_answered k log) (sym same) ∙ none in
    let rest = answered_other op a log (suc c.op) cs (omega (arith, same)) h.1 in
    omega (arith, ap flag new, ap flag old, rest))
    (λ off found.
    let apart : (op == c.op) ≡ false = grind (arith, nat_tests, off) in
    let rest = answered_one op a what log none (suc c.op) cs h.1 found in
    omega (arith, ap flag (answered_same c.op log (Note.Answered op a ∷ []) (apart_answer op c.op a apart)), rest)) is

-- an order that is found is that of one of them
pub found : (P : Command → Type 0) (op : ℕ) (what : Order) (cs : List Command) → Each P cs
    → option_map (λ c. c.what) (find (λ c. c.op == op) cs) ≡ Some what → (c : Command) × (c.op ≡ op) × P c
found P op what [] h is = cc
found P op what (c ∷ cs) h is = split (c.op == op)
    (λ b. option_map (λ x. x.what) (if b then Some c else find (λ x. x.op == op) cs) ≡ Some what → (x : Command) × (x.op ≡ op) × P x)
    (λ on _. (c, (Decides-eqb c.op op).0 on, h.0)) (λ _ behind. found P op what cs h.1 behind) is

-- numbers of commands among messages
pub low_commands : (P : ℕ → Type 0) (ms : List Msg) → Each P (picked told_in ms) → Each (λ c. P c.op) (commands ms)
low_commands P [] h = tt
low_commands P (Msg.InCommand c ∷ ms) h = (h.0, low_commands P ms h.1)
low_commands P (Msg.Asked c ∷ ms) h = low_commands P ms h.1
low_commands P (m ∷ ms) h = low_commands P ms h

pub commands-append : (xs ys : List Msg) → commands (xs ++ ys) ≡ commands xs ++ commands ys
commands-append xs ys = filter_map-append command_in xs ys

pub packets-append : (xs ys : List Msg) → packets (xs ++ ys) ≡ packets xs ++ packets ys
packets-append xs ys = filter_map-append packet_in xs ys

-- Two ends of one list.
longer : {X : Type 0} (x : X) (xs ys : List X) → length (x ∷ xs ++ ys) ≡ length ys → ⊥
longer x xs ys e = let both = length-append xs ys in omega (arith, e, both)

-- as long as each other
pub same_ends : {X : Type 0} (xs ys zs vs : List X) → xs ++ ys ≡ zs ++ vs → length ys ≡ length vs → (xs ≡ zs) × (ys ≡ vs)
same_ends [] ys [] vs e l = (refl, e)
same_ends [] ys (z ∷ zs) vs e l = absurd (longer z zs vs (ap length (sym e) ∙ l))
same_ends (x ∷ xs) ys [] vs e l = absurd (longer x xs ys (ap length e ∙ sym l))
same_ends (x ∷ xs) ys (z ∷ zs) vs e l =
    let first : x ≡ z = cc in
    let tail : xs ++ ys ≡ zs ++ vs = cc in
    let rest = same_ends xs ys zs vs tail l in
    (ap (λ q. q ∷ xs) first ∙ ap (λ q. z ∷ q) rest.0, rest.1)

-- the longer one ends with the other
pub longer_end : {X : Type 0} (xs ys zs vs : List X) → xs ++ ys ≡ zs ++ vs → length vs ≤ length ys → (ms : List X) × (ys ≡ ms ++ vs)
longer_end [] ys zs vs e l = (zs, e)
longer_end (x ∷ xs) ys [] vs e l = let both = length-append xs ys in let same = ap length e in absurd (omega (arith, l, both, same))
longer_end (x ∷ xs) ys (z ∷ zs) vs e l = let tail : xs ++ ys ≡ zs ++ vs = cc in longer_end xs ys zs vs tail l
