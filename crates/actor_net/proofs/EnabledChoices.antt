-- The enabled choices in order: how many there are at most, and where one stands.
use Rattle.std.proofs.Common.{◌≡◌, ℕ, zero, suc, ◌+◌, ◌-◌, ◌<◌, ◌≤◌, Bool, true, false, Some, List, [], ◌∷◌, ◌++◌, length}
use Rattle.std.proofs.Common.{refl, sym, ap, subst, ◌∙◌, append_assoc, append-nil, length-append, add-one, arith, inl, inr}
use Rattle.std.specs.Prelude.{if◌then◌else◌, slice_get}
use Rattle.std.specs.Bool.{then_some}
use Rattle.std.proofs.lemmas.Bool.{cases_lt}
use Rattle.std.proofs.lemmas.Option.{slice_get_past}
use Rattle.actor_net.specs.declared.choice.Choice.{Choice}
use Rattle.actor_net.specs.Network.{Network, is_enabled}
use Rattle.actor_net.specs.Schedules.{ports_below, nodes_below, enabled_choices}

abbrev pub at : ℕ → ℕ → Choice
at k p = record { node = k; port = p }

-- one more port of a node
pub ports_below-enabled : {A M N : Type 0} (ready : A → M → Bool) (w : Network A M N) (k p : ℕ) → is_enabled ready w (at k p) ≡ true
    → ports_below ready w k (p + 1) ≡ ports_below ready w k p ++ at k p ∷ []
ports_below-enabled ready w k p is = rw (add-one p, is) refl

pub ports_below-disabled : {A M N : Type 0} (ready : A → M → Bool) (w : Network A M N) (k p : ℕ) → is_enabled ready w (at k p) ≡ false
    → ports_below ready w k (p + 1) ≡ ports_below ready w k p
ports_below-disabled ready w k p is = rw (add-one p, is) (append-nil (ports_below ready w k p))

pub nodes_below_more : {A M N : Type 0} (ready : A → M → Bool) (w : Network A M N) (k : ℕ)
    → nodes_below ready w (k + 1) ≡ nodes_below ready w k ++ ports_below ready w k (length w.nodes)
nodes_below_more ready w k = rw (add-one k) refl

abbrev pub one_if : Bool → ℕ
one_if b = if b then 1 else 0

length-if : {X : Type 0} (b : Bool) (xs : List X) (x : X) → length (xs ++ (if b then x ∷ [] else [])) ≡ length xs + one_if b
length-if true xs x = length-append xs (x ∷ [])
length-if false xs x = length-append xs []

-- one more port of a node counts where it is enabled
pub ports_counted : {A M N : Type 0} (ready : A → M → Bool) (w : Network A M N) (k p : ℕ)
    → length (ports_below ready w k (suc p)) ≡ length (ports_below ready w k p) + one_if (is_enabled ready w (at k p))
ports_counted ready w k p = length-if (is_enabled ready w (at k p)) (ports_below ready w k p) (at k p)

-- the same of a place, from here and from the next port on
pub place_on : {A M N : Type 0} (ready : A → M → Bool) (w : Network A M N) (k p place left count : ℕ) → count ≡ one_if (is_enabled ready w (at k p))
    → count ≤ left → place ≡ length (ports_below ready w k p) + left → place ≡ length (ports_below ready w k (p + 1)) + (left - count)
place_on ready w k p place left count is most here = rw (add-one p) (omega (arith, ports_counted ready w k p))

slice_get_at : {X : Type 0} (xs : List X) (y : X) (ys : List X) (i : ℕ) → i ≡ length xs → slice_get (xs ++ y ∷ ys) i ≡ Some y
slice_get_at [] y ys i is = rw is refl
slice_get_at (x ∷ xs) y ys i is = rw is (slice_get_at xs y ys (length xs) refl)

-- the ports of a node, split at one that is enabled
ports_split : {A M N : Type 0} (ready : A → M → Bool) (w : Network A M N) (k p m : ℕ) → p < m → is_enabled ready w (at k p) ≡ true
    → (rest : List Choice) × (ports_below ready w k m ≡ ports_below ready w k p ++ at k p ∷ rest)
ports_split ready w k p zero below is = absurd (omega arith)
ports_split ready w k p (suc m) below is =
    elim (cases_lt p m) [
      | inl less ↦
          let split = ports_split ready w k p m less is in
          let more = if is_enabled ready w (at k m) then at k m ∷ [] else [] in
          (split.0 ++ more, ap (λ xs. xs ++ more) split.1 ∙ append_assoc (ports_below ready w k p) (at k p ∷ split.0) more)
      | inr over ↦
          let same : p ≡ m = omega arith in
          ([], subst (λ q. ports_below ready w k (suc q) ≡ ports_below ready w k p ++ at k p ∷ []) same (rw is refl))
    ]

nodes_split : {A M N : Type 0} (ready : A → M → Bool) (w : Network A M N) (k m : ℕ) (xs : List Choice) (c : Choice) (rest : List Choice) → k < m
    → ports_below ready w k (length w.nodes) ≡ xs ++ c ∷ rest → (more : List Choice) × (nodes_below ready w m ≡ (nodes_below ready w k ++ xs) ++ c ∷ more)
nodes_split ready w k zero xs c rest below is = absurd (omega arith)
nodes_split ready w k (suc m) xs c rest below is =
    elim (cases_lt k m) [
      | inl less ↦
          let split = nodes_split ready w k m xs c rest less is in
          let row = ports_below ready w m (length w.nodes) in
          (split.0 ++ row, ap (λ ys. ys ++ row) split.1 ∙ append_assoc (nodes_below ready w k ++ xs) (c ∷ split.0) row)
      | inr over ↦
          let same : k ≡ m = omega arith in (
            rest,
            subst (λ q. nodes_below ready w (suc q) ≡ (nodes_below ready w k ++ xs) ++ c ∷ rest) same
                (rw is (sym (append_assoc (nodes_below ready w k) xs (c ∷ rest)))),
          )
    ]

-- an enabled choice stands after those before it
pub found_at : {A M N : Type 0} (ready : A → M → Bool) (w : Network A M N) (k p place : ℕ) → k < length w.nodes
    → p < length w.nodes → is_enabled ready w (at k p) ≡ true → place ≡ length (nodes_below ready w k ++ ports_below ready w k p)
    → slice_get (enabled_choices ready w) place ≡ Some (at k p)
found_at ready w k p place hk hp is here =
    let row = ports_split ready w k p (length w.nodes) hp is in
    let all = nodes_split ready w k (length w.nodes) (ports_below ready w k p) (at k p) row.0 hk row.1 in
    rw all.1 (slice_get_at (nodes_below ready w k ++ ports_below ready w k p) (at k p) all.0 place here)

-- an enabled choice of a node stands after those of lower ports
pub port_at : {A M N : Type 0} (ready : A → M → Bool) (w : Network A M N) (k p m place : ℕ) → p < m → is_enabled ready w (at k p) ≡ true
    → place ≡ length (ports_below ready w k p) → slice_get (ports_below ready w k m) place ≡ Some (at k p)
port_at ready w k p m place below is here =
    let row = ports_split ready w k p m below is in
    rw row.1 (slice_get_at (ports_below ready w k p) (at k p) row.0 place here)

-- an enabled choice is the one at a place that isn't past it
pub found_here : {A M N : Type 0} (ready : A → M → Bool) (w : Network A M N) (k p place left count : ℕ) → p < length w.nodes
    → count ≡ one_if (is_enabled ready w (at k p)) → left < count → place ≡ length (ports_below ready w k p) + left
    → slice_get (ports_below ready w k (length w.nodes)) place ≡ Some (at k p)
found_here ready w k p place left count small is less here =
    elim (is_enabled ready w (at k p))
    as (λ b. is_enabled ready w (at k p) ≡ b → count ≡ one_if b → slice_get (ports_below ready w k (length w.nodes)) place ≡ Some (at k p)) [
      | true ↦ λ on one. port_at ready w k p (length w.nodes) place small on (omega arith)
      | false ↦ λ off none. absurd (omega arith)
    ] refl is

slice_get_later : {X : Type 0} (xs ys : List X) (i : ℕ) → slice_get (xs ++ ys) (length xs + i) ≡ slice_get ys i
slice_get_later [] ys i = let e : 0 + i ≡ i = omega arith in rw e refl
slice_get_later (x ∷ xs) ys i = let e : suc (length xs) + i ≡ suc (length xs + i) = omega arith in rw e (slice_get_later xs ys i)

slice_get_before : {X : Type 0} (xs ys : List X) (i : ℕ) → i < length xs → slice_get (xs ++ ys) i ≡ slice_get xs i
slice_get_before [] ys i small = absurd (omega arith)
slice_get_before (x ∷ xs) ys zero small = refl
slice_get_before (x ∷ xs) ys (suc i) small = slice_get_before xs ys i (omega arith)

nodes_prefix : {A M N : Type 0} (ready : A → M → Bool) (w : Network A M N) (k m : ℕ) → k < m
    → (more : List Choice) × (nodes_below ready w m ≡ nodes_below ready w k ++ (ports_below ready w k (length w.nodes) ++ more))
nodes_prefix ready w k zero below = absurd (omega arith)
nodes_prefix ready w k (suc m) below =
    let row = ports_below ready w m (length w.nodes) in
    elim (cases_lt k m) [
      | inl less ↦
          let prefix = nodes_prefix ready w k m less in (
            prefix.0 ++ row,
            ap (λ xs. xs ++ row) prefix.1 ∙ append_assoc (nodes_below ready w k) _ row
                ∙ ap (λ xs. nodes_below ready w k ++ xs) (append_assoc (ports_below ready w k (length w.nodes)) prefix.0 row),
          )
      | inr over ↦
          let same : k ≡ m = omega arith in (
            [],
            subst (λ q. nodes_below ready w m ++ row ≡ nodes_below ready w q ++ (ports_below ready w q (length w.nodes) ++ [])) (sym same)
                (ap (λ xs. nodes_below ready w m ++ xs) (sym (append-nil row))),
          )
    ]

-- the choices of a node stand after those of the nodes before it
pub node_at : {A M N : Type 0} (ready : A → M → Bool) (w : Network A M N) (k place left : ℕ) → k < length w.nodes
    → left < length (ports_below ready w k (length w.nodes)) → place ≡ length (nodes_below ready w k) + left
    → slice_get (enabled_choices ready w) place ≡ slice_get (ports_below ready w k (length w.nodes)) left
node_at ready w k place left small there is =
    let prefix = nodes_prefix ready w k (length w.nodes) small in
    rw (prefix.1, is) (slice_get_later (nodes_below ready w k) _ left ∙ slice_get_before (ports_below ready w k (length w.nodes)) prefix.0 left there)

-- where those after a port aren't enabled, and it is, it is the last of its node
pub last_here : {A M N : Type 0} (ready : A → M → Bool) (w : Network A M N) (k p passed : ℕ) → is_enabled ready w (at k p) ≡ true
    → p + 1 + passed ≡ length w.nodes → length (ports_below ready w k (length w.nodes)) ≡ length (ports_below ready w k (length w.nodes - passed))
    → slice_get (ports_below ready w k (length w.nodes)) (length (ports_below ready w k (length w.nodes)) - 1) ≡ Some (at k p)
last_here ready w k p passed is stands all =
    let next : length w.nodes - passed ≡ suc p = omega arith in
    let more : length (ports_below ready w k (suc p)) ≡ length (ports_below ready w k p) + 1 = ports_counted ready w k p
    ∙ ap (λ b. length (ports_below ready w k p) + one_if b) is in
    let whole : length (ports_below ready w k (length w.nodes)) ≡ length (ports_below ready w k p) + 1 = all
    ∙ ap (λ n. length (ports_below ready w k n)) next ∙ more in
    port_at ready w k p (length w.nodes) (length (ports_below ready w k (length w.nodes)) - 1) (omega arith) is (omega arith)

-- where it isn't, none of those from it on is
pub none_there : {A M N : Type 0} (ready : A → M → Bool) (w : Network A M N) (k p passed : ℕ) → is_enabled ready w (at k p) ≡ false
    → p + 1 + passed ≡ length w.nodes → length (ports_below ready w k (length w.nodes)) ≡ length (ports_below ready w k (length w.nodes - passed))
    → length (ports_below ready w k (length w.nodes)) ≡ length (ports_below ready w k (length w.nodes - (passed + 1)))
none_there ready w k p passed off stands all =
    let next : length w.nodes - passed ≡ suc p = omega arith in
    let here : p ≡ length w.nodes - (passed + 1) = omega arith in
    let more : length (ports_below ready w k (suc p)) ≡ length (ports_below ready w k p) + 0 = ports_counted ready w k p
    ∙ ap (λ b. length (ports_below ready w k p) + one_if b) off in
    let one : length (ports_below ready w k (suc p)) ≡ length (ports_below ready w k p) = omega (arith, more) in
    all ∙ ap (λ n. length (ports_below ready w k n)) next ∙ one ∙ ap (λ n. length (ports_below ready w k n)) here

-- one more node, with its choices
nodes_counted : {A M N : Type 0} (ready : A → M → Bool) (w : Network A M N) (k : ℕ)
    → length (nodes_below ready w (suc k)) ≡ length (nodes_below ready w k) + length (ports_below ready w k (length w.nodes))
nodes_counted ready w k = length-append (nodes_below ready w k) (ports_below ready w k (length w.nodes))

-- where no node after one has a choice, and it has, the last choice is its last
pub last_node : {A M N : Type 0} (ready : A → M → Bool) (w : Network A M N) (k passed : ℕ) → 0 < length (ports_below ready w k (length w.nodes))
    → k + 1 + passed ≡ length w.nodes → length (enabled_choices ready w) ≡ length (nodes_below ready w (length w.nodes - passed))
    → slice_get (enabled_choices ready w) (length (enabled_choices ready w) - 1)
    ≡ slice_get (ports_below ready w k (length w.nodes)) (length (ports_below ready w k (length w.nodes)) - 1)
last_node ready w k passed some stands all =
    let next : length w.nodes - passed ≡ suc k = omega arith in
    let whole : length (enabled_choices ready w) ≡ length (nodes_below ready w k) + length (ports_below ready w k (length w.nodes)) = all
    ∙ ap (λ n. length (nodes_below ready w n)) next ∙ nodes_counted ready w k in
    node_at ready w k (length (enabled_choices ready w) - 1) (length (ports_below ready w k (length w.nodes)) - 1) (omega arith) (omega arith) (omega arith)

-- the same of the first node, also where it has none
pub last_first : {A M N : Type 0} (ready : A → M → Bool) (w : Network A M N) (k passed : ℕ) → k ≡ 0 → k + 1 + passed ≡ length w.nodes
    → length (enabled_choices ready w) ≡ length (nodes_below ready w (length w.nodes - passed)) → slice_get (enabled_choices ready w)
    (length (enabled_choices ready w) - 1) ≡ slice_get (ports_below ready w k (length w.nodes)) (length (ports_below ready w k (length w.nodes)) - 1)
last_first ready w k passed zeroth stands all =
    elim (cases_lt 0 (length (ports_below ready w k (length w.nodes)))) [
      | inl some ↦ last_node ready w k passed some stands all
      | inr none ↦
          let next : length w.nodes - passed ≡ suc k = omega arith in
          let below : length (nodes_below ready w k) ≡ 0 = rw zeroth refl in
          let counted = nodes_counted ready w k in
          let whole : length (enabled_choices ready w) ≡ length (nodes_below ready w (suc k)) = all ∙ ap (λ n. length (nodes_below ready w n)) next in
          slice_get_past (enabled_choices ready w) (length (enabled_choices ready w) - 1) (omega (arith, whole, counted, below, none))
          ∙ sym (slice_get_past (ports_below ready w k (length w.nodes)) (length (ports_below ready w k (length w.nodes)) - 1) (omega (arith, none)))
    ]

-- where it hasn't, no node from it on has
pub no_choice : {A M N : Type 0} (ready : A → M → Bool) (w : Network A M N) (k passed : ℕ) → length (ports_below ready w k (length w.nodes)) ≡ 0
    → k + 1 + passed ≡ length w.nodes → length (enabled_choices ready w) ≡ length (nodes_below ready w (length w.nodes - passed))
    → length (enabled_choices ready w) ≡ length (nodes_below ready w (length w.nodes - (passed + 1)))
no_choice ready w k passed none stands all =
    let next : length w.nodes - passed ≡ suc k = omega arith in
    let here : k ≡ length w.nodes - (passed + 1) = omega arith in
    let more = nodes_counted ready w k in
    let one : length (nodes_below ready w (suc k)) ≡ length (nodes_below ready w k) = omega (arith, more, none) in
    all ∙ ap (λ n. length (nodes_below ready w n)) next ∙ one ∙ ap (λ n. length (nodes_below ready w n)) here

-- where no link holds anything, the last choice is the input's, if it is enabled
pub input_alone : {A M N : Type 0} (ready : A → M → Bool) (w : Network A M N) (b : Bool) → is_enabled ready w (at 0 0) ≡ b → 0 < length w.nodes
    → 0 + one_if b ≡ length (enabled_choices ready w) → slice_get (enabled_choices ready w) (length (enabled_choices ready w) - 1) ≡ then_some b (at 0 0)
input_alone ready w true on some all = found_at ready w 0 0 (length (enabled_choices ready w) - 1) some some on (omega (arith, all))
input_alone ready w false off some all = slice_get_past (enabled_choices ready w) (length (enabled_choices ready w) - 1) (omega (arith, all))
