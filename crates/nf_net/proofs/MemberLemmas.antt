-- The members of the share that has a unit, by the commands that the switch has installed; and the place of a packet's member.
use Rattle.nf_net.proofs.Words.{◌≡◌, ℕ, zero, suc, ◌+◌, ◌<◌, Bool, true, false, Option, Some, None, List, [], ◌∷◌, ◌++◌, length, refl, sym, ap, ◌∙◌, subst}
use Rattle.nf_net.proofs.Words.{arith, if◌then◌else◌, ◌&&◌, ◌||◌, not, find, is_some, slice_index, slice_index_or, filter_map, option_or, Decides-eqb}
use Rattle.nf_net.proofs.Words.{and_parts, Filter, takes, Order, Note, place_of, times_installed, installs_in, is_at, owner_after, owner_after_order, is_home}
use Rattle.nf_net.proofs.Words.{shared_among, members_after, times_installed-append, counted_now, Given, Unit}
use Rattle.proof_outlines.proofs.joined.Given.{diverts, diverted_after}

some_or : {X : Type 0} (a b : Option X) → is_some (option_or a b) ≡ is_some a || is_some b
some_or (Some x) b = refl
some_or None b = refl

or_assoc : {X : Type 0} (a b d : Option X) → option_or a (option_or b d) ≡ option_or (option_or a b) d
or_assoc (Some x) b d = refl
or_assoc None b d = refl

-- whether there is one
pub data IsThere {X : Type 0} (o : Option X) : Type 0 where
  There : (x : X) → o ≡ Some x → IsThere o

pub is_there : {X : Type 0} (o : Option X) → is_some o ≡ true → IsThere o
is_there (Some x) e = There x refl
is_there None e = cc

module _ (g : Given) (u : Unit) where
  abbrev members_by : ℕ → List ℕ → Option (List (List ℕ))
  members_by i ops = members_after g.names g.orders u i ops

  abbrev owner_by : ℕ → List ℕ → ℕ
  owner_by i ops = owner_after g.names g.orders u i ops

  abbrev sharing : Option Order → ℕ → Option (List (List ℕ))
  sharing what i = shared_among g.names g.orders u what i

  -- a unit has members exactly where its packets are diverted
  sharing_diverts : (what : Option Order) (i : ℕ) → is_some (sharing what i) ≡ diverts g u what i
  sharing_diverts (Some (Order.Share members filter)) i =
      elim (takes filter u && is_home g.names g.orders members i) as (λ b. is_some (if b then Some members else None) ≡ b) [ true ↦ refl | false ↦ refl ]
  sharing_diverts (Some (Order.Move source destination filter keep)) i = refl
  sharing_diverts (Some (Order.Copy source destination filter)) i = refl
  sharing_diverts None i = refl

  pub members_diverted : (i : ℕ) (ops : List ℕ) → is_some (members_by i ops) ≡ diverted_after g u i ops
  members_diverted i [] = refl
  members_diverted i (op ∷ ops) =
      let i' : ℕ = owner_after_order g.names g.orders u (g.orders op) i in
      some_or (sharing (g.orders op) i) (members_by i' ops)
      ∙ ap (λ b. b || is_some (members_by i' ops)) (sharing_diverts (g.orders op) i)
      ∙ ap (λ b. diverts g u (g.orders op) i || b) (members_diverted i' ops)

  -- behind more commands
  pub members-append : (i : ℕ) (xs ys : List ℕ) → members_by i (xs ++ ys) ≡ option_or (members_by i xs) (members_by (owner_by i xs) ys)
  members-append i [] ys = refl
  members-append i (op ∷ xs) ys =
      let i' : ℕ = owner_after_order g.names g.orders u (g.orders op) i in
      ap (option_or (sharing (g.orders op) i)) (members-append i' xs ys)
      ∙ or_assoc (sharing (g.orders op) i) (members_by i' xs) (members_by (owner_by i' xs) ys)

  -- an order that shares the unit from this instance
  pub record SharesIt (what : Option Order) (i : ℕ) (ms : List (List ℕ)) : Type 0 where
    pub filter : Filter
    pub order_is : what ≡ Some (Order.Share ms filter)
    pub takes_it : takes filter u ≡ true
    pub home : is_home g.names g.orders ms i ≡ true

  pub shares_it : (what : Option Order) (i : ℕ) (ms : List (List ℕ)) → sharing what i ≡ Some ms → SharesIt what i ms
  shares_it (Some (Order.Share members filter)) i ms e = by_test (takes filter u && is_home g.names g.orders members i) refl e
    where
      by_test : (b : Bool) → takes filter u && is_home g.names g.orders members i ≡ b → (if b then Some members else None) ≡ Some ms
          → SharesIt (Some (Order.Share members filter)) i ms
      by_test false t never = cc
      by_test true t found =
          let same : members ≡ ms = cc in
          subst (SharesIt (Some (Order.Share members filter)) i) same (record {
            filter = filter;
            order_is = refl;
            takes_it = (and_parts (takes filter u) (is_home g.names g.orders members i) t).0;
            home = (and_parts (takes filter u) (is_home g.names g.orders members i) t).1;
          })
  shares_it (Some (Order.Move source destination filter keep)) i ms e = cc
  shares_it (Some (Order.Copy source destination filter)) i ms e = cc
  shares_it None i ms e = cc

  -- which of some commands shares it: the first that does
  pub record IsSharedBy (i : ℕ) (ops : List ℕ) (ms : List (List ℕ)) : Type 0 where
    pub op : ℕ
    pub front : List ℕ
    pub back : List ℕ
    pub whole : ops ≡ front ++ op ∷ back
    pub its : SharesIt (g.orders op) (owner_by i front) ms
    pub unshared : members_by i front ≡ None

  pub shared_by : (i : ℕ) (ops : List ℕ) (ms : List (List ℕ)) → members_by i ops ≡ Some ms → IsSharedBy i ops ms
  shared_by i [] ms e = cc
  shared_by i (op ∷ ops) ms e =
      by_first (sharing (g.orders op) i) refl e (λ later. shared_by (owner_after_order g.names g.orders u (g.orders op) i) ops ms later)
    where
      by_first : (o : Option (List (List ℕ))) → sharing (g.orders op) i ≡ o
          → option_or o (members_by (owner_after_order g.names g.orders u (g.orders op) i) ops) ≡ Some ms
          → (members_by (owner_after_order g.names g.orders u (g.orders op) i) ops ≡ Some ms
          → IsSharedBy (owner_after_order g.names g.orders u (g.orders op) i) ops ms)
          → IsSharedBy i (op ∷ ops) ms
      by_first (Some these) at found rest =
          let same : these ≡ ms = cc in
          record { op = op; front = []; back = ops; whole = refl; its = shares_it (g.orders op) i ms (at ∙ ap Some same); unshared = refl }
      by_first None is later rest =
          let r = rest later in
          record { op = r.op; front = op ∷ r.front; back = r.back; whole = ap (λ v. op ∷ v) r.whole; its = r.its; unshared = rw is r.unshared }

  -- it has these members wherever that command stands with the same before it
  pub still_shared : (i op : ℕ) (front back : List ℕ) (ms : List (List ℕ)) → members_by i front ≡ None → SharesIt (g.orders op) (owner_by i front) ms
      → members_by i (front ++ op ∷ back) ≡ Some ms
  still_shared i op front back ms none its =
      let here : sharing (g.orders op) (owner_by i front) ≡ Some ms = rw (its.order_is, its.takes_it, its.home) refl in
      members-append i front (op ∷ back) ∙ ap (λ o. option_or o (members_by (owner_by i front) (op ∷ back))) none
      ∙ ap (λ o. option_or o (members_by (owner_after_order g.names g.orders u (g.orders op) (owner_by i front)) back)) here

-- where in a log a command was installed
pub record InstalledIn (log : List Note) (front : List ℕ) (op : ℕ) : Type 0 where
  pub first : List Note
  pub rest : List Note
  pub whole : log ≡ first ++ Note.Installed op ∷ rest
  pub before : installs_in first ≡ front

abbrev WithNote : Note → List Note → List ℕ → ℕ → Type 0
WithNote n log front op = InstalledIn log front op → InstalledIn (n ∷ log) front op

behind_note : (n : Note) (log : List Note) (front : List ℕ) (op : ℕ) → ((xs : List Note) → installs_in (n ∷ xs) ≡ installs_in xs) → WithNote n log front op
behind_note n log front op same r = record { first = n ∷ r.first; rest = r.rest; whole = ap (λ v. n ∷ v) r.whole; before = same r.first ∙ r.before }

behind_installed : (k x : ℕ) (log : List Note) (front : List ℕ) (op : ℕ) → k ≡ x → InstalledIn log front op
    → InstalledIn (Note.Installed k ∷ log) (x ∷ front) op
behind_installed k x log front op same r = record {
  first = Note.Installed k ∷ r.first;
  rest = r.rest;
  whole = ap (λ v. Note.Installed k ∷ v) r.whole;
  before = ap (λ v. k ∷ v) r.before ∙ ap (λ q. q ∷ front) same;
}

pub installed_in : (log : List Note) (front : List ℕ) (op : ℕ) (back : List ℕ) → installs_in log ≡ front ++ op ∷ back → InstalledIn log front op
installed_in [] [] op back e = cc
installed_in [] (x ∷ front) op back e = cc
installed_in (Note.Installed k ∷ log) [] op back e =
    let same : k ≡ op = cc in record { first = []; rest = log; whole = ap (λ q. Note.Installed q ∷ log) same; before = refl }
installed_in (Note.Installed k ∷ log) (x ∷ front) op back e =
    let same : k ≡ x = cc in
    let tail : installs_in log ≡ front ++ op ∷ back = cc in
    behind_installed k x log front op same (installed_in log front op back tail)
installed_in (n ∷ log) front op back e = behind_note n log front op (λ xs. refl) (installed_in log front op back e)

pub times_there : (op : ℕ) (first rest : List Note)
    → times_installed op (first ++ Note.Installed op ∷ rest) ≡ suc (times_installed op first + times_installed op rest)
times_there op first rest = omega (arith, times_installed-append op first (Note.Installed op ∷ rest), counted_now op (installs_in rest))

-- The instances with some names.
module _ (names : List (List ℕ)) where
  abbrev instances : List (List ℕ) → List ℕ
  instances these = filter_map (place_of names) these

  first_instance : (name : List ℕ) (others : List (List ℕ)) (k : ℕ) → place_of names name ≡ Some k → instances (name ∷ others) ≡ k ∷ instances others
  first_instance name others k is = rw is refl

  -- the home is the first
  pub home_first : (orders : ℕ → Option Order) (these : List (List ℕ)) (i : ℕ) → is_home names orders these i ≡ true → slice_index (instances these) 0 ≡ i
  home_first orders [] i e = cc
  home_first orders (name ∷ others) i e = by_place (place_of names name) refl e
    where
      by_place : (o : Option ℕ) → place_of names name ≡ o → is_at o i ≡ true → slice_index (instances (name ∷ others)) 0 ≡ i
      by_place None at never = cc
      by_place (Some k) at on = ap (λ v. slice_index v 0) (first_instance name others k at) ∙ sym ((Decides-eqb i k).0 on)

  -- where all names are known, each has its place among them
  abbrev unknown : List (List ℕ) → Option (List ℕ)
  unknown these = find (λ name. not (is_some (place_of names name))) these

  pub member_at : (these : List (List ℕ)) → unknown these ≡ None → (i : ℕ) → i < length these
      → place_of names (slice_index_or these i []) ≡ Some (slice_index (instances these) i)
  member_at [] e i low = absurd (omega (arith, low))
  member_at (name ∷ others) e i low = by_place (place_of names name) refl e (λ rest k less. member_at others rest k less) i low
    where
      by_place : (o : Option ℕ) → place_of names name ≡ o → (if not (is_some o) then Some name else unknown others) ≡ None
          → (unknown others ≡ None → (k : ℕ) → k < length others → place_of names (slice_index_or others k []) ≡ Some (slice_index (instances others) k))
          → (k : ℕ) → k < length (name ∷ others) → place_of names (slice_index_or (name ∷ others) k []) ≡ Some (slice_index (instances (name ∷ others)) k)
      by_place None at never again k less = cc
      by_place (Some x) at rest again zero less = at ∙ ap (λ v. Some (slice_index v 0)) (sym (first_instance name others x at))
      by_place (Some x) at rest again (suc k) less =
          again rest k (omega (arith, less)) ∙ ap (λ v. Some (slice_index v (suc k))) (sym (first_instance name others x at))
