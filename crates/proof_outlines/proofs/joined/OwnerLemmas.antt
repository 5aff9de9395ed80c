-- Who owns a unit, and whether a plain move handed it on, by a log that goes on; and what stays a place of the unit.
use Rattle.proof_outlines.proofs.Words.{◌≡◌, ℕ, Bool, true, Option, None, Some, List, [], ◌∷◌, ◌++◌, refl, sym, ap, ◌∙◌, append-nil, ◌&&◌, ◌||◌, ◌==◌, not}
use Rattle.proof_outlines.proofs.Words.{option_map_or, list_any, or-false, or_assoc, and_parts, Flow, Kind, Conntrack, unit_of, place_of, Order, Msg, Note}
use Rattle.proof_outlines.proofs.Words.{Each, Config, order_numbered, packet_numbered, answer_in, begin_in, change_in, has_begun, installs_in, first_owner}
use Rattle.proof_outlines.proofs.Words.{owner_after_order, owner_after, hands_on_plain, loose_after, members_after, member_for, unit_numbered, unit_in, is_at}
use Rattle.proof_outlines.proofs.Words.{IsMoving, IsPlace, Owns, Is_destination, Is_member, has_answered-append, has_begun-append, installed-append}
use Rattle.proof_outlines.proofs.Words.{none_picked, Unit}
use Rattle.net_world.specs.Jobs.{Job}
use Rattle.net_world.specs.Commands.{has_answered, is_busy}
use Rattle.std.proofs.lemmas.List.Sums.{fold-append}
use Rattle.net_world.specs.Places.{goes_to}
use Rattle.proof_outlines.proofs.outline.FiltersApart.{flow_fits, unit_fits}
use Rattle.proof_outlines.proofs.joined.PlaceNotes.{IsQuiet, is_uninstalled}

-- the unit of a flow is one that packets may have
pub unit_is_fit : (kind : Kind) (flow : Flow) → flow_fits flow ≡ true → unit_fits kind (unit_of kind flow) ≡ true
unit_is_fit Conntrack flow e = e
unit_is_fit kind flow e = (and_parts _ _ (and_parts _ _ e).1).0

module _ (names : List (List ℕ)) (orders : ℕ → Option Order) where
  pub owner_after-append : (u : Unit) (i : ℕ) (xs ys : List ℕ)
      → owner_after names orders u i (xs ++ ys) ≡ owner_after names orders u (owner_after names orders u i xs) ys
  owner_after-append u i xs ys = fold-append (λ owner op. owner_after_order names orders u (orders op) owner) i xs ys

  pub loose_after-append : (u : Unit) (i : ℕ) (xs ys : List ℕ)
      → loose_after names orders u i (xs ++ ys) ≡ loose_after names orders u i xs || loose_after names orders u (owner_after names orders u i xs) ys
  loose_after-append u i [] ys = refl
  loose_after-append u i (op ∷ xs) ys = ap (λ b. hands_on_plain names orders u (orders op) i || b)
      (loose_after-append u (owner_after_order names orders u (orders op) i) xs ys) ∙ sym (or_assoc (hands_on_plain names orders u (orders op) i) _ _)

pub installed_same : (log notes : List Note) → installs_in notes ≡ [] → installs_in (log ++ notes) ≡ installs_in log
installed_same log notes none = installed-append log notes ∙ ap (λ v. installs_in log ++ v) none ∙ append-nil (installs_in log)

-- a note of an instance is of no change of the rules, and of no command that begins or is answered
quiet_change : (k : ℕ) (n : Note) → IsQuiet k n → change_in n ≡ None
quiet_change k (Note.Installed op) h = absurd h
quiet_change k n h = refl

quiet_begin : (k : ℕ) (n : Note) → IsQuiet k n → begin_in n ≡ None
quiet_begin k (Note.Begun op) h = absurd h
quiet_begin k n h = refl

quiet_answer : (k : ℕ) (n : Note) → IsQuiet k n → answer_in n ≡ None
quiet_answer k (Note.Answered op answer) h = absurd h
quiet_answer k n h = refl

pub installed_quiet : (k : ℕ) (ys : List Note) → Each (IsQuiet k) ys → installs_in ys ≡ []
installed_quiet k ys h = none_picked change_in (IsQuiet k) (quiet_change k) ys h

pub begun_quiet : (these : ℕ → Bool) (k : ℕ) (xs ys : List Note) → Each (IsQuiet k) ys → has_begun these (xs ++ ys) ≡ has_begun these xs
begun_quiet these k xs ys h =
    has_begun-append these xs ys ∙ ap (λ l. has_begun these xs || list_any these l) (none_picked begin_in (IsQuiet k) (quiet_begin k) ys h)
    ∙ or-false (has_begun these xs)

pub answered_quiet : (k : ℕ) (op : ℕ) (xs ys : List Note) → Each (IsQuiet k) ys → has_answered op (xs ++ ys) ≡ has_answered op xs
answered_quiet k op xs ys h =
    has_answered-append op xs ys
    ∙ ap (λ l. has_answered op xs || list_any (λ one. one.0 == op) l) (none_picked answer_in (IsQuiet k) (quiet_answer k) ys h)
    ∙ or-false (has_answered op xs)

-- the controller notes no change of the rules
uninstalled_change : (n : Note) → is_uninstalled n ≡ true → change_in n ≡ None
uninstalled_change (Note.Installed op) h = cc
uninstalled_change n h = refl

pub installed_none : (ys : List Note) → Each (λ n. is_uninstalled n ≡ true) ys → installs_in ys ≡ []
installed_none ys h = none_picked change_in (λ n. is_uninstalled n ≡ true) uninstalled_change ys h

pub busy_quiet : (k : ℕ) (op : ℕ) (xs ys : List Note) → Each (IsQuiet k) ys → is_busy op (xs ++ ys) ≡ is_busy op xs
busy_quiet k op xs ys h = ap (λ b. b && not (has_answered op (xs ++ ys))) (begun_quiet (λ other. other == op) k xs ys h)
    ∙ ap (λ b. has_begun (λ other. other == op) xs && not b) (answered_quiet k op xs ys h)

moving_quiet : (items : List Msg) (u : Unit) (k : ℕ) (xs ys : List Note) → Each (IsQuiet k) ys → IsMoving items u xs → IsMoving items u (xs ++ ys)
moving_quiet items u k xs ys h m = record {
  op = m.op;
  source = m.source;
  destination = m.destination;
  filter = m.filter;
  keep = m.keep;
  order = m.order;
  takes_it = m.takes_it;
  busy = busy_quiet k m.op xs ys h ∙ m.busy;
}

module _ (config : Config) (items : List Msg) where
  -- where a packet goes behind these commands
  abbrev goes_by : Kind → ℕ → List ℕ → Option ℕ
  goes_by kind number ops =
      let u = unit_numbered config items kind number in
      option_map_or (λ names. member_for config items names (packet_numbered items number)) (members_after config.names (order_numbered items) u
      (first_owner u config.routes) ops) (Some (owner_after config.names (order_numbered items) u (first_owner u config.routes) ops))

  -- a packet goes where it did, after notes of no change of the rules
  pub goes_same : (kind : Kind) (number : ℕ) (xs ys : List Note) → installs_in ys ≡ []
      → goes_to config items kind number (xs ++ ys) ≡ goes_to config items kind number xs
  goes_same kind number xs ys none = ap (goes_by kind number) (installed_same xs ys none)

-- a place of a log is one after notes of an instance
pub place_quiet : {R : Type 0} (job : Job R) (number k : ℕ) (xs ys : List Note) (i : ℕ) → Each (IsQuiet k) ys → IsPlace job number xs i
    → IsPlace job number (xs ++ ys) i
unfolding moving_quiet
place_quiet job number k xs ys i h (Owns e) =
    let u = unit_in job number in
    Owns (e ∙ ap (owner_after job.config.names (order_numbered job.items) u (first_owner u job.config.routes))
    (sym (installed_same xs ys (installed_quiet k ys h))))
place_quiet job number k xs ys i h (Is_destination on e) =
    let u = unit_in job number in
    Is_destination (record {
      moving = moving_quiet job.items u k xs ys h on.moving;
      covers = ap (λ ops. is_at (place_of job.config.names on.moving.source)
          (owner_after job.config.names (order_numbered job.items) u (first_owner u job.config.routes) ops)) (installed_same xs ys (installed_quiet k ys h))
          ∙ on.covers;
    }) e
place_quiet job number k xs ys i h (Is_member e) = Is_member (goes_same job.config job.items job.function.kind number xs ys (installed_quiet k ys h) ∙ e)

-- a list, split at one of its items
pub record SplitAt (X : Type 0) : Type 0 where
  pub before : List X
  pub item : X
  pub after : List X

-- in which of two lists one after the other an item stands
pub data Stands {X : Type 0} (xs ys : List X) (s : SplitAt X) : Type 0 where
  In_first : (cs : List X) → xs ≡ s.before ++ s.item ∷ cs → Stands xs ys s
  In_second : (cs : List X) → s.before ≡ xs ++ cs → ys ≡ cs ++ s.item ∷ s.after → Stands xs ys s

pub stands : {X : Type 0} (xs ys zs : List X) (z : X) (bs : List X) → xs ++ ys ≡ zs ++ z ∷ bs → Stands xs ys (record { before = zs; item = z; after = bs })
stands [] ys zs z bs e = In_second zs refl e
stands (x ∷ xs) ys [] z bs e = let same : x ≡ z = cc in In_first xs (ap (λ v. v ∷ xs) same)
stands (x ∷ xs) ys (a ∷ zs) z bs e =
    let same : x ≡ a = cc in
    let rest : xs ++ ys ≡ zs ++ z ∷ bs = cc in
    by_rest same (stands xs ys zs z bs rest)
  where
    by_rest : x ≡ a → Stands xs ys (record { before = zs; item = z; after = bs }) → Stands (x ∷ xs) ys (record { before = a ∷ zs; item = z; after = bs })
    by_rest same (In_first cs is) = In_first cs (ap (λ v. v ∷ xs) same ∙ ap (λ v. a ∷ v) is)
    by_rest same (In_second cs is at) = In_second cs (ap (λ v. v ∷ zs) (sym same) ∙ ap (λ v. x ∷ v) is) at

-- nothing stands in an empty list
pub nowhere : {X : Type 0} (before after : List X) (x : X) → [] ≡ before ++ x ∷ after → ⊥
nowhere [] after x e = cc
nowhere (y ∷ before) after x e = cc

pub each_front : {X : Type 0} (P : X → Type 0) (xs ys : List X) → Each P (xs ++ ys) → Each P xs
each_front P [] ys h = tt
each_front P (x ∷ xs) ys h = (h.0, each_front P xs ys h.1)

pub each_there : {X : Type 0} (P : X → Type 0) (xs : List X) (z : X) (ys : List X) → Each P (xs ++ z ∷ ys) → P z
each_there P [] z ys h = h.0
each_there P (x ∷ xs) z ys h = each_there P xs z ys h.1
