-- Filters of moves: which units a filter takes, where it splits none, and that two filters that don't meet take no unit both.
use Rattle.proof_outlines.proofs.Words.{◌≡◌, ℕ, ◌<◌, ◌^◌, Bool, true, false, Option, Some, None, refl, sym, ◌∙◌, subst, lit<, ◌&&◌, ◌||◌, not, nat_lt, is_some}
use Rattle.proof_outlines.proofs.Words.{ForSome, Decides-ltb, not-true, and_parts, false_from_ne_true, Filter, Flow, Prefix, matches, meet, meets, agrees}
use Rattle.proof_outlines.proofs.Words.{holds, IsFlow, IsFilter, Kind, Conntrack, has_hosts, takes, unit_of, Unit, OfFlow, OfHost}
use Rattle.flow_filter.proofs.FilterLemmas.{meet_clauses}
use Rattle.flow_filter.proofs.FilterMeets.{some-meet}
use Rattle.proof_machines.proofs.unit.Lists.{none_is}

abbrev pub number_fits : ℕ → Option ℕ → Bool
number_fits top None = true
number_fits top (Some n) = nat_lt n top

abbrev pub prefix_fits : Option Prefix → Bool
prefix_fits None = true
prefix_fits (Some p) = nat_lt p.bits (2 ^ 32)

-- each number of the filter is within its type
abbrev pub filter_fits : Filter → Bool
filter_fits g = number_fits (2 ^ 8) g.proto && (prefix_fits g.local && (number_fits (2 ^ 16) g.lport && (prefix_fits g.remote && number_fits (2 ^ 16) g.rport)))

-- a filter of hosts gives nothing but `local`
abbrev pub local_alone : Filter → Bool
local_alone g = not (is_some g.proto || (is_some g.lport || (is_some g.remote || is_some g.rport)))

abbrev pub is_whole : Kind → Filter → Bool
is_whole kind g = filter_fits g && (not (has_hosts kind) || local_alone g)

abbrev pub flow_fits : Flow → Bool
flow_fits f = nat_lt f.proto (2 ^ 8) && (nat_lt f.local (2 ^ 32) && (nat_lt f.lport (2 ^ 16) && (nat_lt f.remote (2 ^ 32) && nat_lt f.rport (2 ^ 16))))

-- a unit that packets may have
abbrev pub unit_fits : Kind → Unit → Bool
unit_fits kind (OfFlow f) = not (has_hosts kind) && flow_fits f
unit_fits kind (OfHost host) = has_hosts kind && nat_lt host (2 ^ 32)

-- a filter that splits no unit takes this unit
abbrev pub takes_whole : Kind → Filter → Unit → Bool
takes_whole kind g u = is_whole kind g && (unit_fits kind u && takes g u)

number_is : (top : ℕ) (o : Option ℕ) → number_fits top o ≡ true → ForSome o (λ n. n < top)
number_is top None e n is = cc
number_is top (Some m) e n is = (Decides-ltb n top).0 (let same : m ≡ n = cc in subst (λ k. nat_lt k top ≡ true) same e)

prefix_is : (o : Option Prefix) → prefix_fits o ≡ true → ForSome o (λ p. p.bits < 2 ^ 32)
prefix_is None e p is = cc
prefix_is (Some q) e p is = (Decides-ltb p.bits (2 ^ 32)).0 (let same : q ≡ p = cc in subst (λ k. nat_lt k.bits (2 ^ 32) ≡ true) same e)

pub filter_is : (g : Filter) → filter_fits g ≡ true → IsFilter g
filter_is g e =
    let a = (and_parts (number_fits (2 ^ 8) g.proto) _ e).1 in
    let b = (and_parts (prefix_fits g.local) _ a).1 in
    let c = (and_parts (number_fits (2 ^ 16) g.lport) _ b).1 in
    record {
      proto = number_is (2 ^ 8) g.proto (and_parts (number_fits (2 ^ 8) g.proto) _ e).0;
      local = prefix_is g.local (and_parts (prefix_fits g.local) _ a).0;
      lport = number_is (2 ^ 16) g.lport (and_parts (number_fits (2 ^ 16) g.lport) _ b).0;
      remote = prefix_is g.remote (and_parts (prefix_fits g.remote) _ c).0;
      rport = number_is (2 ^ 16) g.rport (and_parts (prefix_fits g.remote) _ c).1;
    }

pub flow_is : (f : Flow) → flow_fits f ≡ true → IsFlow f
flow_is f e =
    let a = (and_parts (nat_lt f.proto (2 ^ 8)) _ e).1 in
    let b = (and_parts (nat_lt f.local (2 ^ 32)) _ a).1 in
    let c = (and_parts (nat_lt f.lport (2 ^ 16)) _ b).1 in
    record {
      proto = (Decides-ltb f.proto (2 ^ 8)).0 (and_parts (nat_lt f.proto (2 ^ 8)) _ e).0;
      local = (Decides-ltb f.local (2 ^ 32)).0 (and_parts (nat_lt f.local (2 ^ 32)) _ a).0;
      lport = (Decides-ltb f.lport (2 ^ 16)).0 (and_parts (nat_lt f.lport (2 ^ 16)) _ b).0;
      remote = (Decides-ltb f.remote (2 ^ 32)).0 (and_parts (nat_lt f.remote (2 ^ 32)) _ c).0;
      rport = (Decides-ltb f.rport (2 ^ 16)).0 (and_parts (nat_lt f.remote (2 ^ 32)) _ c).1;
    }

-- a flow of a unit
abbrev pub flow_in : Unit → Flow
flow_in (OfFlow f) = f
flow_in (OfHost host) = record { proto = 6; local = host; lport = 0; remote = 0; rport = 0 }

flow_in_is : (kind : Kind) (u : Unit) → unit_fits kind u ≡ true → IsFlow (flow_in u)
flow_in_is kind (OfFlow f) e = flow_is f (and_parts (not (has_hosts kind)) _ e).1
flow_in_is kind (OfHost host) e =
    record { proto = lit< tt; local = (Decides-ltb host (2 ^ 32)).0 (and_parts (has_hosts kind) _ e).1; lport = lit< tt; remote = lit< tt; rport = lit< tt }

or_l : (a b : Bool) → a || b ≡ false → a ≡ false
or_l true b e = cc
or_l false b e = refl

or_r : (a b : Bool) → a || b ≡ false → b ≡ false
or_r true b e = cc
or_r false b e = e

alone : (b : Bool) → b ≡ true && b && true && true && true
alone true = refl
alone false = refl

local_takes : (g : Filter) (flow : Flow) → local_alone g ≡ true → takes g (OfHost flow.local) ≡ matches g flow
local_takes g flow e =
    let a = not-true _ e in
    let b = or_r (is_some g.proto) _ a in
    let c = or_r (is_some g.lport) _ b in
    let remote = none_is g.remote (or_l (is_some g.remote) _ c) in
    let rport = none_is g.rport (or_r (is_some g.remote) _ c) in
    rw (none_is g.proto (or_l (is_some g.proto) _ a), none_is g.lport (or_l (is_some g.lport) _ b), remote, rport) (alone (agrees holds g.local flow.local))

whole_hosts : (kind : Kind) (g : Filter) → has_hosts kind ≡ true → not (has_hosts kind) || local_alone g ≡ true → local_alone g ≡ true
whole_hosts kind g hosts e = rw hosts at e

takes_matches : (kind : Kind) (g : Filter) (u : Unit) → is_whole kind g ≡ true → unit_fits kind u ≡ true → takes g u ≡ matches g (flow_in u)
takes_matches kind g (OfFlow f) w e = refl
takes_matches kind g (OfHost host) w e =
    local_takes g (flow_in (OfHost host)) (whole_hosts kind g (and_parts (has_hosts kind) _ e).0 (and_parts (filter_fits g) _ w).1)

meet_none : (g h : Filter) → is_some (meet g h) ≡ false → meet g h ≡ None
meet_none g h e = none_is (meet g h) e

-- a filter that splits no unit takes a unit that packets may have, or doesn't
pub takes_same : (kind : Kind) (g : Filter) (u : Unit) → is_whole kind g ≡ true → unit_fits kind u ≡ true → takes_whole kind g u ≡ takes g u
takes_same kind g u whole fits = rw (whole, fits) refl

-- two filters that don't meet
pub filters_apart : (kind : Kind) (g h : Filter) (u : Unit) → meets g h ≡ false → takes_whole kind g u ≡ true → takes_whole kind h u ≡ false
filters_apart kind g h u off on =
    false_from_ne_true (takes_whole kind h u) (λ both. absurd (never both))
  where
    never : takes_whole kind h u ≡ true → ⊥
    never both =
        let wg = (and_parts (is_whole kind g) _ on).0 in
        let wh = (and_parts (is_whole kind h) _ both).0 in
        let fits = (and_parts (unit_fits kind u) _ (and_parts (is_whole kind g) _ on).1).0 in
        let tg = (and_parts (unit_fits kind u) _ ((and_parts (is_whole kind g) _ on).1)).1 in
        let th = (and_parts (unit_fits kind u) _ ((and_parts (is_whole kind h) _ both).1)).1 in
        let none = meet_none g h (some-meet g h ∙ off) in
        let law = (meet_clauses g h None (filter_is g (and_parts (filter_fits g) _ wg).0) (filter_is h (and_parts (filter_fits h) _ wh).0) (sym none)).none in
        let mg : matches g (flow_in u) ≡ true = sym (takes_matches kind g u wg fits) ∙ tg in
        let mh : matches h (flow_in u) ≡ true = sym (takes_matches kind h u wh fits) ∙ th in
        law (flow_in u, flow_in_is kind u fits, rw (mg, mh) refl)

local_fits : (flow : Flow) → flow_fits flow ≡ true → nat_lt flow.local (2 ^ 32) ≡ true
local_fits flow e = (and_parts (nat_lt flow.local (2 ^ 32)) _ (and_parts (nat_lt flow.proto (2 ^ 8)) _ e).1).0

-- a filter that splits no unit takes the unit of a flow exactly where it matches the flow
pub whole_takes : (kind : Kind) (g : Filter) (flow : Flow) → is_whole kind g ≡ true → flow_fits flow ≡ true
    → takes_whole kind g (unit_of kind flow) ≡ matches g flow
whole_takes Conntrack g flow w e = rw (w, e) refl
whole_takes kind g flow w e = let fits = local_fits flow e in rw (w, fits) (local_takes g flow (and_parts (filter_fits g) _ w).1)
