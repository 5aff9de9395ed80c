-- A filter that splits no unit takes the unit of a flow exactly where it matches the flow.
use Rattle.std.proofs.Common.{◌≡◌, Bool, true, false, Option, Some, None, refl, sym, ◌∙◌}
use Rattle.std.specs.Prelude.{◌&&◌, ◌||◌, is_some, option_map}
use Rattle.flow_filter.specs.declared.filter.Filter.{Filter}
use Rattle.flow_filter.specs.declared.flow.Flow.{Flow}
use Rattle.flow_filter.specs.Filter.{matches, agrees, holds}
use Rattle.flow_filter.specs.FilterText.{fields_of}
use Rattle.flow_filter.specs.Reading.{prefix_numbers}
use Rattle.nf_function.specs.declared.kind.Kind.{Kind}
use Rattle.nf_function.specs.declared.kind.Kind.TheVariants.{Conntrack, Nat, Monitor}
use Rattle.nf_function.specs.declared.unit.Unit.TheVariants.{Host as OfHost}
use Rattle.nf_function.specs.Units.{splits, takes, TakesWhole}
use Rattle.nf_function.specs.UnitSteps.{gives_more_than_local}

none_is : {X : Type 0} (o : Option X) → is_some o ≡ false → o ≡ None
none_is None h = refl
none_is (Some x) h = cc

some_same : {X Y : Type 0} (g : X → Y) (o : Option X) → is_some (option_map g o) ≡ is_some o
some_same g None = refl
some_same g (Some x) = refl

none_of_four : (a b c d : Bool) → a || b || c || d ≡ false → (a ≡ false) × (b ≡ false) × (c ≡ false) × (d ≡ false)
none_of_four false false false false h = (refl, refl, refl, refl)
none_of_four true b c d h = cc
none_of_four false true c d h = cc
none_of_four false false true d h = cc
none_of_four false false false true h = cc

alone : (b : Bool) → b ≡ true && b && true && true && true
alone true = refl
alone false = refl

local_takes : (g : Filter) (flow : Flow) → gives_more_than_local (fields_of g) ≡ false → takes g (OfHost flow.local) ≡ matches g flow
local_takes g flow h =
    let parts = none_of_four (is_some g.proto) (is_some g.lport) (is_some (fields_of g).remote) (is_some g.rport) h in
    let remote = none_is g.remote (sym (some_same prefix_numbers g.remote) ∙ parts.2) in
    rw (none_is g.proto parts.0, none_is g.lport parts.1, remote, none_is g.rport parts.3) (alone (agrees holds g.local flow.local))

pub whole_takes : (kind : Kind) (g : Filter) → splits kind (fields_of g) ≡ false → TakesWhole kind g
whole_takes Conntrack g h flow = refl
whole_takes Nat g h flow = local_takes g flow h
whole_takes Monitor g h flow = local_takes g flow h
