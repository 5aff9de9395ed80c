-- Steps between code and definition, which nobody has to believe: the order of units is a total order.
use Rattle.std.proofs.Common.{◌≡◌, refl, ap}
use Rattle.std.proofs.lemmas.Bool.{false≢true}
use Rattle.std.specs.Ordering.{is_lt, is_eq, ordering_reverse}
use Rattle.std.specs.declared.cmp.Ordering.TheVariants.{Less, Equal}
use Rattle.std.specs.Cmp.{IsTotalOrder, nat_cmp_total, on_total, then_total}
use Rattle.flow_filter.specs.Flow.{flow_cmp}
use Rattle.nf_function.specs.declared.unit.Unit as units
use Rattle.nf_function.specs.declared.unit.Unit.TheVariants.{Flow as OfFlow, Host as OfHost}
use Rattle.nf_function.specs.Units.{unit_cmp}

pub flows_total : IsTotalOrder flow_cmp
flows_total =
    then_total (on_total (λ f. f.proto) nat_cmp_total) (then_total (on_total (λ f. f.local) nat_cmp_total)
    (then_total (on_total (λ f. f.lport) nat_cmp_total) (then_total (on_total (λ f. f.remote) nat_cmp_total) (on_total (λ f. f.rport) nat_cmp_total))))

unit_antisymm : (x y : units.Unit) → unit_cmp x y ≡ ordering_reverse (unit_cmp y x)
unit_antisymm (OfFlow a) (OfFlow b) = flows_total.antisymm a b
unit_antisymm (OfFlow a) (OfHost b) = refl
unit_antisymm (OfHost a) (OfFlow b) = refl
unit_antisymm (OfHost a) (OfHost b) = nat_cmp_total.antisymm a b

unit_trans : (x y z : units.Unit) → unit_cmp x y ≡ Less → unit_cmp y z ≡ Less → unit_cmp x z ≡ Less
unit_trans (OfFlow a) (OfFlow b) (OfFlow c) p q = flows_total.trans a b c p q
unit_trans (OfFlow a) (OfFlow b) (OfHost c) p q = refl
unit_trans (OfFlow a) (OfHost b) (OfFlow c) p q = absurd (false≢true (ap is_lt q))
unit_trans (OfFlow a) (OfHost b) (OfHost c) p q = refl
unit_trans (OfHost a) (OfFlow b) z p q = absurd (false≢true (ap is_lt p))
unit_trans (OfHost a) (OfHost b) (OfFlow c) p q = absurd (false≢true (ap is_lt q))
unit_trans (OfHost a) (OfHost b) (OfHost c) p q = nat_cmp_total.trans a b c p q

unit_congr : (x y z : units.Unit) → unit_cmp x y ≡ Equal → unit_cmp x z ≡ unit_cmp y z
unit_congr (OfFlow a) (OfFlow b) (OfFlow c) p = flows_total.congr a b c p
unit_congr (OfFlow a) (OfFlow b) (OfHost c) p = refl
unit_congr (OfFlow a) (OfHost b) z p = absurd (false≢true (ap is_eq p))
unit_congr (OfHost a) (OfFlow b) z p = absurd (false≢true (ap is_eq p))
unit_congr (OfHost a) (OfHost b) (OfFlow c) p = refl
unit_congr (OfHost a) (OfHost b) (OfHost c) p = nat_cmp_total.congr a b c p

pub units_total : IsTotalOrder unit_cmp
units_total = record { antisymm = unit_antisymm; trans = unit_trans; congr = unit_congr }
