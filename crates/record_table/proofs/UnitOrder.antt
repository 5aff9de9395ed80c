-- The ways to tell units apart agree: by their fields, by their order, and by being one.
use Rattle.std.proofs.Common.{◌≡◌, Bool, true, refl, ap, sym, ◌∙◌, rules}
use Rattle.std.proofs.lemmas.Bool.{true≢false}
use Rattle.std.specs.Cmp.{IsEquivalence, eq_by_cmp_equiv, Equal-is}
use Rattle.std.specs.Cmp.Rules.{comparing}
use Rattle.std.specs.FinMap.{IsAntisymmetric, nat_cmp-IsAntisymmetric}
use Rattle.std.specs.Ordering.{nat_cmp, ordering_then, is_eq}
use Rattle.std.specs.declared.cmp.Ordering.{Ordering}
use Rattle.std.specs.declared.cmp.Ordering.TheVariants.{Less, Equal, Greater}
use Rattle.flow_filter.specs.Flow.{flow_cmp}
use Rattle.nf_function.specs.contracts.unit.UnitPartialEq.TheImpl.{eq-value}
use Rattle.nf_function.specs.declared.unit.Unit as units
use Rattle.nf_function.specs.declared.unit.Unit.TheVariants.{Flow as OfFlow, Host as OfHost}
use Rattle.nf_function.specs.Units.{unit_cmp}
use Rattle.nf_function.specs.UnitOrder.{units_total}
use Rattle.record_table.specs.Table.{same_unit}

-- the equality that is derived for units
abbrev pub unit_eq : units.Unit → units.Unit → Bool
unit_eq = eq-value.it

pub tied : (a b : units.Unit) → unit_eq a b ≡ same_unit a b
tied a b = search (comparing, rules)

pub same_unit_equiv : IsEquivalence same_unit
same_unit_equiv = eq_by_cmp_equiv units_total

both_equal : (a b : Ordering) → ordering_then a b ≡ Equal → (a ≡ Equal) × (b ≡ Equal)
both_equal Less b h = absurd (true≢false (sym (ap is_eq h)))
both_equal Equal b h = (refl, h)
both_equal Greater b h = absurd (true≢false (sym (ap is_eq h)))

one_flow : IsAntisymmetric flow_cmp
one_flow a b h =
    let proto = both_equal (nat_cmp a.proto b.proto) _ h in
    let local = both_equal (nat_cmp a.local b.local) _ proto.1 in
    let lport = both_equal (nat_cmp a.lport b.lport) _ local.1 in
    let remote = both_equal (nat_cmp a.remote b.remote) _ lport.1 in
    λ i. record {
      local = nat_cmp-IsAntisymmetric a.local b.local local.0 i;
      remote = nat_cmp-IsAntisymmetric a.remote b.remote remote.0 i;
      lport = nat_cmp-IsAntisymmetric a.lport b.lport lport.0 i;
      rport = nat_cmp-IsAntisymmetric a.rport b.rport remote.1 i;
      proto = nat_cmp-IsAntisymmetric a.proto b.proto proto.0 i;
    }

-- units that tie are one
pub one_unit : IsAntisymmetric unit_cmp
one_unit (OfFlow a) (OfFlow b) h = ap OfFlow (one_flow a b h)
one_unit (OfFlow a) (OfHost b) h = absurd (true≢false (sym (ap is_eq h)))
one_unit (OfHost a) (OfFlow b) h = absurd (true≢false (sym (ap is_eq h)))
one_unit (OfHost a) (OfHost b) h = ap OfHost (nat_cmp-IsAntisymmetric a b h)

pub same_unit-true : (a b : units.Unit) → same_unit a b ≡ true → a ≡ b
same_unit-true a b h = one_unit a b ((Equal-is (unit_cmp a b)).0 h)

pub unit_eq_equiv : IsEquivalence unit_eq
unit_eq_equiv = record {
  refl = λ a. tied a a ∙ same_unit_equiv.refl a;
  symm = λ a b. tied a b ∙ same_unit_equiv.symm a b ∙ sym (tied b a);
  congr = λ a b z h. tied a z ∙ same_unit_equiv.congr a b z (sym (tied a b) ∙ h) ∙ sym (tied b z);
}
