-- Which of two records is newer is an order: packets and bodies are compared, and a body belongs to one record.
use Rattle.std.proofs.Common.{◌≡◌, ◌∙◌, ◌⊎◌, inl, inr, refl, ap, true}
use Rattle.std.specs.Ordering.{nat_cmp, is_gt, ordering_then, ordering_reverse}
use Rattle.std.specs.declared.cmp.Ordering.{Ordering}
use Rattle.std.specs.declared.cmp.Ordering.TheVariants.{Less, Equal, Greater}
use Rattle.std.specs.Cmp.{IsTotalOrder}
use Rattle.std.specs.Cmp.Lexicographic.{slice_cmp}
use Rattle.std.proofs.lemmas.Cmp.{nat_cmp_total, nat_list_cmp_total, on_total, then_total, tied_itself}
use Rattle.std.proofs.lemmas.Map.Lookups.{exact_bytes}
use Rattle.nf_function.specs.declared.unit.Unit as units
use Rattle.nf_function.specs.Semantics.{Semantics}
use Rattle.nf_function.specs.Records.{age_cmp, is_newer, IsRecordOrder, Laws}

-- records are compared by a total order, up to equal packets and bodies
pub age_total : {R : Type 0} (f : Semantics R) → IsTotalOrder (age_cmp f)
age_total f = then_total (on_total f.packets_of nat_cmp_total) (on_total f.body_of nat_list_cmp_total)

greater : (o : Ordering) → is_gt o ≡ true → o ≡ Greater
greater Less h = cc
greater Equal h = cc
greater Greater h = refl

-- what is tied at first is tied after it
tied_behind : (o p : Ordering) → ordering_then o p ≡ Equal → p ≡ Equal
tied_behind Less p h = cc
tied_behind Equal p h = h
tied_behind Greater p h = cc

-- the newer record is greater, and the other one less
less_from_newer : {R : Type 0} (f : Semantics R) (a b : R) → is_newer f a b ≡ true → age_cmp f b a ≡ Less
less_from_newer f a b h = (age_total f).antisymm b a ∙ ap ordering_reverse (greater (age_cmp f a b) h)

newer_from_less : {R : Type 0} (f : Semantics R) (a b : R) → age_cmp f b a ≡ Less → is_newer f a b ≡ true
newer_from_less f a b h = ap is_gt ((age_total f).antisymm a b ∙ ap ordering_reverse h)

-- records that are tied have equal bodies
same_body : {R : Type 0} (f : Semantics R) (a b : R) → age_cmp f a b ≡ Equal → f.body_of a ≡ f.body_of b
same_body f a b h =
    exact_bytes (f.body_of a) (f.body_of b) (tied_behind (nat_cmp (f.packets_of a) (f.packets_of b)) (slice_cmp nat_cmp (f.body_of a) (f.body_of b)) h)

pub newer_is_order : {R : Type 0} (f : Semantics R) → Laws f → IsRecordOrder f
newer_is_order {R} f laws = record {
  irreflexive = λ a. ap is_gt (tied_itself (age_total f) a);
  transitive = λ a b c p q. newer_from_less f a c ((age_total f).trans c b a (less_from_newer f b c q) (less_from_newer f a b p));
  total = λ u v a b p q. one u v a b p q (age_cmp f a b) refl;
}
  where
    one : (u v : units.Unit) (a b : R) → f.is_valid u a ≡ true → f.is_valid v b ≡ true → (o : Ordering) → age_cmp f a b ≡ o
        → (is_newer f a b ≡ true) ⊎ (is_newer f b a ≡ true) ⊎ (a ≡ b)
    one u v a b p q Less h = inr (inl (newer_from_less f b a h))
    one u v a b p q Equal h = inr (inr (laws.known u v a b p q (same_body f a b h)))
    one u v a b p q Greater h = inl (ap is_gt h)
