-- How a function's records are stored gives the laws of reading them; with what its table keeps of them these are all its laws.
use Rattle.std.proofs.Common.{◌≡◌, ◌∙◌, ◌<◌, ◌+◌, ◌^◌, ◌&&◌, ◌||◌, ℕ, zero, suc, Bool, true, false, cond, List, length, map}
use Rattle.std.proofs.Common.{Option, Some, slice_get, option_map, nat_le, refl, sym, ap, arith}
use Rattle.std.specs.List.{range_with_len}
use Rattle.std.proofs.lemmas.Option.{same_Some, option_and_then_some, cond_some, slice_get-map}
use Rattle.flow_filter.specs.declared.packet.Packet.{Packet}
use Rattle.flow_filter.specs.declared.site.Site.{Site}
use Rattle.nf_function.specs.declared.unit.Unit as units
use Rattle.nf_function.specs.Stored.{IsBytes}
use Rattle.nf_function.specs.Units.{has_times, is_unit}
use Rattle.nf_function.specs.Semantics.{Semantics, Step, count, is_sound, packets_in, record_in, unit_at}
use Rattle.nf_function.specs.Records.{Fits, Laws, is_timed_kept}

-- a valid record is read again from its bytes, which are few, and whatever is read was from its own bytes
pub record IsStored {R : Type 0} (f : Semantics R) : Type 0 where
  pub unit : (u : units.Unit) (r : R) → f.is_valid u r ≡ true → is_unit f.kind u ≡ true
  pub again : (u : units.Unit) (r : R) → f.is_valid u r ≡ true → f.spelled (f.body_of r) ≡ Some r
  pub own : (bytes : List ℕ) (r : R) → IsBytes bytes → f.spelled bytes ≡ Some r → f.body_of r ≡ bytes
  pub short : (u : units.Unit) (r : R) → f.is_valid u r ≡ true → length (f.body_of r) < 2 ^ 16

-- a step leaves a valid record with one packet more, and tells its time
pub record IsStepped {R : Type 0} (f : Semantics R) : Type 0 where
  pub stays : (site : Site) (kept : Option R) (p : Packet) → Fits site p → is_sound f (unit_at f.kind site p) kept ≡ true
      → f.is_valid (unit_at f.kind site p) (f.stepped site kept p).kept ≡ true
  pub counts : (site : Site) (kept : Option R) (p : Packet) → f.packets_of (f.stepped site kept p).kept ≡ count (packets_in f kept) 1
  pub tells : (r : R) → f.is_timed r ≡ true → has_times f.kind ≡ true
  pub times : (site : Site) (kept : Option R) (p : Packet)
      → f.is_timed (f.stepped site kept p).kept ≡ (has_times f.kind && (nat_le 1 p.nanos || is_timed_kept f kept))

module _ {R : Type 0} (f : Semantics R) (stored : IsStored f) where
  read_again : (u : units.Unit) (r : R) → f.is_valid u r ≡ true → record_in f u (f.body_of r) ≡ Some r
  read_again u r h = rw (stored.again u r h, h) refl

  read_own : (u : units.Unit) (bytes : List ℕ) (r : R) → IsBytes bytes → record_in f u bytes ≡ Some r → (f.is_valid u r ≡ true) × (f.body_of r ≡ bytes)
  read_own u bytes r are h =
      option_and_then_some _ (f.spelled bytes) r h (λ s read chosen.
      let parts = cond_some (f.is_valid u s) s r chosen in
      (rw (← parts.1) parts.0, stored.own bytes r are (read ∙ ap (λ x. Some x) parts.1)))

  one_record : (u v : units.Unit) (a b : R) → f.is_valid u a ≡ true → f.is_valid v b ≡ true → f.body_of a ≡ f.body_of b → a ≡ b
  one_record u v a b p q same = same_Some a b (sym (stored.again u a p) ∙ ap f.spelled same ∙ stored.again v b q)

  pub laws_of : IsStepped f → Laws f
  laws_of stepped = record {
    unit = stored.unit;
    again = read_again;
    read = read_own;
    known = one_record;
    short = stored.short;
    stays = stepped.stays;
    counts = stepped.counts;
    tells = stepped.tells;
    times = stepped.times;
  }

-- what stands at a number's place, in a list in the order of their numbers, has that number
pub number_at : {X : Type 0} (number : X → ℕ) (all : List X) (n : ℕ) (x : X) → map number all ≡ range_with_len 0 (length all)
    → slice_get all n ≡ Some x → number x ≡ n
number_at number all n x ordered h =
    let at = in_range 0 (length all) n (number x) (ap (λ (l : List ℕ). slice_get l n) (sym ordered) ∙ slice_get-map number all n ∙ ap (option_map number) h) in
    omega (arith, at)
  where
    in_range : (from size n y : ℕ) → slice_get (range_with_len from size) n ≡ Some y → y ≡ from + n
    in_range from zero n y h = cc
    in_range from (suc size) zero y h = let same = same_Some from y h in omega (arith, same)
    in_range from (suc size) (suc n) y h = let rest = in_range (from + 1) size n y h in omega (arith, rest)

-- what holds of what both steps leave holds of what either does
pub either_way : {R : Type 0} (test : Bool) (P : R → Type 0) (x y : Step R) → P x.kept → P y.kept → P (cond test x y).kept
either_way true P x y first second = first
either_way false P x y first second = second
