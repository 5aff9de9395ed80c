-- What a caller knows of the outside once a `RoleSource` or a `RoleSink` over it is gone: each lemma takes the equation
-- `same_rest` of the call's `StaysOpen`, and that the final outside is the last one behind the reference.
use Rattle.std.proofs.Common.{◌≡◌, ◌≢◌, None, refl, ap, sym, ◌∙◌}
use Rattle.std.specs.Prelude.{if◌then◌else◌}
use Rattle.std.proofs.lemmas.Bool.{eq-eqb, ne_eqb}
use Rattle.nf_io.specs.declared.outside.Role.{Role}
use Rattle.nf_io.specs.declared.outside.Role.TheVariants.{Trace, Script, JournalIn, Report, JournalOut, TraceOut, Errors}
use Rattle.nf_io.specs.Roles.{role_place, same_role}
use Rattle.nf_io.specs.Meaning.{Meaning, OthersStay, without_left, without_written}

-- places tell roles apart
pub same_place : (a b : Role) → role_place a ≡ role_place b → a ≡ b
same_place Trace Trace e = refl
same_place Script Script e = refl
same_place JournalIn JournalIn e = refl
same_place Report Report e = refl
same_place JournalOut JournalOut e = refl
same_place TraceOut TraceOut e = refl
same_place Errors Errors e = refl
same_place a b e = absurd (cc)

-- reads and writes alike: `clear` leaves out of a role's own meaning what they change
module _ (clear : Meaning → Meaning) where
  abbrev without : Role → (Role → Meaning) → Role → Meaning
  without role seen other = if same_role role other then clear (seen role) else seen other

  here : (role : Role) (seen : Role → Meaning) → without role seen role ≡ clear (seen role)
  here role seen = ap (λ b. if b then clear (seen role) else seen role) (eq-eqb (role_place role) (role_place role) refl)

  elsewhere : (role other : Role) (seen : Role → Meaning) → other ≢ role → without role seen other ≡ seen other
  elsewhere role other seen ne = ap (λ b. if b then clear (seen role) else seen other)
      (ne_eqb (role_place role) (role_place other) (λ e. ne (sym (same_place role other e))))

  module _ {D : Type 0} (seen : D → Role → Meaning) (role role' : Role) (old new final : D)
      (e : ◌≡◌ {A = Role × (Role → Meaning)} (role', without role' (seen new)) (role, without role (seen old))) (f : final ≡ new) where
    same_rest : without role (seen final) ≡ without role (seen old)
    same_rest = ap (λ d. without role (seen d)) f ∙ ap (λ r. without r (seen new)) (sym (ap (λ p. p.0) e)) ∙ ap (λ p. p.1) e

    others_stay : OthersStay role (seen old) (seen final)
    others_stay other ne = sym (elsewhere role other (seen final) ne) ∙ ap (λ g. g other) same_rest ∙ elsewhere role other (seen old) ne

    same_cleared : clear (seen final role) ≡ clear (seen old role)
    same_cleared = sym (here role (seen final)) ∙ ap (λ g. g role) same_rest ∙ here role (seen old)

abbrev clear_left : Meaning → Meaning
clear_left m = record m { left = None; faults = 0 }

abbrev clear_written : Meaning → Meaning
clear_written m = record m { written = None; faults = 0 }

module _ {D : Type 0} (seen : D → Role → Meaning) (role role' : Role) (old new final : D) where
  abbrev SameWithoutLeft : Type 0
  SameWithoutLeft = ◌≡◌ {A = Role × (Role → Meaning)} (role', without_left role' (seen new)) (role, without_left role (seen old))

  -- reads leave the other roles as before, and of their own role its name and what was written to it
  pub left_others : SameWithoutLeft → final ≡ new → OthersStay role (seen old) (seen final)
  unfolding without_left
  left_others = others_stay clear_left seen role role' old new final

  pub left_name : SameWithoutLeft → final ≡ new → (seen final role).name ≡ (seen old role).name
  unfolding without_left
  left_name e f = ap (λ m. m.name) (same_cleared clear_left seen role role' old new final e f)

  pub left_written : SameWithoutLeft → final ≡ new → (seen final role).written ≡ (seen old role).written
  unfolding without_left
  left_written e f = ap (λ m. m.written) (same_cleared clear_left seen role role' old new final e f)

  abbrev SameWithoutWritten : Type 0
  SameWithoutWritten = ◌≡◌ {A = Role × (Role → Meaning)} (role', without_written role' (seen new)) (role, without_written role (seen old))

  -- writes leave the other roles as before, and of their own role its name and what is left of it
  pub written_others : SameWithoutWritten → final ≡ new → OthersStay role (seen old) (seen final)
  unfolding without_written
  written_others = others_stay clear_written seen role role' old new final

  pub written_name : SameWithoutWritten → final ≡ new → (seen final role).name ≡ (seen old role).name
  unfolding without_written
  written_name e f = ap (λ m. m.name) (same_cleared clear_written seen role role' old new final e f)

  pub written_left : SameWithoutWritten → final ≡ new → (seen final role).left ≡ (seen old role).left
  unfolding without_written
  written_left e f = ap (λ m. m.left) (same_cleared clear_written seen role role' old new final e f)
