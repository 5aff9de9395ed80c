-- What holds of every role where one of them changed and the others stayed.
use Rattle.std.proofs.Common.{◌≡◌, ◌≢◌, Bool, true, false, eqb, refl, sym, subst, ◌⊎◌, inl, inr}
use Rattle.std.proofs.lemmas.Bool.{eqb-true}
use Rattle.nf_io.specs.declared.outside.Role.{Role}
use Rattle.nf_io.specs.declared.outside.Role.TheVariants.{Trace}
use Rattle.nf_io.specs.Roles.{role_place}
use Rattle.nf_io.specs.Meaning.{Meaning, OthersStay}
use Rattle.nf_io.proofs.RolesAfterLoan.{same_place}

pub other_place : (a b : Role) → eqb (role_place a) (role_place b) ≡ false → a ≢ b
other_place a b differ same =
    let here : eqb (role_place b) (role_place b) ≡ false = subst (λ (r : Role). eqb (role_place r) (role_place b) ≡ false) same differ in
    absurd (no_loop b here)
  where
    no_loop : (r : Role) → eqb (role_place r) (role_place r) ≡ false → ⊥
    no_loop Trace e = cc
    no_loop r e = cc

-- a role is this one, or another
pub this_or_other : (a b : Role) → (a ≡ b) ⊎ (a ≢ b)
this_or_other a b = by (eqb (role_place a) (role_place b)) refl
  where
    by : (test : Bool) → eqb (role_place a) (role_place b) ≡ test → (a ≡ b) ⊎ (a ≢ b)
    by true is = inl (same_place a b (eqb-true (role_place a) (role_place b) is))
    by false is = inr (other_place a b is)

-- what holds of the role that changed, and held of each role that stayed, holds of every role
pub everywhere : (role : Role) (old new : Role → Meaning) (P : Role → Meaning → Type 0) → OthersStay role old new
    → ((other : Role) → other ≢ role → P other (old other)) → P role (new role) → (other : Role) → P other (new other)
everywhere role old new P others before here other = elim (this_or_other other role) [
  | inl same ↦ subst (λ (r : Role). P r (new r)) (sym same) here
  | inr differ ↦ subst (P other) (sym (others other differ)) (before other differ)
]

-- a relation of each role's state before to that after
pub at_each : (role : Role) (old new : Role → Meaning) (P : Meaning → Meaning → Type 0) → OthersStay role old new
    → ((m : Meaning) → P m m) → P (old role) (new role) → (other : Role) → P (old other) (new other)
at_each role old new P others stayed here =
    everywhere role old new (λ other m. P (old other) m) others (λ other differ. stayed (old other)) here
