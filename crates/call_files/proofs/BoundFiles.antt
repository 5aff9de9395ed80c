-- What files that were bound leave of the outside: each role has its name, and the bytes that its file showed under it.
use Rattle.std.proofs.Common.{◌≡◌, ℕ, List, Option, None, Some, Result, Ok, Err, OnOk, OnErr, refl, ap, sym, ◌∙◌}
use Rattle.std.specs.Prelude.{option_map, unwrap_or}
use Rattle.nf_io.specs.declared.outside.Role.{Role}
use Rattle.nf_io.specs.Meaning.{Meaning, OthersStay, Shown, as_named, bytes_of, with_bytes}
use Rattle.call_files.specs.Phases.{Binds, Is_bound, Is_kept, KeptOrBound, SameContents, SameNames}
use Rattle.call_files.proofs.RoleLemmas.{everywhere}

-- one file was bound, or none where memory ran out
pub binds_one : {E : Type 0} (shown : Role → List ℕ → Shown) (role : Role) (name : List ℕ) (old new : Role → Meaning)
    (r : Result (Unit {0}) E) → (old role).name ≡ None
    → OnOk r (new role ≡ record (with_bytes (shown role name) (old role)) { name = Some name })
    → OnErr r (new role ≡ old role) → OthersStay role old new → Binds shown old new
binds_one shown role name old new (Ok done) unnamed bound kept others =
    everywhere role old new (λ other m. KeptOrBound (shown other) (old other) m) others (λ other differ. Is_kept refl) (Is_bound name unnamed bound)
binds_one shown role name old new (Err failed) unnamed bound kept others =
    everywhere role old new (λ other m. KeptOrBound (shown other) (old other) m) others (λ other differ. Is_kept refl) (Is_kept kept)

-- files were bound, and then others
module _ (first later : Role → List ℕ → Shown) (same : (role : Role) (name : List ℕ) → later role name ≡ first role name) (old mid new : Role → Meaning) where
  bound_after : (role : Role) → KeptOrBound (first role) (old role) (mid role) → KeptOrBound (later role) (mid role) (new role)
      → KeptOrBound (first role) (old role) (new role)
  bound_after role (Is_kept before) (Is_kept after) = Is_kept (after ∙ before)
  bound_after role (Is_bound name unnamed is) (Is_kept after) = Is_bound name unnamed (after ∙ is)
  bound_after role (Is_kept before) (Is_bound name unnamed is) =
      Is_bound name (ap (λ m. m.name) (sym before) ∙ unnamed)
      (is ∙ ap (λ (s : Shown). record (with_bytes s (mid role)) { name = Some name }) (same role name)
      ∙ ap (λ (m : Meaning). record (with_bytes (first role name) m) { name = Some name }) before)
  bound_after role (Is_bound name unnamed is) (Is_bound again never what) =
      let both : Some name ≡ None = sym (ap (λ m. m.name) is) ∙ never in absurd (cc)

  pub binds_after : Binds first old mid → Binds later mid new → Binds first old new
  binds_after before after role = bound_after role (before role) (after role)

-- the roles before a call by their names after it, which stay or become these
module _ (shown : Role → List ℕ → Shown) (old : Role → Meaning) where
  -- a role by its name
  abbrev by_name : Role → Option (List ℕ) → Meaning
  by_name role name = with_bytes (unwrap_or (option_map (shown role) name) (bytes_of (old role))) (old role)

  pub same_named : (mid new : Role → Meaning) → SameNames mid new → (role : Role) → as_named shown old mid role ≡ as_named shown old new role
  same_named mid new names role = ap (by_name role) (sym (names role))

  -- where none has a name, they are as they were
  pub none_named : (new : Role → Meaning) → ((role : Role) → (new role).name ≡ None) → (role : Role) → as_named shown old new role ≡ old role
  none_named new unnamed role = ap (by_name role) (unnamed role)

  -- what is bound has the bytes that its file showed
  module _ (mid new : Role → Meaning) (unnamed : (role : Role) → (old role).name ≡ None) (names : SameNames mid new) where
    bound_bytes : (role : Role) → KeptOrBound (shown role) (old role) (mid role) → bytes_of (mid role) ≡ bytes_of (as_named shown old new role)
    bound_bytes role (Is_kept is) = ap bytes_of (is ∙ sym (ap (by_name role) (names role ∙ ap (λ m. m.name) is ∙ unnamed role)))
    bound_bytes role (Is_bound name none is) = ap bytes_of is ∙ sym (ap (λ n. bytes_of (by_name role n)) (names role ∙ ap (λ m. m.name) is))

    bound_faults : (role : Role) → KeptOrBound (shown role) (old role) (mid role) → (mid role).faults ≡ (old role).faults
    bound_faults role (Is_kept is) = ap (λ m. m.faults) is
    bound_faults role (Is_bound name none is) = ap (λ m. m.faults) is

    pub bound_contents : Binds shown old mid → SameContents (as_named shown old new) mid
    bound_contents binds = record {
      left = λ role. ap (λ s. s.left) (bound_bytes role (binds role));
      written = λ role. ap (λ s. s.written) (bound_bytes role (binds role));
      faults = λ role. bound_faults role (binds role);
    }
