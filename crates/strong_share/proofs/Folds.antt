-- What a strong job gives: each number's packet fits its types, a unit's packets are taken or not as the unit is; and how folds go on with one packet.
use Rattle.strong_share.proofs.Words.{◌≡◌, ℕ, true, false, Option, Some, None, List, [], ◌∷◌, ◌++◌, refl, sym, ap, ◌∙◌, if◌then◌else◌, filter, filter-append}
use Rattle.strong_share.proofs.Words.{flow_of, takes, Laws, Semantics, unit_at, kept_after, output_for, same_unit, same_unit-true, same_unit_equiv, StrongJob}
use Rattle.strong_share.proofs.Words.{IsStrongJob, packet_numbered, is_taken, is_of, fold, outputs}
use Rattle.std.proofs.lemmas.List.Sums.{fold-append}
use Rattle.nf_function.specs.declared.unit.Unit as units
use Rattle.nf_function.specs.Records.{Fits}
use Rattle.nf_function.specs.Semantics.{is_sound}
use Rattle.net_world.proofs.FoundPackets.{found_fits}
use Rattle.net_world.proofs.WholeFilters.{whole_takes}

module _ {R : Type 0} (f : Semantics R) (job : StrongJob) where
  abbrev pub unit : ℕ → units.Unit
  unit p = unit_at f.kind job.site (packet_numbered job p)

  -- what is kept after a packet
  abbrev pub after : Option R → ℕ → R
  after kept p = (f.stepped job.site kept (packet_numbered job p)).kept

  -- what is kept of a unit after these packets, of all units
  abbrev pub seen : units.Unit → List ℕ → Option R
  seen u ps = fold f job None (filter (is_of f job u) ps)

module _ {R : Type 0} (f : Semantics R) (laws : Laws f) (job : StrongJob) (is : IsStrongJob f.kind job) where
  -- the packet of each number fits its types
  pub fits : (number : ℕ) → Fits job.site (packet_numbered job number)
  fits number = found_fits job.site job.packets is.site is.steered number

  -- the packets of a unit are taken, or they aren't
  pub unit_taken : (p : ℕ) (u : units.Unit) → is_of f job u p ≡ true → is_taken job p ≡ takes job.filter u
  unit_taken p u on =
      let same : unit f job p ≡ u = same_unit-true (unit f job p) u on in
      sym (whole_takes f.kind job.filter is.filter.whole (flow_of job.site (packet_numbered job p)).0) ∙ ap (takes job.filter) same

  pub kept_is : (kept : Option R) (p : ℕ) → kept_after f job.site kept (packet_numbered job p) ≡ Some (after f job kept p)
  kept_is kept p = let transport = (fits p).transport in rw transport refl

  -- outputs go on, and folds
  pub outputs-append : (kept : Option R) (xs ys : List ℕ) → outputs f job kept (xs ++ ys) ≡ outputs f job kept xs ++ outputs f job (fold f job kept xs) ys
  outputs-append kept [] ys = refl
  outputs-append kept (x ∷ xs) ys =
      ap (λ z. output_for f job.site kept (packet_numbered job x) ∷ z) (outputs-append (kept_after f job.site kept (packet_numbered job x)) xs ys)

  pub seen_more : (u : units.Unit) (ps : List ℕ) (p : ℕ) → seen f job u (ps ++ p ∷ [])
      ≡ (if is_of f job u p then Some (after f job (seen f job u ps) p) else seen f job u ps)
  seen_more u ps p =
      ap (fold f job None) (filter-append (is_of f job u) ps (p ∷ []))
      ∙ fold-append (λ k q. kept_after f job.site k (packet_numbered job q)) None (filter (is_of f job u) ps) (if is_of f job u p then p ∷ [] else [])
      ∙ elim (is_of f job u p) as (λ b. fold f job (seen f job u ps) (if b then p ∷ [] else [])
      ≡ (if b then Some (after f job (seen f job u ps) p) else seen f job u ps)) [
        | true ↦ kept_is (seen f job u ps) p
        | false ↦ refl
      ]

  pub seen_same : (u : units.Unit) (ps : List ℕ) (p : ℕ) → is_of f job u p ≡ false → seen f job u (ps ++ p ∷ []) ≡ seen f job u ps
  seen_same u ps p off = seen_more u ps p ∙ rw off refl

  -- it is valid for the unit
  fold_sound : (u : units.Unit) (kept : Option R) (ps : List ℕ) → is_sound f u kept ≡ true → is_sound f u (fold f job kept (filter (is_of f job u) ps)) ≡ true
  fold_sound u kept [] h = h
  fold_sound u kept (p ∷ ps) h =
      elim (is_of f job u p) as (λ b. is_of f job u p ≡ b → is_sound f u (fold f job kept (if b then p ∷ filter (is_of f job u) ps else filter (is_of f job u)
      ps)) ≡ true) [
        | true ↦ λ on.
            let same : unit f job p ≡ u = same_unit-true (unit f job p) u on in
            let before : is_sound f (unit f job p) kept ≡ true = ap (λ v. is_sound f v kept) same ∙ h in
            let valid : is_sound f (unit f job p) (Some (after f job kept p)) ≡ true = laws.stays job.site kept (packet_numbered job p) (fits p) before in
            fold_sound u (kept_after f job.site kept (packet_numbered job p)) ps (ap (is_sound f u) (kept_is kept p)
            ∙ ap (λ v. is_sound f v (Some (after f job kept p))) (sym same) ∙ valid)
        | false ↦ λ _. fold_sound u kept ps h
      ] refl

  pub seen_sound : (u : units.Unit) (ps : List ℕ) → is_sound f u (seen f job u ps) ≡ true
  seen_sound u ps = fold_sound u None ps refl

  pub unit_own : (p : ℕ) → is_of f job (unit f job p) p ≡ true
  unit_own p = same_unit_equiv.refl (unit f job p)

  pub unit_swapped : (u : units.Unit) (p : ℕ) → same_unit u (unit f job p) ≡ is_of f job u p
  unit_swapped u p = same_unit_equiv.symm u (unit f job p)
