-- The lines of a unit's records at the members of strong sharing, by what is kept of it at each.
use Rattle.run_headline.proofs.Words.{◌≡◌, ℕ, suc, ◌+◌, ◌<◌, Bool, Option, None, Some, List, [], ◌∷◌, ◌++◌, length, map, get_or, refl, ap, ◌∙◌, arith}
use Rattle.run_headline.proofs.Words.{filter_map, option_to_list, zip, part, InstanceState, NamedRecord, StrongNode, member_under, under_each}
use Rattle.std.specs.Prelude.{drop, flat_map, take}
use Rattle.std.specs.FinMap as finite
use Rattle.nf_function.specs.declared.unit.Unit as units
use Rattle.strong_share.specs.Parts.{SwitchState, ControllerState}
use Rattle.strong_share.specs.declared.node.StrongNode.TheVariants.{Switch, Ctrl as Controller, Instance}
use Rattle.strong_share.specs.Report.{member_in}
use Rattle.run_headline.proofs.UnitLines.{line}

module _ {F R : Type 0} where
  -- nodes that are these members
  abbrev pub AreMembers : (ℕ → InstanceState F R) → List (StrongNode F R) → Type 0
  AreMembers g nodes = (k : ℕ) → k < length nodes → (d : StrongNode F R) → get_or nodes k d ≡ Instance (g k)

  next_members : (g : ℕ → InstanceState F R) (x : StrongNode F R) (nodes : List (StrongNode F R)) → AreMembers g (x ∷ nodes) → AreMembers (λ k. g (suc k)) nodes
  next_members g x nodes each = λ k within d. each (suc k) (omega (arith, within)) d

  -- the nodes of a world: a switch, a controller, and members
  pub record AreNodes (g : ℕ → InstanceState F R) (count : ℕ) (nodes : List (StrongNode F R)) : Type 0 where
    pub members : List (StrongNode F R)
    pub many : length members ≡ count
    pub each : AreMembers g members
    pub among : filter_map member_in nodes ≡ filter_map member_in members

  pub nodes_from : (g : ℕ → InstanceState F R) (s : SwitchState) (c : ControllerState) (count : ℕ) (nodes : List (StrongNode F R)) → length nodes ≡ count + 2
      → ((d : StrongNode F R) → get_or nodes 0 d ≡ Switch s) → ((d : StrongNode F R) → get_or nodes 1 d ≡ Controller c)
      → ((k : ℕ) → k < count → (d : StrongNode F R) → get_or nodes (k + 2) d ≡ Instance (g k)) → AreNodes g count nodes
  nodes_from g s c count [] long switch controller each = absurd (omega (arith, long))
  nodes_from g s c count (a ∷ []) long switch controller each = absurd (omega (arith, long))
  nodes_from g s c count (a ∷ b ∷ nodes) long switch controller each = record {
    members = nodes;
    many = omega (arith, long);
    each = λ k within d. (let two : suc (suc k) ≡ k + 2 = omega arith in
        ap (λ i. get_or (a ∷ b ∷ nodes) i d) two ∙ each k (omega (arith, within, long)) d);
    among = ap (λ x. filter_map member_in (x ∷ b ∷ nodes)) (switch a) ∙ ap (λ x. filter_map member_in (Switch s ∷ x ∷ nodes)) (controller a);
  }

  -- each has its name
  pub names_told : (names : List (List ℕ)) (g : ℕ → InstanceState F R) (nodes : List (StrongNode F R)) → length nodes ≡ length names → AreMembers g nodes
      → map (λ i. i.name) (map member_under (zip names (filter_map member_in nodes))) ≡ names
  names_told [] g [] same each = refl
  names_told [] g (x ∷ nodes) same each = absurd (omega (arith, same))
  names_told (name ∷ names) g [] same each = absurd (omega (arith, same))
  names_told (name ∷ names) g (x ∷ nodes) same each =
      ap (λ y. map (λ i. i.name) (map member_under (zip (name ∷ names) (filter_map member_in (y ∷ nodes))))) (each 0 (omega arith) x)
      ∙ ap (λ l. name ∷ l) (names_told names (λ k. g (suc k)) nodes (omega (arith, same)) (next_members g x nodes each))

module _ {R : Type 0} (u : units.Unit) where
  -- the unit's lines, by the record at each
  abbrev pub lines_at : (ℕ → Option R) → List (List ℕ) → List (NamedRecord R)
  lines_at at [] = []
  lines_at at (name ∷ names) = line u name (at 0) ++ lines_at (λ k. at (suc k)) names

  pub lines_are : {F : Type 0} (live : Bool) (at : ℕ → Option R) (names : List (List ℕ)) (g : ℕ → InstanceState F R) (nodes : List (StrongNode F R))
      → length nodes ≡ length names → AreMembers g nodes → ((k : ℕ) → k < length names → finite.get (part (g k).table live) u ≡ at k)
      → flat_map (λ i. line u i.name (finite.get (part i.table live) u)) (map member_under (zip names (filter_map member_in nodes))) ≡ lines_at at names
  lines_are live at [] g [] same each is = refl
  lines_are live at [] g (x ∷ nodes) same each is = absurd (omega (arith, same))
  lines_are live at (name ∷ names) g [] same each is = absurd (omega (arith, same))
  lines_are live at (name ∷ names) g (x ∷ nodes) same each is =
      ap (λ y. flat_map (λ i. line u i.name (finite.get (part i.table live) u)) (map member_under (zip (name ∷ names) (filter_map member_in (y ∷ nodes)))))
      (each 0 (omega arith) x)
      ∙ ap (λ o. line u name o ++ flat_map (λ i. line u i.name (finite.get (part i.table live) u)) (map member_under (zip names (filter_map member_in nodes))))
      (is 0 (omega arith))
      ∙ ap (λ l. line u name (at 0) ++ l) (lines_are live (λ k. at (suc k)) names (λ k. g (suc k)) nodes (omega (arith, same)) (next_members g x nodes each)
      (λ k within. is (suc k) (omega (arith, within))))

  -- the same is kept at each, or nothing
  pub at_each : (kept : Option R) (at : ℕ → Option R) (names : List (List ℕ)) → ((k : ℕ) → at k ≡ kept) → lines_at at names ≡ under_each u kept names
  at_each kept at [] is = refl
  at_each kept at (name ∷ names) is =
      ap (λ o. line u name o ++ lines_at (λ k. at (suc k)) names) (is 0)
      ∙ ap (λ l. line u name kept ++ l) (at_each kept (λ k. at (suc k)) names (λ k. is (suc k)))

  pub at_none : (at : ℕ → Option R) (names : List (List ℕ)) → ((k : ℕ) → at k ≡ None) → lines_at at names ≡ []
  at_none at [] is = refl
  at_none at (name ∷ names) is =
      ap (λ o. line u name o ++ lines_at (λ k. at (suc k)) names) (is 0) ∙ at_none (λ k. at (suc k)) names (λ k. is (suc k))

  -- it is kept at the first alone, or at each but the first
  pub at_first : (kept : Option R) (at : ℕ → Option R) (names : List (List ℕ)) → at 0 ≡ kept → ((k : ℕ) → at (suc k) ≡ None)
      → lines_at at names ≡ under_each u kept (take 1 names)
  at_first kept at [] first others = refl
  at_first kept at (name ∷ names) first others =
      ap (λ o. line u name o ++ lines_at (λ k. at (suc k)) names) first ∙ ap (λ l. line u name kept ++ l) (at_none (λ k. at (suc k)) names others)

  pub at_others : (kept : Option R) (at : ℕ → Option R) (names : List (List ℕ)) → at 0 ≡ None → ((k : ℕ) → at (suc k) ≡ kept)
      → lines_at at names ≡ under_each u kept (drop 1 names)
  at_others kept at [] first others = refl
  at_others kept at (name ∷ names) first others =
      ap (λ o. line u name o ++ lines_at (λ k. at (suc k)) names) first ∙ at_each kept (λ k. at (suc k)) names others

  -- a record at the first has one line
  pub first_long : (kept : Option R) (names : List (List ℕ)) → 0 < length names → length (under_each u kept (take 1 names)) ≡ length (option_to_list kept)
  first_long kept [] some = absurd (omega (arith, some))
  first_long None (name ∷ names) some = refl
  first_long (Some r) (name ∷ names) some = refl
