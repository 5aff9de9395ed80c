-- What look-ups find in finite maps of records, and that they tell such maps apart.
use Rattle.std.proofs.Common.{◌≡◌, ℕ, zero, suc, ◌+◌, ◌-◌, ◌<◌, ◌≤◌, get_or, take, length, length-append, Bool, true, false}
use Rattle.std.proofs.Common.{cond, List, [], ◌∷◌, ◌++◌, map, Option, Some, None, refl, sym, ap, ◌∙◌, arith, is_some}
use Rattle.std.specs.Prelude.{not, ◌||◌}
use Rattle.std.proofs.lemmas.List.{take_more}
use Rattle.std.proofs.lemmas.Bool.{true≢false}
use Rattle.std.specs.Option.{option_or}
use Rattle.std.specs.FinMap as finite
use Rattle.std.specs.FinMap.{find, same_map, len-empty, len-entries, get-empty, get-insert, get-remove}
use Rattle.std.specs.FinMap.{get-retain_keys, get-entries, get-from_entries, empty_of_len, len-insert, len-remove}
use Rattle.nf_function.specs.declared.unit.Unit as units
use Rattle.nf_function.specs.Units.{unit_cmp}
use Rattle.nf_function.specs.UnitOrder.{units_total}
use Rattle.record_table.specs.Table.{Records, same_unit, with_kept, is_among, without, either, choice_of, union_of}
use Rattle.record_table.specs.Table.{after_packet, AreSound, TableView, part, with_part, newest_of, replaced_by}
use Rattle.nf_function.specs.Records.{is_newer, newest}
use Rattle.record_table.specs.declared.record_map.Keep.{Keep}
use Rattle.record_table.specs.declared.record_map.Keep.TheVariants.{Newest, Coming}
use Rattle.record_table.specs.Keeping.{choice}
use Rattle.nf_function.specs.Semantics.{Semantics, is_sound, kept_after, unit_at}
use Rattle.flow_filter.specs.declared.packet.Packet.{Packet}
use Rattle.flow_filter.specs.declared.site.Site.{Site}
use Rattle.record_table.proofs.UnitOrder.{one_unit, same_unit-true}

one_less : (b : Bool) (n m : ℕ) → (b ≡ true → 1 ≤ n) → m ≡ cond b (n - 1) n → m + cond b 1 0 ≡ n + 0
one_less true n m has is = omega (arith, has refl, is)
one_less false n m has is = omega (arith, is)

one_more : (b : Bool) (n m : ℕ) → m ≡ cond b n (n + 1) → m + cond b 1 0 ≡ n + 1
one_more true n m is = omega (arith, is)
one_more false n m is = omega (arith, is)

not_cond : {X : Type 0} (b : Bool) (x y : X) → cond (not b) x y ≡ cond b y x
not_cond true x y = refl
not_cond false x y = refl

pub among_more : (us : List units.Unit) (u q : units.Unit) → is_among (us ++ u ∷ []) q ≡ (is_among us q || same_unit q u)
among_more [] u q = or_false (same_unit q u)
  where
    or_false : (b : Bool) → (b || false) ≡ b
    or_false true = refl
    or_false false = refl
among_more (v ∷ us) u q = ap (λ b. same_unit q v || b) (among_more us u q) ∙ or_assoc (same_unit q v) (is_among us q) (same_unit q u)
  where
    or_assoc : (a b c : Bool) → (a || (b || c)) ≡ ((a || b) || c)
    or_assoc true b c = refl
    or_assoc false b c = refl

gone_once : {X : Type 0} (a b : Bool) (o : Option X) → cond b None (cond a None o) ≡ cond (a || b) None o
gone_once true true o = refl
gone_once true false o = refl
gone_once false b o = refl

kept_as_it_is : {X : Type 0} (b : Bool) (o p : Option X) → (b ≡ true → o ≡ p) → cond b o p ≡ p
kept_as_it_is true o p same = same refl
kept_as_it_is false o p same = refl

module _ {R : Type 0} where
  -- maps with the same look-ups are one
  pub same_records : (m n : Records R) → ((u : units.Unit) → finite.get m u ≡ finite.get n u) → m ≡ n
  same_records = same_map units_total one_unit

  pub get-with_kept : (m : Records R) (u : units.Unit) (o : Option R) (q : units.Unit)
      → finite.get (with_kept m u o) q ≡ cond (same_unit q u) o (finite.get m q)
  get-with_kept m u None q = get-remove units_total m u q
  get-with_kept m u (Some r) q = get-insert units_total m u r q

  -- what a list of entries has for a unit
  abbrev pub at : List (units.Unit × R) → units.Unit → Option R
  at es q = find unit_cmp q es

  either_none : (choose : R → R → R) (o : Option R) → o ≡ either choose o None
  either_none choose None = refl
  either_none choose (Some r) = refl

  chosen_is : (choose : R → R → R) (o : Option R) (r : R) → Some (choice_of choose o r) ≡ either choose o (Some r)
  chosen_is choose None r = refl
  chosen_is choose (Some held) r = refl

  module _ (choose : R → R → R) (held : Records R) where
    abbrev brought : List (units.Unit × R) → List (units.Unit × R)
    brought es = map (λ e. (e.0, choice_of choose (finite.get held e.0) e.1)) es

    at-brought : (es : List (units.Unit × R)) (q : units.Unit) → at (brought es ++ finite.entries held) q ≡ either choose (finite.get held q) (at es q)
    at-brought [] q = sym (get-entries held q) ∙ either_none choose (finite.get held q)
    at-brought (e ∷ es) q = elim (same_unit q e.0) as (λ b. same_unit q e.0 ≡ b
        → cond b (Some (choice_of choose (finite.get held e.0) e.1)) (at (brought es ++ finite.entries held) q)
        ≡ either choose (finite.get held q) (cond b (Some e.1) (at es q))) [
          | true ↦ λ h. chosen_is choose (finite.get held e.0) e.1 ∙ ap (λ u. either choose (finite.get held u) (Some e.1)) (sym (same_unit-true q e.0 h))
          | false ↦ λ h. at-brought es q
        ] refl

  -- what two maps have together
  pub get-joined : (choose : R → R → R) (held coming : Records R) (q : units.Unit)
      → finite.get (union_of choose held coming) q ≡ either choose (finite.get held q) (finite.get coming q)
  unfolding union_of
  get-joined choose held coming q =
      get-from_entries units_total (brought choose held (finite.entries coming) ++ finite.entries held) q ∙ at-brought choose held (finite.entries coming) q
      ∙ ap (either choose (finite.get held q)) (sym (get-entries coming q))

  -- a map with a record isn't empty
  has_one : (m : Records R) (u : units.Unit) → finite.contains_key m u ≡ true → 1 ≤ finite.len m
  has_one m u has = elim (finite.len m) as (λ n. finite.len m ≡ n → 1 ≤ n) [
    | zero ↦ λ none. absurd (true≢false (sym has ∙ ap (λ n. finite.contains_key n u) (empty_of_len m none) ∙ ap is_some (get-empty unit_cmp u)))
    | suc n ↦ λ some. omega arith
  ] refl

  -- one record, or none
  abbrev pub count : Option R → ℕ
  count o = cond (is_some o) 1 0

  -- how many records there are with another one, or none, for a unit
  pub len-with_kept : (m : Records R) (u : units.Unit) (o : Option R) → finite.len (with_kept m u o) + count (finite.get m u) ≡ finite.len m + count o
  len-with_kept m u None = one_less (finite.contains_key m u) (finite.len m) _ (has_one m u) (len-remove units_total m u)
  len-with_kept m u (Some r) = one_more (finite.contains_key m u) (finite.len m) _ (len-insert units_total m u r)

  pub get-without : (us : List units.Unit) (m : Records R) (q : units.Unit) → finite.get (without us m) q ≡ cond (is_among us q) None (finite.get m q)
  get-without us m q =
      get-retain_keys m (λ u. not (is_among us u)) q (λ x t. ap (λ u. not (is_among us u)) (sym (one_unit q x t)))
      ∙ not_cond (is_among us q) (finite.get m q) None

  pub without_none : (m : Records R) → without [] m ≡ m
  without_none m = same_records (without [] m) m (get-without [] m)

  -- the records without one unit more
  pub without_more : (us : List units.Unit) (u : units.Unit) (m : Records R) → finite.remove (without us m) u ≡ without (us ++ u ∷ []) m
  without_more us u m = same_records (finite.remove (without us m) u) (without (us ++ u ∷ []) m) (λ q.
      get-remove units_total (without us m) u q ∙ ap (cond (same_unit q u) None) (get-without us m q)
      ∙ gone_once (is_among us q) (same_unit q u) (finite.get m q)
      ∙ ap (λ b. cond b None (finite.get m q)) (sym (among_more us u q)) ∙ sym (get-without (us ++ u ∷ []) m q))

  -- one turn of a loop that takes records out
  pub without_next : (us : List units.Unit) (i : ℕ) (d : units.Unit) (old now new : Records R) → new ≡ finite.remove now (get_or us i d)
      → now ≡ without (take i us) old
      → i < length us → new ≡ without (take (i + 1) us) old
  without_next us i d old now new removed so_far within =
      removed ∙ ap (λ m. finite.remove m (get_or us i d)) so_far ∙ without_more (take i us) (get_or us i d) old
      ∙ ap (λ vs. without vs old) (sym (take_more us i d within))

  -- what a unit has already changes nothing
  pub with_kept_same : (m : Records R) (u : units.Unit) (o : Option R) → o ≡ finite.get m u → with_kept m u o ≡ m
  with_kept_same m u o is = same_records (with_kept m u o) m (λ q.
      get-with_kept m u o q ∙ kept_as_it_is (same_unit q u) o (finite.get m q) (λ h. is ∙ ap (finite.get m) (sym (same_unit-true q u h))))

  sound_at : (f : Semantics R) (u q : units.Unit) (b : Bool) (o p : Option R) → (b ≡ true → q ≡ u) → is_sound f u o ≡ true → is_sound f q p ≡ true
      → is_sound f q (cond b o p) ≡ true
  sound_at f u q true o p same new old = rw (same refl) new
  sound_at f u q false o p same new old = old

  -- records stay valid where a valid one is put
  pub sound_with_kept : (f : Semantics R) (m : Records R) (u : units.Unit) (o : Option R) → AreSound f m → is_sound f u o ≡ true → AreSound f (with_kept m u o)
  sound_with_kept f m u o old new q = rw (get-with_kept m u o q) (sound_at f u q (same_unit q u) o (finite.get m q) (same_unit-true q u) new (old q))

  stepped_at : (f : Semantics R) (site : Site) (p : Packet) (b : Bool) (o n : Option R) → (b ≡ true → o ≡ n)
      → cond b (kept_after f site o p) n ≡ cond b (kept_after f site n p) n
  stepped_at f site p true o n same = ap (λ x. kept_after f site x p) (same refl)
  stepped_at f site p false o n same = refl

  -- what a look-up finds after a packet
  pub get-after_packet : (f : Semantics R) (site : Site) (m : Records R) (p : Packet) (q : units.Unit)
      → finite.get (after_packet f site m p) q ≡ cond (same_unit q (unit_at f.kind site p)) (kept_after f site (finite.get m q) p) (finite.get m q)
  get-after_packet f site m p q =
      let u = unit_at f.kind site p in
      get-with_kept m u (kept_after f site (finite.get m u) p) q
      ∙ stepped_at f site p (same_unit q u) (finite.get m u) (finite.get m q) (λ h. ap (finite.get m) (sym (same_unit-true q u h)))

  -- records of valid units stay so where some are taken out
  pub sound_retain_keys : (f : Semantics R) (m : Records R) (p : units.Unit → Bool) → AreSound f m → AreSound f (finite.retain_keys m p)
  sound_retain_keys f m p sound q = rw (get-retain_keys m p q (λ x t. ap p (sym (one_unit q x t)))) (sound_if (p q) (finite.get m q) (sound q))
    where
      sound_if : (b : Bool) (o : Option R) → is_sound f q o ≡ true → is_sound f q (cond b o None) ≡ true
      sound_if true o h = h
      sound_if false o h = refl

  part_written : (t : TableView R) (live : Bool) (m : Records R) → part (with_part t live m) live ≡ m
  part_written t true m = refl
  part_written t false m = refl

  -- the same in a table
  pub get-stepped : (f : Semantics R) (site : Site) (t new : TableView R) (live : Bool) (p : Packet)
      → new ≡ with_part t live (after_packet f site (part t live) p) → (q : units.Unit)
      → finite.get (part new live) q
      ≡ cond (same_unit q (unit_at f.kind site p)) (kept_after f site (finite.get (part t live) q) p) (finite.get (part t live) q)
  get-stepped f site t new live p is q =
      ap (λ m. finite.get m q) (ap (λ n. part n live) is ∙ part_written t live (after_packet f site (part t live) p))
      ∙ get-after_packet f site (part t live) p q

  newest_sound : (f : Semantics R) (q : units.Unit) (b : Bool) (r s : R) → f.is_valid q r ≡ true → f.is_valid q s ≡ true → f.is_valid q (cond b r s) ≡ true
  newest_sound f q true r s first second = first
  newest_sound f q false r s first second = second

  choice_sound : (f : Semantics R) (keep : Keep) (q : units.Unit) (o p : Option R) → is_sound f q o ≡ true → is_sound f q p ≡ true
      → is_sound f q (either (choice f keep) o p) ≡ true
  choice_sound f keep q o None held coming = rw (← either_none (choice f keep) o) held
  choice_sound f keep q None (Some s) held coming = coming
  choice_sound f Newest q (Some r) (Some s) held coming = newest_sound f q (is_newer f r s) r s held coming
  choice_sound f Coming q (Some r) (Some s) held coming = coming

  -- two maps of valid records have such together
  pub sound_joined : (f : Semantics R) (keep : Keep) (held coming : Records R) → AreSound f held → AreSound f coming
      → AreSound f (union_of (choice f keep) held coming)
  sound_joined f keep held coming first second q =
      rw (get-joined (choice f keep) held coming q) (choice_sound f keep q (finite.get held q) (finite.get coming q) (first q) (second q))

  from_few : (es : List (units.Unit × R)) → finite.len (finite.from_entries {R = unit_cmp} es) ≤ length es
  from_few [] = omega (arith, len-empty unit_cmp R)
  from_few (e ∷ es) = omega (
    arith,
    len-insert units_total (finite.from_entries es) e.0 e.1,
    one_at_most (finite.contains_key (finite.from_entries {R = unit_cmp} es) e.0) (finite.len (finite.from_entries {R = unit_cmp} es)),
    from_few es,
  )
    where
      one_at_most : (b : Bool) (n : ℕ) → cond b n (n + 1) ≤ n + 1
      one_at_most true n = omega arith
      one_at_most false n = omega arith

  brought_long : (choose : R → R → R) (held : Records R) (es : List (units.Unit × R)) → length (brought choose held es) ≡ length es
  brought_long choose held [] = refl
  brought_long choose held (e ∷ es) = ap suc (brought_long choose held es)

  -- two maps have no more records together than one and the other
  pub len-joined : (choose : R → R → R) (held coming : Records R) → finite.len (union_of choose held coming) ≤ finite.len held + finite.len coming
  unfolding union_of
  len-joined choose held coming =
      let all = brought choose held (finite.entries coming) ++ finite.entries held in
      let long : length all ≡ finite.len coming + finite.len held =
      omega (
        arith,
        length-append (brought choose held (finite.entries coming)) (finite.entries held),
        brought_long choose held (finite.entries coming),
        len-entries coming,
        len-entries held,
      ) in
      omega (arith, from_few all, long)

  -- what a look-up finds after newer records were taken in
  pub each_newest : (f : Semantics R) (held coming new : Records R) → new ≡ newest_of f held coming → (q : units.Unit)
      → finite.get new q ≡ either (newest f) (finite.get held q) (finite.get coming q)
  each_newest f held coming new is q = ap (λ m. finite.get m q) is ∙ get-joined (newest f) held coming q

  coming_first : (o p : Option R) → either (λ held coming. coming) o p ≡ option_or p o
  coming_first None None = refl
  coming_first (Some r) None = refl
  coming_first None (Some s) = refl
  coming_first (Some r) (Some s) = refl

  -- what it finds after records were replaced
  pub each_replaced : (t new : TableView R) (live : Bool) (coming : Records R) → new ≡ with_part t live (replaced_by (part t live) coming) → (q : units.Unit)
      → finite.get (part new live) q ≡ option_or (finite.get coming q) (finite.get (part t live) q)
  each_replaced t new live coming is q =
      ap (λ n. finite.get (part n live) q) is ∙ ap (λ m. finite.get m q) (part_written t live (replaced_by (part t live) coming))
      ∙ get-joined (λ held coming. coming) (part t live) coming q ∙ coming_first (finite.get (part t live) q) (finite.get coming q)
