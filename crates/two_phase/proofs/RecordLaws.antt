-- The live records of an instance keep the laws of the network whose instances are known by their laws: what is processed, selected, deleted
-- and restored, at each unit.
use Rattle.two_phase.proofs.Words.{◌≡◌, ℕ, Bool, true, false, Option, Some, None, List, [], ◌∷◌, map, refl, sym, ap, subst, ◌∙◌, if◌then◌else◌, is_some, not}
use Rattle.two_phase.proofs.Words.{◌||◌, false≢true, Filter, Packet, Site, matches, IsFilter, flow_of, Chunk, Output, Fits, FunctionLaws, Semantics, unit_at}
use Rattle.two_phase.proofs.Words.{kept_after, output_for, without, newest_of, records_of, table_read, units_in}
use Rattle.std.proofs.Common.{cond}
use Rattle.std.specs.FinMap as finite
use Rattle.std.specs.FinMap.{find, get-empty, get-retain_keys, get-entries}
use Rattle.nf_function.specs.declared.unit.Unit as units
use Rattle.nf_function.specs.Units.{unit_cmp, takes, TakesWhole}
use Rattle.nf_function.specs.Records.{newest, is_newer}
use Rattle.nf_function.specs.Semantics.{is_sound}
use Rattle.state_chunk.specs.Format.{record_chunk}
use Rattle.record_table.specs.Table.{Records, same_unit, is_among, AreSound, after_packet, taken_by, either}
use Rattle.record_table.specs.Chunks.{chunks_of}
use Rattle.record_table.proofs.UnitOrder.{one_unit, same_unit-true, same_unit_equiv}
use Rattle.record_table.proofs.RecordLookUps.{get-after_packet, get-without, get-joined, sound_with_kept, sound_retain_keys}
use Rattle.two_machine.proofs.Tables.{System, Laws, none}

-- records, each valid for its unit: those of an instance, or those that chunks were made of
pub record Sound {R : Type 0} (f : Semantics R) : Type 0 where
  pub live : Records R
  pub sound : AreSound f live

-- what is the same all along a run: the function, the site, the filter, and which packet has a number
pub record Setting (R : Type 0) : Type 0 where
  pub f : Semantics R
  pub laws : FunctionLaws f
  pub site : Site
  pub filter : Filter
  pub numbers : IsFilter filter
  pub whole : TakesWhole f.kind filter
  pub packet : ℕ → Packet
  pub fits : (n : ℕ) → Fits site (packet n)

module _ {R : Type 0} (setting : Setting R) where
  open setting use {f, laws, site, filter, whole, packet, fits}

  -- the chunks of records, and their units
  abbrev pub chunks : Sound f → List Chunk
  chunks c = chunks_of f c.live

  pub kept_sound : (t : Sound f) (n : ℕ)
      → is_sound f (unit_at f.kind site (packet n)) (kept_after f site (finite.get t.live (unit_at f.kind site (packet n))) (packet n)) ≡ true
  kept_sound t n =
      let unit = unit_at f.kind site (packet n) in
      rw ((fits n).transport) (laws.stays site (finite.get t.live unit) (packet n) (fits n) (t.sound unit))

  abbrev pub process : Sound f → ℕ → Sound f
  process t n =
      let unit = unit_at f.kind site (packet n) in
      record {
        live = after_packet f site t.live (packet n);
        sound = sound_with_kept f t.live unit (kept_after f site (finite.get t.live unit) (packet n)) t.sound (kept_sound t n);
      }

  abbrev pub select : Sound f → Sound f
  select t = record { live = taken_by filter t.live; sound = sound_retain_keys f t.live (takes filter) t.sound }

  abbrev pub delete : Sound f → Sound f → Sound f
  delete c t = record {
    live = without (units_in (chunks c)) t.live;
    sound = sound_retain_keys f t.live (λ u. not (is_among (units_in (chunks c)) u)) t.sound;
  }

  pub read_again : (c : Sound f) → records_of f (chunks c) ≡ c.live
  read_again c = (table_read f laws c.live c.sound).spells

  valid_either : (u : units.Unit) (b : Bool) (r s : R) → f.is_valid u r ≡ true → f.is_valid u s ≡ true → f.is_valid u (if b then r else s) ≡ true
  valid_either u true r s h k = h
  valid_either u false r s h k = k

  either_none : (o : Option R) → either (newest f) None o ≡ o
  either_none None = refl
  either_none (Some r) = refl

  either_held : (o : Option R) → either (newest f) o None ≡ o
  either_held None = refl
  either_held (Some r) = refl

  sound_either : (u : units.Unit) (o p : Option R) → is_sound f u o ≡ true → is_sound f u p ≡ true → is_sound f u (either (newest f) o p) ≡ true
  sound_either u o None h k = subst (λ x. is_sound f u x ≡ true) (sym (either_held o)) h
  sound_either u None (Some s) h k = k
  sound_either u (Some r) (Some s) h k = valid_either u (is_newer f r s) r s h k

  pub sound_newest : (held coming : Records R) → AreSound f held → AreSound f coming → AreSound f (newest_of f held coming)
  sound_newest held coming h k u = rw (get-joined (newest f) held coming u) (sound_either u (finite.get held u) (finite.get coming u) (h u) (k u))

  abbrev pub restore : Sound f → Sound f → Sound f
  restore c t = record {
    live = newest_of f t.live (records_of f (chunks c));
    sound = sound_newest t.live (records_of f (chunks c)) t.sound (subst (AreSound f) (sym (read_again c)) c.sound);
  }

  -- the network over these records
  abbrev pub sys : System units.Unit (Sound f) (Sound f) R Output
  sys = record {
    covers = λ n. matches filter (flow_of site (packet n)).0;
    takes = takes filter;
    unit_of = λ n. unit_at f.kind site (packet n);
    equal = same_unit;
    step = λ o n. (f.stepped site o (packet n)).kept;
    output = λ o n. output_for f site o (packet n);
    empty = record { live = finite.empty; sound = λ u. subst (λ o. is_sound f u o ≡ true) (sym (get-empty unit_cmp u)) refl };
    at = λ t u. finite.get t.live u;
    process = process;
    select = select;
    has = λ c u. finite.get c.live u;
    delete = delete;
    restore = restore;
  }

  -- the units of chunks are those that have a record
  among_found : (es : List (units.Unit × R)) (u : units.Unit) → is_among (units_in (map (λ e. record_chunk f e.0 e.1) es)) u ≡ is_some (find unit_cmp u es)
  among_found [] u = refl
  among_found (e ∷ es) u =
      elim (same_unit u e.0) as (λ b. b || is_among (units_in (map (λ e. record_chunk f e.0 e.1) es)) u ≡ is_some (cond b (Some e.1) (find unit_cmp u es))) [
        | true ↦ refl
        | false ↦ among_found es u
      ]

  among_is : (c : Sound f) (u : units.Unit) → is_among (units_in (chunks c)) u ≡ is_some (finite.get c.live u)
  among_is c u = among_found (finite.entries c.live) u ∙ ap is_some (sym (get-entries c.live u))

  get_restored : (t c : Sound f) (u : units.Unit) → finite.get (restore c t).live u ≡ either (newest f) (finite.get t.live u) (finite.get c.live u)
  get_restored t c u =
      get-joined (newest f) t.live (records_of f (chunks c)) u ∙ ap (λ m. either (newest f) (finite.get t.live u) (finite.get m u)) (read_again c)

  pub its_laws : Laws sys
  its_laws = record {
    whole = λ n. whole (flow_of site (packet n)).0;
    is_same = same_unit-true;
    itself = same_unit_equiv.refl;
    nothing = λ u. get-empty unit_cmp u;
    processed = λ t n u.
        let unit = unit_at f.kind site (packet n) in
        get-after_packet f site t.live (packet n) u
        ∙ ap (λ b. if b then kept_after f site (finite.get t.live u) (packet n) else finite.get t.live u) (same_unit_equiv.symm u unit)
        ∙ rw ((fits n).transport) refl;
    selected = λ t u. get-retain_keys t.live (takes filter) u (λ x same. ap (takes filter) (sym (one_unit u x same)));
    deleted = λ t s u. get-without (units_in (chunks (select s))) t.live u ∙ ap (λ b. cond b None (finite.get t.live u)) (among_is (select s) u);
    restored = λ t s u none.
        get_restored t (select s) u ∙ ap (λ o. either (newest f) o (finite.get (select s).live u)) none ∙ either_none (finite.get (select s).live u);
    untouched = λ t s u none.
        get_restored t (select s) u ∙ ap (λ o. either (newest f) (finite.get t.live u) o) none ∙ either_held (finite.get t.live u);
  }

  -- a map without records has no entries, and so no chunks
  no_entries : (es : List (units.Unit × R)) → ((u : units.Unit) → find unit_cmp u es ≡ None) → [] ≡ es
  no_entries [] h = refl
  no_entries (e ∷ es) h =
      let got : Some e.1 ≡ None = subst (λ b. cond b (Some e.1) (find unit_cmp e.0 es) ≡ None) (same_unit_equiv.refl e.0) (h e.0) in
      absurd (false≢true (sym (ap is_some got)))

  either_way : (b : Bool) → ◌≡◌ {A = Option R} (if b then None else None) None
  either_way true = refl
  either_way false = refl

  pub no_chunks : [] ≡ chunks (none sys)
  no_chunks =
      let empty = sys.empty in
      ap (map (λ e. record_chunk f e.0 e.1))
      (no_entries (finite.entries (none sys).live)
      (λ u.
      sym (get-entries (none sys).live u) ∙ its_laws.selected empty u ∙ ap (λ o. if takes filter u then o else None) (its_laws.nothing u)
      ∙ either_way (takes filter u)))
