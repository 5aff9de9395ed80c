-- The pieces of a stream say how many units are given, and whether one of them has a record with a time; and a record has one exactly where a
-- packet of its unit came later than at time 0.
use Rattle.nf_net.proofs.Words.{◌≡◌, ℕ, zero, suc, Bool, true, false, cond, Option, Some, None, List, [], ◌∷◌, map, length, take, drop, refl, sym, ap, ◌∙◌}
use Rattle.nf_net.proofs.Words.{subst, if◌then◌else◌, ◌&&◌, ◌||◌, nat_le, list_any, AllByRecursion, keys_of, IsDistinct-head, IsDistinct-tail, or-false, Filter}
use Rattle.nf_net.proofs.Words.{Chunk, takes, Fits, FunctionLaws, Semantics, kept_after, version_number, record_chunk, Records, same_unit, taken_by}
use Rattle.nf_net.proofs.Words.{distinct_entries, one_unit, same_unit_equiv, same_unit-true, Msg, Piece, units_in, WholePieces, piece_of, whole_of, pieces}
use Rattle.nf_net.proofs.Words.{Each, each_map, Chunks, Config, packet_numbered, Unit, IsDistinct, split}
use Rattle.std.specs.Prelude.{max}
use Rattle.std.specs.FinMap as finite
use Rattle.nf_function.specs.Units.{has_times}
use Rattle.nf_function.specs.Records.{is_timed_kept}
use Rattle.record_table.specs.Chunks.{chunks_of}
use Rattle.record_table.proofs.RecordLookUps.{at}
use Rattle.instance_worker.specs.Pieces.{newest_version, pieces_from}
use Rattle.net_world.specs.Fold.{fold}
use Rattle.proof_outlines.proofs.outline.Outline.{newest_in}
use Rattle.proof_outlines.proofs.outline.StateOutline.{newest_made}

-- what each piece says of all
abbrev pub IsOf : WholePieces → Piece → Type 0
IsOf whole p = (p.total ≡ whole.total) × (p.newest ≡ whole.newest)

cut_of : (whole : WholePieces) (n : ℕ) (chunks : List Chunk) → Each (IsOf whole) (pieces_from whole n chunks)
unfolding pieces_from
cut_of whole zero chunks = ((refl, refl), tt)
cut_of whole (suc n) chunks = split (nat_le (length chunks) 64)
    (λ b. Each (IsOf whole) (if b then piece_of whole true chunks ∷ [] else piece_of whole false (take 64 chunks) ∷ pieces_from whole n (drop 64 chunks)))
    (λ _. ((refl, refl), tt)) (λ _. ((refl, refl), cut_of whole n (drop 64 chunks)))

pub pieces_of : (chunks : List Chunk) → Each (IsOf (whole_of chunks)) (pieces chunks)
pieces_of chunks = cut_of (whole_of chunks) (length chunks) chunks

module _ {R : Type 0} (f : Semantics R) (laws : FunctionLaws f) where
  -- chunks of entries have their units
  units_made : (es : Chunks R) → units_in (map (λ e. record_chunk f e.0 e.1) es) ≡ map (λ e. e.0) es
  units_made [] = refl
  units_made (e ∷ es) = ap (λ us. e.0 ∷ us) (units_made es)

  -- as many as there are chunks
  units_length : (es : Chunks R) → length (units_in (map (λ e. record_chunk f e.0 e.1) es)) ≡ length (map (λ e. record_chunk f e.0 e.1) es)
  units_length [] = refl
  units_length (e ∷ es) = ap suc (units_length es)

  newest_by : (a b : Bool) → max (version_number a) (version_number b) ≡ version_number (a || b)
  newest_by true true = refl
  newest_by true false = refl
  newest_by false true = refl
  newest_by false false = refl

  newest_is : (test : Unit → Bool) (es : Chunks R) → Each (λ e. f.is_timed e.1 ≡ test e.0) es
      → newest_in f es ≡ version_number (list_any test (map (λ e. e.0) es))
  newest_is test [] h = refl
  newest_is test (e ∷ es) h = let here = h.0 in let rest = newest_is test es h.1 in rw (rest, here) (newest_by (test e.0) (list_any test (map (λ x. x.0) es)))

  -- the state that an instance gives: how many units, and of which version
  pub record GivesState (test : Unit → Bool) (chunks : List Chunk) : Type 0 where
    pub number : length (units_in chunks) ≡ length chunks
    pub version : newest_version chunks ≡ version_number (list_any test (units_in chunks))

  entries_give : (test : Unit → Bool) (es : Chunks R) → Each (λ e. f.is_timed e.1 ≡ test e.0) es → GivesState test (map (λ e. record_chunk f e.0 e.1) es)
  entries_give test es h = record {
    number = units_length es;
    version = newest_made f laws es ∙ newest_is test es h ∙ ap (λ us. version_number (list_any test us)) (sym (units_made es));
  }

-- Each entry of a map is found.
module _ {R : Type 0} where
  found_more : (e : Unit × R) (es xs : Chunks R) → AllByRecursion (λ v. same_unit e.0 v ≡ false) (keys_of xs) → Each (λ x. at es x.0 ≡ Some x.1) xs
      → Each (λ x. at (e ∷ es) x.0 ≡ Some x.1) xs
  found_more e es [] apart h = tt
  found_more e es (x ∷ xs) apart h = (
    split (same_unit x.0 e.0) (λ b. cond b (Some e.1) (at es x.0) ≡ Some x.1)
        (λ same. let off : same_unit e.0 e.0 ≡ false = subst (λ v. same_unit e.0 v ≡ false) (same_unit-true x.0 e.0 same) apart.0 in
        let never : true ≡ false = sym (same_unit_equiv.refl e.0) ∙ off in cc) (λ _. h.0),
    found_more e es xs apart.1 h.1,
  )

  found_distinct : (es : Chunks R) → IsDistinct same_unit (keys_of es) → Each (λ x. at es x.0 ≡ Some x.1) es
  found_distinct [] d = tt
  found_distinct (e ∷ es) d = (
    (let own = same_unit_equiv.refl e.0 in rw own refl),
    found_more e es es (IsDistinct-head same_unit e.0 (keys_of es) d) (found_distinct es (IsDistinct-tail same_unit e.0 (keys_of es) d)),
  )

  pub entries_found : (m : Records R) → Each (λ e. finite.get m e.0 ≡ Some e.1) (finite.entries m)
  entries_found m = each_map {P = (λ x. at (finite.entries m) x.0 ≡ Some x.1)} {Q = (λ e. finite.get m e.0 ≡ Some e.1)}
      (λ e h. finite.get-entries m e.0 ∙ h) (finite.entries m) (found_distinct (finite.entries m) (distinct_entries m))

  some_of : (b : Bool) (o : Option R) (r : R) → cond b o None ≡ Some r → o ≡ Some r
  some_of true o r h = h
  some_of false o r h = cc

  -- and those that a filter takes are those of the map
  pub taken_found : (g : Filter) (live : Records R) → Each (λ e. finite.get live e.0 ≡ Some e.1) (finite.entries (taken_by g live))
  taken_found g live = each_map {P = (λ e. finite.get (taken_by g live) e.0 ≡ Some e.1)} {Q = (λ e. finite.get live e.0 ≡ Some e.1)} (λ e h. some_of
      (takes g e.0) (finite.get live e.0) e.1 (sym (finite.get-retain_keys live (takes g) e.0 (λ x same. ap (takes g) (sym (one_unit e.0 x same)))) ∙ h))
      (finite.entries (taken_by g live)) (entries_found (taken_by g live))

module _ {R : Type 0} (f : Semantics R) (laws : FunctionLaws f) where
  -- what an instance gives, where a test tells which of its records have a time
  pub selected_give : (g : Filter) (live : Records R) (test : Unit → Bool)
      → ((u : Unit) (r : R) → finite.get live u ≡ Some r → f.is_timed r ≡ test u) → GivesState f laws test (chunks_of f (taken_by g live))
  selected_give g live test h = entries_give f laws test (finite.entries (taken_by g live)) (each_map {P = (λ e. finite.get live e.0 ≡ Some e.1)}
      {Q = (λ e. f.is_timed e.1 ≡ test e.0)} (λ e there. h e.0 e.1 there) (finite.entries (taken_by g live)) (taken_found g live))

  module _ (c : Config) (items : List Msg) (fitting : (number : ℕ) → Fits c.site (packet_numbered items number)) where
    abbrev pub is_late : ℕ → Bool
    is_late p = nat_le 1 (packet_numbered items p).nanos

    abbrev kind_times : Bool
    kind_times = has_times f.kind

    tells : (kept : Option R) → is_timed_kept f kept ≡ kind_times && is_timed_kept f kept
    tells None = none kind_times
      where
        none : (b : Bool) → false ≡ b && false
        none true = refl
        none false = refl
    tells (Some r) = by_time (f.is_timed r) refl
      where
        by_time : (b : Bool) → f.is_timed r ≡ b → b ≡ kind_times && b
        by_time true e = let has = laws.tells r e in rw has refl
        by_time false e = none kind_times
          where
            none : (b : Bool) → false ≡ b && false
            none true = refl
            none false = refl

    later : (h late rest timed : Bool) → h && (rest || (h && (late || timed))) ≡ h && ((late || rest) || timed)
    later true true true timed = refl
    later true true false timed = refl
    later true false true timed = refl
    later true false false timed = refl
    later false late rest timed = refl

    -- what is kept has a time where a packet came later than at time 0, or there was one
    fold_timed : (kept : Option R) (ps : List ℕ) → is_timed_kept f (fold f c items kept ps) ≡ kind_times && (list_any is_late ps || is_timed_kept f kept)
    fold_timed kept [] = tells kept
    fold_timed kept (p ∷ ps) =
        let transport = (fitting p).transport in
        let next : kept_after f c.site kept (packet_numbered items p) ≡ Some (f.stepped c.site kept (packet_numbered items p)).kept = rw transport refl in
        let times = laws.times c.site kept (packet_numbered items p) in
        ap (λ k. is_timed_kept f (fold f c items k ps)) next
        ∙ fold_timed (Some (f.stepped c.site kept (packet_numbered items p)).kept) ps
        ∙ ap (λ b. kind_times && (list_any is_late ps || b)) times
        ∙ later kind_times (is_late p) (list_any is_late ps) (is_timed_kept f kept)

    pub record_timed : (ps : List ℕ) (r : R) → fold f c items None ps ≡ Some r → f.is_timed r ≡ kind_times && list_any is_late ps
    record_timed ps r h = ap (is_timed_kept f) (sym h) ∙ fold_timed None ps ∙ ap (λ b. kind_times && b) (or-false (list_any is_late ps))
