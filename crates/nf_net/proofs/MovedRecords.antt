-- Of a unit that a move asks its source for no share has anything: so each live record of it is the fold of all that was done of it, and the pieces
-- say which of the records have a time.
use Rattle.nf_net.proofs.Words.{◌≡◌, ℕ, ◌<◌, ◌≤◌, Bool, true, false, cond, Option, Some, None, List, ◌∷◌, length, refl, sym, ap, ◌∙◌, subst, arith, ◌&&◌, ◌==◌}
use Rattle.nf_net.proofs.Words.{is_some, filter_map, nat_tests, Filter, takes, FunctionLaws, Semantics, Records, taken_by, one_unit, Msg, Note, Network}
use Rattle.nf_net.proofs.Words.{queue_at, at, Each, MoveMsg, Of_move, Sys, IsSys, NothingOf, Where, Any, olds, Sharing, WholeWorld, moves_of, Came, WhereAll}
use Rattle.nf_net.proofs.Words.{Apart_from_shares, Under_share, Node, processed_of, live_at, is_whole, takes_same, is_sys, Given, S, A, shown, came_by, Joined}
use Rattle.nf_net.proofs.Words.{done_same, given, Unit, Setting}
use Rattle.std.specs.FinMap as finite
use Rattle.record_table.specs.Chunks.{chunks_of}
use Rattle.record_table.proofs.RecordLookUps.{same_records}
use Rattle.proof_machines.proofs.net.Readings as readings
use Rattle.proof_machines.proofs.net.Shares.{Any.Old}
use Rattle.net_world.specs.Fold.{fold}
use Rattle.nf_net.proofs.RunWords.{record_is, fold_is}
use Rattle.nf_net.proofs.StreamedUnits.{GivesState, selected_give}

module _ {R : Type 0} (S : Sys R) (laws : IsSys S) (u : Unit) where
  -- no share has a unit that is asked for
  stream_apart : (A : Sharing S) (w : WholeWorld S A) (k : Came) → WhereAll S A laws u w k → (i y n : ℕ) (g : Filter) (rest : List (Any R))
      → (i == 0) && (y == 0) ≡ false → w.link i y ≡ Old (Of_move g (MoveMsg.Stream n)) ∷ rest → S.takes g u ≡ true
      → Where S laws u (moves_of S A w) k.all k.bared
  stream_apart A w k (Apart_from_shares h none) i y n g rest off waits on = h.is
  stream_apart A w k (Under_share x before b h o f) i y n g rest off waits on =
      let nothing = (subst (λ ms. Each (NothingOf S u i) (olds ms)) waits (h.labels i y off)).0 in
      let never : true ≡ false = sym on ∙ nothing.1 in
      cc

-- So in a world of a run where a Stream is taken.
module _ {F R : Type 0} (setting : Setting F R) (n : ℕ) (w : Network (Node F R) Msg Note) (j : Joined setting.function (given setting) n w) where
  open setting use {function as f, config as c, items}

  abbrev g : Given
  g = given setting

  module _ (count : length w.nodes ≡ n) (k p : ℕ) (two : 2 ≤ k) (few : k < n) (sends : p < n) (op : ℕ) (filter : Filter) (rest : List Msg)
      (waits : queue_at w (at k p) ≡ Msg.Stream op filter ∷ rest) (whole : is_whole f.kind filter ≡ true) where
    off : (p == 0) && (k == 0) ≡ false
    off = grind (arith, nat_tests, two)

    shown_so : j.world.link p k ≡ Old (Of_move filter (MoveMsg.Stream op)) ∷ filter_map (shown f g) rest
    shown_so = j.links p k sends few off ∙ ap (filter_map (shown f g)) waits

    -- a live record of a unit that it takes is that of all the unit's packets
    pub streamed_record : (u : Unit) (i : ℕ) (r : R) → takes filter u ≡ true → finite.get (j.nodes.instance k).table.live u ≡ Some r
        → live_at w i u ≡ Some r → fold f c items None (processed_of f c items u w.log) ≡ Some r
    streamed_record u i r on there live =
        let its = j.shown_is.instances k two few in
        let fits = its.records.fits u (ap is_some there) in
        let apart = stream_apart (S f g) (is_sys f g.site g.packet) u (A f g) j.world (came_by f g w.log u) (j.shown_is.every.unit u) p k op filter
        (filter_map (shown f g) rest) off shown_so (takes_same f.kind filter u whole fits ∙ on) in
        fold_is setting None (processed_of f c items u w.log)
        ∙ ap (λ ps. readings.fold (S f g).F None ps) (sym (done_same setting n w j u)) ∙ record_is setting n w count j u apart i r live

-- The records that a filter takes.
module _ {R : Type 0} (filter : Filter) where
  got_taken : (m : Records R) (u : Unit) → finite.get (taken_by filter m) u ≡ cond (takes filter u) (finite.get m u) None
  got_taken m u = finite.get-retain_keys m (takes filter) u (λ x same. ap (takes filter) (sym (one_unit u x same)))

  twice : (b : Bool) (o : Option R) → cond b (cond b o None) None ≡ cond b o None
  twice true o = refl
  twice false o = refl

  taken_twice : (m : Records R) → taken_by filter (taken_by filter m) ≡ taken_by filter m
  taken_twice m = same_records (taken_by filter (taken_by filter m)) (taken_by filter m) (λ u. got_taken (taken_by filter m) u
      ∙ ap (λ o. cond (takes filter u) o None) (got_taken m u) ∙ twice (takes filter u) (finite.get m u) ∙ sym (got_taken m u))

  both : (b : Bool) (o : Option R) (r : R) → cond b o None ≡ Some r → (b ≡ true) × (o ≡ Some r)
  both true o r e = (refl, e)
  both false o r e = cc

  -- what an instance gives of them, where a test tells which of them have a time
  pub taken_give : (f : Semantics R) (laws : FunctionLaws f) (live : Records R) (test : Unit → Bool)
      → ((u : Unit) (r : R) → takes filter u ≡ true → finite.get live u ≡ Some r → f.is_timed r ≡ test u)
      → GivesState f laws test (chunks_of f (taken_by filter live))
  taken_give f laws live test h =
      subst (λ m. GivesState f laws test (chunks_of f m)) (taken_twice live) (selected_give f laws filter (taken_by filter live) test (λ u r there.
      let it = both (takes filter u) (finite.get live u) r (sym (got_taken live u) ∙ there) in h u r it.0 it.1))
