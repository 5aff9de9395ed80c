-- The report of a failover has the lines of its headline.
use Rattle.run_headline.proofs.Words.{◌≡◌, ℕ, true, Option, Some, List, [], ◌++◌, sym, ap, ◌∙◌, subst, codes, if◌then◌else◌, is_some, slice_index_or}
use Rattle.run_headline.proofs.Words.{AllByRecursion, flat_map, and_parts, append_assoc, TableView, is_among, same_unit, live_at, table_at, Head, Failover}
use Rattle.run_headline.proofs.Words.{IsLeft, is_affected, is_lost, is_open, lost_packets, open_packets, reflected_by, standing, promoted_line}
use Rattle.std.specs.List.{IsDistinct}
use Rattle.std.specs.FinMap as finite
use Rattle.nf_function.specs.declared.unit.Unit as units
use Rattle.record_table.proofs.MadeChunks.{distinct_entries}
use Rattle.standby_failover.specs.declared.promoted.Failing.{Failing}
use Rattle.standby_failover.specs.declared.promoted.Promoted.{Promoted}
use Rattle.standby_failover.specs.Lines.{caught_lines, fail_line, failover_text, head_lines, lost_line, open_line, promoted_lines}
use Rattle.run_headline.specs.Failover.{FailHeadline, FailLines, HasOrder, lines_text, listed}
use Rattle.run_headline.specs.FailoverLaw.{FailoverLaw, IsFailed}
use Rattle.run_headline.proofs.others.FailedLines.{all_lines, among_affected, caught_text, each_among, keys, lines_of, picked_are, promoted_text, steady}
use Rattle.run_headline.proofs.others.FailedLines.{units_are}
use Rattle.run_headline.proofs.others.FailedPackets.{count, first, in_order, is_all, of, order, others_named, seen_record, whole_record}

module _ {F R : Type 0} (x : Failover F R) (p : Promoted F R) (caught : TableView R) (is : IsFailed x p caught) where
  abbrev left : IsLeft x
  left = is.left

  abbrev promoted_at : units.Unit → Option R
  promoted_at u = finite.get p.table.live u

  abbrev caught_at : units.Unit → Option R
  caught_at u = finite.get caught.live u

  abbrev lines_by : List units.Unit → List ℕ → List ℕ → FailLines R
  lines_by us lost pending = record { affected = lines_of promoted_at caught_at us; lost = lost; pending = pending }

  abbrev us : List units.Unit
  us = keys x left

  abbrev lines : FailLines R
  lines = lines_by us (lost_packets x) (open_packets x)

  affected : (u : units.Unit) → is_among us u ≡ true → is_affected x u ≡ true
  affected u on = sym (among_affected x left u) ∙ on

  are_there : AllByRecursion (λ u. is_some (caught_at u) ≡ true) us
  are_there = each_among (λ u. is_some (caught_at u) ≡ true) us (λ u on. is.has_caught_up.each u (affected u on))

  listed_are : listed lines ≡ us
  listed_are = units_are promoted_at caught_at us are_there

  -- an affected unit
  has_order : (u : units.Unit) → is_affected x u ≡ true → (r : R) → caught_at u ≡ Some r
      → HasOrder (of x left) (first x left) lines (record { unit = u; promoted = promoted_at u; caught = r })
  has_order u on r same = record {
    order = order x left u;
    is_all = is_all x left u on;
    in_order = λ off. in_order x left u on (steady x left u off);
    seen = reflected_by x u;
    promoted_is = is.is_promoted.live u ∙ ap (λ b. if b then standing x u else live_at x.world x.to u) on ∙ seen_record x left u on;
    others_are = others_named x left u on;
    caught_is = whole_record x left u ∙ sym (is.has_caught_up.affected u on) ∙ same;
  }

  headline_of_all : FailHeadline (of x left) (first x left) lines
  headline_of_all = record {
    one_each = subst (IsDistinct same_unit) (sym listed_are) (distinct_entries (table_at x.world x.failed).live);
    records = all_lines promoted_at caught_at _ us (each_among _ us (λ u on. has_order u (affected u on)));
    lost_are = picked_are x left (is_lost x) (λ n on. (and_parts _ _ on).0) (listed lines) listed_are;
    pending_are = picked_are x left (is_open x) (λ n on. (and_parts _ _ on).0) (listed lines) listed_are;
  }

  headline : FailHeadline (of x left) (first x left) (lines_by p.units p.lost p.pending)
  headline =
      subst (λ vs. FailHeadline (of x left) (first x left) (lines_by vs p.lost p.pending)) (sym is.is_promoted.units)
      (subst (λ ns. FailHeadline (of x left) (first x left) (lines_by us ns p.pending)) (sym is.is_promoted.lost)
      (subst (λ ns. FailHeadline (of x left) (first x left) (lines_by us (lost_packets x) ns)) (sym is.is_promoted.pending) headline_of_all))

  -- the text, where the names are those of the configuration
  module _ (head : Head) (failing : Failing) where
    abbrev name : List ℕ
    name = slice_index_or x.job.config.names failing.to []

    abbrev top : List ℕ
    top = head_lines head ++ fail_line x.job.config.names failing

    abbrev last : List ℕ
    last = codes "end\n"

    text_is : head.names ≡ x.job.config.names
        → failover_text x.job.function head failing p caught ≡ top ++ lines_text x.job.function name (lines_by p.units p.lost p.pending) ++ last
    unfolding failover_text promoted_lines
    text_is names =
        ap (λ ns. (((head_lines head ++ fail_line ns failing) ++ promoted_lines x.job.function (slice_index_or ns failing.to []) p)
        ++ caught_lines x.job.function (slice_index_or ns failing.to []) p.units caught) ++ last) names
        ∙ ap (λ l. ((top ++ ((l ++ flat_map lost_line p.lost) ++ flat_map open_line p.pending)) ++ caught_lines x.job.function name p.units caught) ++ last)
        (sym (promoted_text promoted_at caught_at x.job.function name p.units
        (subst (AllByRecursion (λ u. is_some (caught_at u) ≡ true)) (sym is.is_promoted.units) are_there)))
        ∙ ap (λ l. ((top ++ ((flat_map (λ y. promoted_line x.job.function name y.unit y.promoted) (lines_of promoted_at caught_at p.units)
        ++ flat_map lost_line p.lost) ++ flat_map open_line p.pending)) ++ l) ++ last) (sym (caught_text promoted_at caught_at x.job.function name p.units))
        ∙ ap (λ l. l ++ last) (append_assoc top _ _)

pub failover_law : (F R : Type 0) → FailoverLaw F R
failover_law F R x p caught is head failing names = record {
  lines = lines_by x p caught is p.units p.lost p.pending;
  came = count x is.left;
  headline = headline x p caught is;
  text_is = text_is x p caught is head failing names;
}
