-- An entry is found where it has a record and its unit is such a unit.
use Rattle.std.proofs.Common.{sym, ◌∙◌, ap, ◌++◌, ◌∷◌, [], Some}
use Rattle.std.proofs.lemmas.List.{map_push}
use Rattle.std.proofs.lemmas.List.Elements.{All-push}
use Rattle.std.specs.Option.{option_copied}
use Rattle.record_table.specs.declared.ordered.Found.{Found}
use Rattle.record_table.specs.Keeping.{IsNumbered, pairs_of}
use Rattle.record_table.proofs.InOrder.{seen, found_nothing, found_other, found_one}
use Rattle.record_table.proofs.ordered.all_found.Goals as goal
use Rattle.record_table.proofs.ordered.all_found.Goals.{then-is_taken+in_ok-push, else-is_taken}

pub loop-entry-preserved-in_default : goal.loop-entry-preserved-in_default
loop-entry-preserved-in_default g c = record {
  found = found_nothing (option_copied c.args.filter) (pairs_of c.loop-entry.found.items) c.args.entries.now c.loop-entry.entry-index c.entry-item.result
      c.loop-entry-test.true c.entry-item.is
      c.loop-entry.invariant.found c.in_default.is;
  numbered = c.loop-entry.invariant.numbered;
}

pub loop-entry-preserved : goal.loop-entry-preserved
loop-entry-preserved g c = elim c.if-is_taken.branch [
  | then-is_taken+in_ok-push w ↦
      let filter = option_copied c.args.filter in
      let so_far = c.loop-entry.found.items in
      let more = w.found_at.result in
      record {
        found = ap (λ v. seen filter (pairs_of v.items)) w.found-is ∙ ap (λ l. seen filter (pairs_of l)) w.in_ok-push.ensures.items
            ∙ ap (seen filter) (map_push (λ (e : Found g.row.R.Denot). (e.unit.now, e.record)) so_far more)
            ∙ ap (λ u. seen filter (pairs_of so_far ++ (u, more.record) ∷ [])) w.found_at.ensures.unit
            ∙ found_one filter (pairs_of so_far) c.args.entries.now c.loop-entry.entry-index c.entry-item.result c.loop-entry-test.true c.entry-item.is
            c.loop-entry.invariant.found
            more.record (c.in-Some.is ∙ ap Some (sym w.found_at.ensures.record)) (sym c.is_taken.ensures ∙ w.if-is_taken.true);
        numbered = rw (w.found-is, w.in_ok-push.ensures.items) (All-push IsNumbered so_far more c.loop-entry.invariant.numbered w.found_at.ensures.numbered);
      }
  | else-is_taken w ↦ record {
    found = ap (λ v. seen (option_copied c.args.filter) (pairs_of v.items)) w.found-is
        ∙ found_other (option_copied c.args.filter) (pairs_of c.loop-entry.found.items) c.args.entries.now c.loop-entry.entry-index c.entry-item.result
        c.loop-entry-test.true c.entry-item.is
        c.loop-entry.invariant.found c.in-Some.record c.in-Some.is (sym c.is_taken.ensures ∙ w.if-is_taken.false);
    numbered = rw w.found-is c.loop-entry.invariant.numbered;
  }
]
