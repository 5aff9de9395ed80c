-- Each loop writes a line more, and together the loops write them all.
use Rattle.op_script.proofs.Words.{◌≡◌, ℕ, ◌≤◌, ◌++◌, [], List, length, map, take, sym, ◌∙◌, append-nil, false, Ok, concat, AllByRecursion, take_all}
use Rattle.op_script.proofs.Words.{has_twice, Kind, Script, Word, line_text, route_words, line_words, script_text, IsRoute, IsLine, IsScript, SplitsNone}
use Rattle.op_script.proofs.Words.{line_view, script_view, script_of, route_view}
use Rattle.op_script.proofs.PrintedScripts.{IsNamed, script_again}
use Rattle.op_script.proofs.WrittenTexts.{lines_more, all_written, at_item, fits_more}
use Rattle.op_script.proofs.printing.print_script.Goals as goal

written : (names : List Word) (script : Script) (out : List ℕ) (i : ℕ) → length script.lines.items ≤ i
    → out ≡ concat (map line_text (map (route_words names) script.routes.items)) ++ concat (map line_text (map line_words (take i script.lines.items)))
    → out ≡ script_text names script
unfolding script_text
written names script out i over text = all_written line_text (route_words names) line_words out script.routes.items script.lines.items i over text

again_of : (kind : Kind) (names : List Word) (script : Script) (out : List ℕ) → IsScript names (script_view script)
    → AllByRecursion (IsNamed names) script.routes.items → has_twice names ≡ false
    → SplitsNone kind (script_view script)
    → out ≡ script_text names script → length out ≤ 1048576 → script_of kind names out ≡ Ok (script_view script)
again_of kind names script out is named once whole text short = rw text (script_again kind names script is named once whole (rw text at short))

pub loop-route-preserved : goal.loop-route-preserved
loop-route-preserved c =
    let below = rw c.as_slice-route-items.ensures.value at c.loop-route-test.true in
    let is = rw c.as_slice-route-items.ensures.value at c.route-item.is in
    record {
      text = lines_more line_text (route_words c.args.names.now) [] _ _ c.args.script.now.routes.items c.loop-route.route-index c.route-item.result
          below is c.loop-route.invariant.text c.in_ok-print_route.ensures.text;
      named = fits_more (IsNamed c.args.names.now) c.args.script.now.routes.items c.loop-route.route-index c.route-item.result below is
          c.loop-route.invariant.named c.in_ok-print_route.ensures.name;
    }

pub loop-line-init : goal.loop-line-init
loop-line-init c =
    let all = take_all c.loop-route.route-index c.args.script.now.routes.items (rw c.as_slice-route-items.ensures.value at c.loop-route-test.false) in
    record {
      text = (rw all at c.loop-route.invariant.text)
          ∙ sym (append-nil (concat (map line_text (map (route_words c.args.names.now) c.args.script.now.routes.items))));
      named = rw all at c.loop-route.invariant.named;
    }

pub loop-line-preserved : goal.loop-line-preserved
loop-line-preserved c =
    let below = rw c.as_slice-line-items.ensures.value at c.loop-line-test.true in
    let is = rw c.as_slice-line-items.ensures.value at c.line-item.is in
    record {
      text = lines_more line_text line_words _ _ _ c.args.script.now.lines.items c.loop-line.line-index c.line-item.result
          below is c.loop-line.invariant.text c.in_ok-print_line.ensures;
      named = c.loop-line.invariant.named;
    }

pub returns : goal.returns
returns c =
    let over = rw c.as_slice-line-items.ensures.value at c.loop-line-test.false in
    let is = written c.args.names.now c.args.script.now c.loop-line.out c.loop-line.line-index over c.loop-line.invariant.text in
    record {
      text = is;
      again = λ kind once whole short. again_of kind c.args.names.now c.args.script.now c.loop-line.out c.requires c.loop-line.invariant.named once whole is
          short;
    }

pub print_route-requires : goal.print_route-requires
print_route-requires c =
    at_item (IsRoute c.args.names.now) route_view c.args.script.now.routes.items c.loop-route.route-index c.route-item.result c.requires.routes
    (rw c.as_slice-route-items.ensures.value at c.loop-route-test.true) (rw c.as_slice-route-items.ensures.value at c.route-item.is)

pub print_line-requires : goal.print_line-requires
print_line-requires c = at_item IsLine line_view c.args.script.now.lines.items c.loop-line.line-index c.line-item.result c.requires.lines
    (rw c.as_slice-line-items.ensures.value at c.loop-line-test.true) (rw c.as_slice-line-items.ensures.value at c.line-item.is)
