-- The routes and lines that were written so far.
use Rattle.op_script.proofs.Words.{◌≡◌, ◌++◌, take, map, concat, AllByRecursion, line_text, route_words, line_words}
use Rattle.op_script.proofs.PrintedScripts.{IsNamed}
use Rattle.op_script.proofs.printing.print_script.Given as goal

-- the routes so far are written
abbrev pub invariant-loop-route : goal.invariant-loop-route
invariant-loop-route l = record {
  text : l.out ≡ concat (map line_text (map (route_words l.names) (take l.route-index l.script.routes.items)));
  named : AllByRecursion (IsNamed l.names) (take l.route-index l.script.routes.items);
}

-- the routes are written, and the lines so far
abbrev pub invariant-loop-line : goal.invariant-loop-line
invariant-loop-line l = record {
  text : l.out ≡ concat (map line_text (map (route_words l.names) l.script.routes.items))
      ++ concat (map line_text (map line_words (take l.line-index l.script.lines.items)));
  named : AllByRecursion (IsNamed l.names) l.script.routes.items;
}
