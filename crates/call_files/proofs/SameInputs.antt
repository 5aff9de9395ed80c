-- The same bytes give a run the same: the site, the capture, the routes and the lines.
use Rattle.std.proofs.Common.{◌≡◌, ◌<◌, ◌^◌, ℕ, Option, Some, None, List, [], ◌∷◌, map, Ok, refl, ap, sym, ◌∙◌, subst}
use Rattle.std.specs.Prelude.{option_map}
use Rattle.std.specs.Option.{ForSome}
use Rattle.std.proofs.Props.{props}
use Rattle.flow_filter.specs.declared.filter.Filter.{Filter}
use Rattle.flow_filter.specs.declared.prefix.Prefix.{Prefix}
use Rattle.flow_filter.specs.Filter.{IsFilter}
use Rattle.flow_filter.specs.FilterText.{fields_of}
use Rattle.flow_filter.specs.Reading.{prefix_numbers}
use Rattle.nf_io.specs.declared.outside.Role.{Role}
use Rattle.nf_io.specs.declared.outside.Role.TheVariants.{Trace, Script}
use Rattle.nf_msgs.specs.declared.command.Command.{Command}
use Rattle.nf_msgs.specs.declared.command.Order.{Order}
use Rattle.nf_msgs.specs.declared.command.Order.TheVariants.{Move, Copy, Share}
use Rattle.trace_reader.specs.Records.{capture_of}
use Rattle.op_script.specs.declared.script.Line.{Line}
use Rattle.op_script.specs.declared.script.What.{What}
use Rattle.op_script.specs.declared.script.What.TheVariants as what
use Rattle.op_script.specs.LineFilters.{what_filter}
use Rattle.op_script.specs.Reading.{OrderView, line_view, order_view, script_view, what_view}
use Rattle.op_script.specs.ReadingSteps.{route_view}
use Rattle.command_words.specs.Requests.{NetworkAsked}
use Rattle.call_files.specs.Scenarios.{Scenario, given_script, IsScenario}
use Rattle.call_files.proofs.SameSites.{same_prefix, same_site}

-- lists that are seen the same are the same, where their elements are
map_same : {A B : Type 0} (f : A → B) → ((x y : A) → f x ≡ f y → x ≡ y) → (xs ys : List A) → map f xs ≡ map f ys → xs ≡ ys
map_same f each [] [] e = refl
map_same f each [] (y ∷ ys) e = cc
map_same f each (x ∷ xs) [] e = cc
map_same f each (x ∷ xs) (y ∷ ys) e =
    let first : f x ≡ f y = cc in
    let more : map f xs ≡ map f ys = cc in
    rw (each x y first, map_same f each xs ys more) refl

option_same : {A B : Type 0} (f : A → B) → ((x y : A) → f x ≡ f y → x ≡ y) → (a b : Option A) → option_map f a ≡ option_map f b → a ≡ b
option_same f each None None e = refl
option_same f each None (Some y) e = cc
option_same f each (Some x) None e = cc
option_same f each (Some x) (Some y) e = let is : f x ≡ f y = cc in ap Some (each x y is)

-- Filters are seen as their fields.
seen_prefix : (p q : Prefix) → prefix_numbers p ≡ prefix_numbers q → p ≡ q
seen_prefix p q e = same_prefix p q (ap (λ n. n.0) e) (ap (λ n. n.1) e)

same_filter : (p q : Filter) → fields_of p ≡ fields_of q → p ≡ q
same_filter p q e =
    let proto : p.proto ≡ q.proto = ap (λ n. n.proto) e in
    let local : p.local ≡ q.local = option_same prefix_numbers seen_prefix p.local q.local (ap (λ n. n.local) e) in
    let lport : p.lport ≡ q.lport = ap (λ n. n.lport) e in
    let remote : p.remote ≡ q.remote = option_same prefix_numbers seen_prefix p.remote q.remote (ap (λ n. n.remote) e) in
    let rport : p.rport ≡ q.rport = ap (λ n. n.rport) e in
    subst (λ x. p ≡ record { proto = x; local = q.local; lport = q.lport; remote = q.remote; rport = q.rport }) proto
    (subst (λ x. p ≡ record { proto = p.proto; local = x; lport = q.lport; remote = q.remote; rport = q.rport }) local
    (subst (λ x. p ≡ record { proto = p.proto; local = p.local; lport = x; remote = q.remote; rport = q.rport }) lport
    (subst (λ x. p ≡ record { proto = p.proto; local = p.local; lport = p.lport; remote = x; rport = q.rport }) remote
    (subst (λ x. p ≡ record { proto = p.proto; local = p.local; lport = p.lport; remote = p.remote; rport = x }) rport refl))))

-- So are the lines.
same_order : (a b : Order) → order_view a ≡ order_view b → a ≡ b
same_order (Move s t p k) (Move s2 t2 p2 k2) e =
    let src : s ≡ s2 = cc in
    let dst : t ≡ t2 = cc in
    let filter : fields_of p ≡ fields_of p2 = cc in
    let keep : k ≡ k2 = cc in
    rw (src, dst, same_filter p p2 filter, keep) refl
same_order (Copy s t p) (Copy s2 t2 p2) e =
    let src : s ≡ s2 = cc in
    let dst : t ≡ t2 = cc in
    let filter : option_map fields_of p ≡ option_map fields_of p2 = cc in
    rw (src, dst, option_same fields_of same_filter p p2 filter) refl
same_order (Share m p) (Share m2 p2) e =
    let members : m ≡ m2 = cc in
    let filter : fields_of p ≡ fields_of p2 = cc in
    rw (members, same_filter p p2 filter) refl
same_order x x2 e = cc

same_command : (a b : Command) → a.op ≡ b.op → a.what ≡ b.what → a ≡ b
same_command a b op what = subst (λ x. a ≡ record { op = x; what = b.what }) op (subst (λ x. a ≡ record { op = a.op; what = x }) what refl)

same_what : (a b : What) → what_view a ≡ what_view b → a ≡ b
same_what what.Settle what.Settle e = refl
same_what (what.Command c) (what.Command d) e =
    let both : ◌≡◌ {A = ℕ × OrderView} (c.op, order_view c.what) (d.op, order_view d.what) = cc in
    let op : c.op ≡ d.op = ap (λ x. x.0) both in
    let seen : order_view c.what ≡ order_view d.what = ap (λ x. x.1) both in
    ap what.Command (same_command c d op (same_order c.what d.what seen))
same_what what.Settle (what.Command d) e = cc
same_what (what.Command c) what.Settle e = cc

-- what a line keeps of its numbers is no part of which line it is
small_prop : (at : ℕ) → IsProp (at < 2 ^ 32)
small_prop at = hlevel props

range_prop : (w : What) → IsProp (ForSome (what_filter w) IsFilter)
range_prop w = hlevel props

abbrev IsLineOf : Line → ℕ → What → Type 0
IsLineOf l at w = (small : at < 2 ^ 32) (range : ForSome (what_filter w) IsFilter)
    → l ≡ record { at = at; what = w; at_in_range = small; filter_in_range = range }

with_parts : (l : Line) (at : ℕ) (w : What) → l.at ≡ at → l.what ≡ w → IsLineOf l at w
with_parts l at w e f = subst (λ n. IsLineOf l n w) e (subst (λ v. IsLineOf l l.at v) f (λ small range.
    subst (λ x. l ≡ record { at = l.at; what = l.what; at_in_range = x; filter_in_range = range }) (small_prop l.at l.at_in_range small)
    (subst (λ y. l ≡ record { at = l.at; what = l.what; at_in_range = l.at_in_range; filter_in_range = y }) (range_prop l.what l.filter_in_range range) refl)))

same_line : (a b : Line) → line_view a ≡ line_view b → a ≡ b
same_line a b e = with_parts a b.at b.what (ap (λ l. l.at) e) (same_what a.what b.what (ap (λ l. l.what) e)) b.at_in_range b.filter_in_range

same_route : (a b : Filter × ℕ) → route_view a ≡ route_view b → a ≡ b
same_route a b e =
    let filter : a.0 ≡ b.0 = same_filter a.0 b.0 (ap (λ r. r.0) e) in
    let place : a.1 ≡ b.1 = ap (λ r. r.1) e in
    subst (λ x. a ≡ (x, b.1)) filter (subst (λ x. a ≡ (a.0, x)) place refl)

-- what two runs are given, as far as they look at it
pub record AreSame (g h : Scenario) : Type 0 where
  pub site : g.site ≡ h.site
  pub captured : g.captured ≡ h.captured
  pub routes : g.script.routes.items ≡ h.script.routes.items
  pub lines : g.script.lines.items ≡ h.script.lines.items

pub same_scenario : (s : NetworkAsked) (bytes again : Role → List ℕ) (g h : Scenario) → IsScenario s bytes g → IsScenario s again h
    → again Trace ≡ bytes Trace → again Script ≡ bytes Script → AreSame g h
same_scenario s bytes again g h x y trace script =
    let read : Ok g.captured ≡ Ok h.captured = sym x.read ∙ ap capture_of (sym trace) ∙ y.read in
    let said : Ok (script_view g.script) ≡ Ok (script_view h.script) = sym x.said ∙ ap (given_script s) (sym script) ∙ y.said in
    let seen : script_view g.script ≡ script_view h.script = cc in
    record {
      site = (let inside = x.inside ∙ sym y.inside in
          same_site g.site h.site (same_prefix g.site.inside h.site.inside (ap (λ p. p.0) inside) (ap (λ p. p.1) inside)) (x.outside ∙ sym y.outside));
      captured = cc;
      routes = map_same route_view same_route g.script.routes.items h.script.routes.items (ap (λ v. v.0) seen);
      lines = map_same line_view same_line g.script.lines.items h.script.lines.items (ap (λ v. v.1) seen);
    }
