-- How many packets stand before each command in the input of a run: as many as its line names, or all where there are fewer.
use Rattle.network_calls.proofs.Words.{◌≡◌, ℕ, ◌+◌, ◌≤◌, Bool, true, false, List, [], ◌∷◌, ◌++◌, map, length, Ok, refl, sym, ap, ◌∙◌, arith, filter_map}
use Rattle.network_calls.proofs.Words.{if◌then◌else◌, option_map, cons_option, nat_tests, Packet, Msg, Line, What, Command, Settle, items, script_view}
use Rattle.network_calls.proofs.Words.{in_order, NetworkAsked, Scenario, given_script, command_said}
use Rattle.std.proofs.Common.{min, filter, append-nil, eqb, leb}
use Rattle.std.proofs.lemmas.List.{append_assoc}
use Rattle.nf_msgs.specs.declared.msg.Msg.TheVariants.{InPacket, InEnd}
use Rattle.op_script.specs.Items.{IsFrom, items_from, msg_of, said_where}
use Rattle.call_files.specs.run_input.proofs.SaidCommands.{from, from_start, here, here_and_behind}
use Rattle.run_headline.specs.Law.{points_of}
use Rattle.network_calls.proofs.ScriptedCommands.{given_follows}

-- a number for each command of some lines, in their order
abbrev with_point : What → ℕ → List ℕ → List ℕ
with_point (Command command) n ns = n ∷ ns
with_point Settle n ns = ns

abbrev line_points : (ℕ → ℕ) → List Line → List ℕ
line_points number [] = []
line_points number (line ∷ more) = with_point line.what (number line.at) (line_points number more)

with_more : (w : What) (n : ℕ) (ns ms : List ℕ) → with_point w n ns ++ ms ≡ with_point w n (ns ++ ms)
with_more (Command command) n ns ms = refl
with_more Settle n ns ms = refl

points-append : (number : ℕ → ℕ) (a b : List Line) → line_points number (a ++ b) ≡ line_points number a ++ line_points number b
points-append number [] b = refl
points-append number (line ∷ a) b =
    ap (with_point line.what (number line.at)) (points-append number a b)
    ∙ sym (with_more line.what (number line.at) (line_points number a) (line_points number b))

-- What lines say stands behind as many packets as what comes after.
point_said : (w : What) (k : ℕ) (rest : List Msg) → points_of k (msg_of w ∷ rest) ≡ with_point w k (points_of k rest)
point_said (Command command) k rest = refl
point_said Settle k rest = refl

points_said : (test : ℕ → Bool) (lines : List Line) (k : ℕ) (rest : List Msg)
    → points_of k (said_where test lines ++ rest) ≡ line_points (λ at. k) (filter (λ (l : Line). test l.at) lines) ++ points_of k rest
points_said test [] k rest = refl
points_said test (line ∷ more) k rest = elim (test line.at) as (λ b.
    points_of k (map (λ (l : Line). msg_of l.what) (if b then line ∷ filter (λ (l : Line). test l.at) more else filter (λ (l : Line). test l.at) more) ++ rest)
    ≡ line_points (λ at. k) (if b then line ∷ filter (λ (l : Line). test l.at) more else filter (λ (l : Line). test l.at) more) ++ points_of k rest) [
      | true ↦
          point_said line.what k (said_where test more ++ rest)
          ∙ ap (with_point line.what k) (points_said test more k rest)
          ∙ sym (with_more line.what k (line_points (λ at. k) (filter (λ (l : Line). test l.at) more)) (points_of k rest))
      | false ↦ points_said test more k rest
    ]

-- Of lines at a point, and of lines from the last point on, that number is the least of their point and the number of packets.
points_here : (k n : ℕ) → k ≤ n → (lines : List Line) → line_points (λ at. k) (here k lines) ≡ line_points (λ at. min at n) (here k lines)
points_here k n few [] = refl
points_here k n few (line ∷ more) = elim (eqb line.at k) as (λ b. eqb line.at k ≡ b
    → line_points (λ at. k) (if b then line ∷ here k more else here k more) ≡ line_points (λ at. min at n) (if b then line ∷ here k more else here k more)) [
      | true ↦ λ at.
          let least : k ≡ min line.at n = grind (arith, nat_tests, at, few) in
          λ i. with_point line.what (least i) (points_here k n few more i)
      | false ↦ λ off. points_here k n few more
    ] refl

points_behind : (k : ℕ) (lines : List Line) → line_points (λ at. k) (from k lines) ≡ line_points (λ at. min at k) (from k lines)
points_behind k [] = refl
points_behind k (line ∷ more) = elim (leb k line.at) as (λ b. leb k line.at ≡ b
    → line_points (λ at. k) (if b then line ∷ from k more else from k more) ≡ line_points (λ at. min at k) (if b then line ∷ from k more else from k more)) [
      | true ↦ λ far.
          let least : k ≡ min line.at k = grind (arith, nat_tests, far) in
          λ i. with_point line.what (least i) (points_behind k more i)
      | false ↦ λ near. points_behind k more
    ] refl

points_from : (j k n : ℕ) (ps : List Packet) (lines : List Line) → n ≡ k + length ps → IsFrom j lines
    → points_of k (items_from k ps lines ++ InEnd ∷ []) ≡ line_points (λ at. min at n) (from k lines)
points_from j k n [] lines count order =
    let same : k ≡ n = omega (arith, count) in
    points_said (λ at. leb k at) lines k (InEnd ∷ []) ∙ append-nil (line_points (λ at. k) (from k lines)) ∙ points_behind k lines
    ∙ ap (λ m. line_points (λ at. min at m) (from k lines)) same
points_from j k n (p ∷ ps) lines count order =
    let few : k ≤ n = omega (arith, count) in
    let rest : n ≡ (k + 1) + length ps = omega (arith, count) in
    ap (points_of k) (append_assoc (said_where (λ at. eqb at k) lines) (InPacket p ∷ items_from (k + 1) ps lines) (InEnd ∷ []))
    ∙ points_said (λ at. eqb at k) lines k (InPacket p ∷ (items_from (k + 1) ps lines ++ InEnd ∷ []))
    ∙ ap (λ ns. line_points (λ at. k) (here k lines) ++ ns) (points_from j (k + 1) n ps lines rest order)
    ∙ ap (λ ns. ns ++ line_points (λ at. min at n) (from (k + 1) lines)) (points_here k n few lines)
    ∙ sym (points-append (λ at. min at n) (here k lines) (from (k + 1) lines))
    ∙ ap (line_points (λ at. min at n)) (here_and_behind j k lines order)

-- the numbers of lines, one by one
line_points_are : (number : ℕ → ℕ) (lines : List Line)
    → line_points number lines ≡ filter_map (λ (line : Line). option_map (λ c. number line.at) (command_said line.what)) lines
line_points_are number [] = refl
line_points_are number (line ∷ more) =
    with_first line.what (number line.at) (line_points number more)
    (filter_map (λ (line : Line). option_map (λ c. number line.at) (command_said line.what)) more) (line_points_are number more)
  where
    with_first : (w : What) (n : ℕ) (ns ms : List ℕ) → ns ≡ ms → with_point w n ns ≡ cons_option (option_map (λ c. n) (command_said w)) ms
    with_first (Command command) n ns ms h = ap (λ (l : List ℕ). n ∷ l) h
    with_first Settle n ns ms h = h

pub scripted_points : (s : NetworkAsked) (bytes : List ℕ) (g : Scenario) → given_script s bytes ≡ Ok (script_view g.script)
    → points_of 0 (items g.captured.packets g.script.lines.items)
    ≡ filter_map (λ (line : Line). option_map (λ c. min line.at (length g.captured.packets)) (command_said line.what)) g.script.lines.items
scripted_points s bytes g h =
    let order = in_order 0 1 g.script.lines.items (given_follows s bytes (script_view g.script) h) in
    let count = length g.captured.packets in
    points_from 0 0 count g.captured.packets g.script.lines.items (omega arith) order
    ∙ ap (line_points (λ at. min at count)) (from_start g.script.lines.items)
    ∙ line_points_are (λ at. min at count) g.script.lines.items
