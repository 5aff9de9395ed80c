-- What stands in the input of a run: the packets of the trace, and the commands of the script in file order.
use Rattle.std.proofs.Common.{◌≡◌, ℕ, ◌+◌, ◌<◌, ◌≤◌, true, false, List, [], ◌∷◌, ◌++◌, map, filter, eqb, leb, refl, sym, ap, ◌∙◌, arith}
use Rattle.std.specs.Prelude.{All}
use Rattle.std.proofs.lemmas.Bool.Decides.{nat_tests}
use Rattle.std.proofs.lemmas.List.{append_assoc}
use Rattle.std.proofs.lemmas.List.Elements.{All-cons, All-nil, All-append}
use Rattle.flow_filter.specs.declared.packet.Packet.{Packet}
use Rattle.nf_msgs.specs.declared.command.Command.{Command}
use Rattle.nf_msgs.specs.declared.msg.Msg.{Msg}
use Rattle.nf_msgs.specs.declared.msg.Msg.TheVariants.{InPacket, InEnd}
use Rattle.op_script.specs.declared.script.Line.{Line}
use Rattle.op_script.specs.declared.script.What.{What}
use Rattle.op_script.specs.declared.script.What.TheVariants as what
use Rattle.op_script.specs.Items.{msg_of, said_where, items_from, items, IsFrom}
use Rattle.net_world.specs.Input.{is_item, packets, commands, ends_last}

-- what holds of a command and of a settle holds of what any line says
pub by_what : (P : What → Type 0) → ((command : Command) → P (what.Command command)) → P what.Settle → (w : What) → P w
by_what P command settle (what.Command c) = command c
by_what P command settle what.Settle = settle

-- what is read of lines, given what is read of all that stands after them
abbrev pub read_lines : {X : Type 0} → (What → X → X) → List Line → X → X
read_lines step [] x = x
read_lines step (line ∷ more) x = step line.what (read_lines step more x)

read_lines-append : {X : Type 0} (step : What → X → X) (a b : List Line) (x : X) → read_lines step (a ++ b) x ≡ read_lines step a (read_lines step b x)
read_lines-append step [] b x = refl
read_lines-append step (line ∷ a) b x = ap (step line.what) (read_lines-append step a b x)

read_lines-same : {X : Type 0} (lines : List Line) (x : X) → read_lines (λ w y. y) lines x ≡ x
read_lines-same [] x = refl
read_lines-same (line ∷ more) x = read_lines-same more x

-- the commands of lines, in file order
abbrev pub with_command : What → List Command → List Command
with_command (what.Command command) cs = command ∷ cs
with_command what.Settle cs = cs

abbrev pub line_commands : List Line → List Command
line_commands lines = read_lines with_command lines []

-- The lines at a point and those behind it.
abbrev pub here : ℕ → List Line → List Line
here k lines = filter (λ (l : Line). eqb l.at k) lines

abbrev pub from : ℕ → List Line → List Line
from k lines = filter (λ (l : Line). leb k l.at) lines

none_here : (j k : ℕ) (lines : List Line) → IsFrom j lines → k < j → here k lines ≡ []
none_here j k [] order below = refl
none_here j k (line ∷ more) order below =
    let first : j ≤ line.at = order.0 in
    let other : eqb line.at k ≡ false = grind (arith, nat_tests, first, below) in
    rw other (none_here line.at k more order.1 (omega (arith, first, below)))

pub here_and_behind : (j k : ℕ) (lines : List Line) → IsFrom j lines → here k lines ++ from (k + 1) lines ≡ from k lines
here_and_behind j k [] order = refl
here_and_behind j k (line ∷ more) order =
    elim (leb k line.at) as (λ b. leb k line.at ≡ b → here k (line ∷ more) ++ from (k + 1) (line ∷ more) ≡ from k (line ∷ more)) [
      | false ↦ λ no.
          let at : eqb line.at k ≡ false = grind (arith, nat_tests, no) in
          let far : leb (k + 1) line.at ≡ false = grind (arith, nat_tests, no) in
          rw (at, far, no) (here_and_behind line.at k more order.1)
      | true ↦ λ yes. elim (eqb line.at k) as (λ b. eqb line.at k ≡ b → here k (line ∷ more) ++ from (k + 1) (line ∷ more) ≡ from k (line ∷ more)) [
        | true ↦ λ at.
            let far : leb (k + 1) line.at ≡ false = grind (arith, nat_tests, at) in
            rw (at, far, yes) (ap (λ ls. line ∷ ls) (here_and_behind line.at k more order.1))
        | false ↦ λ off.
            let far : leb (k + 1) line.at ≡ true = grind (arith, nat_tests, yes, off) in
            let above : k < line.at = grind (arith, nat_tests, yes, off) in
            let none = none_here line.at k more order.1 above in
            rw (off, far, yes, none) (ap (λ ls. line ∷ ls) (ap (λ ls. ls ++ from (k + 1) more) (sym none) ∙ here_and_behind line.at k more order.1))
      ] refl
    ] refl

pub from_start : (lines : List Line) → from 0 lines ≡ lines
from_start [] = refl
from_start (line ∷ more) = let all : leb 0 line.at ≡ true = grind (arith, nat_tests) in rw all (ap (λ ls. line ∷ ls) (from_start more))

-- what is read of an input, where a line adds what it says to what is read of the rest
module _ {X : Type 0} (read : List Msg → X) (step : What → X → X) (says : (w : What) (rest : List Msg) → read (msg_of w ∷ rest) ≡ step w (read rest)) where
  said : (lines : List Line) (rest : List Msg) → read (map (λ (l : Line). msg_of l.what) lines ++ rest) ≡ read_lines step lines (read rest)
  said [] rest = refl
  said (line ∷ more) rest = says line.what (map (λ (l : Line). msg_of l.what) more ++ rest) ∙ ap (step line.what) (said more rest)

  -- where packets add nothing, it is what is read of the lines, which stand in the order of their points
  pub read_from : ((p : Packet) (rest : List Msg) → read (InPacket p ∷ rest) ≡ read rest) → (j k : ℕ) (ps : List Packet) (lines : List Line) → IsFrom j lines
      → read (items_from k ps lines ++ InEnd ∷ []) ≡ read_lines step (from k lines) (read (InEnd ∷ []))
  read_from passes j k [] lines order = said (from k lines) (InEnd ∷ [])
  read_from passes j k (p ∷ ps) lines order =
      ap read (append_assoc (said_where (λ at. eqb at k) lines) (InPacket p ∷ items_from (k + 1) ps lines) (InEnd ∷ []))
      ∙ said (here k lines) (InPacket p ∷ (items_from (k + 1) ps lines ++ InEnd ∷ []))
      ∙ ap (read_lines step (here k lines)) (passes p _ ∙ read_from passes j (k + 1) ps lines order)
      ∙ sym (read_lines-append step (here k lines) (from (k + 1) lines) (read (InEnd ∷ [])))
      ∙ ap (λ ls. read_lines step ls (read (InEnd ∷ []))) (here_and_behind j k lines order)

-- what is read of an input, where a line adds nothing
module _ {X : Type 0} (read : List Msg → X) (of : List Packet → X) (free : (w : What) (rest : List Msg) → read (msg_of w ∷ rest) ≡ read rest)
    (last : read (InEnd ∷ []) ≡ of [])
    (more : (p : Packet) (ps : List Packet) (rest : List Msg) → read rest ≡ of ps → read (InPacket p ∷ rest) ≡ of (p ∷ ps)) where
  passed : (lines : List Line) (rest : List Msg) → read (map (λ (l : Line). msg_of l.what) lines ++ rest) ≡ read rest
  passed lines rest = said read (λ w x. x) free lines rest ∙ read_lines-same lines (read rest)

  pub read_all : (k : ℕ) (ps : List Packet) (lines : List Line) → read (items_from k ps lines ++ InEnd ∷ []) ≡ of ps
  read_all k [] lines = passed (from k lines) (InEnd ∷ []) ∙ last
  read_all k (p ∷ ps) lines =
      ap read (append_assoc (said_where (λ at. eqb at k) lines) (InPacket p ∷ items_from (k + 1) ps lines) (InEnd ∷ []))
      ∙ passed (here k lines) (InPacket p ∷ (items_from (k + 1) ps lines ++ InEnd ∷ []))
      ∙ more p ps (items_from (k + 1) ps lines ++ InEnd ∷ []) (read_all (k + 1) ps lines)

-- its packets are those of the trace
pub packets_in : (ps : List Packet) (lines : List Line) → packets (items ps lines) ≡ ps
packets_in = read_all packets (λ ps. ps)
    (by_what (λ w. (rest : List Msg) → packets (msg_of w ∷ rest) ≡ packets rest) (λ command rest. refl) (λ rest. refl))
    refl (λ p ps rest h. ap (λ ps. p ∷ ps) h) 0

-- lines don't end the input, and nothing stands behind its end
pub end_is_last : (ps : List Packet) (lines : List Line) → ends_last (items ps lines) ≡ true
end_is_last = read_all ends_last (λ ps. true)
    (by_what (λ w. (rest : List Msg) → ends_last (msg_of w ∷ rest) ≡ ends_last rest) (λ command rest. refl) (λ rest. refl))
    refl (λ p ps rest h. h) 0

-- its commands are those of the lines, where these stand in the order of their points
pub commands_in : (ps : List Packet) (lines : List Line) → IsFrom 0 lines → commands (items ps lines) ≡ line_commands lines
commands_in ps lines order = read_from commands with_command
    (by_what (λ w. (rest : List Msg) → commands (msg_of w ∷ rest) ≡ with_command w (commands rest)) (λ command rest. refl) (λ rest. refl))
    (λ p rest. refl) 0 0 ps lines order ∙ ap line_commands (from_start lines)

-- what lines say may stand in an input
items_said : (lines : List Line) → All (λ item. is_item item ≡ true) (map (λ (l : Line). msg_of l.what) lines)
items_said [] = All-nil (λ item. is_item item ≡ true)
items_said (line ∷ more) = All-cons (λ item. is_item item ≡ true) (msg_of line.what) (map (λ (l : Line). msg_of l.what) more)
    (by_what (λ w. is_item (msg_of w) ≡ true) (λ command. refl) refl line.what) (items_said more)

items_after : (k : ℕ) (ps : List Packet) (lines : List Line) → All (λ item. is_item item ≡ true) (items_from k ps lines)
items_after k [] lines = items_said (from k lines)
items_after k (p ∷ ps) lines =
    All-append (λ item. is_item item ≡ true) (said_where (λ at. eqb at k) lines) (InPacket p ∷ items_from (k + 1) ps lines) (items_said (here k lines))
    (All-cons (λ item. is_item item ≡ true) (InPacket p) (items_from (k + 1) ps lines) refl (items_after (k + 1) ps lines))

-- only items stand in the input
pub only_items : (ps : List Packet) (lines : List Line) → All (λ item. is_item item ≡ true) (items ps lines)
only_items ps lines = All-append (λ item. is_item item ≡ true) (items_from 0 ps lines) (InEnd ∷ []) (items_after 0 ps lines)
    (All-cons (λ item. is_item item ≡ true) InEnd [] refl (All-nil (λ item. is_item item ≡ true)))
