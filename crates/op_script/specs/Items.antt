-- The input of a run: the packets in order, and each line of the script after the packet that it names.
-- This project's own order.
use Rattle.std.specs.Prelude.{◌≡◌, ℕ, ◌+◌, ◌≤◌, Bool, ◌==◌, nat_le, List, [], ◌∷◌, ◌++◌, map, filter}
use Rattle.flow_filter.specs.declared.packet.Packet.{Packet}
use Rattle.nf_msgs.specs.declared.msg.Msg.{Msg}
use Rattle.nf_msgs.specs.declared.msg.Msg.TheVariants.{InPacket, InCommand, InSettle, InEnd}
use Rattle.op_script.specs.declared.script.Line.{Line}
use Rattle.op_script.specs.declared.script.What.{What}
use Rattle.op_script.specs.declared.script.What.TheVariants.{Command, Settle}

-- the message of what happens
abbrev pub msg_of : What → Msg
msg_of (Command command) = InCommand command
msg_of Settle = InSettle

-- the messages of the lines at such points, in file order
abbrev pub said_where : (ℕ → Bool) → List Line → List Msg
said_where test lines = map (λ line. msg_of line.what) (filter (λ line. test line.at) lines)

-- what stands after k packets: the lines at k and the next packet in turn, and at the end the lines that are left
abbrev pub items_from : ℕ → List Packet → List Line → List Msg
items_from k [] lines = said_where (λ at. nat_le k at) lines
items_from k (packet ∷ more) lines = said_where (λ at. at == k) lines ++ InPacket packet ∷ items_from (k + 1) more lines

-- all that stands in the input
abbrev pub items : List Packet → List Line → List Msg
items packets lines = items_from 0 packets lines ++ InEnd ∷ []

-- the lines stand in the order of their points, from k on
abbrev pub IsFrom : ℕ → List Line → Type 0
IsFrom k [] = Unit {0}
IsFrom k (line ∷ more) = (k ≤ line.at) × IsFrom line.at more

-- lines in order, which say at each point from k on what the lines of a script say there
pub record AreLinesFrom (k : ℕ) (rest lines : List Line) : Type 0 where
  pub order : IsFrom k rest
  pub same : (point : ℕ) → k ≤ point → said_where (λ at. at == point) rest ≡ said_where (λ at. at == point) lines
