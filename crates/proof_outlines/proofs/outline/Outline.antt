-- The outlines of messages and instances, packets by their numbers and chunks by their records; and that the real function, filters
-- and tables have the laws of the abstract network.
use Rattle.proof_outlines.proofs.Words.{◌≡◌, ℕ, Bool, Option, Some, None, List, [], ◌∷◌, map, refl, ap, ◌∙◌, if◌then◌else◌, ◌&&◌, ◌+◌, max, nat_lt, option_map}
use Rattle.proof_outlines.proofs.Words.{filter_map, Filter, Packet, Site, meets, Chunk, unit_cmp, units_total, newest, Semantics, unit_at, version_number}
use Rattle.proof_outlines.proofs.Words.{Records, same_unit, spelled, same_unit_equiv, Action, FullCell, Target, Answer, Order, Piece, Msg, Note, instance_node}
use Rattle.proof_outlines.proofs.Words.{Instance, Chunks, MovePiece, live_table, Sys, IsSys, Ruling, Room, MoveAsked, NumberedInstance, everything, Unit, Mark}
use Rattle.proof_outlines.proofs.Words.{EventRule, MoveMsg}
use Rattle.std.specs.FinMap as finite
use Rattle.proof_machines.proofs.unit.Machine as machine
use Rattle.proof_machines.proofs.unit.Real as real
use Rattle.proof_machines.proofs.unit.RecordTables.{live_laws}
use Rattle.proof_machines.proofs.net.Net as net
use Rattle.proof_outlines.proofs.outline.FiltersApart.{takes_whole, filters_apart}

-- a cell by its packet's number
abbrev pub number : FullCell → ℕ
number cell = cell.packet.number

abbrev pub rule_of : Action → machine.Rule
rule_of Action.Process = machine.Free
rule_of Action.Buffer = machine.Buffers
rule_of Action.Drop = machine.Drops

abbrev pub outline_rule : EventRule FullCell → Ruling
outline_rule r = record { num = r.op; filter = r.filter; rule = rule_of r.action; held = map number r.held }

-- two places that are both there
abbrev pub want_at : ℕ → Filter → Bool → Option ℕ → Option ℕ → Option MoveAsked
want_at op filter keep (Some from) (Some to) = Some (record { num = op; src = instance_node from; dst = instance_node to; keep = keep; filter = filter })
want_at op filter keep from to = None

-- what a command asks for, by the places of instances' names
abbrev pub want_of : (List ℕ → Option ℕ) → ℕ → Order → Option MoveAsked
want_of place op (Order.Move src dst filter keep) = want_at op filter keep (place src) (place dst)
want_of place op what = None

module _ {R : Type 0} (f : Semantics R) where
  -- chunks by the records that they spell
  abbrev pub entries : List Chunk → Chunks R
  entries chunks = filter_map (spelled f) chunks

  -- the highest version of these records, and at least 1
  abbrev pub newest_in : Chunks R → ℕ
  newest_in [] = 1
  newest_in (c ∷ cs) = max (version_number (f.is_timed c.1)) (newest_in cs)

  abbrev pub outline_piece : Piece → MovePiece R
  outline_piece p = record { chunks = entries p.chunks; total = p.total; newest = p.newest; last = p.last }

  -- a change of the rules between two instances
  abbrev pub outline_install : ℕ → Filter → ℕ → Target → Option (net.Msg R)
  outline_install op filter from (Target.Instance to) = Some (net.Of_move filter (MoveMsg.Install op (instance_node from) (instance_node to)))
  outline_install op filter from Target.Controller = None

  -- a message; nothing of those that no move looks at
  abbrev pub outline : (List ℕ → Option ℕ) → Msg → Option (net.Msg R)
  outline place (Msg.Asked c) = option_map net.Asked (want_of place c.op c.what)
  outline place (Msg.Carry Mark.Plain cell) = Some (net.Carry_on (number cell))
  outline place (Msg.Carry (Mark.Pass op) cell) = Some (net.Pass_on (number cell))
  outline place (Msg.Fence op) = Some (net.Fence_on op)
  outline place (Msg.Forward to mark cell) = Some (net.Of_move everything (MoveMsg.Forward (number cell) (instance_node to)))
  outline place (Msg.Install op filter from to) = outline_install op filter from to
  outline place (Msg.FenceTo op to) = Some (net.Of_move everything (MoveMsg.Fence_to op (instance_node to)))
  outline place (Msg.Enable op filter action) = Some (net.Of_move filter (MoveMsg.Enable op (rule_of action)))
  outline place (Msg.Stream op filter) = Some (net.Of_move filter (MoveMsg.Stream op))
  outline place (Msg.Delete op gone) = Some (net.Of_move everything (MoveMsg.Delete op gone))
  outline place (Msg.Put op piece first) = Some (net.Of_move everything (MoveMsg.Put op (outline_piece piece) first))
  outline place (Msg.Restore op chunks) = Some (net.Of_move everything (MoveMsg.Restore op (entries chunks)))
  outline place (Msg.Enabled op) = Some (net.Of_move everything (MoveMsg.Enabled op))
  outline place (Msg.Event op cell) = Some (net.Of_move everything (MoveMsg.Event op (number cell)))
  outline place (Msg.Piece op piece) = Some (net.Of_move everything (MoveMsg.Piece op (outline_piece piece)))
  outline place (Msg.Deleted op) = Some (net.Of_move everything (MoveMsg.Deleted op))
  outline place (Msg.PutOk op) = Some (net.Of_move everything (MoveMsg.Put_ok op))
  outline place (Msg.PutNo op refused) = Some (net.Of_move everything (MoveMsg.Put_no op refused.why (entries refused.chunks)))
  outline place (Msg.Restored op) = Some (net.Of_move everything (MoveMsg.Restored op))
  outline place (Msg.Fenced op) = Some (net.Of_move everything (MoveMsg.Fenced op))
  outline place message = None

  -- what is sent, each with its receiver
  abbrev pub outline_sent : (List ℕ → Option ℕ) → ℕ × Msg → Option (ℕ × net.Msg R)
  outline_sent place sent = option_map (λ m. (sent.0, m)) (outline place sent.1)

  abbrev pub outline_sends : (List ℕ → Option ℕ) → List (ℕ × Msg) → List (ℕ × net.Msg R)
  outline_sends place sends = filter_map (outline_sent place) sends

-- the number of a packet that was processed
abbrev pub ran_in : Note → Option ℕ
ran_in (Note.Processed number instance output) = Some number
ran_in n = None

module _ {R : Type 0} (f : Semantics R) (site : Site) (packet : ℕ → Packet) where
  -- why a piece that is put first is refused, if it is
  abbrev pub refuses : Room → Records R → MovePiece R → Option Answer
  refuses room t p =
      if nat_lt room.limit (finite.len t + p.total) then Some (Answer.Import (finite.len t) p.total room.limit)
      else if room.marked && nat_lt 1 p.newest then Some (Answer.Old p.newest 1)
      else None

  -- the network that the proof of moves is about
  abbrev pub sys : Sys R
  sys = record {
    F = record { step = λ o p. (f.stepped site o (packet p)).kept; newer = λ coming held. newest f held coming };
    B = live_table f;
    packet_unit = λ p. unit_at f.kind site (packet p);
    takes = takes_whole f.kind;
    meets = meets;
    newest = newest_in f;
    refuse = refuses;
    write = λ u r t. finite.insert t u r;
    empty = finite.empty;
  }

  written : (u v : Unit) (r : R) (t : Records R) → finite.get (finite.insert t v r) u ≡ (if same_unit v u then Some r else finite.get t u)
  written u v r t = finite.get-insert units_total t v r u ∙ ap (λ b. if b then Some r else finite.get t u) (same_unit_equiv.symm u v)

  pub is_sys : IsSys sys
  is_sys = record {
    laws = live_laws sys.F f (λ coming held. refl);
    written = written;
    nothing = λ u. finite.get-empty unit_cmp u;
    apart = filters_apart f.kind;
  }

module _ {F R : Type 0} (f : Semantics R) (site : Site) (packet : ℕ → Packet) where
  abbrev pub outline_instance : Instance F R → NumberedInstance (sys f site packet)
  outline_instance i = record { live = i.table.live; rules = map outline_rule i.rules; room = record { limit = i.limit; marked = i.marked } }
