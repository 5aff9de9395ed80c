-- The controller's step on a message of a run leads from a world of a run to one.
use Rattle.proof_outlines.proofs.Words.{ℕ, true, Option, Some, None, refl, arith, ◌==◌, Semantics, stored_of, Msg, switch_node, ControllerState, still}
use Rattle.proof_outlines.proofs.Words.{instance_at, on_final, each_map, node_step, by_if, FunctionLaws, MoveMsg}
use Rattle.ctrl_node.specs.Controller.{row}
use Rattle.proof_machines.proofs.unit.Real as real
use Rattle.proof_outlines.proofs.joined.Words.{outline_piece, IsChunk, enabled_row, piece_row, deleted_row, put_ok_row, restored_row, Given, place, Scene}
use Rattle.proof_outlines.proofs.joined.Words.{AreShown, IsTaken, Leads, IsGoodChunk, node_of}
use Rattle.proof_outlines.proofs.joined.ControllerScenes.{RowLeads, lead, stays}
use Rattle.proof_outlines.proofs.joined.ControllerTurns.{numbered_leads, put_no_leads, event_leads}
use Rattle.proof_outlines.proofs.joined.ControllerBegins.{CopiesNext}
use Rattle.proof_outlines.proofs.joined.ControllerAsked.{asked_leads}
use Rattle.proof_outlines.proofs.joined.ControllerCopies.{chunks_leads, all_chunk_leads, kept_leads}
use Rattle.proof_outlines.proofs.joined.ShareSteps.{fenced_leads, shared_leads, synced_leads, diverted_leads}

module _ {F R : Type 0} (f : Semantics R) (g : Given) (n : ℕ) (x : Scene F f g) (p : ℕ) (are : AreShown f g n x) where
  abbrev c : ControllerState
  c = x.nodes.controller

  abbrev IsTakenHere : Msg → Type 0
  IsTakenHere m = IsTaken f g n x (record { node = 1; port = p; message = m })

  end_leads : IsTakenHere Msg.End → RowLeads f g x p Msg.End (row c p Msg.End)
  end_leads is = by_if (RowLeads f g x p Msg.End) (p == switch_node)
      (stays f g n x p Msg.End are is (still (record c { end_came = true })) refl refl refl refl refl tt
      (record { arrived_is = refl; done_is = refl; installed_is = refl }) (λ a e. cc))
      (stays f g n x p Msg.End are is (still c) refl refl refl refl refl tt (record { arrived_is = refl; done_is = refl; installed_is = refl })
      (λ a e. cc))

  final_leads : IsTakenHere Msg.Final → (o : Option ℕ) → RowLeads f g x p Msg.Final (on_final c o)
  final_leads is None = stays f g n x p Msg.Final are is (on_final c None) refl refl refl refl refl tt
      (record { arrived_is = refl; done_is = refl; installed_is = refl }) (λ a e. cc)
  final_leads is (Some i) = stays f g n x p Msg.Final are is (on_final c (Some i)) refl refl refl refl refl tt
      (record { arrived_is = refl; done_is = refl; installed_is = refl }) (λ a e. cc)

  row_leads : (m : Msg) → IsTakenHere m → CopiesNext f g x m → RowLeads f g x p m (row c p m)
  row_leads (Msg.Asked command) is next = asked_leads f g n x p command are is next
  row_leads Msg.End is next = end_leads is
  row_leads Msg.Final is next = final_leads is (instance_at c p)
  row_leads (Msg.Event op cell) is next = event_leads f g n x p op cell are is
  row_leads (Msg.PutNo op refused) is next = put_no_leads f g n x p op refused are is
  row_leads (Msg.Enabled op) is next = numbered_leads f g n x p (Msg.Enabled op) are is op (MoveMsg.Enabled op) refl refl refl refl refl (λ s. refl)
      (λ mv h. enabled_row f (place g) mv.plan mv.phase (stored_of c.store op) p op)
  row_leads (Msg.Piece op piece) is next = numbered_leads f g n x p (Msg.Piece op piece) are is op (MoveMsg.Piece op (outline_piece f piece))
      refl refl refl refl refl (λ s. refl) (λ mv h. piece_row f (place g) mv.plan mv.phase (stored_of c.store op) p op piece
      (each_map {P = (IsGoodChunk f g)} {Q = (IsChunk f (place g))} (λ y k. k.chunk) piece.chunks is.label.1.good.each))
  row_leads (Msg.Deleted op) is next = numbered_leads f g n x p (Msg.Deleted op) are is op (MoveMsg.Deleted op) refl refl refl refl refl (λ s. refl)
      (λ mv h. deleted_row f (place g) mv.plan mv.phase (stored_of c.store op) p op)
  row_leads (Msg.PutOk op) is next = numbered_leads f g n x p (Msg.PutOk op) are is op (MoveMsg.Put_ok op) refl refl refl refl refl (λ s. refl)
      (λ mv h. put_ok_row f (place g) mv.plan mv.phase (stored_of c.store op) p op)
  row_leads (Msg.Restored op) is next = numbered_leads f g n x p (Msg.Restored op) are is op (MoveMsg.Restored op) refl refl refl refl refl (λ s. refl)
      (λ mv h. restored_row f (place g) mv.plan mv.phase (stored_of c.store op) p op)
  row_leads (Msg.Fenced op) is next = fenced_leads f g n x p are op is
  row_leads (Msg.Diverted cell) is next = diverted_leads f g n x p are cell is
  row_leads (Msg.Chunks op chunks) is next = chunks_leads f g n x p op are chunks is
  row_leads (Msg.AllChunk op chunk) is next = all_chunk_leads f g n x p op are chunk is
  row_leads (Msg.Kept op) is next = kept_leads f g n x p op are is
  row_leads (Msg.Shared op chunk) is next = shared_leads f g n x p are op chunk is
  row_leads (Msg.Synced op) is next = synced_leads f g n x p are op is
  row_leads m is next = let label = is.label in absurd (first_of (assumption, omega arith))

module _ {F R : Type 0} (f : Semantics R) (laws : FunctionLaws f) (g : Given) where
  pub controller_leads : (n : ℕ) (x : Scene F f g) (p : ℕ) (m : Msg) → AreShown f g n x → IsTaken f g n x (record { node = 1; port = p; message = m })
      → CopiesNext f g x m → Leads f g n x (record { node = 1; port = p; message = m }) (node_step f (node_of x.nodes 1) p m)
  controller_leads n x p m are is next = lead f g n x p m (row x.nodes.controller p m) are (row_leads f g n x p are m is next)
