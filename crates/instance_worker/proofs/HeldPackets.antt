-- What is left to process after one more packet.
use Rattle.std.proofs.Common.{◌≡◌, ℕ, List, [], ◌∷◌, ◌++◌, drop, sym, ◌∙◌, append_assoc, append-nil}
use Rattle.basics.proofs.ListLemmas.{no_first}
use Rattle.nf_function.specs.Semantics.{Semantics}
use Rattle.event_filter.specs.declared.mark.Mark.TheVariants.{Plain}
use Rattle.packet_pool.specs.Pool.{FullCell}
use Rattle.nf_msgs.specs.declared.msg.Msg.{Msg}
use Rattle.nf_msgs.specs.declared.note.Note.{Note}
use Rattle.instance_worker.specs.declared.instance.Instance.{Instance}
use Rattle.instance_worker.specs.Instance.{process_step, all_processed}

-- an instance in the midst of its packets: itself, what it sent and what it noted
pub record Midst (F R : Type 0) : Type 0 where
  pub node : Instance F R
  pub sent : List (ℕ × Msg)
  pub noted : List Note

module _ {F R : Type 0} (f : Semantics R) where
  -- with these packets processed, the instance comes to an end
  pub record LeadsTo (now : Midst F R) (cells : List FullCell) (end : Midst F R) : Type 0 where
    pub node : (all_processed f now.node cells).node ≡ end.node
    pub sends : now.sent ++ (all_processed f now.node cells).sends ≡ end.sent
    pub notes : now.noted ++ (all_processed f now.node cells).notes ≡ end.noted

  -- the end has come
  pub record IsEnd (now end : Midst F R) : Type 0 where
    pub node : now.node ≡ end.node
    pub sent : now.sent ≡ end.sent
    pub noted : now.noted ≡ end.noted

  -- one more packet is processed
  pub one_packet : (now next end : Midst F R) (cell : FullCell) (cells all : List FullCell) → LeadsTo now all end → all ≡ cell ∷ cells
      → next.node ≡ (process_step f now.node Plain cell).node → next.sent ≡ now.sent ++ (process_step f now.node Plain cell).sends
      → next.noted ≡ now.noted ++ (process_step f now.node Plain cell).notes → LeadsTo next cells end
  unfolding all_processed
  one_packet now next end cell cells all leads front node sent noted =
      let begun : LeadsTo now (cell ∷ cells) end = rw front at leads in
      record {
        node = rw node begun.node;
        sends = rw (node, sent) (append_assoc now.sent _ _ ∙ begun.sends);
        notes = rw (node, noted) (append_assoc now.noted _ _ ∙ begun.notes);
      }

  -- no packet is left
  pub no_packet : (now end : Midst F R) (cells rest : List FullCell) → LeadsTo now cells end → cells ≡ rest → rest ≡ drop 1 cells → IsEnd now end
  unfolding all_processed
  no_packet now end cells rest leads same without =
      let ended : LeadsTo now [] end = rw (no_first cells rest same without) at leads in
      record { node = ended.node; sent = sym (append-nil now.sent) ∙ ended.sends; noted = sym (append-nil now.noted) ∙ ended.notes }
