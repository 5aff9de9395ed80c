-- Which messages leave what stands by at an instance as it is: those of moves, of which a member's step is then that of the abstract network, and
-- those that are seen nowhere; and what a copy leaves there.
use Rattle.proof_outlines.proofs.Words.{◌≡◌, ℕ, Bool, true, false, Option, List, [], ◌∷◌, map, refl, ap, ◌∙◌, if◌then◌else◌, ◌||◌, Result, Ok, Err, filter_map}
use Rattle.proof_outlines.proofs.Words.{Packet, Site, Chunk, Semantics, ChunkFault, tally_read, Records, newest_of, are_good, Mark, FullCell, Msg, Instance}
use Rattle.proof_outlines.proofs.Words.{pieces, and_then, to_controller, on_stop, on_get_all, tally_put, selected_chunks, instance_step, each-append}
use Rattle.proof_outlines.proofs.Words.{InstanceTurn, as_old, records_of, APiece}
use Rattle.instance_worker.specs.Instance.{Step, still, process_step, on_standby, on_put_all}
use Rattle.proof_outlines.proofs.outline.InstanceWays.{instance_fits}
use Rattle.proof_outlines.proofs.outline.Outline.{ran_in, sys, outline_instance}
use Rattle.proof_outlines.proofs.outline.InstanceOutline.{Follows}
use Rattle.proof_outlines.proofs.whole.WholeOutline.{outline_all, IsUnshared, AreUnshared, unshared_all}

-- the messages that an instance takes and that aren't of shares, nor bring records that stand by
abbrev pub leaves_standby : Msg → Bool
leaves_standby (Msg.Carry Mark.Plain cell) = true
leaves_standby (Msg.Carry (Mark.Pass op) cell) = true
leaves_standby (Msg.Fence op) = true
leaves_standby Msg.Stop = true
leaves_standby (Msg.Enable op filter action) = true
leaves_standby (Msg.Stream op filter) = true
leaves_standby (Msg.GetAll op) = true
leaves_standby (Msg.Delete op gone) = true
leaves_standby (Msg.Put op piece first) = true
leaves_standby (Msg.Restore op chunks) = true
leaves_standby (Msg.PutAll op chunk) = true
leaves_standby m = false

module _ {R : Type 0} (f : Semantics R) (place : List ℕ → Option ℕ) where
  pieces_unshared : (op : ℕ) (ps : List APiece) → AreUnshared f place (to_controller (map (Msg.Piece op) ps))
  pieces_unshared op [] = tt
  pieces_unshared op (p ∷ ps) = (refl, pieces_unshared op ps)

  answered_unshared : (op : ℕ) (b : Bool) → AreUnshared f place (to_controller (if b then Msg.PutOk op ∷ [] else []))
  answered_unshared op true = (refl, tt)
  answered_unshared op false = tt

module _ {F R : Type 0} (f : Semantics R) (place : List ℕ → Option ℕ) where
  -- a step that leaves what stands by as it is, and sends nothing of a share
  pub record SharesNothing (i : Instance F R) (step : Step F R) : Type 0 where
    pub standby : step.node.table.standby ≡ i.table.standby
    pub sends : AreUnshared f place step.sends

  then_unshared : (i : Instance F R) (step : Step F R) (next : Instance F R → Step F R) → SharesNothing i step → SharesNothing step.node (next step.node)
      → SharesNothing i (and_then step next)
  then_unshared i step next one more =
      record { standby = more.standby ∙ one.standby; sends = each-append (λ sent. IsUnshared f place sent.1) step.sends _ one.sends more.sends }

  still_unshared : (i : Instance F R) → SharesNothing i (still i)
  still_unshared i = record { standby = refl; sends = tt }

  -- packets
  plain_unshared : (i : Instance F R) (cell : FullCell) → SharesNothing i (process_step f i Mark.Plain cell)
  unfolding process_step
  plain_unshared i cell = record { standby = refl; sends = (refl, tt) }

  passed_unshared : (i : Instance F R) (op : ℕ) (cell : FullCell) → SharesNothing i (process_step f i (Mark.Pass op) cell)
  unfolding process_step
  passed_unshared i op cell = record { standby = refl; sends = (refl, tt) }

  carried_unshared : (i : Instance F R) (m : Mark) (cell : FullCell) → leaves_standby (Msg.Carry m cell) ≡ true → SharesNothing i (process_step f i m cell)
  carried_unshared i Mark.Plain cell e = plain_unshared i cell
  carried_unshared i (Mark.Pass op) cell e = passed_unshared i op cell
  carried_unshared i (Mark.Shared op home) cell e = cc

  -- each of them leaves what stands by as it is
  pub step_unshared : (i : Instance F R) (m : Msg) → leaves_standby m ≡ true → SharesNothing i (instance_step f i m)
  step_unshared = instance_fits f (λ i m did. leaves_standby m ≡ true → SharesNothing i did) (record {
    still = λ i m e. still_unshared i;
    held = λ i mk cell op e. record { standby = refl; sends = tt };
    processed = λ i mk cell e. carried_unshared i mk cell e;
    released = λ i op cell e. plain_unshared i cell;
    both = λ i m did next w a b e. then_unshared i did next (a e) (b e);
    unruled = λ i op did a e. (let all = a e in record { standby = all.standby; sends = all.sends });
    seen = λ i mk cell op e. record { standby = refl; sends = (refl, tt) };
    event = λ i mk cell op e. record { standby = refl; sends = (refl, tt) };
    fenced = λ i op e. record { standby = refl; sends = (refl, tt) };
    stopped = λ i e. record { standby = refl; sends = (refl, tt) };
    enabled = λ i op filter action e. record { standby = refl; sends = (refl, tt) };
    given = λ i op filter e. cc;
    streamed = λ i op filter e. record { standby = refl; sends = pieces_unshared f place op (pieces (selected_chunks f i filter)) };
    all_given = λ i op e. record { standby = refl; sends = (refl, tt) };
    deleted = λ i op gone e. record { standby = refl; sends = (refl, tt) };
    refused = λ i op piece first why is e. record { standby = refl; sends = (refl, tt) };
    taken = λ i op piece first is e. record { standby = refl; sends = answered_unshared f place op (first || piece.last) };
    restored = λ i op chunks e. record { standby = refl; sends = (refl, tt) };
    stood_by = λ i op chunks e. cc;
    synced = λ i home op chunks e. cc;
    merged = λ i op chunk slots is e. record { standby = refl; sends = (refl, tt) };
  })

module _ {F R : Type 0} (f : Semantics R) (site : Site) (packet : ℕ → Packet) (place : List ℕ → Option ℕ) where
  -- what a step does on a message of a move, as the network with shares sees it
  pub record WholeFollows (i : Instance F R) (step : Step F R) (did : InstanceTurn (sys f site packet)) : Type 0 where
    pub node : outline_instance f site packet step.node ≡ did.node
    pub standby : step.node.table.standby ≡ i.table.standby
    pub sends : outline_all f place step.sends ≡ as_old did.sends
    pub ran : filter_map ran_in step.notes ≡ did.ran

  pub whole_follows : (i : Instance F R) (m : Msg) (did : InstanceTurn (sys f site packet)) → leaves_standby m ≡ true
      → Follows f site packet place (instance_step f i m) did → WholeFollows i (instance_step f i m) did
  whole_follows i m did e follows =
      let step = instance_step f i m in
      let unshared = step_unshared f place i m e in
      record {
        node = follows.node;
        standby = unshared.standby;
        sends = unshared_all f place step.sends unshared.sends ∙ ap as_old follows.sends;
        ran = follows.ran;
      }

  -- a step of which nothing is seen but that these records stand by from now on
  pub record Keeps (i : Instance F R) (step : Step F R) (records : Records R) : Type 0 where
    pub node : outline_instance f site packet step.node ≡ outline_instance f site packet i
    pub standby : step.node.table.standby ≡ records
    pub sends : outline_all f place step.sends ≡ []
    pub ran : filter_map ran_in step.notes ≡ []

  pub standby_keeps : (i : Instance F R) (op : ℕ) (chunks : List Chunk) → are_good f chunks ≡ true
      → Keeps i (on_standby f i op chunks) (newest_of f i.table.standby (records_of f chunks))
  unfolding on_standby
  standby_keeps i op chunks good = rw good (record { node = refl; standby = refl; sends = refl; ran = refl })

  pub stop_keeps : (i : Instance F R) → Keeps i (on_stop i) i.table.standby
  stop_keeps i = record { node = refl; standby = refl; sends = refl; ran = refl }

  pub get_all_keeps : (i : Instance F R) (op : ℕ) → Keeps i (on_get_all f i op) i.table.standby
  get_all_keeps i op = record { node = refl; standby = refl; sends = refl; ran = refl }

  tally_keeps : (i : Instance F R) (op : ℕ) (r : Result (List ℕ) ChunkFault) → Keeps i (tally_put i op r) i.table.standby
  tally_keeps i op (Ok slots) = record { node = refl; standby = refl; sends = refl; ran = refl }
  tally_keeps i op (Err fault) = record { node = refl; standby = refl; sends = refl; ran = refl }

  pub put_all_keeps : (i : Instance F R) (op : ℕ) (chunk : Chunk) → Keeps i (on_put_all f i op chunk) i.table.standby
  unfolding on_put_all
  put_all_keeps i op chunk = tally_keeps i op (tally_read f.kind chunk.bytes)
