-- What is known of a move's pieces by the log, and of its verdict by the choices so far: it stays known as both go on.
use Rattle.nf_net.proofs.Words.{◌≡◌, ℕ, ◌+◌, Bool, true, false, Some, None, List, [], ◌∷◌, ◌++◌, length, refl, sym, ap, ◌∙◌, if◌then◌else◌, ◌&&◌, ◌==◌, nat_lt}
use Rattle.nf_net.proofs.Words.{list_any, or_left, Semantics, version_number, Answer, Import, Piece, Msg, Note, instance_node, piece_refusal, Choice, Network}
use Rattle.nf_net.proofs.Words.{run, OnLinks, Config, Node, is_begun, order_numbered, course_of, job_of, node_step, is_refusal, exported_for, before_export}
use Rattle.nf_net.proofs.Words.{is_timed, receiver_of, IsTakenAfter, has_begun-append, Phase, Unit, Door, Done, split}
use Rattle.std.specs.FinMap as finite
use Rattle.nf_msgs.specs.declared.answer.Answer.TheVariants.{Old}
use Rattle.instance_worker.specs.declared.instance.Instance.{Instance}
use Rattle.actor_net.proofs.WeightLaws.{Each}
use Rattle.proof_machines.proofs.unit.Labels as labels
use Rattle.net_world.specs.Verdicts.{Weighed, verdict, IsWeighed}
use Rattle.nf_net.proofs.RunWords.{is_moving, Said, Knows}
use Rattle.nf_net.proofs.JudgedInstance.{answer_by}
use Rattle.nf_net.proofs.VerdictLemmas.{exported_kept, before_export_kept, taken_more}
use Rattle.move_op.specs.Phases as phase

-- an instance's answer is the verdict by what it holds, and by what the piece says
pub answer_is : {F R : Type 0} (i : Instance F R) (piece : Piece) (timed : Bool) → piece.newest ≡ version_number timed → answer_by (piece_refusal i piece)
    ≡ verdict (record { held = finite.len i.table.live; coming = piece.total; limit = i.limit; marked = i.marked; timed = timed })
answer_is i piece timed newest =
    split (nat_lt i.limit (finite.len i.table.live + piece.total))
    (λ b. answer_by (if b then Some (Import (finite.len i.table.live) piece.total i.limit) else if i.marked && nat_lt 1 piece.newest then Some
    (Old piece.newest 1) else None) ≡ (if b then Import (finite.len i.table.live) piece.total i.limit else if i.marked && timed then Old 2 1 else Done))
    (λ _. refl) (λ _. by_version i.marked timed piece.newest newest)
  where
    by_version : (marked t : Bool) (version : ℕ) → version ≡ version_number t
        → answer_by (if marked && nat_lt 1 version then Some (Old version 1) else None) ≡ (if marked && t then Old 2 1 else Done)
    by_version true true version e = rw e refl
    by_version true false version e = rw e refl
    by_version false t version e = refl

module _ {F R : Type 0} (f : Semantics R) (c : Config) (items : List Msg) (start : Network (Node F R) Msg Note) where
  -- a piece says how many units are given for its command, and whether one of them has a record with a time
  pub record IsPart (log : List Note) (op : ℕ) (piece : Piece) : Type 0 where
    pub units : List Unit
    pub units_are : exported_for op log ≡ Some units
    pub total : piece.total ≡ length units
    pub newest : piece.newest ≡ version_number (list_any (λ unit. is_timed f c items unit (before_export op log)) units)

  -- the node of the instance to which a command moves units
  pub record IsGoing (op : ℕ) (node : ℕ) : Type 0 where
    pub destination : ℕ
    pub destination_is : receiver_of c (order_numbered items op) ≡ Some destination
    pub node_is : node ≡ instance_node destination

  -- the first piece was taken, and this is the answer by what was weighed then
  pub record HasVerdict (cs : List Choice) (op : ℕ) (answer : Answer) : Type 0 where
    pub front : List Choice
    pub is_taken : IsTakenAfter f (course_of start cs) op front
    pub weighed : Weighed
    pub are_weighed : IsWeighed (job_of f c items) op (run (node_step f) front start) weighed
    pub at_destination : is_taken.choice.node ≡ instance_node are_weighed.destination
    pub answer_is : answer ≡ verdict weighed

  -- the command moves no units
  abbrev pub IsStill : ℕ → Type 0
  IsStill op = is_moving (order_numbered items op) ≡ false

  pub part_kept : (log notes : List Note) (op : ℕ) (piece : Piece) → IsPart log op piece → IsPart (log ++ notes) op piece
  part_kept log notes op piece h = record {
    units = h.units;
    units_are = exported_kept op log notes h.units h.units_are;
    total = h.total;
    newest = h.newest
        ∙ ap (λ l. version_number (list_any (λ unit. is_timed f c items unit l) h.units)) (sym (before_export_kept op log notes h.units h.units_are));
  }

  pub verdict_kept : (cs : List Choice) (d : Choice) (op : ℕ) (answer : Answer) → HasVerdict cs op answer → HasVerdict (cs ++ d ∷ []) op answer
  unfolding taken_more
  verdict_kept cs d op answer h = record {
    front = h.front;
    is_taken = taken_more f op start cs h.front d h.is_taken;
    weighed = h.weighed;
    are_weighed = h.are_weighed;
    at_destination = h.at_destination;
    answer_is = h.answer_is;
  }

  -- a command was refused, or it began and is answered by its verdict, or that it is done, where it moves no units
  pub data IsFound (cs : List Choice) (log : List Note) (op : ℕ) (answer : Answer) : Type 0 where
    Was_refused : is_refusal answer ≡ true → IsFound cs log op answer
    Was_judged : is_begun op log ≡ true → HasVerdict cs op answer → IsFound cs log op answer
    Was_still : is_begun op log ≡ true → IsStill op → answer ≡ Done → IsFound cs log op answer

  pub began_kept : (op : ℕ) (log notes : List Note) → is_begun op log ≡ true → is_begun op (log ++ notes) ≡ true
  began_kept op log notes h = has_begun-append (λ k. k == op) log notes ∙ or_left (is_begun op log) (is_begun op notes) h

  pub found_kept : (cs : List Choice) (d : Choice) (log notes : List Note) (op : ℕ) (answer : Answer) → IsFound cs log op answer
      → IsFound (cs ++ d ∷ []) (log ++ notes) op answer
  found_kept cs d log notes op answer (Was_refused h) = Was_refused h
  found_kept cs d log notes op answer (Was_still b h e) = Was_still (began_kept op log notes b) h e
  found_kept cs d log notes op answer (Was_judged b h) = Was_judged (began_kept op log notes b) (verdict_kept cs d op answer h)

-- What is known goes on with the facts that it is made of.
module _ (P P' : ℕ → Piece → Type 0) (V V' : ℕ → Answer → Type 0) (G : ℕ → ℕ → Type 0) (part : (op : ℕ) (piece : Piece) → P op piece → P' op piece)
    (judged : (op : ℕ) (answer : Answer) → V op answer → V' op answer) where
  pub said_kept : (s r : ℕ) (m : Msg) → Said P V G s r m → Said P' V' G s r m
  said_kept s r (Msg.Piece op piece) h = part op piece h
  said_kept s r (Msg.Put op piece true) h = (part op piece h.0, h.1)
  said_kept s r (Msg.Put op piece false) h = judged op Done h
  said_kept s r (Msg.PutOk op) h = judged op Done h
  said_kept s r (Msg.PutNo op refused) h = judged op refused.why h
  said_kept s r m h = tt

  each_part : (op : ℕ) (ps : List Piece) → labels.Each (P op) ps → labels.Each (P' op) ps
  each_part op [] h = tt
  each_part op (p ∷ ps) h = (part op p h.0, each_part op ps h.1)

  pub knows_kept : (op : ℕ) (ph : Phase) → Knows P V G op ph → Knows P' V' G op ph
  knows_kept op (phase.Streaming frozen free came Door.Shut) h = (each_part op frozen h.0, each_part op free h.1)
  knows_kept op (phase.Streaming frozen free came (Door.Asked last)) h = tt
  knows_kept op (phase.Streaming frozen free came Door.Open) h = judged op Done h
  knows_kept op (phase.Streaming frozen free came (Door.Refused why)) h = judged op why h
  knows_kept op phase.Freezing h = tt
  knows_kept op phase.Holding h = judged op Done h
  knows_kept op phase.Passing h = judged op Done h
  knows_kept op phase.Ending h = judged op Done h
  knows_kept op (phase.Restoring why) h = judged op why h
  knows_kept op (phase.Returning why) h = judged op why h
  knows_kept op (phase.Undoing why) h = judged op why h
  knows_kept op (phase.Over why) h = judged op why h

  each_said : (s r : ℕ) (ms : List Msg) → Each (Said P V G s r) ms → Each (Said P' V' G s r) ms
  each_said s r [] h = tt
  each_said s r (m ∷ ms) h = (said_kept s r m h.0, each_said s r ms h.1)

  pub links_kept : {A : Type 0} (w : Network A Msg Note) → OnLinks (Said P V G) w → OnLinks (Said P' V' G) w
  links_kept w h s r hs hr = each_said s r _ (h s r hs hr)
