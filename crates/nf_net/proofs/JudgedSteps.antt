-- What each node's step keeps of what is known of moves: their pieces, what was sent once for them, and their answers.
use Rattle.nf_net.proofs.Words.{◌≡◌, ◌≢◌, ℕ, suc, ◌+◌, ◌<◌, ◌≤◌, Bool, true, false, Some, List, [], ◌∷◌, ◌++◌, length, get_or, refl, sym, ap, ◌∙◌, subst, arith}
use Rattle.nf_net.proofs.Words.{if◌then◌else◌, slice_index, slice_index_or, Semantics, Answer, Piece, Msg, Note, MoveState, Move, ControllerState}
use Rattle.nf_net.proofs.Words.{InstanceState, Choice, Network, Stepped, run, world_next, queue_at, at, Takes, Outcome, taken_outcome, OnLinks, EachSent}
use Rattle.nf_net.proofs.Words.{on_links_after, total, total_after, sent_weight, Each, Node, Controller, is_begun, answers_of, node_step, answers_of-append}
use Rattle.nf_net.proofs.Words.{Given, Label, given, Instance, Setting, start}
use Rattle.std.specs.FinMap as finite
use Rattle.nf_net.proofs.RunWords.{AreOther, none_answered, other_not_answered, other_not_begun, began_same, Said, Knows, sends_nothing}
use Rattle.nf_net.proofs.JudgedTables.{used}
use Rattle.nf_net.proofs.JudgedFacts.{IsPart, IsGoing, HasVerdict, IsFound, part_kept, verdict_kept, found_kept, said_kept, knows_kept, links_kept}
use Rattle.nf_net.proofs.answers.MoveOnce.{once, counts}
use Rattle.nf_net.proofs.VerdictLemmas.{times_given, times_given-append, is_first_piece, times_taken, times_taken-append}

-- a list that is two has its one element in the first or in the second
pub data OneOf (xs ys : List Answer) (a : Answer) : Type 0 where
  In_first : xs ≡ a ∷ [] → OneOf xs ys a
  In_second : ys ≡ a ∷ [] → OneOf xs ys a

pub one_of : (xs ys : List Answer) (a : Answer) → xs ++ ys ≡ a ∷ [] → OneOf xs ys a
one_of [] ys a is = In_second is
one_of (x ∷ []) [] a is = In_first is
one_of (x ∷ []) (y ∷ ys) a is = cc
one_of (x ∷ z ∷ xs) ys a is = cc

first_counts : (op : ℕ) (m : Msg) (rest : List Msg) → (if is_first_piece op (m ∷ rest) then 1 else 0) ≡ counts m true op
first_counts op (Msg.Put k piece true) rest = refl
first_counts op (Msg.Put k piece false) rest = refl
first_counts op m rest = refl

-- Only the controller sends what is sent once, and only an instance is asked for state.
module _ {R : Type 0} (f : Semantics R) (g : Given) (op : ℕ) where
  no_once_from : (first : Bool) (k r : ℕ) (m : Msg) → k ≢ 1 → Label f g k r m → counts m first op ≡ 0
  no_once_from first k r (Msg.Put j piece true) other label = absurd (other label.0.0)
  no_once_from first k r (Msg.Put j piece false) other label = refl
  no_once_from first k r (Msg.Stream j filter) other label = absurd (other label.0.0)
  no_once_from first k r (Msg.Get j filter) other label = absurd (other label.0.0)
  no_once_from first k r m other label = refl

  pub none_once : (first : Bool) (n k : ℕ) (sends : List (ℕ × Msg)) → k ≢ 1 → EachSent (Label f g) k sends → sent_weight (once first op) n k sends ≡ 0
  none_once first n k sends other = sends_nothing (Label f g) (once first op) k (λ r m. no_once_from first k r m other) n sends

  pub no_stream_to : (p k : ℕ) (m : Msg) → k ≤ 1 → Label f g p k m → counts m false op ≡ 0
  no_stream_to p k (Msg.Stream j filter) few label = let two = label.0.1 in absurd (omega (arith, two, few))
  no_stream_to p k (Msg.Get j filter) few label = let two = label.0.1 in absurd (omega (arith, two, few))
  no_stream_to p k (Msg.Put j piece true) few label = refl
  no_stream_to p k (Msg.Put j piece false) few label = refl
  no_stream_to p k m few label = refl

module _ {F R : Type 0} (setting : Setting F R) where
  open setting use {function as f, config as c, items}

  abbrev pub nodes : ℕ
  nodes = length c.names + 2

  abbrev pub step : Node F R → ℕ → Msg → Stepped (Node F R) Msg Note
  step = node_step f

  abbrev pub Part : List Note → ℕ → Piece → Type 0
  Part log = IsPart f c items (start setting) log

  abbrev pub Verdict : List Choice → ℕ → Answer → Type 0
  Verdict cs = HasVerdict f c items (start setting) cs

  abbrev pub Goes : ℕ → ℕ → Type 0
  Goes = IsGoing f c items (start setting)

  -- what is known of a message after these choices, by this log
  module _ (cs : List Choice) (log : List Note) where
    abbrev pub SaidBy : (sender receiver : ℕ) → Msg → Type 0
    SaidBy = Said (Part log) (Verdict cs) Goes

  -- how often a command's state was given, or its first piece was taken
  abbrev pub happened : Bool → List Choice → List Note → ℕ → ℕ
  happened true cs log op = times_taken f op cs (start setting)
  happened false cs log op = times_given op log

  -- an instance has the limit and the mark of its number
  pub record IsFixed (i : ℕ) (s : InstanceState F R) : Type 0 where
    pub limit : s.limit ≡ slice_index c.limits i
    pub marked : s.marked ≡ slice_index_or c.marked i false

  -- what holds after these choices, with this log
  pub record Judging (cs : List Choice) (w : Network (Node F R) Msg Note) (log : List Note) : Type 0 where
    pub controller : ControllerState
    pub controller_is : (d : Node F R) → get_or w.nodes 1 d ≡ Controller controller
    pub knows : (op : ℕ) (m : MoveState) → finite.get controller.operations op ≡ Some (Move m) → Knows (Part log) (Verdict cs) Goes op m.phase
    pub says : OnLinks (SaidBy cs log) w
    pub found : (op : ℕ) (a : Answer) → answers_of op log ≡ a ∷ [] → IsFound f c items (start setting) cs log op a
    pub once : (op : ℕ) (first : Bool) → total (once first op) w + happened first cs log op ≤ used (finite.get controller.operations op) (is_begun op log) first
    pub fixed : (i : ℕ) → i < length c.names → (s : InstanceState F R) → ((d : Node F R) → get_or w.nodes (suc (suc i)) d ≡ Instance s) → IsFixed i s

  -- A choice after these.
  module _ (cs : List Choice) (w : Network (Node F R) Msg Note) (reached : w ≡ run step cs (start setting)) (h : Judging cs w w.log) (k p : ℕ)
      (node : Node F R) (m : Msg) (rest : List Msg) (takes : Takes step nodes w k p node m rest) where
    abbrev pub did : Stepped (Node F R) Msg Note
    did = step node p m

    abbrev pub later : List Choice
    later = cs ++ at k p ∷ []

    abbrev pub log : List Note
    log = w.log ++ did.notes

    abbrev v : Network (Node F R) Msg Note
    v = world_next step w (at k p)

    left : Outcome step nodes w k p node m rest v
    left = taken_outcome step nodes w k p node m rest takes

    pub said : SaidBy cs w.log p k m
    said = (subst (λ ms. Each (SaidBy cs w.log p k) ms) takes.waits
        (h.says p k (let n = takes.count in rw n takes.sender) (let n = takes.count in rw n takes.receiver))).0

    pub part : (op : ℕ) (piece : Piece) → Part w.log op piece → Part log op piece
    part op piece x = part_kept f c items (start setting) w.log did.notes op piece x

    pub judged : (op : ℕ) (a : Answer) → Verdict cs op a → Verdict later op a
    judged op a x = verdict_kept f c items (start setting) cs (at k p) op a x

    -- it is known after the choice as well
    pub said_later : SaidBy later log p k m
    said_later = said_kept (Part w.log) (Part log) (Verdict cs) (Verdict later) Goes part judged p k m said

    -- what a node's step is to leave
    pub record Leaves : Type 0 where
      pub controller : ControllerState
      pub controller_is : (d : Node F R) → get_or v.nodes 1 d ≡ Controller controller
      pub knows : (op : ℕ) (x : MoveState) → finite.get controller.operations op ≡ Some (Move x) → Knows (Part log) (Verdict later) Goes op x.phase
      pub says : EachSent (SaidBy later log) k did.sends
      pub found : (op : ℕ) (a : Answer) → answers_of op did.notes ≡ a ∷ [] → IsFound f c items (start setting) later log op a
      pub spends : (op : ℕ) (first : Bool) → sent_weight (once first op) nodes k did.sends
          + used (finite.get h.controller.operations op) (is_begun op w.log) first ≤ used (finite.get controller.operations op) (is_begun op log) first
      pub given : (op : ℕ) → times_given op did.notes ≡ counts m false op
      pub fixed : (i : ℕ) → i < length c.names → (s : InstanceState F R) → ((d : Node F R) → get_or v.nodes (suc (suc i)) d ≡ Instance s) → IsFixed i s

    taken_now : (op : ℕ) → times_taken f op later (start setting) ≡ times_taken f op cs (start setting) + counts m true op
    taken_now op =
        let here : (if is_first_piece op (queue_at (run step cs (start setting)) (at k p)) then 1 else 0) ≡ counts m true op =
        ap (λ u. if is_first_piece op (queue_at u (at k p)) then 1 else 0) (sym reached) ∙ ap (λ ms. if is_first_piece op ms then 1 else 0) takes.waits
        ∙ first_counts op m rest in
        omega (arith, times_taken-append f op cs (at k p ∷ []) (start setting), here)

    happens : (op : ℕ) (first : Bool) → times_given op did.notes ≡ counts m false op
        → happened first later log op ≡ happened first cs w.log op + counts m first op
    happens op true given = taken_now op
    happens op false given = let both = times_given-append op w.log did.notes in omega (arith, both, given)

    pub leaves : Leaves → Judging later v v.log
    leaves l = subst (λ q. Judging later v q) (sym left.log) (record {
      controller = l.controller;
      controller_is = l.controller_is;
      knows = l.knows;
      says = on_links_after (SaidBy later log) step nodes w k p node m rest takes
          (links_kept (Part w.log) (Part log) (Verdict cs) (Verdict later) Goes part judged w h.says) l.says;
      found = λ op a e. by_one op a (one_of (answers_of op w.log) (answers_of op did.notes) a (sym (answers_of-append op w.log did.notes) ∙ e));
      once = λ op first.
          omega (arith, total_after step nodes w k p node m rest takes (once first op), happens op first (l.given op), h.once op first, l.spends op first);
      fixed = l.fixed;
    })
      where
        by_one : (op : ℕ) (a : Answer) → OneOf (answers_of op w.log) (answers_of op did.notes) a → IsFound f c items (start setting) later log op a
        by_one op a (In_first x) = found_kept f c items (start setting) cs (at k p) w.log did.notes op a (h.found op a x)
        by_one op a (In_second x) = l.found op a x

    -- an instance that didn't take the message keeps its limit and its mark
    pub fixed_other : (i : ℕ) → suc (suc i) ≢ k → i < length c.names → (s : InstanceState F R)
        → ((d : Node F R) → get_or v.nodes (suc (suc i)) d ≡ Instance s) → IsFixed i s
    fixed_other i off small s e = h.fixed i small s (λ d. sym (left.others (suc (suc i)) d off) ∙ e d)

    -- a node that isn't the controller
    module _ (off : 1 ≢ k) (other : AreOther did.notes) (labels : EachSent (Label f (given setting)) k did.sends) where
      no_answer : (op : ℕ) (a : Answer) → answers_of op did.notes ≡ a ∷ [] → IsFound f c items (start setting) later log op a
      no_answer op a e = let none = none_answered op did.notes (other_not_answered op did.notes other) in let never = sym none ∙ e in cc

      spends_other : (op : ℕ) (first : Bool) → sent_weight (once first op) nodes k did.sends
          + used (finite.get h.controller.operations op) (is_begun op w.log) first ≤ used (finite.get h.controller.operations op) (is_begun op log) first
      spends_other op first =
          let none = none_once f (given setting) op first nodes k did.sends (λ e. off (sym e)) labels in
          let same = ap (λ b. used (finite.get h.controller.operations op) b first) (began_same op w.log did.notes (other_not_begun op did.notes other)) in
          omega (arith, none, same)

      pub leaves_other : EachSent (SaidBy later log) k did.sends → ((op : ℕ) → times_given op did.notes ≡ counts m false op)
          → ((i : ℕ) → i < length c.names → (s : InstanceState F R) → ((d : Node F R) → get_or v.nodes (suc (suc i)) d ≡ Instance s) → IsFixed i s) → Leaves
      leaves_other says given fixed = record {
        controller = h.controller;
        controller_is = λ d. left.others 1 d off ∙ h.controller_is d;
        knows = λ op x there. knows_kept (Part w.log) (Part log) (Verdict cs) (Verdict later) Goes part judged op x.phase (h.knows op x there);
        says = says;
        found = no_answer;
        spends = spends_other;
        given = given;
        fixed = fixed;
      }
