-- What an instance sends and holds as it takes a message weighs less than the message and what it held before, but for the pieces that it sends.
use Rattle.nf_net.proofs.Words.{◌≡◌, ℕ, zero, suc, ◌+◌, ◌*◌, ◌≤◌, Bool, true, false, Option, None, Some, List, [], ◌∷◌, ◌++◌, map, length, length-append, take}
use Rattle.nf_net.proofs.Words.{drop, refl, sym, ap, ◌∙◌, subst, arith, if◌then◌else◌, ◌||◌, ◌==◌, not, nat_le, is_some, nat_eq, option_map, AllByRecursion}
use Rattle.nf_net.proofs.Words.{option_map_or, nat_tests, Decides-eqb, Filter, Chunk, Semantics, unit_at, record_chunk, part, Mark, Decide, Rule, HaveOneEach}
use Rattle.nf_net.proofs.Words.{FullCell, Answer, Piece, Msg, switch_node, WholePieces, piece_of, whole_of, to_controller, chunk_told, share_message}
use Rattle.nf_net.proofs.Words.{selected_chunks, tell_step, carry_step, instance_step, instance_fits, may_process, refusal_of, weigh-append, pieces_among, Unit}
use Rattle.nf_net.proofs.Words.{IsDistinct, Action, split}
use Rattle.std.specs.Prelude.{filter}
use Rattle.std.specs.FinMap as finite
use Rattle.event_filter.specs.Rules as rules
use Rattle.instance_worker.specs.declared.instance.Instance.{Instance}
use Rattle.instance_worker.specs.Pieces.{pieces_from}
use Rattle.instance_worker.specs.Instance.{Step, still, process_step, all_processed, on_carry, on_fence}
use Rattle.nf_net.proofs.length.Weights.{one_if, of_rules, of_instance, weight, some, processing, cost, cost-append}
use Rattle.nf_net.proofs.length.Weights as weights

-- What the rules hold.
module _ (op : ℕ) where
  -- a rule with another filter holds as much
  ruled_weigh : (filter : Filter) (action : Action) (rs : List (Rule FullCell))
      → of_rules (rules.with_change rs op (rules.with_rule_of filter action)) ≡ of_rules rs
  ruled_weigh filter action [] = refl
  ruled_weigh filter action (r ∷ rs) =
      let rest = ruled_weigh filter action rs in
      elim (r.op == op) as (λ b. length (if b then rules.with_rule_of filter action r else r).held
      + of_rules (rules.with_change rs op (rules.with_rule_of filter action)) ≡ length r.held + of_rules rs)
      [ true ↦ omega (arith, rest) | false ↦ omega (arith, rest) ]

  rule_weighs : (rs : List (Rule FullCell)) (filter : Filter) (action : Action) → of_rules (rules.with_rule rs op filter action) ≤ of_rules rs
  rule_weighs rs filter action =
      let new : Rule FullCell = record { op = op; filter = filter; action = action; held = [] } in
      split (is_some (rules.rule_at rs op))
      (λ b. of_rules (if b then rules.with_change rs op (rules.with_rule_of filter action) else rs ++ new ∷ []) ≤ of_rules rs)
      (λ _. let same = ruled_weigh filter action rs in omega (arith, same))
      (λ _. let both = weigh-append (λ (r : Rule FullCell). length r.held) rs (new ∷ []) in omega (arith, both))

  -- of other operations nothing is held in addition
  others_weigh : (cell : FullCell) (rs : List (Rule FullCell)) → AllByRecursion (λ k. nat_eq op k ≡ false) (map (λ (r : Rule FullCell). r.op) rs)
      → of_rules (rules.with_held rs op cell) ≡ of_rules rs
  others_weigh cell [] h = refl
  others_weigh cell (r ∷ rs) h =
      let off : (r.op == op) ≡ false = grind (arith, nat_tests, h.0) in
      let same : length (if r.op == op then rules.holding cell r else r).held ≡ length r.held =
      ap (λ b. length (if b then rules.holding cell r else r).held) off in
      omega (arith, others_weigh cell rs h.1, same)

  -- one more is held once
  held_weighs : (cell : FullCell) (rs : List (Rule FullCell)) → HaveOneEach rs → of_rules (rules.with_held rs op cell) ≤ 1 + of_rules rs
  unfolding IsDistinct
  held_weighs cell [] h = omega arith
  held_weighs cell (r ∷ rs) h =
      split (r.op == op) (λ b. length (if b then rules.holding cell r else r).held + of_rules (rules.with_held rs op cell) ≤ 1 + (length r.held + of_rules rs))
      (λ e.
      let same : r.op ≡ op = (Decides-eqb r.op op).0 e in
      let rest = others_weigh cell rs (subst (λ k. AllByRecursion (λ j. nat_eq k j ≡ false) (map (λ (r : Rule FullCell). r.op) rs)) same h.0) in
      omega (arith, rest, length-append r.held (cell ∷ []))) (λ e. let rest = held_weighs cell rs h.1 in omega (arith, rest))

  -- what is taken away was held
  without_less : (rs : List (Rule FullCell)) → of_rules (rules.without_rule rs op) ≤ of_rules rs
  without_less [] = omega arith
  without_less (r ∷ rs) =
      let rest = without_less rs in
      elim (r.op == op) as (λ b. of_rules (if not b then r ∷ rules.without_rule rs op else rules.without_rule rs op) ≤ length r.held + of_rules rs)
      [ true ↦ omega (arith, rest) | false ↦ omega (arith, rest) ]

  without_weighs : (rs : List (Rule FullCell)) → of_rules (rules.without_rule rs op) + length (rules.held_at rs op) ≤ of_rules rs
  without_weighs [] = omega arith
  without_weighs (r ∷ rs) =
      split (r.op == op) (λ b. of_rules (if not b then r ∷ rules.without_rule rs op else rules.without_rule rs op) + length
      (option_map_or (λ (x : Rule FullCell). x.held) (if b then Some r else rules.rule_at rs op) []) ≤ length r.held + of_rules rs)
      (λ _. let rest = without_less rs in omega (arith, rest)) (λ _. let rest = without_weighs rs in omega (arith, rest))

-- The pieces of a stream
module _ (o op : ℕ) where
  cut_costs : (whole : WholePieces) (n : ℕ) (chunks : List Chunk) → cost o (to_controller (map (Msg.Piece op) (pieces_from whole n chunks)))
      ≤ 1 + 4 * pieces_among (to_controller (map (Msg.Piece op) (pieces_from whole n chunks)))
  unfolding pieces_from
  cut_costs whole zero chunks = omega arith
  cut_costs whole (suc n) chunks =
      split (nat_le (length chunks) 64)
      (λ b. cost o (to_controller
      (map (Msg.Piece op) (if b then piece_of whole true chunks ∷ [] else piece_of whole false (take 64 chunks) ∷ pieces_from whole n
      (drop 64 chunks)))) ≤ 1 + 4 * pieces_among
      (to_controller (map (Msg.Piece op)
      (if b then piece_of whole true chunks ∷ [] else piece_of whole false (take 64 chunks) ∷ pieces_from whole n (drop 64 chunks)))))
      (λ _. omega arith) (λ _. let rest = cut_costs whole n (drop 64 chunks) in omega (arith, rest))

-- what a share is told
chunk_costs : (o op : ℕ) (x : Option Chunk) → cost o (to_controller (chunk_told op x)) ≤ 1 + 2 * o
chunk_costs o op None = omega arith
chunk_costs o op (Some chunk) = omega arith

module _ {F R : Type 0} (f : Semantics R) (o : ℕ) where
  -- what a step sends and leaves, and the message and what there was
  abbrev pub Falls : Instance F R → Msg → Step F R → Type 0
  Falls i m step = cost o step.sends + of_instance step.node + 1 ≤ of_instance i + weight o m + 4 * pieces_among step.sends

  still_falls : (i : Instance F R) (m : Msg) → Falls i m (still i)
  still_falls i m = let one = some o m in omega (arith, one)

  -- what a packet's processing sends
  shared_costs : (i : Instance F R) (mk : Mark) (u : Unit) → cost o (to_controller (share_message f i mk u)) + 1 ≤ processing o mk
  shared_costs i Mark.Plain u = omega arith
  shared_costs i (Mark.Pass op) u = omega arith
  shared_costs i (Mark.Shared op home) u = let less = chunk_costs o op (option_map (record_chunk f u) (finite.get (part i.table home) u)) in omega (arith, less)

  processed_costs : (i : Instance F R) (mk : Mark) (cell : FullCell) → cost o (process_step f i mk cell).sends ≤ processing o mk
  unfolding process_step
  processed_costs i mk cell =
      let after = (process_step f i mk cell).node in
      let u = unit_at f.kind i.site cell.packet in
      let both = cost-append o (to_controller (share_message f after mk u)) ((switch_node, Msg.Credit cell) ∷ []) in
      omega (arith, both, shared_costs after mk u)

  processed_holds : (i : Instance F R) (mk : Mark) (cell : FullCell) → of_instance (process_step f i mk cell).node ≡ of_instance i
  unfolding process_step
  processed_holds i mk cell = refl

  all_costs : (i : Instance F R) (cells : List FullCell) → cost o (all_processed f i cells).sends ≤ length cells
  unfolding all_processed
  all_costs i [] = omega arith
  all_costs i (cell ∷ cells) =
      let first = process_step f i Mark.Plain cell in
      omega (arith, cost-append o first.sends (all_processed f first.node cells).sends, processed_costs i Mark.Plain cell, all_costs first.node cells)

  all_hold : (i : Instance F R) (cells : List FullCell) → of_instance (all_processed f i cells).node ≡ of_instance i
  unfolding all_processed
  all_hold i [] = refl
  all_hold i (cell ∷ cells) = all_hold (process_step f i Mark.Plain cell).node cells ∙ processed_holds i Mark.Plain cell

  -- A packet
  run_falls : (i : Instance F R) (mk : Mark) (cell : FullCell) → processing o mk + 1 ≤ weights.carried o mk
      → Falls i (Msg.Carry mk cell) (process_step f i mk cell)
  run_falls i mk cell low = omega (arith, processed_costs i mk cell, processed_holds i mk cell, low)

  plain_falls : (i : Instance F R) → HaveOneEach i.rules → (cell : FullCell) (d : Decide)
      → Falls i (Msg.Carry Mark.Plain cell) (carry_step f i Mark.Plain cell d)
  plain_falls i each cell Decide.Process = run_falls i Mark.Plain cell (omega arith)
  plain_falls i each cell (Decide.ProcessAndEvent op) =
      let first = process_step f i Mark.Plain cell in
      let both = cost-append o first.sends (to_controller (Msg.Seen op cell.packet ∷ [])) in
      omega (arith, processed_costs i Mark.Plain cell, processed_holds i Mark.Plain cell, both)
  plain_falls i each cell (Decide.Event op) = omega arith
  plain_falls i each cell (Decide.Buffer op) = let more = held_weighs op cell i.rules each in omega (arith, more)

  carry_falls : (i : Instance F R) → HaveOneEach i.rules → (mk : Mark) (cell : FullCell) → Falls i (Msg.Carry mk cell) (on_carry f i mk cell)
  unfolding on_carry
  carry_falls i each Mark.Plain cell = plain_falls i each cell _
  carry_falls i each (Mark.Pass op) cell = run_falls i (Mark.Pass op) cell (omega arith)
  carry_falls i each (Mark.Shared op home) cell = run_falls i (Mark.Shared op home) cell (omega arith)

  -- A fence
  fence_falls : (i : Instance F R) (op : ℕ) → Falls i (Msg.Fence op) (on_fence f i op)
  unfolding on_fence
  fence_falls i op =
      let from : Instance F R = record i { rules = rules.without_rule i.rules op } in
      let all = all_processed f from (rules.held_at i.rules op) in
      let both = cost-append o all.sends (to_controller (Msg.Fenced op ∷ [])) in
      omega (arith, all_costs from (rules.held_at i.rules op), all_hold from (rules.held_at i.rules op), without_weighs op i.rules, both)

  -- State, and what else processes no packet: a piece is refused only where it is put first
  refused_falls : (i : Instance F R) (op : ℕ) (piece : Piece) (first : Bool) (why : Answer) → refusal_of i piece first ≡ Some why
      → Falls i (Msg.Put op piece first) (tell_step i (Msg.PutNo op (record { why = why; chunks = piece.chunks })))
  refused_falls i op piece true why is = omega arith
  refused_falls i op piece false why is = cc

  other_falls : (i : Instance F R) (m : Msg) → may_process m ≡ false → Falls i m (instance_step f i m)
  other_falls = instance_fits f (λ i m did. may_process m ≡ false → Falls i m did) (record {
    still = λ i m e. still_falls i m;
    held = λ i mk cell op e. cc;
    processed = λ i mk cell e. cc;
    released = λ i op cell e. cc;
    both = λ i m did next does first second e. (let never : true ≡ false = sym does ∙ e in cc);
    unruled = λ i op did h e. cc;
    seen = λ i mk cell op e. cc;
    event = λ i mk cell op e. cc;
    fenced = λ i op e. cc;
    stopped = λ i e. omega arith;
    enabled = λ i op filter action e. (let less = rule_weighs op i.rules filter action in omega (arith, less));
    given = λ i op filter e. omega arith;
    streamed = λ i op filter e.
        (let chunks = selected_chunks f i filter in let costs = cut_costs o op (whole_of chunks) (length chunks) chunks in omega (arith, costs));
    all_given = λ i op e. omega arith;
    deleted = λ i op gone e. omega arith;
    refused = λ i op piece first why is e. refused_falls i op piece first why is;
    taken = λ i op piece first is e. elim (first || piece.last) as (λ b. cost o (to_controller (if b then Msg.PutOk op ∷ [] else [])) + of_instance i + 1
        ≤ of_instance i + (1 + one_if b) + 4 * pieces_among (to_controller (if b then Msg.PutOk op ∷ [] else []))) [ true ↦ omega arith | false ↦ omega arith ];
    restored = λ i op chunks e. omega arith;
    stood_by = λ i op chunks e. omega arith;
    synced = λ i home op chunks e. omega arith;
    merged = λ i op chunk slots is e. omega arith;
  })

  -- each step of an instance, whose rules are of different operations
  pub instance_falls : (i : Instance F R) → HaveOneEach i.rules → (m : Msg) → Falls i m (instance_step f i m)
  instance_falls i each (Msg.Carry mk cell) = carry_falls i each mk cell
  instance_falls i each (Msg.Fence op) = fence_falls i op
  instance_falls i each m = other_falls i m refl
