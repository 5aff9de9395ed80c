-- What can still become pieces of a move, and packets that are still to arrive: what messages and nodes weigh by these two. `a` is the weight of a
-- packet of the input, `k` that of a move whose source hasn't been asked for its chunks.
use Rattle.nf_net.proofs.Words.{◌≡◌, ℕ, ◌+◌, List, [], ◌∷◌, ◌++◌, length, arith, Msg, Note, Phase, Operation, Move, ControllerState, Stepped, weigh}
use Rattle.nf_net.proofs.Words.{weigh-append, arrivals_in, pieces_among}
use Rattle.move_op.specs.Phases.{Freezing}
use Rattle.net_world.specs.Length.{one_piece}
use Rattle.nf_net.proofs.length.MapWeights.{in_all}
use Rattle.nf_net.proofs.length.SentWeights.{sent_cost}

module _ (a k : ℕ) where
  -- a message that waits: a packet of the input, or a command until its move's source is to send the chunks
  abbrev pub chance : Msg → ℕ
  chance (Msg.InPacket packet) = a
  chance (Msg.InCommand command) = k
  chance (Msg.Asked command) = k
  chance (Msg.Stream op filter) = k
  chance message = 0

  -- what is sent, without its pieces
  abbrev pub chances : List (ℕ × Msg) → ℕ
  chances sends = sent_cost chance sends

  -- and with them
  abbrev pub spent : List (ℕ × Msg) → ℕ
  spent sends = sent_cost (λ m. one_piece m + chance m) sends

  pub spent-append : (xs ys : List (ℕ × Msg)) → spent (xs ++ ys) ≡ spent xs + spent ys
  spent-append xs ys = weigh-append (λ x. one_piece x.1 + chance x.1) xs ys

  pub spent_parts : (xs : List (ℕ × Msg)) → spent xs ≡ pieces_among xs + chances xs
  spent_parts [] = omega arith
  spent_parts (x ∷ xs) = let rest = spent_parts xs in omega (arith, rest)

  -- a note: a packet that arrived
  abbrev pub arrival : Note → ℕ
  arrival (Note.Arrived number) = a
  arrival n = 0

  -- what a step sends and notes
  abbrev pub uses : {X : Type 0} → Stepped X Msg Note → ℕ
  uses step = spent step.sends + weigh arrival step.notes

  -- a move whose source hasn't been asked
  abbrev pub of_phase : Phase → ℕ
  of_phase Freezing = k
  of_phase phase = 0

  abbrev pub of_operation : Operation → ℕ
  of_operation (Move m) = of_phase m.phase
  of_operation x = 0

  abbrev pub of_controller : ControllerState → ℕ
  of_controller c = in_all of_operation c.operations

-- a log weighs what arrived
pub arrivals_weigh : (k : ℕ) (notes : List Note) → weigh (arrival 1 k) notes ≡ length (arrivals_in notes)
arrivals_weigh k [] = omega arith
arrivals_weigh k (Note.Arrived number ∷ notes) = let rest = arrivals_weigh k notes in omega (arith, rest)
arrivals_weigh k (n ∷ notes) = let rest = arrivals_weigh k notes in omega (arith, rest)
