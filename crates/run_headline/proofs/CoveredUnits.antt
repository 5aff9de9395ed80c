-- A unit that a plain move handed on was covered by a plain move that is answered that it is done.
use Rattle.run_headline.proofs.Words.{◌≡◌, ◌≢◌, ℕ, ◌≤◌, Bool, true, false, not, ◌&&◌, ◌||◌, Option, Some, None, List, [], ◌∷◌, map, refl, sym, ap, ◌∙◌, arith}
use Rattle.run_headline.proofs.Words.{◌==◌, list_any, or-true, true≢false, nat_tests, takes, Semantics, Answer, Order, Move, Copy, Share, Msg, Note, Config}
use Rattle.run_headline.proofs.Words.{Answers, commands, order_numbered, installs_in, answer_in, is_loose, owner_after_order, by_number, is_answered, is_done}
use Rattle.run_headline.proofs.Words.{is_covered, moves, subject}
use Rattle.nf_function.specs.declared.unit.Unit as units
use Rattle.nf_msgs.specs.declared.answer.Answer.TheVariants as answers
use Rattle.net_world.specs.Commands.{times_installed}
use Rattle.net_world.specs.Places.{loose_after, hands_on_plain}
use Rattle.net_world.proofs.PickedLists.{some_counted}
use Rattle.run_headline.proofs.AnswerLines.{answer_to, found_any, so_answered, some}

-- a command that the switch installed
installed_some : (op : ℕ) (log : List Note) → some op (installs_in log) ≡ true → 1 ≤ times_installed op log
installed_some op log h = some_counted (λ k. k == op) (installs_in log) h

-- an order for a plain move of a unit
abbrev pub is_plain : units.Unit → Option Order → Bool
is_plain u (Some order) = moves not u order
is_plain u None = false

module _ (names : List (List ℕ)) (orders : ℕ → Option Order) (u : units.Unit) where
  -- what hands a unit on is a plain move of it
  plain_order : (order : Option Order) (i : ℕ) → hands_on_plain names orders u order i ≡ true → is_plain u order ≡ true
  plain_order (Some (Move source destination taken keep)) i h = both (not keep) (takes taken u) _ h
    where
      both : (a b d : Bool) → (a && (b && d)) ≡ true → (a && b) ≡ true
      both true true d h = refl
      both true false d h = h
      both false b d h = h
  plain_order (Some (Copy source destination taken)) i h = cc
  plain_order (Some (Share members taken)) i h = cc
  plain_order None i h = cc

  -- one of the commands that handed it on
  pub record HandsOn (ops : List ℕ) : Type 0 where
    pub op : ℕ
    pub among : some op ops ≡ true
    pub plain : is_plain u (orders op) ≡ true

  pub hands_on : (i : ℕ) (ops : List ℕ) → loose_after names orders u i ops ≡ true → HandsOn ops
  hands_on i [] h = cc
  hands_on i (op ∷ ops) h = elim (hands_on_plain names orders u (orders op) i) as (λ b. hands_on_plain names orders u (orders op) i ≡ b
      → (b || loose_after names orders u (owner_after_order names orders u (orders op) i) ops) ≡ true → HandsOn (op ∷ ops)) [
        | true ↦ λ is more. record {
          op = op;
          among = let own : (op == op) ≡ true = grind (arith, nat_tests) in rw own refl;
          plain = plain_order (orders op) i is;
        }
        | false ↦ λ is more.
            let rest = hands_on (owner_after_order names orders u (orders op) i) ops more in
            record {
              op = rest.op;
              among = rw rest.among (or-true (op == rest.op));
              plain = rest.plain;
            }
      ] refl h

pub some_order : (u : units.Unit) (o : Option Order) → is_plain u o ≡ true → (what : Order) × (o ≡ Some what)
some_order u (Some what) plain = (what, refl)
some_order u None plain = absurd (true≢false (sym plain))

module _ {R : Type 0} (f : Semantics R) (c : Config) (items : List Msg) (log : List Note) (answered : Answers c items log)
    (numbers : map (λ x. x.0) (by_number answer_in log) ≡ map (λ k. k.op) (commands items)) (u : units.Unit) where
  -- a command that the switch installed is answered that it is done
  pub installed_any : (test : Order → Bool) (op : ℕ) (what : Order) → order_numbered items op ≡ Some what → some op (installs_in log) ≡ true → test what ≡ true
      → list_any (λ k. test k.what && is_answered is_done (by_number answer_in log) k.op) (commands items) ≡ true
  installed_any test op what order among on =
      let one = answer_to log answered.answered_once items numbers op what order in
      let refused : one.0 ≢ answers.Done → ⊥ = λ other. (let none = answered.refused_is_not_installed op what one.0 order one.1 other in
      absurd (omega (arith, none, installed_some op log among))) in
      let done : is_answered is_done (by_number answer_in log) op ≡ true = so_answered is_done answers.Done refl op log (one.1
      ∙ ap (λ a. a ∷ []) (is_it one.0 refused)) in
      found_any (λ k. test k.what && is_answered is_done (by_number answer_in log) k.op) op what (rw (on, done) refl) (commands items) order
    where
      not_done : (a : Answer) → is_done a ≡ false → a ≢ answers.Done
      not_done a off same = true≢false (sym (ap is_done same) ∙ off)

      is_it : (a : Answer) → (a ≢ answers.Done → ⊥) → a ≡ answers.Done
      is_it answers.Done not_other = refl
      is_it (answers.Unknown name) not_other = absurd (not_other (not_done (answers.Unknown name) refl))
      is_it (answers.Overlap op) not_other = absurd (not_other (not_done (answers.Overlap op) refl))
      is_it (answers.Import held coming limit) not_other = absurd (not_other (not_done (answers.Import held coming limit) refl))
      is_it (answers.Old newest reads) not_other = absurd (not_other (not_done (answers.Old newest reads) refl))

  covered_by : HandsOn c.names (order_numbered items) u (installs_in log) → is_covered (subject f c items) (by_number answer_in log) u ≡ true
  covered_by on =
      let order = some_order u (order_numbered items on.op) on.plain in
      installed_any (moves not u) on.op order.0 order.1 on.among (sym (ap (is_plain u) order.1) ∙ on.plain)

  pub uncovered : is_covered (subject f c items) (by_number answer_in log) u ≡ false → is_loose c items u log ≡ false
  uncovered off = elim (is_loose c items u log) as (λ b. is_loose c items u log ≡ b → b ≡ false) [
    | true ↦ λ is. absurd (true≢false (sym (covered_by (hands_on c.names (order_numbered items) u _ (installs_in log) is)) ∙ off))
    | false ↦ λ is. refl
  ] refl
