-- What a move's row sends and leaves to do weighs less than the message that it takes and what there was to do.
use Rattle.nf_net.proofs.Words.{◌≡◌, ℕ, ◌+◌, ◌*◌, ◌≤◌, false, List, [], ◌∷◌, ◌++◌, map, refl, arith, unwrap_or, FullCell, Piece, Msg, switch_node, Door, Phase}
use Rattle.nf_net.proofs.Words.{Put, Release, Give_back, MovePlan, MoveNext, MoveRow, messages_of, put_to, forward_to, weigh, weigh-append}
use Rattle.switch_rules.specs.declared.target.Target.TheVariants.{Instance}
use Rattle.move_op.specs.Table.{Said}
use Rattle.move_op.specs.Move.{row}
use Rattle.nf_net.proofs.MoveWays.{Goes, Pushed, Puts, Way, Stays, Stores, Removes, Is_removed, Is_taken, Is_refused, Holds, Releases, Is_last, Is_open}
use Rattle.nf_net.proofs.MoveWays.{move_fits}
use Rattle.nf_net.proofs.length.Weights.{of_piece, streaming, of_move, kept, weight, some, cost}

module _ (o : ℕ) (plan : MovePlan) where
  -- what a row weighs: what it sends, its phase, and what is then kept for the move
  abbrev pub next_costs : MoveNext → ℕ
  next_costs next = cost o next.sends + of_move next.phase

  abbrev pub row_costs : List FullCell → MoveRow → ℕ
  row_costs events r = next_costs r.next + kept o (unwrap_or r.stored events)

  -- a phase with less to put
  streaming_more : (d : Door) (few many : ℕ) → few ≤ many → streaming d few ≤ streaming d many
  streaming_more Door.Shut few many h = omega (arith, h)
  streaming_more (Door.Asked last) few many h = omega (arith, h)
  streaming_more Door.Open few many h = omega (arith, h)
  streaming_more (Door.Refused why) few many h = omega arith

  streaming_one : (d : Door) (one few : ℕ) → streaming d (one + few) ≤ one + streaming d few
  streaming_one Door.Shut one few = omega arith
  streaming_one (Door.Asked last) one few = omega arith
  streaming_one Door.Open one few = omega arith
  streaming_one (Door.Refused why) one few = omega arith

  puts : (ps : List Piece) → cost o (map (put_to plan false) ps) ≡ weigh of_piece ps
  puts [] = refl
  puts (p ∷ ps) = let rest = puts ps in omega (arith, rest)

  forwards : (i : ℕ) (cells : List FullCell) (behind : List (ℕ × Msg)) → cost o (map (forward_to plan i) cells ++ behind) ≤ kept o cells + cost o behind
  forwards i [] behind = omega arith
  forwards i (c ∷ cells) behind = let rest = forwards i cells behind in omega (arith, rest)

  -- what is said weighs at most so much
  abbrev says_costs : Said FullCell Piece → ℕ
  says_costs (Put ps) = weigh of_piece ps
  says_costs (Release cells) = kept o cells + 3
  says_costs (Give_back cells) = kept o cells + 3
  says_costs says = cost o (messages_of plan says)

  said_costs : (says : Said FullCell Piece) → cost o (messages_of plan says) ≤ says_costs says
  said_costs (Put ps) = let all = puts ps in omega (arith, all)
  said_costs (Release cells) = forwards plan.to cells ((switch_node, Msg.Install plan.op plan.filter plan.from (Instance plan.to)) ∷ [])
  said_costs (Give_back cells) = forwards plan.from cells ((switch_node, Msg.FenceTo plan.op plan.from) ∷ [])
  said_costs says = omega arith

  push_costs : {ph to : Phase} {says : Said FullCell Piece} → Pushed ph to says → says_costs says + of_move to ≤ of_move ph
  push_costs Puts = omega arith
  push_costs push = omega arith

  module _ (events : List FullCell) where
    abbrev Falls : Phase → Msg → MoveRow → Type 0
    Falls ph m r = row_costs events r + 1 ≤ of_move ph + kept o events + weight o m

    way_falls : {ph : Phase} {m : Msg} {x : Goes} → Way events ph m x
        → says_costs x.says + of_move x.to + kept o (unwrap_or x.stored events) + 1 ≤ of_move ph + kept o events + weight o m
    way_falls (Stays {ph} {m}) = let one = some o m in omega (arith, one)
    way_falls (Stores {ph} {op} {cell}) = let both = weigh-append (λ c. 4 + 2 * o) events (cell ∷ []) in omega (arith, both)
    way_falls (Removes {a} {b} {came} {d} {op} {p}) =
        let more = streaming_more d (weigh of_piece (a ++ p ∷ []) + weigh of_piece b) (of_piece p + (weigh of_piece a + weigh of_piece b))
        (omega (arith, weigh-append of_piece a (p ∷ []))) in
        omega (arith, more, streaming_one d (of_piece p) (weigh of_piece a + weigh of_piece b))
    way_falls (Is_removed {p} {a} {b} {came} {d} push) =
        let both = weigh-append of_piece b (p ∷ []) in
        let more = streaming_more d (weigh of_piece a + weigh of_piece (b ++ p ∷ [])) (weigh of_piece (p ∷ a) + weigh of_piece b) (omega (arith, both)) in
        omega (arith, push_costs push, more)
    way_falls (Is_taken push) = let less = push_costs push in omega (arith, less)
    way_falls (Is_refused push) = let less = push_costs push in omega (arith, less)
    way_falls (Holds Is_last) = omega arith
    way_falls (Holds Is_open) = omega arith
    way_falls (Releases Is_last) = omega arith
    way_falls (Releases Is_open) = omega arith
    way_falls way = omega arith

    -- each row of a move
    pub move_falls : (ph : Phase) (port : ℕ) (m : Msg) → Falls ph m (row (record { plan = plan; phase = ph }) events port m)
    move_falls = move_fits plan events Falls (λ ph m x way. let sent = said_costs x.says in let less = way_falls way in omega (arith, sent, less))
