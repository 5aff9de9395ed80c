-- What a move knows of its pieces, and then of its verdict, from phase to phase; and that it sends what is known so.
use Rattle.nf_net.proofs.Words.{◌≡◌, ℕ, Bool, true, false, Some, List, [], ◌∷◌, ◌++◌, map, ap, subst, ◌||◌, unwrap_or, FullCell, Answer, Piece, Msg, op_of}
use Rattle.nf_net.proofs.Words.{Door, Phase, MovePlan, MoveNext, messages_of, destination, put_to, forward_to, answer_of, EachSent, Each, each-append}
use Rattle.nf_net.proofs.Words.{sent-append, Target, Done}
use Rattle.std.proofs.lemmas.Option.{same_Some}
use Rattle.move_op.specs.Phases as phase
use Rattle.move_op.specs.Table as table
use Rattle.move_op.specs.Move.{row}
use Rattle.nf_net.proofs.MoveWays.{Goes as Goes_to, Pushed, Asks, Puts, Way, Begins, Removes, Is_removed, Is_taken, Is_refused, Holds, Releases, move_fits}

-- What is known of a command's piece, of its answer, and of the node to which it moves units.
module _ (Part : ℕ → Piece → Type 0) (Verdict : ℕ → Answer → Type 0) (Goes : ℕ → ℕ → Type 0) where
  -- what is known of a message, by sender and receiver
  abbrev pub Said : ℕ → ℕ → Msg → Type 0
  Said s r (Msg.Piece op piece) = Part op piece
  Said s r (Msg.Put op piece true) = Part op piece × Goes op r
  Said s r (Msg.Put op piece false) = Verdict op Done
  Said s r (Msg.PutOk op) = Verdict op Done
  Said s r (Msg.PutNo op refused) = Verdict op refused.why
  Said s r message = Unit {0}

  -- what is known in a phase: of the pieces, until one asks; and then of the answer
  abbrev pub Knows : ℕ → Phase → Type 0
  Knows op (phase.Streaming frozen free came Door.Shut) = Each (Part op) frozen × Each (Part op) free
  Knows op (phase.Streaming frozen free came (Door.Asked last)) = Unit {0}
  Knows op (phase.Streaming frozen free came Door.Open) = Verdict op Done
  Knows op (phase.Streaming frozen free came (Door.Refused why)) = Verdict op why
  Knows op phase.Freezing = Unit {0}
  Knows op phase.Holding = Verdict op Done
  Knows op phase.Passing = Verdict op Done
  Knows op phase.Ending = Verdict op Done
  Knows op (phase.Restoring why) = Verdict op why
  Knows op (phase.Returning why) = Verdict op why
  Knows op (phase.Undoing why) = Verdict op why
  Knows op (phase.Over why) = Verdict op why

  -- the answer of a move that is over is its verdict
  pub answer_known : (op : ℕ) (ph : Phase) (a : Answer) → Knows op ph → answer_of ph ≡ Some a → Verdict op a
  answer_known op (phase.Over why) a h is = subst (Verdict op) (ap (λ o. unwrap_or o why) is) h
  answer_known op ph a h is = cc

  module _ (plan : MovePlan) where
    pub record Follows (next : MoveNext) : Type 0 where
      pub knows : Knows plan.op next.phase
      pub says : EachSent Said 1 next.sends

    puts : (ps : List Piece) → Verdict plan.op Done → EachSent Said 1 (map (put_to plan false) ps)
    puts [] h = tt
    puts (p ∷ ps) h = (h, puts ps h)

    forwards : (i : ℕ) (cells : List FullCell) → EachSent Said 1 (map (forward_to plan i) cells)
    forwards i [] = tt
    forwards i (c ∷ cells) = (tt, forwards i cells)

    -- the first piece that is frozen is free
    freed : (p : Piece) (frozen free : List Piece) (came : Bool) (d : Door) → Knows plan.op (phase.Streaming (p ∷ frozen) free came d)
        → Knows plan.op (phase.Streaming frozen (free ++ p ∷ []) came d)
    freed p frozen free came Door.Shut h = (h.0.1, each-append (Part plan.op) free (p ∷ []) h.1 (h.0.0, tt))
    freed p frozen free came (Door.Asked last) h = tt
    freed p frozen free came Door.Open h = h
    freed p frozen free came (Door.Refused why) h = h

    -- a piece comes
    frozen_more : (p : Piece) (frozen free : List Piece) (came since : Bool) (d : Door) → Part plan.op p
        → Knows plan.op (phase.Streaming frozen free came d) → Knows plan.op (phase.Streaming (frozen ++ p ∷ []) free since d)
    frozen_more p frozen free came since Door.Shut part h = (each-append (Part plan.op) frozen (p ∷ []) h.0 (part, tt), h.1)
    frozen_more p frozen free came since (Door.Asked last) part h = tt
    frozen_more p frozen free came since Door.Open part h = h
    frozen_more p frozen free came since (Door.Refused why) part h = h

    -- what is known of what a row says: of the piece that asks, and that pieces are put
    abbrev Tells : table.Said FullCell Piece → Type 0
    Tells (table.Ask p) = Part plan.op p
    Tells (table.Put ps) = Verdict plan.op Done
    Tells says = Unit {0}

    push_knows : {ph to : Phase} {says : table.Said FullCell Piece} → Pushed ph to says → Knows plan.op ph → Knows plan.op to × Tells says
    push_knows Asks h = (tt, h.1.0)
    push_knows Puts h = (h, h)
    push_knows push h = (h, tt)

    module _ (there : Goes plan.op (destination plan)) where
      said_known : (says : table.Said FullCell Piece) → Tells says → EachSent Said 1 (messages_of plan says)
      said_known table.Nothing h = tt
      said_known (table.Ask p) h = ((h, there), tt)
      said_known (table.Put ps) h = puts ps h
      said_known (table.Release cells) h =
          sent-append Said 1 (map (forward_to plan plan.to) cells) ((0, Msg.Install plan.op plan.filter plan.from (Target.Instance plan.to)) ∷ [])
          (forwards plan.to cells) (tt, tt)
      said_known (table.Give_back cells) h = sent-append Said 1 (map (forward_to plan plan.from) cells) ((0, Msg.FenceTo plan.op plan.from) ∷ [])
          (forwards plan.from cells) (tt, tt)
      said_known says h = (tt, tt)

      module _ (events : List FullCell) where
        abbrev Known : ℕ → Phase → Msg → Type 0
        Known port ph m = Knows plan.op ph × ((op_of m ≡ Some plan.op) × Said port 1 m)

        way_knows : (port : ℕ) {ph : Phase} {m : Msg} {x : Goes_to} → Way events ph m x → Known port ph m → Knows plan.op x.to × Tells x.says
        way_knows port Begins h = ((tt, tt), tt)
        way_knows port (Removes {a} {b} {came} {d} {op} {p}) h =
            (frozen_more p a b came (came || p.last) d (subst (λ k. Part k p) (same_Some op plan.op h.1.0) h.1.1) h.0, tt)
        way_knows port (Is_removed {p} {a} {b} {came} {d} push) h = push_knows push (freed p a b came d h.0)
        way_knows port (Is_taken {op = op} push) h = push_knows push (subst (λ k. Verdict k Done) (same_Some op plan.op h.1.0) h.1.1)
        way_knows port (Is_refused {op = op} {refused = refused} push) h =
            push_knows push (subst (λ k. Verdict k refused.why) (same_Some op plan.op h.1.0) h.1.1)
        way_knows port (Holds {op = op} put) h = (subst (λ k. Verdict k Done) (same_Some op plan.op h.1.0) h.1.1, tt)
        way_knows port (Releases {op = op} put) h = (subst (λ k. Verdict k Done) (same_Some op plan.op h.1.0) h.1.1, tt)
        way_knows port way h = (h.0, tt)

        -- what a move knows after a row, and what the row sends
        pub row_follows : (ph : Phase) (port : ℕ) (message : Msg) → Knows plan.op ph → op_of message ≡ Some plan.op → Said port 1 message
            → Follows (row (record { plan = plan; phase = ph }) events port message).next
        row_follows ph port message h own label = move_fits plan events (λ q m r. Known port q m → Follows r.next) (λ q m x way known.
            let all = way_knows port way known in record { knows = all.0; says = said_known x.says all.1 }) ph port message (h, (own, label))
