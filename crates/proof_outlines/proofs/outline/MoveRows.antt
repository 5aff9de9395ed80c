-- What holds of all that the words of a move come to holds of its row on any message. So what holds of each message that a move may send holds of
-- all that it sends.
use Rattle.proof_machines.proofs.EachLaws.{each_any}
use Rattle.proof_outlines.proofs.Words.{◌≡◌, ℕ, Bool, true, false, List, [], ◌∷◌, ◌++◌, map, refl, ◌==◌, Each, FullCell, Answer, Piece, Msg, Phase, Said}
use Rattle.proof_outlines.proofs.Words.{Nothing, Put, Release, Give_back, MovePlan, MoveNext, MoveRow, put_back, source, destination, put_to, forward_to}
use Rattle.proof_outlines.proofs.Words.{messages_of, words, from_source, from_destination, row, by_if, Target}
use Rattle.proof_machines.proofs.unit.TableRows.{PhaseHas, Hold, stays, event_holds, source_enabled_holds, piece_holds, deleted_holds, restored_holds}
use Rattle.proof_machines.proofs.unit.TableRows.{source_fenced_holds, put_ok_holds, put_no_holds, destination_enabled_holds, destination_fenced_holds, Any}
use Rattle.proof_machines.proofs.unit.TableRows.{any_phase}

-- what a message of the source brings, and one of the destination
abbrev pub Brings : (FullCell → Type 0) → (Piece → Type 0) → Msg → Type 0
Brings Is Fits (Msg.Event op cell) = Is cell
Brings Is Fits (Msg.Piece op p) = Fits p
Brings Is Fits m = Unit {0}

abbrev pub BringsBack : (Piece → Type 0) → (Answer → Type 0) → Msg → Type 0
BringsBack Fits Why (Msg.PutNo op refused) = Why refused.why × ((last : Bool) → Fits (put_back refused.chunks last))
BringsBack Fits Why m = Unit {0}

module _ {plan : MovePlan} {Is : FullCell → Type 0} {Fits : Piece → Type 0} {Why : Answer → Type 0} {End : Answer → Type 0}
    {Leads : MoveNext → Type 0} {Gives : MoveRow → Type 0} (h : Hold (words plan) Is Fits Why End Leads Gives)
    (events : List FullCell) (all : Each Is events) (ph : Phase) (has : PhaseHas Fits Why End ph) where
  from_source_holds : (m : Msg) → Brings Is Fits m → Gives (from_source plan ph events m)
  from_source_holds (Msg.Event op cell) is = event_holds h events all cell is ph has
  from_source_holds (Msg.Enabled op) is = source_enabled_holds h events all ph has
  from_source_holds (Msg.Piece op p) is = h.keeps (piece_holds h p is ph has)
  from_source_holds (Msg.Deleted op) is = h.keeps (deleted_holds h ph has)
  from_source_holds (Msg.Restored op) is = h.keeps (restored_holds h ph has)
  from_source_holds (Msg.Fenced op) is = h.keeps (source_fenced_holds h ph has)
  from_source_holds m is = h.keeps (stays h ph has)

  from_destination_holds : (m : Msg) → BringsBack Fits Why m → Gives (from_destination plan ph events m)
  from_destination_holds (Msg.PutOk op) is = put_ok_holds h events all ph has
  from_destination_holds (Msg.PutNo op refused) is = h.keeps (put_no_holds h refused.why (put_back refused.chunks) is.0 is.1 ph has)
  from_destination_holds (Msg.Enabled op) is = destination_enabled_holds h events all ph has
  from_destination_holds (Msg.Fenced op) is = h.keeps (destination_fenced_holds h ph has)
  from_destination_holds m is = h.keeps (stays h ph has)

  pub row_holds : (port : ℕ) (m : Msg) → Brings Is Fits m → BringsBack Fits Why m → Gives (row (record { plan = plan; phase = ph }) events port m)
  row_holds port m is back =
      by_if Gives (port == source plan) (from_source_holds m is)
      (by_if Gives (port == destination plan) (from_destination_holds m back) (h.keeps (stays h ph has)))

brings_any : (m : Msg) → Brings (Any FullCell) (Any Piece) m
brings_any (Msg.Event op cell) = tt
brings_any (Msg.Piece op p) = tt
brings_any m = tt

brings_back_any : (m : Msg) → BringsBack (Any Piece) (Any Answer) m
brings_back_any (Msg.PutNo op refused) = (tt, λ last. tt)
brings_back_any m = tt

-- what holds of the messages of each word
pub row_sends : (Sent : List (ℕ × Msg) → Type 0) (plan : MovePlan) → ((says : Said FullCell Piece) → Sent (messages_of plan says))
    → (ph : Phase) (events : List FullCell) (port : ℕ) (m : Msg) → Sent (row (record { plan = plan; phase = ph }) events port m).next.sends
row_sends Sent plan sent ph events port m =
    let Leads : MoveNext → Type 0 = λ next. Sent next.sends in
    let Gives : MoveRow → Type 0 = λ r. Sent r.next.sends in
    let h : Hold (words plan) (Any FullCell) (Any Piece) (Any Answer) (Any Answer) Leads Gives =
    record { done = tt; refused = λ why x. tt; next = λ phase says x y. sent says; keeps = λ s. s; stores = λ ps all s. s } in
    row_holds h events (each_any events) ph (any_phase ph) port m (brings_any m) (brings_back_any m)

-- a message that a move may send
abbrev pub is_of_move : Msg → Bool
is_of_move (Msg.Enable op filter action) = true
is_of_move (Msg.Stream op filter) = true
is_of_move (Msg.Delete op units) = true
is_of_move (Msg.Put op piece first) = true
is_of_move (Msg.Restore op chunks) = true
is_of_move (Msg.Forward to mark parcel) = true
is_of_move (Msg.Install op filter from to) = true
is_of_move (Msg.FenceTo op to) = true
is_of_move m = false

module _ (Is : Msg → Type 0) (of_move : (m : Msg) → is_of_move m ≡ true → Is m) (plan : MovePlan) where
  abbrev AreSent : List (ℕ × Msg) → Type 0
  AreSent sends = Each (λ x. Is x.1) sends

  puts_sent : (ps : List Piece) → AreSent (map (put_to plan false) ps)
  puts_sent [] = tt
  puts_sent (p ∷ ps) = (of_move (Msg.Put plan.op p false) refl, puts_sent ps)

  forwards_sent : (to : ℕ) (cells : List FullCell) (m : Msg) → is_of_move m ≡ true → AreSent (map (forward_to plan to) cells ++ (0, m) ∷ [])
  forwards_sent to [] m is = (of_move m is, tt)
  forwards_sent to (c ∷ cells) m is = (of_move (forward_to plan to c).1 refl, forwards_sent to cells m is)

  said_sent : (says : Said FullCell Piece) → AreSent (messages_of plan says)
  said_sent Nothing = tt
  said_sent (Put ps) = puts_sent ps
  said_sent (Release cells) = forwards_sent plan.to cells (Msg.Install plan.op plan.filter plan.from (Target.Instance plan.to)) refl
  said_sent (Give_back cells) = forwards_sent plan.from cells (Msg.FenceTo plan.op plan.from) refl
  said_sent says = (of_move _ refl, tt)

  pub all_sent : (ph : Phase) (events : List FullCell) (port : ℕ) (m : Msg) → AreSent (row (record { plan = plan; phase = ph }) events port m).next.sends
  all_sent = row_sends AreSent plan said_sent
