-- The controller's step on each message of an operation's number is that of the network with shares: what the operation under the number is
-- told, and nothing where there is none or a copy.
use Rattle.proof_outlines.proofs.Words.{◌≡◌, ℕ, ◌<◌, Option, Some, None, List, [], map, length, refl, sym, ap, ◌∙◌, subst, append-nil, ◌==◌, option_map, Packet}
use Rattle.proof_outlines.proofs.Words.{Site, Chunk, Semantics, spelled, FullCell, stored_of, Msg, MoveState, ShareState, Operation, Move, Copy, Share}
use Rattle.proof_outlines.proofs.Words.{ControllerState, hand_step, Sys, Open, ControllerMove, everything, find_op, found, num_of, numbered, Any, ShareMsg, Old}
use Rattle.proof_outlines.proofs.Words.{New, Sharing, OpenShare, find_share, Told, Is_fenced, Has_chunks, Has_chunk, Is_synced, share_row, as_old, told_by}
use Rattle.proof_outlines.proofs.Words.{by_share, old_step, Each, by_if, Unit, MoveMsg}
use Rattle.std.specs.FinMap as finite
use Rattle.move_op.specs.Move as move
use Rattle.copy_share.specs.Share as share
use Rattle.proof_machines.proofs.unit.Real as real
use Rattle.proof_machines.proofs.net.Net as net
use Rattle.proof_outlines.proofs.outline.Outline.{number, entries, sys}
use Rattle.proof_outlines.proofs.outline.InstanceOutline.{IsGenuine}
use Rattle.proof_outlines.proofs.outline.MoveOutline.{outline_plan, outline_phase, RowFollows}
use Rattle.proof_outlines.proofs.whole.WholeOutline.{sharing}
use Rattle.proof_outlines.proofs.whole.ShareOutline.{outline_share, ShareFollows, fenced_rows, chunks_rows, shared_rows, synced_rows}
use Rattle.proof_outlines.proofs.whole.OpenShares.{but_shares, share_in, IsUnseen, SeesAny, OpensAll, no_op, no_open_share, both, joins, all_step, StepFollows}
use Rattle.proof_outlines.proofs.whole.ShareTurns.{share_handed, share_quiet}
use Rattle.proof_outlines.proofs.whole.OtherTurns.{Same, none_handed, copy_handed, move_quiet, move_handed}

-- a message that a move doesn't look at
pub unlooked : (mv : MoveState) (events : List FullCell) (port : ℕ) (m : Msg)
    → move.from_source mv.plan mv.phase events m ≡ move.keeps (move.next_phase mv.phase [])
    → move.from_destination mv.plan mv.phase events m ≡ move.keeps (move.next_phase mv.phase [])
    → move.row mv events port m ≡ move.keeps (move.next_phase mv.phase [])
unlooked mv events port m a b = by_if (λ r. r ≡ move.keeps (move.next_phase mv.phase [])) (port == move.source mv.plan) a
    (by_if (λ r. r ≡ move.keeps (move.next_phase mv.phase [])) (port == move.destination mv.plan) b refl)

module _ {R : Type 0} (f : Semantics R) (at : Site) (packet : ℕ → Packet) (place : List ℕ → Option ℕ) (c : ControllerState) (ops : List (Open R))
    (shares : List OpenShare) (h : OpensAll f place at ops shares c) (n : ℕ) where
  abbrev S : Sys R
  S = sys f at packet

  abbrev A : Sharing S
  A = sharing f at packet

  abbrev cells : List FullCell
  cells = stored_of c.store n

  abbrev pub Follows : ℕ → Msg → Any R → Type 0
  Follows port m a = StepFollows f at packet place (hand_step c n port m) (all_step f at packet place ops shares port a)

  -- what an abstract message does to the move and to the share of the number, and what the real one does
  record Handles (port : ℕ) (m : Msg) (a : Any R) : Type 0 where
    moved : Option (Open R) → ControllerMove R
    told : Option OpenShare → Option (OpenShare × Told R)
    moved_none : moved None ≡ record { ops = ops; sends = [] }
    told_none : told None ≡ None
    old_is : old_step S A ops port a ≡ moved (find_op ops n)
    told_is : told_by S A shares a ≡ told (find_share shares n)
    of_move : (mv : MoveState) → finite.get c.operations n ≡ Some (Move mv) → StepFollows f at packet place (hand_step c n port m)
        (record { ops = (moved (find_op ops n)).ops; shares = shares; sends = as_old (moved (find_op ops n)).sends })
    of_share : (s : ShareState) → finite.get c.operations n ≡ Some (Share s) → StepFollows f at packet place (hand_step c n port m) (record {
      ops = ops;
      shares = (by_share S A shares port (told (find_share shares n))).shares;
      sends = (by_share S A shares port (told (find_share shares n))).sends;
    })

  none_open : (p : Option Operation) → finite.get c.operations n ≡ p → IsUnseen (but_shares p) → find_op ops n ≡ None
  none_open p there unseen = no_op f place at (find_op ops n) (find_share shares n) p cells unseen
      (subst (λ q. SeesAny f place at (find_op ops n) (find_share shares n) q cells) there (h n))

  none_shared : (p : Option Operation) → finite.get c.operations n ≡ p → share_in p ≡ None → find_share shares n ≡ None
  none_shared p there unseen = no_open_share f place at (find_op ops n) (find_share shares n) p cells unseen
      (subst (λ q. SeesAny f place at (find_op ops n) (find_share shares n) q cells) there (h n))

  module _ (port : ℕ) (m : Msg) (a : Any R) (by : Handles port m a) where
    abbrev Joined : ControllerMove R → Option (OpenShare × Told R) → Type 0
    Joined did told = StepFollows f at packet place (hand_step c n port m) (joins f at packet place did (by_share S A shares port told))

    from_joined : Joined (by.moved (find_op ops n)) (by.told (find_share shares n)) → Follows port m a
    from_joined j = subst (λ did. Joined did (told_by S A shares a)) (sym by.old_is) (subst (Joined (by.moved (find_op ops n))) (sym by.told_is) j)

    -- nothing is told to a share
    moves_alone : find_share shares n ≡ None → StepFollows f at packet place (hand_step c n port m)
        (record { ops = (by.moved (find_op ops n)).ops; shares = shares; sends = as_old (by.moved (find_op ops n)).sends })
        → Follows port m a
    moves_alone none s = from_joined (subst (Joined (by.moved (find_op ops n))) (sym (ap by.told none ∙ by.told_none))
        (record { opens = s.opens; sends = s.sends ∙ sym (append-nil (as_old (by.moved (find_op ops n)).sends)) }))

    -- no move is open
    shares_alone : find_op ops n ≡ None → StepFollows f at packet place (hand_step c n port m) (record {
      ops = ops;
      shares = (by_share S A shares port (by.told (find_share shares n))).shares;
      sends = (by_share S A shares port (by.told (find_share shares n))).sends;
    })
        → Follows port m a
    shares_alone none s = from_joined (subst (λ did. Joined did (by.told (find_share shares n))) (sym (ap by.moved none ∙ by.moved_none))
        (record { opens = s.opens; sends = s.sends }))

    neither : find_op ops n ≡ None → find_share shares n ≡ None → Same f at packet place c ops shares h n (hand_step c n port m) → Follows port m a
    neither none unshared s = shares_alone none (subst (λ t. StepFollows f at packet place (hand_step c n port m)
        (record { ops = ops; shares = (by_share S A shares port t).shares; sends = (by_share S A shares port t).sends }))
        (sym (ap by.told unshared ∙ by.told_none)) s)

    handled : Follows port m a
    handled = by_got (finite.get c.operations n) refl
      where
        by_got : (p : Option Operation) → finite.get c.operations n ≡ p → Follows port m a
        by_got None there = neither (none_open None there tt) (none_shared None there refl) (none_handed f at packet place c ops shares h n port m there)
        by_got (Some (Copy y)) there = neither (none_open (Some (Copy y)) there tt) (none_shared (Some (Copy y)) there refl)
            (copy_handed f at packet place c ops shares h n y there port m)
        by_got (Some (Move mv)) there = moves_alone (none_shared (Some (Move mv)) there refl) (by.of_move mv there)
        by_got (Some (Share s)) there = shares_alone (none_open (Some (Share s)) there tt) (by.of_share s there)

  -- what is told to a share of a run
  told_share : (port : ℕ) (m : Msg) (told : Told R) (s : ShareState) → finite.get c.operations n ≡ Some (Share s) → (s.plan.site ≡ at
      → 0 < length s.plan.members → ShareFollows f at packet place s.plan cells (share.row s port m) (share_row S A (outline_share s cells) port told))
      → StepFollows f at packet place (hand_step c n port m) (record {
        ops = ops;
        shares = (by_share S A shares port (option_map (λ e. (e, told)) (find_share shares n))).shares;
        sends = (by_share S A shares port (option_map (λ e. (e, told)) (find_share shares n))).sends;
      })
  told_share port m told s there rows =
      let b = both f place at ops shares c n s h there in
      let follows : ShareFollows f at packet place s.plan cells (share.row s port m) (share_row S A b.e port told) = subst
      (λ e. ShareFollows f at packet place s.plan cells (share.row s port m) (share_row S A e port told)) (sym b.sees.is) (rows b.sees.site b.sees.some) in
      subst (λ o. StepFollows f at packet place (hand_step c n port m) (record {
        ops = ops;
        shares = (by_share S A shares port (option_map (λ e. (e, told)) o)).shares;
        sends = (by_share S A shares port (option_map (λ e. (e, told)) o)).sends;
      })) (sym b.there)
      (share_handed f at packet place c ops shares h n s there b.e b.there b.sees port m told follows)

  quiet_share : (port : ℕ) (m : Msg) (s : ShareState) → finite.get c.operations n ≡ Some (Share s) → share.row s port m ≡ share.next_phase s.phase []
      → Same f at packet place c ops shares h n (hand_step c n port m)
  quiet_share port m s there quiet =
      let b = both f place at ops shares c n s h there in share_quiet f at packet place c ops shares h n s there b.e b.there b.sees port m quiet

  -- a move under the number, and what the abstract one does with the message
  abbrev pub MoveRows : ℕ → Msg → MoveMsg R → Type 0
  MoveRows port m pm = (mv : MoveState) → finite.get c.operations n ≡ Some (Move mv) → RowFollows f place mv.plan cells (move.row mv cells port m)
      (net.row_of (outline_plan mv.plan) (outline_phase f place mv.phase) (map number cells) port pm)

  -- A message that moves look at, and no share.
  pub old_follows : (port : ℕ) (m : Msg) (pm : MoveMsg R) → num_of pm ≡ Some n → told_by S A shares (Old (net.Of_move everything pm)) ≡ None
      → MoveRows port m pm → ((s : ShareState) → share.row s port m ≡ share.next_phase s.phase []) → Follows port m (Old (net.Of_move everything pm))
  old_follows port m pm num untold rows quiet = handled port m (Old (net.Of_move everything pm)) (record {
    moved = λ o. found ops n port pm o;
    told = λ o. None;
    moved_none = refl;
    told_none = refl;
    old_is = ap (numbered ops port pm) num;
    told_is = untold;
    of_move = λ mv there. move_handed f at packet place c ops shares h n mv there port m pm (rows mv there);
    of_share = λ s there. quiet_share port m s there (quiet s);
  })

  -- A fence's answer, at which both may look.
  pub fenced_follows : (port : ℕ) → Each (IsGenuine at packet) cells → MoveRows port (Msg.Fenced n) (MoveMsg.Fenced n)
      → Follows port (Msg.Fenced n) (Old (net.Of_move everything (MoveMsg.Fenced n)))
  fenced_follows port genuine rows = handled port (Msg.Fenced n) (Old (net.Of_move everything (MoveMsg.Fenced n))) (record {
    moved = λ o. found ops n port (MoveMsg.Fenced n) o;
    told = λ o. option_map (λ e. (e, Is_fenced)) o;
    moved_none = refl;
    told_none = refl;
    old_is = refl;
    told_is = refl;
    of_move = λ mv there. move_handed f at packet place c ops shares h n mv there port (Msg.Fenced n) (MoveMsg.Fenced n) (rows mv there);
    of_share = λ s there. told_share port (Msg.Fenced n) Is_fenced s there (λ is some. fenced_rows f at packet place s cells port is some genuine n);
  })

  -- open moves aren't over
  abbrev pub Going : Type 0
  Going = (mv : MoveState) → finite.get c.operations n ≡ Some (Move mv) → move.answer_of mv.phase ≡ None

  unmoved : (port : ℕ) (m : Msg) (mv : MoveState) → Going → finite.get c.operations n ≡ Some (Move mv)
      → ((events : List FullCell) → move.row mv events port m ≡ move.keeps (move.next_phase mv.phase []))
      → Same f at packet place c ops shares h n (hand_step c n port m)
  unmoved port m mv going there quiet = move_quiet f at packet place c ops shares h n mv there port m (going mv there) (quiet (stored_of c.store mv.plan.op))

  -- A message that a share looks at, and no move.
  told_follows : (port : ℕ) (m : Msg) (x : ShareMsg R) (told : Told R)
      → told_by S A shares (New x) ≡ option_map (λ e. (e, told)) (find_share shares n) → Going
      → ((mv : MoveState) (events : List FullCell) → move.row mv events port m ≡ move.keeps (move.next_phase mv.phase []))
      → ((s : ShareState) → s.plan.site ≡ at → 0 < length s.plan.members
      → ShareFollows f at packet place s.plan cells (share.row s port m) (share_row S A (outline_share s cells) port told))
      → Follows port m (New x)
  told_follows port m x told same going quiet rows = handled port m (New x) (record {
    moved = λ o. record { ops = ops; sends = [] };
    told = λ o. option_map (λ e. (e, told)) o;
    moved_none = refl;
    told_none = refl;
    old_is = refl;
    told_is = same;
    of_move = λ mv there. unmoved port m mv going there (quiet mv);
    of_share = λ s there. told_share port m told s there (rows s);
  })

  pub chunks_follows : (port : ℕ) (chunks : List Chunk) → Each (IsGenuine at packet) cells → Going
      → Follows port (Msg.Chunks n chunks) (New (ShareMsg.Chunks n (entries f chunks)))
  chunks_follows port chunks genuine going =
      told_follows port (Msg.Chunks n chunks) (ShareMsg.Chunks n (entries f chunks)) (Has_chunks (entries f chunks)) refl going
      (λ mv events. unlooked mv events port (Msg.Chunks n chunks) refl refl)
      (λ s is some. chunks_rows f at packet place s cells port is some genuine n chunks)

  pub shared_follows : (port : ℕ) (chunk : Chunk) (entry : Unit × R) → spelled f chunk ≡ Some entry → Each (IsGenuine at packet) cells → Going
      → Follows port (Msg.Shared n chunk) (New (ShareMsg.Shared n entry))
  shared_follows port chunk entry spells genuine going =
      told_follows port (Msg.Shared n chunk) (ShareMsg.Shared n entry) (Has_chunk entry) refl going
      (λ mv events. unlooked mv events port (Msg.Shared n chunk) refl refl)
      (λ s is some. shared_rows f at packet place s cells port is some genuine n chunk entry spells)

  pub synced_follows : (port : ℕ) → Each (IsGenuine at packet) cells → Going → Follows port (Msg.Synced n) (New (ShareMsg.Synced n))
  synced_follows port genuine going = told_follows port (Msg.Synced n) (ShareMsg.Synced n) Is_synced refl going
      (λ mv events. unlooked mv events port (Msg.Synced n) refl refl)
      (λ s is some. synced_rows f at packet place s cells port is some genuine n)

  -- A message that neither looks at: of a copy, which neither sees.
  pub hidden_follows : (port : ℕ) (m : Msg) → Going
      → ((mv : MoveState) (events : List FullCell) → move.row mv events port m ≡ move.keeps (move.next_phase mv.phase []))
      → ((s : ShareState) → share.row s port m ≡ share.next_phase s.phase []) → Same f at packet place c ops shares h n (hand_step c n port m)
  hidden_follows port m going unmoves unshares = by_got (finite.get c.operations n) refl
    where
      by_got : (p : Option Operation) → finite.get c.operations n ≡ p → Same f at packet place c ops shares h n (hand_step c n port m)
      by_got None there = none_handed f at packet place c ops shares h n port m there
      by_got (Some (Copy y)) there = copy_handed f at packet place c ops shares h n y there port m
      by_got (Some (Move mv)) there = unmoved port m mv going there (unmoves mv)
      by_got (Some (Share s)) there = quiet_share port m s there (unshares s)

  pub all_chunk_follows : (port : ℕ) (chunk : Chunk) → Going → Same f at packet place c ops shares h n (hand_step c n port (Msg.AllChunk n chunk))
  all_chunk_follows port chunk going =
      hidden_follows port (Msg.AllChunk n chunk) going (λ mv events. unlooked mv events port (Msg.AllChunk n chunk) refl refl) (λ s. refl)

  pub kept_follows : (port : ℕ) → Going → Same f at packet place c ops shares h n (hand_step c n port (Msg.Kept n))
  kept_follows port going = hidden_follows port (Msg.Kept n) going (λ mv events. unlooked mv events port (Msg.Kept n) refl refl) (λ s. refl)
