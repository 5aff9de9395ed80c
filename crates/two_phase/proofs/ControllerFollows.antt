-- The step of the real controller is that of the reduced one.
use Rattle.two_phase.proofs.Words.{◌≡◌, ℕ, zero, suc, Bool, true, false, Option, Some, List, [], ◌∷◌, ◌++◌, refl, sym, ap, subst, ◌∙◌, arith}
use Rattle.two_phase.proofs.Words.{if◌then◌else◌, ◌==◌, ◌&&◌, ◌||◌, not, false≢true, nat_tests, FullCell, TwoMsg, ControllerState, Step, still, the_update}
use Rattle.two_phase.proofs.Words.{forward_messages, controller_row, read, flat_map-append}
use Rattle.std.specs.List.{AllZip}
use Rattle.nf_msgs.specs.declared.msg.Msg.TheVariants as msg
use Rattle.two_phase.specs.declared.msg.TwoMsg.TheVariants as two
use Rattle.two_phase.specs.declared.note.TwoNote.TheVariants as note
use Rattle.two_phase.specs.Tables.{tell_step, and_then, on_start, on_enabled, on_chunks, on_deleted, on_restored, is_storing, on_laid, on_copied, on_fenced}
use Rattle.two_phase.specs.Tables.{on_final, are_same, soon, is_over, finish_step, controller_step}
use Rattle.two_machine.proofs.Machine.{Phase, Idle, Freezing, Getting, Deleting, Putting, Holding, Laying, Waiting, Turning, Settling, Ending, Over, same}
use Rattle.two_machine.proofs.Tables as core
use Rattle.two_phase.proofs.AlikeLists.{alike-append}
use Rattle.two_phase.proofs.RecordLaws.{Sound, Setting, sys, chunks, no_chunks}
use Rattle.two_phase.proofs.Outlines
use Rattle.two_phase.proofs.Outlines.{outline_note, IsGenuine, Shown, ShownTo, Sends, real_ctrl, ControllerShows, phase_shown}

-- Fenced comes from the destination alone, and Final from an instance
abbrev pub is_proper : {C : Type 0} → ℕ → core.Msg C → Bool
is_proper port core.Fenced = port == 3
is_proper port core.Final = (port == 2) || (port == 3)
is_proper port m = true

module _ {R : Type 0} (setting : Setting R) where
  open setting use {f, filter}

  abbrev CoreStep : Type 0
  CoreStep = core.Step (sys setting) (core.Ctrl (Sound f))

  pub record FollowsController (did : Step ControllerState) (dd : core.Step (sys setting) (core.Ctrl (Sound f))) : Type 0 where
    pub node : ControllerShows setting did.node dd.node
    pub sends : Sends setting did.sends dd.sends
    pub notes : read outline_note did.notes ≡ dd.notes

  follows : {did : Step ControllerState} {dd : core.Step (sys setting) (core.Ctrl (Sound f))} (cells : List FullCell)
      → did.node ≡ real_ctrl setting cells dd.node → AllZip (IsGenuine setting) cells dd.node.store → Sends setting did.sends dd.sends
      → read outline_note did.notes ≡ dd.notes → FollowsController did dd
  follows cells is store sends notes = record { node = record { cells = cells; store = store; is = is }; sends = sends; notes = notes }

  then_follows : (one : Step ControllerState) (dd : CoreStep) (next : ControllerState → Step ControllerState) (core_next : core.Ctrl (Sound f) → CoreStep)
      → FollowsController one dd → FollowsController (next one.node) (core_next dd.node)
      → FollowsController (and_then one next) (core.and_then (sys setting) dd core_next)
  then_follows one dd next core_next h k = record {
    node = k.node;
    sends = alike-append (ShownTo setting) one.sends dd.sends (next one.node).sends (core_next dd.node).sends h.sends k.sends;
    notes =
        flat_map-append outline_note one.notes (next one.node).notes
        ∙ ap (λ xs. xs ++ read outline_note (next one.node).notes) h.notes
        ∙ ap (λ xs. dd.notes ++ xs) k.notes;
  }

  module _ (cells : List FullCell) (d : core.Ctrl (Sound f)) (g : AllZip (IsGenuine setting) cells d.store) where
    abbrev c : ControllerState
    c = real_ctrl setting cells d

    still_follows : FollowsController (still c) (core.still (sys setting) d)
    still_follows = follows cells refl g tt refl

    start_follows : (ph : Phase) → FollowsController (on_start (phase_shown ph) c) (core.on_start (sys setting) ph d)
    start_follows Idle = follows cells refl g ((refl, Outlines.Enable_drop), tt) refl
    start_follows ph = still_follows

    all_forward : (cells : List FullCell) (ns : List ℕ) → AllZip (IsGenuine setting) cells ns
        → Sends setting (forward_messages cells) (core.forwards (sys setting) ns)
    all_forward [] [] g = tt
    all_forward (cell ∷ cells) (n ∷ ns) g = ((refl, Outlines.Forward cell n g.0), all_forward cells ns g.1)
    all_forward x y g = absurd g

    enabled_follows : (ph : Phase) → FollowsController (on_enabled (phase_shown ph) c) (core.on_enabled (sys setting) ph d)
    enabled_follows Freezing = follows cells refl g ((refl, Outlines.Get), tt) refl
    enabled_follows Holding =
        follows [] refl tt
        (alike-append (ShownTo setting) (forward_messages cells) (core.forwards (sys setting) d.store) ((0, two.Lay false) ∷ []) ((0, core.Lay false) ∷ [])
        (all_forward cells d.store g) ((refl, Outlines.Lay false), tt))
        refl
    enabled_follows ph = still_follows

    chunks_follow : (ph : Phase) (cs : Sound f) → FollowsController (on_chunks (phase_shown ph) c (chunks setting cs)) (core.on_chunks (sys setting) ph d cs)
    chunks_follow Getting cs = follows cells refl g ((refl, Outlines.Delete cs), tt) refl
    chunks_follow ph cs = still_follows

    deleted_follows : (ph : Phase) → FollowsController (on_deleted (phase_shown ph) c) (core.on_deleted (sys setting) ph d)
    deleted_follows Deleting =
        follows cells (ap (λ ks. record c { phase = phase_shown Putting; kept = ks }) (no_chunks setting)) g ((refl, Outlines.Restore d.kept), tt) refl
    deleted_follows ph = still_follows

    restored_follows : (ph : Phase) → FollowsController (on_restored (phase_shown ph) c) (core.on_restored (sys setting) ph d)
    restored_follows Putting = follows cells refl g ((refl, Outlines.Enable_buffer), tt) refl
    restored_follows ph = still_follows

    stored : (cell : FullCell) (n : ℕ) → IsGenuine setting cell n
        → FollowsController (still (record c { store = cells ++ cell ∷ [] })) (core.stored (sys setting) d n)
    stored cell n k = follows (cells ++ cell ∷ []) refl (alike-append (IsGenuine setting) cells d.store (cell ∷ []) (n ∷ []) g (k, tt)) tt refl

    event_follows : (ph : Phase) (cell : FullCell) (n : ℕ) → IsGenuine setting cell n
        → FollowsController (if is_storing (phase_shown ph) then still (record c { store = cells ++ cell ∷ [] }) else tell_step c 0 (two.Forward cell))
        (core.on_event (sys setting) ph d n)
    event_follows Idle cell n k = stored cell n k
    event_follows Freezing cell n k = stored cell n k
    event_follows Getting cell n k = stored cell n k
    event_follows Deleting cell n k = stored cell n k
    event_follows Putting cell n k = stored cell n k
    event_follows Holding cell n k = stored cell n k
    event_follows ph cell n k = follows cells refl g ((refl, Outlines.Forward cell n k), tt) refl

    laid_follows : (ph : Phase) (high : Bool) → FollowsController (on_laid (phase_shown ph) high c) (core.on_laid (sys setting) ph high d)
    laid_follows Laying false = follows cells refl g tt refl
    laid_follows Turning true = follows cells refl g tt refl
    laid_follows ph high = still_follows

    copied_follows : (ph : Phase) (n : ℕ) → FollowsController (on_copied (phase_shown ph) c n) (core.on_copied (sys setting) ph d n)
    copied_follows Waiting n = follows cells refl g ((refl, Outlines.Lay true), tt) refl
    copied_follows Turning n = follows cells refl g tt refl
    copied_follows ph n = still_follows

    fenced_follows : (ph : Phase) → FollowsController (on_fenced (phase_shown ph) c) (core.on_fenced (sys setting) ph d)
    fenced_follows Ending = follows cells refl g tt refl
    fenced_follows ph = still_follows

    final_follows : (port : ℕ) → is_proper {C = Sound f} port core.Final ≡ true → FollowsController (on_final c port) (core.on_final (sys setting) port d)
    final_follows (suc (suc zero)) e = follows cells refl g ((refl, Outlines.Finish 1 refl), tt) refl
    final_follows (suc (suc (suc zero))) e = follows cells refl g tt refl
    final_follows (suc (suc (suc (suc k)))) e = absurd (false≢true (sym (far k) ∙ e))
      where
        far : (k : ℕ) → (suc (suc (suc (suc k))) == 2) || (suc (suc (suc (suc k))) == 3) ≡ false
        far k = grind (arith, nat_tests)
    final_follows x e = absurd (false≢true e)

    row_follows : (port : ℕ) (x : TwoMsg) (y : core.Msg (Sound f)) → Shown setting x y → is_proper port y ≡ true
        → FollowsController (controller_row c port x) (core.ctrl_row (sys setting) d port y)
    row_follows port x y Outlines.Start e = start_follows d.phase
    row_follows port x y Outlines.End e = follows cells refl g tt refl
    row_follows port x y (Outlines.Copied copy n number) e =
        subst (λ k. FollowsController (on_copied c.phase c k) (core.on_copied (sys setting) d.phase d n)) (sym number) (copied_follows d.phase n)
    row_follows port x y (Outlines.Laid high) e = laid_follows d.phase high
    row_follows port x y Outlines.Enabled e = enabled_follows d.phase
    row_follows port x y (Outlines.Chunks cs) e = chunks_follow d.phase cs
    row_follows port x y Outlines.Deleted e = deleted_follows d.phase
    row_follows port x y Outlines.Restored e = restored_follows d.phase
    row_follows port x y (Outlines.Event cell n k) e = event_follows d.phase cell n k
    row_follows port x y (Outlines.Seen copy n number) e =
        subst (λ k. FollowsController (still (record c { seen = Some k })) (core.still (sys setting) (record d { seen = Some n }))) (sym number)
        (follows cells refl g tt refl)
    row_follows port x y Outlines.Fenced e = rw e (fenced_follows d.phase)
    row_follows port x y Outlines.Final e = final_follows port e
    row_follows port x y shown e = still_follows

    same_is : (o p : Option ℕ) → are_same o p ≡ same o p
    same_is (Some x) (Some y) = refl
    same_is z p = refl

    -- what follows as soon as it may
    soon_follows : (ph : Phase) → FollowsController (soon (phase_shown ph) c) (core.soon_at (sys setting) ph d)
    soon_follows Settling =
        rw (same_is d.seen d.last) (
        elim (same d.seen d.last) as (λ b.
        FollowsController (if b then tell_step (record c { phase = phase_shown Ending }) 3 (two.Inner (msg.Fence the_update)) else still c)
        (if b then core.says (sys setting) (record d { phase = Ending }) 3 core.Fence else core.still (sys setting) d)) [
          | true ↦ follows cells refl g ((refl, Outlines.Fence), tt) refl
          | false ↦ still_follows
        ])
    soon_follows Waiting =
        elim d.ended as (λ b.
        FollowsController (if b then record { node = record c { phase = phase_shown Over }; sends = []; notes = note.NoPacket ∷ [] } else still c)
        (if b then record { node = record d { phase = Over }; sends = []; notes = core.No_packet ∷ [] } else core.still (sys setting) d)) [
          | true ↦ follows cells refl g tt refl
          | false ↦ still_follows
        ]
    soon_follows ph = still_follows

    over_same : (ph : Phase) → is_over (phase_shown ph) ≡ core.is_over (sys setting) ph
    over_same Over = refl
    over_same ph = refl

    finish_follows : FollowsController (finish_step c) (core.finishes (sys setting) d)
    finish_follows =
        subst (λ a.
        FollowsController (if a && (d.ended && not d.finished) then tell_step (record c { finished = true }) 0 (two.Finish 0) else still c)
        (core.finishes (sys setting) d)) (sym (over_same d.phase)) (
        elim (core.is_over (sys setting) d.phase && (d.ended && not d.finished)) as (λ b.
        FollowsController (if b then tell_step (record c { finished = true }) 0 (two.Finish 0) else still c)
        (if b then core.says (sys setting) (record d { finished = true }) 0 (core.Finish 0) else core.still (sys setting) d)) [
          | true ↦ follows cells refl g ((refl, Outlines.Finish 0 refl), tt) refl
          | false ↦ still_follows
        ])

  soon_shows : (c : ControllerState) (d : core.Ctrl (Sound f)) → ControllerShows setting c d
      → FollowsController (soon c.phase c) (core.soon_at (sys setting) d.phase d)
  soon_shows c d h =
      subst (λ x. FollowsController (soon x.phase x) (core.soon_at (sys setting) d.phase d)) (sym h.is) (soon_follows h.cells d h.store d.phase)

  finish_shows : (c : ControllerState) (d : core.Ctrl (Sound f)) → ControllerShows setting c d
      → FollowsController (finish_step c) (core.finishes (sys setting) d)
  finish_shows c d h = subst (λ x. FollowsController (finish_step x) (core.finishes (sys setting) d)) (sym h.is) (finish_follows h.cells d h.store)

  goes_on : (c : ControllerState) (d : core.Ctrl (Sound f)) → ControllerShows setting c d
      → FollowsController (and_then (soon c.phase c) finish_step) (core.soon (sys setting) d)
  goes_on c d h =
      let first = soon_shows c d h in
      then_follows (soon c.phase c) (core.soon_at (sys setting) d.phase d) finish_step (core.finishes (sys setting)) first
      (finish_shows (soon c.phase c).node (core.soon_at (sys setting) d.phase d).node first.node)

  -- any message
  pub controller_follows : (c : ControllerState) (d : core.Ctrl (Sound f)) (port : ℕ) (x : TwoMsg) (y : core.Msg (Sound f)) → ControllerShows setting c d
      → Shown setting x y → is_proper port y ≡ true → FollowsController (controller_step c port x) (core.ctrl_step (sys setting) d port y)
  controller_follows c d port x y h shown e =
      let row : FollowsController (controller_row c port x) (core.ctrl_row (sys setting) d port y) =
      subst (λ r. FollowsController (controller_row r port x) (core.ctrl_row (sys setting) d port y)) (sym h.is)
      (row_follows h.cells d h.store port x y shown e)
      in
      then_follows (controller_row c port x) (core.ctrl_row (sys setting) d port y) (λ e. and_then (soon e.phase e) finish_step) (core.soon (sys setting)) row
      (goes_on (controller_row c port x).node (core.ctrl_row (sys setting) d port y).node row.node)
