-- What the controller's step leaves of an open share of a run, on a message of its number and on a packet that is put at the end of its queue: a share of
-- a run, and all else as it was.
use Rattle.proof_outlines.proofs.Words.{◌≡◌, ℕ, cond, Option, Some, None, List, [], ◌∷◌, ◌++◌, refl, sym, ap, ◌∙◌, subst, self, Semantics, FullCell, stored_of}
use Rattle.proof_outlines.proofs.Words.{Answer, Msg, switch_node, ShareState, ShareRow, service_if_idle, Share, ControllerState, Step, hand_step, queue_step}
use Rattle.proof_outlines.proofs.Words.{EachSent, Each, each-append, sent-append}
use Rattle.std.specs.FinMap as finite
use Rattle.copy_share.specs.Share.{next_phase, row}
use Rattle.proof_outlines.proofs.whole.ShareLeft.{OpenAt, answered, noted, next_share, still_waits, ShareLeaves, handed_leaves, queued_leaves}
use Rattle.proof_outlines.proofs.joined.Words.{Given, Genuine, IsShare, Label}
use Rattle.proof_outlines.proofs.joined.ControllerScenes.{AreQuiet}
use Rattle.proof_outlines.proofs.joined.ControllerChanges.{AreAlike, IsKind, IsOperation}
use Rattle.proof_outlines.proofs.joined.ShareRows.{RowIs, ServesWell, serves_well, turns_well}

noted_quiet : (n : ℕ) (a : Option Answer) → AreQuiet (noted n a)
noted_quiet n None = record { arrived_is = refl; done_is = refl; installed_is = refl }
noted_quiet n (Some why) = record { arrived_is = refl; done_is = refl; installed_is = refl }

module _ {R : Type 0} (f : Semantics R) (g : Given) where
  -- a step changes at most what stands at this number, and leaves an operation of a run there
  pub record DidWell (c : ControllerState) (n : ℕ) (did : Step) : Type 0 where
    pub alike : AreAlike c did.node n
    pub operation : IsOperation f g n (finite.get did.node.operations n) (stored_of did.node.store n)
    pub labels : EachSent (Label f g) 1 did.sends
    pub quiet : AreQuiet did.notes

  answered_labels : (n : ℕ) (a : Option Answer) (sends : List (ℕ × Msg)) → EachSent (Label f g) 1 sends → EachSent (Label f g) 1 (answered n a sends)
  answered_labels n None sends h = h
  answered_labels n (Some why) sends h = sent-append (Label f g) 1 sends ((switch_node, Msg.Answered n) ∷ []) h ((refl, refl), tt)

  -- A row of a share, and what is served behind it.
  left_well : (x : OpenAt) (r : ShareRow) (step : Step) → ShareLeaves x r step → IsShare f g x.num x.share → RowIs f g x.share.plan.members r
      → Each (Genuine f g) x.cells → DidWell x.node x.num step
  left_well x r step l is turned genuine =
      let well : ServesWell f g x.num x.share r.phase x.cells = serves_well f g x.num x.share r.phase x.cells is turned.out genuine in
      let got : finite.get step.node.operations x.num ≡ Some (next_share x r) = l.operations x.num
      ∙ ap (λ b. cond b (Some (next_share x r)) (finite.get x.node.operations x.num)) (self x.num) in
      let left : stored_of step.node.store x.num ≡ still_waits x r = l.store x.num
      ∙ ap (λ b. cond b (still_waits x r) (stored_of x.node.store x.num)) (self x.num) in
      record {
        alike = record {
          names = l.names;
          site = l.site;
          operations = λ k off. l.operations k ∙ ap (λ b. cond b (Some (next_share x r)) (finite.get x.node.operations k)) off;
          store = λ k off. l.store k ∙ ap (λ b. cond b (still_waits x r) (stored_of x.node.store k)) off;
        };
        operation = record {
          kind = subst (λ o. IsKind f g x.num o (stored_of step.node.store x.num)) (sym got) well.share;
          genuine = subst (Each (Genuine f g)) (sym left) well.genuine;
        };
        labels = subst (EachSent (Label f g) 1) (sym l.sends) (sent-append (Label f g) 1 (answered x.num r.answer r.sends)
            (service_if_idle x.share.plan r.phase x.cells).sends (answered_labels x.num r.answer r.sends turned.labels) well.labels);
        quiet = subst AreQuiet (sym l.notes) (noted_quiet x.num r.answer);
      }

  module _ (c : ControllerState) (n : ℕ) (s : ShareState) (there : finite.get c.operations n ≡ Some (Share s)) (is : IsShare f g n s)
      (genuine : Each (Genuine f g) (stored_of c.store n)) where
    -- A message of its number.
    pub share_handed_well : (port : ℕ) (m : Msg) → Label f g port 1 m → DidWell c n (hand_step c n port m)
    share_handed_well port m label =
        let x : OpenAt = record { node = c; num = n; share = s; cells = stored_of c.store n } in
        left_well x (row s port m) (hand_step c n port m) (handed_leaves x (row s port m) is.op_is port m there refl refl) is
        (turns_well f g n s port m is label) genuine

    -- A packet behind its queue.
    pub share_queued_well : (cell : FullCell) → Genuine f g cell → DidWell c n (queue_step c cell (Some n))
    share_queued_well cell one =
        let x : OpenAt = record { node = c; num = n; share = s; cells = stored_of c.store n ++ cell ∷ [] } in
        left_well x (next_phase s.phase []) (queue_step c cell (Some n)) (queued_leaves c n s cell there is.op_is) is (record { out = is.out; labels = tt })
        (each-append (Genuine f g) (stored_of c.store n) (cell ∷ []) genuine (one, tt))
