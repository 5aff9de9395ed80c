-- The controller's step on a message of a copy, or one that comes to shares and copies: what came is handed on, or the copy ends. No move and no
-- share looks at either.
use Rattle.proof_outlines.proofs.Words.{◌≡◌, ℕ, true, cond, Option, Some, None, List, [], refl, sym, ap, ◌∙◌, subst, arith, ◌==◌, option_map, nat_tests}
use Rattle.proof_outlines.proofs.Words.{same_Some, Chunk, Semantics, stored_of, Msg, instance_node, Keeping, CopyState, ShareState, Operation, Move, Copy}
use Rattle.proof_outlines.proofs.Words.{Share, turn_of, ControllerState, Step, still, takes_turn, hand_step, Any, New, ShareMsg, find_share, Has_chunks}
use Rattle.proof_outlines.proofs.Words.{by_share}
use Rattle.std.specs.FinMap as finite
use Rattle.proof_outlines.proofs.joined.Words.{entries, CopyTurn, Idle, Hands, Hands_all, Ends, hands, ends, is_copied, copy_turn, move_idle, got_insert}
use Rattle.proof_outlines.proofs.joined.Words.{got_remove, NotShared, handed_is, joins, StepFollows, Given, place, Label, Scene, AreShown, IsTaken, IsCopy}
use Rattle.proof_outlines.proofs.joined.Words.{AreGoodChunks, S, A, shown}
use Rattle.proof_outlines.proofs.whole.OtherTurns.{copy_handed}
use Rattle.proof_outlines.proofs.whole.ControlAll.{chunks_follows, all_chunk_follows, kept_follows}
use Rattle.proof_outlines.proofs.joined.ControllerScenes.{RowLeads, Idles}
use Rattle.proof_outlines.proofs.joined.ControllerChanges.{NotMove, IsKind, IsOperation, operation_is}
use Rattle.proof_outlines.proofs.joined.ControllerTurns.{no_share_open, none_leads, still_leads, well_idles, share_below, share_leads}
use Rattle.proof_outlines.proofs.joined.ShareTurns.{DidWell, share_handed_well}

module _ {R : Type 0} (f : Semantics R) (g : Given) where
  -- a copy that waits for the destination is one of a run
  pub keeping : (op : ℕ) (y : CopyState) → IsCopy f g op y → IsCopy f g op (record y { phase = Keeping })
  keeping op y h = record { op_is = h.op_is; from = h.from; to = h.to; other = h.other; whole = h.whole; plan = h.plan; going = refl }

  -- what a message sends on is such as comes in a run
  abbrev pub Good : Msg → Type 0
  Good (Msg.Chunks k chunks) = AreGoodChunks f g chunks
  Good message = Unit {0}

module _ {F R : Type 0} (f : Semantics R) (g : Given) (n : ℕ) (x : Scene F f g) (p : ℕ) (m : Msg) (are : AreShown f g n x)
    (is : IsTaken f g n x (record { node = 1; port = p; message = m })) where
  abbrev c : ControllerState
  c = x.nodes.controller

  abbrev Did : Step → Type 0
  Did step = StepFollows f g.site g.packet (place g) step (record { ops = x.world.ops; shares = x.world.shares; sends = [] })

  -- a step on an open copy leaves what is stored
  record CopyDid (op : ℕ) (did : Step) : Type 0 where
    well : DidWell f g c op did
    store : did.node.store ≡ c.store

  module _ (op : ℕ) (y : CopyState) (there : finite.get c.operations op ≡ Some (Copy y)) (good : Good f g m) where
    its : IsCopy f g op y
    its = are.controller.copies op y there

    empty : stored_of c.store op ≡ []
    empty = are.controller.unstored op y there

    itself : (op == op) ≡ true
    itself = grind (arith, nat_tests)

    no_cells : (o : Option Operation) → IsKind f g op o [] → IsOperation f g op o (stored_of c.store op)
    no_cells o kind = subst (IsOperation f g op o) (sym empty) (record { kind = kind; genuine = tt })

    hands_on : (message : Msg) → Label f g 1 (instance_node y.plan.to) message → CopyDid op (hands c op y message)
    hands_on message label =
        let next : Operation = Copy (record y { phase = Keeping }) in
        let got : finite.get (hands c op y message).node.operations op ≡ Some next = got_insert c.operations op op next
        ∙ ap (λ b. cond b (Some next) (finite.get c.operations op)) itself in
        record {
          well = record {
            alike = record {
              names = refl;
              site = refl;
              operations = λ k off. got_insert c.operations op k next ∙ ap (λ b. cond b (Some next) (finite.get c.operations k)) off;
              store = λ k off. refl;
            };
            operation = subst (λ o. IsOperation f g op o (stored_of c.store op)) (sym got) (no_cells (Some next) (keeping f g op y its, refl));
            labels = (label, tt);
            quiet = record { arrived_is = refl; done_is = refl; installed_is = refl };
          };
          store = refl;
        }

    it_ends : CopyDid op (ends c op)
    it_ends =
        let got : finite.get (ends c op).node.operations op ≡ None = got_remove c.operations op op
        ∙ ap (λ b. cond b None (finite.get c.operations op)) itself in
        record {
          well = record {
            alike = record {
              names = refl;
              site = refl;
              operations = λ k off. got_remove c.operations op k ∙ ap (λ b. cond b None (finite.get c.operations k)) off;
              store = λ k off. refl;
            };
            operation = subst (λ o. IsOperation f g op o (stored_of c.store op)) (sym got) (no_cells None refl);
            labels = ((refl, refl), tt);
            quiet = record { arrived_is = refl; done_is = refl; installed_is = refl };
          };
          store = refl;
        }

    it_stays : CopyDid op (still c)
    it_stays = record {
      well = record {
        alike = record { names = refl; site = refl; operations = λ k off. refl; store = λ k off. refl };
        operation = operation_is f g c x.world.ops x.world.shares x.world.next are.controller op;
        labels = tt;
        quiet = record { arrived_is = refl; done_is = refl; installed_is = refl };
      };
      store = refl;
    }

    by_turn : (did : Step) → CopyTurn (record { controller = c; op = op; copy = y }) m did → CopyDid op did
    by_turn did (Idle e) = subst (CopyDid op) (sym e) it_stays
    by_turn did (Hands k chunks e d) = subst (CopyDid op) (sym d) (hands_on (Msg.Standby y.plan.op chunks) ((refl, omega arith), subst (Good f g) e good))
    by_turn did (Hands_all k chunk e d) = subst (CopyDid op) (sym d) (hands_on (Msg.PutAll y.plan.op chunk) (refl, omega arith))
    by_turn did (Ends d) = subst (CopyDid op) (sym d) it_ends

    pub copy_turns : ((a : Any R) → shown f g m ≡ Some a → Idles f g n x p m are is a) → RowLeads f g x p m (hand_step c op p m)
    copy_turns idle =
        let turned : hand_step c op p m ≡ takes_turn c op (turn_of (Some (Copy y)) c.store p m) = handed_is c op p m (subst NotShared (sym there) tt)
        ∙ ap (λ o. takes_turn c op (turn_of o c.store p m)) there in
        let did : CopyDid op (hand_step c op p m) = subst (CopyDid op) (sym turned)
        (by_turn (takes_turn c op (turn_of (Some (Copy y)) c.store p m)) (copy_turn c op y its.going there p m)) in
        well_idles f g n x p m are is op (hand_step c op p m) (copy_handed f g.site g.packet (place g) c x.world.ops x.world.shares are.controller.opens op
        y there p m) (subst NotMove (sym there) tt) (λ _. ap (λ s. stored_of s op) did.store ∙ empty) did.well idle

  -- Of a move it changes nothing, and what it does to a share is said by the message.
  pub copied_leads : (op : ℕ) → is_copied m ≡ true → Good f g m
      → (find_share x.world.shares op ≡ None → (a : Any R) → shown f g m ≡ Some a → Idles f g n x p m are is a)
      → ((s : ShareState) → finite.get c.operations op ≡ Some (Share s) → RowLeads f g x p m (hand_step c op p m)) → RowLeads f g x p m (hand_step c op p m)
  copied_leads op is_one good idle of_share = by_got (finite.get c.operations op) refl
    where
      by_got : (o : Option Operation) → finite.get c.operations op ≡ o → RowLeads f g x p m (hand_step c op p m)
      by_got None e = none_leads f g n x p m are is op e (idle (no_share_open f g n x p m are is op None e refl))
      by_got (Some (Move mv)) e = still_leads f g n x p m are is (hand_step c op p m) (handed_is c op p m (subst NotShared (sym e) tt)
          ∙ ap (λ o. takes_turn c op (turn_of o c.store p m)) e ∙ move_idle c op mv p m is_one (are.controller.going op mv e) e)
          (idle (no_share_open f g n x p m are is op (Some (Move mv)) e refl))
      by_got (Some (Copy y)) e = copy_turns op y e good (idle (no_share_open f g n x p m are is op (Some (Copy y)) e refl))
      by_got (Some (Share s)) e = of_share s e

  -- a share leaves a message of copies alone
  hidden_share : (op : ℕ) → shown f g m ≡ None → Did (hand_step c op p m) → (s : ShareState) → finite.get c.operations op ≡ Some (Share s)
      → RowLeads f g x p m (hand_step c op p m)
  hidden_share op hidden step s there =
      well_idles f g n x p m are is op (hand_step c op p m) step (subst NotMove (sym there) tt)
      (λ least. (let never : ⊥ = omega (arith, share_below f g n x p m are is op s there, least) in absurd never))
      (share_handed_well f g c op s there (are.controller.shared op s there) (are.controller.genuine op) p m is.label)
      (λ a e. let never : None ≡ Some a = sym hidden ∙ e in cc)

  pub hidden_leads : (op : ℕ) → is_copied m ≡ true → Good f g m → shown f g m ≡ None → Did (hand_step c op p m) → RowLeads f g x p m (hand_step c op p m)
  hidden_leads op is_one good hidden step =
      copied_leads op is_one good (λ _ a e. let never : None ≡ Some a = sym hidden ∙ e in cc) (hidden_share op hidden step)

module _ {F R : Type 0} (f : Semantics R) (g : Given) (n : ℕ) (x : Scene F f g) (p op : ℕ) (are : AreShown f g n x) where
  abbrev C : ControllerState
  C = x.nodes.controller

  abbrev IsTakenHere : Msg → Type 0
  IsTakenHere m = IsTaken f g n x (record { node = 1; port = p; message = m })

  pub chunks_leads : (chunks : List Chunk) → IsTakenHere (Msg.Chunks op chunks)
      → RowLeads f g x p (Msg.Chunks op chunks) (hand_step C op p (Msg.Chunks op chunks))
  chunks_leads chunks is =
      let m = Msg.Chunks op chunks in
      let a : Any R = New (ShareMsg.Chunks op (entries f chunks)) in
      copied_leads f g n x p m are is op refl is.label.1
      (λ none b e. subst (Idles f g n x p m are is) (same_Some _ _ e) (ap (λ o. joins f g.site g.packet (place g) (record { ops = x.world.ops; sends = [] })
      (by_share (S f g) (A f g) x.world.shares p (option_map (λ y. (y, Has_chunks (entries f chunks))) o))) none))
      (λ s there. share_leads f g n x p m are is op s there a refl (chunks_follows f g.site g.packet (place g) C x.world.ops x.world.shares
      are.controller.opens op p chunks (are.controller.genuine op) (λ mv got. are.controller.going op mv got)) refl)

  pub all_chunk_leads : (chunk : Chunk) → IsTakenHere (Msg.AllChunk op chunk)
      → RowLeads f g x p (Msg.AllChunk op chunk) (hand_step C op p (Msg.AllChunk op chunk))
  all_chunk_leads chunk is = hidden_leads f g n x p (Msg.AllChunk op chunk) are is op refl tt refl (all_chunk_follows f g.site g.packet (place g) C
      x.world.ops x.world.shares are.controller.opens op p chunk (λ mv got. are.controller.going op mv got))

  pub kept_leads : IsTakenHere (Msg.Kept op) → RowLeads f g x p (Msg.Kept op) (hand_step C op p (Msg.Kept op))
  kept_leads is = hidden_leads f g n x p (Msg.Kept op) are is op refl tt refl
      (kept_follows f g.site g.packet (place g) C x.world.ops x.world.shares are.controller.opens op p (λ mv got. are.controller.going op mv got))
