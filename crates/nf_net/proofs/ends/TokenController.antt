-- What the controller's step leaves of what each open copy and share waits for.
use Rattle.nf_net.proofs.Words.{◌≡◌, ◌≢◌, ℕ, ◌+◌, ◌≤◌, Bool, true, false, cond, Option, Some, None, List, [], ◌∷◌, ◌++◌, length, refl, sym, ap, ◌∙◌, subst}
use Rattle.nf_net.proofs.Words.{arith, if◌then◌else◌, ◌&&◌, ◌==◌, nat_tests, Decides-eqb, Decides-ltb, self, Filter, FullCell, stored_of, Answer, Order, Msg}
use Rattle.nf_net.proofs.Words.{instance_node, op_of, MoveState, MoveRow, row_in, answer_of, CopyPlan, CopyState, CopyRow, SharePlan, ShareState, home}
use Rattle.nf_net.proofs.Words.{Operation, Move, Copy, Share, OpenOperations, turn_of, turn_of_move, turn_of_copy, ControllerState, place_of, reaches, Each}
use Rattle.nf_net.proofs.Words.{NotShared, got_insert, got_remove, handed_is, shared_or_not, answered, ShareLeaves, handed_leaves, queued_leaves, Target, Mark}
use Rattle.nf_net.proofs.Words.{split}
use Rattle.std.specs.FinMap as finite
use Rattle.copy_share.specs.Copy as copy
use Rattle.copy_share.specs.Share as share
use Rattle.ctrl_node.specs.Controller as ctrl
use Rattle.ctrl_node.specs.Controller.{Step}
use Rattle.proof_outlines.proofs.whole.OpenShares.{turned_test}
use Rattle.proof_outlines.proofs.joined.CopyCounts.{handed_at}
use Rattle.proof_outlines.proofs.joined.ShareBegins.{place_below}
use Rattle.nf_net.proofs.answers.EndTables.{flag}
use Rattle.nf_net.proofs.ends.LinkWeights.{sends_weigh}
use Rattle.nf_net.proofs.ends.Tokens.{Leg, Gets, Alls, token, token_of, at_instance, awaits, counts, weight, wanted}
use Rattle.nf_net.proofs.ends.TokenRows.{Grants, Fresh, Waits, grants_more, copy_row, share_row, served_grants}
use Rattle.nf_net.proofs.answers.ControllerCases.{OpensBy, Opens_move, Opens_copy, Opens_share, by_command, by_queue, by_sender, by_stop}

-- what is known of the open copies and shares, of n nodes
pub record CopyWithin (n op : ℕ) (y : CopyState) : Type 0 where
  pub op_is : y.plan.op ≡ op
  pub to : reaches n 1 (instance_node y.plan.to) ≡ true
  pub other : y.plan.from ≢ y.plan.to

pub record ShareWithin (n op : ℕ) (s : ShareState) : Type 0 where
  pub op_is : s.plan.op ≡ op
  pub few : Each (λ member. reaches n 1 (instance_node member) ≡ true) s.plan.members
  pub home_there : reaches n 1 (instance_node (home s.plan)) ≡ true

pub record AreWithin (n : ℕ) (ops : OpenOperations) : Type 0 where
  pub copies : (op : ℕ) (y : CopyState) → finite.get ops op ≡ Some (Copy y) → CopyWithin n op y
  pub shares : (op : ℕ) (s : ShareState) → finite.get ops op ≡ Some (Share s) → ShareWithin n op s

and_off : (a b : Bool) → b ≡ false → flag (a && b) ≡ 0
and_off true b off = ap flag off
and_off false b off = refl

-- a message of another number
other_number : (k p : ℕ) (o : Option Operation) (op : ℕ) (m : Msg) → op_of m ≡ Some op → (op == k) ≡ false → weight k o p 1 m ≡ 0
other_number k p o op (Msg.Chunks x chunks) its off = let same : x ≡ op = cc in and_off _ (x == k) (ap (λ y. y == k) same ∙ off)
other_number k p o op (Msg.AllChunk x chunk) its off = let same : x ≡ op = cc in and_off _ (x == k) (ap (λ y. y == k) same ∙ off)
other_number k p o op (Msg.Kept x) its off = let same : x ≡ op = cc in and_off _ (x == k) (ap (λ y. y == k) same ∙ off)
other_number k p o op (Msg.Fenced x) its off = let same : x ≡ op = cc in and_off _ (x == k) (ap (λ y. y == k) same ∙ off)
other_number k p o op (Msg.Synced x) its off = let same : x ≡ op = cc in and_off _ (x == k) (ap (λ y. y == k) same ∙ off)
other_number k p o op (Msg.Shared x chunk) its off = let same : x ≡ op = cc in and_off _ (x == k) (ap (λ y. y == k) same ∙ off)
other_number k p o op m its off = refl

-- and one of none
no_number : (k p : ℕ) (o : Option Operation) (m : Msg) → op_of m ≡ None → weight k o p 1 m ≡ 0
no_number k p o (Msg.Chunks x chunks) none = cc
no_number k p o (Msg.AllChunk x chunk) none = cc
no_number k p o (Msg.Kept x) none = cc
no_number k p o (Msg.Fenced x) none = cc
no_number k p o (Msg.Synced x) none = cc
no_number k p o (Msg.Shared x chunk) none = cc
no_number k p o m none = refl

module _ (n : ℕ) (switch_there : reaches n 1 0 ≡ true) (c : ControllerState) (names : n ≡ length c.names + 2) (within : AreWithin n c.operations) (p : ℕ) where
  abbrev GivenAt : ℕ → Msg → Step → Type 0
  GivenAt k m did = Grants n k p m (finite.get c.operations k) (finite.get did.node.operations k) did.sends

  abbrev pub GivesTokens : Msg → Step → Type 0
  GivesTokens m did = (k : ℕ) → GivenAt k m did

  -- where nothing of the number changes
  stays : (k : ℕ) (m : Msg) (did : Step) → finite.get did.node.operations k ≡ finite.get c.operations k → weight k (finite.get c.operations k) p 1 m ≡ 0
      → GivenAt k m did
  stays k m did same none = subst (λ o. Grants n k p m (finite.get c.operations k) o did.sends) (sym same) (Waits (λ leg node. refl) (omega (arith, none)))

  -- where nothing is waited for afterwards
  nothing : (k : ℕ) (m : Msg) (did : Step) → wanted (finite.get did.node.operations k) ≡ 0 → GivenAt k m did
  nothing k m did none = Fresh (omega (arith, none))

  -- A message of an operation's number
  module _ (op : ℕ) (m : Msg) where
    written : (o : Operation) → finite.get (finite.insert c.operations op o) op ≡ Some o
    written o = got_insert c.operations op op o ∙ ap (λ b. cond b (Some o) (finite.get c.operations op)) (self op)

    gone : (ops : OpenOperations) → finite.get (finite.remove ops op) op ≡ None
    gone ops = got_remove ops op op ∙ ap (λ b. cond b None (finite.get ops op)) (self op)

    move_turn : (mv : MoveState) (r : MoveRow) (a : Option Answer) → GivenAt op m (ctrl.after_turn c op (turn_of_move mv c.store r) a)
    move_turn mv r None = nothing op m (ctrl.after_turn c op (turn_of_move mv c.store r) None) (ap wanted (written (Move (record mv { phase = r.next.phase }))))
    move_turn mv r (Some why) = nothing op m (ctrl.after_turn c op (turn_of_move mv c.store r) (Some why))
        (ap wanted (gone (finite.insert c.operations op (Move (record mv { phase = r.next.phase })))))

    copy_turn : (y : CopyState) (r : CopyRow) → finite.get c.operations op ≡ Some (Copy y)
        → Grants n op p m (Some (Copy y)) (Some (Copy (record y { phase = r.phase }))) r.sends → (a : Option Answer)
        → GivenAt op m (ctrl.after_turn c op (turn_of_copy y c.store r) a)
    copy_turn y r there h None =
        subst (λ o. Grants n op p m o (finite.get (finite.insert c.operations op (Copy (record y { phase = r.phase }))) op) r.sends) (sym there)
        (subst (λ o. Grants n op p m (Some (Copy y)) o r.sends) (sym (written (Copy (record y { phase = r.phase })))) h)
    copy_turn y r there h (Some why) = nothing op m (ctrl.after_turn c op (turn_of_copy y c.store r) (Some why))
        (ap wanted (gone (finite.insert c.operations op (Copy (record y { phase = r.phase })))))

    own_turn : (o : Option Operation) → finite.get c.operations op ≡ o → NotShared o → GivenAt op m (ctrl.takes_turn c op (turn_of o c.store p m))
    own_turn None there unshared = nothing op m (ctrl.takes_turn c op (turn_of None c.store p m)) (ap wanted there)
    own_turn (Some (Move mv)) there unshared = move_turn mv (row_in mv c.store p m) (answer_of (row_in mv c.store p m).next.phase)
    own_turn (Some (Copy y)) there unshared =
        let w = within.copies op y there in
        copy_turn y (copy.row y p m) there (copy_row n op p y.plan w.op_is w.to w.other y.phase m) (copy.answer_of (copy.row y p m).phase)
    own_turn (Some (Share s)) there unshared = absurd unshared

    not_shared : NotShared (finite.get c.operations op) → GivenAt op m (ctrl.hand_step c op p m)
    not_shared unshared = subst (GivenAt op m) (sym (handed_is c op p m unshared)) (own_turn (finite.get c.operations op) refl unshared)

    -- a share's row, behind which it serves
    share_leaves : (s : ShareState) (cells : List FullCell) (r : share.ShareRow) (did : Step)
        → finite.get c.operations op ≡ Some (Share s) → ShareLeaves (record { node = c; num = op; share = s; cells = cells }) r did
        → Grants n op p m (Some (Share s)) (Some (Share (record s { phase = r.phase }))) r.sends → GivenAt op m did
    share_leaves s cells r did there l h =
        let w = within.shares op s there in
        let after : finite.get did.node.operations op ≡ Some (Share (record s { phase = (share.service_if_idle s.plan r.phase cells).phase })) =
        l.operations op ∙ ap
        (λ b. cond b (Some (Share (record s { phase = (share.service_if_idle s.plan r.phase cells).phase }))) (finite.get c.operations op)) (self op) in
        let first : Grants n op p m (Some (Share s)) (Some (Share (record s { phase = r.phase }))) (answered op r.answer r.sends) = by_answer r.answer in
        let all = served_grants n op p s.plan w.op_is w.few w.home_there switch_there s.phase r.phase m cells (answered op r.answer r.sends) first in
        subst (λ xs. Grants n op p m (finite.get c.operations op) (finite.get did.node.operations op) xs) (sym l.sends)
        (subst (λ o. Grants n op p m o (finite.get did.node.operations op)
        (answered op r.answer r.sends ++ (share.service_if_idle s.plan r.phase cells).sends)) (sym there)
        (subst (λ o. Grants n op p m (Some (Share s)) o (answered op r.answer r.sends ++ (share.service_if_idle s.plan r.phase cells).sends)) (sym after) all))
      where
        by_answer : (a : Option Answer) → Grants n op p m (Some (Share s)) (Some (Share (record s { phase = r.phase }))) (answered op a r.sends)
        by_answer None = h
        by_answer (Some why) = grants_more n op p m (Some (Share s)) (Some (Share (record s { phase = r.phase }))) r.sends ((0, Msg.Answered op) ∷ []) h

    shared : (s : ShareState) → finite.get c.operations op ≡ Some (Share s) → GivenAt op m (ctrl.hand_step c op p m)
    shared s there =
        let w = within.shares op s there in
        let l = handed_leaves (record { node = c; num = op; share = s; cells = stored_of c.store op }) (share.row s p m) w.op_is p m there refl refl in
        share_leaves s (stored_of c.store op) (share.row s p m) (ctrl.hand_step c op p m) there l
        (share_row n op p s.plan w.op_is w.few w.home_there switch_there s.phase m)

    handed_gives : op_of m ≡ Some op → GivesTokens m (ctrl.hand_step c op p m)
    handed_gives its k = split (op == k) (λ _. GivenAt k m (ctrl.hand_step c op p m))
        (λ on. subst (λ x. GivenAt x m (ctrl.hand_step c op p m)) ((Decides-eqb op k).0 on) (shared_or_not (finite.get c.operations op) not_shared shared))
        (λ off. stays k m (ctrl.hand_step c op p m) (handed_at k op (turned_test op k off) c p m)
        (other_number k p (finite.get c.operations k) op m its off))

  still_gives : (m : Msg) → ((k : ℕ) → weight k (finite.get c.operations k) p 1 m ≡ 0) → GivesTokens m (ctrl.still c)
  still_gives m none k = stays k m (ctrl.still c) refl (none k)

  numbered_gives : (m : Msg) (o : Option ℕ) → op_of m ≡ o → GivesTokens m (ctrl.numbered c p m o)
  numbered_gives m None e = still_gives m (λ k. no_number k p (finite.get c.operations k) m e)
  numbered_gives m (Some op) e = handed_gives op m e

  -- A packet that waits for its share
  queued_gives : (cell : FullCell) (op : ℕ) (s : ShareState) → finite.get c.operations op ≡ Some (Share s)
      → GivesTokens (Msg.Diverted cell) (ctrl.queue_step c cell (Some op))
  queued_gives cell op s there k =
      let m = Msg.Diverted cell in
      let did = ctrl.queue_step c cell (Some op) in
      let cells = stored_of c.store op ++ cell ∷ [] in
      let l = queued_leaves c op s cell there (within.shares op s there).op_is in
      split (op == k) (λ _. GivenAt k m did)
      (λ on. subst (λ x. GivenAt x m did) ((Decides-eqb op k).0 on)
      (share_leaves op m s cells (share.next_phase s.phase []) did there l (Waits (λ leg node. refl) (omega arith))))
      (λ off. stays k m did (l.operations k ∙ ap (λ b. cond b
      (Some (Share (record s { phase = (share.service_if_idle s.plan s.phase cells).phase }))) (finite.get c.operations k)) (turned_test op k off))
      refl)

  diverted_gives : (cell : FullCell) → GivesTokens (Msg.Diverted cell) (ctrl.on_diverted c cell)
  diverted_gives cell = by_queue (GivesTokens (Msg.Diverted cell)) c cell (still_gives (Msg.Diverted cell) (λ k. refl)) (λ op s is. queued_gives cell op s is)

  -- A command
  module _ (op : ℕ) (what : Order) where
    abbrev asked : Msg
    asked = Msg.Asked (record { op = op; what = what })

    opens_gives : (o : Operation) (sends : List (ℕ × Msg)) → wanted (Some o) ≤ sends_weigh (weight op (Some o)) n 1 sends
        → GivesTokens asked (ctrl.opening_step c op o sends)
    opens_gives o sends h k = split (op == k) (λ _. GivenAt k asked (ctrl.opening_step c op o sends))
        (λ on. subst (λ x. GivenAt x asked (ctrl.opening_step c op o sends)) ((Decides-eqb op k).0 on)
        (subst (λ x. Grants n op p asked (finite.get c.operations op) x sends) (sym (written op asked o)) (Fresh h)))
        (λ off. stays k asked (ctrl.opening_step c op o sends)
        (got_insert c.operations op k o ∙ ap (λ b. cond b (Some o) (finite.get c.operations k)) (turned_test op k off)) refl)

    reach_at : (name : List ℕ) (i : ℕ) → place_of c.names name ≡ Some i → reaches n 1 (instance_node i) ≡ true
    reach_at name i at = let low = (Decides-ltb i (length c.names)).0 (place_below c.names name i at) in grind (arith, nat_tests, low, names)

    -- what a copy asks for first
    asks_weigh : (plan : CopyPlan) → plan.op ≡ op → reaches n 1 (instance_node plan.from) ≡ true
        → 1 ≤ sends_weigh (weight op (Some (Copy (copy.copy_at_start plan)))) n 1 (copy.begin_sends plan)
    asks_weigh plan own there = by_filter plan.filter
      where
        mine : (plan.op == op) ≡ true
        mine = (Decides-eqb plan.op op).1 own

        here : (instance_node plan.from == instance_node plan.from) ≡ true
        here = self (instance_node plan.from)

        one : (leg : Leg) (a : Msg) → token_of 1 (instance_node plan.from) a ≡ token leg plan.op (instance_node plan.from)
            → awaits (Some (Copy (copy.copy_at_start plan))) leg (instance_node plan.from) ≡ true
            → 1 ≤ (if reaches n 1 (instance_node plan.from) then weight op (Some (Copy (copy.copy_at_start plan))) 1 (instance_node plan.from) a else 0) + 0
        one leg a same waits =
            let w : weight op (Some (Copy (copy.copy_at_start plan))) 1 (instance_node plan.from) a ≡ 1 =
            ap (counts op (Some (Copy (copy.copy_at_start plan)))) same ∙ ap (λ b. flag (b && (plan.op == op))) waits ∙ ap flag mine in
            let all : (if reaches n 1 (instance_node plan.from) then weight op (Some (Copy (copy.copy_at_start plan))) 1 (instance_node plan.from) a else 0)
            ≡ 1 =
            ap (λ b. if b then weight op (Some (Copy (copy.copy_at_start plan))) 1 (instance_node plan.from) a else 0) there ∙ w in
            omega (arith, all)

        by_filter : (filter : Option Filter)
            → 1 ≤ sends_weigh (weight op (Some (Copy (copy.copy_at_start plan)))) n 1 ((instance_node plan.from, copy.asks plan.op filter) ∷ [])
        by_filter None = one Alls (Msg.GetAll plan.op) (at_instance Alls plan.op plan.from) here
        by_filter (Some filter) = one Gets (Msg.Get plan.op filter) (at_instance Gets plan.op plan.from) here

    begun_gives : {o : Order} (did : Step) → OpensBy c op o did → GivesTokens asked did
    begun_gives did (Opens_move from to e at) = opens_gives _ _ (omega arith)
    begun_gives did (Opens_copy {source} {destination} {filter} from to e at) =
        opens_gives _ _ (asks_weigh (record { op = op; from = from; to = to; filter = filter }) refl (reach_at source from e))
    begun_gives did (Opens_share {members} {filter} member others) =
        let plan : SharePlan = record { op = op; members = member ∷ others; filter = filter; site = c.site } in
        let here = self (instance_node member) in
        let mine = self op in
        let one : weight op (Some (Share (share.share_at_start plan))) 1 0 (Msg.Install op filter member Target.Controller) ≡ 1 =
        ap (λ b. flag (b && (op == op))) here ∙ ap flag mine in
        let all : (if reaches n 1 0 then weight op (Some (Share (share.share_at_start plan))) 1 0 (Msg.Install op filter member Target.Controller) else 0)
        ≡ 1 =
        ap (λ b. if b then weight op (Some (Share (share.share_at_start plan))) 1 0 (Msg.Install op filter member Target.Controller) else 0) switch_there
        ∙ one in
        opens_gives (Share (share.share_at_start plan)) (share.begin_sends plan) (omega (arith, all))

    asked_gives : GivesTokens asked (ctrl.on_asked c (record { op = op; what = what }))
    asked_gives = by_command (GivesTokens asked) c op what (still_gives asked (λ k. refl)) (λ a none is k. stays k asked (ctrl.answers c op a) refl refl)
        (λ did none is by. begun_gives did by)

  event_gives : (op : ℕ) (cell : FullCell) (o : Option ℕ) → GivesTokens (Msg.Event op cell) (ctrl.on_event c p op cell o)
  event_gives op cell o = by_sender (GivesTokens (Msg.Event op cell)) c p op cell o (still_gives (Msg.Event op cell) (λ k. refl))
      (handed_gives op (Msg.Event op cell) refl) (λ i k. stays k (Msg.Event op cell)
      (record { node = c; sends = (0, Msg.Forward i (Mark.Pass op) cell) ∷ []; notes = [] }) refl refl)

  row_gives : (m : Msg) → GivesTokens m (ctrl.row c p m)
  row_gives (Msg.Asked x) = elim (p == 0) as (λ b. GivesTokens (Msg.Asked x) (if b then ctrl.on_asked c x else ctrl.still c))
      [ true ↦ asked_gives x.op x.what | false ↦ still_gives (Msg.Asked x) (λ k. refl) ]
  row_gives (Msg.Diverted cell) = elim (p == 0) as (λ b. GivesTokens (Msg.Diverted cell) (if b then ctrl.on_diverted c cell else ctrl.still c))
      [ true ↦ diverted_gives cell | false ↦ still_gives (Msg.Diverted cell) (λ k. refl) ]
  row_gives Msg.End = elim (p == 0) as (λ b. GivesTokens Msg.End (if b then ctrl.still (record c { end_came = true }) else ctrl.still c))
      [ true ↦ (λ k. stays k Msg.End (ctrl.still (record c { end_came = true })) refl refl) | false ↦ still_gives Msg.End (λ k. refl) ]
  row_gives (Msg.Event op cell) = event_gives op cell (ctrl.instance_at c p)
  row_gives Msg.Final = by_stop (GivesTokens Msg.Final) c (ctrl.instance_at c p) (still_gives Msg.Final (λ k. refl))
      (λ i k. stays k Msg.Final (ctrl.on_final c (Some i)) refl refl)
  row_gives m = numbered_gives m (op_of m) refl

  -- the finish changes nothing of it
  pub controller_gives : (m : Msg) → GivesTokens m (ctrl.controller_step c p m)
  controller_gives m k =
      let did = ctrl.row c p m in
      let own = row_gives m k in
      split (ctrl.may_finish did.node)
      (λ b. Grants n k p m (finite.get c.operations k) (finite.get (if b then record did.node { finish_sent = true } else did.node).operations k)
      (did.sends ++ (if b then (0, Msg.Finish) ∷ [] else [])))
      (λ _. grants_more n k p m (finite.get c.operations k) (finite.get did.node.operations k) did.sends ((0, Msg.Finish) ∷ []) own)
      (λ _. grants_more n k p m (finite.get c.operations k) (finite.get did.node.operations k) did.sends [] own)
