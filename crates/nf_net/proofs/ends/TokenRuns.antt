-- In every run each open copy and share has on the links what it waits for: so where no message is on a link no copy is open, and each share is idle.
use Rattle.nf_net.proofs.Words.{◌≡◌, ◌≢◌, ℕ, zero, suc, ◌+◌, ◌<◌, ◌≤◌, true, false, Option, Some, None, List, [], ◌∷◌, length, get_or, refl, sym, ap, ◌∙◌}
use Rattle.nf_net.proofs.Words.{subst, arith, ◌&&◌, ◌==◌, nat_lt, nat_cmp, nat_tests, Decides-ltb, Chunk, Fits, FunctionLaws, Semantics, IsTally, Msg, Note}
use Rattle.nf_net.proofs.Words.{instance_node, CopyPhase, SharePhase, Operation, Move, Copy, Share, ControllerState, controller_step, opened_controller}
use Rattle.nf_net.proofs.Words.{switch_step, instance_step, Choice, Network, reaches, world_next, queue_at, at, opening_on_links, Taking, Takes, taken_outcome}
use Rattle.nf_net.proofs.Words.{OnLinks, EachSent, on_links_after, Each, each-append, each_map, Node, Controller, node_step, node_ready, first_instance}
use Rattle.nf_net.proofs.Words.{first_instances, first_nodes, is_uncopied, TurnSo, Given, Label, Joined, node_of, its_takes, its_label, Runs, given, all_fit}
use Rattle.nf_net.proofs.Words.{count_at_start, Instance, split, Setting, start, IsCourse, world_of}
use Rattle.std.proofs.Common.{replicate, slice_index}
use Rattle.std.specs.FinMap as finite
use Rattle.std.proofs.lemmas.List.{length-replicate}
use Rattle.copy_share.specs.Copy as copy
use Rattle.actor_net.proofs.WeightLaws as weights
use Rattle.nf_net.proofs.RunWords.{own_controller, flag, run_keeps}
use Rattle.proof_outlines.proofs.joined.CopySends.{BeginSo, controller_sent}
use Rattle.proof_outlines.proofs.joined.Joined.{count}
use Rattle.nf_net.proofs.ends.LinkWeights.{sends_weigh, at_links, at_links_same, at_links_none, at_links_after, taken_least}
use Rattle.nf_net.proofs.ends.Tokens.{Token, token_of, awaits, counts, weight, some_left, copy_wants, share_wants, wanted, passes_weigh}
use Rattle.nf_net.proofs.ends.TokenNodes.{CanRead, instance_passes, switch_passes}
use Rattle.nf_net.proofs.ends.TokenRows.{Grants, Fresh, Waits}
use Rattle.nf_net.proofs.ends.TokenController.{AreWithin, controller_gives}
use Rattle.nf_net.proofs.ends.TallySteps.{IsTallyChunk, reads, GivesTally, MergesTally, over_by, StepLeaves, instance_leaves}

counts_same : (k : ℕ) (a b : Option Operation) → ((leg : _) (node : ℕ) → awaits b leg node ≡ awaits a leg node) → (t : Option Token)
    → counts k b t ≡ counts k a t
counts_same k a b same None = refl
counts_same k a b same (Some t) = ap (λ x. flag (x && (t.op == k))) (same t.leg t.node)

-- what an operation waits for goes on, where the controller takes a message
grants_keep : (n k p : ℕ) (m : Msg) (a b : Option Operation) (sends : List (ℕ × Msg)) → Grants n k p m a b sends → (before after : ℕ)
    → (lost : ℕ) → weight k b p 1 m ≡ lost → after + lost ≡ before + sends_weigh (weight k b) n 1 sends → lost ≤ before → (was : ℕ)
    → (((leg : _) (node : ℕ) → awaits b leg node ≡ awaits a leg node) → before ≡ was) → wanted a ≤ was → wanted b ≤ after
grants_keep n k p m a b sends (Fresh h) before after lost is law least was same enough = omega (arith, h, law, least)
grants_keep n k p m a b sends (Waits alike h) before after lost is law least was same enough = let e = same alike in omega (arith, h, law, e, enough, is)

-- tallies on their way: from an instance, and from the controller
abbrev pub TallyLabel : {R : Type 0} → Semantics R → ℕ → ℕ → Msg → Type 0
TallyLabel f s r (Msg.AllChunk op chunk) = 2 ≤ s → IsTallyChunk f chunk
TallyLabel f s r (Msg.PutAll op chunk) = s ≡ 1 → IsTallyChunk f chunk
TallyLabel f s r m = Unit {0}

-- an instance has a tally
abbrev HasTally : {F R : Type 0} → Node F R → Type 0
HasTally (Instance i) = IsTally i.tally.slots
HasTally node = Unit {0}

module _ {R : Type 0} (f : Semantics R) where
  from_switch : (r : ℕ) (m : Msg) → TallyLabel f 0 r m
  from_switch r (Msg.AllChunk op chunk) = λ low. absurd (omega (arith, low))
  from_switch r (Msg.PutAll op chunk) = λ one. cc
  from_switch r m = tt

  switch_sent : (sends : List (ℕ × Msg)) → EachSent (TallyLabel f) 0 sends
  switch_sent [] = tt
  switch_sent (x ∷ xs) = (from_switch x.0 x.1, switch_sent xs)

  from_controller : (r : ℕ) (m : Msg) → MergesTally f m → TallyLabel f 1 r m
  from_controller r (Msg.AllChunk op chunk) h = λ low. absurd (omega (arith, low))
  from_controller r (Msg.PutAll op chunk) h = λ _. h
  from_controller r m h = tt

  controller_sent_so : (sends : List (ℕ × Msg)) → Each (λ x. MergesTally f x.1) sends → EachSent (TallyLabel f) 1 sends
  controller_sent_so [] h = tt
  controller_sent_so (x ∷ xs) h = (from_controller x.0 x.1 h.0, controller_sent_so xs h.1)

  from_instance : (i r : ℕ) (m : Msg) → GivesTally f m → TallyLabel f (suc (suc i)) r m
  from_instance i r (Msg.AllChunk op chunk) h = λ _. h
  from_instance i r (Msg.PutAll op chunk) h = λ one. absurd (omega (arith, one))
  from_instance i r m h = tt

  instance_sent : (i : ℕ) (sends : List (ℕ × Msg)) → Each (λ x. GivesTally f x.1) sends → EachSent (TallyLabel f) (suc (suc i)) sends
  instance_sent i [] h = tt
  instance_sent i (x ∷ xs) h = (from_instance i x.0 x.1 h.0, instance_sent i xs h.1)

  merged_others : (m : Msg) → is_uncopied m ≡ true → MergesTally f m
  merged_others (Msg.PutAll op chunk) e = cc
  merged_others m e = tt

  module _ (g : Given) (c : ControllerState) (p : ℕ) (m : Msg) (label : Label f g p 1 m) (tally : TallyLabel f p 1 m) where
    -- the controller hands on what it was given
    hands_tally : (k : ℕ) (chunk : Chunk) → m ≡ Msg.AllChunk k chunk → IsTallyChunk f chunk
    hands_tally k chunk e = (subst (TallyLabel f p 1) e tally) (subst (Label f g p 1) e label).0

    turn_tally : (o : Option Operation) → TurnSo (MergesTally f) merged_others o m
    turn_tally None = tt
    turn_tally (Some (Move mv)) = tt
    turn_tally (Some (Copy y)) = ((λ k chunks e. tt), hands_tally)
    turn_tally (Some (Share s)) = tt

    begin_tally : BeginSo (MergesTally f) merged_others m
    begin_tally k source destination None e is = tt
    begin_tally k source destination (Some filter) e is = tt

    tallies_sent : EachSent (TallyLabel f) 1 (controller_step c p m).sends
    tallies_sent = controller_sent_so (controller_step c p m).sends
        (controller_sent (MergesTally f) merged_others c p m (λ op e. turn_tally (finite.get c.operations op)) begin_tally)

-- what each world of a run has: what open operations wait for, and tallies
pub record HasEnough {F R : Type 0} (f : Semantics R) (n : ℕ) (w : Network (Node F R) Msg Note) : Type 0 where
  pub controller : ControllerState
  pub controller_is : (d : Node F R) → get_or w.nodes 1 d ≡ Controller controller
  pub enough : (k : ℕ) → wanted (finite.get controller.operations k) ≤ at_links (weight k (finite.get controller.operations k)) n w
  pub way : OnLinks (TallyLabel f) w
  pub tallies : (i : ℕ) → i < n → (d : Node F R) → HasTally (get_or w.nodes i d)

first_each : (P : ℕ → Type 0) (xs : List ℕ) → 1 < length xs → Each P xs → P (slice_index xs 0)
first_each P [] some h = absurd (omega (arith, some))
first_each P (x ∷ xs) some h = h.0

module _ {F R : Type 0} (f : Semantics R) (laws : FunctionLaws f) (g : Given) (fitting : (number : ℕ) → Fits g.site (g.packet number)) (n : ℕ)
    (count_is : n ≡ count f g + 2) (w : Network (Node F R) Msg Note) (j : Joined f g n w) where
  reach_at : (i : ℕ) → nat_lt i (count f g) ≡ true → reaches n 1 (instance_node i) ≡ true
  reach_at i h = let low = (Decides-ltb i (count f g)).0 h in grind (arith, nat_tests, low, count_is)

  within : AreWithin n j.nodes.controller.operations
  within = record {
    copies = λ op y there. (let is = j.shown_is.controller.copies op y there in record { op_is = is.op_is; to = reach_at y.plan.to is.to; other = is.other });
    shares = λ op s there. (let is = j.shown_is.controller.shared op s there in
        let few = each_map {P = (λ member. nat_lt member (count f g) ≡ true)} {Q = (λ member. reaches n 1 (instance_node member) ≡ true)} reach_at
        s.plan.members is.few in
        record { op_is = is.op_is; few = few; home_there = first_each (λ member. reaches n 1 (instance_node member) ≡ true) s.plan.members is.some few });
  }

  module _ (p : ℕ) (m : Msg) (rest : List Msg) where
    tally_at : (k i : ℕ) → i < n → (d : Node F R) → (takes : Takes (node_step f) n w k p (node_of j.nodes k) m rest) → HasTally
        (node_step f (node_of j.nodes k) p m).node
        → HasEnough f n w → HasTally (get_or (world_next (node_step f) w (at k p)).nodes i d)
    tally_at k i low d takes tally h =
        let left = taken_outcome (node_step f) n w k p (node_of j.nodes k) m rest takes in
        split (i == k) (λ _. HasTally (get_or (world_next (node_step f) w (at k p)).nodes i d))
        (λ on. (let same : i ≡ k = grind (arith, nat_tests, on) in
        subst (λ y. HasTally (get_or (world_next (node_step f) w (at k p)).nodes y d)) (sym same) (subst HasTally (sym (left.own d)) tally)))
        (λ off. (let apart : i ≢ k = grind (arith, nat_tests, off) in subst HasTally (sym (left.others i d apart)) (h.tallies i low d)))

    -- where another node than the controller took the message, and passes it on
    others_keep : (k : ℕ) → k ≢ 1 → (takes : Takes (node_step f) n w k p (node_of j.nodes k) m rest)
        → ((op : ℕ) (x : Option Operation) → weight op x p k m ≤ sends_weigh (weight op x) n k (node_step f (node_of j.nodes k) p m).sends)
        → EachSent (TallyLabel f) k (node_step f (node_of j.nodes k) p m).sends → HasTally (node_step f (node_of j.nodes k) p m).node → HasEnough f n w
        → HasEnough f n (world_next (node_step f) w (at k p))
    others_keep k other takes passes sent tally h =
        let left = taken_outcome (node_step f) n w k p (node_of j.nodes k) m rest takes in
        record {
          controller = h.controller;
          controller_is = λ d. left.others 1 d (λ e. other (sym e)) ∙ h.controller_is d;
          enough = λ op.
              let x = finite.get h.controller.operations op in
              omega (arith, at_links_after (node_step f) n w k p (node_of j.nodes k) m rest takes (weight op x), passes op x, h.enough op);
          way = on_links_after (TallyLabel f) (node_step f) n w k p (node_of j.nodes k) m rest takes h.way sent;
          tallies = λ i low d. tally_at k i low d takes tally h;
        }

    -- the label of what is taken
    tally_label : (k : ℕ) (takes : Takes (node_step f) n w k p (node_of j.nodes k) m rest) → HasEnough f n w → TallyLabel f p k m
    tally_label k takes h = (subst (λ ms. weights.Each (TallyLabel f p k) ms) takes.waits
        (h.way p k (let c = takes.count in rw c takes.sender) (let c = takes.count in rw c takes.receiver))).0

    can_read : (i : ℕ) → Label f g p (suc (suc i)) m → TallyLabel f p (suc (suc i)) m → MergesTally f m
    can_read i label tally = by_message m label tally
      where
        by_message : (x : Msg) → Label f g p (suc (suc i)) x → TallyLabel f p (suc (suc i)) x → MergesTally f x
        by_message (Msg.PutAll op chunk) label tally = tally label.0
        by_message x label tally = tt

    reads_it : (x : Msg) → MergesTally f x → CanRead f x
    reads_it (Msg.PutAll op chunk) h = (h.slots, reads f chunk h)
    reads_it x h = tt

    -- what an instance's (node_step f) leaves
    pub its_leaves : (i : ℕ) → Takes (node_step f) n w (suc (suc i)) p (node_of j.nodes (suc (suc i))) m rest → Label f g p (suc (suc i)) m → HasEnough f n w
        → StepLeaves f (over_by m (j.nodes.instance (suc (suc i))).ended) (instance_step f (j.nodes.instance (suc (suc i))) m)
    its_leaves i takes label h = instance_leaves f (j.nodes.instance (suc (suc i))) m (subst HasTally
        (j.nodes_are (suc (suc i)) takes.receiver (node_of j.nodes (suc (suc i)))) (h.tallies (suc (suc i)) takes.receiver (node_of j.nodes (suc (suc i)))))
        (can_read i label (tally_label (suc (suc i)) takes h))

    enough_after : (k : ℕ) (takes : Takes (node_step f) n w k p (node_of j.nodes k) m rest) → Label f g p k m → HasEnough f n w
        → HasEnough f n (world_next (node_step f) w (at k p))
    enough_after zero takes label h =
        let passes = switch_passes f g n count_is j.nodes.switch j.shown_is.switch.instances p m label in
        others_keep 0 (λ e. cc) takes (λ op x. passes_weigh op x n 0 (token_of p 0 m) (switch_step j.nodes.switch m).sends passes)
        (switch_sent f (switch_step j.nodes.switch m).sends) tt h
    enough_after (suc zero) takes label h =
        let c = j.nodes.controller in
        let left = taken_outcome (node_step f) n w 1 p (node_of j.nodes 1) m rest takes in
        let same : h.controller ≡ c = own_controller j takes.receiver h.controller h.controller_is in
        let there : reaches n 1 0 ≡ true = grind (arith, nat_tests, takes.some) in
        let names : n ≡ length c.names + 2 = count_is ∙ ap (λ v. length v + 2) (sym j.shown_is.controller.names) in
        record {
          controller = (controller_step c p m).node;
          controller_is = left.own;
          enough = λ op.
              let before = finite.get c.operations op in
              let after = finite.get (controller_step c p m).node.operations op in
              let was : wanted before ≤ at_links (weight op before) n w =
              subst (λ y. wanted (finite.get y.operations op) ≤ at_links (weight op (finite.get y.operations op)) n w) same (h.enough op) in
              grants_keep n op p m before after (controller_step c p m).sends (controller_gives n there c names within p m op)
              (at_links (weight op after) n w) (at_links (weight op after) n (world_next (node_step f) w (at 1 p))) (weight op after p 1 m) refl
              (at_links_after (node_step f) n w 1 p (node_of j.nodes 1) m rest takes (weight op after))
              (taken_least (node_step f) n w 1 p (node_of j.nodes 1) m rest takes (weight op after)) (at_links (weight op before) n w)
              (λ alike. at_links_same (weight op after) (weight op before) n w (λ s r x. counts_same op before after alike (token_of s r x))) was;
          way = on_links_after (TallyLabel f) (node_step f) n w 1 p (node_of j.nodes 1) m rest takes h.way
              (tallies_sent f g c p m label (tally_label 1 takes h));
          tallies = λ i low d. tally_at 1 i low d takes tt h;
        }
    enough_after (suc (suc i)) takes label h =
        let k : ℕ = suc (suc i) in
        let x = j.nodes.instance k in
        let at_site = (j.shown_is.instances k (omega arith) takes.receiver).rules.at in
        let merges = can_read i label (tally_label k takes h) in
        let leaves = its_leaves i takes label h in
        let passes = instance_passes f laws g fitting n i takes.receiver x at_site p m label (reads_it m merges) in
        others_keep k (λ e. absurd (omega (arith, e))) takes (λ op o. passes_weigh op o n k (token_of p k m) (instance_step f x m).sends passes)
        (instance_sent f i (instance_step f x m).sends leaves.sends) leaves.tally h

-- nothing of a copy or a share stands in an input
none_in : (m : Msg) → token_of 0 0 m ≡ None
none_in (Msg.Install op filter from to) = refl
none_in m = refl

input_light : (k : ℕ) (o : Option Operation) (ms : List Msg) → weights.weigh (weight k o 0 0) ms ≡ 0
input_light k o [] = refl
input_light k o (m ∷ ms) = let own = ap (counts k o) (none_in m) in let rest = input_light k o ms in omega (arith, own, rest)

-- a tally of zeros
zero_at : (n i : ℕ) → slice_index (replicate n 0) i ≡ 0
zero_at zero i = refl
zero_at (suc n) zero = refl
zero_at (suc n) (suc i) = zero_at n i

first_tally : IsTally (replicate 16 0)
first_tally = record { size = length-replicate {A = ℕ} 16 0; each = λ i. (let e = zero_at 16 i in omega (arith, e)) }

pub each_at : {X : Type 0} (P : X → Type 0) (xs : List X) → Each P xs → (i : ℕ) → i < length xs → (d : X) → P (get_or xs i d)
each_at P [] h i less d = absurd (omega (arith, less))
each_at P (x ∷ xs) h zero less d = h.0
each_at P (x ∷ xs) h (suc i) less d = each_at P xs h.1 i (omega (arith, less)) d

module _ {F R : Type 0} (setting : Setting F R) where
  open setting use {function as f, laws, alloc, config as c, items}

  abbrev nodes : ℕ
  nodes = length c.names + 2

  instances_tally : (i : ℕ) → Each HasTally (first_instances {F = F} {R = R} alloc c i)
  instances_tally zero = tt
  instances_tally (suc i) =
      each-append HasTally (first_instances {F = F} {R = R} alloc c i) (Instance (first_instance alloc c i) ∷ []) (instances_tally i) (first_tally, tt)

  items_way : (ms : List Msg) → weights.Each (TallyLabel f 0 0) ms
  items_way [] = tt
  items_way (m ∷ ms) = (from_switch f 0 m, items_way ms)

  pub enough_at_start : HasEnough f nodes (start setting)
  enough_at_start =
      let count = count_at_start setting in
      record {
        controller = opened_controller c.names c.site;
        controller_is = λ d. refl;
        enough = λ k. (let none : wanted (finite.get (opened_controller c.names c.site).operations k) ≡ 0 = ap wanted (finite.get-empty nat_cmp k) in
            omega (arith, none));
        way = opening_on_links Note (first_nodes {F = F} {R = R} alloc c) items (TallyLabel f) (omega (arith, count)) (items_way items);
        tallies = λ i low d. each_at HasTally (first_nodes {F = F} {R = R} alloc c) (tt, (tt, instances_tally (length c.names))) i
            (omega (arith, count, low)) d;
      }

  pub enough_next : (w : Network (Node F R) Msg Note) (k : Choice) → Taking node_ready (node_step f) nodes w k → Runs setting w
      → HasEnough f nodes w → HasEnough f nodes (world_next (node_step f) w k)
  enough_next w k t r h =
      let g : Given = given setting in
      let fitting = all_fit setting in
      enough_after f laws g fitting nodes refl w r.joined k.port t.message t.rest k.node (its_takes f laws g fitting nodes refl w k t r.joined r.beside)
      (its_label f laws g fitting nodes refl w k t r.joined r.beside) h

  pub run_enough : (cs : List Choice) → IsCourse setting cs → HasEnough f nodes (world_of setting cs)
  run_enough = run_keeps setting (λ _ w. HasEnough f nodes w) enough_at_start (λ ds ok d s. enough_next (world_of setting ds) d s.taking s.runs)

-- what is open where no message is on a link: no copy, and no share but idle ones
abbrev pub IsCalm : Option Operation → Type 0
IsCalm (Some (Copy y)) = ⊥
IsCalm (Some (Share s)) = s.phase ≡ SharePhase.Idle
IsCalm o = Unit {0}

some_more : (left : ℕ) → some_left left ≡ 0 → ⊥
some_more zero e = absurd (omega (arith, e))
some_more (suc left) e = absurd (omega (arith, e))

module _ {F R : Type 0} (f : Semantics R) (g : Given) (n : ℕ) (w : Network (Node F R) Msg Note) (j : Joined f g n w) (h : HasEnough f n w) (some : 1 < n)
    (silent : (s r : ℕ) → (r == 0) && (s == 0) ≡ false → queue_at w (at r s) ≡ []) where
  no_links : (k : ℕ) (o : Option Operation) → at_links (weight k o) n w ≡ 0
  no_links k o = at_links_none (weight k o) n w
      (λ s r hs hr. split ((r == 0) && (s == 0)) (λ _. weights.weigh (weight k o s r) (queue_at w (at r s)) ≡ 0)
      (λ on.
      let s_zero : s ≡ 0 = grind (arith, nat_tests) in
      let r_zero : r ≡ 0 = grind (arith, nat_tests) in
      rw (s_zero, r_zero) (input_light k o (queue_at w (at 0 0)))) (λ off. ap (weights.weigh (weight k o s r)) (silent s r off)))

  pub calm : (k : ℕ) → IsCalm (finite.get j.nodes.controller.operations k)
  calm k = by_got (finite.get j.nodes.controller.operations k) refl none
    where
      none : wanted (finite.get j.nodes.controller.operations k) ≡ 0
      none =
          let same : h.controller ≡ j.nodes.controller = own_controller j some h.controller h.controller_is in
          subst (λ y. wanted (finite.get y.operations k) ≡ 0) same (omega (arith, no_links k (finite.get h.controller.operations k), h.enough k))

      by_copy : (ph : CopyPhase) → copy.answer_of ph ≡ None → copy_wants ph ≡ 0 → ⊥
      by_copy CopyPhase.Getting going e = absurd (omega (arith, e))
      by_copy CopyPhase.Keeping going e = absurd (omega (arith, e))
      by_copy CopyPhase.Over going e = cc

      by_share : (ph : SharePhase) → share_wants ph ≡ 0 → ph ≡ SharePhase.Idle
      by_share SharePhase.Fencing e = absurd (omega (arith, e))
      by_share SharePhase.Getting e = absurd (omega (arith, e))
      by_share (SharePhase.Setting left) e = absurd (some_more left e)
      by_share SharePhase.Idle e = refl
      by_share (SharePhase.Out member) e = absurd (omega (arith, e))
      by_share (SharePhase.Syncing left) e = absurd (some_more left e)

      by_got : (o : Option Operation) → finite.get j.nodes.controller.operations k ≡ o → wanted o ≡ 0 → IsCalm o
      by_got None there e = tt
      by_got (Some (Move mv)) there e = tt
      by_got (Some (Copy y)) there e = by_copy y.phase (j.shown_is.controller.copies k y there).going e
      by_got (Some (Share s)) there e = by_share s.phase e
