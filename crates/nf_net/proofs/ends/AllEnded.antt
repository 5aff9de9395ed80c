-- Where no message is on a link and nothing is in the input, all is quiet at the controller, so the finish was sent, and all nodes have ended.
use Rattle.nf_net.proofs.Words.{◌≡◌, ℕ, zero, suc, ◌+◌, ◌<◌, Bool, true, false, Option, Some, None, List, [], ◌∷◌, length, get_or, refl, sym, ap, ◌∙◌, subst}
use Rattle.nf_net.proofs.Words.{arith, if◌then◌else◌, ◌&&◌, ◌==◌, not, find, list_all, nat_tests, Decides-eqb, Semantics, stored_of, FullCell, Msg, Note}
use Rattle.nf_net.proofs.Words.{SharePhase, ShareState, is_idle, Operation, Move, Copy, Share, OpenOperations, is_quiet, are_quiet, Network, IsWorld, queue_at}
use Rattle.nf_net.proofs.Words.{at, weigh, total, OpenShare, find_share, Node, Switch, node_ended, Given, place, Joined, silent_total, split}
use Rattle.std.specs.FinMap as finite
use Rattle.proof_outlines.proofs.whole.OpenShares.{share_in, SeesOne}
use Rattle.proof_outlines.proofs.whole.ShareOutline.{Rests}
use Rattle.proof_outlines.proofs.joined.Joined.{count}
use Rattle.nf_net.proofs.RunWords.{own_controller, flag_full}
use Rattle.nf_net.proofs.answers.FirstEntries.{passes, found_passes}
use Rattle.nf_net.proofs.answers.InstallCounts.{finish}
use Rattle.net_world.proofs.SilentLinks.{all_of}
use Rattle.nf_net.proofs.ends.TokenRuns.{HasEnough, IsCalm, calm}
use Rattle.nf_net.proofs.ends.NoMoves.{no_move}
use Rattle.nf_net.proofs.ends.EndSteps.{ending, stop, final}
use Rattle.nf_net.proofs.ends.EndingRuns.{HasEnding}

-- all operations that are found pass a test, so all entries do
none_fails : (q : Operation → Bool) (es : List (ℕ × Operation)) → find (λ e. not (q e.1)) es ≡ None → list_all (λ e. q e.1) es ≡ true
none_fails q [] is = refl
none_fails q (e ∷ es) is = split (q e.1) (λ b. (if not b then Some e else find (λ x. not (q x.1)) es) ≡ None → b && list_all (λ x. q x.1) es ≡ true)
    (λ _ rest. none_fails q es rest) (λ _ never. cc) is

found_pass : (ops : OpenOperations) (q : Operation → Bool) → ((op : ℕ) (o : Operation) → finite.get ops op ≡ Some o → q o ≡ true)
    → list_all (λ e. q e.1) (finite.entries ops) ≡ true
found_pass ops q h = by_found (find (λ e. not (q e.1)) (finite.entries ops)) refl
  where
    by_got : (op : ℕ) (o : Option Operation) → finite.get ops op ≡ o → passes (λ x. not (q x)) o ≡ true → ⊥
    by_got op None is fails = let never : false ≡ true = fails in cc
    by_got op (Some o) is fails = let never : false ≡ true = sym (ap not (h op o is)) ∙ fails in cc

    by_found : (o : Option (ℕ × Operation)) → find (λ e. not (q e.1)) (finite.entries ops) ≡ o → list_all (λ e. q e.1) (finite.entries ops) ≡ true
    by_found None is = none_fails q (finite.entries ops) is
    by_found (Some x) is = absurd (by_got x.0 (finite.get ops x.0) refl (found_passes ops (λ o. not (q o)) x is))

idle_quiet : (ph : SharePhase) (cells : List FullCell) → ph ≡ SharePhase.Idle → Rests ph cells → is_idle ph cells ≡ true
idle_quiet SharePhase.Idle [] e rests = refl
idle_quiet SharePhase.Idle (cell ∷ cells) e rests = absurd rests
idle_quiet ph cells e rests = cc

sent_of : (a b q : Bool) → a && not b && q ≡ false → a ≡ true → q ≡ true → b ≡ true
sent_of true true q e h k = refl
sent_of true false true e h k = cc
sent_of true false false e h k = cc
sent_of false b q e h k = cc

module _ {F R : Type 0} (f : Semantics R) (g : Given) (n : ℕ) (count_is : n ≡ count f g + 2) (w : Network (Node F R) Msg Note)
    (world : IsWorld w) (nodes : length w.nodes ≡ n) (j : Joined f g n w) (enough : HasEnough f n w)
    (silent : (s r : ℕ) → (r == 0) && (s == 0) ≡ false → queue_at w (at r s) ≡ []) where
  -- what is open is quiet
  calm_at : (op : ℕ) → IsCalm (finite.get j.nodes.controller.operations op)
  calm_at op = calm f g n w j enough (omega (arith, count_is)) silent op

  pub settled_share : (op : ℕ) (o : Operation) → finite.get j.nodes.controller.operations op ≡ Some o
      → (s : ShareState) × ((o ≡ Share s) × (s.phase ≡ SharePhase.Idle))
  settled_share op (Move m) there = absurd (no_move f g n count_is w j silent op m there)
  settled_share op (Copy y) there = absurd (subst IsCalm there (calm_at op))
  settled_share op (Share s) there = (s, (refl, subst IsCalm there (calm_at op)))

  quiet_at : (op : ℕ) (o : Operation) → finite.get j.nodes.controller.operations op ≡ Some o → is_quiet j.nodes.controller.store o ≡ true
  quiet_at op (Move m) there = absurd (no_move f g n count_is w j silent op m there)
  quiet_at op (Copy y) there = absurd (subst IsCalm there (calm_at op))
  quiet_at op (Share s) there =
      let own = (j.shown_is.controller.shared op s there).op_is in
      let sees = subst (λ p. SeesOne f (place g) g.site (find_share j.world.shares op) (share_in p) (stored_of j.nodes.controller.store op)) there
      (j.shown_is.controller.opens op).share in
      idle_quiet s.phase (stored_of j.nodes.controller.store s.plan.op) (subst IsCalm there (calm_at op))
      (subst (λ k. Rests s.phase (stored_of j.nodes.controller.store k)) (sym own) (by_share (find_share j.world.shares op) sees))
    where
      by_share : (o : Option OpenShare) → SeesOne f (place g) g.site o (Some s) (stored_of j.nodes.controller.store op)
          → Rests s.phase (stored_of j.nodes.controller.store op)
      by_share None h = absurd h
      by_share (Some e) h = h.rests

  all_quiet : are_quiet j.nodes.controller.operations j.nodes.controller.store ≡ true
  all_quiet = found_pass j.nodes.controller.operations (is_quiet j.nodes.controller.store) quiet_at

  module _ (h : HasEnding n w) (input : w.input ≡ []) (grounded : j.nodes.switch.flying ≡ 0) where
    nothing : (q : Msg → ℕ) → total q w ≡ 0
    nothing q = silent_total w world silent q ∙ ap (weigh q) input

    one : 1 < n
    one = omega (arith, count_is)

    same_one : h.controller ≡ j.nodes.controller
    same_one = own_controller j one h.controller h.controller_is

    ended_came : h.controller.end_came ≡ true
    ended_came = let some = h.came in let none = nothing ending in flag_full h.controller.end_came (omega (arith, some, none))

    finish_sent : h.controller.finish_sent ≡ true
    finish_sent =
        let quiet : are_quiet h.controller.operations h.controller.store ≡ true = ap (λ c. are_quiet c.operations c.store) same_one ∙ all_quiet in
        sent_of h.controller.end_came h.controller.finish_sent (are_quiet h.controller.operations h.controller.store) h.quiet ended_came quiet

    closed : h.switch.closed ≡ true
    closed = let some = h.finished finish_sent in let none = nothing finish in flag_full h.switch.closed (omega (arith, some, none))

    instance_ended : (i : ℕ) → suc (suc i) < n → (d : Node F R) → node_ended (get_or w.nodes (suc (suc i)) d) ≡ true
    instance_ended i low d =
        let none = ap (weigh stop) (silent 0 (suc (suc i)) (grind (arith, nat_tests))) in
        flag_full (node_ended (get_or w.nodes (suc (suc i)) d)) (omega (arith, h.stops closed i low d, none))

    instance_stopped : (i : ℕ) → suc (suc i) < n → (d : Node F R) → get_or h.controller.stopped i false ≡ true
    instance_stopped i low d =
        let none = ap (weigh final) (silent (suc (suc i)) 1 (grind (arith, nat_tests))) in
        flag_full (get_or h.controller.stopped i false) (omega (arith, h.finals i low d (instance_ended i low d), none))

    pub nodes_ended : list_all node_ended w.nodes ≡ true
    nodes_ended = all_of node_ended w.nodes (Switch h.switch) by_place
      where
        by_place : (k : ℕ) → k < length w.nodes → node_ended (get_or w.nodes k (Switch h.switch)) ≡ true
        by_place zero less =
            let is : Switch h.switch ≡ Switch j.nodes.switch = sym (h.switch_is (Switch h.switch))
            ∙ j.nodes_are 0 (omega (arith, less, nodes)) (Switch h.switch) in
            let same : h.switch ≡ j.nodes.switch = cc in
            let flying : (h.switch.flying == 0) ≡ true = (Decides-eqb h.switch.flying 0).1 (ap (λ s. s.flying) same ∙ grounded) in
            let shut = closed in
            ap node_ended (h.switch_is (Switch h.switch)) ∙ ap (λ b. b && (h.switch.flying == 0)) shut ∙ flying
        by_place (suc zero) less =
            let names = j.shown_is.controller.names in
            let many : length h.controller.stopped + 2 ≡ n = ap (λ k. k + 2) (h.many ∙ ap (λ c. length c.names) same_one ∙ ap length names) ∙ sym count_is in
            ap node_ended (h.controller_is (Switch h.switch))
            ∙ all_of (λ it. it) h.controller.stopped false (λ i low. instance_stopped i (omega (arith, low, many)) (Switch h.switch))
        by_place (suc (suc i)) less = instance_ended i (omega (arith, less, nodes)) (Switch h.switch)
