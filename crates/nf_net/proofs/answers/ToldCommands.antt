-- No command is lost: each of the input waits still, or the log says that it began or was answered. So in a complete run each is answered.
use Rattle.nf_net.proofs.Words.{◌≡◌, ℕ, zero, suc, ◌+◌, ◌≤◌, Bool, true, false, Option, Some, None, List, [], ◌∷◌, ◌++◌, length, refl, sym, ap, ◌∙◌, subst}
use Rattle.nf_net.proofs.Words.{arith, if◌then◌else◌, ◌&&◌, ◌||◌, ◌==◌, not, nat_lt, find, is_some, option_map, filter_map, option_or, nat_tests, Decides-eqb}
use Rattle.nf_net.proofs.Words.{Decides-ltb, and_parts, Filter, Semantics, Answer, Unknown, Overlap, Order, Msg, Note, Choice, Network, is_done, reaches}
use Rattle.nf_net.proofs.Words.{world_next, done_weight, at, opening_weight, Takes, taken_outcome, weigh, total, sent_weight, total_after, Operation, Move}
use Rattle.nf_net.proofs.Words.{Copy, Share, ControllerState, refusal, unknown_name, overlap, move_between, copy_between, share_begin, begin_step}
use Rattle.nf_net.proofs.Words.{decision_step, on_asked, controller_step, place_of, SwitchState, switch_step, Node, Controller, is_begun, has_answered}
use Rattle.nf_net.proofs.Words.{is_share, keeps_off, answers_of, commands, order_numbered, ends_last, node_step, node_ended, first_nodes, answers_in}
use Rattle.nf_net.proofs.Words.{has_begun-append, has_answered-append, is_whole, Given, Label, Joined, node_of, names_known, given, Done, split, Setting, start}
use Rattle.nf_net.proofs.Words.{IsCourse, world_of}
use Rattle.std.specs.FinMap as finite
use Rattle.ctrl_node.specs.Controller as controller
use Rattle.ctrl_node.specs.Controller.{Step, still}
use Rattle.net_world.proofs.PickedLists.{some_kept}
use Rattle.nf_net.proofs.RunWords.{is_noted, Busy, own_controller, keeps_is, told_is, run_busy, flag, IsSettled, flag_full, run_keeps, after_world}
use Rattle.nf_net.proofs.answers.EndRuns.{run_ends, all_settled}
use Rattle.proof_outlines.proofs.joined.Joined.{count, is_built}

-- a command of this number that waits
abbrev pub told : ℕ → Msg → ℕ
told op (Msg.Asked c) = if c.op == op then 1 else 0
told op (Msg.InCommand c) = if c.op == op then 1 else 0
told op m = 0

-- notes stay
noted_more : (op : ℕ) (xs ys : List Note) → flag (is_noted op xs) ≤ flag (is_noted op (xs ++ ys))
noted_more op xs ys =
    let begun = has_begun-append (λ k. k == op) xs ys in
    rw (begun, has_answered-append op xs ys) (more (is_begun op xs) (is_begun op ys) (has_answered op xs) (has_answered op ys))
  where
    more : (a b d e : Bool) → flag (a || d) ≤ flag ((a || b) || (d || e))
    more true b d e = omega arith
    more false true d e = elim d as (λ x. flag x ≤ flag (true || (x || e))) [ true ↦ omega arith | false ↦ omega arith ]
    more false false true e = omega arith
    more false false false e = omega arith

noted_new : (op : ℕ) (xs ys : List Note) → is_noted op ys ≡ true → is_noted op (xs ++ ys) ≡ true
noted_new op xs ys h =
    let begun = has_begun-append (λ k. k == op) xs ys in
    rw (begun, has_answered-append op xs ys) (more (is_begun op xs) (is_begun op ys) (has_answered op xs) (has_answered op ys) h)
  where
    more : (a b d e : Bool) → b || e ≡ true → (a || b) || (d || e) ≡ true
    more true b d e k = refl
    more false true d e k = refl
    more false false true e k = refl
    more false false false true k = refl
    more false false false false k = cc

-- a share has names
abbrev NamesSome : Order → Type 0
NamesSome (Order.Share members filter) = 1 ≤ length members
NamesSome what = Unit {0}

names_some : {R : Type 0} (f : Semantics R) (g : Given) (what : Order) → is_built f g what ≡ true → NamesSome what
names_some f g (Order.Share members filter) built =
    let two = (Decides-ltb 1 (length members)).0 (and_parts (nat_lt 1 (length members)) _ (and_parts (is_whole f.kind filter) _ built).1).0 in
    omega (arith, two)
names_some f g what built = tt

-- The controller begins or answers each command that it takes.
module _ (g : Given) (log : List Note) (c : ControllerState) (op : ℕ) (open_is : finite.contains_key c.operations op ≡ keeps_off g.names g.orders op log) where
  abbrev Noted : Step → Type 0
  Noted did = is_noted op (log ++ did.notes) ≡ true

  self : (op == op) ≡ true
  self = grind (arith, nat_tests)

  answered_noted : (a : Answer) → Noted (controller.answers c op a)
  answered_noted a = noted_new op log (controller.answers c op a).notes (let own = self in rw own refl)

  between_noted : (filter : Filter) (keep : Bool) (a b : Option ℕ) → is_some a ≡ true → is_some b ≡ true → Noted (move_between c op filter keep a b)
  between_noted filter keep (Some a) (Some b) h k = noted_new op log (move_between c op filter keep (Some a) (Some b)).notes (let own = self in rw own refl)
  between_noted filter keep None b h k = cc
  between_noted filter keep (Some a) None h k = cc

  copies_noted : (filter : Option Filter) (a b : Option ℕ) → is_some a ≡ true → is_some b ≡ true → Noted (copy_between c op filter a b)
  copies_noted filter (Some a) (Some b) h k = noted_new op log (copy_between c op filter (Some a) (Some b)).notes (let own = self in rw own refl)
  copies_noted filter None b h k = cc
  copies_noted filter (Some a) None h k = cc

  -- two names that are known
  both_known : (a b : List ℕ) (p q : Bool) → (if not p then Some a else if not q then Some b else None) ≡ None → (p ≡ true) × (q ≡ true)
  both_known a b true true e = (refl, refl)
  both_known a b false q e = cc
  both_known a b true false e = cc

  none_of : (u : Option (List ℕ)) (q : Option ℕ) → option_or (option_map Unknown u) (option_map Overlap q) ≡ None → u ≡ None
  none_of None q e = refl
  none_of (Some u) q e = cc

  shares_noted : (filter : Filter) (members : List ℕ) → 1 ≤ length members → Noted (share_begin c op filter members)
  shares_noted filter [] some = absurd (omega (arith, some))
  shares_noted filter (home ∷ others) some = noted_new op log (share_begin c op filter (home ∷ others)).notes (let own = self in rw own refl)

  begins_noted : (what : Order) → NamesSome what → refusal c what ≡ None → Noted (begin_step c op what)
  begins_noted (Order.Move source destination filter keep) some none =
      let known = both_known source destination (is_some (place_of c.names source)) (is_some (place_of c.names destination))
      (none_of (unknown_name c (Order.Move source destination filter keep)) (overlap c (Order.Move source destination filter keep)) none) in
      between_noted filter keep (place_of c.names source) (place_of c.names destination) known.0 known.1
  begins_noted (Order.Copy source destination filter) some none =
      let known = both_known source destination (is_some (place_of c.names source)) (is_some (place_of c.names destination))
      (none_of (unknown_name c (Order.Copy source destination filter)) (overlap c (Order.Copy source destination filter)) none) in
      copies_noted filter (place_of c.names source) (place_of c.names destination) known.0 known.1
  begins_noted (Order.Share members filter) some none =
      let known = names_known c.names members (none_of (unknown_name c (Order.Share members filter)) (overlap c (Order.Share members filter)) none) in
      shares_noted filter (filter_map (place_of c.names) members) (omega (arith, known.many, some))

  decided_noted : (what : Order) → NamesSome what → (o : Option Answer) → refusal c what ≡ o → Noted (decision_step c op what o)
  decided_noted what some (Some a) is = answered_noted a
  decided_noted what some None is = begins_noted what some is

  asked_noted : (what : Order) → NamesSome what → Noted (on_asked c (record { op = op; what = what }))
  asked_noted what some = split (finite.contains_key c.operations op) (λ b. Noted (if b then still c else decision_step c op what (refusal c what)))
      (λ on. (let more = noted_more op log [] in
      let was = kept_noted (is_begun op log) (is_share (g.orders op)) (has_answered op log) (sym open_is ∙ on) in
      flag_full (is_noted op (log ++ [])) (omega (arith, more, ap flag was)))) (λ off. decided_noted what some (refusal c what) refl)
    where
      kept_noted : (a s b : Bool) → a && (s || not b) ≡ true → a || b ≡ true
      kept_noted true s b e = refl
      kept_noted false s b e = cc

-- What each node's step does with a command.
module _ {R : Type 0} (f : Semantics R) (g : Given) (op : ℕ) where
  controller_told : (log : List Note) (c : ControllerState) → ((k : ℕ) → finite.contains_key c.operations k ≡ keeps_off g.names g.orders k log)
      → (p : ℕ) (m : Msg) → Label f g p 1 m → told op m ≤ flag (is_noted op (log ++ (controller_step c p m).notes))
  controller_told log c open_is p (Msg.InCommand k) label = let never = label.0.1 in cc
  controller_told log c open_is p (Msg.Asked k) label =
      let noted = asked_noted g log c k.op (open_is k.op) k.what (names_some f g k.what label.2.built) in
      let from : (p == 0) ≡ true = (Decides-eqb p 0).1 label.0 in
      let all : is_noted k.op (log ++ (controller_step c p (Msg.Asked k)).notes) ≡ true =
      ap (λ b. is_noted k.op (log ++ (if b then on_asked c k else still c).notes)) from ∙ noted in
      split (k.op == op) (λ b. (if b then 1 else 0) ≤ flag (is_noted op (log ++ (controller_step c p (Msg.Asked k)).notes)))
      (λ on. (let mine = subst (λ y. is_noted y (log ++ (controller_step c p (Msg.Asked k)).notes) ≡ true) ((Decides-eqb k.op op).0 on) all in
      let one = ap flag mine in omega (arith, one))) (λ off. omega arith)
  controller_told log c open_is p m label = omega arith

  switch_told : (n : ℕ) → reaches n 0 1 ≡ true → (s : SwitchState) (p : ℕ) (m : Msg) → Label f g p 0 m
      → told op m ≤ sent_weight (told op) n 0 (switch_step s m).sends
  switch_told n reach s p (Msg.InCommand k) label = rw reach (omega arith)
  switch_told n reach s p (Msg.Asked k) label = let never = label.1 in cc
  switch_told n reach s p m label = omega arith

  instance_told : (p k : ℕ) (m : Msg) → 2 ≤ k → Label f g p k m → told op m ≡ 0
  instance_told p k (Msg.Asked c) two label = let one = label.1 in absurd (omega (arith, one, two))
  instance_told p k (Msg.InCommand c) two label = let none = label.0.1 in absurd (omega (arith, none, two))
  instance_told p k m two label = refl

-- each command of the input waits, began or was answered
abbrev pub Told : List Msg → {F R : Type 0} → Network (Node F R) Msg Note → Type 0
Told items w = (op : ℕ) → 1 ≤ weigh (told op) items → 1 ≤ total (told op) w + flag (is_noted op w.log)

module _ {F R : Type 0} (f : Semantics R) (g : Given) (n : ℕ) (count_is : n ≡ count f g + 2) (items : List Msg) where
  told_after : (w : Network (Node F R) Msg Note) (k p : ℕ) (m : Msg) (rest : List Msg) (j : Joined f g n w)
      (takes : Takes (node_step f) n w k p (node_of j.nodes k) m rest)
      → Label f g p k m → Busy g w → Told items w → Told items (world_next (node_step f) w (at k p))
  told_after w k p m rest j takes labelled b h op some = by_node k takes labelled
    where
      -- what is left, by what the (node_step f) sends and notes
      left : (k : ℕ) (takes : Takes (node_step f) n w k p (node_of j.nodes k) m rest)
          → told op m ≤ sent_weight (told op) n k (node_step f (node_of j.nodes k) p m).sends + flag
          (is_noted op (w.log ++ (node_step f (node_of j.nodes k) p m).notes))
          → 1 ≤ total (told op) (world_next (node_step f) w (at k p)) + flag (is_noted op (world_next (node_step f) w (at k p)).log)
      left k takes less =
          let notes = (node_step f (node_of j.nodes k) p m).notes in
          let log = ap (λ l. flag (is_noted op l)) (taken_outcome (node_step f) n w k p (node_of j.nodes k) m rest takes).log in
          omega (arith, log, total_after (node_step f) n w k p (node_of j.nodes k) m rest takes (told op), noted_more op w.log notes, h op some, less)

      by_node : (k : ℕ) → Takes (node_step f) n w k p (node_of j.nodes k) m rest → Label f g p k m
          → 1 ≤ total (told op) (world_next (node_step f) w (at k p)) + flag (is_noted op (world_next (node_step f) w (at k p)).log)
      by_node zero takes labelled =
          let reach : reaches n 0 1 ≡ true = grind (arith, nat_tests, count_is) in
          left 0 takes (omega (arith, switch_told f g op n reach j.nodes.switch p m labelled))
      by_node (suc zero) takes labelled =
          let noted = controller_told f g op w.log j.nodes.controller (keeps_is f g n count_is w j b) p m labelled in
          left 1 takes (omega (arith, noted))
      by_node (suc (suc i)) takes labelled = left (suc (suc i)) takes (omega (arith, instance_told f g op p (suc (suc i)) m (omega arith) labelled))

-- a command of the input
listed : (op : ℕ) (items : List Msg) (what : Order) → order_numbered items op ≡ Some what → 1 ≤ weigh (told op) items
listed op [] what is = cc
listed op (Msg.InCommand c ∷ items) what is = split (c.op == op)
    (λ b. option_map (λ x. x.what) (if b then Some c else find (λ x. x.op == op) (commands items)) ≡ Some what → 1 ≤ (if b then 1 else 0) + weigh
    (told op) items)
    (λ _ here. omega arith) (λ _ behind. (let rest = listed op items what behind in omega (arith, rest))) is
listed op (m ∷ items) what is = let rest = listed op items what is in omega (arith, rest)

-- a command that isn't kept any longer was answered
pub closed_answered : (a s b : Bool) → a && (s || not b) ≡ false → 1 ≤ flag (a || b) → b ≡ true
closed_answered a s true e h = refl
closed_answered true true false e h = cc
closed_answered true false false e h = cc
closed_answered false s false e h = absurd (omega (arith, h))

-- an answer stands among the answers
pub some_answers : (op : ℕ) (log : List Note) → has_answered op log ≡ true → 1 ≤ length (answers_of op log)
some_answers op log h = some_kept (λ one. one.0 == op) (λ one. one.1) (answers_in log) h

module _ {F R : Type 0} (setting : Setting F R) where
  open setting use {function as f, alloc, config as c, items, is_input as is}

  abbrev first : Network (Node F R) Msg Note
  first = start setting

  abbrev g : Given
  g = given setting

  told_at_start : Told items first
  told_at_start op some = let all = opening_weight Note (first_nodes {F = F} {R = R} alloc c) items (told op) in omega (arith, all, some)

  pub run_told : (cs : List Choice) → IsCourse setting cs → Told items (world_of setting cs)
  run_told = run_keeps setting (λ _ w. Told items w) told_at_start (λ ds ok d s. told_after f g (length c.names + 2) refl items
      (world_of setting ds) d.node d.port s.taking.message s.taking.rest s.runs.joined s.takes s.taken.label (run_busy setting ds ok).1)

  -- in a complete run each command is answered, if none stands behind the input's end
  pub each_answered : ends_last items ≡ true → (cs : List Choice) → IsCourse setting cs
      → is_done node_ended (world_of setting cs) ≡ true → (op : ℕ) (what : Order) → order_numbered items op ≡ Some what
      → length (answers_of op (world_of setting cs).log) ≡ 1
  each_answered last cs run_is done op what known =
      let w = world_of setting cs in
      let busy = run_busy setting cs run_is in
      let j = busy.0 in
      let ends = run_ends setting last cs run_is in
      let waits = run_told cs run_is op (listed op items what known) in
      let same : ends.controller ≡ j.nodes.controller = own_controller j (omega arith) ends.controller ends.controller_is in
      let settled : IsSettled (finite.get j.nodes.controller.operations op) = subst (λ x. IsSettled (finite.get x.operations op)) same
      (all_settled w (omega (arith, (after_world setting cs run_is).1)) done ends op) in
      by_settled w j busy.1 (omega (arith, waits, done_weight node_ended w done (told op))) (finite.get j.nodes.controller.operations op) refl settled
    where
      -- a command whose operation isn't open was answered, and so was a share that is set up
      by_settled : (w : Network (Node F R) Msg Note) (j : Joined f g (length c.names + 2) w) (b : Busy g w) → 1 ≤ flag (is_noted op w.log) →
          (o : Option Operation)
          → finite.get j.nodes.controller.operations op ≡ o → IsSettled o → length (answers_of op w.log) ≡ 1
      by_settled w j b noted None is settled =
          let off : keeps_off g.names g.orders op w.log ≡ false = sym (keeps_is f g (length c.names + 2) refl w j b op) ∙ ap is_some is in
          let some = some_answers op w.log (closed_answered (is_begun op w.log) (is_share (g.orders op)) (has_answered op w.log) off noted) in
          omega (arith, (b.is.answered op).answered_once, some)
      by_settled w j b noted (Some (Share s)) is settled =
          ap length (told_is f g (length c.names + 2) refl w j b op (Share s) is ∙ ap (λ v. if v then Done ∷ [] else []) settled)
      by_settled w j b noted (Some (Move m)) is settled = absurd settled
      by_settled w j b noted (Some (Copy y)) is settled = absurd settled
