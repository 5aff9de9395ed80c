-- A real world and the reduced one that shows it: each choice is enabled in both or in neither, and leads to such worlds again.
use Rattle.two_phase.proofs.Words.{◌≡◌, ℕ, ◌+◌, ◌*◌, true, false, Option, Some, None, List, [], ◌∷◌, ◌++◌, length, drop, sym, ap, subst, ◌∙◌, refl}
use Rattle.two_phase.proofs.Words.{if◌then◌else◌, ◌==◌, ◌&&◌, nat_lt, slice_get, slice_set, slice_index_or, list_all, Output, Choice, Network, queue_at}
use Rattle.two_phase.proofs.Words.{is_enabled, world_next, is_done, TwoMsg, TwoNote, TwoNode, Switch, Controller, Instance, InstanceState, SwitchState}
use Rattle.two_phase.proofs.Words.{ControllerState, Step, node_step, node_ready, node_ended, read, flat_map-append}
use Rattle.std.specs.List.{AllZip}
use Rattle.actor_net.specs.Network.{is_input, on_link, takes_first, without_first, reaches, put_on, links_after, after, world_after_step}
use Rattle.two_machine.proofs.Tables as core
use Rattle.two_phase.proofs.AlikeLists.{alike-append, alike-set, alike-at, alike-length, alike-rest, BothOrNone, alike-get, alike-all}
use Rattle.two_phase.proofs.RecordLaws.{Sound, Setting, sys}
use Rattle.two_phase.proofs.Outlines.{outline_note, Shown, Sends, InstanceShows, ControllerShows, SwitchShows}
use Rattle.two_phase.proofs.InstanceFollows.{instance_follows}
use Rattle.two_phase.proofs.SwitchFollows.{switch_follows, takes_same}
use Rattle.two_phase.proofs.ControllerFollows.{is_proper, controller_follows}

-- the first message that waits comes from where it may
abbrev pub IsProper : {C : Type 0} → Choice → List (core.Msg C) → Type 0
IsProper c [] = Unit {0}
IsProper c (n ∷ ns) = is_proper c.port n ≡ true

abbrev pub Real : Type 0 → Type 0 → Type 0
Real F R = Network (TwoNode F R) TwoMsg TwoNote

module _ {R : Type 0} (setting : Setting R) where
  open setting use {f}

  abbrev pub Core : Type 0
  Core = Network (core.Node (Sound f) (Sound f)) (core.Msg (Sound f)) (core.Note Output)

  abbrev CoreStep : Type 0
  CoreStep = core.Step (sys setting) (core.Node (Sound f) (Sound f))

  abbrev pub AreShown : List TwoMsg → List (core.Msg (Sound f)) → Type 0
  AreShown xs ys = AllZip (Shown setting) xs ys

  -- links after what was sent
  put_alike : (n from k l : ℕ) (x : TwoMsg) (y : core.Msg (Sound f)) (ls : List (List TwoMsg)) (ms : List (List (core.Msg (Sound f)))) → k ≡ l
      → Shown setting x y → AllZip AreShown ls ms → AllZip AreShown (put_on n from (k, x) ls) (put_on n from (l, y) ms)
  put_alike n from k l x y ls ms e p h =
      let at = from * n + k in
      let one = slice_index_or ls at [] in
      let other = slice_index_or ms at [] in
      subst (λ l. AllZip AreShown (put_on n from (k, x) ls) (put_on n from (l, y) ms)) e (
      elim (reaches n from k) as (λ b.
      AllZip AreShown (if b then slice_set ls at (one ++ x ∷ []) else ls) (if b then slice_set ms at (other ++ y ∷ []) else ms)) [
        | true ↦
            alike-set AreShown ls ms at (one ++ x ∷ []) (other ++ y ∷ []) h
            (alike-append (Shown setting) one other (x ∷ []) (y ∷ []) (alike-at AreShown ls ms at [] [] h tt) (p, tt))
        | false ↦ h
      ])

  delivered_alike : (n from : ℕ) (xs : List (ℕ × TwoMsg)) (ys : List (ℕ × core.Msg (Sound f))) (ls : List (List TwoMsg))
      (ms : List (List (core.Msg (Sound f)))) → Sends setting xs ys → AllZip AreShown ls ms
      → AllZip AreShown (links_after n from xs ls) (links_after n from ys ms)
  delivered_alike n from [] [] ls ms s h = h
  delivered_alike n from (x ∷ xs) (y ∷ ys) ls ms s h =
      delivered_alike n from xs ys (put_on n from x ls) (put_on n from y ms) s.1 (put_alike n from x.0 y.0 x.1 y.1 ls ms s.0.0 s.0.1 h)
  delivered_alike n from z w ls ms s h = absurd s

module _ {F R : Type 0} (setting : Setting R) where
  open setting use {f}

  pub data NodeShows : TwoNode F R → core.Node (Sound f) (Sound f) → Type 0 where
    Switches : {s : SwitchState} {t : core.Switch} → SwitchShows setting s t → NodeShows (Switch s) (core.Is_switch t)
    Controllers : {c : ControllerState} {d : core.Ctrl (Sound f)} → ControllerShows setting c d → NodeShows (Controller c) (core.Is_ctrl d)
    Instances : {i : InstanceState F R} {index : ℕ} {j : core.Inst (Sound f)} → InstanceShows setting index i j
        → NodeShows (Instance i) (core.Is_inst index j)

  -- a step of a node
  pub record StepShows (did : Step (TwoNode F R)) (dj : core.Step (sys setting) (core.Node (Sound f) (Sound f))) : Type 0 where
    pub node : NodeShows did.node dj.node
    pub sends : Sends setting did.sends dj.sends
    pub notes : read outline_note did.notes ≡ dj.notes

  step_shows : (x : TwoNode F R) (y : core.Node (Sound f) (Sound f)) (port : ℕ) (m : TwoMsg) (n : core.Msg (Sound f)) → NodeShows x y → Shown setting m n
      → is_proper port n ≡ true → StepShows (node_step f x port m) (core.node_step (sys setting) y port n)
  step_shows x y port m n (Switches {s} {t} h) k e =
      let all = switch_follows setting s t m n h k in record { node = Switches all.node; sends = all.sends; notes = all.notes }
  step_shows x y port m n (Controllers {c} {d} h) k e =
      let all = controller_follows setting c d port m n h k e in record { node = Controllers all.node; sends = all.sends; notes = all.notes }
  step_shows x y port m n (Instances {i} {index} {j} h) k e =
      let all = instance_follows setting index i j h m n k in record { node = Instances all.node; sends = all.sends; notes = all.notes }

  -- worlds
  pub record Outlined (w : Network (TwoNode F R) TwoMsg TwoNote)
      (v : Network (core.Node (Sound f) (Sound f)) (core.Msg (Sound f)) (core.Note Output)) : Type 0 where
    pub nodes : AllZip NodeShows w.nodes v.nodes
    pub links : AllZip (AreShown setting) w.links v.links
    pub input : AreShown setting w.input v.input
    pub log : read outline_note w.log ≡ v.log

  later : (w : Real F R) (v : Core setting) → Outlined w v → (k : ℕ) (did : Step (TwoNode F R)) (dj : CoreStep setting) → StepShows did dj
      → Outlined (after w k did) (after v k dj)
  later w v h k did dj s = record {
    nodes = alike-set NodeShows w.nodes v.nodes k did.node dj.node h.nodes s.node;
    links =
        subst (λ n. AllZip (AreShown setting) (links_after n k did.sends w.links) (links_after (length v.nodes) k dj.sends v.links))
        (sym (alike-length NodeShows w.nodes v.nodes h.nodes))
        (delivered_alike setting (length v.nodes) k did.sends dj.sends w.links v.links s.sends h.links);
    input = h.input;
    log =
        flat_map-append outline_note w.log did.notes
        ∙ ap (λ l. l ++ read outline_note did.notes) h.log
        ∙ ap (λ l. v.log ++ l) s.notes;
  }

  module _ (w : Real F R) (v : Core setting) (h : Outlined w v) where
    sizes : length w.nodes ≡ length v.nodes
    sizes = alike-length NodeShows w.nodes v.nodes h.nodes

    on_alike : (from to : ℕ) → AreShown setting (on_link w from to) (on_link v from to)
    on_alike from to =
        let at = from * length v.nodes + to in
        subst (λ n. AreShown setting (if nat_lt from n && nat_lt to n then slice_index_or w.links (from * n + to) [] else []) (on_link v from to)) (sym sizes) (
        elim (nat_lt from (length v.nodes) && nat_lt to (length v.nodes)) as (λ b.
        AreShown setting (if b then slice_index_or w.links at [] else []) (if b then slice_index_or v.links at [] else [])) [
          | true ↦ alike-at (AreShown setting) w.links v.links at [] [] h.links tt
          | false ↦ tt
        ])

    waits_alike : (c : Choice) → AreShown setting (queue_at w c) (queue_at v c)
    waits_alike c =
        elim (is_input c) as (λ b. AreShown setting (if b then w.input else on_link w c.port c.node) (if b then v.input else on_link v c.port c.node)) [
          | true ↦ h.input
          | false ↦ on_alike c.port c.node
        ]

    node_at : (c : Choice) → BothOrNone NodeShows (slice_get w.nodes c.node) (slice_get v.nodes c.node)
    node_at c = alike-get NodeShows w.nodes v.nodes c.node h.nodes

    less_alike : (c : Choice) → Outlined (without_first w c) (without_first v c)
    less_alike c =
        let rest = drop 1 (queue_at w c) in
        let core_rest = drop 1 (queue_at v c) in
        let at = c.port * length v.nodes + c.node in
        elim (is_input c) as (λ b.
        Outlined
        (if b then record { nodes = w.nodes; links = w.links; input = drop 1 w.input; log = w.log }
        else record { nodes = w.nodes; links = slice_set w.links (c.port * length w.nodes + c.node) rest; input = w.input; log = w.log })
        (if b then record { nodes = v.nodes; links = v.links; input = drop 1 v.input; log = v.log }
        else record { nodes = v.nodes; links = slice_set v.links at core_rest; input = v.input; log = v.log })) [
          | true ↦ record { nodes = h.nodes; links = h.links; input = alike-rest (Shown setting) w.input v.input h.input; log = h.log }
          | false ↦ record {
            nodes = h.nodes;
            links =
                subst (λ n. AllZip (AreShown setting) (slice_set w.links (c.port * n + c.node) rest) (slice_set v.links at core_rest)) (sym sizes)
                (alike-set (AreShown setting) w.links v.links at rest core_rest h.links
                (alike-rest (Shown setting) (queue_at w c) (queue_at v c) (waits_alike c)));
            input = h.input;
            log = h.log;
          }
        ]

    -- whether a choice is enabled
    ready_same : (x : TwoNode F R) (y : core.Node (Sound f) (Sound f)) (m : TwoMsg) (n : core.Msg (Sound f)) → NodeShows x y → Shown setting m n
        → node_ready x m ≡ core.node_ready (sys setting) y n
    ready_same x y m n (Switches {s} {t} k) p = takes_same setting s t m n k p
    ready_same x y m n z p = refl

    first_same : (c : Choice) (o : Option (TwoNode F R)) (q : Option (core.Node (Sound f) (Sound f))) (xs : List TwoMsg) (ys : List (core.Msg (Sound f)))
        → BothOrNone NodeShows o q → AreShown setting xs ys → takes_first node_ready c o xs ≡ takes_first (core.node_ready (sys setting)) c q ys
    first_same c (Some x) (Some y) (m ∷ xs) (n ∷ ys) k l = ap (λ b. if is_input c then b else true) (ready_same x y m n k l.0)
    first_same c (Some x) (Some y) [] (n ∷ ys) k l = absurd l
    first_same c (Some x) (Some y) (m ∷ xs) [] k l = absurd l
    first_same c None (Some y) xs ys k l = absurd k
    first_same c (Some x) None xs ys k l = absurd k
    first_same c z w xs ys k l = refl

    pub enabled_same : (c : Choice) → is_enabled node_ready w c ≡ is_enabled (core.node_ready (sys setting)) v c
    enabled_same c = first_same c (slice_get w.nodes c.node) (slice_get v.nodes c.node) (queue_at w c) (queue_at v c) (node_at c) (waits_alike c)

    -- the world after a choice
    from_alike : (c : Choice) (o : Option (TwoNode F R)) (q : Option (core.Node (Sound f) (Sound f))) (xs : List TwoMsg) (ys : List (core.Msg (Sound f)))
        → BothOrNone NodeShows o q → AreShown setting xs ys → IsProper c ys
        → Outlined (world_after_step (node_step f) w c o xs) (world_after_step (core.node_step (sys setting)) v c q ys)
    from_alike c (Some x) (Some y) (m ∷ xs) (n ∷ ys) k l e =
        later (without_first w c) (without_first v c) (less_alike c) c.node (node_step f x c.port m) (core.node_step (sys setting) y c.port n)
        (step_shows x y c.port m n k l.0 e)
    from_alike c (Some x) (Some y) [] (n ∷ ys) k l e = absurd l
    from_alike c (Some x) (Some y) (m ∷ xs) [] k l e = absurd l
    from_alike c None (Some y) xs ys k l e = absurd k
    from_alike c (Some x) None xs ys k l e = absurd k
    from_alike c z w xs ys k l e = h

    pub taken_alike : (c : Choice) → IsProper c (queue_at v c) → Outlined (world_next (node_step f) w c) (world_next (core.node_step (sys setting)) v c)
    taken_alike c e = from_alike c (slice_get w.nodes c.node) (slice_get v.nodes c.node) (queue_at w c) (queue_at v c) (node_at c) (waits_alike c) e

    -- whether nothing is left to do
    ended_same : (x : TwoNode F R) (y : core.Node (Sound f) (Sound f)) → NodeShows x y → node_ended x ≡ core.node_ended (sys setting) y
    ended_same x y (Switches k) = let one = k.window.closed in let two = k.window.flying in rw (one, two) refl
    ended_same x y (Controllers k) = ap (λ c. c.stopped) k.is
    ended_same x y (Instances k) = k.ended

    pub done_same : is_done node_ended w ≡ is_done (core.node_ended (sys setting)) v
    done_same =
        let input = ap (λ n. n == 0) (alike-length (Shown setting) w.input v.input h.input) in
        let links =
        alike-all (AreShown setting) (λ l. length l == 0) (λ l. length l == 0) (λ xs ys k. ap (λ n. n == 0) (alike-length (Shown setting) xs ys k))
        w.links v.links
        h.links
        in
        let nodes = alike-all NodeShows node_ended (core.node_ended (sys setting)) ended_same w.nodes v.nodes h.nodes in
        ap (λ b. b && list_all (λ l. length l == 0) w.links && list_all node_ended w.nodes) input
        ∙ ap (λ b. (length v.input == 0) && b && list_all node_ended w.nodes) links
        ∙ ap (λ b. (length v.input == 0) && list_all (λ l. length l == 0) v.links && b) nodes
