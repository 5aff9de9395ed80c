-- The controller's rows for the end of the input and for a packet that a member raises keep what every scene of a run keeps.
use Rattle.strong_share.proofs.Words.{◌≡◌, ℕ, suc, ◌+◌, ◌<◌, true, false, None, List, [], ◌∷◌, ◌++◌, map, refl, sym, ap, subst, ◌∙◌, append_assoc, append-nil}
use Rattle.strong_share.proofs.Words.{arith, Some, if◌then◌else◌, ◌==◌, not, filter, flat_map, Decides-eqb, Decides-ltb, Semantics, FullCell, Msg, End, Finish}
use Rattle.strong_share.proofs.Words.{Carry, Event, sent_for, Each, each-append, weigh, weigh-append, Queued, Serving, Idle, QueuedPacket, ControllerState}
use Rattle.strong_share.proofs.Words.{serve_row, serve_step, with_event, controller_step, is_home, the_share, row_of_member, StrongJob, entries, events_of}
use Rattle.strong_share.proofs.Words.{queue_order, arrivals_in, dones_in, is_taken, is_taken_at, is_of, outputs, outputs_of, processed_of}
use Rattle.nf_function.specs.declared.unit.Unit as units
use Rattle.event_filter.specs.declared.mark.Mark.TheVariants as mark
use Rattle.strong_share.specs.Tables.{member_at, row_of_port}
use Rattle.strong_share.proofs.Lists.{put, two_zero, swapped, zero_two}
use Rattle.strong_share.proofs.Scenes.{Scene, controller_did}
use Rattle.strong_share.proofs.ServedPackets.{number, Sight, served, served_from, IsRaised, Serves, Agrees, serves_alike, tight_alike, serves_queued}
use Rattle.strong_share.proofs.ServedPackets.{serves_front}
use Rattle.strong_share.proofs.Reading.{packet_in, plain_in, event_in, answer_in, end_in, stop_in, taken_has, taken_first, each_taken, head_of, sent_one}
use Rattle.strong_share.proofs.Holding.{up_label, down_label, back_label, Labelled, IsRight, Ordered, Ends, ends_left, sight, Holds, end_moves}
use Rattle.strong_share.proofs.LogLemmas.{arrived-append, entries-append, queue_order-append, events_of-queued, done-append}

-- serving notes nothing
pub no_notes : (c : ControllerState) → (serve_step c).notes ≡ []
no_notes c = by c.serving c.queue
  where
    by : (s : Serving) (q : List QueuedPacket) → (serve_row c s q).notes ≡ []
    by Idle (r ∷ rest) = refl
    by s q = refl

-- it sends to members alone
pub serves_members : (c : ControllerState) (to : ℕ) → ((i : ℕ) → (i + 2 == to) ≡ false) → sent_for to (serve_step c).sends ≡ []
serves_members c to apart = by c.serving c.queue
  where
    by : (s : Serving) (q : List QueuedPacket) → sent_for to (serve_row c s q).sends ≡ []
    by Idle (r ∷ rest) = ap (λ b. (if b then Carry (mark.Shared the_share (is_home r.member)) r.cell ∷ [] else []) ++ []) (apart r.member)
    by s q = refl

served_members : (c : ControllerState) → (serve_step c).node.members ≡ c.members
served_members c = by c.serving c.queue
  where
    by : (s : Serving) (q : List QueuedPacket) → (serve_row c s q).node.members ≡ c.members
    by Idle (r ∷ rest) = refl
    by s q = refl

module _ {F R : Type 0} (f : Semantics R) (job : StrongJob) where
  -- The end comes: the switch is to stop all members.
  abbrev pub finished : Scene F R → List Msg → Scene F R
  finished x rest = record x { up = rest; down = x.down ++ Finish ∷ [] }

  pub finished_is : (x : Scene F R) (rest : List Msg) → controller_did (record x { up = rest }) (controller_step x.controller 0 End) ≡ finished x rest
  finished_is x rest = λ i. record x { up = rest; down = x.down ++ Finish ∷ []; to = λ k. nothing k i; log = append-nil x.log i }
    where
      nothing : (k : ℕ) → x.to k ++ sent_for (k + 2) ((0, Finish) ∷ []) ≡ x.to k
      nothing k = ap (λ b. x.to k ++ ((if b then Finish ∷ [] else []) ++ [])) (zero_two k) ∙ append-nil (x.to k)

  pub finished_holds : (x : Scene F R) (rest : List Msg) → Holds f job x → x.up ≡ End ∷ rest → Holds f job (finished x rest)
  finished_holds x rest h is =
      end_moves f job x x.input rest (x.down ++ Finish ∷ []) h h.labelled.input (head_of (up_label job) x.up End rest is h.labelled.up).1
      (each-append (down_label job) x.down (Finish ∷ []) h.labelled.down (tt, tt)) refl same
    where
      same : weigh end_in x.input + weigh end_in rest + weigh end_in (x.down ++ Finish ∷ []) ≡ ends_left job x
      same = let all = ap (weigh end_in) is in let both = weigh-append end_in x.down (Finish ∷ []) in omega (arith, all, both)

  -- The controller serves the front of its queue.
  abbrev pub serve_scene : Scene F R → Scene F R
  serve_scene x =
      record x {
        controller = (serve_step x.controller).node;
        down = x.down ++ sent_for 0 (serve_step x.controller).sends;
        to = λ k. x.to k ++ sent_for (k + 2) (serve_step x.controller).sends;
      }

  -- what is looked at of it is what is served
  served_agrees : (x : Scene F R) → Agrees f job (served (sight job x)) (sight job (serve_scene x))
  served_agrees x = by x.controller.serving x.controller.queue refl refl
    where
      by : (s : Serving) (q : List QueuedPacket) → x.controller.serving ≡ s → x.controller.queue ≡ q
          → Agrees f job (served_from (sight job x) s q) (sight job (record x {
            controller = (serve_row x.controller s q).node;
            down = x.down ++ sent_for 0 (serve_row x.controller s q).sends;
            to = λ k. x.to k ++ sent_for (k + 2) (serve_row x.controller s q).sends;
          }))
      by Idle (r ∷ rest) e is = record {
        serving = refl;
        queue = refl;
        to = λ k _. ap (λ z. x.to k ++ z) (sent_one r.member k (Carry (mark.Shared the_share (is_home r.member)) r.cell));
        answers = λ k _. refl;
        queued = refl;
        processed = refl;
        own = λ k _ u. refl;
        other = λ k _ u. refl;
      }
      by s q e is =
          record {
            serving = refl;
            queue = refl;
            to = λ k _. append-nil (x.to k);
            answers = λ k _. refl;
            queued = refl;
            processed = refl;
            own = λ k _ u. refl;
            other = λ k _ u. refl;
          }

  -- all but that none waits where no packet is out
  pub record HoldsLoosely (x : Scene F R) : Type 0 where
    pub labelled : Labelled job x
    pub ordered : Ordered job x
    pub serves : Serves f job (sight job x)
    pub answered : (u : units.Unit) → outputs_of f job u x.log ≡ outputs f job None (processed_of f job u x.log)
    pub ends : Ends job x

  pub serve_holds : (x : Scene F R) → HoldsLoosely x → Holds f job (serve_scene x)
  serve_holds x h =
      let front = serves_front f job (sight job x) h.serves in
      let no_finish = serves_members x.controller 0 two_zero in
      record {
        labelled = record {
          input = h.labelled.input;
          up = h.labelled.up;
          down = subst (λ ms. Each down' (x.down ++ ms)) (sym no_finish) (subst (Each down') (sym (append-nil x.down)) h.labelled.down);
          out = h.labelled.out;
          back = h.labelled.back;
          home = h.labelled.home;
          switch = h.labelled.switch;
          members = served_members x.controller ∙ h.labelled.members;
          member = h.labelled.member;
        };
        ordered = record { in_turn = h.ordered.in_turn; each_member = h.ordered.each_member; others = h.ordered.others; right = h.ordered.right };
        serves = serves_alike f job (served (sight job x)) (sight job (serve_scene x)) (served_agrees x) front.0;
        tight = tight_alike f job (served (sight job x)) (sight job (serve_scene x)) (served_agrees x) front.1;
        answered = h.answered;
        ends = record {
          closed = ap (λ ms. weigh end_in x.input + weigh end_in x.up + weigh end_in (x.down ++ ms) + (if x.switch.window.closed then 1 else 0)) no_finish
              ∙ ap (λ ms. weigh end_in x.input + weigh end_in x.up + weigh end_in ms + (if x.switch.window.closed then 1 else 0)) (append-nil x.down)
              ∙ h.ends.closed;
          stopped = λ k k_in. ap (λ ms. weigh end_in x.input + weigh end_in x.up + weigh end_in (x.down ++ ms) + weigh stop_in (x.out k) +
              (if (x.member k).ended then 1 else 0)) no_finish ∙ ap (λ ms.
              weigh end_in x.input + weigh end_in x.up + weigh end_in ms + weigh stop_in (x.out k) + (if (x.member k).ended then 1 else 0)) (append-nil x.down)
              ∙ h.ends.stopped k k_in;
        };
      }
    where
      down' : Msg → Type 0
      down' = down_label job

  -- What comes from a member: its number is found.
  pub from_is : (x : Scene F R) (j : ℕ) (m : Msg) → x.controller.members ≡ job.members → j < job.members
      → controller_step x.controller (j + 2) m ≡ row_of_member x.controller j m
  from_is x j m members j_in =
      let two : j + 2 ≡ suc (suc j) = omega arith in
      ap (λ p. row_of_port x.controller (member_at x.controller p) m) two
      ∙ ap (λ b. row_of_port x.controller (if b then Some j else None) m) ((Decides-ltb j x.controller.members).1 (rw members j_in))

  -- A packet is raised: it is queued, and the front is served.
  abbrev pub queued_in : Scene F R → ℕ → List Msg → FullCell → Scene F R
  queued_in x j rest c = record x { back = put x.back j rest; controller = with_event x.controller j c; log = x.log ++ Queued (number c) j ∷ [] }

  abbrev queued_sight : Scene F R → ℕ → FullCell → Sight R
  queued_sight x j c =
      record (sight job x) { queue = x.controller.queue ++ (record { cell = c; member = j }) ∷ []; queued = queue_order x.log ++ number c ∷ [] }

  pub event_is : (x : Scene F R) (j : ℕ) (rest : List Msg) (op : ℕ) (c : FullCell)
      → controller_did (record x { back = put x.back j rest }) (row_of_member x.controller j (Event op c)) ≡ serve_scene (queued_in x j rest c)
  event_is x j rest op c = refl

  pub queued_holds : (x : Scene F R) (j : ℕ) (rest : List Msg) (op : ℕ) (c : FullCell) → j < job.members → Holds f job x → x.back j ≡ Event op c ∷ rest
      → HoldsLoosely (queued_in x j rest c)
  queued_holds x j rest op c j_in h is = record {
    labelled = record {
      input = h.labelled.input;
      up = h.labelled.up;
      down = h.labelled.down;
      out = h.labelled.out;
      back = each_taken (back_label job) job.members x.back j (Event op c) rest j_in is h.labelled.back;
      home = h.labelled.home;
      switch = h.labelled.switch;
      members = h.labelled.members;
      member = h.labelled.member;
    };
    ordered = record {
      in_turn = ap (λ z. z ++ flat_map packet_in x.input) (arrived-append x.log (Queued (number c) j ∷ []) ∙ append-nil (arrivals_in x.log))
          ∙ h.ordered.in_turn;
      each_member = λ k k_in.
          ap (λ z. z ++ (flat_map event_in (put x.back j rest k) ++ filter (is_taken_at job k) (flat_map plain_in (x.out k))))
          (events_of-queued k (number c) j x.log)
          ∙ ap (λ z. (events_of k x.log ++ (if j == k then number c ∷ [] else [])) ++ (z ++ filter (is_taken_at job k) (flat_map plain_in (x.out k))))
          (taken_first event_in x.back j (Event op c) rest is k)
          ∙ at_member k (filter (is_taken_at job k) (flat_map plain_in (x.out k)))
          ∙ h.ordered.each_member k k_in
          ∙ ap (filter (is_taken_at job k)) (sym (arrived-append x.log (Queued (number c) j ∷ []) ∙ append-nil (arrivals_in x.log)));
      others = ap (λ ds. filter (λ p. not (is_taken job p)) (map (λ d. d.number) ds) ++ filter (λ p. not (is_taken job p)) (flat_map plain_in (x.out 0))) undone
          ∙ h.ordered.others ∙ ap (filter (λ p. not (is_taken job p))) (sym (arrived-append x.log (Queued (number c) j ∷ []) ∙ append-nil (arrivals_in x.log)));
      right = subst (Each (IsRight job)) (sym (entries-append x.log (Queued (number c) j ∷ []))) (each-append (IsRight job) (entries x.log)
          ((number c, j) ∷ []) h.ordered.right ((ok.taken, ok.member_is), tt));
    };
    serves = serves_alike f job (queued_sight x j c) (sight job (queued_in x j rest c)) agrees (serves_queued f job (sight job x) r ok h.serves);
    answered = λ u.
        ap (λ ds. map (λ d. d.output) (filter (λ d. is_of f job u d.number) ds)) undone ∙ h.answered u
        ∙ ap (λ ds. outputs f job None (filter (is_of f job u) (map (λ d. d.number) ds))) (sym undone);
    ends = record { closed = h.ends.closed; stopped = h.ends.stopped };
  }
    where
      r : QueuedPacket
      r = record { cell = c; member = j }

      ok : IsRaised job (record { cell = c; member = j })
      ok = (head_of (back_label job j) (x.back j) (Event op c) rest is (h.labelled.back j j_in)).0

      undone : dones_in (x.log ++ Queued (number c) j ∷ []) ≡ dones_in x.log
      undone = done-append x.log (Queued (number c) j ∷ []) ∙ append-nil (dones_in x.log)

      agrees : Agrees f job (queued_sight x j c) (sight job (queued_in x j rest c))
      agrees = record {
        serving = refl;
        queue = refl;
        to = λ k _. refl;
        answers = λ k _. taken_has answer_in x.back j (Event op c) rest is refl k;
        queued = queue_order-append x.log (Queued (number c) j ∷ []);
        processed = ap (map (λ d. d.number)) undone;
        own = λ k _ u. refl;
        other = λ k _ u. refl;
      }

      -- it leaves the link, and stands behind what the member raised
      at_member : (k : ℕ) (plains : List ℕ) → (events_of k x.log ++ (if j == k then number c ∷ [] else []))
          ++ ((if k == j then flat_map event_in rest else flat_map event_in (x.back k)) ++ plains) ≡ events_of k x.log
          ++ (flat_map event_in (x.back k) ++ plains)
      at_member k plains =
          ap (λ b. (events_of k x.log ++ (if b then number c ∷ [] else []))
          ++ ((if k == j then flat_map event_in rest else flat_map event_in (x.back k)) ++ plains)) (swapped j k)
          ∙ elim (k == j) as (λ b. (k == j) ≡ b → (events_of k x.log ++ (if b then number c ∷ [] else []))
          ++ ((if b then flat_map event_in rest else flat_map event_in (x.back k)) ++ plains) ≡ events_of k x.log
          ++ (flat_map event_in (x.back k) ++ plains)) [
            | true ↦ λ on.
                let same : k ≡ j = (Decides-eqb k j).0 on in
                append_assoc (events_of k x.log) (number c ∷ []) (flat_map event_in rest ++ plains)
                ∙ ap (λ ms. events_of k x.log ++ (flat_map event_in ms ++ plains)) (sym (ap x.back same ∙ is))
            | false ↦ λ _. ap (λ z. z ++ (flat_map event_in (x.back k) ++ plains)) (append-nil (events_of k x.log))
          ] refl
