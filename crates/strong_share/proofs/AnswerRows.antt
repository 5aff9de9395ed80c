-- The controller's rows for the answers of members keep what every scene of a run keeps.
use Rattle.strong_share.proofs.Words.{◌≡◌, ℕ, ◌+◌, ◌-◌, ◌<◌, ◌≤◌, Bool, true, false, List, [], ◌∷◌, ◌++◌, refl, sym, ap, subst, ◌∙◌, append-nil, arith}
use Rattle.strong_share.proofs.Words.{if◌then◌else◌, ◌==◌, nat_lt, filter, flat_map, nat_tests, Decides-eqb, Decides-ltb, Chunk, Laws, Semantics, Msg, Shared}
use Rattle.strong_share.proofs.Words.{Synced, Final, sent_for, Idle, Out, Syncing, ControllerState, ControllerStep, controller_still, serve_step, syncs}
use Rattle.strong_share.proofs.Words.{row_of_member, StrongJob, IsStrongJob, events_of, is_taken_at}
use Rattle.strong_share.specs.Tables.{shared_row, synced_row, on_final}
use Rattle.strong_share.proofs.Lists.{put, two_one, two_zero}
use Rattle.strong_share.proofs.Scenes.{Scene, controller_did}
use Rattle.strong_share.proofs.ServedPackets.{Sight, Agrees, serves_alike, tight_alike, rests_serves, serving_of}
use Rattle.strong_share.proofs.Spreading.{spread_to, told_is, IsTold, spreads, took_is, HasTaken, takes_one, takes_last}
use Rattle.strong_share.proofs.Reading.{plain_in, event_in, answer_in, taken_first, taken_has, each_taken}
use Rattle.strong_share.proofs.SyncSends.{syncs_sent, syncs_other}
use Rattle.strong_share.proofs.Holding.{back_label, Labelled, Ordered, Ends, sight, Holds}
use Rattle.strong_share.proofs.QueueRows.{no_notes, serves_members, serve_scene, HoldsLoosely, serve_holds}

-- A member has stopped.
final_members : (c : ControllerState) (b : Bool) → (if b then controller_still (record c { finals = c.finals + 1 }) else controller_still c)
    ≡ controller_still (if b then record c { finals = c.finals + 1 } else c)
final_members c true = refl
final_members c false = refl

abbrev pub final_in : ControllerState → ControllerState
final_in c = if nat_lt c.finals c.members then record c { finals = c.finals + 1 } else c

pub final_confined : (c : ControllerState) → sent_for 1 (on_final c).sends ≡ []
final_confined c = ap (λ did. sent_for 1 did.sends) (final_members c (nat_lt c.finals c.members))

module _ {F R : Type 0} (f : Semantics R) (job : StrongJob) where
  -- A row that takes an answer from a member and changes neither the log nor what is counted.
  answer_parts : (x : Scene F R) (j : ℕ) (m : Msg) (rest : List Msg) → j < job.members → x.back j ≡ m ∷ rest → event_in m ≡ [] → Holds f job x
      → (c : ControllerState) (to : ℕ → List Msg) → c.members ≡ x.controller.members
      → Labelled job (record x { back = put x.back j rest; controller = c; to = to })
      × Ordered job (record x { back = put x.back j rest; controller = c; to = to })
      × Ends job (record x { back = put x.back j rest; controller = c; to = to })
  answer_parts x j m rest j_in is none h c to members = (
    record {
      input = h.labelled.input;
      up = h.labelled.up;
      down = h.labelled.down;
      out = h.labelled.out;
      back = each_taken (back_label job) job.members x.back j m rest j_in is h.labelled.back;
      home = h.labelled.home;
      switch = h.labelled.switch;
      members = members ∙ h.labelled.members;
      member = h.labelled.member;
    },
    record {
      in_turn = h.ordered.in_turn;
      each_member = λ k k_in.
          ap (λ z. events_of k x.log ++ (z ++ filter (is_taken_at job k) (flat_map plain_in (x.out k)))) (taken_has event_in x.back j m rest is none k)
          ∙ h.ordered.each_member k k_in;
      others = h.ordered.others;
      right = h.ordered.right;
    },
    record { closed = h.ends.closed; stopped = h.ends.stopped },
  )

  -- what stays still sends nothing
  abbrev pub changed_in : Scene F R → ℕ → List Msg → ControllerState → Scene F R
  changed_in x j rest c = record x { back = put x.back j rest; controller = c }

  pub still_is : (x : Scene F R) (j : ℕ) (rest : List Msg) (c : ControllerState)
      → controller_did (record x { back = put x.back j rest }) (controller_still c) ≡ changed_in x j rest c
  still_is x j rest c =
      λ i. record x { back = put x.back j rest; controller = c; down = append-nil x.down i; to = λ k. append-nil (x.to k) i; log = append-nil x.log i }

  -- The chunk of the packet that was out comes: it goes round.
  abbrev pub told_in : Scene F R → ℕ → List Msg → Chunk → Scene F R
  told_in x j rest chunk = record x {
    back = put x.back j rest;
    controller = record x.controller { serving = Syncing (x.controller.members - 1) };
    to = λ k. x.to k ++ sent_for (k + 2) (syncs x.controller.members j chunk);
  }

  abbrev told_step : Scene F R → ℕ → Chunk → ControllerStep
  told_step x j chunk =
      record { node = record x.controller { serving = Syncing (x.controller.members - 1) }; sends = syncs x.controller.members j chunk; notes = [] }

  told_scene : (x : Scene F R) (j : ℕ) (rest : List Msg) (chunk : Chunk)
      → controller_did (record x { back = put x.back j rest }) (told_step x j chunk) ≡ told_in x j rest chunk
  told_scene x j rest chunk = λ i. record x {
    back = put x.back j rest;
    controller = record x.controller { serving = Syncing (x.controller.members - 1) };
    down = down i;
    to = λ k. x.to k ++ sent_for (k + 2) (syncs x.controller.members j chunk);
    log = append-nil x.log i;
  }
    where
      down : x.down ++ sent_for 0 (syncs x.controller.members j chunk) ≡ x.down
      down = ap (λ ms. x.down ++ ms) (syncs_other j chunk x.controller.members 0 two_zero) ∙ append-nil x.down

  module _ (laws : Laws f) (job_is : IsStrongJob f.kind job) where
    module _ (x : Scene F R) (j : ℕ) (rest : List Msg) (op : ℕ) (chunk : Chunk) (j_in : j < job.members) (h : Holds f job x)
        (is : x.back j ≡ Shared op chunk ∷ rest) where
      told : IsTold f laws job job_is (sight job x) h.serves j chunk (flat_map answer_in rest)
      told = told_is f laws job job_is (sight job x) h.serves j chunk (flat_map answer_in rest) j_in (ap (flat_map answer_in) is)

      pub told_does : row_of_member x.controller j (Shared op chunk) ≡ told_step x j chunk
      told_does =
          let out : x.controller.serving ≡ Out told.raised.member = h.serves.serving ∙ ap (serving_of f job) told.stage_is in
          let on : (told.raised.member == j) ≡ true = (Decides-eqb told.raised.member j).1 (sym told.at_member) in
          ap (λ s. shared_row x.controller s j chunk) out ∙ ap (λ b. if b then told_step x j chunk else controller_still x.controller) on

      pub told_is_scene : controller_did (record x { back = put x.back j rest }) (row_of_member x.controller j (Shared op chunk)) ≡ told_in x j rest chunk
      told_is_scene = ap (controller_did (record x { back = put x.back j rest })) told_does ∙ told_scene x j rest chunk

      abbrev wanted : Sight R
      wanted = record (sight job x) {
        serving = Syncing (job.members - 1);
        to = λ k. x.to k ++ spread_to f laws job job_is j chunk k;
        answers = λ k. flat_map answer_in (put x.back j rest k);
      }

      pub told_holds : Holds f job (told_in x j rest chunk)
      told_holds =
          let parts = answer_parts x j (Shared op chunk) rest j_in is refl h (told_in x j rest chunk).controller (told_in x j rest chunk).to refl in
          record {
            labelled = parts.0;
            ordered = parts.1;
            serves = serves_alike f job wanted (sight job (told_in x j rest chunk)) agrees (spreads f laws job job_is (sight job x) h.serves j chunk
                (flat_map answer_in rest) j_in told (λ k. flat_map answer_in (put x.back j rest k))
                (λ k _. taken_first answer_in x.back j (Shared op chunk) rest is k));
            tight = λ idle. absurd cc;
            answered = h.answered;
            ends = parts.2;
          }
        where
          agrees : Agrees f job wanted (sight job (told_in x j rest chunk))
          agrees = record {
            serving = ap (λ n. Syncing (n - 1)) h.labelled.members;
            queue = refl;
            to = λ k k_in. ap (λ z. x.to k ++ z) (let members = h.labelled.members in syncs_sent j chunk x.controller.members k (rw members k_in));
            answers = λ k _. refl;
            queued = refl;
            processed = refl;
            own = λ k _ u. refl;
            other = λ k _ u. refl;
          }

    -- A member has the record. Where others haven't, the controller waits for them; else it serves the next packet.
    module _ (x : Scene F R) (j : ℕ) (rest : List Msg) (op : ℕ) (j_in : j < job.members) (h : Holds f job x) (is : x.back j ≡ Synced op ∷ rest) where
      pub took : HasTaken f laws job job_is (sight job x) h.serves j (flat_map answer_in rest)
      took = took_is f laws job job_is (sight job x) h.serves j (flat_map answer_in rest) j_in (ap (flat_map answer_in) is)

      abbrev waits_on : Scene F R
      waits_on = changed_in x j rest (record x.controller { serving = Syncing (took.left - 1) })

      abbrev idles : Scene F R
      idles = changed_in x j rest (record x.controller { serving = Idle })

      pub answer_of : row_of_member x.controller j (Synced op) ≡ synced_row x.controller (Syncing took.left)
      answer_of = ap (synced_row x.controller) (h.serves.serving ∙ ap (serving_of f job) took.stage_is)

      left_of : (k : ℕ) → k < job.members → flat_map answer_in (put x.back j rest k)
          ≡ (if k == j then flat_map answer_in rest else flat_map answer_in (x.back k))
      left_of k _ = taken_first answer_in x.back j (Synced op) rest is k

      waits_holds : 1 < took.left → Holds f job waits_on
      waits_holds others =
          let parts = answer_parts x j (Synced op) rest j_in is refl h waits_on.controller x.to refl in
          record {
            labelled = parts.0;
            ordered = parts.1;
            serves = takes_one f laws job job_is (sight job x) h.serves j j_in (flat_map answer_in rest) took (λ k. flat_map answer_in (put x.back j rest k))
                left_of others;
            tight = λ idle. absurd cc;
            answered = h.answered;
            ends = parts.2;
          }

      idles_holds : took.left ≤ 1 → HoldsLoosely f job idles
      idles_holds last =
          let parts = answer_parts x j (Synced op) rest j_in is refl h idles.controller x.to refl in
          record {
            labelled = parts.0;
            ordered = parts.1;
            serves = rests_serves f job (sight job idles) refl (takes_last f laws job job_is (sight job x) h.serves j j_in (flat_map answer_in rest) took
                (λ k. flat_map answer_in (put x.back j rest k)) left_of last);
            answered = h.answered;
            ends = parts.2;
          }

      idles_is : controller_did (record x { back = put x.back j rest }) (serve_step (record x.controller { serving = Idle })) ≡ serve_scene f job idles
      idles_is = λ i. record (serve_scene f job idles) { log = quiet i }
        where
          quiet : x.log ++ (serve_step (record x.controller { serving = Idle })).notes ≡ x.log
          quiet = ap (λ ns. x.log ++ ns) (no_notes (record x.controller { serving = Idle })) ∙ append-nil x.log

      pub took_holds : Holds f job (controller_did (record x { back = put x.back j rest }) (row_of_member x.controller j (Synced op)))
      took_holds = subst (λ did. Holds f job (controller_did (record x { back = put x.back j rest }) did)) (sym answer_of)
          (elim (nat_lt 1 took.left) as (λ b. nat_lt 1 took.left ≡ b → Holds f job (controller_did (record x { back = put x.back j rest })
          (if b then controller_still (record x.controller { serving = Syncing (took.left - 1) }) else serve_step
          (record x.controller { serving = Idle })))) [
            | true ↦ λ on. subst (Holds f job) (sym (still_is x j rest (record x.controller { serving = Syncing (took.left - 1) })))
                (waits_holds ((Decides-ltb 1 took.left).0 on))
            | false ↦ λ off. subst (Holds f job) (sym idles_is) (serve_holds f job idles (idles_holds (grind (arith, nat_tests, off))))
          ] refl)

      -- it sends nothing to itself
      pub took_confined : sent_for 1 (row_of_member x.controller j (Synced op)).sends ≡ []
      took_confined =
          ap (λ did. sent_for 1 did.sends) answer_of ∙ elim (nat_lt 1 took.left) as (λ b.
          sent_for 1 (if b then controller_still (record x.controller { serving = Syncing (took.left - 1) }) else serve_step
          (record x.controller { serving = Idle })).sends ≡ []) [
            | true ↦ refl
            | false ↦ serves_members (record x.controller { serving = Idle }) 1 two_one
          ]

  pub final_is : (x : Scene F R) (j : ℕ) (rest : List Msg) → controller_did (record x { back = put x.back j rest }) (on_final x.controller)
      ≡ changed_in x j rest (final_in x.controller)
  final_is x j rest = ap (controller_did (record x { back = put x.back j rest })) (final_members x.controller (nat_lt x.controller.finals x.controller.members))
      ∙ still_is x j rest (final_in x.controller)

  pub final_holds : (x : Scene F R) (j : ℕ) (rest : List Msg) → j < job.members → Holds f job x → x.back j ≡ Final ∷ rest
      → Holds f job (changed_in x j rest (final_in x.controller))
  final_holds x j rest j_in h is =
      let parts = answer_parts x j Final rest j_in is refl h (final_in x.controller) x.to
      (stays (λ c. c.members) refl (nat_lt x.controller.finals x.controller.members)) in
      record {
        labelled = parts.0;
        ordered = parts.1;
        serves = serves_alike f job (sight job x) (sight job (changed_in x j rest (final_in x.controller))) agrees h.serves;
        tight = tight_alike f job (sight job x) (sight job (changed_in x j rest (final_in x.controller))) agrees h.tight;
        answered = h.answered;
        ends = parts.2;
      }
    where
      stays : {X : Type 0} (g : ControllerState → X) → g (record x.controller { finals = x.controller.finals + 1 }) ≡ g x.controller → (b : Bool)
          → g (if b then record x.controller { finals = x.controller.finals + 1 } else x.controller) ≡ g x.controller
      stays g same true = same
      stays g same false = refl

      agrees : Agrees f job (sight job x) (sight job (changed_in x j rest (final_in x.controller)))
      agrees = record {
        serving = stays (λ c. c.serving) refl (nat_lt x.controller.finals x.controller.members);
        queue = stays (λ c. c.queue) refl (nat_lt x.controller.finals x.controller.members);
        to = λ k _. refl;
        answers = λ k _. taken_has answer_in x.back j Final rest is refl k;
        queued = refl;
        processed = refl;
        own = λ k _ u. refl;
        other = λ k _ u. refl;
      }
