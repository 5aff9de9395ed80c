-- The rows of a member that takes what the controller sends keep what every scene of a run keeps: the packet that is out, and the record of one.
use Rattle.strong_share.proofs.Words.{◌≡◌, ℕ, ◌+◌, ◌<◌, true, false, Option, None, Some, List, [], ◌∷◌, ◌++◌, map, refl, sym, ap, subst, ◌∙◌, append-nil}
use Rattle.strong_share.proofs.Words.{if◌then◌else◌, ◌==◌, not, filter, flat_map, Decides-eqb, Output, takes, Laws, Semantics, unit_at, kept_after, output_for}
use Rattle.strong_share.proofs.Words.{record_chunk, same_unit, part, Msg, Carry, Shared, Sync, Synced, Credit, Note, Processed, InstanceState, Step}
use Rattle.strong_share.proofs.Words.{instance_processed, instance_step, keep_note, sent_for, Each, Inner, QueuedPacket, the_share, is_home, StrongJob}
use Rattle.strong_share.proofs.Words.{IsStrongJob, entries, events_of, arrivals_in, done_numbers, packet_numbered, is_taken, is_taken_at, is_of, fold}
use Rattle.strong_share.proofs.Words.{processed_of}
use Rattle.std.specs.FinMap as finite
use Rattle.nf_function.specs.declared.unit.Unit as units
use Rattle.event_filter.specs.declared.mark.Mark.TheVariants as mark
use Rattle.strong_share.proofs.Lists.{put, filter_among, filter_no_more, one_two, zero_two}
use Rattle.strong_share.proofs.Folds.{fits, unit, after, seen, unit_taken, kept_is, seen_sound, unit_own, unit_swapped}
use Rattle.strong_share.proofs.MemberRows.{Leaves, TakesRecord, serves, shared_leaves, sync_leaves}
use Rattle.strong_share.proofs.Scenes.{Scene, member_did}
use Rattle.strong_share.proofs.ServedPackets.{raised_number, Answer.Told, Answer.Took, Stage.Carries, Stage.Spreads, Turn, Turn.Going, Sight, IsRaised}
use Rattle.strong_share.proofs.ServedPackets.{record_after, chunk_after, FitsStage, Serves, Agrees, serves_alike, tight_alike, all_of, seen_by}
use Rattle.strong_share.proofs.RecordSteps.{processed_out, takes_record}
use Rattle.strong_share.proofs.Reading.{packet_in, plain_in, event_in, answer_in, more_at, none_at}
use Rattle.strong_share.proofs.Holding.{IsRight, sight, Holds}
use Rattle.strong_share.proofs.MemberScenes.{left_by, left_is, labelled_left, ordered_quiet, own_is, other_is, ends_left_by}
use Rattle.strong_share.proofs.OtherPackets.{answered_more}
use Rattle.strong_share.proofs.LogLemmas.{arrived-append, entries-append, done_numbers-append, member_numbers, entry_numbers, IsQuiet, quiet_log}
use Rattle.strong_share.proofs.LogLemmas.{answered_same}

module _ {F R : Type 0} (f : Semantics R) (laws : Laws f) (job : StrongJob) (job_is : IsStrongJob f.kind job) (x : Scene F R) (h : Holds f job x) where
  -- The packet that is out comes to its member.
  module _ (r : QueuedPacket) (stage : h.serves.stage ≡ Carries r) (rest : List Msg) (is : x.to r.member
      ≡ Carry (mark.Shared the_share (is_home r.member)) r.cell ∷ rest) (last : rest ≡ []) where
    abbrev j : ℕ
    j = r.member

    abbrev p : ℕ
    p = raised_number r

    abbrev i : InstanceState F R
    i = x.member j

    fit : IsRaised job r
    fit = subst (FitsStage f job) stage h.serves.fits

    abbrev before : Option R
    before = finite.get (part i.table (is_home j)) (unit_at f.kind i.site r.cell.packet)

    site_is : i.site ≡ job.site
    site_is = (h.labelled.member j fit.there).site

    unit_is : unit_at f.kind i.site r.cell.packet ≡ unit f job p
    unit_is = ap (λ s. unit_at f.kind s r.cell.packet) site_is ∙ ap (unit_at f.kind job.site) (sym fit.genuine.same)

    takes_unit : takes job.filter (unit f job p) ≡ true
    takes_unit = sym (unit_taken f laws job job_is p (unit f job p) (unit_own f laws job job_is p)) ∙ fit.taken

    -- the record that is stepped has seen all that were served
    own_before : before ≡ seen f job (unit f job p) h.serves.d
    own_before =
        ap (finite.get (part i.table (is_home j))) unit_is ∙ h.serves.own j fit.there (unit f job p)
        ∙ ap (λ t. if t then seen f job (unit f job p) (seen_by f job h.serves.stage h.serves.d j) else
        (if j == 0 then seen f job (unit f job p) (done_numbers x.log) else None)) takes_unit
        ∙ ap (λ s. seen f job (unit f job p) (seen_by f job s h.serves.d j)) stage

    -- and so all of the unit that were processed
    fresh : before ≡ fold f job None (processed_of f job (unit f job p) x.log)
    fresh =
        own_before
        ∙ ap (λ ps. fold f job None (filter (is_of f job (unit f job p)) ps)) (sym (h.serves.done ∙ ap (λ s. all_of f job s h.serves.d) stage))
        ∙ ap (fold f job None) (filter_among (is_of f job (unit f job p)) (is_taken job) (λ q on. unit_taken f laws job job_is q (unit f job p) on ∙ takes_unit)
        (done_numbers x.log))

    kept_now : kept_after f i.site before r.cell.packet ≡ Some (record_after f job r h.serves.d)
    kept_now =
        ap (λ s. kept_after f s before r.cell.packet) site_is ∙ ap (kept_after f job.site before) (sym fit.genuine.same)
        ∙ kept_is f laws job job_is before p ∙ ap (λ o. Some (after f job o p)) own_before

    abbrev did : Step F R
    did = instance_processed f i (mark.Shared the_share (is_home j)) r.cell

    pub its : Leaves f job i (is_home j) r.cell ((1, Shared the_share (record_chunk f (unit_at f.kind i.site r.cell.packet) (record_after f job r h.serves.d)))
        ∷ []) did
    its = shared_leaves f job i (is_home j) r.cell (record_after f job r h.serves.d) kept_now

    pub step_is : instance_step f i (Carry (mark.Shared the_share (is_home j)) r.cell) ≡ did
    step_is = serves f job i (is_home j) r.cell

    abbrev out_of : Output
    out_of = output_for f i.site before r.cell.packet

    abbrev told : List Msg
    told = Shared the_share (chunk_after f job r h.serves.d) ∷ []

    pub sends_is : did.sends ≡ (1, Shared the_share (chunk_after f job r h.serves.d)) ∷ (0, Credit r.cell) ∷ []
    sends_is = its.sends ∙ ap (λ u. (1, Shared the_share (record_chunk f u (record_after f job r h.serves.d))) ∷ (0, Credit r.cell) ∷ []) unit_is

    abbrev pub served_scene : Scene F R
    served_scene = left_by x x.out (put x.to j rest) j did.node told (Credit r.cell ∷ []) (Inner (Processed p i.index out_of) ∷ [])

    pub served_is : member_did (record x { to = put x.to j rest }) j (instance_step f i (Carry (mark.Shared the_share (is_home j)) r.cell)) ≡ served_scene
    served_is = ap (member_did (record x { to = put x.to j rest }) j) step_is
        ∙ left_is x x.out (put x.to j rest) j did told (Credit r.cell ∷ []) (Inner (Processed p i.index out_of) ∷ []) (ap (sent_for 1) sends_is)
        (ap (sent_for 0) sends_is) (ap (map Inner) its.notes)

    pub served_confined : (k : ℕ) → sent_for (k + 2) (instance_step f i (Carry (mark.Shared the_share (is_home j)) r.cell)).sends ≡ []
    served_confined k =
        ap (λ s. sent_for (k + 2) s.sends) step_is ∙ ap (sent_for (k + 2)) sends_is
        ∙ ap (λ b. (if b then told else []) ++ ((if 0 == k + 2 then Credit r.cell ∷ [] else []) ++ [])) (one_two k)
        ∙ ap (λ b. (if b then Credit r.cell ∷ [] else []) ++ []) (zero_two k)

    stepped : (u : units.Unit) → finite.get (part did.node.table (is_home j)) u
        ≡ (if is_of f job u p then Some (after f job (finite.get (part i.table (is_home j)) u) p) else finite.get (part i.table (is_home j)) u)
    stepped u =
        its.own u
        ∙ ap (λ v. if same_unit u v then kept_after f i.site (finite.get (part i.table (is_home j)) u) r.cell.packet else finite.get (part i.table (is_home j))
        u) unit_is
        ∙ ap (λ b. if b then kept_after f i.site (finite.get (part i.table (is_home j)) u) r.cell.packet else finite.get (part i.table (is_home j)) u)
        (unit_swapped f laws job job_is u p)
        ∙ ap (λ s. if is_of f job u p then kept_after f s (finite.get (part i.table (is_home j)) u) r.cell.packet else finite.get (part i.table (is_home j)) u)
        site_is
        ∙ ap (λ q. if is_of f job u p then kept_after f job.site (finite.get (part i.table (is_home j)) u) q else finite.get (part i.table (is_home j)) u)
        (sym fit.genuine.same)
        ∙ ap (λ o. if is_of f job u p then o else finite.get (part i.table (is_home j)) u) (kept_is f laws job job_is (finite.get (part i.table (is_home j)) u)
        p)

    processed_is : done_numbers served_scene.log ≡ done_numbers x.log ++ p ∷ []
    processed_is = done_numbers-append x.log (Inner (Processed p i.index out_of) ∷ [])

    no_arrival : arrivals_in served_scene.log ≡ arrivals_in x.log
    no_arrival = arrived-append x.log (Inner (Processed p i.index out_of) ∷ []) ∙ append-nil (arrivals_in x.log)

    no_raise : entries served_scene.log ≡ entries x.log
    no_raise = entries-append x.log (Inner (Processed p i.index out_of) ∷ []) ∙ append-nil (entries x.log)

    abbrev served_sight : Sight R
    served_sight =
        record (sight job x) {
          to = put x.to j rest;
          answers = λ k. flat_map answer_in (x.back k)
              ++ (if k == j then Told (chunk_after f job r h.serves.d) ∷ [] else []);
          processed = done_numbers x.log ++ p ∷ [];
          own = (sight job served_scene).own;
          other = (sight job served_scene).other;
        }

    served_serves : Serves f job served_sight
    served_serves =
        processed_out f laws job job_is (sight job x) h.serves r stage (put x.to j rest) (λ k _. ap (λ ms. if k == j then ms else x.to k) last)
        (sight job served_scene).own (sight job served_scene).other
        (λ k k_in u. own_is f job x j fit.there h did.node k u ∙ elim (k == j) as (λ b. (k == j) ≡ b
        → (if b then finite.get (part did.node.table (is_home j)) u else finite.get (part (x.member k).table (is_home k)) u)
        ≡ (if b then (if is_of f job u p then Some (after f job (finite.get (part (x.member k).table (is_home k)) u) p) else finite.get
        (part (x.member k).table (is_home k)) u) else finite.get (part (x.member k).table (is_home k)) u)) [
          | true ↦ λ on. (let same : k ≡ j = (Decides-eqb k j).0 on in stepped u
              ∙ ap (λ q. if is_of f job u p then Some (after f job (finite.get (part (x.member q).table (is_home q)) u) p) else finite.get
              (part (x.member q).table (is_home q)) u) (sym same))
          | false ↦ λ _. refl
        ] refl)
        (λ k k_in u. other_is f job x j fit.there h did.node its.other k u)

    served_agrees : Agrees f job served_sight (sight job served_scene)
    served_agrees = record {
      serving = refl;
      queue = refl;
      to = λ k _. refl;
      answers = λ k _. more_at answer_in (x.back k) told (k == j);
      queued = ap entry_numbers no_raise;
      processed = processed_is;
      own = λ k _ u. refl;
      other = λ k _ u. refl;
    }

    pub served_holds : Holds f job served_scene
    served_holds = record {
      labelled = labelled_left f job x j fit.there h did.node x.out (put x.to j rest) told (Credit r.cell ∷ []) (Inner (Processed p i.index out_of) ∷ [])
          (record { rules = its.rules; site = its.site; index = its.index }) h.labelled.out (tt, tt) (fit.genuine.pool, tt);
      ordered = record {
        in_turn = ap (λ z. z ++ flat_map packet_in x.input) no_arrival ∙ h.ordered.in_turn;
        each_member = λ k k_in.
            ap (λ z. z ++ (flat_map event_in (x.back k ++ (if k == j then told else [])) ++ filter (is_taken_at job k) (flat_map plain_in (x.out k))))
            (ap (member_numbers k) no_raise)
            ∙ ap (λ z. events_of k x.log ++ (z ++ filter (is_taken_at job k) (flat_map plain_in (x.out k)))) (none_at event_in (x.back k) told (k == j) refl)
            ∙ h.ordered.each_member k k_in
            ∙ ap (filter (is_taken_at job k)) (sym no_arrival);
        others = ap (λ z. filter (λ q. not (is_taken job q)) z ++ filter (λ q. not (is_taken job q)) (flat_map plain_in (x.out 0))) processed_is
            ∙ ap (λ z. z ++ filter (λ q. not (is_taken job q)) (flat_map plain_in (x.out 0))) (filter_no_more (λ q. not (is_taken job q)) (done_numbers x.log) p
            (ap not fit.taken))
            ∙ h.ordered.others
            ∙ ap (filter (λ q. not (is_taken job q))) (sym no_arrival);
        right = subst (Each (IsRight job)) (sym no_raise) h.ordered.right;
      };
      serves = serves_alike f job served_sight (sight job served_scene) served_agrees served_serves;
      tight = tight_alike f job served_sight (sight job served_scene) served_agrees h.tight;
      answered = answered_more f laws job job_is x.log p i.index out_of before fresh
          (ap (λ s. output_for f s before r.cell.packet) site_is ∙ ap (output_for f job.site before) (sym fit.genuine.same))
          h.answered;
      ends = ends_left_by f job x j fit.there h did.node x.out (put x.to j rest) told (Credit r.cell ∷ []) (Inner (Processed p i.index out_of) ∷ []) its.ended
          (λ k. refl);
    }

  -- The record of a packet's unit comes to a member.
  module _ (j : ℕ) (j_in : j < job.members) (r : QueuedPacket) (at : ℕ → Turn) (left : ℕ) (stage : h.serves.stage ≡ Spreads r at left) (going : at j ≡ Going)
      (rest : List Msg) (is : x.to j ≡ Sync (is_home j) the_share (chunk_after f job r h.serves.d ∷ []) ∷ rest) (last : rest ≡ []) where
    abbrev q : ℕ
    q = raised_number r

    abbrev sync : Msg
    sync = Sync (is_home j) the_share (chunk_after f job r h.serves.d ∷ [])

    valid : f.is_valid (unit f job q) (record_after f job r h.serves.d) ≡ true
    valid =
        let fit = fits f laws job job_is q in
        laws.stays job.site (seen f job (unit f job q) h.serves.d) (packet_numbered job q) fit (seen_sound f laws job job_is (unit f job q) h.serves.d)

    abbrev takes_it : Step F R
    takes_it = instance_step f (x.member j) sync

    pub its_record : TakesRecord f job (x.member j) (is_home j) (unit f job q) (record_after f job r h.serves.d) takes_it
    its_record = sync_leaves f job laws (x.member j) (is_home j) (unit f job q) (record_after f job r h.serves.d) valid

    abbrev kept_note : Note
    kept_note = keep_note (x.member j) the_share (chunk_after f job r h.serves.d ∷ [])

    abbrev pub synced_scene : Scene F R
    synced_scene = left_by x x.out (put x.to j rest) j takes_it.node (Synced the_share ∷ []) [] (Inner kept_note ∷ [])

    pub synced_is : member_did (record x { to = put x.to j rest }) j takes_it ≡ synced_scene
    synced_is = left_is x x.out (put x.to j rest) j takes_it (Synced the_share ∷ []) [] (Inner kept_note ∷ []) (ap (sent_for 1) its_record.sends)
        (ap (sent_for 0) its_record.sends) (ap (map Inner) (its_record.notes ∙ ap (λ n. n ∷ []) its_record.quiet))

    pub synced_confined : (k : ℕ) → sent_for (k + 2) takes_it.sends ≡ []
    synced_confined k = ap (sent_for (k + 2)) its_record.sends ∙ ap (λ b. (if b then Synced the_share ∷ [] else []) ++ []) (one_two k)

    quiet : IsQuiet x.log synced_scene.log
    quiet = quiet_log x.log (Inner kept_note ∷ []) refl refl

    still_arrived : arrivals_in synced_scene.log ≡ arrivals_in x.log
    still_arrived = arrived-append x.log (Inner kept_note ∷ []) ∙ append-nil (arrivals_in x.log)

    abbrev synced_sight : Sight R
    synced_sight =
        record (sight job x) {
          to = put x.to j rest;
          answers = λ k. flat_map answer_in (x.back k) ++ (if k == j then Took ∷ [] else []);
          own = (sight job synced_scene).own;
          other = (sight job synced_scene).other;
        }

    synced_serves : Serves f job synced_sight
    synced_serves =
        takes_record f laws job job_is (sight job x) h.serves j j_in r at left stage going (put x.to j rest)
        (λ k _. ap (λ ms. if k == j then ms else x.to k) last) (sight job synced_scene).own (sight job synced_scene).other
        (λ k k_in u. own_is f job x j j_in h takes_it.node k u ∙ elim (k == j) as (λ b. (k == j) ≡ b
        → (if b then finite.get (part takes_it.node.table (is_home j)) u else finite.get (part (x.member k).table (is_home k)) u)
        ≡ (if b then (if is_of f job u q then Some (record_after f job r h.serves.d) else finite.get (part (x.member k).table (is_home k)) u) else
        finite.get (part (x.member k).table (is_home k)) u)) [
          | true ↦ λ on.
              let same : k ≡ j = (Decides-eqb k j).0 on in
              its_record.own u
              ∙ ap (λ b. if b then Some (record_after f job r h.serves.d) else finite.get (part (x.member j).table (is_home j)) u)
              (unit_swapped f laws job job_is u q)
              ∙ ap (λ z. if is_of f job u q then Some (record_after f job r h.serves.d) else finite.get (part (x.member z).table (is_home z)) u) (sym same)
          | false ↦ λ _. refl
        ] refl)
        (λ k k_in u. other_is f job x j j_in h takes_it.node its_record.other k u)

    synced_agrees : Agrees f job synced_sight (sight job synced_scene)
    synced_agrees = record {
      serving = refl;
      queue = refl;
      to = λ k _. refl;
      answers = λ k _. more_at answer_in (x.back k) (Synced the_share ∷ []) (k == j);
      queued = ap entry_numbers quiet.entries_stay;
      processed = ap (map (λ d. d.number)) quiet.done_stays;
      own = λ k _ u. refl;
      other = λ k _ u. refl;
    }

    pub synced_holds : Holds f job synced_scene
    synced_holds = record {
      labelled = labelled_left f job x j j_in h takes_it.node x.out (put x.to j rest) (Synced the_share ∷ []) [] (Inner kept_note ∷ [])
          (record { rules = its_record.rules; site = its_record.site; index = its_record.index }) h.labelled.out (tt, tt) tt;
      ordered = ordered_quiet job x synced_scene h.ordered quiet still_arrived refl
          (λ k k_in. ap (λ z. z ++ filter (is_taken_at job k) (flat_map plain_in (x.out k)))
          (none_at event_in (x.back k) (Synced the_share ∷ []) (k == j) refl)) refl;
      serves = serves_alike f job synced_sight (sight job synced_scene) synced_agrees synced_serves;
      tight = tight_alike f job synced_sight (sight job synced_scene) synced_agrees h.tight;
      answered = answered_same f job x.log synced_scene.log quiet h.answered;
      ends = ends_left_by f job x j j_in h takes_it.node x.out (put x.to j rest) (Synced the_share ∷ []) [] (Inner kept_note ∷ []) its_record.ended (λ k. refl);
    }
