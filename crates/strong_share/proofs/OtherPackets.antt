-- The first member's row for a packet that the filter doesn't match keeps what every scene of a run keeps.
use Rattle.strong_share.proofs.Words.{◌≡◌, ℕ, ◌+◌, ◌<◌, Bool, true, false, Option, None, Some, List, [], ◌∷◌, ◌++◌, map, refl, sym, ap, subst, ◌∙◌}
use Rattle.strong_share.proofs.Words.{append_assoc, append-nil, if◌then◌else◌, ◌==◌, ◌&&◌, not, filter, flat_map, map-append, Decides-eqb, filter-append}
use Rattle.strong_share.proofs.Words.{Output, takes, Laws, Semantics, unit_at, kept_after, output_for, same_unit, part, same_unit-true, FullCell, Msg, Carry}
use Rattle.strong_share.proofs.Words.{Credit, Processed, Step, instance_processed, instance_step, keep_note, sent_for, Each, StrongNote, Inner, is_home}
use Rattle.strong_share.proofs.Words.{StrongJob, IsStrongJob, entries, events_of, arrivals_in, dones_in, done_numbers, packet_numbered, is_taken, member_of}
use Rattle.strong_share.proofs.Words.{is_taken_at, is_of, fold, outputs, processed_of, outputs_of}
use Rattle.std.specs.FinMap as finite
use Rattle.nf_function.specs.declared.unit.Unit as units
use Rattle.event_filter.specs.declared.mark.Mark.TheVariants as mark
use Rattle.net_world.specs.Log as log
use Rattle.strong_share.proofs.Lists.{put, filter_one_more, zero_two}
use Rattle.strong_share.proofs.Folds.{unit, after, seen, unit_taken, kept_is, outputs-append, unit_own, unit_swapped}
use Rattle.strong_share.proofs.MemberRows.{Leaves, processes, plain_leaves}
use Rattle.strong_share.proofs.Scenes.{Scene, member_did}
use Rattle.strong_share.proofs.ServedPackets.{number, Sight, IsGenuine, Serves, Agrees, serves_alike, tight_alike, seen_by}
use Rattle.strong_share.proofs.RecordSteps.{processed_other}
use Rattle.strong_share.proofs.Reading.{packet_in, plain_in, event_in, answer_in, stop_in, taken_first, none_at, each_taken, taken_weighs}
use Rattle.strong_share.proofs.Holding.{out_label, IsRight, sight, Holds}
use Rattle.strong_share.proofs.LogLemmas.{arrived-append, done-append, done_numbers-append, member_numbers, entry_numbers, entries-append}
use Rattle.strong_share.proofs.MemberScenes.{left_by, left_is, labelled_left, own_is, other_is, ends_left_by}
use Rattle.strong_share.proofs.MemberSteps.{genuine, matches_is}

-- A packet that is processed: what is read off the log then.
module _ {R : Type 0} (f : Semantics R) (laws : Laws f) (job : StrongJob) (job_is : IsStrongJob f.kind job) where
  answers_more : (u : units.Unit) (ds : List log.Done) (d : log.Done) → map (λ e. e.output) (filter (λ e. is_of f job u e.number) (ds ++ d ∷ []))
      ≡ map (λ e. e.output) (filter (λ e. is_of f job u e.number) ds) ++ (if is_of f job u d.number then d.output ∷ [] else [])
  answers_more u ds d =
      ap (map (λ e. e.output)) (filter-append (λ (e : log.Done). is_of f job u e.number) ds (d ∷ []))
      ∙ map-append (λ (e : log.Done). e.output) (filter (λ e. is_of f job u e.number) ds) (if is_of f job u d.number then d ∷ [] else [])
      ∙ ap (λ z. map (λ (e : log.Done). e.output) (filter (λ e. is_of f job u e.number) ds) ++ z) (last (is_of f job u d.number))
    where
      last : (b : Bool) → map (λ (e : log.Done). e.output) (if b then d ∷ [] else []) ≡ (if b then d.output ∷ [] else [])
      last true = refl
      last false = refl

  -- the answer is that of one instance, where the record that was stepped is what is kept after all packets of the unit before
  pub answered_more : (old : List StrongNote) (p i : ℕ) (out : Output) (keep_note : Option R)
      → keep_note ≡ fold f job None (processed_of f job (unit f job p) old)
      → out ≡ output_for f job.site keep_note (packet_numbered job p)
      → ((u : units.Unit) → outputs_of f job u old ≡ outputs f job None (processed_of f job u old)) → (u : units.Unit)
      → outputs_of f job u (old ++ Inner (Processed p i out) ∷ []) ≡ outputs f job None (processed_of f job u (old ++ Inner (Processed p i out) ∷ []))
  answered_more old p i out keep_note kept_is out_is h u =
      ap (λ ds. map (λ e. e.output) (filter (λ e. is_of f job u e.number) ds)) (done-append old (Inner (Processed p i out) ∷ []))
      ∙ answers_more u (dones_in old) (record { number = p; instance = i; output = out })
      ∙ ap (λ z. z ++ (if is_of f job u p then out ∷ [] else [])) (h u)
      ∙ elim (is_of f job u p) as (λ b. is_of f job u p ≡ b → outputs f job None (processed_of f job u old) ++ (if b then out ∷ [] else [])
      ≡ outputs f job None (processed_of f job u old ++ (if b then p ∷ [] else []))) [
        | true ↦ λ on.
            let same : unit f job p ≡ u = same_unit-true (unit f job p) u on in
            let its : out ≡ output_for f job.site (fold f job None (processed_of f job u old)) (packet_numbered job p) = out_is
            ∙ ap (λ o. output_for f job.site o (packet_numbered job p)) (kept_is ∙ ap (λ v. fold f job None (processed_of f job v old)) same) in
            ap (λ o. outputs f job None (processed_of f job u old) ++ o ∷ []) its
            ∙ sym (outputs-append f laws job job_is None (processed_of f job u old) (p ∷ []))
        | false ↦ λ _. append-nil (outputs f job None (processed_of f job u old)) ∙ ap (outputs f job None) (sym (append-nil (processed_of f job u old)))
      ] refl
      ∙ ap (outputs f job None) (sym (ap (filter (is_of f job u)) (done_numbers-append old (Inner (Processed p i out) ∷ []))
      ∙ filter-append (is_of f job u) (done_numbers old) (p ∷ [])))

-- The first member processes a packet that the filter doesn't match.
module _ {F R : Type 0} (f : Semantics R) (laws : Laws f) (job : StrongJob) (job_is : IsStrongJob f.kind job) (x : Scene F R) (zero_in : 0 < job.members)
    (h : Holds f job x) (c : FullCell) (rest : List Msg) (is : x.out 0 ≡ Carry mark.Plain c ∷ rest) (taken : is_taken job (number c) ≡ false) where
  abbrev p : ℕ
  p = number c

  abbrev did : Step F R
  did = instance_processed f (x.member 0) mark.Plain c

  abbrev its : Leaves f job (x.member 0) true c [] did
  its = plain_leaves f job (x.member 0) c

  cell : IsGenuine job c × (member_of job p ≡ 0)
  cell = genuine f job x 0 zero_in h c rest is

  step_is : instance_step f (x.member 0) (Carry mark.Plain c) ≡ did
  step_is = processes f job 0 (x.member 0) c (h.labelled.member 0 zero_in) (matches_is f job x 0 zero_in h c rest is false taken)

  abbrev out_of : Output
  out_of = output_for f (x.member 0).site (finite.get (part (x.member 0).table true) (unit_at f.kind (x.member 0).site c.packet)) c.packet

  abbrev pub other_scene : Scene F R
  other_scene = left_by x (put x.out 0 rest) x.to 0 did.node [] (Credit c ∷ []) (Inner (Processed p (x.member 0).index out_of) ∷ [])

  pub other_is_scene : member_did (record x { out = put x.out 0 rest }) 0 (instance_step f (x.member 0) (Carry mark.Plain c)) ≡ other_scene
  other_is_scene = ap (member_did (record x { out = put x.out 0 rest }) 0) step_is
      ∙ left_is x (put x.out 0 rest) x.to 0 did [] (Credit c ∷ []) (Inner (Processed p (x.member 0).index out_of) ∷ []) (ap (sent_for 1) its.sends)
      (ap (sent_for 0) its.sends) (ap (map Inner) its.notes)

  pub other_confined : (k : ℕ) → sent_for (k + 2) (instance_step f (x.member 0) (Carry mark.Plain c)).sends ≡ []
  other_confined k = ap (λ s. sent_for (k + 2) s.sends) step_is ∙ ap (sent_for (k + 2)) its.sends
      ∙ ap (λ b. (if b then Credit c ∷ [] else []) ++ []) (zero_two k)

  site_is : (x.member 0).site ≡ job.site
  site_is = (h.labelled.member 0 zero_in).site

  unit_is : unit_at f.kind (x.member 0).site c.packet ≡ unit f job p
  unit_is = ap (λ s. unit_at f.kind s c.packet) site_is ∙ ap (unit_at f.kind job.site) (sym cell.0.same)

  -- the record of its unit is that after all that were processed
  takes_unit : takes job.filter (unit f job p) ≡ false
  takes_unit = sym (unit_taken f laws job job_is p (unit f job p) (unit_own f laws job job_is p)) ∙ taken

  fresh : finite.get (part (x.member 0).table true) (unit_at f.kind (x.member 0).site c.packet) ≡ fold f job None (processed_of f job (unit f job p) x.log)
  fresh = ap (finite.get (part (x.member 0).table true)) unit_is ∙ h.serves.own 0 zero_in (unit f job p)
      ∙ ap (λ t. if t then seen f job (unit f job p) (seen_by f job h.serves.stage h.serves.d 0) else fold f job None (processed_of f job (unit f job p) x.log))
      takes_unit

  -- what it leaves of a unit's record
  stepped : (u : units.Unit) → finite.get (part did.node.table true) u
      ≡ (if is_of f job u p then Some (after f job (finite.get (part (x.member 0).table true) u) p) else finite.get (part (x.member 0).table true) u)
  stepped u =
      its.own u
      ∙ ap (λ v. if same_unit u v then kept_after f (x.member 0).site (finite.get (part (x.member 0).table true) u) c.packet else finite.get
      (part (x.member 0).table true) u) unit_is
      ∙ ap (λ b. if b then kept_after f (x.member 0).site (finite.get (part (x.member 0).table true) u) c.packet else finite.get (part (x.member 0).table true)
      u) (unit_swapped f laws job job_is u p)
      ∙ ap (λ s. if is_of f job u p then kept_after f s (finite.get (part (x.member 0).table true) u) c.packet else finite.get (part (x.member 0).table true) u)
      site_is
      ∙ ap (λ q. if is_of f job u p then kept_after f job.site (finite.get (part (x.member 0).table true) u) q else finite.get (part (x.member 0).table true) u)
      (sym cell.0.same)
      ∙ ap (λ o. if is_of f job u p then o else finite.get (part (x.member 0).table true) u) (kept_is f laws job job_is
      (finite.get (part (x.member 0).table true) u) p)

  processed_is : done_numbers other_scene.log ≡ done_numbers x.log ++ p ∷ []
  processed_is = done_numbers-append x.log (Inner (Processed p (x.member 0).index out_of) ∷ [])

  no_arrival : arrivals_in other_scene.log ≡ arrivals_in x.log
  no_arrival = arrived-append x.log (Inner (Processed p (x.member 0).index out_of) ∷ []) ∙ append-nil (arrivals_in x.log)

  no_raise : entries other_scene.log ≡ entries x.log
  no_raise = entries-append x.log (Inner (Processed p (x.member 0).index out_of) ∷ []) ∙ append-nil (entries x.log)

  abbrev other_sight : Sight R
  other_sight = record (sight job x) { processed = done_numbers x.log ++ p ∷ []; own = (sight job other_scene).own; other = (sight job other_scene).other }

  other_serves : Serves f job other_sight
  other_serves = processed_other f laws job job_is (sight job x) h.serves p taken (sight job other_scene).own (sight job other_scene).other
      (λ k k_in u. own_is f job x 0 zero_in h did.node k u ∙ elim (k == 0) as (λ b. (k == 0) ≡ b
      → (if b then finite.get (part did.node.table true) u else finite.get (part (x.member k).table (is_home k)) u)
      ≡ (if b then (if is_of f job u p then Some (after f job (finite.get (part (x.member k).table (is_home k)) u) p) else finite.get
      (part (x.member k).table (is_home k)) u) else finite.get (part (x.member k).table (is_home k)) u)) [
        | true ↦ λ on. (let same : k ≡ 0 = (Decides-eqb k 0).0 on in stepped u
            ∙ ap (λ i. if is_of f job u p then Some (after f job (finite.get (part (x.member i).table (is_home i)) u) p) else finite.get
            (part (x.member i).table (is_home i)) u) (sym same))
        | false ↦ λ _. refl
      ] refl)
      (λ k k_in u. other_is f job x 0 zero_in h did.node its.other k u)

  other_agrees : Agrees f job other_sight (sight job other_scene)
  other_agrees = record {
    serving = refl;
    queue = refl;
    to = λ k _. refl;
    answers = λ k _. none_at answer_in (x.back k) [] (k == 0) refl;
    queued = ap entry_numbers no_raise;
    processed = processed_is;
    own = λ k _ u. refl;
    other = λ k _ u. refl;
  }

  not_mine : (k : ℕ) → is_taken_at job k p ≡ false
  not_mine k = ap (λ t. t && (member_of job p == k)) taken

  pub other_holds : Holds f job other_scene
  other_holds = record {
    labelled = labelled_left f job x 0 zero_in h did.node (put x.out 0 rest) x.to [] (Credit c ∷ []) (Inner (Processed p (x.member 0).index out_of) ∷ [])
        (record { rules = its.rules; site = its.site; index = its.index }) (each_taken (out_label job) job.members x.out 0 (Carry mark.Plain c) rest zero_in is
        h.labelled.out) tt (cell.0.pool, tt);
    ordered = record {
      in_turn = ap (λ z. z ++ flat_map packet_in x.input) no_arrival ∙ h.ordered.in_turn;
      each_member = λ k k_in.
          ap (λ z. z ++ (flat_map event_in (x.back k ++ (if k == 0 then [] else [])) ++ filter (is_taken_at job k) (flat_map plain_in (put x.out 0 rest k))))
          (ap (member_numbers k) no_raise)
          ∙ ap (λ z. events_of k x.log ++ (z ++ filter (is_taken_at job k) (flat_map plain_in (put x.out 0 rest k))))
          (none_at event_in (x.back k) [] (k == 0) refl)
          ∙ ap (λ z. events_of k x.log ++ (flat_map event_in (x.back k) ++ z)) (plains k)
          ∙ h.ordered.each_member k k_in
          ∙ ap (filter (is_taken_at job k)) (sym no_arrival);
      others = ap (λ z. filter (λ q. not (is_taken job q)) z ++ filter (λ q. not (is_taken job q)) (flat_map plain_in rest)) processed_is
          ∙ ap (λ z. z ++ filter (λ q. not (is_taken job q)) (flat_map plain_in rest)) (filter_one_more (λ q. not (is_taken job q)) (done_numbers x.log) p
          (ap not taken))
          ∙ append_assoc (filter (λ q. not (is_taken job q)) (done_numbers x.log)) (p ∷ []) (filter (λ q. not (is_taken job q)) (flat_map plain_in rest))
          ∙ ap (λ t. filter (λ q. not (is_taken job q)) (done_numbers x.log)
          ++ (if not t then p ∷ filter (λ q. not (is_taken job q)) (flat_map plain_in rest) else filter (λ q. not (is_taken job q))
          (flat_map plain_in rest))) (sym taken)
          ∙ ap (λ ms. filter (λ q. not (is_taken job q)) (done_numbers x.log) ++ filter (λ q. not (is_taken job q)) (flat_map plain_in ms)) (sym is)
          ∙ h.ordered.others
          ∙ ap (filter (λ q. not (is_taken job q))) (sym no_arrival);
      right = subst (Each (IsRight job)) (sym no_raise) h.ordered.right;
    };
    serves = serves_alike f job other_sight (sight job other_scene) other_agrees other_serves;
    tight = tight_alike f job other_sight (sight job other_scene) other_agrees h.tight;
    answered = answered_more f laws job job_is x.log p (x.member 0).index out_of (finite.get (part (x.member 0).table true)
        (unit_at f.kind (x.member 0).site c.packet)) fresh
        (ap (λ s. output_for f s (finite.get (part (x.member 0).table true) (unit_at f.kind (x.member 0).site c.packet)) c.packet) site_is
        ∙ ap (output_for f job.site (finite.get (part (x.member 0).table true) (unit_at f.kind (x.member 0).site c.packet))) (sym cell.0.same))
        h.answered;
    ends = ends_left_by f job x 0 zero_in h did.node (put x.out 0 rest) x.to [] (Credit c ∷ []) (Inner (Processed p (x.member 0).index out_of) ∷ []) its.ended
        (taken_weighs stop_in x.out 0 (Carry mark.Plain c) rest is refl);
  }
    where
      plains : (k : ℕ) → filter (is_taken_at job k) (flat_map plain_in (put x.out 0 rest k)) ≡ filter (is_taken_at job k) (flat_map plain_in (x.out k))
      plains k = ap (filter (is_taken_at job k)) (taken_first plain_in x.out 0 (Carry mark.Plain c) rest is k)
          ∙ elim (k == 0) as (λ b. (k == 0) ≡ b → filter (is_taken_at job k) (if b then flat_map plain_in rest else flat_map plain_in (x.out k))
          ≡ filter (is_taken_at job k) (flat_map plain_in (x.out k))) [
            | true ↦ λ on.
                let same : k ≡ 0 = (Decides-eqb k 0).0 on in
                ap (λ t. if t then p ∷ filter (is_taken_at job k) (flat_map plain_in rest) else filter (is_taken_at job k) (flat_map plain_in rest))
                (sym (not_mine k))
                ∙ ap (λ ms. filter (is_taken_at job k) (flat_map plain_in ms)) (sym (ap x.out same ∙ is))
            | false ↦ λ _. refl
          ] refl
