-- The rows of a member for a packet that it raises and for its stop keep what every scene of a run keeps.
use Rattle.strong_share.proofs.Words.{◌≡◌, ℕ, ◌+◌, ◌<◌, ◌≤◌, Bool, true, false, List, [], ◌∷◌, ◌++◌, refl, sym, ap, ◌∙◌, append_assoc, append-nil, arith}
use Rattle.strong_share.proofs.Words.{if◌then◌else◌, ◌==◌, ◌&&◌, not, filter, flat_map, Decides-eqb, matches, flow_of, Semantics, FullCell, Msg, Carry, Stop}
use Rattle.strong_share.proofs.Words.{Event, Final, InstanceState, instance_step, sent_for, weigh, the_share, StrongJob, arrivals_in, is_taken, member_of}
use Rattle.strong_share.proofs.Words.{is_taken_at}
use Rattle.event_filter.specs.declared.mark.Mark.TheVariants as mark
use Rattle.strong_share.proofs.Lists.{put, one_two}
use Rattle.strong_share.proofs.MemberRows.{raises}
use Rattle.strong_share.proofs.Scenes.{Scene, member_did}
use Rattle.strong_share.proofs.ServedPackets.{number, one_if, IsGenuine, Agrees, serves_alike, tight_alike}
use Rattle.strong_share.proofs.Reading.{plain_in, event_in, stop_in, taken_has, taken_first, more_at, none_at, each_taken, head_of, taken_weighs}
use Rattle.strong_share.proofs.Holding.{out_label, ends_left, sight, Holds}
use Rattle.strong_share.proofs.LogLemmas.{IsQuiet, answered_same, quiet_log}
use Rattle.strong_share.proofs.MemberScenes.{put_own, left_by, agrees_left, labelled_left, ends_left_by, ordered_quiet}

-- A packet that the filter matches is raised.
module _ {F R : Type 0} (f : Semantics R) (job : StrongJob) (x : Scene F R) (j : ℕ) (j_in : j < job.members) (h : Holds f job x) (c : FullCell)
    (rest : List Msg) (is : x.out j ≡ Carry mark.Plain c ∷ rest) where
  pub genuine : IsGenuine job c × (member_of job (number c) ≡ j)
  genuine = (head_of (out_label job j) (x.out j) (Carry mark.Plain c) rest is (h.labelled.out j j_in)).0

  pub matches_is : (b : Bool) → is_taken job (number c) ≡ b → matches job.filter (flow_of job.site c.packet).0 ≡ b
  matches_is b e = ap (λ p. matches job.filter (flow_of job.site p).0) (sym genuine.0.same) ∙ e

  abbrev untaken : ℕ → Bool
  untaken p = not (is_taken job p)

  module _ (taken : is_taken job (number c) ≡ true) where
    abbrev pub raised_scene : Scene F R
    raised_scene = left_by x (put x.out j rest) x.to j (x.member j) (Event the_share c ∷ []) [] []

    pub raised_is : member_did (record x { out = put x.out j rest }) j (instance_step f (x.member j) (Carry mark.Plain c)) ≡ raised_scene
    raised_is = ap (member_did (record x { out = put x.out j rest }) j) (raises f job j (x.member j) c (h.labelled.member j j_in) (matches_is true taken))

    pub raised_confined : (k : ℕ) → sent_for (k + 2) (instance_step f (x.member j) (Carry mark.Plain c)).sends ≡ []
    raised_confined k = ap (λ did. sent_for (k + 2) did.sends) (raises f job j (x.member j) c (h.labelled.member j j_in) (matches_is true taken))
        ∙ ap (λ b. (if b then Event the_share c ∷ [] else []) ++ []) (one_two k)

    mine_own : is_taken_at job j (number c) ≡ true
    mine_own = ap (λ t. t && (member_of job (number c) == j)) taken ∙ (Decides-eqb (member_of job (number c)) j).1 genuine.1

    pub raised_holds : Holds f job raised_scene
    raised_holds = record {
      labelled = labelled_left f job x j j_in h (x.member j) (put x.out j rest) x.to (Event the_share c ∷ []) [] []
          (record { rules = refl; site = refl; index = refl }) (each_taken (out_label job) job.members x.out j (Carry mark.Plain c) rest j_in is h.labelled.out)
          (record { genuine = genuine.0; taken = taken; member_is = genuine.1; there = j_in }, tt) tt;
      ordered = ordered_quiet job x raised_scene h.ordered quiet (ap arrivals_in (append-nil x.log)) refl
          (λ k k_in.
          ap (λ z. z ++ filter (is_taken_at job k) (flat_map plain_in (put x.out j rest k))) (more_at event_in (x.back k) (Event the_share c ∷ []) (k == j))
          ∙ ap (λ z. (flat_map event_in (x.back k) ++ (if k == j then number c ∷ [] else [])) ++ filter (is_taken_at job k) z)
          (taken_first plain_in x.out j (Carry mark.Plain c) rest is k)
          ∙ at_member k)
          at_first;
      serves = serves_alike f job (sight job x) (sight job raised_scene) agrees h.serves;
      tight = tight_alike f job (sight job x) (sight job raised_scene) agrees h.tight;
      answered = answered_same f job x.log raised_scene.log quiet h.answered;
      ends = ends_left_by f job x j j_in h (x.member j) (put x.out j rest) x.to (Event the_share c ∷ []) [] [] refl
          (taken_weighs stop_in x.out j (Carry mark.Plain c) rest is refl);
    }
      where
        quiet : IsQuiet x.log raised_scene.log
        quiet = quiet_log x.log [] refl refl

        agrees : Agrees f job (sight job x) (sight job raised_scene)
        agrees = agrees_left f job x j j_in h (x.member j) (put x.out j rest) (Event the_share c ∷ []) [] [] refl quiet
            (λ k. ap (λ (i : InstanceState F R). i.table) (put_own x.member j k))

        at_member : (k : ℕ) → (flat_map event_in (x.back k) ++ (if k == j then number c ∷ [] else []))
            ++ filter (is_taken_at job k) (if k == j then flat_map plain_in rest else flat_map plain_in (x.out k)) ≡ flat_map event_in (x.back k)
            ++ filter (is_taken_at job k) (flat_map plain_in (x.out k))
        at_member k =
            elim (k == j) as (λ b. (k == j) ≡ b → (flat_map event_in (x.back k) ++ (if b then number c ∷ [] else []))
            ++ filter (is_taken_at job k) (if b then flat_map plain_in rest else flat_map plain_in (x.out k)) ≡ flat_map event_in (x.back k)
            ++ filter (is_taken_at job k) (flat_map plain_in (x.out k))) [
              | true ↦ λ on.
                  let same : k ≡ j = (Decides-eqb k j).0 on in
                  let mine : is_taken_at job k (number c) ≡ true = ap (λ i. is_taken_at job i (number c)) same ∙ mine_own in
                  append_assoc (flat_map event_in (x.back k)) (number c ∷ []) (filter (is_taken_at job k) (flat_map plain_in rest))
                  ∙ ap (λ t. flat_map event_in (x.back k) ++ (if t then number c ∷ filter (is_taken_at job k) (flat_map plain_in rest) else filter
                  (is_taken_at job k) (flat_map plain_in rest))) (sym mine)
                  ∙ ap (λ ms. flat_map event_in (x.back k) ++ filter (is_taken_at job k) (flat_map plain_in ms)) (sym (ap x.out same ∙ is))
              | false ↦ λ _. ap (λ z. z ++ filter (is_taken_at job k) (flat_map plain_in (x.out k))) (append-nil (flat_map event_in (x.back k)))
            ] refl

        at_first : filter untaken (flat_map plain_in (put x.out j rest 0)) ≡ filter untaken (flat_map plain_in (x.out 0))
        at_first = ap (filter untaken) (taken_first plain_in x.out j (Carry mark.Plain c) rest is 0)
            ∙ elim (0 == j) as (λ b. (0 == j) ≡ b → filter untaken (if b then flat_map plain_in rest else flat_map plain_in (x.out 0))
            ≡ filter untaken (flat_map plain_in (x.out 0))) [
              | true ↦ λ on.
                  let same : 0 ≡ j = (Decides-eqb 0 j).0 on in
                  ap (λ t. if not t then number c ∷ filter untaken (flat_map plain_in rest) else filter untaken (flat_map plain_in rest)) (sym taken)
                  ∙ ap (λ ms. filter untaken (flat_map plain_in ms)) (sym (ap x.out same ∙ is))
              | false ↦ λ _. refl
            ] refl

-- A member stops.
module _ {F R : Type 0} (f : Semantics R) (job : StrongJob) (x : Scene F R) (j : ℕ) (j_in : j < job.members) (h : Holds f job x) (rest : List Msg)
    (is : x.out j ≡ Stop ∷ rest) where
  abbrev pub stopped : InstanceState F R
  stopped = record (x.member j) { ended = true }

  abbrev pub stopped_scene : Scene F R
  stopped_scene = left_by x (put x.out j rest) x.to j stopped (Final ∷ []) [] []

  pub stopped_is : member_did (record x { out = put x.out j rest }) j (instance_step f (x.member j) Stop) ≡ stopped_scene
  stopped_is = refl

  pub stopped_confined : (k : ℕ) → sent_for (k + 2) (instance_step f (x.member j) Stop).sends ≡ []
  stopped_confined k = ap (λ b. (if b then Final ∷ [] else []) ++ []) (one_two k)

  pub stopped_holds : Holds f job stopped_scene
  stopped_holds = record {
    labelled = labelled_left f job x j j_in h stopped (put x.out j rest) x.to (Final ∷ []) [] [] (record { rules = refl; site = refl; index = refl })
        (each_taken (out_label job) job.members x.out j Stop rest j_in is h.labelled.out) (tt, tt) tt;
    ordered = ordered_quiet job x stopped_scene h.ordered quiet (ap arrivals_in (append-nil x.log)) refl
        (λ k k_in.
        ap (λ z. z ++ filter (is_taken_at job k) (flat_map plain_in (put x.out j rest k))) (none_at event_in (x.back k) (Final ∷ []) (k == j) refl)
        ∙ ap (λ z. flat_map event_in (x.back k) ++ filter (is_taken_at job k) z) (taken_has plain_in x.out j Stop rest is refl k))
        (ap (filter (λ p. not (is_taken job p))) (taken_has plain_in x.out j Stop rest is refl 0));
    serves = serves_alike f job (sight job x) (sight job stopped_scene) agrees h.serves;
    tight = tight_alike f job (sight job x) (sight job stopped_scene) agrees h.tight;
    answered = answered_same f job x.log stopped_scene.log quiet h.answered;
    ends = record {
      closed = h.ends.closed;
      stopped = λ k k_in. elim (k == j) as (λ b. (k == j) ≡ b → ends_left job x + weigh stop_in (if b then rest else x.out k) + one_if
          (if b then stopped else x.member k).ended ≡ 1) [
            | true ↦ λ on. (let was = h.ends.stopped j j_in in let all = ap (weigh stop_in) is in
                let one : one_if (x.member j).ended + weigh stop_in (x.out j) ≤ 1 = omega (arith, was) in omega (arith, was, all, one))
            | false ↦ λ _. h.ends.stopped k k_in
          ] refl;
    };
  }
    where
      quiet : IsQuiet x.log stopped_scene.log
      quiet = quiet_log x.log [] refl refl

      agrees : Agrees f job (sight job x) (sight job stopped_scene)
      agrees = agrees_left f job x j j_in h stopped (put x.out j rest) (Final ∷ []) [] [] refl quiet
          (λ k. elim (k == j) as (λ b. (k == j) ≡ b → (if b then stopped else x.member k).table ≡ (x.member k).table) [
            | true ↦ λ on. (let same : k ≡ j = (Decides-eqb k j).0 on in ap (λ i. (x.member i).table) (sym same))
            | false ↦ λ _. refl
          ] refl)
