-- What a member's step leaves of a scene, and which of its facts stay.
use Rattle.strong_share.proofs.Words.{◌≡◌, ℕ, ◌+◌, ◌<◌, Bool, true, false, List, [], ◌++◌, map, refl, sym, ap, subst, ◌∙◌, if◌then◌else◌, ◌==◌, not, filter}
use Rattle.strong_share.proofs.Words.{flat_map, Decides-eqb, Semantics, part, TableView, Msg, InstanceState, Step, sent_for, Each, weigh, StrongNote, Inner}
use Rattle.strong_share.proofs.Words.{is_home, StrongJob, events_of, arrivals_in, done_numbers, is_taken, is_taken_at}
use Rattle.std.specs.FinMap as finite
use Rattle.nf_function.specs.declared.unit.Unit as units
use Rattle.strong_share.proofs.Lists.{put}
use Rattle.strong_share.proofs.MemberRows.{IsMember}
use Rattle.strong_share.proofs.Scenes.{Scene, member_did}
use Rattle.strong_share.proofs.ServedPackets.{Agrees, one_if}
use Rattle.strong_share.proofs.Reading.{packet_in, plain_in, event_in, answer_in, stop_in, each_at, none_at}
use Rattle.strong_share.proofs.Holding.{out_label, back_label, home_label, Labelled, IsRight, Ordered, Ends, ends_left, sight, Holds}
use Rattle.strong_share.proofs.LogLemmas.{IsQuiet, entry_numbers, member_numbers}

pub put_own : {X : Type 0} (g : ℕ → X) (j k : ℕ) → put g j (g j) k ≡ g k
put_own g j k = elim (k == j) as (λ b. (k == j) ≡ b → (if b then g j else g k) ≡ g k) [
  | true ↦ λ on. (let same : k ≡ j = (Decides-eqb k j).0 on in ap g (sym same))
  | false ↦ λ _. refl
] refl

-- Packets stay in order where nothing is noted of them, and what waits of each member's is as before.
pub ordered_quiet : {F R : Type 0} (job : StrongJob) (x y : Scene F R) → Ordered job x → IsQuiet x.log y.log → arrivals_in y.log ≡ arrivals_in x.log
    → y.input ≡ x.input → ((k : ℕ) → k < job.members → flat_map event_in (y.back k) ++ filter (is_taken_at job k) (flat_map plain_in (y.out k))
    ≡ flat_map event_in (x.back k) ++ filter (is_taken_at job k) (flat_map plain_in (x.out k)))
    → filter (λ p. not (is_taken job p)) (flat_map plain_in (y.out 0)) ≡ filter (λ p. not (is_taken job p)) (flat_map plain_in (x.out 0)) → Ordered job y
ordered_quiet job x y h quiet came input members first = record {
  in_turn = ap (λ ns. ns ++ flat_map packet_in y.input) came ∙ ap (λ ms. arrivals_in x.log ++ flat_map packet_in ms) input ∙ h.in_turn;
  each_member = λ k k_in.
      ap (λ es. member_numbers k es ++ (flat_map event_in (y.back k) ++ filter (is_taken_at job k) (flat_map plain_in (y.out k)))) quiet.entries_stay
      ∙ ap (λ z. events_of k x.log ++ z) (members k k_in) ∙ h.each_member k k_in ∙ ap (filter (is_taken_at job k)) (sym came);
  others =
      ap (λ ds. filter (λ p. not (is_taken job p)) (map (λ d. d.number) ds) ++ filter (λ p. not (is_taken job p)) (flat_map plain_in (y.out 0)))
      quiet.done_stays
      ∙ ap (λ z. filter (λ p. not (is_taken job p)) (done_numbers x.log) ++ z) first ∙ h.others ∙ ap (filter (λ p. not (is_taken job p))) (sym came);
  right = subst (Each (IsRight job)) (sym quiet.entries_stay) h.right;
}

-- What a member's step leaves: what it sent on its two links, and what it noted.
module _ {F R : Type 0} (x : Scene F R) (out to : ℕ → List Msg) (j : ℕ) (node : InstanceState F R) (told credits : List Msg) (notes : List StrongNote) where
  abbrev pub left_by : Scene F R
  left_by = record x {
    out = out;
    to = to;
    member = put x.member j node;
    back = λ k. x.back k ++ (if k == j then told else []);
    home = λ k. x.home k ++ (if k == j then credits else []);
    log = x.log ++ notes;
  }

pub left_is : {F R : Type 0} (x : Scene F R) (out to : ℕ → List Msg) (j : ℕ) (did : Step F R) (told credits : List Msg) (notes : List StrongNote)
    → sent_for 1 did.sends ≡ told → sent_for 0 did.sends ≡ credits → map Inner did.notes ≡ notes
    → member_did (record x { out = out; to = to }) j did ≡ left_by x out to j did.node told credits notes
left_is x out to j did told credits notes t c n =
    ap (λ ms. left_by x out to j did.node ms (sent_for 0 did.sends) (map Inner did.notes)) t
    ∙ ap (λ ms. left_by x out to j did.node told ms (map Inner did.notes)) c
    ∙ ap (λ ns. left_by x out to j did.node told credits ns) n

module _ {F R : Type 0} (f : Semantics R) (job : StrongJob) (x : Scene F R) (j : ℕ) (j_in : j < job.members) (h : Holds f job x) (node : InstanceState F R)
  where
    -- what stays as it is of a member
    pub record Stays : Type 0 where
      pub rules : node.rules ≡ (x.member j).rules
      pub site : node.site ≡ (x.member j).site
      pub index : node.index ≡ (x.member j).index

    at_j : (k : ℕ) → k < job.members → Stays → IsMember job k (put x.member j node k)
    at_j k k_in s = elim (k == j) as (λ b. (k == j) ≡ b → IsMember job k (if b then node else x.member k)) [
      | true ↦ λ on.
          let same : k ≡ j = (Decides-eqb k j).0 on in
          let was = h.labelled.member j j_in in
          record { rules = s.rules ∙ was.rules; site = s.site ∙ was.site; index = s.index ∙ was.index ∙ sym same }
      | false ↦ λ _. h.labelled.member k k_in
    ] refl

    pub labelled_left : (out to : ℕ → List Msg) (told credits : List Msg) (notes : List StrongNote) → Stays
        → ((k : ℕ) → k < job.members → Each (out_label job k) (out k)) → Each (back_label job j) told → Each (home_label job) credits
        → Labelled job (left_by x out to j node told credits notes)
    labelled_left out to told credits notes s outs backs homes = record {
      input = h.labelled.input;
      up = h.labelled.up;
      down = h.labelled.down;
      out = outs;
      back = λ k k_in. each_at (back_label job) j k (x.back k) told (h.labelled.back k k_in) backs;
      home = λ k k_in. each_at (λ i. home_label job) j k (x.home k) credits (h.labelled.home k k_in) homes;
      switch = h.labelled.switch;
      members = h.labelled.members;
      member = λ k k_in. at_j k k_in s;
    }

    -- the records of a member
    own_left : (k : ℕ) (u : units.Unit) (turned : Bool → Bool) → finite.get (part (put x.member j node k).table (turned (is_home k))) u
        ≡ (if k == j then finite.get (part node.table (turned (is_home j))) u else finite.get (part (x.member k).table (turned (is_home k))) u)
    own_left k u turned =
        elim (k == j) as (λ b. (k == j) ≡ b → finite.get (part (if b then node else x.member k).table (turned (is_home k))) u
        ≡ (if b then finite.get (part node.table (turned (is_home j))) u else finite.get (part (x.member k).table (turned (is_home k))) u)) [
          | true ↦ λ on. (let same : k ≡ j = (Decides-eqb k j).0 on in ap (λ i. finite.get (part node.table (turned (is_home i))) u) same)
          | false ↦ λ _. refl
        ] refl

    pub own_is : (k : ℕ) (u : units.Unit) → finite.get (part (put x.member j node k).table (is_home k)) u
        ≡ (if k == j then finite.get (part node.table (is_home j)) u else finite.get (part (x.member k).table (is_home k)) u)
    own_is k u = own_left k u (λ b. b)

    pub other_is : part node.table (not (is_home j)) ≡ part (x.member j).table (not (is_home j)) → (k : ℕ) (u : units.Unit)
        → finite.get (part (put x.member j node k).table (not (is_home k))) u ≡ finite.get (part (x.member k).table (not (is_home k))) u
    other_is same k u =
        own_left k u not ∙ elim (k == j) as (λ b. (k == j) ≡ b → (if b then finite.get (part node.table (not (is_home j))) u else finite.get
        (part (x.member k).table (not (is_home k))) u) ≡ finite.get (part (x.member k).table (not (is_home k))) u) [
          | true ↦ λ on. (let is_j : k ≡ j = (Decides-eqb k j).0 on in ap (λ t. finite.get t u) same
              ∙ ap (λ i. finite.get (part (x.member i).table (not (is_home i))) u) (sym is_j))
          | false ↦ λ _. refl
        ] refl

    -- the end: it goes on where the member's stop isn't taken
    pub ends_left_by : (out to : ℕ → List Msg) (told credits : List Msg) (notes : List StrongNote) → node.ended ≡ (x.member j).ended
        → ((k : ℕ) → weigh stop_in (out k) ≡ weigh stop_in (x.out k)) → Ends job (left_by x out to j node told credits notes)
    ends_left_by out to told credits notes same stops = record {
      closed = h.ends.closed;
      stopped = λ k k_in. ap (λ s. ends_left job x + s + one_if (put x.member j node k).ended) (stops k)
          ∙ ap (λ b. ends_left job x + weigh stop_in (x.out k) + one_if b) (ended k) ∙ h.ends.stopped k k_in;
    }
      where
        ended : (k : ℕ) → (put x.member j node k).ended ≡ (x.member k).ended
        ended k = elim (k == j) as (λ b. (k == j) ≡ b → (if b then node else x.member k).ended ≡ (x.member k).ended) [
          | true ↦ λ on. (let is_j : k ≡ j = (Decides-eqb k j).0 on in same ∙ ap (λ i. (x.member i).ended) (sym is_j))
          | false ↦ λ _. refl
        ] refl

    -- what is looked at is as before where the member's records are, and it answers nothing
    pub agrees_left : (out : ℕ → List Msg) (told credits : List Msg) (notes : List StrongNote) → flat_map answer_in told ≡ []
        → IsQuiet x.log (x.log ++ notes) → ((k : ℕ) → (put x.member j node k).table ≡ (x.member k).table)
        → Agrees f job (sight job x) (sight job (left_by x out x.to j node told credits notes))
    agrees_left out told credits notes none quiet tables = record {
      serving = refl;
      queue = refl;
      to = λ k _. refl;
      answers = λ k _. none_at answer_in (x.back k) told (k == j) none;
      queued = ap entry_numbers quiet.entries_stay;
      processed = ap (map (λ d. d.number)) quiet.done_stays;
      own = λ k _ u. ap (λ (t : TableView R). finite.get (part t (is_home k)) u) (tables k);
      other = λ k _ u. ap (λ (t : TableView R). finite.get (part t (not (is_home k))) u) (tables k);
    }
