-- The chunk of a packet goes round: the steps that send, take and answer it.
use Rattle.strong_share.proofs.Words.{◌≡◌, ℕ, ◌+◌, ◌-◌, ◌<◌, ◌≤◌, true, false, None, List, [], ◌∷◌, ◌++◌, map, refl, sym, ap, subst, ◌∙◌, append-nil, arith}
use Rattle.strong_share.proofs.Words.{if◌then◌else◌, ◌==◌, Decides-eqb, Chunk, takes, Laws, Semantics, Msg, Carry, Sync, Idle, Syncing, QueuedPacket}
use Rattle.strong_share.proofs.Words.{the_share, is_home, StrongJob, IsStrongJob}
use Rattle.nf_function.specs.declared.unit.Unit as units
use Rattle.event_filter.specs.declared.mark.Mark.TheVariants as mark
use Rattle.strong_share.proofs.Lists.{put}
use Rattle.strong_share.proofs.Folds.{seen}
use Rattle.strong_share.proofs.ServedPackets.{raised_number, Answer, Answer.Told, Answer.Took, Turn, Turn.Going, Turn.Coming, Turn.Quiet, is_going, is_pending}
use Rattle.strong_share.proofs.ServedPackets.{one_if, pending, Stage, Stage.Resting, Stage.Carries, Stage.Tells, Stage.Spreads, Sight, IsRaised, chunk_after}
use Rattle.strong_share.proofs.ServedPackets.{goes_to, comes_from, to_of, answers_of, all_of, waits_of, FitsSpread, FitsStage, expected, Serves, Rests}
use Rattle.strong_share.proofs.Turns.{pending_put, none_pending, all_but, pending_all_but}

module _ {R : Type 0} (f : Semantics R) (laws : Laws f) (job : StrongJob) (is : IsStrongJob f.kind job) where
  -- The chunk comes, and goes round.
  abbrev pub spread_to : ℕ → Chunk → ℕ → List Msg
  spread_to m chunk k = if k == m then [] else Sync (is_home k) the_share (chunk ∷ []) ∷ []

  -- what is told is the chunk of the packet that was out, by its member
  pub record IsTold (o : Sight R) (h : Serves f job o) (j : ℕ) (chunk : Chunk) (more : List Answer) : Type 0 where
    pub raised : QueuedPacket
    pub stage_is : h.stage ≡ Tells raised
    pub at_member : j ≡ raised.member
    pub chunk_is : chunk ≡ chunk_after f job raised h.d
    pub no_more : more ≡ []

  pub told_is : (o : Sight R) (h : Serves f job o) (j : ℕ) (chunk : Chunk) (more : List Answer) → j < job.members → o.answers j ≡ Told chunk ∷ more
      → IsTold o h j chunk more
  told_is o h j chunk more j_in is = by h.stage refl (sym (h.answers j j_in) ∙ is)
    where
      by : (s : Stage) → h.stage ≡ s → answers_of f job s h.d j ≡ Told chunk ∷ more → IsTold o h j chunk more
      by Resting e a = cc
      by (Carries r) e a = cc
      by (Tells r) e a =
          elim (j == r.member) as (λ b. (j == r.member) ≡ b → (if b then Told (chunk_after f job r h.d) ∷ [] else []) ≡ Told chunk ∷ more
          → IsTold o h j chunk more) [
            | true ↦ λ on same. record { raised = r; stage_is = e; at_member = (Decides-eqb j r.member).0 on; chunk_is = cc; no_more = cc }
            | false ↦ λ off same. cc
          ] refl a
      by (Spreads r at left) e a = turn (at j) a
        where
          turn : (t : Turn) → comes_from f job t ≡ Told chunk ∷ more → IsTold o h j chunk more
          turn Going b = cc
          turn Coming b = cc
          turn Quiet b = cc

  pub spreads : (o : Sight R) (h : Serves f job o) (j : ℕ) (chunk : Chunk) (more : List Answer) → j < job.members → IsTold o h j chunk more
      → (o' : ℕ → List Answer) → ((k : ℕ) → k < job.members → o' k ≡ (if k == j then more else o.answers k))
      → Serves f job (record o { serving = Syncing (job.members - 1); to = λ k. o.to k ++ spread_to j chunk k; answers = o' })
  spreads o h j chunk more j_in told answers answers_is =
      let r = told.raised in
      let stage = told.stage_is in
      let fit : IsRaised job r = subst (FitsStage f job) stage h.fits in
      record {
        d = h.d;
        stage = Spreads r (all_but r.member) (job.members - 1);
        fits = record { raised = fit; counts = omega (arith, pending_all_but r.member job.members fit.there); some = omega (arith, is.some) };
        serving = refl;
        to = λ k k_in. ap (λ z. z ++ spread_to j chunk k) (h.to k k_in ∙ ap (λ s. to_of f job s h.d k) stage) ∙ goes k;
        answers = λ k k_in. answers_is k k_in ∙ comes k k_in;
        order = h.order ∙ ap (λ s. (all_of f job s h.d ++ waits_of f job s) ++ map raised_number o.queue) stage;
        done = h.done ∙ ap (λ s. all_of f job s h.d) stage;
        queue = h.queue;
        own = λ k k_in u. h.own k k_in u ∙ ap (λ s. expected f job s h.d o.processed k u) stage
            ∙ ap (λ ps. if takes job.filter u then seen f job u ps else (if k == 0 then seen f job u o.processed else None)) (same k);
        other = h.other;
      }
    where
      goes : (k : ℕ) → spread_to j chunk k ≡ goes_to f job (all_but told.raised.member k) k (chunk_after f job told.raised h.d)
      goes k =
          ap (λ m. spread_to m chunk k) told.at_member ∙ ap (λ c. spread_to told.raised.member c k) told.chunk_is
          ∙ elim (k == told.raised.member) as (λ b. (if b then [] else Sync (is_home k) the_share (chunk_after f job told.raised h.d ∷ []) ∷ [])
          ≡ goes_to f job (if b then Quiet else Going) k (chunk_after f job told.raised h.d)) [ true ↦ refl | false ↦ refl ]

      comes : (k : ℕ) → k < job.members → (if k == j then more else o.answers k) ≡ comes_from f job (all_but told.raised.member k)
      comes k k_in =
          ap (λ z. if k == j then z else o.answers k) told.no_more
          ∙ ap (λ z. if k == j then [] else z) (h.answers k k_in ∙ ap (λ s. answers_of f job s h.d k) told.stage_is)
          ∙ ap (λ m. if k == m then [] else (if k == told.raised.member then Told (chunk_after f job told.raised h.d) ∷ [] else [])) told.at_member
          ∙ elim (k == told.raised.member) as (λ b. ◌≡◌ {A = List Answer} (if b then [] else (if b then Told (chunk_after f job told.raised h.d) ∷ [] else []))
          (comes_from f job (if b then Quiet else Going))) [ true ↦ refl | false ↦ refl ]

      same : (k : ℕ) → (if k == told.raised.member then h.d ++ raised_number told.raised ∷ [] else h.d)
          ≡ (if is_going (all_but told.raised.member k) then h.d else h.d ++ raised_number told.raised ∷ [])
      same k = elim (k == told.raised.member) as (λ b. (if b then h.d ++ raised_number told.raised ∷ [] else h.d)
          ≡ (if is_going (if b then Quiet else Going) then h.d else h.d ++ raised_number told.raised ∷ [])) [ true ↦ refl | false ↦ refl ]

  -- A member has taken it.
  pub record HasTaken (o : Sight R) (h : Serves f job o) (j : ℕ) (more : List Answer) : Type 0 where
    pub raised : QueuedPacket
    pub at : ℕ → Turn
    pub left : ℕ
    pub stage_is : h.stage ≡ Spreads raised at left
    pub turn_is : at j ≡ Coming
    pub no_more : more ≡ []

  pub took_is : (o : Sight R) (h : Serves f job o) (j : ℕ) (more : List Answer) → j < job.members → o.answers j ≡ Took ∷ more → HasTaken o h j more
  took_is o h j more j_in is = by h.stage refl (sym (h.answers j j_in) ∙ is)
    where
      by : (s : Stage) → h.stage ≡ s → answers_of f job s h.d j ≡ Took ∷ more → HasTaken o h j more
      by Resting e a = cc
      by (Carries r) e a = cc
      by (Tells r) e a = elim (j == r.member) as (λ b. (if b then Told (chunk_after f job r h.d) ∷ [] else []) ≡ Took ∷ more → HasTaken o h j more) [
        | true ↦ λ same. cc
        | false ↦ λ same. cc
      ] a
      by (Spreads r at left) e a = turn (at j) refl a
        where
          turn : (t : Turn) → at j ≡ t → comes_from f job t ≡ Took ∷ more → HasTaken o h j more
          turn Going t b = cc
          turn Coming t b = record { raised = r; at = at; left = left; stage_is = e; turn_is = t; no_more = cc }
          turn Quiet t b = cc

  -- what is left of the answers
  abbrev pub Left : Sight R → (ℕ → List Answer) → ℕ → List Answer → Type 0
  Left o answers j more = (k : ℕ) → k < job.members → answers k ≡ (if k == j then more else o.answers k)

  -- what stands on the links when this member's answer is taken
  module _ (o : Sight R) (h : Serves f job o) (j : ℕ) (j_in : j < job.members) (more : List Answer) (took : HasTaken o h j more) (answers : ℕ → List Answer)
      (answers_is : Left o answers j more) where
    abbrev r : QueuedPacket
    r = took.raised

    abbrev quiet : ℕ → Turn
    quiet = put took.at j Quiet

    fit : FitsSpread f job r took.at took.left
    fit = subst (FitsStage f job) took.stage_is h.fits

    counted : pending quiet job.members + 1 ≡ took.left
    counted =
        let was : one_if (is_pending (took.at j)) ≡ 1 = ap (λ t. one_if (is_pending t)) took.turn_is in
        omega (arith, pending_put took.at j job.members Quiet j_in, was, fit.counts)

    turned : {X : Type 0} (on : Turn → X) (k : ℕ) → on Coming ≡ on Quiet → on (took.at k) ≡ on (quiet k)
    turned on k same = elim (k == j) as (λ b. (k == j) ≡ b → on (took.at k) ≡ on (if b then Quiet else took.at k)) [
      | true ↦ λ is_j. (let here : k ≡ j = (Decides-eqb k j).0 is_j in ap (λ i. on (took.at i)) here ∙ ap on took.turn_is ∙ same)
      | false ↦ λ _. refl
    ] refl

    to_is : (k : ℕ) → k < job.members → o.to k ≡ goes_to f job (quiet k) k (chunk_after f job r h.d)
    to_is k k_in = h.to k k_in ∙ ap (λ s. to_of f job s h.d k) took.stage_is ∙ turned (λ t. goes_to f job t k (chunk_after f job r h.d)) k refl

    answered : (k : ℕ) → k < job.members → answers k ≡ comes_from f job (quiet k)
    answered k k_in =
        answers_is k k_in ∙ ap (λ z. if k == j then z else o.answers k) took.no_more
        ∙ ap (λ z. if k == j then [] else z) (h.answers k k_in ∙ ap (λ s. answers_of f job s h.d k) took.stage_is)
        ∙ elim (k == j) as (λ b. (if b then [] else comes_from f job (took.at k)) ≡ comes_from f job (if b then Quiet else took.at k))
        [ true ↦ refl | false ↦ refl ]

    own_is : (k : ℕ) → k < job.members → (u : units.Unit) → o.own k u ≡ (if takes job.filter u then seen f job u
        (if is_going (quiet k) then h.d else h.d ++ raised_number r ∷ []) else (if k == 0 then seen f job u o.processed else None))
    own_is k k_in u = h.own k k_in u ∙ ap (λ s. expected f job s h.d o.processed k u) took.stage_is
        ∙ turned (λ t. if takes job.filter u then seen f job u (if is_going t then h.d else h.d ++ raised_number r ∷ []) else
        (if k == 0 then seen f job u o.processed else None)) k refl

    -- others have yet to answer
    pub takes_one : 1 < took.left → Serves f job (record o { serving = Syncing (took.left - 1); answers = answers })
    takes_one others = record {
      d = h.d;
      stage = Spreads r quiet (took.left - 1);
      fits = record { raised = fit.raised; counts = (let c = counted in omega (arith, c)); some = omega (arith, others) };
      serving = refl;
      to = to_is;
      answers = answered;
      order = h.order ∙ ap (λ s. (all_of f job s h.d ++ waits_of f job s) ++ map raised_number o.queue) took.stage_is;
      done = h.done ∙ ap (λ s. all_of f job s h.d) took.stage_is;
      queue = h.queue;
      own = own_is;
      other = h.other;
    }

    -- it was the last
    pub takes_last : took.left ≤ 1 → Rests f job (record o { serving = Idle; answers = answers })
    takes_last last =
        let some = fit.some in
        let none : pending quiet job.members ≡ 0 = (let c = counted in omega (arith, c, last)) in
        record {
          d = h.d ++ raised_number r ∷ [];
          to = λ k k_in. to_is k k_in ∙ ap (λ t. goes_to f job t k (chunk_after f job r h.d)) (none_pending quiet job.members none k k_in);
          answers = λ k k_in. answered k k_in ∙ ap (comes_from f job) (none_pending quiet job.members none k k_in);
          order = h.order ∙ ap (λ s. (all_of f job s h.d ++ waits_of f job s) ++ map raised_number o.queue) took.stage_is
              ∙ ap (λ z. z ++ map raised_number o.queue) (append-nil (h.d ++ raised_number r ∷ []));
          done = h.done ∙ ap (λ s. all_of f job s h.d) took.stage_is;
          queue = h.queue;
          own = λ k k_in u. own_is k k_in u ∙ ap (λ t. if takes job.filter u then seen f job u (if is_going t then h.d else h.d ++ raised_number r ∷ []) else
              (if k == 0 then seen f job u o.processed else None)) (none_pending quiet job.members none k k_in);
          other = h.other;
        }

  -- A member takes what comes from the controller: the packet that is out, or its record.
  pub data Comes (o : Sight R) (h : Serves f job o) (j : ℕ) (m : Msg) (rest : List Msg) : Type 0 where
    Packet_comes : (r : QueuedPacket) → h.stage ≡ Carries r → j ≡ r.member → m ≡ Carry (mark.Shared the_share (is_home r.member)) r.cell → rest ≡ []
        → Comes o h j m rest
    Record_comes : (r : QueuedPacket) (at : ℕ → Turn) (left : ℕ) → h.stage ≡ Spreads r at left → at j ≡ Going
        → m ≡ Sync (is_home j) the_share (chunk_after f job r h.d ∷ []) → rest ≡ [] → Comes o h j m rest

  pub comes_is : (o : Sight R) (h : Serves f job o) (j : ℕ) (m : Msg) (rest : List Msg) → j < job.members → o.to j ≡ m ∷ rest → Comes o h j m rest
  comes_is o h j m rest j_in is = by h.stage refl (sym (h.to j j_in) ∙ is)
    where
      by : (s : Stage) → h.stage ≡ s → to_of f job s h.d j ≡ m ∷ rest → Comes o h j m rest
      by Resting e a = cc
      by (Carries r) e a =
          elim (j == r.member) as (λ b. (j == r.member) ≡ b → (if b then Carry (mark.Shared the_share (is_home r.member)) r.cell ∷ [] else []) ≡ m ∷ rest
          → Comes o h j m rest) [
            | true ↦ λ on same. (let first : m ≡ Carry (mark.Shared the_share (is_home r.member)) r.cell = cc in let none : rest ≡ [] = cc in
                Packet_comes r e ((Decides-eqb j r.member).0 on) first none)
            | false ↦ λ off same. cc
          ] refl a
      by (Tells r) e a = cc
      by (Spreads r at left) e a = turn (at j) refl a
        where
          turn : (t : Turn) → at j ≡ t → goes_to f job t j (chunk_after f job r h.d) ≡ m ∷ rest → Comes o h j m rest
          turn Going t b = let first : m ≡ Sync (is_home j) the_share (chunk_after f job r h.d ∷ []) = cc in let none : rest ≡ [] = cc in
              Record_comes r at left e t first none
          turn Coming t b = cc
          turn Quiet t b = cc
