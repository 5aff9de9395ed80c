-- How packets are served: where the one that is out is, what each member's records have seen, and that each step goes on so. Of a scene this
-- looks at what follows (`Sight`), member by member.
use Rattle.strong_share.proofs.Words.{◌≡◌, ℕ, zero, suc, ◌+◌, ◌<◌, ◌≤◌, Bool, true, false, Option, None, List, [], ◌∷◌, ◌++◌, map, refl, sym, ap, subst, ◌∙◌}
use Rattle.strong_share.proofs.Words.{append_assoc, append-nil, if◌then◌else◌, ◌==◌, filter, Chunk, takes, Semantics, record_chunk, FullCell, Msg, Carry, Sync}
use Rattle.strong_share.proofs.Words.{Each, each-append, Serving, Idle, Out, Syncing, QueuedPacket, the_share, is_home, StrongJob, packet_numbered, is_taken}
use Rattle.strong_share.proofs.Words.{member_of}
use Rattle.std.proofs.lemmas.List.{map-append}
use Rattle.nf_function.specs.declared.unit.Unit as units
use Rattle.event_filter.specs.declared.mark.Mark.TheVariants as mark
use Rattle.strong_share.proofs.Folds.{unit, after, seen}

-- the number of a cell's packet, and of one that waits
abbrev pub number : FullCell → ℕ
number c = c.packet.number

abbrev pub raised_number : QueuedPacket → ℕ
raised_number r = number r.cell

-- what a member answers
pub data Answer : Type 0 where
  Told : Chunk → Answer
  Took : Answer

-- where a member is with a Sync: it is on its way, the answer is, or neither
pub data Turn : Type 0 where
  Going : Turn
  Coming : Turn
  Quiet : Turn

abbrev pub is_going : Turn → Bool
is_going Going = true
is_going Coming = false
is_going Quiet = false

abbrev pub is_pending : Turn → Bool
is_pending Going = true
is_pending Coming = true
is_pending Quiet = false

abbrev pub one_if : Bool → ℕ
one_if b = if b then 1 else 0

-- of how many of the first members this is so
abbrev pub count_below : (ℕ → Bool) → ℕ → ℕ
count_below test zero = 0
count_below test (suc k) = count_below test k + one_if (test k)

-- how many of them have yet to answer
abbrev pub pending : (ℕ → Turn) → ℕ → ℕ
pending at n = count_below (λ k. is_pending (at k)) n

-- where the packet that is out is: there is none, it goes to its member, its chunk comes back, or the chunk goes round
pub data Stage : Type 0 where
  Resting : Stage
  Carries : QueuedPacket → Stage
  Tells : QueuedPacket → Stage
  Spreads : QueuedPacket → (ℕ → Turn) → ℕ → Stage

-- what is looked at
pub record Sight (R : Type 0) : Type 0 where
  pub serving : Serving
  pub queue : List QueuedPacket
  pub to : ℕ → List Msg
  pub answers : ℕ → List Answer
  pub queued : List ℕ  -- all that were queued
  pub processed : List ℕ
  pub own : ℕ → units.Unit → Option R
  pub other : ℕ → units.Unit → Option R

-- the controller serves the front of its queue, where no packet is out
abbrev pub carried_to : QueuedPacket → ℕ → List Msg
carried_to r k = if k == r.member then Carry (mark.Shared the_share (is_home r.member)) r.cell ∷ [] else []

abbrev pub served_from : {R : Type 0} → Sight R → Serving → List QueuedPacket → Sight R
served_from o Idle (r ∷ rest) = record o { serving = Out r.member; queue = rest; to = λ k. o.to k ++ carried_to r k }
served_from o serving queue = o

abbrev pub served : {R : Type 0} → Sight R → Sight R
served o = served_from o o.serving o.queue

module _ (job : StrongJob) where
  -- a cell of the switch's pool with a packet of the trace
  pub record IsGenuine (c : FullCell) : Type 0 where
    pub same : packet_numbered job (number c) ≡ c.packet
    pub pool : c.pool ≡ 0

  -- a packet that its member raised
  pub record IsRaised (r : QueuedPacket) : Type 0 where
    pub genuine : IsGenuine r.cell
    pub taken : is_taken job (raised_number r) ≡ true
    pub member_is : member_of job (raised_number r) ≡ r.member
    pub there : r.member < job.members

module _ {R : Type 0} (f : Semantics R) (job : StrongJob) where
  -- the chunk of a packet's unit after the packet, behind these
  abbrev pub record_after : QueuedPacket → List ℕ → R
  record_after r d = after f job (seen f job (unit f job (raised_number r)) d) (raised_number r)

  abbrev pub chunk_after : QueuedPacket → List ℕ → Chunk
  chunk_after r d = record_chunk f (unit f job (raised_number r)) (record_after r d)

  -- what stands between the controller and a member, where `d` were processed before the packet that is out
  abbrev pub goes_to : Turn → ℕ → Chunk → List Msg
  goes_to Going k chunk = Sync (is_home k) the_share (chunk ∷ []) ∷ []
  goes_to Coming k chunk = []
  goes_to Quiet k chunk = []

  abbrev pub comes_from : Turn → List Answer
  comes_from Going = []
  comes_from Coming = Took ∷ []
  comes_from Quiet = []

  abbrev pub to_of : Stage → List ℕ → ℕ → List Msg
  to_of Resting d k = []
  to_of (Carries r) d k = carried_to r k
  to_of (Tells r) d k = []
  to_of (Spreads r at left) d k = goes_to (at k) k (chunk_after r d)

  abbrev pub answers_of : Stage → List ℕ → ℕ → List Answer
  answers_of Resting d k = []
  answers_of (Carries r) d k = []
  answers_of (Tells r) d k = if k == r.member then Told (chunk_after r d) ∷ [] else []
  answers_of (Spreads r at left) d k = comes_from (at k)

  abbrev pub serving_of : Stage → Serving
  serving_of Resting = Idle
  serving_of (Carries r) = Out r.member
  serving_of (Tells r) = Out r.member
  serving_of (Spreads r at left) = Syncing left

  -- all packets of the filter that were processed, and the one that is on its way to its member
  abbrev pub all_of : Stage → List ℕ → List ℕ
  all_of Resting d = d
  all_of (Carries r) d = d
  all_of (Tells r) d = d ++ raised_number r ∷ []
  all_of (Spreads r at left) d = d ++ raised_number r ∷ []

  abbrev pub waits_of : Stage → List ℕ
  waits_of Resting = []
  waits_of (Carries r) = raised_number r ∷ []
  waits_of (Tells r) = []
  waits_of (Spreads r at left) = []

  -- those that a member's records have seen
  abbrev pub seen_by : Stage → List ℕ → ℕ → List ℕ
  seen_by Resting d k = d
  seen_by (Carries r) d k = d
  seen_by (Tells r) d k = if k == r.member then d ++ raised_number r ∷ [] else d
  seen_by (Spreads r at left) d k = if is_going (at k) then d else d ++ raised_number r ∷ []

  pub record FitsSpread (r : QueuedPacket) (at : ℕ → Turn) (left : ℕ) : Type 0 where
    pub raised : IsRaised job r
    pub counts : pending at job.members ≡ left
    pub some : 1 ≤ left

  abbrev pub FitsStage : Stage → Type 0
  FitsStage Resting = Unit {0}
  FitsStage (Carries r) = IsRaised job r
  FitsStage (Tells r) = IsRaised job r
  FitsStage (Spreads r at left) = FitsSpread r at left

  -- the record of a unit at a member
  abbrev pub expected : Stage → List ℕ → List ℕ → ℕ → units.Unit → Option R
  expected stage d processed k u = if takes job.filter u then seen f job u (seen_by stage d k) else (if k == 0 then seen f job u processed else None)

  pub record Serves (o : Sight R) : Type 0 where
    pub d : List ℕ
    pub stage : Stage
    pub fits : FitsStage stage
    pub serving : o.serving ≡ serving_of stage
    pub to : (k : ℕ) → k < job.members → o.to k ≡ to_of stage d k
    pub answers : (k : ℕ) → k < job.members → o.answers k ≡ answers_of stage d k
    pub order : o.queued ≡ (all_of stage d ++ waits_of stage) ++ map raised_number o.queue
    pub done : filter (is_taken job) o.processed ≡ all_of stage d
    pub queue : Each (IsRaised job) o.queue
    pub own : (k : ℕ) → k < job.members → (u : units.Unit) → o.own k u ≡ expected stage d o.processed k u
    pub other : (k : ℕ) → k < job.members → (u : units.Unit) → o.other k u ≡ None

  -- where no packet is out, none waits
  abbrev pub IsTight : Sight R → Type 0
  IsTight o = o.serving ≡ Idle → o.queue ≡ []

  -- what agrees with it is served so, too
  pub record Agrees (o y : Sight R) : Type 0 where
    pub serving : y.serving ≡ o.serving
    pub queue : y.queue ≡ o.queue
    pub to : (k : ℕ) → k < job.members → y.to k ≡ o.to k
    pub answers : (k : ℕ) → k < job.members → y.answers k ≡ o.answers k
    pub queued : y.queued ≡ o.queued
    pub processed : y.processed ≡ o.processed
    pub own : (k : ℕ) → k < job.members → (u : units.Unit) → y.own k u ≡ o.own k u
    pub other : (k : ℕ) → k < job.members → (u : units.Unit) → y.other k u ≡ o.other k u

  pub serves_alike : (o y : Sight R) → Agrees o y → Serves o → Serves y
  serves_alike o y a h = record {
    d = h.d;
    stage = h.stage;
    fits = h.fits;
    serving = a.serving ∙ h.serving;
    to = λ k k_in. a.to k k_in ∙ h.to k k_in;
    answers = λ k k_in. a.answers k k_in ∙ h.answers k k_in;
    order = a.queued ∙ h.order ∙ ap (λ q. (all_of h.stage h.d ++ waits_of h.stage) ++ map raised_number q) (sym a.queue);
    done = ap (filter (is_taken job)) a.processed ∙ h.done;
    queue = subst (Each (IsRaised job)) (sym a.queue) h.queue;
    own = λ k k_in u. a.own k k_in u ∙ h.own k k_in u ∙ ap (λ ps. expected h.stage h.d ps k u) (sym a.processed);
    other = λ k k_in u. a.other k k_in u ∙ h.other k k_in u;
  }

  pub tight_alike : (o y : Sight R) → Agrees o y → IsTight o → IsTight y
  tight_alike o y a t e = a.queue ∙ t (sym a.serving ∙ e)

  -- A packet is queued.
  pub serves_queued : (o : Sight R) (r : QueuedPacket) → IsRaised job r → Serves o
      → Serves (record o { queue = o.queue ++ r ∷ []; queued = o.queued ++ raised_number r ∷ [] })
  serves_queued o r ok h = record {
    d = h.d;
    stage = h.stage;
    fits = h.fits;
    serving = h.serving;
    to = h.to;
    answers = h.answers;
    order = ap (λ z. z ++ raised_number r ∷ []) h.order ∙ append_assoc (all_of h.stage h.d ++ waits_of h.stage) (map raised_number o.queue)
        (raised_number r ∷ []) ∙ ap (λ z. (all_of h.stage h.d ++ waits_of h.stage) ++ z) (sym (map-append raised_number o.queue (r ∷ [])));
    done = h.done;
    queue = each-append (IsRaised job) o.queue (r ∷ []) h.queue (ok, tt);
    own = h.own;
    other = h.other;
  }

  -- The front of the queue is served.
  resting : (o : Sight R) (h : Serves o) → o.serving ≡ Idle → h.stage ≡ Resting
  resting o h e = by h.stage (sym h.serving ∙ e)
    where
      by : (s : Stage) → serving_of s ≡ Idle → s ≡ Resting
      by Resting e = refl
      by (Carries r) e = cc
      by (Tells r) e = cc
      by (Spreads r at left) e = cc

  -- with no packet out
  pub record Rests (o : Sight R) : Type 0 where
    pub d : List ℕ
    pub to : (k : ℕ) → k < job.members → o.to k ≡ []
    pub answers : (k : ℕ) → k < job.members → o.answers k ≡ []
    pub order : o.queued ≡ d ++ map raised_number o.queue
    pub done : filter (is_taken job) o.processed ≡ d
    pub queue : Each (IsRaised job) o.queue
    pub own : (k : ℕ) → k < job.members → (u : units.Unit) → o.own k u ≡ expected Resting d o.processed k u
    pub other : (k : ℕ) → k < job.members → (u : units.Unit) → o.other k u ≡ None

  pub at_rest : (o : Sight R) (h : Serves o) → o.serving ≡ Idle → Rests o
  at_rest o h e =
      let is = resting o h e in
      record {
        d = h.d;
        to = λ k k_in. h.to k k_in ∙ ap (λ s. to_of s h.d k) is;
        answers = λ k k_in. h.answers k k_in ∙ ap (λ s. answers_of s h.d k) is;
        order = h.order ∙ ap (λ s. (all_of s h.d ++ waits_of s) ++ map raised_number o.queue) is ∙ ap (λ z. z ++ map raised_number o.queue) (append-nil h.d);
        done = h.done ∙ ap (λ s. all_of s h.d) is;
        queue = h.queue;
        own = λ k k_in u. h.own k k_in u ∙ ap (λ s. expected s h.d o.processed k u) is;
        other = h.other;
      }

  pub rests_serves : (o : Sight R) → o.serving ≡ Idle → Rests o → Serves o
  rests_serves o e h = record {
    d = h.d;
    stage = Resting;
    fits = tt;
    serving = e;
    to = h.to;
    answers = h.answers;
    order = h.order ∙ ap (λ z. z ++ map raised_number o.queue) (sym (append-nil h.d));
    done = h.done;
    queue = h.queue;
    own = h.own;
    other = h.other;
  }

  -- the first of the queue goes out
  goes_out : (o : Sight R) (r : QueuedPacket) (rest : List QueuedPacket) → Rests o → o.queue ≡ r ∷ rest
      → Serves (record o { serving = Out r.member; queue = rest; to = λ k. o.to k ++ carried_to r k })
  goes_out o r rest h is =
      let fit : Each (IsRaised job) (r ∷ rest) = subst (Each (IsRaised job)) is h.queue in
      record {
        d = h.d;
        stage = Carries r;
        fits = fit.0;
        serving = refl;
        to = λ k k_in. ap (λ z. z ++ carried_to r k) (h.to k k_in);
        answers = h.answers;
        order = h.order ∙ ap (λ q. h.d ++ map raised_number q) is ∙ sym (append_assoc h.d (raised_number r ∷ []) (map raised_number rest));
        done = h.done;
        queue = fit.1;
        own = h.own;
        other = h.other;
      }

  pub serves_front : (o : Sight R) → Serves o → Serves (served o) × IsTight (served o)
  serves_front o h = by o.serving o.queue refl refl
    where
      by : (s : Serving) (q : List QueuedPacket) → o.serving ≡ s → o.queue ≡ q → Serves (served_from o s q) × IsTight (served_from o s q)
      by Idle [] e is = (h, λ _. is)
      by Idle (r ∷ rest) e is = (goes_out o r rest (at_rest o h e) is, λ out. cc)
      by (Out m) q e is = (h, λ idle. let both : Out m ≡ Idle = sym e ∙ idle in absurd cc)
      by (Syncing left) q e is = (h, λ idle. let both : Syncing left ≡ Idle = sym e ∙ idle in absurd cc)
