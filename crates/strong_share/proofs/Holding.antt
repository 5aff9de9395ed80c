-- What every scene of a run keeps: labels of messages, the order at members, how packets are served, answers to packets, and where the end is.
use Rattle.strong_share.proofs.Words.{◌≡◌, ℕ, ◌+◌, ◌<◌, true, None, List, ◌++◌, map, ap, ◌∙◌, if◌then◌else◌, not, filter, flat_map, Semantics, part, Msg}
use Rattle.strong_share.proofs.Words.{InPacket, InEnd, End, Finish, Carry, Stop, Event, Shared, Synced, Final, Credit, Each, weigh, SwitchState, is_home}
use Rattle.strong_share.proofs.Words.{StrongJob, entries, queue_order, events_of, arrivals_in, done_numbers, packet_numbered, is_taken, member_of, is_taken_at}
use Rattle.strong_share.proofs.Words.{outputs, processed_of, outputs_of}
use Rattle.std.specs.FinMap as finite
use Rattle.nf_function.specs.declared.unit.Unit as units
use Rattle.event_filter.specs.declared.mark.Mark.TheVariants as mark
use Rattle.packet_window.specs.Window.{IsBalanced}
use Rattle.strong_share.proofs.MemberRows.{IsMember}
use Rattle.strong_share.proofs.Scenes.{Scene}
use Rattle.strong_share.proofs.ServedPackets.{number, Sight, IsGenuine, IsRaised, Serves, IsTight}
use Rattle.strong_share.proofs.Reading.{packet_in, plain_in, event_in, answer_in, end_in, stop_in}

module _ (job : StrongJob) where
  -- labels: what is known of a message by its link
  abbrev pub in_label : Msg → Type 0
  in_label (InPacket p) = packet_numbered job p.number ≡ p
  in_label InEnd = Unit {0}
  in_label m = ⊥

  abbrev pub up_label : Msg → Type 0
  up_label End = Unit {0}
  up_label m = ⊥

  abbrev pub down_label : Msg → Type 0
  down_label Finish = Unit {0}
  down_label m = ⊥

  abbrev pub out_label : ℕ → Msg → Type 0
  out_label k (Carry mark.Plain c) = IsGenuine job c × (member_of job (number c) ≡ k)
  out_label k Stop = Unit {0}
  out_label k m = ⊥

  abbrev pub back_label : ℕ → Msg → Type 0
  back_label k (Event op c) = IsRaised job (record { cell = c; member = k })
  back_label k (Shared op chunk) = Unit {0}
  back_label k (Synced op) = Unit {0}
  back_label k Final = Unit {0}
  back_label k m = ⊥

  abbrev pub home_label : Msg → Type 0
  home_label (Credit c) = c.pool ≡ 0
  home_label m = ⊥

  -- what stays as it is of the switch
  pub record IsSwitch (s : SwitchState) : Type 0 where
    pub filter : s.filter ≡ job.filter
    pub site : s.site ≡ job.site
    pub members : s.members ≡ job.members
    pub cells : s.window.pool.cells ≡ job.window
    pub name : s.window.pool.name ≡ 0
    pub balanced : IsBalanced s.window

  -- a packet that was queued was raised by the member to which the switch gave it
  abbrev pub IsRight : ℕ × ℕ → Type 0
  IsRight r = (is_taken job r.0 ≡ true) × (member_of job r.0 ≡ r.1)

  module _ {F R : Type 0} where
    pub record Labelled (x : Scene F R) : Type 0 where
      pub input : Each in_label x.input
      pub up : Each up_label x.up
      pub down : Each down_label x.down
      pub out : (k : ℕ) → k < job.members → Each (out_label k) (x.out k)
      pub back : (k : ℕ) → k < job.members → Each (back_label k) (x.back k)
      pub home : (k : ℕ) → k < job.members → Each home_label (x.home k)
      pub switch : IsSwitch x.switch
      pub members : x.controller.members ≡ job.members
      pub member : (k : ℕ) → k < job.members → IsMember job k (x.member k)

    pub record Ordered (x : Scene F R) : Type 0 where
      pub in_turn : arrivals_in x.log ++ flat_map packet_in x.input ≡ map (λ p. p.number) job.packets
      pub each_member : (k : ℕ) → k < job.members → events_of k x.log ++ (flat_map event_in (x.back k)
          ++ filter (is_taken_at job k) (flat_map plain_in (x.out k))) ≡ filter (is_taken_at job k) (arrivals_in x.log)
      pub others : filter (λ p. not (is_taken job p)) (done_numbers x.log) ++ filter (λ p. not (is_taken job p)) (flat_map plain_in (x.out 0))
          ≡ filter (λ p. not (is_taken job p)) (arrivals_in x.log)
      pub right : Each IsRight (entries x.log)

    abbrev pub ends_left : Scene F R → ℕ
    ends_left x = weigh end_in x.input + weigh end_in x.up + weigh end_in x.down

    pub record Ends (x : Scene F R) : Type 0 where
      pub closed : ends_left x + (if x.switch.window.closed then 1 else 0) ≡ 1
      pub stopped : (k : ℕ) → k < job.members → ends_left x + weigh stop_in (x.out k) + (if (x.member k).ended then 1 else 0) ≡ 1

    -- what is looked at of how packets are served
    abbrev pub sight : Scene F R → Sight R
    sight x = record {
      serving = x.controller.serving;
      queue = x.controller.queue;
      to = x.to;
      answers = λ k. flat_map answer_in (x.back k);
      queued = queue_order x.log;
      processed = done_numbers x.log;
      own = λ k u. finite.get (part (x.member k).table (is_home k)) u;
      other = λ k u. finite.get (part (x.member k).table (not (is_home k))) u;
    }

module _ {F R : Type 0} (f : Semantics R) (job : StrongJob) where
  pub record Holds (x : Scene F R) : Type 0 where
    pub labelled : Labelled job x
    pub ordered : Ordered job x
    pub serves : Serves f job (sight job x)
    pub tight : IsTight f job (sight job x)
    pub answered : (u : units.Unit) → outputs_of f job u x.log ≡ outputs f job None (processed_of f job u x.log)
    pub ends : Ends job x

  -- The end goes on: what waits in the input and between the switch and the controller changes, and weighs as much as before.
  pub end_moves : (x : Scene F R) (input up down : List Msg) → Holds x → Each (in_label job) input → Each (up_label job) up → Each (down_label job) down
      → flat_map packet_in input ≡ flat_map packet_in x.input → weigh end_in input + weigh end_in up + weigh end_in down ≡ ends_left job x
      → Holds (record x { input = input; up = up; down = down })
  end_moves x input up down h fit_in fit_up fit_down packets same = record {
    labelled = record {
      input = fit_in;
      up = fit_up;
      down = fit_down;
      out = h.labelled.out;
      back = h.labelled.back;
      home = h.labelled.home;
      switch = h.labelled.switch;
      members = h.labelled.members;
      member = h.labelled.member;
    };
    ordered = record {
      in_turn = ap (λ ps. arrivals_in x.log ++ ps) packets ∙ h.ordered.in_turn;
      each_member = h.ordered.each_member;
      others = h.ordered.others;
      right = h.ordered.right;
    };
    serves = h.serves;
    tight = h.tight;
    answered = h.answered;
    ends = record {
      closed = ap (λ e. e + (if x.switch.window.closed then 1 else 0)) same ∙ h.ends.closed;
      stopped = λ k k_in. ap (λ e. e + weigh stop_in (x.out k) + (if (x.member k).ended then 1 else 0)) same ∙ h.ends.stopped k k_in;
    };
  }
