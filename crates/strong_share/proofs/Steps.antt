-- Each message that may be taken is one of its link's, and the step keeps what every scene of a run keeps.
use Rattle.strong_share.proofs.Words.{◌≡◌, ℕ, ◌+◌, ◌<◌, Bool, true, false, List, [], ◌∷◌, refl, sym, ap, subst, ◌∙◌, arith, Packet, Chunk, Laws, Semantics}
use Rattle.strong_share.proofs.Words.{FullCell, Msg, InPacket, InEnd, End, Finish, Carry, Stop, Event, Shared, Sync, Synced, Final, Credit, instance_step}
use Rattle.strong_share.proofs.Words.{sent_for, the_share, is_home, switch_step, takes_in, controller_step, row_of_member, with_event, StrongJob, IsStrongJob}
use Rattle.strong_share.proofs.Words.{is_taken}
use Rattle.event_filter.specs.declared.mark.Mark.TheVariants as mark
use Rattle.strong_share.proofs.Lists.{put, two_one}
use Rattle.strong_share.proofs.Scenes.{Scene, switch_did, controller_did, member_did, Goes, Goes.From_input, Goes.From_down, Goes.From_home, Goes.From_up}
use Rattle.strong_share.proofs.Scenes.{Goes.From_back, Goes.From_out, Goes.From_to, next_scene, Confined}
use Rattle.strong_share.proofs.ServedPackets.{number, chunk_after}
use Rattle.strong_share.proofs.Spreading.{Comes, Comes.Packet_comes, Comes.Record_comes, comes_is}
use Rattle.strong_share.proofs.SyncSends.{syncs_other}
use Rattle.strong_share.proofs.Reading.{head_of}
use Rattle.strong_share.proofs.Holding.{in_label, up_label, down_label, out_label, back_label, home_label, Holds, sight}
use Rattle.strong_share.proofs.SwitchRows.{arrives_is, came_is, came_holds, ended_is, ended_holds, closed_is, closed_holds, homed_is, homed_holds}
use Rattle.strong_share.proofs.QueueRows.{finished_is, finished_holds, from_is, event_is, queued_holds, serve_holds, serves_members, queued_in}
use Rattle.strong_share.proofs.AnswerRows.{told_is_scene, told_does, told_holds, took_holds, took_confined, final_is, final_holds, final_confined}
use Rattle.strong_share.proofs.MemberSteps.{raised_is, raised_confined, raised_holds, stopped_is, stopped_confined, stopped_holds}
use Rattle.strong_share.proofs.OtherPackets.{other_is_scene, other_confined, other_holds}
use Rattle.strong_share.proofs.ServedRows.{served_is, served_confined, served_holds, synced_is, synced_confined, synced_holds}

-- What a message is by its link.
pub data OfInput (m : Msg) : Type 0 where
  A_packet : (p : Packet) → m ≡ InPacket p → OfInput m
  An_end : m ≡ InEnd → OfInput m

pub data OfOut (m : Msg) : Type 0 where
  A_plain : (c : FullCell) → m ≡ Carry mark.Plain c → OfOut m
  A_stop : m ≡ Stop → OfOut m

pub data OfBack (m : Msg) : Type 0 where
  An_event : (op : ℕ) (c : FullCell) → m ≡ Event op c → OfBack m
  A_chunk : (op : ℕ) (chunk : Chunk) → m ≡ Shared op chunk → OfBack m
  An_answer : (op : ℕ) → m ≡ Synced op → OfBack m
  A_final : m ≡ Final → OfBack m

module _ (job : StrongJob) where
  pub of_input : (m : Msg) → in_label job m → OfInput m
  of_input (InPacket p) l = A_packet p refl
  of_input InEnd l = An_end refl
  of_input m l = absurd l

  pub of_up : (m : Msg) → up_label job m → m ≡ End
  of_up End l = refl
  of_up m l = absurd l

  pub of_down : (m : Msg) → down_label job m → m ≡ Finish
  of_down Finish l = refl
  of_down m l = absurd l

  pub of_out : (k : ℕ) (m : Msg) → out_label job k m → OfOut m
  of_out k (Carry mark.Plain c) l = A_plain c refl
  of_out k Stop l = A_stop refl
  of_out k m l = absurd l

  pub of_back : (k : ℕ) (m : Msg) → back_label job k m → OfBack m
  of_back k (Event op c) l = An_event op c refl
  of_back k (Shared op chunk) l = A_chunk op chunk refl
  of_back k (Synced op) l = An_answer op refl
  of_back k Final l = A_final refl
  of_back k m l = absurd l

  pub of_home : (m : Msg) → home_label job m → (c : FullCell) × (m ≡ Credit c)
  of_home (Credit c) l = (c, refl)
  of_home m l = absurd l

module _ {F R : Type 0} (f : Semantics R) (laws : Laws f) (job : StrongJob) (job_is : IsStrongJob f.kind job) (x : Scene F R) (h : Holds f job x) where
  abbrev Keeps : Goes job.members x → Type 0
  Keeps g = Confined f job.members g × Holds f job (next_scene f job.members x g)

  some : 0 < job.members
  some = let two = job_is.some in omega (arith, two)

  -- the input
  input_kept : (m : Msg) (rest : List Msg) (is : x.input ≡ m ∷ rest) (on : takes_in x.switch m ≡ true) → OfInput m
      → Holds f job (switch_did (record x { input = rest }) (switch_step x.switch m))
  input_kept m rest is on (A_packet p e) =
      let first : x.input ≡ InPacket p ∷ rest = is ∙ ap (λ z. z ∷ rest) e in
      let label = (head_of (in_label job) x.input (InPacket p) rest first h.labelled.input).0 in
      let room : takes_in x.switch (InPacket p) ≡ true = ap (takes_in x.switch) (sym e) ∙ on in
      subst (λ z. Holds f job (switch_did (record x { input = rest }) (switch_step x.switch z))) (sym e)
      (subst (λ did. Holds f job (switch_did (record x { input = rest }) did)) (sym (arrives_is f job x p h.labelled.switch label room))
      (subst (Holds f job) (sym (came_is f job x rest p)) (came_holds f job x p rest h room first)))
  input_kept m rest is on (An_end e) =
      subst (λ z. Holds f job (switch_did (record x { input = rest }) (switch_step x.switch z))) (sym e)
      (subst (Holds f job) (sym (ended_is f job x rest)) (ended_holds f job x rest h (is ∙ ap (λ z. z ∷ rest) e)))

  -- a member's link from the switch
  OutKept : (j : ℕ) → List Msg → Msg → Type 0
  OutKept j rest m = ((k : ℕ) → sent_for (k + 2) (instance_step f (x.member j) m).sends ≡ [])
      × Holds f job (member_did (record x { out = put x.out j rest }) j (instance_step f (x.member j) m))

  plain_kept : (j : ℕ) (j_in : j < job.members) (c : FullCell) (rest : List Msg) (is : x.out j ≡ Carry mark.Plain c ∷ rest) (b : Bool)
      → is_taken job (number c) ≡ b → OutKept j rest (Carry mark.Plain c)
  unfolding OutKept
  plain_kept j j_in c rest is true taken = (
    raised_confined f job x j j_in h c rest is taken,
    subst (Holds f job) (sym (raised_is f job x j j_in h c rest is taken))
        (raised_holds f job x j j_in h c rest is taken),
  )
  plain_kept j j_in c rest is false taken =
      let label = (head_of (out_label job j) (x.out j) (Carry mark.Plain c) rest is (h.labelled.out j j_in)).0 in
      let first : 0 ≡ j = sym (rw taken refl) ∙ label.1 in
      let is_first : x.out 0 ≡ Carry mark.Plain c ∷ rest = ap x.out first ∙ is in
      subst (λ i. OutKept i rest (Carry mark.Plain c)) first (
        other_confined f laws job job_is x some h c rest is_first taken,
        subst (Holds f job) (sym (other_is_scene f laws job job_is x some h c rest is_first
            taken)) (other_holds f laws job job_is x some h c rest is_first taken),
      )

  out_kept : (j : ℕ) (j_in : j < job.members) (m : Msg) (rest : List Msg) (is : x.out j ≡ m ∷ rest) → OfOut m → OutKept j rest m
  unfolding OutKept
  out_kept j j_in m rest is (A_plain c e) = subst (OutKept j rest) (sym e) (plain_kept j j_in c rest (is ∙ ap (λ z. z ∷ rest) e) (is_taken job (number c)) refl)
  out_kept j j_in m rest is (A_stop e) =
      let first : x.out j ≡ Stop ∷ rest = is ∙ ap (λ z. z ∷ rest) e in
      subst (OutKept j rest) (sym e) (
        stopped_confined f job x j j_in h rest first,
        subst (Holds f job) (sym (stopped_is f job x j j_in h rest first))
            (stopped_holds f job x j j_in h rest first),
      )

  -- a member's link from the controller
  ToKept : (j : ℕ) → List Msg → Msg → Type 0
  ToKept j rest m = ((k : ℕ) → sent_for (k + 2) (instance_step f (x.member j) m).sends ≡ [])
      × Holds f job (member_did (record x { to = put x.to j rest }) j (instance_step f (x.member j) m))

  to_kept : (j : ℕ) (j_in : j < job.members) (m : Msg) (rest : List Msg) (is : x.to j ≡ m ∷ rest) → Comes f laws job job_is (sight job x) h.serves j m rest
      → ToKept j rest m
  unfolding ToKept
  to_kept j j_in m rest is (Packet_comes r stage at_member e last) =
      let there : x.to r.member ≡ Carry (mark.Shared the_share (is_home r.member)) r.cell ∷ rest = ap x.to (sym at_member) ∙ is ∙ ap (λ z. z ∷ rest) e in
      subst (ToKept j rest) (sym e)
      (subst (λ i. ToKept i rest (Carry (mark.Shared the_share (is_home r.member)) r.cell)) (sym at_member) (
        served_confined f laws job job_is x h r stage rest there last,
        subst (Holds f job) (sym (served_is f laws job job_is x h r stage rest there last))
            (served_holds f laws job job_is x h r stage rest there last),
      ))
  to_kept j j_in m rest is (Record_comes r at left stage going e last) =
      let there : x.to j ≡ Sync (is_home j) the_share (chunk_after f job r h.serves.d ∷ []) ∷ rest = is ∙ ap (λ z. z ∷ rest) e in
      subst (ToKept j rest) (sym e) (
        synced_confined f laws job job_is x h j j_in r at left stage going rest there last,
        subst (Holds f job)
            (sym (synced_is f laws job job_is x h j j_in r at left stage going rest there last))
            (synced_holds f laws job job_is x h j j_in r at left stage going
            rest there last),
      )

  -- the controller's link from a member
  BackKept : (j : ℕ) → List Msg → Msg → Type 0
  BackKept j rest m = (sent_for 1 (row_of_member x.controller j m).sends ≡ [])
      × Holds f job (controller_did (record x { back = put x.back j rest }) (row_of_member x.controller j m))

  back_kept : (j : ℕ) (j_in : j < job.members) (m : Msg) (rest : List Msg) (is : x.back j ≡ m ∷ rest) → OfBack m → BackKept j rest m
  unfolding BackKept
  back_kept j j_in m rest is (An_event op c e) =
      let first : x.back j ≡ Event op c ∷ rest = is ∙ ap (λ z. z ∷ rest) e in
      subst (BackKept j rest) (sym e) (
        serves_members (with_event x.controller j c) 1 two_one,
        subst (Holds f job) (sym (event_is f job x j rest op c))
            (serve_holds f job (queued_in f job x j rest c) (queued_holds f job x j rest op c j_in h first)),
      )
  back_kept j j_in m rest is (A_chunk op chunk e) =
      let first : x.back j ≡ Shared op chunk ∷ rest = is ∙ ap (λ z. z ∷ rest) e in
      subst (BackKept j rest) (sym e) (
        ap (λ did. sent_for 1 did.sends) (told_does f job laws job_is x j rest op chunk j_in h first)
            ∙ syncs_other j chunk x.controller.members 1 two_one,
        subst (Holds f job) (sym (told_is_scene f job laws job_is x j rest op chunk j_in h first))
            (told_holds f job laws job_is x j rest op chunk j_in h first),
      )
  back_kept j j_in m rest is (An_answer op e) =
      let first : x.back j ≡ Synced op ∷ rest = is ∙ ap (λ z. z ∷ rest) e in
      subst (BackKept j rest) (sym e) (took_confined f job laws job_is x j rest op j_in h first, took_holds f job laws job_is x j rest op j_in h first)
  back_kept j j_in m rest is (A_final e) =
      let first : x.back j ≡ Final ∷ rest = is ∙ ap (λ z. z ∷ rest) e in
      subst (BackKept j rest) (sym e) (
        final_confined x.controller,
        subst (Holds f job) (sym (final_is f job x j rest))
            (final_holds f job x j rest j_in h first),
      )

  -- each of them
  pub kept : (g : Goes job.members x) → Keeps g
  unfolding OutKept ToKept BackKept
  kept (From_input m rest is on) = (tt, input_kept m rest is on (of_input job m (head_of (in_label job) x.input m rest is h.labelled.input).0))
  kept (From_down m rest is) =
      let e = of_down job m (head_of (down_label job) x.down m rest is h.labelled.down).0 in (
        tt,
        subst (λ z. Holds f job (switch_did (record x { down = rest }) (switch_step x.switch z))) (sym e)
            (subst (Holds f job) (sym (closed_is f job x rest)) (closed_holds f job some x rest h (is ∙ ap (λ z. z ∷ rest) e))),
      )
  kept (From_home j m rest j_in is) =
      let e = of_home job m (head_of (home_label job) (x.home j) m rest is (h.labelled.home j j_in)).0 in (
        tt,
        subst (λ z. Holds f job (switch_did (record x { home = put x.home j rest }) (switch_step x.switch z))) (sym e.1)
            (subst (Holds f job) (sym (homed_is f job x j rest e.0)) (homed_holds f job x j rest e.0 j_in h (is ∙ ap (λ z. z ∷ rest) e.1))),
      )
  kept (From_up m rest is) =
      let e = of_up job m (head_of (up_label job) x.up m rest is h.labelled.up).0 in (
        ap (λ z. sent_for 1 (controller_step x.controller 0 z).sends) e,
        subst (λ z.
            Holds f job (controller_did (record x { up = rest }) (controller_step x.controller 0 z))) (sym e)
            (subst (Holds f job) (sym (finished_is f job x rest)) (finished_holds f job x rest h (is ∙ ap (λ z. z ∷ rest) e))),
      )
  kept (From_back j m rest j_in is) =
      let from = from_is f job x j m h.labelled.members j_in in
      let k = back_kept j j_in m rest is (of_back job j m (head_of (back_label job j) (x.back j) m rest is (h.labelled.back j j_in)).0) in
      (ap (λ did. sent_for 1 did.sends) from ∙ k.0, subst (λ did. Holds f job (controller_did (record x { back = put x.back j rest }) did)) (sym from) k.1)
  kept (From_out j m rest j_in is) = out_kept j j_in m rest is (of_out job j m (head_of (out_label job j) (x.out j) m rest is (h.labelled.out j j_in)).0)
  kept (From_to j m rest j_in is) = to_kept j j_in m rest is (comes_is f laws job job_is (sight job x) h.serves j m rest j_in is)
