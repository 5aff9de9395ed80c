-- What each step does to what is counted: it makes the scene lighter, and loses no cell and no member that has stopped.
use Rattle.strong_share.proofs.Words.{◌≡◌, ℕ, ◌+◌, ◌-◌, ◌*◌, ◌<◌, ◌≤◌, Bool, true, false, List, [], ◌∷◌, length, length-append, refl, sym, ap, subst, ◌∙◌}
use Rattle.strong_share.proofs.Words.{arith, if◌then◌else◌, nat_lt, nat_tests, Decides-ltb, Packet, Laws, Semantics, FullCell, Msg, InPacket, End, Finish}
use Rattle.strong_share.proofs.Words.{Carry, Stop, Event, Shared, Sync, Synced, Final, Credit, instance_node, InstanceState, tell_step, instance_processed}
use Rattle.strong_share.proofs.Words.{instance_step, Step, Each, weigh-append, sent_weight, each-append, QueuedPacket, ControllerState, the_share, is_home}
use Rattle.strong_share.proofs.Words.{switch_step, takes_in, controller_step, controller_still, row_of_member, with_event, serve_step, ControllerStep}
use Rattle.strong_share.proofs.Words.{SwitchStep, Idle, Syncing, StrongJob, IsStrongJob, packet_numbered, is_taken, member_of}
use Rattle.event_filter.specs.declared.mark.Mark.TheVariants as mark
use Rattle.packet_window.proofs.WindowLemmas.{home_flying}
use Rattle.strong_share.proofs.Lists.{put}
use Rattle.strong_share.proofs.Scenes.{Scene, Goes, Goes.From_input, Goes.From_down, Goes.From_home, Goes.From_up, Goes.From_back, Goes.From_out, Goes.From_to}
use Rattle.strong_share.proofs.Scenes.{next_scene, message_of, sends_of, node_of}
use Rattle.strong_share.proofs.MemberRows.{raises, processes, plain_leaves}
use Rattle.strong_share.proofs.ServedPackets.{number, one_if, IsRaised, chunk_after}
use Rattle.strong_share.proofs.Spreading.{Comes, Comes.Packet_comes, Comes.Record_comes, comes_is}
use Rattle.strong_share.proofs.Reading.{head_of}
use Rattle.strong_share.proofs.Kept.{given_there}
use Rattle.strong_share.proofs.Holding.{in_label, up_label, down_label, out_label, back_label, home_label, sight, Holds}
use Rattle.strong_share.proofs.SwitchRows.{arrives_is}
use Rattle.strong_share.proofs.QueueRows.{from_is}
use Rattle.strong_share.proofs.AnswerRows.{told_does, took, answer_of}
use Rattle.strong_share.proofs.MemberSteps.{matches_is}
use Rattle.strong_share.proofs.ServedRows.{step_is, sends_is, its, its_record}
use Rattle.strong_share.proofs.Steps.{OfInput, OfInput.A_packet, OfInput.An_end, OfOut, OfOut.A_plain, OfOut.A_stop, OfBack, OfBack.An_event, OfBack.A_chunk}
use Rattle.strong_share.proofs.Steps.{OfBack.An_answer, OfBack.A_final, of_input, of_up, of_down, of_out, of_back, of_home}
use Rattle.strong_share.proofs.Weights.{weight, queue_weight, cell, final_in, cost, none_sent, all_sent, reaches_member, reaches_low, stops_cost, stops_none}
use Rattle.strong_share.proofs.Weights.{syncs_cost, syncs_none, serve_cost, serve_cells, serve_finals, ended_below, ended_put, ended_few}

module _ {F R : Type 0} (f : Semantics R) (laws : Laws f) (job : StrongJob) (job_is : IsStrongJob f.kind job) (x : Scene F R) (h : Holds f job x) where
  -- so many members beside the first
  abbrev pub o : ℕ
  o = job.members - 1

  abbrev n : ℕ
  n = job.members

  members_is : job.members ≡ o + 1
  members_is = let two = job_is.some in omega (arith, two)

  -- what a step of node `k` that takes `m` and sends this does to what is counted
  pub record Flow (m : Msg) (k : ℕ) (sends : List (ℕ × Msg)) (flying : ℕ) (controller : ControllerState) (member : ℕ → InstanceState F R) : Type 0 where
    pub falls : cost o sends + queue_weight o controller.queue + 1 ≤ weight o m + queue_weight o x.controller.queue
    pub flies : (t t' : ℕ) → t' + cell m ≡ t + sent_weight cell (n + 2) k sends → x.switch.window.flying ≤ t + length x.controller.queue
        → flying ≤ t' + length controller.queue
    pub stops : (t t' : ℕ) → t' + final_in m ≡ t + sent_weight final_in (n + 2) k sends → ended_below x.member n ≤ x.controller.finals + t
        → ended_below member n ≤ controller.finals + t'
    pub few : x.controller.finals ≤ n → controller.finals ≤ n

  abbrev SwitchFlow : Msg → Type 0
  SwitchFlow m = Flow m 0 (switch_step x.switch m).sends (switch_step x.switch m).node.window.flying x.controller x.member

  packet_flow : (p : Packet) → packet_numbered job p.number ≡ p → takes_in x.switch (InPacket p) ≡ true → SwitchFlow (InPacket p)
  packet_flow p label room =
      let step = arrives_is f job x p h.labelled.switch label room in
      let there = given_there f laws job job_is p.number in
      let carry : Msg = Carry mark.Plain (record { pool = 0; packet = p }) in
      let one = all_sent cell (n + 2) 0 (instance_node (member_of job p.number)) carry (reaches_member n 0 (member_of job p.number) there) in
      subst (λ (did : SwitchStep). Flow (InPacket p) 0 did.sends did.node.window.flying x.controller x.member) (sym step) (record {
        falls = omega arith;
        flies = λ t t' is low. omega (arith, is, low, one);
        stops = λ t t' is low. omega (arith, is, low, none_sent final_in (n + 2) 0 (instance_node (member_of job p.number)) carry refl);
        few = λ low. low;
      })

  input_flow : (m : Msg) → takes_in x.switch m ≡ true → in_label job m → OfInput m → SwitchFlow m
  input_flow m on label (A_packet p e) = subst SwitchFlow (sym e) (packet_flow p (subst (in_label job) e label) (ap (takes_in x.switch) (sym e) ∙ on))
  input_flow m on label (An_end e) =
      subst SwitchFlow (sym e) (record {
        falls = omega arith;
        flies = λ t t' is low. omega (arith, is, low, none_sent cell (n + 2) 0 1 End refl);
        stops = λ t t' is low. omega (arith, is, low, none_sent final_in (n + 2) 0 1 End refl);
        few = λ low. low;
      })

  finish_flow : SwitchFlow Finish
  finish_flow =
      let is = members_is in
      record {
        falls = omega (arith, stops_cost o x.switch.members, h.labelled.switch.members, is);
        flies = λ t t' is low. omega (arith, is, low, stops_none cell (n + 2) 0 x.switch.members refl);
        stops = λ t t' is low. omega (arith, is, low, stops_none final_in (n + 2) 0 x.switch.members refl);
        few = λ low. low;
      }

  credit_flow : (c : FullCell) → c.pool ≡ 0 → SwitchFlow (Credit c)
  credit_flow c pool =
      let less = home_flying x.switch.window c (pool ∙ sym h.labelled.switch.name) in
      record {
        falls = omega arith;
        flies = λ t t' is low. omega (arith, is, low, less);
        stops = λ t t' is low. omega (arith, is, low);
        few = λ low. low;
      }

  -- the controller
  abbrev ControllerFlow : Msg → ControllerStep → Type 0
  ControllerFlow m did = Flow m 1 did.sends x.switch.window.flying did.node x.member

  end_flow : ControllerFlow End (controller_step x.controller 0 End)
  end_flow =
      record {
        falls = omega arith;
        flies = λ t t' is low. omega (arith, is, low, none_sent cell (n + 2) 1 0 Finish refl);
        stops = λ t t' is low. omega (arith, is, low, none_sent final_in (n + 2) 1 0 Finish refl);
        few = λ low. low;
      }

  raised_there : (q : List QueuedPacket) → Each (IsRaised job) q → Each (λ r. r.member < n) q
  raised_there [] e = tt
  raised_there (r ∷ q) e = (e.0.there, raised_there q e.1)

  event_flow : (j : ℕ) (op : ℕ) (c : FullCell) → IsRaised job (record { cell = c; member = j })
      → ControllerFlow (Event op c) (row_of_member x.controller j (Event op c))
  event_flow j op c ok =
      let one : QueuedPacket = record { cell = c; member = j } in
      let state = with_event x.controller j c in
      let more = weigh-append (λ (r : QueuedPacket). 2 * o + 3) x.controller.queue (one ∷ []) in
      let there = each-append (λ (r : QueuedPacket). r.member < n) x.controller.queue (one ∷ []) (raised_there x.controller.queue h.serves.queue) (ok.there, tt)
      in
      let finals = serve_finals (n + 2) state in
      record {
        falls = omega (arith, serve_cost o state, more);
        flies = λ t t' is low. omega (arith, is, low, serve_cells n state there, length-append x.controller.queue (one ∷ []));
        stops = λ t t' is low. (let none = finals.0 in let same = finals.1 in omega (arith, is, low, none, same));
        few = λ low. (let same = finals.1 in omega (arith, low, same));
      }

  back_flow : (j : ℕ) (j_in : j < job.members) (m : Msg) (rest : List Msg) (is : x.back j ≡ m ∷ rest) → back_label job j m → OfBack m
      → ControllerFlow m (row_of_member x.controller j m)
  back_flow j j_in m rest is label (An_event op c e) =
      subst (λ z. ControllerFlow z (row_of_member x.controller j z)) (sym e) (event_flow j op c (subst (back_label job j) e label))
  back_flow j j_in m rest is label (A_chunk op chunk e) =
      let first : x.back j ≡ Shared op chunk ∷ rest = is ∙ ap (λ z. z ∷ rest) e in
      let does = told_does f job laws job_is x j rest op chunk j_in h first in
      let members = h.labelled.members in
      let there : j < x.controller.members = rw members j_in in
      let cells = syncs_none cell (n + 2) 1 j x.controller.members chunk (λ home. refl) in
      let finals = syncs_none final_in (n + 2) 1 j x.controller.members chunk (λ home. refl) in
      subst (λ z. ControllerFlow z (row_of_member x.controller j z)) (sym e) (subst (ControllerFlow (Shared op chunk)) (sym does) (record {
        falls = omega (arith, syncs_cost o j x.controller.members chunk there, members, members_is);
        flies = λ t t' is low. omega (arith, is, low, cells);
        stops = λ t t' is low. omega (arith, is, low, finals);
        few = λ low. low;
      }))
  back_flow j j_in m rest is label (An_answer op e) =
      let first : x.back j ≡ Synced op ∷ rest = is ∙ ap (λ z. z ∷ rest) e in
      let its = took f job laws job_is x j rest op j_in h first in
      let does = answer_of f job laws job_is x j rest op j_in h first in
      let idle : ControllerState = record x.controller { serving = Idle } in
      let costs = serve_cost o idle in
      let cells = serve_cells n idle (raised_there x.controller.queue h.serves.queue) in
      let finals = serve_finals (n + 2) idle in
      subst (λ z. ControllerFlow z (row_of_member x.controller j z)) (sym e) (subst (ControllerFlow (Synced op)) (sym does)
      (elim (nat_lt 1 its.left) as (λ b. ControllerFlow (Synced op) (if b then controller_still (record x.controller { serving = Syncing (its.left - 1) }) else
      serve_step (record x.controller { serving = Idle }))) [
        | true ↦ record {
          falls = omega arith;
          flies = λ t t' is low. omega (arith, is, low);
          stops = λ t t' is low. omega (arith, is, low);
          few = λ low. low;
        }
        | false ↦ record {
          falls = omega (arith, costs);
          flies = λ t t' is low. omega (arith, is, low, cells);
          stops = λ t t' is low. (let none = finals.0 in let same = finals.1 in omega (arith, is, low, none, same));
          few = λ low. (let same = finals.1 in omega (arith, low, same));
        }
      ]))
  back_flow j j_in m rest is label (A_final e) =
      let members = h.labelled.members in
      subst (λ z. ControllerFlow z (row_of_member x.controller j z)) (sym e)
      (elim (nat_lt x.controller.finals x.controller.members) as (λ b. nat_lt x.controller.finals x.controller.members ≡ b
      → ControllerFlow Final (if b then controller_still (record x.controller { finals = x.controller.finals + 1 }) else controller_still x.controller)) [
        | true ↦ λ on. (let less = (Decides-ltb x.controller.finals x.controller.members).0 on in record {
          falls = omega arith;
          flies = λ t t' is low. omega (arith, is, low);
          stops = λ t t' is low. omega (arith, is, low);
          few = λ low. omega (arith, less, members);
        })
        | false ↦ λ off. (let all : x.controller.members ≤ x.controller.finals = grind (arith, nat_tests, off) in let few = ended_few x.member n in record {
          falls = omega arith;
          flies = λ t t' is low. omega (arith, is, low);
          stops = λ t t' is low. omega (arith, few, all, members);
          few = λ low. low;
        })
      ] refl)

  -- a member whose end stays as it is
  abbrev MemberFlow : ℕ → Msg → Step F R → Type 0
  MemberFlow j m did = Flow m (j + 2) did.sends x.switch.window.flying x.controller (put x.member j did.node)

  -- by what it sends
  member_flow : (j : ℕ) → j < job.members → (m : Msg) (did : Step F R) (ended : ℕ) → cost o did.sends + 1 ≤ weight o m
      → cell m ≤ sent_weight cell (n + 2) (j + 2) did.sends → one_if did.node.ended ≤ one_if (x.member j).ended + ended
      → final_in m + ended ≤ sent_weight final_in (n + 2) (j + 2) did.sends → MemberFlow j m did
  member_flow j j_in m did ended costs cells ends finals =
      record {
        falls = omega (arith, costs);
        flies = λ t t' is low. omega (arith, is, low, cells);
        stops = λ t t' is low. omega (arith, is, low, ended_put x.member j n did.node j_in, ends, finals);
        few = λ low. low;
      }

  credit_sent : (j : ℕ) (c : FullCell) → sent_weight cell (n + 2) (j + 2) ((0, Credit c) ∷ []) ≡ 1
  credit_sent j c = all_sent cell (n + 2) (j + 2) 0 (Credit c) (reaches_low n j 0 (omega arith))

  plain_flow : (j : ℕ) (j_in : j < job.members) (c : FullCell) (rest : List Msg) (is : x.out j ≡ Carry mark.Plain c ∷ rest) (b : Bool)
      → is_taken job (number c) ≡ b → MemberFlow j (Carry mark.Plain c) (instance_step f (x.member j) (Carry mark.Plain c))
  plain_flow j j_in c rest is true taken =
      let step = raises f job j (x.member j) c (h.labelled.member j j_in) (matches_is f job x j j_in h c rest is true taken) in
      subst (MemberFlow j (Carry mark.Plain c)) (sym step) (member_flow j j_in (Carry mark.Plain c) (tell_step (x.member j) (Event the_share c)) 0 (omega arith)
      (omega (arith, all_sent cell (n + 2) (j + 2) 1 (Event the_share c) (reaches_low n j 1 (omega arith)))) (omega arith) (omega arith))
  plain_flow j j_in c rest is false taken =
      let step = processes f job j (x.member j) c (h.labelled.member j j_in) (matches_is f job x j j_in h c rest is false taken) in
      let leaves = plain_leaves f job (x.member j) c in
      let sends = leaves.sends in
      let one = ap (sent_weight cell (n + 2) (j + 2)) sends ∙ credit_sent j c in
      subst (MemberFlow j (Carry mark.Plain c)) (sym step) (member_flow j j_in (Carry mark.Plain c) (instance_processed f (x.member j) mark.Plain c) 0
      (omega (arith, ap (cost o) sends)) (omega (arith, one)) (omega (arith, ap one_if leaves.ended)) (omega arith))

  out_flow : (j : ℕ) (j_in : j < job.members) (m : Msg) (rest : List Msg) (is : x.out j ≡ m ∷ rest) → OfOut m → MemberFlow j m (instance_step f (x.member j) m)
  out_flow j j_in m rest is (A_plain c e) =
      subst (λ z. MemberFlow j z (instance_step f (x.member j) z)) (sym e) (plain_flow j j_in c rest (is ∙ ap (λ z. z ∷ rest) e) (is_taken job (number c)) refl)
  out_flow j j_in m rest is (A_stop e) =
      subst (λ z. MemberFlow j z (instance_step f (x.member j) z)) (sym e) (member_flow j j_in Stop (instance_step f (x.member j) Stop) 1 (omega arith)
      (omega arith) (omega arith) (omega (arith, all_sent final_in (n + 2) (j + 2) 1 Final (reaches_low n j 1 (omega arith)))))

  to_flow : (j : ℕ) (j_in : j < job.members) (m : Msg) (rest : List Msg) (is : x.to j ≡ m ∷ rest) → Comes f laws job job_is (sight job x) h.serves j m rest
      → MemberFlow j m (instance_step f (x.member j) m)
  to_flow j j_in m rest is (Packet_comes r stage at_member e last) =
      let there : x.to r.member ≡ Carry (mark.Shared the_share (is_home r.member)) r.cell ∷ rest = ap x.to (sym at_member) ∙ is ∙ ap (λ z. z ∷ rest) e in
      let sends = sends_is f laws job job_is x h r stage rest there last in
      let leaves = its f laws job job_is x h r stage rest there last in
      let costs = ap (cost o) sends in
      let cells = ap (sent_weight cell (n + 2) (r.member + 2)) sends in
      let one = credit_sent r.member r.cell in
      let none = none_sent cell (n + 2) (r.member + 2) 1 (Shared the_share (chunk_after f job r h.serves.d)) refl in
      let ended = ap one_if leaves.ended in
      let r_in : r.member < job.members = subst (λ i. i < job.members) at_member j_in in
      subst (λ z. MemberFlow j z (instance_step f (x.member j) z)) (sym e)
      (subst (λ i. MemberFlow i (Carry (mark.Shared the_share (is_home r.member)) r.cell) (instance_step f (x.member i)
      (Carry (mark.Shared the_share (is_home r.member)) r.cell))) (sym at_member)
      (subst (MemberFlow r.member (Carry (mark.Shared the_share (is_home r.member)) r.cell)) (sym (step_is f laws job job_is x h r stage rest there last))
      (member_flow r.member r_in (Carry (mark.Shared the_share (is_home r.member)) r.cell) (instance_processed f (x.member r.member)
      (mark.Shared the_share (is_home r.member)) r.cell) 0 (omega (arith, costs)) (omega (arith, cells, one, none)) (omega (arith, ended)) (omega arith))))
  to_flow j j_in m rest is (Record_comes r at left stage going e last) =
      let there : x.to j ≡ Sync (is_home j) the_share (chunk_after f job r h.serves.d ∷ []) ∷ rest = is ∙ ap (λ z. z ∷ rest) e in
      let leaves = its_record f laws job job_is x h j j_in r at left stage going rest there last in
      subst (λ z. MemberFlow j z (instance_step f (x.member j) z)) (sym e) (member_flow j j_in (Sync (is_home j) the_share
      (chunk_after f job r h.serves.d ∷ [])) (instance_step f (x.member j) (Sync (is_home j) the_share (chunk_after f job r h.serves.d ∷ []))) 0
      (omega (arith, ap (cost o) leaves.sends)) (omega arith) (omega (arith, ap one_if leaves.ended)) (omega arith))

  -- each of them
  pub flow : (g : Goes job.members x) → Flow (message_of job.members x g) (node_of job.members x g) (sends_of f job.members x g)
      (next_scene f job.members x g).switch.window.flying (next_scene f job.members x g).controller (next_scene f job.members x g).member
  flow (From_input m rest is on) = let label = (head_of (in_label job) x.input m rest is h.labelled.input).0 in input_flow m on label (of_input job m label)
  flow (From_down m rest is) = subst SwitchFlow (sym (of_down job m (head_of (down_label job) x.down m rest is h.labelled.down).0)) finish_flow
  flow (From_home j m rest j_in is) = let label = (head_of (home_label job) (x.home j) m rest is (h.labelled.home j j_in)).0 in let e = of_home job m label in
      subst SwitchFlow (sym e.1) (credit_flow e.0 (subst (home_label job) e.1 label))
  flow (From_up m rest is) =
      subst (λ z. ControllerFlow z (controller_step x.controller 0 z)) (sym (of_up job m (head_of (up_label job) x.up m rest is h.labelled.up).0)) end_flow
  flow (From_back j m rest j_in is) = let label = (head_of (back_label job j) (x.back j) m rest is (h.labelled.back j j_in)).0 in
      subst (ControllerFlow m) (sym (from_is f job x j m h.labelled.members j_in)) (back_flow j j_in m rest is label (of_back job j m label))
  flow (From_out j m rest j_in is) = out_flow j j_in m rest is (of_out job j m (head_of (out_label job j) (x.out j) m rest is (h.labelled.out j j_in)).0)
  flow (From_to j m rest j_in is) = to_flow j j_in m rest is (comes_is f laws job job_is (sight job x) h.serves j m rest j_in is)
