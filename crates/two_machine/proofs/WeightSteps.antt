-- Each message that is taken leaves a lighter world.
use Rattle.two_machine.proofs.Words.{◌≡◌, ◌≤◌, ℕ, ◌+◌, true, false, List, [], ◌∷◌, ◌++◌, length, refl, arith, if◌then◌else◌, ◌==◌, length_push, Free, Target}
use Rattle.two_machine.proofs.Words.{To_a, System, Msg, Switch, Ctrl, Inst, Step, In_packet, In_start, In_end, Forward, Lay, Finish, Carry, Pass, Stop, Enable}
use Rattle.two_machine.proofs.Words.{Get, Delete, Restore, Fence, Event, Fenced, Credit, has_room, goes, switch_step, processed, all_processed}
use Rattle.two_machine.proofs.Words.{inst_step, ctrl_step, World, Place, Bc, Ca, Cb, Cs, In, Sa, Sb, Sc, Aw, Bw, Ac, with_waits, OnBack, Label, sent}
use Rattle.two_machine.proofs.Words.{put_switch, put_ctrl, put_a, put_b, result, weigh, weigh-append}
use Rattle.two_machine.proofs.Rows.{kind, Carried, Held, carried}
use Rattle.two_machine.proofs.Weights.{w_in, w_sa, w_sb, w_cs, w_two, w_one, w_ac, w_ctrl, weight, Costs, allowed, step_costs}

module _ {U T C R O : Type 0} (S : System U T C R O) where
  -- a step at each node, with what it may weigh
  pub ctrl_less : (v : World T C O) (did : Step S (Ctrl C)) (n : ℕ) → Costs S did n → weight S (put_ctrl S v did) + w_ctrl S v.ct ≤ weight S v + n
  ctrl_less v did n cost =
      omega (arith, weigh-append w_cs v.cs (sent 0 did.sends), weigh-append w_two v.ca (sent 2 did.sends), weigh-append w_two v.cb (sent 3 did.sends), cost)

  -- what the switch's messages weigh
  abbrev switch_costs : Step S Switch → ℕ
  switch_costs did = weigh w_one (sent 1 did.sends) + weigh w_sa (sent 2 did.sends) + weigh w_sb (sent 3 did.sends)

  switch_less : (v : World T C O) (did : Step S Switch) (n : ℕ) → switch_costs did + 1 ≤ n → weight S (put_switch S v did) + 1 ≤ weight S v + n
  switch_less v did n cost =
      omega (arith, weigh-append w_one v.sc (sent 1 did.sends), weigh-append w_sa v.sa (sent 2 did.sends), weigh-append w_sb v.sb (sent 3 did.sends), cost)

  -- what an instance holds and sends, where its messages to the controller weigh this much, and the message that it took
  abbrev inst_costs : (Msg C → ℕ) → Step S (Inst T) → ℕ
  inst_costs w did = length did.node.held + weigh w_one (sent 0 did.sends) + weigh w (sent 1 did.sends) + 1

  pub a_less : (v : World T C O) (did : Step S (Inst T)) (n : ℕ) → inst_costs w_ac did ≤ length v.a.held + n → weight S (put_a S v did) + 1 ≤ weight S v + n
  a_less v did n cost = omega (arith, weigh-append w_one v.aw (sent 0 did.sends), weigh-append w_ac v.ac (sent 1 did.sends), cost)

  pub b_less : (v : World T C O) (did : Step S (Inst T)) (n : ℕ) → inst_costs w_one did ≤ length v.b.held + n → weight S (put_b S v did) + 1 ≤ weight S v + n
  b_less v did n cost = omega (arith, weigh-append w_one v.bw (sent 0 did.sends), weigh-append w_one v.bc (sent 1 did.sends), cost)

  goes_costs : (t : Target) (s : Switch) (p : ℕ) → switch_costs (goes S t s p) ≤ 7
  goes_costs To_a s p = omega arith
  goes_costs t s p = omega arith

  in_costs : (s : Switch) (m : Msg C) → Label S In m → switch_costs (switch_step S s m) + 1 ≤ w_in m
  in_costs s (In_packet p) l =
      elim (has_room S s) as (λ b.
      switch_costs (if b then goes S (if S.covers p then s.target else To_a) s p else record { node = s; sends = []; notes = [] }) + 1 ≤ 8) [
        | true ↦ omega (arith, goes_costs (if S.covers p then s.target else To_a) s p)
        | false ↦ omega arith
      ]
  in_costs s In_start l = omega arith
  in_costs s In_end l = omega arith
  in_costs s m l = absurd l

  cs_costs : (s : Switch) (m : Msg C) → Label S Cs m → switch_costs (switch_step S s m) + 1 ≤ w_cs m
  cs_costs s (Forward p) l = omega arith
  cs_costs s (Lay high) l = omega arith
  cs_costs s (Finish to) l =
      elim (to == 0) as (λ b.
      weigh w_one (sent {M = Msg C} 1 ((if b then 2 else 3, Stop) ∷ [])) + weigh w_sa (sent {M = Msg C} 2 ((if b then 2 else 3, Stop) ∷ []))
      + weigh w_sb (sent {M = Msg C} 3 ((if b then 2 else 3, Stop) ∷ [])) + 1
      ≤ (if b then 6 else 3)) [
        | true ↦ omega arith
        | false ↦ omega arith
      ]
  cs_costs s m l = absurd l

  back_costs : (s : Switch) (m : Msg C) → OnBack S m → switch_costs (switch_step S s m) + 1 ≤ 1
  back_costs s (Credit p) l = omega arith
  back_costs s m l = absurd l

  carry_costs : (w : Msg C → ℕ) → ((p : ℕ) → w (Event p) ≤ 5) → {n : ℕ} {i : Inst T} {p : ℕ} {did : Step S (Inst T)} → Carried S n i p did
      → inst_costs w did ≤ length i.held + 6
  carry_costs w event {n} {i} {p} (Held covers) = omega (arith, length_push i.held p)
  carry_costs w event {n} {i} {p} x = let five = event p in omega (arith, five)

  sa_costs : (i : Inst T) (m : Msg C) → Label S Sa m → inst_costs w_ac (inst_step S 0 i m) ≤ length i.held + w_sa m
  sa_costs i (Carry p) l = carry_costs w_ac (λ q. omega arith) (carried S 0 i p)
  sa_costs i Stop l = omega arith
  sa_costs i m l = absurd l

  ca_costs : (i : Inst T) (m : Msg C) → Label S Ca m → inst_costs w_ac (inst_step S 0 i m) ≤ length i.held + 2
  ca_costs i (Enable r) l = omega arith
  ca_costs i Get l = omega arith
  ca_costs i (Delete c) l = omega arith
  ca_costs i m l = absurd l

  sb_costs : (i : Inst T) (m : Msg C) → Label S Sb m → inst_costs w_one (inst_step S 1 i m) ≤ length i.held + w_sb m
  sb_costs i (Carry p) l = carry_costs w_one (λ q. omega arith) (carried S 1 i p)
  sb_costs i (Pass p) l = omega arith
  sb_costs i Stop l = omega arith
  sb_costs i m l = absurd l

  all_costs : (i : Inst T) (ps : List ℕ)
      → (length (all_processed S 1 i ps).node.held ≡ length i.held)
      × (weigh w_one (sent 0 ((all_processed S 1 i ps).sends ++ (1, Fenced) ∷ [])) ≡ length ps)
      × (weigh w_one (sent 1 ((all_processed S 1 i ps).sends ++ (1, Fenced) ∷ [])) ≡ 1)
  all_costs i [] = (refl, refl, refl)
  all_costs i (p ∷ ps) = let rest = all_costs (processed S 1 i p).node ps in (rest.0, omega (arith, rest.1), rest.2)

  cb_costs : (i : Inst T) (m : Msg C) → Label S Cb m → inst_costs w_one (inst_step S 1 i m) ≤ length i.held + 2
  cb_costs i (Enable r) l = omega arith
  cb_costs i (Restore c) l = omega arith
  cb_costs i Fence l =
      let all = all_costs (record i { rule = Free; held = [] }) i.held in
      omega (arith, all.0, all.1, all.2)
  cb_costs i m l = absurd l

  ac_allowed : (m : Msg C) → allowed S (kind 2 m) + 1 ≡ w_ac m
  ac_allowed (Event p) = refl
  ac_allowed m = refl

  bc_allowed : (m : Msg C) → Label S Bc m → allowed S (kind 3 m) ≡ 0
  bc_allowed (Event p) l = absurd l
  bc_allowed m l = refl

  sc_allowed : (m : Msg C) → Label S Sc m → allowed S (kind 0 m) ≡ 0
  sc_allowed (Event p) l = absurd l
  sc_allowed m l = refl

  -- each message taken makes the world lighter
  pub lighter : (pl : Place) (v : World T C O) (m : Msg C) (rest : List (Msg C)) → Label S pl m
      → weight S (result S pl (with_waits S pl rest v) m) + 1 ≤ weight S (with_waits S pl (m ∷ rest) v)
  lighter In v m rest l = let one = switch_less (with_waits S In rest v) (switch_step S v.sw m) (w_in m) (in_costs v.sw m l) in omega (arith, one)
  lighter Cs v m rest l = let one = switch_less (with_waits S Cs rest v) (switch_step S v.sw m) (w_cs m) (cs_costs v.sw m l) in omega (arith, one)
  lighter Aw v m rest l = let one = switch_less (with_waits S Aw rest v) (switch_step S v.sw m) 1 (back_costs v.sw m l) in omega (arith, one)
  lighter Bw v m rest l = let one = switch_less (with_waits S Bw rest v) (switch_step S v.sw m) 1 (back_costs v.sw m l) in omega (arith, one)
  lighter Sc v m rest l =
      let one = ctrl_less (with_waits S Sc rest v) (ctrl_step S v.ct 0 m) (w_ctrl S v.ct + allowed S (kind 0 m)) (step_costs S v.ct 0 m) in
      omega (arith, one, sc_allowed m l)
  lighter Ac v m rest l =
      let one = ctrl_less (with_waits S Ac rest v) (ctrl_step S v.ct 2 m) (w_ctrl S v.ct + allowed S (kind 2 m)) (step_costs S v.ct 2 m) in
      omega (arith, one, ac_allowed m)
  lighter Bc v m rest l =
      let one = ctrl_less (with_waits S Bc rest v) (ctrl_step S v.ct 3 m) (w_ctrl S v.ct + allowed S (kind 3 m)) (step_costs S v.ct 3 m) in
      omega (arith, one, bc_allowed m l)
  lighter Sa v m rest l = let one = a_less (with_waits S Sa rest v) (inst_step S 0 v.a m) (w_sa m) (sa_costs v.a m l) in omega (arith, one)
  lighter Ca v m rest l = let one = a_less (with_waits S Ca rest v) (inst_step S 0 v.a m) 2 (ca_costs v.a m l) in omega (arith, one)
  lighter Sb v m rest l = let one = b_less (with_waits S Sb rest v) (inst_step S 1 v.b m) (w_sb m) (sb_costs v.b m l) in omega (arith, one)
  lighter Cb v m rest l = let one = b_less (with_waits S Cb rest v) (inst_step S 1 v.b m) 2 (cb_costs v.b m l) in omega (arith, one)
