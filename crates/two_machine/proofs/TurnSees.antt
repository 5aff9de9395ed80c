-- What is seen of the message that is taken, at each place: a move of the machine, or nothing.
use Rattle.two_machine.proofs.Words.{◌≡◌, ℕ, Bool, true, false, Option, Some, None, List, [], ◌∷◌, ◌++◌, refl, ◌∙◌, State, Frame, Move, Begin, End_comes}
use Rattle.two_machine.proofs.Words.{Arrive, Take_sa, Take_pass, Take_plain, Take_sc, Take_forward, Take_cs, Take_ca, Take_cb, Take_event, Take_ac, Take_seen}
use Rattle.two_machine.proofs.Words.{Take_bc, Idles, System, Laws, Msg, In_packet, In_start, In_end, Start, End, Copied, Laid, Forward, Lay, Finish, Carry}
use Rattle.two_machine.proofs.Words.{Pass, Stop, Enable, Get, Delete, Restore, Fence, Enabled, Chunks, Deleted, Restored, Event, Seen, Fenced, Final, Credit}
use Rattle.two_machine.proofs.Words.{has_room, World, Observer, read, those, starts, frame, own, inside, IsTaken, item, view, Label, Place, In, Cs, Aw, Bw, Sc}
use Rattle.two_machine.proofs.Words.{Ac, Bc, Sa, Ca, Sb, Cb, with_waits, comes, result, Allowed, copied}
use Rattle.two_machine.proofs.Machine.{moved}
use Rattle.two_machine.proofs.Laws.{append_nil_left, append_nil_right}
use Rattle.two_machine.proofs.ControllerSees.{reads, step_seen, start_seen, enabled_seen, chunks_seen, deleted_seen, restored_seen, event_seen, laid_seen}
use Rattle.two_machine.proofs.ControllerSees.{copied_seen, fenced_seen, end_seen, told_seen, final_seen}
use Rattle.two_machine.proofs.InstanceSees.{carry_a, other_a, carry_b, pass_b, fence_b, enable_a, get_a, delete_a, enable_b, restore_b, stop_a, stop_b, arrive}
use Rattle.two_machine.proofs.InstanceSees.{arrive_other, forward_s, lay_s, finish_s, credit_s, end_s}
use Rattle.two_machine.proofs.StageFacts.{Knows}
use Rattle.two_machine.proofs.Shapes.{brings}

abbrev pub moved_by : {R : Type 0} → Frame R → Option Move → State R → State R
moved_by f None x = x
moved_by f (Some mv) x = moved f x mv

abbrev pub AllowedBy : {R : Type 0} → State R → Option Move → Type 0
AllowedBy x None = Unit {0}
AllowedBy x (Some mv) = Allowed x mv

abbrev pub brought : Option Move → List ℕ
brought None = []
brought (Some mv) = brings mv

module _ {U T C R O : Type 0} (S : System U T C R O) (laws : Laws S) (o : Observer U) (taken : IsTaken S o) where
  -- what the input and the end allow
  abbrev pub Permits : Place → World T C O → Msg C → List (Msg C) → Type 0
  Permits In v (In_packet p) rest = (has_room S v.sw ≡ true) × (v.ct.ended ≡ false)
  Permits Sc v End rest = (v.ct.ended ≡ false) × (read copied (read (item S o) rest) ≡ [])
  Permits pl v m rest = Unit {0}

  pub record Turns (pl : Place) (v : World T C O) (m : Msg C) (rest : List (Msg C)) : Type 0 where
    pub move : Option Move
    pub sees : view S o (result S pl (with_waits S pl rest v) m) ≡ moved_by (frame S o) move (view S o (with_waits S pl (m ∷ rest) v))
    pub allowed : AllowedBy (view S o (with_waits S pl (m ∷ rest) v)) move
    pub brings_is : brought move ≡ those S.covers (comes pl m)

  abbrev Covers : ℕ → Type 0
  Covers p = S.covers p ≡ true

  turns : {pl : Place} {v : World T C O} {m : Msg C} {rest : List (Msg C)} (move : Option Move)
      → view S o (result S pl (with_waits S pl rest v) m) ≡ moved_by (frame S o) move (view S o (with_waits S pl (m ∷ rest) v))
      → AllowedBy (view S o (with_waits S pl (m ∷ rest) v)) move → brought move ≡ those S.covers (comes pl m) → Turns pl v m rest
  turns move sees allowed brings_is = record { move = move; sees = sees; allowed = allowed; brings_is = brings_is }

  -- a packet that arrives, and one that A takes: the machine sees those that the filter matches
  packet_turn : (v : World T C O) (p : ℕ) (rest : List (Msg C)) → Permits In v (In_packet p) rest → (b : Bool) → S.covers p ≡ b → Turns In v (In_packet p) rest
  packet_turn v p rest a true e =
      let room : has_room S v.sw ≡ true = a.0 in
      turns (Some (Arrive p)) (rw (room, e) (arrive S laws o taken (record v { input = rest }) p v.sw.target e)) a.1 (rw e refl)
  packet_turn v p rest a false e =
      let room : has_room S v.sw ≡ true = a.0 in
      turns None (rw (room, e) (arrive_other S laws o taken (record v { input = rest }) p e)) tt (rw e refl)

  carry_turn : (v : World T C O) (p : ℕ) (rest : List (Msg C)) (b : Bool) → S.covers p ≡ b → Turns Sa v (Carry p) rest
  carry_turn v p rest true e = turns (Some Take_sa) (rw e (carry_a S laws o taken (record v { sa = rest }) p v.a.rule e)) tt refl
  carry_turn v p rest false e = turns None (rw e (other_a S laws o taken (record v { sa = rest }) p e)) tt refl

  first_start : (xs ys : List ℕ) → ((n : ℕ) (l : List ℕ) → xs ++ 0 ∷ ys ≡ n ∷ l → l ≡ []) → xs ≡ []
  first_start [] ys h = refl
  first_start (x ∷ xs) ys h = let never = append_nil_right xs (0 ∷ ys) (h x (xs ++ 0 ∷ ys) refl) in cc

  pub turn : (pl : Place) (v : World T C O) (m : Msg C) (rest : List (Msg C)) → Label S pl m → Knows Covers (view S o (with_waits S pl (m ∷ rest) v))
      → Permits pl v m rest → Turns pl v m rest
  turn In v (In_packet p) rest h k a = packet_turn v p rest a (S.covers p) refl
  turn In v In_start rest h k a =
      let none = k.starts 0 (read starts rest ++ read starts v.sc) refl in
      turns None (simp (reads, append_nil_left (read starts rest) (read starts v.sc) none, append_nil_right (read starts rest) (read starts v.sc) none)) tt refl
  turn In v In_end rest h k a = turns None (end_s S laws o taken (record v { input = rest })) tt refl
  turn Cs v (Forward p) rest h k a = turns (Some Take_forward) (forward_s S laws o taken (record v { cs = rest }) p) tt refl
  turn Cs v (Lay high) rest h k a = turns (Some Take_cs) (lay_s S laws o taken (record v { cs = rest }) high) tt refl
  turn Cs v (Finish to) rest h k a = turns None (finish_s S laws o taken (record v { cs = rest }) to) tt refl
  turn Aw v (Credit p) rest h k a = turns None (credit_s S laws o taken (record v { aw = rest }) p) tt refl
  turn Bw v (Credit p) rest h k a = turns None (credit_s S laws o taken (record v { bw = rest }) p) tt refl
  turn Sc v Start rest h k a =
      let one : read starts v.input ≡ [] = first_start (read starts v.input) (read starts rest) k.starts in
      let less = record v { sc = rest } in
      turns (Some Begin) (step_seen S laws o less 0 Start (start_seen S laws o less v.ct.phase) ∙ rw one refl) tt refl
  turn Sc v End rest h k a =
      let less = record v { sc = rest } in turns (Some End_comes) (step_seen S laws o less 0 End (end_seen S laws o less)) a refl
  turn Sc v (Copied p) rest h k a =
      let less = record v { sc = rest } in
      turns (Some Take_sc) (step_seen S laws o less 0 (Copied p) (copied_seen S laws o less v.ct.phase p)) tt refl
  turn Sc v (Laid high) rest h k a =
      let less = record v { sc = rest } in
      turns (Some Take_sc) (step_seen S laws o less 0 (Laid high) (laid_seen S laws o less v.ct.phase high)) tt refl
  turn Ac v Enabled rest h k a =
      let less = record v { ac = rest } in turns (Some Take_ac) (step_seen S laws o less 2 Enabled (enabled_seen S laws o less v.ct.phase)) tt refl
  turn Ac v (Chunks c) rest h k a =
      let less = record v { ac = rest } in turns (Some Take_ac) (step_seen S laws o less 2 (Chunks c) (chunks_seen S laws o less v.ct.phase c)) tt refl
  turn Ac v Deleted rest h k a =
      let less = record v { ac = rest } in turns (Some Take_ac) (step_seen S laws o less 2 Deleted (deleted_seen S laws o less v.ct.phase)) tt refl
  turn Ac v (Event p) rest h k a =
      let less = record v { ac = rest } in turns (Some Take_event) (step_seen S laws o less 2 (Event p) (event_seen S laws o less v.ct.phase p)) tt refl
  turn Ac v Final rest h k a =
      let less = record v { ac = rest } in turns (Some Idles) (step_seen S laws o less 2 Final (final_seen S laws o less true)) tt refl
  turn Bc v Restored rest h k a =
      let less = record v { bc = rest } in turns (Some Take_bc) (step_seen S laws o less 3 Restored (restored_seen S laws o less v.ct.phase)) tt refl
  turn Bc v Enabled rest h k a =
      let less = record v { bc = rest } in turns (Some Take_bc) (step_seen S laws o less 3 Enabled (enabled_seen S laws o less v.ct.phase)) tt refl
  turn Bc v Fenced rest h k a =
      let less = record v { bc = rest } in turns (Some Take_bc) (step_seen S laws o less 3 Fenced (fenced_seen S laws o less v.ct.phase)) tt refl
  turn Bc v (Seen p) rest h k a =
      let less = record v { bc = rest } in turns (Some Take_seen) (step_seen S laws o less 3 (Seen p) (told_seen S laws o less p)) tt refl
  turn Bc v Final rest h k a =
      let less = record v { bc = rest } in turns (Some Idles) (step_seen S laws o less 3 Final (final_seen S laws o less false)) tt refl
  turn Sa v (Carry p) rest h k a = carry_turn v p rest (S.covers p) refl
  turn Sa v Stop rest h k a = turns None (stop_a S laws o taken (record v { sa = rest })) tt refl
  turn Ca v (Enable r) rest h k a = turns (Some Take_ca) (enable_a S laws o taken (record v { ca = rest }) r) tt refl
  turn Ca v Get rest h k a = turns (Some Take_ca) (get_a S laws o taken (record v { ca = rest })) tt refl
  turn Ca v (Delete c) rest h k a = turns (Some Take_ca) (delete_a S laws o taken (record v { ca = rest }) c h) tt refl
  turn Sb v (Carry p) rest h k a =
      let e : S.covers p ≡ true = k.plains.0 in
      turns (Some Take_plain) (rw e (carry_b S laws o taken (record v { sb = rest }) p v.b.rule k.no_drop e)) tt refl
  turn Sb v (Pass p) rest h k a = turns (Some Take_pass) (pass_b S laws o taken (record v { sb = rest }) p k.passes.0) tt refl
  turn Sb v Stop rest h k a = turns None (stop_b S laws o taken (record v { sb = rest })) tt refl
  turn Cb v (Enable r) rest h k a = turns (Some Take_cb) (enable_b S laws o taken (record v { cb = rest }) r) tt refl
  turn Cb v (Restore c) rest h k a =
      let none : own S o v.b.table ≡ None = k.empty (inside S o c) (read (item S o) rest) refl in
      turns (Some Take_cb) (restore_b S laws o taken (record v { cb = rest }) c h none) tt refl
  turn Cb v Fence rest h k a = turns (Some Take_cb) (fence_b S laws o taken (record v { cb = rest }) k.held) tt refl
  turn pl v m rest h k a = absurd h
