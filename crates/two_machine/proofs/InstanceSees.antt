-- What is seen of a step of an instance or of the switch is the machine's.
use Rattle.two_machine.proofs.Words.{◌≡◌, ◌≢◌, ℕ, Bool, true, false, Option, Some, None, List, [], ◌∷◌, ◌++◌, refl, sym, ap, ◌∙◌, append_assoc, append-nil}
use Rattle.two_machine.proofs.Words.{if◌then◌else◌, ◌==◌, is_some, false≢true, Rule, Free, Drops, Buffers, Target, To_a, State, stepped, folded}
use Rattle.two_machine.proofs.Words.{System, Laws, Inst, Step, processed, all_processed, ruled, inst_step, goes, switch_step, World, Observer, Nobody, Of_unit}
use Rattle.two_machine.proofs.Words.{flat_map-append, frame, own, inside, IsTaken, view, IsSelected, put_switch, put_a, put_b, Each}
use Rattle.two_machine.proofs.Machine as m
use Rattle.two_machine.proofs.Tables.{on_pass, on_fence}
use Rattle.two_machine.proofs.Tables as t
use Rattle.two_machine.proofs.View.{is_of}
use Rattle.two_machine.proofs.ControllerSees.{reads}

module _ {U T C R O : Type 0} (S : System U T C R O) (laws : Laws S) (o : Observer U) (taken : IsTaken S o) where
  -- a packet that the filter doesn't match isn't the observer's
  not_mine : (o : Observer U) → IsTaken S o → (p : ℕ) → S.covers p ≡ false → is_of S o p ≡ false
  not_mine Nobody h p no_cover = refl
  not_mine (Of_unit u) h p no_cover = by (S.equal (S.unit_of p) u) refl
    where
      by : (b : Bool) → S.equal (S.unit_of p) u ≡ b → b ≡ false
      by false e = refl
      by true e = absurd (false≢true (sym no_cover ∙ sym (laws.whole p) ∙ ap S.takes (laws.is_same (S.unit_of p) u e) ∙ h))

  own_processed : (o : Observer U) (table : T) (p : ℕ) → own S o (S.process table p) ≡ stepped (frame S o) (own S o table) p
  own_processed Nobody table p = refl
  own_processed (Of_unit u) table p = laws.processed table p u

  own_other : (table : T) (p : ℕ) → S.covers p ≡ false → own S o (S.process table p) ≡ own S o table
  own_other table p no_cover = let mine = not_mine o taken p no_cover in own_processed o table p ∙ rw mine refl

  own_selected : (o : Observer U) → IsTaken S o → (table : T) → inside S o (S.select table) ≡ own S o table
  own_selected Nobody h table = refl
  own_selected (Of_unit u) h table = laws.selected table u ∙ rw h refl

  -- a record goes where chunks have it
  abbrev gone : Option R → Option R → Option R
  gone None held = held
  gone (Some r) held = None

  own_deleted : (o : Observer U) (c : C) → IsSelected S c → (table : T) → own S o (S.delete c table) ≡ gone (inside S o c) (own S o table)
  own_deleted Nobody c is table = refl
  own_deleted (Of_unit u) c is table = let made = is.1 in rw made (laws.deleted table is.0 u ∙ by (S.has (S.select is.0) u))
    where
      by : (x : Option R) → (if is_some x then None else S.at table u) ≡ gone x (S.at table u)
      by None = refl
      by (Some r) = refl

  restored_none : (x : Option R) → m.restored (frame S o) x None ≡ x
  restored_none None = refl
  restored_none (Some r) = refl

  own_restored : (o : Observer U) (c : C) → IsSelected S c → (table : T) → own S o table ≡ None → own S o (S.restore c table) ≡ inside S o c
  own_restored Nobody c is table none = refl
  own_restored (Of_unit u) c is table none = let made = is.1 in rw made (laws.restored table is.0 u none)

  -- A takes a packet that the filter matches
  pub carry_a : (v : World T C O) (p : ℕ) (rule : Rule) → S.covers p ≡ true
      → view S o (put_a S v (ruled S rule 0 v.a p)) ≡ m.carried_a (frame S o) rule (view S o v) p
  carry_a v p Free covers = let owned = own_processed o v.a.table p in simp (reads, owned, covers)
  carry_a v p x covers = simp reads

  -- and another
  pub other_a : (v : World T C O) (p : ℕ) → S.covers p ≡ false → view S o (put_a S v (processed S 0 v.a p)) ≡ view S o v
  other_a v p covers = let owned = own_other v.a.table p covers in simp (reads, owned, covers)

  pub carry_b : (v : World T C O) (p : ℕ) (rule : Rule) → rule ≢ Drops → S.covers p ≡ true
      → view S o (put_b S v (ruled S rule 1 v.b p)) ≡ m.carried_b (frame S o) rule (view S o v) p
  carry_b v p Free no_drop covers = let owned = own_processed o v.b.table p in simp (reads, owned, covers)
  carry_b v p Drops no_drop covers = absurd (no_drop refl)
  carry_b v p Buffers no_drop covers = simp reads

  pub pass_b : (v : World T C O) (p : ℕ) → S.covers p ≡ true
      → view S o (put_b S v (on_pass S 1 v.b p)) ≡ (let y = m.runs_at_b (frame S o) (view S o v) p in record y { seens = (view S o v).seens ++ p ∷ [] })
  pass_b v p covers = let owned = own_processed o v.b.table p in simp (reads, owned, covers)

  -- what B held is processed
  pub all_at_b : (v : World T C O) (ps : List ℕ) (i : Inst T) → Each (λ p. S.covers p ≡ true) ps
      → view S o (put_b S v (all_processed S 1 i ps))
      ≡ (let x = view S o (record v { b = i }) in record x { b = record x.b { live = folded (frame S o) x.b.live ps }; done = x.done ++ ps })
  all_at_b v [] i h = simp reads
  all_at_b v (p ∷ ps) i h =
      let one = processed S 1 i p in
      let next = put_b S (record v { b = i }) one in
      let same : put_b S v (all_processed S 1 i (p ∷ ps)) ≡ put_b S next (all_processed S 1 one.node ps) = simp (flat_map-append, append_assoc) in
      ap (view S o) same ∙ all_at_b next ps one.node h.1 ∙ simp (reads, own_processed o i.table p, h.0)

  pub fence_b : (v : World T C O) → Each (λ p. S.covers p ≡ true) v.b.held → view S o (put_b S v (on_fence S 1 v.b)) ≡ m.told_b (frame S o) (view S o v) m.Fence
  fence_b v h =
      let all = all_at_b v v.b.held (record v.b { rule = Free; held = [] }) h in
      let did = all_processed S 1 (record v.b { rule = Free; held = [] }) v.b.held in
      let last : Step S (Inst T) = record { node = did.node; sends = (1, t.Fenced) ∷ []; notes = [] } in
      let same : put_b S v (on_fence S 1 v.b) ≡ put_b S (put_b S v did) last = simp (flat_map-append, append_assoc, append-nil) in
      ap (view S o) same ∙ answers (put_b S v did) ∙ ap with_answer all
    where
      with_answer : State R → State R
      with_answer x = record x { bc = x.bc ++ m.Fenced ∷ [] }

      answers : (w : World T C O)
          → view S o (put_b S w (record { node = w.b; sends = (1, t.Fenced) ∷ []; notes = [] }))
          ≡ record (view S o w) { bc = (view S o w).bc ++ m.Fenced ∷ [] }
      answers w = simp reads

  -- orders
  pub enable_a : (v : World T C O) (r : Rule) → view S o (put_a S v (inst_step S 0 v.a (t.Enable r))) ≡ m.told_a (frame S o) (view S o v) (m.Enable r)
  enable_a v r = simp reads

  pub get_a : (v : World T C O) → view S o (put_a S v (inst_step S 0 v.a t.Get)) ≡ m.told_a (frame S o) (view S o v) m.Get
  get_a v = let owned = own_selected o taken v.a.table in simp (reads, owned)

  pub delete_a : (v : World T C O) (c : C) → IsSelected S c
      → view S o (put_a S v (inst_step S 0 v.a (t.Delete c))) ≡ m.told_a (frame S o) (view S o v) (m.Delete (inside S o c))
  delete_a v c is =
      let first : view S o (put_a S v (inst_step S 0 v.a (t.Delete c))) ≡ without (inside S o c) = simp (reads, own_deleted o c is v.a.table) in
      first ∙ by (inside S o c)
    where
      without : Option R → State R
      without x = record (view S o v) { a = record ((view S o v).a) { live = gone x (own S o v.a.table) }; ac = (view S o v).ac ++ m.Deleted ∷ [] }

      by : (x : Option R) → without x ≡ m.told_a (frame S o) (view S o v) (m.Delete x)
      by None = refl
      by (Some r) = refl

  pub enable_b : (v : World T C O) (r : Rule) → view S o (put_b S v (inst_step S 1 v.b (t.Enable r))) ≡ m.told_b (frame S o) (view S o v) (m.Enable r)
  enable_b v r = simp reads

  pub restore_b : (v : World T C O) (c : C) → IsSelected S c → own S o v.b.table ≡ None
      → view S o (put_b S v (inst_step S 1 v.b (t.Restore c))) ≡ m.told_b (frame S o) (view S o v) (m.Restore (inside S o c))
  restore_b v c is none = let owned = own_restored o c is v.b.table none in let empty = restored_none (inside S o c) in simp (reads, owned, none, empty)

  pub stop_a : (v : World T C O) → view S o (put_a S v (inst_step S 0 v.a t.Stop)) ≡ view S o v
  stop_a v = simp reads

  pub stop_b : (v : World T C O) → view S o (put_b S v (inst_step S 1 v.b t.Stop)) ≡ view S o v
  stop_b v = simp reads

  -- the switch
  pub arrive : (v : World T C O) (p : ℕ) (target : Target) → S.covers p ≡ true
      → view S o (put_switch S v (goes S target v.sw p)) ≡ m.arrives (frame S o) target (view S o v) p
  arrive v p To_a covers = simp (reads, covers)
  arrive v p x covers = simp (reads, covers)

  pub arrive_other : (v : World T C O) (p : ℕ) → S.covers p ≡ false → view S o (put_switch S v (goes S To_a v.sw p)) ≡ view S o v
  arrive_other v p covers = simp (reads, covers)

  pub forward_s : (v : World T C O) (p : ℕ)
      → view S o (put_switch S v (switch_step S v.sw (t.Forward p))) ≡ record (view S o v) { passes = (view S o v).passes ++ p ∷ [] }
  forward_s v p = simp reads

  pub lay_s : (v : World T C O) (high : Bool) → view S o (put_switch S v (switch_step S v.sw (t.Lay high))) ≡ m.told_s (frame S o) (view S o v) (m.Lay high)
  lay_s v false = simp reads
  lay_s v true = simp reads

  pub finish_s : (v : World T C O) (to : ℕ) → view S o (put_switch S v (switch_step S v.sw (t.Finish to))) ≡ view S o v
  finish_s v to =
      elim (to == 0) as (λ b.
      view S o
      (put_switch S v
      (record {
        node = record v.sw { closed = if to == 1 then true else v.sw.closed };
        sends = (if b then 2 else 3, t.Stop) ∷ [];
        notes = [];
      }))
      ≡ view S o v) [
        | true ↦ simp reads
        | false ↦ simp reads
      ]

  pub credit_s : (v : World T C O) (p : ℕ) → view S o (put_switch S v (switch_step S v.sw (t.Credit p))) ≡ view S o v
  credit_s v p = simp reads

  pub end_s : (v : World T C O) → view S o (put_switch S v (switch_step S v.sw t.In_end)) ≡ view S o v
  end_s v = simp reads
