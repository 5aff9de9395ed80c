-- What a step of each node leaves of the world, link by link, is what the core's network leaves, with the labels of its messages; and the world after
-- a message of a place was taken.
use Rattle.std.proofs.Common.{◌≡◌, true, false, refl, subst, ℕ, zero, suc, List, [], ◌∷◌, ◌++◌, ap, ◌∙◌, append_assoc, append-nil}
use Rattle.std.specs.Prelude.{if◌then◌else◌, ◌==◌}
use Rattle.std.proofs.lemmas.Bool.Decides.{Decides-eqb}
use Rattle.actor_net.specs.Network.{links_after, after}
use Rattle.two_machine.proofs.Tables.{System, Msg, Switch, Ctrl, Inst, Is_switch, Is_ctrl, Is_inst, Step, switch_step, inst_step, ctrl_step, and_then}
use Rattle.two_machine.proofs.Tables.{as_node}
use Rattle.std.proofs.lemmas.List.Concat.{flat_map-append}
use Rattle.two_machine.proofs.View.{World, net, read}
use Rattle.two_machine.proofs.Places.{Place, Ac, Bc, Ca, Cb, Cs, Sa, Sb, Sc, In, Aw, Bw, waits}
use Rattle.two_machine.proofs.Labels.{IsSelected, OnBack, Label, Labels}
use Rattle.actor_net.proofs.WeightLaws.{Each, each-append}

-- what is sent to a node
abbrev pub to_one : {M : Type 0} → ℕ → ℕ × M → List M
to_one k x = if x.0 == k then x.1 ∷ [] else []

abbrev pub sent : {M : Type 0} → ℕ → List (ℕ × M) → List M
sent k xs = read (to_one k) xs

each_sent : {M : Type 0} (P : ℕ → M → Type 0) (k : ℕ) (xs : List (ℕ × M)) → Each (λ x. P x.0 x.1) xs → Each (P k) (sent k xs)
each_sent P k [] h = tt
each_sent P k (x ∷ xs) h =
    elim (x.0 == k) as (λ b. (x.0 == k) ≡ b → Each (P k) ((if b then x.1 ∷ [] else []) ++ sent k xs)) [
      | true ↦ λ is. let same : x.0 ≡ k = (Decides-eqb x.0 k).0 is in (subst (λ y. P y x.1) same h.0, each_sent P k xs h.1)
      | false ↦ λ _. each_sent P k xs h.1
    ] refl

module _ {U T C R O : Type 0} (S : System U T C R O) where
  -- what each node may send, by its receiver
  abbrev pub From_switch : ℕ → Msg C → Type 0
  From_switch zero m = ⊥
  From_switch (suc zero) m = Label S Sc m
  From_switch (suc (suc zero)) m = Label S Sa m
  From_switch (suc (suc (suc zero))) m = Label S Sb m
  From_switch (suc (suc (suc (suc k)))) m = ⊥

  abbrev pub FromCtrl : ℕ → Msg C → Type 0
  FromCtrl zero m = Label S Cs m
  FromCtrl (suc zero) m = ⊥
  FromCtrl (suc (suc zero)) m = Label S Ca m
  FromCtrl (suc (suc (suc zero))) m = Label S Cb m
  FromCtrl (suc (suc (suc (suc k)))) m = ⊥

  abbrev pub From_a : ℕ → Msg C → Type 0
  From_a zero m = OnBack S m
  From_a (suc zero) m = Label S Ac m
  From_a (suc (suc k)) m = ⊥

  abbrev pub From_b : ℕ → Msg C → Type 0
  From_b zero m = OnBack S m
  From_b (suc zero) m = Label S Bc m
  From_b (suc (suc k)) m = ⊥

  -- what a step leaves
  abbrev pub put_switch : World T C O → Step S Switch → World T C O
  put_switch v did =
      record v { sw = did.node; sc = v.sc ++ sent 1 did.sends; sa = v.sa ++ sent 2 did.sends; sb = v.sb ++ sent 3 did.sends; log = v.log ++ did.notes }

  abbrev pub put_ctrl : World T C O → Step S (Ctrl C) → World T C O
  put_ctrl v did =
      record v { ct = did.node; cs = v.cs ++ sent 0 did.sends; ca = v.ca ++ sent 2 did.sends; cb = v.cb ++ sent 3 did.sends; log = v.log ++ did.notes }

  abbrev pub put_a : World T C O → Step S (Inst T) → World T C O
  put_a v did = record v { a = did.node; aw = v.aw ++ sent 0 did.sends; ac = v.ac ++ sent 1 did.sends; log = v.log ++ did.notes }

  abbrev pub put_b : World T C O → Step S (Inst T) → World T C O
  put_b v did = record v { b = did.node; bw = v.bw ++ sent 0 did.sends; bc = v.bc ++ sent 1 did.sends; log = v.log ++ did.notes }

  -- two steps of the controller, one after the other
  pub put_twice : (v : World T C O) (one : Step S (Ctrl C)) (next : Ctrl C → Step S (Ctrl C))
      → put_ctrl v (and_then S one next) ≡ put_ctrl (put_ctrl v one) (next one.node)
  put_twice v one next = simp (flat_map-append, append_assoc)

  abbrev links : World T C O → List (List (Msg C))
  links v = (net v).links

  by_switch : (v : World T C O) (xs : List (ℕ × Msg C)) → Each (λ x. From_switch x.0 x.1) xs
      → links_after 4 0 xs (links v) ≡ links (record v { sc = v.sc ++ sent 1 xs; sa = v.sa ++ sent 2 xs; sb = v.sb ++ sent 3 xs })
  by_switch v [] h = simp append-nil
  by_switch v ((suc zero, m) ∷ xs) h = by_switch (record v { sc = v.sc ++ m ∷ [] }) xs h.1 ∙ simp append_assoc
  by_switch v ((suc (suc zero), m) ∷ xs) h = by_switch (record v { sa = v.sa ++ m ∷ [] }) xs h.1 ∙ simp append_assoc
  by_switch v ((suc (suc (suc zero)), m) ∷ xs) h = by_switch (record v { sb = v.sb ++ m ∷ [] }) xs h.1 ∙ simp append_assoc
  by_switch v x h = absurd h.0

  by_ctrl : (v : World T C O) (xs : List (ℕ × Msg C)) → Each (λ x. FromCtrl x.0 x.1) xs
      → links_after 4 1 xs (links v) ≡ links (record v { cs = v.cs ++ sent 0 xs; ca = v.ca ++ sent 2 xs; cb = v.cb ++ sent 3 xs })
  by_ctrl v [] h = simp append-nil
  by_ctrl v ((zero, m) ∷ xs) h = by_ctrl (record v { cs = v.cs ++ m ∷ [] }) xs h.1 ∙ simp append_assoc
  by_ctrl v ((suc (suc zero), m) ∷ xs) h = by_ctrl (record v { ca = v.ca ++ m ∷ [] }) xs h.1 ∙ simp append_assoc
  by_ctrl v ((suc (suc (suc zero)), m) ∷ xs) h = by_ctrl (record v { cb = v.cb ++ m ∷ [] }) xs h.1 ∙ simp append_assoc
  by_ctrl v x h = absurd h.0

  by_a : (v : World T C O) (xs : List (ℕ × Msg C)) → Each (λ x. From_a x.0 x.1) xs
      → links_after 4 2 xs (links v) ≡ links (record v { aw = v.aw ++ sent 0 xs; ac = v.ac ++ sent 1 xs })
  by_a v [] h = simp append-nil
  by_a v ((zero, m) ∷ xs) h = by_a (record v { aw = v.aw ++ m ∷ [] }) xs h.1 ∙ simp append_assoc
  by_a v ((suc zero, m) ∷ xs) h = by_a (record v { ac = v.ac ++ m ∷ [] }) xs h.1 ∙ simp append_assoc
  by_a v ((suc (suc k), m) ∷ xs) h = absurd h.0

  by_b : (v : World T C O) (xs : List (ℕ × Msg C)) → Each (λ x. From_b x.0 x.1) xs
      → links_after 4 3 xs (links v) ≡ links (record v { bw = v.bw ++ sent 0 xs; bc = v.bc ++ sent 1 xs })
  by_b v [] h = simp append-nil
  by_b v ((zero, m) ∷ xs) h = by_b (record v { bw = v.bw ++ m ∷ [] }) xs h.1 ∙ simp append_assoc
  by_b v ((suc zero, m) ∷ xs) h = by_b (record v { bc = v.bc ++ m ∷ [] }) xs h.1 ∙ simp append_assoc
  by_b v ((suc (suc k), m) ∷ xs) h = absurd h.0

  pub after_switch : (v : World T C O) (did : Step S Switch) → Each (λ x. From_switch x.0 x.1) did.sends
      → after (net v) 0 (as_node S Is_switch did) ≡ net (put_switch v did)
  after_switch v did h = ap (λ ls. record (net (put_switch v did)) { links = ls }) (by_switch v did.sends h)

  pub after_ctrl : (v : World T C O) (did : Step S (Ctrl C)) → Each (λ x. FromCtrl x.0 x.1) did.sends
      → after (net v) 1 (as_node S Is_ctrl did) ≡ net (put_ctrl v did)
  after_ctrl v did h = ap (λ ls. record (net (put_ctrl v did)) { links = ls }) (by_ctrl v did.sends h)

  pub after_a : (v : World T C O) (did : Step S (Inst T)) → Each (λ x. From_a x.0 x.1) did.sends
      → after (net v) 2 (as_node S (Is_inst 0) did) ≡ net (put_a v did)
  after_a v did h = ap (λ ls. record (net (put_a v did)) { links = ls }) (by_a v did.sends h)

  pub after_b : (v : World T C O) (did : Step S (Inst T)) → Each (λ x. From_b x.0 x.1) did.sends
      → after (net v) 3 (as_node S (Is_inst 1) did) ≡ net (put_b v did)
  after_b v did h = ap (λ ls. record (net (put_b v did)) { links = ls }) (by_b v did.sends h)

  -- labels of what stands there then
  pub labels_switch : (v : World T C O) (did : Step S Switch) → Labels S v → Each (λ x. From_switch x.0 x.1) did.sends → Labels S (put_switch v did)
  labels_switch v did l h = record { standing = at; kept = l.kept }
    where
      at : (pl : Place) → Each (Label S pl) (waits S pl (put_switch v did))
      at Sc = each-append (Label S Sc) v.sc (sent 1 did.sends) (l.standing Sc) (each_sent From_switch 1 did.sends h)
      at Sa = each-append (Label S Sa) v.sa (sent 2 did.sends) (l.standing Sa) (each_sent From_switch 2 did.sends h)
      at Sb = each-append (Label S Sb) v.sb (sent 3 did.sends) (l.standing Sb) (each_sent From_switch 3 did.sends h)
      at pl = l.standing pl

  pub labels_ctrl : (v : World T C O) (did : Step S (Ctrl C)) → Labels S v → IsSelected S did.node.kept → Each (λ x. FromCtrl x.0 x.1) did.sends
      → Labels S (put_ctrl v did)
  labels_ctrl v did l kept h = record { standing = at; kept = kept }
    where
      at : (pl : Place) → Each (Label S pl) (waits S pl (put_ctrl v did))
      at Cs = each-append (Label S Cs) v.cs (sent 0 did.sends) (l.standing Cs) (each_sent FromCtrl 0 did.sends h)
      at Ca = each-append (Label S Ca) v.ca (sent 2 did.sends) (l.standing Ca) (each_sent FromCtrl 2 did.sends h)
      at Cb = each-append (Label S Cb) v.cb (sent 3 did.sends) (l.standing Cb) (each_sent FromCtrl 3 did.sends h)
      at pl = l.standing pl

  pub labels_a : (v : World T C O) (did : Step S (Inst T)) → Labels S v → Each (λ x. From_a x.0 x.1) did.sends → Labels S (put_a v did)
  labels_a v did l h = record { standing = at; kept = l.kept }
    where
      at : (pl : Place) → Each (Label S pl) (waits S pl (put_a v did))
      at Aw = each-append (OnBack S) v.aw (sent 0 did.sends) (l.standing Aw) (each_sent From_a 0 did.sends h)
      at Ac = each-append (Label S Ac) v.ac (sent 1 did.sends) (l.standing Ac) (each_sent From_a 1 did.sends h)
      at pl = l.standing pl

  pub labels_b : (v : World T C O) (did : Step S (Inst T)) → Labels S v → Each (λ x. From_b x.0 x.1) did.sends → Labels S (put_b v did)
  labels_b v did l h = record { standing = at; kept = l.kept }
    where
      at : (pl : Place) → Each (Label S pl) (waits S pl (put_b v did))
      at Bw = each-append (OnBack S) v.bw (sent 0 did.sends) (l.standing Bw) (each_sent From_b 0 did.sends h)
      at Bc = each-append (Label S Bc) v.bc (sent 1 did.sends) (l.standing Bc) (each_sent From_b 1 did.sends h)
      at pl = l.standing pl

  -- the world after its node took this message
  abbrev pub result : Place → World T C O → Msg C → World T C O
  result In v m = put_switch v (switch_step S v.sw m)
  result Cs v m = put_switch v (switch_step S v.sw m)
  result Aw v m = put_switch v (switch_step S v.sw m)
  result Bw v m = put_switch v (switch_step S v.sw m)
  result Sc v m = put_ctrl v (ctrl_step S v.ct 0 m)
  result Ac v m = put_ctrl v (ctrl_step S v.ct 2 m)
  result Bc v m = put_ctrl v (ctrl_step S v.ct 3 m)
  result Sa v m = put_a v (inst_step S 0 v.a m)
  result Ca v m = put_a v (inst_step S 0 v.a m)
  result Sb v m = put_b v (inst_step S 1 v.b m)
  result Cb v m = put_b v (inst_step S 1 v.b m)
