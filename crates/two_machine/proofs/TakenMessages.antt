-- Which message an enabled choice takes, and what is known of the world without it.
use Rattle.two_machine.proofs.Words.{◌≡◌, ◌≢◌, ℕ, suc, true, false, Some, List, [], ◌∷◌, ◌++◌, refl, ap, arith, ◌==◌, false≢true, nat_tests, Choice}
use Rattle.two_machine.proofs.Words.{is_enabled, Drops, System, Msg, Node, Is_switch, Is_ctrl, Is_inst, In_packet, In_start, In_end, node_ready, World, net}
use Rattle.two_machine.proofs.Words.{read, IsSelected, Label, Labels, Each, Place, In, Cs, Aw, Bw, Sc, Ac, Bc, Sa, Ca, Sb, Cb, choice, waits, with_waits}
use Rattle.two_machine.proofs.Words.{comes, result}
use Rattle.std.proofs.Common.{zero}
use Rattle.std.specs.Prelude.{nat_lt}
use Rattle.actor_net.specs.Network.{queue_at, takes_first}
use Rattle.two_machine.proofs.Arrivals.{coming, Ready}

module _ {U T C R O : Type 0} (S : System U T C R O) where
  -- what an enabled choice takes
  pub record Takes (v : World T C O) (k p : ℕ) : Type 0 where
    pub place : Place
    pub message : Msg C
    pub rest : List (Msg C)
    pub is : ◌≡◌ {A = Choice} (record { node = k; port = p }) (choice place)
    pub waits_is : waits S place v ≡ message ∷ rest
    pub ready : Ready S place v message

  by_link : (v : World T C O) (pl : Place) (node : Node T C) (l : List (Msg C)) → waits S pl v ≡ l
      → takes_first (node_ready S) (choice pl) (Some node) l ≡ true → ((message : Msg C) → Ready S pl v message) → Takes v (choice pl).node (choice pl).port
  by_link v pl node [] e on ready = absurd (false≢true on)
  by_link v pl node (message ∷ rest) e on ready = record { place = pl; message = message; rest = rest; is = refl; waits_is = e; ready = ready message }

  by_input : (v : World T C O) (l : List (Msg C)) → v.input ≡ l → takes_first (node_ready S) (choice In) (Some (Is_switch v.sw)) l ≡ true → Takes v 0 0
  by_input v [] e on = absurd (false≢true on)
  by_input v (message ∷ rest) e on = record { place = In; message = message; rest = rest; is = refl; waits_is = e; ready = on }

  far : (k : ℕ) → nat_lt (suc (suc (suc (suc k)))) 4 ≡ false
  far k = grind (arith, nat_tests)

  not_zero : (k : ℕ) → (suc (suc (suc (suc k))) == 0) ≡ false
  not_zero k = grind (arith, nat_tests)

  nothing : (v : World T C O) (k p : ℕ) (node : Node T C) (l : List (Msg C)) → l ≡ []
      → takes_first (node_ready S) (record { node = k; port = p }) (Some node) l ≡ true → Takes v k p
  nothing v k p node l e on = absurd (false≢true (rw e at on))

  pub finds : (v : World T C O) (k p : ℕ) → is_enabled (node_ready S) (net v) (record { node = k; port = p }) ≡ true → Takes v k p
  finds v zero zero on = by_input v v.input refl on
  finds v zero (suc zero) on = by_link v Cs (Is_switch v.sw) v.cs refl on (λ _. tt)
  finds v zero (suc (suc zero)) on = by_link v Aw (Is_switch v.sw) v.aw refl on (λ _. tt)
  finds v zero (suc (suc (suc zero))) on = by_link v Bw (Is_switch v.sw) v.bw refl on (λ _. tt)
  finds v (suc zero) zero on = by_link v Sc (Is_ctrl v.ct) v.sc refl on (λ _. tt)
  finds v (suc zero) (suc (suc zero)) on = by_link v Ac (Is_ctrl v.ct) v.ac refl on (λ _. tt)
  finds v (suc zero) (suc (suc (suc zero))) on = by_link v Bc (Is_ctrl v.ct) v.bc refl on (λ _. tt)
  finds v (suc (suc zero)) zero on = by_link v Sa (Is_inst 0 v.a) v.sa refl on (λ _. tt)
  finds v (suc (suc zero)) (suc zero) on = by_link v Ca (Is_inst 0 v.a) v.ca refl on (λ _. tt)
  finds v (suc (suc (suc zero))) zero on = by_link v Sb (Is_inst 1 v.b) v.sb refl on (λ _. tt)
  finds v (suc (suc (suc zero))) (suc zero) on = by_link v Cb (Is_inst 1 v.b) v.cb refl on (λ _. tt)
  finds v zero (suc (suc (suc (suc p)))) on =
      let port = not_zero p in
      nothing v 0 (suc (suc (suc (suc p)))) (Is_switch v.sw) (queue_at (net v) (record { node = 0; port = suc (suc (suc (suc p))) }))
      (rw (port, far p) refl) on
  finds v (suc zero) (suc (suc (suc (suc p)))) on =
      nothing v 1 (suc (suc (suc (suc p)))) (Is_ctrl v.ct) (queue_at (net v) (record { node = 1; port = suc (suc (suc (suc p))) })) (rw (far p) refl) on
  finds v (suc (suc zero)) (suc (suc (suc (suc p)))) on =
      nothing v 2 (suc (suc (suc (suc p)))) (Is_inst 0 v.a) (queue_at (net v) (record { node = 2; port = suc (suc (suc (suc p))) })) (rw (far p) refl) on
  finds v (suc (suc (suc zero))) (suc (suc (suc (suc p)))) on =
      nothing v 3 (suc (suc (suc (suc p)))) (Is_inst 1 v.b) (queue_at (net v) (record { node = 3; port = suc (suc (suc (suc p))) })) (rw (far p) refl) on
  finds v x p on = absurd (false≢true on)

  -- the labels of what is taken, and of what is left
  left_standing : (pl at : Place) (v : World T C O) (x : Msg C) (rest : List (Msg C)) → Each (Label S at) (waits S at (with_waits S pl (x ∷ rest) v))
      → Each (Label S at) (waits S at (with_waits S pl rest v))
  left_standing In In v x rest e = e.1
  left_standing Cs Cs v x rest e = e.1
  left_standing Aw Aw v x rest e = e.1
  left_standing Bw Bw v x rest e = e.1
  left_standing Sc Sc v x rest e = e.1
  left_standing Ac Ac v x rest e = e.1
  left_standing Bc Bc v x rest e = e.1
  left_standing Sa Sa v x rest e = e.1
  left_standing Ca Ca v x rest e = e.1
  left_standing Sb Sb v x rest e = e.1
  left_standing Cb Cb v x rest e = e.1
  left_standing pl at v x rest e = e

  pub labels_less : (pl : Place) (v : World T C O) (message : Msg C) (rest : List (Msg C)) → Labels S (with_waits S pl (message ∷ rest) v)
      → Label S pl message × Labels S (with_waits S pl rest v)
  labels_less In v x rest l = ((l.standing In).0, record { standing = λ at. left_standing In at v x rest (l.standing at); kept = l.kept })
  labels_less pl v x rest l = ((l.standing pl).0, record { standing = λ at. left_standing pl at v x rest (l.standing at); kept = l.kept })

  pub kept_there : (pl : Place) (v : World T C O) (xs : List (Msg C)) → Labels S (with_waits S pl xs v) → IsSelected S v.ct.kept
  kept_there In v xs l = l.kept
  kept_there pl v xs l = l.kept

  -- a world with what waits at a place written out
  pub written : (pl : Place) (v : World T C O) (xs : List (Msg C)) → waits S pl v ≡ xs → v ≡ with_waits S pl xs v
  written In v xs e = ap (λ l. with_waits S In l v) e
  written pl v xs e = ap (λ l. with_waits S pl l v) e

  -- what of the world a place doesn't change
  pub log_there : (pl : Place) (v : World T C O) (xs : List (Msg C)) → (with_waits S pl xs v).log ≡ v.log
  log_there In v xs = refl
  log_there pl v xs = refl

  pub rule_there : (pl : Place) (v : World T C O) (xs : List (Msg C)) → (with_waits S pl xs v).b.rule ≢ Drops → v.b.rule ≢ Drops
  rule_there In v xs h = h
  rule_there pl v xs h = h

  -- the packets that still stand in the input
  pub left_in : (pl : Place) (v : World T C O) (x : Msg C) (xs : List (Msg C)) → Label S pl x
      → read coming (with_waits S pl (x ∷ xs) v).input ≡ comes pl x ++ read coming (result S pl (with_waits S pl xs v) x).input
  left_in In v (In_packet p) xs h = refl
  left_in In v In_start xs h = refl
  left_in In v In_end xs h = refl
  left_in In v x xs h = absurd h
  left_in pl v x xs h = refl
