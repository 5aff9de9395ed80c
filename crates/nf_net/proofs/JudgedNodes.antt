-- Each node's step keeps what is known of moves: an instance weighs the first piece that comes, by what it holds and by what the piece says.
use Rattle.nf_net.proofs.Words.{◌≡◌, ℕ, true, false, List, [], ◌∷◌, refl, ap, arith, Filter, Semantics, Answer, Piece, Msg, Note, units_in, SwitchState}
use Rattle.nf_net.proofs.Words.{switch_step, InstanceState, selected_chunks, EachSent, Each, Node, step_fits, Given, Label, Instance}
use Rattle.instance_worker.specs.Instance.{on_stream}
use Rattle.nf_net.proofs.JudgedTables.{is_own}
use Rattle.nf_net.proofs.RunWords.{Said, each_sent}
use Rattle.nf_net.proofs.VerdictLemmas.{times_given}

-- The switch and the controller note nothing of state that is given.
module _ (op : ℕ) where
  abbrev NoneGiven : List Note → Type 0
  NoneGiven notes = times_given op notes ≡ 0

  pub switch_given : (s : SwitchState) (m : Msg) → NoneGiven (switch_step s m).notes
  switch_given s = step_fits s (λ _ did. NoneGiven did.notes) (record {
    still = λ m. refl;
    to_controller = λ p. refl;
    to_instance = λ p i. refl;
    command = λ c. refl;
    ended = refl;
    forward = λ to m cell. refl;
    install = λ j filter from to. refl;
    fence = λ j to. refl;
    answered = λ j. refl;
    finish = refl;
    credit = λ cell. refl;
  })

  pub own_given : (notes : List Note) → Each (λ x. is_own x ≡ true) notes → NoneGiven notes
  own_given [] h = refl
  own_given (Note.Begun j ∷ notes) h = own_given notes h.1
  own_given (Note.Answered j answer ∷ notes) h = own_given notes h.1
  own_given (n ∷ notes) h = let never = h.0 in cc

-- What the switch sends, nothing is to be known of.
module _ {R : Type 0} (f : Semantics R) (g : Given) (P : ℕ → Piece → Type 0) (V : ℕ → Answer → Type 0) (G : ℕ → ℕ → Type 0) where
  switch_said : (r : ℕ) (m : Msg) → Label f g 0 r m → Said P V G 0 r m
  switch_said r (Msg.Piece op piece) label = absurd (let never = label.0.0 in omega (arith, never))
  switch_said r (Msg.Put op piece true) label = absurd (let never = label.0.0 in omega (arith, never))
  switch_said r (Msg.Put op piece false) label = absurd (let never = label.0.0 in omega (arith, never))
  switch_said r (Msg.PutOk op) label = absurd (let never = label.0 in omega (arith, never))
  switch_said r (Msg.PutNo op refused) label = absurd (let never = label.0.0 in omega (arith, never))
  switch_said r m label = tt

  pub switch_says : (sends : List (ℕ × Msg)) → EachSent (Label f g) 0 sends → EachSent (Said P V G) 0 sends
  switch_says = each_sent (Label f g) (Said P V G) 0 switch_said

module _ {F R : Type 0} where
  abbrev instance_in : InstanceState F R → Node F R → InstanceState F R
  instance_in d (Instance i) = i
  instance_in d other = d

  pub same_instance : (a b : InstanceState F R) → Instance a ≡ Instance b → a ≡ b
  same_instance a b e = ap (instance_in a) e

  pub stream_notes : (f : Semantics R) (i : InstanceState F R) (op : ℕ) (filter : Filter)
      → (on_stream f i op filter).notes ≡ Note.Exported i.index op (units_in (selected_chunks f i filter)) ∷ []
  unfolding on_stream
  stream_notes f i op filter = refl
