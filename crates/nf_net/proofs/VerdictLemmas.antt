-- What a log says of the state that was given for a command, as it goes on; and of a move whose first piece is taken once, after which
-- choices that was.
use Rattle.nf_net.proofs.Words.{◌≡◌, ℕ, ◌+◌, ◌≤◌, Bool, true, false, Option, Some, None, List, [], ◌∷◌, ◌++◌, drop, get_or, append_assoc, refl, sym, ap, ◌∙◌}
use Rattle.nf_net.proofs.Words.{subst, arith, if◌then◌else◌, ◌==◌, find, option_map, option_map_or, option_or, nat_tests, Semantics, Msg, Note, Choice, Network}
use Rattle.nf_net.proofs.Words.{run, world_next, queue_at, Node, node_step, course_of, exported_for, before_export, IsTakenAfter, any_picked, before_kept}
use Rattle.nf_net.proofs.Words.{before_new, before_one, Unit, split}
use Rattle.std.specs.Prelude.{filter_map}
use Rattle.std.proofs.lemmas.List.Elements.{filter_map-append}
use Rattle.std.proofs.lemmas.List.Folds.{find-append}
use Rattle.net_world.specs.Verdicts.{export_in}
use Rattle.net_world.proofs.PickedLists.{found_any, unfound_none}

-- how often state was given for a command
abbrev pub times_given : ℕ → List Note → ℕ
times_given op [] = 0
times_given op (Note.Exported instance k us ∷ notes) = (if k == op then 1 else 0) + times_given op notes
times_given op (n ∷ notes) = times_given op notes

module _ (op : ℕ) where
  pub times_given-append : (xs ys : List Note) → times_given op (xs ++ ys) ≡ times_given op xs + times_given op ys
  times_given-append [] ys = omega arith
  times_given-append (Note.Exported i k us ∷ xs) ys = let rest = times_given-append xs ys in omega (arith, rest)
  times_given-append (n ∷ xs) ys = times_given-append xs ys

  abbrev own : ℕ × List Unit → Bool
  own one = one.0 == op

  abbrev is_export : Note → Bool
  is_export n = option_map_or own (export_in n) false

  pub none_exported : (xs : List Note) → times_given op xs ≡ 0 → exported_for op xs ≡ None
  none_exported [] h = refl
  none_exported (Note.Exported i k us ∷ xs) h =
      split (k == op) (λ b. (if b then 1 else 0) + times_given op xs ≡ 0 → option_map (λ one. one.1)
      (if b then Some (k, us) else find own (filter_map export_in xs)) ≡ None)
      (λ _ e. absurd (omega (arith, e))) (λ _ e. none_exported xs (omega (arith, e))) h
  none_exported (n ∷ xs) h = none_exported xs h

  exported-append : (xs ys : List Note)
      → exported_for op (xs ++ ys) ≡ option_map (λ one. one.1) (option_or (find own (filter_map export_in xs)) (find own (filter_map export_in ys)))
  exported-append xs ys =
      ap (λ l. option_map (λ one. one.1) (find own l)) (filter_map-append export_in xs ys)
      ∙ ap (option_map (λ one. one.1)) (find-append own (filter_map export_in xs) (filter_map export_in ys))

  -- what was given before stays
  pub exported_kept : (xs ys : List Note) (us : List Unit) → exported_for op xs ≡ Some us → exported_for op (xs ++ ys) ≡ Some us
  exported_kept xs ys us h = exported-append xs ys ∙ first (find own (filter_map export_in xs)) h
    where
      first : (o : Option (ℕ × List Unit)) → option_map (λ one. one.1) o ≡ Some us
          → option_map (λ one. one.1) (option_or o (find own (filter_map export_in ys))) ≡ Some us
      first None is = cc
      first (Some one) is = is

  pub before_export_kept : (xs ys : List Note) (us : List Unit) → exported_for op xs ≡ Some us → before_export op (xs ++ ys) ≡ before_export op xs
  before_export_kept xs ys us h = before_kept is_export xs ys (any_picked export_in own xs ∙ found_any own (λ one. one.1) us (filter_map export_in xs) h)

  -- what is given first
  pub exported_new : (xs ys : List Note) → exported_for op xs ≡ None → exported_for op (xs ++ ys) ≡ exported_for op ys
  exported_new xs ys h = exported-append xs ys ∙ later (find own (filter_map export_in xs)) h
    where
      later : (o : Option (ℕ × List Unit)) → option_map (λ one. one.1) o ≡ None
          → option_map (λ one. one.1) (option_or o (find own (filter_map export_in ys))) ≡ option_map (λ one. one.1) (find own (filter_map export_in ys))
      later None is = refl
      later (Some one) is = cc

  pub before_export_new : (xs ys : List Note) → exported_for op xs ≡ None → before_export op (xs ++ ys) ≡ xs ++ before_export op ys
  before_export_new xs ys h = before_new is_export xs ys (any_picked export_in own xs ∙ unfound_none own (λ one. one.1) (filter_map export_in xs) h)

  -- before the note that it was given
  pub before_own : (instance : ℕ) (us : List Unit) → before_export op (Note.Exported instance op us ∷ []) ≡ []
  before_own instance us = let self : (op == op) ≡ true = grind (arith, nat_tests) in before_one is_export (Note.Exported instance op us) [] self

-- whether the first message is a move's first piece
abbrev pub is_first_piece : ℕ → List Msg → Bool
is_first_piece op (Msg.Put k piece true ∷ rest) = k == op
is_first_piece op ms = false

head_is : (c d : Choice) (xs ys : List Choice) → c ∷ xs ≡ d ∷ ys → c ≡ d
head_is c d xs ys e = ap (λ zs. get_or zs 0 c) e

tail_is : (c d : Choice) (xs ys : List Choice) → c ∷ xs ≡ d ∷ ys → xs ≡ ys
tail_is c d xs ys e = ap (λ zs. drop 1 zs) e

module _ {F R : Type 0} (f : Semantics R) (op : ℕ) where
  -- how often choices take the first piece of a move
  abbrev pub times_taken : List Choice → Network (Node F R) Msg Note → ℕ
  times_taken [] w = 0
  times_taken (c ∷ cs) w = (if is_first_piece op (queue_at w c) then 1 else 0) + times_taken cs (world_next (node_step f) w c)

  pub times_taken-append : (cs ds : List Choice) (w : Network (Node F R) Msg Note)
      → times_taken (cs ++ ds) w ≡ times_taken cs w + times_taken ds (run (node_step f) cs w)
  times_taken-append [] ds w = omega arith
  times_taken-append (c ∷ cs) ds w = let rest = times_taken-append cs ds (world_next (node_step f) w c) in omega (arith, rest)

  abbrev IsThere : Network (Node F R) Msg Note → List Choice → Choice → Type 0
  IsThere w front c = is_first_piece op (queue_at (run (node_step f) front w) c) ≡ true

  taken_counts : (w : Network (Node F R) Msg Note) (front back : List Choice) (c : Choice) → IsThere w front c → 1 ≤ times_taken (front ++ c ∷ back) w
  taken_counts w front back c h =
      let here : ◌≡◌ {A = ℕ} (if is_first_piece op (queue_at (run (node_step f) front w) c) then 1 else 0) 1 = rw h refl in
      omega (arith, times_taken-append front (c ∷ back) w, here)

  -- two in one list are two
  two_taken : (w : Network (Node F R) Msg Note) (c d : Choice) (front xs ys back : List Choice) (e : Choice) → IsThere w [] c → IsThere w (d ∷ front) e
      → c ∷ xs ≡ d ∷ (front ++ e ∷ back) → 2 ≤ times_taken (c ∷ xs) w
  two_taken w c d front xs ys back e first second is =
      let same = head_is c d xs (front ++ e ∷ back) is in
      let more = tail_is c d xs (front ++ e ∷ back) is in
      let rest : 1 ≤ times_taken (front ++ e ∷ back) (world_next (node_step f) w c) = taken_counts (world_next (node_step f) w c) front back e
      (subst (λ x. is_first_piece op (queue_at (run (node_step f) front (world_next (node_step f) w x)) e) ≡ true) (sym same) second) in
      let rest' : 1 ≤ times_taken xs (world_next (node_step f) w c) = subst (λ zs. 1 ≤ times_taken zs (world_next (node_step f) w c)) (sym more) rest in
      let here : ◌≡◌ {A = ℕ} (if is_first_piece op (queue_at w c) then 1 else 0) 1 = rw first refl in
      omega (arith, rest', here)

  same_front : (w : Network (Node F R) Msg Note) (xs ys back after : List Choice) (c d : Choice) → IsThere w xs c → IsThere w ys d
      → xs ++ c ∷ back ≡ ys ++ d ∷ after → times_taken (xs ++ c ∷ back) w ≤ 1 → ys ≡ xs
  same_front w [] [] back after c d first second is few = refl
  same_front w [] (y ∷ ys) back after c d first second is few = absurd (omega (arith, two_taken w c y ys back [] after d first second is, few))
  same_front w (x ∷ xs) [] back after c d first second is few =
      let two = two_taken w d x xs after [] back c second first (sym is) in
      let two' : 2 ≤ times_taken (x ∷ (xs ++ c ∷ back)) w = subst (λ zs. 2 ≤ times_taken zs w) (sym is) two in
      absurd (omega (arith, two', few))
  same_front w (x ∷ xs) (y ∷ ys) back after c d first second is few =
      let same = head_is x y (xs ++ c ∷ back) (ys ++ d ∷ after) is in
      let more = tail_is x y (xs ++ c ∷ back) (ys ++ d ∷ after) is in
      let second' = subst (λ z. is_first_piece op (queue_at (run (node_step f) ys (world_next (node_step f) w z)) d) ≡ true) (sym same) second in
      let rest = same_front (world_next (node_step f) w x) xs ys back after c d first second' more (omega (arith, few)) in
      ap (λ v. y ∷ v) rest ∙ ap (λ v. v ∷ xs) (sym same)

  there : (w : Network (Node F R) Msg Note) (cs front : List Choice) (t : IsTakenAfter f (course_of w cs) op front) → IsThere w front t.choice
  there w cs front t = let waits = t.waits in let own : (op == op) ≡ true = grind (arith, nat_tests) in rw waits own

  -- where it is taken once, those that stand before are these choices alone
  pub once_taken : (w : Network (Node F R) Msg Note) (cs front other : List Choice) → times_taken cs w ≤ 1 → IsTakenAfter f (course_of w cs) op front
      → IsTakenAfter f (course_of w cs) op other → other ≡ front
  once_taken w cs front other few t u = same_front w front other t.back u.back t.choice u.choice (there w cs front t) (there w cs other u)
      (t.whole ∙ sym u.whole) (subst (λ xs. times_taken xs w ≤ 1) (sym t.whole) few)

  -- it was taken also where choices follow
  unfoldable pub taken_more : (w : Network (Node F R) Msg Note) (cs front : List Choice) (c : Choice) → IsTakenAfter f (course_of w cs) op front
      → IsTakenAfter f (course_of w (cs ++ c ∷ [])) op front
  taken_more w cs front c t = record {
    choice = t.choice;
    back = t.back ++ c ∷ [];
    whole = sym (append_assoc front (t.choice ∷ t.back) (c ∷ [])) ∙ ap (λ xs. xs ++ c ∷ []) t.whole;
    piece = t.piece;
    rest = t.rest;
    waits = t.waits;
  }
