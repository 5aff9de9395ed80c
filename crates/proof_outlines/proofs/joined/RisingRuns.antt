-- The numbers of commands that wait, at the controller and in the input, rise from the next number on, along every run, copies' among them. So
-- where a copy is asked for, its number and those after it are new.
use Rattle.proof_outlines.proofs.Words.{◌≡◌, ℕ, suc, ◌+◌, ◌<◌, true, false, None, List, [], ◌∷◌, ◌++◌, drop, refl, sym, ap, ◌∙◌, subst, append_assoc}
use Rattle.proof_outlines.proofs.Words.{append-nil, arith, ◌&&◌, ◌==◌, nat_lt, filter_map, nat_tests, Decides-eqb, and-false, Semantics, Order, Msg, Note}
use Rattle.proof_outlines.proofs.Words.{Choice, Network, is_input, queue_at, world_next, at, put_on_link, less_first, Takes, taken_outcome, Taking, Rising}
use Rattle.proof_outlines.proofs.Words.{rising_less, Node, node_step, node_ready, either_way}
use Rattle.std.proofs.lemmas.List.Elements.{filter_map-append}
use Rattle.proof_outlines.proofs.joined.Words.{asked_of, Given, place, Label, count, shown, commands, asked_nums, node_of, Grows, Scene, Joined}
use Rattle.proof_outlines.proofs.joined.ControllerBegins.{OrderNext, CopiesNext}
use Rattle.proof_outlines.proofs.joined.RisingNumbers.{numbers, number_in, IsUnasked, switch_numbers, commands_behind, unasked_by, no_command, grows_low}
use Rattle.proof_outlines.proofs.joined.RisingNumbers.{rising_shown}
use Rattle.proof_outlines.proofs.joined.JoinedSteps.{NodeLeads, scene, label, input_after, step_leads, joined_after, after_world, takes_at, ready_at}
use Rattle.proof_outlines.proofs.joined.JoinedSteps.{joined_next, next_is}

module _ {F R : Type 0} (f : Semantics R) (g : Given) where
  -- all numbers that wait
  abbrev pub waits_of : Network (Node F R) Msg Note → List ℕ
  waits_of w = numbers (queue_at w (at 1 0)) ++ commands f g (queue_at w (at 0 0))

  pub record NumbersRise (n : ℕ) (w : Network (Node F R) Msg Note) (j : Joined f g n w) : Type 0 where
    pub rising : Rising j.world.next (waits_of w)

  module _ (n : ℕ) (count_is : n ≡ count f g + 2) (May : Scene F f g → Msg → Type 0) (leads : NodeLeads f g n May) where
    module _ (w : Network (Node F R) Msg Note) (k p : ℕ) (m : Msg) (rest : List Msg) (j : Joined f g n w) (takes : Takes (node_step f) n w k p
        (node_of j.nodes k) m rest) (was_ready : is_input (at k p) ≡ true → node_ready (node_of j.nodes k) m ≡ true) where
      abbrev after : Network (Node F R) Msg Note
      after = world_next (node_step f) w (at k p)

      abbrev sends : List (ℕ × Msg)
      sends = (node_step f (node_of j.nodes k) p m).sends

      its_label : Label f g p k m
      its_label = label f g n count_is May leads w k p m rest j takes was_ready

      -- what then waits for the controller, and in the input
      asked_after : queue_at after (at 1 0) ≡ less_first ((0 == p) && (1 == k)) (queue_at w (at 1 0)) ++ put_on_link n k 0 1 sends
      asked_after = (taken_outcome (node_step f) n w k p (node_of j.nodes k) m rest takes).waits 0 1

      items_after : queue_at after (at 0 0) ≡ less_first ((0 == k) && (0 == p)) (queue_at w (at 0 0))
      items_after = input_after f g n count_is May leads w k p m rest j takes was_ready

      -- where the same numbers wait
      same_numbers : (next : ℕ) → Grows m j.world.next next → IsUnasked m → waits_of after ≡ waits_of w → Rising j.world.next (waits_of w)
          → Rising next (waits_of after)
      same_numbers next grows unasked same h =
          subst (Rising next) (sym same) (rising_less next j.world.next (waits_of w) (grows_low f g m j.world.next next unasked grows) h)

      by_parts : (xs : List Msg) (ys : List Msg) → queue_at after (at 1 0) ≡ xs → queue_at after (at 0 0) ≡ ys → waits_of after ≡ numbers xs ++ commands f g ys
      by_parts xs ys a b = ap (λ v. numbers v ++ commands f g (queue_at after (at 0 0))) a ∙ ap (λ v. numbers xs ++ commands f g v) b

      -- the input without what the switch takes of it
      input_parts : k ≡ 0 → commands f g (m ∷ []) ++ commands f g (less_first ((0 == k) && (0 == p)) (queue_at w (at 0 0))) ≡ commands f g (queue_at w (at 0 0))
      input_parts zero_is = either_way (p == 0)
          (λ on.
          let p0 : p ≡ 0 = (Decides-eqb p 0).0 on in
          let both : (0 == k) && (0 == p) ≡ true = rw (zero_is, p0) refl in
          let here : queue_at w (at 0 0) ≡ m ∷ rest = ap (λ x. queue_at w (at x 0)) (sym zero_is) ∙ ap (λ x. queue_at w (at k x)) (sym p0)
          ∙ takes.waits in
          ap (λ b. commands f g (m ∷ []) ++ commands f g (less_first b (queue_at w (at 0 0)))) both
          ∙ ap (λ v. commands f g (m ∷ []) ++ commands f g (drop 1 v)) here ∙ sym (commands_behind f g m rest) ∙ ap (commands f g) (sym here))
          (λ off.
          let turned : (0 == p) ≡ false = grind (arith, nat_tests, off) in
          let neither : (0 == k) && (0 == p) ≡ false = ap (λ b. (0 == k) && b) turned ∙ and-false (0 == k) in
          ap (λ v. v ++ commands f g (less_first ((0 == k) && (0 == p)) (queue_at w (at 0 0)))) (no_command f g p k m its_label off)
          ∙ ap (λ b. commands f g (less_first b (queue_at w (at 0 0)))) neither)

      -- The switch's step.
      of_switch : k ≡ 0 → numbers (put_on_link n k 0 1 sends) ≡ commands f g (m ∷ []) → waits_of after ≡ waits_of w
      of_switch zero_is sent =
          let off : (0 == p) && (1 == k) ≡ false = rw zero_is (and-false (0 == p)) in
          by_parts (queue_at w (at 1 0) ++ put_on_link n k 0 1 sends) (less_first ((0 == k) && (0 == p)) (queue_at w (at 0 0)))
          (asked_after ∙ ap (λ b. less_first b (queue_at w (at 1 0)) ++ put_on_link n k 0 1 sends) off) items_after
          ∙ ap (λ v. v ++ commands f g (less_first ((0 == k) && (0 == p)) (queue_at w (at 0 0))))
          (filter_map-append number_in (queue_at w (at 1 0)) (put_on_link n k 0 1 sends) ∙ ap (λ v. numbers (queue_at w (at 1 0)) ++ v) sent)
          ∙ append_assoc (numbers (queue_at w (at 1 0))) (commands f g (m ∷ [])) (commands f g (less_first ((0 == k) && (0 == p)) (queue_at w (at 0 0))))
          ∙ ap (λ v. numbers (queue_at w (at 1 0)) ++ v) (input_parts zero_is)

      -- The step of another node sends nothing on the switch's link, and takes nothing of the input.
      of_other : (k == 0) ≡ false → waits_of after ≡ numbers (less_first ((0 == p) && (1 == k)) (queue_at w (at 1 0))) ++ commands f g (queue_at w (at 0 0))
      of_other off =
          let turned : (0 == k) ≡ false = grind (arith, nat_tests, off) in
          let none : put_on_link n k 0 1 sends ≡ [] = rw turned refl in
          let still : (0 == k) && (0 == p) ≡ false = rw turned refl in
          by_parts (less_first ((0 == p) && (1 == k)) (queue_at w (at 1 0))) (queue_at w (at 0 0))
          (asked_after ∙ ap (λ v. less_first ((0 == p) && (1 == k)) (queue_at w (at 1 0)) ++ v) none
          ∙ append-nil (less_first ((0 == p) && (1 == k)) (queue_at w (at 1 0)))) (items_after ∙ ap (λ b. less_first b (queue_at w (at 0 0))) still)

      -- The controller takes a message of the switch.
      of_taken : p ≡ 0 → k ≡ 1 → (next : ℕ) → Grows m j.world.next next → Rising j.world.next (waits_of w)
          → Rising next (numbers rest ++ commands f g (queue_at w (at 0 0)))
      of_taken p0 k1 next grows h = by_message m grows (subst (λ ms. Rising j.world.next (numbers ms ++ commands f g (queue_at w (at 0 0))))
          (ap (λ x. queue_at w (at x 0)) (sym k1) ∙ ap (λ x. queue_at w (at k x)) (sym p0) ∙ takes.waits) h)
        where
          by_message : (y : Msg) → Grows y j.world.next next → Rising j.world.next (numbers (y ∷ rest) ++ commands f g (queue_at w (at 0 0)))
              → Rising next (numbers rest ++ commands f g (queue_at w (at 0 0)))
          by_message (Msg.Asked c) low r =
              let first = r.0 in rising_less next (suc c.op) (numbers rest ++ commands f g (queue_at w (at 0 0))) (low (omega (arith, first))) r.1
          by_message y low r = rising_less next j.world.next (numbers rest ++ commands f g (queue_at w (at 0 0))) low r

      rising_next : (next : ℕ) → Grows m j.world.next next → Rising j.world.next (waits_of w) → Rising next (waits_of after)
      rising_next next grows h = either_way (k == 0) (λ zero_on. at_switch ((Decides-eqb k 0).0 zero_on))
          (λ other. either_way ((p == 0) && (k == 1)) (λ on. at_controller other on) (λ off. elsewhere other off))
        where
          at_switch : k ≡ 0 → Rising next (waits_of after)
          at_switch zero_is =
              let unasked : IsUnasked m = unasked_by f g p k m its_label
              (let off : (k == 1) ≡ false = rw zero_is refl in ap (λ b. (p == 0) && b) off ∙ and-false (p == 0)) in
              let two : nat_lt 1 n ≡ true = grind (arith, nat_tests, count_is) in
              let sent : numbers (put_on_link n k 0 1 sends) ≡ commands f g (m ∷ []) = rw zero_is (rw two (switch_numbers f g j.nodes.switch m)) in
              same_numbers next grows unasked (of_switch zero_is sent) h

          at_controller : (k == 0) ≡ false → (p == 0) && (k == 1) ≡ true → Rising next (waits_of after)
          at_controller other on =
              let p0 : p ≡ 0 = grind (arith, nat_tests, on) in
              let k1 : k ≡ 1 = grind (arith, nat_tests, on) in
              let both : (0 == p) && (1 == k) ≡ true = rw (p0, k1) refl in
              let here : queue_at w (at 1 0) ≡ m ∷ rest = ap (λ x. queue_at w (at x 0)) (sym k1) ∙ ap (λ x. queue_at w (at k x)) (sym p0) ∙ takes.waits in
              let left : waits_of after ≡ numbers rest ++ commands f g (queue_at w (at 0 0)) = of_other other
              ∙ ap (λ b. numbers (less_first b (queue_at w (at 1 0))) ++ commands f g (queue_at w (at 0 0))) both
              ∙ ap (λ v. numbers (drop 1 v) ++ commands f g (queue_at w (at 0 0))) here in
              subst (Rising next) (sym left) (of_taken p0 k1 next grows h)

          elsewhere : (k == 0) ≡ false → (p == 0) && (k == 1) ≡ false → Rising next (waits_of after)
          elsewhere other off =
              let turned : (0 == p) && (1 == k) ≡ false = grind (arith, nat_tests, off) in
              same_numbers next grows (unasked_by f g p k m its_label off)
              (of_other other ∙ ap (λ b. numbers (less_first b (queue_at w (at 1 0))) ++ commands f g (queue_at w (at 0 0))) turned) h

      pub numbers_after : NumbersRise n w j → (may : May (scene f g n count_is May leads w j) m)
          → NumbersRise n after (joined_after f g n count_is May leads w k p m rest j takes was_ready may)
      numbers_after h may =
          let l = step_leads f g n count_is May leads w k p m rest j takes was_ready may in
          record {
            rising = subst (λ v. Rising v.next (waits_of after)) (sym (after_world f g n count_is May leads w k p m rest j takes was_ready may))
                (rising_next l.world.next l.grows h.rising);
          }

      -- a copy that is asked for
      copy_next : NumbersRise n w j → (y : Msg) → m ≡ y → CopiesNext f g (scene f g n count_is May leads w j) y
      copy_next h (Msg.Asked cmd) e = by_order cmd.what refl
        where
          by_order : (what : Order) → cmd.what ≡ what → OrderNext f g (scene f g n count_is May leads w j) cmd what
          by_order (Order.Copy src dst filter) is =
              let own : Label f g p k (Msg.Asked cmd) = subst (Label f g p k) e its_label in
              let here : queue_at w (at 1 0) ≡ Msg.Asked cmd ∷ rest = ap (λ x. queue_at w (at x 0)) (sym own.1) ∙ ap (λ x. queue_at w (at k x)) (sym own.0)
              ∙ takes.waits ∙ ap (λ y. y ∷ rest) e in
              let all : Rising j.world.next (cmd.op ∷ (numbers rest ++ commands f g (queue_at w (at 0 0)))) =
              subst (λ ms. Rising j.world.next (numbers ms ++ commands f g (queue_at w (at 0 0)))) here h.rising in
              let hidden : asked_of f (place g) cmd.op cmd.what ≡ None = ap (asked_of f (place g) cmd.op) is in
              let left : filter_map (shown f g) (Msg.Asked cmd ∷ rest) ≡ filter_map (shown f g) rest = rw hidden refl in
              let low : 1 < n = omega (arith, count_is) in
              let seen : j.world.link 0 1 ≡ filter_map (shown f g) rest = j.links 0 1 (omega (arith, low)) low refl ∙ ap (filter_map (shown f g)) here ∙ left in
              record {
                fresh = all.0;
                later = subst (λ ms. Rising (suc cmd.op) (asked_nums ms ++ commands f g (queue_at w (at 0 0)))) (sym seen)
                    (rising_shown f g (suc cmd.op) rest (commands f g (queue_at w (at 0 0))) all.1);
              }
          by_order what is = tt
      copy_next h y e = tt

    -- after a choice of a run
    module _ (w : Network (Node F R) Msg Note) (c : Choice) (t : Taking node_ready (node_step f) n w c) (j : Joined f g n w) where
      pub numbers_next : NumbersRise n w j → (may : May (scene f g n count_is May leads w j) t.message)
          → NumbersRise n (world_next (node_step f) w c) (joined_next f g n count_is May leads w c t j may)
      numbers_next h may = subst (λ next. NumbersRise n (world_next (node_step f) w c) next) (sym (next_is f g n count_is May leads w c t j may))
          (numbers_after w c.node c.port t.message t.rest j (takes_at f g n count_is May leads w c t j) (ready_at f g n count_is May leads w c t j) h may)

      -- and of its message
      pub copies_next : NumbersRise n w j → CopiesNext f g (scene f g n count_is May leads w j) t.message
      copies_next h = copy_next w c.node c.port t.message t.rest j (takes_at f g n count_is May leads w c t j) (ready_at f g n count_is May leads w c t j) h
          t.message refl

  -- at the start no command is on its way to the controller
  pub numbers_first : (n : ℕ) → 1 < n → (w : Network (Node F R) Msg Note) (j : Joined f g n w) → queue_at w (at 1 0) ≡ [] → NumbersRise n w j
  numbers_first n low w j empty =
      let none : j.world.link 0 1 ≡ [] = j.links 0 1 (omega (arith, low)) low refl ∙ ap (filter_map (shown f g)) empty in
      record {
        rising = subst (λ ms. Rising j.world.next (numbers ms ++ commands f g (queue_at w (at 0 0)))) (sym empty)
            (subst (λ ms. Rising j.world.next (asked_nums ms ++ commands f g (queue_at w (at 0 0)))) none j.shown_is.rising);
      }
