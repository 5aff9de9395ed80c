-- The numbers of commands that wait for the controller, copies' among them: which messages have one, what the switch sends of them, and what the
-- abstract network sees of them.
use Rattle.proof_outlines.proofs.Words.{◌≡◌, ℕ, zero, suc, ◌≤◌, Bool, true, false, Option, Some, None, List, [], ◌∷◌, ◌++◌, refl, sym, ap, ◌∙◌, subst, arith}
use Rattle.proof_outlines.proofs.Words.{if◌then◌else◌, ◌&&◌, ◌||◌, ◌==◌, not, nat_lt, option_map, filter_map, Decides-eqb, Semantics, Target, spelled, Packet}
use Rattle.proof_outlines.proofs.Words.{Command, Order, Msg, instance_node, SwitchState, sends_to_instance, goes_to, stop_messages, switch_step, has_room}
use Rattle.proof_outlines.proofs.Words.{is_there, target_of, at, MoveAsked, Rising, rising_less, Any, Old, New, ShareAsked, ShareMsg, Mark, Unit}
use Rattle.switch_node.specs.Switch.{Step, still}
use Rattle.std.proofs.lemmas.List.Elements.{filter_map-append}
use Rattle.actor_net.specs.Histories.{sent_for}
use Rattle.net_world.proofs.SentMessages.{sent_for-append}
use Rattle.proof_machines.proofs.net.Net as net
use Rattle.proof_outlines.proofs.joined.Words.{want_of, want_share_of, asked_of, is_wanted, Given, place, Label, shown, commands, asked_nums, Grows}
use Rattle.proof_outlines.proofs.joined.SwitchLemmas.{want_num}
use Rattle.proof_outlines.proofs.joined.JoinedSteps.{label}

-- the numbers of commands that wait for the controller
abbrev pub number_in : Msg → Option ℕ
number_in (Msg.Asked c) = Some c.op
number_in m = None

abbrev pub numbers : List Msg → List ℕ
numbers ms = filter_map number_in ms

abbrev pub IsUnasked : Msg → Type 0
IsUnasked m = numbers (m ∷ []) ≡ []

-- What the switch sends to the controller has the number of the command that it takes.
one_unasked : (to : ℕ) (m : Msg) → IsUnasked m → numbers (sent_for 1 ((to, m) ∷ [])) ≡ []
one_unasked to m e = elim (to == 1) as (λ b. numbers ((if b then m ∷ [] else []) ++ []) ≡ []) [ true ↦ e | false ↦ refl ]

none_stopped : (i : ℕ) → numbers (sent_for 1 (stop_messages i)) ≡ []
none_stopped zero = refl
none_stopped (suc i) = ap numbers (sent_for-append 1 (stop_messages i) ((instance_node i, Msg.Stop) ∷ []))
    ∙ filter_map-append number_in (sent_for 1 (stop_messages i)) (sent_for 1 ((instance_node i, Msg.Stop) ∷ []))
    ∙ ap (λ v. v ++ numbers (sent_for 1 ((instance_node i, Msg.Stop) ∷ []))) (none_stopped i) ∙ one_unasked (instance_node i) Msg.Stop refl

module _ (s : SwitchState) where
  abbrev Quiet : Step → Type 0
  Quiet step = numbers (sent_for 1 step.sends) ≡ []

  either_quiet : (b : Bool) (step : Step) → Quiet step → Quiet (if b then step else still s)
  either_quiet true step h = h
  either_quiet false step h = refl

  to_instance_quiet : (i : ℕ) (m : Msg) → IsUnasked m → Quiet (sends_to_instance s i m)
  to_instance_quiet i m e = either_quiet (nat_lt i s.instances) _ (one_unasked (instance_node i) m e)

  goes_quiet : (p : Packet) (t : Target) → Quiet (goes_to s p t)
  goes_quiet p Target.Controller = refl
  goes_quiet p (Target.Instance i) = either_quiet (nat_lt i s.instances) _ (one_unasked (instance_node i) _ refl)

  credit_quiet : (b : Bool) (step : Step) → Quiet step → Quiet (if b then still s else step)
  credit_quiet true step h = refl
  credit_quiet false step h = h

module _ {R : Type 0} (f : Semantics R) (g : Given) where
  pub switch_numbers : (s : SwitchState) (m : Msg) → numbers (sent_for 1 (switch_step s m).sends) ≡ commands f g (m ∷ [])
  switch_numbers s (Msg.InPacket p) = either_quiet s (has_room s) (goes_to s p (target_of s p)) (goes_quiet s p (target_of s p))
  switch_numbers s (Msg.InCommand c) = refl
  switch_numbers s Msg.InEnd = refl
  switch_numbers s (Msg.Forward to mark cell) = to_instance_quiet s to (Msg.Carry mark cell) refl
  switch_numbers s (Msg.Install op filter from to) =
      either_quiet s (nat_lt from s.instances && is_there s to) _ (one_unasked (instance_node from) (Msg.Fence op) refl)
  switch_numbers s (Msg.FenceTo op to) = to_instance_quiet s to (Msg.Fence op) refl
  switch_numbers s (Msg.Answered op) = refl
  switch_numbers s Msg.Finish = none_stopped s.instances
  switch_numbers s (Msg.Credit cell) = credit_quiet s ((s.flying == 0) || not (cell.pool == s.pool.name)) _ refl
  switch_numbers s m = refl

  pub commands_behind : (m : Msg) (ms : List Msg) → commands f g (m ∷ ms) ≡ commands f g (m ∷ []) ++ commands f g ms
  commands_behind (Msg.InCommand c) ms = refl
  commands_behind m ms = refl

  -- a command comes to the controller from the switch alone, and the input to the switch alone
  pub unasked_by : (s r : ℕ) (m : Msg) → Label f g s r m → (s == 0) && (r == 1) ≡ false → IsUnasked m
  unasked_by s r (Msg.Asked c) label off =
      let here : (s == 0) && (r == 1) ≡ true = rw ((Decides-eqb s 0).1 label.0, (Decides-eqb r 1).1 label.1) refl in
      let never : true ≡ false = sym here ∙ off in cc
  unasked_by s r m label off = refl

  pub no_command : (s r : ℕ) (m : Msg) → Label f g s r m → (s == 0) ≡ false → commands f g (m ∷ []) ≡ []
  no_command s r (Msg.InCommand c) label off = let never : true ≡ false = sym ((Decides-eqb s 0).1 label.0.0) ∙ off in cc
  no_command s r m label off = refl

  pub grows_low : (m : Msg) (b a : ℕ) → IsUnasked m → Grows m b a → a ≤ b
  grows_low (Msg.Asked c) b a e h = cc
  grows_low m b a e h = h

  -- Numbers as the abstract network sees them.
  abbrev is_asked : Any R → Bool
  is_asked (Old (net.Asked x)) = true
  is_asked (New (ShareMsg.Asked x)) = true
  is_asked a = false

  abbrev is_asked_in : Option (Any R) → Bool
  is_asked_in None = false
  is_asked_in (Some a) = is_asked a

  asked_behind : (a : Any R) (rest : List (Any R)) → is_asked a ≡ false → asked_nums (a ∷ rest) ≡ asked_nums rest
  asked_behind (Old (net.Asked x)) rest e = cc
  asked_behind (New (ShareMsg.Asked x)) rest e = cc
  asked_behind a rest e = refl

  unasked_shown : (m : Msg) → IsUnasked m → is_asked_in (shown f g m) ≡ false
  unasked_shown (Msg.Asked c) e = cc
  unasked_shown (Msg.Carry Mark.Plain cell) e = refl
  unasked_shown (Msg.Carry (Mark.Pass op) cell) e = refl
  unasked_shown (Msg.Carry (Mark.Shared op home) cell) e = refl
  unasked_shown (Msg.Install op filter from Target.Controller) e = refl
  unasked_shown (Msg.Install op filter from (Target.Instance to)) e = refl
  unasked_shown (Msg.Forward to Mark.Plain cell) e = refl
  unasked_shown (Msg.Forward to (Mark.Pass op) cell) e = refl
  unasked_shown (Msg.Forward to (Mark.Shared op home) cell) e = refl
  unasked_shown (Msg.Shared op chunk) e = by_entry (spelled f chunk)
    where
      by_entry : (o : Option (Unit × R)) → is_asked_in (option_map (λ entry. New (ShareMsg.Shared op entry)) o) ≡ false
      by_entry None = refl
      by_entry (Some entry) = refl
  unasked_shown m e = refl

  asked_number : (op : ℕ) (what : Order) (a : Any R) → asked_of f (place g) op what ≡ Some a → (rest : List (Any R))
      → asked_nums (a ∷ rest) ≡ op ∷ asked_nums rest
  asked_number op (Order.Move src dst filter keep) a e rest = by_want (want_of (place g) op (Order.Move src dst filter keep)) refl e
    where
      by_want : (o : Option MoveAsked) → want_of (place g) op (Order.Move src dst filter keep) ≡ o → option_map (λ w. Old (net.Asked w)) o ≡ Some a
          → asked_nums (a ∷ rest) ≡ op ∷ asked_nums rest
      by_want None at is = cc
      by_want (Some w) at is =
          let same : Old (net.Asked w) ≡ a = cc in
          subst (λ b. asked_nums (b ∷ rest) ≡ op ∷ asked_nums rest) same
          (ap (λ k. k ∷ asked_nums rest) (want_num op (Order.Move src dst filter keep) (place g) w at))
  asked_number op (Order.Copy src dst filter) a e rest = cc
  asked_number op (Order.Share members filter) a e rest = by_want (want_share_of (place g) op (Order.Share members filter)) refl e
    where
      by_want : (o : Option ShareAsked) → want_share_of (place g) op (Order.Share members filter) ≡ o → option_map (λ w. New (ShareMsg.Asked w)) o ≡ Some a
          → asked_nums (a ∷ rest) ≡ op ∷ asked_nums rest
      by_want None at is = cc
      by_want (Some w) at is =
          let same : New (ShareMsg.Asked w) ≡ a = cc in
          subst (λ b. asked_nums (b ∷ rest) ≡ op ∷ asked_nums rest) same
          (ap (λ k. k ∷ asked_nums rest) (is_wanted (place g) op (Order.Share members filter) w at).num)

  -- where all numbers rise, those that the abstract network sees do
  pub rising_shown : (b : ℕ) (ms : List Msg) (ks : List ℕ) → Rising b (numbers ms ++ ks) → Rising b (asked_nums (filter_map (shown f g) ms) ++ ks)
  rising_shown b [] ks h = h
  rising_shown b (m ∷ ms) ks h = by_message m (λ c. rising_shown c ms ks) h
    where
      by_shown : (o : Option (Any R)) (y : Msg) → shown f g y ≡ o → is_asked_in o ≡ false → Rising b (asked_nums (filter_map (shown f g) ms) ++ ks)
          → Rising b (asked_nums (filter_map (shown f g) (y ∷ ms)) ++ ks)
      by_shown None y e off rest = rw e rest
      by_shown (Some a) y e off rest = rw e (subst (λ v. Rising b (v ++ ks)) (sym (asked_behind a (filter_map (shown f g) ms) off)) rest)

      by_asked : (c : Command) (o : Option (Any R)) → asked_of f (place g) c.op c.what ≡ o → (b ≤ c.op)
          → Rising (suc c.op) (asked_nums (filter_map (shown f g) ms) ++ ks) → Rising b (asked_nums (filter_map (shown f g) (Msg.Asked c ∷ ms)) ++ ks)
      by_asked c None e low rest = rw e (rising_less b (suc c.op) (asked_nums (filter_map (shown f g) ms) ++ ks) (omega (arith, low)) rest)
      by_asked c (Some a) e low rest = rw e (subst (λ v. Rising b (v ++ ks)) (sym (asked_number c.op c.what a e (filter_map (shown f g) ms))) (low, rest))

      by_message : (y : Msg) → ((d : ℕ) → Rising d (numbers ms ++ ks) → Rising d (asked_nums (filter_map (shown f g) ms) ++ ks))
          → Rising b (numbers (y ∷ ms) ++ ks) → Rising b (asked_nums (filter_map (shown f g) (y ∷ ms)) ++ ks)
      by_message (Msg.Asked c) more r = by_asked c (asked_of f (place g) c.op c.what) refl r.0 (more (suc c.op) r.1)
      by_message y more r = by_shown (shown f g y) y refl (unasked_shown y refl) (more b r)
