-- Of every run: a packet after a settle is processed where the rules of the switch send it, if no command after the settle has begun.
use Rattle.nf_net.proofs.Words.{◌≡◌, ℕ, Bool, true, false, Option, Some, None, List, ◌∷◌, ◌++◌, append_assoc, refl, sym, ap, ◌∙◌, subst, arith, ◌&&◌, ◌==◌, not}
use Rattle.nf_net.proofs.Words.{option_map_or, or_left, Output, Command, Msg, Note, Choice, Network, IsRun, run, Each, each-append, each_map, Node, is_begun}
use Rattle.nf_net.proofs.Words.{has_answered, is_busy, times_installed, packet_numbered, commands, order_numbered, job_of, installs_in, node_step, node_ready}
use Rattle.nf_net.proofs.Words.{first_owner, owner_after, members_after, is_home, owner, members, member_for, unit_numbered, IsMoving, IsPlace, Owns}
use Rattle.nf_net.proofs.Words.{Is_destination, Is_member, ArePlaces, has_packet, has_begun-append, installed-append, all_each, Given, Stands, In_first}
use Rattle.nf_net.proofs.Words.{In_second, stands, given, Unit, Order, Setting, start}
use Rattle.net_world.specs.Places.{goes_to}
use Rattle.net_world.specs.Settles.{IsAfterSettle, NoneBegan, Settles}
use Rattle.nf_net.proofs.RunWords.{run_answers, units_fit}
use Rattle.nf_net.proofs.AtMembers.{at_members}
use Rattle.nf_net.proofs.InstalledShares.{IsInstalledShare, says_of_shares}
use Rattle.nf_net.proofs.MemberLemmas.{IsSharedBy, shared_by, still_shared, InstalledIn, installed_in, times_there}
use Rattle.nf_net.proofs.SettleCounts.{AllAnswered, answered_more, all_answered_more, found, commands-append}
use Rattle.nf_net.proofs.SettleKeeps.{ArrivedIn, arrived_in, run_settles}

off_answered : (x y : Bool) → y ≡ true → x && not y ≡ false
off_answered true y h = rw h refl
off_answered false y h = refl

off_began : (x y : Bool) → x ≡ false → x && not y ≡ false
off_began x y h = rw h refl

module _ {F R : Type 0} (setting : Setting F R) where
  open setting use {function as f, config as c, items}

  abbrev at_start : Network (Node F R) Msg Note
  at_start = start setting

  module _ (cs : List Choice) (run_is : IsRun node_ready (node_step f) cs at_start) (later : List Msg)
      (settle : IsAfterSettle items later) (before after : List Note) (p i : ℕ) (output : Output) (has : has_packet p later ≡ true)
      (e : (run (node_step f) cs at_start).log ≡ before ++ Note.Processed p i output ∷ after) (none : NoneBegan later before) where
    abbrev u : Unit
    u = unit_numbered c items f.kind p

    abbrev tail : List Note
    tail = Note.Processed p i output ∷ after

    abbrev log : List Note
    log = (run (node_step f) cs at_start).log

    -- it arrived after the answers to what stands before the settle
    arrival : ArrivedIn before p
    arrival = arrived_in before p ((run_settles setting cs run_is).came before after p i output e)

    log_is : log ≡ arrival.first ++ Note.Arrived p ∷ (arrival.rest ++ tail)
    log_is = e ∙ ap (λ v. v ++ tail) arrival.whole ∙ append_assoc arrival.first (Note.Arrived p ∷ arrival.rest) tail

    answered : AllAnswered (commands settle.front) arrival.first
    answered = (run_settles setting cs run_is).answered settle.front later settle.whole arrival.first (arrival.rest ++ tail) p has log_is

    answered_there : AllAnswered (commands settle.front) before
    answered_there = subst (AllAnswered (commands settle.front)) (sym arrival.whole)
        (all_answered_more (commands settle.front) arrival.first (Note.Arrived p ∷ arrival.rest) answered)

    not_begun : Each (λ x. is_begun x.op before ≡ false) (commands later)
    not_begun = all_each (λ x. is_begun x.op before ≡ false) (commands later) none

    -- a fact of each command, by whether it stands before the settle or after it
    each_command : (P : Command → Type 0) → Each P (commands settle.front) → Each P (commands later) → Each P (commands items)
    each_command P a b = subst (λ xs. Each P xs) (sym (ap commands settle.whole ∙ commands-append settle.front (Msg.InSettle ∷ later)))
        (each-append P (commands settle.front) (commands later) a b)

    -- no move is under way
    none_busy : Each (λ x. is_busy x.op before ≡ false) (commands items)
    none_busy = each_command (λ x. is_busy x.op before ≡ false)
        (each_map {P = (λ x. has_answered x.op before ≡ true)} {Q = (λ x. is_busy x.op before ≡ false)}
        (λ x h. off_answered (is_begun x.op before) (has_answered x.op before) h) (commands settle.front) answered_there)
        (each_map {P = (λ x. is_begun x.op before ≡ false)} {Q = (λ x. is_busy x.op before ≡ false)}
        (λ x h. off_began (is_begun x.op before) (has_answered x.op before) h) (commands later) not_begun)

    not_moving : IsMoving items u before → ⊥
    not_moving m =
        let it = found (λ x. is_busy x.op before ≡ false) m.op (Order.Move m.source m.destination m.filter m.keep) (commands items) none_busy m.order in
        let never : false ≡ true = sym it.2 ∙ ap (λ k. is_busy k before) it.1 ∙ m.busy in
        cc

    -- a command that began was answered before the packet arrived
    begun_answered : Each (λ x. is_begun x.op before ≡ true → has_answered x.op arrival.first ≡ true) (commands items)
    begun_answered = each_command (λ x. is_begun x.op before ≡ true → has_answered x.op arrival.first ≡ true)
        (each_map {P = (λ x. has_answered x.op arrival.first ≡ true)} {Q = (λ x. is_begun x.op before ≡ true → has_answered x.op arrival.first ≡ true)}
        (λ x h _. h) (commands settle.front) answered)
        (each_map {P = (λ x. is_begun x.op before ≡ false)} {Q = (λ x. is_begun x.op before ≡ true → has_answered x.op arrival.first ≡ true)}
        (λ x off on. (let never : true ≡ false = sym on ∙ off in cc)) (commands later) not_begun)

    -- So the share that has the unit had it when the packet arrived
    module _ (ms : List (List ℕ)) (shared : members c items u before ≡ Some ms) where
      by : IsSharedBy (given setting) u (first_owner u c.routes) (installs_in before) ms
      by = shared_by (given setting) u (first_owner u c.routes) (installs_in before) ms shared

      there : InstalledIn before by.front by.op
      there = installed_in before by.front by.op by.back by.whole

      -- it was installed before
      had_before : (xs : List Note) → arrival.first ≡ there.first ++ Note.Installed by.op ∷ xs → members c items u arrival.first ≡ Some ms
      had_before xs here =
          ap (members_after c.names (order_numbered items) u (first_owner u c.routes))
          (ap installs_in here ∙ installed-append there.first (Note.Installed by.op ∷ xs) ∙ ap (λ v. v ++ by.op ∷ installs_in xs) there.before)
          ∙ still_shared (given setting) u (first_owner u c.routes) by.op by.front (installs_in xs) ms by.unshared by.its

      -- for after an answer it would be installed twice
      not_behind : (xs : List Note) → there.first ≡ arrival.first ++ xs → ⊥
      not_behind xs from =
          let tail_is : log ≡ there.first ++ Note.Installed by.op ∷ (there.rest ++ tail) = e ∙ ap (λ v. v ++ tail) there.whole
          ∙ append_assoc there.first (Note.Installed by.op ∷ there.rest) tail in
          let its : IsInstalledShare f c items there.first by.op ms by.its.filter = (says_of_shares setting cs run_is).installs
          there.first (there.rest ++ tail) by.op ms by.its.filter tail_is by.its.order_is in
          let began_so : is_begun by.op before ≡ true = ap (is_begun by.op) there.whole ∙ has_begun-append (λ k. k == by.op) there.first
          (Note.Installed by.op ∷ there.rest) ∙ or_left (is_begun by.op there.first) (is_begun by.op (Note.Installed by.op ∷ there.rest)) its.begun in
          let it = found (λ x. is_begun x.op before ≡ true → has_answered x.op arrival.first ≡ true) by.op (Order.Share ms by.its.filter) (commands items)
          begun_answered by.its.order_is in
          let on : has_answered by.op arrival.first ≡ true = ap (λ k. has_answered k arrival.first) (sym it.1)
          ∙ it.2 (ap (λ k. is_begun k before) it.1 ∙ began_so) in
          let on_there : has_answered by.op there.first ≡ true = ap (has_answered by.op) from ∙ answered_more by.op arrival.first xs on in
          let home : is_home c.names (order_numbered items) ms (owner c items u there.first) ≡ true =
          ap (λ ops. is_home c.names (order_numbered items) ms (owner_after c.names (order_numbered items) u (first_owner u c.routes) ops)) there.before
          ∙ by.its.home in
          let two = ap (times_installed by.op) tail_is ∙ times_there by.op there.first (there.rest ++ tail) in
          omega (arith, its.set_up u (units_fit setting p) by.its.takes_it home on_there, two, (run_answers setting cs run_is).installed_once by.op)

      shared_then : members c items u arrival.first ≡ Some ms
      shared_then =
          by_place (stands arrival.first (Note.Arrived p ∷ arrival.rest) there.first (Note.Installed by.op) there.rest (sym arrival.whole ∙ there.whole))
        where
          by_place : Stands arrival.first (Note.Arrived p ∷ arrival.rest) (record { before = there.first; item = Note.Installed by.op; after = there.rest })
              → members c items u arrival.first ≡ Some ms
          by_place (In_first xs here) = had_before xs here
          by_place (In_second xs from at) = absurd (not_behind xs from)

    goes_by : (o : Option (List (List ℕ))) → members c items u before ≡ o
        → goes_to c items f.kind p before ≡ option_map_or (λ names. member_for c items names (packet_numbered items p)) o (Some (owner c items u before))
    goes_by o at = ap (λ q. option_map_or (λ names. member_for c items names (packet_numbered items p)) q (Some (owner c items u before))) at

    owned : i ≡ owner c items u before → (o : Option (List (List ℕ))) → members c items u before ≡ o → goes_to c items f.kind p before ≡ Some i
    owned at None shared = goes_by None shared ∙ ap Some (sym at)
    owned at (Some ms) shared = goes_by (Some ms) shared
        ∙ at_members setting cs run_is arrival.first arrival.rest after p i output ms log_is (shared_then ms shared)

    by_place : IsPlace (job_of f c items) p before i → goes_to c items f.kind p before ≡ Some i
    by_place (Owns at) = owned at (members c items u before) refl
    by_place (Is_destination m at) = absurd (not_moving m.moving)
    by_place (Is_member at) = at

  pub settles : (cs : List Choice) → IsRun node_ready (node_step f) cs at_start → ArePlaces (job_of f c items) (run (node_step f) cs at_start).log
      → Settles c items f.kind (run (node_step f) cs at_start).log
  settles cs run_is places later before after p i output settle has e none =
      by_place cs run_is later settle before after p i output has e none (places before after p i output e)
