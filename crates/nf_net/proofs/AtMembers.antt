-- In every run, a packet that came when a share had its unit is processed at its member.
use Rattle.nf_net.proofs.Words.{◌≡◌, ℕ, ◌+◌, ◌≤◌, Bool, true, Some, List, [], ◌∷◌, ◌++◌, length, append_assoc, refl, sym, ap, ◌∙◌, arith, if◌then◌else◌, ◌==◌}
use Rattle.nf_net.proofs.Words.{is_some, filter, nat_tests, Output, same_unit_equiv, Msg, Note, instance_node, Choice, Network, Ran, ran_of, Node}
use Rattle.nf_net.proofs.Words.{times_installed, is_of, packet_numbered, arrivals_in, dones_in, installs_in, first_owner, members, member_for, unit_numbered}
use Rattle.nf_net.proofs.Words.{done-append, is_sys, Given, is_diverted, S, A, by_node, came_by, Joined, by_node-append, AllApart, Runs, run_beside, same_times}
use Rattle.nf_net.proofs.Words.{given, Unit, split, Setting, IsCourse, world_of}
use Rattle.proof_machines.proofs.unit.Stages as stages
use Rattle.net_world.specs.Fold.{times}
use Rattle.net_world.specs.Places.{AreAtMembers}
use Rattle.net_world.proofs.NumberCounts.{times-append}
use Rattle.proof_outlines.proofs.joined.Given.{diverted_in}
use Rattle.proof_outlines.proofs.joined.LogLemmas.{diverted_in-append}
use Rattle.proof_machines.proofs.whole.Fronts.{ran_more}
use Rattle.nf_net.proofs.RunWords.{arrivals_run, Busy, run_busy, Installs, run_installs, units_fit, count}
use Rattle.nf_net.proofs.paths.PathPromises.{came_once}
use Rattle.nf_net.proofs.MemberLemmas.{IsSharedBy, shared_by, members_diverted, InstalledIn, installed_in, times_there}
use Rattle.nf_net.proofs.MembersServed.{DoneAt, done_at}
use Rattle.nf_net.proofs.UnitShares.{IsOpenShare, open_installed, member_is}

pub times_those : (mine : ℕ → Bool) (p : ℕ) (qs : List ℕ) → times p (filter mine qs) ≤ times p qs
times_those mine p [] = omega arith
times_those mine p (q ∷ qs) = split (mine q) (λ b. times p (if b then q ∷ filter mine qs else filter mine qs) ≤ (if p == q then 1 else 0) + times p qs)
    (λ _. (let rest = times_those mine p qs in omega (arith, rest))) (λ _. (let rest = times_those mine p qs in omega (arith, rest)))

module _ {F R : Type 0} (setting : Setting F R) (n : ℕ) (count_is : n ≡ length setting.config.names + 2) (w : Network (Node F R) Msg Note)
    (j : Joined setting.function (given setting) n w) (apart : AllApart j.nodes.controller.operations) (b : Busy (given setting) w)
    (h : Installs (given setting) w) (few : (p : ℕ) → times p (arrivals_in w.log) ≤ 1) where
  open setting use {function as f, config as c, items}

  abbrev g : Given
  g = given setting

  module _ (before between after : List Note) (number i : ℕ) (output : Output) (names : List (List ℕ))
      (whole : w.log ≡ before ++ Note.Arrived number ∷ (between ++ Note.Processed number i output ∷ after))
      (shared : members c items (unit_numbered c items f.kind number) before ≡ Some names) where
    abbrev u : Unit
    u = unit_numbered c items f.kind number

    abbrev mine : ℕ → Bool
    mine = is_of f c items u

    own : mine number ≡ true
    own = same_unit_equiv.refl u

    abbrev rest : List Note
    rest = between ++ Note.Processed number i output ∷ after

    -- it came once, while the unit's packets were diverted
    once : stages.times number (filter mine (arrivals_in w.log)) ≤ 1
    once = let same = same_times number (filter mine (arrivals_in w.log)) in
        let less = times_those mine number (arrivals_in w.log) in let one = few number in omega (arith, same, less, one)

    diverted : is_diverted g u (installs_in before) ≡ true
    diverted = sym (members_diverted g u (first_owner u c.routes) (installs_in before)) ∙ ap is_some shared

    came : 1 ≤ stages.times number (diverted_in g mine u [] w.log)
    came =
        let split : diverted_in g mine u [] w.log
        ≡ diverted_in g mine u [] before ++ diverted_in g mine u (installs_in before) (Note.Arrived number ∷ rest) =
        ap (diverted_in g mine u []) whole ∙ diverted_in-append g mine u [] before (Note.Arrived number ∷ rest) in
        let head : diverted_in g mine u (installs_in before) (Note.Arrived number ∷ rest) ≡ number ∷ diverted_in g mine u (installs_in before) rest =
        rw (own, diverted) refl in
        let all = ap (times number) (split ∙ ap (λ v. diverted_in g mine u [] before ++ v) head) in
        let two = times-append number (diverted_in g mine u [] before) (number ∷ diverted_in g mine u (installs_in before) rest) in
        let self : (number == number) ≡ true = grind (arith, nat_tests) in
        let one : times number (number ∷ diverted_in g mine u (installs_in before) rest)
        ≡ 1 + times number (diverted_in g mine u (installs_in before) rest) =
        rw self refl in
        omega (arith, same_times number (diverted_in g mine u [] w.log), all, two, one)

    -- and was done
    abbrev front : List Note
    front = before ++ Note.Arrived number ∷ between

    abbrev ran : List Note → List Ran
    ran log = ran_of (S f g) (A f g) u (by_node f g (dones_in log))

    log_is : w.log ≡ front ++ Note.Processed number i output ∷ after
    log_is = whole ∙ sym (append_assoc before (Note.Arrived number ∷ between) (Note.Processed number i output ∷ after))

    done_there : ran_of (S f g) (A f g) u j.world.done ≡ ran front ++ (number, instance_node i) ∷ ran after
    done_there =
        let here : ran_of (S f g) (A f g) u (by_node f g (dones_in (Note.Processed number i output ∷ after))) ≡ (number, instance_node i) ∷ ran after =
        rw own refl in
        ap (ran_of (S f g) (A f g) u)
        (j.shown_is.done_is ∙ ap (λ log. by_node f g (dones_in log)) log_is ∙ ap (by_node f g) (done-append front (Note.Processed number i output ∷ after))
        ∙ by_node-append f g (dones_in front) (dones_in (Note.Processed number i output ∷ after)))
        ∙ ran_more (S f g) (A f g) (is_sys f g.site g.packet) u (by_node f g (dones_in front)) (by_node f g (dones_in (Note.Processed number i output ∷ after)))
        ∙ ap (λ v. ran front ++ v) here

    at : DoneAt (S f g) (A f g) (is_sys f g.site g.packet) u j.world (came_by f g w.log u) number (instance_node i) once came (ran front) (ran after) done_there
    at = done_at (S f g) (A f g) (is_sys f g.site g.packet) u j.world (came_by f g w.log u) number (instance_node i) once came (ran front) (ran after)
        done_there (j.shown_is.every.unit u)

    -- the share of the log is that of the network
    pub its_member : member_for c items names (packet_numbered items number) ≡ Some i
    its_member =
        let r : IsSharedBy g u (first_owner u c.routes) (installs_in before) names = shared_by g u (first_owner u c.routes) (installs_in before) names shared in
        let there : InstalledIn before r.front r.op = installed_in before r.front r.op r.back r.whole in
        let log : w.log ≡ there.first ++ Note.Installed r.op ∷ (there.rest ++ Note.Arrived number ∷ rest) = whole
        ∙ ap (λ v. v ++ Note.Arrived number ∷ rest) there.whole
        ∙ append_assoc there.first (Note.Installed r.op ∷ there.rest) (Note.Arrived number ∷ rest) in
        let some : 1 ≤ times_installed r.op w.log =
        let is_there = ap (times_installed r.op) log ∙ times_there r.op there.first (there.rest ++ Note.Arrived number ∷ rest) in omega (arith, is_there) in
        let o : IsOpenShare setting n count_is w j apart b r.op names r.its.filter = open_installed setting n count_is w j apart b h r.op names
        r.its.filter r.its.order_is some in
        member_is setting n count_is w j apart b u (units_fit setting number) r.op names r.its.filter o r.its.takes_it at.share at.its number i
        (sym at.at)

module _ {F R : Type 0} (setting : Setting F R) where
  open setting use {function as f, config as c, items}

  pub at_members : (cs : List Choice) → IsCourse setting cs → AreAtMembers c items f.kind (world_of setting cs).log
  at_members cs run_is before between after number instance output names whole shared =
      let r : Runs setting (world_of setting cs) = run_beside setting cs run_is in
      its_member setting (count setting) refl (world_of setting cs) r.joined r.beside.kept.apart
      (run_busy setting cs run_is).1 (run_installs setting cs run_is) (came_once setting
      (world_of setting cs) (arrivals_run setting cs run_is)) before between after number instance output names whole shared
