-- The lines of records in a report of strong sharing: the record of each unit, live at the first member, and standing by at the others where it is shared.
use Rattle.run_headline.proofs.Words.{◌≡◌, ℕ, suc, ◌+◌, ◌<◌, Bool, true, false, not, Option, Some, None, List, [], ◌∷◌, length, map, refl, sym, ap, ◌∙◌, arith}
use Rattle.run_headline.proofs.Words.{◌==◌, if◌then◌else◌, filter, option_to_list, slice_get, zip, flat_map, list_any, nat_tests, Laws, Semantics, kept_after}
use Rattle.run_headline.proofs.Words.{takes, Msg, TableView, part, Network, NamedInstance, by_unit, named_records, StrongNote, StrongNode, member_under}
use Rattle.run_headline.proofs.Words.{named_members, StrongJob, entries, processed_of, is_of, record_after, Subject, in_turn, under_each, IsStrongRun}
use Rattle.run_headline.proofs.Words.{strong_subject}
use Rattle.std.specs.Prelude.{drop, take}
use Rattle.std.specs.FinMap as finite
use Rattle.std.proofs.lemmas.Option.{slice_get-get_or}
use Rattle.nf_function.specs.declared.unit.Unit as units
use Rattle.strong_share.specs.declared.node.StrongNode.TheVariants.{Instance}
use Rattle.strong_share.specs.Tables.{is_home}
use Rattle.strong_share.specs.Words as words
use Rattle.strong_share.specs.Words.{live_in, packet_numbered, standby_in}
use Rattle.strong_share.proofs.Folds.{after, kept_is, seen}
use Rattle.strong_share.proofs.Scenes.{Scene}
use Rattle.strong_share.proofs.ServedPackets.{seen_by}
use Rattle.run_headline.proofs.LineNumbers.{any_own, has_some, none_both, one_kept}
use Rattle.run_headline.proofs.UnitLines.{each_line, line, sorted_own}
use Rattle.run_headline.specs.Strong.{lines_of}
use Rattle.run_headline.proofs.others.LoggedOutputs.{both_filtered}
use Rattle.run_headline.proofs.others.MemberLines.{AreNodes, at_first, at_none, at_others, first_long, lines_are, lines_at, names_told, nodes_from}
use Rattle.run_headline.proofs.others.PacketNumbers.{numbers, tests_agree}
use Rattle.run_headline.proofs.others.StrongTurns.{found, record_is}
use Rattle.run_headline.proofs.others.StrongWorlds.{completed, reached}

module _ {R : Type 0} (F : Type 0) (f : Semantics R) (laws : Laws f) (names : List (List ℕ)) (job : StrongJob) (w : Network (StrongNode F R) Msg StrongNote)
    (is : IsStrongRun F f names job w) where
  abbrev of : Subject R
  of = strong_subject f names job

  abbrev x : Scene F R
  x = (reached F f laws names job w is).scene

  abbrev there : List (NamedInstance R)
  there = named_members names w.nodes

  nodes : AreNodes x.member job.members w.nodes
  nodes =
      let shows = (reached F f laws names job w is).shows in
      nodes_from x.member x.switch x.controller job.members w.nodes shows.count shows.switch shows.controller shows.member

  many : length nodes.members ≡ length names
  many = nodes.many ∙ is.members

  pub named : map (λ i. i.name) there ≡ names
  named = ap (λ l. map (λ i. i.name) (map member_under (zip names l))) nodes.among ∙ names_told names x.member nodes.members many nodes.each

  within : (k : ℕ) → k < length names → k < job.members
  within k low = let same = is.members in omega (arith, low, same)

  at_node : (k : ℕ) → k < job.members → slice_get w.nodes (k + 2) ≡ Some (Instance (x.member k))
  at_node k low =
      let shows = (reached F f laws names job w is).shows in
      slice_get-get_or w.nodes (k + 2) (Instance (x.member k)) (omega (arith, shows.count, low)) ∙ ap Some (shows.member k low (Instance (x.member k)))

  module _ (u : units.Unit) where
    abbrev went : List ℕ
    went = processed_of f job u w.log

    abbrev kept : Option R
    kept = words.fold f job None went

    -- the lines of the unit, by the record at each member
    lines_by : (live : Bool) (at : ℕ → Option R) → ((k : ℕ) → k < job.members → finite.get (part (x.member k).table live) u ≡ at k)
        → lines_of u (by_unit live there) ≡ lines_at u at names
    lines_by live at each =
        sorted_own u (flat_map (named_records live) there) ∙ each_line u live there
        ∙ ap (λ l. flat_map (λ i. line u i.name (finite.get (part i.table live) u)) (map member_under (zip names l))) nodes.among
        ∙ lines_are u live at names x.member nodes.members many nodes.each (λ k low. each k (within k low))

    beyond : (k : ℕ) → (suc k == 0) ≡ false
    beyond k = grind (arith, nat_tests)

    live_is : (k : ℕ) → k < job.members → finite.get (x.member k).table.live u ≡ (if k == 0 then kept else None)
    live_is k low = sym (ap (live_in u) (at_node k low)) ∙ (completed F f laws names job w is).live_is u k low

    live_lines : lines_of u (by_unit true there) ≡ under_each u kept (take 1 names)
    live_lines =
        lines_by true (λ k. if k == 0 then kept else None) live_is
        ∙ at_first u kept (λ k. if k == 0 then kept else None) names refl (λ k. ap (λ b. if b then kept else None) (beyond k))

    pub state_is : lines_of u (by_unit true there) ≡ under_each u (record_after of (in_turn of job.filter (entries w.log) u)) (take 1 names)
    state_is = live_lines ∙ ap (λ o. under_each u o (take 1 names)) (sym (record_is F f laws names job w is u))

    -- what stands by
    standby_is : takes job.filter u ≡ true → (k : ℕ) → k < job.members → finite.get (x.member k).table.standby u ≡ (if k == 0 then None else kept)
    standby_is on k low = sym (ap (standby_in u) (at_node k low)) ∙ (completed F f laws names job w is).standby_is u k low on

    neither : (t : TableView R) (b : Bool) (o : Option R) → finite.get (part t b) u ≡ (if b then o else None) → finite.get (part t (not b)) u ≡ None
        → finite.get t.standby u ≡ None
    neither t true o own other = other
    neither t false o own other = own

    none_stands : takes job.filter u ≡ false → (k : ℕ) → k < job.members → finite.get (x.member k).table.standby u ≡ None
    none_stands off k low =
        let serves = (reached F f laws names job w is).holds.serves in
        neither (x.member k).table (is_home k) (seen f job u (words.done_numbers x.log))
        (serves.own k low u ∙ ap (λ b. if b then seen f job u (seen_by f job serves.stage serves.d k)
        else (if k == 0 then seen f job u (words.done_numbers x.log) else None)) off)
        (serves.other k low u)

    pub standby_lines_are : lines_of u (by_unit false there)
        ≡ (if takes job.filter u then under_each u (record_after of (in_turn of job.filter (entries w.log) u)) (drop 1 names) else [])
    standby_lines_are = elim (takes job.filter u) as (λ b. takes job.filter u ≡ b → lines_of u (by_unit false there)
        ≡ (if b then under_each u (record_after of (in_turn of job.filter (entries w.log) u)) (drop 1 names) else [])) [
          | true ↦ λ on.
              lines_by false (λ k. if k == 0 then None else kept) (standby_is on)
              ∙ at_others u kept (λ k. if k == 0 then None else kept) names refl (λ k. ap (λ b. if b then None else kept) (beyond k))
              ∙ ap (λ o. under_each u o (drop 1 names)) (sym (record_is F f laws names job w is u))
          | false ↦ λ off. lines_by false (λ k. None) (none_stands off) ∙ at_none u (λ k. None) names (λ k. refl)
        ] refl

    -- a unit with a packet has a record
    some_went : has_some went ≡ list_any (is_of of u) job.packets
    some_went =
        none_both went (filter (words.is_of f job u) (numbers job.packets))
        (both_filtered (words.is_of f job u) (words.done_numbers w.log) (numbers job.packets) (completed F f laws names job w is).each_once)
        ∙ any_own (words.is_of f job u) (is_of of u) job.packets (tests_agree job.packets (is_of of u) job.packets (found F f laws names job w is))

    pub one_state : length (lines_of u (by_unit true there)) ≡ (if list_any (is_of of u) job.packets then 1 else 0)
    one_state =
        ap length live_lines ∙ first_long u kept names (let two = is.is_job.some in let same = is.members in omega (arith, two, same))
        ∙ one_kept (λ o n. kept_after f job.site o (packet_numbered job n)) (λ o n. (after f job o n, kept_is f laws job is.is_job o n)) went
        ∙ ap (λ b. if b then 1 else 0) some_went
