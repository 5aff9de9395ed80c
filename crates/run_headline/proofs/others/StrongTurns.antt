-- The lines of packets in a report of strong sharing: their numbers, and their outputs in turn.
use Rattle.run_headline.proofs.Words.{◌≡◌, ℕ, ◌+◌, ◌-◌, ◌<◌, ◌≤◌, Bool, true, false, ◌&&◌, cond, Option, None, List, [], ◌∷◌, ◌++◌, length, map, refl, sym, ap}
use Rattle.run_headline.proofs.Words.{◌∙◌, arith, ◌==◌, if◌then◌else◌, nat_lt, filter, filter_map, fold, scan, AllByRecursion, and-false, Decides-eqb}
use Rattle.run_headline.proofs.Words.{Decides-ltb, Packet, matches, flow_of, Output, Laws, Semantics, kept_after, output_for, takes, Msg, Note, Network, Each}
use Rattle.run_headline.proofs.Words.{times, IsRising, dones_in, numbered_times, times_filter, by_number, output_in, StrongNote, StrongNode, StrongCompleted}
use Rattle.run_headline.proofs.Words.{StrongPromises, StrongJob, entries, inner_notes, processed_of, IsRight, filter_few, is_of, outputs_to, packets_of}
use Rattle.run_headline.proofs.Words.{record_after, Subject, done_in, in_turn, IsStrongRun, strong_subject}
use Rattle.std.proofs.Common.{◌%◌}
use Rattle.std.specs.Prelude.{flat_map}
use Rattle.std.proofs.Math.Nat.{mod-lt}
use Rattle.nf_function.specs.declared.unit.Unit as units
use Rattle.net_world.proofs.FoundPackets.{one_by_one}
use Rattle.strong_share.specs.Words as words
use Rattle.strong_share.specs.Words.{is_taken, is_taken_at, member_of, queue_order}
use Rattle.strong_share.proofs.Kept.{given_there, raised_of}
use Rattle.strong_share.proofs.LogLemmas.{entry_numbers}
use Rattle.run_headline.proofs.FoundNumbers.{IsFound, all_found, rising_from}
use Rattle.run_headline.proofs.LineNumbers.{dones_times}
use Rattle.run_headline.proofs.UnitOutputs.{outputs_noted}
use Rattle.run_headline.specs.Strong.{is_turn, outs_for}
use Rattle.run_headline.proofs.others.LoggedOutputs.{noted}
use Rattle.run_headline.proofs.others.NumberedLines.{rising_sorted, some_here}
use Rattle.run_headline.proofs.others.NumberedOutputs.{beside, each_found, firsts, sorted_beside}
use Rattle.run_headline.proofs.others.PacketNumbers.{all_numbered, filter_numbered, filter_numbers, has_number, numbered, numbered_is, numbers, one_found}
use Rattle.run_headline.proofs.others.StrongWorlds.{completed, promises, right}

-- what no element passes leaves nothing
none_pass : {X : Type 0} (test : X → Bool) (xs : List X) → ((x : X) → test x ≡ false) → filter test xs ≡ []
none_pass test [] off = refl
none_pass test (x ∷ xs) off = ap (λ b. cond b (x ∷ filter test xs) (filter test xs)) (off x) ∙ none_pass test xs off

-- a number that stands later
later : (n m : ℕ) (ns : List ℕ) → 1 ≤ times n ns → 1 ≤ times n (m ∷ ns)
later n m ns some = omega (arith, some)

module _ {R : Type 0} (F : Type 0) (f : Semantics R) (laws : Laws f) (names : List (List ℕ)) (job : StrongJob) (w : Network (StrongNode F R) Msg StrongNote)
    (is : IsStrongRun F f names job w) where
  abbrev ps : List Packet
  ps = job.packets

  abbrev of : Subject R
  of = strong_subject f names job

  abbrev notes : List Note
  notes = inner_notes w.log

  abbrev raw : List (ℕ × Output)
  raw = filter_map output_in notes

  whole : StrongCompleted f job w
  whole = completed F f laws names job w is

  kept : StrongPromises f job w
  kept = promises F f laws names job w is

  rising : IsRising 1 (numbers ps)
  rising = one_by_one 1 ps is.is_job.numbers

  pub found : AllByRecursion (IsFound (λ p. p.number) ps) ps
  found = all_found (λ p. p.number) 1 ps rising

  -- the numbers of outputs are those of the packets
  raw_times : (n : ℕ) → times n (firsts raw) ≡ times n (numbers ps)
  raw_times n = ap (times n) (noted notes) ∙ whole.each_once n

  raw_once : (n : ℕ) → times n (firsts raw) ≤ 1
  raw_once n = let few = kept.once n in let same = ap (times n) (noted notes) in omega (arith, few, same)

  pub outs_are : map (λ o. o.0) (by_number output_in notes) ≡ numbers ps
  outs_are = rising_sorted raw (numbers ps) (rising_from 0 1 (numbers ps) (omega arith) rising) raw_times

  pub dones_are : (n : ℕ) → length (filter (λ d. d.0 == n) (filter_map done_in notes)) ≡ length (filter (λ p. p.number == n) ps)
  dones_are n = dones_times n notes ∙ whole.each_once n ∙ sym (numbered_times (λ p. p.number) n ps)

  -- what was queued is a packet's
  none_untaken : (n : ℕ) → is_taken job n ≡ false → (rs : List (ℕ × ℕ)) → Each (IsRight job) rs → times n (entry_numbers rs) ≡ 0
  none_untaken n off [] each = refl
  none_untaken n off (r ∷ rs) each = elim (n == r.0) as (λ b. (n == r.0) ≡ b → (if b then 1 else 0) + times n (entry_numbers rs) ≡ 0) [
    | true ↦ λ same. (let never : true ≡ false = sym each.0.0 ∙ ap (is_taken job) (sym ((Decides-eqb n r.0).0 same)) ∙ off in cc)
    | false ↦ λ _. (let rest = none_untaken n off rs each.1 in omega (arith, rest))
  ] refl

  queued_there : (n : ℕ) → 1 ≤ times n (queue_order w.log) → 1 ≤ times n (numbers ps)
  queued_there n some = elim (is_taken job n) as (λ b. is_taken job n ≡ b → 1 ≤ times n (numbers ps)) [
    | true ↦ λ on.
        let k = member_of job n in
        let own : (member_of job n == k) ≡ true = (Decides-eqb k k).1 refl in
        let mine : is_taken_at job k n ≡ true = ap (λ t. t && (member_of job n == k)) on ∙ own in
        let queued = sym (times_filter (λ q. member_of job q == k) n own (queue_order w.log))
        ∙ ap (times n) (sym (raised_of f laws job is.is_job k (entries w.log) (right F f laws names job w is)))
        ∙ ap (times n) (whole.raised_all k (given_there f laws job is.is_job n)) ∙ times_filter (is_taken_at job k) n mine (numbers ps) in
        omega (arith, queued, some)
    | false ↦ λ off. let none = none_untaken n off (entries w.log) (right F f laws names job w is) in absurd (omega (arith, some, none))
  ] refl

  named_in : (rs : List (ℕ × ℕ)) → ((n : ℕ) → 1 ≤ times n (entry_numbers rs) → 1 ≤ times n (numbers ps))
      → flat_map (λ e. filter (λ p. p.number == e.0) ps) rs ≡ map (numbered ps) (entry_numbers rs)
  named_in [] there = refl
  named_in (r ∷ rs) there =
      ap (λ l. l ++ flat_map (λ e. filter (λ p. p.number == e.0) ps) rs) (one_found r.0 1 ps rising (there r.0 (some_here r.0 (entry_numbers rs))))
      ∙ ap (λ l. numbered ps r.0 ∷ l) (named_in rs (λ n some. there n (later n r.0 (entry_numbers rs) some)))

  module _ (u : units.Unit) where
    abbrev part : Packet → Bool
    part = is_of of u

    abbrev mine : ℕ → Bool
    mine = words.is_of f job u

    abbrev went : List ℕ
    went = processed_of f job u w.log

    -- the packets in turn are those that were processed
    pub turn_is : in_turn of job.filter (entries w.log) u ≡ map (numbered ps) went
    turn_is = elim (takes job.filter u) as (λ b. takes job.filter u ≡ b
        → (if b then filter part (flat_map (λ e. filter (λ p. p.number == e.0) ps) (entries w.log)) else packets_of of u) ≡ map (numbered ps) went) [
          | true ↦ λ on. ap (filter part) (named_in (entries w.log) queued_there) ∙ filter_numbered ps part (queue_order w.log)
              ∙ ap (map (numbered ps)) (sym (whole.shared_whole u on))
          | false ↦ λ off. ap (filter part) (sym (all_numbered ps ps found)) ∙ filter_numbered ps part (numbers ps)
              ∙ ap (map (numbered ps)) (sym (whole.other_whole u off))
        ] refl

    fold_same : (now : Option R) (ns : List ℕ) → fold (kept_after f job.site) now (map (numbered ps) ns) ≡ words.fold f job now ns
    fold_same now [] = refl
    fold_same now (n ∷ ns) = fold_same (kept_after f job.site now (numbered ps n)) ns

    scan_same : (now : Option R) (ns : List ℕ) → scan (kept_after f job.site) (output_for f job.site) now (map (numbered ps) ns) ≡ words.outputs f job now ns
    scan_same now [] = refl
    scan_same now (n ∷ ns) = ap (λ l. output_for f job.site now (numbered ps n) ∷ l) (scan_same (kept_after f job.site now (numbered ps n)) ns)

    pub record_is : record_after of (in_turn of job.filter (entries w.log) u) ≡ words.fold f job None went
    record_is = ap (record_after of) turn_is ∙ fold_same None went

    -- the outputs in turn
    went_there : (n : ℕ) → 1 ≤ times n went → 1 ≤ times n (numbers ps)
    went_there n some = let few = filter_few mine n (words.done_numbers w.log) in let all = whole.each_once n in omega (arith, some, few, all)

    by_numbers : (ns : List ℕ) → ((n : ℕ) → 1 ≤ times n ns → 1 ≤ times n (numbers ps))
        → flat_map (λ p. filter (λ o. o.0 == p.number) (by_number output_in notes)) (map (numbered ps) ns) ≡ flat_map (λ n. beside n raw) ns
    by_numbers [] there = refl
    by_numbers (n ∷ ns) there =
        ap (λ l. l ++ flat_map (λ p. filter (λ o. o.0 == p.number) (by_number output_in notes)) (map (numbered ps) ns))
        (ap (λ m. beside m (by_number output_in notes)) (has_number n ps (there n (some_here n ns))) ∙ sorted_beside raw raw_once n)
        ∙ ap (λ l. beside n raw ++ l) (by_numbers ns (λ m some. there m (later m n ns some)))

    outputs_in : outs_for (by_number output_in notes) (map (numbered ps) went) ≡ words.outputs_of f job u w.log
    outputs_in =
        ap (map (λ o. o.1)) (by_numbers went went_there ∙ ap (λ l. flat_map (λ n. beside n raw) (filter mine l)) (sym (noted notes))
        ∙ each_found mine raw raw_once)
        ∙ outputs_noted mine notes

    pub outputs_are : outs_for (by_number output_in notes) (in_turn of job.filter (entries w.log) u) ≡ outputs_to of (in_turn of job.filter (entries w.log) u)
    outputs_are =
        ap (outs_for (by_number output_in notes)) turn_is ∙ outputs_in ∙ kept.outputs_are u ∙ sym (scan_same None went) ∙ ap (outputs_to of) (sym turn_is)

  -- whose turn it is
  module _ (k : ℕ) where
    turn_by : (p : Packet) (b : Bool) → (b && ((if b then (p.number - 1) % job.members else 0) == k)) ≡ (b && ((p.number - 1) % length names == k))
    turn_by p true = ap (λ m. (p.number - 1) % m == k) is.members
    turn_by p false = refl

    turns_agree : (qs : List Packet) → AllByRecursion (IsFound (λ p. p.number) ps) qs
        → AllByRecursion (λ p. is_taken_at job k p.number ≡ is_turn of job.filter k p) qs
    turns_agree [] there = tt
    turns_agree (p ∷ qs) there = (
      ap (λ (q : Packet). matches job.filter (flow_of job.site q).0
          && ((if matches job.filter (flow_of job.site q).0 then (p.number - 1) % job.members else 0) == k)) (numbered_is ps p there.0)
          ∙ turn_by p (matches job.filter (flow_of job.site p).0),
      turns_agree qs there.1,
    )

    some_members : 0 < job.members
    some_members = let two = is.is_job.some in omega (arith, two)

    beyond : (m : ℕ) → m < job.members → (k < job.members → ⊥) → (m == k) ≡ false
    beyond m low never = elim (m == k) as (λ b. (m == k) ≡ b → b ≡ false) [
      | true ↦ λ same. (let one : m ≡ k = (Decides-eqb m k).0 same in absurd (never (omega (arith, low, one))))
      | false ↦ λ _. refl
    ] refl

    pub events_are : map (λ e. e.0) (filter (λ e. e.1 == k) (entries w.log)) ≡ numbers (filter (is_turn of job.filter k) ps)
    events_are = elim (nat_lt k job.members) as (λ b. nat_lt k job.members ≡ b
        → map (λ e. e.0) (filter (λ e. e.1 == k) (entries w.log)) ≡ numbers (filter (is_turn of job.filter k) ps)) [
          | true ↦ λ low. whole.raised_all k ((Decides-ltb k job.members).0 low)
              ∙ filter_numbers (is_taken_at job k) (is_turn of job.filter k) ps (turns_agree ps found)
          | false ↦ λ high.
              let never : k < job.members → ⊥ = λ low. (let both : true ≡ false = sym ((Decides-ltb k job.members).1 low) ∙ high in cc) in
              raised_of f laws job is.is_job k (entries w.log) (right F f laws names job w is)
              ∙ none_pass (λ p. member_of job p == k) (queue_order w.log) (λ p. beyond (member_of job p) (given_there f laws job is.is_job p) never)
              ∙ ap numbers (sym (none_pass (is_turn of job.filter k) ps (λ p. no_turn p never)))
        ] refl
      where
        no_turn : (p : Packet) → (k < job.members → ⊥) → is_turn of job.filter k p ≡ false
        no_turn p never =
            ap (λ b. matches job.filter (flow_of job.site p).0 && b)
            (ap (λ m. (p.number - 1) % m == k) (sym is.members) ∙ beyond ((p.number - 1) % job.members) (mod-lt (p.number - 1) some_members) never)
            ∙ and-false (matches job.filter (flow_of job.site p).0)
