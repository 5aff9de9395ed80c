-- Every run as nobody sees it: the switch counts the packets under way, and each choice lowers the weight of the world, which starts at eight for a
-- packet and 26.
use Rattle.two_machine.proofs.Words.{◌≡◌, ◌≤◌, ℕ, ◌+◌, ◌*◌, List, [], ◌∷◌, ◌++◌, length, refl, arith, Choice, run, IsRun, weigh, Rises, System, Laws, In_end}
use Rattle.two_machine.proofs.Words.{node_step, node_ready, in_packets, items, World, Nobody, with_waits}
use Rattle.two_machine.proofs.Runs.{Reached, Keeps, known}
use Rattle.two_machine.proofs.Promises.{start}
use Rattle.two_machine.proofs.Cells.{Counts, counts_keeps}
use Rattle.two_machine.proofs.Weights.{w_in, weight}
use Rattle.two_machine.proofs.WeightSteps.{lighter}
use Rattle.two_machine.proofs.TakenMessages.{labels_less, rule_there}
use Rattle.two_machine.proofs.Starts.{every_run}

module _ {U T C R O : Type 0} (S : System U T C R O) where
  late_weight : (ps : List ℕ) → weigh w_in (in_packets S ps ++ In_end ∷ []) ≡ 8 * length ps + 2
  late_weight [] = refl
  late_weight (p ∷ ps) = omega (arith, late_weight ps)

  input_weight : (early late : List ℕ) → weigh w_in (items S early late) ≡ 8 * length (early ++ late) + 4
  input_weight [] late = omega (arith, late_weight late)
  input_weight (p ∷ early) late = omega (arith, input_weight early late)

  module _ (laws : Laws S) (window : ℕ) (early late : List ℕ) (rises : Rises 0 (early ++ late)) where
    pub record Counted (n : ℕ) (v : World T C O) : Type 0 where
      pub counts : Counts S window v
      pub short : n + weight S v ≤ 8 * length (early ++ late) + 26

    goes : Keeps S laws Nobody tt (early ++ late) rises Counted
    goes n pl v x rest ready h q =
        let label = (labels_less S pl v x rest h.labels).0 in
        let no_drop = (known S laws Nobody tt (early ++ late) rises (with_waits S pl (x ∷ rest) v) h).no_drop in
        let less = lighter S pl v x rest label in
        let short = q.short in
        record { counts = counts_keeps S window pl v x rest label ready (rule_there S pl v (x ∷ rest) no_drop) q.counts; short = omega (arith, less, short) }

    pub nobody_run : (cs : List Choice) → IsRun (node_ready S) (node_step S) cs (start S window early late)
        → Reached S laws Nobody tt (early ++ late) rises Counted (length cs + 0) (run (node_step S) cs (start S window early late))
    nobody_run cs is =
        every_run S laws Nobody tt window early late rises Counted goes
        (record { counts = record { flying = refl; window_is = refl }; short = omega (arith, input_weight early late) }) cs is

    -- no run has more than eight choices for a packet, and 26
    pub bound : (cs : List Choice) → IsRun (node_ready S) (node_step S) cs (start S window early late) → length cs ≤ 8 * length (early ++ late) + 26
    bound cs is = let short = (nobody_run cs is).more.short in omega (arith, short)
