-- In every run no more is processed of a unit than a record counts.
use Rattle.nf_net.proofs.Words.{ℕ, suc, ◌+◌, ◌≤◌, Bool, List, [], ◌∷◌, length, arith, if◌then◌else◌, length-map, Msg, Note, Network, Node, is_of, processed_of}
use Rattle.nf_net.proofs.Words.{most_counted, arrivals_in, dones_in, done_where, Unit, split, Setting}
use Rattle.net_world.specs.Input.{packets}
use Rattle.net_world.specs.Log.{Done}
use Rattle.nf_net.proofs.answers.ArrivalLemmas.{numbers, InRun}
use Rattle.nf_net.proofs.FrontLemmas.{front_length}
use Rattle.nf_net.proofs.PacketCounts.{few_done}

few_of : (mine : ℕ → Bool) (ds : List Done) → length (done_where mine ds) ≤ length ds
few_of mine [] = omega arith
few_of mine (d ∷ ds) =
    let rest = few_of mine ds in split (mine d.number) (λ b. length (if b then d ∷ done_where mine ds else done_where mine ds) ≤ suc (length ds))
    (λ _. omega (arith, rest)) (λ _. omega (arith, rest))

module _ {F R : Type 0} (setting : Setting F R) where
  open setting use {function as f, config as c, items, is_input as is}

  pub room : (w : Network (Node F R) Msg Note) → InRun setting w → (u : Unit) → length (processed_of f c items u w.log) ≤ most_counted
  room w h u =
      let own = length-map (done_where (is_of f c items u) (dones_in w.log)) (λ d. d.number) in
      let turn = front_length (arrivals_in w.log) (numbers items) (record { rest = _; whole = h.in_turn }) in
      let all = length-map (packets items) (λ p. p.number) in
      omega (arith, own, few_of (is_of f c items u) (dones_in w.log), few_done setting (length c.names + 2) w h.runs.joined, turn, all, is.few)
