-- Fronts of what was done of a unit, with nodes, are fronts of its packets alone.
use Rattle.proof_machines.proofs.net.Words.{List, ap, ◌∙◌, packets, IsFront}
use Rattle.std.proofs.lemmas.List.{map-append}
use Rattle.proof_machines.proofs.share.Share.{Ran}

pub front_packets : (xs ys : List Ran) → IsFront xs ys → IsFront (packets xs) (packets ys)
front_packets xs ys h = (packets h.0, ap packets h.1 ∙ map-append _ xs h.0)
