-- How many nodes there are at the start.
use Rattle.strong_share.proofs.Words.{◌≡◌, ℕ, ◌<◌, List, length, ap, arith, Global, StrongNode, Instance, StrongJob, IsStrongJob, first_member, first_members}
use Rattle.std.proofs.lemmas.List.FromFn.{length-map-range_with_len}
use Rattle.nf_function.specs.declared.kind.Kind.{Kind}
use Rattle.strong_share.specs.Start.{first_nodes}

pub length-first_members : (F R : Type 0) (alloc : Global) (job : StrongJob) (n : ℕ) → length (first_members {F = F} {R = R} alloc job n) ≡ n
length-first_members F R alloc job n = length-map-range_with_len (λ i. Instance (first_member {F = F} {R = R} alloc job i)) 0 n

pub few_nodes : {F R : Type 0} (kind : Kind) (alloc : Global) (job : StrongJob) (nodes : List (StrongNode F R)) → IsStrongJob kind job
    → nodes ≡ first_nodes alloc job → (0 < length nodes) × (length nodes < 256)
few_nodes {F = F} {R = R} kind alloc job nodes is same =
    let all = ap length same in
    (omega (arith, all), omega (arith, all, length-first_members F R alloc job job.members, is.few))
