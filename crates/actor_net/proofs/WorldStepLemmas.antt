-- What a step leaves of a world, and that it stays one.
use Rattle.std.proofs.Common.{◌≡◌, ◌≢◌, ℕ, zero, suc, ◌+◌, ◌*◌, ◌<◌, ◌≤◌, false, List, [], ◌++◌, Some, length, get_or, set, refl, ◌∙◌, arith}
use Rattle.std.specs.Prelude.{slice_get, ◌==◌, ◌&&◌}
use Rattle.std.proofs.lemmas.Bool.Decides.{nat_tests}
use Rattle.std.proofs.lemmas.List.{get_or-set_other, length-set}
use Rattle.std.proofs.lemmas.Option.{get_or_from_slice_get}
use Rattle.actor_net.specs.Network.{Network, Stepped, IsWorld, after, links_after}

-- a link that isn't the one of node 0 to itself stands at another place
not_first : (n from to : ℕ) → 0 < n → (to == 0) && (from == 0) ≡ false → 0 ≢ from * n + to
not_first n zero to some other is = grind (arith, nat_tests)
not_first n (suc from) to some other is = let big : n ≤ suc from * n = grind arith in omega arith

pub loop_stays : {M : Type 0} (n from to : ℕ) (ls : List (List M)) (xs : List M) → 0 < n → (to == 0) && (from == 0) ≡ false
    → get_or (set ls (from * n + to) xs) 0 [] ≡ get_or ls 0 []
loop_stays n from to ls xs some other = get_or-set_other ls (from * n + to) 0 xs [] (not_first n from to some other)

-- a world stays one when a node changes and the links stay as many
pub still_world : {A M N : Type 0} (nodes : List A) (k : ℕ) (node : A) (links links' : List (List M)) (input : List M) (log log' : List N)
    → IsWorld (record { nodes = nodes; links = links; input = input; log = log }) → length links' ≡ length nodes * length nodes
    → get_or links' 0 [] ≡ get_or links 0 [] → IsWorld (record { nodes = set nodes k node; links = links'; input = input; log = log' })
still_world nodes k node links links' input log log' world count first =
    let same : length (set nodes k node) ≡ length nodes = length-set nodes k node in
    record {
      some_node = rw same world.some_node;
      few_nodes = rw same world.few_nodes;
      square = rw same count;
      no_loop = first ∙ world.no_loop;
    }

-- what a step made of the fields is what the definition says
pub made_after : {A M N : Type 0} (step : A → ℕ → M → Stepped A M N) (w : Network A M N) (k port : ℕ) (m : M) (read node new : A) (links : List (List M))
    (log : List N)
    → read ≡ get_or w.nodes k read → slice_get w.nodes k ≡ Some node → new ≡ (step read port m).node
    → links ≡ links_after (length w.nodes) k (step read port m).sends w.links → log ≡ w.log ++ (step read port m).notes
    → record { nodes = set w.nodes k new; links = links; input = w.input; log = log } ≡ after w k (step node port m)
made_after step w k port m read node new links log is_read is_node is_new is_links is_log =
    let same : read ≡ node = is_read ∙ get_or_from_slice_get w.nodes k node read is_node in
    rw (is_new, is_links, is_log, same) refl
