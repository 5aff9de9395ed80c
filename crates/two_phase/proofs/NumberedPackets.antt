-- The packets of an update by their numbers: each number finds its own packet, and what it finds fits its types.
use Rattle.two_phase.proofs.Words.{◌≡◌, ◌<◌, ℕ, zero, suc, Some, List, [], ◌∷◌, ◌++◌, map, take, drop, refl, ap, ◌∙◌, arith, ◌==◌, unwrap_or, Packet, Site}
use Rattle.two_phase.proofs.Words.{Fits, Each, packet_numbered, Rises}
use Rattle.std.proofs.Common.{◌^◌}
use Rattle.std.specs.Prelude.{find}
use Rattle.std.specs.List.{All}
use Rattle.nf_msgs.specs.declared.msg.Msg.TheVariants as msg
use Rattle.net_world.specs.Input.{IsRising, IsSteered, no_packet, packets}
use Rattle.net_world.proofs.FoundPackets.{found_fits, found_each}

abbrev pub numbers : List Packet → List ℕ
numbers ps = map (λ p. p.number) ps

-- the packets of an input of packets alone
pub packets_are : (ps : List Packet) → packets (map msg.InPacket ps) ≡ ps
packets_are [] = refl
packets_are (p ∷ ps) = ap (λ qs. p ∷ qs) (packets_are ps)

abbrev pub found_in : List Packet → ℕ → Packet
found_in ps n = unwrap_or (find (λ p. p.number == n) ps) no_packet

pub found_is : (ps : List Packet) (n : ℕ) → packet_numbered (map msg.InPacket ps) n ≡ found_in ps n
found_is ps n = ap (λ qs. found_in qs n) (packets_are ps)

-- the packet of each number fits its types
pub numbered_fits : (site : Site) (ps : List Packet) → site.inside.bits < 2 ^ 32 → All (IsSteered site) ps → (n : ℕ)
    → Fits site (packet_numbered (map msg.InPacket ps) n)
numbered_fits site ps inside each n = let is = found_is ps n in rw is (found_fits site ps inside each n)

-- numbers that rise
pub rises_from : (least : ℕ) (ns : List ℕ) → IsRising (suc least) ns → Rises least ns
rises_from least [] h = tt
rises_from least (n ∷ ns) h = (let first = h.0 in omega (arith, first), rises_from n ns h.1)

-- each number finds its own packet
pub all_numbered : (least : ℕ) (ps : List Packet) → IsRising least (numbers ps) → Each (λ q. packet_numbered (map msg.InPacket ps) q.number ≡ q) ps
all_numbered least ps r = by ps (found_each least ps r)
  where
    by : (qs : List Packet) → Each (λ q. find (λ p. p.number == q.number) ps ≡ Some q) qs → Each (λ q. packet_numbered (map msg.InPacket ps) q.number ≡ q) qs
    by [] h = tt
    by (q ∷ qs) h = (found_is ps q.number ∙ ap (λ o. unwrap_or o no_packet) h.0, by qs h.1)

-- before and after so many
pub each_take : {X : Type 0} (P : X → Type 0) (k : ℕ) (xs : List X) → Each P xs → Each P (take k xs)
each_take P (suc k) (x ∷ xs) h = (h.0, each_take P k xs h.1)
each_take y z xs h = tt

pub each_drop : {X : Type 0} (P : X → Type 0) (k : ℕ) (xs : List X) → Each P xs → Each P (drop k xs)
each_drop P zero xs h = h
each_drop P (suc k) [] h = tt
each_drop P (suc k) (x ∷ xs) h = each_drop P k xs h.1

pub numbers_split : (k : ℕ) (ps : List Packet) → numbers ps ≡ numbers (take k ps) ++ numbers (drop k ps)
numbers_split (suc k) (p ∷ ps) = ap (λ ns. p.number ∷ ns) (numbers_split k ps)
numbers_split x ps = refl
