-- A protocol's number follows from the two tests on its name.
use Rattle.std.proofs.Common.{◌≡◌, ℕ, List, Bool, true, false, cond, Some, None, refl}
use Rattle.std.specs.Str.{bytes_eq}
use Rattle.std.specs.Prelude.{codes}
use Rattle.flow_filter.specs.FilterText.{protocol_of}
use Rattle.flow_filter.proofs.filter_text.protocol.Goals as goal

by_tests : (name : List ℕ) (is_tcp is_udp : Bool) → is_tcp ≡ bytes_eq name (codes "tcp") → is_udp ≡ bytes_eq name (codes "udp")
    → cond is_tcp (Some 6) (cond is_udp (Some 17) None) ≡ protocol_of name
unfolding protocol_of
by_tests name is_tcp is_udp tcp udp = rw (tcp, udp)

pub returns-then-eq : goal.returns-then-eq
returns-then-eq c = by_tests c.args.name.now true _ (rw c.as_slice.ensures at (c.if-eq.ensures)) refl

pub returns-then-eq-2 : goal.returns-then-eq-2
returns-then-eq-2 c =
    by_tests c.args.name.now false true (rw c.as_slice.ensures at (c.if-eq.ensures)) (rw c.as_slice-else-eq.ensures at (c.if-eq-2.ensures))

pub returns-else-eq-2 : goal.returns-else-eq-2
returns-else-eq-2 c =
    by_tests c.args.name.now false false (rw c.as_slice.ensures at (c.if-eq.ensures)) (rw c.as_slice-else-eq.ensures at (c.if-eq-2.ensures))
