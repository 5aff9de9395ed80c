-- A filter that was read can be printed: its protocol has a name.
use Rattle.std.proofs.Common.{◌≡◌, ℕ, Bool, true, false, cond, List, [], ◌∷◌, Option, None, Some, Ok, Err, Result, refl, ap}
use Rattle.std.specs.Prelude.{codes, IfOk}
use Rattle.std.specs.Prelude.{◌==◌}
use Rattle.std.specs.List.{slice_split}
use Rattle.std.specs.Str.{bytes_eq}
use Rattle.flow_filter.specs.declared.filter.Filter.{Filter}
use Rattle.flow_filter.specs.declared.filter_text.FilterFault.{FilterFault}
use Rattle.basics.specs.Parsing.{split_once}
use Rattle.basics.specs.Results.{◌>>=◌}
use Rattle.flow_filter.specs.FilterText.{Fields, nothing, parse, once, protocol_of, with_named, with_fields, fields_of, is_printable, is_transport, AgreesBy}
use Rattle.flow_filter.specs.FieldSteps.{Answer, with_sides, with_field}

-- what a field gives is what `put` makes of a value that was read
record Put {X : Type 0} (new : Option X) (put : X → Fields) (g : Fields) : Type 0 where
  value : X
  is_read : new ≡ Some value
  is_put : put value ≡ g

once_put : {X : Type 0} → (given new : Option X) (wrong : FilterFault) (put : X → Fields) (g : Fields) → once given new wrong put ≡ Ok g → Put new put g
once_put (Some y) new wrong put g is = absurd cc
once_put None None wrong put g is = absurd cc
once_put None (Some x) wrong put g is = record { value = x; is_read = refl; is_put = cc }

-- one answer or another
either : (test : Bool) (a b : Answer) (g : Fields) (P : Type 0) → (a ≡ Ok g → P) → (b ≡ Ok g → P) → cond test a b ≡ Ok g → P
either true a b g P in_a in_b is = in_a is
either false a b g P in_a in_b is = in_b is

protocol_named : (tcp udp : Bool) (n : ℕ) → cond tcp (Some 6) (cond udp (Some 17) None) ≡ Some n → is_transport (Some n) ≡ true
protocol_named true udp n is = let tcp : 6 ≡ n = cc in rw (← tcp) refl
protocol_named false true n is = let udp : 17 ≡ n = cc in rw (← udp) refl
protocol_named false false n is = absurd cc

named_printable : (f g : Fields) (name value : List ℕ) → is_transport f.proto ≡ true → with_named f name value ≡ Ok g → is_transport g.proto ≡ true
unfolding with_named protocol_of
named_printable f g name value so_far is =
    let kept : f.proto ≡ g.proto → is_transport g.proto ≡ true = λ same. rw (← same) so_far in
    either (bytes_eq name (codes "proto")) _ _ g _
    (λ at. let put = once_put _ _ _ (λ x. record f { proto = Some x }) g at in
    let proto : Some put.value ≡ g.proto = ap (λ (h : Fields). h.proto) put.is_put in
    rw (← proto) (protocol_named _ _ put.value put.is_read))
    (either (bytes_eq name (codes "local")) _ _ g _ (λ at. kept (ap (λ (h : Fields). h.proto) (once_put _ _ _ (λ x. record f { local = Some x }) g at).is_put))
    (either (bytes_eq name (codes "lport")) _ _ g _ (λ at. kept (ap (λ (h : Fields). h.proto) (once_put _ _ _ (λ x. record f { lport = Some x }) g at).is_put))
    (either (bytes_eq name (codes "remote")) _ _ g _
    (λ at. kept (ap (λ (h : Fields). h.proto) (once_put _ _ _ (λ x. record f { remote = Some x }) g at).is_put))
    (either (bytes_eq name (codes "rport")) _ _ g _ (λ at. kept (ap (λ (h : Fields). h.proto) (once_put _ _ _ (λ x. record f { rport = Some x }) g at).is_put))
    (λ at. absurd cc))))) is

sides_printable : (f g : Fields) (sides : Option (List ℕ × List ℕ)) → is_transport f.proto ≡ true → with_sides f sides ≡ Ok g → is_transport g.proto ≡ true
sides_printable f g None so_far is = absurd cc
sides_printable f g (Some sides) so_far is = named_printable f g sides.0 sides.1 so_far is

and_printable : (a : Answer) (g : Fields) (more : Fields → Answer) → ((f : Fields) → a ≡ Ok f → is_transport f.proto ≡ true)
    → ((f : Fields) → is_transport f.proto ≡ true → more f ≡ Ok g → is_transport g.proto ≡ true) → (a >>= more) ≡ Ok g → is_transport g.proto ≡ true
and_printable (Ok f) g more first rest is = rest f (first f refl) is
and_printable (Err fault) g more first rest is = absurd cc

fields_printable : (f g : Fields) (texts : List (List ℕ)) → is_transport f.proto ≡ true → with_fields f texts ≡ Ok g → is_transport g.proto ≡ true
fields_printable f g [] so_far is = let same : f ≡ g = cc in rw (← same) so_far
fields_printable f g (text ∷ more) so_far is =
    and_printable (with_field f text) g (λ h. with_fields h more) (λ h. sides_printable f h (split_once 61 text) so_far) (λ h. fields_printable h g more) is

pub printable : (f : Fields) (r : Result Filter FilterFault) (texts : List (List ℕ)) → is_transport f.proto ≡ true → AgreesBy fields_of r (with_fields f texts)
    → IfOk r (λ g. is_printable g ≡ true)
printable f (Ok g) texts so_far read = fields_printable f (fields_of g) texts so_far read
printable f (Err fault) texts so_far read = tt

-- the same, of a whole text
pub parse_printable : (g : Fields) (text : List ℕ) → parse text ≡ Ok g → is_transport g.proto ≡ true
unfolding parse
parse_printable g text is = either (bytes_eq text (codes "any")) (Ok nothing) (with_fields nothing (slice_split (λ b. b == 44) text)) g _
    (λ at. let same : nothing ≡ g = cc in rw (← same) refl) (fields_printable nothing g (slice_split (λ b. b == 44) text) refl) is
