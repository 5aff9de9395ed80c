-- The text of a filter is read as the filter.
use Rattle.std.proofs.Common.{◌≡◌, ℕ, ◌<◌, ◌^◌, Bool, true, false, cond, eqb, List, [], ◌∷◌, ◌++◌, Option}
use Rattle.std.proofs.Common.{None, Some, Ok, Err, option_map, refl, ap, sym, ◌∙◌, arith, inl, inr}
use Rattle.std.specs.Prelude.{codes}
use Rattle.std.specs.Option.{ForSome}
use Rattle.std.specs.List.{slice_split, join_with_byte}
use Rattle.std.specs.Str.{bytes_eq}
use Rattle.std.specs.Int.{IsInRange}
use Rattle.std.specs.Fmt.{decimal}
use Rattle.std.proofs.lemmas.Bool.{eqb-true, or_cases}
use Rattle.std.proofs.lemmas.Slice.Eq.{bytes_eq-Decides}
use Rattle.flow_filter.specs.declared.prefix.Prefix.{Prefix}
use Rattle.flow_filter.specs.declared.filter.Filter.{Filter}
use Rattle.flow_filter.specs.Filter.{IsFilter}
use Rattle.flow_filter.specs.Reading.{prefix_numbers}
use Rattle.flow_filter.specs.FilterText.{Fields, nothing, parse, print, pieces, piece, joined, protocol_of, protocol_text}
use Rattle.flow_filter.specs.FilterText.{prefix_text, with_named, with_fields, fields_of, is_printable, is_transport}
use Rattle.flow_filter.specs.FieldSteps.{Answer, with_field}
use Rattle.basics.specs.Results.{◌>>=◌}
use Rattle.basics.proofs.SplitLemmas.{Lacks, Lacks-append, Lacks-literal, split_once-append, split_once-lacks, split-Some, split-None}
use Rattle.basics.proofs.PrintedNumbers.{parse_number-printed, Lacks-decimal}
use Rattle.flow_filter.proofs.PrintedAddresses.{prefix-text, Lacks-prefix}

-- fields after fields
then-twice : (a : Answer) (xs ys : List (List ℕ)) → ((g : Fields) → with_fields g (xs ++ ys) ≡ (with_fields g xs >>= λ h. with_fields h ys))
    → (a >>= λ g. with_fields g (xs ++ ys)) ≡ ((a >>= λ g. with_fields g xs) >>= λ g. with_fields g ys)
then-twice (Ok f) xs ys before = before f
then-twice (Err fault) xs ys before = refl

with_fields-append : (f : Fields) (xs ys : List (List ℕ)) → with_fields f (xs ++ ys) ≡ (with_fields f xs >>= λ g. with_fields g ys)
with_fields-append f [] ys = refl
with_fields-append f (x ∷ xs) ys = then-twice (with_field f x) xs ys (λ g. with_fields-append g xs ys)

-- a step from what is read so far
and_then : (f g h : Fields) (xs ys : List (List ℕ)) → with_fields f xs ≡ Ok g → with_fields g ys ≡ Ok h → with_fields f (xs ++ ys) ≡ Ok h
and_then f g h xs ys first second = with_fields-append f xs ys ∙ ap (λ (a : Answer). a >>= λ g. with_fields g ys) first ∙ second

-- the state after each field
abbrev given : Option ℕ → Option (ℕ × ℕ) → Option ℕ → Option (ℕ × ℕ) → Option ℕ → Fields
given proto local lport remote rport = record { proto = proto; local = local; lport = lport; remote = remote; rport = rport }

read_proto : (proto : Option ℕ) → is_transport proto ≡ true
    → with_fields nothing (piece (codes "proto=") (option_map protocol_text proto)) ≡ Ok (given proto None None None None)
unfolding with_named protocol_of
read_proto None known = refl
read_proto (Some n) known = elim (or_cases (eqb n 6) (eqb n 17) known) [
  | inl tcp ↦ let is : n ≡ 6 = eqb-true n 6 tcp in rw is refl
  | inr udp ↦ let is : n ≡ 17 = eqb-true n 17 udp in rw is refl
]

read_local : (a : Option ℕ) (local : Option Prefix) → ForSome local (λ p. p.bits < 2 ^ 32)
    → with_fields (given a None None None None) (piece (codes "local=") (option_map prefix_text local))
    ≡ Ok (given a (option_map prefix_numbers local) None None None)
unfolding with_named
read_local a None fits = refl
read_local a (Some p) fits = rw (prefix-text p (fits p refl)) refl

read_lport : (a : Option ℕ) (b : Option (ℕ × ℕ)) (lport : Option ℕ) → ForSome lport (λ n. n < 2 ^ 16)
    → with_fields (given a b None None None) (piece (codes "lport=") (option_map decimal lport)) ≡ Ok (given a b lport None None)
unfolding with_named
read_lport a b None fits = refl
read_lport a b (Some n) fits = let small : n < 2 ^ 16 = fits n refl in rw (parse_number-printed 65535 n (omega arith) (omega arith)) refl

read_remote : (a : Option ℕ) (b : Option (ℕ × ℕ)) (c : Option ℕ) (remote : Option Prefix) → ForSome remote (λ p. p.bits < 2 ^ 32)
    → with_fields (given a b c None None) (piece (codes "remote=") (option_map prefix_text remote)) ≡ Ok (given a b c (option_map prefix_numbers remote) None)
unfolding with_named
read_remote a b c None fits = refl
read_remote a b c (Some p) fits = rw (prefix-text p (fits p refl)) refl

read_rport : (a : Option ℕ) (b : Option (ℕ × ℕ)) (c : Option ℕ) (d : Option (ℕ × ℕ)) (rport : Option ℕ) → ForSome rport (λ n. n < 2 ^ 16)
    → with_fields (given a b c d None) (piece (codes "rport=") (option_map decimal rport)) ≡ Ok (given a b c d rport)
unfolding with_named
read_rport a b c d None fits = refl
read_rport a b c d (Some n) fits = let small : n < 2 ^ 16 = fits n refl in rw (parse_number-printed 65535 n (omega arith) (omega arith)) refl

-- all pieces
read_pieces : (f : Filter) → IsFilter f → is_printable f ≡ true → with_fields nothing (pieces f) ≡ Ok (fields_of f)
unfolding pieces
read_pieces f fits known =
    let local = option_map prefix_numbers f.local in
    let remote = option_map prefix_numbers f.remote in
    let one = piece (codes "proto=") (option_map protocol_text f.proto) in
    let two = piece (codes "local=") (option_map prefix_text f.local) in
    let three = piece (codes "lport=") (option_map decimal f.lport) in
    let four = piece (codes "remote=") (option_map prefix_text f.remote) in
    let five = piece (codes "rport=") (option_map decimal f.rport) in
    let first = read_proto f.proto known in
    let second = and_then nothing _ (given f.proto local None None None) one two first (read_local f.proto f.local fits.local) in
    let third = and_then nothing _ (given f.proto local f.lport None None) (one ++ two) three second (read_lport f.proto local f.lport fits.lport) in
    let fourth = and_then nothing _ (given f.proto local f.lport remote None) (one ++ two ++ three) four third
    (read_remote f.proto local f.lport f.remote fits.remote) in
    and_then nothing _ (fields_of f) (one ++ two ++ three ++ four) five fourth (read_rport f.proto local f.lport remote f.rport fits.rport)

-- no piece has a comma
abbrev Lack : List (List ℕ) → Type 0
Lack [] = Unit {0}
Lack (text ∷ more) = Lacks 44 text × Lack more

Lack-append : (xs ys : List (List ℕ)) → Lack xs → Lack ys → Lack (xs ++ ys)
Lack-append [] ys in_xs in_ys = in_ys
Lack-append (x ∷ xs) ys in_xs in_ys = (in_xs.0, Lack-append xs ys in_xs.1 in_ys)

-- one field's piece
Lack-piece : {X : Type 0} → (print_of : X → List ℕ) → (name : List ℕ) (value : Option X) → Lacks 44 name → ForSome value (λ x. Lacks 44 (print_of x))
    → Lack (piece name (option_map print_of value))
Lack-piece print_of name None in_name in_value = tt
Lack-piece print_of name (Some x) in_name in_value = (Lacks-append 44 name (print_of x) in_name (in_value x refl), tt)

lacks_comma : IsInRange 48 57 44 → ⊥
lacks_comma range = omega arith

Lacks-protocol : (n : ℕ) (tcp : Bool) → Lacks 44 (cond tcp (codes "tcp") (codes "udp"))
Lacks-protocol n true = Lacks-literal 44 (codes "tcp") refl
Lacks-protocol n false = Lacks-literal 44 (codes "udp") refl

Lack-pieces : (f : Filter) → IsFilter f → Lack (pieces f)
unfolding pieces
Lack-pieces f fits =
    Lack-append _ _ (Lack-append _ _ (Lack-append _ _ (Lack-append _ _
    (Lack-piece protocol_text (codes "proto=") f.proto (Lacks-literal 44 (codes "proto=") refl) (λ n is. Lacks-protocol n (eqb n 6)))
    (Lack-piece prefix_text (codes "local=") f.local (Lacks-literal 44 (codes "local=") refl) (λ p is. Lacks-prefix 44 p lacks_comma refl refl)))
    (Lack-piece decimal (codes "lport=") f.lport (Lacks-literal 44 (codes "lport=") refl) (λ n is.
    let small : n < 2 ^ 16 = fits.lport n is in Lacks-decimal 44 n lacks_comma (omega arith))))
    (Lack-piece prefix_text (codes "remote=") f.remote (Lacks-literal 44 (codes "remote=") refl) (λ p is. Lacks-prefix 44 p lacks_comma refl refl)))
    (Lack-piece decimal (codes "rport=") f.rport (Lacks-literal 44 (codes "rport=") refl) (λ n is.
    let small : n < 2 ^ 16 = fits.rport n is in Lacks-decimal 44 n lacks_comma (omega arith)))

-- joined pieces are split at the commas between them
split-join : (first : List ℕ) (more : List (List ℕ)) → Lack (first ∷ more) → slice_split (λ b. eqb b 44) (join_with_byte 44 (first ∷ more)) ≡ first ∷ more
split-join first [] lack = split-None 44 first (sym (split_once-lacks 44 first lack.0))
split-join first (next ∷ more) lack =
    split-Some 44 (first ++ (44 ∷ join_with_byte 44 (next ∷ more))) first (join_with_byte 44 (next ∷ more))
    (sym (split_once-append 44 first (join_with_byte 44 (next ∷ more)) lack.0))
    ∙ ap (λ t. first ∷ t) (split-join next more lack.1)

-- the text of some fields isn't `any`, since `any` is no field
not_any : (f : Fields) (text : List ℕ) (test : Bool) → bytes_eq text (codes "any") ≡ test → with_fields nothing (slice_split (λ b. eqb b 44) text) ≡ Ok f
    → cond test (Ok nothing) (with_fields nothing (slice_split (λ b. eqb b 44) text)) ≡ Ok f
not_any f text false is read = read
not_any f text true is read = let any : text ≡ codes "any" = (bytes_eq-Decides text (codes "any")).0 is in
    let wrong = rw any at read in absurd cc

parse-joined : (f : Fields) (ps : List (List ℕ)) → with_fields nothing ps ≡ Ok f → Lack ps → parse (joined ps) ≡ Ok f
unfolding parse
parse-joined f [] read lack = read
parse-joined f (first ∷ more) read lack =
    not_any f (join_with_byte 44 (first ∷ more)) _ refl (ap (with_fields nothing) (split-join first more lack) ∙ read)

pub parse-print : (f : Filter) → IsFilter f → is_printable f ≡ true → parse (print f) ≡ Ok (fields_of f)
unfolding print
parse-print f fits known = parse-joined (fields_of f) (pieces f) (read_pieces f fits known) (Lack-pieces f fits)
