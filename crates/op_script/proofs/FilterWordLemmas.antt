-- The text of a filter is a word.
use Rattle.op_script.proofs.Words.{ℕ, ◌<◌, ◌≤◌, ◌^◌, Bool, true, false, cond, eqb, List, [], ◌∷◌, Option, None, Some, option_map, refl, arith, length-append}
use Rattle.op_script.proofs.Words.{codes, ForSome, AllByRecursion, join_with_byte, decimal, Filter, IsFilter, print, Word}
use Rattle.flow_filter.specs.declared.prefix.Prefix.{Prefix}
use Rattle.basics.specs.Address.{address_text}
use Rattle.basics.specs.AddressSteps.{byte_of}
use Rattle.flow_filter.specs.FilterText.{piece, pieces, joined, protocol_text, prefix_text}
use Rattle.op_script.proofs.ScriptLineLemmas.{All-append}
use Rattle.op_script.proofs.PrintableWords.{Within, Within-append, Within-literal, IsWord, literal_word, decimal_word}

decimal_seen : (n : ℕ) → n < 2 ^ 64 → Within 33 127 (decimal n)
decimal_seen n small = (decimal_word n small).seen

port_seen : (n : ℕ) → n < 2 ^ 16 → Within 33 127 (decimal n)
port_seen n small = decimal_seen n (omega arith)

address_seen : (a : ℕ) → Within 33 127 (address_text a)
unfolding address_text
address_seen a =
    let dot : Within 33 127 (codes ".") = Within-literal 33 127 (codes ".") refl in
    Within-append 33 127 _ _ (Within-append 33 127 _ _ (Within-append 33 127 _ _ (Within-append 33 127 _ _ (Within-append 33 127 _ _ (Within-append 33 127 _ _
    (decimal_seen (byte_of a 24) (omega arith)) dot) (decimal_seen (byte_of a 16) (omega arith))) dot) (decimal_seen (byte_of a 8) (omega arith))) dot)
    (decimal_seen (byte_of a 0) (omega arith))

prefix_seen : (p : Prefix) → Within 33 127 (prefix_text p)
prefix_seen p = Within-append 33 127 (address_text p.bits) _ (address_seen p.bits)
    ((omega arith, omega arith), decimal_seen p.len (let within : p.len ≤ 32 = p.within in omega arith))

protocol_seen : (tcp : Bool) → Within 33 127 (cond tcp (codes "tcp") (codes "udp"))
protocol_seen true = Within-literal 33 127 (codes "tcp") refl
protocol_seen false = Within-literal 33 127 (codes "udp") refl

piece_words : {X : Type 0} (text : X → Word) (name : Word) (value : Option X) → IsWord name → ForSome value (λ x. Within 33 127 (text x))
    → AllByRecursion IsWord (piece name (option_map text value))
piece_words text name None is_name seen = tt
piece_words text name (Some x) is_name seen = (
  record {
    some = let some = is_name.some in omega (arith, length-append name (text x));
    seen = Within-append 33 127 name (text x) is_name.seen (seen x refl);
  },
  tt,
)

pieces_words : (f : Filter) → IsFilter f → AllByRecursion IsWord (pieces f)
unfolding pieces
pieces_words f fits =
    All-append IsWord _ _ (All-append IsWord _ _ (All-append IsWord _ _ (All-append IsWord _ _
    (piece_words protocol_text (codes "proto=") f.proto (literal_word (codes "proto=") refl) (λ n is. protocol_seen (eqb n 6)))
    (piece_words prefix_text (codes "local=") f.local (literal_word (codes "local=") refl) (λ p is. prefix_seen p)))
    (piece_words decimal (codes "lport=") f.lport (literal_word (codes "lport=") refl) (λ n is. port_seen n (fits.lport n is))))
    (piece_words prefix_text (codes "remote=") f.remote (literal_word (codes "remote=") refl) (λ p is. prefix_seen p)))
    (piece_words decimal (codes "rport=") f.rport (literal_word (codes "rport=") refl) (λ n is. port_seen n (fits.rport n is)))

-- words with commas between them are one word
pub join_word : (first : Word) (more : List Word) → AllByRecursion IsWord (first ∷ more) → IsWord (join_with_byte 44 (first ∷ more))
join_word first [] are = are.0
join_word first (next ∷ more) are = record {
  some = let some = are.0.some in omega (arith, length-append first (44 ∷ join_with_byte 44 (next ∷ more)));
  seen = Within-append 33 127 first (44 ∷ join_with_byte 44 (next ∷ more)) are.0.seen ((omega arith, omega arith), (join_word next more are.1).seen);
}

joined_word : (ps : List Word) → AllByRecursion IsWord ps → IsWord (joined ps)
joined_word [] are = literal_word (codes "any") refl
joined_word (first ∷ more) are = join_word first more are

pub filter_word : (f : Filter) → IsFilter f → IsWord (print f)
unfolding print
filter_word f fits = joined_word (pieces f) (pieces_words f fits)
