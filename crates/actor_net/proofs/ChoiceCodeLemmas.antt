-- Choices are read from the bytes that they are kept in as they were put there, one after another.
use Rattle.std.proofs.Common.{◌≡◌, ◌<◌, ◌≤◌, ◌==◌, ◌&&◌, ◌+◌, ◌-◌, ◌*◌, ◌/◌, ◌%◌, ℕ, zero, suc, min, Bool, true, false, if◌then◌else◌, ltb}
use Rattle.std.proofs.Common.{Option, None, Some, List, [], ◌∷◌, ◌++◌, length, take, drop, refl, sym, ap, subst, ◌∙◌, append-nil, arith}
use Rattle.std.specs.List.{flat_map}
use Rattle.std.proofs.lemmas.Bool.{and_parts, ltb-true, lt-ltb, le-ltb, ne_eqb}
use Rattle.std.proofs.lemmas.Grind.{flat_map-append}
use Rattle.std.proofs.lemmas.List.{append_assoc, length-append, take-append-drop}
use Rattle.std.proofs.Math.Seq.{take-append_seam}
use Rattle.actor_net.specs.declared.choice.Choice.{Choice}
use Rattle.actor_net.specs.ChoiceCodes.{AreCoded, coded_choices, choice_then, code_by, code_of, first_choice, short_choice, short_code}

-- a byte that stands for a choice is read as it
short_first : (c : Choice) (rest : List ℕ) (byte : ℕ) → byte < 255 → short_choice byte ≡ c → first_choice (byte ∷ rest) ≡ Some (c, rest)
short_first c rest byte small is =
    let other : (byte == 255) ≡ false = ne_eqb byte 255 (λ same. omega (arith, same, small)) in
    rw (other, is) refl

-- a choice that goes to one of the first two nodes
short_to : (c : Choice) → c.node < 2 → c.port < 63 → short_choice (c.node * 64 + c.port) ≡ c
short_to c node port =
    let low : ltb (c.node * 64 + c.port) 128 ≡ true = lt-ltb (c.node * 64 + c.port) 128 (omega (arith, node, port)) in
    let same_node : (c.node * 64 + c.port) / 64 ≡ c.node = omega (arith, node, port) in
    let same_port : (c.node * 64 + c.port) % 64 ≡ c.port = omega (arith, node, port) in
    rw (low, same_node, same_port) refl

-- and one that takes from one of them
short_from : (c : Choice) → c.port < 2 → c.node < 63 → short_choice (128 + c.port * 64 + c.node) ≡ c
short_from c port node =
    let high : ltb (128 + c.port * 64 + c.node) 128 ≡ false = le-ltb (128 + c.port * 64 + c.node) 128 (omega arith) in
    let same_node : (128 + c.port * 64 + c.node) % 64 ≡ c.node = omega (arith, node, port) in
    let same_port : (128 + c.port * 64 + c.node) / 64 - 2 ≡ c.port = omega (arith, node, port) in
    rw (high, same_node, same_port) refl

first_by : (c : Choice) (rest : List ℕ) (to from : Bool) → (ltb c.node 2 && ltb c.port 63) ≡ to → (ltb c.port 2 && ltb c.node 63) ≡ from
    → first_choice (code_by c (if to then Some (c.node * 64 + c.port) else if from then Some (128 + c.port * 64 + c.node) else None) ++ rest)
    ≡ Some (c, rest)
first_by c rest true from is other =
    let parts = and_parts (ltb c.node 2) (ltb c.port 63) is in
    let node = ltb-true c.node 2 parts.0 in
    let port = ltb-true c.port 63 parts.1 in
    short_first c rest (c.node * 64 + c.port) (omega (arith, node, port)) (short_to c node port)
first_by c rest false true other is =
    let parts = and_parts (ltb c.port 2) (ltb c.node 63) is in
    let port = ltb-true c.port 2 parts.0 in
    let node = ltb-true c.node 63 parts.1 in
    short_first c rest (128 + c.port * 64 + c.node) (omega (arith, node, port)) (short_from c port node)
first_by c rest false false _ _ = refl

-- a choice is read from its bytes, whatever comes after them
pub first_coded : (c : Choice) (rest : List ℕ) → first_choice (code_of c ++ rest) ≡ Some (c, rest)
first_coded c rest = first_by c rest (ltb c.node 2 && ltb c.port 63) (ltb c.port 2 && ltb c.node 63) refl refl

-- choices are read from their bytes
pub read_back : (cs : List Choice) (rest : List ℕ) → coded_choices (length cs) (flat_map code_of cs ++ rest) ≡ cs
unfolding coded_choices
read_back [] rest = refl
read_back (c ∷ cs) rest =
    let apart = append_assoc (code_of c) (flat_map code_of cs) rest in
    ap (λ bytes. coded_choices (suc (length cs)) bytes) apart
    ∙ ap (λ first. choice_then first (coded_choices (length cs))) (first_coded c (flat_map code_of cs ++ rest))
    ∙ ap (λ more. c ∷ more) (read_back cs rest)

-- bytes that spell these choices are read as them
pub spelled : (n : ℕ) (bytes : List ℕ) (cs : List Choice) → bytes ≡ flat_map code_of cs → n ≡ length cs → coded_choices n bytes ≡ cs
spelled n bytes cs is count =
    ap (λ m. coded_choices m bytes) count ∙ ap (λ b. coded_choices (length cs) b) (is ∙ sym (append-nil (flat_map code_of cs))) ∙ read_back cs []

pub are_coded : (n : ℕ) (bytes : List ℕ) (cs : List Choice) → bytes ≡ flat_map code_of cs → n ≡ length cs → AreCoded n bytes
are_coded n bytes cs is count =
    let same = spelled n bytes cs is count in
    record {
      coded = is ∙ ap (λ l. flat_map code_of l) (sym same);
      counted = ap length same ∙ sym count;
    }

joined : (n m : ℕ) (bytes more : List ℕ) → AreCoded n bytes → (cs : List Choice) → more ≡ flat_map code_of cs
    → bytes ++ more ≡ flat_map code_of (coded_choices n bytes ++ cs)
joined n m bytes more coded cs is =
    ap (λ b. b ++ more) coded.coded ∙ ap (λ b. flat_map code_of (coded_choices n bytes) ++ b) is ∙ sym (flat_map-append code_of (coded_choices n bytes) cs)

added : (n m : ℕ) (bytes : List ℕ) → AreCoded n bytes → (cs : List Choice) → m ≡ length cs → n + m ≡ length (coded_choices n bytes ++ cs)
added n m bytes coded cs count =
    let parts = length-append (coded_choices n bytes) cs in
    omega (arith, parts, coded.counted, count)

-- some choices and more of them
pub spelled_more : (n m : ℕ) (bytes more : List ℕ) → AreCoded n bytes → (cs : List Choice) → more ≡ flat_map code_of cs → m ≡ length cs
    → coded_choices (n + m) (bytes ++ more) ≡ coded_choices n bytes ++ cs
spelled_more n m bytes more coded cs is count =
    spelled (n + m) (bytes ++ more) (coded_choices n bytes ++ cs) (joined n m bytes more coded cs is) (added n m bytes coded cs count)

pub coded_more : (n m : ℕ) (bytes more : List ℕ) → AreCoded n bytes → (cs : List Choice) → more ≡ flat_map code_of cs → m ≡ length cs
    → AreCoded (n + m) (bytes ++ more)
coded_more n m bytes more coded cs is count =
    are_coded (n + m) (bytes ++ more) (coded_choices n bytes ++ cs) (joined n m bytes more coded cs is) (added n m bytes coded cs count)

some_bytes : (c : Choice) (short : Option ℕ) → 1 ≤ length (code_by c short)
some_bytes c (Some byte) = omega arith
some_bytes c None = omega arith

-- each choice takes a byte at least
takes_some : (cs : List Choice) → length cs ≤ length (flat_map code_of cs)
takes_some [] = omega arith
takes_some (c ∷ cs) =
    let more = takes_some cs in
    let parts = length-append (code_of c) (flat_map code_of cs) in
    let some = some_bytes c (short_code c) in
    omega (arith, more, parts, some)

pub few : (n : ℕ) (bytes : List ℕ) → AreCoded n bytes → n ≤ length bytes
few n bytes coded =
    let same = ap length coded.coded in
    let some = takes_some (coded_choices n bytes) in
    omega (arith, same, some, coded.counted)

-- where no choice comes first, none is read
pub none_in : (n : ℕ) (bytes : List ℕ) → first_choice bytes ≡ None → coded_choices n bytes ≡ []
unfolding coded_choices
none_in zero bytes none = refl
none_in (suc n) bytes none = ap (λ first. choice_then first (coded_choices n)) none

-- the first one, and then those after it
pub some_in : (n m : ℕ) (bytes : List ℕ) (c : Choice) (rest : List ℕ) → n ≡ suc m → first_choice bytes ≡ Some (c, rest)
    → coded_choices n bytes ≡ c ∷ coded_choices m rest
unfolding coded_choices
some_in n m bytes c rest next first = ap (λ k. coded_choices k bytes) next ∙ ap (λ f. choice_then f (coded_choices m)) first

-- the bytes of the first so many choices are those before the bytes of the others
pub front_bytes : (bytes rest : List ℕ) (cs : List Choice) (n : ℕ) → bytes ≡ flat_map code_of cs → rest ≡ flat_map code_of (drop n cs)
    → take (length bytes - length rest) bytes ≡ flat_map code_of (take n cs)
front_bytes bytes rest cs n is left =
    let front = flat_map code_of (take n cs) in
    let whole : bytes ≡ front ++ rest = is ∙ ap (λ l. flat_map code_of l) (sym (take-append-drop n cs)) ∙ flat_map-append code_of (take n cs) (drop n cs)
    ∙ ap (λ b. front ++ b) (sym left) in
    let sizes : length bytes ≡ length front + length rest = ap length whole ∙ length-append front rest in
    let size : length bytes - length rest ≡ length front = omega (arith, sizes) in
    ap (λ n. take n bytes) size ∙ ap (λ b. take (length front) b) whole ∙ take-append_seam front rest
