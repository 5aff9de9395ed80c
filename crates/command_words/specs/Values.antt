-- The values that single words spell. This project's own grammar; numbers are decimal without leading zeros.
use Rattle.std.specs.Prelude.{ℕ, Bool, true, false, not, ◌&&◌, ◌==◌, nat_le, if◌then◌else◌, List}
use Rattle.std.specs.Prelude.{[], ◌∷◌, length, map, Option, None, Some, is_some, option_map, codes}
use Rattle.std.specs.List.{slice_split}
use Rattle.std.specs.Str.{bytes_eq}
use Rattle.basics.specs.Bytes.{comma, slash, colon}
use Rattle.basics.specs.Options.{◌>>=◌}
use Rattle.basics.specs.Parsing.{split_once, parse_number}
use Rattle.flow_filter.specs.Limits.{most_instances, most_window}
use Rattle.flow_filter.specs.Name.{has_twice, is_name}
use Rattle.flow_filter.specs.Prefixes.{in_prefix, translated_bits}
use Rattle.flow_filter.specs.Reading.{address_of, prefix_of}
use Rattle.nf_function.specs.declared.kind.Kind.{Kind}
use Rattle.nf_function.specs.declared.kind.Kind.TheVariants.{Conntrack, Nat, Monitor}
use Rattle.actor_net.specs.declared.schedule.Schedule.{Schedule}
use Rattle.actor_net.specs.declared.schedule.Schedule.TheVariants.{First, Last, Number}
use Rattle.command_words.specs.declared.request.InstanceWords.{InstanceWords}
use Rattle.command_words.specs.Arguments.{Text}

-- only where the test is true
abbrev pub only : {A : Type 0} → Bool → Option A → Option A
only true next = next
only false next = None

-- the names of instances
abbrev pub names_of : List InstanceWords → List Text
names_of instances = map (λ (i : InstanceWords). i.name) instances

-- the greatest limit, which an instance has that names none
abbrev pub most_records : ℕ
most_records = 1000000

-- a limit: from 0 to the greatest
abbrev pub limit_of : Text → Option ℕ
limit_of text = parse_number most_records text

-- the name, with the limit and whether the instance reads chunks of version 1 alone
abbrev pub with_suffix : Text → Option (ℕ × Bool) → Option InstanceWords
with_suffix name suffix = only (is_name name) (option_map (λ s. record { name = name; limit = s.0; reads_old = s.1 }) suffix)

-- what stands after a name and a colon: `LIMIT`, `v1` or `LIMIT:v1`
unfoldable pub suffix_of : Text → Option (ℕ × Bool)
suffix_of text = if bytes_eq text (codes "v1") then Some (most_records, true) else parts (split_once colon text)
  where
    parts : Option (Text × Text) → Option (ℕ × Bool)
    parts None = option_map (λ limit. (limit, false)) (limit_of text)
    parts (Some p) = only (bytes_eq p.1 (codes "v1")) (option_map (λ limit. (limit, true)) (limit_of p.0))

-- `NAME`, `NAME:LIMIT`, `NAME:v1` or `NAME:LIMIT:v1`
unfoldable pub instance_of : Text → Option InstanceWords
instance_of text = parts (split_once colon text)
  where
    parts : Option (Text × Text) → Option InstanceWords
    parts None = with_suffix text (Some (most_records, false))
    parts (Some p) = with_suffix p.0 (suffix_of p.1)

-- each of the texts is an instance
abbrev pub all_instances : List Text → Option (List InstanceWords)
all_instances [] = Some []
all_instances (text ∷ more) = instance_of text >>= λ i. all_instances more >>= λ rest. Some (i ∷ rest)

-- LIST: 1 to 16 instances with commas between them, whose names differ
unfoldable pub instances_of : Text → Option (List InstanceWords)
instances_of text = all_instances (slice_split (λ b. b == comma) text) >>= λ i.
    only (nat_le 1 (length i) && (nat_le (length i) most_instances && not (has_twice (names_of i)))) (Some i)

-- PREFIX: `A.B.C.D/L`
unfoldable pub inside_of : Text → Option (ℕ × ℕ)
inside_of text = only (is_some (split_once slash text)) (prefix_of text)

-- the outside address: the translator needs one, and a /24 that doesn't hold it; the others have none
abbrev pub outside_of : Kind → ℕ × ℕ → Option Text → Option (Option ℕ)
outside_of Nat inside None = None
outside_of Nat inside (Some text) = address_of text >>= λ address.
    only (inside.1 == translated_bits && not (in_prefix inside.0 inside.1 address)) (Some (Some address))
outside_of Conntrack inside None = Some None
outside_of Conntrack inside (Some text) = None
outside_of Monitor inside None = Some None
outside_of Monitor inside (Some text) = None

-- a number from 1 to this one
unfoldable pub count_of : ℕ → Text → Option ℕ
count_of most text = parse_number most text >>= λ count. only (nat_le 1 count) (Some count)

-- W where it isn't given
abbrev pub default_window : ℕ
default_window = 256

-- W: 1 to 4096
unfoldable pub window_of : Option Text → Option ℕ
window_of None = Some default_window
window_of (Some text) = count_of most_window text

-- the greatest NUMBER: 2 ^ 64 - 1
abbrev pub most_number : ℕ
most_number = 18446744073709551615

-- NUMBER
abbrev pub given_number : Text → Option ℕ
given_number text = parse_number most_number text

-- `first`, `last` or a number; `first` where it isn't given
unfoldable pub schedule_of : Option Text → Option Schedule
schedule_of None = Some First
schedule_of (Some text) =
    if bytes_eq text (codes "first") then Some First
    else if bytes_eq text (codes "last") then Some Last
    else option_map Number (given_number text)

-- a file's name isn't empty
abbrev pub file_of : Text → Option Text
file_of [] = None
file_of (byte ∷ more) = Some (byte ∷ more)

-- a file's name, if it is given
abbrev pub file_if : Option Text → Option (Option Text)
file_if None = Some None
file_if (Some text) = file_of text >>= λ name. Some (Some name)
