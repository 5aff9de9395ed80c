-- What a record gives is told by its first 202 bytes.
use Rattle.std.proofs.Common.{◌≡◌, ℕ, ◌+◌, ◌-◌, ◌*◌, ◌/◌, ◌%◌, ◌≤◌, ◌<◌, ◌==◌, ◌&&◌, Bool, true, false, min, List, Option, None, Some, IfSome}
use Rattle.std.proofs.Common.{length, take, drop, get_or, nat_le, nat_lt, ◌^◌, inl, inr, Err, take_all, refl, ap, sym, ◌∙◌, subst, arith}
use Rattle.std.specs.Prelude.{option_map, option_and_then, if◌then◌else◌}
use Rattle.std.proofs.lemmas.List.{get_or-take, get_or-drop, drop-take, length-take}
use Rattle.std.proofs.lemmas.Bool.Decides.{leb_tells}
use lib.Seq.{take-take}
use Rattle.trace_reader.specs.declared.form.Form.{Form}
use Rattle.trace_reader.specs.declared.form.LinkType.{LinkType}
use Rattle.trace_reader.specs.declared.form.LinkType.TheVariants.{Ethernet, Raw}
use Rattle.trace_reader.specs.declared.steer.Parts.{Parts}
use Rattle.trace_reader.specs.Numbers.{u16_at, u32_at}
use Rattle.trace_reader.specs.Steered.{start_of, header_length, transport_length, total_length, parts_of, packet_with, packet_of, nanos_of}
use Rattle.trace_reader.specs.Opened.{byte_at, held_of, parts_at, payload_of, record_answer, steered_answer}
use Rattle.trace_reader.specs.declared.fault.TraceFault.TheVariants as fault

-- ---- single numbers

byte_at-front : (f : List ℕ) (i : ℕ) → i < 202 → byte_at (take 202 f) i ≡ byte_at f i
byte_at-front f i h = get_or-take 202 f i 0 h

behind_front : (f : List ℕ) (i j : ℕ) → i + j < 202 → get_or (drop i (take 202 f)) j 0 ≡ get_or (drop i f) j 0
behind_front f i j h = get_or-drop i (take 202 f) j 0 ∙ get_or-take 202 f (i + j) 0 h ∙ sym (get_or-drop i f j 0)

u16_at-front : (f : List ℕ) (i : ℕ) → i < 201 → u16_at (take 202 f) i ≡ u16_at f i
u16_at-front f i h =
    let first = behind_front f i 0 (omega arith) in
    let second = behind_front f i 1 (omega arith) in
    rw (first, second) refl

u32_at-front : (f : List ℕ) (i : ℕ) → i < 199 → u32_at (take 202 f) i ≡ u32_at f i
u32_at-front f i h =
    let first = behind_front f i 0 (omega arith) in
    let second = behind_front f i 1 (omega arith) in
    let third = behind_front f i 2 (omega arith) in
    let fourth = behind_front f i 3 (omega arith) in
    rw (first, second, third, fourth) refl

-- ---- options

and_then_same : {T U : Type 0} (g h : T → Option U) (P : T → Type 0) (o : Option T) → IfSome o P → ((x : T) → P x → g x ≡ h x)
    → option_and_then g o ≡ option_and_then h o
and_then_same g h P None p e = refl
and_then_same g h P (Some x) p e = e x p

and_then_gives : {T U : Type 0} (g : T → Option U) (P : T → Type 0) (Q : U → Type 0) (o : Option T) → IfSome o P → ((x : T) → P x → IfSome (g x) Q)
    → IfSome (option_and_then g o) Q
and_then_gives g P Q None p e = tt
and_then_gives g P Q (Some x) p e = e x p

map_same : {T U : Type 0} (g h : T → U) (P : T → Type 0) (o : Option T) → IfSome o P → ((x : T) → P x → g x ≡ h x) → option_map g o ≡ option_map h o
map_same g h P None p e = refl
map_same g h P (Some x) p e = ap Some (e x p)

if_gives : {T : Type 0} (P : T → Type 0) (b : Bool) (x y : Option T) → IfSome x P → IfSome y P → IfSome (if b then x else y) P
if_gives P true x y p q = p
if_gives P false x y p q = q

-- ---- where the parts stand

start_of-front : (link_type : LinkType) (len : ℕ) (f : List ℕ) → start_of link_type len (take 202 f) ≡ start_of link_type len f
start_of-front Raw len f = refl
start_of-front Ethernet len f = rw (u16_at-front f 12 (omega arith), u16_at-front f 16 (omega arith)) refl

start_of-bound : (link_type : LinkType) (len : ℕ) (f : List ℕ) → IfSome (start_of link_type len f) (λ s. s ≤ 18)
start_of-bound Raw len f = omega arith
start_of-bound Ethernet len f =
    let plain : 14 ≤ 18 = omega arith in
    let tagged : 18 ≤ 18 = omega arith in
    let two : Bool = nat_le 18 len && (u16_at f 12 == 0x8100) && (u16_at f 16 == 0x0800) in
    if_gives (λ s. s ≤ 18) (nat_le 14 len && (u16_at f 12 == 0x0800)) (Some 14) (if two then Some 18 else None) plain
    (if_gives (λ s. s ≤ 18) two (Some 18) None tagged tt)

header_length-front : (len : ℕ) (f : List ℕ) (s : ℕ) → s ≤ 18 → header_length len (take 202 f) s ≡ header_length len f s
header_length-front len f s h = rw (byte_at-front f s (omega arith)) refl

header_length-bound : (len : ℕ) (f : List ℕ) (s : ℕ) → IfSome (header_length len f s) (λ h. h ≤ 60)
header_length-bound len f s =
    let small : 4 * (byte_at f s % 16) ≤ 60 = omega arith in
    if_gives (λ h. h ≤ 60) _ (Some (4 * (byte_at f s % 16))) None small tt

parts_at-front : (len : ℕ) (f : List ℕ) (s h : ℕ) → s ≤ 18 → h ≤ 60 → parts_at len (take 202 f) s h ≡ parts_at len f s h
parts_at-front len f s h low small =
    rw (
      u16_at-front f (s + 6) (omega arith),
      u16_at-front f (s + 2) (omega arith),
      byte_at-front f (s + 9) (omega arith),
      byte_at-front f (s + h + 12) (omega arith),
    ) refl

-- the bounds that keep a record's parts and its payload within the front
record InFront (parts : Parts) : Type 0 where
  start : parts.start ≤ 18
  header : parts.header ≤ 60
  transport : parts.transport ≤ 60

transport_length-bound : (len : ℕ) (f : List ℕ) (proto q : ℕ) → ((i : ℕ) → byte_at f i < 256) → IfSome (transport_length len f proto q) (λ d. d ≤ 60)
transport_length-bound len f proto q fits =
    let P : ℕ → Type 0 = λ d. d ≤ 60 in
    let udp : 8 ≤ 60 = omega arith in
    let tcp : 4 * (byte_at f (q + 12) / 16) ≤ 60 = omega (arith, fits (q + 12)) in
    let d = 4 * (byte_at f (q + 12) / 16) in
    let by_udp : Option ℕ = if nat_le (q + 8) len then Some 8 else None in
    let by_tcp : Option ℕ = if nat_le (q + 20) len && nat_le 20 d then Some d else None in
    if_gives P (proto == 17) by_udp (if proto == 6 then by_tcp else None) (if_gives P (nat_le (q + 8) len) (Some 8) None udp tt)
    (if_gives P (proto == 6) by_tcp None (if_gives P (nat_le (q + 20) len && nat_le 20 d) (Some d) None tcp tt) tt)

parts_of-front : (link_type : LinkType) (len : ℕ) (f : List ℕ) → parts_of link_type len (take 202 f) ≡ parts_of link_type len f
unfolding parts_of
parts_of-front link_type len f =
    ap (λ o. option_and_then (λ s. option_and_then (λ h. parts_at len (take 202 f) s h) (header_length len (take 202 f) s)) o) (start_of-front link_type len f)
    ∙ and_then_same _ _ (λ s. s ≤ 18) (start_of link_type len f) (start_of-bound link_type len f)
    (λ s low. ap (λ o. option_and_then (λ h. parts_at len (take 202 f) s h) o) (header_length-front len f s low)
    ∙ and_then_same _ _ (λ h. h ≤ 60) (header_length len f s) (header_length-bound len f s) (λ h small. parts_at-front len f s h low small))

parts_of-bound : (link_type : LinkType) (len : ℕ) (f : List ℕ) → ((i : ℕ) → byte_at f i < 256) → IfSome (parts_of link_type len f) InFront
unfolding parts_of
parts_of-bound link_type len f fits =
    and_then_gives _ (λ s. s ≤ 18) InFront (start_of link_type len f) (start_of-bound link_type len f)
    (λ s low. and_then_gives _ (λ h. h ≤ 60) InFront (header_length len f s) (header_length-bound len f s)
    (λ h small. and_then_gives _ (λ d. d ≤ 60) InFront (transport_length len f (byte_at f (s + 9)) (s + h))
    (transport_length-bound len f (byte_at f (s + 9)) (s + h) fits)
    (λ d few.
    let parts : Parts = record { start = s; header = h; transport = d; total = total_length len f s } in
    let bounds : InFront parts = record { start = low; header = small; transport = few } in
    if_gives InFront _ (Some parts) None bounds tt)))

-- ---- the packet

payload_of-front : (len : ℕ) (f : List ℕ) (parts : Parts) → InFront parts → payload_of len (take 202 f) parts ≡ payload_of len f parts
payload_of-front len f parts b =
    let held = held_of len parts in
    let p = parts.start + parts.header + parts.transport in
    let at : p ≤ 138 = omega (arith, b.start, b.header, b.transport) in
    let few : held ≤ 64 = omega arith in
    let all : p + (202 - p) ≡ 202 = omega arith in
    ap (λ n. take held (drop p (take n f))) (sym all) ∙ ap (take held) (drop-take p (202 - p) f) ∙ take-take held (202 - p) (drop p f) (omega arith)

packet_with-front : (k nanos len : ℕ) (f : List ℕ) (parts : Parts) → InFront parts
    → packet_with k nanos len (take 202 f) parts ≡ packet_with k nanos len f parts
packet_with-front k nanos len f parts b =
    let low : parts.start ≤ 18 = b.start in
    let small : parts.header ≤ 60 = b.header in
    rw (
      byte_at-front f (parts.start + 9) (omega arith),
      u32_at-front f (parts.start + 12) (omega arith),
      u16_at-front f (parts.start + parts.header) (omega arith),
      u32_at-front f (parts.start + 16) (omega arith),
      u16_at-front f (parts.start + parts.header + 2) (omega arith),
      byte_at-front f (parts.start + parts.header + 13) (omega arith),
      payload_of-front len f parts b,
    ) refl

pub packet_of-front : (form : Form) (k : ℕ) (head : List ℕ) (len : ℕ) (f : List ℕ) → ((i : ℕ) → byte_at (take 202 f) i < 256)
    → packet_of form k head len (take 202 f) ≡ packet_of form k head len f
unfolding packet_of
packet_of-front form k head len f fits =
    map_same _ _ InFront (parts_of form.link_type len (take 202 f)) (parts_of-bound form.link_type len (take 202 f) fits)
    (λ parts b. packet_with-front k (nanos_of form head) len f parts b)
    ∙ ap (option_map (packet_with k (nanos_of form head) len f)) (parts_of-front form.link_type len f)

-- the buffer holds the front of the record's n bytes
front_is : (n : ℕ) (front rest : List ℕ) → length front ≡ min n 202 → front ≡ take (length front) rest → front ≡ take 202 (take n rest)
front_is n front rest long same =
    elim (leb_tells 202 n) as (λ _. front ≡ take 202 (take n rest)) [
      | inl e ↦ (let all : length front ≡ 202 = omega (arith, e.1) in same ∙ ap (λ k. take k rest) all ∙ sym (take-take 202 n rest e.1))
      | inr e ↦ (let all : length front ≡ n = omega (arith, e.1) in
          let few : length (take n rest) ≤ 202 = omega (arith, length-take {A = ℕ}, e.1) in
          same ∙ ap (λ k. take k rest) all ∙ sym (take_all 202 (take n rest) few))
    ]

pub record_answer-front : (form : Form) (place count : ℕ) (head : List ℕ) (n : ℕ) (front rest : List ℕ) → length front ≡ min n 202
    → front ≡ take (length front) rest → ((i : ℕ) → byte_at front i < 256)
    → record_answer form place count head n front ≡ record_answer form place count head n (take n rest)
unfolding record_answer
record_answer-front form place count head n front rest long same fits =
    let is : front ≡ take 202 (take n rest) = front_is n front rest long same in
    let bytes : (i : ℕ) → byte_at (take 202 (take n rest)) i < 256 = λ i. subst (λ l. byte_at l i < 256) is (fits i) in
    let packets : packet_of form (count + 1) head n front ≡ packet_of form (count + 1) head n (take n rest) =
    ap (packet_of form (count + 1) head n) is ∙ packet_of-front form (count + 1) head n (take n rest) bytes in
    ap (λ o. if nat_lt (2 ^ 32) (place + 16 + n) then Err (fault.TooLong place) else steered_answer place count o) packets
