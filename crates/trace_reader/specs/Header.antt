-- The 24 bytes at the head of a capture: the pcap format (draft-ietf-opsawg-pcap), version 2.4, with microseconds or nanoseconds in either byte order. Of
-- its link types LINKTYPE_ETHERNET (1) and LINKTYPE_RAW (101) are read. The order of the checks is this project's own.
use Rattle.std.specs.Prelude.{ℕ, ◌%◌, ◌^◌, ◌==◌, ◌&&◌, not, nat_lt, List, length, drop, Option, Some, None, Result, Ok, Err, if◌then◌else◌}
use Rattle.std.specs.Option.{option_map_or}
use Rattle.byteorder.specs.Endian.{big_number}
use Rattle.trace_reader.specs.declared.form.Endian.TheVariants.{Big, Little}
use Rattle.trace_reader.specs.declared.form.Fraction.TheVariants.{Micros, Nanos}
use Rattle.trace_reader.specs.declared.form.LinkType.{LinkType}
use Rattle.trace_reader.specs.declared.form.LinkType.TheVariants.{Ethernet, Raw}
use Rattle.trace_reader.specs.declared.form.Magic.{Magic}
use Rattle.trace_reader.specs.declared.form.Form.{Form}
use Rattle.trace_reader.specs.declared.fault.TraceFault.{TraceFault}
use Rattle.trace_reader.specs.declared.fault.TraceFault.TheVariants as fault
use Rattle.trace_reader.specs.Limits.{header_size}
use Rattle.trace_reader.specs.Numbers.{number_in}

-- the magic numbers, read in network order: the byte order and the unit of the fraction that each stands for
abbrev pub magic_of : ℕ → Option Magic
magic_of n =
    if n == 0xA1B2_C3D4 then Some (record { endian = Big; fraction = Micros })
    else if n == 0xD4C3_B2A1 then Some (record { endian = Little; fraction = Micros })
    else if n == 0xA1B2_3C4D then Some (record { endian = Big; fraction = Nanos })
    else if n == 0x4D3C_B2A1 then Some (record { endian = Little; fraction = Nanos })
    else None

-- the link layer that a number stands for: LINKTYPE_ETHERNET, or LINKTYPE_RAW
abbrev pub link_type_of : ℕ → Option LinkType
link_type_of n = if n == 1 then Some Ethernet else if n == 101 then Some Raw else None

-- the form of a capture with this magic number: the version's two numbers stand at 4 and 6, and the link type at 20, of which the low 16 bits count
abbrev pub form_with : List ℕ → Magic → Result Form TraceFault
form_with header magic =
    let link = number_in magic.endian 4 (drop 20 header) % 2 ^ 16 in
    if nat_lt (length header) header_size then Err (fault.Header (length header))
    else if not ((number_in magic.endian 2 (drop 4 header) == 2) && (number_in magic.endian 2 (drop 6 header) == 4)) then Err fault.Version
    else option_map_or (λ link_type. Ok (record { magic = magic; link_type = link_type })) (link_type_of link) (Err (fault.LinkType link))

-- the form of the capture that begins with these 24 bytes, or is no longer, or the first fault
unfoldable pub form_of : List ℕ → Result Form TraceFault
form_of header =
    if nat_lt (length header) 4 then Err fault.Magic
    else if big_number 4 header == 0x0A0D_0D0A then Err fault.PcapNg
    else option_map_or (form_with header) (magic_of (big_number 4 header)) (Err fault.Magic)
