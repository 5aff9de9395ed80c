-- Masks: which fields a filter gives, and how much of its addresses. Flows that agree under a filter's mask are matched alike.
-- This project's own, after tuple space search (Srinivasan, Suri and Varghese, 1999).
use Rattle.std.specs.Prelude.{ℕ, ◌-◌, ◌*◌, ◌/◌, ◌^◌, ◌==◌, ◌&&◌, Bool, if◌then◌else◌, unwrap_or, is_some}
use Rattle.std.specs.Bool.{beq}
use Rattle.std.specs.Option.{option_map_or}
use Rattle.flow_filter.specs.declared.flow.Flow.{Flow}
use Rattle.flow_filter.specs.declared.filter.Filter.{Filter}
use Rattle.switch_rules.specs.declared.mask.Mask.{Mask}
use Rattle.flow_filter.specs.Prefixes.{address_bits}

-- the mask of a filter; the length of a prefix that it doesn't give is 0
abbrev pub mask_of : Filter → Mask
mask_of f = record {
  proto = is_some f.proto;
  local = option_map_or (λ p. p.len) f.local 0;
  lport = is_some f.lport;
  remote = option_map_or (λ p. p.len) f.remote 0;
  rport = is_some f.rport;
}

-- what a filter says of each field, and 0 for a field that it doesn't give
abbrev pub values_of : Filter → Flow
values_of f = record {
  proto = unwrap_or f.proto 0;
  local = option_map_or (λ p. p.bits) f.local 0;
  lport = unwrap_or f.lport 0;
  remote = option_map_or (λ p. p.bits) f.remote 0;
  rport = unwrap_or f.rport 0;
}

-- the number where it is given, and else 0
abbrev pub where_given : Bool → ℕ → ℕ
where_given given n = if given then n else 0

-- the first bits of an address, and zeros after them
abbrev pub front : ℕ → ℕ → ℕ
front len address = address / 2 ^ (address_bits - len) * 2 ^ (address_bits - len)

-- what a flow has in the fields of a mask, and 0 in the others
abbrev pub masked : Mask → Flow → Flow
masked m flow = record {
  proto = where_given m.proto flow.proto;
  local = front m.local flow.local;
  lport = where_given m.lport flow.lport;
  remote = front m.remote flow.remote;
  rport = where_given m.rport flow.rport;
}

-- the masks are equal in every field
abbrev pub mask_eq : Mask → Mask → Bool
mask_eq a b = beq a.proto b.proto && (a.local == b.local && (beq a.lport b.lport && (a.remote == b.remote && beq a.rport b.rport)))
