-- What the translator keeps of an inside host: its mappings in the order of their outside ports. This project's own.
use Rattle.std.specs.Prelude.{ℕ, ◌<◌, ◌^◌, ◌==◌, ◌&&◌, Bool, List}
use Rattle.addr_translator.specs.declared.mapping.Mapping.{Mapping}

-- a host's mappings, how many packets it had, and how many of them were dropped
pub record Translation : Type 0 where
  pub mappings : List Mapping
  pub packets : ℕ
  pub drops : ℕ

-- its port is within its type
abbrev pub HasPort : Mapping → Type 0
HasPort m = m.port < 2 ^ 16

-- both have the same protocol and port
abbrev pub mapping_eq : Mapping → Mapping → Bool
mapping_eq a b = a.proto == b.proto && a.port == b.port
