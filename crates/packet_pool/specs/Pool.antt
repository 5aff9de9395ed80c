-- A pool of cells: how many it has and how many stand at home; and a cell that is away, with the packet in it.
-- This project's own.
use Rattle.std.specs.Prelude.{ℕ, ◌+◌, ◌-◌}
use Rattle.flow_filter.specs.declared.packet.Packet.{Packet}

-- a pool: its number, how many cells it has, and how many of them stand at home
pub record PoolState : Type 0 where
  pub name : ℕ
  pub cells : ℕ
  pub home : ℕ

-- a cell that is away: the number of its pool, and its packet
pub record FullCell : Type 0 where
  pub pool : ℕ
  pub packet : Packet

-- the pool with one cell less at home
abbrev pub one_less : PoolState → PoolState
one_less pool = record pool { home = pool.home - 1 }

-- the pool with one cell more at home
abbrev pub one_more : PoolState → PoolState
one_more pool = record pool { home = pool.home + 1 }
