-- A window: how many packets are under way, of so many as there are cells. This project's own.
use Rattle.std.specs.Prelude.{◌≡◌, ℕ, ◌+◌, ◌-◌, ◌==◌, ◌&&◌, ◌||◌, not, nat_lt, Bool, true, false, if◌then◌else◌}
use Rattle.flow_filter.specs.declared.packet.Packet.{Packet}
use Rattle.packet_pool.specs.Pool.{PoolState, FullCell, one_less, one_more}

-- a window: its cells, how many packets are under way, and whether no more come
pub record WindowState : Type 0 where
  pub pool : PoolState
  pub flying : ℕ
  pub closed : Bool

-- a window of so many cells, all at home
abbrev pub window_at_start : ℕ → WindowState
window_at_start cells = record { pool = record { name = 0; cells = cells; home = cells }; flying = 0; closed = false }

-- what is under way and what stands at home are together all cells
abbrev pub IsBalanced : WindowState → Type 0
IsBalanced w = w.flying + w.pool.home ≡ w.pool.cells

-- whether one packet more may be under way
abbrev pub has_room : WindowState → Bool
has_room w = nat_lt w.flying w.pool.cells

-- the cell that a packet takes, and the window with one packet more under way
abbrev pub cell_for : WindowState → Packet → FullCell
cell_for w packet = record { pool = w.pool.name; packet = packet }

abbrev pub with_one : WindowState → WindowState
with_one w = record w { pool = one_less w.pool; flying = w.flying + 1 }

-- whether a cell is to stay away: none is under way, or it isn't one of the pool's
abbrev pub is_strange : WindowState → FullCell → Bool
is_strange w cell = (w.flying == 0) || not (cell.pool == w.pool.name)

-- the window after a cell came home, if it is one of the pool's
abbrev pub with_home : WindowState → FullCell → WindowState
with_home w cell = if is_strange w cell then w else record w { pool = one_more w.pool; flying = w.flying - 1 }

-- the window to which no more packets come
abbrev pub with_end : WindowState → WindowState
with_end w = record w { closed = true }

-- whether no more packets come and none is under way
abbrev pub has_ended : WindowState → Bool
has_ended w = w.closed && (w.flying == 0)
