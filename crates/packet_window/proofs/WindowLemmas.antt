-- What a window keeps where a packet leaves and where a cell comes home.
use Rattle.std.proofs.Common.{◌≡◌, ℕ, ◌+◌, ◌-◌, Bool, true, false, refl, arith}
use Rattle.std.specs.Prelude.{if◌then◌else◌, ◌==◌, ◌||◌, not}
use Rattle.std.proofs.lemmas.Bool.{or_parts}
use Rattle.std.proofs.lemmas.Bool.Decides.{nat_tests, Decides-eqb, Decides-ltb}
use Rattle.packet_pool.specs.Pool.{FullCell, one_more}
use Rattle.packet_window.specs.Window.{WindowState, IsBalanced, has_room, is_strange, with_one, with_home}

-- a packet leaves
pub one_balanced : (w : WindowState) → IsBalanced w → has_room w ≡ true → IsBalanced (with_one w)
one_balanced w all room = let less = (Decides-ltb w.flying w.pool.cells).0 room in omega (arith, all, less)

-- a cell comes home
abbrev homed : WindowState → Bool → WindowState
homed w strange = if strange then w else record w { pool = one_more w.pool; flying = w.flying - 1 }

one_back : (flying home cells : ℕ) → flying + home ≡ cells → (flying == 0) ≡ false → flying - 1 + (home + 1) ≡ cells
one_back flying home cells all some = grind (arith, nat_tests, all, some)

pub home_balanced : (w : WindowState) (cell : FullCell) → IsBalanced w → IsBalanced (with_home w cell)
home_balanced w cell all =
    elim (is_strange w cell) as (λ b. is_strange w cell ≡ b → IsBalanced (homed w b)) [
      | true ↦ λ _. all
      | false ↦ λ own. one_back w.flying w.pool.home w.pool.cells all (or_parts (w.flying == 0) (not (cell.pool == w.pool.name)) own).0
    ] refl

pub home_name : (w : WindowState) (cell : FullCell) → (with_home w cell).pool.name ≡ w.pool.name
home_name w cell =
    elim (is_strange w cell) as (λ b. (homed w b).pool.name ≡ w.pool.name) [
      | true ↦ refl
      | false ↦ refl
    ]

pub home_cells : (w : WindowState) (cell : FullCell) → (with_home w cell).pool.cells ≡ w.pool.cells
home_cells w cell =
    elim (is_strange w cell) as (λ b. (homed w b).pool.cells ≡ w.pool.cells) [
      | true ↦ refl
      | false ↦ refl
    ]

pub home_closed : (w : WindowState) (cell : FullCell) → (with_home w cell).closed ≡ w.closed
home_closed w cell =
    elim (is_strange w cell) as (λ b. (homed w b).closed ≡ w.closed) [
      | true ↦ refl
      | false ↦ refl
    ]

-- one packet less is under way, where the cell is the pool's and one is
pub home_flying : (w : WindowState) (cell : FullCell) → cell.pool ≡ w.pool.name → (with_home w cell).flying ≡ w.flying - 1
home_flying w cell own =
    elim (w.flying == 0) as (λ b. (w.flying == 0) ≡ b → (homed w (b || not (cell.pool == w.pool.name))).flying ≡ w.flying - 1) [
      | true ↦ λ none. (let zero = (Decides-eqb w.flying 0).0 none in omega (arith, zero))
      | false ↦ λ _. (let same = (Decides-eqb cell.pool w.pool.name).1 own in rw same refl)
    ] refl
