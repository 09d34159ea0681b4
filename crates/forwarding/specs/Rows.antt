-- The rows of an address table: which can be held, and which decides. Assumes nothing.
use Rattle.std.specs.Prelude.{ℕ, ◌+◌, ◌-◌, ◌^◌, Bool, cond, ◌&&◌, List, [], ◌∷◌, Some, None, Option, ◌==◌, nat_lt}
use Rattle.frame.specs.Numbers.{others}
use Rattle.forwarding.specs.Ways.{Way, to, formed}
use Rattle.forwarding.specs.declared.rows.Row.{Row}

-- the set of the first row with this address
abbrev pub first_row : List Row → ℕ → Option ℕ
first_row [] d = None
first_row (row ∷ rows) d = cond (row.address.bits == d) (Some row.ports) (first_row rows d)

-- a row at this place can be held: there are twelve places, and a set is a number up to 15
abbrev pub fits_at : ℕ → Row → Bool
fits_at place row = nat_lt place 12 && nat_lt row.ports 16

-- the place of the first row that cannot be held, where the list begins at place i
abbrev pub first_wrong : ℕ → List Row → Option ℕ
first_wrong i [] = None
first_wrong i (row ∷ rows) = cond (fits_at i row) (first_wrong (i + 1) rows) (Some i)

-- the way by these rows: all ones is the address of every station; any other goes by its first row
abbrev pub table_way : List Row → ℕ → ℕ → Way
table_way rows d p = cond (d == 2 ^ 48 - 1) (to (others p)) (formed (first_row rows d) p)
