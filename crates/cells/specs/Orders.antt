-- The order in which a ring grants its cells. Assumes nothing.
use Rattle.std.specs.Prelude.{ℕ, Bool, List, [], ◌∷◌, ◌++◌, map}
use Rattle.std.specs.List.{range_with_len}
use Rattle.frame.specs.Refusals.{Told, accepted, refused}
use Rattle.cells.specs.Stores.{cell_count}
use Rattle.cells.specs.Fifos.{items}
use Rattle.frame.specs.Numbers.{cell_number}
use Rattle.cells.specs.declared.rings.Ring.{Ring}

-- entry c is true where cell c is free
abbrev pub ring_marks : Ring → List Bool
ring_marks r = r.marks

-- the free cells, the longest free first
abbrev pub order : Ring → List ℕ
order r = map cell_number (items r.free r.cells)

-- at first 0, 1 and so on to the last cell
unfoldable pub first_order : List ℕ
first_order = range_with_len 0 cell_count

-- a grant answers the cell that is longest free and takes it out; it is refused where there is none
abbrev pub granted_first : List ℕ → Told ℕ × List ℕ
granted_first [] = (refused 6 0, [])
granted_first (c ∷ cs) = (accepted c, cs)

-- a cell that is given back is the last to be granted again; a refused one leaves the order as it is
abbrev pub put_last : Told (Unit {0}) → List ℕ → ℕ → List ℕ
put_last (accepted u) cs c = cs ++ c ∷ []
put_last (refused n v) cs c = cs
