-- What the entries of a ring stand for. Assumes nothing.
use Rattle.std.specs.Prelude.{ℕ, Bool, true, false, List, [], ◌∷◌, ◌++◌, take, drop, replicate, slice_set}
use Rattle.cells.specs.Stores.{cell_count}

-- the n entries from place h on, where the first entry follows the last
abbrev pub turn : {E : Type 0} → List E → ℕ → ℕ → List E
turn entries h n = take n (drop h (entries ++ entries))

-- the marks of a store with no free cell
unfoldable pub none_free : List Bool
none_free = replicate cell_count false

-- the marks of a store in which these cells are free, and no others
abbrev pub marked : List ℕ → List Bool
marked [] = none_free
marked (c ∷ cs) = slice_set (marked cs) c true
