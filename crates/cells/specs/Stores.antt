-- A store of frame memory cells, by its marks: entry c is true where cell c is free. Assumes nothing.
use Rattle.std.specs.Prelude.{◌≡◌, ℕ, ◌+◌, Bool, true, false, cond, not, ◌&&◌, List, [], ◌∷◌, replicate, nat_lt, slice_index_or, slice_set}
use Rattle.frame.specs.Refusals.{Told, accepted, refused}

-- how many cells there are, numbered from 0
abbrev pub cell_count : ℕ
cell_count = 32

-- a new store: every cell is free
unfoldable pub all_free : List Bool
all_free = replicate cell_count true

-- how many cells are free
abbrev pub free_count : List Bool → ℕ
free_count [] = 0
free_count (m ∷ ms) = cond m 1 0 + free_count ms

-- cell c is free
abbrev pub free_at : List Bool → ℕ → Bool
free_at ms c = slice_index_or ms c false

-- there is a cell c, and it is not free
abbrev pub held_at : List Bool → ℕ → Bool
held_at ms c = nat_lt c cell_count && not (free_at ms c)

-- cell c, or refusal 11 where there is none or it is free
abbrev pub held_in : List Bool → ℕ → Told ℕ
held_in ms c = cond (held_at ms c) (accepted c) (refused 11 c)

-- what a grant may answer, and the marks before and after it:
-- some cell that was free, which is taken out; or refusal 6 of class 0, where no cell was free, and the store is kept
abbrev pub Granted : List Bool → Told ℕ → List Bool → Type 0
Granted before (accepted c) after = (free_at before c ≡ true) × (after ≡ slice_set before c false)
Granted before (refused n v) after = (free_count before ≡ 0) × (n ≡ 6) × (v ≡ 0) × (after ≡ before)

-- giving back cell c: a held cell becomes free; any other number is refused by 11, and the store is kept
abbrev pub given_back : List Bool → ℕ → Told (Unit {0}) × List Bool
given_back ms c = cond (held_at ms c) (accepted tt, slice_set ms c true) (refused 11 c, ms)
