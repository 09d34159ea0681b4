-- That the store and the buffers agree on the cells, and what a grant does to the store's. Assumes nothing.
use Rattle.std.specs.Prelude.{◌≡◌, ℕ, ◌<◌, Bool, true, false, List, set}
use Rattle.cells.specs.Stores.{cell_count, free_at}

-- which cells are free, by the store's marks, are those in which the buffers hold no frame with a copy
abbrev pub Agree : List Bool → (ℕ → Bool) → Type 0
Agree marks free = (c : ℕ) → c < cell_count → free_at marks c ≡ free c

-- some cell that was free is taken out, and no other cell changes
abbrev pub Grants : List Bool → List Bool → Type 0
Grants before after = (c : ℕ) × (free_at before c ≡ true) × (after ≡ set before c false)
