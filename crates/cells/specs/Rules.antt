-- The admission rule: for each class, how many cells must be free for a frame of it. Classes go by their numbers. Assumes nothing.
use Rattle.std.specs.Prelude.{◌≡◌, ℕ, zero, suc, ◌+◌, ◌≤◌, min, max, Bool, nat_le}
use Rattle.cells.specs.Stores.{cell_count}

-- one more than there are cells: a class with this floor is never admitted
abbrev pub never : ℕ
never = cell_count + 1

-- what the floors of every rule keep
pub record Fair (floor : ℕ → ℕ) : Type 0 where
  pub time_sensitive : floor 3 ≡ 1
  pub clock : floor 2 ≡ 1
  pub some : 1 ≤ floor 1
  pub rising : floor 1 ≤ floor 0
  pub most : floor 0 ≤ never

-- a frame is admitted where at least as many cells are free as its floor
abbrev pub admitted : ℕ → ℕ → Bool
admitted floor free = nat_le floor free

-- the floors of a rule that sets two of them: of best effort, and of reserved frames; one cell is enough for the other classes
abbrev pub floors_of : ℕ → ℕ → ℕ → ℕ
floors_of best reserved zero = best
floors_of best reserved (suc zero) = reserved
floors_of best reserved (suc (suc class)) = 1

-- the fixed ladder
abbrev pub ladder_floors : ℕ → ℕ
ladder_floors = floors_of 4 3

-- the floor of reserved frames under the threshold r
abbrev pub reserved_floor : ℕ → ℕ
reserved_floor r = max 1 (min r never)

-- the floor of best effort under the thresholds r and b: not below that of reserved frames
abbrev pub best_floor : ℕ → ℕ → ℕ
best_floor r b = max (reserved_floor r) (min b never)

-- the floors under the thresholds r and b
abbrev pub floors_under : ℕ → ℕ → ℕ → ℕ
floors_under r b = floors_of (best_floor r b) (reserved_floor r)
