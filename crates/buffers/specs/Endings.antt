-- How a copy ends. Assumes nothing.
use Rattle.std.specs.Prelude.{◌≡◌, ℕ, ◌<◌, Bool, true, false, cond, Some, None, Option, ◌==◌}
use Rattle.frame.specs.Numbers.{cell_number}
use Rattle.frame.specs.declared.numbers.Cell.{Cell}
use Rattle.frame.specs.declared.numbers.CellId.{CellId}
use Rattle.rules.specs.Copies.{put}
use Rattle.buffers.specs.declared.endings.Ended.{Ended}
use Rattle.buffers.specs.declared.endings.Ended.TheVariants.{Shared, Last}

-- the number of a cell, as a store takes it
abbrev pub id_of : Cell → CellId
id_of c = record { 0 = cell_number c }

-- one of n copies of the frame in a cell ends
abbrev pub ended : ℕ → CellId → Ended
ended n c = cond (n == 1) (Last c) Shared

-- whether there was a copy
abbrev pub was_copy : Option Ended → Bool
was_copy None = false
was_copy (Some e) = true

-- which cells are free after it, by those that were before: only the last copy of a frame frees its cell
abbrev pub freed : Option Ended → (ℕ → Bool) → ℕ → Bool
freed None free = free
freed (Some Shared) free = free
freed (Some (Last c)) free = put free c.0 true

-- a cell that comes free is one, and was held
abbrev pub was_held : Option Ended → (ℕ → Bool) → Type 0
was_held None free = Unit {0}
was_held (Some Shared) free = Unit {0}
was_held (Some (Last c)) free = (c.0 < 32) × (free c.0 ≡ false)
