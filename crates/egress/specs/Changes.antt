-- A change of one port that lets no frame in. Assumes nothing.
use Rattle.std.specs.Prelude.{◌≡◌, ℕ}
use Rattle.buffers.specs.Holdings.{changed, contents, egress, next_number}
use Rattle.buffers.specs.declared.buffers.Buffers.{Buffers}
use Rattle.rules.specs.Cells.{OnlyFreed}
use Rattle.rules.specs.Copies.{Egress}

-- port p is changed by f, and no other; no frame gets a number, and each cell is as it was, or free
pub record ChangesPort (before after : Buffers) (p : ℕ) (f : Egress → Egress) : Type 0 where
  pub state : (d : ℕ) → egress d after ≡ changed (egress d before) p f
  pub number : next_number after ≡ next_number before
  pub cells : OnlyFreed (contents before) (contents after)
