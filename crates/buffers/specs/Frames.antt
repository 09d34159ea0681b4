-- The frames in the cells. Assumes nothing.
use Rattle.std.specs.Prelude.{◌≡◌, ℕ, [], length}
use Rattle.frame.specs.Classes.{class_number}
use Rattle.rules.specs.Copies.{Copy, cost}
use Rattle.buffers.specs.Kept.{frame_in}
use Rattle.buffers.specs.declared.frames.Frames.{Frames}
use Rattle.buffers.specs.declared.frames.Kept.{Kept}

-- the frame that each cell holds or held last
abbrev pub held : Frames → ℕ → Copy
held f = frame_in f.memory f.kept

-- what stands for the frame of a cell that held none yet
abbrev pub no_frame : Copy
no_frame = record { number = 0; class = 0; bytes = [] }

-- the number that the next frame gets
abbrev pub upcoming : Frames → ℕ
upcoming f = f.next

-- what is known of a frame is so
pub record Describes (k : Kept) (c : Copy) : Type 0 where
  pub number : k.number.0 ≡ c.number
  pub class : class_number k.class ≡ c.class
  pub length_is : k.length ≡ length c.bytes
  pub cost_is : k.cost ≡ cost c
