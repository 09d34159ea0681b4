-- What the buffers hold, in the definition's terms. Assumes nothing.
use Rattle.std.specs.Prelude.{◌≡◌, ℕ, Bool, cond, List, [], ◌∷◌, length, Some, None, Option, ◌==◌, nat_lt, slice_index}
use Rattle.rules.specs.Copies.{Copy, Egress, put, with_out, with_queue}
use Rattle.buffers.specs.Boards.{lines}
use Rattle.buffers.specs.Entries.{egress_of, in_cell, over_line}
use Rattle.buffers.specs.Frames.{held, upcoming}
use Rattle.cells.specs.Fifos.{first_of, rest_of}
use Rattle.buffers.specs.declared.buffers.Buffers.{Buffers}

-- the frame that cell c holds or held last, if it ever held one
abbrev pub frame_at : Buffers → ℕ → Copy
frame_at b = held b.frames

-- the ports, where those above 3 are as ports of this depth are at first
abbrev pub egress : ℕ → Buffers → ℕ → Egress
egress depth b = egress_of depth (frame_at b) (lines b.board)

-- the ports, where port p is changed by g
abbrev pub changed : (ℕ → Egress) → ℕ → (Egress → Egress) → ℕ → Egress
changed ports p g = put ports p (g (ports p))

-- a port without the first copy of queue k, if there is one
abbrev pub first_gone : ℕ → Egress → Egress
first_gone k e = with_queue e k (rest_of (e.queue k))

-- a port with that copy out
abbrev pub first_out : ℕ → Egress → Egress
first_out k e = with_out (first_gone k e) (first_of (e.queue k))

-- cell c holds no frame that has a copy
abbrev pub free : Buffers → ℕ → Bool
free b c = slice_index b.counts c == 0

-- the number that the next frame gets
abbrev pub next_number : Buffers → ℕ
next_number b = upcoming b.frames

-- cell c ever held a frame
abbrev pub filled : Buffers → ℕ → Bool
filled b c = nat_lt 0 (length (frame_at b c).bytes)

-- what cell c holds: the number of a frame that has a copy, or nothing where it is free
abbrev pub contents : Buffers → ℕ → Option ℕ
contents b c = cond (free b c) None (Some (frame_at b c).number)

-- how many copies port p has of the frame in cell c
abbrev pub copies_in : Buffers → ℕ → ℕ → ℕ
copies_in b p c = over_line (in_cell c) (lines b.board p)

-- how many copies are in each queue of a port
abbrev pub lengths_at : Egress → List ℕ
lengths_at e = length (e.queue 0) ∷ length (e.queue 1) ∷ length (e.queue 2) ∷ length (e.queue 3) ∷ []

-- each cell holds the frame that it held, and the next frame gets the number that it would have got
pub record FramesStay (before after : Buffers) : Type 0 where
  pub number : next_number after ≡ next_number before
  pub frames : frame_at after ≡ frame_at before
  pub filled_are : filled after ≡ filled before
