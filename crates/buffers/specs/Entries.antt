-- What the entries at the ports stand for, and sums over them. Assumes nothing.
use Rattle.std.specs.Prelude.{ℕ, ◌+◌, cond, ◌&&◌, map, length, sum_by, ◌==◌, nat_lt}
use Rattle.std.specs.Option.{option_map, option_to_list}
use Rattle.frame.specs.Numbers.{cell_number}
use Rattle.rules.specs.Copies.{Copy, Egress, cost}
use Rattle.rules.specs.Switch.{empty_port}
use Rattle.buffers.specs.Lines.{Line}
use Rattle.buffers.specs.declared.ports.Waiting.{Waiting}

-- the frame in the cell of an entry, by the frames in the cells
abbrev pub frame_of : (ℕ → Copy) → Waiting → Copy
frame_of frames e = frames (cell_number e.cell)

-- the copy that an entry stands for: its own number, and class and bytes of the frame in its cell
abbrev pub copy_of : (ℕ → Copy) → Waiting → Copy
copy_of frames e = record { number = e.number.0; class = (frame_of frames e).class; bytes = (frame_of frames e).bytes }

-- a port, by its line
abbrev pub shown : (ℕ → Copy) → Line → Egress
shown frames l = record { queue = λ k. map (copy_of frames) (l.queue k); tokens = l.tokens; out = option_map (copy_of frames) l.out }

-- the ports 0 to 3; any other is as a port of this depth is at first
abbrev pub egress_of : ℕ → (ℕ → Copy) → (ℕ → Line) → ℕ → Egress
egress_of depth frames ls p = cond (nat_lt p 4) (shown frames (ls p)) (empty_port depth)

-- the sum of f over all entries that stand at a port, and over the four ports
abbrev pub over_line : (Waiting → ℕ) → Line → ℕ
over_line f l = sum_by f (l.queue 0) + (sum_by f (l.queue 1) + (sum_by f (l.queue 2) + (sum_by f (l.queue 3) + sum_by f (option_to_list l.out))))

abbrev pub over_lines : (Waiting → ℕ) → (ℕ → Line) → ℕ
over_lines f ls = over_line f (ls 0) + (over_line f (ls 1) + (over_line f (ls 2) + over_line f (ls 3)))

-- 1 for an entry in cell c
abbrev pub in_cell : ℕ → Waiting → ℕ
in_cell c e = cond (cell_number e.cell == c) 1 0

-- 1 for an entry whose cell has held no frame, or holds a frame of another number
abbrev pub stray : (ℕ → Copy) → Waiting → ℕ
stray frames e = cond (nat_lt 0 (length (frame_of frames e).bytes) && (frame_of frames e).number == e.number.0) 0 1

-- what an entry costs where copies are paid for
abbrev pub price_of : (ℕ → Copy) → Waiting → ℕ
price_of frames e = cost (frame_of frames e)
