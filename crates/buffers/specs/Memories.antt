-- What the cells of the frame memory hold. Assumes nothing.
use Rattle.std.specs.Prelude.{ℕ, ◌*◌, List, take, drop}
use Rattle.buffers.specs.declared.memories.Memory.{Memory}

-- the first n bytes of cell c; a cell has 1,536
abbrev pub cell_bytes : Memory → ℕ → ℕ → List ℕ
cell_bytes m c n = take n (drop (c * 1536) m.bytes)
