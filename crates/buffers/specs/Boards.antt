-- The lines of the ports. Assumes nothing.
use Rattle.std.specs.Prelude.{ℕ, List, [], ◌∷◌, map, length, slice_index_or}
use Rattle.buffers.specs.Lines.{Line, empty_line, line}
use Rattle.buffers.specs.declared.boards.Board.{Board}

-- the line of port p; nothing stands at a port above 3
abbrev pub lines : Board → ℕ → Line
lines b p = slice_index_or (map line b.ports) p (empty_line 0)

-- how many copies are in each queue
abbrev pub row : Line → List ℕ
row l = length (l.queue 0) ∷ length (l.queue 1) ∷ length (l.queue 2) ∷ length (l.queue 3) ∷ []
