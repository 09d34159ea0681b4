-- What a queue holds, by the entries that it is lent. Assumes nothing.
use Rattle.std.specs.Prelude.{ℕ, List, [], ◌∷◌, Some, None, Option}
use Rattle.cells.specs.Rings.{turn}
use Rattle.cells.specs.declared.fifos.Fifo.{Fifo}

-- the entries queued, the first to leave first
abbrev pub items : {E : Type 0} → Fifo → List E → List E
items q es = turn es q.head q.len

-- the place of the entry that leaves first
abbrev pub first_place : Fifo → ℕ
first_place q = q.head

-- how many they are
abbrev pub queued : Fifo → ℕ
queued q = q.len

-- the first of a list, and the others
abbrev pub first_of : {A : Type 0} → List A → Option A
first_of [] = None
first_of (x ∷ xs) = Some x

abbrev pub rest_of : {A : Type 0} → List A → List A
rest_of [] = []
rest_of (x ∷ xs) = xs
