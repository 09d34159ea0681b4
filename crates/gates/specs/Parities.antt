-- The plan that goes by the slot's parity. Assumes nothing.
use Rattle.std.specs.Prelude.{ℕ, ◌%◌, Bool, not, ◌==◌}

-- queue 0 fills in even slots and queue 1 in odd ones
abbrev pub parity_fills : ℕ → ℕ
parity_fills s = s % 2

-- every queue is open but the one that fills: of 0 and 1 the other one, and always 2 and 3
abbrev pub parity_opens : ℕ → ℕ → Bool
parity_opens s q = not (q == parity_fills s)
