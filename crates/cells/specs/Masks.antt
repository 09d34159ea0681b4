-- The cells of a mask. Assumes nothing.
use Rattle.std.specs.Prelude.{◌≡◌, ℕ, zero, suc, ◌/◌, ◌%◌, ◌<◌, Bool, false, List, [], ◌∷◌, ◌==◌}
use Rattle.frame.specs.Refusals.{Told, accepted, refused}
use Rattle.cells.specs.Stores.{cell_count, free_at}
use Rattle.cells.specs.declared.masks.Mask.{Mask}

-- the lowest digits of n to the base 2, the lowest first: true for 1
unfoldable pub digits : ℕ → ℕ → List Bool
digits zero n = []
digits (suc w) n = (n % 2 == 1) ∷ digits w (n / 2)

-- cell c is free where digit c is 1
abbrev pub mask_marks : Mask → List Bool
mask_marks m = digits cell_count m.bits

-- no cell above the granted one was free
abbrev pub Highest : List Bool → Told ℕ → Type 0
Highest before (accepted c) = (k : ℕ) → c < k → free_at before k ≡ false
Highest before (refused n v) = Unit {0}
