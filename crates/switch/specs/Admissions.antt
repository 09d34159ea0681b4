-- A frame that may come in, and the cell that it gets. Assumes nothing.
use Rattle.std.specs.Prelude.{◌≡◌, ℕ, Bool, List}
use Rattle.frame.specs.Classes.{class_number}
use Rattle.frame.specs.Numbers.{set_bits}
use Rattle.frame.specs.Refusals.{Told, accepted, refused}
use Rattle.egress.specs.Agreements.{Grants}
use Rattle.switch.specs.declared.switches.arrivals.Admission.{Admission}

-- class and ports
abbrev pub admission : Admission → ℕ × ℕ
admission a = (class_number a.class, set_bits a.ports)

-- an accepted frame gets some cell that was free; a refused one leaves the cells as they were
abbrev pub CellsAfter : {A : Type 0} → List Bool → Told A → List Bool → Type 0
CellsAfter before (accepted x) after = Grants before after
CellsAfter before (refused n v) after = after ≡ before
