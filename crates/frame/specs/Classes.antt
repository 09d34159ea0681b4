-- The class of a frame. Assumes nothing.
use Rattle.std.specs.Prelude.{ℕ, Bool, cond, ◌&&◌, ◌==◌, nat_le}
use Rattle.frame.specs.declared.classes.Class.{Class}
use Rattle.frame.specs.declared.classes.Class.TheVariants.{BestEffort, Reserved, Clock, TimeSensitive}

-- the number of each class
abbrev pub class_number : Class → ℕ
class_number BestEffort = 0
class_number Reserved = 1
class_number Clock = 2
class_number TimeSensitive = 3

-- n is low, high or a number between them
abbrev pub from_to : ℕ → ℕ → ℕ → Bool
from_to low high n = nat_le low n && nat_le n high

-- a tagged frame goes by its priority: 6 and 7 are time-sensitive, 3 to 5 reserved, 0 to 2 best effort
abbrev pub class_of_priority : ℕ → ℕ
class_of_priority p = cond (from_to 6 7 p) 3 (cond (from_to 3 5 p) 1 0)

-- an untagged frame goes by its type: 0x88F7 is a clock message, any other is best effort
abbrev pub class_of_type : ℕ → ℕ
class_of_type t = cond (t == 0x88F7) 2 0

-- the class of a frame that is tagged or not, by its priority and its type
abbrev pub class_of : Bool → ℕ → ℕ → ℕ
class_of tagged p t = cond tagged (class_of_priority p) (class_of_type t)
