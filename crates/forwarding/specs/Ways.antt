-- The ways that a frame can go, and how one is formed. Assumes nothing.
use Rattle.std.specs.Prelude.{◌≡◌, ℕ, ◌<◌, Bool, false, cond, Some, None, Option, ◌==◌}
use Rattle.frame.specs.Numbers.{in_set, with_port, without}

-- a frame goes to a set of ports, or no port is known for it, or it came in at the tap port
pub data Way : Type 0 where
  to : ℕ → Way
  unknown : Way
  tap : Way

-- a way is proper for a frame that came in at port p: some of the four ports, and not p
abbrev pub Proper : ℕ → Way → Type 0
Proper p (to s) = (0 < s) × (s < 16) × (in_set s p ≡ false)
Proper p unknown = Unit {0}
Proper p tap = Unit {0}

-- the way of a frame that came in at port p, by the set of its row: p is taken out; no row, or nothing left, is unknown
abbrev pub formed : Option ℕ → ℕ → Way
formed None p = unknown
formed (Some s) p = cond (without s p == 0) unknown (to (without s p))

-- a frame that goes this way leaves at port q
abbrev pub leaves_at : Way → ℕ → Bool
leaves_at (to s) q = in_set s q
leaves_at unknown q = false
leaves_at tap q = false

-- a set under the tap layer loses port 3; nothing left is unknown, and otherwise it gains port 3
abbrev pub tapped_set : ℕ → Way
tapped_set s = cond (without s 3 == 0) unknown (to (with_port (without s 3) 3))

-- what the tap layer makes of the way below it: unknown and tap pass
abbrev pub with_tap : Way → Way
with_tap (to s) = tapped_set s
with_tap unknown = unknown
with_tap tap = tap

-- the way of a frame that came in at port p, by the way below the tap layer: from port 3 it is tap
abbrev pub tapped : Way → ℕ → Way
tapped w p = cond (p == 3) tap (with_tap w)
