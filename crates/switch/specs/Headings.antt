-- What is read of a frame that comes in, and the checks on the way. Assumes nothing.
use Rattle.std.specs.Prelude.{ℕ, not, List, [], ◌∷◌, length}
use Rattle.forwarding.specs.Ways.{Way}
use Rattle.frame.specs.Classes.{class_number}
use Rattle.frame.specs.Frames.{class, destination, fits}
use Rattle.frame.specs.Numbers.{address_bits, port_number}
use Rattle.frame.specs.Refusals.{Told}
use Rattle.rules.specs.Switch.{Check, is_tap, is_unknown, judged, no_such_port, set_of}
use Rattle.switch.specs.declared.headings.Heading.{Heading}

-- port, destination and class
abbrev pub heading : Heading → ℕ × ℕ × ℕ
heading h = (port_number h.input, address_bits h.destination, class_number h.class)

-- those of the bytes f at port p, by the first two checks of Arrive
abbrev pub heading_checks : ℕ → List ℕ → List Check
heading_checks p f = no_such_port p ∷ record { fails = not (fits f); number = 2; value = length f } ∷ []

-- what the two checks let through, or the refusal of the first that fails
abbrev pub heading_of : ℕ → List ℕ → Told (ℕ × ℕ × ℕ)
heading_of p f = judged (heading_checks p f) (p, destination f, class f)

-- the ports of a way from port p, by its checks
abbrev pub way_checks : Way → ℕ → List Check
way_checks w p = record { fails = is_tap w; number = 4; value = p } ∷ record { fails = is_unknown w; number = 5; value = p } ∷ []

-- the set of ports that they let through
abbrev pub ports_by : Way → ℕ → Told ℕ
ports_by w p = judged (way_checks w p) (set_of w)
