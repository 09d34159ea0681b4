-- What Gauge answers for all ports. Assumes nothing.
use Rattle.std.specs.Prelude.{ℕ, List, [], ◌∷◌}
use Rattle.std.specs.Option.{option_map}
use Rattle.rules.specs.Switch.{Gauged, State}

-- for port p
abbrev pub gauged_at : State → ℕ → Gauged
gauged_at s p = record { tokens = (s.port p).tokens; out = option_map (λ c. c.number) (s.port p).out }

-- for ports 0 to 3
abbrev pub all_gauged : State → List Gauged
all_gauged s = gauged_at s 0 ∷ gauged_at s 1 ∷ gauged_at s 2 ∷ gauged_at s 3 ∷ []
