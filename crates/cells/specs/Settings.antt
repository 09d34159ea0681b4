-- The settable rule. Assumes nothing.
use Rattle.std.specs.Prelude.{ℕ, cond, nat_lt}
use Rattle.frame.specs.Refusals.{Told, accepted, refused}
use Rattle.cells.specs.Rules.{floors_under}
use Rattle.cells.specs.declared.thresholds.Thresholds.{Thresholds}

-- the floors of a rule whose thresholds were set
abbrev pub threshold_floors : Thresholds → ℕ → ℕ
threshold_floors t = floors_under t.reserved t.best_effort

-- setting the thresholds r and b makes a rule with these floors; a threshold above 511 is refused by 10 with its place, r's first
abbrev pub thresholds_set : ℕ → ℕ → Told (ℕ → ℕ)
thresholds_set r b = cond (nat_lt 511 r) (refused 10 0) (cond (nat_lt 511 b) (refused 10 1) (accepted (floors_under r b)))
