use Rattle.std.proofs.Common.{◌≡◌, ◌-◌, ◌≤◌, length}
use Rattle.records.specs.Format.{input_of, place_of}
use Rattle.explain.proofs.explain.Given as goal

-- there were no more records than bytes
abbrev pub invariant-loop-record : goal.invariant-loop-record
invariant-loop-record l =
    record { same : input_of l.cursor ≡ l.input; few : l.count ≤ place_of l.cursor; within : place_of l.cursor ≤ length (input_of l.cursor) }

abbrev pub decreases-loop-record : goal.decreases-loop-record
decreases-loop-record l = length (input_of l.cursor) - place_of l.cursor
