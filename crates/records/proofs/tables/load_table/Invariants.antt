use Rattle.std.proofs.Common.{◌≡◌, ◌++◌}
use Rattle.forwarding.specs.AddressTables.{used_rows}
use Rattle.records.specs.Format.{rows_of}
use Rattle.records.specs.Tables.{rows_in}
use Rattle.records.proofs.tables.load_table.Given as goal

-- the rows of the table, and those that are left
abbrev pub invariant-loop-row : goal.invariant-loop-row
invariant-loop-row l =
    (goal.iterator-loop-row).can_next l.row-iterator × (goal.iterator-loop-row).is_finite l.row-iterator × (used_rows l.table ++ rows_in (rows_of l.row-iterator) ≡ rows_in (rows_of l.initial.row-iterator))
