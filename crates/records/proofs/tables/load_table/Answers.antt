use Rattle.std.proofs.Common.{ap, ◌∙◌}
use Rattle.std.proofs.lemmas.Result.{err_from_is_err_and}
use Rattle.forwarding.specs.AddressTables.{table_loaded, used_rows}
use Rattle.records.specs.Format.{rows_of}
use Rattle.records.specs.Tables.{rows_in}
use Rattle.records.proofs.RowsLemmas.{row_refused, row_taken}
use Rattle.records.proofs.tables.load_table.Goals as goal

pub loop-row-preserved : goal.loop-row-preserved
loop-row-preserved c =
    (tt, tt, row_taken (used_rows c.loop-row.table) c.in-Some.row (rows_of c.loop-row.row-iterator) (rows_of c.next.new.self) _ c.in-Some.ensures.steps c.loop-row.invariant.2 (used_rows c.add.new.self) c.in_ok-add.ensures)

pub returns-in_err-add : goal.returns-in_err-add
returns-in_err-add c =
    let passed = err_from_is_err_and c.from_residual.result c.from_residual.ensures.1 in
    rw (passed.1, passed.2) (row_refused (used_rows c.loop-row.table) c.in-Some.row (rows_of c.loop-row.row-iterator) (rows_of c.next.new.self) _ c.in-Some.ensures.steps c.loop-row.invariant.2 c.loop-row.table.right _ _ _ c.in_err-add.ensures ∙ ap (λ r. table_loaded (rows_in (rows_of r))) c.into_iter-row-iterator.ensures.into_iter_gives)
