use Rattle.std.proofs.Common.{sym}
use Rattle.records.proofs.Places.{length_rows}
use Rattle.records.proofs.openings.RowsExactSizeIterator.len.Goals as goal

pub returns-clause-value : goal.returns-clause-value
returns-clause-value c = sym (length_rows _ _ _)
