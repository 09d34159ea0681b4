use Rattle.cells.proofs.Drained.{Came}
use Rattle.cells.specs.Stores.{free_count}
use Rattle.cells.proofs.stores.drain.Given as goal

abbrev pub invariant-loop-cell : goal.invariant-loop-cell
invariant-loop-cell g l = let marks = g.S.Store.marks in Came (marks l.initial.store) (marks l.store) l.came

abbrev pub decreases-loop-cell : goal.decreases-loop-cell
decreases-loop-cell g l = free_count (g.S.Store.marks l.store)
