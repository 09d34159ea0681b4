use Rattle.std.proofs.Common.{ap, arith}
use Rattle.cells.proofs.Drained.{came_all, came_none}
use Rattle.cells.specs.Marks.{count_cleared}
use Rattle.cells.specs.Stores.{free_count}
use Rattle.cells.proofs.stores.drain.Goals as goal

pub loop-cell-init : goal.loop-cell-init
loop-cell-init g c = came_none (g.S.Store.marks c.args.store.now)

pub loop-cell-smaller : goal.loop-cell-smaller
loop-cell-smaller g c =
    let marks = g.S.Store.marks in
    let granted = c.in-Ok.ensures.answer in
    omega (arith, count_cleared (marks c.loop-cell.store) _ granted.0, ap free_count granted.1)

pub returns-clause-answer : goal.returns-clause-answer
returns-clause-answer g c =
    came_all c.loop-cell.invariant (g.met.S.Store.wide c.args.store.now) c.in_default.ensures.answer.0
