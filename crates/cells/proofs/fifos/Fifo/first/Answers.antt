use Rattle.std.proofs.Common.{sym, ap, arith}
use Rattle.cells.specs.Fifos.{first_of}
use Rattle.cells.specs.Turns.{turn_first}
use Rattle.cells.proofs.fifos.Fifo.first.Goals as goal

pub returns : goal.returns
returns g c =
    let q = c.args.self.now in
    sym (ap first_of (turn_first c.args.entries.now (omega arith) c.index-entries-self.result q.head q.len q.within q.few (omega arith)))
