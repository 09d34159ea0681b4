use Rattle.std.proofs.Common.{◌<◌, length, sym, ap, arith}
use Rattle.cells.specs.Fifos.{items, rest_of}
use Rattle.cells.specs.Turns.{turn_first}
use Rattle.cells.proofs.Queued.{first_rest, length_items}
use Rattle.cells.proofs.fifos.Fifo.pop.Goals as goal

pub returns : goal.returns
returns g c =
    let q = c.args.self.now in
    let es = c.args.entries.now in
    let some : 0 < q.len = omega (arith, length_items q es (omega arith), ap length (first_rest (items q es) c.in_ok-first.first c.in_ok-first.ensures)) in
    record { answer = c.in_ok-first.ensures; state = sym (ap rest_of (turn_first es (omega arith) c.in_ok-first.first q.head q.len q.within q.few some)) }
