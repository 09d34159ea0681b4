use Rattle.frame.proofs.Ports.{InOrder}
use Rattle.frame.specs.Numbers.{cell_number, port_number, queue_number, set_bits}
use Rattle.egress.proofs.Laid.{Laying}
use Rattle.egress.proofs.layings.lay_copies.Given as goal

abbrev pub invariant-loop-port : goal.invariant-loop-port
invariant-loop-port l =
    InOrder port_number l.port-items
    × Laying l.initial.buffers l.buffers (set_bits l.ports) (queue_number l.queue) (cell_number l.cell) l.port-index
