use Rattle.frame.proofs.Ports.{InOrder}
use Rattle.frame.specs.Numbers.{port_number, queue_number}
use Rattle.egress.proofs.Each.{Turned}
use Rattle.egress.proofs.pools.Pool.turn_ports.Given as goal

-- so many ports have had their turn, and nothing else has changed
abbrev pub invariant-loop-port : goal.invariant-loop-port
invariant-loop-port g l =
    InOrder port_number l.port-items
    × Turned l.initial.self.buffers l.self.buffers (queue_number l.queue) l.bucket.rate l.bucket.depth l.port-index l.late
