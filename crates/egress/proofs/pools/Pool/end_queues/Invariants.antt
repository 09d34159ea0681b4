use Rattle.frame.proofs.Ports.{InOrder}
use Rattle.frame.specs.Numbers.{port_number, queue_number}
use Rattle.egress.proofs.Emptied.{Emptied}
use Rattle.egress.proofs.pools.Pool.end_queues.Given as goal

-- so many queues are empty, and nothing else has changed
abbrev pub invariant-loop-queue : goal.invariant-loop-queue
invariant-loop-queue g l =
    InOrder queue_number l.queue-items
    × Emptied l.initial.self.buffers l.self.buffers (port_number l.port) l.queue-index l.ended
