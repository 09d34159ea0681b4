use Rattle.std.proofs.Common.{length}
use Rattle.buffers.specs.Holdings.{egress}
use Rattle.frame.specs.Numbers.{port_number, queue_number}
use Rattle.egress.proofs.Cuts.{Cut}
use Rattle.egress.proofs.pools.Pool.end_queue.Given as goal

-- so many copies are gone, and nothing else has changed
abbrev pub invariant-loop-port : goal.invariant-loop-port
invariant-loop-port g l = Cut l.initial.self.buffers l.self.buffers (port_number l.port) (queue_number l.queue) l.count

abbrev pub decreases-loop-port : goal.decreases-loop-port
decreases-loop-port g l = length ((egress 0 l.self.buffers (port_number l.port)).queue (queue_number l.queue))
