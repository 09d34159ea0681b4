use Rattle.std.proofs.Common.{ℕ, length}
use Rattle.buffers.specs.Holdings.{egress}
use Rattle.frame.specs.Numbers.{port_number}
use Rattle.egress.proofs.Cuts.{Cut}
use Rattle.egress.proofs.Taken.{Dear}
use Rattle.egress.proofs.pools.Pool.end_overdrawn.Given as goal

-- so many copies of queue 2 are gone, each of which cost too much, and nothing else has changed
abbrev pub invariant-loop-port : goal.invariant-loop-port
invariant-loop-port g l = record {
  gone : Cut l.initial.self.buffers l.self.buffers (port_number l.port) 2 l.overdrawn;
  dear : (d : ℕ) → Dear l.tokens l.overdrawn ((egress d l.initial.self.buffers (port_number l.port)).queue 2);
}

abbrev pub decreases-loop-port : goal.decreases-loop-port
decreases-loop-port g l = length ((egress 0 l.self.buffers (port_number l.port)).queue 2)
