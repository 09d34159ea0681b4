use Rattle.std.proofs.Common.{sym, arith}
use Rattle.frame.specs.Numbers.{port_number, queue_number}
use Rattle.egress.proofs.Cuts.{cut_all, cut_less, cut_none, cut_on}
use Rattle.buffers.proofs.Lengths.{queue_few}
use Rattle.egress.proofs.pools.Pool.end_queue.Goals as goal

pub loop-port-init : goal.loop-port-init
loop-port-init g c = cut_none c.args.self.now.buffers _ _

pub overflow_add-count : goal.overflow_add-count
overflow_add-count g c =
    omega (arith, c.loop-port.invariant.few 0, queue_few c.args.self.now.buffers 0 (port_number c.args.port) (queue_number c.args.queue))

pub loop-port-smaller : goal.loop-port-smaller
loop-port-smaller g c = cut_less (queue_number c.args.queue) c.end_first.ensures.change 0 (sym (c.loop-port-test.ensures.answer 0))

pub loop-port-preserved : goal.loop-port-preserved
loop-port-preserved g c = cut_on c.loop-port.invariant c.end_first.ensures.change (λ d. sym (c.loop-port-test.ensures.answer d))

pub returns : goal.returns
returns g c =
    let all = cut_all c.loop-port.invariant c.end_first.ensures.change (λ d. sym (c.loop-port-test.ensures.answer d)) in
    record { answer = all.0; change = all.1 }
