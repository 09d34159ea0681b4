use Rattle.std.proofs.Common.{◌≡◌, refl, arith}
use Rattle.egress.proofs.Each.{few_late}
use Rattle.frame.proofs.Ports.{at_place}
use Rattle.frame.specs.Numbers.{port_number}
use Rattle.egress.proofs.Emptied.{emptied_all, emptied_none, emptied_on, in_first_few}
use Rattle.egress.proofs.pools.Pool.end_queues.Goals as goal

pub loop-queue-init : goal.loop-queue-init
loop-queue-init g c = (record { numbers = refl }, emptied_none c.args.self.now.buffers (port_number c.args.port))

pub overflow_add-ended : goal.overflow_add-ended
overflow_add-ended g c =
    omega (arith, c.loop-queue.invariant.1.counted 0, c.loop-queue-test.true, in_first_few c.args.self.now.buffers 0 (port_number c.args.port) c.loop-queue.queue-index, few_late c.loop-queue.self.buffers 0 (port_number c.args.port) _ (c.end_queue-ended.ensures.answer 0))

pub loop-queue-preserved : goal.loop-queue-preserved
loop-queue-preserved g c =
    let queue = at_place c.loop-queue.invariant.0 c.loop-queue.queue-index _ c.loop-queue-test.true in
    (c.loop-queue.invariant.0, emptied_on _ c.end_queue-ended.result c.loop-queue.invariant.1 queue c.end_queue-ended.ensures.answer c.end_queue-ended.ensures.change)

pub returns : goal.returns
returns g c =
    let four : c.loop-queue.queue-index ≡ 4 = omega arith in
    let all = emptied_all c.loop-queue.invariant.1 four in
    record { answer = all.0; change = all.1 }
