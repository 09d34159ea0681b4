use Rattle.std.proofs.Common.{◌≡◌, refl, arith}
use Rattle.frame.proofs.Ports.{at_place}
use Rattle.frame.specs.Numbers.{queue_number}
use Rattle.egress.proofs.Each.{few_late, late_few, turned_all, turned_none, turned_on}
use Rattle.egress.proofs.pools.Pool.turn_ports.Goals as goal

pub loop-port-init : goal.loop-port-init
loop-port-init g c = (record { numbers = refl }, turned_none c.args.self.now.buffers (queue_number c.args.queue) c.args.bucket.rate c.args.bucket.depth)

pub overflow_add-late : goal.overflow_add-late
overflow_add-late g c =
    let k = queue_number c.args.queue in
    omega (arith, c.loop-port.invariant.1.counted 0, c.loop-port-test.true, late_few c.args.self.now.buffers 0 k c.loop-port.port-index, few_late c.loop-port.self.buffers 0 _ k (c.turn_port-late.ensures.answer 0))

pub loop-port-preserved : goal.loop-port-preserved
loop-port-preserved g c =
    let port = at_place c.loop-port.invariant.0 c.loop-port.port-index c.port-item.result c.loop-port-test.true in
    (c.loop-port.invariant.0, turned_on _ c.turn_port-late.result c.loop-port.invariant.1 port c.turn_port-late.ensures.answer c.turn_port-late.ensures.change)

pub returns : goal.returns
returns g c =
    let four : c.loop-port.port-index ≡ 4 = omega arith in
    let done = c.loop-port.invariant.1 in
    record { answer = λ d. (turned_all done four d).0; state = λ d. (turned_all done four d).1; number = done.number; contents = done.cells }
