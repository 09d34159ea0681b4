use Rattle.std.proofs.Common.{sym, arith}
use Rattle.frame.proofs.Ports.{weight_in}
use Rattle.frame.proofs.numbers.PortSet.without.Goals as goal

pub overflow_sub-result : goal.overflow_sub-result
overflow_sub-result c =
    omega (arith, c.weight.ensures.value, weight_in c.args.self.bits c.args.port.number c.args.port.within (sym c.if-has.ensures))
