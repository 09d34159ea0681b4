use Rattle.std.proofs.Common.{sym, arith}
use Rattle.frame.proofs.Ports.{weight_out}
use Rattle.frame.proofs.numbers.PortSet.with.Goals as goal

pub invariant_of-result : goal.invariant_of-result
invariant_of-result c =
    record { within = omega (arith, c.weight.ensures.value, weight_out c.args.self.bits c.args.port.number c.args.self.within c.args.port.within (sym c.if-has.ensures)) }
