use Rattle.std.proofs.Common.{arith}
use Rattle.std.proofs.lemmas.Nat.{one_shl}
use Rattle.frame.proofs.Ports.{weight_small}
use Rattle.frame.proofs.numbers.Port.weight.Goals as goal

pub returns : goal.returns
returns c =
    let w = one_shl c.args.self.number 8 (omega (arith, c.args.self.within)) in
    record { value = w; bound = omega (arith, w, weight_small c.args.self.number c.args.self.within) }
