use Rattle.std.proofs.Common.{ap, arith}
use Rattle.std.proofs.lemmas.Bool.Decides.{nat_tests}
use Rattle.forwarding.proofs.flow_tables.FlowTable.set_flow.Goals as goal

pub invariant_of-self : goal.invariant_of-self
invariant_of-self c = record {
  narrow = λ f.
      let before = c.args.self.now.narrow f in
      let after = ap (λ sets. sets f) c.put.ensures in
      grind (arith, nat_tests);
}
