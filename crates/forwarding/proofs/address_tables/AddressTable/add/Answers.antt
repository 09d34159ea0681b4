use Rattle.std.proofs.Common.{arith}
use Rattle.std.proofs.lemmas.Bool.Decides.{nat_tests}
use Rattle.forwarding.specs.Searches.{wrong_behind}
use Rattle.forwarding.proofs.address_tables.AddressTable.add.Goals as goal

pub invariant_of-self : goal.invariant_of-self
invariant_of-self c = record { right = grind (arith, nat_tests, wrong_behind) }
