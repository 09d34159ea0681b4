use Rattle.std.proofs.Common.{ap, ◌∙◌, arith}
use Rattle.forwarding.specs.FlowsLemmas.{none_at}
use Rattle.forwarding.proofs.flow_tables.FlowTable.new.Goals as goal

pub invariant_of-result : goal.invariant_of-result
invariant_of-result c = record { narrow = λ f. omega (arith, ap (λ sets. sets f) c.filled.ensures, none_at f) }

pub returns : goal.returns
returns c = c.filled.ensures ∙ (λ i f. none_at f i)
