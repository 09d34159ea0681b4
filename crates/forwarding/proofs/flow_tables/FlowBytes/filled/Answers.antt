use Rattle.forwarding.specs.FlowsLemmas.{all_at}
use Rattle.forwarding.proofs.flow_tables.FlowBytes.filled.Goals as goal

pub returns : goal.returns
returns c = λ i f. all_at 16384 c.args.byte f i
