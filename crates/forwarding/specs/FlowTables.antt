-- What a flow table means. Assumes nothing.
use Rattle.std.specs.Prelude.{ℕ}
use Rattle.forwarding.specs.Ways.{Way}
use Rattle.forwarding.specs.FlowBytes.{flow_byte}
use Rattle.forwarding.specs.Flows.{flow_way}
use Rattle.forwarding.specs.declared.flow_tables.FlowTable.{FlowTable}

-- the set of each flow
abbrev pub flow_set : FlowTable → ℕ → ℕ
flow_set t = flow_byte t.sets

-- the way of each destination and input port
abbrev pub flow_forwards : FlowTable → ℕ → ℕ → Way
flow_forwards t = flow_way (flow_set t)
