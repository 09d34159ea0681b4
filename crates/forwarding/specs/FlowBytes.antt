-- What the memory of a flow table holds. Assumes nothing.
use Rattle.std.specs.Prelude.{ℕ, slice_index}
use Rattle.forwarding.specs.declared.flow_tables.FlowBytes.{FlowBytes}

-- the byte of each flow
abbrev pub flow_byte : FlowBytes → ℕ → ℕ
flow_byte b f = slice_index b.bytes f
