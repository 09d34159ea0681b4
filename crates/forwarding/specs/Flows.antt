-- The flows, each with a set of ports. Assumes nothing.
use Rattle.std.specs.Prelude.{ℕ, ◌/◌, ◌%◌, ◌^◌, cond, Some, None, Option, ◌==◌, nat_lt}
use Rattle.frame.specs.Refusals.{Told, accepted, refused}
use Rattle.forwarding.specs.Ways.{Way, formed}

-- the flow of a destination: bits 31 to 44 of its number
abbrev pub flow_of : ℕ → ℕ
flow_of d = d / 2 ^ 31 % 16384

-- the row of a flow by its set; 0 is no row
abbrev pub flow_row : ℕ → Option ℕ
flow_row s = cond (s == 0) None (Some s)

-- the way by the set of each flow
abbrev pub flow_way : (ℕ → ℕ) → ℕ → ℕ → Way
flow_way sets d p = formed (flow_row (sets (flow_of d))) p

-- at first no flow has a row
abbrev pub no_flows : ℕ → ℕ
no_flows f = 0

-- this set for each of the flows
abbrev pub all_flows : ℕ → ℕ → ℕ
all_flows s f = cond (nat_lt f 16384) s 0

-- the sets with this one put in for a flow
abbrev pub with_flow : (ℕ → ℕ) → ℕ → ℕ → ℕ → ℕ
with_flow sets flow s f = cond (f == flow) s (sets f)

-- what setting a flow says, and the sets after it: a flow above 16,383 is refused by place 0, and then a set above 15 by place 1
abbrev pub flow_put : (ℕ → ℕ) → ℕ → ℕ → Told (Unit {0}) × (ℕ → ℕ)
flow_put sets flow s = cond (nat_lt flow 16384) (cond (nat_lt s 16) (accepted tt, with_flow sets flow s) (refused 10 1, sets)) (refused 10 0, sets)
