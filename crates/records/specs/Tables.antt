-- The rows of an opening record as an address table takes them. Assumes nothing.
use Rattle.std.specs.Prelude.{ℕ, ◌%◌, ◌^◌, ◌<◌, List, map}
use Rattle.std.proofs.Common.{arith}
use Rattle.forwarding.specs.declared.rows.Row.{Row}
use Rattle.frame.specs.declared.numbers.Address.{Address}

-- what is left of a division by 2^48 has at most 48 bits
pub low_bits : (n : ℕ) → n % 2 ^ 48 < 2 ^ 48
low_bits n = omega arith

-- the address of a number, which the six bytes of a row keep below 2^48; of a larger one the lower 48 bits count
abbrev pub address_of : ℕ → Address
address_of n = record { bits = n % 2 ^ 48; within = low_bits n }

-- rows of these addresses and port sets
abbrev pub rows_in : List (ℕ × ℕ) → List Row
rows_in = map (λ r. record { address = address_of r.0; ports = r.1 })
