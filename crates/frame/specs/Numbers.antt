-- The numbers that stand in the types of `numbers`, and which of them there are. Assumes nothing.
use Rattle.std.specs.Prelude.{ℕ, zero, suc, ◌+◌, ◌-◌, ◌*◌, ◌/◌, ◌%◌, ◌^◌, Bool, cond, List, Some, None, Option, ◌==◌, nat_lt, slice_index}
use Rattle.frame.specs.Refusals.{Told, accepted, refused}
use Rattle.frame.specs.declared.numbers.Port.{Port}
use Rattle.frame.specs.declared.numbers.PortSet.{PortSet}
use Rattle.frame.specs.declared.numbers.Queue.{Queue}
use Rattle.frame.specs.declared.numbers.Queue.TheVariants.{Cyclic0, Cyclic1, Paid, BestEffort}
use Rattle.frame.specs.declared.numbers.Slot.{Slot}
use Rattle.frame.specs.declared.numbers.Address.{Address}
use Rattle.frame.specs.declared.numbers.Cell.{Cell}
use Rattle.frame.specs.declared.numbers.CellId.{CellId}

abbrev pub port_number : Port → ℕ
port_number p = p.number

abbrev pub set_bits : PortSet → ℕ
set_bits s = s.bits

abbrev pub queue_number : Queue → ℕ
queue_number Cyclic0 = 0
queue_number Cyclic1 = 1
queue_number Paid = 2
queue_number BestEffort = 3

abbrev pub slot_number : Slot → ℕ
slot_number s = s.number

abbrev pub address_bits : Address → ℕ
address_bits a = a.bits

abbrev pub cell_number : Cell → ℕ
cell_number c = c.number

abbrev pub id_number : CellId → ℕ
id_number i = i.0

-- n, where it lies below the bound
abbrev pub below : ℕ → ℕ → Option ℕ
below bound n = cond (nat_lt n bound) (Some n) None

-- a port above 3 is refused
abbrev pub port_named : ℕ → Told ℕ
port_named n = cond (nat_lt n 4) (accepted n) (refused 1 n)

-- the slot after s; after the last one the slots are used up
abbrev pub slot_after : ℕ → Told ℕ
slot_after s = cond (nat_lt (s + 1) (2 ^ 48)) (accepted (s + 1)) (refused 3 0)

-- port p is in the set s
abbrev pub in_set : ℕ → ℕ → Bool
in_set s p = s / 2 ^ p % 2 == 1

-- the set of all ports but p
abbrev pub others : ℕ → ℕ
others p = 15 - 2 ^ p

-- the set s with port p taken out
abbrev pub without : ℕ → ℕ → ℕ
without s p = cond (in_set s p) (s - 2 ^ p) s

-- the set s with port p put in
abbrev pub with_port : ℕ → ℕ → ℕ
with_port s p = cond (in_set s p) s (s + 2 ^ p)

-- the number whose n bytes stand in bs from place i on, the highest first
abbrev pub number_at : List ℕ → ℕ → ℕ → ℕ
number_at bs i zero = 0
number_at bs i (suc n) = number_at bs i n * 256 + slice_index bs (i + n)
