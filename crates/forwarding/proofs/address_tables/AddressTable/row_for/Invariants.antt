use Rattle.std.proofs.Common.{◌≡◌, false, drop, is_some}
use Rattle.forwarding.specs.AddressTables.{used_rows}
use Rattle.forwarding.specs.Rows.{first_row, first_wrong}
use Rattle.forwarding.proofs.address_tables.AddressTable.row_for.Given as goal

-- the rows that are left decide, and none of them is wrong
abbrev pub invariant-loop-row : goal.invariant-loop-row
invariant-loop-row l =
    record {
      decide : first_row (drop l.row-index l.row-items) l.destination.bits ≡ first_row (used_rows l.self) l.destination.bits;
      right : is_some (first_wrong l.row-index (drop l.row-index l.row-items)) ≡ false;
    }
