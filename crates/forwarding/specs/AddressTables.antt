-- What an address table means, when one is made, and when it takes a row. Assumes nothing.
use Rattle.std.specs.Prelude.{ℕ, cond, List, [], ◌∷◌, ◌++◌, length}
use Rattle.frame.specs.Refusals.{Told, accepted, refused, unless_wrong}
use Rattle.forwarding.specs.Ways.{Way}
use Rattle.forwarding.specs.Rows.{first_wrong, fits_at, table_way}
use Rattle.forwarding.specs.declared.rows.Row.{Row}
use Rattle.forwarding.specs.declared.address_tables.AddressTable.{AddressTable}

-- the rows of a table, in their order
abbrev pub used_rows : AddressTable → List Row
used_rows t = t.rows.items

-- the way of each destination and input port
abbrev pub table_forwards : AddressTable → ℕ → ℕ → Way
table_forwards t = table_way (used_rows t)

-- the table that these rows make forwards by them; the first row that cannot be held is refused
abbrev pub table_loaded : List Row → Told (ℕ → ℕ → Way)
table_loaded rows = unless_wrong (first_wrong 0 rows) (table_way rows)

-- what adding a row says, and the rows after it: it goes behind the others, and where it cannot be held there its place is refused
abbrev pub row_put : List Row → Row → Told (Unit {0}) × List Row
row_put rows row = cond (fits_at (length rows) row) (accepted tt, rows ++ row ∷ []) (refused 10 (length rows), rows)
