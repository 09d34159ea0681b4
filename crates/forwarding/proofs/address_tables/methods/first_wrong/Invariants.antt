use Rattle.std.proofs.Common.{◌≡◌, drop}
use Rattle.forwarding.specs.Rows.{first_wrong}
use Rattle.forwarding.proofs.address_tables.methods.first_wrong.Given as goal

abbrev pub invariant-loop-place : goal.invariant-loop-place
invariant-loop-place l = first_wrong l.place (drop l.place l.rows) ≡ first_wrong 0 l.rows
