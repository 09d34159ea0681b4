-- A frame that is out, as a ticket shows it. Assumes nothing.
use Rattle.std.specs.Prelude.{ℕ, length}
use Rattle.rules.specs.Copies.{Copy}
use Rattle.buffers.specs.declared.buffers.reads.Sent.{Sent}

-- its number and its length
abbrev pub sent : Sent → ℕ × ℕ
sent s = (s.number.0, s.length)

abbrev pub copy_sent : Copy → ℕ × ℕ
copy_sent c = (c.number, length c.bytes)
