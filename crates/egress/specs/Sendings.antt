-- The copy that a ticket is for. Assumes nothing.
use Rattle.std.specs.Prelude.{ℕ, cond, [], ◌∷◌, length, None, Option, nat_lt}
use Rattle.frame.specs.Numbers.{port_number}
use Rattle.frame.specs.Refusals.{Told}
use Rattle.rules.specs.Copies.{Copy, Egress}
use Rattle.rules.specs.Switch.{if_numbered, judged, not_out, out_bytes}
use Rattle.egress.specs.declared.sendings.Sending.{Sending}

-- the copy of frame n that is out at port p
abbrev pub out_at : (ℕ → Egress) → ℕ → ℕ → Option Copy
out_at ports p n = cond (nat_lt p 4) (if_numbered n (ports p).out) None

-- its port and its length, or refusal 8
abbrev pub sending_at : (ℕ → Egress) → ℕ → ℕ → Told (ℕ × ℕ)
sending_at ports p n = judged (not_out (out_at ports p n) p ∷ []) (p, length (out_bytes (out_at ports p n)))

-- port and length of what was found
abbrev pub sending : Sending → ℕ × ℕ
sending s = (port_number s.port, s.length)
