-- What taking does at a port, step by step, and what is told of it. Assumes nothing.
use Rattle.std.specs.Prelude.{ℕ, ◌-◌, Bool, false, List, [], ◌∷◌, Some, Option, nat_lt}
use Rattle.std.specs.Option.{option_map}
use Rattle.buffers.specs.Sent.{copy_sent, sent}
use Rattle.rules.specs.Copies as definition
use Rattle.rules.specs.Copies.{Copy, Egress, affordable, cost, with_out, with_queue, with_tokens}
use Rattle.buffers.specs.declared.buffers.reads.Sent.{Sent}
use Rattle.egress.specs.declared.takings.Taking.{Taking}

-- number and length of the copy that was taken, and how many ended as overdrawn
abbrev pub seen : Taking Sent → Option (ℕ × ℕ) × ℕ
seen t = (option_map sent t.taken, t.overdrawn)

-- the same of what the definition takes
abbrev pub shows : definition.Taking → Option (ℕ × ℕ) × ℕ
shows t = (option_map copy_sent t.taken, t.overdrawn)

-- the first of these copies costs more than the tokens
abbrev pub is_dear : ℕ → List Copy → Bool
is_dear t [] = false
is_dear t (c ∷ cs) = nat_lt t (cost c)

-- a port without the leading copies of queue 2 that cost too much
abbrev pub unburdened : Egress → Egress
unburdened e = with_queue e 2 (affordable e.tokens (e.queue 2))

-- a port where the first of these copies, which are those of queue 2, has paid and is out
abbrev pub pays : Egress → List Copy → Egress
pays e [] = e
pays e (c ∷ cs) = with_out (with_tokens (with_queue e 2 cs) (e.tokens - cost c)) (Some c)
