-- Changes of the ports one after the other. Assumes nothing.
use Rattle.std.specs.Prelude.{ℕ, cond, [], nat_lt}
use Rattle.frame.specs.Numbers.{in_set}
use Rattle.rules.specs.Copies.{Copy, Egress, laid, refilled, with_queue, with_tokens}

-- the ports, where each port p below n is changed by g p
abbrev pub each_port : (ℕ → Egress → Egress) → ℕ → (ℕ → Egress) → ℕ → Egress
each_port g n ports p = cond (nat_lt p n) (g p (ports p)) (ports p)

-- a port at the turn of a slot: queue k is emptied, and the tokens are refilled
abbrev pub turned : ℕ → ℕ → ℕ → Egress → Egress
turned k rate depth e = with_tokens (with_queue e k []) (refilled rate depth e.tokens)

-- a port with its queues emptied
abbrev pub unqueued : Egress → Egress
unqueued e = record { queue = λ k. []; tokens = e.tokens; out = e.out }

-- port p with a copy laid in queue k, if it is in the set
abbrev pub laid_in : ℕ → ℕ → Copy → ℕ → Egress → Egress
laid_in set k c p e = cond (in_set set p) (laid e k c) e
