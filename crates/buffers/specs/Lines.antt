-- A port's line: what stands at a port, as entries. Assumes nothing.
use Rattle.std.specs.Prelude.{ℕ, zero, suc, cond, List, [], ◌∷◌, ◌++◌, map, None, Option, ◌==◌}
use Rattle.rules.specs.Copies.{put}
use Rattle.cells.specs.Fifos.{first_of, rest_of}
use Rattle.buffers.specs.Lanes.{waiting}
use Rattle.buffers.specs.declared.ports.PortRecord.{PortRecord}
use Rattle.buffers.specs.declared.ports.Waiting.{Waiting}

-- the four queues, the first to leave first; what the copies in queue 2 cost; the tokens; the copy that is out
pub record Line : Type 0 where
  pub queue : ℕ → List Waiting
  pub prices : List ℕ
  pub tokens : ℕ
  pub out : Option Waiting

-- the k-th of four lists
abbrev pub by_queue : {A : Type 0} → List A → List A → List A → List A → ℕ → List A
by_queue a b c d zero = a
by_queue a b c d (suc zero) = b
by_queue a b c d (suc (suc zero)) = c
by_queue a b c d (suc (suc (suc zero))) = d
by_queue a b c d (suc (suc (suc (suc k)))) = []

abbrev pub line : PortRecord → Line
line r = record {
  queue = by_queue (waiting r.cyclic0) (waiting r.cyclic1) (map (λ e. e.entry) (waiting r.paid)) (waiting r.best_effort);
  prices = map (λ e. e.cost) (waiting r.paid);
  tokens = r.tokens;
  out = r.out;
}

abbrev pub empty_line : ℕ → Line
empty_line tokens = record { queue = λ k. []; prices = []; tokens = tokens; out = None }

abbrev pub with_tokens : Line → ℕ → Line
with_tokens l t = record { queue = l.queue; prices = l.prices; tokens = t; out = l.out }

abbrev pub with_out : Line → Option Waiting → Line
with_out l o = record { queue = l.queue; prices = l.prices; tokens = l.tokens; out = o }

-- an entry put at the back of queue k, with what it costs there
abbrev pub pushed : Line → ℕ → Waiting → ℕ → Line
pushed l k e x = record { queue = put l.queue k (l.queue k ++ e ∷ []); prices = cond (k == 2) (l.prices ++ x ∷ []) l.prices; tokens = l.tokens; out = l.out }

-- the entry at the front of queue k taken out
abbrev pub shifted : Line → ℕ → Line
shifted l k = record { queue = put l.queue k (rest_of (l.queue k)); prices = cond (k == 2) (rest_of l.prices) l.prices; tokens = l.tokens; out = l.out }

-- and that entry moved out
abbrev pub outed : Line → ℕ → Line
outed l k = with_out (shifted l k) (first_of (l.queue k))
