-- Copies of frames, and what stands at a port that they wait at. Assumes nothing.
use Rattle.std.specs.Prelude.{ℕ, ◌+◌, ◌-◌, min, Bool, false, cond, ◌||◌, List, [], ◌∷◌, ◌++◌, length, Some, None, Option, ◌==◌, nat_lt}
use Rattle.std.specs.Option.{option_to_list}

-- a frame at one port: the number that it was accepted under, its class and its bytes
pub record Copy : Type 0 where
  pub number : ℕ
  pub class : ℕ
  pub bytes : List ℕ

-- what a copy costs of its port's tokens: a reserved frame (class 1) its length, any other nothing
abbrev pub cost : Copy → ℕ
cost c = cond (c.class == 1) (length c.bytes) 0

-- the queue for a class, in a slot in which queue `fill` fills: time-sensitive (3) waits there, best effort (0) in queue 3, clock and reserved (2 and 1) in queue 2
abbrev pub queue_for : ℕ → ℕ → ℕ
queue_for fill class = cond (class == 3) fill (cond (class == 0) 3 2)

-- a port: its four queues, the first to leave first; its tokens; the copy that is out, if any
pub record Egress : Type 0 where
  pub queue : ℕ → List Copy
  pub tokens : ℕ
  pub out : Option Copy

-- f with x at the place p
abbrev pub put : {A : Type 0} → (ℕ → A) → ℕ → A → ℕ → A
put f p x q = cond (q == p) x (f q)

abbrev pub with_queue : Egress → ℕ → List Copy → Egress
with_queue e k cs = record { queue = put e.queue k cs; tokens = e.tokens; out = e.out }

abbrev pub with_tokens : Egress → ℕ → Egress
with_tokens e t = record { queue = e.queue; tokens = t; out = e.out }

abbrev pub with_out : Egress → Option Copy → Egress
with_out e o = record { queue = e.queue; tokens = e.tokens; out = o }

-- a copy laid at the back of queue k
abbrev pub laid : Egress → ℕ → Copy → Egress
laid e k c = with_queue e k (e.queue k ++ c ∷ [])

-- the tokens after a Tick: the rate is added, up to the depth
abbrev pub refilled : ℕ → ℕ → ℕ → ℕ
refilled rate depth tokens = min depth (tokens + rate)

-- the leading copies that cost more than the tokens
abbrev pub too_dear : ℕ → List Copy → List Copy
too_dear t [] = []
too_dear t (c ∷ cs) = cond (nat_lt t (cost c)) (c ∷ too_dear t cs) []

-- the copies behind those
abbrev pub affordable : ℕ → List Copy → List Copy
affordable t [] = []
affordable t (c ∷ cs) = cond (nat_lt t (cost c)) (affordable t cs) (c ∷ cs)

-- what taking does at a port: the copy taken, if any, how many ended as overdrawn, and what is left
pub record Taking : Type 0 where
  pub taken : Option Copy
  pub overdrawn : ℕ
  pub left : Egress

-- a copy that is taken is out
abbrev pub taking : Egress → ℕ → Copy → Taking
taking e n c = record { taken = Some c; overdrawn = n; left = with_out e (Some c) }

-- last comes the first copy of queue 3, if it is open; n copies ended as overdrawn before
abbrev pub take_best_effort : Egress → ℕ → List Copy → Taking
take_best_effort e n [] = record { taken = None; overdrawn = n; left = e }
take_best_effort e n (c ∷ cs) = taking (with_queue e 3 cs) n c

abbrev pub best_effort_part : Bool → Egress → ℕ → Taking
best_effort_part open3 e n = cond open3 (take_best_effort e n (e.queue 3)) (record { taken = None; overdrawn = n; left = e })

-- in queue 2 the leading copies that cost too much have ended; the next one pays its cost and is taken; cs are the copies from that on
abbrev pub take_paid : Bool → Egress → ℕ → List Copy → Taking
take_paid open3 e n [] = best_effort_part open3 (with_queue e 2 []) n
take_paid open3 e n (c ∷ cs) = taking (with_tokens (with_queue e 2 cs) (e.tokens - cost c)) n c

abbrev pub paid_part : Bool → Bool → Egress → Taking
paid_part open2 open3 e = cond open2 (take_paid open3 e (length (too_dear e.tokens (e.queue 2))) (affordable e.tokens (e.queue 2))) (best_effort_part open3 e 0)

-- first of all comes the first copy of the queue k that is sent in this slot
abbrev pub take_sending : ℕ → Bool → Bool → Egress → List Copy → Taking
take_sending k open2 open3 e [] = paid_part open2 open3 e
take_sending k open2 open3 e (c ∷ cs) = taking (with_queue e k cs) 0 c

abbrev pub take_at : ℕ → Bool → Bool → Egress → Taking
take_at k open2 open3 e = take_sending k open2 open3 e (e.queue k)

-- all copies of a port: those queued, and the one out
abbrev pub queued_at : Egress → List Copy
queued_at e = e.queue 0 ++ (e.queue 1 ++ (e.queue 2 ++ e.queue 3))

abbrev pub copies_at : Egress → List Copy
copies_at e = queued_at e ++ option_to_list e.out

-- x is among the numbers
abbrev pub among : ℕ → List ℕ → Bool
among x [] = false
among x (y ∷ ys) = x == y || among x ys

-- how many different numbers there are
abbrev pub distinct : List ℕ → ℕ
distinct [] = 0
distinct (x ∷ xs) = cond (among x xs) 0 1 + distinct xs
