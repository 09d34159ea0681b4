-- The switch: its state, and what each call answers and leaves. It knows frames, not cells. Assumes nothing.
use Rattle.std.specs.Prelude.{ℕ, ◌+◌, ◌-◌, ◌^◌, Bool, true, false, cond, not, List, [], ◌∷◌, ◌++◌, map, length, drop, Some, None, Option, ◌==◌, nat_le, nat_lt}
use Rattle.std.specs.Option.{option_map}
use Rattle.cells.specs.Rules.{admitted}
use Rattle.cells.specs.Stores.{cell_count}
use Rattle.forwarding.specs.Ways.{Way, to, unknown, tap}
use Rattle.frame.specs.Frames.{class, destination, fits}
use Rattle.frame.specs.Numbers.{in_set}
use Rattle.frame.specs.Refusals.{Told, accepted, refused}
use Rattle.rules.specs.Copies.{Copy, Egress, Taking, queue_for, put, with_queue, with_tokens, with_out, laid, refilled, take_at, copies_at, distinct}

-- what stands behind the switch, by its meaning: the queue that fills in a slot; whether a queue is open in a slot; the floor of a class; the way of a destination from an input port
pub record Behind : Type 0 where
  pub fill : ℕ → ℕ
  pub opens : ℕ → ℕ → Bool
  pub floor : ℕ → ℕ
  pub forward : ℕ → ℕ → Way

-- the slot, the number for the next frame (2^48 where numbers are used up), the settings, and the four ports
pub record State : Type 0 where
  pub slot : ℕ
  pub next : ℕ
  pub rate : ℕ
  pub depth : ℕ
  pub port : ℕ → Egress

-- how many slots, and how many frame numbers, there are
abbrev pub numbers : ℕ
numbers = 2 ^ 48

-- a check that a call may fail, with what it then says
pub record Check : Type 0 where
  pub fails : Bool
  pub number : ℕ
  pub value : ℕ

-- the first check that fails decides; where none does, the answer stands
abbrev pub judged : {A : Type 0} → List Check → A → Told A
judged [] x = accepted x
judged (c ∷ cs) x = cond c.fails (refused c.number c.value) (judged cs x)

-- an accepted Look shows the frame's bytes f in the buffer, a refused one keeps it
abbrev pub shown : {A : Type 0} → Told A → List ℕ → List ℕ → List ℕ
shown (accepted x) f buffer = f ++ drop (length f) buffer
shown (refused n v) f buffer = buffer

-- an accepted call leaves its state, a refused one the state before
abbrev pub leaves : {A : Type 0} → Told A → State → State → State
leaves (accepted x) before after = after
leaves (refused n v) before after = before

-- New: empty queues, tokens up to the depth, no copy out
abbrev pub empty_port : ℕ → Egress
empty_port depth = record { queue = λ k. []; tokens = depth; out = None }

abbrev pub new_state : ℕ → ℕ → ℕ → ℕ → State
new_state slot number rate depth = record { slot = slot; next = number; rate = rate; depth = depth; port = λ p. empty_port depth }

-- a first slot, or a first number, that is too large is refused
abbrev pub new_checks : ℕ → ℕ → List Check
new_checks slot number = record { fails = nat_le numbers slot; number = 10; value = 0 } ∷ record { fails = nat_le numbers number; number = 10; value = 1 } ∷ []

abbrev pub new_answer : ℕ → ℕ → ℕ → ℕ → Told State
new_answer slot number rate depth = judged (new_checks slot number) (new_state slot number rate depth)

-- the ports 0 to 3
abbrev pub over_ports : {A : Type 0} → (ℕ → List A) → List A
over_ports f = f 0 ++ (f 1 ++ (f 2 ++ f 3))

-- a frame is held while it has a copy queued or out; each frame held takes one cell, and the others are free
abbrev pub all_copies : State → List Copy
all_copies s = over_ports (λ p. copies_at (s.port p))

abbrev pub held : State → ℕ
held s = distinct (map (λ c. c.number) (all_copies s))

abbrev pub free : State → ℕ
free s = cell_count - held s

abbrev pub no_such_port : ℕ → Check
no_such_port p = record { fails = nat_lt 3 p; number = 1; value = p }

-- the way of a frame, seen as a check sees it
abbrev pub is_tap : Way → Bool
is_tap (to set) = false
is_tap unknown = false
is_tap tap = true

abbrev pub is_unknown : Way → Bool
is_unknown (to set) = false
is_unknown unknown = true
is_unknown tap = false

-- the ports that a frame goes to
abbrev pub set_of : Way → ℕ
set_of (to set) = set
set_of unknown = 0
set_of tap = 0

-- what Arrive answers: the number that the frame got, its class, and the set of ports that it goes to
pub record Arrived : Type 0 where
  pub number : ℕ
  pub class : ℕ
  pub set : ℕ

-- what Tick answers: the slot that begins, and how many copies ended late
pub record Ticked : Type 0 where
  pub slot : ℕ
  pub late : ℕ

-- what Take answers: the ticket of the copy that is now out, or none; and how many copies ended as overdrawn
pub record Ticket : Type 0 where
  pub port : ℕ
  pub number : ℕ
  pub length : ℕ

pub record Took : Type 0 where
  pub ticket : Option Ticket
  pub overdrawn : ℕ

-- what Return answers: the port and the number of the frame that was sent
pub record Returned : Type 0 where
  pub port : ℕ
  pub number : ℕ

-- what Gauge answers: the tokens of a port, and the number of the frame that is out there
pub record Gauged : Type 0 where
  pub tokens : ℕ
  pub out : Option ℕ

abbrev pub with_ports : State → (ℕ → Egress) → State
with_ports s ports = record { slot = s.slot; next = s.next; rate = s.rate; depth = s.depth; port = ports }

-- Arrive of the bytes f at port p
module _ (b : Behind) (s : State) (p : ℕ) (f : List ℕ) where
  abbrev pub way_of : Way
  way_of = b.forward (destination f) p

  abbrev pub arrive_checks : List Check
  arrive_checks =
      no_such_port p
      ∷ record { fails = not (fits f); number = 2; value = length f }
      ∷ record { fails = nat_le numbers s.next; number = 3; value = 0 }
      ∷ record { fails = is_tap way_of; number = 4; value = p }
      ∷ record { fails = is_unknown way_of; number = 5; value = p }
      ∷ record { fails = not (admitted (b.floor (class f)) (free s)); number = 6; value = class f }
      ∷ []

  abbrev pub arrive_answer : Told Arrived
  arrive_answer = judged arrive_checks (record { number = s.next; class = class f; set = set_of way_of })

  -- one copy at the back of a queue of each port that the frame goes to
  abbrev pub arrive_port : ℕ → Egress
  arrive_port q = cond (in_set (set_of way_of) q) (laid (s.port q) (queue_for (b.fill s.slot) (class f)) (record { number = s.next; class = class f; bytes = f })) (s.port q)

  abbrev pub arrive_state : State
  arrive_state = leaves arrive_answer s (record { slot = s.slot; next = s.next + 1; rate = s.rate; depth = s.depth; port = arrive_port })

-- Tick: what still waits in the queue that is to fill next was not sent in its slot, and ends late
module _ (b : Behind) (s : State) where
  abbrev pub tick_checks : List Check
  tick_checks = record { fails = nat_le numbers (s.slot + 1); number = 3; value = 0 } ∷ []

  abbrev pub late_copies : ℕ → List Copy
  late_copies p = (s.port p).queue (b.fill (s.slot + 1))

  abbrev pub tick_answer : Told Ticked
  tick_answer = judged tick_checks (record { slot = s.slot + 1; late = length (over_ports late_copies) })

  abbrev pub tick_port : ℕ → Egress
  tick_port p = with_tokens (with_queue (s.port p) (b.fill (s.slot + 1)) []) (refilled s.rate s.depth (s.port p).tokens)

  abbrev pub tick_state : State
  tick_state = leaves tick_answer s (record { slot = s.slot + 1; next = s.next; rate = s.rate; depth = s.depth; port = tick_port })

-- Take at port p
abbrev pub busy : Option Copy → Check
busy None = record { fails = false; number = 7; value = 0 }
busy (Some c) = record { fails = true; number = 7; value = c.number }

module _ (b : Behind) (s : State) (p : ℕ) where
  abbrev pub take_checks : List Check
  take_checks = no_such_port p ∷ busy (s.port p).out ∷ []

  -- the queue that is sent in a slot is, of 0 and 1, the one that does not fill
  abbrev pub port_taking : Taking
  port_taking = take_at (1 - b.fill s.slot) (b.opens s.slot 2) (b.opens s.slot 3) (s.port p)

  abbrev pub take_answer : Told Took
  take_answer = judged take_checks (record { ticket = option_map (λ c. record { port = p; number = c.number; length = length c.bytes }) port_taking.taken; overdrawn = port_taking.overdrawn })

  abbrev pub take_state : State
  take_state = leaves take_answer s (with_ports s (put s.port p port_taking.left))

-- the copy that is out at port p, if it has this number; a port above 3 has none
abbrev pub if_numbered : ℕ → Option Copy → Option Copy
if_numbered n None = None
if_numbered n (Some c) = cond (c.number == n) (Some c) None

abbrev pub out_as : State → ℕ → ℕ → Option Copy
out_as s p n = cond (nat_lt p 4) (if_numbered n (s.port p).out) None

-- Look and Return with a ticket for port p and frame number n; the ticket's length is not looked at
abbrev pub not_out : Option Copy → ℕ → Check
not_out None p = record { fails = true; number = 8; value = p }
not_out (Some c) p = record { fails = false; number = 8; value = p }

abbrev pub out_bytes : Option Copy → List ℕ
out_bytes None = []
out_bytes (Some c) = c.bytes

module _ (s : State) (p n : ℕ) where
  -- Look into a buffer that holds these bytes
  abbrev pub look_answer : List ℕ → Told ℕ
  look_answer buffer =
      let f = out_bytes (out_as s p n) in
      judged (not_out (out_as s p n) p ∷ record { fails = nat_lt (length buffer) (length f); number = 9; value = length f } ∷ []) (length f)

  -- the frame is written to the front of the buffer, and the bytes behind it are kept
  abbrev pub look_buffer : List ℕ → List ℕ
  look_buffer buffer =
      let f = out_bytes (out_as s p n) in
      shown (look_answer buffer) f buffer

  abbrev pub return_answer : Told Returned
  return_answer = judged (not_out (out_as s p n) p ∷ []) (record { port = p; number = n })

  abbrev pub return_state : State
  return_state = leaves return_answer s (with_ports s (put s.port p (with_out (s.port p) None)))

-- Clear: every copy of a port ends, queued or out; its tokens stay
module _ (s : State) (p : ℕ) where
  abbrev pub clear_answer : Told ℕ
  clear_answer = judged (no_such_port p ∷ []) (length (copies_at (s.port p)))

  abbrev pub clear_state : State
  clear_state = leaves clear_answer s (with_ports s (put s.port p (record { queue = λ k. []; tokens = (s.port p).tokens; out = None })))

  abbrev pub gauge_answer : Told Gauged
  gauge_answer = judged (no_such_port p ∷ []) (record { tokens = (s.port p).tokens; out = option_map (λ c. c.number) (s.port p).out })

-- Standing: the length of queue k of port p
abbrev pub standing : State → ℕ → ℕ → ℕ
standing s p k = length ((s.port p).queue k)
