-- Runs of the switch: any list of calls from any state, with what each call was answered, and how to read it. Assumes nothing.
use Rattle.std.specs.Prelude.{ℕ, zero, suc, ◌+◌, Bool, false, cond, ◌&&◌, List, [], ◌∷◌, is_some, Some, None, Option, ◌==◌, nat_lt, sum_by}
use Rattle.std.specs.Option.{option_to_list}
use Rattle.frame.specs.Numbers.{in_set}
use Rattle.frame.specs.Refusals.{Told, accepted, refused}
use Rattle.rules.specs.Copies.{Copy, queued_at}
use Rattle.rules.specs.Switch.{Behind, State, Arrived, Ticked, Ticket, Took, Returned, arrive_answer, arrive_state, tick_answer, tick_state, take_answer, take_state, look_answer, look_buffer, return_answer, return_state, clear_answer, clear_state}

-- a call: Arrive at a port with a frame's bytes; Tick; Take at a port; Look with a ticket for a port and a frame number into a buffer; Return of such a ticket; Clear of a port. Any numbers may be given
pub data Call : Type 0 where
  arrive : ℕ → List ℕ → Call
  tick : Call
  take : ℕ → Call
  look : ℕ → ℕ → List ℕ → Call
  return : ℕ → ℕ → Call
  clear : ℕ → Call

-- what a call is told; Look's answer has the buffer as it is left
pub data Answer : Type 0 where
  arrived : Told Arrived → Answer
  ticked : Told Ticked → Answer
  took : Told Took → Answer
  looked : Told ℕ → List ℕ → Answer
  returned : Told Returned → Answer
  cleared : Told ℕ → Answer

abbrev pub answer_of : Behind → State → Call → Answer
answer_of b s (arrive p f) = arrived (arrive_answer b s p f)
answer_of b s tick = ticked (tick_answer b s)
answer_of b s (take p) = took (take_answer b s p)
answer_of b s (look p n buffer) = looked (look_answer s p n buffer) (look_buffer s p n buffer)
answer_of b s (return p n) = returned (return_answer s p n)
answer_of b s (clear p) = cleared (clear_answer s p)

abbrev pub state_after : Behind → State → Call → State
state_after b s (arrive p f) = arrive_state b s p f
state_after b s tick = tick_state b s
state_after b s (take p) = take_state b s p
state_after b s (look p n buffer) = s
state_after b s (return p n) = return_state s p n
state_after b s (clear p) = clear_state s p

-- one call of a run: the state it found, its answer, and the state it left
pub record Moment : Type 0 where
  pub before : State
  pub call : Call
  pub answer : Answer
  pub after : State

abbrev pub moment : Behind → State → Call → Moment
moment b s c = record { before = s; call = c; answer = answer_of b s c; after = state_after b s c }

-- the run of these calls from a state, and the state that it ends in
abbrev pub run : Behind → State → List Call → List Moment
run b s [] = []
run b s (c ∷ cs) = moment b s c ∷ run b (state_after b s c) cs

abbrev pub last : Behind → State → List Call → State
last b s [] = s
last b s (c ∷ cs) = last b (state_after b s c) cs

-- what an answer holds: none if the call was another one, or was refused
abbrev pub granted : {A : Type 0} → Told A → Option A
granted (accepted x) = Some x
granted (refused n v) = None

abbrev pub arrived_in : Answer → Option Arrived
arrived_in (arrived t) = granted t
arrived_in (ticked t) = None
arrived_in (took t) = None
arrived_in (looked t buffer) = None
arrived_in (returned t) = None
arrived_in (cleared t) = None

abbrev pub ticked_in : Answer → Option Ticked
ticked_in (arrived t) = None
ticked_in (ticked t) = granted t
ticked_in (took t) = None
ticked_in (looked t buffer) = None
ticked_in (returned t) = None
ticked_in (cleared t) = None

abbrev pub took_in : Answer → Option Took
took_in (arrived t) = None
took_in (ticked t) = None
took_in (took t) = granted t
took_in (looked t buffer) = None
took_in (returned t) = None
took_in (cleared t) = None

abbrev pub ticket_in : Option Took → Option Ticket
ticket_in None = None
ticket_in (Some t) = t.ticket

abbrev pub returned_in : Answer → Option Returned
returned_in (arrived t) = None
returned_in (ticked t) = None
returned_in (took t) = None
returned_in (looked t buffer) = None
returned_in (returned t) = granted t
returned_in (cleared t) = None

abbrev pub cleared_in : Answer → Option ℕ
cleared_in (arrived t) = None
cleared_in (ticked t) = None
cleared_in (took t) = None
cleared_in (looked t buffer) = None
cleared_in (returned t) = None
cleared_in (cleared t) = granted t

-- a total over a list; a test counts as one where it holds
abbrev pub total : {A : Type 0} → (A → ℕ) → List A → ℕ
total f xs = sum_by f xs

abbrev pub bit : Bool → ℕ
bit b = cond b 1 0

abbrev pub count : {A : Type 0} → (A → Bool) → List A → ℕ
count test = total (λ x. bit (test x))

-- the sum over ports, or queues, 0 to 3
abbrev pub sum4 : (ℕ → ℕ) → ℕ
sum4 f = f 0 + f 1 + f 2 + f 3

-- the sum over the numbers below n
abbrev pub sum_below : (ℕ → ℕ) → ℕ → ℕ
sum_below f zero = 0
sum_below f (suc n) = f n + sum_below f n

-- a test holds of what is there
abbrev pub holds : {A : Type 0} → (A → Bool) → Option A → Bool
holds test None = false
holds test (Some x) = test x

-- an amount in what is there
abbrev pub amount : {A : Type 0} → (A → ℕ) → Option A → ℕ
amount f None = 0
amount f (Some x) = f x

-- how often frame n is queued at port p, and how often it is out there
abbrev pub numbered : ℕ → Copy → Bool
numbered n c = c.number == n

abbrev pub queued : ℕ → ℕ → State → ℕ
queued n p s = count (numbered n) (queued_at (s.port p))

abbrev pub out_there : ℕ → ℕ → State → ℕ
out_there n p s = count (numbered n) (option_to_list (s.port p).out)

abbrev pub gone : ℕ → ℕ → State → Bool
gone n p s = queued n p s + out_there n p s == 0

-- what a call did to the copy of frame n at port p, by its answer and the states around it
module _ (n p : ℕ) (m : Moment) where
  -- Arrive answered this number and a set with this port
  abbrev pub lays : Bool
  lays = holds (λ a. (a.number == n) && in_set a.set p) (arrived_in m.answer)

  -- Take answered a ticket for it
  abbrev pub takes : Bool
  takes = holds (λ t. (t.port == p) && t.number == n) (ticket_in (took_in m.answer))

  -- Return accepted a ticket for it
  abbrev pub sends : Bool
  sends = holds (λ r. (r.port == p) && r.number == n) (returned_in m.answer)

  -- it was queued, and after an accepted Tick it is neither queued nor out
  abbrev pub ends_late : Bool
  ends_late = is_some (ticked_in m.answer) && (nat_lt 0 (queued n p m.before) && gone n p m.after)

  -- it was queued, and after an accepted Take it is neither queued nor out
  abbrev pub ends_overdrawn : Bool
  ends_overdrawn = is_some (took_in m.answer) && (nat_lt 0 (queued n p m.before) && gone n p m.after)

  -- it was queued or out, and after an accepted Clear it is neither
  abbrev pub ends_cleared : Bool
  ends_cleared = is_some (cleared_in m.answer) && (nat_lt 0 (queued n p m.before + out_there n p m.before) && gone n p m.after)

-- the slot after a call, by its answer: a Tick answers the slot that begins
abbrev pub slot_told : ℕ → Option Ticked → ℕ
slot_told s None = s
slot_told s (Some t) = t.slot

-- the slot after these moments: the last that was answered, else s
abbrev pub slot_after : ℕ → List Moment → ℕ
slot_after s [] = s
slot_after s (m ∷ ms) = slot_after (slot_told s (ticked_in m.answer)) ms

-- how a frame came: the slot of its Arrive, the class that it answered, and the bytes that it was given
pub record Arrival : Type 0 where
  pub slot : ℕ
  pub class : ℕ
  pub bytes : List ℕ

abbrev pub bytes_in : Call → List ℕ
bytes_in (arrive p f) = f
bytes_in tick = []
bytes_in (take p) = []
bytes_in (look p n buffer) = []
bytes_in (return p n) = []
bytes_in (clear p) = []

abbrev pub arrival_or : Option Arrival → ℕ → ℕ → List ℕ → Option Arrived → Option Arrival
arrival_or later s n f None = later
arrival_or later s n f (Some a) = cond (a.number == n) (Some (record { slot = s; class = a.class; bytes = f })) later

-- the Arrive among these moments that answered number n, if there is one; the first of them is in slot s
abbrev pub arrival : ℕ → ℕ → List Moment → Option Arrival
arrival s n [] = None
arrival s n (m ∷ ms) = arrival_or (arrival (slot_told s (ticked_in m.answer)) n ms) s n (bytes_in m.call) (arrived_in m.answer)
