-- What the records of a planner input stand for: a switch, and calls on it. Assumes nothing.
use Rattle.std.specs.Prelude.{ℕ, zero, suc, ◌+◌, Bool, cond, ◌||◌, List, [], ◌∷◌, ◌++◌, length, replicate, is_some, Some, None, Option, nat_le, nat_lt}
use Rattle.cells.specs.Rules.{floors_under}
use Rattle.forwarding.specs.Rows.{first_wrong, table_way}
use Rattle.forwarding.specs.Ways.{Way, tapped}
use Rattle.frame.specs.Refusals.{Told, accepted, refused}
use Rattle.gates.specs.Parities.{parity_fills, parity_opens}
use Rattle.records.specs.Format.{Asked, Opened, new, arrive, tick, send, clear, place_behind, record_at}
use Rattle.records.specs.Tables.{rows_in}
use Rattle.rules.specs.Runs as run
use Rattle.rules.specs.Runs.{Call, Moment, last, ticket_in, took_in}
use Rattle.rules.specs.Switch.{Behind, State, Ticket, new_state, numbers}
use Rattle.switch.specs.Calls.{buffer_after}

-- an input as the planner goes through it: records one after the other, up to its end or to a broken record, with its place
pub data Piece : Type 0 where
  asks : Asked → Piece
  broken : ℕ → Piece

-- at most n pieces of the input bs, from place p on
abbrev pub piece_or : (ℕ → List Piece) → ℕ → Told (Option Asked) → List Piece
piece_or more behind (accepted None) = []
piece_or more behind (accepted (Some a)) = asks a ∷ more behind
piece_or more behind (refused n v) = broken v ∷ []

abbrev pub pieces_from : ℕ → List ℕ → ℕ → List Piece
pieces_from zero bs p = []
pieces_from (suc n) bs p = piece_or (pieces_from n bs) (place_behind bs p) (record_at bs p)

-- all pieces: an input has fewer records than bytes
abbrev pub pieces : List ℕ → List Piece
pieces bs = pieces_from (length bs + 1) bs 0

-- a way, under the tap layer if there is one
abbrev pub tapped_if : Bool → Way → ℕ → Way
tapped_if t w p = cond t (tapped w p) w

-- the switch that an opening asks for: over parity, thresholds and an address table, under the tap layer if it says so
abbrev pub behind_of : Opened → Behind
behind_of o = record { fill = parity_fills; opens = parity_opens; floor = floors_under o.reserved o.best_effort; forward = λ d p. tapped_if o.tap (table_way (rows_in o.rows) d p) p }

abbrev pub state_of : Opened → State
state_of o = new_state o.slot o.number o.rate o.depth

-- it is refused, by 10: a row that the table cannot hold, a threshold above 511, or a first slot or number above 2^48 - 1
abbrev pub wrong_opening : Opened → Bool
wrong_opening o = is_some (first_wrong 0 (rows_in o.rows)) || (nat_lt 511 o.reserved || (nat_lt 511 o.best_effort || (nat_le numbers o.slot || nat_le numbers o.number)))

-- the calls that a record stands for: a Send is a Take and, if that answers a ticket, a Look and a Return with it; the planner has one buffer, and these are its bytes
abbrev pub with_ticket : Option Ticket → List ℕ → List Call
with_ticket None buffer = []
with_ticket (Some t) buffer = run.look t.port t.number buffer ∷ run.return t.port t.number ∷ []

module _ (b : Behind) where
  abbrev pub calls_of : State → List ℕ → Asked → List Call
  calls_of s buffer (new o) = []
  calls_of s buffer (arrive port frame) = run.arrive port frame ∷ []
  calls_of s buffer tick = run.tick ∷ []
  calls_of s buffer (send port) = run.take port ∷ with_ticket (ticket_in (took_in (run.answer_of b s (run.take port)))) buffer
  calls_of s buffer (clear port) = run.clear port ∷ []

  -- the buffer after these moments: what the last Look left
  abbrev pub buffer_left : List ℕ → List Moment → List ℕ
  buffer_left buffer [] = buffer
  buffer_left buffer (m ∷ ms) = buffer_left (buffer_after m.answer buffer) ms

  -- all calls that the planner makes on a switch in this state
  abbrev pub all_calls : State → List ℕ → List Piece → List Call
  all_calls s buffer [] = []
  all_calls s buffer (broken place ∷ ps) = []
  all_calls s buffer (asks a ∷ ps) = calls_of s buffer a ++ all_calls (last b s (calls_of s buffer a)) (buffer_left buffer (run.run b s (calls_of s buffer a))) ps

-- the planner's buffer at first: zeros, as many as the longest frame has bytes
abbrev pub blank : List ℕ
blank = replicate 1518 0
