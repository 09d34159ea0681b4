-- The schedule that the planner prints for an input. Assumes nothing.
use Rattle.std.specs.Prelude.{ℕ, cond, List, [], ◌∷◌, ◌++◌, Some, None, Option}
use Rattle.frame.specs.Refusals.{Told, accepted, refused}
use Rattle.lines.specs.Lines as lines
use Rattle.lines.specs.Lines.{Outcome, heading}
use Rattle.records.specs.Format.{Opened, new, arrive, tick, send, clear}
use Rattle.rules.specs.Runs as run
use Rattle.rules.specs.Runs.{Answer, Call, Moment}
use Rattle.rules.specs.Switch.{Ticket}
use Rattle.planning.specs.Records.{Piece, all_calls, asks, behind_of, blank, broken, pieces, state_of, wrong_opening}

-- what an answer came to: what it says, or the number of its refusal
abbrev pub by_answer : {A : Type 0} → (A → Outcome) → Told A → Outcome
by_answer view (accepted x) = view x
by_answer view (refused n v) = lines.refused n

-- Take at a port answered a ticket, or none
abbrev pub by_ticket : ℕ → ℕ → Option Ticket → Outcome
by_ticket port overdrawn None = lines.idle port overdrawn
by_ticket port overdrawn (Some t) = lines.sent t.port t.number overdrawn

-- the port that a call names
abbrev pub port_in : Call → ℕ
port_in (run.arrive port frame) = port
port_in run.tick = 0
port_in (run.take port) = port
port_in (run.look port number buffer) = port
port_in (run.return port number) = port
port_in (run.clear port) = port

-- what a call came to, by its answer; the Look and the Return of a Send have no line of their own
abbrev pub told_by : ℕ → Answer → List Outcome
told_by port (run.arrived t) = by_answer (λ a. lines.laid a.number a.class a.set) t ∷ []
told_by port (run.ticked t) = by_answer (λ a. lines.slot a.slot a.late) t ∷ []
told_by port (run.took t) = by_answer (λ a. by_ticket port a.overdrawn a.ticket) t ∷ []
told_by port (run.looked t buffer) = []
told_by port (run.returned t) = []
told_by port (run.cleared t) = by_answer (λ n. lines.cleared port n) t ∷ []

-- what the calls of a run came to, in their order
abbrev pub outcomes_of : List Moment → List Outcome
outcomes_of [] = []
outcomes_of (m ∷ ms) = told_by (port_in m.call) m.answer ++ outcomes_of ms

-- a broken record has the last line
abbrev pub fault_in : List Piece → List Outcome
fault_in [] = []
fault_in (asks a ∷ ps) = fault_in ps
fault_in (broken place ∷ ps) = lines.fault 12 place ∷ []

-- after a good opening the calls of the other records are made; a refused one ends the schedule
abbrev pub opened_by : Opened → List Piece → List Outcome
opened_by o ps = cond (wrong_opening o) (lines.refused 10 ∷ []) (lines.new ∷ (outcomes_of (run.run (behind_of o) (state_of o) (all_calls (behind_of o) (state_of o) blank ps)) ++ fault_in ps))

-- only an opening is a first record
abbrev pub outcomes : List Piece → List Outcome
outcomes [] = []
outcomes (broken place ∷ ps) = lines.fault 12 place ∷ []
outcomes (asks (new o) ∷ ps) = opened_by o ps
outcomes (asks (arrive port frame) ∷ ps) = []
outcomes (asks tick ∷ ps) = []
outcomes (asks (send port) ∷ ps) = []
outcomes (asks (clear port) ∷ ps) = []

-- the text: the heading, and a line for each record
abbrev pub schedule : List ℕ → List ℕ
schedule bs = heading ++ lines.lines 1 (outcomes (pieces bs))
