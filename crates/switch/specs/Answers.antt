-- What each answer of the switch stands for, and its ticket. Assumes nothing.
use Rattle.std.specs.Prelude.{Bool, ℕ, List, [], ◌∷◌}
use Rattle.std.specs.Option.{option_map}
use Rattle.frame.specs.Classes.{class_number}
use Rattle.frame.specs.Numbers.{port_number, set_bits, slot_number}
use Rattle.rules.specs.Switch as definition
use Rattle.egress.specs.declared.takings.Taking.{Taking}
use Rattle.switch.specs.declared.answers.Arrived.{Arrived}
use Rattle.switch.specs.declared.answers.Gauged.{Gauged}
use Rattle.switch.specs.declared.answers.Returned.{Returned}
use Rattle.switch.specs.declared.answers.Ticked.{Ticked}
use Rattle.switch.specs.declared.calls.TicketNumbers.{TicketNumbers}
use Rattle.switch.specs.declared.tickets.Ticket.{Ticket}

-- the ticket of these numbers
abbrev pub numbered : TicketNumbers → definition.Ticket
numbered t = record { port = t.port; number = t.number.0; length = t.length }

-- a ticket, by its numbers
abbrev pub ticket_of : Ticket → definition.Ticket
ticket_of t = numbered t.numbers

-- it was returned, and only such a ticket may be let go
abbrev pub is_spent : Ticket → Bool
is_spent t = t.spent

-- what Arrive, Tick, Return and Gauge answered
abbrev pub arrived : Arrived → definition.Arrived
arrived a = record { number = a.number.0; class = class_number a.class; set = set_bits a.ports }

abbrev pub ticked : Ticked → definition.Ticked
ticked t = record { slot = slot_number t.slot; late = t.late }

-- what Take answered: what was taken as a ticket, in this view, and how many copies ended as overdrawn
abbrev pub took_by : {T : Type 0} → (T → definition.Ticket) → Taking T → definition.Took
took_by view t = record { ticket = option_map view t.taken; overdrawn = t.overdrawn }

abbrev pub took : Taking Ticket → definition.Took
took t = took_by ticket_of t

abbrev pub returned : Returned → definition.Returned
returned r = record { port = port_number r.port; number = r.number.0 }

abbrev pub gauged : Gauged → definition.Gauged
gauged g = record { tokens = g.tokens; out = option_map (λ n. n.0) g.out }

-- Standing: the lengths of the four queues of each port
abbrev pub standing_row : definition.State → ℕ → List ℕ
standing_row s p = definition.standing s p 0 ∷ definition.standing s p 1 ∷ definition.standing s p 2 ∷ definition.standing s p 3 ∷ []

abbrev pub standing_rows : definition.State → List (List ℕ)
standing_rows s = standing_row s 0 ∷ standing_row s 1 ∷ standing_row s 2 ∷ standing_row s 3 ∷ []
