-- Calls and answers as data, in the definition's terms. Assumes nothing.
use Rattle.std.specs.Prelude.{ℕ, List}
use Rattle.frame.specs.Refusals.{told}
use Rattle.rules.specs.Runs as definition
use Rattle.rules.specs.Switch as switch
use Rattle.egress.specs.declared.takings.Taking.{Taking}
use Rattle.switch.specs.Answers as answers
use Rattle.switch.specs.Answers.{numbered, took_by}
use Rattle.switch.specs.declared.calls.Answer.{Answer}
use Rattle.switch.specs.declared.calls.Answer.TheVariants.{Arrived, Ticked, Took, Looked, Returned, Cleared}
use Rattle.switch.specs.declared.calls.Call.{Call}
use Rattle.switch.specs.declared.calls.Call.TheVariants.{Arrive, Tick, Take, Look, Return, Clear}
use Rattle.switch.specs.declared.calls.TicketNumbers.{TicketNumbers}

-- what Take answered, its ticket as numbers
abbrev pub taken : Taking TicketNumbers → switch.Took
taken t = took_by numbered t

-- the call, made with a buffer that holds these bytes; only Look sees it
abbrev pub call_with : Call → List ℕ → definition.Call
call_with (Arrive port frame) buffer = definition.arrive port frame.now
call_with Tick buffer = definition.tick
call_with (Take port) buffer = definition.take port
call_with (Look t) buffer = definition.look (numbered t).port (numbered t).number buffer
call_with (Return t) buffer = definition.return (numbered t).port (numbered t).number
call_with (Clear port) buffer = definition.clear port

-- the answer, where the buffer then holds these bytes
abbrev pub answer_with : Answer → List ℕ → definition.Answer
answer_with (Arrived r) buffer = definition.arrived (told answers.arrived r)
answer_with (Ticked r) buffer = definition.ticked (told answers.ticked r)
answer_with (Took r) buffer = definition.took (told taken r)
answer_with (Looked r) buffer = definition.looked (told (λ n. n) r) buffer
answer_with (Returned r) buffer = definition.returned (told answers.returned r)
answer_with (Cleared r) buffer = definition.cleared (told (λ n. n) r)

-- what a buffer holds after an answer: what Look left there, and else what it held
abbrev pub buffer_after : definition.Answer → List ℕ → List ℕ
buffer_after (definition.arrived t) buffer = buffer
buffer_after (definition.ticked t) buffer = buffer
buffer_after (definition.took t) buffer = buffer
buffer_after (definition.looked t after) buffer = after
buffer_after (definition.returned t) buffer = buffer
buffer_after (definition.cleared t) buffer = buffer
