use Rattle.std.proofs.Common.{◌≡◌, Ok, Err, None, Option, Some, sym, refl, ◌∙◌}
use Rattle.std.proofs.lemmas.Result.{err_from_is_err_and}
use Rattle.frame.specs.Refusals.{Told, accepted, told}
use Rattle.rules.specs.Switch.{Took}
use Rattle.switch.specs.Answers.{ticket_of, took}
use Rattle.switch.specs.declared.tickets.Ticket.{Ticket}
use Rattle.egress.specs.declared.takings.Taking.{Taking}
use Rattle.planning.proofs.Performances.{performed_send, performed_sent, performed_take}
use Rattle.planning.proofs.sessions.Session.send.Goals as goal

pub returns-in_err-taken : goal.returns-in_err-taken
returns-in_err-taken g c =
    let r = err_from_is_err_and c.from_residual.result c.from_residual.ensures.1 in
    let take = c.in_err-taken.ensures in
    rw (r.1, r.2) (performed_send _ c.args.self.now _ c.args.port _ _ take.answer (performed_take g.F.Forwarding.forwards c.args.self.now _ c.args.port (Err c.in_err-taken.field-0.0) take.answer take.state take.contents take.kept take.kinds refl))

-- what Take answered, by what it took
took_as : {t : Told Took} (taking : Taking Ticket) (taken : Option Ticket) → taking.taken ≡ taken → told {T = Taking Ticket} took (Ok taking) ≡ t → accepted (took (record { taken = taken; overdrawn = taking.overdrawn })) ≡ t
took_as taking taken is answer = (λ i. accepted (took (record { taken = sym is i; overdrawn = taking.overdrawn }))) ∙ answer

pub returns-in-None : goal.returns-in-None
returns-in-None g c =
    let take = c.in_ok-taken.ensures in
    let taking : Taking Ticket = record { taken = None; overdrawn = c.in_ok-taken.field-0.overdrawn } in
    let answer = took_as c.in_ok-taken.field-0 None c.in-None.is take.answer in
    performed_send _ c.args.self.now _ c.args.port _ _ answer (performed_take g.F.Forwarding.forwards c.args.self.now _ c.args.port (Ok taking) answer take.state take.contents tt take.kinds refl)

pub returns-in-Some : goal.returns-in-Some
returns-in-Some g c =
    let take = c.in_ok-taken.ensures in
    let ticket = c.in-Some.ticket in
    let overdrawn = c.in_ok-taken.field-0.overdrawn in
    let taking : Taking Ticket = record { taken = Some ticket; overdrawn = overdrawn } in
    let answer = took_as c.in_ok-taken.field-0 (Some ticket) c.in-Some.is take.answer in
    performed_send _ c.args.self.now _ c.args.port _ _ answer
    (performed_sent g.F.Forwarding.forwards c.args.self.now _ _ c.args.port overdrawn (ticket_of ticket) _ take.kinds c.transmit.ensures.answer
    (performed_take g.F.Forwarding.forwards c.args.self.now _ c.args.port (Ok taking) answer take.state take.contents tt take.kinds refl)
    c.transmit.ensures.performed)
