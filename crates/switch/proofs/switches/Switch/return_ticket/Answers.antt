use Rattle.std.proofs.Common.{◌≡◌, None, ap, ◌∙◌}
use Rattle.buffers.specs.Holdings.{changed}
use Rattle.frame.specs.Numbers.{port_number}
use Rattle.frame.specs.Refusals.{accepted}
use Rattle.rules.specs.Copies.{with_out}
use Rattle.rules.specs.Switch.{Returned, State, Ticket, not_out, return_answer}
use Rattle.rules.proofs.Checks.{leaves_state, one_accepted}
use Rattle.egress.specs.Sendings.{out_at, sending_at}
use Rattle.switch.specs.Answers.{ticket_of}
use Rattle.switch.specs.Switches.{state}
use Rattle.switch.proofs.switches.Switch.return_ticket.Goals as goal

pub returns-clause-state : goal.returns-clause-state
returns-clause-state g c =
    let s : State = state c.args.self.now in
    let t : Ticket = ticket_of c.args.ticket in
    let found = c.in_ok-sending.sending in
    let spent = c.spend-numbers.ensures in
    let told : accepted (port_number found.port, found.length) ≡ sending_at s.port t.port t.number =
    c.in_ok-sending.ensures s.depth ∙ (λ i. sending_at s.port (spent i).port (spent i).number) in
    let here : Returned = record { port = t.port; number = t.number } in
    let is = one_accepted (not_out (out_at s.port t.port t.number) t.port) _ (port_number found.port, found.length) here told in
    let port : port_number found.port ≡ t.port = ap (λ x. x.0) is.1 in
    let out = c.end_out.ensures.change in
    (λ i. record { slot = s.slot; next = out.number i; rate = s.rate; depth = s.depth; port = (out.state s.depth ∙ (λ j. changed s.port (port j) (λ e. with_out e None))) i })
    ∙ leaves_state (return_answer s t.port t.number) here s _ is.2
