use Rattle.std.proofs.Common.{[], refl}
use Rattle.lines.specs.Lines.{sent}
use Rattle.rules.specs.Switch.{Ticket}
use Rattle.switch.specs.Answers.{ticket_of}
use Rattle.switch.proofs.Called.{called_look, called_return}
use Rattle.planning.proofs.Performances.{performed_on, performed_one}
use Rattle.planning.specs.declared.sessions.Session.{Session}
use Rattle.planning.proofs.sessions.Session.transmit.Goals as goal

pub returns : goal.returns
returns g c =
    let before = c.args.self.now in
    let t : Ticket = ticket_of c.args.ticket in
    let back = c.return_ticket.ensures in
    let mid : Session g.row.F.Denot = record { switch = before.switch; buffer = c.look.new.buffer } in
    let looked = performed_one g.F.Forwarding.forwards before _ [] mid (called_look before.switch t.port t.number before.buffer) refl c.look.ensures.buffer refl in
    let returned = performed_one g.F.Forwarding.forwards mid _ [] _ (called_return c.return_ticket.result t.port t.number back.answer back.state back.contents back.kept) back.kinds refl refl in
    record {
      answer = λ i. sent (c.port-port.ensures i) (c.number-number.ensures i) c.args.overdrawn;
      performed = performed_on looked returned;
    }
