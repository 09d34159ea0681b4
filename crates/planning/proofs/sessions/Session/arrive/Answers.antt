use Rattle.std.proofs.Common.{Ok, Err, refl}
use Rattle.std.proofs.lemmas.Result.{err_from_is_err_and}
use Rattle.planning.proofs.Performances.{performed_arrive}
use Rattle.planning.proofs.sessions.Session.arrive.Goals as goal

pub returns-in_err-number : goal.returns-in_err-number
returns-in_err-number g c =
    let r = err_from_is_err_and c.from_residual.result c.from_residual.ensures.1 in
    let call = c.in_err-number.ensures in
    rw (r.1, r.2) (performed_arrive g.F.Forwarding.forwards c.args.self.now _ c.args.port c.args.frame.now (Err c.in_err-number.field-0.0) call.answer call.state call.contents call.kept call.addressed call.kinds refl)

pub returns : goal.returns
returns g c =
    let call = c.in_ok-number.ensures in
    performed_arrive g.F.Forwarding.forwards c.args.self.now _ c.args.port c.args.frame.now (Ok c.in_ok-number.field-0) call.answer call.state call.contents call.kept call.addressed call.kinds refl
