use Rattle.std.proofs.Common.{Ok, Err, refl}
use Rattle.std.proofs.lemmas.Result.{err_from_is_err_and}
use Rattle.planning.proofs.Performances.{performed_clear}
use Rattle.planning.proofs.sessions.Session.clear.Goals as goal

pub returns-in_err-count : goal.returns-in_err-count
returns-in_err-count g c =
    let r = err_from_is_err_and c.from_residual.result c.from_residual.ensures.1 in
    let call = c.in_err-count.ensures in
    rw (r.1, r.2) (performed_clear g.F.Forwarding.forwards c.args.self.now _ c.args.port (Err c.in_err-count.field-0.0) call.answer call.state call.contents call.kept call.kinds refl)

pub returns : goal.returns
returns g c =
    let call = c.in_ok-count.ensures in
    performed_clear g.F.Forwarding.forwards c.args.self.now _ c.args.port (Ok c.in_ok-count.count) call.answer call.state call.contents call.kept call.kinds refl
