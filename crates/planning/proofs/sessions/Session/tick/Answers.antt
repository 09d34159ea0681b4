use Rattle.std.proofs.Common.{Ok, Err, refl}
use Rattle.std.proofs.lemmas.Result.{err_from_is_err_and}
use Rattle.planning.proofs.Performances.{performed_tick}
use Rattle.planning.proofs.sessions.Session.tick.Goals as goal

pub returns-in_err-slot : goal.returns-in_err-slot
returns-in_err-slot g c =
    let r = err_from_is_err_and c.from_residual.result c.from_residual.ensures.1 in
    let call = c.in_err-slot.ensures in
    rw (r.1, r.2) (performed_tick g.F.Forwarding.forwards c.args.self.now _ (Err c.in_err-slot.field-0.0) call.answer call.state call.contents call.kept call.kinds refl)

pub returns : goal.returns
returns g c =
    let call = c.in_ok-slot.ensures in
    performed_tick g.F.Forwarding.forwards c.args.self.now _ (Ok c.in_ok-slot.field-0) call.answer call.state call.contents call.kept call.kinds refl
