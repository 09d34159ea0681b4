use Rattle.std.proofs.Common.{ap}
use Rattle.frame.specs.Numbers.{queue_number}
use Rattle.buffers.proofs.Lines.{priced_push}
use Rattle.buffers.proofs.ports.PortRecord.push.Goals as goal

pub returns-in-Paid : goal.returns-in-Paid
returns-in-Paid c = priced_push _ _ _ _ _ _ _ c.args.copy (queue_number c.args.queue) (ap queue_number c.in-Paid.is) c.push-in-Paid.ensures
