use Rattle.std.proofs.Common.{arith}
use Rattle.frame.specs.Numbers.{queue_number}
use Rattle.buffers.specs.Lines.{pushed}
use Rattle.buffers.proofs.FourPorts.{line_changed}
use Rattle.buffers.proofs.boards.Board.push.Goals as goal

pub returns : goal.returns
returns c =
    line_changed c.args.self.now.ports c.index-self-index.result _ _ c.index.ensures (omega arith) (λ l. pushed l (queue_number c.args.queue) c.args.copy.entry c.args.copy.cost) c.push.new.self c.push.ensures
