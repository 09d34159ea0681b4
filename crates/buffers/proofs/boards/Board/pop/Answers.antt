use Rattle.std.proofs.Common.{arith}
use Rattle.frame.specs.Numbers.{queue_number}
use Rattle.buffers.specs.Lines.{shifted}
use Rattle.buffers.proofs.FourPorts.{line_changed}
use Rattle.buffers.proofs.boards.Board.pop.Goals as goal

pub returns-clause-state : goal.returns-clause-state
returns-clause-state c =
    line_changed c.args.self.now.ports c.index-self-index.result _ _ c.index.ensures (omega arith) (λ l. shifted l (queue_number c.args.queue)) c.pop.new.self c.pop.ensures.state
