use Rattle.std.proofs.Common.{arith}
use Rattle.frame.specs.Numbers.{queue_number}
use Rattle.buffers.specs.Lines.{outed}
use Rattle.buffers.proofs.FourPorts.{line_changed}
use Rattle.buffers.proofs.boards.Board.take.Goals as goal

pub returns : goal.returns
returns c =
    line_changed c.args.self.now.ports c.index-self-index.result _ _ c.index.ensures (omega arith) (λ l. outed l (queue_number c.args.queue)) c.take.new.self c.take.ensures
