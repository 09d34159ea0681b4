use Rattle.std.proofs.Common.{None, arith}
use Rattle.buffers.specs.Lines.{with_out}
use Rattle.buffers.proofs.FourPorts.{line_changed}
use Rattle.buffers.proofs.boards.Board.take_out.Goals as goal

pub returns-clause-state : goal.returns-clause-state
returns-clause-state c =
    line_changed c.args.self.now.ports c.index-self-index.result _ _ c.index.ensures (omega arith) (λ l. with_out l None) c.take_out.new.self c.take_out.ensures.state
