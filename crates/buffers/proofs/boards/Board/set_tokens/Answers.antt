use Rattle.std.proofs.Common.{arith}
use Rattle.buffers.specs.Lines.{with_tokens}
use Rattle.buffers.proofs.FourPorts.{line_changed}
use Rattle.buffers.proofs.boards.Board.set_tokens.Goals as goal

pub returns : goal.returns
returns c =
    line_changed c.args.self.now.ports c.index-self-index.result _ _ c.index.ensures (omega arith) (λ l. with_tokens l c.args.tokens) c.set_tokens.new.self c.set_tokens.ensures
